-- What a table keeps is what the list of changes says.
use Rattle.std.proofs.Common.{◌≡◌, ◌≢◌, ◌&&◌, ◌||◌, ℕ, ◌+◌, ◌-◌, ◌*◌, ◌<◌, ◌≤◌, Bool, true, false, not, eqb, leb, ltb, cond, Some, None, List, [], ◌∷◌, length, get_or, set, take, drop, map, replicate, refl, sym, ap, ◌∙◌, subst, ⊎_elim, arith}
use Rattle.std.specs.Prelude.{All}
use Rattle.std.specs.List.{AllZip, cons_option, filter_map, list_any, range_with_len}
use Rattle.std.proofs.Math.Bool.{or-true, or-false, and-false}
use Rattle.std.proofs.lemmas.Bool.{cases_eq, eq-eqb, ne_eqb, le-leb, lt-leb, lt-ltb, le-ltb}
use Rattle.std.proofs.lemmas.List.{drop-map, take-map, length-map, length-set, length-replicate, get_or-map, get_or-replicate, get_or_default, get_or-set_same, get_or-set_other, same_lists}
use Rattle.std.proofs.lemmas.List.Elements.{All-head, All-tail}
use Rattle.std.proofs.lemmas.Option.{get_or_from_slice_get}
use Rattle.dl_kinds.specs.Plan.{full_blocks, blocks_of, blocks_of_piece, pieces_of, piece_of, IsPlan}
use Rattle.dl_kinds.specs.declared.runs.Run.{Run}
use Rattle.piece_table.specs.declared.giver.Giver.TheVariants.{Nobody}
use Rattle.piece_table.specs.Afresh.{IsAfresh, IsWithin, after_change, after_changes}
use Rattle.piece_table.specs.Changes.{Change, Land, Settle, Clear, MakeSole, Source, Absent, Unknown, From, IsGiver, given, is_in, is_present, is_right, is_sole, is_verified, is_wrong_last, makes_sole, source_of, verdict_on, was_wrong}
use Rattle.piece_table.specs.Progress.{Progress, IsStart, piece_part, landed_count}
use Rattle.piece_table.specs.Steps.{filled, giver_at_start, givers_after, landed_by, settled, cleared, made_sole, started}
use Rattle.piece_table.proofs.Counts.{count_of}
use Rattle.piece_table.proofs.Givers.{grown, get_or-givers_after, length-givers_after}
use Rattle.piece_table.proofs.Numbers.{numbers_of, part_within, piece_at, place_from, place_within}
use Rattle.piece_table.proofs.Rows.{row_by, get_or-row_by, length-row_by, row_is, row_same, row_set, row_filled}
use Rattle.piece_table.proofs.Sources.{Gains, at_start, gains_given, giver_after_landing, giver_of_start, present_at_start, present_count}
use Rattle.piece_table.proofs.Starting.{giver_there}

-- ---- rows and parts of mapped lists

map_row : {A B : Type 0} (g : A → B) (f : ℕ → A) (n : ℕ) → map g (row_by f n) ≡ row_by (λ k. g (f k)) n
map_row g f n =
    row_is (map g (row_by f n)) (λ k. g (f k)) n (length-map (row_by f n) g ∙ length-row_by f n)
    (λ k d below. get_or-map g (row_by f n) k (f k) d (omega (arith, length-row_by f n)) ∙ ap g (get_or-row_by f n k (f k) below))

part_map : {A B : Type 0} (total len : ℕ) (f : A → B) (xs : List A) (piece : ℕ) → piece_part total len (map f xs) piece ≡ map f (piece_part total len xs piece)
part_map total len f xs piece =
    ap (take (blocks_of_piece total len piece)) (drop-map f (piece * full_blocks len) xs)
    ∙ take-map f (blocks_of_piece total len piece) (drop (piece * full_blocks len) xs)

-- the landed blocks of a piece are those that have a source
count_sources : (total len : ℕ) (landed : List Bool) (f : ℕ → Source) (numbers : List ℕ) (piece : ℕ) → landed ≡ map is_present (map f numbers)
    → landed_count total len landed piece ≡ present_count (map f (piece_part total len numbers piece))
count_sources total len landed f numbers piece is =
    ap (λ row. landed_count total len row piece) is
    ∙ ap count_of (part_map total len is_present (map f numbers) piece ∙ ap (map is_present) (part_map total len f numbers piece))

zip_map : (f h : ℕ → Source) (mirror : ℕ) (ks : List ℕ) → ((k : ℕ) → Gains mirror (f k) (h k)) → AllZip (Gains mirror) (map f ks) (map h ks)
zip_map f h mirror [] gains = tt
zip_map f h mirror (k ∷ ks) gains = (gains k, zip_map f h mirror ks gains)

present_given : (source : Source) (mirror : ℕ) → is_present (given source mirror) ≡ true
present_given Absent mirror = refl
present_given Unknown mirror = refl
present_given (From other) mirror = refl

in_run : (k : ℕ) (run : Run) → run.first ≤ k → k < run.first + run.count → is_in k run ≡ true
in_run k run from before = ap (λ a. a && ltb k (run.first + run.count)) (le-leb run.first k from) ∙ lt-ltb k (run.first + run.count) before

before_run : (k : ℕ) (run : Run) → k < run.first → is_in k run ≡ false
before_run k run less = ap (λ a. a && ltb k (run.first + run.count)) (lt-leb run.first k less)

behind_run : (k : ℕ) (run : Run) → run.first + run.count ≤ k → is_in k run ≡ false
behind_run k run above = ap (λ b. leb run.first k && b) (le-ltb k (run.first + run.count) above) ∙ and-false (leb run.first k)

-- ---- the start

starts : (total len : ℕ) (verified landed : List Bool) → IsStart total len verified landed → IsAfresh total len verified landed [] (started total len verified landed)
starts total len verified landed start =
    let f : ℕ → Source = source_of len landed [] in
    let blocks = blocks_of total len in
    let pieces = pieces_of total len in
    let sources : map at_start landed ≡ row_by f blocks =
    row_is (map at_start landed) f blocks (length-map landed at_start ∙ start.blocks)
    (λ k d below. get_or-map at_start landed k false d (omega (arith, start.blocks))) in
    let none : replicate (length verified) false ≡ row_by (λ k. false) pieces =
    row_is (replicate (length verified) false) (λ k. false) pieces (length-replicate (length verified) false ∙ start.pieces)
    (λ k d below. get_or-replicate (length verified) k false d (omega (arith, start.pieces))) in
    record {
      total_is = refl;
      piece_len_is = refl;
      blocks = row_is landed (λ k. is_present (f k)) blocks start.blocks
          (λ k d below. get_or_default landed k d false (omega (arith, start.blocks)) ∙ sym (present_at_start (get_or landed k false)))
          ∙ sym (map_row is_present f blocks);
      pieces = row_is verified (is_verified verified []) pieces start.pieces
          (λ k d below. get_or_default verified k d false (omega (arith, start.pieces)) ∙ sym (or-false (get_or verified k false)));
      sole = none;
      wrong = none;
      as_many = length-row_by (λ piece. giver_at_start (landed_count total len landed piece)) (length verified) ∙ start.pieces;
      givers = λ piece below.
          let g = giver_there total len verified landed piece (omega (arith, start.pieces)) in
          subst (IsGiver (piece_part total len (row_by f blocks) piece)) (sym (get_or_from_slice_get (started total len verified landed).givers piece _ Nobody g))
          (subst (λ ss. IsGiver (piece_part total len ss piece) (giver_at_start (landed_count total len landed piece))) sources
          (subst (λ ss. IsGiver ss (giver_at_start (landed_count total len landed piece))) (sym (part_map total len at_start landed piece))
          (giver_of_start (piece_part total len landed piece))));
    }

-- ---- a change

lands : (verified landed : List Bool) (before : List Change) (p : Progress) (run : Run) (mirror : ℕ)
    → run.first + run.count ≤ blocks_of p.total p.piece_len → IsAfresh p.total p.piece_len verified landed before p
    → IsAfresh p.total p.piece_len verified landed (Land run mirror ∷ before) (landed_by p run mirror)
lands verified landed before p run mirror within a =
    let f = source_of p.piece_len landed before in
    let h = source_of p.piece_len landed (Land run mirror ∷ before) in
    let blocks = blocks_of p.total p.piece_len in
    let after = filled true run.first run.count p.landed in
    let row : after ≡ map is_present (row_by h blocks) =
    row_filled p.landed (λ k. is_present (f k)) (λ k. is_present (h k)) blocks run.first run.count true (a.blocks ∙ map_row is_present f blocks) within
    (λ k from less. ap (λ b. is_present (cond b (given (f k) mirror) (f k))) (in_run k run from less) ∙ present_given (f k) mirror)
    (λ k below less. ap (λ b. is_present (cond b (given (f k) mirror) (f k))) (before_run k run less))
    (λ k below above. ap (λ b. is_present (cond b (given (f k) mirror) (f k))) (behind_run k run above))
    ∙ sym (map_row is_present h blocks) in
    record {
      total_is = refl;
      piece_len_is = refl;
      blocks = row;
      pieces = a.pieces;
      sole = a.sole;
      wrong = a.wrong;
      as_many = length-givers_after p after mirror ∙ a.as_many;
      givers = λ piece below.
          let numbers = piece_part p.total p.piece_len (range_with_len 0 blocks) piece in
          let old : landed_count p.total p.piece_len p.landed piece ≡ present_count (map f numbers) = count_sources p.total p.piece_len p.landed f (range_with_len 0 blocks) piece a.blocks in
          let new : landed_count p.total p.piece_len after piece ≡ present_count (map h numbers) = count_sources p.total p.piece_len after h (range_with_len 0 blocks) piece row in
          let giver = get_or p.givers piece Nobody in
          let was : IsGiver (map f numbers) giver = subst (λ ss. IsGiver ss giver) (part_map p.total p.piece_len f (range_with_len 0 blocks) piece) (a.givers piece below) in
          let is = giver_after_landing (map f numbers) (map h numbers) giver mirror (zip_map f h mirror numbers (λ k. gains_given mirror (f k) (is_in k run))) was in
          let kept : get_or (givers_after p after mirror) piece Nobody ≡ grown giver (present_count (map f numbers)) (present_count (map h numbers)) mirror =
          get_or-givers_after p after mirror piece Nobody (omega (arith, a.as_many))
          ∙ ap (λ n. grown giver n (landed_count p.total p.piece_len after piece) mirror) old
          ∙ ap (λ n. grown giver (present_count (map f numbers)) n mirror) new in
          subst (IsGiver (piece_part p.total p.piece_len (row_by h blocks) piece)) (sym kept)
          (subst (λ ss. IsGiver ss (grown giver (present_count (map f numbers)) (present_count (map h numbers)) mirror)) (sym (part_map p.total p.piece_len h (range_with_len 0 blocks) piece)) is);
    }

-- a verdict on a piece is the last one on it
wrong_after : (verified landed : List Bool) (before : List Change) (p : Progress) (piece : ℕ) (right : Bool) → piece < pieces_of p.total p.piece_len
    → IsAfresh p.total p.piece_len verified landed before p
    → set p.wrong piece (not right) ≡ row_by (was_wrong (Settle piece right ∷ before)) (pieces_of p.total p.piece_len)
wrong_after verified landed before p piece right within a =
    row_set p.wrong (was_wrong before) (was_wrong (Settle piece right ∷ before)) (pieces_of p.total p.piece_len) piece (not right) a.wrong within
    (ap (λ e. is_wrong_last (cons_option (cond e (Some right) None) (filter_map (verdict_on piece) before))) (eq-eqb piece piece refl))
    (λ k below other. ap (λ e. is_wrong_last (cons_option (cond e (Some right) None) (filter_map (verdict_on k) before))) (ne_eqb piece k (λ is. other (sym is))))

-- lists made by functions that agree are the same
agree : {A : Type 0} (f h : ℕ → A) (ks : List ℕ) → ((k d : ℕ) → k < length ks → h (get_or ks k d) ≡ f (get_or ks k d)) → map f ks ≡ map h ks
agree f h ks same =
    same_lists (map f ks) (map h ks) (length-map ks f ∙ sym (length-map ks h))
    (λ k d below.
    let inside : k < length ks = omega (arith, length-map ks f) in
    get_or-map f ks k 0 d inside ∙ sym (same k 0 inside) ∙ sym (get_or-map h ks k 0 d inside))

-- a piece that is found right is verified from then on, and isn't wrong
settles_right : (verified landed : List Bool) (before : List Change) (p : Progress) (piece : ℕ) → piece < pieces_of p.total p.piece_len
    → IsAfresh p.total p.piece_len verified landed before p
    → IsAfresh p.total p.piece_len verified landed (Settle piece true ∷ before) (settled p piece true)
settles_right verified landed before p piece within a =
    let pieces = pieces_of p.total p.piece_len in
    record {
      total_is = refl;
      piece_len_is = refl;
      blocks = a.blocks;
      pieces = row_set p.verified (is_verified verified before) (is_verified verified (Settle piece true ∷ before)) pieces piece true a.pieces within
          (ap (λ e. get_or verified piece false || (e && true || list_any (is_right piece) before)) (eq-eqb piece piece refl) ∙ or-true (get_or verified piece false))
          (λ k below other. ap (λ e. get_or verified k false || (e && true || list_any (is_right k) before)) (ne_eqb piece k (λ is. other (sym is))));
      sole = a.sole;
      wrong = wrong_after verified landed before p piece true within a;
      as_many = a.as_many;
      givers = a.givers;
    }

-- a piece that is found wrong is wrong until it's found right
settles_wrong : (verified landed : List Bool) (before : List Change) (p : Progress) (piece : ℕ) → piece < pieces_of p.total p.piece_len
    → IsAfresh p.total p.piece_len verified landed before p
    → IsAfresh p.total p.piece_len verified landed (Settle piece false ∷ before) (settled p piece false)
settles_wrong verified landed before p piece within a =
    let pieces = pieces_of p.total p.piece_len in
    record {
      total_is = refl;
      piece_len_is = refl;
      blocks = a.blocks;
      pieces = row_same p.verified (is_verified verified before) (is_verified verified (Settle piece false ∷ before)) pieces a.pieces
          (λ k below. ap (λ e. get_or verified k false || (e || list_any (is_right k) before)) (and-false (eqb piece k)));
      sole = a.sole;
      wrong = wrong_after verified landed before p piece false within a;
      as_many = a.as_many;
      givers = a.givers;
    }

clears : (verified landed : List Bool) (before : List Change) (p : Progress) (piece : ℕ) → 1 ≤ p.piece_len → piece < pieces_of p.total p.piece_len
    → IsAfresh p.total p.piece_len verified landed before p
    → IsAfresh p.total p.piece_len verified landed (Clear piece ∷ before) (cleared p piece)
clears verified landed before p piece some within a =
    let total = p.total in
    let len = p.piece_len in
    let f = source_of len landed before in
    let h = source_of len landed (Clear piece ∷ before) in
    let blocks = blocks_of total len in
    let first = piece * full_blocks len in
    let count = blocks_of_piece total len piece in
    let gone : (k : ℕ) → piece_of len k ≡ piece → h k ≡ Absent = λ k is. ap (λ e. cond e Absent (f k)) (eq-eqb (piece_of len k) piece is) in
    let stays : (k : ℕ) → piece_of len k ≢ piece → h k ≡ f k = λ k other. ap (λ e. cond e Absent (f k)) (ne_eqb (piece_of len k) piece other) in
    let here : (k : ℕ) → first ≤ k → k < first + count → piece_of len k ≡ piece =
    λ k from less.
    let place : first + (k - first) ≡ k = omega arith in
    ap (piece_of len) (sym place) ∙ piece_at total len piece (k - first) (omega arith) in
    record {
      total_is = refl;
      piece_len_is = refl;
      blocks =
          row_filled p.landed (λ k. is_present (f k)) (λ k. is_present (h k)) blocks first count false (a.blocks ∙ map_row is_present f blocks) (part_within total len piece some within)
          (λ k from less. ap is_present (gone k (here k from less)))
          (λ k below less. ap is_present (stays k (λ is. absurd (let from = place_from len k piece is in omega arith))))
          (λ k below above. ap is_present (stays k (λ is. absurd (let before_end = place_within total len k piece some below is within in omega arith))))
          ∙ sym (map_row is_present h blocks);
      pieces = a.pieces;
      sole = a.sole;
      wrong = a.wrong;
      as_many = length-set p.givers piece Nobody ∙ a.as_many;
      givers = λ q below.
          let numbers = piece_part total len (range_with_len 0 blocks) q in
          let part : piece_part total len (row_by h blocks) q ≡ map h numbers = part_map total len h (range_with_len 0 blocks) q in
          subst (λ ss. IsGiver ss (get_or (set p.givers piece Nobody) q Nobody)) (sym part)
          (⊎_elim
          (λ (same : q ≡ piece).
          subst (IsGiver (map h numbers)) (sym (ap (λ n. get_or (set p.givers piece Nobody) n Nobody) same ∙ get_or-set_same p.givers piece Nobody Nobody (omega (arith, a.as_many))))
          (λ k d less.
          let inside : k < length numbers = omega (arith, length-map numbers h) in
          let number = numbers_of total len q k 0 inside in
          get_or-map h numbers k 0 d inside ∙ ap h number.1 ∙ gone (q * full_blocks len + k) (piece_at total len q k number.0 ∙ same)))
          (λ (other : q ≢ piece).
          subst (IsGiver (map h numbers)) (sym (get_or-set_other p.givers piece q Nobody Nobody other))
          (subst (λ ss. IsGiver ss (get_or p.givers q Nobody)) (agree f h numbers
          (λ k d less.
          let number = numbers_of total len q k d less in
          ap h number.1 ∙ stays (q * full_blocks len + k) (λ is. other (sym (piece_at total len q k number.0) ∙ is)) ∙ ap f (sym number.1)))
          (subst (λ ss. IsGiver ss (get_or p.givers q Nobody)) (part_map total len f (range_with_len 0 blocks) q) (a.givers q below))))
          (cases_eq q piece));
    }

makes_it_sole : (verified landed : List Bool) (before : List Change) (p : Progress) (piece : ℕ) → piece < pieces_of p.total p.piece_len
    → IsAfresh p.total p.piece_len verified landed before p
    → IsAfresh p.total p.piece_len verified landed (MakeSole piece ∷ before) (made_sole p piece)
makes_it_sole verified landed before p piece within a =
    record {
      total_is = refl;
      piece_len_is = refl;
      blocks = a.blocks;
      pieces = a.pieces;
      sole = row_set p.sole (is_sole before) (is_sole (MakeSole piece ∷ before)) (pieces_of p.total p.piece_len) piece true a.sole within
          (ap (λ e. e || list_any (makes_sole piece) before) (eq-eqb piece piece refl))
          (λ k below other. ap (λ e. e || list_any (makes_sole k) before) (ne_eqb piece k (λ is. other (sym is))));
      wrong = a.wrong;
      as_many = a.as_many;
      givers = a.givers;
    }

-- ---- all of them

changes_so : (verified landed : List Bool) (before : List Change) (p : Progress) (change : Change) → 1 ≤ p.piece_len → IsWithin p.total p.piece_len change
    → IsAfresh p.total p.piece_len verified landed before p → IsAfresh p.total p.piece_len verified landed (change ∷ before) (after_change p change)
changes_so verified landed before p (Land run mirror) some within a = lands verified landed before p run mirror within a
changes_so verified landed before p (Settle piece true) some within a = settles_right verified landed before p piece within a
changes_so verified landed before p (Settle piece false) some within a = settles_wrong verified landed before p piece within a
changes_so verified landed before p (Clear piece) some within a = clears verified landed before p piece some within a
changes_so verified landed before p (MakeSole piece) some within a = makes_it_sole verified landed before p piece within a

changes : (total len : ℕ) (verified landed : List Bool) (before : List Change) (p : Progress) (change : Change) → 1 ≤ len → IsWithin total len change
    → IsAfresh total len verified landed before p → IsAfresh total len verified landed (change ∷ before) (after_change p change)
changes total len verified landed before p change some within a =
    let here : IsAfresh p.total p.piece_len verified landed before p =
    subst (λ t. IsAfresh t p.piece_len verified landed before p) (sym a.total_is) (subst (λ l. IsAfresh total l verified landed before p) (sym a.piece_len_is) a) in
    let done = changes_so verified landed before p change
    (subst (λ l. 1 ≤ l) (sym a.piece_len_is) some)
    (subst (λ t. IsWithin t p.piece_len change) (sym a.total_is) (subst (λ l. IsWithin total l change) (sym a.piece_len_is) within)) here in
    subst (λ t. IsAfresh t len verified landed (change ∷ before) (after_change p change)) a.total_is
    (subst (λ l. IsAfresh p.total l verified landed (change ∷ before) (after_change p change)) a.piece_len_is done)

pub kept_afresh : (total len : ℕ) (verified landed : List Bool) (list : List Change) → IsPlan total len → IsStart total len verified landed → All (IsWithin total len) list
    → IsAfresh total len verified landed list (after_changes (started total len verified landed) list)
kept_afresh total len verified landed [] plan start within = starts total len verified landed start
kept_afresh total len verified landed (change ∷ before) plan start within =
    changes total len verified landed before (after_changes (started total len verified landed) before) change plan.some
    (All-head (IsWithin total len) change before within)
    (kept_afresh total len verified landed before plan start (All-tail (IsWithin total len) change before within))
