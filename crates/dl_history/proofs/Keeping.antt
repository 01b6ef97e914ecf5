-- What is kept of a download is what its events say, after each event.
use Rattle.std.proofs.Common.{◌≡◌, ℕ, zero, suc, ◌+◌, ◌<◌, ◌≤◌, Bool, true, false, cond, eqb, Option, Some, None, List, [], ◌∷◌, refl, sym, ap, ◌∙◌, subst, inl, inr, arith}
use Rattle.std.specs.Prelude.{◌&&◌, ◌||◌, not, nat_lt, nat_le, All}
use Rattle.std.specs.List.{filter_map, list_any, range_with_len}
use Rattle.std.proofs.lemmas.Bool.Decides.{nat_tests}
use Rattle.dl_kinds.specs.Plan.{piece_of, blocks_of}
use Rattle.dl_kinds.specs.declared.runs.Run.{Run}
use Rattle.piece_table.specs.declared.giver.Giver.{Giver}
use Rattle.piece_table.specs.Changes.{Change, Land, Settle, Clear, MakeSole, is_in, is_present, Source, Absent, Unknown, given, source_of}
use Rattle.dl_kinds.specs.declared.claims.Claim.{Claim}
use Rattle.std.specs.Prelude.{◌-◌, replicate, slice_get, map}
use Rattle.std.proofs.Common.{get_or}
use Rattle.piece_table.specs.Changes.{makes_sole, is_right, sources_of, IsGiver, was_wrong, verdict_on, is_wrong_last}
use Rattle.piece_table.specs.Progress.{piece_part}
use Rattle.piece_table.specs.declared.giver.Giver.TheVariants.{Nobody}
use Rattle.std.proofs.lemmas.List.{length-replicate, get_or-replicate}
use Rattle.std.proofs.lemmas.List.Elements.{All-nil, All-cons}
use Rattle.std.proofs.lemmas.Option.{slice_get_within, get_or_from_slice_get}
use Rattle.dl_kinds.specs.Plan.{pieces_of, IsPlan}
use Rattle.piece_table.specs.Progress.{Progress, IsStart}
use Rattle.piece_table.specs.Steps.{started}
use Rattle.piece_table.specs.Afresh.{IsAfresh, IsWithin, after_changes}
use Rattle.dl_history.proofs.Below.{Below, get_or-row_by, piece_below}
use Rattle.dl_history.proofs.Bools.{and_both, and_left, one_right, true_not_false, zero_left, zero_right}
use Rattle.dl_history.proofs.Early.{below_end, early, opened_by_sole}
use Rattle.dl_history.proofs.Facts.{Facts, facts}
use Rattle.dl_history.proofs.Members.{Has, has_filter}
use Rattle.dl_history.proofs.Sole.{found}
use Rattle.dl_history.proofs.Table.{lost_block, table_says}
use Rattle.dl_history.proofs.TableChanges.{blocks_at_start, changes_of, gone, gone_at}
use Rattle.dl_history.proofs.Whole.{granted_there}
use Rattle.dl_history.specs.OwnEvents.{Checks, Clears, Grants, Halts, Lands, Loses, Opens, OwnEvent, Saves, Settles, Sizes}
use Rattle.dl_history.specs.OwnLegal.{LegalOwn, MayBeLost}
use Rattle.dl_history.specs.PayloadParts.{finding_on, is_landed_in, is_mixed, is_sole_in, is_verified_in, is_wrong_in, source_in}
use Rattle.dl_history.specs.StandingClaims.{blocks_in, first_open_since, granted_claims, is_open_since, is_standing, standing_claims}

-- ---- the table's start, and its changes

abbrev pub verified_at : ℕ → ℕ → List OwnEvent → List Bool
verified_at total len [] = replicate (pieces_of total len) false
verified_at total len (Opens verified blocks now ∷ before) = verified
verified_at total len (Grants claim ∷ before) = verified_at total len before
verified_at total len (Lands id mirror run ∷ before) = verified_at total len before
verified_at total len (Settles piece right giver ∷ before) = verified_at total len before
verified_at total len (Clears piece ∷ before) = verified_at total len before
verified_at total len (Loses id mirror piece mark ∷ before) = verified_at total len before
verified_at total len (Sizes id total' ∷ before) = verified_at total len before
verified_at total len (Saves now ∷ before) = verified_at total len before
verified_at total len (Checks right ∷ before) = verified_at total len before
verified_at total len (Halts ends ∷ before) = verified_at total len before

abbrev pub blocks_at : ℕ → ℕ → List OwnEvent → List Bool
blocks_at total len [] = replicate (blocks_of total len) false
blocks_at total len (Opens verified blocks now ∷ before) = blocks
blocks_at total len (Grants claim ∷ before) = blocks_at total len before
blocks_at total len (Lands id mirror run ∷ before) = blocks_at total len before
blocks_at total len (Settles piece right giver ∷ before) = blocks_at total len before
blocks_at total len (Clears piece ∷ before) = blocks_at total len before
blocks_at total len (Loses id mirror piece mark ∷ before) = blocks_at total len before
blocks_at total len (Sizes id total' ∷ before) = blocks_at total len before
blocks_at total len (Saves now ∷ before) = blocks_at total len before
blocks_at total len (Checks right ∷ before) = blocks_at total len before
blocks_at total len (Halts ends ∷ before) = blocks_at total len before

no_bit : (n p : ℕ) → slice_get (replicate n false) p ≡ Some true → ⊥
no_bit n p h =
    let within = slice_get_within (replicate n false) p true h in
    let v : get_or (replicate n false) p false ≡ true = get_or_from_slice_get (replicate n false) p true false h in
    let w : get_or (replicate n false) p false ≡ false =
    get_or-replicate n p false false (omega (arith, length-replicate n false)) in
    true_not_false (get_or (replicate n false) p false) v w

pub start_legal : (total len : ℕ) (own : List OwnEvent) → LegalOwn total len own
    → IsStart total len (verified_at total len own) (blocks_at total len own)
start_legal total len [] legal =
    record {
      pieces = length-replicate (pieces_of total len) false;
      blocks =
          length-replicate (blocks_of total len) false;
      full = λ p h. absurd (no_bit (pieces_of total len) p h);
    }
start_legal total len (Opens verified blocks now ∷ own) legal = legal.1.start
start_legal total len (Grants cl ∷ own) legal = start_legal total len own legal.0
start_legal total len (Lands c m run ∷ own) legal = start_legal total len own legal.0
start_legal total len (Settles p right giver ∷ own) legal = start_legal total len own legal.0
start_legal total len (Clears p ∷ own) legal = start_legal total len own legal.0
start_legal total len (Loses c m p mark ∷ own) legal = start_legal total len own legal.0
start_legal total len (Sizes c told ∷ own) legal = start_legal total len own legal.0
start_legal total len (Saves now ∷ own) legal = start_legal total len own legal.0
start_legal total len (Checks right ∷ own) legal = start_legal total len own legal.0
start_legal total len (Halts ends ∷ own) legal = start_legal total len own legal.0

same_start : (total len : ℕ) (own : List OwnEvent) (b : ℕ) → b < blocks_of total len
    → get_or (blocks_at total len own) b false ≡ get_or (blocks_at_start own) b false
same_start total len [] b below = get_or-replicate (blocks_of total len) b false false below
same_start total len (Opens verified blocks now ∷ own) b below = refl
same_start total len (Grants cl ∷ own) b below = same_start total len own b below
same_start total len (Lands c m run ∷ own) b below = same_start total len own b below
same_start total len (Settles p right giver ∷ own) b below = same_start total len own b below
same_start total len (Clears p ∷ own) b below = same_start total len own b below
same_start total len (Loses c m p mark ∷ own) b below = same_start total len own b below
same_start total len (Sizes c told ∷ own) b below = same_start total len own b below
same_start total len (Saves now ∷ own) b below = same_start total len own b below
same_start total len (Checks right ∷ own) b below = same_start total len own b below
same_start total len (Halts ends ∷ own) b below = same_start total len own b below

source_start : (len : ℕ) (s s' : List Bool) (changes : List Change) (b : ℕ) → get_or s b false ≡ get_or s' b false
    → source_of len s changes b ≡ source_of len s' changes b
source_start len s s' [] b same = ap (λ (t : Bool). cond t Unknown Absent) same
source_start len s s' (Land run mirror ∷ before) b same = ap (λ (x : Source). cond (is_in b run) (given x mirror) x)
    (source_start len s s' before b same)
source_start len s s' (Settle piece right ∷ before) b same = source_start len s s' before b same
source_start len s s' (Clear piece ∷ before) b same = ap (λ (x : Source). cond (eqb (piece_of len b) piece) Absent x)
    (source_start len s s' before b same)
source_start len s s' (MakeSole piece ∷ before) b same = source_start len s s' before b same

map_twice : (f : ℕ → Source) (xs : List ℕ) → map is_present (map f xs) ≡ map (λ x. is_present (f x)) xs
map_twice f [] = refl
map_twice f (x ∷ xs) = ap (λ (ys : List Bool). is_present (f x) ∷ ys) (map_twice f xs)

gone_one : (total len : ℕ) (t : Bool) (p : ℕ) (xs : List Change) → p < pieces_of total len
    → All (IsWithin total len) xs → All (IsWithin total len) (cond t (Clear p ∷ xs) xs)
gone_one total len true p xs below rest = All-cons (IsWithin total len) (Clear p) xs below rest
gone_one total len false p xs below rest = rest

pub loss_piece : (laws : Below) (total len : ℕ) (own : List OwnEvent) (c m p : ℕ) → IsPlan total len
    → LegalOwn total len own → MayBeLost len own c m p
    → is_sole_in own p ≡ true → p < pieces_of total len
loss_piece laws total len own c m p plan legal may is =
    let lb = lost_block total len own c m p legal may (opened_by_sole total len own p legal is) in
    subst (λ (q : ℕ). q < pieces_of total len) lb.piece_is (piece_below laws total len lb.block plan lb.below)

gone_at_within : (laws : Below) (total len : ℕ) (own : List OwnEvent) → IsPlan total len → Facts total len own
    → (g : Claim) → Has (granted_claims own) g → (o : Option ℕ) → first_open_since own g ≡ o → (xs : List Change)
    → All (IsWithin total len) xs → All (IsWithin total len) (gone_at len own o xs)
gone_at_within laws total len own plan f g hg None is xs rest = rest
gone_at_within laws total len own plan f g hg (Some b) is xs rest =
    let o = found (is_open_since own g) (blocks_in g.run) b is in
    let inside : b < blocks_of total len = let x = f.within g hg in let e =
    below_end b g.run (and_left (is_in b g.run) _ o.1) in omega arith in
    gone_one total len (is_sole_in own (piece_of len b)) (piece_of len b) xs
    (piece_below laws total len b plan inside) rest

-- ---- the changes are of the plan

loss_changes : (total len : ℕ) (own : List OwnEvent) (p : ℕ) (t : Bool) (xs : List Change)
    → (is_sole_in own p ≡ true → p < pieces_of total len)
    → is_sole_in own p ≡ t → All (IsWithin total len) xs → All (IsWithin total len) (cond t (Clear p ∷ xs) xs)
loss_changes total len own p true xs h is rest = All-cons (IsWithin total len) (Clear p) xs (h is) rest
loss_changes total len own p false xs h is rest = rest

verdict_changes : (total len : ℕ) (t : Bool) (p : ℕ) (right : Bool) (xs : List Change) → p < pieces_of total len
    → All (IsWithin total len) xs
    → All (IsWithin total len) (cond t (MakeSole p ∷ Settle p right ∷ xs) (Settle p right ∷ xs))
verdict_changes total len true p right xs below rest =
    All-cons (IsWithin total len) (MakeSole p) (Settle p right ∷ xs) below
    (All-cons (IsWithin total len) (Settle p right) xs below rest)
verdict_changes total len false p right xs below rest = All-cons (IsWithin total len) (Settle p right) xs below rest

gone_within : (laws : Below) (total len : ℕ) (own : List OwnEvent) → IsPlan total len → Facts total len own
    → (gs : List Claim) → ((g : Claim) → Has gs g → Has (granted_claims own) g) → (xs : List Change)
    → All (IsWithin total len) xs → All (IsWithin total len) (gone len own gs xs)
gone_within laws total len own plan f [] sub xs rest = rest
gone_within laws total len own plan f (g ∷ gs) sub xs rest =
    let more = gone_within laws total len own plan f gs (λ x h. sub x (inr h)) xs rest in
    gone_at_within laws total len own plan f g (sub g (inl refl)) (first_open_since own g) refl (gone len own gs xs)
    more

pub run_within : (total len : ℕ) (own : List OwnEvent) → Facts total len own → (g : Claim)
    → Has (granted_claims own) g
    → (run : Run) → 1 ≤ run.count → ((b : ℕ) → is_in b run ≡ true → is_open_since own g b ≡ true)
    → run.first + run.count ≤ blocks_of total len
run_within total len own f g hg run some each =
    let last = run.first + (run.count - 1) in
    let p : nat_le run.first last ≡ true = grind (arith, nat_tests) in
    let q : nat_lt last (run.first + run.count) ≡ true = grind (arith, nat_tests) in
    let o = each last (and_both (nat_le run.first last) (nat_lt last (run.first + run.count)) p q) in
    let e = below_end last g.run (and_left (is_in last g.run) _ o) in
    let w = f.within g hg in
    omega arith

pub changes_within : (laws : Below) (total len : ℕ) (own : List OwnEvent) → IsPlan total len → LegalOwn total len own
    → All (IsWithin total len) (changes_of len own)
changes_within laws total len [] plan legal = All-nil (IsWithin total len)
changes_within laws total len (Opens verified blocks now ∷ own) plan legal = All-nil (IsWithin total len)
changes_within laws total len (Grants cl ∷ own) plan legal = changes_within laws total len own plan legal.0
changes_within laws total len (Lands c m run ∷ own) plan legal =
    let f = facts total len own legal.0 in
    let there = granted_there own c m run legal.1 in
    All-cons (IsWithin total len) (Land run m) (changes_of len own)
    (run_within total len own f legal.1.claim there.0 run legal.1.some legal.1.open_in)
    (changes_within laws total len own plan legal.0)
changes_within laws total len (Settles p right giver ∷ own) plan legal =
    verdict_changes total len (not right && is_mixed giver) p right (changes_of len own) legal.1.within
    (changes_within laws total len own plan legal.0)
changes_within laws total len (Clears p ∷ own) plan legal = All-cons (IsWithin total len) (Clear p)
    (changes_of len own) legal.1.within (changes_within laws total len own plan legal.0)
changes_within laws total len (Loses c m p mark ∷ own) plan legal =
    loss_changes total len own p (is_sole_in own p) (changes_of len own)
    (loss_piece laws total len own c m p plan legal.0 legal.1) refl
    (changes_within laws total len own plan legal.0)
changes_within laws total len (Sizes c told ∷ own) plan legal = changes_within laws total len own plan legal.0
changes_within laws total len (Saves now ∷ own) plan legal = changes_within laws total len own plan legal.0
changes_within laws total len (Checks right ∷ own) plan legal = changes_within laws total len own plan legal.0
changes_within laws total len (Halts ends ∷ own) plan legal =
    gone_within laws total len own plan (facts total len own legal.0) (standing_claims own)
    (λ g h. (has_filter (is_standing own) (granted_claims own) g h).0) (changes_of len own)
    (changes_within laws total len own plan legal.0)

map_map : (total len : ℕ) (own : List OwnEvent)
    → map is_present
    (map (source_of len (blocks_at total len own) (changes_of len own)) (range_with_len 0 (blocks_of total len)))
    ≡ map (λ x. is_present (source_of len (blocks_at total len own) (changes_of len own) x))
    (range_with_len 0 (blocks_of total len))
map_map total len own = map_twice (source_of len (blocks_at total len own) (changes_of len own))
    (range_with_len 0 (blocks_of total len))

-- ---- what a table says that makes these changes

abbrev pub table_at : ℕ → ℕ → List OwnEvent → Progress
table_at total len own = after_changes (started total len (verified_at total len own) (blocks_at total len own))
    (changes_of len own)

pub afresh : (laws : Below) (total len : ℕ) (own : List OwnEvent) → IsPlan total len → LegalOwn total len own
    → IsAfresh total len (verified_at total len own) (blocks_at total len own) (changes_of len own)
    (table_at total len own)
afresh laws total len own plan legal =
    laws.afresh total len (verified_at total len own) (blocks_at total len own) (changes_of len own) plan
    (start_legal total len own legal) (changes_within laws total len own plan legal)

pub rows : (laws : Below) (total len : ℕ) (own : List OwnEvent) → IsPlan total len → LegalOwn total len own → (b : ℕ)
    → b < blocks_of total len
    → get_or (table_at total len own).landed b false ≡ is_landed_in len own b
rows laws total len own plan legal b below =
    ap (λ (xs : List Bool). get_or xs b false) ((afresh laws total len own plan legal).blocks ∙ map_map total len own)
    ∙ get_or-row_by (λ x. is_present (source_of len (blocks_at total len own) (changes_of len own) x))
    (blocks_of total len) b false below
    ∙ ap is_present
    (source_start len (blocks_at total len own) (blocks_at_start own) (changes_of len own) b
    (same_start total len own b below) ∙ table_says total len own legal b below)

-- ---- sole pieces

abbrev pub changed_sole : List Change → ℕ → Bool
changed_sole xs p = list_any (makes_sole p) xs

sole_one : (t : Bool) (q : ℕ) (xs : List Change) (p : ℕ)
    → changed_sole (cond t (Clear q ∷ xs) xs) p ≡ changed_sole xs p
sole_one true q xs p = refl
sole_one false q xs p = refl

sole_at : (len : ℕ) (own : List OwnEvent) (o : Option ℕ) (xs : List Change) (p : ℕ)
    → changed_sole (gone_at len own o xs) p ≡ changed_sole xs p
sole_at len own None xs p = refl
sole_at len own (Some b) xs p = sole_one (is_sole_in own (piece_of len b)) (piece_of len b) xs p

sole_gone : (len : ℕ) (own : List OwnEvent) (gs : List Claim) (xs : List Change) (p : ℕ)
    → changed_sole (gone len own gs xs) p ≡ changed_sole xs p
sole_gone len own [] xs p = refl
sole_gone len own (g ∷ gs) xs p = sole_at len own (first_open_since own g) (gone len own gs xs) p
    ∙ sole_gone len own gs xs p

sole_verdict : (p q : ℕ) (r w : Bool) (xs : List Change) (rest : Bool) → changed_sole xs p ≡ rest
    → changed_sole (cond (not r && w) (MakeSole q ∷ Settle q r ∷ xs) (Settle q r ∷ xs)) p ≡
    (eqb q p && not r && w || rest)
sole_verdict p q true w xs rest same = same ∙ zero_left (eqb q p) w rest
sole_verdict p q false true xs rest same = ap (λ (t : Bool). eqb q p || t) same
    ∙ ap (λ (t : Bool). t || rest) (one_right (eqb q p))
sole_verdict p q false false xs rest same = same ∙ zero_right (eqb q p) rest

pub sole_changes : (total len : ℕ) (own : List OwnEvent) → LegalOwn total len own → (p : ℕ)
    → changed_sole (changes_of len own) p ≡ is_sole_in own p
sole_changes total len [] legal p = refl
sole_changes total len (Opens verified blocks now ∷ own) legal p =
    sym ((early total len own legal.0 legal.1.first).sole p)
sole_changes total len (Grants cl ∷ own) legal p = sole_changes total len own legal.0 p
sole_changes total len (Lands c m run ∷ own) legal p = sole_changes total len own legal.0 p
sole_changes total len (Settles q right giver ∷ own) legal p = sole_verdict p q right (is_mixed giver)
    (changes_of len own) (is_sole_in own p) (sole_changes total len own legal.0 p)
sole_changes total len (Clears q ∷ own) legal p = sole_changes total len own legal.0 p
sole_changes total len (Loses c m q mark ∷ own) legal p = sole_one (is_sole_in own q) q (changes_of len own) p
    ∙ sole_changes total len own legal.0 p
sole_changes total len (Sizes c told ∷ own) legal p = sole_changes total len own legal.0 p
sole_changes total len (Saves now ∷ own) legal p = sole_changes total len own legal.0 p
sole_changes total len (Checks right ∷ own) legal p = sole_changes total len own legal.0 p
sole_changes total len (Halts ends ∷ own) legal p = sole_gone len own (standing_claims own) (changes_of len own) p
    ∙ sole_changes total len own legal.0 p

pub soles : (laws : Below) (total len : ℕ) (own : List OwnEvent) → IsPlan total len → LegalOwn total len own → (p : ℕ)
    → p < pieces_of total len → get_or (table_at total len own).sole p false ≡ is_sole_in own p
soles laws total len own plan legal p below =
    ap (λ (xs : List Bool). get_or xs p false) (afresh laws total len own plan legal).sole
    ∙ get_or-row_by (changed_sole (changes_of len own)) (pieces_of total len) p false below
    ∙ sole_changes total len own legal p

-- ---- verified pieces

abbrev pub changed_right : List Change → ℕ → Bool
changed_right xs p = list_any (is_right p) xs

right_one : (t : Bool) (q : ℕ) (xs : List Change) (p : ℕ)
    → changed_right (cond t (Clear q ∷ xs) xs) p ≡ changed_right xs p
right_one true q xs p = refl
right_one false q xs p = refl

right_at : (len : ℕ) (own : List OwnEvent) (o : Option ℕ) (xs : List Change) (p : ℕ)
    → changed_right (gone_at len own o xs) p ≡ changed_right xs p
right_at len own None xs p = refl
right_at len own (Some b) xs p = right_one (is_sole_in own (piece_of len b)) (piece_of len b) xs p

right_gone : (len : ℕ) (own : List OwnEvent) (gs : List Claim) (xs : List Change) (p : ℕ)
    → changed_right (gone len own gs xs) p ≡ changed_right xs p
right_gone len own [] xs p = refl
right_gone len own (g ∷ gs) xs p = right_at len own (first_open_since own g) (gone len own gs xs) p
    ∙ right_gone len own gs xs p

right_verdict : (t : Bool) (p q : ℕ) (r : Bool) (xs : List Change)
    → changed_right (cond t (MakeSole q ∷ Settle q r ∷ xs) (Settle q r ∷ xs)) p ≡ (eqb q p && r || changed_right xs p)
right_verdict true p q r xs = refl
right_verdict false p q r xs = refl

or_turn : (a b c : Bool) → (a || (b || c)) ≡ (b || (a || c))
or_turn true true c = refl
or_turn true false c = refl
or_turn false b c = refl

or_none : (a b : Bool) → b ≡ false → (a || false) ≡ (a || b)
or_none a b is = rw is refl

pub right_changes : (total len : ℕ) (own : List OwnEvent) → LegalOwn total len own → (p : ℕ) → p < pieces_of total len
    → (get_or (verified_at total len own) p false || changed_right (changes_of len own) p) ≡ is_verified_in own p
right_changes total len [] legal p below =
    ap (λ (t : Bool). t || false) (get_or-replicate (pieces_of total len) p false false below)
right_changes total len (Opens verified blocks now ∷ own) legal p below =
    or_none (get_or verified p false) (is_verified_in own p) ((early total len own legal.0 legal.1.first).verified p)
right_changes total len (Grants cl ∷ own) legal p below = right_changes total len own legal.0 p below
right_changes total len (Lands c m run ∷ own) legal p below = right_changes total len own legal.0 p below
right_changes total len (Settles q right giver ∷ own) legal p below =
    ap (λ (t : Bool). get_or (verified_at total len own) p false || t)
    (right_verdict (not right && is_mixed giver) p q right (changes_of len own))
    ∙ or_turn (get_or (verified_at total len own) p false) (eqb q p && right) (changed_right (changes_of len own) p)
    ∙ ap (λ (t : Bool). eqb q p && right || t) (right_changes total len own legal.0 p below)
right_changes total len (Clears q ∷ own) legal p below = right_changes total len own legal.0 p below
right_changes total len (Loses c m q mark ∷ own) legal p below =
    ap (λ (t : Bool). get_or (verified_at total len own) p false || t)
    (right_one (is_sole_in own q) q (changes_of len own) p) ∙ right_changes total len own legal.0 p below
right_changes total len (Sizes c told ∷ own) legal p below = right_changes total len own legal.0 p below
right_changes total len (Saves now ∷ own) legal p below = right_changes total len own legal.0 p below
right_changes total len (Checks right ∷ own) legal p below = right_changes total len own legal.0 p below
right_changes total len (Halts ends ∷ own) legal p below =
    ap (λ (t : Bool). get_or (verified_at total len own) p false || t)
    (right_gone len own (standing_claims own) (changes_of len own) p)
    ∙ right_changes total len own legal.0 p below

pub verifieds : (laws : Below) (total len : ℕ) (own : List OwnEvent) → IsPlan total len → LegalOwn total len own
    → (p : ℕ) → p < pieces_of total len → get_or (table_at total len own).verified p false ≡ is_verified_in own p
verifieds laws total len own plan legal p below =
    ap (λ (xs : List Bool). get_or xs p false) (afresh laws total len own plan legal).pieces
    ∙ get_or-row_by (λ x. get_or (verified_at total len own) x false || changed_right (changes_of len own) x)
    (pieces_of total len) p false below
    ∙ right_changes total len own legal p below

-- ---- givers

map_same : (f h : ℕ → Source) (a n : ℕ) → ((x : ℕ) → x < a + n → f x ≡ h x)
    → map f (range_with_len a n) ≡ map h (range_with_len a n)
map_same f h a zero same = refl
map_same f h a (suc n) same = rw (same a (omega arith), map_same f h (a + 1) n (λ x below. same x (omega arith))) refl

pub sources : (total len : ℕ) (own : List OwnEvent) → LegalOwn total len own
    → sources_of total len (blocks_at total len own) (changes_of len own) ≡ map (source_in len own)
    (range_with_len 0 (blocks_of total len))
sources total len own legal =
    map_same (source_of len (blocks_at total len own) (changes_of len own)) (source_in len own) 0
    (blocks_of total len)
    (λ x below.
    let in_plan : x < blocks_of total len = omega arith in
    source_start len (blocks_at total len own) (blocks_at_start own) (changes_of len own) x
    (same_start total len own x in_plan) ∙ table_says total len own legal x in_plan)

pub giver_is : (laws : Below) (total len : ℕ) (own : List OwnEvent) → IsPlan total len → LegalOwn total len own
    → (p : ℕ) → p < pieces_of total len
    → IsGiver (piece_part total len (map (source_in len own) (range_with_len 0 (blocks_of total len))) p)
    (get_or (table_at total len own).givers p Nobody)
giver_is laws total len own plan legal p below =
    subst (λ (ss : List Source). IsGiver (piece_part total len ss p)
    (get_or (table_at total len own).givers p Nobody)) (sources total len own legal)
    ((afresh laws total len own plan legal).givers p below)

-- ---- pieces last found wrong

abbrev pub changed_wrong : List Change → ℕ → Bool
changed_wrong xs p = was_wrong xs p

verdicts_one : (t : Bool) (q : ℕ) (xs : List Change) (p : ℕ)
    → filter_map (verdict_on p) (cond t (Clear q ∷ xs) xs) ≡ filter_map (verdict_on p) xs
verdicts_one true q xs p = refl
verdicts_one false q xs p = refl

verdicts_at : (len : ℕ) (own : List OwnEvent) (o : Option ℕ) (xs : List Change) (p : ℕ)
    → filter_map (verdict_on p) (gone_at len own o xs) ≡ filter_map (verdict_on p) xs
verdicts_at len own None xs p = refl
verdicts_at len own (Some b) xs p = verdicts_one (is_sole_in own (piece_of len b)) (piece_of len b) xs p

verdicts_gone : (len : ℕ) (own : List OwnEvent) (gs : List Claim) (xs : List Change) (p : ℕ)
    → filter_map (verdict_on p) (gone len own gs xs) ≡ filter_map (verdict_on p) xs
verdicts_gone len own [] xs p = refl
verdicts_gone len own (g ∷ gs) xs p = verdicts_at len own (first_open_since own g) (gone len own gs xs) p
    ∙ verdicts_gone len own gs xs p

verdicts_mixed : (t : Bool) (q : ℕ) (r : Bool) (xs : List Change) (p : ℕ)
    → filter_map (verdict_on p) (cond t (MakeSole q ∷ Settle q r ∷ xs) (Settle q r ∷ xs)) ≡ filter_map (verdict_on p)
    (Settle q r ∷ xs)
verdicts_mixed true q r xs p = refl
verdicts_mixed false q r xs p = refl

verdicts_next : (t r : Bool) (xs : List Change) (own : List OwnEvent) (p q : ℕ) (giver : Giver) → eqb q p ≡ t
    → filter_map (verdict_on p) xs ≡ filter_map (finding_on p) own
    → filter_map (verdict_on p) (Settle q r ∷ xs) ≡ filter_map (finding_on p) (Settles q r giver ∷ own)
verdicts_next true r xs own p q giver is same = rw is (ap (λ (ys : List Bool). r ∷ ys) same)
verdicts_next false r xs own p q giver is same = rw is same

-- the findings are the table's verdicts
pub verdicts : (total len : ℕ) (own : List OwnEvent) → LegalOwn total len own → (p : ℕ)
    → filter_map (verdict_on p) (changes_of len own) ≡ filter_map (finding_on p) own
verdicts total len [] legal p = refl
verdicts total len (Opens verified blocks now ∷ own) legal p =
    sym ((early total len own legal.0 legal.1.first).findings p)
verdicts total len (Grants cl ∷ own) legal p = verdicts total len own legal.0 p
verdicts total len (Lands c m run ∷ own) legal p = verdicts total len own legal.0 p
verdicts total len (Settles q right giver ∷ own) legal p =
    verdicts_mixed (not right && is_mixed giver) q right (changes_of len own) p
    ∙ verdicts_next (eqb q p) right (changes_of len own) own p q giver refl (verdicts total len own legal.0 p)
verdicts total len (Clears q ∷ own) legal p = verdicts total len own legal.0 p
verdicts total len (Loses c m q mark ∷ own) legal p =
    verdicts_one (is_sole_in own q) q (changes_of len own) p ∙ verdicts total len own legal.0 p
verdicts total len (Sizes c told ∷ own) legal p = verdicts total len own legal.0 p
verdicts total len (Saves now ∷ own) legal p = verdicts total len own legal.0 p
verdicts total len (Checks right ∷ own) legal p = verdicts total len own legal.0 p
verdicts total len (Halts ends ∷ own) legal p =
    verdicts_gone len own (standing_claims own) (changes_of len own) p ∙ verdicts total len own legal.0 p

pub wrongs : (laws : Below) (total len : ℕ) (own : List OwnEvent) → IsPlan total len → LegalOwn total len own
    → (p : ℕ) → p < pieces_of total len
    → get_or (table_at total len own).wrong p false ≡ is_wrong_in own p
wrongs laws total len own plan legal p below =
    ap (λ (xs : List Bool). get_or xs p false) (afresh laws total len own plan legal).wrong
    ∙ get_or-row_by (was_wrong (changes_of len own)) (pieces_of total len) p false below
    ∙ ap is_wrong_last (verdicts total len own legal p)
