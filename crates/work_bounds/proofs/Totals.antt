-- All events of a download, and how many they are at most.
use Rattle.std.proofs.Common.{◌≡◌, ◌⊎◌, ℕ, suc, ◌+◌, ◌*◌, ◌<◌, ◌≤◌, max, Bool, true, false, cond, eqb, List, [], ◌∷◌, length, refl, ap, ◌∙◌, inl, inr, ⊎_elim, arith}
use Rattle.std.specs.Prelude.{◌&&◌}
use Rattle.std.proofs.lemmas.Bool.{cases_Bool, cases_lt}
use Rattle.std.proofs.lemmas.Nat.{mul-le}
use Rattle.dl_kinds.proofs.Cuts.{blocks_many, piece_within}
use Rattle.dl_kinds.specs.Plan.{blocks_of, pieces_of}
use Rattle.dl_history.proofs.Members.{Has}
use Rattle.dl_history.proofs.Table.{lost_block}
use Rattle.dl_history.specs.OwnEvents.{Checks, Clears, Grants, Halts, Lands, Loses, Opens, OwnEvent, Saves, Settles, Sizes}
use Rattle.dl_history.specs.PayloadParts.{is_opened, is_sole_in, is_verified_in, told_total}
use Rattle.std.specs.Option.{is_some}
use Rattle.work_bounds.proofs.ClaimCounts.{claims_by_ends, is_loss, lost_marks, one_bit, told_once}
use Rattle.work_bounds.proofs.EventKinds.{changes, early_kinds, is_saving, kinds, opened_once, piece_kinds, saves_fit}
use Rattle.work_bounds.proofs.Findings.{clears_fit, losses, marks_of_piece, mixed_few, right_once, rights, wrongs}
use Rattle.work_bounds.proofs.Landings.{few_landings_in_all, first_lands, is_landing}
use Rattle.work_bounds.proofs.MarkSums.{few_blamed, few_early, few_marks, lost_mark}
use Rattle.work_bounds.proofs.Ordered.{Ordered, earlier}
use Rattle.work_bounds.proofs.Pauses.{halts, pauses}
use Rattle.work_bounds.proofs.Tallies.{few_long, tally}
use Rattle.work_bounds.specs.SavesDue.{SavesHaveNews, may_change_listing}
use Rattle.work_bounds.specs.WorkLimits.{clears_piece, is_check}

-- ---- findings, clearings and losses by their pieces

-- each finding and clearing twice, and each loss thrice: so often they count with the saves that they call for
abbrev pub weighed : List OwnEvent → List ℕ
weighed [] = []
weighed (Opens verified blocks now ∷ before) = weighed before
weighed (Grants claim ∷ before) = weighed before
weighed (Lands id mirror run ∷ before) = weighed before
weighed (Settles piece right giver ∷ before) = piece ∷ piece ∷ weighed before
weighed (Clears piece ∷ before) = piece ∷ piece ∷ weighed before
weighed (Loses id mirror piece mark ∷ before) = piece ∷ piece ∷ piece ∷ weighed before
weighed (Sizes id total ∷ before) = weighed before
weighed (Saves now ∷ before) = weighed before
weighed (Checks right ∷ before) = weighed before
weighed (Halts ends ∷ before) = weighed before

weight_is : (own : List OwnEvent) → length (weighed own) ≡ 2 * piece_kinds own + 3 * tally is_loss own
weight_is [] = refl
weight_is (Opens verified blocks now ∷ before) = weight_is before
weight_is (Grants claim ∷ before) = weight_is before
weight_is (Lands id mirror run ∷ before) = weight_is before
weight_is (Settles piece right giver ∷ before) = let w = weight_is before in omega arith
weight_is (Clears piece ∷ before) = let w = weight_is before in omega arith
weight_is (Loses id mirror piece mark ∷ before) = let w = weight_is before in omega arith
weight_is (Sizes id total ∷ before) = weight_is before
weight_is (Saves now ∷ before) = weight_is before
weight_is (Checks right ∷ before) = weight_is before
weight_is (Halts ends ∷ before) = weight_is before

abbrev weight_at : List OwnEvent → ℕ → ℕ
weight_at own p = tally (λ x. eqb x p) (weighed own)

-- what counts of a piece
abbrev counts_at : List OwnEvent → ℕ → ℕ
counts_at own p = 2 * (wrongs own p + rights own p) + 2 * tally (clears_piece p) own + 3 * losses own p

right_weight : (t : Bool) (n w r c l : ℕ) → n ≡ 2 * (w + r) + 2 * c + 3 * l
    → cond t (suc (cond t (suc n) n)) (cond t (suc n) n) ≡ 2 * (w + cond t (suc r) r) + 2 * c + 3 * l
right_weight true n w r c l is = omega arith
right_weight false n w r c l is = is

wrong_weight : (t : Bool) (n w r c l : ℕ) → n ≡ 2 * (w + r) + 2 * c + 3 * l
    → cond t (suc (cond t (suc n) n)) (cond t (suc n) n) ≡ 2 * (cond t (suc w) w + r) + 2 * c + 3 * l
wrong_weight true n w r c l is = omega arith
wrong_weight false n w r c l is = is

clear_weight : (t : Bool) (n w r c l : ℕ) → n ≡ 2 * (w + r) + 2 * c + 3 * l
    → cond t (suc (cond t (suc n) n)) (cond t (suc n) n) ≡ 2 * (w + r) + 2 * cond t (suc c) c + 3 * l
clear_weight true n w r c l is = omega arith
clear_weight false n w r c l is = is

loss_weight : (t : Bool) (n w r c l : ℕ) → n ≡ 2 * (w + r) + 2 * c + 3 * l
    → cond t (suc (cond t (suc (cond t (suc n) n)) (cond t (suc n) n))) (cond t (suc (cond t (suc n) n)) (cond t
    (suc n) n))
    ≡ 2 * (w + r) + 2 * c + 3 * cond t (suc l) l
loss_weight true n w r c l is = omega arith
loss_weight false n w r c l is = is

weight_so : (own : List OwnEvent) (p : ℕ) → weight_at own p ≡ counts_at own p
weight_so [] p = refl
weight_so (Opens verified blocks now ∷ own) p = weight_so own p
weight_so (Grants cl ∷ own) p = weight_so own p
weight_so (Lands c m run ∷ own) p = weight_so own p
weight_so (Settles q true giver ∷ own) p =
    right_weight (eqb q p) (weight_at own p) (wrongs own p) (rights own p) (tally (clears_piece p) own) (losses own p)
    (weight_so own p)
weight_so (Settles q false giver ∷ own) p =
    wrong_weight (eqb q p) (weight_at own p) (wrongs own p) (rights own p) (tally (clears_piece p) own) (losses own p)
    (weight_so own p)
weight_so (Clears q ∷ own) p =
    clear_weight (eqb q p) (weight_at own p) (wrongs own p) (rights own p) (tally (clears_piece p) own) (losses own p)
    (weight_so own p)
weight_so (Loses c m q mark ∷ own) p =
    loss_weight (eqb q p) (weight_at own p) (wrongs own p) (rights own p) (tally (clears_piece p) own) (losses own p)
    (weight_so own p)
weight_so (Sizes c told ∷ own) p = weight_so own p
weight_so (Saves now ∷ own) p = weight_so own p
weight_so (Checks right ∷ own) p = weight_so own p
weight_so (Halts ends ∷ own) p = weight_so own p

few_at : (total len mirrors tries : ℕ) (own : List OwnEvent) → Ordered total len mirrors tries own → (p : ℕ)
    → weight_at own p ≤ 5 * (mirrors * tries) + 6
few_at total len mirrors tries own o p =
    let is = weight_so own p in
    let m = (marks_of_piece total len mirrors tries own o p).all in
    let l = (marks_of_piece total len mirrors tries own o p).lost in
    let x = mixed_few total len mirrors tries own o p in
    let xb = one_bit (is_sole_in own p) in
    let r = right_once total len own o.legal p in
    let rb = one_bit (is_verified_in own p) in
    let c = (clears_fit total len own o.legal p).few in
    let b = few_blamed total len mirrors tries own o p in
    omega arith

twice_within : (q x n : ℕ) (xs : List ℕ) → q < n → (Has xs x → x < n) → (q ≡ x) ⊎ ((q ≡ x) ⊎ Has xs x) → x < n
twice_within q x n xs below rest (inl is) = omega arith
twice_within q x n xs below rest (inr (inl is)) = omega arith
twice_within q x n xs below rest (inr (inr has)) = rest has

weighed_within : (total len mirrors tries : ℕ) (own : List OwnEvent) → Ordered total len mirrors tries own → (x : ℕ)
    → Has (weighed own) x → x < max (pieces_of total len) 1
weighed_within total len mirrors tries [] o x has = absurd has
weighed_within total len mirrors tries (Opens verified blocks now ∷ own) o x has =
    weighed_within total len mirrors tries own (earlier total len mirrors tries (Opens verified blocks now) own o) x has
weighed_within total len mirrors tries (Grants cl ∷ own) o x has =
    weighed_within total len mirrors tries own (earlier total len mirrors tries (Grants cl) own o) x has
weighed_within total len mirrors tries (Lands c m run ∷ own) o x has =
    weighed_within total len mirrors tries own (earlier total len mirrors tries (Lands c m run) own o) x has
weighed_within total len mirrors tries (Settles q right giver ∷ own) o x has =
    let w = o.legal.1.within in
    twice_within q x (max (pieces_of total len) 1) (weighed own) (omega arith)
    (weighed_within total len mirrors tries own (earlier total len mirrors tries (Settles q right giver) own o) x) has
weighed_within total len mirrors tries (Clears q ∷ own) o x has =
    let w = o.legal.1.within in
    twice_within q x (max (pieces_of total len) 1) (weighed own) (omega arith)
    (weighed_within total len mirrors tries own (earlier total len mirrors tries (Clears q) own o) x) has
weighed_within total len mirrors tries (Loses c m q mark ∷ own) o x has =
    let w = (lost_mark total len mirrors tries own c m q mark o).within in
    ⊎_elim
    (λ (is : q ≡ x). omega arith)
    (λ (rest : (q ≡ x) ⊎ ((q ≡ x) ⊎ Has (weighed own) x)).
    twice_within q x (max (pieces_of total len) 1) (weighed own) w
    (weighed_within total len mirrors tries own (earlier total len mirrors tries (Loses c m q mark) own o) x) rest)
    has
weighed_within total len mirrors tries (Sizes c told ∷ own) o x has =
    weighed_within total len mirrors tries own (earlier total len mirrors tries (Sizes c told) own o) x has
weighed_within total len mirrors tries (Saves now ∷ own) o x has =
    weighed_within total len mirrors tries own (earlier total len mirrors tries (Saves now) own o) x has
weighed_within total len mirrors tries (Checks right ∷ own) o x has =
    weighed_within total len mirrors tries own (earlier total len mirrors tries (Checks right) own o) x has
weighed_within total len mirrors tries (Halts ends ∷ own) o x has =
    weighed_within total len mirrors tries own (earlier total len mirrors tries (Halts ends) own o) x has

few_weighed : (total len mirrors tries : ℕ) (own : List OwnEvent) → Ordered total len mirrors tries own
    → length (weighed own) ≤ max (pieces_of total len) 1 * (5 * (mirrors * tries) + 6)
few_weighed total len mirrors tries own o =
    few_long (λ (x : ℕ). x) (max (pieces_of total len) 1) (5 * (mirrors * tries) + 6) (weighed own)
    (weighed_within total len mirrors tries own o)
    (λ k below. few_at total len mirrors tries own o k)

-- ---- changes

grown : (t : Bool) (n : ℕ) → cond t (suc n) n ≤ suc n
grown true n = omega arith
grown false n = omega arith

and_off : (t : Bool) → (t && false) ≡ false
and_off true = refl
and_off false = refl

-- another event is none
unchanged : (own : List OwnEvent) (e : OwnEvent) → may_change_listing e ≡ false → changes (e ∷ own) ≡ changes own
unchanged own e off =
    ap (λ (t : Bool). cond (is_opened own && t) (suc (changes own)) (changes own)) off
    ∙ ap (λ (t : Bool). cond t (suc (changes own)) (changes own)) (and_off (is_opened own))

no_change : (own : List OwnEvent) (e : OwnEvent) → may_change_listing e ≡ false → {n : ℕ} → changes own ≤ n
    → changes (e ∷ own) ≤ n
no_change own e off {n} le = let u = unchanged own e off in omega arith

-- each is one of these
changes_few : (own : List OwnEvent)
    → changes own ≤ tally is_landing own + piece_kinds own + tally is_loss own + halts own
changes_few [] = omega arith
changes_few (Opens verified blocks now ∷ own) = no_change own (Opens verified blocks now) refl (changes_few own)
changes_few (Grants cl ∷ own) = no_change own (Grants cl) refl (changes_few own)
changes_few (Lands c m run ∷ own) =
    let c = changes_few own in let g = grown (is_opened own && true) (changes own) in omega arith
changes_few (Settles q right giver ∷ own) =
    let c = changes_few own in let g = grown (is_opened own && true) (changes own) in omega arith
changes_few (Clears q ∷ own) =
    let c = changes_few own in let g = grown (is_opened own && true) (changes own) in omega arith
changes_few (Loses c m q mark ∷ own) =
    let c = changes_few own in let g = grown (is_opened own && true) (changes own) in omega arith
changes_few (Sizes c told ∷ own) = no_change own (Sizes c told) refl (changes_few own)
changes_few (Saves now ∷ own) = no_change own (Saves now) refl (changes_few own)
changes_few (Checks right ∷ own) = no_change own (Checks right) refl (changes_few own)
changes_few (Halts ends ∷ own) =
    let c = changes_few own in let g = grown (is_opened own && true) (changes own) in omega arith

-- of a download without pieces only halts are, and no piece is found or cleared
pub record HasNoPieces (own : List OwnEvent) : Type 0 where
  pub pieces : piece_kinds own ≡ 0
  pub changes_are : changes own ≤ halts own

early_off : (t : Bool) (n h : ℕ) → (t ≡ true → ⊥) → n ≤ h → cond (t && true) (suc n) n ≤ h
early_off true n h never le = absurd (never refl)
early_off false n h never le = le

pub no_pieces : (total len mirrors tries : ℕ) (own : List OwnEvent) → Ordered total len mirrors tries own
    → pieces_of total len ≡ 0 → HasNoPieces own
no_pieces total len mirrors tries [] o none = record { pieces = refl; changes_are = omega arith }
no_pieces total len mirrors tries (Opens verified blocks now ∷ own) o none =
    let h = no_pieces total len mirrors tries own (earlier total len mirrors tries
    (Opens verified blocks now) own o) none in
    record { pieces = h.pieces; changes_are = no_change own (Opens verified blocks now) refl h.changes_are }
no_pieces total len mirrors tries (Grants cl ∷ own) o none =
    let h = no_pieces total len mirrors tries own (earlier total len mirrors tries (Grants cl) own o) none in
    record { pieces = h.pieces; changes_are = no_change own (Grants cl) refl h.changes_are }
no_pieces total len mirrors tries (Lands c m run ∷ own) o none =
    let h = no_pieces total len mirrors tries own (earlier total len mirrors tries (Lands c m run) own o) none in
    record {
      pieces = h.pieces;
      changes_are = early_off (is_opened own) (changes own) (halts own)
          (λ opened.
          let first = first_lands total len own c m run o.legal.0 o.legal.1 in
          let w = piece_within total len run.first (o.plan opened).some first.below in
          absurd (omega arith))
          h.changes_are;
    }
no_pieces total len mirrors tries (Settles q right giver ∷ own) o none =
    let w = o.legal.1.within in absurd (omega arith)
no_pieces total len mirrors tries (Clears q ∷ own) o none = let w = o.legal.1.within in absurd (omega arith)
no_pieces total len mirrors tries (Loses c m q mark ∷ own) o none =
    let h = no_pieces total len mirrors tries own (earlier total len mirrors tries (Loses c m q mark) own o) none in
    record {
      pieces = h.pieces;
      changes_are = early_off (is_opened own) (changes own) (halts own)
          (λ opened.
          let lb = lost_block total len own c m q o.legal.0 o.legal.1 opened in
          let w = piece_within total len lb.block (o.plan opened).some lb.below in
          absurd (omega arith))
          h.changes_are;
    }
no_pieces total len mirrors tries (Sizes c told ∷ own) o none =
    let h = no_pieces total len mirrors tries own (earlier total len mirrors tries (Sizes c told) own o) none in
    record { pieces = h.pieces; changes_are = no_change own (Sizes c told) refl h.changes_are }
no_pieces total len mirrors tries (Saves now ∷ own) o none =
    let h = no_pieces total len mirrors tries own (earlier total len mirrors tries (Saves now) own o) none in
    record { pieces = h.pieces; changes_are = no_change own (Saves now) refl h.changes_are }
no_pieces total len mirrors tries (Checks right ∷ own) o none =
    let h = no_pieces total len mirrors tries own (earlier total len mirrors tries (Checks right) own o) none in
    record { pieces = h.pieces; changes_are = no_change own (Checks right) refl h.changes_are }
no_pieces total len mirrors tries (Halts ends ∷ own) o none =
    let h = no_pieces total len mirrors tries own (earlier total len mirrors tries (Halts ends) own o) none in
    let c = h.changes_are in
    let g = grown (is_opened own && true) (changes own) in
    record { pieces = h.pieces; changes_are = omega arith }

-- ---- all events

abbrev EventsFit : (total len mirrors tries : ℕ) → List OwnEvent → Type 0
EventsFit total len mirrors tries own =
    length own
    ≤ 8 * (blocks_of total len * (mirrors * tries + 2 + pauses own)) + 2 * (mirrors * tries) + 4 + pauses own
    + (2 * halts own + tally is_check own)

-- what holds at any time: the claims by their ends, the one opening and the one telling
events_by_kinds : (total len mirrors tries : ℕ) (own : List OwnEvent) → Ordered total len mirrors tries own
    → length own
    ≤ 2 * tally is_landing own + piece_kinds own + 2 * tally is_loss own + 4 + pauses own + tally is_saving own
    + tally is_check own + halts own
events_by_kinds total len mirrors tries own o =
    let k = kinds own in
    let c = claims_by_ends total len mirrors tries own o in
    let p = opened_once total len own o.legal in
    let pb = one_bit (is_opened own) in
    let t = told_once total len own o.legal in
    let tb = one_bit (is_some (told_total own)) in
    omega arith

early_events : (total len mirrors tries : ℕ) (own : List OwnEvent) → Ordered total len mirrors tries own
    → is_opened own ≡ false → EventsFit total len mirrors tries own
early_events total len mirrors tries own o un =
    let e = early_kinds total len own o.legal un in
    let a = e.landings in
    let b = e.pieces in
    let c = e.saves in
    let k = events_by_kinds total len mirrors tries own o in
    let m = few_early total len mirrors tries own o un in
    let l = lost_marks own in
    omega arith

single : (n : ℕ) → max 0 1 * n ≡ n
single n = omega arith

five_times : (a b : ℕ) → a * (5 * b) ≡ 5 * (a * b)
five_times a b = omega arith

-- landings, findings, clearings and losses, and the saves that they call for
sum_fits : (all lands pieces lost k saves checks h x w : ℕ)
    → all ≤ 2 * lands + pieces + 2 * lost + 4 + k + saves + checks + h
    → saves ≤ lands + pieces + lost + h → lands ≤ x → 2 * pieces + 3 * lost ≤ 5 * x
    → all ≤ 8 * x + 2 * w + 4 + k + (2 * h + checks)
sum_fits all lands pieces lost k saves checks h x w a b c d = omega arith

bare_events : (total len mirrors tries : ℕ) (own : List OwnEvent) → Ordered total len mirrors tries own
    → SavesHaveNews own → is_opened own ≡ true → pieces_of total len ≡ 0 → EventsFit total len mirrors tries own
bare_events total len mirrors tries own o due opened none =
    let n = no_pieces total len mirrors tries own o none in
    let a = n.pieces in
    let b = n.changes_are in
    let s = (saves_fit total len own o.legal due).opened opened in
    let k = events_by_kinds total len mirrors tries own o in
    let f = few_landings_in_all total len mirrors tries own o in
    let m = few_marks total len mirrors tries own o in
    let one : max (pieces_of total len) 1 * (mirrors * tries) ≡ mirrors * tries =
    ap (λ (p : ℕ). max p 1 * (mirrors * tries)) none ∙ single (mirrors * tries) in
    let l = lost_marks own in
    omega arith

full_events : (total len mirrors tries : ℕ) (own : List OwnEvent) → Ordered total len mirrors tries own
    → SavesHaveNews own → is_opened own ≡ true → 1 ≤ pieces_of total len → EventsFit total len mirrors tries own
full_events total len mirrors tries own o due opened some =
    let s = (saves_fit total len own o.legal due).opened opened in
    let c = changes_few own in
    let k = events_by_kinds total len mirrors tries own o in
    let f = few_landings_in_all total len mirrors tries own o in
    let w = weight_is own in
    let h = few_weighed total len mirrors tries own o in
    let many = blocks_many total len (o.plan opened).some in
    let wide : max (pieces_of total len) 1 * (5 * (mirrors * tries) + 6)
    ≤ blocks_of total len * (5 * (mirrors * tries + 2 + pauses own)) =
    mul-le (max (pieces_of total len) 1) (5 * (mirrors * tries) + 6) (blocks_of total len)
    (5 * (mirrors * tries + 2 + pauses own)) (omega arith) (omega arith) in
    let five : blocks_of total len * (5 * (mirrors * tries + 2 + pauses own))
    ≡ 5 * (blocks_of total len * (mirrors * tries + 2 + pauses own)) =
    five_times (blocks_of total len) (mirrors * tries + 2 + pauses own) in
    sum_fits (length own) (tally is_landing own) (piece_kinds own) (tally is_loss own) (pauses own)
    (tally is_saving own)
    (tally is_check own) (halts own) (blocks_of total len * (mirrors * tries + 2 + pauses own)) (mirrors * tries)
    k (omega arith) f (omega arith)

pub events_fit : (total len mirrors tries : ℕ) (own : List OwnEvent) → Ordered total len mirrors tries own
    → SavesHaveNews own → EventsFit total len mirrors tries own
events_fit total len mirrors tries own o due =
    ⊎_elim
    (λ (opened : is_opened own ≡ true).
    ⊎_elim
    (λ (none : pieces_of total len < 1). bare_events total len mirrors tries own o due opened (omega arith))
    (λ (some : 1 ≤ pieces_of total len). full_events total len mirrors tries own o due opened some)
    (cases_lt (pieces_of total len) 1))
    (λ (un : is_opened own ≡ false). early_events total len mirrors tries own o un)
    (cases_Bool (is_opened own))
