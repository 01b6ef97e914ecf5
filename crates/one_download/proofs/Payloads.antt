-- What the steps of a payload make of what is kept of its download.
use Rattle.std.proofs.Common.{◌≡◌, ℕ, zero, suc, ◌+◌, Bool, true, false, eqb, Some, List, [], ◌∷◌, length, map, replicate, get_or, set, slice_get, refl, sym, ap, subst, zero-add, ◌∙◌, arith}
use Rattle.std.specs.Prelude.{◌&&◌, ◌||◌, filter, not, slice_index_or, slice_set, All}
use Rattle.std.specs.List.{range_with_len}
use Rattle.std.proofs.lemmas.Bool.{ne_eqb, eq-eqb, eqb-true}
use Rattle.std.proofs.lemmas.List.{length-set, get_or-set_other, ext_get_or}
use Rattle.std.proofs.lemmas.List.Elements.{All-head, All-tail}
use Rattle.std.proofs.lemmas.List.FromFn.{get_or-map-range_with_len, length-map-range_with_len}
use Rattle.std.proofs.lemmas.Option.{get_or_from_slice_get}
use Rattle.dl_kinds.specs.Plan.{piece_of, pieces_of}
use Rattle.dl_kinds.specs.declared.claims.Claim.{Claim}
use Rattle.dl_kinds.specs.declared.plan.Plan.{Plan}
use Rattle.dl_kinds.specs.declared.runs.Moment.{Moment}
use Rattle.dl_kinds.specs.declared.runs.Run.{Run}
use Rattle.piece_table.specs.Progress.{Progress}
use Rattle.piece_table.specs.Steps.{started, landed_by, cleared}
use Rattle.piece_table.specs.declared.giver.Giver.{Giver}
use Rattle.dl_history.specs.Accounts.{Account, after_finding, after_landing, after_loss, after_save, at_opening, is_busy, listing_of, unsettled_by, without_claim, with_finding, without_piece}
use Rattle.dl_history.specs.Listings.{Listing}
use Rattle.dl_history.specs.PayloadParts.{is_run_on}
use Rattle.segment_claim.specs.Book.{ClaimBook, kept_where, no_claims, swept, with_cleared}
use Rattle.segment_claim.specs.Open.{has_number, is_underway}
use Rattle.segment_claim.specs.Sound.{IsWithinBlocks}
use Rattle.one_download.specs.PayloadViews.{FitsOnePlan, account_before, with_parts}
use Rattle.one_download.specs.declared.payload.Before.{Before}

-- ---- lists

-- two tests that agree where something holds keep the same elements
filter_where : (P : Claim → Type 0) (p q : Claim → Bool) (xs : List Claim) → All P xs
    → ((x : Claim) → P x → p x ≡ q x) → filter p xs ≡ filter q xs
filter_where P p q [] all same = refl
filter_where P p q (x ∷ xs) all same =
    rw (same x (All-head P x xs all), filter_where P p q xs (All-tail P x xs all) same) refl

rows_same : (f g : ℕ → Bool) (a n : ℕ) → ((x : ℕ) → f x ≡ g x) → map f (range_with_len a n) ≡ map g (range_with_len a n)
rows_same f g a zero same = refl
rows_same f g a (suc n) same = rw (same a, rows_same f g (a + 1) n same) refl

and_false : (a : Bool) → (a && false) ≡ false
and_false true = refl
and_false false = refl

and_true : (a : Bool) → (a && true) ≡ a
and_true true = refl
and_true false = refl

true_not_false : {P : Type 0} (a : Bool) → a ≡ true → a ≡ false → P
true_not_false true h i = absurd cc
true_not_false false h i = absurd cc

set_false : (row : List Bool) (i : ℕ) → get_or (set row i false) i false ≡ false
set_false [] i = refl
set_false (x ∷ xs) zero = refl
set_false (x ∷ xs) (suc i) = set_false xs i

-- ---- the pieces that weren't settled since a landing

pub unsettled_none : (len first : ℕ) (row : List Bool) → unsettled_by len (record { first = first; count = 0 }) row ≡ row
unsettled_none len first row =
    let f : ℕ → Bool = λ p. slice_index_or row p false && true in
    let long : length (map f (range_with_len 0 (length row))) ≡ length row = length-map-range_with_len f 0 (length row) in
    ext_get_or false (map f (range_with_len 0 (length row))) row long
    (λ i below.
    get_or-map-range_with_len f 0 (length row) i i false (omega arith) (zero-add i) ∙ and_true (get_or row i false))

more_at : (row : List Bool) (piece p : ℕ) (rest t : Bool) → eqb piece p ≡ t
    → (get_or row p false && not (eqb piece p || rest)) ≡ (get_or (set row piece false) p false && not rest)
more_at row piece p rest true is =
    let e : piece ≡ p = eqb-true piece p is in
    let gone : get_or (set row piece false) p false ≡ false = subst
    (λ q. get_or (set row piece false) q false ≡ false) e (set_false row piece) in
    rw (is, gone) (and_false (get_or row p false))
more_at row piece p rest false is =
    let other : get_or (set row piece false) p false ≡ get_or row p false = get_or-set_other row piece p false false
    (λ e. true_not_false (eqb piece p) (eq-eqb piece p (sym e)) is) in
    rw (is, other) refl

pub unsettled_more : (len first count : ℕ) (row : List Bool)
    → unsettled_by len (record { first = first; count = suc count }) row
    ≡ unsettled_by len (record { first = first + 1; count = count }) (slice_set row (piece_of len first) false)
unsettled_more len first count row =
    let piece = piece_of len first in
    rw (length-set row piece false)
    (rows_same
    (λ p. slice_index_or row p false && not (is_run_on len (record { first = first; count = suc count }) p))
    (λ p. slice_index_or (slice_set row piece false) p false && not (is_run_on len (record { first = first + 1; count = count }) p))
    0 (length row)
    (λ p. more_at row piece p (is_run_on len (record { first = first + 1; count = count }) p) (eqb piece p) refl))

-- ---- the parts stay of one plan

pub fits_more : (plan : Plan) (p p' : Progress) (book book' : ClaimBook) (row row' wanted : List Bool) (listed : Listing)
    → FitsOnePlan plan p book row wanted listed → p'.total ≡ p.total → p'.piece_len ≡ p.piece_len
    → book'.total ≡ book.total → book'.piece_len ≡ book.piece_len → length row' ≡ length row
    → FitsOnePlan plan p' book' row' wanted listed
fits_more plan p p' book book' row row' wanted listed f pt pl bt bl long =
    record {
      total = pt ∙ f.total;
      piece_len = pl ∙ f.piece_len;
      claims_total = bt ∙ f.claims_total;
      claims_len = bl ∙ f.claims_len;
      settled_len = long ∙ f.settled_len;
      wanted_len = f.wanted_len;
      listed_pieces = f.listed_pieces;
      listed_blocks = f.listed_blocks;
    }

-- ---- what is kept

busy_is : (k : Account) (blocks : ℕ) (claim : Claim) → IsWithinBlocks blocks claim
    → is_underway k.progress.piece_len k.progress.landed k.closed claim ≡ is_busy k claim
busy_is k blocks claim within =
    let some = within.some in
    let no : eqb claim.run.count 0 ≡ false = ne_eqb claim.run.count 0 (λ e. absurd (omega arith)) in
    rw no refl

pub landed_is : (k : Account) (book book' : ClaimBook) (progress : Progress) (row : List Bool) (mirror : ℕ) (run : Run)
    (len spare blocks : ℕ)
    → k.standing ≡ book.standing → k.closed ≡ book.closed → k.next ≡ book.next
    → book.piece_len ≡ k.progress.piece_len → len ≡ k.progress.piece_len
    → All (IsWithinBlocks blocks) book.standing
    → progress ≡ landed_by k.progress run mirror → row ≡ unsettled_by len run k.settled
    → book' ≡ swept book progress.landed spare
    → with_parts k progress book' row ≡ after_landing k mirror run
landed_is k book book' progress row mirror run len spare blocks ks kc kn bl el within ep er eb =
    let k' : Account = record k {
      progress = landed_by k.progress run mirror;
      settled = unsettled_by k.progress.piece_len run k.settled;
    } in
    let all : All (IsWithinBlocks blocks) k.standing = rw ks within in
    let busy : filter (is_underway book.piece_len progress.landed book.closed) book.standing
    ≡ filter (is_busy k') k.standing =
    rw (bl, ep, ← ks, ← kc) (filter_where (IsWithinBlocks blocks)
    (is_underway k.progress.piece_len (landed_by k.progress run mirror).landed k.closed) (is_busy k') k.standing all
    (λ x w. busy_is k' blocks x w)) in
    let stand : book'.standing ≡ filter (is_busy k') k.standing = ap (λ (b : ClaimBook). b.standing) eb ∙ busy in
    let shut : book'.closed ≡ k.closed = ap (λ (b : ClaimBook). b.closed) eb ∙ sym kc in
    let after : book'.next ≡ k.next = ap (λ (b : ClaimBook). b.next) eb ∙ sym kn in
    rw (stand, shut, after, er, el, ep) refl

pub lost_is : (k : Account) (book book' : ClaimBook) (id piece spare : ℕ)
    → k.standing ≡ book.standing → k.closed ≡ book.closed → k.next ≡ book.next
    → book' ≡ kept_where (λ claim. not (has_number id claim)) spare book
    → slice_get k.progress.sole piece ≡ Some false
    → with_parts k k.progress book' k.settled ≡ after_loss k id piece
lost_is k book book' id piece spare ks kc kn eb is =
    let sole : slice_index_or k.progress.sole piece false ≡ false =
    get_or_from_slice_get k.progress.sole piece false false is in
    let stand : book'.standing ≡ without_claim id k.standing = ap (λ (b : ClaimBook). b.standing) eb
    ∙ ap (without_claim id) (sym ks) in
    let shut : book'.closed ≡ k.closed = ap (λ (b : ClaimBook). b.closed) eb ∙ sym kc in
    let after : book'.next ≡ k.next = ap (λ (b : ClaimBook). b.next) eb ∙ sym kn in
    rw (stand, shut, after, sole) refl

pub lost_sole_is : (k : Account) (book book' book'' : ClaimBook) (progress : Progress) (id piece spare : ℕ)
    → k.standing ≡ book.standing → k.closed ≡ book.closed → k.next ≡ book.next
    → book' ≡ kept_where (λ claim. not (has_number id claim)) spare book
    → progress ≡ cleared k.progress piece → book'' ≡ with_cleared book' piece
    → slice_get k.progress.sole piece ≡ Some true
    → with_parts k progress book'' k.settled ≡ after_loss k id piece
lost_sole_is k book book' book'' progress id piece spare ks kc kn eb ep ec is =
    let sole : slice_index_or k.progress.sole piece false ≡ true =
    get_or_from_slice_get k.progress.sole piece true false is in
    let stand : book''.standing ≡ without_claim id k.standing = ap (λ (b : ClaimBook). b.standing) ec
    ∙ ap (λ (b : ClaimBook). b.standing) eb ∙ ap (without_claim id) (sym ks) in
    let after : book'.next ≡ k.next = ap (λ (b : ClaimBook). b.next) eb ∙ sym kn in
    let later : book''.next ≡ k.next = ap (λ (b : ClaimBook). b.next) ec ∙ after in
    let shut : book'.closed ≡ k.closed = ap (λ (b : ClaimBook). b.closed) eb ∙ sym kc in
    let moved : slice_set book'.closed piece book'.next ≡ slice_set k.closed piece k.next = rw (shut, after) refl in
    let shut_more : book''.closed ≡ slice_set k.closed piece k.next = ap (λ (b : ClaimBook). b.closed) ec ∙ moved in
    rw (ep, stand, shut_more, later, sole) refl

pub saved_is : (k : Account) (pieces blocks : List Bool) (now : Moment)
    → pieces ≡ k.progress.verified → blocks ≡ (listing_of k.progress).blocks
    → ◌≡◌ {A = Account} (record k { listing = record { pieces = pieces; blocks = blocks }; saved = Some now })
    (after_save k now)
saved_is k pieces blocks now ep eb = rw (ep, eb) refl

pub opened_is : (before : Before) (total len : ℕ) (verified blocks : List Bool) (now : Moment) (progress : Progress)
    (book : ClaimBook) (spare : ℕ) (row pieces listed : List Bool)
    → progress ≡ started total len verified blocks → book ≡ no_claims total len spare
    → length verified ≡ pieces_of total len → row ≡ replicate (pieces_of total len) false
    → pieces ≡ verified → listed ≡ blocks
    → ◌≡◌ {A = Account} (record (with_parts (account_before before) progress book row) {
      listing = record { pieces = pieces; blocks = listed };
      saved = Some now;
    })
    (at_opening total len (account_before before) verified blocks now)
opened_is before total len verified blocks now progress book spare row pieces listed ep eb el er epieces elisted =
    let stand : book.standing ≡ [] = ap (λ (b : ClaimBook). b.standing) eb in
    let shut : book.closed ≡ replicate (length verified) 0 = ap (λ (b : ClaimBook). b.closed) eb
    ∙ ap (λ n. replicate n 0) (sym el) in
    let next : book.next ≡ 0 = ap (λ (b : ClaimBook). b.next) eb in
    let unsettled : row ≡ replicate (length verified) false = er ∙ ap (λ n. replicate n false) (sym el) in
    rw (ep, stand, shut, next, unsettled, epieces, elisted) refl

pub cleared_is : (k : Account) (book book' : ClaimBook) (progress : Progress) (piece : ℕ)
    → k.standing ≡ book.standing → k.closed ≡ book.closed → k.next ≡ book.next
    → progress ≡ cleared k.progress piece → book' ≡ with_cleared book piece
    → with_parts k progress book' k.settled ≡ without_piece k piece
cleared_is k book book' progress piece ks kc kn ep eb =
    let stand : book'.standing ≡ k.standing = ap (λ (b : ClaimBook). b.standing) eb ∙ sym ks in
    let next : book'.next ≡ k.next = ap (λ (b : ClaimBook). b.next) eb ∙ sym kn in
    let moved : slice_set book.closed piece book.next ≡ slice_set k.closed piece k.next = rw (← kc, ← kn) refl in
    let shut : book'.closed ≡ slice_set k.closed piece k.next = ap (λ (b : ClaimBook). b.closed) eb ∙ moved in
    rw (ep, stand, shut, next) refl

pub found_is : (k : Account) (progress : Progress) (row : List Bool) (piece : ℕ) (right : Bool) (giver : Giver)
    → progress ≡ with_finding k.progress piece right giver → row ≡ slice_set k.settled piece true
    → ◌≡◌ {A = Account} (record k { progress = progress; settled = row }) (after_finding k piece right giver)
found_is k progress row piece right giver ep er = rw (ep, er) refl
