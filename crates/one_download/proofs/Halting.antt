-- What the end of all claims makes of what is kept of a download.
use Rattle.std.proofs.Common.{◌≡◌, ℕ, zero, suc, ◌+◌, ◌-◌, ◌<◌, ◌≤◌, All, Bool, true, false, cond, Option, Some, None, List, [], ◌∷◌, length, drop, slice_get, refl, sym, ap, subst, ◌∙◌, arith}
use Rattle.std.specs.Prelude.{◌&&◌, ◌||◌, find, nat_le, nat_lt, not, slice_index_or}
use Rattle.std.proofs.lemmas.Bool.Decides.{nat_tests}
use Rattle.std.specs.Option.{option_and_then}
use Rattle.std.proofs.lemmas.List.Elements.{All-get_or}
use Rattle.std.proofs.lemmas.Option.{get_or_from_slice_get}
use Rattle.dl_kinds.specs.Plan.{piece_of}
use Rattle.dl_kinds.specs.declared.claims.Claim.{Claim}
use Rattle.dl_history.specs.Accounts.{Account, after_halt, first_still_open, without_sole, without_sole_at, without_soles}
use Rattle.piece_table.specs.Progress.{Progress}
use Rattle.piece_table.specs.Steps.{cleared}
use Rattle.piece_table.specs.Changes.{is_in}
use Rattle.segment_claim.specs.Book.{ClaimBook, first_open_at, with_cleared}
use Rattle.segment_claim.specs.Open.{claimed_blocks, first_open_in, is_open_in}
use Rattle.segment_claim.specs.Sound.{IsWithinBlocks}
use Rattle.one_download.specs.DownloadViews.{IsUnverified}
use Rattle.one_download.specs.PayloadViews.{with_parts}

-- a claim ends, by whether the piece is sole
pub ended_sole : (k : Account) (p p' : Progress) (book book' : ClaimBook) (row : List Bool) (piece : ℕ)
    → slice_get p.sole piece ≡ Some true → p' ≡ cleared p piece → book' ≡ with_cleared book piece
    → with_parts k p' book' row ≡ without_sole (with_parts k p book row) piece
ended_sole k p p' book book' row piece is ep eb =
    let sole : slice_index_or p.sole piece false ≡ true = get_or_from_slice_get p.sole piece true false is in
    rw (ep, eb, sole) refl

pub ended_other : (k : Account) (p : Progress) (book : ClaimBook) (row : List Bool) (piece : ℕ)
    → slice_get p.sole piece ≡ Some false
    → with_parts k p book row ≡ without_sole (with_parts k p book row) piece
ended_other k p book row piece is =
    let sole : slice_index_or p.sole piece false ≡ false = get_or_from_slice_get p.sole piece false false is in
    rw sole refl

-- the claims from a place on ended; now the one before it does
pub soles_more : (k : Account) (standing : List Claim) (left : ℕ) (claim : Claim) → slice_get standing left ≡ Some claim
    → without_soles k (drop left standing)
    ≡ without_sole_at (without_soles k (drop (suc left) standing)) (first_still_open k claim)
soles_more k [] left claim is = absurd cc
soles_more k (c ∷ cs) zero claim is = let e : c ≡ claim = cc in rw e refl
soles_more k (c ∷ cs) (suc left) claim is = soles_more k cs left claim is

-- ---- the first open block

found_cases : (p : ℕ → Bool) (y : ℕ) (ys : List ℕ) (x : ℕ) (t : Bool) → p y ≡ t → (find p ys ≡ Some x → p x ≡ true)
    → cond t (Some y) (find p ys) ≡ Some x → p x ≡ true
found_cases p y ys x true is rest e = let same : y ≡ x = cc in subst (λ z. p z ≡ true) same is
found_cases p y ys x false is rest e = rest e

-- what is found passes
pub found_passes : (p : ℕ → Bool) (xs : List ℕ) (x : ℕ) → find p xs ≡ Some x → p x ≡ true
found_passes p [] x is = absurd cc
found_passes p (y ∷ ys) x is = found_cases p y ys x (p y) refl (found_passes p ys x) is

pub and_first : (a b : Bool) → (a && b) ≡ true → a ≡ true
and_first true b h = refl
and_first false b h = h

pub and_second : (a b : Bool) → (a && b) ≡ true → b ≡ true
and_second true b h = h
and_second false b h = absurd cc

not_is : (a : Bool) → not a ≡ true → a ≡ false
not_is true h = absurd cc
not_is false h = refl

-- a block that is open in a claim is one of its run, and isn't landed
pub record IsOpenBlock (landed : List Bool) (claim : Claim) (b : ℕ) : Type 0 where
  pub from : claim.run.first ≤ b
  pub before : b < claim.run.first + claim.run.count
  pub unlanded : slice_index_or landed b false ≡ false

pub open_block : (len : ℕ) (landed : List Bool) (closed : List ℕ) (claim : Claim) (b : ℕ)
    → is_open_in len landed closed claim b ≡ true → IsOpenBlock landed claim b
open_block len landed closed claim b is =
    let in_run = is_in b claim.run in
    let lacks = not (slice_index_or landed b false) in
    let later = nat_le (slice_index_or closed (piece_of len b) 0) claim.id in
    let both = and_first (in_run && lacks) later is in
    let here : (nat_le claim.run.first b && nat_lt b (claim.run.first + claim.run.count)) ≡ true = and_first in_run lacks both in
    let low : nat_le claim.run.first b ≡ true =
    and_first (nat_le claim.run.first b) (nat_lt b (claim.run.first + claim.run.count)) here in
    let high : nat_lt b (claim.run.first + claim.run.count) ≡ true =
    and_second (nat_le claim.run.first b) (nat_lt b (claim.run.first + claim.run.count)) here in
    record {
      from = grind (arith, nat_tests);
      before = grind (arith, nat_tests);
      unlanded = not_is (slice_index_or landed b false) (and_second in_run lacks both);
    }

-- all claims ended
pub halted_is : (k : Account) (p : Progress) (book book' : ClaimBook) (ends ended : Bool) (spare : ℕ)
    → with_parts k p book k.settled ≡ without_soles k k.standing
    → book' ≡ record book { standing = []; spare = spare } → ended ≡ (ends || k.ended)
    → ◌≡◌ {A = Account} (record (with_parts k p book' k.settled) { ended = ended }) (after_halt k ends)
halted_is k p book book' ends ended spare es eb ee =
    ap (λ (b : ClaimBook). record (with_parts k p b k.settled) { ended = ended }) eb
    ∙ ap (λ (e : Bool). record (with_parts k p book k.settled) { standing = []; ended = e }) ee
    ∙ ap (λ (l : Account). record l { standing = []; ended = ends || k.ended }) es

-- ---- one claim after the other

pub some_at : (xs : List Claim) (i : ℕ) → i < length xs → (claim : Claim) × (slice_get xs i ≡ Some claim)
some_at [] i within = absurd (omega arith)
some_at (x ∷ xs) zero within = (x, refl)
some_at (x ∷ xs) (suc i) within = some_at xs i (omega arith)

-- the first open block of the claim at a place
pub first_at : (book : ClaimBook) (landed : List Bool) (place : ℕ) (claim : Claim) (first : Option ℕ)
    → slice_get book.standing place ≡ Some claim → first_open_at book landed place ≡ first
    → first_open_in book.piece_len landed book.closed claim ≡ first
first_at book landed place claim first at is =
    sym (ap (option_and_then (first_open_in book.piece_len landed book.closed)) at) ∙ is

-- a claim's first open block is one of the payload, and isn't landed
pub record FirstBlock (landed : List Bool) (blocks b : ℕ) : Type 0 where
  pub within : b < blocks
  pub unlanded : slice_index_or landed b false ≡ false

pub first_block : (len : ℕ) (landed : List Bool) (closed : List ℕ) (standing : List Claim) (place blocks : ℕ) (claim : Claim)
    (b : ℕ) → All (IsWithinBlocks blocks) standing → place < length standing → slice_get standing place ≡ Some claim
    → first_open_in len landed closed claim ≡ Some b → FirstBlock landed blocks b
first_block len landed closed standing place blocks claim b all here at is =
    let open_ = open_block len landed closed claim b
    (found_passes (is_open_in len landed closed claim) (claimed_blocks claim) b is) in
    let of : IsWithinBlocks blocks claim = subst (IsWithinBlocks blocks) (get_or_from_slice_get standing place claim claim at)
    (All-get_or (IsWithinBlocks blocks) standing place claim here all) in
    let before = open_.before in
    let within = of.within in
    record { within = omega arith; unlanded = open_.unlanded }

pub unverified_same : (p q : Progress) (piece : ℕ) → q.verified ≡ p.verified → q.total ≡ p.total
    → q.piece_len ≡ p.piece_len → IsUnverified p piece → IsUnverified q piece
unverified_same p q piece ev et el u =
    record {
      known = rw (et, el) u.known;
      unverified = ap (λ (r : List Bool). slice_get r piece) ev ∙ u.unverified;
    }

-- the claim before those that ended ends, at its first open block ..
pub ends_one : (start x y : Account) (standing : List Claim) (count done place : ℕ) (claim : Claim) (b piece len : ℕ)
    → slice_get standing place ≡ Some claim → suc place ≡ count - done → count - (done + 1) ≡ place
    → first_still_open start claim ≡ Some b
    → x ≡ without_soles start (drop (count - done) standing)
    → x.progress.piece_len ≡ len → piece ≡ piece_of len b → y ≡ without_sole x piece
    → y ≡ without_soles start (drop (count - (done + 1)) standing)
ends_one start x y standing count done place claim b piece len at next last first ex elen epiece ey =
    let z : Account = without_soles start (drop (suc place) standing) in
    let same : x ≡ z = ex ∙ ap (λ n. without_soles start (drop n standing)) (sym next) in
    let of : piece ≡ piece_of z.progress.piece_len b =
    epiece ∙ ap (λ n. piece_of n b) (sym elen) ∙ ap (λ (a : Account). piece_of a.progress.piece_len b) same in
    ey ∙ ap (λ (a : Account). without_sole a piece) same ∙ ap (without_sole z) of
    ∙ ap (without_sole_at z) (sym first)
    ∙ sym (soles_more start standing place claim at)
    ∙ ap (λ n. without_soles start (drop n standing)) (sym last)

-- .. or without one
pub ends_none : (start x : Account) (standing : List Claim) (count done place : ℕ) (claim : Claim)
    → slice_get standing place ≡ Some claim → suc place ≡ count - done → count - (done + 1) ≡ place
    → first_still_open start claim ≡ None
    → x ≡ without_soles start (drop (count - done) standing)
    → x ≡ without_soles start (drop (count - (done + 1)) standing)
ends_none start x standing count done place claim at next last first ex =
    let z : Account = without_soles start (drop (suc place) standing) in
    ex ∙ ap (λ n. without_soles start (drop n standing)) (sym next)
    ∙ ap (without_sole_at z) (sym first)
    ∙ sym (soles_more start standing place claim at)
    ∙ ap (λ n. without_soles start (drop n standing)) (sym last)
