-- What the own events of a download say, for the want that is kept of it.
use Rattle.std.proofs.Common.{◌≡◌, ◌<◌, ℕ, zero, suc, Bool, true, false, Option, Some, List, [], ◌∷◌, ◌⊎◌, inl, inr, ⊎_elim, length, slice_get, refl, sym, ap, ◌∙◌, subst, arith}
use Rattle.std.specs.Prelude.{map, slice_index_or, ◌==◌, ◌&&◌, ◌||◌}
use Rattle.std.specs.List.{range_with_len}
use Rattle.std.specs.Option.{unwrap_or}
use Rattle.std.proofs.lemmas.Bool.{eqb-true}
use Rattle.std.proofs.lemmas.List.FromFn.{get_or-map-range_with_len, length-map-range_with_len}
use Rattle.std.proofs.lemmas.Option.{slice_get-get_or}
use Rattle.control_file.specs.Wants.{IsWant}
use Rattle.control_file.specs.declared.want.Want.{Want}
use Rattle.dl_history.specs.AccountLaws.{MatchesEvents}
use Rattle.dl_history.specs.Accounts.{account_of, listing_of}
use Rattle.dl_history.specs.Listings.{listing_in}
use Rattle.dl_history.specs.OwnEvents.{OwnEvent, Opens, Grants, Lands, Settles, Clears, Loses, Sizes, Saves, Checks, Halts}
use Rattle.dl_history.specs.OwnLegal.{LegalOwn, MaySave}
use Rattle.dl_history.specs.PayloadParts.{is_verified_in}
use Rattle.dl_kinds.specs.Plan.{pieces_of}
use Rattle.dl_kinds.specs.declared.gid.Gid.{Gid}
use Rattle.machine_core.specs.DownloadWants.{HasWant}
use Rattle.machine_core.specs.Openings.{lengths_of_plan}
use Rattle.machine_core.specs.OwnParts.{PayloadLengths, no_lengths, own_of}
use Rattle.machine_core.specs.RunLegal.{IsLegal, known_lengths}
use Rattle.machine_core.specs.Starts.{RunStart}
use Rattle.machine_core.specs.declared.events.Event.{Event}
use Rattle.stored_run.specs.RunFollows.{RunFollows}

-- ---- lengths

pub lengths_known : (start : RunStart) (past : List Event) (gid : Gid) (want : Want) → HasWant start past gid want
    → known_lengths start past gid ≡ lengths_of_plan want.plan
lengths_known start past gid want has =
    ap (λ (o : Option PayloadLengths). unwrap_or o no_lengths) has.known ∙ sym has.is.plan

-- its part of the history is legal by the lengths of its want
pub own_legal : RunFollows → (start : RunStart) (past : List Event) (gid : Gid) (want : Want) → IsLegal start past
    → HasWant start past gid want → LegalOwn want.plan.total want.plan.piece_len (own_of start past gid)
own_legal laws start past gid want legal has =
    subst (λ (l : PayloadLengths). LegalOwn l.total l.piece_len (own_of start past gid))
    (lengths_known start past gid want has) (laws.legal start past gid legal)

-- ---- pieces

or_cases : (a b : Bool) → (a || b) ≡ true → (a ≡ true) ⊎ (b ≡ true)
or_cases true b is = inl refl
or_cases false b is = inr is

and_first : (a b : Bool) → (a && b) ≡ true → a ≡ true
and_first true b is = refl
and_first false b is = absurd cc

row_reads : (row : List Bool) (i : ℕ) → slice_index_or row i false ≡ true → i < length row
row_reads [] i is = absurd cc
row_reads (b ∷ row) zero is = omega arith
row_reads (b ∷ row) (suc i) is = let below = row_reads row i is in omega arith

-- a verified piece is one of the plan
pub verified_within : (total len : ℕ) (own : List OwnEvent) (p : ℕ) → LegalOwn total len own
    → is_verified_in own p ≡ true → p < pieces_of total len
verified_within total len [] p legal is = absurd cc
verified_within total len (Opens verified blocks now ∷ own) p legal is =
    ⊎_elim
    (λ here. let below = row_reads verified p here in let many = legal.1.start.pieces in omega arith)
    (λ before. verified_within total len own p legal.0 before)
    (or_cases (slice_index_or verified p false) (is_verified_in own p) is)
verified_within total len (Settles piece right giver ∷ own) p legal is =
    ⊎_elim
    (λ here.
    let same = eqb-true piece p (and_first (piece == p) right here) in
    let within = legal.1.within in
    omega arith)
    (λ before. verified_within total len own p legal.0 before)
    (or_cases (piece == p && right) (is_verified_in own p) is)
verified_within total len (Grants claim ∷ own) p legal is = verified_within total len own p legal.0 is
verified_within total len (Lands id mirror run ∷ own) p legal is = verified_within total len own p legal.0 is
verified_within total len (Clears piece ∷ own) p legal is = verified_within total len own p legal.0 is
verified_within total len (Loses id mirror piece mark ∷ own) p legal is = verified_within total len own p legal.0 is
verified_within total len (Sizes id told ∷ own) p legal is = verified_within total len own p legal.0 is
verified_within total len (Saves now ∷ own) p legal is = verified_within total len own p legal.0 is
verified_within total len (Checks right ∷ own) p legal is = verified_within total len own p legal.0 is
verified_within total len (Halts ends ∷ own) p legal is = verified_within total len own p legal.0 is

-- a place below so many, in the row of a test
pub row_at : (test : ℕ → Bool) (n i : ℕ) → i < n → test i ≡ true
    → slice_get (map test (range_with_len 0 n)) i ≡ Some true
row_at test n i below is =
    let row = map test (range_with_len 0 n) in
    let inside : i < length row = omega (arith, below, length-map-range_with_len test 0 n) in
    slice_get-get_or row i false inside
    ∙ ap (λ (b : Bool). Some b) (get_or-map-range_with_len test 0 n i i false below (omega arith) ∙ is)

-- ---- what is kept of it

-- the rows that a machine keeps are the events'
pub account_matches : RunFollows → (want : Want) (own : List OwnEvent) → IsWant want
    → LegalOwn want.plan.total want.plan.piece_len own
    → MatchesEvents want.plan.total want.plan.piece_len own (account_of want.plan.total want.plan.piece_len own)
account_matches laws want own is legal =
    laws.accounts want.plan.total want.plan.piece_len own (λ opened. is.plan) legal

-- a save lists what the table does
pub table_listed : RunFollows → (want : Want) (own : List OwnEvent) → IsWant want
    → LegalOwn want.plan.total want.plan.piece_len own → MaySave own
    → listing_of (account_of want.plan.total want.plan.piece_len own).progress
    ≡ listing_in want.plan.total want.plan.piece_len own
table_listed laws want own is legal may =
    (account_matches laws want (Saves (record { 0 = 0 }) ∷ own) is (legal, may)).listing
