-- The best of the stretches that were looked at.
use Rattle.std.specs.Prelude.{◌≡◌, ◌⊎◌, ℕ, ◌+◌, ◌*◌, ◌^◌, ◌<◌, ◌≤◌, true, false, Option, Some, MatchOption, slice_index_or}
use Rattle.dl_kinds.specs.Plan.{blocks_of, blocks_of_piece, full_blocks}
use Rattle.dl_kinds.specs.declared.claims.Claim.{Claim}
use Rattle.dl_kinds.specs.declared.runs.Run.{Run}
use Rattle.piece_table.specs.Changes.{is_in}
use Rattle.segment_claim.specs.Free.{IsGrantable, IsMirrorFor, IsPreferred, is_free}
use Rattle.segment_claim.specs.Situation.{Situation}
use Rattle.segment_claim.specs.declared.free.Found.{Found}

-- a run goes before what was found: it is longer, or as long and lower
abbrev pub GoesFirst : Run → Found → Type 0
GoesFirst run found = (found.run.count < run.count) ⊎ ((run.count ≡ found.run.count) × (run.first < found.run.first))

-- the run is of some blocks, all of the payload
pub record IsWithinPayload (s : Situation) (run : Run) : Type 0 where
  pub some : 1 ≤ run.count
  pub within : run.first + run.count ≤ blocks_of s.total s.piece_len

-- the claim is of some blocks, all of the payload
pub record IsOfPayload (s : Situation) (claim : Claim) : Type 0 where
  pub run : IsWithinPayload s claim.run
  pub bounded : claim.run.first + claim.run.count < 2 ^ 32

-- this stretch was found with its mirror, and it is preferred to each that was looked at and that a mirror is chosen
-- for
pub record IsBestFound (s : Situation) (Looked : Run → Type 0) (found : Found) : Type 0 where
  pub grantable : IsGrantable s found.run found.mirror
  pub within : IsWithinPayload s found.run
  pub preferred : (run : Run) (mirror : ℕ) → Looked run → IsMirrorFor s run mirror → IsPreferred found.run run

-- .. or none is found where no mirror is chosen for any of them
abbrev pub IsBestOf : Situation → (Run → Type 0) → Option Found → Type 0
IsBestOf s Looked found =
    MatchOption found
    ((run : Run) (mirror : ℕ) → Looked run → ¬ IsMirrorFor s run mirror)
    (IsBestFound s Looked)

-- the run is found with its mirror, and goes before what was found so far ..
pub record IsNowFound (s : Situation) (found : Option Found) (run : Run) (after : Option Found) : Type 0 where
  pub mirror : ℕ
  pub chosen : IsMirrorFor s run mirror
  pub before : MatchOption found (Unit {0}) (GoesFirst run)
  pub is : after ≡ Some (record { run = run; mirror = mirror })

-- .. or what was found stays: no mirror is chosen for the run, or it doesn't go before
pub record IsPassed (s : Situation) (found : Option Found) (run : Run) (after : Option Found) : Type 0 where
  pub is : after ≡ found
  pub why : (mirror : ℕ) → IsMirrorFor s run mirror → ¬ MatchOption found (Unit {0}) (GoesFirst run)

abbrev pub IsBetter : Situation → Option Found → Run → Option Found → Type 0
IsBetter s found run after = IsNowFound s found run after ⊎ IsPassed s found run after

-- the run of a sole piece whose blocks are all free
pub record IsFreeSole (s : Situation) (piece : ℕ) (run : Run) : Type 0 where
  pub sole : slice_index_or s.sole piece false ≡ true
  pub first : run.first ≡ piece * full_blocks s.piece_len
  pub count : run.count ≡ blocks_of_piece s.total s.piece_len piece
  pub free : (block : ℕ) → is_in block run ≡ true → is_free s block ≡ true
