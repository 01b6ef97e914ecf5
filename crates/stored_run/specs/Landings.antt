-- What is known of a run of blocks that is delivered.
use Rattle.std.specs.Prelude.{◌≡◌, ◌+◌, ◌-◌, ℕ, Contains, List, Some}
use Rattle.control_file.specs.declared.want.Want.{Want}
use Rattle.dl_disk.specs.State.{DiskState}
use Rattle.dl_kinds.specs.Plan.{block_end, block_start}
use Rattle.dl_kinds.specs.declared.claims.Claim.{Claim}
use Rattle.dl_kinds.specs.declared.gid.Gid.{Gid}
use Rattle.dl_kinds.specs.declared.runs.Run.{Run}
use Rattle.machine_core.specs.MachineViews.{MachineView, standing_in}
use Rattle.machine_core.specs.Reads.{lengths_of_gid}
use Rattle.resume_core.specs.Runs.{HoldsRun}
use Rattle.stored_run.specs.Views.{kept_want_of}
use Rattle.stored_run.specs.declared.run.StoredView.{StoredView}

-- what stands under the number of the claim is the claim, of this download
abbrev pub IsOneUnder : MachineView → Gid → Claim → Type 0
IsOneUnder m gid claim =
    (other : Gid) (twin : Claim) → Contains (standing_in m other) twin → twin.id ≡ claim.id
    → (other ≡ gid) × (twin ≡ claim)

-- a run of the download's blocks has so many bytes
abbrev pub HasRunLen : MachineView → Gid → Run → ℕ → Type 0
HasRunLen m gid run len =
    block_start (lengths_of_gid m gid).piece_len run.first + len
    ≡ block_end (lengths_of_gid m gid).total (lengths_of_gid m gid).piece_len (run.first + run.count - 1)

module _ {D : Type 0} where
  -- the disk has these bytes in the place of the run
  abbrev pub HoldsRunOf : Gid → Run → List ℕ → StoredView D → (before after : DiskState) → Type 0
  HoldsRunOf gid run bytes r before after =
      (want : Want) → kept_want_of r gid ≡ Some want → HoldsRun want run bytes before.seen after.seen
