-- When a download has all that it is to have.
use Rattle.std.specs.Prelude.{◌≡◌, ℕ, Bool, true, false, List, slice_index_or}
use Rattle.dl_history.specs.PayloadParts.{is_verified_in}
use Rattle.dl_kinds.specs.declared.gid.Gid.{Gid}
use Rattle.machine_core.specs.MachineViews.{MachineView}
use Rattle.machine_core.specs.Openings.{wanted_of_gid}
use Rattle.machine_core.specs.Reads.{own_of_gid}

-- each place that is true in the first row is true in the second
abbrev pub IsRowWithin : List Bool → List Bool → Type 0
IsRowWithin first second =
    (place : ℕ) → slice_index_or first place false ≡ true → slice_index_or second place false ≡ true

-- each wanted piece of the download is verified
abbrev pub IsDoneGid : MachineView → Gid → Type 0
IsDoneGid m gid =
    (piece : ℕ) → slice_index_or (wanted_of_gid m gid) piece false ≡ true
    → is_verified_in (own_of_gid m gid) piece ≡ true
