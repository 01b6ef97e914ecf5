-- Why a download isn't opened: the first reason that there is, and none where it can be.
use Rattle.std.specs.Prelude.{◌≡◌, ◌≢◌, ℕ, ◌==◌, List, Option, Some, None, option_map, is_some, Result, Ok, Err, OnOk, IfErr, if◌then◌else◌}
use Rattle.std.specs.Str.{bytes_eq}
use Rattle.dl_disk.specs.Files.{Files}
use Rattle.control_file.specs.Reading.{control_in}
use Rattle.control_file.specs.declared.control.Control.{Control}
use Rattle.control_file.specs.declared.fault.ControlErr.{ControlErr}
use Rattle.control_file.specs.declared.fault.ControlErr.TheVariants.{Wrong, Version, NoMemory as ControlNoMemory}
use Rattle.control_file.specs.declared.want.Want.{Want}
use Rattle.resume_core.specs.Found.{hash_bytes}
use Rattle.resume_core.specs.Lens.{first_len, lens_in}
use Rattle.resume_core.specs.Wants.{control_name}
use Rattle.resume_core.specs.declared.refusing.OpenErr.{OpenErr}
use Rattle.resume_core.specs.declared.refusing.OpenErr.TheVariants.{Exists, PieceLength, Length, InfoHash, Unreadable, Disk, NoMemory}

-- the control file can't be read: the place of its first fault, and 0 for an unknown version
abbrev pub unreadable : ControlErr → OpenErr
unreadable (Wrong at) = Unreadable at
unreadable (Version version) = Unreadable 0
unreadable ControlNoMemory = NoMemory

abbrev pub IsUnreadable : ControlErr → OpenErr → Type 0
IsUnreadable fault err = err ≡ unreadable fault

-- it is another download's: of another info hash, or cut otherwise, or of another length
abbrev pub foreign : Want → Control → Option OpenErr
foreign want control =
    if bytes_eq control.info_hash (hash_bytes want.info_hash) then
    if control.piece_len == want.plan.piece_len then
    if control.total == want.plan.total then None else Some (Length control.total want.plan.total)
    else Some (PieceLength control.piece_len want.plan.piece_len)
    else Some InfoHash

abbrev pub control_refusal : Want → Result Control ControlErr → Option OpenErr
control_refusal want (Err fault) = Some (unreadable fault)
control_refusal want (Ok control) = foreign want control

-- without a control file an unlisted payload that stands isn't overwritten
abbrev pub in_the_way : Want → Option ℕ → Option OpenErr
in_the_way want standing = if is_some want.info_hash then None else option_map Exists standing

abbrev pub refused_over : Want → Option (List ℕ) → Option ℕ → Option OpenErr
refused_over want None standing = in_the_way want standing
refused_over want (Some bytes) standing = control_refusal want (control_in bytes)

-- what is refused of the files that the disk reads
abbrev pub open_refusal : Want → Files → Option OpenErr
open_refusal want seen = refused_over want (seen (control_name want)) (first_len (lens_in want seen))

-- what an opening answers that changes nothing, but for a fault of the disk and want of memory
abbrev pub IsRefusal : OpenErr → Type 0
IsRefusal err = (err ≢ Disk) × (err ≢ NoMemory)

-- It is refused just for this reason, and never opened where there is one.
pub record RefusesJust {T : Type 0} (want : Want) (seen : Files) (result : Result T OpenErr) : Type 0 where
  pub opened : OnOk result (open_refusal want seen ≡ None)
  pub refused : IfErr result (λ err. IsRefusal err → open_refusal want seen ≡ Some err)

-- What a refusal tells of the want: it has no info hash, or another piece length or length than the control file.
abbrev pub TellsWant : Want → OpenErr → Type 0
TellsWant want (Exists length) = want.info_hash ≡ None
TellsWant want (PieceLength have piece_len) = (piece_len ≡ want.plan.piece_len) × (have ≢ piece_len)
TellsWant want (Length have total) = (total ≡ want.plan.total) × (have ≢ total)
TellsWant want other = Unit {0}
