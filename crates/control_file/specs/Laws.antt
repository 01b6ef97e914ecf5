-- Reading gives what the bytes say, exactly where they are a control file.
use Rattle.std.specs.Prelude.{◌≡◌, ◌↔◌, ◌<◌, ℕ, List, All, Ok}
use Rattle.control_file.specs.declared.control.Control.{Control}
use Rattle.control_file.specs.declared.fields.ByteOrder.TheVariants.{Big}
use Rattle.control_file.specs.Spelling.{IsControlFile, IsWritableControl, control_bytes}
use Rattle.control_file.specs.Reading.{control_in}

-- whatever bytes
abbrev pub ControlFilesAreRead : Type 0
ControlFilesAreRead =
    (bytes : List ℕ) (control : Control) → All (λ byte. byte < 256) bytes
    → (control_in bytes ≡ Ok control) ↔ IsControlFile bytes control

abbrev pub WrittenIsReadBack : Type 0
WrittenIsReadBack = (control : Control) → IsWritableControl control → control_in (control_bytes Big control) ≡ Ok control
