-- What an answer of the reader says of the bytes.
use Rattle.std.proofs.Common.{◌≡◌, ℕ, ◌<◌, List, All, Result, Ok, Err, ap, subst, ◌∙◌}
use Rattle.std.specs.Prelude.{IfOk}
use Rattle.std.specs.Global.{Vec}
use Rattle.std.specs.declared.alloc.AllocError.{AllocError}
use Rattle.dl_kinds.specs.Answers.{Gives}
use Rattle.control_file.specs.declared.control.Control.{Control}
use Rattle.control_file.specs.declared.fault.ControlErr.{ControlErr}
use Rattle.control_file.specs.declared.fields.ByteOrder.TheVariants.{Big}
use Rattle.control_file.specs.Laws.{ControlFilesAreRead}
use Rattle.control_file.specs.Reading.{control_fault, control_in}
use Rattle.control_file.specs.Spelling.{IsControlFile, control_bytes}

module _ (law : ControlFilesAreRead) (bytes : List ℕ) (small : All (λ byte. byte < 256) bytes) where
  pub found : (answer : Result Control ControlErr)
      → Gives (λ control. control) control_fault answer (control_in bytes) → IfOk answer (IsControlFile bytes)
  found (Ok control) e = (law bytes control small).0 e
  found (Err fault) e = tt

  pub only : (answer : Result Control ControlErr) (control : Control) → IsControlFile bytes control
      → Gives (λ c. c) control_fault answer (control_in bytes)
      → Gives (λ c. c) control_fault answer (Ok control)
  only answer control file exact =
      subst (λ (read : Result Control ControlErr). Gives (λ c. c) control_fault answer read)
      ((law bytes control small).1 file) exact

-- what was written is read back
pub read_back : (control : Control) → control_in (control_bytes Big control) ≡ Ok control
    → (answer : Result (Vec ℕ) AllocError)
    → IfOk answer (λ bytes. bytes.items ≡ control_bytes Big control)
    → IfOk answer (λ bytes. control_in bytes.items ≡ Ok control)
read_back control law (Ok bytes) written = ap control_in written ∙ law
read_back control law (Err e) written = tt
