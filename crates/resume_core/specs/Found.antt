-- What a control file comes to, and what it lists.
use Rattle.std.specs.Prelude.{◌≡◌, ◌⊎◌, ℕ, ◌==◌, ◌&&◌, Bool, true, List, [], if◌then◌else◌, slice_get, Contains, Option, Some, None, Result, Ok, Err}
use Rattle.std.specs.Str.{bytes_eq}
use Rattle.dl_disk.specs.Files.{Files}
use Rattle.dl_kinds.specs.Plan.{piece_of, place_of}
use Rattle.control_file.specs.Reading.{control_in}
use Rattle.control_file.specs.declared.control.Control.{Control}
use Rattle.control_file.specs.declared.control.InFlight.{InFlight}
use Rattle.control_file.specs.declared.fault.ControlErr.{ControlErr}
use Rattle.control_file.specs.declared.want.Want.{Want}
use Rattle.resume_core.specs.Wants.{control_name}

pub data Found : Type 0 where
  Absent : Found  -- no control file
  Refused : Found  -- one that can't be used
  Used : (control : Control) → Found

-- the info hash, and none of an unlisted want
abbrev pub hash_bytes : Option (List ℕ) → List ℕ
hash_bytes None = []
hash_bytes (Some hash) = hash

-- whether the control file is of this want
abbrev pub is_control_of : Want → Control → Bool
is_control_of want control =
    bytes_eq control.info_hash (hash_bytes want.info_hash)
    && control.piece_len == want.plan.piece_len && control.total == want.plan.total

abbrev pub judged : Want → Result Control ControlErr → Found
judged want (Err fault) = Refused
judged want (Ok control) = if is_control_of want control then Used control else Refused

-- what the bytes under its name come to
abbrev pub found : Want → Option (List ℕ) → Found
found want None = Absent
found want (Some bytes) = judged want (control_in bytes)

abbrev pub found_in : Want → Files → Found
found_in want image = found want (image (control_name want))

-- a control file stands, of use or not
abbrev pub ControlStands : Found → Type 0
ControlStands Absent = ⊥
ControlStands Refused = Unit {0}
ControlStands (Used control) = Unit {0}

-- the piece stands in the bit field
abbrev pub ListsPiece : Found → ℕ → Type 0
ListsPiece Absent piece = ⊥
ListsPiece Refused piece = ⊥
ListsPiece (Used control) piece = slice_get control.pieces piece ≡ Some true

-- the block has come of a piece that is in flight
pub record IsBlockInFlight (control : Control) (piece_len block : ℕ) : Type 0 where
  pub piece : InFlight
  pub listed : Contains control.flight piece
  pub of : piece.index ≡ piece_of piece_len block
  pub set : slice_get piece.blocks (place_of piece_len block) ≡ Some true

abbrev pub ListsInFlight : ℕ → Found → ℕ → Type 0
ListsInFlight piece_len Absent block = ⊥
ListsInFlight piece_len Refused block = ⊥
ListsInFlight piece_len (Used control) block = IsBlockInFlight control piece_len block

-- a block is listed with its piece, or in flight
abbrev pub ListsBlock : ℕ → Found → ℕ → Type 0
ListsBlock piece_len found block = ListsPiece found (piece_of piece_len block) ⊎ ListsInFlight piece_len found block
