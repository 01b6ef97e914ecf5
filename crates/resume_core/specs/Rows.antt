-- Rows of pieces and of blocks that are made of what a control file lists and of what stands on the disk.
use Rattle.std.specs.Prelude.{◌≡◌, ◌↔◌, ◌⊎◌, ◌<◌, ℕ, Bool, true, false, ◌||◌, ◌&&◌, not, is_some, List, length, slice_get, Contains, IsSome, Option, Some, None}
use Rattle.dl_kinds.specs.Plan.{piece_of, place_of}
use Rattle.control_file.specs.Reading.{control_in}
use Rattle.control_file.specs.declared.control.Control.{Control}
use Rattle.control_file.specs.declared.control.InFlight.{InFlight}
use Rattle.control_file.specs.declared.want.Want.{Want}
use Rattle.std.specs.Prelude.{Ok}
use Rattle.control_file.specs.Spelling.{IsReadableControl}
use Rattle.resume_core.specs.Found.{IsBlockInFlight}
use Rattle.resume_core.specs.Listing.{BlockListed, IsListingOf, PieceListed}
use Rattle.dl_disk.specs.Files.{Files}
use Rattle.resume_core.specs.Lens.{AreWhole, BlockStands, PieceStands, lens_in}
use Rattle.resume_core.specs.Refusals.{foreign}
use Rattle.resume_core.specs.Wants.{control_name}
use Rattle.resume_core.specs.declared.surveying.Survey.{Survey}

-- a row of this length that is true just where this holds
pub record IsRowWhere (n : ℕ) (P : ℕ → Type 0) (row : List Bool) : Type 0 where
  pub len : length row ≡ n
  pub exact : (place : ℕ) → (slice_get row place ≡ Some true) ↔ ((place < n) × P place)

-- the piece is listed, and stands
abbrev pub ListedStands : Want → List (Option ℕ) → List Bool → ℕ → Type 0
ListedStands want lens listed piece = (slice_get listed piece ≡ Some true) × PieceStands want lens piece

-- the block has come of this piece in flight
abbrev pub IsBlockIn : InFlight → ℕ → ℕ → Type 0
IsBlockIn piece piece_len block =
    (piece_of piece_len block ≡ piece.index) × (slice_get piece.blocks (place_of piece_len block) ≡ Some true)

-- the block's piece is given, or the block has come and stands
abbrev pub BlockGiven : Want → List (Option ℕ) → List Bool → List Bool → ℕ → Type 0
BlockGiven want lens verified flying block =
    (slice_get verified (piece_of want.plan.piece_len block) ≡ Some true)
    ⊎ ((slice_get flying block ≡ Some true) × BlockStands want lens block)

-- no control file stands, or this one does, which is the want's
abbrev pub IsOurControl : Want → Option Control → Option (List ℕ) → Type 0
IsOurControl want None file = file ≡ None
IsOurControl want (Some control) file =
    (bytes : List ℕ) × (file ≡ Some bytes) × (control_in bytes ≡ Ok control) × (foreign want control ≡ None)

-- the control file is the want's, by the rules of a reader
pub record IsControlOf (want : Want) (control : Control) : Type 0 where
  pub rules : IsReadableControl control
  pub same : foreign want control ≡ None

-- the piece is listed by the control file that stands, and stands itself
abbrev pub IsListedPiece : Want → List (Option ℕ) → Option Control → ℕ → Type 0
IsListedPiece want lens None piece = ⊥
IsListedPiece want lens (Some control) piece = ListedStands want lens control.pieces piece

-- the block has come by the control file that stands, which isn't passed over
abbrev pub IsFlyingBlock : Want → Option Control → Bool → ℕ → Type 0
IsFlyingBlock want None compared block = ⊥
IsFlyingBlock want (Some control) true block = ⊥
IsFlyingBlock want (Some control) false block = IsBlockInFlight control want.plan.piece_len block

-- whether pieces are compared with their digests: at will, and those of a listed want where no control file stands
abbrev pub hashes : Want → Option Control → Bool → Bool
hashes want control compared = compared || not (is_some control) && is_some want.info_hash

-- a control file of the want that lists nothing
pub record ListsNothing (want : Want) (control : Control) : Type 0 where
  pub listing : IsListingOf want control
  pub pieces : (piece : ℕ) → PieceListed control piece → ⊥
  pub blocks : (block : ℕ) → BlockListed want control block → ⊥

-- what was looked up is what stands: the control file, if any, which is the want's, and the length of each file
pub record IsSurvey (want : Want) (survey : Survey) (seen : Files) : Type 0 where
  pub control : IsOurControl want survey.control (seen (control_name want))
  pub lens : survey.lens.items ≡ lens_in want seen

-- a control file stood, or each file had its length
abbrev pub StoodOrWhole : Want → Survey → Type 0
StoodOrWhole want survey = IsSome survey.control ⊎ AreWhole want survey.lens.items

-- the block has come of one of these pieces in flight
abbrev pub IsBlockOfOne : List InFlight → ℕ → ℕ → Type 0
IsBlockOfOne flight piece_len block = (piece : InFlight) × Contains flight piece × IsBlockIn piece piece_len block
