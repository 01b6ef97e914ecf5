-- What happens to one download. A history of a download is a list of these, the newest first.
use Rattle.std.specs.Prelude.{ℕ, Bool, List}
use Rattle.dl_kinds.specs.declared.claims.Claim.{Claim}
use Rattle.dl_kinds.specs.declared.marks.Mark.{Mark}
use Rattle.dl_kinds.specs.declared.runs.Moment.{Moment}
use Rattle.dl_kinds.specs.declared.runs.Run.{Run}
use Rattle.piece_table.specs.declared.giver.Giver.{Giver}

pub data OwnEvent : Type 0 where
  Opens : (verified blocks : List Bool) (now : Moment) → OwnEvent  -- it begins with these pieces and blocks
  Grants : (claim : Claim) → OwnEvent  -- blocks are claimed of a mirror, or it is probed by a claim of none
  Lands : (id mirror : ℕ) (run : Run) → OwnEvent  -- blocks of a claim come
  Settles : (piece : ℕ) (right : Bool) (giver : Giver) → OwnEvent  -- a piece is found right or wrong
  Clears : (piece : ℕ) → OwnEvent  -- the blocks of a piece go
  Loses : (id mirror piece : ℕ) (mark : Mark) → OwnEvent  -- a claim fails, at its first open block's piece
  Sizes : (id total : ℕ) → OwnEvent  -- a probe tells the payload's length
  Saves : (now : Moment) → OwnEvent  -- its progress is saved
  Checks : (right : Bool) → OwnEvent  -- the whole payload is found right or wrong
  Halts : (ends : Bool) → OwnEvent  -- it ends, leaves the active list, or the run stops: no claim stands on
