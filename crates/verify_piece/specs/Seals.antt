-- What contracts see of a sealed piece.
use Rattle.std.specs.Prelude.{ℕ, List}

-- the number of a piece and its bytes
pub record PieceBytes : Type 0 where
  pub piece : ℕ
  pub bytes : List ℕ
