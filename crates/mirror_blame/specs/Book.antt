-- What contracts see of the marks.
use Rattle.std.specs.Prelude.{ℕ, List}
use Rattle.mirror_blame.specs.declared.blame.Blame.{Blame}

-- how many mirrors there are, the tries of each for a piece, the marks with the newest first, and room for how many more
pub record MarkBook : Type 0 where
  pub mirrors : ℕ
  pub max_tries : ℕ
  pub marks : List Blame
  pub spare : ℕ
