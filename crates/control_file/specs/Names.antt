-- The names of control files (aria2 manual, "Control File").
use Rattle.std.specs.Prelude.{ℕ, List, ◌++◌, codes}

-- the control file of a payload with this name stands beside it
abbrev pub control_of : List ℕ → List ℕ
control_of name = name ++ codes ".aria2"

-- where a control file is written before it takes the place of the other
abbrev pub temporary_of : List ℕ → List ℕ
temporary_of name = name ++ codes ".aria2__temp"
