-- What holds of the meaning of words.
use Rattle.std.specs.Prelude.{◌≡◌, ℕ, List}
use Rattle.command_line.specs.Lines.{IsLine}
use Rattle.command_line.specs.declared.line.CommandLine.{CommandLine}

-- words mean one line at most
abbrev pub LinesAreOne : Type 0
LinesAreOne =
    (words : List (List ℕ)) (one other : CommandLine) → IsLine words one → IsLine words other → one ≡ other
