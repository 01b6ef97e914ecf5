-- The line that a load prints.
use Rattle.std.specs.Prelude.{ℕ, List, ◌++◌, codes}
use Rattle.std.specs.Fmt.{decimal}
use Rattle.hex.specs.Hex.{encode_lower}

unfoldable pub whole_line : ℕ → ℕ → List ℕ → List ℕ
whole_line n right digest =
    codes "load "
    ++ decimal n
    ++ codes " pieces 64 right "
    ++ decimal right
    ++ codes " bytes 67108864 sha1 "
    ++ encode_lower digest
    ++ codes "\n"

unfoldable pub failed_line : ℕ → ℕ → List ℕ
failed_line n status = codes "load " ++ decimal n ++ codes " status " ++ decimal status ++ codes "\n"
