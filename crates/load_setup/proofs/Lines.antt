-- The lines, as they are written part by part.
use Rattle.std.proofs.Common.{◌≡◌, ℕ, List, ◌++◌, append_assoc}
use Rattle.std.specs.Fmt.{decimal}
use Rattle.std.specs.Prelude.{codes}
use Rattle.hex.specs.Hex.{encode_lower}
use Rattle.load_setup.specs.Line.{failed_line, whole_line}

pub failed-text : (n status : ℕ) → codes "load " ++ (decimal n ++ (codes " status " ++ (decimal status ++ codes "\n"))) ≡ failed_line n status
unfolding failed_line
failed-text n status = joined (codes "load ") (decimal n) (codes " status ") (decimal status) (codes "\n")
  where
    joined : (a b c d e : List ℕ) → a ++ (b ++ (c ++ (d ++ e))) ≡ a ++ b ++ c ++ d ++ e
    joined a b c d e = simp append_assoc

pub whole-text : (n right : ℕ) (digest : List ℕ)
    → codes "load " ++ (decimal n ++ (codes " pieces 64 right " ++ (decimal right ++ (codes " bytes 67108864 sha1 " ++ (encode_lower digest ++ codes "\n")))))
    ≡ whole_line n right digest
unfolding whole_line
whole-text n right digest =
    joined (codes "load ") (decimal n) (codes " pieces 64 right ") (decimal right) (codes " bytes 67108864 sha1 ") (encode_lower digest) (codes "\n")
  where
    joined : (a b c d e f g : List ℕ) → a ++ (b ++ (c ++ (d ++ (e ++ (f ++ g))))) ≡ a ++ b ++ c ++ d ++ e ++ f ++ g
    joined a b c d e f g = simp append_assoc
