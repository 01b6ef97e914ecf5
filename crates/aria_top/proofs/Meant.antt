-- What it means that words were found to mean something.
use Rattle.std.proofs.Common.{◌≡◌, ℕ, List, Option, None, Some, Result, Ok, Err, subst}
use Rattle.std.specs.Prelude.{MatchOption}
use Rattle.command_line.specs.declared.line.CommandLine.{CommandLine}
use Rattle.command_meanings.specs.Meanings.{HaveMeaning, LackMeaning}
use Rattle.command_meanings.specs.declared.meanings.Meaning.{Meaning}
use Rattle.command_meanings.specs.declared.meanings.Meaning.TheVariants.{Download, Load}

same_meaning : (x m : Meaning) → Some x ≡ Some m → x ≡ m
same_meaning x m is = cc

pub has_found : (words : List (List ℕ)) (found : Option Meaning) (m : Meaning) → found ≡ Some m
    → MatchOption found (LackMeaning words) (HaveMeaning words) → HaveMeaning words m
has_found words None m is holds = absurd (let never : None ≡ Some m = is in cc)
has_found words (Some x) m is holds = subst (HaveMeaning words) (same_meaning x m is) holds

pub lacks_found : (words : List (List ℕ)) (found : Option Meaning) → found ≡ None
    → MatchOption found (LackMeaning words) (HaveMeaning words) → LackMeaning words
lacks_found words None is holds = holds
lacks_found words (Some x) is holds = absurd (let never : Some x ≡ None = is in cc)

pub line_not_load : {E : Type 0} (r : Result (Option Meaning) E) (found : Option Meaning) (m : Meaning) (line : CommandLine)
    (n : ℕ) → r ≡ Ok found → found ≡ Some m → m ≡ Download line → r ≡ Ok (Some (Load n)) → ⊥
line_not_load r found m line n is some by load = cc

pub none_not_load : {E : Type 0} (r : Result (Option Meaning) E) (found : Option Meaning) (n : ℕ) → r ≡ Ok found → found ≡ None
    → r ≡ Ok (Some (Load n)) → ⊥
none_not_load r found n is none load = cc

pub err_not_load : {E : Type 0} (r : Result (Option Meaning) E) (e : E) (n : ℕ) → r ≡ Err e → r ≡ Ok (Some (Load n)) → ⊥
err_not_load r e n is load = cc
