-- The defaults of the options, and lists of six.
use Rattle.std.proofs.Common.{◌≡◌, ℕ, zero, suc, ◌+◌, ◌<◌, List, [], ◌∷◌, ◌++◌, length, take, get_or, refl, ◌∙◌, ap, arith, lit≤, lit<, append-nil}
use Rattle.std.proofs.lemmas.List.{take_more}
use Rattle.std.specs.List.{flat_map}
use Rattle.std.proofs.lemmas.Grind.{flat_map-append}
use Rattle.option_set.specs.declared.kinds.Num.{Num}
use Rattle.option_set.specs.declared.kinds.Num.TheVariants.{AutoSaveInterval, CheckIntegrity, EnableRpc, MaxConcurrentDownloads, MaxConnectionPerServer, MaxDownloadLimit, MaxOverallDownloadLimit, MaxTries, MinSplitSize, Pause, PieceLength, RpcListenPort, RpcMaxRequestSize, Split}
use Rattle.option_set.specs.declared.kinds.Word.{Word}
use Rattle.option_set.specs.declared.kinds.Word.TheVariants as word
use Rattle.option_set.specs.Settings.{IsWithinLimits, MeetsRule}
use Rattle.option_set.specs.Table.{row_of_text}
use Rattle.option_set.specs.Values.{default_values, AreValues, number_value, text_of_word}
use Rattle.std.specs.Prelude.{IfSome, codes}

-- each default is within its limits
default_within : (num : Num) → IsWithinLimits num (number_value default_values num)
default_within AutoSaveInterval = (lit≤ tt, lit≤ tt)
default_within CheckIntegrity = (lit≤ tt, lit≤ tt)
default_within EnableRpc = (lit≤ tt, lit≤ tt)
default_within MaxConcurrentDownloads = (lit≤ tt, lit≤ tt)
default_within MaxConnectionPerServer = (lit≤ tt, lit≤ tt)
default_within MaxDownloadLimit = (lit≤ tt, lit≤ tt)
default_within MaxOverallDownloadLimit = (lit≤ tt, lit≤ tt)
default_within MaxTries = (lit≤ tt, lit≤ tt)
default_within MinSplitSize = (lit≤ tt, lit≤ tt)
default_within Pause = (lit≤ tt, lit≤ tt)
default_within PieceLength = (lit≤ tt, lit≤ tt)
default_within RpcListenPort = (lit≤ tt, lit≤ tt)
default_within RpcMaxRequestSize = (lit≤ tt, lit≤ tt)
default_within Split = (lit≤ tt, lit≤ tt)

no_nul : (k : ℕ) → k < 1 → get_or (codes ".") k 0 ≡ 0 → ⊥
no_nul zero within e = omega (arith, e)
no_nul (suc k) within e = omega (arith, within)

-- the folder of no other name is a text that its rule lets stand
default_met : (text : Word) → IfSome (text_of_word default_values text) (MeetsRule (row_of_text text).rule)
default_met word.Checksum = tt
default_met word.Dir = (lit< tt, λ nul. no_nul nul.0 nul.1 nul.2)
default_met word.Gid = tt
default_met word.Out = tt
default_met word.RpcSecret = tt
default_met word.SelectFile = tt

pub defaults_are_values : AreValues default_values
defaults_are_values = record { numbers_len = refl; texts_len = refl; within = default_within; met = default_met }

-- a list of six is its six elements
pub six : {A : Type 0} (xs : List A) (d0 d1 d2 d3 d4 d5 : A) → length xs ≡ 6
    → get_or xs 0 d0 ∷ get_or xs 1 d1 ∷ get_or xs 2 d2 ∷ get_or xs 3 d3 ∷ get_or xs 4 d4 ∷ get_or xs 5 d5 ∷ [] ≡ xs
six (a ∷ b ∷ c ∷ e ∷ f ∷ g ∷ []) d0 d1 d2 d3 d4 d5 len = refl
six xs d0 d1 d2 d3 d4 d5 len = let none : ⊥ = omega (arith, len) in absurd none

-- what one option more adds
pub one_more : {A B : Type 0} (f : A → List B) (xs : List A) (i : ℕ) (d : A) → i < length xs
    → flat_map f (take (i + 1) xs) ≡ flat_map f (take i xs) ++ f (get_or xs i d)
one_more f xs i d within =
    ap (flat_map f) (take_more xs i d within) ∙ flat_map-append f (take i xs) (get_or xs i d ∷ [])
    ∙ ap (λ l. flat_map f (take i xs) ++ l) (append-nil (f (get_or xs i d)))

-- .. and so are six that equal them
pub six_are : {A : Type 0} (xs : List A) (d0 d1 d2 d3 d4 d5 p q r s t u : A) → length xs ≡ 6
    → p ≡ get_or xs 0 d0 → q ≡ get_or xs 1 d1 → r ≡ get_or xs 2 d2
    → s ≡ get_or xs 3 d3 → t ≡ get_or xs 4 d4 → u ≡ get_or xs 5 d5
    → p ∷ q ∷ r ∷ s ∷ t ∷ u ∷ [] ≡ xs
six_are xs d0 d1 d2 d3 d4 d5 p q r s t u len e0 e1 e2 e3 e4 e5 =
    let whole = six xs d0 d1 d2 d3 d4 d5 len in
    rw (e0, e1, e2, e3, e4, e5) whole
