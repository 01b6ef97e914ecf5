-- Members of lists of files.
use Rattle.std.proofs.Common.{◌↔◌, ℕ, ◌<◌, Bool, true, false, List, length, IsTrue, MatchBool, refl, arith, get_or}
use Rattle.std.specs.List.{AllWithin, HoldsAt}
use Rattle.option_set.specs.Files.{IsMember, IsFileList, file_members}

-- all members name files, or some member doesn't
pub all_or_some : (text : List ℕ) (result : Bool)
    → MatchBool result (AllWithin IsMember (file_members text) 0 (length (file_members text)))
    ((k : ℕ) × (k < length (file_members text)) × HoldsAt (λ (m : List ℕ). IsMember m → ⊥) (file_members text) k)
    → IsTrue result ↔ IsFileList text
all_or_some text true all = (λ _ k d within. all k d (omega arith) within, λ _. refl)
all_or_some text false some = (λ e. cc, λ all. absurd (some.2 (get_or (file_members text) some.0 text) (all some.0 _ some.1)))
