-- The texts of answers, in passages, and as the items of a list.
use Rattle.std.specs.Prelude.{◌≡◌, ℕ, zero, suc, Bool, false, if◌then◌else◌, List, [], ◌∷◌, ◌++◌, length}
use Rattle.std.specs.List.{flat_map}
use Rattle.std.specs.Str.{IsUtf8}
use Rattle.serde_json.specs.Data.{Data}
use Rattle.serde_json.specs.View.{items_of}
use Rattle.serde_json.specs.Written.{compact_text, items_have_float}
use Rattle.rpc_envelope.specs.declared.texts.Passage.{Passage}

-- a text, so many times
abbrev pub repeated : List ℕ → ℕ → List ℕ
repeated text zero = []
repeated text (suc n) = repeated text n ++ text

abbrev pub passage_text : Passage → List ℕ
passage_text passage = repeated passage.text.items passage.times

abbrev pub passages_text : List Passage → List ℕ
passages_text passages = flat_map passage_text passages

-- the length is that of the whole, which is text
pub record IsWhole (len : ℕ) (passages : List Passage) : Type 0 where
  pub long : len ≡ length (passages_text passages)
  pub utf8 : IsUtf8 (passages_text passages)

-- ---- a list of answers

-- with a comma before each
abbrev pub further_text : List Data → List ℕ
further_text [] = []
further_text (d ∷ ds) = 44 ∷ (compact_text d ++ further_text ds)

-- the text of a list without the bracket that closes it, and none of an empty one
abbrev pub listed_text : List Data → List ℕ
listed_text [] = []
listed_text (d ∷ ds) = 91 ∷ (compact_text d ++ further_text ds)

-- a bracket before the first, and a comma before each other
abbrev pub item_text : Bool → Data → List ℕ
item_text is_first d = (if is_first then 91 else 44) ∷ compact_text d

-- these stand behind the items that were listed
abbrev pub ListsFurther : List ℕ → List ℕ → List Data → Type 0
ListsFurther old new items = (before : List Data) → old ≡ listed_text before → new ≡ listed_text (before ++ items)

-- they have no float
abbrev pub ArePlainData : List Data → Type 0
ArePlainData items = items_have_float (items_of items) ≡ false
