-- The texts of answers, in passages, and as the items of a list.
use Rattle.std.proofs.Common.{◌≡◌, ◌∙◌, ◌==◌, ◌+◌, ◌<◌, get_or, take, ℕ, suc, List, [], ◌∷◌, ◌++◌, Bool, true, false, true≢false, length, refl, sym, ap, append_assoc, arith, Some, None, option_map}
use Rattle.std.proofs.lemmas.Bool.{ne_eqb}
use Rattle.std.proofs.lemmas.List.{append-nil, take_more}
use Rattle.std.proofs.lemmas.List.Concat.{flat_map-append}
use Rattle.std.specs.List.{flat_map}
use Rattle.serde_json.specs.Data.{Data}
use Rattle.serde_json.specs.View.{items_of}
use Rattle.serde_json.specs.Written.{compact_text, items_text}
use Rattle.rpc_envelope.specs.Answers.{list_if_any}
use Rattle.rpc_envelope.specs.Texts.{repeated, passage_text, passages_text, further_text, listed_text, item_text, ListsFurther}
use Rattle.rpc_envelope.specs.declared.texts.Passage.{Passage}

-- ---- passages

pub passages_more : (passages : List Passage) (passage : Passage)
    → passages_text (passages ++ passage ∷ []) ≡ passages_text passages ++ passage_text passage
passages_more passages passage =
    flat_map-append passage_text passages (passage ∷ []) ∙ ap (λ text. passages_text passages ++ text) (append-nil (passage_text passage))

-- one passage more of those that are read
pub passages_next : (passages : List Passage) (i : ℕ) (passage : Passage) → i < length passages
    → passage ≡ get_or passages i passage
    → passages_text (take (i + 1) passages) ≡ passages_text (take i passages) ++ passage_text passage
passages_next passages i passage within is =
    ap passages_text (take_more passages i passage within
    ∙ ap (λ (p : Passage). take i passages ++ p ∷ []) (sym is))
    ∙ passages_more (take i passages) passage

-- a text stands behind the passages
pub once_more : (passages : List Passage) (passage : Passage) → passage.times ≡ 1
    → passages_text (passages ++ passage ∷ []) ≡ passages_text passages ++ passage.text.items
once_more passages passage once =
    passages_more passages passage ∙ ap (λ times. passages_text passages ++ repeated passage.text.items times) once

-- .. once more behind a passage of it
pub times_more : (passages : List Passage) (last passage : Passage) → passage.times ≡ last.times + 1
    → last.text.items ≡ passage.text.items
    → passages_text (passages ++ passage ∷ []) ≡ passages_text (passages ++ last ∷ []) ++ passage.text.items
times_more passages last passage more same =
    let text = passage.text.items in
    let grows : passage.times ≡ suc last.times = omega (arith, more) in
    let one : passage_text passage ≡ repeated text last.times ++ text = ap (repeated text) grows in
    let was : passage_text last ≡ repeated text last.times = ap (λ t. repeated t last.times) same in
    passages_more passages passage ∙ (ap (λ t. passages_text passages ++ t) one
    ∙ (sym (append_assoc (passages_text passages) (repeated text last.times) text)
    ∙ ap (λ t. t ++ text) (ap (λ t. passages_text passages ++ t) (sym was) ∙ sym (passages_more passages last))))

-- ---- items

further_more : (items : List Data) (d : Data) → further_text (items ++ d ∷ []) ≡ further_text items ++ 44 ∷ compact_text d
further_more [] d = ap (λ text. 44 ∷ text) (append-nil (compact_text d))
further_more (e ∷ items) d =
    ap (λ text. 44 ∷ text) (ap (λ text. compact_text e ++ text) (further_more items d)
    ∙ sym (append_assoc (compact_text e) (further_text items) (44 ∷ compact_text d)))

-- a list that has an item has a text
pub some_is : {A : Type 0} (x : A) (xs : List A) → (length (x ∷ xs) == 0) ≡ false
some_is x xs = ne_eqb (length (x ∷ xs)) 0 (λ same. let none : ⊥ = omega (arith, same) in none)

listed_more : (before : List Data) (d : Data) (first : Bool) → first ≡ (length (listed_text before) == 0)
    → listed_text before ++ item_text first d ≡ listed_text (before ++ d ∷ [])
listed_more [] d first e = ap (λ is. item_text is d) e ∙ ap (λ text. 91 ∷ text) (sym (append-nil (compact_text d)))
listed_more (x ∷ before) d first e =
    ap (λ is. listed_text (x ∷ before) ++ item_text is d) (e ∙ some_is 91 (compact_text x ++ further_text before))
    ∙ ap (λ text. 91 ∷ text) (append_assoc (compact_text x) (further_text before) (44 ∷ compact_text d)
    ∙ ap (λ text. compact_text x ++ text) (sym (further_more before d)))

-- one more is listed
pub lists_on : (old new text : List ℕ) (d : Data) (first : Bool) → first ≡ (length old == 0) → text ≡ item_text first d
    → new ≡ old ++ text → ListsFurther old new (d ∷ [])
lists_on old new text d first e e' e'' before is =
    e'' ∙ ((λ i. is i ++ e' i) ∙ listed_more before d first (e ∙ ap (λ l. length l == 0) is))

pub lists_none : (old : List ℕ) → ListsFurther old old []
lists_none old before is = is ∙ ap listed_text (sym (append-nil before))

-- ---- the bracket that closes

further_closed : (items : List Data) → further_text items ++ 93 ∷ [] ≡ items_text true (items_of items)
further_closed [] = refl
further_closed (d ∷ items) =
    ap (λ text. 44 ∷ text) (append_assoc (compact_text d) (further_text items) (93 ∷ [])
    ∙ ap (λ text. compact_text d ++ text) (further_closed items))

pub closed : (list : List ℕ) (items : List Data) → list ≡ listed_text items → (length list == 0) ≡ false
    → Some (list ++ 93 ∷ []) ≡ option_map compact_text (list_if_any items)
closed list [] is some = absurd (true≢false (sym (ap (λ l. length l == 0) is) ∙ some))
closed list (d ∷ items) is some =
    ap Some (ap (λ l. l ++ 93 ∷ []) is
    ∙ ap (λ text. 91 ∷ text) (append_assoc (compact_text d) (further_text items) (93 ∷ [])
    ∙ ap (λ text. compact_text d ++ text) (further_closed items)))

pub closed_none : (list : List ℕ) (items : List Data) → list ≡ listed_text items → (length list == 0) ≡ true
    → None ≡ option_map compact_text (list_if_any items)
closed_none list [] is none = refl
closed_none list (d ∷ items) is none =
    absurd (true≢false (sym none ∙ (ap (λ l. length l == 0) is ∙ some_is 91 (compact_text d ++ further_text items))))
