-- The function that reads a Content-Range reads what the grammar spells, and nothing else.
use Rattle.std.proofs.Common.{◌≡◌, ℕ, ◌+◌, ◌<◌, List, [], ◌∷◌, ◌++◌, append_assoc, length, take, drop, get_or, arith, inl, inr, ap, sym, ◌∙◌, refl, Bool, false, cond, add-one, drop-cons, subst, suc}
use Rattle.std.proofs.Math.Seq.{take-append_seam, drop-append_seam, drop-append-add}
use Rattle.std.proofs.lemmas.Bool.{cond-true, cond-false, lt-ltb, leb-true, le-leb, eqb-true, eq-eqb, ne_eqb, false_from_ne_true, cases_Bool}
use Rattle.std.proofs.lemmas.List.{length-append, take-append-drop}
use Rattle.std.proofs.lemmas.List.Quantifiers.{position-Some}
use Rattle.std.proofs.lemmas.Option.{cond_some, none-some, same_Some}
use Rattle.std.proofs.lemmas.Slice.Eq.{bytes_eq-Decides}
use Rattle.std.proofs.lemmas.Str.Parse.{digit_from_value}
use Rattle.std.specs.List.{position_or_len}
use Rattle.std.specs.Prelude.{Option, Some, None, option_map, position, codes, bytes_eq, nat_le, ◌==◌, not, ⊤, ◌≢◌, ◌↔◌}
use Rattle.std.specs.Str.Parse.{AllDigits, digits_value}
use Rattle.range_http.specs.declared.range.ContentRange.{ContentRange}
use Rattle.range_http.specs.Range.{WritesNumber, IsSpan, IsStarOr, IsContentRange, ◌>>=◌, is_number, number_of, without_prefix, parts_at, starred, span_of, is_range, unitless_range_of, range_of}
use Rattle.range_http.proofs.NumberLemmas.{is_number-true, number_of-some}

-- a step that had an answer
step : {A B : Type 0} (first : Option A) (next : A → Option B) (y : B) → first >>= next ≡ Some y → (x : A) × (first ≡ Some x) × (next x ≡ Some y)
step None next y is = absurd (none-some y is)
step (Some x) next y is = (x, refl, is)

-- and one with an answer, which goes on
goes : {A B : Type 0} (first : Option A) (next : A → Option B) (x : A) (y : B) → first ≡ Some x → next x ≡ Some y → first >>= next ≡ Some y
goes first next x y is then = ap (λ o. o >>= next) is ∙ then

-- ---- from the function to the grammar

number-is : (text : List ℕ) (n : ℕ) → number_of text ≡ Some n → WritesNumber text n
number-is text n is =
    let both = cond_some (is_number text) (digits_value 10 text) n is in
    let parts = is_number-true text both.0 in
    record { digits = parts.0; value = both.1; small = omega (arith, parts.1, both.1) }

prefix-is : (prefix text rest : List ℕ) → without_prefix prefix text ≡ Some rest → text ≡ prefix ++ rest
prefix-is prefix text rest is =
    let both = cond_some (bytes_eq (take (length prefix) text) prefix) (drop (length prefix) text) rest is in
    let front : take (length prefix) text ≡ prefix = (bytes_eq-Decides (take (length prefix) text) prefix).0 both.0 in
    sym (take-append-drop (length prefix) text) ∙ ap (λ a. a ++ drop (length prefix) text) front ∙ ap (λ b. prefix ++ b) both.1

mapped : {A B : Type 0} (o : Option A) (f : A → B) (y : B) → option_map f o ≡ Some y → (x : A) × (o ≡ Some x) × (f x ≡ y)
mapped None f y is = absurd (none-some y is)
mapped (Some x) f y is = (x, refl, same_Some (f x) y is)

parts-are : (mark : ℕ) (text : List ℕ) (parts : List ℕ × List ℕ) → parts_at mark text ≡ Some parts → text ≡ parts.0 ++ mark ∷ parts.1
parts-are mark text parts is =
    let at = mapped (position (λ byte. byte == mark) text) (λ i. (take i text, drop (i + 1) text)) parts is in
    let found = position-Some (λ byte. byte == mark) text at.0 0 at.1 in
    sym (take-append-drop at.0 text)
    ∙ ap (λ b. take at.0 text ++ b) (drop-cons text at.0 0 found.0 ∙ ap (λ c. c ∷ drop (suc at.0) text) (eqb-true (get_or text at.0 0) mark found.1) ∙ ap (λ n. mark ∷ drop n text) (sym (add-one at.0)))
    ∙ ap (λ p. p.0 ++ mark ∷ p.1) at.2

star-is : {A : Type 0} (read : List ℕ → Option A) (Is : List ℕ → A → Type 0) → ((text : List ℕ) (x : A) → read text ≡ Some x → Is text x)
    → (text : List ℕ) (told : Option A) → starred read text ≡ Some told → IsStarOr Is text told
star-is read Is means text told is =
    elim (cases_Bool (bytes_eq text (codes "*"))) [
      | inl starred_is ↦
          let none : None ≡ told = same_Some None told (sym (cond-true _ _ _ starred_is) ∙ is) in
          subst (IsStarOr Is text) none ((bytes_eq-Decides text (codes "*")).0 starred_is)
      | inr other ↦
          let at = mapped (read text) Some told (sym (cond-false _ _ _ other) ∙ is) in
          subst (IsStarOr Is text) at.2 (means text at.0 at.1)
    ]

span-is : (text : List ℕ) (span : ℕ × ℕ) → span_of text ≡ Some span → IsSpan text span
span-is text span is =
    let cut = step (parts_at 45 text) _ span is in
    let first = step (number_of cut.0.0) _ span cut.2 in
    let last = step (number_of cut.0.1) _ span first.2 in
    let both = cond_some (nat_le first.0 last.0) (first.0, last.0) span last.2 in
    let pair : ℕ × ℕ = (first.0, last.0) in
    let spells : IsSpan text pair = record {
      first = cut.0.0;
      last = cut.0.1;
      is = parts-are 45 text cut.0 cut.1 ∙ sym (append_assoc cut.0.0 (45 ∷ []) cut.0.1);
      first_is = number-is cut.0.0 first.0 first.1;
      last_is = number-is cut.0.1 last.0 last.1;
      order = leb-true first.0 last.0 both.0;
    } in
    subst (IsSpan text) both.1 spells

regroup : (unit span slash total : List ℕ) → unit ++ (span ++ (slash ++ total)) ≡ unit ++ span ++ slash ++ total
regroup unit span slash total = simp append_assoc

range-is : (text : List ℕ) (range : ContentRange) → range_of text ≡ Some range → IsContentRange text range
range-is text range is =
    let unit = step (without_prefix (codes "bytes ") text) unitless_range_of range is in
    let cut = step (parts_at 47 unit.0) _ range unit.2 in
    let span = step (starred span_of cut.0.0) _ range cut.2 in
    let total = step (starred number_of cut.0.1) _ range span.2 in
    let both = cond_some (is_range span.0 total.0) (record { span = span.0; total = total.0 }) range total.2 in
    let spells : IsContentRange text (record { span = span.0; total = total.0 }) = record {
      span = cut.0.0;
      total = cut.0.1;
      is = prefix-is (codes "bytes ") text unit.0 unit.1 ∙ ap (λ behind. codes "bytes " ++ behind) (parts-are 47 unit.0 cut.0 cut.1)
          ∙ regroup (codes "bytes ") cut.0.0 (47 ∷ []) cut.0.1;
      span_is = star-is span_of IsSpan span-is cut.0.0 span.0 span.1;
      total_is = star-is number_of WritesNumber number-is cut.0.1 total.0 total.1;
      told = both.0;
    } in
    subst (IsContentRange text) both.1 spells

-- ---- from the grammar to the function

number-from : (text : List ℕ) (n : ℕ) → WritesNumber text n → number_of text ≡ Some n
number-from text n is = number_of-some text is.digits (omega (arith, is.small, is.value)) ∙ ap Some is.value

prefix-from : (prefix rest : List ℕ) → without_prefix prefix (prefix ++ rest) ≡ Some rest
prefix-from prefix rest =
    cond-true _ _ _ ((bytes_eq-Decides (take (length prefix) (prefix ++ rest)) prefix).1 (take-append_seam prefix rest))
    ∙ ap Some (drop-append_seam prefix rest)

-- the byte isn't in the text
abbrev Avoids : ℕ → List ℕ → Type 0
Avoids mark [] = ⊤
Avoids mark (c ∷ text) = (c ≢ mark) × Avoids mark text

avoids-append : (mark : ℕ) (a b : List ℕ) → Avoids mark a → Avoids mark b → Avoids mark (a ++ b)
avoids-append mark [] b front back = back
avoids-append mark (c ∷ a) b front back = (front.0, avoids-append mark a b front.1 back)

-- no digit is below 48
digits-avoid : (mark : ℕ) (text : List ℕ) → mark < 48 → AllDigits 10 text → Avoids mark text
digits-avoid mark [] low all = tt
digits-avoid mark (c ∷ text) low all = (λ is. omega (arith, digit_from_value c all.0, is, low), digits-avoid mark text low all.1)

-- the first such byte stands behind what has none
place : (mark : ℕ) (a b : List ℕ) → Avoids mark a → position_or_len (λ byte. byte == mark) (a ++ mark ∷ b) ≡ length a
place mark [] b avoids =
    ap (λ t. cond (not t) (1 + position_or_len (λ byte. byte == mark) b) 0) (eq-eqb mark mark refl)
place mark (c ∷ a) b avoids =
    let others = place mark a b avoids.1 in
    ap (λ t. cond (not t) (1 + position_or_len (λ byte. byte == mark) (a ++ mark ∷ b)) 0) (ne_eqb c mark avoids.0) ∙ omega (arith, others)

parts-from : (mark : ℕ) (a b : List ℕ) → Avoids mark a → parts_at mark (a ++ mark ∷ b) ≡ Some (a, b)
parts-from mark a b avoids =
    let text = a ++ mark ∷ b in
    let test : ℕ → Bool = λ byte. byte == mark in
    let at = place mark a b avoids in
    let within : position_or_len test text < length text = omega (arith, at, length-append a (mark ∷ b)) in
    let found : position test text ≡ Some (length a) = cond-true _ _ _ (lt-ltb _ _ within) ∙ ap Some at in
    ap (option_map (λ i. (take i text, drop (i + 1) text))) found
    ∙ (λ i. Some (take-append_seam a (mark ∷ b) i, drop-append-add a (mark ∷ b) 1 i))

star-from : {A : Type 0} (read : List ℕ → Option A) (Is : List ℕ → A → Type 0) → read (codes "*") ≡ None → ((text : List ℕ) (x : A) → Is text x → read text ≡ Some x)
    → (text : List ℕ) (told : Option A) → IsStarOr Is text told → starred read text ≡ Some told
star-from read Is star means text None is = cond-true _ _ _ ((bytes_eq-Decides text (codes "*")).1 is)
star-from read Is star means text (Some x) is =
    let reads = means text x is in
    let other : bytes_eq text (codes "*") ≡ false =
    false_from_ne_true _ (λ same. none-some x (sym star ∙ (ap read (sym ((bytes_eq-Decides text (codes "*")).0 same)) ∙ reads))) in
    cond-false _ _ _ other ∙ ap (option_map Some) reads

span-from : (text : List ℕ) (span : ℕ × ℕ) → IsSpan text span → span_of text ≡ Some span
span-from text span is =
    let cut : parts_at 45 text ≡ Some (is.first, is.last) =
    ap (parts_at 45) (is.is ∙ append_assoc is.first (45 ∷ []) is.last)
    ∙ parts-from 45 is.first is.last (digits-avoid 45 is.first (omega arith) is.first_is.digits.1) in
    goes (parts_at 45 text) _ (is.first, is.last) span cut
    (goes (number_of is.first) _ span.0 span (number-from is.first span.0 is.first_is)
    (goes (number_of is.last) _ span.1 span (number-from is.last span.1 is.last_is) (cond-true _ _ _ (le-leb span.0 span.1 is.order))))

span-avoids : (text : List ℕ) (told : Option (ℕ × ℕ)) → IsStarOr IsSpan text told → Avoids 47 text
span-avoids text None is = subst (Avoids 47) (sym is) ((λ e. omega (arith, e)), tt)
span-avoids text (Some span) is =
    subst (Avoids 47) (sym is.is)
    (avoids-append 47 (is.first ++ codes "-") is.last
    (avoids-append 47 is.first (codes "-") (digits-avoid 47 is.first (omega arith) is.first_is.digits.1) ((λ e. omega (arith, e)), tt))
    (digits-avoid 47 is.last (omega arith) is.last_is.digits.1))

range-from : (text : List ℕ) (range : ContentRange) → IsContentRange text range → range_of text ≡ Some range
range-from text range is =
    let behind = is.span ++ 47 ∷ is.total in
    let unit : without_prefix (codes "bytes ") text ≡ Some behind =
    ap (without_prefix (codes "bytes ")) (is.is ∙ sym (regroup (codes "bytes ") is.span (47 ∷ []) is.total)) ∙ prefix-from (codes "bytes ") behind in
    goes (without_prefix (codes "bytes ") text) unitless_range_of behind range unit
    (goes (parts_at 47 behind) _ (is.span, is.total) range (parts-from 47 is.span is.total (span-avoids is.span range.span is.span_is))
    (goes (starred span_of is.span) _ range.span range (star-from span_of IsSpan refl span-from is.span range.span is.span_is)
    (goes (starred number_of is.total) _ range.total range (star-from number_of WritesNumber refl number-from is.total range.total is.total_is)
    (cond-true _ _ _ is.told))))

pub range_exact : (text : List ℕ) (range : ContentRange) → (range_of text ≡ Some range) ↔ IsContentRange text range
range_exact text range = (range-is text range, range-from text range)

pub number_exact : (text : List ℕ) (number : ℕ) → (number_of text ≡ Some number) ↔ WritesNumber text number
number_exact text number = (number-is text number, number-from text number)
