-- A reply that says that the resource was moved has one Location.
use Rattle.std.proofs.Common.{◌≡◌, ℕ, List, [], ◌∷◌, Bool, true, false, refl, subst}
use Rattle.std.proofs.lemmas.Bool.{and_parts}
use Rattle.std.specs.Prelude.{◌||◌, if◌then◌else◌, ◌==◌, Option, Some, None, is_some, codes, ⊤}
use Rattle.std.specs.List.{list_any}
use Rattle.range_http.specs.declared.asked.Asked.{Asked}
use Rattle.range_http.specs.declared.framing.Framing.{Framing}
use Rattle.http_heads.specs.declared.head.Head.{Head}
use Rattle.range_http.specs.declared.range.ContentRange.{ContentRange}
use Rattle.range_http.specs.declared.verdict.Verdict.{Verdict}
use Rattle.range_http.specs.declared.verdict.Verdict.TheVariants.{Part, Whole, Empty, WrongLength, Moved, NotFound, Refused}
use Rattle.http_heads.specs.Fields.{sole}
use Rattle.range_http.specs.Fields.{values_of}
use Rattle.range_http.specs.Framing.{framing_of}
use Rattle.range_http.specs.Verdict.{told_range, told_length, is_asked_part, sized, part_verdict, ranged_verdict, whole_verdict, framed_verdict, content_verdict, verdict_of, is_moved, is_empty, is_encoded, unexpected, unauthorized, overloaded}

-- there is one Location
abbrev pub HasLocation : Head → Type 0
HasLocation head = (text : List ℕ) × (sole (values_of head (codes "location")) ≡ Some text)

some_location : (head : Head) (found : Option (List ℕ)) → sole (values_of head (codes "location")) ≡ found → is_some found ≡ true → HasLocation head
some_location head None is some = cc
some_location head (Some text) is some = (text, is)

-- what follows where the head says that it was moved
module _ (head : Head) (X : Type 0) (has : is_moved head ≡ true → X) where
  -- a verdict that it was moved has it
  abbrev MovesRight : Verdict → Type 0
  MovesRight (Part last total framing) = ⊤
  MovesRight (Whole total framing) = ⊤
  MovesRight Empty = ⊤
  MovesRight (WrongLength told) = ⊤
  MovesRight Moved = X
  MovesRight NotFound = ⊤
  MovesRight (Refused code) = ⊤

  either : (b : Bool) (x y : Verdict) → (b ≡ true → MovesRight x) → MovesRight y → MovesRight (if b then x else y)
  either true x y first second = first refl
  either false x y first second = second

  sized_right : (known told : Option ℕ) (verdict : Verdict) → MovesRight verdict → MovesRight (sized known told verdict)
  sized_right None None verdict right = tt
  sized_right None (Some told) verdict right = right
  sized_right (Some known) None verdict right = right
  sized_right (Some known) (Some told) verdict right = either (told == known) verdict (WrongLength told) (λ _. right) tt

  module _ (asked : Asked) where
    part_right : (framing : Framing) (span : Option (ℕ × ℕ)) (total : Option ℕ) → MovesRight (part_verdict asked framing span total)
    part_right framing None total = tt
    part_right framing (Some part) total =
        either (is_asked_part asked framing part) (sized asked.total total (Part part.1 total framing)) unexpected
        (λ _. sized_right asked.total total (Part part.1 total framing) tt) tt

    ranged_right : (framing : Framing) (range : Option ContentRange) → MovesRight (ranged_verdict asked framing range)
    ranged_right framing None = tt
    ranged_right framing (Some range) = part_right framing range.span range.total

    framed_right : (framing : Option Framing) → MovesRight (framed_verdict head asked framing)
    framed_right None = tt
    framed_right (Some framing) =
        either (head.status == 206) (ranged_verdict asked framing (told_range head)) (whole_verdict asked framing)
        (λ _. ranged_right framing (told_range head))
        (sized_right asked.total (told_length framing) (Whole (told_length framing) framing) tt)

    abbrev by_content : Verdict
    by_content = if head.status == 200 || head.status == 206 then content_verdict head asked else unexpected

    abbrev by_moved : Verdict
    by_moved = if is_moved head then Moved else (if is_empty head asked then Empty else by_content)

    abbrev by_overloaded : Verdict
    by_overloaded = if head.status == 503 then overloaded else by_moved

    abbrev by_unauthorized : Verdict
    by_unauthorized = if head.status == 401 then unauthorized else by_overloaded

    verdict_right : MovesRight (verdict_of head asked)
    verdict_right =
        let content = either (is_encoded head) unexpected (framed_verdict head asked (framing_of head)) (λ _. tt) (framed_right (framing_of head)) in
        let ranged = either (head.status == 200 || head.status == 206) (content_verdict head asked) unexpected (λ _. content) tt in
        let empty = either (is_empty head asked) Empty by_content (λ _. tt) ranged in
        let moved = either (is_moved head) Moved (if is_empty head asked then Empty else by_content)
        has empty in
        let served = either (head.status == 503) overloaded by_moved (λ _. tt) moved in
        either (head.status == 404) NotFound by_unauthorized (λ _. tt) (either (head.status == 401) unauthorized by_overloaded (λ _. tt) served)

    moved_so : verdict_of head asked ≡ Moved → X
    moved_so is = subst MovesRight is verdict_right

pub moved_location : (head : Head) (asked : Asked) → verdict_of head asked ≡ Moved → HasLocation head
moved_location head asked is = moved_so head (HasLocation head)
    (λ moved. some_location head (sole (values_of head (codes "location"))) refl
    (and_parts (list_any (λ status. head.status == status) (301 ∷ 302 ∷ 303 ∷ 307 ∷ 308 ∷ [])) (is_some (sole (values_of head (codes "location")))) moved).1)
    asked is

pub moved_test : (head : Head) (asked : Asked) → verdict_of head asked ≡ Moved → is_moved head ≡ true
moved_test head asked is = moved_so head (is_moved head ≡ true) (λ moved. moved) asked is
