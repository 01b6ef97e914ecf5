-- The first line of the table that fits is the line that the relation names, and there is one such line.
use Rattle.std.proofs.Common.{◌≡◌, ℕ, ◌+◌, ◌-◌, ◌==◌, ◌⊎◌, inl, inr, [], ◌∷◌, refl, sym, ap, subst, ◌∙◌, Bool, true, false}
use Rattle.std.proofs.lemmas.Bool.{cond_both, cond-true, cond-false, and_parts, and_from, or_cases, eqb-true, eq-eqb, ne_eqb, leb-true, le-leb, both_ways, false_from_ne_true}
use Rattle.std.proofs.lemmas.Option.{none-some, same_Some}
use Rattle.std.specs.List.{list_any}
use Rattle.std.specs.Prelude.{◌&&◌, ◌||◌, if◌then◌else◌, nat_le, codes, Option, Some, None, is_none, is_some}
use Rattle.range_http.specs.declared.asked.Asked.{Asked}
use Rattle.range_http.specs.declared.framing.Framing.{Framing}
use Rattle.range_http.specs.declared.framing.Framing.TheVariants.{Length, Chunked, ToEnd}
use Rattle.http_heads.specs.declared.head.Head.{Head}
use Rattle.range_http.specs.declared.range.ContentRange.{ContentRange}
use Rattle.range_http.specs.declared.verdict.Verdict.{Verdict}
use Rattle.range_http.specs.declared.verdict.Verdict.TheVariants.{Part, Whole, Empty, WrongLength, Moved, NotFound}
use Rattle.http_heads.specs.Fields.{sole}
use Rattle.range_http.specs.Fields.{values_of}
use Rattle.range_http.specs.Framing.{framing_of}
use Rattle.range_http.specs.Table.{IsMovedStatus, moved_permanently, found, see_other, temporary_redirect, permanent_redirect, IsRedirect, IsEmptyProbe, IsUnexpected, HasContent, HasBadContent, MayHaveLength, TellsPart, AgreesOnLength, Differs, IsVerdict, not_found, not_allowed, not_ready, moved, empty, other, bad_content, other_part, part_of_other, part_of_any, part, other_whole, whole_of_any, whole, HasOneVerdict}
use Rattle.range_http.specs.Verdict.{told_range, told_length, is_told, is_asked_part, is_encoded, is_moved, is_empty, is_empty_range, is_zero, sized, part_verdict, ranged_verdict, whole_verdict, framed_verdict, content_verdict, verdict_of, unexpected, unauthorized, overloaded}

-- whether the status is one of a redirect
abbrev is_moved_status : ℕ → Bool
is_moved_status s = list_any (λ status. s == status) (301 ∷ 302 ∷ 303 ∷ 307 ∷ 308 ∷ [])

-- the verdict of a status, by the tests of the fields
abbrev by_status : Bool → Bool → Bool → Verdict → ℕ → Verdict
by_status located probe empty_range content s =
    if s == 404 then NotFound else (
    if s == 401 then unauthorized else (
    if s == 503 then overloaded else (
    if is_moved_status s && located then Moved else (
    if (s == 416) && probe && empty_range then Empty else (
    if s == 200 || s == 206 then content else
    unexpected)))))

moved-status : (s : ℕ) → is_moved_status s ≡ true → IsMovedStatus s
moved-status s is = elim (or_cases (s == 301) _ is) [
  | inl e ↦ moved_permanently (eqb-true s 301 e)
  | inr rest ↦ elim (or_cases (s == 302) _ rest) [
    | inl e ↦ found (eqb-true s 302 e)
    | inr rest ↦ elim (or_cases (s == 303) _ rest) [
      | inl e ↦ see_other (eqb-true s 303 e)
      | inr rest ↦ elim (or_cases (s == 307) _ rest) [
        | inl e ↦ temporary_redirect (eqb-true s 307 e)
        | inr rest ↦ elim (or_cases (s == 308) _ rest) [
          | inl e ↦ permanent_redirect (eqb-true s 308 e)
          | inr none ↦ absurd (both_ways false refl none)
        ]
      ]
    ]
  ]
]

status-moved : (s : ℕ) → IsMovedStatus s → is_moved_status s ≡ true
status-moved s (moved_permanently e) = ap is_moved_status e
status-moved s (found e) = ap is_moved_status e
status-moved s (see_other e) = ap is_moved_status e
status-moved s (temporary_redirect e) = ap is_moved_status e
status-moved s (permanent_redirect e) = ap is_moved_status e

zero-is : (total : Option ℕ) → is_zero total ≡ true → total ≡ Some 0
zero-is None is = absurd (both_ways false refl is)
zero-is (Some n) is = ap Some (eqb-true n 0 is)

none-is : {A : Type 0} (o : Option A) → is_none o ≡ true → o ≡ None
none-is None is = refl
none-is (Some x) is = absurd (both_ways false refl is)

abbrev no_bytes : ContentRange
no_bytes = record { span = None; total = Some 0 }

empty-is : (range : Option ContentRange) → is_empty_range range ≡ true → range ≡ Some no_bytes
empty-is None is = absurd (both_ways false refl is)
empty-is (Some range) is =
    let both = and_parts (is_none range.span) (is_zero range.total) is in
    λ i. Some (record { span = none-is range.span both.0 i; total = zero-is range.total both.1 i })

told-may : (framing : Framing) (n : ℕ) → is_told (told_length framing) n ≡ true → MayHaveLength framing n
told-may (Length told) n is = eqb-true told n is
told-may Chunked n is = tt
told-may ToEnd n is = tt

may-told : (framing : Framing) (n : ℕ) → MayHaveLength framing n → is_told (told_length framing) n ≡ true
may-told (Length told) n is = eq-eqb told n is
may-told Chunked n is = refl
may-told ToEnd n is = refl

agrees-sized : (known told : Option ℕ) (verdict : Verdict) → AgreesOnLength known told
    → sized known told verdict ≡ verdict
agrees-sized None None verdict agrees = absurd agrees
agrees-sized None (Some told) verdict agrees = refl
agrees-sized (Some known) None verdict agrees = refl
agrees-sized (Some known) (Some told) verdict agrees = cond-true (told == known) verdict (WrongLength told)
    (eq-eqb told known agrees)

differs-sized : (known : Option ℕ) (told : ℕ) (verdict : Verdict) → Differs known told
    → sized known (Some told) verdict ≡ WrongLength told
differs-sized known told verdict differs =
    ap (λ length. sized length (Some told) verdict) differs.1
    ∙ cond-false (told == differs.0) verdict (WrongLength told) (ne_eqb told differs.0 differs.2)

module _ (head : Head) (asked : Asked) where
  -- the part that a range says, where it is the one that was asked for
  tells-asked : (framing : Framing) (range : ContentRange) (span_part : ℕ × ℕ)
      → told_range head ≡ Some range → range.span ≡ Some span_part
      → is_asked_part asked framing span_part ≡ true → TellsPart head asked framing span_part.1 range.total
  tells-asked framing range span_part is span holds =
      let outer = and_parts ((span_part.0 == asked.first) && nat_le span_part.1 asked.last)
      (is_told (told_length framing) (span_part.1 - span_part.0 + 1)) holds in
      let inner = and_parts (span_part.0 == asked.first) (nat_le span_part.1 asked.last) outer.0 in
      let first : span_part.0 ≡ asked.first = eqb-true span_part.0 asked.first inner.0 in
      let span_is : range.span ≡ Some (asked.first, span_part.1) = span ∙ ap (λ f. Some (f, span_part.1)) first in
      record {
        range = is ∙ (λ i. Some (record { span = span_is i; total = range.total }));
        within = leb-true span_part.1 asked.last inner.1;
        length = subst (λ f. MayHaveLength framing (span_part.1 - f + 1)) first (told-may framing
            (span_part.1 - span_part.0 + 1) outer.1);
      }

  asked-told : (framing : Framing) (last : ℕ) (total : Option ℕ) → TellsPart head asked framing last total
      → is_asked_part asked framing (asked.first, last) ≡ true
  asked-told framing last total tells =
      and_from _ _ (and_from _ _ (eq-eqb asked.first asked.first refl) (le-leb last asked.last tells.within))
      (may-told framing (last - asked.first + 1) tells.length)

  -- ---- the verdict of the function is a line of the table

  sized-part : (framing : Framing) (last : ℕ) → HasContent head 206 framing
      → (known : Option ℕ) → asked.total ≡ known → (total : Option ℕ) → TellsPart head asked framing last total
      → IsVerdict head asked (sized known total (Part last total framing))
  sized-part framing last content None is None tells = part_of_any framing last content tells is
  sized-part framing last content None is (Some told) tells =
      part framing last (Some told) content tells (subst (λ known. AgreesOnLength known (Some told)) (sym is) tt)
  sized-part framing last content (Some known) is None tells =
      part framing last None content tells (subst (λ known. AgreesOnLength known None) (sym is) tt)
  sized-part framing last content (Some known) is (Some told) tells =
      cond_both (told == known) (Part last (Some told) framing) (WrongLength told) (IsVerdict head asked)
      (λ same. part framing last (Some told) content tells
      (subst (λ length. AgreesOnLength length (Some told)) (sym is) (eqb-true told known same)))
      (λ differs. part_of_other framing last told content tells
      (known, is, λ same. both_ways (told == known) differs (eq-eqb told known same)))

  spanned-line : (framing : Framing) (range : ContentRange) → told_range head ≡ Some range
      → HasContent head 206 framing
      → (span : Option (ℕ × ℕ)) → range.span ≡ span → IsVerdict head asked (part_verdict asked framing span range.total)
  spanned-line framing range is content None span = other_part framing content (λ last total tells.
      none-some (asked.first, last) (sym span ∙ ap (λ (r : ContentRange). r.span) (same_Some range _ (sym is
      ∙ tells.range))))
  spanned-line framing range is content (Some span_part) span =
      cond_both (is_asked_part asked framing span_part) (sized asked.total range.total
      (Part span_part.1 range.total framing)) unexpected (IsVerdict head asked)
      (λ holds. sized-part framing span_part.1 content asked.total refl range.total
      (tells-asked framing range span_part is span holds))
      (λ no. other_part framing content (λ last total tells.
      let ranges = same_Some range _ (sym is ∙ tells.range) in
      let parts : span_part ≡ (asked.first, last) =
      same_Some span_part (asked.first, last) (sym span ∙ ap (λ (r : ContentRange). r.span) ranges) in
      both_ways (is_asked_part asked framing span_part) no
      (ap (is_asked_part asked framing) parts ∙ asked-told framing last total tells)))

  ranged-line : (framing : Framing) → HasContent head 206 framing → (range : Option ContentRange)
      → told_range head ≡ range
      → IsVerdict head asked (ranged_verdict asked framing range)
  ranged-line framing content None is = other_part framing content (λ last total tells. none-some _ (sym is
      ∙ tells.range))
  ranged-line framing content (Some range) is = spanned-line framing range is content range.span refl

  agree : (framing : Framing) (known told : Option ℕ) → asked.total ≡ known → told_length framing ≡ told
      → AgreesOnLength known told
      → AgreesOnLength asked.total (told_length framing)
  agree framing known told known_is told_is agrees =
      subst (λ k. AgreesOnLength k (told_length framing)) (sym known_is) (subst (AgreesOnLength known)
      (sym told_is) agrees)

  whole-line : (framing : Framing) → HasContent head 200 framing → (known told : Option ℕ)
      → asked.total ≡ known → told_length framing ≡ told
      → IsVerdict head asked (sized known told (Whole told framing))
  whole-line framing content None None known_is told_is = whole_of_any framing content told_is known_is
  whole-line framing content None (Some told) known_is told_is =
      subst (λ t. IsVerdict head asked (Whole t framing)) told_is (whole framing content (agree framing None
      (Some told) known_is told_is tt))
  whole-line framing content (Some known) None known_is told_is =
      subst (λ t. IsVerdict head asked (Whole t framing)) told_is (whole framing content (agree framing
      (Some known) None known_is told_is tt))
  whole-line framing content (Some known) (Some told) known_is told_is =
      cond_both (told == known) (Whole (Some told) framing) (WrongLength told) (IsVerdict head asked)
      (λ same. subst (λ t. IsVerdict head asked (Whole t framing)) told_is
      (whole framing content (agree framing (Some known) (Some told) known_is told_is (eqb-true told known same))))
      (λ differs. other_whole framing told content told_is
      (known, known_is, λ same. both_ways (told == known) differs (eq-eqb told known same)))

  framed-line : (head.status ≡ 200) ⊎ (head.status ≡ 206) → is_encoded head ≡ false
      → (framing : Option Framing) → framing_of head ≡ framing
      → IsVerdict head asked (framed_verdict head asked framing)
  framed-line status plain None is = bad_content (record { status_is = status; bad = inr is })
  framed-line status plain (Some framing) is =
      cond_both (head.status == 206) (ranged_verdict asked framing (told_range head))
      (whole_verdict asked framing) (IsVerdict head asked)
      (λ partial.
      let content : HasContent head 206 framing = record { status_is = eqb-true head.status 206 partial; plain = plain; framed = is } in
      ranged-line framing content (told_range head) refl)
      (λ other.
      let all : head.status ≡ 200 = elim status [
        | inl e ↦ e
        | inr e ↦ absurd (both_ways (head.status == 206) other (eq-eqb head.status 206 e))
      ] in
      whole-line framing (record { status_is = all; plain = plain; framed = is }) asked.total
      (told_length framing) refl refl)

  content-line : (head.status ≡ 200) ⊎ (head.status ≡ 206) → IsVerdict head asked (content_verdict head asked)
  content-line status =
      cond_both (is_encoded head) unexpected (framed_verdict head asked (framing_of head)) (IsVerdict head asked)
      (λ encoded. bad_content (record { status_is = status; bad = inl encoded }))
      (λ plain. framed-line status plain (framing_of head) refl)

  abbrev by_content : Verdict
  by_content = if head.status == 200 || head.status == 206 then content_verdict head asked else unexpected

  abbrev by_empty : Verdict
  by_empty = if is_empty head asked then Empty else by_content

  abbrev by_moved : Verdict
  by_moved = if is_moved head then Moved else by_empty

  abbrev by_ready : Verdict
  by_ready = if head.status == 503 then overloaded else by_moved

  abbrev by_allowed : Verdict
  by_allowed = if head.status == 401 then unauthorized else by_ready

  is-redirect : is_moved head ≡ true → IsRedirect head
  is-redirect holds =
      let both = and_parts (is_moved_status head.status) (is_some (sole (values_of head (codes "location")))) holds in
      record { status = moved-status head.status both.0; place = both.1 }

  is-empty-probe : is_empty head asked ≡ true → IsEmptyProbe head asked
  is-empty-probe holds =
      let outer = and_parts ((head.status == 416) && is_none asked.total) (is_empty_range (told_range head)) holds in
      let inner = and_parts (head.status == 416) (is_none asked.total) outer.0 in
      record {
        status = eqb-true head.status 416 inner.0;
        probe = none-is asked.total inner.1;
        range = empty-is (told_range head) outer.1;
      }

  content-status : (head.status == 200 || head.status == 206) ≡ true → (head.status ≡ 200) ⊎ (head.status ≡ 206)
  content-status holds = elim (or_cases (head.status == 200) (head.status == 206) holds) [
    | inl e ↦ inl (eqb-true head.status 200 e)
    | inr e ↦ inr (eqb-true head.status 206 e)
  ]

  means : IsVerdict head asked (verdict_of head asked)
  means =
      cond_both (head.status == 404) NotFound by_allowed (IsVerdict head asked) (λ e. not_found
      (eqb-true head.status 404 e)) (λ n404.
      cond_both (head.status == 401) unauthorized by_ready (IsVerdict head asked) (λ e. not_allowed
      (eqb-true head.status 401 e)) (λ n401.
      cond_both (head.status == 503) overloaded by_moved (IsVerdict head asked) (λ e. not_ready
      (eqb-true head.status 503 e)) (λ n503.
      cond_both (is_moved head) Moved by_empty (IsVerdict head asked) (λ holds. moved (is-redirect holds)) (λ stays.
      cond_both (is_empty head asked) Empty by_content (IsVerdict head asked) (λ holds. empty (is-empty-probe holds))
      (λ full.
      cond_both (head.status == 200 || head.status == 206) (content_verdict head asked) unexpected (IsVerdict head asked)
      (λ holds. content-line (content-status holds))
      (λ no. other (record {
        no_content = (
          λ e. both_ways _ no (ap (λ s. s == 200 || s == 206) e),
          λ e. both_ways _ no (ap
              (λ s. s == 200 || s == 206) e),
        );
        found = λ e. both_ways (head.status == 404) n404 (eq-eqb head.status 404 e);
        allowed = λ e. both_ways (head.status == 401) n401 (eq-eqb head.status 401 e);
        ready = λ e. both_ways (head.status == 503) n503 (eq-eqb head.status 503 e);
        stays = λ redirect. both_ways (is_moved head) stays (and_from _ _
            (status-moved head.status redirect.status) redirect.place);
        full = λ probe. both_ways (is_empty head asked) full
            (and_from _ _ (and_from _ _ (eq-eqb head.status 416 probe.status) (ap is_none probe.probe))
            (ap is_empty_range probe.range));
      })))))))

  -- ---- a line of the table is the verdict of the function

  abbrev located : Bool
  located = is_some (sole (values_of head (codes "location")))

  abbrev now : ℕ → Verdict
  now = by_status located (is_none asked.total) (is_empty_range (told_range head)) (content_verdict head asked)

  abbrev at_place : ℕ → Bool → Verdict
  at_place s l = by_status l (is_none asked.total) (is_empty_range (told_range head)) (content_verdict head asked) s

  moved-is : (s : ℕ) → IsMovedStatus s → located ≡ true → now s ≡ Moved
  moved-is s (moved_permanently e) place = ap now e ∙ ap (at_place 301) place
  moved-is s (found e) place = ap now e ∙ ap (at_place 302) place
  moved-is s (see_other e) place = ap now e ∙ ap (at_place 303) place
  moved-is s (temporary_redirect e) place = ap now e ∙ ap (at_place 307) place
  moved-is s (permanent_redirect e) place = ap now e ∙ ap (at_place 308) place

  empty-probe-is : IsEmptyProbe head asked → verdict_of head asked ≡ Empty
  empty-probe-is probe =
      ap now probe.status
      ∙ ap (λ (q : Bool). by_status located q (is_empty_range (told_range head)) (content_verdict head asked) 416)
      (ap is_none probe.probe)
      ∙ ap (λ (q : Bool). by_status located true q (content_verdict head asked) 416) (ap is_empty_range probe.range)

  unexpected-is : IsUnexpected head asked → verdict_of head asked ≡ unexpected
  unexpected-is none =
      cond-false (head.status == 404) NotFound by_allowed (ne_eqb head.status 404 none.found)
      ∙ cond-false (head.status == 401) unauthorized by_ready (ne_eqb head.status 401 none.allowed)
      ∙ cond-false (head.status == 503) overloaded by_moved (ne_eqb head.status 503 none.ready)
      ∙ cond-false (is_moved head) Moved by_empty (false_from_ne_true _ (λ holds. none.stays (is-redirect holds)))
      ∙ cond-false (is_empty head asked) Empty by_content (false_from_ne_true _ (λ holds. none.full
      (is-empty-probe holds)))
      ∙ cond-false (head.status == 200 || head.status == 206) (content_verdict head asked) unexpected
      (false_from_ne_true _ (λ holds.
      elim (content-status holds) [ inl e ↦ none.no_content.0 e | inr e ↦ none.no_content.1 e ]))

  content-is : (head.status ≡ 200) ⊎ (head.status ≡ 206) → verdict_of head asked ≡ content_verdict head asked
  content-is (inl e) = ap now e
  content-is (inr e) = ap now e

  bad-is : HasBadContent head → verdict_of head asked ≡ unexpected
  bad-is content = content-is content.status_is ∙ (elim content.bad [
    | inl encoded ↦ cond-true (is_encoded head) unexpected (framed_verdict head asked (framing_of head)) encoded
    | inr none ↦
        cond_both (is_encoded head) unexpected (framed_verdict head asked (framing_of head)) (λ v. v ≡ unexpected)
        (λ _. refl) (λ _. ap (framed_verdict head asked) none)
  ])

  partial-is : (framing : Framing) → HasContent head 206 framing
      → verdict_of head asked ≡ ranged_verdict asked framing (told_range head)
  partial-is framing content =
      content-is (inr content.status_is)
      ∙ cond-false (is_encoded head) unexpected (framed_verdict head asked (framing_of head)) content.plain
      ∙ ap (framed_verdict head asked) content.framed
      ∙ cond-true (head.status == 206) (ranged_verdict asked framing (told_range head)) (whole_verdict asked framing)
      (eq-eqb head.status 206 content.status_is)

  all-is : (framing : Framing) → HasContent head 200 framing → verdict_of head asked ≡ whole_verdict asked framing
  all-is framing content =
      content-is (inl content.status_is)
      ∙ cond-false (is_encoded head) unexpected (framed_verdict head asked (framing_of head)) content.plain
      ∙ ap (framed_verdict head asked) content.framed
      ∙ cond-false (head.status == 206) (ranged_verdict asked framing (told_range head)) (whole_verdict asked framing)
      (ap (λ s. s == 206) content.status_is)

  -- no part that was asked for
  module _ (framing : Framing) (none : (last : ℕ) (total : Option ℕ) → TellsPart head asked framing last total
      → ⊥) where
    spanned-none : (range : ContentRange) → told_range head ≡ Some range → (span : Option (ℕ × ℕ)) → range.span ≡ span
        → part_verdict asked framing span range.total ≡ unexpected
    spanned-none range is None span = refl
    spanned-none range is (Some span_part) span =
        cond-false (is_asked_part asked framing span_part) (sized asked.total range.total
        (Part span_part.1 range.total framing)) unexpected
        (false_from_ne_true _ (λ holds. none span_part.1 range.total
        (tells-asked framing range span_part is span holds)))

    ranged-none : (range : Option ContentRange) → told_range head ≡ range
        → ranged_verdict asked framing range ≡ unexpected
    ranged-none None is = refl
    ranged-none (Some range) is = spanned-none range is range.span refl

  told-is : (framing : Framing) (last : ℕ) (total : Option ℕ) → HasContent head 206 framing
      → TellsPart head asked framing last total
      → verdict_of head asked ≡ sized asked.total total (Part last total framing)
  told-is framing last total content tells =
      partial-is framing content
      ∙ ap (ranged_verdict asked framing) tells.range
      ∙ cond-true (is_asked_part asked framing (asked.first, last)) (sized asked.total total
      (Part last total framing)) unexpected
      (asked-told framing last total tells)

  only : {verdict : Verdict} → IsVerdict head asked verdict → verdict_of head asked ≡ verdict
  only (not_found e) = ap now e
  only (not_allowed e) = ap now e
  only (not_ready e) = ap now e
  only (moved redirect) = moved-is head.status redirect.status redirect.place
  only (empty probe) = empty-probe-is probe
  only (other none) = unexpected-is none
  only (bad_content content) = bad-is content
  only (other_part framing content none) = partial-is framing content
      ∙ ranged-none framing none (told_range head) refl
  only (part_of_other framing last told content tells differs) =
      told-is framing last (Some told) content tells
      ∙ differs-sized asked.total told (Part last (Some told) framing) differs
  only (part_of_any framing last content tells probe) =
      told-is framing last None content tells ∙ ap (λ known. sized known None (Part last None framing)) probe
  only (part framing last total content tells agrees) =
      told-is framing last total content tells ∙ agrees-sized asked.total total (Part last total framing) agrees
  only (other_whole framing told content is differs) =
      all-is framing content
      ∙ ap (λ length. sized asked.total length (Whole length framing)) is
      ∙ differs-sized asked.total told (Whole (Some told) framing) differs
  only (whole_of_any framing content is probe) =
      all-is framing content
      ∙ ap (λ length. sized asked.total length (Whole length framing)) is
      ∙ ap (λ known. sized known None (Whole None framing)) probe
  only (whole framing content agrees) =
      all-is framing content ∙ agrees-sized asked.total (told_length framing) (Whole
      (told_length framing) framing) agrees

  pub means_one : HasOneVerdict head asked (verdict_of head asked)
  means_one = (means, λ other line. sym (only line))
