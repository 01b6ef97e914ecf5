-- Where a part lies: from the first asked byte on, and no further than the last.
use Rattle.std.proofs.Common.{◌≡◌, ℕ, ◌-◌, ◌+◌, ◌≤◌, ◌==◌, List, [], ◌∷◌, refl, subst, arith}
use Rattle.std.proofs.lemmas.Bool.{cond_both, and_parts, eqb-true, leb-true}
use Rattle.std.specs.Prelude.{Bool, true, false, ◌&&◌, ◌||◌, if◌then◌else◌, nat_le, Option, Some, None, codes}
use Rattle.dl_kinds.specs.declared.marks.Code.{Code}
use Rattle.range_http.specs.declared.asked.Asked.{Asked}
use Rattle.range_http.specs.declared.framing.Framing.{Framing}
use Rattle.http_heads.specs.declared.head.Head.{Head}
use Rattle.range_http.specs.declared.range.ContentRange.{ContentRange}
use Rattle.range_http.specs.declared.verdict.Verdict.{Verdict}
use Rattle.range_http.specs.declared.verdict.Verdict.TheVariants.{Part, Whole, Empty, WrongLength, Moved, NotFound, Refused}
use Rattle.http_heads.specs.Fields.{sole}
use Rattle.range_http.specs.Fields.{values_of}
use Rattle.range_http.specs.Framing.{framing_of}
use Rattle.range_http.specs.Range.{IsSpan, IsStarOr, range_of, ◌>>=◌}
use Rattle.range_http.specs.RangeLaws.{RangesAreRead}
use Rattle.range_http.specs.Verdict.{told_range, is_told, told_length, is_asked_part, is_encoded, is_moved, is_empty, sized, part_verdict, ranged_verdict, framed_verdict, content_verdict, verdict_of, unexpected, unauthorized, overloaded}

-- a part lies so
pub record PartFits (asked : Asked) (verdict : Verdict) : Type 0 where
  pub part : (last : ℕ) (total : Option ℕ) (framing : Framing) → verdict ≡ Part last total framing → (asked.first ≤ last) × (last ≤ asked.last)

-- the span of a range is in order
abbrev InOrder : Option ContentRange → Type 0
InOrder None = Unit {0}
InOrder (Some range) = (span : ℕ × ℕ) → range.span ≡ Some span → span.0 ≤ span.1

module _ (asked : Asked) where
  refused : (code : Code) → PartFits asked (Refused code)
  refused code = record { part = λ last total framing is. cc }

  either : (test : Bool) (verdict : Verdict) {other : Verdict} → PartFits asked verdict → PartFits asked other → PartFits asked (if test then verdict else other)
  either true verdict fits others = fits
  either false verdict fits others = others

  sized_fits : (known told : Option ℕ) (verdict : Verdict) → PartFits asked verdict → PartFits asked (sized known told verdict)
  sized_fits None None verdict fits = refused _
  sized_fits None (Some told) verdict fits = fits
  sized_fits (Some known) None verdict fits = fits
  sized_fits (Some known) (Some told) verdict fits = either (told == known) verdict {other = WrongLength told} fits (record { part = λ last total framing is. cc })

  part_fits : (framing : Framing) (span : Option (ℕ × ℕ)) (total : Option ℕ) → ((part : ℕ × ℕ) → span ≡ Some part → part.0 ≤ part.1)
      → PartFits asked (part_verdict asked framing span total)
  part_fits framing None total ordered = refused _
  part_fits framing (Some part) total ordered =
      cond_both (is_asked_part asked framing part) (sized asked.total total (Part part.1 total framing)) unexpected (PartFits asked)
      (λ is.
      let outer = and_parts ((part.0 == asked.first) && nat_le part.1 asked.last) (is_told (told_length framing) (part.1 - part.0 + 1)) is in
      let inner = and_parts (part.0 == asked.first) (nat_le part.1 asked.last) outer.0 in
      let first = eqb-true part.0 asked.first inner.0 in
      let last = leb-true part.1 asked.last inner.1 in
      let order = ordered part refl in
      sized_fits asked.total total (Part part.1 total framing) (record {
        part = λ place length by same.
            let e : part.1 ≡ place = cc in
            (omega arith, omega arith);
      }))
      (λ _. refused _)

  ranged_fits : (framing : Framing) (range : Option ContentRange) → InOrder range → PartFits asked (ranged_verdict asked framing range)
  ranged_fits framing None ordered = refused _
  ranged_fits framing (Some range) ordered = part_fits framing range.span range.total ordered

  framed_fits : (head : Head) (framing : Option Framing) → InOrder (told_range head) → PartFits asked (framed_verdict head asked framing)
  framed_fits head None ordered = refused _
  framed_fits head (Some framing) ordered =
      let whole : PartFits asked (Whole (told_length framing) framing) = record { part = λ last total framing' is. cc } in
      either (head.status == 206) (ranged_verdict asked framing (told_range head))
      (ranged_fits framing (told_range head) ordered) (sized_fits asked.total (told_length framing) (Whole (told_length framing) framing) whole)

module _ (ranges : RangesAreRead) where
  read_in_order : (text : List ℕ) (read : Option ContentRange) → range_of text ≡ read → InOrder read
  read_in_order text None is = tt
  read_in_order text (Some range) is = λ span span_is.
      let spelled = (ranges text range).0 is in
      let P : Option (ℕ × ℕ) → Type 0 = λ told. IsStarOr IsSpan spelled.span told in
      let spells : IsSpan spelled.span span = subst P span_is spelled.span_is in
      spells.order

  told_in_order : (texts : List (List ℕ)) → InOrder (sole texts >>= range_of)
  told_in_order [] = tt
  told_in_order (text ∷ []) = read_in_order text (range_of text) refl
  told_in_order (text ∷ other ∷ texts) = tt

  content_fits : (head : Head) (asked : Asked) → PartFits asked (content_verdict head asked)
  content_fits head asked =
      either asked (is_encoded head) unexpected (refused asked _)
      (framed_fits asked head (framing_of head) (told_in_order (values_of head (codes "content-range"))))

  pub verdict_fits : (head : Head) (asked : Asked) → PartFits asked (verdict_of head asked)
  verdict_fits head asked =
      let not_found : PartFits asked NotFound = record { part = λ last total framing is. cc } in
      let moved : PartFits asked Moved = record { part = λ last total framing is. cc } in
      let empty : PartFits asked Empty = record { part = λ last total framing is. cc } in
      let content = either asked (head.status == 200 || head.status == 206) (content_verdict head asked) {other = unexpected} (content_fits head asked) (refused asked _) in
      let after_moved = either asked (is_moved head) Moved moved (either asked (is_empty head asked) Empty empty content) in
      let after_overloaded = either asked (head.status == 503) overloaded (refused asked _) after_moved in
      either asked (head.status == 404) NotFound not_found (either asked (head.status == 401) unauthorized (refused asked _) after_overloaded)
