-- What a reply with bytes that were asked for begins.
use Rattle.std.proofs.Common.{◌≡◌, ℕ, ◌-◌, ◌+◌, ◌<◌, ◌≤◌, ◌==◌, List, [], ◌∷◌, Bool, true, false, refl, sym, subst, arith}
use Rattle.std.proofs.lemmas.Bool.{cond_both, and_parts, eqb-true, leb-true}
use Rattle.std.specs.Prelude.{◌&&◌, ◌||◌, if◌then◌else◌, nat_le, Option, Some, None, codes, ⊤}
use Rattle.range_http.specs.declared.asked.Asked.{Asked}
use Rattle.range_http.specs.declared.framing.Framing.{Framing}
use Rattle.range_http.specs.declared.framing.Framing.TheVariants.{Length, Chunked, ToEnd}
use Rattle.http_heads.specs.declared.head.Head.{Head}
use Rattle.range_http.specs.declared.range.ContentRange.{ContentRange}
use Rattle.range_http.specs.declared.verdict.Verdict.{Verdict}
use Rattle.range_http.specs.declared.verdict.Verdict.TheVariants.{Part, Whole, Empty, WrongLength, Moved, NotFound, Refused}
use Rattle.http_heads.specs.Fields.{sole}
use Rattle.range_http.specs.Fields.{values_of}
use Rattle.range_http.specs.Framing.{framing_of}
use Rattle.range_http.specs.Range.{IsSpan, IsStarOr, range_of, ◌>>=◌}
use Rattle.range_http.specs.RangeLaws.{RangesAreRead}
use Rattle.range_http.specs.Verdict.{told_range, is_told, told_length, is_asked_part, sized, part_verdict, ranged_verdict, whole_verdict, framed_verdict, content_verdict, verdict_of, is_moved, is_empty, is_encoded, unexpected, unauthorized, overloaded}

-- a content framed so may have a byte
abbrev pub HasBytes : Framing → Type 0
HasBytes (Length len) = 0 < len
HasBytes Chunked = ⊤
HasBytes ToEnd = ⊤

-- the bytes that a reply gives lie within what was asked
abbrev pub Fits : Asked → Verdict → Type 0
Fits asked (Part last total framing) = (asked.first ≤ last) × (last ≤ asked.last) × HasBytes framing
Fits asked (Whole total framing) = HasBytes framing
Fits asked Empty = ⊤
Fits asked (WrongLength told) = ⊤
Fits asked Moved = ⊤
Fits asked NotFound = ⊤
Fits asked (Refused code) = ⊤

-- the span of a range is in order
abbrev InOrder : Option ContentRange → Type 0
InOrder None = ⊤
InOrder (Some range) = (span : ℕ × ℕ) → range.span ≡ Some span → span.0 ≤ span.1

told_has_bytes : (framing : Framing) (more : ℕ) → is_told (told_length framing) (more + 1) ≡ true → HasBytes framing
told_has_bytes (Length len) more is = omega (arith, eqb-true len (more + 1) is)
told_has_bytes Chunked more is = tt
told_has_bytes ToEnd more is = tt

module _ (asked : Asked) where
  sized_fits : (known told : Option ℕ) (verdict : Verdict) → Fits asked verdict → Fits asked (sized known told verdict)
  sized_fits None None verdict fits = tt
  sized_fits None (Some told) verdict fits = fits
  sized_fits (Some known) None verdict fits = fits
  sized_fits (Some known) (Some told) verdict fits = cond_both (told == known) verdict (WrongLength told) (Fits asked) (λ _. fits) (λ _. tt)

  part_fits : (framing : Framing) (span : Option (ℕ × ℕ)) (total : Option ℕ) → ((part : ℕ × ℕ) → span ≡ Some part → part.0 ≤ part.1)
      → Fits asked (part_verdict asked framing span total)
  part_fits framing None total ordered = tt
  part_fits framing (Some part) total ordered =
      cond_both (is_asked_part asked framing part) (sized asked.total total (Part part.1 total framing)) unexpected (Fits asked)
      (λ is.
      let outer = and_parts ((part.0 == asked.first) && nat_le part.1 asked.last) (is_told (told_length framing) (part.1 - part.0 + 1)) is in
      let inner = and_parts (part.0 == asked.first) (nat_le part.1 asked.last) outer.0 in
      let first = eqb-true part.0 asked.first inner.0 in
      let last = leb-true part.1 asked.last inner.1 in
      sized_fits asked.total total (Part part.1 total framing) (omega (arith, first, ordered part refl), last, told_has_bytes framing (part.1 - part.0) outer.1))
      (λ _. tt)

  ranged_fits : (framing : Framing) (range : Option ContentRange) → InOrder range → Fits asked (ranged_verdict asked framing range)
  ranged_fits framing None ordered = tt
  ranged_fits framing (Some range) ordered = part_fits framing range.span range.total ordered

  -- the whole of a resource of at least a byte
  whole_sized : (total : ℕ) → 0 < total → (framing : Framing) → Fits asked (sized (Some total) (told_length framing) (Whole (told_length framing) framing))
  whole_sized total some (Length len) =
      cond_both (len == total) (Whole (Some len) (Length len)) (WrongLength len) (Fits asked) (λ is. omega (arith, eqb-true len total is)) (λ _. tt)
  whole_sized total some Chunked = tt
  whole_sized total some ToEnd = tt

  whole_fits : (total : ℕ) → asked.total ≡ Some total → 0 < total → (framing : Framing) → Fits asked (whole_verdict asked framing)
  whole_fits total is some framing =
      let P : Option ℕ → Type 0 = λ known. Fits asked (sized known (told_length framing) (Whole (told_length framing) framing)) in
      subst P (sym is) (whole_sized total some framing)

  framed_fits : (total : ℕ) → asked.total ≡ Some total → 0 < total → (head : Head) (framing : Option Framing) → InOrder (told_range head)
      → Fits asked (framed_verdict head asked framing)
  framed_fits total is some head None ordered = tt
  framed_fits total is some head (Some framing) ordered =
      cond_both (head.status == 206) (ranged_verdict asked framing (told_range head)) (whole_verdict asked framing) (Fits asked)
      (λ _. ranged_fits framing (told_range head) ordered)
      (λ _. whole_fits total is some framing)

either : (asked : Asked) (b : Bool) (x y : Verdict) → Fits asked x → Fits asked y → Fits asked (if b then x else y)
either asked true x y first second = first
either asked false x y first second = second

-- the lines of a verdict, from each on
abbrev by_content : Head → Asked → Verdict
by_content head asked = if head.status == 200 || head.status == 206 then content_verdict head asked else unexpected

abbrev by_empty : Head → Asked → Verdict
by_empty head asked = if is_empty head asked then Empty else by_content head asked

abbrev by_moved : Head → Asked → Verdict
by_moved head asked = if is_moved head then Moved else by_empty head asked

abbrev by_overloaded : Head → Asked → Verdict
by_overloaded head asked = if head.status == 503 then overloaded else by_moved head asked

abbrev by_unauthorized : Head → Asked → Verdict
by_unauthorized head asked = if head.status == 401 then unauthorized else by_overloaded head asked

module _ (ranges : RangesAreRead) where
  ordered_span : (text : List ℕ) (read : Option (ℕ × ℕ)) → IsStarOr IsSpan text read → (span : ℕ × ℕ) → read ≡ Some span → span.0 ≤ span.1
  ordered_span text None star span is = cc
  ordered_span text (Some read) spelled span is =
      let same : read ≡ span = cc in
      let P : ℕ × ℕ → Type 0 = λ s. s.0 ≤ s.1 in
      subst P same spelled.order

  read_in_order : (text : List ℕ) (range : Option ContentRange) → range_of text ≡ range → InOrder range
  read_in_order text None is = tt
  read_in_order text (Some range) is =
      let spelled = (ranges text range).0 is in
      ordered_span spelled.span range.span spelled.span_is

  told_in_order : (texts : List (List ℕ)) → InOrder (sole texts >>= range_of)
  told_in_order [] = tt
  told_in_order (text ∷ []) = read_in_order text (range_of text) refl
  told_in_order (text ∷ other ∷ texts) = tt

  pub verdict_fits : (head : Head) (asked : Asked) (total : ℕ) → asked.total ≡ Some total → 0 < total → Fits asked (verdict_of head asked)
  verdict_fits head asked total is some =
      let content = framed_fits asked total is some head (framing_of head) (told_in_order (values_of head (codes "content-range"))) in
      let whole = either asked (is_encoded head) unexpected (framed_verdict head asked (framing_of head)) tt content in
      let ranged = either asked (head.status == 200 || head.status == 206) (content_verdict head asked) unexpected whole tt in
      let moved = either asked (is_moved head) Moved (by_empty head asked) tt (either asked (is_empty head asked) Empty (by_content head asked) tt ranged) in
      let served = either asked (head.status == 503) overloaded (by_moved head asked) tt moved in
      either asked (head.status == 404) NotFound (by_unauthorized head asked) tt (either asked (head.status == 401) unauthorized (by_overloaded head asked) tt served)
