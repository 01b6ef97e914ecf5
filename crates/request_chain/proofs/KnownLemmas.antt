-- A verdict refuses with one of the exit statuses for that.
use Rattle.std.proofs.Common.{◌≡◌, ℕ, ◌==◌, Bool, true, false, refl, subst}
use Rattle.std.specs.Prelude.{◌||◌, if◌then◌else◌, Option, Some, None, ⊤}
use Rattle.dl_kinds.specs.declared.marks.Code.{Code}
use Rattle.range_http.specs.declared.asked.Asked.{Asked}
use Rattle.range_http.specs.declared.framing.Framing.{Framing}
use Rattle.http_heads.specs.declared.head.Head.{Head}
use Rattle.range_http.specs.declared.range.ContentRange.{ContentRange}
use Rattle.range_http.specs.declared.verdict.Verdict.{Verdict}
use Rattle.range_http.specs.declared.verdict.Verdict.TheVariants.{Part, Whole, Empty, WrongLength, Moved, NotFound, Refused}
use Rattle.range_http.specs.Framing.{framing_of}
use Rattle.range_http.specs.Verdict.{told_range, told_length, is_asked_part, is_encoded, is_moved, is_empty, sized, part_verdict, ranged_verdict, whole_verdict, framed_verdict, content_verdict, verdict_of, unexpected, unauthorized, overloaded}
use Rattle.reply_reader.specs.Losses.{IsKnown}
use Rattle.reply_reader.specs.declared.loss.Loss.TheVariants as losses

abbrev RefusesKnown : Verdict → Type 0
RefusesKnown (Part last total framing) = ⊤
RefusesKnown (Whole total framing) = ⊤
RefusesKnown Empty = ⊤
RefusesKnown (WrongLength told) = ⊤
RefusesKnown Moved = ⊤
RefusesKnown NotFound = ⊤
RefusesKnown (Refused code) = (status : ℕ) → IsKnown (losses.Refused status code)

either : (b : Bool) (x y : Verdict) → RefusesKnown x → RefusesKnown y → RefusesKnown (if b then x else y)
either true x y first second = first
either false x y first second = second

not_expected : RefusesKnown unexpected
not_expected = λ status. refl

module _ (asked : Asked) where
  sized_known : (known told : Option ℕ) (verdict : Verdict) → RefusesKnown verdict → RefusesKnown (sized known told verdict)
  sized_known None None verdict is = not_expected
  sized_known None (Some told) verdict is = is
  sized_known (Some known) None verdict is = is
  sized_known (Some known) (Some told) verdict is = either (told == known) verdict (WrongLength told) is tt

  part_known : (framing : Framing) (span : Option (ℕ × ℕ)) (total : Option ℕ) → RefusesKnown (part_verdict asked framing span total)
  part_known framing None total = not_expected
  part_known framing (Some part) total =
      either (is_asked_part asked framing part) (sized asked.total total (Part part.1 total framing)) unexpected
      (sized_known asked.total total (Part part.1 total framing) tt) not_expected

  ranged_known : (framing : Framing) (range : Option ContentRange) → RefusesKnown (ranged_verdict asked framing range)
  ranged_known framing None = not_expected
  ranged_known framing (Some range) = part_known framing range.span range.total

  framed_known : (head : Head) (framing : Option Framing) → RefusesKnown (framed_verdict head asked framing)
  framed_known head None = not_expected
  framed_known head (Some framing) =
      either (head.status == 206) (ranged_verdict asked framing (told_range head)) (whole_verdict asked framing)
      (ranged_known framing (told_range head))
      (sized_known asked.total (told_length framing) (Whole (told_length framing) framing) tt)

-- the lines of a verdict, from each on
abbrev by_content : Head → Asked → Verdict
by_content head asked = if head.status == 200 || head.status == 206 then content_verdict head asked else unexpected

abbrev by_empty : Head → Asked → Verdict
by_empty head asked = if is_empty head asked then Empty else by_content head asked

abbrev by_moved : Head → Asked → Verdict
by_moved head asked = if is_moved head then Moved else by_empty head asked

abbrev by_overloaded : Head → Asked → Verdict
by_overloaded head asked = if head.status == 503 then overloaded else by_moved head asked

abbrev by_unauthorized : Head → Asked → Verdict
by_unauthorized head asked = if head.status == 401 then unauthorized else by_overloaded head asked

verdict_known : (head : Head) (asked : Asked) → RefusesKnown (verdict_of head asked)
verdict_known head asked =
    let framed = framed_known asked head (framing_of head) in
    let content = either (is_encoded head) unexpected (framed_verdict head asked (framing_of head)) not_expected framed in
    let ranged = either (head.status == 200 || head.status == 206) (content_verdict head asked) unexpected content not_expected in
    let moved = either (is_moved head) Moved (by_empty head asked) tt (either (is_empty head asked) Empty (by_content head asked) tt ranged) in
    let served = either (head.status == 503) overloaded (by_moved head asked) (λ status. refl) moved in
    either (head.status == 404) NotFound (by_unauthorized head asked) tt
    (either (head.status == 401) unauthorized (by_overloaded head asked) (λ status. refl) served)

-- a refusal by a verdict
pub refused_known : (head : Head) (asked : Asked) (code : Code) (status : ℕ) → verdict_of head asked ≡ Refused code → IsKnown (losses.Refused status code)
refused_known head asked code status is =
    let known : RefusesKnown (Refused code) = subst RefusesKnown is (verdict_known head asked) in
    known status
