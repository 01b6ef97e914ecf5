-- Parts lie within their files.
use Rattle.std.proofs.Common.{◌≡◌, ℕ, ◌+◌, ◌≤◌, ◌<◌, ◌-◌, Bool, true, false, cond, List, [], ◌∷◌, refl, sym, ◌∙◌, subst, arith, min, ⊎_elim, true≢false}
use Rattle.std.specs.Prelude.{◌||◌, ◌==◌, nat_lt, nat_le, codes, Option, Some, None, option_map}
use Rattle.std.proofs.lemmas.Bool.{ltb-true, leb-true, eq-eqb, cases_lt}
use Rattle.std.proofs.lemmas.Option.{cond_some, none-some, same_Some}
use Rattle.range_http.specs.Range.{number_of, parts_at, without_prefix, ◌>>=◌}
use Rattle.http_heads.specs.Fields.{field_values, sole}
use Rattle.http_heads.specs.declared.ask_head.AskHead.{AskHead}
use Rattle.origin_replies.specs.Aims.{is_get, span_asked}
use Rattle.origin_replies.specs.Replies.{IsWithinFile, first_sent, len_sent, reply_by_span}
use Rattle.origin_replies.specs.Spans.{span_of, SpansLieWithin, byte_range_of, range_behind_unit, range_by_ends, part_from, part_at_end, span_by, span_if}
use Rattle.origin_replies.specs.declared.span.ByteRange.{ByteRange}
use Rattle.origin_replies.specs.declared.span.ByteRange.TheVariants.{Between, From, Last}
use Rattle.origin_replies.specs.declared.span.Span.{Span}
use Rattle.origin_replies.specs.declared.span.Span.TheVariants.{All, Part, Outside}

positive : (n : ℕ) → (n == 0) ≡ false → 0 < n
positive n is = ⊎_elim (λ some. some) (λ none. absurd (true≢false (sym (eq-eqb n 0 (omega (arith, none))) ∙ is))) (cases_lt 0 n)

abbrev Lies : ℕ → ℕ → ℕ → Type 0
Lies length first last = (first ≤ last) × (last < length)

first_same : (a b c d : ℕ) → Part a b ≡ Part c d → a ≡ c
first_same a b c d e = cc

last_same : (a b c d : ℕ) → Part a b ≡ Part c d → b ≡ d
last_same a b c d e = cc

same_part : (a b c d : ℕ) → Part a b ≡ Part c d → (a ≡ c) × (b ≡ d)
same_part a b c d e = (first_same a b c d e, last_same a b c d e)

no_all : (a b : ℕ) → All ≡ Part a b → ⊥
no_all a b e = cc

no_outside : (a b : ℕ) → Outside ≡ Part a b → ⊥
no_outside a b e = cc

-- ---- what is read of a text

abbrev IsOrdered : ByteRange → Type 0
IsOrdered (Between first last) = first ≤ last
IsOrdered (From first) = Unit {0}
IsOrdered (Last count) = Unit {0}

step : {A B : Type 0} (o : Option A) (next : A → Option B) (y : B) → o >>= next ≡ Some y
    → (x : A) × (o ≡ Some x) × (next x ≡ Some y)
step None next y is = absurd (none-some y is)
step (Some x) next y is = (x, refl, is)

by_last : (o : Option ℕ) (range : ByteRange) → option_map Last o ≡ Some range → IsOrdered range
by_last None range is = absurd (none-some range is)
by_last (Some n) range is = subst IsOrdered (same_Some (Last n) range is) tt

by_first : (o : Option ℕ) (range : ByteRange) → option_map From o ≡ Some range → IsOrdered range
by_first None range is = absurd (none-some range is)
by_first (Some n) range is = subst IsOrdered (same_Some (From n) range is) tt

ordered_by_ends : (first last : List ℕ) (range : ByteRange) → range_by_ends first last ≡ Some range → IsOrdered range
ordered_by_ends [] last range is = by_last (number_of last) range is
ordered_by_ends (b ∷ first) [] range is = by_first (number_of (b ∷ first)) range is
ordered_by_ends (b ∷ first) (c ∷ last) range is =
    let one = step (number_of (b ∷ first)) _ range is in
    let two = step (number_of (c ∷ last)) _ range one.2 in
    let both = cond_some (nat_le one.0 two.0) (Between one.0 two.0) range two.2 in
    subst IsOrdered both.1 (leb-true one.0 two.0 both.0)

ordered : (text : List ℕ) (range : ByteRange) → byte_range_of text ≡ Some range → IsOrdered range
ordered text range is =
    let unit = step (without_prefix (codes "bytes=") text) range_behind_unit range is in
    let ends = step (parts_at 45 unit.0) _ range unit.2 in
    ordered_by_ends ends.0.0 ends.0.1 range ends.2

-- ---- of a file

-- from a byte within the file
from_within : (start end length first last : ℕ) → (start < length → start ≤ end)
    → part_from start end length ≡ Part first last → Lies length first last
from_within start end length first last ordered is = by (nat_lt start length) refl is
  where
    by : (test : Bool) → nat_lt start length ≡ test → cond test (Part start (min end (length - 1))) Outside ≡ Part first last
        → Lies length first last
    by true within is =
        let same = same_part start (min end (length - 1)) first last is in
        let below = ltb-true start length within in
        let reaches = ordered below in
        let one = same.0 in
        let two = same.1 in
        (omega (arith, one, two, below, reaches), omega (arith, two, below))
    by false within is = absurd (no_outside first last is)

at_end_within : (count length first last : ℕ) → part_at_end count length ≡ Part first last → Lies length first last
at_end_within count length first last is = by (count == 0) (length == 0) refl refl is
  where
    by : (none empty : Bool) → (count == 0) ≡ none → (length == 0) ≡ empty
        → cond (none || empty) Outside (Part (length - count) (length - 1)) ≡ Part first last → Lies length first last
    by true empty n e is = absurd (no_outside first last is)
    by false true n e is = absurd (no_outside first last is)
    by false false n e is =
        let same = same_part (length - count) (length - 1) first last is in
        let one = same.0 in
        let two = same.1 in
        let some : 0 < count = positive count n in
        let has : 0 < length = positive length e in
        (omega (arith, one, two, some, has), omega (arith, two, has))

by_within : (range : ByteRange) (length first last : ℕ) → IsOrdered range → span_by range length ≡ Part first last
    → Lies length first last
by_within (Between a b) length first last ordered is = from_within a b length first last (λ below. ordered) is
by_within (From a) length first last ordered is = from_within a length length first last (λ below. omega (arith, below)) is
by_within (Last n) length first last ordered is = at_end_within n length first last is

if_within : (range : Option ByteRange) (length first last : ℕ) → ((it : ByteRange) → range ≡ Some it → IsOrdered it)
    → span_if range length ≡ Part first last → Lies length first last
if_within None length first last each is = absurd (no_all first last is)
if_within (Some range) length first last each is = by_within range length first last (each range refl) is

pub spans_lie_within : SpansLieWithin
spans_lie_within None length first last is = absurd (no_all first last is)
spans_lie_within (Some text) length first last is = if_within (byte_range_of text) length first last (ordered text) is

-- ---- replies

by_span : (span : Span) (total : ℕ) → ((first last : ℕ) → span ≡ Part first last → Lies total first last)
    → IsWithinFile (reply_by_span span total)
by_span All total each = tt
by_span (Part first last) total each = each first last refl
by_span Outside total each = tt

fits_by_span : (span : Span) (total : ℕ) → ((first last : ℕ) → span ≡ Part first last → Lies total first last)
    → first_sent (reply_by_span span total) + len_sent (reply_by_span span total) ≤ total
fits_by_span All total each = omega arith
fits_by_span (Part first last) total each = let lies = each first last refl in omega (arith, lies)
fits_by_span Outside total each = omega arith

pub fits_by_head : SpansLieWithin → (head : AskHead) (total : ℕ)
    → let reply = reply_by_span (span_asked head total) total in first_sent reply + len_sent reply ≤ total
fits_by_head lie head total = by (is_get head)
  where
    range : Option (List ℕ)
    range = sole (field_values head.fields (codes "range"))

    by : (get : Bool) → let reply = reply_by_span (cond get (span_of range total) All) total in
        first_sent reply + len_sent reply ≤ total
    by true = fits_by_span (span_of range total) total (λ first last is. lie range total first last is)
    by false = omega arith

pub within_by_head : SpansLieWithin → (head : AskHead) (total : ℕ) → IsWithinFile (reply_by_span (span_asked head total) total)
within_by_head lie head total = by (is_get head)
  where
    range : Option (List ℕ)
    range = sole (field_values head.fields (codes "range"))

    by : (get : Bool) → IsWithinFile (reply_by_span (cond get (span_of range total) All) total)
    by true = by_span (span_of range total) total (λ first last is. lie range total first last is)
    by false = tt
