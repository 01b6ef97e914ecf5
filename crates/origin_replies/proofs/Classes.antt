-- The head of a part is read as that part.
use Rattle.std.proofs.Common.{◌≡◌, ℕ, ◌+◌, ◌-◌, ◌<◌, ◌≤◌, ◌^◌, Bool, cond, min, take, drop, List, [], ◌∷◌, ◌++◌, append_assoc, length, length-append, arith, ap, ◌∙◌, refl}
use Rattle.std.proofs.Math.Seq.{take-append_seam, drop-append_seam, drop-append-add}
use Rattle.std.proofs.lemmas.Bool.{cond-true, le-leb, lt-ltb, eq-eqb, ne_eqb}
use Rattle.std.proofs.lemmas.Fmt.{decimal_is_IsNumeral, decimal_nonempty}
use Rattle.std.proofs.lemmas.Slice.Eq.{bytes_eq-Decides}
use Rattle.std.proofs.lemmas.Str.Parse.{digit_from_value}
use Rattle.std.specs.Str.Parse.{AllDigits}
use Rattle.std.proofs.lemmas.List.Elements.{All-nil, All-cons}
use Rattle.std.proofs.lemmas.List.Sums.{AllPass-from_list_all}
use Rattle.std.specs.Char.{is_ascii_digit}
use Rattle.std.specs.Fmt.{decimal}
use Rattle.std.specs.List.{position_or_len}
use Rattle.std.specs.Prelude.{Option, Some, option_map, position, codes, not, ◌==◌, ◌≢◌, ⊤}
use Rattle.httparse.specs.Grammar.{is_token_byte}
use Rattle.range_http.specs.declared.asked.Asked.{Asked}
use Rattle.range_http.specs.declared.framing.Framing.TheVariants.{Length}
use Rattle.http_heads.specs.declared.head.Head.{Head}
use Rattle.range_http.specs.declared.verdict.Verdict.TheVariants.{Part as PartVerdict}
use Rattle.range_http.specs.Framing.{framing_of}
use Rattle.range_http.specs.Range.{number_of, parts_at, without_prefix, ◌>>=◌}
use Rattle.range_http.specs.RangeLaws.{NumbersAreRead, RangesAreRead}
use Rattle.range_http.specs.Verdict.{told_range, ranged_verdict, framed_verdict, verdict_of}
use Rattle.memory_reply_laws.proofs.Numbers.{is_number, decimal_short, values_pass}
use Rattle.memory_reply_laws.proofs.Parts.{range_text, range_told, range_field, length_field_of, is_content_range, range_is_written, length_is_written, part_means}
use Rattle.memory_reply_laws.proofs.Written.{field_text, IsWritten, AreWritten, said, length_field, length_head, has_head}
use Rattle.memory_reply_laws.specs.Reading.{IsKnownAs}
use Rattle.origin_replies.specs.Classified.{PartsAreSent, PartsAreClassified, range_value}
use Rattle.origin_replies.specs.Replies.{HeadField, fields_told, head_of_reply, ranges_told, type_told}
use Rattle.origin_replies.specs.Spans.{byte_range_of, range_behind_unit, range_between, range_by_ends, span_if}
use Rattle.origin_replies.specs.declared.reply.Reply.TheVariants.{Part}
use Rattle.origin_replies.specs.declared.span.ByteRange.TheVariants.{Between}
use Rattle.origin_replies.specs.declared.span.Span.TheVariants.{Part as PartBytes}

-- ---- the text

abbrev digits : List ℕ
digits = codes "206"

abbrev reason : List ℕ
reason = codes "Partial Content"

abbrev fields : ℕ → ℕ → ℕ → List HeadField
fields first last total = fields_told (Part first last total)

type_is_written : IsWritten type_told
unfolding is_token_byte
type_is_written = record {
  name = (omega arith, AllPass-from_list_all is_token_byte (codes "Content-Type") refl);
  value = record { bytes = values_pass (codes "application/octet-stream") refl; front = refl; back = refl };
}

ranges_is_written : IsWritten ranges_told
unfolding is_token_byte
ranges_is_written = record {
  name = (omega arith, AllPass-from_list_all is_token_byte (codes "Accept-Ranges") refl);
  value = record { bytes = values_pass (codes "bytes") refl; front = refl; back = refl };
}

length-range : (first last total : ℕ) → first < 2 ^ 63 → last < 2 ^ 63 → total < 2 ^ 63 → length (range_text first last total) ≤ 68
length-range first last total a b c =
    omega (
      arith,
      length-append (codes "bytes " ++ decimal first ++ codes "-" ++ decimal last ++ codes "/") (decimal total),
      length-append (codes "bytes " ++ decimal first ++ codes "-" ++ decimal last) (codes "/"),
      length-append (codes "bytes " ++ decimal first ++ codes "-") (decimal last),
      length-append (codes "bytes " ++ decimal first) (codes "-"),
      length-append (codes "bytes ") (decimal first),
      decimal_short first a,
      decimal_short last b,
      decimal_short total c,
    )

part_is_written : (first last total : ℕ) → first ≤ last → last < total → total < 2 ^ 63
    → AreWritten digits reason (fields first last total)
part_is_written first last total ordered within small =
    let len = last + 1 - first in
    let range = range_field first last total in
    let told = length_field_of len in
    let two = field_text range ++ (field_text told ++ []) in
    record {
      three = refl;
      digits_are = AllPass-from_list_all is_ascii_digit digits refl;
      reason_is = values_pass reason refl;
      fields_are =
          All-cons IsWritten type_told (ranges_told ∷ range ∷ told ∷ []) type_is_written
          (All-cons IsWritten ranges_told (range ∷ told ∷ []) ranges_is_written
          (All-cons IsWritten range (told ∷ []) (range_is_written first last total (omega arith) (omega arith) small)
          (All-cons IsWritten told [] (length_is_written len (omega arith)) (All-nil IsWritten))));
      few = omega arith;
      short =
          omega (
            arith,
            length_head digits reason (fields first last total),
            length-append (field_text type_told) (field_text ranges_told ++ two),
            length-append (field_text ranges_told) two,
            length-append (field_text range) (field_text told ++ []),
            length-append (field_text told) [],
            length_field (codes "Content-Range") (range_text first last total),
            length_field (codes "Content-Length") (decimal len),
            length-range first last total (omega arith) (omega arith) small,
            decimal_short len (omega arith),
          );
    }

-- ---- what the head means

verdict_is : NumbersAreRead → RangesAreRead → (asked : Asked) (last total : ℕ) → asked.first ≤ last → last < total → total < 2 ^ 63
    → last ≤ asked.last → IsKnownAs total asked.total
    → verdict_of (said digits (fields asked.first last total)) asked ≡ PartVerdict last (Some total) (Length (last + 1 - asked.first))
verdict_is numbers ranges asked last total ordered within small asked_to known =
    let n = last + 1 - asked.first in
    let head : Head = said digits (fields asked.first last total) in
    let framing : framing_of head ≡ Some (Length n) = ap (λ number. number >>= λ n. Some (Length n)) ((numbers (decimal n) n).1 (is_number n (omega arith))) in
    let range : told_range head ≡ Some (range_told asked.first last total) = (ranges (range_text asked.first last total) (range_told asked.first last total)).1 (is_content_range asked.first last total ordered within small) in
    ap (framed_verdict head asked) framing
    ∙ ap (ranged_verdict asked (Length n)) range
    ∙ part_means asked (Length n) last total asked_to known (eq-eqb n (last - asked.first + 1) (omega arith))

pub parts_are_classified : NumbersAreRead → RangesAreRead → PartsAreClassified
parts_are_classified numbers ranges total asked content is =
    let bounded = is.bounded in
    let ordered = is.ordered in
    let within = is.within in
    has_head digits reason (fields asked.first asked.last total) (head_of_reply (Part asked.first asked.last total) ++ content) content asked
    (PartVerdict asked.last (Some total) (Length (asked.last + 1 - asked.first))) refl
    (part_is_written asked.first asked.last total ordered within bounded)
    (verdict_is numbers ranges asked asked.last total ordered within bounded (omega arith) is.known)

-- ---- the part that is sent

goes : {A B : Type 0} (first : Option A) (next : A → Option B) (x : A) (y : B) → first ≡ Some x → next x ≡ Some y → first >>= next ≡ Some y
goes first next x y is then = ap (λ o. o >>= next) is ∙ then

prefix-from : (prefix rest : List ℕ) → without_prefix prefix (prefix ++ rest) ≡ Some rest
prefix-from prefix rest =
    cond-true _ _ _ ((bytes_eq-Decides (take (length prefix) (prefix ++ rest)) prefix).1 (take-append_seam prefix rest))
    ∙ ap Some (drop-append_seam prefix rest)

-- no dash is in the text
abbrev HasNoDash : List ℕ → Type 0
HasNoDash [] = ⊤
HasNoDash (c ∷ text) = (c ≢ 45) × HasNoDash text

digits-avoid : (text : List ℕ) → AllDigits 10 text → HasNoDash text
digits-avoid [] all = tt
digits-avoid (c ∷ text) all = (λ is. omega (arith, digit_from_value c all.0, is), digits-avoid text all.1)

abbrev is_dash : ℕ → Bool
is_dash byte = byte == 45

place : (a b : List ℕ) → HasNoDash a → position_or_len is_dash (a ++ 45 ∷ b) ≡ length a
place [] b avoids = ap (λ t. cond (not t) (1 + position_or_len is_dash b) 0) (eq-eqb 45 45 refl)
place (c ∷ a) b avoids =
    let others = place a b avoids.1 in
    ap (λ t. cond (not t) (1 + position_or_len is_dash (a ++ 45 ∷ b)) 0) (ne_eqb c 45 avoids.0) ∙ omega (arith, others)

ends-from : (a b : List ℕ) → HasNoDash a → parts_at 45 (a ++ 45 ∷ b) ≡ Some (a, b)
ends-from a b avoids =
    let text = a ++ 45 ∷ b in
    let at = place a b avoids in
    let within : position_or_len is_dash text < length text = omega (arith, at, length-append a (45 ∷ b)) in
    let found : position is_dash text ≡ Some (length a) = cond-true _ _ _ (lt-ltb _ _ within) ∙ ap Some at in
    ap (option_map (λ i. (take i text, drop (i + 1) text))) found
    ∙ (λ i. Some (take-append_seam a (45 ∷ b) i, drop-append-add a (45 ∷ b) 1 i))

by-ends : (a b : List ℕ) → 0 < length a → 0 < length b → range_by_ends a b ≡ range_between a b
by-ends [] b some other = absurd (omega (arith, some))
by-ends (c ∷ a) [] some other = absurd (omega (arith, other))
by-ends (c ∷ a) (d ∷ b) some other = refl

regrouped : (unit a dash b : List ℕ) → unit ++ a ++ dash ++ b ≡ unit ++ (a ++ (dash ++ b))
regrouped unit a dash b = simp append_assoc

pub parts_are_sent : NumbersAreRead → PartsAreSent
parts_are_sent numbers total asked is =
    let bounded = is.bounded in
    let ordered = is.ordered in
    let within = is.within in
    let a = decimal asked.first in
    let b = decimal asked.last in
    let first : number_of a ≡ Some asked.first = (numbers a asked.first).1 (is_number asked.first (omega arith)) in
    let last : number_of b ≡ Some asked.last = (numbers b asked.last).1 (is_number asked.last (omega arith)) in
    let between : range_between a b ≡ Some (Between asked.first asked.last) =
    goes (number_of a) _ asked.first _ first (goes (number_of b) _ asked.last _ last (cond-true _ _ _ (le-leb asked.first asked.last ordered))) in
    let ends : range_behind_unit (a ++ 45 ∷ b) ≡ Some (Between asked.first asked.last) =
    goes (parts_at 45 (a ++ 45 ∷ b)) _ (a, b) _ (ends-from a b (digits-avoid a (decimal_is_IsNumeral asked.first (omega arith)).0.1))
    (by-ends a b (decimal_nonempty asked.first (omega arith)) (decimal_nonempty asked.last (omega arith)) ∙ between) in
    let range : byte_range_of (range_value asked) ≡ Some (Between asked.first asked.last) =
    ap byte_range_of (regrouped (codes "bytes=") a (codes "-") b)
    ∙ goes (without_prefix (codes "bytes=") (codes "bytes=" ++ (a ++ 45 ∷ b))) range_behind_unit (a ++ 45 ∷ b) _ (prefix-from (codes "bytes=") (a ++ 45 ∷ b)) ends in
    let cut : min asked.last (total - 1) ≡ asked.last = omega (arith, within) in
    ap (λ r. span_if r total) range
    ∙ (cond-true _ _ _ (lt-ltb asked.first total (omega arith)) ∙ ap (PartBytes asked.first) cut)
