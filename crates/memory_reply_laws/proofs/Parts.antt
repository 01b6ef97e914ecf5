-- Parts of a resource, as they are read.
use Rattle.std.proofs.Common.{◌≡◌, ℕ, ◌+◌, ◌-◌, ◌<◌, ◌≤◌, ◌^◌, Bool, true, false, List, [], ◌∷◌, ◌++◌, append_assoc, append-nil, length, length-append, length-drop, arith, ap, sym, ◌∙◌, refl}
use Rattle.std.proofs.lemmas.Bool.{cond-true, and_from, eq-eqb, le-leb, lt-ltb}
use Rattle.std.proofs.lemmas.List.{length-take-le}
use Rattle.std.proofs.lemmas.List.Elements.{All-nil, All-cons}
use Rattle.std.proofs.lemmas.List.Sums.{AllPass-from_list_all}
use Rattle.std.specs.Char.{is_ascii_digit}
use Rattle.std.specs.Fmt.{decimal}
use Rattle.std.specs.Prelude.{Option, Some, None, codes}
use Rattle.httparse.specs.Grammar.{is_token_byte}
use Rattle.body_frames.specs.Written.{ChunkIsRead, LastChunkIsRead}
use Rattle.dl_kinds.specs.Lists.{part_at}
use Rattle.link_source.specs.Replies.{length_line, part_head, part_reply, body_text, text_of}
use Rattle.link_source.specs.Requests.{ended_line}
use Rattle.range_http.specs.declared.asked.Asked.{Asked}
use Rattle.range_http.specs.declared.framing.Framing.{Framing}
use Rattle.range_http.specs.declared.framing.Framing.TheVariants.{Length, Chunked as InChunks}
use Rattle.http_heads.specs.declared.head.Head.{Head}
use Rattle.range_http.specs.declared.range.ContentRange.{ContentRange}
use Rattle.range_http.specs.declared.verdict.Verdict.TheVariants.{Part}
use Rattle.range_http.specs.Framing.{framing_of}
use Rattle.range_http.specs.Range.{IsContentRange, ◌>>=◌}
use Rattle.range_http.specs.RangeLaws.{NumbersAreRead, RangesAreRead}
use Rattle.range_http.specs.Verdict.{sized, told_length, is_told, told_range, part_verdict, ranged_verdict, framed_verdict, verdict_of}
use Rattle.memory_reply_laws.proofs.Bodies.{length_body, chunks_body}
use Rattle.memory_reply_laws.proofs.Numbers.{is_number, decimal_short, decimal_bytes, decimal_value, value_behind, joined, values_pass}
use Rattle.memory_reply_laws.proofs.Written.{field_text, head_text, IsValue, IsWritten, AreWritten, said, length_field, length_head, is_read}
use Rattle.memory_reply_laws.specs.Reading.{IsKnownAs}
use Rattle.memory_reply_laws.specs.Replies.{PartIsRead, ChunkedPartIsRead, last_of, part_len}

-- ---- the range

abbrev pub range_text : ℕ → ℕ → ℕ → List ℕ
range_text first last total = codes "bytes " ++ decimal first ++ codes "-" ++ decimal last ++ codes "/" ++ decimal total

abbrev pub range_told : ℕ → ℕ → ℕ → ContentRange
range_told first last total = record { span = Some (first, last); total = Some total }

pub is_content_range : (first last total : ℕ) → first ≤ last → last < total → total < 2 ^ 63 → IsContentRange (range_text first last total) (range_told first last total)
is_content_range first last total ordered within small = record {
  span = decimal first ++ codes "-" ++ decimal last;
  total = decimal total;
  is = regroup (codes "bytes ") (decimal first) (codes "-") (decimal last) (codes "/") (decimal total);
  span_is = record { first = decimal first; last = decimal last; is = refl; first_is = is_number first (omega arith); last_is = is_number last (omega arith); order = ordered };
  total_is = is_number total small;
  told = lt-ltb last total within;
}
  where
    regroup : (unit first dash last slash total : List ℕ) → unit ++ first ++ dash ++ last ++ slash ++ total ≡ unit ++ (first ++ dash ++ last) ++ slash ++ total
    regroup unit first dash last slash total = simp append_assoc

length-range : (first last total : ℕ) → first < 2 ^ 63 → last < 2 ^ 63 → total < 2 ^ 63 → length (range_text first last total) ≤ 68
length-range first last total a b c =
    omega (
      arith,
      length-append (codes "bytes " ++ decimal first ++ codes "-" ++ decimal last ++ codes "/") (decimal total),
      length-append (codes "bytes " ++ decimal first ++ codes "-" ++ decimal last) (codes "/"),
      length-append (codes "bytes " ++ decimal first ++ codes "-") (decimal last),
      length-append (codes "bytes " ++ decimal first) (codes "-"),
      length-append (codes "bytes ") (decimal first),
      decimal_short first a,
      decimal_short last b,
      decimal_short total c,
    )

range-value : (first last total : ℕ) → first < 2 ^ 63 → last < 2 ^ 63 → total < 2 ^ 63 → IsValue (range_text first last total)
range-value first last total a b c =
    value_behind (codes "bytes " ++ decimal first ++ codes "-" ++ decimal last ++ codes "/") total c
    (joined (codes "bytes " ++ decimal first ++ codes "-" ++ decimal last) (codes "/")
    (joined (codes "bytes " ++ decimal first ++ codes "-") (decimal last)
    (joined (codes "bytes " ++ decimal first) (codes "-") (joined (codes "bytes ") (decimal first) (values_pass (codes "bytes ") refl) (decimal_bytes first a)) (values_pass (codes "-") refl))
    (decimal_bytes last b)) (values_pass (codes "/") refl))
    refl

-- ---- the text

abbrev pub range_field : ℕ → ℕ → ℕ → List ℕ × List ℕ
range_field first last total = (codes "Content-Range", range_text first last total)

abbrev pub length_field_of : ℕ → List ℕ × List ℕ
length_field_of n = (codes "Content-Length", decimal n)

-- how the length is told
abbrev framing_field : Bool → ℕ → List ℕ × List ℕ
framing_field true n = (codes "Transfer-Encoding", codes "chunked")
framing_field false n = length_field_of n

framing-line : (chunked : Bool) (n : ℕ) → length_line chunked n ≡ field_text (framing_field chunked n)
framing-line true n = refl
framing-line false n = refl

abbrev part_fields : Bool → ℕ → ℕ → ℕ → List (List ℕ × List ℕ)
part_fields chunked first last total = range_field first last total ∷ framing_field chunked (last + 1 - first) ∷ []

two-lines : (start a b end : List ℕ) → start ++ a ++ b ++ end ≡ start ++ (a ++ (b ++ [])) ++ end
two-lines start a b end = simp (append_assoc, append-nil)

part-text : (chunked : Bool) (first last total : ℕ)
    → part_head chunked first last total ≡ head_text (codes "206") (codes "Partial Content") (part_fields chunked first last total)
unfolding part_head
part-text chunked first last total =
    let n = last + 1 - first in
    let start = ended_line (codes "HTTP/1.1 206 Partial Content") in
    let range = field_text (range_field first last total) in
    ap (λ field. start ++ range ++ field ++ ended_line []) (framing-line chunked n)
    ∙ two-lines start range (field_text (framing_field chunked n)) (ended_line [])

pub range_is_written : (first last total : ℕ) → first < 2 ^ 63 → last < 2 ^ 63 → total < 2 ^ 63 → IsWritten (range_field first last total)
unfolding is_token_byte
range_is_written first last total a b c = record { name = (omega arith, AllPass-from_list_all is_token_byte (codes "Content-Range") refl); value = range-value first last total a b c }

pub length_is_written : (n : ℕ) → n < 2 ^ 63 → IsWritten (length_field_of n)
unfolding is_token_byte
length_is_written n small = record { name = (omega arith, AllPass-from_list_all is_token_byte (codes "Content-Length") refl); value = decimal_value n small }

framing-written : (chunked : Bool) (n : ℕ) → n < 2 ^ 63 → IsWritten (framing_field chunked n)
unfolding is_token_byte
framing-written true n small = record {
  name = (omega arith, AllPass-from_list_all is_token_byte (codes "Transfer-Encoding") refl);
  value = record { bytes = values_pass (codes "chunked") refl; front = refl; back = refl };
}
framing-written false n small = length_is_written n small

framing-short : (chunked : Bool) (n : ℕ) → n < 2 ^ 63 → length (field_text (framing_field chunked n)) ≤ 50
framing-short true n small = omega arith
framing-short false n small = omega (arith, length_field (codes "Content-Length") (decimal n), decimal_short n small)

part-written : (chunked : Bool) (first last total : ℕ) → first ≤ last → last < total → total < 2 ^ 63
    → AreWritten (codes "206") (codes "Partial Content") (part_fields chunked first last total)
part-written chunked first last total ordered within small =
    let framing = framing_field chunked (last + 1 - first) in
    record {
      three = refl;
      digits_are = AllPass-from_list_all is_ascii_digit (codes "206") refl;
      reason_is = values_pass (codes "Partial Content") refl;
      fields_are =
          All-cons IsWritten (range_field first last total) (framing ∷ []) (range_is_written first last total (omega arith) (omega arith) small)
          (All-cons IsWritten framing [] (framing-written chunked (last + 1 - first) (omega arith)) (All-nil IsWritten));
      few = omega arith;
      short =
          omega (
            arith,
            length_head (codes "206") (codes "Partial Content") (part_fields chunked first last total),
            length-append (field_text (range_field first last total)) (field_text framing ++ []),
            length-append (field_text framing) [],
            length_field (codes "Content-Range") (range_text first last total),
            length-range first last total (omega arith) (omega arith) small,
            framing-short chunked (last + 1 - first) (omega arith),
          );
    }

-- ---- what the head means

-- a part of the asked one, of a resource that isn't known to have another length
pub part_means : (asked : Asked) (framing : Framing) (last total : ℕ) → last ≤ asked.last → IsKnownAs total asked.total
    → is_told (told_length framing) (last - asked.first + 1) ≡ true
    → part_verdict asked framing (Some (asked.first, last)) (Some total) ≡ Part last (Some total) framing
part_means asked framing last total within known told =
    cond-true _ _ _ (and_from _ _ (and_from _ _ (eq-eqb asked.first asked.first refl) (le-leb last asked.last within)) told)
    ∙ by-length asked.total known
  where
    by-length : (length : Option ℕ) → IsKnownAs total length → sized length (Some total) (Part last (Some total) framing) ≡ Part last (Some total) framing
    by-length None known = refl
    by-length (Some length) known = cond-true _ _ _ (eq-eqb total length (sym known))

abbrev part_said : Bool → ℕ → ℕ → ℕ → Head
part_said chunked first last total = said (codes "206") (part_fields chunked first last total)

part-verdict : NumbersAreRead → RangesAreRead → (asked : Asked) (last total : ℕ) → asked.first ≤ last → last < total → total < 2 ^ 63 → last ≤ asked.last
    → IsKnownAs total asked.total → verdict_of (part_said false asked.first last total) asked ≡ Part last (Some total) (Length (last + 1 - asked.first))
part-verdict numbers ranges asked last total ordered within small asked_to known =
    let n = last + 1 - asked.first in
    let head = part_said false asked.first last total in
    let framing : framing_of head ≡ Some (Length n) = ap (λ number. number >>= λ n. Some (Length n)) ((numbers (decimal n) n).1 (is_number n (omega arith))) in
    let range : told_range head ≡ Some (range_told asked.first last total) = (ranges (range_text asked.first last total) (range_told asked.first last total)).1 (is_content_range asked.first last total ordered within small) in
    ap (framed_verdict head asked) framing
    ∙ ap (ranged_verdict asked (Length n)) range
    ∙ part_means asked (Length n) last total asked_to known (eq-eqb n (last - asked.first + 1) (omega arith))

chunked-verdict : RangesAreRead → (asked : Asked) (last total : ℕ) → asked.first ≤ last → last < total → total < 2 ^ 63 → last ≤ asked.last
    → IsKnownAs total asked.total → verdict_of (part_said true asked.first last total) asked ≡ Part last (Some total) InChunks
chunked-verdict ranges asked last total ordered within small asked_to known =
    let head = part_said true asked.first last total in
    let range : told_range head ≡ Some (range_told asked.first last total) = (ranges (range_text asked.first last total) (range_told asked.first last total)).1 (is_content_range asked.first last total ordered within small) in
    ap (ranged_verdict asked InChunks) range ∙ part_means asked InChunks last total asked_to known refl

-- ---- the replies

part-reply : (chunked : Bool) (bytes : List ℕ) (first last : ℕ)
    → text_of (part_reply chunked bytes first last)
    ≡ head_text (codes "206") (codes "Partial Content") (part_fields chunked first last (length bytes)) ++ body_text (part_reply chunked bytes first last)
part-reply chunked bytes first last = ap (λ head. head ++ body_text (part_reply chunked bytes first last)) (part-text chunked first last (length bytes))

pub part_is_read : NumbersAreRead → RangesAreRead → PartIsRead
part_is_read numbers ranges bytes asked within =
    let last = last_of bytes asked in
    let total = length bytes in
    let begins = within.begins in
    let ordered = within.ordered in
    let size : length (part_at bytes asked.first (part_len bytes asked)) ≡ part_len bytes asked =
    length-take-le (part_len bytes asked) _ (omega (arith, length-drop asked.first bytes)) in
    is_read (codes "206") (codes "Partial Content") (part_fields false asked.first last total) _ _ asked _ _ _
    (ap text_of (cond-true _ _ _ (lt-ltb asked.first total begins)) ∙ part-reply false bytes asked.first last)
    (part-written false asked.first last total (omega arith) (omega arith) within.bounded)
    (part-verdict numbers ranges asked last total (omega arith) (omega arith) within.bounded (omega arith) within.known)
    (length_body _ _ size)

pub chunked_part_is_read : ChunkIsRead → LastChunkIsRead → RangesAreRead → ChunkedPartIsRead
chunked_part_is_read chunk last_chunk ranges bytes asked within =
    let last = last_of bytes asked in
    let total = length bytes in
    let begins = within.begins in
    let ordered = within.ordered in
    is_read (codes "206") (codes "Partial Content") (part_fields true asked.first last total) _ _ asked _ _ _
    (ap text_of (cond-true _ _ _ (lt-ltb asked.first total begins)) ∙ part-reply true bytes asked.first last)
    (part-written true asked.first last total (omega arith) (omega arith) within.bounded)
    (chunked-verdict ranges asked last total (omega arith) (omega arith) within.bounded (omega arith) within.known)
    (chunks_body chunk last_chunk _)
