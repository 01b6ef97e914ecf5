-- Whole resources, and replies without content, as they are read.
use Rattle.std.proofs.Common.{◌≡◌, ℕ, ◌<◌, ◌≤◌, ◌^◌, Bool, true, false, List, [], ◌∷◌, ◌++◌, append_assoc, append-nil, length, length-append, reverse, arith, ap, sym, subst, ◌∙◌, refl}
use Rattle.std.proofs.lemmas.Bool.{cond-true, and_from, eq-eqb, le-leb, ne_eqb, or_right}
use Rattle.std.proofs.lemmas.List.Elements.{All-nil, All-cons, All-head, All-tail}
use Rattle.std.proofs.lemmas.List.Sums.{AllPass-from_list_all}
use Rattle.std.proofs.lemmas.Str.{IsUtf8-from_ascii}
use Rattle.std.proofs.lemmas.Str.Ascii.{IsAscii-from_all}
use Rattle.std.specs.Char.{is_ascii_digit}
use Rattle.std.specs.Fmt.{decimal}
use Rattle.std.specs.Prelude.{All, IsTrue, Option, Some, None, is_none, codes, not, ◌||◌, ◌==◌}
use Rattle.httparse.proofs.TrimLemmas.{AllPass-reverse}
use Rattle.httparse.specs.Grammar.{AllPass, is_token_byte, is_value_byte}
use Rattle.link_source.specs.Replies.{moved, not_found, not_satisfiable, whole_head, text_of, bare_reply}
use Rattle.link_source.specs.Requests.{ended_line}
use Rattle.range_http.specs.declared.asked.Asked.{Asked}
use Rattle.range_http.specs.declared.framing.Framing.TheVariants.{Length, ToEnd}
use Rattle.range_http.specs.declared.range.ContentRange.{ContentRange}
use Rattle.range_http.specs.declared.verdict.Verdict.TheVariants.{Whole, Empty, NotFound}
use Rattle.range_http.specs.Framing.{framing_of}
use Rattle.http_heads.specs.Heads.{IsHead}
use Rattle.range_http.specs.Range.{IsContentRange, ◌>>=◌}
use Rattle.range_http.specs.RangeLaws.{NumbersAreRead, RangesAreRead}
use Rattle.range_http.specs.Verdict.{sized, framed_verdict, told_range, is_empty_range, verdict_of}
use Rattle.memory_reply_laws.proofs.Bodies.{length_body, stream_body}
use Rattle.memory_reply_laws.proofs.Numbers.{is_number, is_bare, bare as bare_bytes, decimal_short, values_pass, value_behind}
use Rattle.memory_reply_laws.proofs.Parts.{length_field_of, length_is_written}
use Rattle.memory_reply_laws.proofs.Written.{field_text, head_text, IsValue, IsWritten, AreWritten, said, length_field, length_head, is_head, has_head, is_read}
use Rattle.memory_reply_laws.specs.Reading.{IsReadable, IsKnownAs}
use Rattle.memory_reply_laws.specs.Replies.{WholeIsRead, StreamIsRead, MovedIsRead, NotFoundIsRead, EmptyIsRead}

one-line : (start a end : List ℕ) → start ++ a ++ end ≡ start ++ (a ++ []) ++ end
one-line start a end = simp append-nil

-- ---- whole resources

abbrev whole_fields : ℕ → List (List ℕ × List ℕ)
whole_fields total = length_field_of total ∷ []

whole-text : (total : ℕ) → whole_head true total ≡ head_text (codes "200") (codes "OK") (whole_fields total)
unfolding whole_head
whole-text total = one-line (ended_line (codes "HTTP/1.1 200 OK")) (field_text (length_field_of total)) (ended_line [])

whole-written : (total : ℕ) → total < 2 ^ 63 → AreWritten (codes "200") (codes "OK") (whole_fields total)
whole-written total small = record {
  three = refl;
  digits_are = AllPass-from_list_all is_ascii_digit (codes "200") refl;
  reason_is = values_pass (codes "OK") refl;
  fields_are = All-cons IsWritten (length_field_of total) [] (length_is_written total small) (All-nil IsWritten);
  few = omega arith;
  short =
      omega (
        arith,
        length_head (codes "200") (codes "OK") (whole_fields total),
        length-append (field_text (length_field_of total)) [],
        length_field (codes "Content-Length") (decimal total),
        decimal_short total small,
      );
}

whole-verdict : NumbersAreRead → (asked : Asked) (total : ℕ) → total < 2 ^ 63 → IsKnownAs total asked.total
    → verdict_of (said (codes "200") (whole_fields total)) asked ≡ Whole (Some total) (Length total)
whole-verdict numbers asked total small known =
    let head = said (codes "200") (whole_fields total) in
    let framing : framing_of head ≡ Some (Length total) = ap (λ number. number >>= λ n. Some (Length n)) ((numbers (decimal total) total).1 (is_number total small)) in
    ap (framed_verdict head asked) framing ∙ by-length asked.total known
  where
    by-length : (length : Option ℕ) → IsKnownAs total length → sized length (Some total) (Whole (Some total) (Length total)) ≡ Whole (Some total) (Length total)
    by-length None known = refl
    by-length (Some length) known = cond-true _ _ _ (eq-eqb total length (sym known))

pub whole_is_read : NumbersAreRead → WholeIsRead
whole_is_read numbers bytes asked small known =
    let total = length bytes in
    is_read (codes "200") (codes "OK") (whole_fields total) _ _ asked _ _ _
    (ap (λ head. head ++ bytes) (whole-text total)) (whole-written total small) (whole-verdict numbers asked total small known) (length_body bytes total refl)

-- ---- to the end of the stream

stream-text : (total : ℕ) → whole_head false total ≡ head_text (codes "200") (codes "OK") []
unfolding whole_head
stream-text total = refl

stream-written : AreWritten (codes "200") (codes "OK") []
stream-written = record {
  three = refl;
  digits_are = AllPass-from_list_all is_ascii_digit (codes "200") refl;
  reason_is = values_pass (codes "OK") refl;
  fields_are = All-nil IsWritten;
  few = omega arith;
  short = omega arith;
}

stream-verdict : (asked : Asked) (total : ℕ) → asked.total ≡ Some total → verdict_of (said (codes "200") []) asked ≡ Whole None ToEnd
stream-verdict asked total known = ap (λ length. sized length None (Whole None ToEnd)) known

pub stream_is_read : StreamIsRead
stream_is_read bytes asked total known =
    is_read (codes "200") (codes "OK") [] _ _ asked _ _ _
    (ap (λ head. head ++ bytes) (stream-text (length bytes))) stream-written (stream-verdict asked total known) (stream_body bytes)

-- ---- nothing there

abbrev pub none_field : List ℕ × List ℕ
none_field = (codes "Content-Length", codes "0")

pub none_written : IsWritten none_field
unfolding is_token_byte
none_written = record {
  name = (omega arith, AllPass-from_list_all is_token_byte (codes "Content-Length") refl);
  value = record { bytes = values_pass (codes "0") refl; front = refl; back = refl };
}

not_found-text : text_of (bare_reply not_found) ≡ head_text (codes "404") (codes "Not Found") (none_field ∷ []) ++ []
unfolding not_found
not_found-text = refl

not_found-written : AreWritten (codes "404") (codes "Not Found") (none_field ∷ [])
not_found-written = record {
  three = refl;
  digits_are = AllPass-from_list_all is_ascii_digit (codes "404") refl;
  reason_is = values_pass (codes "Not Found") refl;
  fields_are = All-cons IsWritten none_field [] none_written (All-nil IsWritten);
  few = omega arith;
  short = omega arith;
}

pub not_found_is_read : NotFoundIsRead
not_found_is_read asked = (
  length (head_text (codes "404") (codes "Not Found") (none_field ∷ [])),
  has_head (codes "404") (codes "Not Found") (none_field ∷ []) _ [] asked NotFound not_found-text not_found-written refl,
)

-- ---- elsewhere

abbrev location_field : List ℕ → List ℕ × List ℕ
location_field location = (codes "Location", location)

abbrev moved_fields : List ℕ → List (List ℕ × List ℕ)
moved_fields location = location_field location ∷ none_field ∷ []

two-lines : (start a b end : List ℕ) → start ++ a ++ b ++ end ≡ start ++ (a ++ (b ++ [])) ++ end
two-lines start a b end = simp (append_assoc, append-nil)

moved-text : (location : List ℕ) → moved location ≡ head_text (codes "302") (codes "Found") (moved_fields location)
unfolding moved
moved-text location = two-lines (ended_line (codes "HTTP/1.1 302 Found")) (field_text (location_field location)) (field_text none_field) (ended_line [])

-- a test that each visible character passes
passes : (test : ℕ → Bool) → ((b : ℕ) → 33 ≤ b → b ≤ 126 → test b ≡ true) → (text : List ℕ) → All (λ byte. (33 ≤ byte) × (byte ≤ 126)) text → AllPass test text
passes test each [] are = All-nil (λ b. IsTrue (test b))
passes test each (b ∷ text) are =
    let here = All-head (λ byte. (33 ≤ byte) × (byte ≤ 126)) b text are in
    All-cons (λ b. IsTrue (test b)) b text (each b here.0 here.1) (passes test each text (All-tail (λ byte. (33 ≤ byte) × (byte ≤ 126)) b text are))

visible-is-bare : (b : ℕ) → 33 ≤ b → b ≤ 126 → is_bare b ≡ true
visible-is-bare b low high =
    ap (λ t. not (t || (b == 9))) (ne_eqb b 32 (λ e. omega (arith, e, low))) ∙ ap not (ne_eqb b 9 (λ e. omega (arith, e, low)))

visible-is-value : (b : ℕ) → 33 ≤ b → b ≤ 126 → is_value_byte b ≡ true
visible-is-value b low high = or_right _ _ (and_from _ _ (le-leb 32 b (omega (arith, low))) (ap not (ne_eqb b 127 (λ e. omega (arith, e, high)))))

location-value : (location : List ℕ) → IsReadable location → IsValue location
location-value location is =
    let bares = passes is_bare visible-is-bare location is.visible in
    record {
      bytes = passes is_value_byte visible-is-value location is.visible;
      front = bare_bytes location bares;
      back = bare_bytes (reverse location) (AllPass-reverse is_bare location bares);
    }

location-written : (location : List ℕ) → IsReadable location → IsWritten (location_field location)
unfolding is_token_byte
location-written location is = record { name = (omega arith, AllPass-from_list_all is_token_byte (codes "Location") refl); value = location-value location is }

moved-written : (location : List ℕ) → IsReadable location → AreWritten (codes "302") (codes "Found") (moved_fields location)
moved-written location is = record {
  three = refl;
  digits_are = AllPass-from_list_all is_ascii_digit (codes "302") refl;
  reason_is = values_pass (codes "Found") refl;
  fields_are = All-cons IsWritten (location_field location) (none_field ∷ []) (location-written location is) (All-cons IsWritten none_field [] none_written (All-nil IsWritten));
  few = omega arith;
  short = let short = is.short in omega (arith, ap length (moved-text location));
}

below : (text : List ℕ) → All (λ byte. (33 ≤ byte) × (byte ≤ 126)) text → All (λ b. b < 128) text
below [] are = All-nil (λ b. b < 128)
below (b ∷ text) are =
    let here = All-head (λ byte. (33 ≤ byte) × (byte ≤ 126)) b text are in
    All-cons (λ b. b < 128) b text (omega (arith, here.1)) (below text (All-tail (λ byte. (33 ≤ byte) × (byte ≤ 126)) b text are))

pub moved_is_read : MovedIsRead
moved_is_read location asked is = record {
  used = length (head_text (codes "302") (codes "Found") (moved_fields location));
  has = record {
    head = said (codes "302") (moved_fields location);
    begins = subst (λ text. IsHead (text ++ []) (said (codes "302") (moved_fields location)) (length (head_text (codes "302") (codes "Found") (moved_fields location))))
        (sym (moved-text location)) (is_head (codes "302") (codes "Found") (moved_fields location) [] (moved-written location is));
    status_is = refl;
    means = refl;
  };
  location_is = record { only = refl; utf8 = IsUtf8-from_ascii location (IsAscii-from_all location (below location is.visible)) };
}

-- ---- nothing to probe

abbrev empty_text : List ℕ
empty_text = codes "bytes */" ++ decimal 0

abbrev empty_range : ContentRange
empty_range = record { span = None; total = Some 0 }

abbrev empty_fields : List (List ℕ × List ℕ)
empty_fields = (codes "Content-Range", empty_text) ∷ none_field ∷ []

empty-text : not_satisfiable 0 ≡ head_text (codes "416") (codes "Range Not Satisfiable") empty_fields
unfolding not_satisfiable
empty-text = two-lines (ended_line (codes "HTTP/1.1 416 Range Not Satisfiable")) (field_text (codes "Content-Range", empty_text)) (field_text none_field) (ended_line [])

empty-written : AreWritten (codes "416") (codes "Range Not Satisfiable") empty_fields
unfolding is_token_byte
empty-written =
    let range : IsWritten (codes "Content-Range", empty_text) = record {
      name = (omega arith, AllPass-from_list_all is_token_byte (codes "Content-Range") refl);
      value = value_behind (codes "bytes */") 0 (omega arith) (values_pass (codes "bytes */") refl) refl;
    } in
    record {
      three = refl;
      digits_are = AllPass-from_list_all is_ascii_digit (codes "416") refl;
      reason_is = values_pass (codes "Range Not Satisfiable") refl;
      fields_are = All-cons IsWritten (codes "Content-Range", empty_text) (none_field ∷ []) range (All-cons IsWritten none_field [] none_written (All-nil IsWritten));
      few = omega arith;
      short =
          omega (
            arith,
            length_head (codes "416") (codes "Range Not Satisfiable") empty_fields,
            length-append (field_text (codes "Content-Range", empty_text)) (field_text none_field ++ []),
            length_field (codes "Content-Range") empty_text,
            length-append (codes "bytes */") (decimal 0),
            decimal_short 0 (omega arith),
          );
    }

is-empty-range : IsContentRange empty_text empty_range
is-empty-range = record { span = codes "*"; total = decimal 0; is = refl; span_is = refl; total_is = is_number 0 (omega arith); told = refl }

empty-verdict : RangesAreRead → (asked : Asked) → asked.total ≡ None → verdict_of (said (codes "416") empty_fields) asked ≡ Empty
empty-verdict ranges asked probe =
    let head = said (codes "416") empty_fields in
    let range : told_range head ≡ Some empty_range = (ranges empty_text empty_range).1 is-empty-range in
    cond-true _ _ _ (and_from _ _ (ap is_none probe) (ap is_empty_range range))

pub empty_is_read : RangesAreRead → EmptyIsRead
empty_is_read ranges asked probe = (
  length (head_text (codes "416") (codes "Range Not Satisfiable") empty_fields),
  has_head (codes "416") (codes "Range Not Satisfiable") empty_fields _ [] asked Empty (ap (λ head. head ++ []) empty-text) empty-written (empty-verdict ranges asked probe),
)
