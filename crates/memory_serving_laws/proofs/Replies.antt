-- What the true replies answer.
use Rattle.std.proofs.Common.{◌≡◌, inr, ℕ, ◌+◌, ◌-◌, ◌<◌, ◌≤◌, ◌^◌, true, false, ◌&&◌, List, [], length, take, drop, zero-le, refl, ap, ap₂, sym, subst, ◌∙◌, arith, length-take, length-drop}
use Rattle.std.proofs.lemmas.Bool.{cond-true, eq-eqb}
use Rattle.std.proofs.lemmas.List.{take_all}
use Rattle.std.specs.Prelude.{nat_le, nat_lt, codes, Option, Some, unwrap_or}
use Rattle.body_frames.specs.Bodies.{StreamBody, content_of}
use Rattle.dl_kinds.specs.Lists.{part_at}
use Rattle.link_source.specs.Mirrors.{content_reply}
use Rattle.link_source.specs.Replies.{text_of}
use Rattle.link_source.specs.declared.mirrors.Manner.{Manner}
use Rattle.link_source.specs.declared.mirrors.Manner.TheVariants as manners
use Rattle.range_http.specs.declared.asked.Asked.{Asked}
use Rattle.range_http.specs.declared.framing.Framing.{Framing}
use Rattle.range_http.specs.declared.framing.Framing.TheVariants.{Length, Chunked, ToEnd}
use Rattle.http_heads.specs.declared.head.Head.{Head}
use Rattle.range_http.specs.declared.verdict.Verdict.{Verdict}
use Rattle.range_http.specs.declared.verdict.Verdict.TheVariants.{Part, Whole, Moved}
use Rattle.http_heads.specs.Fields.{sole}
use Rattle.range_http.specs.Fields.{values_of}
use Rattle.range_http.specs.Verdict.{verdict_of}
use Rattle.memory_reply_laws.specs.Reading.{BeginsWithHead, ReadsAs, IsKnownAs, framing_seen}
use Rattle.memory_reply_laws.specs.Replies.{AsksWithin, PartIsRead, ChunkedPartIsRead, WholeIsRead, StreamIsRead, last_of}
use Rattle.reply_reader.specs.Answers.{Turn, Given, Away, Answer, Answers, without_bytes, slice_answer, part_slice, whole_slice, size_to, answer_by}
use Rattle.reply_reader.specs.Heads.{HasFinalHead, HasInterims}
use Rattle.reply_reader.specs.Slices.{Slice, framing_told, came_of, has_come}

-- ---- heads

-- a head whose status isn't 1xx is the final one
pub has_final_head : (reply : List ℕ) (asked : Asked) (status used : ℕ) (verdict : Verdict) → (nat_le 100 status && nat_lt status 200) ≡ false
    → (has : BeginsWithHead reply asked status used verdict) → HasFinalHead reply has.head used
unfolding HasInterims
has_final_head reply asked status used verdict final has = record {
  before = 0;
  size = used;
  interims = record { count = 0; few = zero-le; interims = refl };
  begins = has.begins;
  final = ap (λ s. nat_le 100 s && nat_lt s 200) has.status_is ∙ final;
  takes = omega arith;
}

-- ---- content

-- both words say the same of a framing
same-framing : (framing : Framing) → framing_told framing ≡ framing_seen framing
same-framing (Length len) = refl
same-framing Chunked = refl
same-framing ToEnd = refl

-- by this verdict these bytes are taken of the content, all up to the last one that is asked for
record Takes (asked : Asked) (verdict : Verdict) (framing : Framing) (content wanted : List ℕ) : Type 0 where
  slice : Slice
  framed : slice.framing ≡ framing_told framing
  answers : (head : Head) (stream : List ℕ) → answer_by head asked verdict stream false ≡ slice_answer slice asked.last stream false
  taken : take slice.len (drop slice.skip content) ≡ wanted
  all : length wanted ≡ slice.len

-- all that is asked for came
abbrev pub given : Asked → List ℕ → Answer
given asked bytes = record { got = bytes; turn = Given asked.last }

abbrev made : List ℕ → Turn → Answer
made got turn = record { got = got; turn = turn }

-- where the whole content came, the slice has come
whole-slice : (slice : Slice) (last : ℕ) (stream content wanted : List ℕ) → content_of slice.framing stream ≡ content
    → take slice.len (drop slice.skip content) ≡ wanted → length wanted ≡ slice.len
    → slice_answer slice last stream false ≡ record { got = wanted; turn = Given last }
whole-slice slice last stream content wanted is taken all =
    let came : came_of slice stream ≡ wanted = ap (λ c. take slice.len (drop slice.skip c)) is ∙ taken in
    let come : has_come slice stream ≡ true = eq-eqb (length (came_of slice stream)) slice.len (ap length came ∙ all) in
    let turn : (slice_answer slice last stream false).turn ≡ Given last = cond-true (has_come slice stream) _ _ come in
    ap₂ made came turn

-- a reply that is read so gives all that is asked for
content-answers : (reply content wanted : List ℕ) (asked : Asked) (status : ℕ) (verdict : Verdict) (framing : Framing)
    → (nat_le 100 status && nat_lt status 200) ≡ false → ReadsAs reply asked status verdict framing content → Takes asked verdict framing content wanted
    → Answers asked reply false (given asked wanted)
content-answers reply content wanted asked status verdict framing final read takes =
    let head = read.head.head in
    let stream = drop read.used reply in
    let framings : takes.slice.framing ≡ framing_seen framing = takes.framed ∙ same-framing framing in
    let body : content_of takes.slice.framing stream ≡ content = ap (λ f. content_of f stream) framings ∙ ap (λ (b : StreamBody). b.content) read.body in
    inr (inr (record {
      head = head;
      used = read.used;
      begins = has_final_head reply asked status read.used verdict final read.head;
      is = sym (ap (λ v. answer_by head asked v stream false) read.head.means ∙ takes.answers head stream
          ∙ whole-slice takes.slice asked.last stream content wanted body takes.taken takes.all);
    }))

-- ---- by the manner of the mirror

-- all that is asked for is in the resource, whose length is known
pub record IsInside (bytes : List ℕ) (asked : Asked) : Type 0 where
  pub bounded : length bytes < 2 ^ 63
  pub ordered : asked.first ≤ asked.last
  pub ends : asked.last < length bytes
  pub total_is : asked.total ≡ Some (length bytes)

-- the bytes that are asked for
abbrev pub wanted : List ℕ → Asked → List ℕ
wanted bytes asked = part_at bytes asked.first (size_to asked asked.last)

module _ (bytes : List ℕ) (asked : Asked) (inside : IsInside bytes asked) where
  pub wanted_length : length (wanted bytes asked) ≡ size_to asked asked.last
  wanted_length = omega (arith, inside.ordered, inside.ends, length-take (size_to asked asked.last) (drop asked.first bytes), length-drop asked.first bytes)

  takes-part : (last : ℕ) (total : Option ℕ) (framing : Framing) → last ≡ asked.last
      → Takes asked (Part last total framing) framing (part_at bytes asked.first (last + 1 - asked.first)) (wanted bytes asked)
  takes-part last total framing is = record {
    slice = part_slice asked last framing;
    framed = refl;
    answers = λ head stream. ap (λ l. slice_answer (part_slice asked last framing) l stream false) is;
    taken =
        take_all (size_to asked last) (part_at bytes asked.first (size_to asked last)) (omega (arith, length-take (size_to asked last) (drop asked.first bytes)))
        ∙ ap (λ l. part_at bytes asked.first (size_to asked l)) is;
    all = wanted_length ∙ ap (size_to asked) (sym is);
  }

  takes-whole : (total : Option ℕ) (framing : Framing) → Takes asked (Whole total framing) framing bytes (wanted bytes asked)
  takes-whole total framing = record {
    slice = whole_slice asked framing;
    framed = refl;
    answers = λ head stream. refl;
    taken = refl;
    all = wanted_length;
  }

  known : IsKnownAs (length bytes) asked.total
  known = subst (IsKnownAs (length bytes)) (sym inside.total_is) refl

  within : AsksWithin bytes asked
  within = record { bounded = inside.bounded; ordered = inside.ordered; begins = omega (arith, inside.ordered, inside.ends); known = known }

  last-is : last_of bytes asked ≡ asked.last
  last-is = omega (arith, inside.ends)

  -- in each manner the reply gives all that is asked for
  pub content_answers : PartIsRead → ChunkedPartIsRead → WholeIsRead → StreamIsRead → (manner : Manner)
      → Answers asked (text_of (content_reply manner bytes asked.first asked.last)) false (given asked (wanted bytes asked))
  content_answers part chunked_part whole stream manners.Ranges =
      content-answers _ _ (wanted bytes asked) asked 206 _ _ refl (part bytes asked within) (takes-part (last_of bytes asked) _ _ last-is)
  content_answers part chunked_part whole stream manners.Chunked =
      content-answers _ _ (wanted bytes asked) asked 206 _ _ refl (chunked_part bytes asked within) (takes-part (last_of bytes asked) _ _ last-is)
  content_answers part chunked_part whole stream manners.Whole =
      content-answers _ bytes (wanted bytes asked) asked 200 _ _ refl (whole bytes asked inside.bounded known) (takes-whole _ _)
  content_answers part chunked_part whole stream manners.ToEnd =
      content-answers _ bytes (wanted bytes asked) asked 200 _ _ refl (stream bytes asked (length bytes) inside.total_is) (takes-whole _ _)

-- ---- elsewhere

-- the head of a moved resource answers with its location
pub moved_answers : (reply : List ℕ) (asked : Asked) (head : Head) (used : ℕ) (text : List ℕ) → HasFinalHead reply head used → verdict_of head asked ≡ Moved
    → sole (values_of head (codes "location")) ≡ Some text → Answers asked reply false (without_bytes (Away head.status text))
moved_answers reply asked head used text read means told =
    let stream = drop used reply in
    inr (inr (record {
      head = head;
      used = used;
      begins = read;
      is = sym (ap (λ v. answer_by head asked v stream false) means
          ∙ ap (λ (values : Option (List ℕ)). without_bytes (Away head.status (unwrap_or values []))) told);
    }))
