-- What each front of a reply is read as.
use Rattle.std.proofs.Common.{◌≡◌, ◌⊎◌, inl, inr, ⊎_elim, ℕ, ◌≤◌, List, [], ◌++◌, length, take, drop, arith, ap, sym, subst, ◌∙◌}
use Rattle.std.proofs.lemmas.Bool.{cases_lt}
use Rattle.std.proofs.lemmas.List.{take_all, take-append-le, drop-append-le}
use Rattle.body_frames.specs.Bodies.{Framing as BodyFraming, StreamBody, IsWrong, body_of, content_of}
use Rattle.body_frames.specs.Lines.{Whole, Wrong}
use Rattle.range_http.specs.declared.asked.Asked.{Asked}
use Rattle.range_http.specs.declared.framing.Framing.{Framing}
use Rattle.range_http.specs.declared.verdict.Verdict.{Verdict}
use Rattle.http_heads.specs.HeadLaws.{HeadComesWhole, HeadStoodBefore}
use Rattle.http_heads.specs.Heads.{IsUnfinished}
use Rattle.memory_reply_laws.specs.Reading.{BeginsWithHead, ContentComes, framing_seen}
use Rattle.memory_reply_laws.specs.Replies.{FrontsAreRead, HeadFrontsAreRead}

-- the content only grows
abbrev pub ContentGrows : Type 0
ContentGrows = (framing : BodyFraming) (a b : List ℕ) → (added : List ℕ) × (content_of framing (a ++ b) ≡ content_of framing a ++ added)

-- and what is wrong stays so
abbrev pub WrongStays : Type 0
WrongStays = (framing : BodyFraming) (a b : List ℕ) → IsWrong framing a → body_of framing (a ++ b) ≡ body_of framing a

-- the front ends within the head, or has it
short-or-whole : HeadComesWhole → HeadStoodBefore → (front rest : List ℕ) (asked : Asked) (status used : ℕ) (verdict : Verdict)
    → BeginsWithHead (front ++ rest) asked status used verdict → IsUnfinished front ⊎ (BeginsWithHead front asked status used verdict × (used ≤ length front))
short-or-whole comes_whole stood_before front rest asked status used verdict has = ⊎_elim
    (λ short. inl
    (let cut : take (length front) (front ++ rest) ≡ front = take-append-le (length front) front rest (omega arith) ∙ take_all (length front) front (omega arith) in
    subst IsUnfinished cut ((comes_whole (front ++ rest) has.head used has.begins).2 (length front) short)))
    (λ long. inr
    (record { head = has.head; begins = stood_before front rest has.head used has.begins long; status_is = has.status_is; means = has.means }, long))
    (cases_lt (length front) used)

pub head_fronts_are_read : HeadComesWhole → HeadStoodBefore → HeadFrontsAreRead
head_fronts_are_read comes_whole stood_before reply front rest asked status used verdict has is = ⊎_elim
    (λ short. inl short)
    (λ (whole, long). inr whole)
    (short-or-whole comes_whole stood_before front rest asked status used verdict (subst (λ bytes. BeginsWithHead bytes asked status used verdict) is has))

content-comes : ContentGrows → WrongStays → (stream rest content : List ℕ) (framing : Framing)
    → body_of (framing_seen framing) (stream ++ rest) ≡ record { content = content; rest = []; standing = Whole } → ContentComes stream framing content
content-comes grows wrong_stays stream rest content framing is =
    let more = grows (framing_seen framing) stream rest in
    record {
      later = more.0;
      begins = sym (ap (λ (body : StreamBody). body.content) is) ∙ more.1;
      right = λ wrong.
          let same = wrong_stays (framing_seen framing) stream rest wrong in
          let both : Wrong wrong.0 ≡ Whole = sym wrong.1 ∙ ap (λ (body : StreamBody). body.standing) (sym same ∙ is) in
          absurd (cc both);
    }

pub fronts_are_read : HeadComesWhole → HeadStoodBefore → ContentGrows → WrongStays → FrontsAreRead
fronts_are_read comes_whole stood_before grows wrong_stays reply front rest asked status verdict framing content read is = ⊎_elim
    (λ short. inl short)
    (λ (whole, long). inr (
      whole,
      content-comes grows wrong_stays (drop read.used front) rest content framing
          (ap (body_of (framing_seen framing)) (sym (ap (drop read.used) is ∙ drop-append-le read.used front rest long)) ∙ read.body),
    ))
    (short-or-whole comes_whole stood_before front rest asked status read.used verdict (subst (λ bytes. BeginsWithHead bytes asked status read.used verdict) is read.head))
