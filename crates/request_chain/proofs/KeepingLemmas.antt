-- A reply to a probe, where one more byte comes behind its head.
use Rattle.std.proofs.Common.{◌≡◌, ℕ, ◌<◌, ◌≤◌, false, List, [], ◌∷◌, length, drop, refl, sym, ap, subst, ◌∙◌, inl, inr, arith, length-append}
use Rattle.std.proofs.Math.ListN.{drop_of_length-le}
use Rattle.std.proofs.lemmas.Bool.{cases_Bool}
use Rattle.link_source.specs.Exchanges.{Exchange, with_received}
use Rattle.range_http.specs.declared.framing.Framing.TheVariants.{Length}
use Rattle.http_heads.specs.declared.head.Head.{Head}
use Rattle.range_http.specs.declared.verdict.Verdict.{Verdict}
use Rattle.range_http.specs.declared.verdict.Verdict.TheVariants.{Part, Whole, Empty, WrongLength, Moved, NotFound, Refused}
use Rattle.range_http.specs.Verdict.{is_moved, verdict_of}
use Rattle.reply_reader.specs.Answers.{Due, answer_by, size_to}
use Rattle.reply_reader.specs.HeadLaws.{FinalHeadStays}
use Rattle.reply_reader.specs.Heads.{HasFinalHead}
use Rattle.request_chain.specs.Contents.{EndsAt, IsFramedBy}
use Rattle.request_chain.specs.Probes.{probe_asked}
use Rattle.request_chain.specs.Received.{ReceivesLittle}
use Rattle.request_chain.specs.Rests.{TopIsWhole}
use Rattle.request_chain.specs.Searches.{HasHead, HasHeadAnd}
use Rattle.request_chain.proofs.AnsweredLemmas.{on_newest, on_stream}
use Rattle.request_chain.proofs.ContentLemmas.{start_due}
use Rattle.request_chain.proofs.Little.{moved_verdict_of, on-exchange, on-received}

-- the byte is due where nothing came behind the head
first_due : (head : Head) (verdict : Verdict) → IsFramedBy verdict (Length 1) → (answer_by head probe_asked verdict [] false).turn ≡ Due
first_due head (Part last total framing) is =
    let due = start_due framing 0 (size_to probe_asked last) (rw is (omega arith)) (omega arith) in
    rw (due.not_come, due.right, due.not_over) refl
first_due head (Whole total framing) is =
    let due = start_due framing 0 1 (rw is (omega arith)) (omega arith) in
    rw (due.not_come, due.right, due.not_over) refl
first_due head Empty is = absurd is
first_due head (WrongLength told) is = absurd is
first_due head Moved is = absurd is
first_due head NotFound is = absurd is
first_due head (Refused code) is = absurd is

framed_here : (head : Head) → IsFramedBy (verdict_of head probe_asked) (Length 1) → is_moved head ≡ false
framed_here head is = elim (cases_Bool (is_moved head)) [
  | inl moved ↦ absurd (subst (λ (v : Verdict). IsFramedBy v (Length 1)) (moved_verdict_of head probe_asked moved) is)
  | inr here ↦ here
]

on_fresh : (came : List ℕ) (stream : Exchange) → (on_stream came stream).fresh ≡ stream.fresh
on_fresh [] stream = refl
on_fresh (byte ∷ came) stream = refl

on_open : (came : List ℕ) (stream : Exchange) → 0 < length came → (on_stream came stream).ended ≡ stream.ended
on_open [] stream some = absurd (omega (arith, some))
on_open (byte ∷ came) stream some = refl

module _ (stays : FinalHeadStays) (url : List ℕ) (before now new : List Exchange) (head : Head) (came : List ℕ)
    (and : HasHeadAnd url before now [] head) (is : new ≡ with_received came now) where
  stream_on : new ≡ on_stream came and.has.stream ∷ before
  stream_on = is ∙ ap (with_received came) and.has.on_top ∙ on_newest came and.has.stream before

  -- the head is still there
  pub head_still : HasHead url before new head
  head_still =
      let P : List ℕ → Type 0 = λ received. HasFinalHead received head and.has.used in
      record {
        stream = on_stream came and.has.stream;
        on_top = stream_on;
        exchange = on-exchange url probe_asked came and.has.stream and.has.exchange;
        fresh_is = on_fresh came and.has.stream ∙ and.has.fresh_is;
        used = and.has.used;
        begins = subst P (sym (on-received came and.has.stream)) (stays and.has.stream.received came head and.has.used and.has.begins);
      }

  -- where the byte came
  pub whole_then : EndsAt probe_asked head 1 → length came ≡ 1 → TopIsWhole new
  unfolding head_still
  whole_then ends one = (
    on_stream came and.has.stream,
    before,
    stream_on,
    record {
      url = url;
      asked = probe_asked;
      exchange = head_still.exchange;
      read = record {
        head = head;
        used = and.has.used;
        begins = head_still.begins;
        len = 1;
        ends = ends;
        all = omega (arith, and.behind, one, ap length (on-received came and.has.stream), length-append and.has.stream.received came);
      };
      open_still = on_open came and.has.stream (omega (arith, one)) ∙ and.not_ended;
    },
  )

-- the reply is read no further than one buffer
pub byte_little : (url : List ℕ) (others now : List Exchange) (head : Head) (came : List ℕ) → HasHeadAnd url others now [] head → EndsAt probe_asked head 1
    → length came ≤ 65536 → (newest : Exchange) (older : List Exchange) → now ≡ newest ∷ older → ReceivesLittle (on_stream came newest)
byte_little url others now head came and ends small newest older is =
    let has = and.has in
    let same : newest ≡ has.stream = cc (is, has.on_top) in
    let none : drop has.used has.stream.received ≡ [] = drop_of_length-le has.stream.received (omega (arith, and.behind)) in
    let Q : Exchange → Type 0 = λ stream. ReceivesLittle (on_stream came stream) in
    subst Q (sym same) (inr (inl (record {
      url = url;
      asked = probe_asked;
      ordered = omega arith;
      bounded = omega arith;
      exchange = on-exchange url probe_asked came has.stream has.exchange;
      front = has.stream.received;
      behind = came;
      received_is = on-received came has.stream;
      buffer = small;
      head = head;
      used = has.used;
      begins = has.begins;
      here = framed_here head ends.framed;
      answer = answer_by head probe_asked (verdict_of head probe_asked) (drop has.used has.stream.received) false;
      answers = inr (inr (record { head = head; used = has.used; begins = has.begins; is = refl }));
      due = rw none (first_due head (verdict_of head probe_asked) ends.framed);
      short = omega (arith, and.few);
    })))
