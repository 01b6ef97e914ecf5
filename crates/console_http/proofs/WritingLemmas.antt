-- A response that is sent in pieces.
use Rattle.std.proofs.Common.{◌≡◌, inl, inr, ℕ, zero, suc, ◌+◌, ◌-◌, ◌<◌, List, [], ◌∷◌, ◌++◌, length, get_or, take, drop, refl, sym, ◌∙◌, ap, subst, append_assoc, arith}
use Rattle.std.proofs.lemmas.List.{append-nil, take_more, take-append-drop}
use Rattle.std.proofs.lemmas.List.Concat.{flat_map-append}
use Rattle.std.specs.Prelude.{IsTrue, Option, Some, Result, Ok, Err}
use Rattle.std.specs.Result.{IsErrAnd}
use Rattle.dl_kinds.specs.Causes.{HasCause}
use Rattle.dl_kinds.specs.declared.outside.IoErr.{IoErr}
use Rattle.dl_kinds.specs.declared.outside.IoErr.TheVariants.{NoMemory}
use Rattle.door_source.specs.DoorLaws.{NewestIsOne}
use Rattle.door_source.specs.Doors.{Connection, DoorState, SendsToPeer}
use Rattle.door_source.specs.declared.Doors.{Ghosts as DoorSays}
use Rattle.request_stream.specs.Responses.{response_head, served_response}
use Rattle.rpc_envelope.specs.Texts.{repeated, passage_text, passages_text}
use Rattle.rpc_envelope.specs.declared.texts.Passage.{Passage}
use Rattle.console_http.specs.Answering.{CausesBreak, SendsFront}
use Rattle.console_http.specs.Ends.{end_by_error}
use Rattle.console_http.specs.Receiving.{GivesOut, GivesPart}
use Rattle.console_http.specs.Writing.{HasSent, HasWritten, WriterAt, WritesBehind, writer_at}
use Rattle.console_http.specs.declared.ends.ConnectionEnd.{ConnectionEnd}
use Rattle.console_http.proofs.Sending.{gives_all, sent_front}

-- ---- passages

-- .. of them some stand in front
pub repeats_on : (text : List ℕ) (n k m : ℕ) → m ≡ n + k → (more : List ℕ) × (repeated text m ≡ repeated text n ++ more)
repeats_on text n zero m e =
    let same : m ≡ n = omega (arith, e) in ([], ap (repeated text) same ∙ sym (append-nil (repeated text n)))
repeats_on text n (suc k) m e =
    let last : m ≡ suc (n + k) = omega (arith, e) in
    let then = repeats_on text n k (n + k) refl in (
      then.0 ++ text,
      ap (repeated text) last ∙ (ap (λ l. l ++ text) then.1 ∙ append_assoc (repeated text n) then.0 text),
    )

-- once more
pub repeats_more : (text : List ℕ) (n : ℕ) → repeated text (n + 1) ≡ repeated text n ++ text
repeats_more text n = let more : n + 1 ≡ suc n = omega arith in ap (repeated text) more

pub repeats_left : (text : List ℕ) (n m : ℕ) → n < m
    → (more : List ℕ) × (repeated text m ≡ (repeated text n ++ text) ++ more)
repeats_left text n m less =
    let whole : m ≡ (n + 1) + (m - (n + 1)) = omega (arith, less) in
    let then = repeats_on text (n + 1) (m - (n + 1)) m whole in
    (then.0, then.1 ∙ ap (λ l. l ++ then.0) (repeats_more text n))

pub passages_more : (passages : List Passage) (i : ℕ) (passage : Passage) → i < length passages → passage ≡ get_or passages i passage
    → passages_text (take (i + 1) passages) ≡ passages_text (take i passages) ++ passage_text passage
passages_more passages i passage less is =
    ap passages_text (take_more passages i passage less)
    ∙ (flat_map-append passage_text (take i passages) (get_or passages i passage ∷ [])
    ∙ ap (λ text. passages_text (take i passages) ++ text)
    (append-nil (passage_text (get_or passages i passage)) ∙ ap passage_text (sym is)))

pub passages_left : (passages : List Passage) (i : ℕ) (passage : Passage) → i < length passages → passage ≡ get_or passages i passage
    → passages_text passages
    ≡ (passages_text (take i passages) ++ passage_text passage) ++ passages_text (drop (i + 1) passages)
passages_left passages i passage less is =
    ap passages_text (sym (take-append-drop (i + 1) passages))
    ∙ (flat_map-append passage_text (take (i + 1) passages) (drop (i + 1) passages)
    ∙ ap (λ text. text ++ passages_text (drop (i + 1) passages)) (passages_more passages i passage less is))

-- a response with a content
pub whole_response : (answer : Option (List ℕ)) (content head text : List ℕ) (len : ℕ) → answer ≡ Some content
    → len ≡ length content → head ≡ response_head (Some len) → text ≡ content → served_response answer ≡ head ++ text
whole_response answer content head text len is long top same =
    ap served_response is
    ∙ ((λ i. response_head (Some (sym long i)) ++ sym same i) ∙ ap (λ front. front ++ text) (sym top))

-- ---- one piece behind another

module _ (one : NewestIsOne) where
  gives_on : (p q : List ℕ) (old mid new : DoorState) → GivesOut p old mid → GivesOut q mid new → GivesOut (p ++ q) old new
  gives_on p q old mid new g h =
      let grown : Connection = record g.newest { sent = g.newest.sent ++ p } in
      let more : Connection = record h.newest { sent = h.newest.sent ++ q } in
      let is = one h.newest more grown g.becomes.earlier mid new h.becomes g.becomes.are in
      let ends : more ≡ record g.newest { sent = g.newest.sent ++ (p ++ q) } =
      ap (λ (c : Connection). record c { sent = c.sent ++ q }) is.0
      ∙ ap (λ sent. record g.newest { sent = sent }) (append_assoc g.newest.sent p q) in
      record {
        newest = g.newest;
        becomes = record {
          earlier = g.becomes.earlier;
          were = g.becomes.were;
          are = is.1 ∙ ap (λ c. g.becomes.earlier ++ c ∷ []) ends;
          is_open = h.becomes.is_open ∙ g.becomes.is_open;
          is_closed = h.becomes.is_closed ∙ g.becomes.is_closed;
        };
      }

  gives_last : (p q : List ℕ) (old mid new : DoorState) → GivesPart p old mid → GivesOut q mid new → GivesOut (p ++ q) old new
  gives_last p q old mid new (inl g) h = gives_on p q old mid new g h
  gives_last p q old mid new (inr same) h =
      let P : List ℕ → Type 0 = λ front. GivesOut (front ++ q) old new in
      let Q : DoorState → Type 0 = λ was. GivesOut q was new in
      subst P (sym same.0) (subst Q same.1 h)

  gives_both : (p q : List ℕ) (old mid new : DoorState) → GivesPart p old mid → GivesPart q mid new → GivesPart (p ++ q) old new
  gives_both p q old mid new g (inl h) = inl (gives_last p q old mid new g h)
  gives_both p q old mid new g (inr same) =
      let P : List ℕ → Type 0 = λ back. GivesPart (p ++ back) old new in
      let Q : List ℕ → Type 0 = λ all. GivesPart all old new in
      let R : DoorState → Type 0 = GivesPart p old in
      subst P (sym same.0) (subst Q (sym (append-nil p)) (subst R (sym same.1) g))

  module _ {A : Type 0} (says : DoorSays A) where
    -- a text behind another, of which a part was sent
    joined : (text more : List ℕ) (a b : WriterAt A) → (w : WritesBehind says text a b)
        → a.waiting ++ (text ++ more) ≡ w.part ++ (b.waiting ++ more)
    joined text more a b w =
        sym (append_assoc a.waiting text more) ∙ (ap (λ l. l ++ more) w.whole ∙ append_assoc w.part b.waiting more)

    front_behind : (bytes part : List ℕ) (end : ConnectionEnd) (text : List ℕ) (a b : WriterAt A) (new : A)
        → (w : WritesBehind says text a b) → SendsFront says bytes part end b.door new
        → (whole : List ℕ) → whole ≡ w.part ++ bytes → SendsFront says whole (w.part ++ part) end a.door new
    front_behind bytes part end text a b new w front whole is =
        let P : ℕ → Type 0 = λ before. CausesBreak end before (says.faults new) in
        record {
          front = (front.front.0, is ∙ (ap (λ l. w.part ++ l) front.front.1 ∙ sym (append_assoc w.part part front.front.0)));
          told = λ e. gives_both w.part part _ _ _ (w.told e) (front.told e);
          cause = subst P w.faults front.cause;
        }

    pub writes_both : (text more : List ℕ) (a b c : WriterAt A) (r : Result (Unit {0}) IoErr) → WritesBehind says text a b
        → HasWritten says more b c r → HasWritten says (text ++ more) a c r
    writes_both text more a b c (Ok done) w then = record {
      part = w.part ++ then.part;
      whole = joined text more a b w
          ∙ (ap (λ l. w.part ++ l) then.whole ∙ sym (append_assoc w.part then.part c.waiting));
      told = λ e. gives_both w.part then.part _ _ _ (w.told e) (then.told e);
      faults = then.faults ∙ w.faults;
    }
    writes_both text more a b c (Err error) w (part, front) = (
      w.part ++ part,
      front_behind (b.waiting ++ more) part (end_by_error error) text a b c.door w front
          (a.waiting ++ (text ++ more)) (joined text more a b w),
    )

    -- all that waits is sent at last
    pub sends_last : (text : List ℕ) (a b : WriterAt A) (new : A) (r : Result (Unit {0}) IoErr) → WritesBehind says text a b
        → (IsTrue says.tells → SendsToPeer b.waiting r (says.state b.door) (says.state new))
        → HasCause (says.faults b.door) (says.faults new) r → HasSent says (a.waiting ++ text) a.door new r
    sends_last text a b new (Ok done) w sends cause =
        let P : List ℕ → Type 0 = λ all. IsTrue says.tells → GivesOut all (says.state a.door) (says.state new) in
        record {
          told = subst P (sym w.whole) (λ e. gives_last w.part b.waiting _ _ _ (w.told e) (gives_all b.waiting _ _ (sends e)));
          faults = cause.done ∙ w.faults;
        }
    sends_last text a b new (Err error) w sends cause =
        let front = sent_front says b.waiting b.door new error sends cause in
        (w.part ++ front.0, front_behind b.waiting front.0 (end_by_error error) text a b new w front.1 (a.waiting ++ text) w.whole)

module _ {A : Type 0} (says : DoorSays A) where
  pub writes_none : (a : WriterAt A) → WritesBehind says [] a a
  writes_none a = record { part = []; whole = append-nil a.waiting; told = λ _. inr (refl, refl); faults = refl }

  -- nothing is sent yet
  pub puts_behind : (text : List ℕ) (door : A) (was now : List ℕ) → now ≡ was ++ text
      → WritesBehind says text (writer_at door was) (writer_at door now)
  puts_behind text door was now is = record { part = []; whole = sym is; told = λ _. inr (refl, refl); faults = refl }

  -- all that waits is sent
  pub sends_waiting : (text : List ℕ) (old new : A) (was now : List ℕ) → now ≡ was ++ text
      → (IsTrue says.tells → SendsToPeer now (Ok tt) (says.state old) (says.state new)) → says.faults new ≡ says.faults old
      → WritesBehind says text (writer_at old was) (writer_at new [])
  sends_waiting text old new was now is sends faults = record {
    part = now;
    whole = sym is ∙ sym (append-nil now);
    told = λ e. inl (gives_all now _ _ (sends e));
    faults = faults;
  }

  -- a front of a text is one of a longer text
  pub writes_front : (text more whole : List ℕ) (a c : WriterAt A) (error : IoErr) → whole ≡ text ++ more
      → HasWritten says text a c (Err error) → HasWritten says whole a c (Err error)
  writes_front text more whole a c error is (part, front) =
      let P : List ℕ → Type 0 = λ all. HasWritten says all a c (Err error) in
      subst P (sym is) (
        part,
        record {
          front = (
            front.front.0 ++ more,
            sym (append_assoc a.waiting text more) ∙ (ap (λ l. l ++ more) front.front.1 ∙ append_assoc part front.front.0 more),
          );
          told = front.told;
          cause = front.cause;
        },
      )

  -- a part of it wasn't written, and so neither is the whole
  pub whole_failed : (text more whole : List ℕ) (a c : WriterAt A) (r : Result (Unit {0}) IoErr) (error : IoErr)
      → IsErrAnd r (λ e. e ≡ error) → whole ≡ text ++ more → HasWritten says text a c (Err error) → HasWritten says whole a c r
  whole_failed text more whole a c (Ok done) error never is h = absurd never
  whole_failed text more whole a c (Err e) error same is h =
      let P : IoErr → Type 0 = λ how. HasWritten says whole a c (Err how) in
      subst P (sym same) (writes_front text more whole a c error is h)

  -- memory ran out before it was put behind
  pub not_put : (text : List ℕ) (door : A) (was now : List ℕ) (r : Result (Unit {0}) IoErr)
      → IsErrAnd r (λ e. e ≡ NoMemory) → HasWritten says text (writer_at door was) (writer_at door now) r
  not_put text door was now (Ok done) never = absurd never
  not_put text door was now (Err e) is =
      let P : IoErr → Type 0 = λ how. HasWritten says text (writer_at door was) (writer_at door now) (Err how) in
      subst P (sym is) ([], record { front = (was ++ text, refl); told = λ _. inr (refl, refl); cause = refl })

  -- .. or before any of the response was written
  pub not_sent : (bytes : List ℕ) (door : A) (r : Result (Unit {0}) IoErr) → IsErrAnd r (λ e. e ≡ NoMemory)
      → HasSent says bytes door door r
  not_sent bytes door (Ok done) never = absurd never
  not_sent bytes door (Err e) is =
      let P : IoErr → Type 0 = λ how. HasSent says bytes door door (Err how) in
      subst P (sym is) ([], record { front = (bytes, refl); told = λ _. inr (refl, refl); cause = refl })

  -- what waits couldn't be sent
  pub not_flushed : (text : List ℕ) (old new : A) (was now after : List ℕ) (error : IoErr) → now ≡ was ++ text
      → (IsTrue says.tells → SendsToPeer now (Err error) (says.state old) (says.state new))
      → HasCause {T = Unit {0}} (says.faults old) (says.faults new) (Err error)
      → HasWritten says text (writer_at old was) (writer_at new after) (Err error)
  not_flushed text old new was now after error is sends cause =
      let P : List ℕ → Type 0 = λ all. (part : List ℕ) × SendsFront says all part (end_by_error error) old new in
      subst P is (sent_front says now old new error sends cause)

  pub sends_whole : (bytes : List ℕ) (old new : A) (r : Result (Unit {0}) IoErr)
      → (IsTrue says.tells → SendsToPeer bytes r (says.state old) (says.state new))
      → HasCause (says.faults old) (says.faults new) r → HasSent says bytes old new r
  sends_whole bytes old new (Ok done) sends cause =
      record { told = λ e. gives_all bytes _ _ (sends e); faults = cause.done }
  sends_whole bytes old new (Err error) sends cause = sent_front says bytes old new error sends cause

  -- a part of the response couldn't be written
  pub not_all_sent : (text bytes : List ℕ) (a c : WriterAt A) (r : Result (Unit {0}) IoErr) (error : IoErr)
      → IsErrAnd r (λ e. e ≡ error) → bytes ≡ a.waiting ++ text → HasWritten says text a c (Err error)
      → HasSent says bytes a.door c.door r
  not_all_sent text bytes a c (Ok done) error never is h = absurd never
  not_all_sent text bytes a c (Err e) error same is h =
      let P : IoErr → List ℕ → Type 0 =
      λ how all. (part : List ℕ) × SendsFront says all part (end_by_error how) a.door c.door in
      subst (λ how. P how bytes) (sym same) (subst (P error) (sym is) h)
