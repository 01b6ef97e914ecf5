-- Exchanges with mirrors in memory, as they begin and as their replies come.
use Rattle.std.proofs.Common.{◌≡◌, ℕ, ◌≤◌, true, false, List, [], ◌∷◌, ◌++◌, length, take, refl, sym, ap, subst, ◌∙◌, inl, inr, arith, append_assoc}
use Rattle.std.proofs.lemmas.Bool.{true≢false}
use Rattle.std.proofs.lemmas.List.{length-append, take_all, take-append-drop}
use Rattle.std.specs.Prelude.{◌⊎◌, Option, Some, IfSome, not}
use Rattle.link_source.specs.Link.{LinkState, Sends, closed}
use Rattle.link_source.specs.Mirrors.{Content, AddsReply}
use Rattle.link_source.specs.Exchanges.{Exchange, TakesDue, begun, with_received}
use Rattle.span_map.specs.declared.jobs.JobPart.{JobPart}
use Rattle.reply_reader.specs.Sizes.{NothingIsNoHead}
use Rattle.request_chain.specs.Chains.{Gains}
use Rattle.request_chain.specs.Answered.{Gave, GaveNothing, GaveAnswer, GaveAll, IsAnswered, KeepsAnswers}
use Rattle.request_chain.specs.Received.{IsReadToHead, ReceivesLittle}
use Rattle.request_chain.specs.Stages.{IsSent, IsReading}
use Rattle.request_chain.specs.declared.course.Course.{Course}
use Rattle.request_chain.specs.declared.stage.Stage.{Stage}
use Rattle.request_chain.specs.declared.stage.Stage.TheVariants.{Asking}
use Rattle.request_chain.proofs.GainLemmas.{gains_last}
use Rattle.request_chain.proofs.TurnLemmas.{sent_of}

-- a stream in which nothing came yet
pub fresh_little : NothingIsNoHead → (stream : Exchange) → stream.received ≡ [] → IsReadToHead stream
fresh_little nothing stream none = record {
  front = [];
  behind = [];
  received_is = none;
  buffer = omega arith;
  headless = nothing;
  few = omega (arith, ap length none);
}

-- ---- a request

-- the newest exchange before becomes an older one
pub answered_past : (old : Content) (before : List Exchange) (link : LinkState) → IsAnswered old before link
    → (older : List Exchange) × (link.exchanges ≡ older ++ before) × GaveAll old older link.content
answered_past old before link is = elim is [
  | inl same ↦ ([], same.0, same.1)
  | inr top ↦ (top.newest ∷ top.older, top.on_top, (top.between, top.due, top.past, top.gave))
]

-- no reply comes, as where the link was dialled or closed alone
pub answered_quiet : (before : List Exchange) (link new_link : LinkState) → new_link.exchanges ≡ link.exchanges → new_link.content ≡ link.content
    → new_link.listens ≡ false → KeepsAnswers before link new_link
answered_quiet before link new_link exchanges content quiet old is = elim is [
  | inl same ↦ inl (exchanges ∙ same.0, content ∙ same.1)
  | inr top ↦ inr (record {
    newest = top.newest;
    older = top.older;
    on_top = exchanges ∙ top.on_top;
    between = top.between;
    past = top.past;
    due = top.due;
    gave = (let P : Content → Type 0 = λ c. Gave top.between top.newest top.due c in subst P (sym content) top.gave);
    due_is = λ listens. absurd (true≢false (sym listens ∙ quiet));
  })
]

pub answered_closed : (before : List Exchange) (link new_link : LinkState) → new_link ≡ closed link → KeepsAnswers before link new_link
answered_closed before link new_link same =
    answered_quiet before link new_link (ap (λ (l : LinkState). l.exchanges) same) (ap (λ (l : LinkState). l.content) same) (ap (λ (l : LinkState). l.listens) same)

-- the request was sent on a connection where nothing was due, or where another one was before
pub answered_sent : NothingIsNoHead → (before : List Exchange) (link new_link : LinkState) (host : List ℕ) (port : ℕ) (request : List ℕ)
    → link.peer ≡ Some (host, port) → (link.due ≡ []) ⊎ (link.listens ≡ true) → Sends request link new_link → KeepsAnswers before link new_link
answered_sent nothing before link new_link host port request peer how sends old is =
    let past = answered_past old before link is in
    let P : Option (List ℕ × ℕ) → Type 0 = λ at. IfSome at (λ to. new_link.exchanges ≡ begun to.0 to.1 request (not link.listens) ∷ link.exchanges) in
    let Q : Option (List ℕ × ℕ) → Type 0 = λ at. IfSome at (λ to. AddsReply to.0 to.1 request link.content new_link.content link.due new_link.due) in
    let stream : Exchange = begun host port request (not link.listens) in
    inr (record {
      newest = stream;
      older = past.0;
      on_top = subst P peer sends.exchanges ∙ ap (λ streams. stream ∷ streams) past.1;
      between = link.content;
      past = past.2;
      due = new_link.due;
      gave = by_due link.due refl (subst Q peer sends.reply);
      due_is = λ listens. refl;
    })
  where
    by_due : (due : List ℕ) → link.due ≡ due → AddsReply host port request link.content new_link.content due new_link.due
        → Gave link.content (begun host port request (not link.listens)) new_link.due new_link.content
    by_due [] due_is has = inr (record {
      reply = new_link.due;
      answers = has;
      whole = refl;
      last = λ ended. cc;
      little = inl (fresh_little nothing (begun host port request (not link.listens)) refl);
    })
    by_due (byte ∷ due) due_is has = inl (record {
      kept = elim how [
        | inl none ↦
            let both : [] ≡ byte ∷ due = sym none ∙ due_is in
            cc
        | inr listens ↦ ap not listens
      ];
      none_came = refl;
      none_due = has.0;
      same = has.1;
      little = inl (fresh_little nothing (begun host port request (not link.listens)) refl);
    })

-- ---- what comes

-- what came is the front of what was due
pub record Comes (due came new_due : List ℕ) : Type 0 where
  pub front : due ≡ came ++ new_due
  pub end : came ≡ [] → due ≡ []

pub comes_due : (due came new_due : List ℕ) (count : ℕ) → count ≡ length came → TakesDue due count came new_due → Comes due came new_due
comes_due due came new_due count count_is takes =
    let all : take count came ≡ came = take_all count came (omega (arith, count_is)) in
    let P : List ℕ → Type 0 = λ bytes. due ≡ bytes ++ new_due in
    let Q : List ℕ → Type 0 = λ rest. due ≡ take count due ++ rest in
    record {
      front = subst P (sym takes.bytes ∙ all) (subst Q (sym takes.rest) (sym (take-append-drop count due)));
      end = λ none. takes.end (count_is ∙ ap length none);
    }

-- a stream with what came
abbrev pub on_stream : List ℕ → Exchange → Exchange
on_stream [] stream = record stream { ended = true }
on_stream (byte ∷ bytes) stream = record stream { received = stream.received ++ byte ∷ bytes }

pub on_newest : (came : List ℕ) (newest : Exchange) (older : List Exchange) → with_received came (newest ∷ older) ≡ on_stream came newest ∷ older
on_newest [] newest older = refl
on_newest (byte ∷ bytes) newest older = refl

module _ (old new : Content) (stream : Exchange) (due new_due : List ℕ) where
  answer_more : (came : List ℕ) → Comes due came new_due → ReceivesLittle (on_stream came stream) → GaveAnswer old stream due new → GaveAnswer old (on_stream came stream) new_due new
  answer_more [] comes little one =
      let none : new_due ≡ [] = sym comes.front ∙ comes.end refl in
      record {
        reply = one.reply;
        answers = one.answers;
        whole = ap (λ d. stream.received ++ d) (sym comes.front) ∙ one.whole;
        last = λ ended. none;
        little = little;
      }
  answer_more (byte ∷ bytes) comes little one = record {
    reply = one.reply;
    answers = one.answers;
    whole = append_assoc stream.received (byte ∷ bytes) new_due ∙ ap (λ d. stream.received ++ d) (sym comes.front) ∙ one.whole;
    last = λ ended.
        let some : [] ≡ byte ∷ (bytes ++ new_due) = sym (one.last ended) ∙ comes.front in
        cc;
    little = little;
  }

  nothing_more : (came : List ℕ) → Comes due came new_due → ReceivesLittle (on_stream came stream) → GaveNothing old stream due new → GaveNothing old (on_stream came stream) new_due new
  nothing_more [] comes little none = record {
    kept = none.kept;
    none_came = none.none_came;
    none_due = sym comes.front ∙ comes.end refl;
    same = none.same;
    little = little;
  }
  nothing_more (byte ∷ bytes) comes little none =
      let some : [] ≡ byte ∷ (bytes ++ new_due) = sym none.none_due ∙ comes.front in
      absurd cc

  gave_more : (came : List ℕ) → Comes due came new_due → ReceivesLittle (on_stream came stream) → Gave old stream due new → Gave old (on_stream came stream) new_due new
  gave_more came comes little (inl none) = inl (nothing_more came comes little none)
  gave_more came comes little (inr one) = inr (answer_more came comes little one)

-- some of what was due came in the newest exchange, which wasn't there before
pub answered_received : (before : List Exchange) (link new_link : LinkState) (came : List ℕ) → (link.exchanges ≡ before → ⊥) → link.listens ≡ true
    → new_link.exchanges ≡ with_received came link.exchanges → Comes link.due came new_link.due → new_link.content ≡ link.content
    → ((newest : Exchange) (older : List Exchange) → link.exchanges ≡ newest ∷ older → ReceivesLittle (on_stream came newest))
    → KeepsAnswers before link new_link
answered_received before link new_link came later listens streams_are comes content_is little old is = elim is [
  | inl same ↦ absurd (later same.0)
  | inr top ↦ inr (record {
    newest = on_stream came top.newest;
    older = top.older;
    on_top = streams_are ∙ ap (with_received came) top.on_top ∙ on_newest came top.newest (top.older ++ before);
    between = top.between;
    past = top.past;
    due = new_link.due;
    gave =
        (let P : Content → Type 0 = λ c. Gave top.between (on_stream came top.newest) new_link.due c in
        let Q : List ℕ → Type 0 = λ d. Gave top.between top.newest d link.content in
        subst P (sym content_is) (gave_more top.between link.content top.newest link.due new_link.due came comes (little top.newest (top.older ++ before) top.on_top)
        (subst Q (sym (top.due_is listens)) top.gave)));
    due_is = λ _. refl;
  })
]

gains_more : (before now used : List Exchange) → Gains before now used → length before ≤ length now
gains_more before now [] gains = omega (arith, ap length gains)
gains_more before now (stream ∷ used) gains = omega (arith, gains_more (stream ∷ before) now used gains)

-- a stream came on top of those before, of which there are no fewer than these
some_gained : (parts : List JobPart) (since before now used : List Exchange) (course : Course) → length since ≤ length before
    → IsSent parts used course → Gains before now used → now ≡ since → ⊥
some_gained parts since before now used course few sent gains same =
    let P : List Exchange → Type 0 = Gains before now in
    let top = gains_last sent.older before now sent.newest (subst P sent.used_is gains) in
    let longer = gains_more before top.0 sent.older top.2 in
    let long = ap length top.1 in
    let same_long = ap length same in
    absurd (omega (arith, longer, long, same_long, few))

-- the newest stream came behind those before, where its reply is read
pub sent_later : (parts : List JobPart) (since before now used : List Exchange) (course : Course) (bytes waiting : List ℕ) (stage : Stage)
    → length since ≤ length before → IsReading stage course waiting parts used bytes → (stage ≡ Asking → ⊥) → Gains before now used → now ≡ since → ⊥
sent_later parts since before now used course bytes waiting stage few reading sent gains same =
    some_gained parts since before now used course few (sent_of parts used course bytes waiting stage reading sent) gains same

-- a stream on top of others came behind those before, where there are no fewer others
pub top_later : (before others now : List Exchange) (stream : Exchange) → now ≡ stream ∷ others → length before ≤ length others → now ≡ before → ⊥
top_later before others now stream on_top few same = absurd (omega (arith, ap length on_top, ap length same, few))

-- the streams before are no more than those that are answered
pub answered_few : (old : Content) (before : List Exchange) (link : LinkState) → IsAnswered old before link → length before ≤ length link.exchanges
answered_few old before link is = elim is [
  | inl same ↦ omega (arith, ap length same.0)
  | inr top ↦ omega (arith, ap length top.on_top, length-append top.older before)
]

-- ---- where nothing changes

pub answered_same : (before : List Exchange) (link new_link : LinkState) → new_link ≡ link → KeepsAnswers before link new_link
answered_same before link new_link same old is = let P : LinkState → Type 0 = IsAnswered old before in subst P (sym same) is

pub answered_still : (before : List Exchange) (link new_link : LinkState) → link.listens ≡ true → new_link.content ≡ link.content → new_link.exchanges ≡ link.exchanges
    → new_link.due ≡ link.due → KeepsAnswers before link new_link
answered_still before link new_link listens content_is streams_are due_is old is = elim is [
  | inl same ↦ inl (streams_are ∙ same.0, content_is ∙ same.1)
  | inr top ↦ inr (record {
    newest = top.newest;
    older = top.older;
    on_top = streams_are ∙ top.on_top;
    between = top.between;
    past = top.past;
    due = top.due;
    gave = (let P : Content → Type 0 = λ c. Gave top.between top.newest top.due c in subst P (sym content_is) top.gave);
    due_is = λ _. due_is ∙ top.due_is listens;
  })
]
