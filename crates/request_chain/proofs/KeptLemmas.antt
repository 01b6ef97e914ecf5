-- Exchanges that are no requests of HTTP, and data, as they come.
use Rattle.std.proofs.Common.{◌≡◌, ◌≢◌, ℕ, ◌+◌, ◌≤◌, true, false, List, [], ◌∷◌, ◌++◌, length, take, refl, sym, ap, subst, ◌∙◌, inl, inr, arith, append_assoc, append-nil, length-take-le}
use Rattle.std.proofs.lemmas.Bool.{true≢false}
use Rattle.std.proofs.lemmas.List.{length-append, take_all}
use Rattle.std.specs.Prelude.{◌⊎◌, Option, Some, None, IfSome, IsSome, codes}
use Rattle.link_source.specs.Link.{LinkState, DataLink, Shut, Dialled, Gives, Receives, ReceivesData, data_come, heard, IsUnserved}
use Rattle.link_source.specs.Mirrors.{Content, Mirror, HasReply, IsServed, UsesBadAnswer, mirror_at}
use Rattle.link_source.specs.Exchanges.{Exchange, TakesDue, begun, with_received}
use Rattle.link_source.specs.Requests.{Asks, request_of}
use Rattle.range_http.specs.declared.asked.Asked.{Asked}
use Rattle.request_chain.specs.Answered.{Gave, GaveNothing, GaveAnswer, IsAnswered, KeepsAnswers}
use Rattle.request_chain.specs.Exchanges.{IsExchange}
use Rattle.request_chain.specs.KeptAnswers.{IsNoGet, HearsOther, TakesData, TakesMoreData}
use Rattle.request_chain.specs.Received.{IsOtherwise, ReceivesLittle}
use Rattle.request_chain.proofs.AnsweredLemmas.{answered_past, answered_received, answered_few, comes_due, on_stream, on_newest, top_later}

-- ---- what is no request of HTTP

get_text : (url : List ℕ) (asked : Asked) (stream : Exchange) → IsNoGet stream.request → IsExchange url asked stream → ⊥
get_text url asked stream no_get is = no_get _ (is.request_is ∙ refl)

stream_request : (came : List ℕ) (stream : Exchange) → (on_stream came stream).request ≡ stream.request
stream_request [] stream = refl
stream_request (byte ∷ bytes) stream = refl

stream_received : (came : List ℕ) (stream : Exchange) → (on_stream came stream).received ≡ stream.received ++ came
stream_received [] stream = sym (append-nil stream.received)
stream_received (byte ∷ bytes) stream = refl

other_little : (came : List ℕ) (stream : Exchange) → IsNoGet stream.request
    → (stream.request ≡ []) ⊎ (length stream.received + length came ≤ 32768) → ReceivesLittle (on_stream came stream)
other_little came stream no_get few = inr (inr (record {
  none = λ url asked is. get_text url asked (on_stream came stream) (subst IsNoGet (sym (stream_request came stream)) no_get) is;
  few = elim few [
    | inl none ↦ inl (stream_request came stream ∙ none)
    | inr most ↦ inr (omega (arith, ap length (stream_received came stream), length-append stream.received came))
  ];
}))

-- ---- a reply to something else

pub other_reply_keeps : (before : List Exchange) (link new_link : LinkState) → HearsOther before link new_link → KeepsAnswers before link new_link
other_reply_keeps before link new_link is =
    let came : List ℕ = take is.count is.buffer in
    let long : length came ≡ is.count = length-take-le is.count is.buffer is.within in
    let takes : TakesDue link.due is.count came new_link.due = record {
      bytes = take_all is.count came (omega (arith, long)) ∙ is.receives.due.bytes;
      rest = is.receives.due.rest;
      end = is.receives.due.end;
    } in
    let few : (is.stream.request ≡ []) ⊎ (length is.stream.received + length came ≤ 32768) = elim is.few [
      | inl none ↦ inl none
      | inr most ↦ inr (omega (arith, most, long))
    ] in
    let little : ReceivesLittle (on_stream came is.stream) = other_little came is.stream is.no_get few in
    answered_received before link new_link came (top_later before is.others link.exchanges is.stream is.on_top is.behind) is.listens
    is.receives.exchanges (comes_due link.due came new_link.due is.count (sym long) takes) is.receives.content
    (λ newest older top.
    let both : is.stream ∷ is.others ≡ newest ∷ older = sym is.on_top ∙ top in
    let same : is.stream ≡ newest = cc in
    subst (λ (s : Exchange). ReceivesLittle (on_stream came s)) same little)

-- ---- data

nil_no_get : IsNoGet []
nil_no_get rest is = cc

no_ask_nil : (host target : List ℕ) (port first last : ℕ) → Asks host port target first last [] → ⊥
unfolding request_of
no_ask_nil host target port first last asks = let text = asks.text in cc

-- of what no mirror serves nothing is told
unserved_reply : (old new : Content) (host bytes reply : List ℕ) (port : ℕ) → (IsServed old host port → ⊥)
    → (new ≡ old) ⊎ UsesBadAnswer old host port new → HasReply old host port bytes reply new
unserved_reply old new host bytes reply port none effect = record {
  asked = λ target first last served asks. absurd (none served);
  used = λ target first last bad served asks next. absurd (none served);
  other = λ served never. absurd (none served);
  effect = effect;
}

none_served : (at : Option Mirror) → at ≡ None → IsSome at → ⊥
none_served at none served =
    let never : IsSome {T = Mirror} None = subst (λ (o : Option Mirror). IsSome o) none served in
    true≢false (sym never)

gave_first : (came : List ℕ) (old new : Content) (host : List ℕ) (port : ℕ) → mirror_at old.mirrors host port ≡ None → new ≡ old
    → Gave old (on_stream came (begun host port [] true)) [] new
gave_first [] old new host port unserved same = inr (record {
  reply = [];
  answers = unserved_reply old new host [] [] port (none_served (mirror_at old.mirrors host port) unserved) (inl same);
  whole = refl;
  last = λ ended. refl;
  little = other_little [] (begun host port [] true) nil_no_get (inl refl);
})
gave_first (byte ∷ bytes) old new host port unserved same = inr (record {
  reply = byte ∷ bytes;
  answers = unserved_reply old new host [] (byte ∷ bytes) port (none_served (mirror_at old.mirrors host port) unserved) (inl same);
  whole = append-nil (byte ∷ bytes);
  last = λ ended. refl;
  little = other_little (byte ∷ bytes) (begun host port [] true) nil_no_get (inl refl);
})

pub data_keeps : (before : List Exchange) (link new_link : LinkState) → TakesData link new_link → KeepsAnswers before link new_link
data_keeps before link new_link is old answered =
    let past = answered_past old before link answered in
    let came : List ℕ = take is.count is.buffer in
    let stream : Exchange = begun is.host is.port [] true in
    let P : Option (List ℕ × ℕ) → Type 0 = λ at. IfSome at (λ to. new_link.exchanges ≡ data_come link.data_link to.0 came link.exchanges) in
    let Q : Option (List ℕ × ℕ) → Type 0 = λ at. IfSome at (λ to. IsUnserved link.data_link to.0 link.content) in
    let come : new_link.exchanges ≡ data_come link.data_link is.host came link.exchanges = subst P is.peer is.receives.exchanges in
    let unserved : IsUnserved link.data_link is.host link.content = subst Q is.peer is.receives.unserved in
    let come_first : new_link.exchanges ≡ on_stream came stream ∷ link.exchanges =
    come ∙ ap (λ (d : DataLink). data_come d is.host came link.exchanges) is.data_link ∙ on_newest came stream link.exchanges in
    let none : mirror_at link.content.mirrors is.host is.port ≡ None =
    subst (λ (d : DataLink). IsUnserved d is.host link.content) is.data_link unserved in
    inr (record {
      newest = on_stream came stream;
      older = past.0;
      on_top = come_first ∙ ap (λ streams. on_stream came stream ∷ streams) past.1;
      between = link.content;
      past = past.2;
      due = [];
      gave = gave_first came link.content new_link.content is.host is.port none is.receives.content;
      due_is = λ listens. absurd (true≢false (sym listens ∙ is.receives.listens));
    })

-- a mirror that is asked nothing gives nothing
unserved_data : (old new : Content) (stream : Exchange) (due : List ℕ) → stream.request ≡ [] → stream.received ≢ [] → GaveAnswer old stream due new
    → IsServed old stream.host stream.port → ⊥
unserved_data old new stream due request heard one served =
    let never : (target : List ℕ) (first last : ℕ) → Asks stream.host stream.port target first last stream.request → ⊥ =
    λ target first last asks. no_ask_nil stream.host target stream.port first last
    (subst (λ bytes. Asks stream.host stream.port target first last bytes) request asks) in
    let none : stream.received ++ due ≡ [] = one.whole ∙ (one.answers.other served never).0 in
    heard (none_in_front stream.received due none)
  where
    none_in_front : (front behind : List ℕ) → front ++ behind ≡ [] → front ≡ []
    none_in_front [] behind is = refl
    none_in_front (byte ∷ front) behind is = absurd cc

gave_rest : (came : List ℕ) (old was new : Content) (stream : Exchange) (due : List ℕ) → stream.request ≡ [] → stream.fresh ≡ true
    → stream.received ≢ [] → new ≡ was → Gave old stream due was → Gave old (on_stream came stream) [] new
gave_rest came old was new stream due request fresh heard same (inl none) = absurd (true≢false (sym fresh ∙ none.kept))
gave_rest [] old was new stream due request fresh heard same (inr one) =
    let P : Content → Type 0 = λ c. (c ≡ old) ⊎ UsesBadAnswer old stream.host stream.port c in
    inr (record {
      reply = stream.received;
      answers = unserved_reply old new stream.host stream.request stream.received stream.port
          (unserved_data old was stream due request heard one) (subst P (sym same) one.answers.effect);
      whole = append-nil stream.received;
      last = λ ended. refl;
      little = other_little [] stream (subst IsNoGet (sym request) nil_no_get) (inl request);
    })
gave_rest (byte ∷ bytes) old was new stream due request fresh heard same (inr one) =
    let P : Content → Type 0 = λ c. (c ≡ old) ⊎ UsesBadAnswer old stream.host stream.port c in
    inr (record {
      reply = stream.received ++ byte ∷ bytes;
      answers = unserved_reply old new stream.host stream.request (stream.received ++ byte ∷ bytes) stream.port
          (unserved_data old was stream due request heard one) (subst P (sym same) one.answers.effect);
      whole = append-nil (stream.received ++ byte ∷ bytes);
      last = λ ended. refl;
      little = other_little (byte ∷ bytes) stream (subst IsNoGet (sym request) nil_no_get) (inl request);
    })

pub more_data_keeps : (before : List Exchange) (link new_link : LinkState) → TakesMoreData before link new_link → KeepsAnswers before link new_link
more_data_keeps before link new_link is old answered = elim answered [
  | inl same ↦ absurd (top_later before is.others link.exchanges is.stream is.on_top is.behind same.0)
  | inr top ↦
      let came : List ℕ = take is.count is.buffer in
      let P : Option (List ℕ × ℕ) → Type 0 = λ at. IfSome at (λ to. new_link.exchanges ≡ data_come link.data_link to.0 came link.exchanges) in
      let come : new_link.exchanges ≡ data_come link.data_link is.host came link.exchanges = subst P is.peer is.receives.exchanges in
      let both : top.newest ∷ (top.older ++ before) ≡ is.stream ∷ is.others = sym top.on_top ∙ is.on_top in
      let same : is.stream ≡ top.newest = cc in
      let Q : Exchange → Type 0 = λ s. Gave top.between (on_stream came s) [] new_link.content in
      let R : Exchange → Type 0 = λ s. Gave top.between s top.due link.content in
      inr (record {
        newest = on_stream came top.newest;
        older = top.older;
        on_top = come ∙ ap (λ (d : DataLink). data_come d is.host came link.exchanges) is.data_link
            ∙ ap (with_received came) top.on_top ∙ on_newest came top.newest (top.older ++ before);
        between = top.between;
        past = top.past;
        due = [];
        gave = subst Q same (gave_rest came top.between link.content new_link.content is.stream top.due is.request_is is.fresh_is is.heard
            is.receives.content (subst R (sym same) top.gave));
        due_is = λ listens. absurd (true≢false (sym listens ∙ is.receives.listens));
      })
]
