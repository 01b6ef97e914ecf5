-- What a stream gave in answer to a request.
use Rattle.std.proofs.Common.{◌≡◌, ℕ, ◌+◌, ◌<◌, ◌≤◌, ◌^◌, Bool, true, arith, List, [], ◌++◌, refl, ap, sym, subst, ◌∙◌}
use Rattle.std.proofs.lemmas.Bool.{cond-true}
use Rattle.std.specs.Prelude.{Option, Some, None, IsSome}
use Rattle.link_source.specs.Endpoint.{endpoint_of, host_value}
use Rattle.memory_serving_laws.specs.Leads.{StandsAt}
use Rattle.link_source.specs.Mirrors.{Content, AddsReply, HasReply, IsServed, bad_at, mirror_at, number_at, reply_by}
use Rattle.link_source.specs.Replies.{text_under}
use Rattle.link_source.specs.Requests.{Asks}
use Rattle.link_source.specs.Exchanges.{Exchange}
use Rattle.link_source.specs.Files.{MemFile}
use Rattle.link_source.specs.declared.bad_answers.Bad.{Bad}
use Rattle.link_source.specs.declared.endpoint.Endpoint.{Endpoint}
use Rattle.link_source.specs.declared.mirrors.Manner.{Manner}
use Rattle.range_http.specs.declared.asked.Asked.{Asked}
use Rattle.memory_reply_laws.specs.Answers.{Has, RequestsAreAlike, RequestsAreAnswered}
use Rattle.request_chain.specs.Answered.{GaveAnswer}
use Rattle.request_chain.specs.Exchanges.{IsExchange, LeadsTo, request_for}
use Rattle.memory_serving_laws.specs.Serving.{NamesMirror, used_among}
use Rattle.memory_serving_laws.proofs.Counting.{counts, next_number, one_used, reply_counts}

-- a URL leads to one endpoint
one-endpoint : (url : List ℕ) (a b : Endpoint) → LeadsTo url a → LeadsTo url b → a ≡ b
one-endpoint url a b leads others =
    let urls : leads.0 ≡ others.0 = cc (leads.1, others.1) in
    leads.3 ∙ ap endpoint_of urls ∙ sym others.3

-- how many bad answers there are
abbrev pub cost : Option Bad → ℕ
cost None = 0
cost (Some bad) = 1

-- the stream gave the reply of what stands there, or a bad one in its place, or a front of it; all of it, where the end was told
pub record GaveReply (among : ℕ → Bool) (at after : Content) (asked : Asked) (stream : Exchange) (manner : Manner) (file : MemFile) : Type 0 where
  pub bad : Option Bad
  pub due : List ℕ
  pub whole : text_under bad (reply_by manner (Some file) asked.first asked.last) ≡ stream.received ++ due
  pub last : stream.ended ≡ true → due ≡ []
  pub paid : used_among among at + cost bad ≤ used_among among after

module _ (alike : RequestsAreAlike) (answered : RequestsAreAnswered) (among : ℕ → Bool) (old : Content) where
  -- the mirror of the endpoint, at the time of the request
  has_there : (at : Content) (url : List ℕ) (endpoint : Endpoint) (file : MemFile) → at.mirrors ≡ old.mirrors → (stands : StandsAt old url file)
      → LeadsTo url endpoint → Has at endpoint.host endpoint.port endpoint.target stands.mirror.manner (Some file)
  has_there at url endpoint file mirrors stands leads =
      let here : Has at stands.endpoint.host stands.endpoint.port stands.endpoint.target stands.mirror.manner (Some file) = record {
        mirror = stands.mirror;
        mirror_is = ap (λ mirrors. mirror_at mirrors stands.endpoint.host stands.endpoint.port) mirrors ∙ stands.mirror_is;
        manner_is = refl;
        file_is = stands.file_is;
      } in
      subst (λ (e : Endpoint). Has at e.host e.port e.target stands.mirror.manner (Some file)) (one-endpoint url stands.endpoint endpoint stands.named leads) here

  -- what was sent asks the mirror
  asks_there : (asked : Asked) (stream : Exchange) (endpoint : Endpoint) (request : List ℕ) → asked.first ≤ asked.last → asked.last < 2 ^ 64
      → stream.host ≡ endpoint.host → stream.port ≡ endpoint.port → request ≡ request_for asked endpoint
      → Asks stream.host stream.port endpoint.target asked.first asked.last request
  asks_there asked stream endpoint request ordered bounded host port sent =
      let here : Asks endpoint.host endpoint.port endpoint.target asked.first asked.last request = record {
        text = sent ∙ alike (host_value endpoint.host endpoint.port) endpoint.target asked;
        ordered = ordered;
        bounded = bounded;
      } in
      let P : List ℕ → Type 0 = λ h. Asks h endpoint.port endpoint.target asked.first asked.last request in
      let Q : ℕ → Type 0 = λ p. Asks stream.host p endpoint.target asked.first asked.last request in
      subst Q (sym port) (subst P (sym host) here)

  -- a bad answer that is next there is one of these mirrors', and used
  paid_there : (url : List ℕ) (asked : Asked) (stream : Exchange) (at after : Content) (endpoint : Endpoint) (request reply : List ℕ) (next : Option Bad)
      → HasReply at stream.host stream.port request reply after → Asks stream.host stream.port endpoint.target asked.first asked.last request
      → stream.host ≡ endpoint.host → stream.port ≡ endpoint.port → at.mirrors ≡ old.mirrors
      → LeadsTo url endpoint → ((number : ℕ) → NamesMirror old url number → among number ≡ true)
      → bad_at at stream.host stream.port ≡ next → IsServed at stream.host stream.port → used_among among at + cost next ≤ used_among among after
  paid_there url asked stream at after endpoint request reply None has asks host port mirrors leads is_among is served =
      omega (arith, (reply_counts among at stream.host stream.port request reply after has).0)
  paid_there url asked stream at after endpoint request reply (Some bad) has asks host port mirrors leads is_among is served =
      let used = one_used among at after bad (has.used endpoint.target asked.first asked.last bad served asks is) in
      let next = next_number at stream.host stream.port bad is in
      let at_old : number_at old.mirrors endpoint.host endpoint.port ≡ Some next.number =
      ap (λ h. number_at old.mirrors h endpoint.port) (sym host) ∙ ap (number_at old.mirrors stream.host) (sym port)
      ∙ ap (λ mirrors. number_at mirrors stream.host stream.port) (sym mirrors) ∙ next.number_is in
      let counted : among bad.mirror ≡ true =
      ap among next.own ∙ is_among next.number (record { endpoint = endpoint; named = leads; number_is = at_old }) in
      let one : counts among bad ≡ 1 = cond-true (among bad.mirror) 1 0 counted in
      omega (arith, used, one)

  -- a request for what stands at a URL had its reply, or the next bad answer in its place
  pub gave_reply : (url : List ℕ) (asked : Asked) (stream : Exchange) (file : MemFile) (at after : Content) (due : List ℕ) → asked.first ≤ asked.last → asked.last < 2 ^ 64
      → at.mirrors ≡ old.mirrors → (stands : StandsAt old url file) → ((number : ℕ) → NamesMirror old url number → among number ≡ true)
      → IsExchange url asked stream → GaveAnswer at stream due after → GaveReply among at after asked stream stands.mirror.manner file
  gave_reply url asked stream file at after due ordered bounded mirrors stands is_among exchange one =
      let endpoint = exchange.endpoint in
      let manner = stands.mirror.manner in
      let asks = asks_there asked stream endpoint stream.request ordered bounded exchange.host_is exchange.port_is exchange.request_is in
      let bad = bad_at at stream.host stream.port in
      let has = has_there at url endpoint file mirrors stands exchange.leads in
      let here : mirror_at at.mirrors stream.host stream.port ≡ Some has.mirror =
      ap (λ h. mirror_at at.mirrors h stream.port) exchange.host_is ∙ ap (mirror_at at.mirrors endpoint.host) exchange.port_is ∙ has.mirror_is in
      let served : IsServed at stream.host stream.port = subst (λ m. IsSome m) (sym here) refl in
      let P : List ℕ → Type 0 = λ h. AddsReply h stream.port stream.request at after [] one.reply in
      let Q : ℕ → Type 0 = λ p. AddsReply endpoint.host p stream.request at after [] one.reply in
      let adds : AddsReply endpoint.host endpoint.port stream.request at after [] one.reply =
      subst Q exchange.port_is (subst P exchange.host_is one.answers) in
      let same : bad_at at endpoint.host endpoint.port ≡ bad =
      ap (λ h. bad_at at h endpoint.port) (sym exchange.host_is) ∙ ap (bad_at at stream.host) (sym exchange.port_is) in
      let reply : one.reply ≡ text_under (bad_at at endpoint.host endpoint.port) (reply_by manner (Some file) asked.first asked.last) =
      answered [] one.reply stream.request endpoint.host endpoint.target endpoint.port asked at after manner (Some file) has
      (record { nothing_due = refl; sent_is = exchange.request_is; ordered = ordered; bounded = bounded }) adds in
      record {
        bad = bad;
        due = due;
        whole =
            sym (reply ∙ ap (λ b. text_under b (reply_by manner (Some file) asked.first asked.last)) same) ∙ sym one.whole;
        last = one.last;
        paid = paid_there url asked stream at after endpoint stream.request one.reply bad one.answers asks exchange.host_is exchange.port_is mirrors exchange.leads is_among refl served;
      }
