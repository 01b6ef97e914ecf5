-- How much comes by one request with its redirects.
use Rattle.std.proofs.Common.{◌≡◌, inl, inr, ℕ, ◌+◌, ◌-◌, ◌*◌, ◌<◌, ◌≤◌, ◌^◌, Bool, true, false, cond, List, [], ◌∷◌, ◌++◌, append_assoc, length, length-append, drop, refl, ap, sym, subst, ◌∙◌, arith}
use Rattle.std.proofs.lemmas.Bool.{cases_lt, cond-true, cond-false, le-ltb, lt-ltb, leb-false, true≢false}
use Rattle.std.proofs.lemmas.List.{append_cancel_right}
use Rattle.std.proofs.lemmas.List.Sums.{sum_by-append}
use Rattle.std.proofs.lemmas.List.Elements.{All-nil, All-cons, All-head, All-tail}
use Rattle.std.specs.Prelude.{All, Option, Some, None, nat_le, nat_lt}
use Rattle.link_source.specs.Endpoint.{host_value}
use Rattle.link_source.specs.Link.{LinkState}
use Rattle.link_source.specs.Mirrors.{Content}
use Rattle.link_source.specs.Requests.{Asks, AsksOnce, request_of}
use Rattle.link_source.specs.Exchanges.{Exchange}
use Rattle.link_source.specs.declared.exchanges.TheConstants.{MOST_RECEIVED}
use Rattle.range_http.specs.declared.asked.Asked.{Asked}
use Rattle.http_heads.specs.declared.head.Head.{Head}
use Rattle.range_http.specs.declared.verdict.Verdict.{Verdict}
use Rattle.range_http.specs.declared.verdict.Verdict.TheVariants.{Part, Whole, Empty, WrongLength, Moved, NotFound, Refused}
use Rattle.range_http.specs.Request.{request_text}
use Rattle.range_http.specs.Verdict.{verdict_of}
use Rattle.reply_reader.specs.Answers.{Turn, Due, Given, Away, Lost, Answer, Answers, answer_by, head_due, part_slice, whole_slice}
use Rattle.reply_reader.specs.Fills.{AnswersFill}
use Rattle.reply_reader.specs.HeadLaws.{HasOneFinalHead, FinalHeadStays}
use Rattle.reply_reader.specs.Heads.{HasFinalHead}
use Rattle.reply_reader.specs.Sizes.{heads_most, lines_most}
use Rattle.reply_reader.specs.Slices.{goes_wrong, has_come}
use Rattle.reply_reader.specs.declared.loss.Loss.{Loss}
use Rattle.reply_reader.specs.declared.loss.Loss.TheVariants as losses
use Rattle.request_chain.specs.Answered.{Gave, GaveAll, IsAnswered}
use Rattle.request_chain.specs.Bounds.{ProbesReceiveLittle, RequestsReceive, RequestsReceiveLittle, redirected, request_most}
use Rattle.request_chain.specs.Chains.{Gains, received_by}
use Rattle.request_chain.specs.Exchanges.{IsExchange, Replies, request_for}
use Rattle.request_chain.specs.Plans.{NextAsk, Ask, Over, Lost as Gone, plan_of, plan_at, plan_behind, asked_of, next_plan, rest_behind}
use Rattle.request_chain.specs.Probes as probes
use Rattle.request_chain.specs.Probes.{Probe, ProbeReplies, ProbedBy, Search, next_search, probe_asked, probe_by, search_at, told_by}
use Rattle.request_chain.specs.Received.{IsReadNoFurther, ReceivesLittle}
use Rattle.request_chain.specs.Redirects.{moved_to}
use Rattle.request_chain.specs.declared.course.TheConstants.{REDIRECT_LIMIT}
use Rattle.request_chain.proofs.MovedLemmas.{moved_test}
use Rattle.span_map.specs.Jobs.{IsJobPart}
use Rattle.span_map.specs.declared.jobs.JobPart.{JobPart}

-- ---- the streams that a link gained

module _ (P : Exchange → Type 0) where
  -- the last one, and those before it
  all-push : (front : List Exchange) (stream : Exchange) → All P (front ++ stream ∷ []) → All P front × P stream
  all-push [] stream all = (All-nil P, All-head P stream [] all)
  all-push (first ∷ front) stream all =
      let rest = all-push front stream (All-tail P first (front ++ stream ∷ []) all) in
      (All-cons P first front (All-head P first (front ++ stream ∷ []) all) rest.0, rest.1)

  -- they stand on top, the newest first, and what holds of all there holds of each
  record OnTop (before now gained : List Exchange) : Type 0 where
    top : List Exchange
    now_is : now ≡ top ++ before
    all : All P top → All P gained

  on-top : (before now gained : List Exchange) → Gains before now gained → OnTop before now gained
  on-top before now [] is = record { top = []; now_is = is; all = λ a. a }
  on-top before now (stream ∷ gained) gains =
      let later = on-top (stream ∷ before) now gained gains in
      record {
        top = later.top ++ stream ∷ [];
        now_is = later.now_is ∙ sym (append_assoc later.top (stream ∷ []) before);
        all = λ a.
            let both = all-push later.top stream a in
            All-cons P stream gained both.1 (later.all both.0);
      }

  gains_all : (before now gained top : List Exchange) → Gains before now gained → now ≡ top ++ before → All P top → All P gained
  gains_all before now gained top gains is all =
      let stands = on-top before now gained gains in
      stands.all (subst (All P) (append_cancel_right top stands.top before (sym is ∙ stands.now_is)) all)

one-little : (old : Content) (stream : Exchange) (due : List ℕ) (new : Content) → Gave old stream due new → ReceivesLittle stream
one-little old stream due new (inl nothing) = nothing.little
one-little old stream due new (inr one) = one.little

all-little : (old : Content) (streams : List Exchange) (new : Content) → GaveAll old streams new → All ReceivesLittle streams
all-little old [] new same = All-nil ReceivesLittle
all-little old (stream ∷ older) new (between, due, past, gave) =
    All-cons ReceivesLittle stream older (one-little between stream due new gave) (all-little old older between past)

-- each of them received little
gained-little : (old : Content) (before : List Exchange) (link : LinkState) (gained : List Exchange) → IsAnswered old before link → Gains before link.exchanges gained
    → All ReceivesLittle gained
gained-little old before link gained is gains = elim is [
  | inl same ↦ gains_all ReceivesLittle before link.exchanges gained [] gains same.0 (All-nil ReceivesLittle)
  | inr top ↦ gains_all ReceivesLittle before link.exchanges gained (top.newest ∷ top.older) gains top.on_top
      (all-little old (top.newest ∷ top.older) link.content (top.between, top.due, top.past, top.gave))
]

-- ---- one stream

alike : (host target : List ℕ) (asked : Asked) → request_text target host asked ≡ request_of host target asked.first asked.last
unfolding request_of
alike host target asked = refl

asks-of : (url : List ℕ) (asked : Asked) (stream : Exchange) (exchange : IsExchange url asked stream) → asked.first ≤ asked.last → asked.last < 2 ^ 64
    → Asks stream.host stream.port exchange.endpoint.target asked.first asked.last (request_for asked exchange.endpoint)
asks-of url asked stream exchange ordered bounded =
    let endpoint = exchange.endpoint in
    record {
      text =
          alike (host_value endpoint.host endpoint.port) endpoint.target asked
          ∙ ap (λ h. request_of (host_value h endpoint.port) endpoint.target asked.first asked.last) (sym exchange.host_is)
          ∙ ap (λ p. request_of (host_value stream.host p) endpoint.target asked.first asked.last) (sym exchange.port_is);
      ordered = ordered;
      bounded = bounded;
    }

-- the same bytes are asked for
same-last : AsksOnce → (url other_url : List ℕ) (asked other : Asked) (stream : Exchange) → IsExchange url asked stream → IsExchange other_url other stream
    → asked.first ≤ asked.last → asked.last < 2 ^ 64 → other.first ≤ other.last → other.last < 2 ^ 64 → asked.last ≡ other.last
same-last once url other_url asked other stream a b ordered bounded other_ordered other_bounded =
    let texts : request_for asked a.endpoint ≡ request_for other b.endpoint = sym a.request_is ∙ b.request_is in
    let first = asks-of url asked stream a ordered bounded in
    let second = asks-of other_url other stream b other_ordered other_bounded in
    let P : List ℕ → Type 0 = λ bytes. Asks stream.host stream.port b.endpoint.target other.first other.last bytes in
    (once stream.host stream.port (request_for asked a.endpoint) a.endpoint.target b.endpoint.target asked.first asked.last other.first other.last first (subst P (sym texts) second)).2

-- ---- a resource that is elsewhere

abbrev turn_of : Bool → Bool → Bool → ℕ → Loss → Turn
turn_of come wrong over last short = cond come (Given last) (cond wrong (Lost losses.BadReply) (cond over (Lost short) Due))

slice-away : {A : Type 0} (come wrong over : Bool) (last : ℕ) (short : Loss) (status : ℕ) (location : List ℕ) → turn_of come wrong over last short ≡ Away status location → A
slice-away true wrong over last short status location is = absurd (cc is)
slice-away false true over last short status location is = absurd (cc is)
slice-away false false true last short status location is = absurd (cc is)
slice-away false false false last short status location is = absurd (cc is)

away-verdict : (head : Head) (asked : Asked) (verdict : Verdict) (stream : List ℕ) (ended : Bool) (status : ℕ) (location : List ℕ)
    → (answer_by head asked verdict stream ended).turn ≡ Away status location → verdict ≡ Moved
away-verdict head asked (Part last total framing) stream ended status location is = slice-away (has_come (part_slice asked last framing) stream) (goes_wrong (part_slice asked last framing) stream) _ last _ status location is
away-verdict head asked (Whole total framing) stream ended status location is = slice-away (has_come (whole_slice asked framing) stream) (goes_wrong (whole_slice asked framing) stream) _ asked.last _ status location is
away-verdict head asked Empty stream ended status location is = absurd (cc is)
away-verdict head asked (WrongLength told) stream ended status location is = absurd (cc is)
away-verdict head asked Moved stream ended status location is = refl
away-verdict head asked NotFound stream ended status location is = absurd (cc is)
away-verdict head asked (Refused code) stream ended status location is = absurd (cc is)

due-away : {A : Type 0} (ended : Bool) (status : ℕ) (location : List ℕ) → (head_due ended).turn ≡ Away status location → A
due-away true status location is = absurd (cc is)
due-away false status location is = absurd (cc is)

module _ (one : HasOneFinalHead) (stays : FinalHeadStays) where
  -- by a reply that is read further than its heads the resource isn't elsewhere
  never-away : {A : Type 0} (asked : Asked) (stream : Exchange) (far : IsReadNoFurther stream) (answer : Answer) (status : ℕ) (location : List ℕ)
      → Answers asked stream.received stream.ended answer → answer.turn ≡ Away status location → A
  never-away asked stream far answer status location answers is = elim answers [
    | inl (due, same) ↦ due-away stream.ended status location (sym (ap (λ (a : Answer). a.turn) same) ∙ is)
    | inr (inl (none, same)) ↦
        let both : Lost losses.BadReply ≡ Away status location = sym (ap (λ (a : Answer). a.turn) same) ∙ is in
        absurd (cc both)
    | inr (inr headed) ↦
        let P : List ℕ → Type 0 = λ received. HasFinalHead received far.head far.used in
        let begins = subst P (sym far.received_is) (stays far.front far.behind far.head far.used far.begins) in
        let same : headed.head ≡ far.head = (one stream.received headed.head far.head headed.used far.used headed.begins begins).0 in
        let moved : verdict_of headed.head asked ≡ Moved =
        away-verdict headed.head asked (verdict_of headed.head asked) (drop headed.used stream.received) stream.ended status location (sym (ap (λ (a : Answer). a.turn) headed.is) ∙ is) in
        absurd (true≢false (sym (moved_test far.head asked (ap (λ h. verdict_of h asked) (sym same) ∙ moved)) ∙ far.here))
  ]

  -- how much came by a request, and by one that leads elsewhere
  one-most : AsksOnce → (url : List ℕ) (asked : Asked) (stream : Exchange) (answer : Answer) → asked.first ≤ asked.last → asked.last < 2 ^ 64 → ReceivesLittle stream
      → Replies url asked stream answer → length stream.received ≤ heads_most + 261 * (asked.last + 1) + lines_most + MOST_RECEIVED
  one-most once url asked stream answer ordered bounded (inl near) replies = omega (arith, near.few)
  one-most once url asked stream answer ordered bounded (inr (inl far)) asking =
      let last = same-last once url far.url asked far.asked stream asking.0 far.exchange ordered bounded far.ordered far.bounded in
      omega (arith, last, far.short, far.buffer, ap length far.received_is, length-append far.front far.behind)
  one-most once url asked stream answer ordered bounded (inr (inr other)) replies = absurd (other.none url asked replies.0)

  away-most : (url : List ℕ) (asked : Asked) (stream : Exchange) (answer : Answer) (status : ℕ) (location : List ℕ) → ReceivesLittle stream
      → Replies url asked stream answer → answer.turn ≡ Away status location → length stream.received ≤ heads_most
  away-most url asked stream answer status location (inl near) replies is = omega (arith, near.few)
  away-most url asked stream answer status location (inr (inl far)) asking is = never-away asked stream far answer status location asking.1 is
  away-most url asked stream answer status location (inr (inr other)) replies is = absurd (other.none url asked replies.0)

-- ---- all streams

-- what is asked is sound, and little came by the redirects before
abbrev Bound : NextAsk → ℕ → Type 0
Bound (Over ending) came = Unit {0}
Bound (Ask part parts url count status) came =
    All IsJobPart (part ∷ parts) × All (λ (p : JobPart). p.total < 2 ^ 64) (part ∷ parts) × (count ≤ REDIRECT_LIMIT) × (came ≤ heads_most * count)

plan-bound : (parts : List JobPart) → All IsJobPart parts → All (λ (p : JobPart). p.total < 2 ^ 64) parts → Bound (plan_of parts) 0
plan-bound [] are small = record {}
plan-bound (part ∷ parts) are small = (are, small, omega arith, omega arith)

module _ (one : HasOneFinalHead) (stays : FinalHeadStays) (once : AsksOnce) (fill : AnswersFill) where
  module _ (part : JobPart) (parts : List JobPart) (url : List ℕ) (count status came : ℕ) (stream : Exchange) (answer : Answer)
      (bound : Bound (Ask part parts url count status) came) (little : ReceivesLittle stream) (replies : Replies url (asked_of part) stream answer) where
    is-part : IsJobPart part
    is-part = All-head IsJobPart part parts bound.0

    small : part.total < 2 ^ 64
    small = All-head (λ (p : JobPart). p.total < 2 ^ 64) part parts bound.1

    rest-bound : Bound (plan_of parts) 0
    rest-bound = plan-bound parts (All-tail IsJobPart part parts bound.0) (All-tail (λ (p : JobPart). p.total < 2 ^ 64) part parts bound.1)

    behind-bound : (last : ℕ) → (asked_of part).first ≤ last → Bound (plan_behind part parts last) 0
    behind-bound last from =
        let end = part.at + part.len - 1 in
        elim (cases_lt last end) [
          | inl before ↦
              let rest = rest_behind part last in
              let is_rest : IsJobPart rest = record { some = omega (arith, before); within = omega (arith, before, is-part.within, is-part.some) } in
              subst (λ plan. Bound plan 0) (sym (cond-true (nat_lt last end) (plan_of (rest ∷ parts)) (plan_of parts) (lt-ltb last end before)))
              (plan-bound (rest ∷ parts) (All-cons IsJobPart rest parts is_rest (All-tail IsJobPart part parts bound.0))
              (All-cons (λ (p : JobPart). p.total < 2 ^ 64) rest parts small (All-tail (λ (p : JobPart). p.total < 2 ^ 64) part parts bound.1)))
          | inr all ↦
              subst (λ plan. Bound plan 0) (sym (cond-false (nat_lt last end) (plan_of (rest_behind part last ∷ parts)) (plan_of parts) (le-ltb last end all))) rest-bound
        ]

    given-from : (last : ℕ) → answer.turn ≡ Given last → (asked_of part).first ≤ last
    given-from last is = ((fill (asked_of part) stream.received stream.ended answer (omega (arith, is-part.some)) replies.1).given last is).0

    at-bound : (next : Option (List ℕ)) (told came' : ℕ) → count < REDIRECT_LIMIT → came' ≤ heads_most * (count + 1) → Bound (plan_at part parts (count + 1) told next) came'
    at-bound None told came' few less = record {}
    at-bound (Some next) told came' few less = (bound.0, bound.1, omega (arith, few), less)

    away-bound : (often : Bool) (told : ℕ) (location : List ℕ) (came' : ℕ) → nat_le REDIRECT_LIMIT count ≡ often → came' ≤ heads_most * (count + 1)
        → Bound (cond often (Over (Gone losses.Redirects)) (plan_at part parts (count + 1) told (moved_to url location))) came'
    away-bound true told location came' is less = record {}
    away-bound false told location came' is less = at-bound (moved_to url location) told came' (leb-false REDIRECT_LIMIT count is) less

    next-bound : (turn : Turn) → answer.turn ≡ turn → Bound (next_plan part parts url count turn) (redirected turn (came + length stream.received))
    next-bound Due is = record {}
    next-bound (Given last) is = behind-bound last (given-from last is)
    next-bound (Away told location) is =
        let few = away-most one stays url (asked_of part) stream answer told location little replies is in
        away-bound (nat_le REDIRECT_LIMIT count) told location (came + length stream.received) refl (omega (arith, few, bound.3))
    next-bound (Lost loss) is = record {}

    most : came + length stream.received ≤ request_most (asked_of part)
    most =
        let asked = asked_of part in
        let here = one-most one stays once url asked stream answer (omega (arith, is-part.some)) (omega (arith, is-part.some, is-part.within, small)) little replies in
        omega (arith, here, bound.2, bound.3)

  receives : (plan : NextAsk) (came : ℕ) (streams : List Exchange) → Bound plan came → All ReceivesLittle streams → RequestsReceive plan came streams
  receives (Over ending) came streams bound little = record {}
  receives (Ask part parts url count status) came [] bound little = record {}
  receives (Ask part parts url count status) came (stream ∷ streams) bound little = (
    λ vain. receives (Ask part parts url count status) came streams bound (All-tail ReceivesLittle stream streams little),
    λ answer replies.
        let here = All-head ReceivesLittle stream streams little in (
          most part parts url count status came stream answer bound here replies,
          receives (next_plan part parts url count answer.turn) (redirected answer.turn (came + length stream.received)) streams
              (next-bound part parts url count status came stream answer bound here replies answer.turn refl) (All-tail ReceivesLittle stream streams little),
        ),
  )

  pub requests_receive_little : RequestsReceiveLittle
  requests_receive_little old before link gained parts answered gains are small =
      receives (plan_of parts) 0 gained (plan-bound parts are small) (gained-little old before link gained answered gains)

-- ---- a probe

probe-due : {A : Type 0} (ended : Bool) (status : ℕ) (location : List ℕ) → cond ended (probes.Lost (losses.Short 0)) probes.Due ≡ probes.Away status location → A
probe-due true status location is = absurd (cc is)
probe-due false status location is = absurd (cc is)

told-away : {A : Type 0} (told : ℕ) (total : Option ℕ) (status : ℕ) (location : List ℕ) → told_by told total ≡ probes.Away status location → A
told-away told None status location is = absurd (cc is)
told-away told (Some total) status location is = absurd (cc is)

probe-away : (head : Head) (verdict : Verdict) (status : ℕ) (location : List ℕ) → probe_by head verdict ≡ probes.Away status location → verdict ≡ Moved
probe-away head (Part last total framing) status location is = told-away head.status total status location is
probe-away head (Whole total framing) status location is = told-away head.status total status location is
probe-away head Empty status location is = absurd (cc is)
probe-away head (WrongLength told) status location is = absurd (cc is)
probe-away head Moved status location is = refl
probe-away head NotFound status location is = absurd (cc is)
probe-away head (Refused code) status location is = absurd (cc is)

module _ (one : HasOneFinalHead) (stays : FinalHeadStays) (once : AsksOnce) where
  -- how much came by a probe's request, and by one that leads elsewhere
  probe-most : (url : List ℕ) (stream : Exchange) (told : Probe) → ReceivesLittle stream → ProbeReplies url stream told
      → length stream.received ≤ heads_most + 261 + lines_most + MOST_RECEIVED
  probe-most url stream told (inl near) replies = omega (arith, near.few)
  probe-most url stream told (inr (inl far)) asking =
      let last = same-last once url far.url probe_asked far.asked stream asking.0 far.exchange (omega arith) (omega arith) far.ordered far.bounded in
      omega (arith, last, far.short, far.buffer, ap length far.received_is, length-append far.front far.behind)
  probe-most url stream told (inr (inr other)) replies = absurd (other.none url probe_asked replies.0)

  probe-away-most : (url : List ℕ) (stream : Exchange) (told : Probe) (status : ℕ) (location : List ℕ) → ReceivesLittle stream → ProbeReplies url stream told
      → told ≡ probes.Away status location → length stream.received ≤ heads_most
  probe-away-most url stream told status location (inl near) replies is = near.few
  probe-away-most url stream told status location (inr (inr other)) replies is = absurd (other.none url probe_asked replies.0)
  probe-away-most url stream told status location (inr (inl far)) asking is = elim asking.2 [
    | inl (due, same) ↦ probe-due stream.ended status location (sym same ∙ is)
    | inr (inl (none, same)) ↦
        let both : probes.Lost losses.BadReply ≡ probes.Away status location = sym same ∙ is in
        absurd (cc both)
    | inr (inr (head, used, headed, same)) ↦
        let P : List ℕ → Type 0 = λ received. HasFinalHead received far.head far.used in
        let begins = subst P (sym far.received_is) (stays far.front far.behind far.head far.used far.begins) in
        let heads : head ≡ far.head = (one stream.received head far.head used far.used headed begins).0 in
        let moved : verdict_of head probe_asked ≡ Moved = probe-away head (verdict_of head probe_asked) status location (sym same ∙ is) in
        absurd (true≢false (sym (moved_test far.head probe_asked (ap (λ h. verdict_of h probe_asked) (sym heads) ∙ moved)) ∙ far.here))
  ]

  -- behind this, where so much came before
  abbrev Within : Search → ℕ → Type 0
  Within (probes.Found probe) came = came ≤ request_most probe_asked
  Within (probes.At url count status) came = (count ≤ REDIRECT_LIMIT) × (came ≤ heads_most * count)

  at-within : (next : Option (List ℕ)) (count status came : ℕ) → count < REDIRECT_LIMIT → came ≤ heads_most * (count + 1) → Within (search_at next (count + 1) status) came
  at-within None count status came few less = omega (arith, few, less)
  at-within (Some next) count status came few less = (omega (arith, few), less)

  away-within : (often : Bool) (url : List ℕ) (count status came : ℕ) (location : List ℕ) → nat_le REDIRECT_LIMIT count ≡ often → count ≤ REDIRECT_LIMIT
      → came ≤ heads_most * (count + 1)
      → Within (cond often (probes.Found (probes.Lost losses.Redirects)) (search_at (moved_to url location) (count + 1) status)) came
  away-within true url count status came location is few less = omega (arith, few, less)
  away-within false url count status came location is few less = at-within (moved_to url location) count status came (leb-false REDIRECT_LIMIT count is) less

  next-within : (url : List ℕ) (count came : ℕ) (stream : Exchange) (told : Probe) → count ≤ REDIRECT_LIMIT → came ≤ heads_most * count → ReceivesLittle stream
      → ProbeReplies url stream told → (probe : Probe) → told ≡ probe → Within (next_search url count probe) (came + length stream.received)
  next-within url count came stream told few less little replies probes.Due is =
      let most = probe-most url stream told little replies in omega (arith, most, few, less)
  next-within url count came stream told few less little replies (probes.Told total) is =
      let most = probe-most url stream told little replies in omega (arith, most, few, less)
  next-within url count came stream told few less little replies (probes.Away status location) is =
      let most = probe-away-most url stream told status location little replies is in
      away-within (nat_le REDIRECT_LIMIT count) url count status (came + length stream.received) location refl few (omega (arith, most, less))
  next-within url count came stream told few less little replies (probes.Lost loss) is =
      let most = probe-most url stream told little replies in omega (arith, most, few, less)

  probe-receives : (search : Search) (came : ℕ) (streams : List Exchange) (probe : Probe) → Within search came → All ReceivesLittle streams → ProbedBy search streams probe
      → came + received_by streams ≤ request_most probe_asked
  probe-receives (probes.Found told) came streams probe within little (same, none) = omega (arith, within, ap received_by none)
  probe-receives (probes.At url count status) came [] probe within little stands = omega (arith, within.0, within.1)
  probe-receives (probes.At url count status) came (stream ∷ streams) probe within little (told, replies, probed) =
      let next = next-within url count came stream told within.0 within.1 (All-head ReceivesLittle stream streams little) replies told refl in
      let rest = probe-receives (next_search url count told) (came + length stream.received) streams probe next (All-tail ReceivesLittle stream streams little) probed in
      omega (arith, rest, sum_by-append (λ (s : Exchange). length s.received) (stream ∷ []) streams)

  pub probes_receive_little : ProbesReceiveLittle
  probes_receive_little old before link gained url probe answered gains probed =
      let all = probe-receives (probes.At url 0 0) 0 gained probe (omega arith, omega arith) (gained-little old before link gained answered gains) probed in
      omega (arith, all)
