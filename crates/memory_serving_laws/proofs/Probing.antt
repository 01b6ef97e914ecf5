-- What bad answers make of a probe.
use Rattle.std.proofs.Common.{◌≡◌, ◌≢◌, ◌⊎◌, inl, inr, ℕ, zero, suc, ◌+◌, ◌<◌, ◌≤◌, ◌^◌, Bool, true, false, cond, List, [], ◌∷◌, ◌++◌, append-nil, append_assoc, length, drop, Option, Some, None, refl, ap, sym, subst, ◌∙◌, arith}
use Rattle.std.proofs.Math.Seq.{take-nil}
use Rattle.std.proofs.lemmas.Bool.{cases_lt, cond-true, cond-false, eq-eqb, eqb-true, cases_Bool, lt-leb, true≢false}
use Rattle.std.proofs.lemmas.List.{length-set}
use Rattle.std.specs.Prelude.{nat_le, nat_lt, unwrap_or, ◌&&◌, ◌==◌}
use Rattle.link_source.specs.Endpoint.{IsHttp}
use Rattle.link_source.specs.Mirrors.{Content, content_reply}
use Rattle.link_source.specs.Replies.{bare_reply, body_text, moved, not_satisfiable, spoiled_text, status_head, text_of, text_under}
use Rattle.link_source.specs.Exchanges.{Exchange}
use Rattle.link_source.specs.Files.{Bytes, Moved}
use Rattle.link_source.specs.declared.bad_answers.Bad.{Bad}
use Rattle.link_source.specs.declared.bad_answers.BadKind.{BadKind}
use Rattle.link_source.specs.declared.bad_answers.BadKind.TheVariants.{Status, Cut, Flip}
use Rattle.link_source.specs.declared.mirrors.Manner.{Manner}
use Rattle.link_source.specs.declared.mirrors.Manner.TheVariants.{Ranges, Whole, Chunked, ToEnd}
use Rattle.http_heads.specs.declared.head.Head.{Head}
use Rattle.range_http.specs.declared.verdict.Verdict.{Verdict}
use Rattle.range_http.specs.declared.verdict.Verdict.TheVariants.{NotFound}
use Rattle.range_http.specs.Verdict.{overloaded, unauthorized, unexpected, verdict_of}
use Rattle.memory_reply_laws.specs.BadReplies.{with_turned, bare_verdict}
use Rattle.memory_reply_laws.specs.Reading.{BeginsWithHead}
use Rattle.memory_reply_laws.specs.Replies.{AsksWithin, EmptyIsRead}
use Rattle.reply_reader.specs.HeadLaws.{NoFinalHeadStays}
use Rattle.reply_reader.specs.Heads.{HasFinalHead, HasNoFinalHead, IsHeadDue}
use Rattle.reply_reader.specs.declared.loss.Loss.{Loss}
use Rattle.reply_reader.specs.declared.loss.Loss.TheVariants as losses
use Rattle.request_chain.specs.Answered.{Gave, GaveAnswer}
use Rattle.request_chain.specs.Probes.{Probe, Due, Told, Away, Lost, ProbeAnswers, ProbeReplies, ProbedBy, Search, At, Found, next_search, search_at, probe_asked, probe_by}
use Rattle.request_chain.specs.declared.course.TheConstants.{REDIRECT_LIMIT}
use Rattle.part_fetches.specs.Probes.{Probed}
use Rattle.part_fetches.proofs.Following.{http_no_ftp}
use Rattle.part_fetches.proofs.Probing.{told_by_requests}
use Rattle.memory_serving_laws.specs.Leads.{Redirects}
use Rattle.memory_serving_laws.specs.Serving.{LeadsThrough, NamesMirror, used_among}
use Rattle.memory_serving_laws.specs.Sizes.{TellsSize, LeadsToSize, misses, BadAnswersPayProbes, ServedSizeIsTold}
use Rattle.memory_serving_laws.proofs.Asking.{gave_reply, cost}
use Rattle.memory_serving_laws.proofs.Bare.{bare_front, either}
use Rattle.memory_serving_laws.proofs.Counting.{each_counts, gave_counts, top_of}
use Rattle.memory_serving_laws.proofs.Gained.{GaveEach, gave_each}
use Rattle.memory_serving_laws.proofs.Plans.{names_leads, usable_at}
use Rattle.memory_serving_laws.proofs.Replies.{has_final_head}
use Rattle.memory_serving_laws.proofs.Turns.{Laws}

-- ---- what a text tells

-- the text has a final head, by which this is told
record TextTells (text : List ℕ) (probe : Probe) : Type 0 where
  head : Head
  used : ℕ
  begins : HasFinalHead text head used
  means : probe_by head (verdict_of head probe_asked) ≡ probe

tells-by : (text : List ℕ) (status used : ℕ) (verdict : Verdict) (probe : Probe) → (nat_le 100 status && nat_lt status 200) ≡ false
    → (has : BeginsWithHead text probe_asked status used verdict) → probe_by has.head verdict ≡ probe → TextTells text probe
tells-by text status used verdict probe final has is = record {
  head = has.head;
  used = used;
  begins = has_final_head text probe_asked status used verdict final has;
  means = ap (probe_by has.head) has.means ∙ is;
}

-- the true reply for a resource tells its length, unless it ends with the stream
module _ (laws : Laws) (empty : EmptyIsRead) where
  within : (byte : ℕ) (bytes : List ℕ) → length (byte ∷ bytes) < 2 ^ 63 → AsksWithin (byte ∷ bytes) probe_asked
  within byte bytes small = record { bounded = small; ordered = omega arith; begins = omega arith; known = record {} }

  nothing-there : TextTells (text_of (bare_reply (not_satisfiable 0))) (Told 0)
  nothing-there = let has = empty probe_asked refl in tells-by _ 416 has.0 _ (Told 0) refl has.1 refl

  reply-tells : (manner : Manner) (bytes : List ℕ) → length bytes < 2 ^ 63 → manner ≢ ToEnd
      → TextTells (text_of (content_reply manner bytes 0 0)) (Told (length bytes))
  reply-tells Ranges [] small told = nothing-there
  reply-tells Chunked [] small told = nothing-there
  reply-tells Ranges (byte ∷ bytes) small told =
      let has = laws.part (byte ∷ bytes) probe_asked (within byte bytes small) in
      tells-by _ 206 has.used _ _ refl has.head refl
  reply-tells Chunked (byte ∷ bytes) small told =
      let has = laws.chunked_part (byte ∷ bytes) probe_asked (within byte bytes small) in
      tells-by _ 206 has.used _ _ refl has.head refl
  reply-tells Whole bytes small told =
      let has = laws.whole bytes probe_asked small (record {}) in
      tells-by _ 200 has.used _ _ refl has.head refl
  reply-tells ToEnd bytes small told = absurd (told refl)

-- ---- what a front of it tells

-- a probe that ends so
abbrev IsEnd : Probe → Type 0
IsEnd probe = (url : List ℕ) (count : ℕ) → next_search url count probe ≡ Found probe

-- more is due, or this is told, or the probe ends, where that was paid for
abbrev Outcome : Probe → ℕ → Probe → Type 0
Outcome right spent probe = (probe ≡ Due) ⊎ (probe ≡ right) ⊎ (IsEnd probe × (spent ≡ 1))

lost-end : (loss : Loss) (probe : Probe) → probe ≡ Lost loss → IsEnd probe
lost-end loss probe is = subst IsEnd (sym is) (λ url count. refl)

-- the head is due of a stream, whose end was told or not
head-due : (ended : Bool) (probe : Probe) → probe ≡ cond ended (Lost (losses.Short 0)) Due → (probe ≡ Due) ⊎ ((ended ≡ true) × IsEnd probe)
head-due true probe is = inr (refl, lost-end (losses.Short 0) probe is)
head-due false probe is = inl is

module _ (laws : Laws) (none_stays : NoFinalHeadStays) where
  -- more is due, or what the whole text tells, or the stream ended within the head
  front-tells : (text received left : List ℕ) (ended : Bool) (right probe : Probe) → text ≡ received ++ left → TextTells text right → ProbeAnswers received ended probe
      → (probe ≡ Due) ⊎ (probe ≡ right) ⊎ ((ended ≡ true) × IsEnd probe × IsHeadDue received)
  front-tells text received left ended right probe is tells answers = elim answers [
    | inl (due, told) ↦ elim (head-due ended probe told) [
      | inl waits ↦ inl waits
      | inr ends ↦ inr (inr (ends.0, ends.1, due))
    ]
    | inr (inl (none, told)) ↦
        absurd (laws.heads.there text tells.head tells.used tells.begins (subst HasNoFinalHead (sym is) (none_stays received left none)))
    | inr (inr (head, used, begins, told)) ↦
        let stays = subst (λ t. HasFinalHead t head used) (sym is) (laws.heads.stays received left head used begins) in
        let same : head ≡ tells.head = (laws.heads.one text head tells.head used tells.used stays tells.begins).0 in
        inr (inl (told ∙ ap (λ h. probe_by h (verdict_of h probe_asked)) same ∙ tells.means))
  ]

  -- a stream that ended had the whole text
  whole-tells : (text received left : List ℕ) (ended : Bool) (right probe : Probe) → text ≡ received ++ left → (ended ≡ true → left ≡ []) → TextTells text right
      → ProbeAnswers received ended probe → (probe ≡ Due) ⊎ (probe ≡ right)
  whole-tells text received left ended right probe is last tells answers = elim (front-tells text received left ended right probe is tells answers) [
    | inl due ↦ inl due
    | inr (inl told) ↦ inr told
    | inr (inr (ends, end, due)) ↦
        let all : text ≡ received = is ∙ ap (λ l. received ++ l) (last ends) ∙ append-nil received in
        absurd (laws.heads.not_due text tells.head tells.used tells.begins (subst IsHeadDue (sym all) due))
  ]

  -- ---- under a status alone

  verdict-end : (head : Head) (status : ℕ) → IsEnd (probe_by head (bare_verdict status probe_asked))
  verdict-end head status =
      let P : Verdict → Type 0 = λ verdict. IsEnd (probe_by head verdict) in
      either (status == 404) NotFound _ P (λ url count. refl)
      (either (status == 401) unauthorized _ P (λ url count. refl)
      (either (status == 503) overloaded _ P (λ url count. refl)
      (either (status == 200) _ unexpected P (λ url count. refl) (λ url count. refl))))

  status-ends : (status : ℕ) (received left : List ℕ) (ended : Bool) (right probe : Probe) → status_head status ≡ received ++ left → ProbeAnswers received ended probe
      → Outcome right 1 probe
  status-ends status received left ended right probe is answers = elim answers [
    | inl (due, told) ↦ elim (head-due ended probe told) [
      | inl waits ↦ inl waits
      | inr ends ↦ inr (inr (ends.1, refl))
    ]
    | inr (inl (none, told)) ↦ inr (inr (lost-end losses.BadReply probe told, refl))
    | inr (inr (head, used, begins, told)) ↦
        let read = bare_front laws.heads status probe_asked received left head used is begins in
        let means : probe ≡ probe_by head (bare_verdict read.0 probe_asked) = told ∙ ap (probe_by head) read.1 in
        inr (inr (subst IsEnd (sym means) (verdict-end head read.0), refl))
  ]

  -- ---- under each bad answer

  module _ (received left : List ℕ) (ended : Bool) (last : ended ≡ true → left ≡ []) (right probe : Probe) (answers : ProbeAnswers received ended probe) where
    right-outcome : (text : List ℕ) (spent : ℕ) → text ≡ received ++ left → TextTells text right → Outcome right spent probe
    right-outcome text spent is tells = elim (whole-tells text received left ended right probe is last tells answers) [
      | inl due ↦ inl due
      | inr told ↦ inr (inl told)
    ]

    cut-outcome : (text rest : List ℕ) → text ≡ (received ++ left) ++ rest → TextTells text right → Outcome right 1 probe
    cut-outcome text rest is tells = elim (front-tells text received (left ++ rest) ended right probe (is ∙ append_assoc received left rest) tells answers) [
      | inl due ↦ inl due
      | inr (inl told) ↦ inr (inl told)
      | inr (inr (ends, end, due)) ↦ inr (inr (end, refl))
    ]

module _ (laws : Laws) (none_stays : NoFinalHeadStays) (empty : EmptyIsRead) (among : ℕ → Bool) (old : Content) where
  module _ (at after : Content) (url : List ℕ) (stream : Exchange) (due : List ℕ) (probe : Probe) (mirrors : at.mirrors ≡ old.mirrors)
      (replies : ProbeReplies url stream probe) (named : (number : ℕ) → NamesMirror old url number → among number ≡ true) (gave : Gave at stream due after) where
    -- what is told, with the bad answers that were used
    record Pays (right : Probe) : Type 0 where
      spent : ℕ
      paid : used_among among at + spent ≤ used_among among after
      outcome : Outcome right spent probe

    -- the mirror didn't hang up over the first request of a connection
    answered : GaveAnswer at stream due after
    answered = elim gave [
      | inl none ↦ absurd (true≢false (sym replies.1 ∙ none.kept))
      | inr one ↦ one
    ]

    size-by : (manner : Manner) (bytes : List ℕ) (bad : Option Bad) (left : List ℕ) → length bytes < 2 ^ 63 → manner ≢ ToEnd
        → text_under bad (content_reply manner bytes 0 0) ≡ stream.received ++ left → (stream.ended ≡ true → left ≡ [])
        → ProbeAnswers stream.received stream.ended probe → Outcome (Told (length bytes)) (cost bad) probe
    size-by manner bytes None left small told is last answers =
        right-outcome laws none_stays stream.received left stream.ended last (Told (length bytes)) probe answers _ 0 is (reply-tells laws empty manner bytes small told)
    size-by manner bytes (Some bad) left small told is last answers = by-kind bad.kind is
      where
        by-kind : (kind : BadKind) → spoiled_text kind (content_reply manner bytes 0 0) ≡ stream.received ++ left → Outcome (Told (length bytes)) 1 probe
        by-kind (Status status) text = status-ends laws none_stays status stream.received left stream.ended (Told (length bytes)) probe text answers
        by-kind (Cut count) text =
            let reply = content_reply manner bytes 0 0 in
            cut-outcome laws none_stays stream.received left stream.ended last (Told (length bytes)) probe answers _ (drop count (body_text reply))
            (laws.cut reply count ∙ ap (λ t. t ++ drop count (body_text reply)) text) (reply-tells laws empty manner bytes small told)
        by-kind (Flip place) text =
            let other = with_turned place bytes in
            let same : length other ≡ length bytes = length-set bytes place _ in
            right-outcome laws none_stays stream.received left stream.ended last (Told (length bytes)) probe answers _ 1
            (ap text_of (sym (laws.flipped manner bytes 0 0 place)) ∙ text)
            (subst (λ n. TextTells (text_of (content_reply manner other 0 0)) (Told n)) same (reply-tells laws empty manner other (omega (arith, same, small)) told))

    -- at a resource
    size-told : (size : ℕ) → TellsSize old url size → Pays (Told size)
    size-told size tells =
        let had = gave_reply laws.alike laws.answered among old url probe_asked stream (Bytes tells.bytes) at after due (omega arith) (omega arith) mirrors tells.stands named replies.0 answered in
        let outcome = size-by tells.stands.mirror.manner tells.bytes had.bad had.due (omega (arith, tells.size_is, tells.small)) tells.told had.whole had.last replies.2 in
        record { spent = cost had.bad; paid = had.paid; outcome = subst (λ n. Outcome (Told n) (cost had.bad) probe) tells.size_is outcome }

    moved-by : (next : List ℕ) (on : Redirects old url next) (bad : Option Bad) (left : List ℕ) → text_under bad (bare_reply (moved on.location)) ≡ stream.received ++ left
        → (stream.ended ≡ true → left ≡ []) → ProbeAnswers stream.received stream.ended probe → Outcome (Away on.head.status on.text) (cost bad) probe
    moved-by next on bad left is last answers = by bad is
      where
        there : TextTells (text_of (bare_reply (moved on.location))) (Away on.head.status on.text)
        there = record {
          head = on.head;
          used = on.used;
          begins = on.read;
          means = ap (probe_by on.head) (on.means probe_asked) ∙ ap (λ (values : Option (List ℕ)). Away on.head.status (unwrap_or values [])) on.told;
        }

        plain : (spent : ℕ) → text_of (bare_reply (moved on.location)) ≡ stream.received ++ left → Outcome (Away on.head.status on.text) spent probe
        plain spent text = right-outcome laws none_stays stream.received left stream.ended last (Away on.head.status on.text) probe answers _ spent text there

        by-kind : (kind : BadKind) → spoiled_text kind (bare_reply (moved on.location)) ≡ stream.received ++ left → Outcome (Away on.head.status on.text) 1 probe
        by-kind (Status status) text = status-ends laws none_stays status stream.received left stream.ended (Away on.head.status on.text) probe text answers
        by-kind (Cut count) text = plain 1 (ap (λ body. moved on.location ++ body) (sym (take-nil count)) ∙ text)
        by-kind (Flip place) text = plain 1 (ap text_of (sym (laws.bare (moved on.location) place)) ∙ text)

        by : (bad : Option Bad) → text_under bad (bare_reply (moved on.location)) ≡ stream.received ++ left → Outcome (Away on.head.status on.text) (cost bad) probe
        by None text = plain 0 text
        by (Some bad) text = by-kind bad.kind text

    -- where it has moved
    place-told : (next : List ℕ) (on : Redirects old url next) → Pays (Away on.head.status on.text)
    place-told next on =
        let had = gave_reply laws.alike laws.answered among old url probe_asked stream (Moved on.location) at after due (omega arith) (omega arith) mirrors on.stands named replies.0 answered in
        record { spent = cost had.bad; paid = had.paid; outcome = moved-by next on had.bad had.due had.whole had.last replies.2 }

  -- ---- all answers

  -- the URL leads within the redirects that are left to a resource whose length is told
  record IsSought (url : List ℕ) (count size : ℕ) : Type 0 where
    left : ℕ
    counts : count + left ≡ REDIRECT_LIMIT
    leads : LeadsToSize old left url size
    through : (number : ℕ) → LeadsThrough old left url number → among number ≡ true

  abbrev Seeks : Search → ℕ → Type 0
  Seeks (At url count status) size = IsSought url count size
  Seeks (Found probe) size = misses size probe ≡ 0

  usable-size : (left : ℕ) (url : List ℕ) (size : ℕ) → LeadsToSize old left url size → IsHttp url
  usable-size zero url size tells = usable_at old url _ tells.stands
  usable-size (suc left) url size (inl tells) = usable_at old url _ tells.stands
  usable-size (suc left) url size (inr (next, redirects, leads)) = usable_at old url _ redirects.stands

  few-missed : (size : ℕ) (probe : Probe) → misses size probe ≤ 1
  few-missed size Due = omega arith
  few-missed size (Told told) = one (told == size)
    where
      one : (b : Bool) → cond b 0 1 ≤ 1
      one true = omega arith
      one false = omega arith
  few-missed size (Away status location) = omega arith
  few-missed size (Lost loss) = omega arith

  none-missed : (size : ℕ) → misses size (Told size) ≡ 0
  none-missed size = cond-true (size == size) 0 1 (eq-eqb size size refl)

  -- by one answer: the search goes on, or it ends and that was paid for
  record GoesOn (search : Search) (size was now : ℕ) : Type 0 where
    seeks : Seeks search size
    paid : was ≤ now

  record Ends (search : Search) (was now : ℕ) : Type 0 where
    probe : Probe
    found : search ≡ Found probe
    paid : was + 1 ≤ now

  module _ (at after : Content) (url : List ℕ) (count size : ℕ) (stream : Exchange) (due : List ℕ) (probe : Probe) (mirrors : at.mirrors ≡ old.mirrors)
      (replies : ProbeReplies url stream probe) (sought : IsSought url count size) (gave : Gave at stream due after) where
    abbrev Next : Type 0
    Next = GoesOn (next_search url count probe) size (used_among among at) (used_among among after)
        ⊎ Ends (next_search url count probe) (used_among among at) (used_among among after)

    named : (number : ℕ) → NamesMirror old url number → among number ≡ true
    named number names = sought.through number (names_leads old sought.left url number names)

    next-by : (right : Probe) → Pays at after url stream due probe mirrors replies named gave right → Seeks (next_search url count right) size → Next
    next-by right pays seeks = elim pays.outcome [
      | inl waits ↦ inl (record { seeks = subst (λ p. Seeks (next_search url count p) size) (sym waits) refl; paid = omega (arith, pays.paid) })
      | inr (inl told) ↦ inl (record { seeks = subst (λ p. Seeks (next_search url count p) size) (sym told) seeks; paid = omega (arith, pays.paid) })
      | inr (inr (end, one)) ↦ inr (record { probe = probe; found = end url count; paid = omega (arith, pays.paid, one) })
    ]

    next-here : TellsSize old url size → Next
    next-here tells = next-by (Told size) (size-told at after url stream due probe mirrors replies named gave size tells) (none-missed size)

    next-there : (more : ℕ) → sought.left ≡ suc more → (next : List ℕ) (on : Redirects old url next) → LeadsToSize old more next size → Next
    next-there more is next on leads =
        let sought_there : IsSought next (count + 1) size = record {
          left = more;
          counts = omega (arith, sought.counts, is);
          leads = leads;
          through = λ number through. sought.through number (subst (λ n. LeadsThrough old n url number) (sym is) (inr (next, on, through)));
        } in
        let search : next_search url count (Away on.head.status on.text) ≡ At next (count + 1) on.head.status =
        cond-false (nat_le REDIRECT_LIMIT count) _ _ (lt-leb REDIRECT_LIMIT count (omega (arith, sought.counts, is)))
        ∙ ap (λ place. search_at place (count + 1) on.head.status) on.next_is in
        next-by (Away on.head.status on.text) (place-told at after url stream due probe mirrors replies named gave next on)
        (subst (λ s. Seeks s size) (sym search) sought_there)

    next-of : (left : ℕ) → sought.left ≡ left → LeadsToSize old left url size → Next
    next-of zero is tells = next-here tells
    next-of (suc more) is (inl tells) = next-here tells
    next-of (suc more) is (inr (next, redirects, leads)) = next-there more is next redirects leads

  probes : (search : Search) (streams : List Exchange) (probe : Probe) (size : ℕ) (at new : Content) → at.mirrors ≡ old.mirrors → Seeks search size
      → GaveEach at streams new → ProbedBy search streams probe → used_among among at + misses size probe ≤ used_among among new
  probes (Found told) streams probe size at new mirrors none gave (is, over) =
      omega (arith, ap (misses size) is, none, each_counts among at streams new gave)
  probes (At url count status) [] probe size at new mirrors sought gave stands = elim stands [
    | inl waits ↦ omega (arith, ap (misses size) waits.1, each_counts among at [] new gave)
    | inr lost ↦ absurd (lost.0 (usable-size sought.left url size sought.leads))
  ]
  probes (At url count status) (stream ∷ streams) probe size at new mirrors sought (between, due, gave, later) (told, replies, probed) =
      let counted = gave_counts among at stream due between gave in
      let counts_on = each_counts among between streams new later in
      elim (next-of at between url count size stream due told mirrors replies sought gave sought.left refl sought.leads) [
        | inl on ↦
            let rest = probes (next_search url count told) streams probe size between new (counted.1 ∙ mirrors) on.seeks later probed in
            omega (arith, rest, on.paid)
        | inr ends ↦ omega (arith, ends.paid, few-missed size probe, counts_on)
      ]

pub probes_are_paid_for : Laws → NoFinalHeadStays → EmptyIsRead → BadAnswersPayProbes
probes_are_paid_for laws none_stays empty old link gained among url size probe has leads through probed =
    let top = top_of among old has.before link has.answered in
    let each = gave_each old link.content has.before link.exchanges gained top.top has.gains top.on_top top.gave in
    probes laws none_stays empty among old (At url 0 0) gained probe size old link.content refl
    (record { left = REDIRECT_LIMIT; counts = refl; leads = leads; through = through }) each
    (told_by_requests url gained probe (http_no_ftp url (usable-size laws none_stays empty among old REDIRECT_LIMIT url size leads)) probed)

told-or-due : (size : ℕ) (probe : Probe) → misses size probe ≤ 0 → (probe ≡ Due) ⊎ (probe ≡ Told size)
told-or-due size Due none = inl refl
told-or-due size (Told told) none = elim (cases_Bool (told == size)) [
  | inl same ↦ inr (ap Told (eqb-true told size same))
  | inr other ↦ absurd (omega (arith, none, cond-false {A = ℕ} (told == size) 0 1 other))
]
told-or-due size (Away status location) none = absurd (omega (arith, none))
told-or-due size (Lost loss) none = absurd (omega (arith, none))

pub served_size_is_told : BadAnswersPayProbes → ServedSizeIsTold
served_size_is_told pay old link gained among url size probe has leads through probed =
    let is = pay old link gained among url size probe has leads through probed in
    elim (cases_lt (used_among among old) (used_among among link.content)) [
      | inl used ↦ inr used
      | inr unused ↦ inl (told-or-due size probe (omega (arith, is, unused)))
    ]
