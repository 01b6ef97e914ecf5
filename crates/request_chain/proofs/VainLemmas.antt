-- The first bytes of a reply over a connection that had another one before, or its end.
use Rattle.std.proofs.Common.{◌≡◌, ℕ, ◌+◌, ◌<◌, Bool, true, ◌&&◌, ◌==◌, not, List, [], ◌∷◌, ◌++◌, length, refl, sym, ap, subst, ◌∙◌}
use Rattle.link_source.specs.Exchanges.{Exchange, with_received}
use Rattle.reply_reader.specs.Heads.{IsAtHead}
use Rattle.reply_reader.specs.declared.heads.HeadReader.{HeadReader}
use Rattle.span_map.specs.declared.jobs.JobPart.{JobPart}
use Rattle.request_chain.specs.Chains.{Gains, received_by}
use Rattle.request_chain.specs.Courses.{plan_now, CarriesOn}
use Rattle.request_chain.specs.Exchanges.{IsSentInVain}
use Rattle.request_chain.specs.Plans.{NextAsk, Ask, plan_of, asked_of}
use Rattle.request_chain.specs.Stages.{IsAwaited, IsBehindHead, IsReading, IsReadingHead, IsUnheardAt, IsSent, steps_of}
use Rattle.request_chain.specs.declared.course.Course.{Course}
use Rattle.request_chain.specs.declared.stage.Stage.{Stage}
use Rattle.request_chain.specs.declared.stage.Stage.TheVariants.{Asking, Unheard, Head as InHead, Content as InContent}
use Rattle.request_chain.proofs.Leading.{leads_over}
use Rattle.request_chain.proofs.ReceivingLemmas.{ended_gains, ended_received, newer, more_gains, more_received, more_sent, heard_more}
use Rattle.request_chain.proofs.SentLemmas.{with_bytes, same_exchange}

module _ (parts : List JobPart) (before used now new : List Exchange) (course : Course) (bytes waiting : List ℕ) where
  abbrev ended : IsSent parts used course → Exchange
  ended sent = with_bytes sent.newest sent.newest.received true

  vain : (reader : HeadReader) (reading : IsAwaited parts used course waiting bytes reader) → IsSentInVain reading.sent.url (asked_of reading.sent.part) (ended reading.sent)
  vain reader reading =
      let sent = reading.sent in (
        same_exchange sent.url (asked_of sent.part) sent.newest sent.newest.received true sent.exchange,
        ap (λ f. not f && (length sent.newest.received == 0)) reading.kept ∙ ap (λ (b : List ℕ). length b == 0) reading.nothing_came,
      )

  -- the end was told before anything came: the plan stays
  pub first_vain : (stage : Stage) → IsUnheardAt stage → IsReading stage course waiting parts used bytes → Gains before now used → new ≡ with_received [] now
      → (later : List Exchange) × Gains before new later × (received_by later ≡ received_by used) × CarriesOn (plan_of parts) later bytes (plan_now course)
  first_vain Asking unheard reading gains is = absurd unheard
  first_vain (InHead reader) unheard reading gains is = absurd unheard
  first_vain (InContent content) unheard reading gains is = absurd unheard
  first_vain (Unheard reader) unheard reading gains is =
      let sent = reading.sent in
      let later = sent.older ++ ended sent ∷ [] in
      let plan = Ask sent.part sent.others sent.url sent.count sent.status in
      let on = leads_over (plan_of parts) sent.older sent.brought sent.part sent.others sent.url sent.count sent.status (ended sent) sent.leads (vain reader reading) in
      let P : List ℕ → Type 0 = λ came. CarriesOn (plan_of parts) later came plan in
      let Q : NextAsk → Type 0 = λ next. CarriesOn (plan_of parts) later bytes next in (
        later,
        ended_gains parts before used now new course sent gains is,
        ended_received parts before used now new course sent,
        subst Q (sym sent.asks) (subst P (sym reading.bytes_are) on),
      )

  -- something came, which waits
  pub first_heard : (stage : Stage) → IsUnheardAt stage → IsReading stage course waiting parts used bytes → (came : List ℕ) → 0 < length came → Gains before now used
      → new ≡ with_received came now → (next : HeadReader) → IsAtHead [] next
      → (later : List Exchange) × Gains before new later × (received_by later ≡ received_by used + length came) × IsReadingHead parts later course came bytes next
  first_heard Asking unheard reading came some gains is next at = absurd unheard
  first_heard (InHead reader) unheard reading came some gains is next at = absurd unheard
  first_heard (InContent content) unheard reading came some gains is next at = absurd unheard
  first_heard (Unheard reader) unheard reading came some gains is next at =
      let sent = reading.sent in (
        sent.older ++ newer parts before used now new course sent came ∷ [],
        more_gains parts before used now new course sent came some gains is,
        more_received parts before used now new course sent came,
        record {
          sent = more_sent parts before used now new course sent came;
          heard = heard_more parts before used now new course sent came some;
          bytes_are = reading.bytes_are;
          front = [];
          received_is = ap (λ b. b ++ came) reading.nothing_came;
          at = at;
        },
      )

-- a stage of which the first bytes are due isn't that of no request
pub unheard_sent : (stage : Stage) → IsUnheardAt stage → stage ≡ Asking → ⊥
unheard_sent Asking unheard is = unheard
unheard_sent (Unheard reader) unheard is = cc
unheard_sent (InHead reader) unheard is = cc
unheard_sent (InContent content) unheard is = cc

-- nothing waits then
pub unheard_behind : (stage : Stage) (waiting : List ℕ) → IsUnheardAt stage → IsBehindHead stage waiting → waiting ≡ []
unheard_behind Asking waiting unheard behind = absurd unheard
unheard_behind (Unheard reader) waiting unheard behind = behind
unheard_behind (InHead reader) waiting unheard behind = absurd unheard
unheard_behind (InContent content) waiting unheard behind = absurd unheard

pub unheard_weight : (stage : Stage) (rests : Bool) → IsUnheardAt stage → steps_of stage rests ≡ 4
unheard_weight Asking rests unheard = absurd unheard
unheard_weight (Unheard reader) rests unheard = refl
unheard_weight (InHead reader) rests unheard = absurd unheard
unheard_weight (InContent content) rests unheard = absurd unheard
