-- Over all turns of a worker that works alone it isn't idle where something is offered.
use Rattle.std.proofs.Common.{◌≡◌, ◌≢◌, ◌⊎◌, inl, inr, ◌∷◌, ◌++◌, ℕ, zero, suc, Bool, true, false, List, [], Option, Some, None, refl, sym, ap, subst, ◌∙◌, ⊎_elim, if◌then◌else◌}
use Rattle.std.specs.Prelude.{◌&&◌}
use Rattle.std.proofs.lemmas.List.Elements.{All-cons, All-nil}
use Rattle.dl_disk.specs.State.{DiskState}
use Rattle.dl_kinds.specs.declared.claims.Claim.{Claim}
use Rattle.dl_kinds.specs.declared.gid.Gid.{Gid}
use Rattle.dl_kinds.specs.declared.runs.Moment.{Moment}
use Rattle.dl_history.proofs.Members.{has_all, has_from}
use Rattle.engine_turns.specs.ClaimRows.{DeliverRow, LoseRow, MoreRow, SizedRow, more_said}
use Rattle.engine_turns.specs.NextRows.{NextRow, OfferRow, OpenRow, offers_in, whole_row}
use Rattle.engine_turns.specs.Phases.{TurnStart}
use Rattle.engine_turns.specs.RunTurns.{IsAnswered, MayComeAfter, OperationRow, asks_for_work, turn_start}
use Rattle.engine_turns.specs.Standings.{AnswersUnlessStarved, OfClaim, RunStanding, levels_in, standing_after}
use Rattle.engine_turns.specs.Told.{AllTurns, RunTurn, handed_by, handed_in, history_of}
use Rattle.engine_turns.specs.declared.operations.Operation.{Operation}
use Rattle.engine_turns.specs.declared.operations.Operation.TheVariants as operation
use Rattle.engine_turns.specs.declared.operations.Said.{Said}
use Rattle.engine_turns.specs.declared.operations.Said.TheVariants as said
use Rattle.engine_turns.specs.declared.outcome.Outcome.{Outcome}
use Rattle.engine_turns.specs.declared.outcome.Outcome.TheVariants.{Went, Over, Starved}
use Rattle.machine_core.specs.Claiming.{next_to_open}
use Rattle.machine_core.specs.Offers.{HasNoOffer, IsOffer, gid_credit}
use Rattle.machine_core.specs.Reads.{is_finished_in}
use Rattle.machine_core.specs.Replays.{queue_in}
use Rattle.machine_core.specs.RunLegal.{IsLegal, is_listed}
use Rattle.machine_core.specs.Starts.{Download, RunStart}
use Rattle.machine_core.specs.declared.events.Event.{Event}
use Rattle.machine_core.specs.declared.handed.Handed.{Handed}
use Rattle.machine_core.specs.declared.offers.Offer.{Offer}
use Rattle.machine_core.specs.declared.offers.Offer.TheVariants.{Whole, Blocks, Probe}
use Rattle.machine_core.specs.declared.offers.Offered.TheVariants as offered
use Rattle.conn_worker.specs.Hands.{Fetching, Hand, Nothing, Fetches, Probes, Seals, WorkerAt, fresh}
use Rattle.conn_worker.specs.Table.{due_op, end_behind, end_of_gain, end_of_hand, end_of_probe, fetch_op, probe_op}
use Rattle.conn_worker.specs.Works.{Does, EndsOrGoesOn, Works, turn_moment}
use Rattle.conn_worker.specs.Ends.{end_of_said}
use Rattle.conn_worker.specs.declared.ends.WorkEnd.{WorkEnd}
use Rattle.conn_worker.specs.declared.ends.WorkEnd.TheVariants as end
use Rattle.conn_worker.specs.declared.hands.Gain.{Gain}
use Rattle.conn_worker.specs.declared.hands.Gain.TheVariants.{Lost, Open, Ready, Starved as StarvedGain}
use Rattle.conn_worker.specs.declared.hands.ProbeEnd.{ProbeEnd}
use Rattle.conn_worker.specs.declared.hands.ProbeEnd.TheVariants.{Told, Missed, Lacking}
use Rattle.worker_turns.specs.Alone.{AsksAlone, LoneWorkersClaimOnce, turns_behind}
use Rattle.worker_turns.specs.Offering.{AlwaysOffers, AsksUnhanded, HasSomeOffer, IsBusy, SoloRunsAreBusy}
use Rattle.worker_turns.specs.Reads.{IsFirstCall}
use Rattle.worker_turns.specs.TurnBounds.{ComeAfter, EachBehind}
use Rattle.worker_turns.proofs.Appending.{EndsBy, answered}
use Rattle.worker_turns.proofs.Busy.{HandedAs, handed_on, still_none}
use Rattle.worker_turns.proofs.Counting.{no_end}
use Rattle.worker_turns.proofs.Holds.{has_credit}
use Rattle.worker_turns.proofs.Lone.{legal_behind, or_none}
use Rattle.worker_turns.proofs.SealTurns.{AsksForWork}
use Rattle.worker_turns.proofs.Solo.{all_behind, behind_append, come_behind, first_none}

-- ---- only where work is asked for a worker is idle

abbrev IsIdleFree : Said → Type 0
IsIdleFree said.Idle = ⊥
IsIdleFree answer = Unit {0}

unidle : (usual answer : Said) → answer ≡ said.Idle → IsIdleFree usual → answer ≡ usual → ⊥
unidle usual answer idle free same =
    let P : Said → Type 0 = λ a. IsIdleFree a in subst P idle (subst P (sym same) free)

unless_idle : (usual answer : Said) (outcome : Outcome) → answer ≡ said.Idle → IsIdleFree usual
    → AnswersUnlessStarved usual outcome answer → ⊥
unless_idle usual answer Went idle free is = unidle usual answer idle free is
unless_idle usual answer Over idle free is = unidle usual answer idle free is
unless_idle usual answer Starved idle free is = unidle said.NoMemory answer idle tt is

more_unidle : (at : TurnStart) (s : RunStanding) (gid : Gid) (want credit : ℕ)
    → IsIdleFree (more_said at s gid want credit)
more_unidle at s gid zero credit = tt
more_unidle at s gid (suc want) zero = tt
more_unidle at s gid (suc want) (suc credit) = tt

claim_unidle : (at : TurnStart) (s : RunStanding) (id : ℕ) (Row : Download → Claim → List Event → Said → Type 0)
    (events : List Event) (answer : Said) → answer ≡ said.Idle
    → ((download : Download) (claim : Claim) → Row download claim events answer → ⊥)
    → OfClaim at s id Row events answer → ⊥
claim_unidle at s id Row events answer idle other row =
    ⊎_elim (λ none. unidle said.Void answer idle tt none.1.1) (λ of. other of.0 of.1 of.3) row

idle_asks : (at : TurnStart) (s : RunStanding) (op : Operation) (events : List Event) (answer : Said)
    → answer ≡ said.Idle → OperationRow at s op events answer
    → AsksForWork at s op events answer ⊎ (op ≡ operation.Pulse)
idle_asks at s (operation.Next worker now) events answer idle row = inl (worker, now, refl, row)
idle_asks at s (operation.Call session call now) events answer idle row =
    absurd (unidle _ answer idle tt row.answer)
idle_asks at s (operation.Deliver claim run bytes now) events answer idle row =
    absurd (claim_unidle at s claim (DeliverRow at s run bytes) events answer idle
    (λ download c came. ⊎_elim (λ kept. unless_idle _ answer kept.1.outcome idle tt kept.1.answer)
    (λ void. unidle said.Void answer idle tt void.1.1) came) row)
idle_asks at s (operation.More claim want now) events answer idle row =
    absurd (claim_unidle at s claim (MoreRow at s want) events answer idle
    (λ download c more. unidle _ answer idle (more_unidle at s download.gid want _) more.1) row)
idle_asks at s (operation.Lose claim mark now) events answer idle row =
    absurd (claim_unidle at s claim (LoseRow at s mark) events answer idle
    (λ download c lost. unidle said.Done answer idle tt lost.2) row)
idle_asks at s (operation.Sized claim total now) events answer idle row =
    absurd (claim_unidle at s claim (SizedRow at s total) events answer idle
    (λ download c sized. ⊎_elim (λ told. unidle said.Done answer idle tt told.1.2)
    (λ none. unidle said.Void answer idle tt none.1.1) sized) row)
idle_asks at s (operation.Seal gid sealed now) events answer idle row =
    absurd (⊎_elim (λ void. unidle said.Void answer idle tt void.1)
    (λ settled. unless_idle said.Done answer settled.1.outcome idle tt settled.1.answer) row)
idle_asks at s operation.Pulse events answer idle row = inr refl
idle_asks at s (operation.Notices from) events answer idle row = absurd (unidle _ answer idle tt row.1)
idle_asks at s operation.Leave events answer idle row = absurd (unidle said.Done answer idle tt row.1)
idle_asks at s (operation.Stop now) events answer idle row =
    absurd (unless_idle said.Done answer row.outcome idle tt row.answer)

unpulsed_fetch : (worker : ℕ) (f : Fetching) (now : Moment) (gain : Gain)
    → fetch_op worker f now gain ≡ operation.Pulse → ⊥
unpulsed_fetch worker f now (Ready run bytes last) is = absurd cc
unpulsed_fetch worker f now (Lost loss mark) is = absurd cc
unpulsed_fetch worker f now Open is = absurd cc
unpulsed_fetch worker f now StarvedGain is = absurd cc

unpulsed_probe : (worker claim : ℕ) (now : Moment) (end : ProbeEnd)
    → probe_op worker claim now end ≡ operation.Pulse → ⊥
unpulsed_probe worker claim now (Told total) is = absurd cc
unpulsed_probe worker claim now (Missed loss mark) is = absurd cc
unpulsed_probe worker claim now Lacking is = absurd cc

unpulsed : (worker : ℕ) (hand : Hand) (now : Moment) → due_op worker hand now ≡ operation.Pulse → ⊥
unpulsed worker Nothing now is = absurd cc
unpulsed worker (Fetches f) now is = unpulsed_fetch worker f now f.gain is
unpulsed worker (Probes p) now is = unpulsed_probe worker p.claim now p.end is
unpulsed worker (Seals gid sealed) now is = absurd cc

-- ---- then nothing is offered

open_unidle : (at : TurnStart) (s : RunStanding) (download : Download) (events : List Event) (answer : Said)
    → answer ≡ said.Idle → OpenRow at s download events answer → ⊥
open_unidle at s download events answer idle row =
    ⊎_elim (λ clashed. unidle said.Done answer idle tt clashed.3)
    (λ opened. unless_idle said.Done answer opened.1.0 idle tt opened.1.2) row

whole_unidle : (at : TurnStart) (s : RunStanding) (download : Download) (piece : ℕ) (listed : Bool)
    (events : List Event) (answer : Said) → answer ≡ said.Idle → whole_row at s download piece listed events answer → ⊥
whole_unidle at s download piece true events answer idle row =
    ⊎_elim (λ hash. unidle _ answer idle tt hash.is.1)
    (⊎_elim (λ faulted. unidle said.Done answer idle tt faulted.1) (λ starved. unidle said.NoMemory answer idle tt
    starved.1)) row
whole_unidle at s download piece false events answer idle row = unless_idle said.Done answer row.0 idle tt row.2

offer_unidle : (at : TurnStart) (s : RunStanding) (worker : ℕ) (download : Download) (offer : Offer)
    (events : List Event) (answer : Said) → answer ≡ said.Idle → OfferRow at s worker download offer events answer → ⊥
offer_unidle at s worker download (Whole piece) events answer idle row =
    whole_unidle at s download piece (is_listed download.subject) events answer idle row
offer_unidle at s worker download (Blocks mirror run victim) events answer idle row = unidle _ answer idle tt row.is
offer_unidle at s worker download (Probe mirror) events answer idle row = unidle _ answer idle tt row.is

next_idle : (at : TurnStart) (s : RunStanding) (worker : ℕ) (events : List Event) (answer : Said) → answer ≡ said.Idle
    → NextRow at s worker events answer → (next_to_open at.start s.past ≡ None) × offers_in at s offered.Idle
next_idle at s worker events answer idle row =
    ⊎_elim (λ opening. absurd (open_unidle at s opening.download events answer idle opening.row))
    (λ other. (
      other.0,
      ⊎_elim
          (λ given. absurd (offer_unidle at s worker given.download given.offer events answer idle given.row))
          (⊎_elim (λ held. absurd (unidle _ answer idle tt held.2.1)) (λ idling. idling.0)) other.1,
    )) row

-- an offer that there is would be made
offered_then : (at : TurnStart) (s : RunStanding) → s.handed ≡ [] → offers_in at s offered.Idle
    → HasSomeOffer at.start s.past at.now.0 → ⊥
offered_then at s none idle has = has (λ gid active offer is.
    let queue = queue_in at.start s.past in
    let f = gid_credit queue.added (levels_in s) at.now.0 in
    let there = has_from queue.active gid active.0 active.1 active.2 in
    let no_offer = has_all (HasNoOffer (IsOffer s.handed at.start s.past at.now.0)) _ (f gid) idle
    (has_credit queue.active f gid there) in
    no_offer offer (subst (λ (hs : List Handed). IsOffer hs at.start s.past at.now.0 gid offer) (sym none) is))

-- ---- one turn

going_by : (at : TurnStart) (s : RunStanding) (op : Operation) (events : List Event) (answer : Said) (x y : Bool)
    (n : ℕ) → answer ≡ said.Idle → IsAnswered at s op events answer (if x then Some said.Finished
    else (if y then Some (said.JournalFull n) else None))
    → x ≡ false
going_by at s op events answer true y n idle is = absurd (unidle said.Finished answer idle tt is.1)
going_by at s op events answer false y n idle is = refl

module _ (start : RunStart) (earlier : List RunTurn) (t : RunTurn) (worker : ℕ) (hand : Hand) (now : Moment)
    (may : MayComeAfter start earlier t) (due : t.op ≡ due_op worker hand now) where
  row_or_ends : EndsBy t.answer.said
      ⊎ OperationRow (turn_start start earlier t) (standing_after start earlier) t.op t.events t.answer.said
  row_or_ends = answered _ _ t.op t.events t.answer.said _ _ _ may.answered

  never_idle_here : AsksAlone start earlier t.op → AsksUnhanded start earlier t.op → IsLegal start (history_of earlier)
      → AlwaysOffers start (history_of earlier) → t.answer.said ≡ said.Idle → ⊥
  never_idle_here alone unhanded legal offers idle =
      ⊎_elim
      (λ ends. let none : end_of_said said.Idle ≡ Some ends.0 = ap end_of_said (sym idle) ∙ ends.1 in
      let no_way : None ≡ Some ends.0 = none in cc)
      (λ row. ⊎_elim
      (λ asks.
      let next = asks.2 in
      let both = next_idle (turn_start start earlier t) (standing_after start earlier) asks.0 t.events t.answer.said
      idle
      asks.3 in
      let finished : is_finished_in start (history_of earlier) ≡ false =
      sym (ap (λ (o : Operation). asks_for_work o && is_finished_in start (history_of earlier)) next)
      ∙ going_by _ _ t.op t.events t.answer.said _ _ _ idle may.answered in
      let has = offers (record {
        legal = legal;
        none = subst (λ (o : Operation). AsksAlone start earlier o) next alone;
        going = finished;
        opened = both.0;
      }) (turn_start start earlier t).now.0 in
      offered_then (turn_start start earlier t) (standing_after start earlier)
      (subst (λ (o : Operation). AsksUnhanded start earlier o) next unhanded) both.1 has)
      (λ pulse. unpulsed worker hand now (sym due ∙ pulse))
      (idle_asks (turn_start start earlier t) (standing_after start earlier) t.op t.events t.answer.said idle row))
      row_or_ends

-- ---- all turns

ends_hands : (answer : Said) → EndsBy answer → handed_by answer ≡ []
ends_hands (said.Grant granted) ends = absurd (let no_way = ends.1 in cc)
ends_hands answer ends = refl

-- no piece is handed out by the first call
first_unhanded : (start : RunStart) (earlier : List RunTurn) → AllTurns (MayComeAfter start) earlier
    → IsFirstCall earlier → handed_in start earlier ≡ []
first_unhanded start earlier ties (inl none) = ap (λ (told : List RunTurn). handed_in start told) none
first_unhanded start earlier ties (inr first) =
    let t : RunTurn = first.0 in
    let its = subst (λ (told : List RunTurn). AllTurns (MayComeAfter start) told) first.2 ties in
    let hands : handed_by t.answer.said ≡ [] =
    ⊎_elim (λ ends. ends_hands t.answer.said ends)
    (λ row. let call = subst (λ (o : Operation). OperationRow (turn_start start [] t) (standing_after start []) o
    t.events
    t.answer.said) first.3 row in ap handed_by call.answer)
    (answered _ _ t.op t.events t.answer.said _ _ _ its.0.answered) in
    ap (λ (told : List RunTurn). handed_in start told) first.2 ∙ still_none start [] t refl hands

module _ (start : RunStart) (earlier : List RunTurn) (worker : ℕ) (now : Moment) where
  fetch_unhanded : (f : Fetching) (gain : Gain) → gain ≢ StarvedGain
      → AsksUnhanded start earlier (fetch_op worker f now gain)
  fetch_unhanded f (Ready run bytes last) fed = tt
  fetch_unhanded f (Lost loss mark) fed = tt
  fetch_unhanded f Open fed = tt
  fetch_unhanded f StarvedGain fed = absurd (fed refl)

  probe_unhanded : (claim : ℕ) (end : ProbeEnd) → end ≢ Lacking
      → AsksUnhanded start earlier (probe_op worker claim now end)
  probe_unhanded claim (Told total) fed = tt
  probe_unhanded claim (Missed loss mark) fed = tt
  probe_unhanded claim Lacking fed = absurd (fed refl)

  turn_unhanded : (hand : Hand) → end_of_hand hand ≡ None → HandedAs start earlier hand
      → AsksUnhanded start earlier (due_op worker hand now)
  turn_unhanded Nothing fed handed = handed
  turn_unhanded (Fetches f) fed handed =
      fetch_unhanded f f.gain (λ starved. let no_way : Some end.NoMemory ≡ None = sym (ap end_of_gain starved) ∙ fed
      in cc)
  turn_unhanded (Probes p) fed handed =
      probe_unhanded p.claim p.end
      (λ starved. let no_way : Some end.NoMemory ≡ None = sym (ap end_of_probe starved) ∙ fed in cc)
  turn_unhanded (Seals gid sealed) fed handed = tt

module _ (start : RunStart) (worker : ℕ) (tells : Bool) where
  busy_with : (ts earlier : List RunTurn) (t : RunTurn) → AsksUnhanded start earlier t.op
      → (AlwaysOffers start (history_of earlier) → t.answer.said ≡ said.Idle → ⊥) → IsBusy start (t ∷ earlier) ts
      → IsBusy start earlier (t ∷ ts)
  busy_with ts earlier t unhanded idle rest = record {
    unhanded = (unhanded, rest.unhanded);
    busy = λ offers.
        All-cons (λ (u : RunTurn). u.answer.said ≡ said.Idle → ⊥) t ts (idle offers.0) (rest.busy offers.1);
  }

  busy_none : (earlier : List RunTurn) → IsBusy start earlier []
  busy_none earlier = record {
    unhanded = tt;
    busy = λ offers. All-nil (λ (u : RunTurn). u.answer.said ≡ said.Idle → ⊥);
  }

  busy_behind : (ts earlier : List RunTurn) (t : RunTurn) (told : ℕ) (a m b : WorkerAt) (end by : Option WorkEnd)
      → by ≡ end_behind t.answer.said m.hand → MayComeAfter start earlier t → Does tells worker told t a m
      → HandedAs start earlier a.hand
      → (end_of_hand m.hand ≡ None → HandedAs start (t ∷ earlier) m.hand → Works tells worker ts m b end
      → IsBusy start (t ∷ earlier) ts)
      → EndsOrGoesOn by ((ts ≡ []) × (b ≡ m) × (end ≡ by)) (Works tells worker ts m b end)
      → IsBusy start (t ∷ earlier) ts
  busy_behind ts earlier t told a m b end (Some by) is may does handed goes ended =
      subst (λ (us : List RunTurn). IsBusy start (t ∷ earlier) us) (sym ended.0) (busy_none (t ∷ earlier))
  busy_behind ts earlier t told a m b end None is may does handed goes works =
      let on = no_end t.answer.said m.hand is in
      let row = ⊎_elim (λ ends. absurd (on ends)) (λ row. row)
      (row_or_ends start earlier t worker a.hand (turn_moment told a.moment) may does.op) in
      goes (or_none (end_of_said t.answer.said) (end_of_hand m.hand) is)
      (handed_on tells worker start earlier t (turn_moment told a.moment) (turn_start start earlier t)
      (standing_after start earlier) on row t.answer.said a.hand a.link m.hand m.link refl does.op does.follows handed)
      works

  busy_on : (ts earlier : List RunTurn) (a b : WorkerAt) (end : Option WorkEnd) → ComeAfter start earlier ts
      → Works tells worker ts a b end → IsLegal start (history_of (turns_behind ts earlier)) → end_of_hand a.hand ≡ None
      → HandedAs start earlier a.hand → EachBehind (λ before t. AsksAlone start before t.op) earlier ts
      → IsBusy start earlier ts
  busy_on [] earlier a b end come works legal fed handed alone = busy_none earlier
  busy_on (t ∷ ts) earlier a b end come works legal fed handed alone =
      let now : Moment = turn_moment works.0 a.moment in
      let unhanded : AsksUnhanded start earlier t.op =
      subst (λ (o : Operation). AsksUnhanded start earlier o) (sym works.2.op)
      (turn_unhanded start earlier worker now a.hand fed handed) in
      busy_with ts earlier t unhanded
      (λ offers idle. never_idle_here start earlier t worker a.hand now come.0 works.2.op alone.0 unhanded
      (legal_behind start (t ∷ ts) earlier legal) offers idle)
      (busy_behind ts earlier t works.0 a works.1 b end (end_behind t.answer.said works.1.hand) refl come.0 works.2
      handed
      (λ fed_now now_handed rest. busy_on ts (t ∷ earlier) works.1 b end come.1 rest legal fed_now now_handed alone.1)
      works.3)

pub solo_busy : LoneWorkersClaimOnce → {D : Type 0} (state : D → DiskState) → SoloRunsAreBusy state
solo_busy claims state start earlier worker turns later link now disk solo =
    let over = solo.over in
    let come = come_behind start turns later earlier solo.run.ties in
    let ties = all_behind (MayComeAfter start) (turns ++ later) earlier solo.run.ties in
    let legal = legal_behind start later (turns_behind turns earlier)
    (subst (λ (told : List RunTurn). IsLegal start (history_of told)) (behind_append turns later earlier)
    solo.run.legal) in
    let alone = claims start earlier worker turns link now (record { come = come; over = over })
    (record { legal = legal; none = first_none start earlier ties solo.first }) in
    busy_on start worker over.tells turns earlier (fresh link) over.b over.end come
    over.works legal refl
    (first_unhanded start earlier ties solo.first) alone.asks
