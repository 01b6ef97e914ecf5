-- Which turns answer that nothing is left to do or that the journal is full, and what stays of a queue then.
use Rattle.std.proofs.Common.{◌≡◌, ◌⊎◌, ⊎_elim, inl, inr, ℕ, zero, suc, ◌-◌, Bool, true, false, cond, Option, Some, None, List, [], ◌∷◌, ◌++◌, length, refl, sym, ap, ◌∙◌, subst, arith}
use Rattle.std.specs.Prelude.{◌&&◌, nat_lt}
use Rattle.std.specs.List.{remove}
use Rattle.std.proofs.lemmas.List.{append_assoc}
use Rattle.blameless_mirrors.proofs.Marks.{behind}
use Rattle.dl_kinds.specs.declared.claims.Claim.{Claim}
use Rattle.dl_kinds.specs.declared.gid.Gid.{Gid}
use Rattle.dl_kinds.specs.declared.runs.Run.{Run}
use Rattle.dl_kinds.specs.declared.status.Status.{Status}
use Rattle.dl_kinds.specs.declared.status.Status.TheVariants as status
use Rattle.dl_queue.specs.Calls.{after, by_status, effect, is_unfinished, refusal, stopped_from, unless_refused, Stop}
use Rattle.dl_queue.specs.Endings.{ended_status, ending_by_status}
use Rattle.dl_queue.specs.Lists.{QueueLists}
use Rattle.dl_queue.specs.Places.{queued_place, status_of, stopped_at, stopped_place}
use Rattle.dl_queue.specs.Rising.{left_waiting, moved_up}
use Rattle.dl_queue.specs.declared.kinds.QueueErr.{QueueErr}
use Rattle.dl_queue.specs.declared.kinds.Ending.{Ending}
use Rattle.dl_queue.specs.declared.kinds.Ending.TheVariants as ending
use Rattle.dl_queue.specs.declared.kinds.Queued.{Queued}
use Rattle.engine_turns.specs.ClaimRows.{DeliverRow, LoseRow, MoreRow, SizedRow, more_said, turn_credit}
use Rattle.engine_turns.specs.NextRows.{IsFaulted, NextRow, OfferRow, OpenRow, whole_row}
use Rattle.engine_turns.specs.Phases.{TurnStart}
use Rattle.engine_turns.specs.RunTurns.{MayComeAfter, OperationRow, asks_for_work, is_nearly_full, needs_entries, takes_memory, turn_start}
use Rattle.engine_turns.specs.SealRows.{IsSettled, SealRow}
use Rattle.engine_turns.specs.Standings.{AnswersOnly, AnswersUnlessStarved, IsHomeOf, OfClaim, RunStanding, standing_after}
use Rattle.engine_turns.specs.Told.{RunTurn, history_after, history_of}
use Rattle.engine_turns.specs.declared.operations.Operation.{Operation}
use Rattle.engine_turns.specs.declared.operations.Operation.TheVariants as operation
use Rattle.engine_turns.specs.declared.operations.Said.{Said}
use Rattle.engine_turns.specs.declared.operations.Said.TheVariants.{Done, Finished, Hold, Idle, JournalFull, NoMemory, Void}
use Rattle.engine_turns.specs.declared.outcome.Outcome.{Outcome}
use Rattle.engine_turns.specs.declared.outcome.Outcome.TheVariants.{Over, Starved, Went}
use Rattle.machine_core.specs.Reads.{is_finished_in}
use Rattle.machine_core.specs.Replays.{queue_in, replay_of, stop_of}
use Rattle.machine_core.specs.RunLegal.{is_listed}
use Rattle.machine_core.specs.Starts.{Download, RunStart}
use Rattle.machine_core.specs.declared.ends.End.{End}
use Rattle.machine_core.specs.declared.ends.End.TheVariants as end
use Rattle.machine_core.specs.declared.events.Event.{Event}
use Rattle.machine_core.specs.declared.events.Event.TheVariants.{Called, Checked, Claimed, Cleared, Ended, Landed, Left, Lost, Opened, Saved, Settled, Sized, Stopped}
use Rattle.machine_core.specs.declared.offers.Offer.{Offer}
use Rattle.machine_core.specs.declared.offers.Offer.TheVariants as offer
use Rattle.verify_piece.specs.Seals.{PieceBytes}
use Rattle.served_runs.specs.Ends.{HasNoCall}

-- ---- answers

-- nothing is left to do, or the journal is full
abbrev ends_all : Said → Bool
ends_all Finished = true
ends_all (JournalFull count) = true
ends_all said = false

-- the row never answers so
abbrev IsBusyRow : (List Event → Said → Type 0) → Type 0
IsBusyRow Row = (events : List Event) (said : Said) → Row events said → ends_all said ≡ false

busy_only : (usual : Said) → ends_all usual ≡ false → IsBusyRow (AnswersOnly usual)
busy_only usual none events said is = ap ends_all is.1 ∙ none

unless_starved : (usual : Said) (outcome : Outcome) (said : Said) → ends_all usual ≡ false
    → AnswersUnlessStarved usual outcome said → ends_all said ≡ false
unless_starved usual Went said none is = ap ends_all is ∙ none
unless_starved usual Over said none is = ap ends_all is ∙ none
unless_starved usual Starved said none is = ap ends_all is

busy_claim : (at : TurnStart) (s : RunStanding) (id : ℕ) (Row : Download → Claim → List Event → Said → Type 0)
    → ((download : Download) (claim : Claim) → IsBusyRow (Row download claim)) → IsBusyRow (OfClaim at s id Row)
busy_claim at s id Row busy events said is = ⊎_elim
    (λ none. busy_only Void refl events said none.1)
    (λ (home : (download : Download) × (claim : Claim) × IsHomeOf at.start s.past id download claim
    × Row download claim events said).
    busy home.0 home.1 events said home.3) is

more_busy : (at : TurnStart) (s : RunStanding) (gid : Gid) (want credit : ℕ) → ends_all (more_said at s gid want credit) ≡ false
more_busy at s gid zero credit = refl
more_busy at s gid (suc want) zero = refl
more_busy at s gid (suc want) (suc credit) = refl

busy_deliver : (at : TurnStart) (s : RunStanding) (run : Run) (bytes : List ℕ) (download : Download) (claim : Claim)
    → IsBusyRow (DeliverRow at s run bytes download claim)
busy_deliver at s run bytes download claim events said is = ⊎_elim
    (λ kept. unless_starved _ kept.1.outcome said refl kept.1.answer)
    (λ void. busy_only Void refl events said void.1) is

busy_sized : (at : TurnStart) (s : RunStanding) (total : ℕ) (download : Download) (claim : Claim)
    → IsBusyRow (SizedRow at s total download claim)
busy_sized at s total download claim events said is = ⊎_elim
    (λ told. ap ends_all told.1.2)
    (λ void. busy_only Void refl events said void.1) is

busy_seal : (at : TurnStart) (s : RunStanding) (gid : Gid) (sealed : PieceBytes) → IsBusyRow (SealRow at s gid sealed)
busy_seal at s gid sealed events said is = ⊎_elim
    (λ (void : AnswersOnly Void events said). busy_only Void refl events said void)
    (λ (settles : _ × IsSettled at s gid sealed events said).
    unless_starved Done settles.1.outcome said refl settles.1.answer) is

busy_open : (at : TurnStart) (s : RunStanding) (download : Download) → IsBusyRow (OpenRow at s download)
busy_open at s download events said is = ⊎_elim
    (λ clashed. ap ends_all clashed.3)
    (λ opens. unless_starved Done opens.1.0 said refl opens.1.2) is

busy_whole : (at : TurnStart) (s : RunStanding) (download : Download) (piece : ℕ) (listed : Bool)
    → IsBusyRow (whole_row at s download piece listed)
busy_whole at s download piece true events said is = ⊎_elim
    (λ grant. ap ends_all grant.is.1)
    (λ more. ⊎_elim
    (λ (failed : IsFaulted at download.gid events said). ap ends_all failed.1)
    (λ (starved : AnswersOnly NoMemory events said). busy_only NoMemory refl events said starved) more) is
busy_whole at s download piece false events said is = unless_starved Done is.0 said refl is.2

busy_offer : (at : TurnStart) (s : RunStanding) (worker : ℕ) (download : Download) (given : Offer)
    → IsBusyRow (OfferRow at s worker download given)
busy_offer at s worker download (offer.Whole piece) events said is =
    busy_whole at s download piece (is_listed download.subject) events said is
busy_offer at s worker download (offer.Blocks mirror run victim) events said is = ap ends_all is.is
busy_offer at s worker download (offer.Probe mirror) events said is = ap ends_all is.is

busy_next : (at : TurnStart) (s : RunStanding) (worker : ℕ) → IsBusyRow (NextRow at s worker)
busy_next at s worker events said is = ⊎_elim
    (λ opening. busy_open at s opening.download events said opening.row)
    (λ rest. ⊎_elim
    (λ given. busy_offer at s worker given.download given.offer events said given.row)
    (λ waits. ⊎_elim
    (λ holding. busy_only (Hold holding.0) refl events said holding.2)
    (λ idling. busy_only Idle refl events said idling.1) waits) rest.1) is

busy_row : (at : TurnStart) (s : RunStanding) (op : Operation) → IsBusyRow (OperationRow at s op)
busy_row at s (operation.Call session call now) events said is = ap ends_all is.answer
busy_row at s (operation.Next worker now) events said is = busy_next at s worker events said is
busy_row at s (operation.Deliver claim run bytes now) events said is =
    busy_claim at s claim (DeliverRow at s run bytes) (busy_deliver at s run bytes) events said is
busy_row at s (operation.More claim want now) events said is =
    busy_claim at s claim (MoreRow at s want)
    (λ download claimed es given is.
    busy_only (more_said at s download.gid want (turn_credit at s download.gid).bytes)
    (more_busy at s download.gid want (turn_credit at s download.gid).bytes) es given is) events said is
busy_row at s (operation.Lose claim mark now) events said is =
    busy_claim at s claim (LoseRow at s mark) (λ download claimed es given is. ap ends_all is.2) events said is
busy_row at s (operation.Sized claim total now) events said is =
    busy_claim at s claim (SizedRow at s total) (busy_sized at s total) events said is
busy_row at s (operation.Seal gid sealed now) events said is = busy_seal at s gid sealed events said is
busy_row at s operation.Pulse events said is = busy_only Idle refl events said is
busy_row at s (operation.Notices from) events said is = ap ends_all is.1
busy_row at s operation.Leave events said is = ap ends_all is.1
busy_row at s (operation.Stop now) events said is = unless_starved Done is.outcome said refl is.answer

and_second : (a b : Bool) → (a && b) ≡ true → b ≡ true
and_second true b is = is
and_second false b is = absurd cc

module _ (start : RunStart) (before : List RunTurn) (t : RunTurn) (may : MayComeAfter start before t) where
  abbrev past : List Event
  past = history_of before

  abbrev EndsAll : Type 0
  EndsAll = ((is_finished_in start past ≡ true) × (t.answer.said ≡ Finished))
      ⊎ ((is_nearly_full past ≡ true) × (t.answer.said ≡ JournalFull (length past)))

  by_answer : (a b : Bool) → (asks_for_work t.op && is_finished_in start past) ≡ a
      → (needs_entries t.op && is_nearly_full past) ≡ b → ends_all t.answer.said ≡ true → EndsAll
  by_answer true b at_end nearly ends =
      let answered = (rw at_end at may.answered) in
      inl (and_second (asks_for_work t.op) (is_finished_in start past) at_end, answered.1)
  by_answer false true at_end nearly ends =
      let answered = (rw nearly at (rw at_end at may.answered)) in
      inr (and_second (needs_entries t.op) (is_nearly_full past) nearly, answered.1)
  by_answer false false at_end nearly ends =
      let answered = (rw nearly at (rw at_end at may.answered)) in
      let busy : ends_all t.answer.said ≡ false = ⊎_elim
      (λ (starved : (takes_memory t.op ≡ true) × AnswersOnly NoMemory t.events t.answer.said).
      busy_only NoMemory refl t.events t.answer.said starved.1)
      (λ (row : OperationRow (turn_start start before t) (standing_after start before) t.op t.events t.answer.said).
      busy_row (turn_start start before t) (standing_after start before) t.op t.events t.answer.said row) answered in
      absurd (let never : true ≡ false = sym ends ∙ busy in cc)

  -- an answer that ends all comes before anything is done
  ends_so : ends_all t.answer.said ≡ true → EndsAll
  ends_so = by_answer (asks_for_work t.op && is_finished_in start past) (needs_entries t.op && is_nearly_full past) refl refl

  -- a turn that is answered that nothing is left asked for work of a run that is finished
  pub finished_so : t.answer.said ≡ Finished → is_finished_in start (history_of before) ≡ true
  finished_so said = ⊎_elim (λ (finished : (is_finished_in start past ≡ true) × (t.answer.said ≡ Finished)). finished.0)
      (λ (full : (is_nearly_full past ≡ true) × (t.answer.said ≡ JournalFull (length past))).
      absurd (let never : Finished ≡ JournalFull (length past) = sym said ∙ full.1 in cc))
      (ends_so (ap ends_all said))

  -- one that is answered that the journal is full came when it was
  pub full_so : (count : ℕ) → t.answer.said ≡ JournalFull count → is_nearly_full (history_of before) ≡ true
  full_so count said = ⊎_elim
      (λ (finished : (is_finished_in start past ≡ true) × (t.answer.said ≡ Finished)).
      absurd (let never : JournalFull count ≡ Finished = sym said ∙ finished.1 in cc))
      (λ (full : (is_nearly_full past ≡ true) × (t.answer.said ≡ JournalFull (length past))). full.0)
      (ends_so (ap ends_all said))

-- ---- queues

left_none : (n : ℕ) → left_waiting n [] ≡ []
left_none zero = refl
left_none (suc n) = refl

module _ (q : QueueLists) (none : q.waiting ≡ []) (g : Gid) where
  removed_none : remove q.waiting (queued_place g q.waiting) ≡ []
  removed_none = ap (λ (ws : List Queued). remove ws (queued_place g ws)) none

  stopped_waiting : (e : Ending) (o : Option Status) → (stopped_from o g e q).waiting ≡ []
  stopped_waiting e (Some status.Active) = none
  stopped_waiting e (Some status.Waiting) = removed_none
  stopped_waiting e (Some status.Paused) = removed_none
  stopped_waiting e (Some status.Failed) = removed_none
  stopped_waiting e (Some status.Complete) = removed_none
  stopped_waiting e (Some status.Removed) = removed_none
  stopped_waiting e None = removed_none

  -- where nothing waits, nothing does once a download stopped
  pub stop_waits : (s : Status) → (after q (Stop g s)).waiting ≡ []
  stop_waits s = by (refusal q (Stop g s))
    where
      by : (o : Option QueueErr) → (unless_refused o (moved_up (effect q (Stop g s))) q).waiting ≡ []
      by None =
          let e = effect q (Stop g s) in
          ap (left_waiting (e.limit - length e.active)) (stopped_waiting (ending_by_status s) (status_of q g))
          ∙ left_none (e.limit - length e.active)
      by (Some refused) = none

refused_stop : (t : Bool) (e : Ending) (x q : QueueLists)
    → unless_refused (by_status is_unfinished (cond t (Some (ended_status e)) None)) x q ≡ q
refused_stop true ending.Failed x q = refl
refused_stop true ending.Complete x q = refl
refused_stop true ending.Removed x q = refl
refused_stop false e x q = refl

-- a queue in which nothing is active or waits
pub record IsEmptied (q : QueueLists) : Type 0 where
  pub active : q.active ≡ []
  pub waiting : q.waiting ≡ []

-- stays so
pub stop_emptied : (q : QueueLists) → IsEmptied q → (g : Gid) (s : Status) → IsEmptied (after q (Stop g s))
stop_emptied q is g s =
    let r : QueueLists = record { limit = q.limit; active = []; waiting = []; stopped = q.stopped; added = q.added } in
    let same : q ≡ r = λ i. record {
      limit = q.limit;
      active = is.active i;
      waiting = is.waiting i;
      stopped = q.stopped;
      added = q.added;
    } in
    let stays : after r (Stop g s) ≡ r =
    refused_stop (nat_lt (stopped_place g q.stopped) (length q.stopped))
    (stopped_at g q.stopped (stopped_place g q.stopped)).ending (moved_up (effect r (Stop g s))) r in
    let whole : after q (Stop g s) ≡ r = ap (λ (x : QueueLists). after x (Stop g s)) same ∙ stays in
    record { active = ap (λ (x : QueueLists). x.active) whole; waiting = ap (λ (x : QueueLists). x.waiting) whole }

-- ---- histories without calls

stop_is : (g : Gid) (how : End) → (s : Status) × (stop_of g how ≡ Stop g s)
stop_is g end.Complete = (status.Complete, refl)
stop_is g (end.Dead piece mark) = (status.Failed, refl)
stop_is g (end.Disk count) = (status.Failed, refl)
stop_is g (end.Exists len) = (status.Failed, refl)
stop_is g (end.PieceLength have want) = (status.Failed, refl)
stop_is g (end.Length have want) = (status.Failed, refl)
stop_is g end.InfoHash = (status.Failed, refl)
stop_is g (end.Unreadable at) = (status.Failed, refl)
stop_is g (end.TooLarge total) = (status.Failed, refl)
stop_is g (end.SameFile other) = (status.Failed, refl)
stop_is g (end.SameHash other) = (status.Failed, refl)
stop_is g end.Checksum = (status.Failed, refl)

pub no_call_behind : (e : Event) (events : List Event) → HasNoCall (e ∷ events) → HasNoCall events
no_call_behind e events none session call now there = none session call now (behind e (Called session call now) events there)

module _ (start : RunStart) (base : List Event) (P : QueueLists → Type 0)
    (stays : (q : QueueLists) → P q → (g : Gid) (s : Status) → P (after q (Stop g s))) where
  -- what holds of a queue, and stays where a download stops, holds behind events that are no calls
  pub queue_on : (newer : List Event) → HasNoCall newer → P (queue_in start base) → P (queue_in start (newer ++ base))
  queue_on [] none is = is
  queue_on (Called session call now ∷ newer) none is = absurd (none session call now (0, omega arith, refl))
  queue_on (Ended g how ∷ newer) none is =
      let stop = stop_is g how in
      subst (λ c. P (after (queue_in start (newer ++ base)) c)) (sym stop.1)
      (stays (queue_in start (newer ++ base)) (queue_on newer (no_call_behind (Ended g how) newer none) is) g stop.0)
  queue_on (Opened g v b n ∷ newer) none is = queue_on newer (no_call_behind (Opened g v b n) newer none) is
  queue_on (Sized g i n ∷ newer) none is = queue_on newer (no_call_behind (Sized g i n) newer none) is
  queue_on (Claimed g c ∷ newer) none is = queue_on newer (no_call_behind (Claimed g c) newer none) is
  queue_on (Landed g i m r n ∷ newer) none is = queue_on newer (no_call_behind (Landed g i m r n) newer none) is
  queue_on (Settled g p r v ∷ newer) none is = queue_on newer (no_call_behind (Settled g p r v) newer none) is
  queue_on (Cleared g p ∷ newer) none is = queue_on newer (no_call_behind (Cleared g p) newer none) is
  queue_on (Lost g i m p k ∷ newer) none is = queue_on newer (no_call_behind (Lost g i m p k) newer none) is
  queue_on (Checked g r ∷ newer) none is = queue_on newer (no_call_behind (Checked g r) newer none) is
  queue_on (Saved g n ∷ newer) none is = queue_on newer (no_call_behind (Saved g n) newer none) is
  queue_on (Left ∷ newer) none is = queue_on newer (no_call_behind Left newer none) is
  queue_on (Stopped ∷ newer) none is = queue_on newer (no_call_behind Stopped newer none) is

-- nor does it get shut
pub shut_on : (start : RunStart) (base newer : List Event) → HasNoCall newer → (replay_of start base).shut ≡ false
    → (replay_of start (newer ++ base)).shut ≡ false
shut_on start base [] none is = is
shut_on start base (Called session call now ∷ newer) none is = absurd (none session call now (0, omega arith, refl))
shut_on start base (Ended g how ∷ newer) none is = shut_on start base newer (no_call_behind (Ended g how) newer none) is
shut_on start base (Opened g v b n ∷ newer) none is = shut_on start base newer (no_call_behind (Opened g v b n) newer none) is
shut_on start base (Sized g i n ∷ newer) none is = shut_on start base newer (no_call_behind (Sized g i n) newer none) is
shut_on start base (Claimed g c ∷ newer) none is = shut_on start base newer (no_call_behind (Claimed g c) newer none) is
shut_on start base (Landed g i m r n ∷ newer) none is = shut_on start base newer (no_call_behind (Landed g i m r n) newer none) is
shut_on start base (Settled g p r v ∷ newer) none is = shut_on start base newer (no_call_behind (Settled g p r v) newer none) is
shut_on start base (Cleared g p ∷ newer) none is = shut_on start base newer (no_call_behind (Cleared g p) newer none) is
shut_on start base (Lost g i m p k ∷ newer) none is = shut_on start base newer (no_call_behind (Lost g i m p k) newer none) is
shut_on start base (Checked g r ∷ newer) none is = shut_on start base newer (no_call_behind (Checked g r) newer none) is
shut_on start base (Saved g n ∷ newer) none is = shut_on start base newer (no_call_behind (Saved g n) newer none) is
shut_on start base (Left ∷ newer) none is = shut_on start base newer (no_call_behind Left newer none) is
shut_on start base (Stopped ∷ newer) none is = shut_on start base newer (no_call_behind Stopped newer none) is

-- ---- turns behind others

after_front : (base events : List Event) → (front : List Event) × (history_after base events ≡ front ++ base)
after_front base [] = ([], refl)
after_front base (e ∷ events) =
    let rest = after_front (e ∷ base) events in
    (rest.0 ++ e ∷ [], rest.1 ∙ sym (append_assoc rest.0 (e ∷ []) base))

pub events_behind : (newer before : List RunTurn) → (events : List Event) × (history_of (newer ++ before) ≡ events ++ history_of before)
events_behind [] before = ([], refl)
events_behind (u ∷ newer) before =
    let rest = events_behind newer before in
    let front = after_front (history_of (newer ++ before)) u.events in (
      front.0 ++ rest.0,
      front.1 ∙ (ap (λ (p : List Event). front.0 ++ p) rest.1 ∙ sym (append_assoc front.0 rest.0 (history_of before))),
    )
