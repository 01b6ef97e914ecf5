-- A download that goes on no more never does again, and one that ended doesn't.
use Rattle.std.proofs.Common.{◌≡◌, ℕ, Bool, true, false, Option, Some, ◌≤◌, List, [], ◌∷◌, refl, sym, ap, ◌∙◌, subst, arith}
use Rattle.std.specs.List.{list_any}
use Rattle.std.specs.Option.{option_map_or}
use Rattle.dl_kinds.specs.declared.gid.Gid.{Gid}
use Rattle.dl_kinds.specs.declared.status.Status.{Status}
use Rattle.dl_history.specs.OwnEvents.{OwnEvent, Halts}
use Rattle.dl_queue.specs.Calls.{QueueCall, after, is_unfinished, was_added}
use Rattle.dl_queue.specs.Endings.{ended_status}
use Rattle.dl_queue.specs.Lists.{QueueLists}
use Rattle.dl_queue.specs.Places.{status_of}
use Rattle.dl_queue.specs.declared.kinds.Ending.{Ending}
use Rattle.dl_queue.specs.declared.kinds.Ending.TheVariants as ending
use Rattle.machine_core.specs.Replays.{queue_in, replay_of, stop_of}
use Rattle.machine_core.specs.RunLegal.{goes_on}
use Rattle.machine_core.specs.Starts.{RunStart}
use Rattle.machine_core.specs.declared.events.Event.{Event}
use Rattle.machine_core.specs.declared.events.Event.TheVariants.{Called, Opened, Sized, Claimed, Landed, Settled, Cleared, Lost, Checked, Saved, Ended, Left, Stopped}
use Rattle.engine_turns.specs.RunLaws.{EndedAreGone, GoneStay}
use Rattle.engine_turns.proofs.Going.{added_are, any_added, any_known, call_on, is_added, once, stop_with}
use Rattle.engine_turns.proofs.Once.{Stops, by_status_of, stop_stops, there_in_active, there_in_waiting, times}

-- what its status says of how often it stands there
record Counted (q : QueueLists) (g : Gid) (st : Option Status) : Type 0 where
  some : option_map_or is_unfinished st false ≡ true → 1 ≤ times g q
  none : option_map_or is_unfinished st false ≡ false → times g q ≡ 0

ended_counted : (q : QueueLists) (g : Gid) → times g q ≡ 0 → (e : Ending) → Counted q g (Some (ended_status e))
ended_counted q g none ending.Failed = record { some = λ is. absurd cc; none = λ is. none }
ended_counted q g none ending.Complete = record { some = λ is. absurd cc; none = λ is. none }
ended_counted q g none ending.Removed = record { some = λ is. absurd cc; none = λ is. none }

counted : (q : QueueLists) (g : Gid) → Counted q g (status_of q g)
counted q g =
    by_status_of q g (Counted q g) record {
      active = λ within. record { some = λ is. there_in_active g q within; none = λ is. absurd cc };
      paused = λ within. record { some = λ is. there_in_waiting g q within; none = λ is. absurd cc };
      waiting = λ within. record { some = λ is. there_in_waiting g q within; none = λ is. absurd cc };
      ended = ended_counted q g;
      none = λ none. record { some = λ is. absurd cc; none = λ is. none };
    }

going_by : (b : Bool) (n : ℕ) → (b ≡ true → 1 ≤ n) → n ≡ 0 → b ≡ false
going_by true n some none = absurd (let one = some refl in omega arith)
going_by false n some none = refl

no_going : (q : QueueLists) (g : Gid) → times g q ≡ 0 → goes_on q g ≡ false
no_going q g none = going_by (goes_on q g) (times g q) (counted q g).some none

-- ---- it stays gone

-- as events of a download that ended
abbrev gone : List OwnEvent
gone = Halts true ∷ []

stay_gone : (start : RunStart) (past : List Event) (e : Event) (g : Gid) → was_added (queue_in start past).added g ≡ true
    → times g (queue_in start past) ≡ 0 → times g (queue_in start (e ∷ past)) ≡ 0
stay_gone start past (Called session asked now) g there none =
    (call_on g start (replay_of start past) asked gone gone
    (record { one = omega arith; ended = λ e. none; unadded = λ un. none; ended_added = λ e. there }) refl).ended refl
stay_gone start past (Opened other verified blocks now) g there none = none
stay_gone start past (Sized other id total) g there none = none
stay_gone start past (Claimed other claim) g there none = none
stay_gone start past (Landed other id mirror run now) g there none = none
stay_gone start past (Settled other piece right giver) g there none = none
stay_gone start past (Cleared other piece) g there none = none
stay_gone start past (Lost other id mirror piece mark) g there none = none
stay_gone start past (Checked other right) g there none = none
stay_gone start past (Saved other now) g there none = none
stay_gone start past (Ended other how) g there none =
    let s = stop_with other how in
    let q = queue_in start past in
    let stops : Stops g other q (after q (stop_of other how)) =
    subst (λ (c : QueueCall). Stops g other q (after q c)) (sym s.1) (stop_stops g other s.0 q) in
    let less = stops.less in
    omega arith
stay_gone start past Left g there none = none
stay_gone start past Stopped g there none = none

pub gone_stay : GoneStay
gone_stay start past e g download added is =
    let q = queue_in start past in
    let there : was_added q.added g ≡ true =
    any_added g q.added ∙ ap (list_any (is_added g)) (added_are start past)
    ∙ any_known g (replay_of start past).downloads download added in
    no_going (queue_in start (e ∷ past)) g (stay_gone start past e g there ((counted q g).none is))

pub ended_gone : EndedAreGone
ended_gone start past gid legal ended =
    no_going (queue_in start past) gid ((once gid start past legal).ended ended)
