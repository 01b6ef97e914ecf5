-- An operation that is performed is the next turn, and what is kept stands for all turns with it.
use Rattle.std.proofs.Common.{◌≡◌, ◌≤◌, ℕ, Bool, true, false, List, [], ◌∷◌, ◌++◌, drop, length, map, reverse, refl, sym, ap, ◌∙◌, subst, arith}
use Rattle.std.specs.Prelude.{◌&&◌, ◌||◌, IsTrue, All, filter, max, not}
use Rattle.std.specs.List.{list_any}
use Rattle.std.proofs.lemmas.List.{length-reverse, reverse-append}
use Rattle.std.proofs.lemmas.List.Elements.{All-weaker, filter_agree}
use Rattle.machine_core.specs.Replays.{is_active_in}
use Rattle.machine_core.specs.Starts.{Download, RunStart}
use Rattle.machine_core.specs.declared.events.Event.{Event}
use Rattle.machine_core.specs.declared.handed.Handed.{Handed}
use Rattle.rate_tokens.specs.Level.{Level}
use Rattle.turn_desk.specs.Turns.{IsLater, ServesTurn, StartsWith, turn_of}
use Rattle.dl_disk.specs.Passes.{Passes}
use Rattle.dl_disk.specs.State.{DiskState}
use Rattle.engine_turns.specs.TurnLaws.{HandedAreActive}
use Rattle.machine_core.specs.RunLegal.{IsLegal}
use Rattle.stored_run.specs.Leavings.{AnyChange}
use Rattle.stored_run.specs.RunFollows.{RunFollows}
use Rattle.stored_run.specs.Stored.{AreWantsKept, IsStoredRun}
use Rattle.stored_run.specs.declared.run.StoredView.{StoredView}
use Rattle.engine_core.specs.Disks.{LeavesTurn}
use Rattle.engine_core.specs.Durable.{KeepsPromises}
use Rattle.engine_core.proofs.DiskTaken.{keeps_promises}
use Rattle.engine_core.proofs.ReadTurns.{fits_files, fits_more, turn_passes}
use Rattle.engine_core.proofs.WrittenTurns.{written_read}
use Rattle.engine_core.proofs.GoingPayloads.{going_read}
use Rattle.engine_core.proofs.OpenedRead.{fitted_read, opened_read, tried_read, untouched_read}
use Rattle.engine_core.specs.Readings.{TakesRead}
use Rattle.engine_core.specs.Findings.{FindsRead}
use Rattle.engine_core.proofs.FindingsRead.{checked_read, refused_read}
use Rattle.engine_core.specs.TurnReads.{TurnsFitDisk}
use Rattle.turn_desk.specs.declared.turn.Stamp.{Stamp}
use Rattle.engine_turns.specs.Faults.{CountsFaults}
use Rattle.engine_turns.specs.Levels.{downloads_of, level_of_download, level_on, overall_rate, own_levels, spent_by}
use Rattle.engine_turns.specs.Phases.{TurnStart}
use Rattle.engine_turns.specs.RunTurns.{IsAnswered, IsTurnAnswered, MayComeAfter, answer_before, brought_bytes, ties_turn, turn_start}
use Rattle.engine_turns.specs.Standings.{RunStanding, standing_after}
use Rattle.engine_turns.specs.Told.{RunTurn, handed_by, handed_in, history_after, history_of, is_taken, latest_moment, moment_of_operation, seals_handed, settles_handed, stays_out}
use Rattle.engine_turns.specs.declared.operations.Answer.{Answer}
use Rattle.engine_turns.specs.declared.operations.Operation.{Operation}
use Rattle.engine_turns.specs.declared.operations.Said.{Said}
use Rattle.engine_core.specs.Buckets.{HasRates, own_levels_on}
use Rattle.engine_core.specs.Engines.{IsEngineState, KeepsRates, StandsAfter, entries_of, moment_told, past_of, stamp_of, standing_of, start_of}
use Rattle.engine_core.specs.Handing.{IsOut, IsUnsettled, stays_handed}
use Rattle.engine_core.specs.Performing.{Performs, PerformsTurn}
use Rattle.engine_core.specs.declared.state.EngineState.{EngineState}
use Rattle.engine_core.proofs.Downloads.{downloads_grow, each_found}
use Rattle.engine_core.proofs.Handings.{filter_twice}
use Rattle.engine_core.proofs.Levels.{turn_levels}
use Rattle.engine_core.proofs.KeptPayloads.{payload_read}
use Rattle.engine_core.proofs.Turning.{events_behind, in_order}

-- ---- what is handed out

joined : (a s k : Bool) → ((a && not s) && not k) ≡ (a && not (s || k))
joined true true true = refl
joined true true false = refl
joined true false true = refl
joined true false false = refl
joined false s k = refl

-- ---- the whole

-- what an engine keeps stands for these turns, of which the oldest is the first
abbrev pub stands_by : {D : Type 0} → Bool → (D → DiskState) → EngineState D → List RunTurn → Type 0
stands_by tells state e turns = StandsAfter tells state e (reverse turns)

module _ {D : Type 0} (tells : Bool) (state : D → DiskState) (op : Operation) (said : Said) (back : List ℕ) (f f' : ℕ)
    (old mid new : EngineState D)
    (done : Performs op old f mid f' said) (run : new.run ≡ mid.run) (limits : new.limits ≡ mid.limits)
    (handed : new.handed.pieces
    ≡ filter (stays_handed (start_of mid) (past_of mid) (drop (length (reverse (past_of old))) (reverse (past_of mid)))) mid.handed.pieces)
    (back_is : back ≡ brought_bytes op) (turns : List RunTurn) (pass : ℕ) (m m' : Stamp) (faults : m.faults ≡ f)
    (faults_after : m'.faults ≡ f') (stands : stands_by tells state old turns) where
  abbrev pub told : List RunTurn
  told = reverse turns

  abbrev pub t : RunTurn
  t = turn_of pass turns op (record { said = said; back = back }) (reverse (past_of old)) m (reverse (past_of new)) m'

  pub past_is : past_of old ≡ history_of told
  past_is = ap (λ (s : RunStanding). s.past) stands.is

  same_past : past_of new ≡ past_of mid
  same_past = ap (λ r. r.machine.past) run

  pub same_start : start_of new ≡ start_of old
  same_start = ap (λ r. r.machine.start) run ∙ done.answers.start

  events_are : t.events ≡ done.answers.events
  events_are = events_behind (past_of old) done.answers.events (past_of new) (same_past ∙ done.answers.grown)

  now_is : mid.run.now.0 ≡ max (moment_of_operation op) (latest_moment told)
  now_is = done.answers.now ∙ ap (max (moment_of_operation op)) stands.now

  at_is : record { start = start_of old; now = mid.run.now; faults = f } ≡ turn_start (start_of old) told t
  at_is i = record { start = start_of old; now = record { 0 = now_is i }; faults = sym faults i }

  answered : IsTurnAnswered (start_of old) told t (answer_before (start_of old) (history_of told) op)
  answered =
      subst (λ (p : List Event). IsAnswered (turn_start (start_of old) told t) (standing_after (start_of old) told) op t.events said (answer_before (start_of old) p op)) past_is
      (subst (λ (es : List Event). IsAnswered (turn_start (start_of old) told t) (standing_after (start_of old) told) op es said (answer_before (start_of old) (past_of old) op)) (sym events_are)
      (subst (λ (s : RunStanding). IsAnswered (turn_start (start_of old) told t) s op done.answers.events said (answer_before (start_of old) (past_of old) op)) stands.is
      (subst (λ (a : TurnStart). IsAnswered a (standing_of old) op done.answers.events said (answer_before (start_of old) (past_of old) op)) at_is
      done.answers.answered)))

  pub may_come : MayComeAfter (start_of old) told t
  may_come = record {
    back = back_is;
    answered = answered;
    counts =
        subst (λ (n : ℕ). CountsFaults n t.events m'.faults) (sym faults)
        (subst (λ (n : ℕ). CountsFaults f t.events n) (sym faults_after)
        (subst (λ (es : List Event). CountsFaults f es f') (sym events_are) done.answers.counts));
  }

  -- ---- after it

  pub past_after : past_of new ≡ history_of (t ∷ told)
  past_after =
      same_past ∙ (done.answers.grown ∙ (ap (λ (p : List Event). history_after p done.answers.events) past_is
      ∙ ap (history_after (history_of told)) (sym events_are)))

  mid_past : past_of mid ≡ history_of (t ∷ told)
  mid_past = sym same_past ∙ past_after

  handed_are : new.handed.pieces ≡ handed_in (start_of old) (t ∷ told)
  handed_are =
      handed
      ∙ (ap (λ (es : List Event). filter (stays_handed (start_of mid) (past_of mid) es) mid.handed.pieces) drops
      ∙ (ap (λ (s : RunStart). filter (stays_handed s (past_of mid) t.events) mid.handed.pieces) done.answers.start
      ∙ (ap (λ (p : List Event). filter (stays_handed (start_of old) p t.events) mid.handed.pieces) mid_past
      ∙ (ap (filter (stays_handed (start_of old) (history_of (t ∷ told)) t.events)) done.handed
      ∙ (filter_twice (stays_handed (start_of old) (history_of (t ∷ told)) t.events)
      (λ h. not (seals_handed h op && is_taken said)) (handed_by said ++ old.handed.pieces)
      ∙ (filter_agree
      (λ h. stays_handed (start_of old) (history_of (t ∷ told)) t.events h && not (seals_handed h op && is_taken said))
      (stays_out (start_of old) t (history_of (t ∷ told)))
      (λ h. joined (is_active_in (start_of old) (history_of (t ∷ told)) h.gid)
      (list_any (settles_handed h) t.events) (seals_handed h op && is_taken said)) (handed_by said ++ old.handed.pieces)
      ∙ ap (λ (hs : List Handed). filter (stays_out (start_of old) t (history_of (t ∷ told))) (handed_by said ++ hs))
      (ap (λ (s : RunStanding). s.handed) stands.is)))))))
    where
      drops : drop (length (reverse (past_of old))) (reverse (past_of mid)) ≡ t.events
      drops = ap (λ (p : List Event). drop (length (reverse (past_of old))) (reverse p)) (sym same_past)

  spent_is : spent_by (start_of old) (past_of old) op said ≡ spent_by (start_of old) (history_of told) op said
  spent_is = ap (λ (p : List Event). spent_by (start_of old) p op said) past_is

  overall_is : new.limits.overall
      ≡ level_on (spent_by (start_of old) (history_of told) op said) (overall_rate (start_of old) (history_of told))
      (overall_rate (start_of old) (history_of (t ∷ told))) (max (moment_of_operation op) (latest_moment told)) old.limits.overall
  overall_is =
      ap (λ l. l.overall) limits
      ∙ (done.answers.levels.overall
      ∙ (λ i. level_on (spent_is i) (overall_rate (start_of old) (past_is i)) (overall_rate (start_of old) (mid_past i))
      (now_is i) old.limits.overall))

  overall_after : new.limits.overall ≡ (standing_after (start_of old) (t ∷ told)).overall
  overall_after =
      overall_is
      ∙ ap (λ (level : Level). level_on (spent_by (start_of old) (history_of told) op said)
      (overall_rate (start_of old) (history_of told)) (overall_rate (start_of old) (history_of (t ∷ told)))
      (max (moment_of_operation op) (latest_moment told)) level) (ap (λ (s : RunStanding). s.overall) stands.is)

  own_is : new.limits.own
      ≡ own_levels_on (start_of old) (history_of told) (history_of (t ∷ told))
      (spent_by (start_of old) (history_of told) op said) (max (moment_of_operation op) (latest_moment told))
      (downloads_of (start_of old) (history_of (t ∷ told))) (own_levels (start_of old) told)
  own_is =
      ap (λ l. l.own) limits
      ∙ (done.answers.levels.own
      ∙ (λ i. own_levels_on (start_of old) (past_is i) (mid_past i) (spent_is i) (now_is i)
      (downloads_of (start_of old) (mid_past i)) (ap (λ (s : RunStanding). s.own) stands.is i)))

  own_after : new.limits.own ≡ own_levels (start_of old) (t ∷ told)
  own_after =
      let grows = downloads_grow (start_of old) (history_of told) t.events in
      let ds = downloads_of (start_of old) (history_of told) in
      own_is
      ∙ (ap (λ (all : List Download). own_levels_on (start_of old) (history_of told) (history_of (t ∷ told))
      (spent_by (start_of old) (history_of told) op said) (max (moment_of_operation op) (latest_moment told)) all
      (own_levels (start_of old) told)) grows.is
      ∙ (sym (turn_levels (start_of old) t told ds grows.more (each_found ds) grows.fresh)
      ∙ ap (map (level_of_download (start_of old) (t ∷ told))) (sym grows.is)))

  -- what the disk is to keep by all of them
  abbrev KeepsAll : Type 0
  KeepsAll = IsTrue tells → KeepsPromises (start_of old) (t ∷ told) (state new.run.disk)

  -- and what it reads is as they say
  abbrev FitsAll : Type 0
  FitsAll = IsTrue tells → TurnsFitDisk (start_of old) (t ∷ told) (state new.run.disk)

  stands_then : KeepsAll → FitsAll → StandsAfter tells state new (t ∷ told)
  stands_then keeps fits = record {
    now = ap (λ r. r.now.0) run ∙ now_is;
    is = standing_is ∙ ap (λ (s : RunStart). standing_after s (t ∷ told)) (sym same_start);
    disk = λ told_is.
        subst (λ (s : RunStart). KeepsPromises s (t ∷ told) (state new.run.disk)) (sym same_start) (keeps told_is);
    reads = λ told_is.
        subst (λ (s : RunStart). TurnsFitDisk s (t ∷ told) (state new.run.disk)) (sym same_start) (fits told_is);
  }
    where
      standing_is : standing_of new ≡ standing_after (start_of old) (t ∷ told)
      standing_is i = record { past = past_after i; handed = handed_are i; overall = overall_after i; own = own_after i }

  pub serves : KeepsAll → FitsAll → ties_turn (start_of old) turns t × stands_by tells state new (turns ++ t ∷ [])
  serves keeps fits =
      (may_come, subst (StandsAfter tells state new) (sym (reverse-append turns (t ∷ []))) (stands_then keeps fits))

-- ---- what serves an operation

-- time goes on where it is told
times_later : (tells : Bool) (a b : DiskState) → (IsTrue tells → a.moment ≤ b.moment) → moment_told tells a ≤ moment_told tells b
times_later true a b later = later refl
times_later false a b later = omega arith

-- the operation and its answer are one turn more
pub record TurnTaken {D : Type 0} (tells : Bool) (state : D → DiskState) (faults : D → ℕ) (op : Operation)
    (old new : EngineState D) (answer : Answer) : Type 0 where
  pub start : start_of new ≡ start_of old
  pub entries : StartsWith (entries_of new) (entries_of old)
  pub mark : IsLater (stamp_of tells state faults old) (stamp_of tells state faults new)
  pub turn : ServesTurn ties_turn (stands_by tells state) start_of entries_of (stamp_of tells state faults) old op answer new

module _ {D : Type 0} (tells : Bool) (state : D → DiskState) (faults : D → ℕ) (op : Operation) (said : Said)
    (old inside mid new : EngineState D) (from : ℕ) (seen : inside ≡ old)
    (did : PerformsTurn tells state faults op inside mid said)
    (from_is : from ≡ length (reverse (past_of inside))) (run : new.run ≡ mid.run) (limits : new.limits ≡ mid.limits)
    (handed : new.handed.pieces
    ≡ filter (stays_handed (start_of mid) (past_of mid) (drop from (reverse (past_of mid)))) mid.handed.pieces) where
  done_since : Performs op old (faults old.run.disk) mid (faults mid.run.disk) said
  done_since =
      subst (λ (e : EngineState D). Performs op e (faults e.run.disk) mid (faults mid.run.disk) said) seen did.performs

  -- what it did to the disk
  left_since : IsTrue tells → LeavesTurn state op old new said
  left_since told_is =
      subst (λ (r : StoredView D). LeavesTurn state op old (record new { run = r }) said) (sym run)
      (subst (λ (e : EngineState D). LeavesTurn state op e mid said) seen (did.disk told_is))

  -- and what it took from it
  read_since : IsTrue tells → TakesRead state op old new.run said
  read_since told_is =
      subst (λ (r : StoredView D). TakesRead state op old r said) (sym run)
      (subst (λ (e : EngineState D). TakesRead state op e mid.run said) seen (did.reads told_is))

  -- and what it found there
  found_since : IsTrue tells → FindsRead state op old.run new.run
  found_since told_is =
      subst (λ (r : StoredView D). FindsRead state op old.run r) (sym run)
      (subst (λ (e : EngineState D). FindsRead state op e.run mid.run) seen (did.finds told_is))

  -- the calls of its disk
  pub passed_since : IsTrue tells → Passes AnyChange (state old.run.disk) (state new.run.disk)
  passed_since told_is = turn_passes state op old new said (left_since told_is)

  handed_since : new.handed.pieces
      ≡ filter (stays_handed (start_of mid) (past_of mid) (drop (length (reverse (past_of old))) (reverse (past_of mid)))) mid.handed.pieces
  handed_since =
      handed
      ∙ ap (λ (n : ℕ). filter (stays_handed (start_of mid) (past_of mid) (drop n (reverse (past_of mid)))) mid.handed.pieces)
      (from_is ∙ ap (λ (e : EngineState D). length (reverse (past_of e))) seen)

  pub takes_turn : (laws : RunFollows) → HandedAreActive
      → IsStoredRun tells (faults old.run.disk) (state old.run.disk) old.run → IsLegal (start_of new) (past_of new)
      → AreWantsKept (start_of new) (past_of new) new.run.wants.items
      → (back : List ℕ) → back ≡ brought_bytes op → TurnTaken tells state faults op old new (record { said = said; back = back })
  takes_turn laws active was legal kept_then back back_is =
      let done = done_since in
      let faults_later = subst (λ (n : ℕ). faults old.run.disk ≤ n) (sym (ap (λ r. faults r.disk) run)) done.answers.later in
      let m : Stamp = stamp_of tells state faults old in
      let m' : Stamp = stamp_of tells state faults new in
      record {
        start = ap (λ r. r.machine.start) run ∙ done.answers.start;
        entries = (
          done.answers.events,
          ap (λ r. reverse r.machine.past) run
              ∙ (ap reverse done.answers.grown ∙ in_order (past_of old) done.answers.events),
        );
        mark = (
          times_later tells (state old.run.disk) (state new.run.disk)
              (λ told_is. (passed_since told_is).later),
          faults_later,
        );
        turn = λ turns pass is.
            let told = reverse turns in
            let turn : RunTurn = turn_of pass turns op (record { said = said; back = back }) (reverse (past_of old)) m
            (reverse (past_of new)) m' in
            let counts = ap (λ r. faults r.disk) run in
            let past_was = past_is tells state op said back (faults old.run.disk) (faults mid.run.disk) old mid new done run limits
            handed_since back_is turns pass m m' refl counts is in
            let past_then = past_after tells state op said back (faults old.run.disk) (faults mid.run.disk) old mid new done run limits
            handed_since back_is turns pass m m' refl counts is in
            let start_is = same_start tells state op said back (faults old.run.disk) (faults mid.run.disk) old mid new done run limits
            handed_since back_is turns pass m m' refl counts is in
            let may = may_come tells state op said back (faults old.run.disk) (faults mid.run.disk) old mid new done run limits
            handed_since back_is turns pass m m' refl counts is in
            let legal_was = subst (IsLegal (start_of old)) past_was was.legal in
            let legal_then = subst (IsLegal (start_of old)) past_then
            (subst (λ (s : RunStart). IsLegal s (past_of new)) start_is legal) in
            serves tells state op said back (faults old.run.disk) (faults mid.run.disk) old mid new done run limits handed_since
            back_is turns pass m m' refl counts is
            (λ told_is.
            keeps_promises laws active tells told_is state faults old new told turn (left_since told_is) was past_was past_then start_is
            legal may (ap (λ (b : Bool). moment_told b (state old.run.disk)) told_is) (is.disk told_is))
            (λ told_is.
            let asked = (is.disk told_is).asked in
            fits_more (start_of old) (state old.run.disk) (state new.run.disk) (passed_since told_is).later (passed_since told_is).seen
            told turn (ap (λ (b : Bool). moment_told b (state old.run.disk)) told_is)
            (ap (λ (b : Bool). moment_told b (state new.run.disk)) told_is) (is.reads told_is)
            (fits_files state old new told turn was.wants_are past_was past_then (ap (λ (s : RunStanding). s.handed) is.is) may
            (read_since told_is)
            (opened_read laws active state old new told turn (left_since told_is) legal_was legal_then may was.wants_are asked past_was
            start_is past_then)
            (untouched_read laws active state old new told turn (left_since told_is) legal_was legal_then may was.wants_are asked past_was
            start_is past_then)
            (written_read state old new told turn (left_since told_is) was.wants_are past_was past_then may)
            (fitted_read laws active state old new told turn (left_since told_is) legal_was legal_then may was.wants_are asked past_was
            start_is past_then)
            (tried_read laws active state old new told turn (left_since told_is) legal_was legal_then may
            was.wants_are asked past_was start_is past_then)
            (λ gid goes want has.
            going_read state old new told turn (left_since told_is) was.wants_are past_was past_then gid goes want has)
            (payload_read laws state old new told turn (left_since told_is) legal_then was.wants_are asked past_was start_is past_then)
            (keeps_promises laws active tells told_is state faults old new told turn (left_since told_is) was past_was past_then start_is
            legal may (ap (λ (b : Bool). moment_told b (state old.run.disk)) told_is) (is.disk told_is)).lengths
            (refused_read laws active state old new told turn (found_since told_is) legal_was legal_then may
            was.wants_are kept_then past_was start_is past_then)
            (checked_read laws active state old new told turn (found_since told_is) legal_was legal_then may
            was.wants_are kept_then past_was start_is past_then)));
      }

  -- and the buckets have their rates still
  pub rates_since : KeepsRates new
  rates_since =
      subst (λ r. HasRates r.machine.start r.machine.past new.limits) (sym run)
      (subst (λ l. HasRates (start_of mid) (past_of mid) l) (sym limits) done_since.rates)

  -- .. and each piece that is out then awaits its finding
  pub engine_since : ((before events : List Event) → past_of mid ≡ history_after before events → from ≡ length before
      → All (IsUnsettled (start_of mid) before) mid.handed.pieces → All (IsOut (start_of mid) (past_of mid)) new.handed.pieces)
      → All (IsOut (start_of old) (past_of old)) old.handed.pieces → IsEngineState new
  engine_since back out =
      let done = done_since in
      let count : from ≡ length (past_of old) =
      from_is ∙ (length-reverse (past_of inside) ∙ ap (λ (e : EngineState D). length (past_of e)) seen) in
      record {
        rates = rates_since;
        out = subst (λ r. All (IsOut r.machine.start r.machine.past) new.handed.pieces) (sym run)
            (back (past_of old) done.answers.events done.answers.grown count
            (subst (λ (s : RunStart). All (IsUnsettled s (past_of old)) mid.handed.pieces) (sym done.answers.start)
            (done.out (All-weaker (IsOut (start_of old) (past_of old)) (IsUnsettled (start_of old) (past_of old))
            (λ h is. is.unsettled) old.handed.pieces out))));
      }
