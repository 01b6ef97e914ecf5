-- The work of a run was done over its links, each by the worker of its place.
use Rattle.std.proofs.Common.{◌≡◌, ◌≤◌, inl, inr, ⊎_elim, ℕ, zero, suc, Bool, true, false, List, [], ◌∷◌, ◌++◌, Some, Ok, length, map, refl, sym, ap, ◌∙◌, subst, arith, slice_get}
use Rattle.std.specs.Prelude.{◌+◌, ◌-◌, ◌<◌, ◌||◌, All, Contains, if◌then◌else◌, reverse}
use Rattle.std.specs.List.{list_any}
use Rattle.std.proofs.Math.Dec.{ltb}
use Rattle.std.proofs.lemmas.Bool.{false≢true, ltb-false, ltb-true}
use Rattle.std.proofs.lemmas.List.{length-append, reverse-append}
use Rattle.std.proofs.lemmas.List.Elements.{All-contains, Contains-append_left, Contains-append_right, Contains-push_cases}
use Rattle.served_runs.proofs.TurnLists.{here, none_there}
use Rattle.served_runs.specs.Over.{IsOfWorker, IsRunOver, IsWork, RanOverLinks, WorkedOver}
use Rattle.console_session.specs.CallTurns.{IsOfSession}
use Rattle.console_session.specs.declared.serving.Transcript.{Transcript}
use Rattle.desk_participants.specs.Uses.{Use}
use Rattle.desk_participants.proofs.Seating.{get_at}
use Rattle.desk_participants.proofs.Uses.{map_get, map_length}
use Rattle.dl_clock.specs.declared.clock.Clock.{Ghosts as ClockSays}
use Rattle.dl_disk.specs.declared.disk.Disk.{Ghosts as DiskSays}
use Rattle.dl_kinds.specs.declared.outside.Sink.{Ghosts as SinkSays}
use Rattle.dl_kinds.specs.declared.runs.Moment.{Moment}
use Rattle.door_source.specs.declared.Doors.{Ghosts as DoorSays}
use Rattle.engine_turns.specs.RunTurns.{MayComeAfter}
use Rattle.engine_turns.specs.Told.{AllTurns, RunTurn, history_of}
use Rattle.engine_turns.specs.declared.operations.Operation.{Operation}
use Rattle.engine_turns.specs.declared.operations.Operation.TheVariants as operation
use Rattle.link_source.specs.declared.Links.{Ghosts as LinkSays}
use Rattle.machine_core.specs.RunLegal.{doors_left}
use Rattle.machine_core.specs.Starts.{RunStart}
use Rattle.turn_desk.specs.Turns.{turns_by}
use Rattle.run_lifecycle.specs.Begins.{is_no_memory}
use Rattle.run_lifecycle.specs.Consoles.{is_console_on}
use Rattle.run_lifecycle.specs.declared.console.ConsoleTerms.{ConsoleTerms}
use Rattle.run_lifecycle.specs.declared.ended.Ended.{Ended}
use Rattle.run_lifecycle.proofs.Ran as ran_facts
use Rattle.run_lifecycle.proofs.Turns.{cut_at}
use Rattle.shared_run.specs.Participants.{session_of}
use Rattle.shared_run.specs.RunsTogether.{RanTogether, RunsTogether, used_edges}
use Rattle.shared_run.specs.Together.{Edges, NobodyWorked, UsesLink, WorkedTogether}
use Rattle.shared_run.proofs.Framed.{cut, framed}
use Rattle.shared_run.proofs.Leaves.{LeavesAt, all_leave, is_leave, leaves, leaves_reversed, none_stands}
use Rattle.shared_run.proofs.Passes.{behind_own, by_pass, of_pass, pass_of}

-- ---- lists

-- nothing stands behind a list that is all of it
none_behind : (xs ys : List RunTurn) → xs ≡ xs ++ ys → ys ≡ []
none_behind xs [] is = refl
none_behind xs (y ∷ ys) is = absurd (let many = ap length is ∙ length-append xs (y ∷ ys) in omega (arith, many))

pub none_mapped : {X Y : Type 0} (f : X → Y) (xs : List X) → [] ≡ map f xs → xs ≡ []
none_mapped f [] is = refl
none_mapped f (x ∷ xs) is = absurd (let many = ap length is in omega (arith, many))

-- ---- want of memory

pub or_middle : (a b c : Bool) → b ≡ true → (a || (b || c)) ≡ true
or_middle true b c is = refl
or_middle false true c is = refl
or_middle false false c is = absurd cc

some_short : (bs : List Bool) (place : ℕ) → slice_get bs place ≡ Some true → list_any (λ (b : Bool). b) bs ≡ true
some_short [] place is = absurd cc
some_short (true ∷ bs) place is = refl
some_short (false ∷ bs) zero is = absurd (let same : Some false ≡ Some true = is in cc)
some_short (false ∷ bs) (suc n) is = some_short bs n is

-- ---- a session neither works nor stops the run

not_by_session : {P : Type 0} (session : ℕ) (op : Operation) → IsOfSession session op → IsWork op → P
not_by_session session (operation.Call number call now) is works = absurd works
not_by_session session operation.Pulse is works = absurd works
not_by_session session (operation.Notices from) is works = absurd works
not_by_session session other is works = absurd is

-- none of its calls is such an operation, nor its leave
record IsForeign (op : Operation) : Type 0 where
  called : (session : ℕ) → IsOfSession session op → ⊥
  left : op ≡ operation.Leave → ⊥

work_foreign : (op : Operation) → IsWork op → IsForeign op
work_foreign op works = record {
  called = λ session is. not_by_session session op is works;
  left = λ leaves. subst IsWork leaves works;
}

stop_foreign : (op : Operation) (now : Moment) → op ≡ operation.Stop now → IsForeign op
stop_foreign op now is = record {
  called = λ session of. subst (λ (o : Operation). IsOfSession session o) is of;
  left = λ leaves. let never : operation.Leave ≡ operation.Stop now = sym leaves ∙ is in cc;
}

not_by_door : {P : Type 0} (session : ℕ) (before : List RunTurn) (last t : RunTurn)
    → All (λ (u : RunTurn). IsOfSession session u.op) before → last.op ≡ operation.Leave
    → Contains (before ++ last ∷ []) t → IsForeign t.op → P
not_by_door session before last t kinds leaves there foreign = ⊎_elim
    (λ (is : Contains before t).
    absurd (foreign.called session (All-contains (λ (u : RunTurn). IsOfSession session u.op) before t kinds is)))
    (λ (same : last ≡ t). absurd (foreign.left (ap (λ (v : RunTurn). v.op) (sym same) ∙ leaves)))
    (Contains-push_cases before last t there)

module _ {D L A K O : Type 0} {says : DiskSays D} {links : LinkSays L} {clocks : ClockSays K} {doors : DoorSays A}
    {sinks : SinkSays O}
    {words : List (List ℕ)} {gids : ℕ} {disk : D} {olds : Edges L A K} {out : O} {ended : Ended D} {news : Edges L A K}
    {transcripts : List Transcript} {out' : O} where
  module _ (ran : RanTogether says links clocks doors sinks words gids disk olds out ended news transcripts out')
      (some : 1 ≤ length olds.links) where
    abbrev on : Bool
    on = ran.begun.console.is_on

    abbrev turns : List RunTurn
    turns = ran.goes_on.goes.works.turns

    abbrev middle : List RunTurn
    middle = (framed ran).stops.middle

    turns_are : turns ≡ ran.begun.desk.own ++ middle
    turns_are = (cut ran.goes_on.goes.works).1

    to_turns : (t : RunTurn) → Contains middle t → Contains turns t
    to_turns t there = subst (λ (ts : List RunTurn). Contains ts t) (sym turns_are)
        (Contains-append_right ran.begun.desk.own middle t there)

    -- all turns but the last one
    abbrev front : List RunTurn
    front = ran.begun.desk.own ++ middle

    abbrev start : RunStart
    start = ran_facts.start (framed ran)

    ties_front : AllTurns (MayComeAfter start) (reverse front)
    ties_front =
        let last = (framed ran).stops.last in
        (subst (λ (ts : List RunTurn). AllTurns (MayComeAfter start) ts) (reverse-append front (last ∷ []))
        (ran_facts.ties (framed ran))).1

    -- there are as many doors as those that are used
    doors_are : start.doors ≡ length (used_edges on olds).doors
    doors_are = by on (is_console_on ran.begins.line.globals) (ap (λ (c : ConsoleTerms). c.is_on) ran.begins.console_is)
      where
        by : (b c : Bool) → b ≡ c → (if c then length olds.doors else 0) ≡ length (if b then olds.doors else [])
        by true true is = refl
        by false false is = refl
        by true false is = absurd (false≢true (sym is))
        by false true is = absurd (false≢true is)

    links_same : news.links ≡ ran.goes_on.used.links
    links_same = ap (λ (e : Edges L A K). e.links) ran.goes_on.news_are

    abbrev Together : Type 0
    Together = WorkedTogether D links clocks doors ran.begun.console ran.begun.desk.own (used_edges on olds)
        ran.goes_on.used transcripts turns ran.goes_on.goes.works.work_short

    abbrev Nobody : Type 0
    Nobody = NobodyWorked ran.begun.desk.own (used_edges on olds) ran.goes_on.used transcripts turns
        ran.goes_on.goes.works.work_short

    abbrev Over : ℕ → Type 0
    Over place = WorkedOver false links (framed ran) olds.links news.links place

    abbrev OfWorker : RunTurn → Type 0
    OfWorker t = IsOfWorker false links (framed ran) olds.links news.links t

    -- ---- its workers

    module _ (worked : Together) where
      many : length worked.uses ≡ length olds.links
      many = sym (ap length worked.used.olds_are ∙ map_length (λ (u : Use L K Bool). u.old) worked.uses)

      -- a worker's turns, behind the line's own call
      abbrev Uses : ℕ → Use L K Bool → Type 0
      Uses place one = UsesLink D links clocks ran.begun.desk.own turns place one

      abbrev mine : (place : ℕ) (one : Use L K Bool) → Uses place one → List RunTurn
      mine place one used = used.by_clock.its.worked ++ used.by_clock.its.stop

      own_of : (place : ℕ) (one : Use L K Bool) (used : Uses place one) → turns_by place middle ≡ mine place one used
      own_of place one used =
          let first = get_at worked.uses 0 (let all_links = many in omega (arith, all_links, some)) in
          let zero_used = worked.each 0 first.0 first.1 in
          behind_own ran.begins.call ran.begun.desk.own middle (mine 0 first.0 zero_used) ran.begun.is_short
          ran.begins.own (ap (turns_by 0) (sym turns_are) ∙ zero_used.own) place (mine place one used)
          (ap (turns_by place) (sym turns_are) ∙ used.own)

      abbrev use_at : (place : ℕ) → place < length worked.uses → (one : Use L K Bool) × (slice_get worked.uses place ≡ Some one)
      use_at place low = get_at worked.uses place low

      abbrev worked_over : (place : ℕ) → place < length worked.uses → Over place
      worked_over place low =
          let u = (use_at place low).0 in
          let at = (use_at place low).1 in
          let used = worked.each place u at in record {
            old = u.old;
            new = u.new;
            old_is = ap (λ (ls : List (L × K)). slice_get ls place) worked.used.olds_are
                ∙ map_get (λ (x : Use L K Bool). x.old) worked.uses place u at;
            new_is = ap (λ (ls : List (L × K)). slice_get ls place) (links_same ∙ worked.used.news_are)
                ∙ map_get (λ (x : Use L K Bool). x.new) worked.uses place u at;
            own = record {
              from = used.from;
              to = used.to;
              came = Ok used.came;
              its = used.by_clock.its;
              among = λ t there. of_pass place middle t (subst (λ (ts : List RunTurn). Contains ts t) (sym (own_of place u used))
                  (Contains-append_left used.by_clock.its.worked used.by_clock.its.stop t there));
            };
            short = λ is. ap (λ (b : Bool). ran.begun.is_short || b) ran.goes_on.goes.works.short_is
                ∙ or_middle ran.begun.is_short ran.goes_on.goes.works.work_short
                (is_no_memory ran.goes_on.goes.works.last.answer.said)
                (worked.short_is ∙ some_short worked.shorts place
                (ap (λ (bs : List Bool). slice_get bs place) worked.used.came_are
                ∙ (map_get (λ (x : Use L K Bool). x.came) worked.uses place u at ∙ ap Some (used.short_is ∙ is))));
            kept = λ unlimited. (used.came, refl);
            few = λ limited. absurd (false≢true limited);
          }

      by_worker : (t : RunTurn) → Contains middle t → t.pass < length worked.uses → OfWorker t
      by_worker t there low = record {
        place = t.pass;
        at = worked_over t.pass low;
        there =
            let u = use_at t.pass low in
            subst (λ (ts : List RunTurn). Contains ts t) (own_of t.pass u.0 (worked.each t.pass u.0 u.1))
            (by_pass t.pass middle t there refl);
      }

      -- the pass of a turn is a link's or a door's
      within : (t : RunTurn) → Contains middle t → t.pass < length worked.uses + length worked.door_uses
      within t there = let c = cut_at turns t (to_turns t there) in worked.numbered c.front t c.back c.cut

      -- a turn of a door's session
      by_door : {P : Type 0} (t : RunTurn) → Contains middle t → IsForeign t.op → length worked.uses ≤ t.pass → P
      by_door t there foreign high =
          let low = within t there in
          let door : ℕ = t.pass - length worked.uses in
          let pass : length worked.uses + door ≡ t.pass = omega (arith, high) in
          let its = get_at worked.door_uses door (omega (arith, high, low)) in
          let used = worked.each_door door its.0 its.1 in
          not_by_door (session_of door) used.its.before used.its.last t used.its.serves.kinds used.its.leaves
          (subst (λ (ts : List RunTurn). Contains ts t) used.own
          (by_pass (length worked.uses + door) turns t (to_turns t there) (sym pass))) foreign

      foreign_of : (t : RunTurn) → Contains middle t → IsForeign t.op → OfWorker t
      foreign_of t there foreign = by (ltb t.pass (length worked.uses)) refl
        where
          by : (low : Bool) → ltb t.pass (length worked.uses) ≡ low → OfWorker t
          by true is = by_worker t there (ltb-true t.pass (length worked.uses) is)
          by false is = by_door t there foreign (ltb-false t.pass (length worked.uses) is)

      -- ---- its doors

      many_doors : length worked.door_uses ≡ length (used_edges on olds).doors
      many_doors = sym (ap length worked.doors_used.olds_are ∙ map_length (λ (u : Use A K Transcript). u.old) worked.door_uses)

      -- each left
      door_leaves : (door : ℕ) → door < length worked.door_uses → LeavesAt (length worked.uses + door) turns
      door_leaves door low =
          let its = get_at worked.door_uses door low in
          let used = worked.each_door door its.0 its.1 in
          let there : Contains (turns_by (length worked.uses + door) turns) used.its.last =
          subst (λ (ts : List RunTurn). Contains ts used.its.last) (sym used.own)
          (Contains-append_right used.its.before (used.its.last ∷ []) used.its.last (here used.its.last [])) in record {
            turn = used.its.last;
            there = of_pass (length worked.uses + door) turns used.its.last there;
            pass_is = pass_of (length worked.uses + door) turns used.its.last there;
            leaves_is = ap is_leave used.its.leaves;
          }

      left_of : doors_left start (history_of (reverse front)) ≡ 0
      left_of =
          let all = all_leave (length worked.uses) (length worked.door_uses) turns door_leaves in
          let used = doors_are in
          let doors = many_doors in
          let cut = ap leaves turns_are in
          let newest = leaves_reversed front in
          none_stands start (reverse front) ties_front (omega (arith, all, used, doors, cut, newest))

      -- without a console no door is served
      alone_of : on ≡ false → (t : RunTurn) → Contains middle t → OfWorker t
      alone_of off t there =
          let none = none_mapped (λ (u : Use A K Transcript). u.old) worked.door_uses
          (sym (ap (λ (b : Bool). (used_edges b olds).doors) off) ∙ worked.doors_used.olds_are) in
          let low = within t there in
          let no_doors = ap length none in
          by_worker t there (omega (arith, low, no_doors))

    -- ---- nobody worked

    none_between : Nobody → (t : RunTurn) → Contains middle t → OfWorker t
    none_between nobody t there = none_there t (subst (λ (ts : List RunTurn). Contains ts t)
        (none_behind ran.begun.desk.own middle (sym nobody.none ∙ turns_are)) there)

    told_short : Nobody → (ran.begun.is_short || ran.goes_on.goes.work_short) ≡ true
    told_short nobody = ap (λ (b : Bool). ran.begun.is_short || b) ran.goes_on.goes.works.short_is
        ∙ or_middle ran.begun.is_short ran.goes_on.goes.works.work_short (is_no_memory ran.goes_on.goes.works.last.answer.said)
        nobody.short_is

    theirs : (t : RunTurn) → Contains middle t → IsForeign t.op → OfWorker t
    theirs t there foreign = ⊎_elim (λ (worked : Together). foreign_of worked t there foreign)
        (λ (nobody : Nobody). none_between nobody t there) ran.goes_on.goes.works.worked

    over_links : RanOverLinks says sinks false links words gids (length olds.doors) disk olds.links out ended news.links
        out'
    over_links = record {
      ran = framed ran;
      over = record {
        works = λ t there works. theirs t there (work_foreign t.op works);
        stops = λ t there now is. theirs t there (stop_foreign t.op now is);
        alone = λ off t there. ⊎_elim (λ (worked : Together). alone_of worked off t there)
            (λ (nobody : Nobody). none_between nobody t there) ran.goes_on.goes.works.worked;
        each = λ unshort place low. ⊎_elim
            (λ (worked : Together). worked_over worked place (let all_links = many worked in omega (arith, all_links, low)))
            (λ (nobody : Nobody). absurd (false≢true (sym unshort ∙ told_short nobody))) ran.goes_on.goes.works.worked;
        left = λ unshort. ⊎_elim (λ (worked : Together). left_of worked)
            (λ (nobody : Nobody). absurd (false≢true (sym unshort ∙ told_short nobody))) ran.goes_on.goes.works.worked;
        doorless = λ limited. absurd (false≢true limited);
      };
    }

  pub over : 1 ≤ length olds.links
      → RunsTogether says links clocks doors sinks words gids disk olds out ended news transcripts out'
      → IsRunOver says sinks false links words gids (length olds.doors) disk olds.links out ended news.links out'
  over some (inl never) = inl never.0
  over some (inr ran) = inr (over_links ran some)
