-- Whole runs over links whose mirrors serve.
use Rattle.std.proofs.Common.{◌≡◌, ◌⊎◌, ◌∷◌, ◌++◌, ⊎_elim, inl, inr, ℕ, Bool, List, [], Option, None, Some, Ok, Err, refl, sym, ap, subst, ◌∙◌, arith}
use Rattle.std.specs.Prelude.{Contains, Result, reverse}
use Rattle.std.proofs.lemmas.Option.{none-some}
use Rattle.std.proofs.lemmas.List.{reverse-reverse}
use Rattle.std.proofs.lemmas.List.Elements.{Contains-append_cases, Contains-append_right, Contains-push_cases}
use Rattle.conn_worker.specs.Hands.{fresh, link_at}
use Rattle.conn_worker.specs.Works.{ComesOut, HasNoRoom, IsOutcomeOf, RunSight, Worked, Works}
use Rattle.conn_worker.specs.declared.ends.Spent.{Spent}
use Rattle.conn_worker.specs.declared.ends.WorkEnd.{WorkEnd}
use Rattle.conn_worker.specs.declared.ends.WorkEnd.TheVariants.{NoMemory}
use Rattle.dl_disk.specs.declared.disk.Disk.{Ghosts as DiskSays}
use Rattle.dl_kinds.specs.declared.outside.Sink.{Ghosts as SinkSays}
use Rattle.dl_kinds.specs.declared.runs.Moment.{Moment}
use Rattle.engine_turns.specs.RunTurns.{MayComeAfter}
use Rattle.engine_turns.specs.Told.{AllTurns, RunTurn}
use Rattle.engine_turns.specs.declared.operations.Operation.{Operation}
use Rattle.engine_turns.specs.declared.operations.Operation.TheVariants as operation
use Rattle.link_source.specs.declared.Links.{Ghosts as LinkSays}
use Rattle.machine_core.specs.Starts.{RunStart, Subject}
use Rattle.machine_core.specs.RunLegal.{download_in}
use Rattle.machine_core.specs.declared.calls.Call.{Call}
use Rattle.machine_core.specs.declared.events.Event.{Event}
use Rattle.machine_core.specs.declared.events.Event.TheVariants.{Claimed}
use Rattle.option_set.specs.Values.{OptionValues}
use Rattle.run_lifecycle.specs.Begins.{IsOwnCall}
use Rattle.run_lifecycle.specs.Finishes.{Ran}
use Rattle.run_lifecycle.specs.declared.ended.Ended.{Ended}
use Rattle.run_lifecycle.proofs.Ran as ran_facts
use Rattle.run_lifecycle.proofs.Turns.{cut_at, none_there, reversed_cut}
use Rattle.served_runs.specs.Answering.{WorksOver}
use Rattle.served_runs.specs.ServingLaws.{ComesOfServing, IsToldRight, ServedClaimsAreFaithful, ServedLengthsAreRight, TellsSize, UsesClaim}
use Rattle.served_runs.specs.ServedRuns.{ComesOfLink, RunsAreFaithful, RunsTellRight}
use Rattle.served_runs.proofs.Faithful.{all_at_places}

-- ---- lists of turns

pub turned_there : (turns : List RunTurn) (t : RunTurn) → Contains turns t → Contains (reverse turns) t
turned_there turns t there =
    let c = cut_at turns t there in
    subst (λ (l : List RunTurn). Contains l t) (sym (ap reverse c.cut ∙ reversed_cut c.front t c.back))
    (Contains-append_right (reverse c.back) (t ∷ reverse c.front) t (0, omega arith, refl))

-- each turn came as the turns before it say, with the newest first
pub ties_turned : (start : RunStart) (turns : List RunTurn)
    → ((earlier : List RunTurn) (t : RunTurn) (later : List RunTurn) → turns ≡ earlier ++ t ∷ later
    → MayComeAfter start (reverse earlier) t) → AllTurns (MayComeAfter start) (reverse turns)
ties_turned start turns may = all_at_places (MayComeAfter start) (reverse turns) (λ newer t before cut.
    let turned : turns ≡ reverse before ++ t ∷ reverse newer =
    sym (reverse-reverse turns) ∙ (ap reverse cut ∙ reversed_cut newer t before) in
    subst (λ (l : List RunTurn). MayComeAfter start l t) (reverse-reverse before) (may (reverse before) t (reverse newer) turned))

-- ---- a worker

over_of : {D L : Type 0} (links : LinkSays L) (worker : ℕ) (s : RunSight D) (link : L) (s' : RunSight D) (link' : L)
    (result : Result WorkEnd Spent) (its : Worked links worker s link s' link' result)
    → ComesOut links.tells worker its.worked (fresh (link_at links link)) its.b result
    ⊎ HasNoRoom its.worked (fresh (link_at links link)) its.b result
    → WorksOver links.tells worker its.worked (link_at links link) (link_at links link')
over_of {D} {L} links worker s link s' link' result its (inl out_of) =
    record { b = its.b; end = out_of.end; works = out_of.works; link_is = its.link_is }
over_of {D} {L} links worker s link s' link' result its (inr none) = record {
  b = its.b;
  end = None;
  works = subst (λ (ts : List RunTurn). Works links.tells worker ts (fresh (link_at links link)) its.b None)
      (sym none.none) (none.same, refl);
  link_is = its.link_is;
}

-- what it took of the table's turns it took over its link
pub works_over : {D L : Type 0} (links : LinkSays L) (worker : ℕ) (s : RunSight D) (link : L) (s' : RunSight D) (link' : L)
    (result : Result WorkEnd Spent) (its : Worked links worker s link s' link' result)
    → WorksOver links.tells worker its.worked (link_at links link) (link_at links link')
works_over {D} {L} links worker s link s' link' result its = over_of links worker s link s' link' result its its.comes_out

-- it ended for want of memory as it says
came_so : (end : Option WorkEnd) (result : Result WorkEnd Spent) (how : WorkEnd) → IsOutcomeOf end result
    → end ≡ Some how → result ≡ Ok how
came_so end (Ok by) how is ended = (let same : Some by ≡ Some how = sym is ∙ ended in let one : by ≡ how = cc in ap Ok one)
came_so end (Err spent) how is ended = absurd (none-some how (sym is ∙ ended))

pub ended_so : {D L : Type 0} (links : LinkSays L) (worker : ℕ) (s : RunSight D) (link : L) (s' : RunSight D) (link' : L)
    (result : Result WorkEnd Spent) (its : Worked links worker s link s' link' result)
    → (works_over links worker s link s' link' result its).end ≡ Some NoMemory → result ≡ Ok NoMemory
unfolding works_over over_of
ended_so {D} {L} links worker s link s' link' result its = by its.comes_out
  where
    by : (comes : ComesOut links.tells worker its.worked (fresh (link_at links link)) its.b result
        ⊎ HasNoRoom its.worked (fresh (link_at links link)) its.b result)
        → (over_of links worker s link s' link' result its comes).end ≡ Some NoMemory → result ≡ Ok NoMemory
    by (inl out_of) ended = came_so out_of.end result NoMemory out_of.is ended
    by (inr none) ended = none.result_is

-- ---- which turns are no worker's

-- neither a call nor a stop does so
record IsOfWorkers (Does : Operation → Type 0) : Type 0 where
  no_call : (session : ℕ) (call : Call) (now : Moment) → Does (operation.Call session call now) → ⊥
  no_stop : (now : Moment) → Does (operation.Stop now) → ⊥

module _ (Does : Operation → Type 0) (theirs : IsOfWorkers Does) where
  not_by_call : {P : Type 0} (call : Option Call) (turns : List RunTurn) (short : Bool) (t : RunTurn)
      → IsOwnCall call turns short → Contains turns t → Does t.op → P
  not_by_call None turns short t is there does =
      none_there t (subst (λ (ts : List RunTurn). Contains ts t) is.0 there)
  not_by_call (Some call) turns short t is there does =
      ⊎_elim (λ (none : Contains [] t). none_there t none)
      (λ (same : is.0 ≡ t). absurd (theirs.no_call 0 call (record { 0 = 0 })
      (subst Does (ap (λ (u : RunTurn). u.op) (sym same) ∙ is.2) does)))
      (Contains-push_cases [] is.0 t (subst (λ (ts : List RunTurn). Contains ts t) is.1 there))

  not_by_stop : {P : Type 0} (u t : RunTurn) (now : Moment) → u.op ≡ operation.Stop now → Contains (u ∷ []) t → Does t.op → P
  not_by_stop u t now stops there does =
      ⊎_elim (λ (none : Contains [] t). none_there t none)
      (λ (same : u ≡ t). absurd (theirs.no_stop now (subst Does (ap (λ (v : RunTurn). v.op) (sym same) ∙ stops) does)))
      (Contains-push_cases [] u t there)

  -- a turn that does so is neither the line's own call nor the last stop
  in_middle : {D O : Type 0} (says : DiskSays D) (sinks : SinkSays O) (words : List (List ℕ)) (gids doors : ℕ) (disk : D) (out : O)
      (ended : Ended D) (out' : O) (ran : Ran says sinks words gids doors disk out ended out') (t : RunTurn)
      → Contains (ran_facts.turns ran) t → Does t.op → Contains ran.stops.middle t
  in_middle says sinks words gids doors disk out ended out' ran t there does =
      let own = ran_facts.own_call ran in
      let last = ran_facts.last_turn ran in
      ⊎_elim (λ (front : Contains (own ++ ran.stops.middle) t). ⊎_elim
      (λ (called : Contains own t). not_by_call ran.begins.call own ran.begun.is_short t ran.begins.own called does)
      (λ (its : Contains ran.stops.middle t). its) (Contains-append_cases own ran.stops.middle t front))
      (λ (its : Contains (last ∷ []) t). not_by_stop last t (record { 0 = 0 }) ran.stops.op its does)
      (Contains-append_cases (own ++ ran.stops.middle) (last ∷ []) t there)

claims_theirs : IsOfWorkers UsesClaim
claims_theirs = record { no_call = λ session call now uses. uses; no_stop = λ now uses. uses }

sizes_theirs : IsOfWorkers TellsSize
sizes_theirs = record { no_call = λ session call now tells. tells; no_stop = λ now tells. tells }

module _ {D O L : Type 0} (says : DiskSays D) (sinks : SinkSays O) (links : LinkSays L) where
  comes_of : (turns : List RunTurn) (subject : Subject) (options : OptionValues) (mirror : ℕ) (payload : List ℕ) (t : RunTurn)
      → ComesOfLink D links turns subject options mirror payload t
      → ComesOfServing links.tells (reverse turns) subject options mirror payload t
  comes_of turns subject options mirror payload t of = record {
    worker = of.worker;
    worked = of.own.its.worked;
    old = link_at links of.old;
    new = link_at links of.new;
    works = works_over links of.worker of.own.from of.old of.own.to of.new of.own.came of.own.its;
    among = λ u its. turned_there turns u (of.own.among u its);
    there = of.there;
    serves = ⊎_elim (λ rightly. inl rightly)
        (λ unused. inr (
          unused.0,
          λ ended. unused.1 (ended_so links of.worker of.own.from of.old of.own.to of.new of.own.came
              of.own.its ended),
        )) of.serves;
  }

  pub runs_are_faithful : ServedClaimsAreFaithful → RunsAreFaithful says sinks links
  runs_are_faithful faithful words gids doors disk out ended out' ran gid download mirror payload tells added right comes =
      let start = ran_facts.start ran in
      let turns = ran_facts.turns ran in
      faithful links.tells start (reverse turns) gid download mirror payload tells (ran_facts.legal_told ran)
      (ties_turned start turns (ran_facts.may_come ran))
      (subst (λ (past : List Event). download_in start past gid ≡ Some download) (ran_facts.history_is ran) added)
      (subst (λ (past : List Event). IsToldRight start past gid payload download.subject) (ran_facts.history_is ran) right)
      (λ t there uses. comes_of turns download.subject download.options mirror payload t
      (comes t (in_middle UsesClaim claims_theirs says sinks words gids doors disk out ended out' ran t
      (subst (λ (l : List RunTurn). Contains l t) (reverse-reverse turns) (turned_there (reverse turns) t there)) uses) uses))

  pub runs_tell_right : ServedLengthsAreRight → RunsTellRight says sinks links
  runs_tell_right right words gids doors disk out ended out' ran gid download payload tells added comes =
      let start = ran_facts.start ran in
      let turns = ran_facts.turns ran in
      subst (λ (past : List Event). IsToldRight start past gid payload download.subject) (sym (ran_facts.history_is ran))
      (right links.tells start (reverse turns) gid download payload tells (ran_facts.legal_told ran)
      (ties_turned start turns (ran_facts.may_come ran))
      (subst (λ (past : List Event). download_in start past gid ≡ Some download) (ran_facts.history_is ran) added)
      (λ t claim there told claimed. comes_of turns download.subject download.options claim.mirror payload t
      (comes t claim (in_middle TellsSize sizes_theirs says sinks words gids doors disk out ended out' ran t
      (subst (λ (l : List RunTurn). Contains l t) (reverse-reverse turns) (turned_there (reverse turns) t there)) told) told
      (subst (λ (past : List Event). Contains past (Claimed gid claim)) (sym (ran_facts.history_is ran)) claimed))))
