-- A run over one link is orderly, and so has few claims and events.
use Rattle.std.proofs.Common.{◌≡◌, ◌⊎◌, ℕ, Bool, true, false, cond, List, [], ◌∷◌, ◌++◌, append_assoc, Option, Some, None, refl, sym, ap, ◌∙◌, subst, inl, inr, arith}
use Rattle.std.specs.Prelude.{Ok, Result, reverse}
use Rattle.std.proofs.lemmas.List.{append-nil, reverse-append}
use Rattle.command_line.specs.declared.source.Source.{Source}
use Rattle.conn_worker.specs.Hands.{fresh, link_at}
use Rattle.conn_worker.specs.Works.{ComesOut, HasNoRoom, StopsUnlessFinished}
use Rattle.conn_worker.specs.declared.ends.Spent.{Spent}
use Rattle.conn_worker.specs.declared.ends.WorkEnd.{WorkEnd}
use Rattle.conn_worker.specs.declared.ends.WorkEnd.TheVariants as end
use Rattle.dl_disk.specs.declared.disk.Disk.{Ghosts as DiskSays}
use Rattle.dl_kinds.specs.declared.outside.Sink.{Ghosts as SinkSays}
use Rattle.dl_kinds.specs.declared.runs.Moment.{Moment}
use Rattle.engine_turns.specs.RunTurns.{MayComeAfter}
use Rattle.engine_turns.specs.Told.{AllTurns, RunTurn, history_of}
use Rattle.engine_turns.specs.declared.operations.Operation.TheVariants as operation
use Rattle.command_call.specs.Sources.{IsNamedCall}
use Rattle.link_source.specs.declared.Links.{Ghosts as LinkSays}
use Rattle.machine_core.specs.RunLegal.{DownloadsAreLegal, IsLegal, LengthsStay, download_in}
use Rattle.machine_core.specs.Starts.{Download, RunStart}
use Rattle.machine_core.specs.declared.calls.Call.{Call}
use Rattle.machine_core.specs.declared.events.Event.{Event}
use Rattle.option_set.specs.Values.{OptionValues}
use Rattle.option_set.specs.declared.setting.Assigned.{Assigned}
use Rattle.run_lifecycle.proofs.Ran as ran_facts
use Rattle.run_lifecycle.proofs.Turns.{all_reversed}
use Rattle.run_lifecycle.specs.Begins.{IsOwnCall}
use Rattle.run_lifecycle.specs.Consoles.{doors_used, is_console_on}
use Rattle.run_lifecycle.specs.Finishes.{Ran}
use Rattle.run_lifecycle.specs.Stops.{all_turns}
use Rattle.run_lifecycle.specs.declared.ended.Ended.{Ended}
use Rattle.solo_run.specs.Pieces.{RanOverOne}
use Rattle.work_bounds.specs.SavesDue.{UnsavedHaveNews}
use Rattle.worker_turns.specs.Alone.{turns_behind}
use Rattle.worker_turns.specs.Reads.{IsFirstCall}
use Rattle.worker_turns.specs.TurnBounds.{EachBehind}
use Rattle.worker_turns.proofs.Lone.{legal_behind, none_stands}
use Rattle.worker_turns.proofs.Solo.{all_behind, behind_append, first_none}
use Rattle.solo_run.proofs.FewEvents.{HistoryLaws, is_bounded}
use Rattle.solo_run.proofs.Stops.{call_alone, call_fine, named_adds, stop_fine}
use Rattle.solo_run.proofs.Steps.{Adds}
use Rattle.solo_run.proofs.Turns.{Behaves, behaves_more, behaves_on, works_behave}
use Rattle.solo_run.specs.Bounds.{IsBounded}

-- ---- turns behind others

behind_reversed : (ts earlier : List RunTurn) → turns_behind ts earlier ≡ reverse ts ++ earlier
behind_reversed [] earlier = refl
behind_reversed (t ∷ ts) earlier =
    behind_reversed ts (t ∷ earlier)
    ∙ sym (ap (λ (l : List RunTurn). l ++ earlier) (reverse-append (t ∷ []) ts)
    ∙ append_assoc (reverse ts) (t ∷ []) earlier)

pub come_of : (P : List RunTurn → RunTurn → Type 0) (ts earlier : List RunTurn)
    → AllTurns P (turns_behind ts earlier) → EachBehind P earlier ts
come_of P [] earlier all = tt
come_of P (t ∷ ts) earlier all = ((all_behind P ts (t ∷ earlier) all).0, come_of P ts (t ∷ earlier) all)

-- the turns before, those between, and the last ones
pub in_order : (own worked stop : List RunTurn) (last : RunTurn)
    → reverse ((own ++ (worked ++ stop)) ++ last ∷ [])
    ≡ last ∷ turns_behind stop (turns_behind worked (turns_behind own []))
in_order own worked stop last =
    sym (behind_reversed ((own ++ (worked ++ stop)) ++ last ∷ []) []
    ∙ append-nil (reverse ((own ++ (worked ++ stop)) ++ last ∷ [])))
    ∙ behind_append (own ++ (worked ++ stop)) (last ∷ []) []
    ∙ (λ i. last ∷ ((behind_append own (worked ++ stop) [] ∙ behind_append worked stop (turns_behind own [])) i))

-- ---- the call of the line

nothing_behaves : (start : RunStart) → Behaves start [] 0
nothing_behaves start = record { orderly = tt; checks = omega arith }

abbrev BeginsWell : RunStart → List RunTurn → Type 0
BeginsWell start earlier = Behaves start (history_of earlier) 0 × IsFirstCall earlier

one_begins : (start : RunStart) (t : RunTurn) (call : Call) → Adds call
    → t.op ≡ operation.Call 0 call (record { 0 = 0 }) → MayComeAfter start [] t → BeginsWell start (t ∷ [])
one_begins start t call adds op may = (
  behaves_on start [] t.events 0 0 (nothing_behaves start) (call_fine start t call adds (call_alone start t call op may)),
  inr (t, call, refl, op),
)

pub call_begins : (start : RunStart) (its : Source) (settings : List Assigned) (call : Option Call)
    (ts : List RunTurn) (short : Bool) → IsNamedCall its settings call → IsOwnCall call ts short
    → AllTurns (MayComeAfter start) (turns_behind ts []) → BeginsWell start (turns_behind ts [])
call_begins start its settings None ts short named own all =
    subst (λ (us : List RunTurn). BeginsWell start (turns_behind us [])) (sym own.0) (nothing_behaves start, inl refl)
call_begins start its settings (Some call) ts short named own all =
    let one = subst (λ (us : List RunTurn). AllTurns (MayComeAfter start) (turns_behind us [])) own.1 all in
    subst (λ (us : List RunTurn). BeginsWell start (turns_behind us [])) (sym own.1)
    (one_begins start own.0 call (named_adds its settings call named) own.2 one.0)

-- ---- stops

pub record StopLaws : Type 0 where
  pub own_legal : DownloadsAreLegal
  pub news : UnsavedHaveNews

module _ (laws : StopLaws) (start : RunStart) where
  stop_behaves : (earlier : List RunTurn) (t : RunTurn) (now : Moment) → t.op ≡ operation.Stop now
      → AllTurns (MayComeAfter start) (t ∷ earlier) → IsLegal start (history_of (t ∷ earlier))
      → Behaves start (history_of earlier) 1 → Behaves start (history_of (t ∷ earlier)) 1
  stop_behaves earlier t now op all legal was =
      behaves_on start (history_of earlier) t.events 1 0 was
      (stop_fine laws.own_legal laws.news start earlier t now op all.0 was.orderly legal)

  abbrev Stopped : List RunTurn → List RunTurn → Type 0
  Stopped earlier stop =
      AllTurns (MayComeAfter start) (turns_behind stop earlier) → IsLegal start (history_of (turns_behind stop earlier))
      → Behaves start (history_of earlier) 1 → Behaves start (history_of (turns_behind stop earlier)) 1

  stopped_none : (earlier stop : List RunTurn) → stop ≡ [] → Stopped earlier stop
  stopped_none earlier stop none =
      subst (λ (us : List RunTurn). Stopped earlier us) (sym none) (λ all legal was. was)

  stopped_once : (earlier stop : List RunTurn) (moment : ℕ)
      → ((t : RunTurn) × (stop ≡ t ∷ []) × (t.op ≡ operation.Stop (record { 0 = moment }))) → Stopped earlier stop
  stopped_once earlier stop moment (t, one, op) =
      subst (λ (us : List RunTurn). Stopped earlier us) (sym one)
      (λ all legal was. stop_behaves earlier t (record { 0 = moment }) op all legal was)

  stops_behave : (earlier stop : List RunTurn) (came : Result WorkEnd Spent) (moment : ℕ)
      → StopsUnlessFinished came moment stop → Stopped earlier stop
  stops_behave earlier stop (Ok end.Finished) moment is = stopped_none earlier stop is
  stops_behave earlier stop came moment is = stopped_once earlier stop moment is

-- ---- the run

pub doors_none : (on : Bool) (values : OptionValues) → is_console_on values ≡ on → doors_used values 0 ≡ 0
doors_none true values is = ap (λ (b : Bool). cond b 0 0) is
doors_none false values is = ap (λ (b : Bool). cond b 0 0) is

module _ {D O L K : Type 0} {says : DiskSays D} {sinks : SinkSays O} {links : LinkSays L} {words : List (List ℕ)}
    {gids : ℕ} {disk : D} {old : L × K} {out : O} {ended : Ended D} {new : L × K} {out' : O}
    (one : RanOverOne says sinks links words gids 0 disk old out ended new out') where
  abbrev pub its_run : Ran says sinks words gids 0 disk out ended out'
  its_run = one.over.ran

  abbrev pub its_start : RunStart
  its_start = ran_facts.start its_run

  -- before the worker's turns, behind them, and behind its stop
  abbrev pub first_turns : List RunTurn
  first_turns = turns_behind its_run.begun.desk.own []

  abbrev pub worked_turns : List RunTurn
  worked_turns = turns_behind one.its.worked first_turns

  abbrev pub stopped_turns : List RunTurn
  stopped_turns = turns_behind one.its.stop worked_turns

  abbrev pub all_told : List RunTurn
  all_told = its_run.stops.last ∷ stopped_turns

  pub told_are : reverse (all_turns says its_run.stops) ≡ all_told
  told_are =
      ap (λ (ts : List RunTurn). reverse ((its_run.begun.desk.own ++ ts) ++ its_run.stops.last ∷ [])) one.order
      ∙ in_order its_run.begun.desk.own one.its.worked one.its.stop its_run.stops.last

  ties : AllTurns (MayComeAfter its_start) all_told
  ties = subst (AllTurns (MayComeAfter its_start)) told_are
      (all_reversed (MayComeAfter its_start) (all_turns says its_run.stops) (ran_facts.may_come its_run))

  ties_stopped : AllTurns (MayComeAfter its_start) stopped_turns
  ties_stopped = all_behind (MayComeAfter its_start) (its_run.stops.last ∷ []) stopped_turns ties

  pub ties_worked : AllTurns (MayComeAfter its_start) worked_turns
  ties_worked = all_behind (MayComeAfter its_start) one.its.stop worked_turns ties_stopped

  pub ties_first : AllTurns (MayComeAfter its_start) first_turns
  ties_first = all_behind (MayComeAfter its_start) one.its.worked first_turns ties_worked

  legal : IsLegal its_start (history_of all_told)
  legal = subst (λ (told : List RunTurn). IsLegal its_start (history_of told)) told_are (ran_facts.legal_told its_run)

  legal_stopped : IsLegal its_start (history_of stopped_turns)
  legal_stopped = legal_behind its_start (its_run.stops.last ∷ []) stopped_turns legal

  legal_worked : IsLegal its_start (history_of worked_turns)
  legal_worked = legal_behind its_start one.its.stop worked_turns legal_stopped

  pub begins : BeginsWell its_start first_turns
  begins = call_begins its_start its_run.begins.line.source its_run.begins.line.settings its_run.begins.call its_run.begun.desk.own
      its_run.begun.is_short its_run.begins.named its_run.begins.own ties_first

  module _ (stay : LengthsStay) (stops : StopLaws) where
    work_behaves : ComesOut links.tells 0 one.its.worked (fresh (link_at links old.0)) one.its.b one.came
        ⊎ HasNoRoom one.its.worked (fresh (link_at links old.0)) one.its.b one.came
        → Behaves its_start (history_of worked_turns) 1
    work_behaves (inl comes) =
        works_behave stay its_start 0 links.tells one.its.worked first_turns (fresh (link_at links old.0)) one.its.b
        comes.end (come_of (MayComeAfter its_start) one.its.worked first_turns ties_worked) comes.works legal_worked refl
        (none_stands its_start (history_of first_turns) (first_none its_start first_turns ties_first begins.1)) begins.0
    work_behaves (inr none) =
        subst (λ (ts : List RunTurn). Behaves its_start (history_of (turns_behind ts first_turns)) 1) (sym none.none)
        (behaves_more its_start (history_of first_turns) 0 1 (omega arith) begins.0)

    pub worked_behaves : Behaves its_start (history_of worked_turns) 1
    worked_behaves = work_behaves one.its.comes_out

    pub all_behave : Behaves its_start (history_of all_told) 1
    all_behave =
        stop_behaves stops its_start stopped_turns its_run.stops.last (record { 0 = 0 }) its_run.stops.op ties legal
        (stops_behave stops its_start worked_turns one.its.stop one.came one.its.b.moment one.its.stops ties_stopped
        legal_stopped worked_behaves)

    pub behaves : Behaves its_start (reverse ended.journal.events.items) 1
    behaves = subst (λ (past : List Event). Behaves its_start past 1)
        (ap history_of (sym told_are) ∙ sym (ran_facts.history_is its_run)) all_behave

    pub run_is_bounded : HistoryLaws → (download : Download)
        → download_in its_start (reverse ended.journal.events.items) download.gid ≡ Some download
        → IsBounded its_start (reverse ended.journal.events.items) download
    run_is_bounded laws download added =
        is_bounded laws its_start (doors_none (is_console_on its_run.begins.line.globals) its_run.begins.line.globals refl)
        (reverse ended.journal.events.items) download (ran_facts.legal its_run) behaves.orderly behaves.checks added
