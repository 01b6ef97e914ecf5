-- The turns of a run over one link: the line's own call, those of the worker in order, and stops.
use Rattle.std.proofs.Common.{◌≡◌, ⊎_elim, ℕ, List, [], ◌∷◌, ◌++◌, append_assoc, Option, Some, sym, ap, ◌∙◌, subst}
use Rattle.std.specs.Prelude.{Contains, reverse}
use Rattle.std.proofs.lemmas.List.{reverse-append, reverse-reverse}
use Rattle.served_runs.proofs.Endings.{in_reverse}
use Rattle.served_runs.proofs.TurnLists.{first_or_later, none_there}
use Rattle.served_runs.proofs.Workers.{is_stopping}
use Rattle.conn_worker.specs.Hands.{link_at}
use Rattle.dl_disk.specs.declared.disk.Disk.{Ghosts as DiskSays}
use Rattle.dl_kinds.specs.declared.outside.Sink.{Ghosts as SinkSays}
use Rattle.engine_turns.specs.Told.{RunTurn}
use Rattle.link_source.specs.declared.Links.{Ghosts as LinkSays}
use Rattle.machine_core.specs.declared.calls.Call.{Call}
use Rattle.mark_costs.specs.Served.{IsWorkOfOne}
use Rattle.run_lifecycle.specs.Begins.{IsOwnCall}
use Rattle.run_lifecycle.specs.Finishes.{Ran}
use Rattle.run_lifecycle.specs.Stops.{all_turns}
use Rattle.run_lifecycle.specs.declared.ended.Ended.{Ended}
use Rattle.served_runs.specs.ServingLaws.{UsesClaim}
use Rattle.served_runs.proofs.ServedRuns.{works_over}
use Rattle.solo_run.specs.Pieces.{RanOverOne}

-- the newest turn first
turned : (own worked stop : List RunTurn) (last : RunTurn)
    → reverse ((own ++ (worked ++ stop)) ++ last ∷ []) ≡ (last ∷ reverse stop) ++ (reverse worked ++ reverse own)
turned own worked stop last =
    reverse-append (own ++ (worked ++ stop)) (last ∷ [])
    ∙ (λ i. last ∷ ((reverse-append own (worked ++ stop)
    ∙ (ap (λ (ts : List RunTurn). ts ++ reverse own) (reverse-append worked stop)
    ∙ append_assoc (reverse stop) (reverse worked) (reverse own))) i))

from_reverse : (ts : List RunTurn) (t : RunTurn) → Contains (reverse ts) t → Contains ts t
from_reverse ts t there =
    subst (λ (l : List RunTurn). Contains l t) (reverse-reverse ts) (in_reverse (reverse ts) t there)

module _ {D O L K : Type 0} {says : DiskSays D} {sinks : SinkSays O} {links : LinkSays L} {words : List (List ℕ)}
    {gids doors : ℕ} {disk : D} {old : L × K} {out : O} {ended : Ended D} {new : L × K} {out' : O}
    (one : RanOverOne says sinks links words gids doors disk old out ended new out') (its : Call)
    (asked : one.over.ran.begins.call ≡ Some its) where
  abbrev ran : Ran says sinks words gids doors disk out ended out'
  ran = one.over.ran

  own : IsOwnCall (Some its) ran.begun.desk.own ran.begun.is_short
  own = subst (λ (c : Option Call). IsOwnCall c ran.begun.desk.own ran.begun.is_short) asked ran.begins.own

  order : reverse (all_turns says ran.stops)
      ≡ (ran.stops.last ∷ reverse one.its.stop) ++ (reverse one.its.worked ++ reverse ran.begun.desk.own)
  order =
      ap (λ (ts : List RunTurn). reverse ((ran.begun.desk.own ++ ts) ++ ran.stops.last ∷ [])) one.order
      ∙ turned ran.begun.desk.own one.its.worked one.its.stop ran.stops.last

  before : (t : RunTurn) → Contains (reverse ran.begun.desk.own) t → ¬ UsesClaim t.op
  before t there uses = ⊎_elim
      (λ (same : own.0 ≡ t). subst UsesClaim (ap (λ (u : RunTurn). u.op) (sym same) ∙ own.2) uses)
      (λ (none : Contains [] t). none_there t none)
      (first_or_later own.0 [] t (subst (λ (ts : List RunTurn). Contains ts t) own.1
      (from_reverse ran.begun.desk.own t there)))

  behind : (t : RunTurn) → Contains (ran.stops.last ∷ reverse one.its.stop) t → ¬ UsesClaim t.op
  behind t there uses = ⊎_elim
      (λ (same : ran.stops.last ≡ t). subst UsesClaim (ap (λ (u : RunTurn). u.op) (sym same) ∙ ran.stops.op) uses)
      (λ (stopped : Contains (reverse one.its.stop) t).
      subst UsesClaim (is_stopping one.came one.its.b.moment one.its.stop t one.its.stops
      (from_reverse one.its.stop t stopped)) uses)
      (first_or_later ran.stops.last (reverse one.its.stop) t there)

  pub worked_over : IsWorkOfOne links.tells (reverse (all_turns says ran.stops)) (link_at links old.0)
  worked_over = record {
    worker = 0;
    first = reverse ran.begun.desk.own;
    worked = one.its.worked;
    last = ran.stops.last ∷ reverse one.its.stop;
    new = link_at links new.0;
    order = order;
    works = works_over links 0 one.from old.0 one.to new.0 one.came one.its;
    before = before;
    behind = behind;
  }
