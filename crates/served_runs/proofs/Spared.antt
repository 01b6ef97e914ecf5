-- Mirrors that serve a payload over the links of a run bring it, and are held to account for nothing else than faults of links.
use Rattle.std.proofs.Common.{◌≡◌, ◌⊎◌, inl, inr, ⊎_elim, ℕ, Bool, true, false, List, Ok, ap, ◌∙◌, subst}
use Rattle.std.specs.Prelude.{◌<◌, ◌≢◌, ◌||◌, Contains, IsTrue, reverse}
use Rattle.blameless_mirrors.specs.Blameless.{WrongFindingsArentTheirs}
use Rattle.served_runs.specs.Ends.{RunsAreTold}
use Rattle.served_runs.proofs.Endings.{in_reverse}
use Rattle.conn_worker.specs.declared.ends.WorkEnd.TheVariants as end
use Rattle.dl_disk.specs.declared.disk.Disk.{Ghosts as DiskSays}
use Rattle.dl_kinds.specs.declared.gid.Gid.{Gid}
use Rattle.dl_kinds.specs.declared.marks.Mark.{Mark}
use Rattle.dl_kinds.specs.declared.outside.Sink.{Ghosts as SinkSays}
use Rattle.engine_turns.specs.Told.{RunTurn, history_of}
use Rattle.engine_turns.specs.declared.operations.Operation.{Operation}
use Rattle.engine_turns.specs.declared.operations.Operation.TheVariants as operation
use Rattle.link_source.specs.declared.Links.{Ghosts as LinkSays}
use Rattle.machine_core.specs.RunLegal.{download_in, is_listed}
use Rattle.machine_core.specs.Starts.{Listed, RunStart, Subject, Unlisted}
use Rattle.machine_core.specs.declared.events.Event.{Event}
use Rattle.machine_core.specs.declared.events.Event.TheVariants.{Lost, Settled}
use Rattle.mirror_payloads.specs.Faithful.{IsFaithful, IsFaithfulTurn}
use Rattle.option_set.specs.Values.{OptionValues}
use Rattle.piece_table.specs.declared.giver.Giver.TheVariants.{One}
use Rattle.run_lifecycle.proofs.Ran as ran_facts
use Rattle.run_lifecycle.proofs.Turns.{all_at, reversed_cut}
use Rattle.run_lifecycle.specs.Stops.{all_turns, ends_short}
use Rattle.run_lifecycle.specs.declared.ended.Ended.{Ended}
use Rattle.run_report.specs.declared.endings.RunEnding.TheVariants.{NoMemory}
use Rattle.served_runs.specs.ServingLaws.{IsToldRight, UsesClaim}
use Rattle.served_runs.specs.ServedRuns.{ComesOfLink, RunsAreFaithful}
use Rattle.served_runs.specs.Over.{IsOfWorker, IsRunOver, IsWork, RanOverLinks}
use Rattle.served_runs.specs.Served.{AllServe, AllUseNone, IsServed, SparesServing}
use Rattle.served_runs.proofs.Fed.{fed}
use Rattle.served_runs.proofs.Workers.{among_all, ends_so, its_work}

pub uses_work : (op : Operation) → UsesClaim op → IsWork op
uses_work (operation.Deliver claim run bytes now) uses = tt
uses_work (operation.Lose claim mark now) uses = tt
uses_work other uses = absurd uses

-- no length of a download of a metainfo file is told
told_right : (start : RunStart) (past : List Event) (gid : Gid) (payload : List ℕ) (subject : Subject)
    → is_listed subject ≡ true → IsToldRight start past gid payload subject
told_right start past gid payload (Listed meta uris) is = tt
told_right start past gid payload (Unlisted uris) is = absurd cc

module _ {D O L K : Type 0} {says : DiskSays D} {sinks : SinkSays O} {limited : Bool} {links : LinkSays L}
    {words : List (List ℕ)} {gids doors : ℕ} {disk : D} {olds : List (L × K)} {out : O} {ended : Ended D}
    {news : List (L × K)} {out' : O} where
  module _ (it : RanOverLinks says sinks limited links words gids doors disk olds out ended news out') where
    abbrev turns : List RunTurn
    turns = all_turns says it.ran.stops

    abbrev start : RunStart
    start = ran_facts.start it.ran

    -- a worker for which memory was wanting makes the run end so
    sufficed : ended.ending ≢ NoMemory → (t : RunTurn) (by : IsOfWorker limited links it.ran olds news t)
        → by.at.own.came ≢ Ok end.NoMemory
    sufficed well t by is = well (ends_so sinks it.ran.engine out out' ended.ending (it.ran.begun.is_short || it.ran.short)
        (by.at.short (ap ends_short is)) it.ran.finishes.ends)

    pub of_link : (subject : Subject) (options : OptionValues) (mirror : ℕ) (payload : List ℕ)
        → (AllServe links olds subject options mirror payload
        ⊎ (AllUseNone links olds news subject options mirror payload × (ended.ending ≢ NoMemory)))
        → (t : RunTurn) → Contains it.ran.stops.middle t → IsWork t.op
        → ComesOfLink D links turns subject options mirror payload t
    of_link subject options mirror payload serve t there works =
        let by = it.over.works t there works in record {
          worker = by.place;
          old = by.at.old.0;
          new = by.at.new.0;
          own = among_all limited links it.ran olds news by.place by.at;
          there = its_work limited links it.ran olds news t by works;
          serves = ⊎_elim (λ (all : AllServe links olds subject options mirror payload). inl (all by.place by.at.old by.at.old_is))
              (λ (none : AllUseNone links olds news subject options mirror payload × (ended.ending ≢ NoMemory)).
              inr (none.0 by.place by.at.old by.at.new by.at.old_is by.at.new_is, sufficed none.1 t by)) serve;
        }

    -- what the run brings from the mirror is right
    pub brings : RunsAreFaithful says sinks links → IsTrue links.tells → (gid : Gid) (mirror : ℕ) (payload : List ℕ)
        → IsServed links olds news ended.ending start (history_of (reverse turns)) gid mirror payload
        → IsFaithful start gid mirror payload (reverse turns)
    brings faithful tells gid mirror payload is =
        faithful words gids doors disk out ended out' it.ran gid is.download mirror payload tells
        (ap (λ (past : List Event). download_in start past gid) (ran_facts.history_is it.ran) ∙ is.added)
        (told_right start (reverse ended.journal.events.items) gid payload is.download.subject is.listed)
        (λ t there uses. of_link is.download.subject is.download.options mirror payload is.serve t there (uses_work t.op uses))

    lost : (gid : Gid) (mirror : ℕ) (payload : List ℕ) → IsFaithful start gid mirror payload (reverse turns)
        → (id piece : ℕ) (mark : Mark) → Contains ended.journal.events.items (Lost gid id mirror piece mark)
        → 0 < mark.count
    lost gid mirror payload faithful id piece mark there =
        let came = ran_facts.event_brought it.ran (Lost gid id mirror piece mark) there in
        let right : IsFaithfulTurn start gid mirror payload (reverse came.earlier) came.turn =
        all_at (IsFaithfulTurn start gid mirror payload) (reverse came.later) came.turn (reverse came.earlier)
        (subst (λ (ts : List RunTurn). IsFaithful start gid mirror payload ts)
        (ap reverse came.cut ∙ reversed_cut came.earlier came.turn came.later) faithful) in
        right.lost id piece mark came.there

    in_past : (e : Event) → Contains ended.journal.events.items e → Contains (history_of (reverse turns)) e
    in_past e there = subst (λ (es : List Event). Contains es e) (ran_facts.history_is it.ran)
        (in_reverse ended.journal.events.items e there)

  pub spares_serving : RunsAreFaithful says sinks links → RunsAreTold says sinks → WrongFindingsArentTheirs says.state
      → IsRunOver says sinks limited links words gids doors disk olds out ended news out' → IsTrue links.tells
      → SparesServing says links words gids doors olds news ended
  spares_serving faithful told findings (inl never) tells = inl never.journal
  spares_serving faithful told findings (inr it) tells = inr (record {
    line = it.ran.begins.line;
    means = it.ran.begins.means;
    told = reverse (turns it);
    turns = ran_facts.are_turns it.ran (fed it);
    lost = λ gid mirror payload is. lost it gid mirror payload (brings it faithful tells gid mirror payload is);
    settled = λ disk_tells gid mirror payload meta want alone of is piece there.
        findings (start it) (reverse (turns it)) ended.disk gid mirror meta want payload
        (record {
          run = told words gids doors disk out ended out' it.ran disk_tells;
          listed = alone;
          faithful = brings it faithful tells gid mirror payload is;
        }) of piece (in_past it (Settled gid piece false (One mirror)) there);
  })
