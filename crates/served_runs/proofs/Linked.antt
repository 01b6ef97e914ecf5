-- What the history of a run over links tells of them came over the link of the claim's worker.
use Rattle.std.proofs.Common.{inl, inr, ℕ, Bool, List}
use Rattle.std.specs.Prelude.{Contains}
use Rattle.conn_worker.specs.Brought.{EndsClaim}
use Rattle.dl_disk.specs.declared.disk.Disk.{Ghosts as DiskSays}
use Rattle.dl_kinds.specs.declared.gid.Gid.{Gid}
use Rattle.dl_kinds.specs.declared.marks.Mark.{Mark}
use Rattle.dl_kinds.specs.declared.outside.Sink.{Ghosts as SinkSays}
use Rattle.engine_turns.specs.declared.operations.Operation.{Operation}
use Rattle.engine_turns.specs.declared.operations.Operation.TheVariants as operation
use Rattle.link_source.specs.declared.Links.{Ghosts as LinkSays}
use Rattle.machine_core.specs.declared.events.Event.{Event}
use Rattle.machine_core.specs.declared.events.Event.TheVariants.{Lost, Sized}
use Rattle.run_lifecycle.specs.Begins.{start_of_line}
use Rattle.run_lifecycle.specs.LinkCauses.{ComesOfClaimEnd}
use Rattle.run_lifecycle.specs.LinkLaws.{LengthsComeOfWorkers, LossesComeOfWorkers, WorkersShowLengths, WorkersShowLosses}
use Rattle.run_lifecycle.specs.declared.ended.Ended.{Ended}
use Rattle.served_runs.specs.LinksCauses.{LostAtPlace, ShowsLinks, SizedAtPlace}
use Rattle.served_runs.specs.Over.{IsOfWorker, IsRunOver, IsWork, RanOverLinks}
use Rattle.served_runs.proofs.Workers.{among_all, its_work}

ends_work : (op : Operation) → EndsClaim op → IsWork op
ends_work (operation.Lose claim mark now) ends = tt
ends_work (operation.Sized claim total now) ends = tt
ends_work other ends = absurd ends

module _ {D O L K : Type 0} {says : DiskSays D} {sinks : SinkSays O} {limited : Bool} {links : LinkSays L}
    {words : List (List ℕ)} {gids doors : ℕ} {disk : D} {olds : List (L × K)} {out : O} {ended : Ended D}
    {news : List (L × K)} {out' : O} where
  module _ (it : RanOverLinks says sinks limited links words gids doors disk olds out ended news out') where
    by_worker : (e : Event) (came : ComesOfClaimEnd it.ran.stops.middle e) → IsOfWorker limited links it.ran olds news came.turn
    by_worker e came = it.over.works came.turn came.among (ends_work came.turn.op came.ends)

    lost_at : LossesComeOfWorkers says sinks → WorkersShowLosses says sinks links
        → (gid : Gid) (id mirror piece : ℕ) (mark : Mark)
        → Contains ended.journal.events.items (Lost gid id mirror piece mark)
        → LostAtPlace links (start_of_line gids doors it.ran.begins.line.globals) ended.journal.events.items olds news gid id
        mirror mark
    lost_at losses lost gid id mirror piece mark there =
        let came = losses words gids doors disk out ended out' it.ran gid id mirror piece mark there in
        let by = by_worker (Lost gid id mirror piece mark) came in record {
          place = by.place;
          old = by.at.old;
          new = by.at.new;
          old_is = by.at.old_is;
          new_is = by.at.new_is;
          told = lost words gids doors disk out ended out' it.ran by.place by.at.old.0 by.at.new.0
              (among_all limited links it.ran olds news by.place by.at) came.turn gid id mirror piece mark
              (its_work limited links it.ran olds news came.turn by (ends_work came.turn.op came.ends)) came.there;
        }

    sized_at : LengthsComeOfWorkers says sinks → WorkersShowLengths says sinks links
        → (gid : Gid) (id total : ℕ) → Contains ended.journal.events.items (Sized gid id total)
        → SizedAtPlace links (start_of_line gids doors it.ran.begins.line.globals) ended.journal.events.items olds news gid id
        total
    sized_at lengths sized gid id total there =
        let came = lengths words gids doors disk out ended out' it.ran gid id total there in
        let by = by_worker (Sized gid id total) came in record {
          place = by.place;
          old = by.at.old;
          new = by.at.new;
          old_is = by.at.old_is;
          new_is = by.at.new_is;
          told = sized words gids doors disk out ended out' it.ran by.place by.at.old.0 by.at.new.0
              (among_all limited links it.ran olds news by.place by.at) came.turn gid id total
              (its_work limited links it.ran olds news came.turn by (ends_work came.turn.op came.ends)) came.there;
        }

  pub shows_links : LossesComeOfWorkers says sinks → LengthsComeOfWorkers says sinks
      → WorkersShowLosses says sinks links → WorkersShowLengths says sinks links
      → IsRunOver says sinks limited links words gids doors disk olds out ended news out'
      → ShowsLinks links words gids doors ended.journal.events.items olds news
  shows_links losses lengths lost sized (inl never) = inl never.journal
  shows_links losses lengths lost sized (inr it) = inr (record {
    line = it.ran.begins.line;
    means = it.ran.begins.means;
    lost = lost_at it losses lost;
    sized = sized_at it lengths sized;
  })
