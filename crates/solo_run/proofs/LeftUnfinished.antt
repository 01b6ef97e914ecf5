-- A run over one link without a console is left unfinished only where its worker was cut short.
use Rattle.std.proofs.Common.{◌≡◌, ◌⊎◌, inl, inr, ℕ, List, [], ◌++◌, Option, Some, None, Bool, true, false, refl, sym, ap, ◌∙◌, subst}
use Rattle.std.specs.Prelude.{◌||◌, Contains, Err, Ok, box_value}
use Rattle.std.proofs.lemmas.List.{append-nil}
use Rattle.served_runs.proofs.FirstAdded.{AddsFirst}
use Rattle.served_runs.proofs.LineOptions.{LineUsual}
use Rattle.served_runs.proofs.OneAdded.{finished_once}
use Rattle.served_runs.proofs.Unfinished.{unshort}
use Rattle.served_runs.proofs.WorkEnds.{came_finished, worked_work}
use Rattle.served_runs.proofs.Workers.{came_so, unless_true}
use Rattle.served_runs.specs.Ends.{FinishedAreDone, IsFinishedOnce}
use Rattle.command_line.specs.Lines.{has_console}
use Rattle.command_line.specs.Sources.{IsSource}
use Rattle.command_line.specs.declared.source.Source.{Source}
use Rattle.command_line.specs.declared.source.Source.TheVariants as source
use Rattle.conn_worker.specs.declared.ends.Spent.{Spent}
use Rattle.conn_worker.specs.declared.ends.WorkEnd.TheVariants as end
use Rattle.dl_disk.specs.declared.disk.Disk.{Ghosts as DiskSays}
use Rattle.dl_kinds.specs.declared.outside.Sink.{Ghosts as SinkSays}
use Rattle.engine_turns.specs.Told.{RunTurn}
use Rattle.engine_turns.specs.TurnLaws.{TurnsAppend}
use Rattle.command_call.specs.Sources.{IsNamedCall}
use Rattle.link_source.specs.declared.Links.{Ghosts as LinkSays}
use Rattle.machine_core.specs.RunLegal.{DownloadsStay}
use Rattle.machine_core.specs.Starts.{Listed, Subject, Unlisted}
use Rattle.machine_core.specs.declared.calls.Call.{Call}
use Rattle.machine_core.specs.declared.calls.Call.TheVariants as call
use Rattle.option_set.specs.declared.setting.Assigned.{Assigned}
use Rattle.run_lifecycle.specs.Finishes.{Ran}
use Rattle.run_lifecycle.specs.Stops.{ends_short}
use Rattle.run_lifecycle.specs.declared.ended.Ended.{Ended}
use Rattle.run_report.specs.declared.endings.RunEnding.TheVariants.{Unfinished}
use Rattle.solo_run.specs.Pieces.{RanOverOne}

-- ---- the call of the line

-- it adds a download, with the settings of the line
pub record AddsOne (asked : Option Call) (settings : List Assigned) : Type 0 where
  pub its : Call
  pub is : asked ≡ Some its
  pub subject : Subject
  pub adds : AddsFirst its subject settings

adds_torrent : (uris : List (List ℕ)) (settings : List Assigned) (asked : Call)
    → IsNamedCall (source.Metainfo [] uris) settings (Some asked) → AddsOne (Some asked) settings
adds_torrent uris settings (call.AddTorrent meta its_uris its_settings position) named = record {
  its = call.AddTorrent meta its_uris its_settings position;
  is = refl;
  subject = Listed (box_value meta) its_uris;
  adds = (refl, named.1, named.2);
}
adds_torrent uris settings other named = absurd named

adds_one : (its : Source) (console : Bool) (words : List (List ℕ)) (settings : List Assigned) (asked : Option Call)
    → console ≡ false → IsSource console words its → IsNamedCall its settings asked → AddsOne asked settings
adds_one (source.Metainfo file uris) console words settings None off is named = absurd named
adds_one (source.Metainfo file uris) console words settings (Some asked) off is named =
    adds_torrent uris settings asked named
adds_one (source.Mirrors uris) console words settings asked off is named = record {
  its = call.AddUri uris settings None;
  is = named;
  subject = Unlisted uris;
  adds = (refl, refl, refl);
}
adds_one source.Console console words settings asked off is named =
    absurd (let never = sym off ∙ is.1 in cc)

-- ---- the run

module _ {D O L K : Type 0} {says : DiskSays D} {sinks : SinkSays O} {links : LinkSays L} {words : List (List ℕ)}
    {gids : ℕ} {disk : D} {old : L × K} {out : O} {ended : Ended D} {new : L × K} {out' : O}
    (one : RanOverOne says sinks links words gids 0 disk old out ended new out') (append : TurnsAppend)
    (stay : DownloadsStay) (done : FinishedAreDone says sinks) (off : has_console words ≡ false)
    (usual : LineUsual one.over.ran.begins.line) (unfinished : ended.ending ≡ Unfinished) where
  abbrev ran : Ran says sinks words gids 0 disk out ended out'
  ran = one.over.ran

  enough : (one.over.ran.begun.is_short || one.over.ran.short) ≡ false
  enough = unshort true links append one.over unfinished

  asks : AddsOne ran.begins.call ran.begins.line.settings
  asks = adds_one ran.begins.line.source (has_console words) _ ran.begins.line.settings
      ran.begins.call off ran.begins.means.source ran.begins.named

  -- nothing was left to do for the worker
  never_finished : one.came ≡ Ok end.Finished → ⊥
  never_finished is =
      let came = came_finished links 0 one.from old.0 one.to new.0 one.came one.its is in
      let all : ran.stops.middle ≡ one.its.worked =
      one.order ∙ (ap (λ (ts : List RunTurn). one.its.worked ++ ts) came.no_stop ∙ append-nil one.its.worked) in
      let once : IsFinishedOnce says sinks ran =
      finished_once append stay one.over asks.its asks.is asks.subject asks.adds usual enough
      (λ t there. worked_work links 0 one.from old.0 one.to new.0 one.came one.its t
      (subst (λ (ts : List RunTurn). Contains ts t) all there))
      (record {
        turn = came.finishes.turn;
        there = subst (λ (ts : List RunTurn). Contains ts came.finishes.turn) (sym all) came.finishes.there;
        said_is = came.finishes.said_is;
      }) in
      done words gids 0 disk out ended out' ran once unfinished

  pub left_unfinished : (one.came ≡ Ok end.JournalFull) ⊎ ((by : Spent) × (one.came ≡ Err by))
  left_unfinished =
      came_so one.came (unless_true (ends_short one.came) (one.over.ran.begun.is_short || one.over.ran.short) one.short
      enough) ((one.came ≡ Ok end.JournalFull) ⊎ ((by : Spent) × (one.came ≡ Err by)))
      (λ is. absurd (never_finished is)) (λ full. inl full) (λ by spent. inr (by, spent))
