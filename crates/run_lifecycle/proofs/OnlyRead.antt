-- A run that ended before it began read the disk at most.
use Rattle.std.proofs.Common.{◌≡◌, inl, inr, ℕ, List, [], subst}
use Rattle.std.specs.Prelude.{Contains}
use Rattle.dl_disk.specs.declared.disk.Disk.{Ghosts as DiskSays}
use Rattle.dl_kinds.specs.declared.outside.Sink.{Ghosts as SinkSays}
use Rattle.machine_core.specs.declared.events.Event.{Event}
use Rattle.machine_core.specs.declared.events.Event.TheVariants.{Stopped}
use Rattle.run_report.specs.declared.endings.RunEnding.{RunEnding}
use Rattle.run_report.specs.declared.endings.RunEnding.TheVariants.{NoMeaning, NoMetainfo}
use Rattle.run_lifecycle.specs.Endings.{EndsAsShown, ShowsEnding}
use Rattle.run_lifecycle.specs.Finishes.{IsWholeRun, NeverBegan, Ran}
use Rattle.run_lifecycle.specs.Untouched.{OnlyReads}
use Rattle.run_lifecycle.specs.declared.ended.Ended.{Ended}
use Rattle.run_lifecycle.proofs.Shown.{IsBegunEnding, began_ends}
use Rattle.run_lifecycle.proofs.Turns.{none_there}

module _ {D O : Type 0} {says : DiskSays D} {sinks : SinkSays O} {words : List (List ℕ)} {gids doors : ℕ} {disk : D} {out : O}
    {ended : Ended D} {out' : O} (runs : IsWholeRun says sinks words gids doors disk out ended out') where
  -- where nothing happened the run never began
  pub never_of : ((ran : Ran says sinks words gids doors disk out ended out') → Contains ended.journal.events.items Stopped)
      → ended.journal.events.items ≡ [] → NeverBegan says sinks words disk out ended out'
  never_of stopped none = by runs
    where
      by : IsWholeRun says sinks words gids doors disk out ended out' → NeverBegan says sinks words disk out ended out'
      by (inl never) = never
      by (inr ran) = none_there Stopped (subst (λ (es : List Event). Contains es Stopped) none (stopped ran))

  -- an ending of a run that didn't begin
  refused_none : (e : RunEnding) → ended.ending ≡ e → (IsBegunEnding e → ⊥) → ended.journal.events.items ≡ []
  refused_none e is unlike = by runs
    where
      by : IsWholeRun says sinks words gids doors disk out ended out' → ended.journal.events.items ≡ []
      by (inl never) = never.journal
      by (inr ran) = absurd (unlike (subst IsBegunEnding is (began_ends ran)))

  pub only_reads : ((ran : Ran says sinks words gids doors disk out ended out') → Contains ended.journal.events.items Stopped)
      → EndsAsShown says sinks words gids doors disk out ended out' → OnlyReads says disk ended
  only_reads stopped shown = record {
    meaning = λ is. (
      (subst (ShowsEnding says sinks words gids doors disk out ended out') is shown.shown).1,
      refused_none NoMeaning is (λ none. none),
    );
    metainfo = λ why is. refused_none (NoMetainfo why) is (λ none. none);
    disk_read = λ none. (never_of stopped none).is_read;
  }
