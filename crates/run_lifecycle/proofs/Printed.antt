-- A run prints one text.
use Rattle.std.proofs.Common.{◌≡◌, ◌⊎◌, ◌≤◌, inl, inr, ⊎_elim, ℕ, Bool, true, false, List, [], length, refl, sym, ap, ◌∙◌, subst}
use Rattle.std.proofs.lemmas.List.{append-nil}
use Rattle.dl_disk.specs.declared.disk.Disk.{Ghosts as DiskSays}
use Rattle.dl_kinds.specs.declared.outside.Sink.{Ghosts as SinkSays}
use Rattle.dl_kinds.specs.Counts.{Rose}
use Rattle.engine_core.specs.Engines.{past_of, start_of}
use Rattle.machine_core.specs.Starts.{RunStart}
use Rattle.machine_core.specs.declared.events.Event.{Event}
use Rattle.run_report.specs.Failures.{ending_by_history}
use Rattle.machine_core.specs.Replays.{gids_in}
use Rattle.run_report.specs.Lines.{IsSummaryOf, heading}
use Rattle.run_report.specs.Writing.{IsReported}
use Rattle.run_report.specs.declared.endings.RunEnding.{RunEnding}
use Rattle.run_report.specs.declared.endings.RunEnding.TheVariants.{NoMemory, SinkFault}
use Rattle.run_lifecycle.specs.Begins.{EndsUnbegun}
use Rattle.run_lifecycle.specs.Finishes.{EndsBy, NeverBegan, PrintsRefusal, Ran, Reports, IsWholeRun}
use Rattle.run_lifecycle.specs.Printing.{IsRefusalText, IsSummaryText, MayBeShort, PrintsText}
use Rattle.run_lifecycle.specs.declared.ended.Ended.{Ended}
use Rattle.run_lifecycle.proofs.Ran as ran_facts

-- a summary of no download is its heading
no_lines : (start : RunStart) (past : List Event) → IsSummaryOf start past 0 heading
no_lines start past = record { lines = []; are = refl; text_is = sym (append-nil heading) }

module _ {D O : Type 0} (says : DiskSays D) (sinks : SinkSays O) (words : List (List ℕ)) (gids doors : ℕ) (disk : D) (out : O)
    (ended : Ended D) (out' : O) where
  abbrev IsPrinted : Type 0
  IsPrinted = PrintsText says sinks words gids doors disk out ended out'

  -- nothing was written
  printed_none : (text : List ℕ) → IsRefusalText says sinks words gids doors disk out ended out' text
      ⊎ IsSummaryText says sinks words gids doors disk out ended out' text
      → ended.ending ≡ NoMemory → out' ≡ out → IsPrinted
  printed_none text is memory same = record {
    text = text;
    is = is;
    front = [];
    rest = text;
    is_front = refl;
    taken = λ tells. ap sinks.taken same ∙ sym (append-nil (sinks.taken out));
    all = inr (inl memory);
  }

module _ {D O : Type 0} {says : DiskSays D} {sinks : SinkSays O} {words : List (List ℕ)}
    {disk : D}
    {out : O} {ended : Ended D} {out' : O} (gids doors : ℕ)
    (never : NeverBegan says sinks words disk out ended out') where
  -- the line of the refusal, as far as the sink took it
  printed_line : (refusal : RunEnding) → EndsUnbegun says words disk ended.disk refusal
      → PrintsRefusal sinks refusal out out' ended.ending → PrintsText says sinks words gids doors disk out ended out'
  printed_line NoMemory why is =
      printed_none says sinks words gids doors disk out ended out' []
      (inl (record { refusal = NoMemory; why = why; none = never.journal; is = refl })) is.0 is.1
  printed_line refusal why is =
      let prints = is.1 in record {
        text = _;
        is = inl (record { refusal = refusal; why = why; none = never.journal; is = refl });
        front = prints.front;
        rest = prints.rest;
        is_front = prints.is_front;
        taken = prints.taken;
        all = prints.whole;
      }

module _ {D O : Type 0} {says : DiskSays D} {sinks : SinkSays O} {words : List (List ℕ)}
    {gids doors : ℕ}
    {disk : D} {out : O} {ended : Ended D} {out' : O} where
  module _ (ran : Ran says sinks words gids doors disk out ended out') where
    abbrev its_start : RunStart
    its_start = start_of ran.engine.state

    abbrev its_past : List Event
    its_past = past_of ran.engine.state

    -- what is so of the engine's history is so of the journal's
    of_journal : (P : RunStart → List Event → Type 0) → P its_start its_past
        → P (ran_facts.start ran) (ran_facts.past ran)
    of_journal P is =
        subst (λ (past : List Event). P (ran_facts.start ran) past) (sym (ran_facts.journal_is ran))
        (subst (λ (s : RunStart). P s its_past) (ran_facts.start_is ran) is)

    -- the ending is that of the history, or the text may be short
    told_or_short : IsReported sinks its_start its_past out out' ended.ending
        → (ended.ending ≡ ending_by_history its_start its_past) ⊎ MayBeShort says sinks words gids doors disk out ended out'
    told_or_short is = ⊎_elim (λ told. inl told.0)
        (λ rest. ⊎_elim (λ memory. inr (inl memory.0))
        (λ (fault : (ended.ending ≡ SinkFault) × Rose (sinks.faults out) (sinks.faults out')). inr (inr fault.1))
        rest) is

    printed_summary : Reports sinks ran.engine out out' ended.ending
        → PrintsText says sinks words gids doors disk out ended out'
    printed_summary reports =
        let prints = reports.prints in
        let short = told_or_short reports.ends in record {
          text = prints.text;
          is = inr (record {
            line = ran.begins.line;
            means = ran.begins.means;
            count = prints.count;
            is = of_journal (λ start past. IsSummaryOf start past prints.count prints.text) prints.is;
            all = ⊎_elim
                (λ told. inl (of_journal (λ start past. length (gids_in start past) ≤ prints.count) (prints.all told)))
                (λ may. inr may) short;
          });
          front = prints.front;
          rest = prints.rest;
          is_front = prints.is_front;
          taken = prints.taken;
          all = ⊎_elim (λ told. inl (prints.whole told)) (λ may. inr may) short;
        }

    printed_by : (short : Bool) → EndsBy sinks short ran.engine out out' ended.ending
        → PrintsText says sinks words gids doors disk out ended out'
    printed_by true is = printed_none says sinks words gids doors disk out ended out' heading
        (inr (record {
          line = ran.begins.line;
          means = ran.begins.means;
          count = 0;
          is = no_lines (ran_facts.start ran) (ran_facts.past ran);
          all = inr (inl is.0);
        }))
        is.0 is.1
    printed_by false is = printed_summary is

  pub prints_text : IsWholeRun says sinks words gids doors disk out ended out'
      → PrintsText says sinks words gids doors disk out ended out'
  prints_text (inl never) = printed_line gids doors never never.refusal never.ends never.prints
  prints_text (inr ran) = printed_by ran _ ran.finishes.ends
