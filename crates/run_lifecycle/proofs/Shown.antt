-- How a run ended is shown.
use Rattle.std.proofs.Common.{◌≡◌, ◌⊎◌, inl, inr, ⊎_elim, ℕ, Bool, true, false, IsTrue, List, Option, Some, None, refl, sym, ap, ◌∙◌, subst}
use Rattle.command_line.specs.LineLaws.{LinesAreOne}
use Rattle.command_line.specs.Lines.{IsLine}
use Rattle.command_line.specs.declared.line.CommandLine.{CommandLine}
use Rattle.dl_disk.specs.declared.disk.Disk.{Ghosts as DiskSays}
use Rattle.dl_kinds.specs.declared.outside.Sink.{Ghosts as SinkSays}
use Rattle.dl_kinds.specs.Counts.{Rose}
use Rattle.command_call.specs.Sources.{RefusesSource}
use Rattle.command_call.specs.declared.refusals.SourceErr.{SourceErr}
use Rattle.command_call.specs.declared.refusals.SourceErr.TheVariants as error
use Rattle.machine_core.specs.Starts.{RunStart}
use Rattle.machine_core.specs.declared.ends.End.{End}
use Rattle.machine_core.specs.declared.events.Event.{Event}
use Rattle.run_report.specs.Failures.{ending_by, ending_by_history, has_unfinished, last_failure}
use Rattle.run_report.specs.Writing.{IsReported}
use Rattle.run_report.specs.declared.endings.RunEnding.{RunEnding}
use Rattle.run_report.specs.declared.endings.RunEnding.TheVariants.{Done, Failed, NoMeaning, NoMemory, NoMetainfo, SinkFault, Unfinished}
use Rattle.engine_core.specs.Engines.{past_of, start_of}
use Rattle.machine_core.specs.Replays.{queue_in}
use Rattle.run_lifecycle.specs.Begins.{EndsUnbegun, LacksCall, LacksLine, RefusesWords}
use Rattle.run_lifecycle.specs.Endings.{EndsAsShown, EndsByHistory, EndsBySource, IsShownByFile, ShowsEnding}
use Rattle.run_lifecycle.specs.Ends.{ending_of_source}
use Rattle.run_lifecycle.specs.Finishes.{EndsBy, NeverBegan, PrintsRefusal, Ran, IsWholeRun}
use Rattle.run_lifecycle.specs.declared.ended.Ended.{Ended}
use Rattle.run_lifecycle.proofs.Ran as ran_facts
use Rattle.run_lifecycle.proofs.Refused.{called_unrefused, refused_once}

-- ---- a run that didn't begin

-- it ends by its refusal, or memory was wanting
pub ends_refused : {O : Type 0} (sinks : SinkSays O) (refusal ending : RunEnding) (out out' : O)
    → PrintsRefusal sinks refusal out out' ending → (ending ≡ refusal) ⊎ (ending ≡ NoMemory)
ends_refused sinks NoMemory ending out out' is = inr is.0
ends_refused sinks refusal ending out out' is = is.0

refused_words : (words : List (List ℕ)) (refusal : RunEnding) → RefusesWords words refusal
    → (refusal ≡ NoMeaning) ⊎ (refusal ≡ NoMemory)
refused_words words NoMeaning is = inl refl
refused_words words NoMemory is = inr refl
refused_words words other is = absurd is

abbrev IsBySource : RunEnding → Type 0
IsBySource (NoMetainfo why) = Unit {0}
IsBySource NoMemory = Unit {0}
IsBySource other = ⊥

by_source : (error : SourceErr) → IsBySource (ending_of_source error)
by_source error.Missing = tt
by_source error.Fault = tt
by_source error.TooLarge = tt
by_source (error.Meta why) = tt
by_source (error.Mirrors count) = tt
by_source error.NoMemory = tt

-- ---- how a history ends a run

abbrev IsTold : RunEnding → Type 0
IsTold (Failed how) = Unit {0}
IsTold Unfinished = Unit {0}
IsTold Done = Unit {0}
IsTold other = ⊥

-- a run that began may end so
abbrev pub IsBegunEnding : RunEnding → Type 0
IsBegunEnding NoMeaning = ⊥
IsBegunEnding (NoMetainfo why) = ⊥
IsBegunEnding other = Unit {0}

begun_by_told : (e : RunEnding) → IsTold e → IsBegunEnding e
begun_by_told NoMeaning told = absurd told
begun_by_told (NoMetainfo why) told = absurd told
begun_by_told other told = tt

told_by : (failure : Option End) (unfinished : Bool) → IsTold (ending_by failure unfinished)
told_by (Some how) unfinished = tt
told_by None true = tt
told_by None false = tt

told_ending : (start : RunStart) (past : List Event) → IsTold (ending_by_history start past)
told_ending start past = told_by (last_failure past) (has_unfinished (queue_in start past))

module _ {D O : Type 0} (says : DiskSays D) (sinks : SinkSays O) (words : List (List ℕ)) (gids doors : ℕ) (disk : D) (out : O)
    (ended : Ended D) (out' : O) where
  abbrev Shows : RunEnding → Type 0
  Shows e = ShowsEnding says sinks words gids doors disk out ended out' e

  shows_refusal : (e : RunEnding) → EndsUnbegun says words disk ended.disk e → Shows e
  shows_refusal NoMeaning is = ⊎_elim (λ refuses. (refuses.0, refuses.1))
      (λ rest. ⊎_elim
      (λ (lacks : LacksCall says words disk ended.disk NoMeaning).
      absurd (subst IsBySource (sym lacks.ending_is) (by_source lacks.error)))
      (λ (none : NoMeaning ≡ NoMemory). absurd cc) rest) is
  shows_refusal (NoMetainfo why) is = ⊎_elim (λ refuses. absurd refuses.0)
      (λ rest. ⊎_elim (λ lacks. lacks) (λ (none : NoMetainfo why ≡ NoMemory). absurd cc) rest) is
  shows_refusal NoMemory is = tt
  shows_refusal SinkFault is = ⊎_elim (λ refuses. absurd refuses.0)
      (λ rest. ⊎_elim
      (λ (lacks : LacksCall says words disk ended.disk SinkFault).
      absurd (subst IsBySource (sym lacks.ending_is) (by_source lacks.error)))
      (λ (none : SinkFault ≡ NoMemory). absurd cc) rest) is
  shows_refusal (Failed how) is = ⊎_elim (λ refuses. absurd refuses.0)
      (λ rest. ⊎_elim
      (λ (lacks : LacksCall says words disk ended.disk (Failed how)).
      absurd (subst IsBySource (sym lacks.ending_is) (by_source lacks.error)))
      (λ (none : Failed how ≡ NoMemory). absurd cc) rest) is
  shows_refusal Unfinished is = ⊎_elim (λ refuses. absurd refuses.0)
      (λ rest. ⊎_elim
      (λ (lacks : LacksCall says words disk ended.disk Unfinished).
      absurd (subst IsBySource (sym lacks.ending_is) (by_source lacks.error)))
      (λ (none : Unfinished ≡ NoMemory). absurd cc) rest) is
  shows_refusal Done is = ⊎_elim (λ refuses. absurd refuses.0)
      (λ rest. ⊎_elim
      (λ (lacks : LacksCall says words disk ended.disk Done).
      absurd (subst IsBySource (sym lacks.ending_is) (by_source lacks.error)))
      (λ (none : Done ≡ NoMemory). absurd cc) rest) is

  shows_memory : ended.ending ≡ NoMemory → Shows ended.ending
  shows_memory is = subst Shows (sym is) tt

  -- what the history says
  shows_told : (e : RunEnding) → IsTold e → EndsByHistory words gids doors ended.journal e → Shows e
  shows_told NoMeaning told is = absurd told
  shows_told (NoMetainfo why) told is = absurd told
  shows_told NoMemory told is = absurd told
  shows_told SinkFault told is = absurd told
  shows_told (Failed how) told is = is
  shows_told Unfinished told is = is
  shows_told Done told is = is

module _ {D O : Type 0} {says : DiskSays D} {sinks : SinkSays O} {words : List (List ℕ)}
    {disk : D}
    {out : O} {ended : Ended D} {out' : O} (gids doors : ℕ)
    (never : NeverBegan says sinks words disk out ended out') where
  never_ends : (ended.ending ≡ never.refusal) ⊎ (ended.ending ≡ NoMemory)
  never_ends = ends_refused sinks never.refusal ended.ending out out' never.prints

  never_shown : ShowsEnding says sinks words gids doors disk out ended out' ended.ending
  never_shown = ⊎_elim
      (λ (same : ended.ending ≡ never.refusal). subst (ShowsEnding says sinks words gids doors disk out ended out')
      (sym same) (shows_refusal says sinks words gids doors disk out ended out' never.refusal never.ends))
      (shows_memory says sinks words gids doors disk out ended out')
      never_ends

  never_words : LacksLine words → (ended.ending ≡ NoMeaning) ⊎ (ended.ending ≡ NoMemory)
  never_words none = ⊎_elim
      (λ (same : ended.ending ≡ never.refusal).
      ⊎_elim (λ (refuses : RefusesWords words never.refusal × _).
      ⊎_elim (λ (meaning : never.refusal ≡ NoMeaning). inl (same ∙ meaning))
      (λ (memory : never.refusal ≡ NoMemory). inr (same ∙ memory)) (refused_words words never.refusal refuses.0))
      (λ rest. ⊎_elim (λ (lacks : LacksCall says words disk ended.disk never.refusal). absurd
      (none lacks.line lacks.means))
      (λ (memory : never.refusal ≡ NoMemory). inr (same ∙ memory)) rest) never.ends)
      (λ memory. inr memory) never_ends

  -- the file is refused for the one reason
  never_file : LinesAreOne → IsTrue says.tells → (line : CommandLine) (why : SourceErr) → IsLine words line
      → IsShownByFile why → RefusesSource (says.state disk).seen line.source why
      → EndsBySource says sinks words gids doors disk out ended out' why
  never_file one tells line why means shown refuses = ⊎_elim
      (λ (same : ended.ending ≡ never.refusal).
      ⊎_elim (λ (words_are : RefusesWords words never.refusal × _).
      ⊎_elim (λ (meaning : never.refusal ≡ NoMeaning).
      absurd ((subst (RefusesWords words) meaning words_are.0) line means))
      (λ (memory : never.refusal ≡ NoMemory). inr (inl (same ∙ memory)))
      (refused_words words never.refusal words_are.0))
      (λ rest. ⊎_elim
      (λ (lacks : LacksCall says words disk ended.disk never.refusal).
      let lines = one words lacks.line line lacks.means means in
      let its = subst (λ (l : CommandLine). RefusesSource (says.state disk).seen l.source lacks.error) lines
      (lacks.told tells) in
      ⊎_elim (λ (reason : lacks.error ≡ why). inl (same ∙ (lacks.ending_is ∙ ap ending_of_source reason)))
      (λ others. ⊎_elim (λ (fault : lacks.error ≡ error.Fault). inr (inr (lacks.fault fault)))
      (λ (memory : lacks.error ≡ error.NoMemory).
      inr (inl (same ∙ (lacks.ending_is ∙ ap ending_of_source memory)))) others)
      (refused_once (says.state disk).seen line.source why lacks.error shown refuses its))
      (λ (memory : never.refusal ≡ NoMemory). inr (inl (same ∙ memory))) rest) never.ends)
      (λ memory. inr (inl memory)) never_ends

module _ {D O : Type 0} {says : DiskSays D} {sinks : SinkSays O} {words : List (List ℕ)}
    {gids doors : ℕ}
    {disk : D} {out : O} {ended : Ended D} {out' : O} where
  module _ (ran : Ran says sinks words gids doors disk out ended out') where
    -- the engine's history is that of the journal
    pub ending_told : ending_by_history (start_of ran.engine.state) (past_of ran.engine.state)
        ≡ ending_by_history (ran_facts.start ran) (ran_facts.past ran)
    ending_told = λ i. ending_by_history (ran_facts.start_is ran i) (sym (ran_facts.journal_is ran) i)

    reported : IsReported sinks (start_of ran.engine.state) (past_of ran.engine.state) out out' ended.ending
        → ShowsEnding says sinks words gids doors disk out ended out' ended.ending
    reported is = ⊎_elim
        (λ (told : (ended.ending ≡ _) × _).
        let ending = told.0 ∙ ending_told in
        shows_told says sinks words gids doors disk out ended out' ended.ending
        (subst IsTold (sym ending) (told_ending (ran_facts.start ran) (ran_facts.past ran)))
        (record { line = ran.begins.line; means = ran.begins.means; is = ending }))
        (λ rest. ⊎_elim (λ (memory : (ended.ending ≡ NoMemory) × _). shows_memory says sinks words gids doors disk out ended
        out' memory.0)
        (λ (fault : (ended.ending ≡ SinkFault) × Rose (sinks.faults out) (sinks.faults out')).
        subst (ShowsEnding says sinks words gids doors disk out ended out') (sym fault.0) fault.1) rest) is

    ends_by : (short : Bool) → EndsBy sinks short ran.engine out out' ended.ending
        → ShowsEnding says sinks words gids doors disk out ended out' ended.ending
    ends_by true is = shows_memory says sinks words gids doors disk out ended out' is.0
    ends_by false is = reported is.ends

    ran_shown : ShowsEnding says sinks words gids doors disk out ended out' ended.ending
    ran_shown = ends_by _ ran.finishes.ends

    -- it isn't one of a run that didn't begin
    began_by : (short : Bool) → EndsBy sinks short ran.engine out out' ended.ending → IsBegunEnding ended.ending
    began_by true is = subst IsBegunEnding (sym is.0) tt
    began_by false is = ⊎_elim
        (λ (told : (ended.ending ≡ _) × _).
        begun_by_told ended.ending
        (subst IsTold (sym (told.0 ∙ ending_told)) (told_ending (ran_facts.start ran) (ran_facts.past ran))))
        (λ rest. ⊎_elim (λ (memory : (ended.ending ≡ NoMemory) × _). subst IsBegunEnding (sym memory.0) tt)
        (λ (fault : (ended.ending ≡ SinkFault) × Rose (sinks.faults out) (sinks.faults out')).
        subst IsBegunEnding (sym fault.0) tt) rest) is.ends

    pub began_ends : IsBegunEnding ended.ending
    began_ends = began_by _ ran.finishes.ends

  pub ends_as_shown : LinesAreOne → IsWholeRun says sinks words gids doors disk out ended out'
      → EndsAsShown says sinks words gids doors disk out ended out'
  ends_as_shown one (inl never) = record {
    shown = never_shown gids doors never;
    words_first = never_words gids doors never;
    file_next = never_file gids doors never one;
  }
  ends_as_shown one (inr ran) = record {
    shown = ran_shown ran;
    words_first = λ none. absurd (none ran.begins.line ran.begins.means);
    file_next = λ tells line why means shown refuses.
        let lines = one words line ran.begins.line means ran.begins.means in
        called_unrefused (says.state disk).seen ran.begins.line.source ran.begins.line.settings ran.begins.call why
        shown
        (subst (λ (l : CommandLine). RefusesSource (says.state disk).seen l.source why) lines refuses)
        (ran.begins.call_is tells)
        ran.begins.lawful;
  }
