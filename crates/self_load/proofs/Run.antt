-- How the run of a load ends, by its journal and its disk.
use Rattle.std.proofs.Common.{◌≡◌, ◌⊎◌, inl, inr, ⊎_elim, ℕ, ◌<◌, Bool, true, false, IsTrue, List, [], Option, Some, None, Ok, refl, sym, ap, ◌∙◌, subst}
use Rattle.std.specs.Prelude.{◌||◌, box_value, codes, Contains, reverse}
use Rattle.std.proofs.lemmas.List.{reverse-reverse}
use Rattle.served_runs.specs.Over.{IsRunOver, RanOverLinks}
use Rattle.served_runs.proofs.Endings.{in_reverse}
use Rattle.served_runs.proofs.FileCalls.{CallOfFile}
use Rattle.served_runs.proofs.LineOptions.{LineUsual, line_usual}
use Rattle.served_runs.proofs.Workers.{ends_so as starved_so}
use Rattle.command_line.specs.Lines.{IsLine, has_console}
use Rattle.command_line.specs.declared.source.Source.{Source}
use Rattle.command_line.specs.declared.source.Source.TheVariants.{Metainfo}
use Rattle.control_file.specs.declared.want.Want.{Want}
use Rattle.dl_disk.specs.Files.{Files}
use Rattle.dl_disk.specs.declared.disk.Disk.{Ghosts as DiskSays}
use Rattle.dl_kinds.specs.declared.gid.Gid.{Gid}
use Rattle.dl_kinds.specs.declared.outside.Sink.{Ghosts as SinkSays}
use Rattle.dl_kinds.specs.Counts.{Rose}
use Rattle.engine_core.specs.Engines.{past_of, start_of}
use Rattle.engine_turns.specs.Told.{RunTurn, history_of}
use Rattle.command_call.specs.Sources.{IsCallOf}
use Rattle.command_call.specs.declared.refusals.SourceErr.{SourceErr}
use Rattle.command_call.specs.declared.refusals.SourceErr.TheVariants as error
use Rattle.link_source.specs.declared.Links.{Ghosts as LinkSays}
use Rattle.load_setup.specs.Disk.{payload_read}
use Rattle.load_setup.specs.LoadLine.{NamesLoad, WordsNameLoad}
use Rattle.load_setup.specs.Metainfo.{metainfo_by}
use Rattle.load_setup.specs.Payload.{digests_of, is_right_piece}
use Rattle.load_setup.specs.Said.{MetainfoFilesSayPayloads, SaysPayload}
use Rattle.load_setup.specs.Words.{run_words}
use Rattle.machine_core.specs.Replays.{with_settings}
use Rattle.machine_core.specs.Starts.{Listed, RunStart}
use Rattle.machine_core.specs.declared.calls.Call.{Call}
use Rattle.machine_core.specs.declared.calls.Call.TheVariants as call
use Rattle.machine_core.specs.declared.ends.End.TheVariants.{Complete}
use Rattle.machine_core.specs.declared.events.Event.{Event}
use Rattle.machine_core.specs.declared.events.Event.TheVariants as event
use Rattle.metainfo.specs.Info.{info_of}
use Rattle.metainfo.specs.Rules.{metainfo_of}
use Rattle.metainfo.specs.declared.meta.Meta.{Meta}
use Rattle.option_set.specs.Values.{OptionValues, text_of_word}
use Rattle.option_set.specs.declared.kinds.Word.TheVariants.{Dir, SelectFile}
use Rattle.option_set.specs.declared.setting.Assigned.{Assigned}
use Rattle.resume_core.specs.Resume.{AreSound}
use Rattle.run_lifecycle.specs.Begins.{LacksCall, RefusesWords}
use Rattle.run_lifecycle.specs.Ends.{ending_of_source}
use Rattle.run_lifecycle.specs.Finishes.{EndsBy, NeverBegan, PrintsRefusal, Ran, Reports}
use Rattle.run_lifecycle.specs.declared.ended.Ended.{Ended}
use Rattle.run_lifecycle.proofs.Kept.{run_is, was_read}
use Rattle.run_lifecycle.proofs.Ran as ran_facts
use Rattle.run_lifecycle.specs.Promises.{CompletedAreRight, HaveDigests}
use Rattle.run_report.specs.Failures.{ending_by_history}
use Rattle.run_report.specs.declared.endings.RunEnding.{RunEnding}
use Rattle.run_report.specs.declared.endings.RunEnding.TheVariants.{Done, NoMeaning, NoMemory, SinkFault}
use Rattle.self_load.proofs.CallAlone.{Laws, RanOneListed, ran_one_listed}
use Rattle.self_load.proofs.Ends.{none_in}
use Rattle.self_load.proofs.Pieces.{IsLoadWant}
use Rattle.self_load.proofs.Right.{AreLoadOptions, each_right}

-- ---- the call of a load

-- it adds the download of the load's metainfo file
record IsLoadCall (n : ℕ) (asked : Option Call) (settings : List Assigned) : Type 0 where
  meta : Meta
  adds : CallOfFile asked meta [] settings
  says : SaysPayload (digests_of n) (info_of meta)

same_bytes : (a b : List ℕ) → Some a ≡ Some b → a ≡ b
same_bytes a b is = cc

load_call : MetainfoFilesSayPayloads → (n : ℕ) (seen : Files) → seen (codes "load.torrent") ≡ Some (metainfo_by
    (digests_of n))
    → (settings : List Assigned) (asked : Option Call) → IsCallOf seen (Metainfo
    (codes "load.torrent") []) settings asked
    → IsLoadCall n asked settings
load_call say n seen file settings None is = absurd is
load_call say n seen file settings (Some (call.AddTorrent m us os position)) is =
    let adds : (info_of (box_value m) ≡ is.0) × (us ≡ []) × (os ≡ settings) × (position ≡ None) = is.2 in
    let bytes = same_bytes is.1.bytes (metainfo_by (digests_of n)) (sym is.1.has.holds ∙ file) in
    record {
      meta = box_value m;
      adds = record {
        its = call.AddTorrent m us os position;
        is = refl;
        adds = (ap (Listed (box_value m)) adds.1, adds.2, adds.3);
      };
      says = say n (info_of (box_value m)) (ap metainfo_of (sym bytes) ∙ (is.1.says ∙ ap Ok (sym adds.0)));
    }
load_call say n seen file settings (Some other) is = absurd is.2

-- ---- a run that didn't begin

not_done : (ending : RunEnding) → ending ≡ NoMemory → ending ≡ Done → ⊥
not_done ending is done = absurd (let never : NoMemory ≡ Done = sym is ∙ done in cc)

words_undone : (words : List (List ℕ)) (ending : RunEnding) → RefusesWords words ending → ending ≡ Done → ⊥
words_undone words NoMeaning refuses done = absurd cc
words_undone words NoMemory refuses done = absurd cc
words_undone words other refuses done = absurd refuses

source_undone : (why : SourceErr) → ending_of_source why ≡ Done → ⊥
source_undone error.Missing done = absurd cc
source_undone error.Fault done = absurd cc
source_undone error.TooLarge done = absurd cc
source_undone (error.Meta e) done = absurd cc
source_undone (error.Mirrors count) done = absurd cc
source_undone error.NoMemory done = absurd cc

printed_undone : {O : Type 0} (sinks : SinkSays O) (out out' : O) (refusal ending : RunEnding)
    → (refusal ≡ Done → ⊥) → PrintsRefusal sinks refusal out out' ending → ending ≡ Done → ⊥
printed_undone {O} sinks out out' NoMemory ending undone prints done = not_done ending prints.0 done
printed_undone {O} sinks out out' refusal ending undone prints done = ⊎_elim
    (λ (same : ending ≡ refusal). undone (sym same ∙ done))
    (λ (starved : ending ≡ NoMemory). not_done ending starved done) prints.0

never_done : {D O : Type 0} (says : DiskSays D) (sinks : SinkSays O) (words : List (List ℕ)) (disk : D) (out : O)
    (ended : Ended D) (out' : O) → NeverBegan says sinks words disk out ended out' → ended.ending ≡ Done → ⊥
never_done says sinks words disk out ended out' never = printed_undone sinks out out' never.refusal ended.ending (⊎_elim
    (λ (wrong : RefusesWords words never.refusal × (ended.disk ≡ disk)). words_undone words never.refusal wrong.0)
    (λ more. ⊎_elim
    (λ (lacks : LacksCall says words disk ended.disk never.refusal).
    λ (done : never.refusal ≡ Done). source_undone lacks.error (sym lacks.ending_is ∙ done))
    (λ (starved : never.refusal ≡ NoMemory). not_done never.refusal starved) more) never.ends) never.prints

-- ---- what is known of the run

pub record IsLoadsRun {D : Type 0} (says : DiskSays D) (words : List (List ℕ)) (disk : D) (n : ℕ) : Type 0 where
  pub laws : Laws
  pub words_name : WordsNameLoad
  pub files_say : MetainfoFilesSayPayloads
  pub right : CompletedAreRight says.state
  pub tells : IsTrue says.tells
  pub words_are : words ≡ run_words
  pub file : (says.state disk).seen (codes "load.torrent") ≡ Some (metainfo_by (digests_of n))
  pub sound : (want : Want) → IsLoadWant (digests_of n) want → AreSound want (says.state disk).seen
      (says.state disk).may_leave

-- a download is complete by the journal
abbrev pub TellsComplete : {D : Type 0} → Ended D → Type 0
TellsComplete ended = (gid : Gid) × Contains ended.journal.events.items (event.Ended gid Complete)

-- it is done, or memory was wanting, or the output failed
abbrev pub IsDoneUnless : {D O : Type 0} → SinkSays O → O → Ended D → O → Type 0
IsDoneUnless sinks out ended out' = (ended.ending ≡ Done) ⊎ (ended.ending ≡ NoMemory)
    ⊎ ((ended.ending ≡ SinkFault) × Rose (sinks.faults out) (sinks.faults out'))

module _ {D O L K : Type 0} {says : DiskSays D} {sinks : SinkSays O} {limited : Bool} {links : LinkSays L}
    {words : List (List ℕ)} {gids doors : ℕ} {disk : D} {olds : List (L × K)} {out : O} {ended : Ended D}
    {news : List (L × K)} {out' : O} where
  module _ (n : ℕ) (is : IsLoadsRun says words disk n)
      (it : RanOverLinks says sinks limited links words gids doors disk olds out ended news out') where
    abbrev ran : Ran says sinks words gids doors disk out ended out'
    ran = it.ran

    abbrev start : RunStart
    start = ran_facts.start ran

    abbrev told : List RunTurn
    told = ran_facts.told ran

    abbrev past : List Event
    past = history_of told

    abbrev items : List Event
    items = ended.journal.events.items

    means : IsLine run_words ran.begins.line
    means = subst (λ (ws : List (List ℕ)). IsLine ws ran.begins.line) is.words_are ran.begins.means

    names : NamesLoad ran.begins.line
    names = is.words_name.line ran.begins.line means

    usual : LineUsual ran.begins.line
    usual = line_usual words ran.begins.line ran.begins.means (ap has_console is.words_are ∙ is.words_name.off)

    load : IsLoadCall n ran.begins.call ran.begins.line.settings
    load = load_call is.files_say n (says.state disk).seen is.file ran.begins.line.settings ran.begins.call
        (subst (λ (s : Source). IsCallOf (says.state disk).seen s ran.begins.line.settings ran.begins.call) names.source
        (ran.begins.call_is is.tells))

    in_past : (e : Event) → Contains items e → Contains past e
    in_past e there = subst (λ (es : List Event). Contains es e) (ran_facts.history_is ran) (in_reverse items e there)

    in_items : (e : Event) → Contains past e → Contains items e
    in_items e there = subst (λ (es : List Event). Contains es e) (reverse-reverse items)
        (in_reverse (reverse items) e
        (subst (λ (es : List Event). Contains es e) (sym (ran_facts.history_is ran)) there))

    -- ---- the disk

    -- what it told complete has its digests
    kept_right : HaveDigests start told (says.state disk) (says.state ended.disk)
    kept_right gid want told_so was =
        is.right start told ran.begins.read ended.disk (run_is ran is.tells) gid want told_so (was_read ran is.tells want was)

    -- ---- memory sufficed

    module _ (unshort : (ran.begun.is_short || ran.short) ≡ false) (one : RanOneListed ran load.meta []) where
      reports : Reports sinks ran.engine out out' ended.ending
      reports = subst (λ (b : Bool). EndsBy sinks b ran.engine out out' ended.ending) unshort ran.finishes.ends

      told_so : ending_by_history (start_of ran.engine.state) (past_of ran.engine.state) ≡ ending_by_history start past
      told_so = λ i. ending_by_history (ran_facts.start_is ran i)
          ((sym (ran_facts.journal_is ran) ∙ ran_facts.history_is ran) i)

      -- done by its journal
      has_complete : ended.ending ≡ Done → Contains past (event.Ended one.download.gid Complete)
      has_complete is_done =
          one.has (⊎_elim
          (λ (by : (ended.ending ≡ ending_by_history (start_of ran.engine.state) (past_of ran.engine.state))
          × (sinks.faults out' ≡ sinks.faults out)).
          sym told_so ∙ (sym by.0 ∙ is_done))
          (λ more. ⊎_elim
          (λ (starved : (ended.ending ≡ NoMemory) × (sinks.faults out' ≡ sinks.faults out)).
          absurd (not_done ended.ending starved.0 is_done))
          (λ (sunk : (ended.ending ≡ SinkFault) × Rose (sinks.faults out) (sinks.faults out')).
          absurd (let never : SinkFault ≡ Done = sym sunk.0 ∙ is_done in cc)) more) reports.ends)

      journal_complete : ended.ending ≡ Done → TellsComplete ended
      journal_complete is_done =
          (one.download.gid, in_items (event.Ended one.download.gid Complete) (has_complete is_done))

      ends_done : TellsComplete ended → IsDoneUnless sinks out ended out'
      ends_done tells = ⊎_elim
          (λ (by : (ended.ending ≡ ending_by_history (start_of ran.engine.state) (past_of ran.engine.state))
          × (sinks.faults out' ≡ sinks.faults out)).
          inl (by.0 ∙ (told_so ∙ one.done tells.0 (in_past (event.Ended tells.0 Complete) tells.1))))
          (λ more. ⊎_elim
          (λ (starved : (ended.ending ≡ NoMemory) × (sinks.faults out' ≡ sinks.faults out)). inr (inl starved.0))
          (λ (sunk : (ended.ending ≡ SinkFault) × Rose (sinks.faults out) (sinks.faults out')). inr (inr sunk)) more)
          reports.ends

      -- what the options of its download are
      its_options : AreLoadOptions one.download.options
      its_options =
          let of_line : one.download.options ≡ ran.begins.line.globals =
          one.options ∙ ap (with_settings ran.begins.line.globals) names.settings in
          record {
            folder = ap (λ (v : OptionValues). text_of_word v Dir) of_line ∙ names.folder;
            files = ap (λ (v : OptionValues). text_of_word v SelectFile) of_line ∙ names.files;
          }

      pieces_right : ended.ending ≡ Done → (piece : ℕ) → piece < 64
          → is_right_piece (digests_of n) (payload_read (says.state ended.disk).seen) piece ≡ true
      pieces_right is_done =
          each_right is.laws.parts is.laws.stay is.laws.alone start told one.download load.meta [] (digests_of n)
          load.says one.subject_is its_options one.added one.lone (ran_facts.legal_told ran) (says.state disk)
          (says.state ended.disk) is.sound kept_right (ran_facts.keeps ran is.tells).lengths (has_complete is_done)

    -- memory sufficed, or it was wanting
    by_memory : {P : Type 0}
        → ((ran.begun.is_short || ran.short) ≡ false → RanOneListed ran load.meta [] → P)
        → (ended.ending ≡ NoMemory → P) → P
    by_memory {P} well starved = by (ran.begun.is_short || ran.short) refl
      where
        by : (short : Bool) → (ran.begun.is_short || ran.short) ≡ short → P
        by true at = starved (starved_so sinks ran.engine out out' ended.ending (ran.begun.is_short || ran.short) at
            ran.finishes.ends)
        by false at = well at (ran_one_listed is.laws it usual load.meta [] load.adds at)

  -- ---- the run

  module _ (n : ℕ) (is : IsLoadsRun says words disk n)
      (runs : IsRunOver says sinks limited links words gids doors disk olds out ended news out') where
    complete : ended.ending ≡ Done → TellsComplete ended
    complete is_done = ⊎_elim
        (λ (never : NeverBegan says sinks words disk out ended out').
        absurd (never_done says sinks words disk out ended out' never is_done))
        (λ (it : RanOverLinks says sinks limited links words gids doors disk olds out ended news out').
        by_memory n is it (λ unshort one. journal_complete n is it unshort one is_done)
        (λ starved. absurd (not_done ended.ending starved is_done))) runs

    done : TellsComplete ended → IsDoneUnless sinks out ended out'
    done tells = ⊎_elim
        (λ (never : NeverBegan says sinks words disk out ended out').
        none_in (event.Ended tells.0 Complete)
        (subst (λ (es : List Event). Contains es (event.Ended tells.0 Complete)) never.journal tells.1))
        (λ (it : RanOverLinks says sinks limited links words gids doors disk olds out ended news out').
        by_memory n is it (λ unshort one. ends_done n is it unshort one tells) (λ starved. inr (inl starved))) runs

    all_right : ended.ending ≡ Done → (piece : ℕ) → piece < 64
        → is_right_piece (digests_of n) (payload_read (says.state ended.disk).seen) piece ≡ true
    all_right is_done = ⊎_elim
        (λ (never : NeverBegan says sinks words disk out ended out').
        absurd (never_done says sinks words disk out ended out' never is_done))
        (λ (it : RanOverLinks says sinks limited links words gids doors disk olds out ended news out').
        by_memory n is it (λ unshort one. pieces_right n is it unshort one is_done)
        (λ starved. absurd (not_done ended.ending starved is_done))) runs

-- how it ends
pub record EndsSo {D O : Type 0} (says : DiskSays D) (sinks : SinkSays O) (n : ℕ) (out : O) (ended : Ended D) (out' : O)
    : Type 0 where
  pub complete : ended.ending ≡ Done → TellsComplete ended
  pub done : TellsComplete ended → IsDoneUnless sinks out ended out'
  pub right : ended.ending ≡ Done → (piece : ℕ) → piece < 64
      → is_right_piece (digests_of n) (payload_read (says.state ended.disk).seen) piece ≡ true

pub ends_so : {D O L K : Type 0} {says : DiskSays D} {sinks : SinkSays O} {limited : Bool} {links : LinkSays L}
    {words : List (List ℕ)} {gids doors : ℕ} {disk : D} {olds : List (L × K)} {out : O} {ended : Ended D} {news : List (L × K)} {out' : O}
    (n : ℕ) → IsRunOver says sinks limited links words gids doors disk olds out ended news out' → IsLoadsRun says words disk n
    → EndsSo says sinks n out ended out'
ends_so n runs is = record { complete = complete n is runs; done = done n is runs; right = all_right n is runs }
