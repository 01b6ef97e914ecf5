-- Where a run is done with a metainfo file's download, and no control file stood, its pieces stand on the disk.
use Rattle.std.proofs.Common.{◌≡◌, ⊎_elim, ℕ, IsTrue, true, false, List, None, Some, refl, sym, ap, ◌∙◌, subst, arith}
use Rattle.std.specs.Prelude.{Contains, slice_index_or}
use Rattle.std.proofs.lemmas.List.FromFn.{get_or-map-range_with_len}
use Rattle.blameless_mirrors.proofs.Completions.{complete_opened}
use Rattle.blameless_mirrors.proofs.ListedLengths.{known_listed, lengths_told}
use Rattle.blameless_mirrors.specs.Chosen.{IsChosenPiece}
use Rattle.control_file.specs.declared.want.Want.{Want}
use Rattle.dl_disk.specs.Files.{Files}
use Rattle.dl_disk.specs.State.{DiskState}
use Rattle.dl_disk.specs.declared.disk.Disk.{Ghosts as DiskSays}
use Rattle.dl_kinds.specs.Plan.{pieces_of}
use Rattle.dl_kinds.specs.declared.gid.Gid.{Gid}
use Rattle.dl_kinds.specs.declared.outside.Sink.{Ghosts as SinkSays}
use Rattle.engine_core.specs.Askings.{IsWrittenAlone}
use Rattle.engine_turns.specs.Told.{RunTurn, history_of}
use Rattle.machine_core.specs.OwnParts.{PayloadLengths}
use Rattle.machine_core.specs.RunLegal.{download_in}
use Rattle.machine_core.specs.Starts.{Download, Listed, RunStart, Subject}
use Rattle.machine_core.specs.Wanted.{wanted_by, wanted_pieces}
use Rattle.machine_core.specs.declared.ends.End.TheVariants.{Complete}
use Rattle.machine_core.specs.declared.events.Event.{Event}
use Rattle.machine_core.specs.declared.events.Event.TheVariants as event
use Rattle.metainfo.specs.declared.meta.Meta.{Meta}
use Rattle.option_set.specs.Values.{OptionValues, text_of_word}
use Rattle.option_set.specs.declared.kinds.Word.TheVariants.{SelectFile}
use Rattle.resume_core.specs.Found.{Absent, Found, ListsInFlight, ListsPiece, found, found_in}
use Rattle.resume_core.specs.Resume.{Agrees, AreSound, IsHashed, Sound}
use Rattle.resume_core.specs.Wants.{control_name, files_in}
use Rattle.run_lifecycle.proofs.Kept.{run_is, same_files, was_read}
use Rattle.run_lifecycle.proofs.Ran as ran_facts
use Rattle.run_lifecycle.specs.Finishes.{Ran}
use Rattle.run_lifecycle.specs.Promises.{CompletedAreRight, IsRightPiece}
use Rattle.run_lifecycle.specs.declared.ended.Ended.{Ended}
use Rattle.served_runs.proofs.Endings.{in_reverse}
use Rattle.served_runs.proofs.FileCalls.{has_want, want_of}
use Rattle.served_runs.specs.Completes.{IsDone, IsDoneWhole, IsStill, want_by}
use Rattle.served_runs.specs.Ends.{OnlyCompletes}
use Rattle.stored_run.specs.RunFollows.{RunFollows}

-- ---- the disk before the run

-- without a control file an image gives the pieces that have their digests
fresh_sound : (want : Want) (image : Files) → image (control_name want) ≡ None → Sound want image
fresh_sound want image fresh =
    let none : found_in want image ≡ Absent = ap (found want) fresh in
    record {
      right = λ listed piece resumes. ⊎_elim
          (λ (lists : ListsPiece (found_in want image) piece).
          absurd (subst (λ (f : Found). ListsPiece f piece) none lists))
          (λ (hashed : IsHashed want (found_in want image) (files_in want image) piece).
          (subst (λ (f : Found). IsHashed want f (files_in want image) piece) none hashed).2) resumes.1;
      pieces = λ piece lists. absurd (subst (λ (f : Found). ListsPiece f piece) none lists);
      blocks = λ block lists. absurd (subst (λ (f : Found). ListsInFlight want.plan.piece_len f block) none lists);
    }

still_sound : (want : Want) (disk : DiskState) → IsStill disk → disk.seen (control_name want) ≡ None
    → AreSound want disk.seen disk.may_leave
still_sound want disk still fresh image left =
    subst (λ (i : Files). Sound want i × Agrees want disk.seen i) (sym (same_files disk.seen image (still image left)))
    (fresh_sound want disk.seen fresh, λ block resumes i below. refl)

-- ---- its download

-- a piece that the options choose is wanted
chosen_wanted : (d : Download) (meta : Meta) (uris : List (List ℕ)) → d.subject ≡ Listed meta uris → (piece : ℕ)
    → IsChosenPiece meta d.options piece → slice_index_or (wanted_pieces d (lengths_told meta)) piece false ≡ true
chosen_wanted d meta uris subject piece chosen =
    let text = text_of_word d.options SelectFile in
    get_or-map-range_with_len (wanted_by d.subject text (lengths_told meta)) 0
    (pieces_of meta.plan.total meta.plan.piece_len) piece piece false chosen.within (omega arith)
    ∙ (ap (λ (s : Subject). wanted_by s text (lengths_told meta) piece) subject ∙ chosen.wanted)

module _ {D O : Type 0} {says : DiskSays D} {sinks : SinkSays O} {words : List (List ℕ)} {gids doors : ℕ} {disk : D}
    {out : O} {ended : Ended D} {out' : O} (right : CompletedAreRight says.state) (follows : RunFollows)
    (ran : Ran says sinks words gids doors disk out ended out') (tells : IsTrue says.tells) where
  abbrev start : RunStart
  start = ran_facts.start ran

  abbrev told : List RunTurn
  told = ran_facts.told ran

  abbrev past : List Event
  past = history_of told

  module _ (d : Download) (meta : Meta) (uris : List (List ℕ)) (added : download_in start past d.gid ≡ Some d)
      (subject : d.subject ≡ Listed meta uris) (alone : IsWrittenAlone start told (want_of d meta))
      (fresh : (says.state disk).seen (control_name (want_of d meta)) ≡ None) where
    abbrev want : Want
    want = want_of d meta

    pieces_right : Contains past (event.Ended d.gid Complete) → IsStill (says.state disk) → (piece : ℕ)
        → IsChosenPiece meta d.options piece → IsRightPiece want (says.state ended.disk).seen piece
    pieces_right complete still piece chosen =
        right start told ran.begins.read ended.disk (run_is ran tells) d.gid want (record {
          complete = complete;
          opened = record {
            opened =
                complete_opened follows start told (ran_facts.legal_told ran) (ran_facts.ties ran) d.gid complete;
            has = has_want start past d.gid d meta uris added subject;
          };
          listed = refl;
        }) (was_read ran tells want (record { alone = alone; sound = still_sound want (says.state disk) still fresh }))
        piece (record {
          download = d;
          added = added;
          wanted = ap (λ (l : PayloadLengths). slice_index_or (wanted_pieces d l) piece false)
              (known_listed start past d.gid d meta uris added subject)
              ∙ chosen_wanted d meta uris subject piece chosen;
        }) (says.state ended.disk).seen (says.state ended.disk).own_image

    pub done_whole : (options : OptionValues) → d.options ≡ options
        → OnlyCompletes says sinks ended.journal.events.items d.gid → IsDone ended
        → IsDoneWhole says disk ended options meta
    done_whole options options_are only done =
        let there : Contains past (event.Ended done.1 Complete) =
        subst (λ (es : List Event). Contains es (event.Ended done.1 Complete)) (ran_facts.history_is ran)
        (in_reverse ended.journal.events.items (event.Ended done.1 Complete) done.2) in
        let complete : Contains past (event.Ended d.gid Complete) =
        subst (λ (g : Gid). Contains past (event.Ended g Complete)) (only done.1 Complete done.2).0 there in
        record {
          done = done;
          stands = λ still.
              subst (λ (o : OptionValues). (piece : ℕ) → IsChosenPiece meta o piece
              → IsRightPiece (want_by o meta) (says.state ended.disk).seen piece) options_are
              (pieces_right complete still);
        }
