-- Where the run of a load has its Complete, every piece on its disk is right.
use Rattle.std.proofs.Common.{◌≡◌, ℕ, ◌<◌, true, false, List, [], Option, Some, None, refl, sym, ap, ◌∙◌, subst}
use Rattle.std.specs.Prelude.{codes, Contains, slice_index_or, unwrap_or}
use Rattle.std.specs.Option.{option_and_then}
use Rattle.blameless_mirrors.specs.Lone.{IsLoneListed, LoneAreAlone}
use Rattle.served_runs.proofs.FileCalls.{has_want, want_of}
use Rattle.control_file.specs.declared.want.Want.{Want}
use Rattle.dl_disk.specs.State.{DiskState}
use Rattle.dl_kinds.specs.declared.gid.Gid.{Gid}
use Rattle.engine_core.specs.Askings.{IsOpenedWant, IsWrittenAlone}
use Rattle.engine_core.specs.Durable.{HaveLengths}
use Rattle.engine_turns.specs.Told.{RunTurn, history_of}
use Rattle.machine_core.specs.DownloadWants.{HasWant, digests_of_subject, files_of_subject}
use Rattle.machine_core.specs.FileNames.{IsPayloadName, folder_in}
use Rattle.machine_core.specs.Openings.{lengths_of_plan}
use Rattle.machine_core.specs.OwnParts.{PayloadLengths, lengths_by, own_of}
use Rattle.machine_core.specs.RunLegal.{DownloadsAreLegal, DownloadsStay, IsLegal, download_in}
use Rattle.machine_core.specs.Starts.{Download, Listed, RunStart, Subject}
use Rattle.machine_core.specs.Wanted.{wanted_pieces}
use Rattle.machine_core.specs.declared.ends.End.TheVariants.{Complete}
use Rattle.machine_core.specs.declared.events.Event.{Event}
use Rattle.machine_core.specs.declared.events.Event.TheVariants as event
use Rattle.metainfo.specs.Info.{info_of}
use Rattle.metainfo.specs.declared.meta.Meta.{Meta}
use Rattle.option_set.specs.Values.{OptionValues, text_of_word}
use Rattle.option_set.specs.declared.kinds.Word.TheVariants.{Dir, SelectFile}
use Rattle.resume_core.specs.Resume.{AreSound}
use Rattle.run_lifecycle.specs.Promises.{HaveDigests}
use Rattle.load_setup.specs.Disk.{payload_read}
use Rattle.load_setup.specs.Payload.{is_right_piece}
use Rattle.load_setup.specs.Said.{SaysPayload}
use Rattle.self_load.proofs.Opened.{IsLoadDownload, each_wanted, lengths_are, opened}
use Rattle.self_load.proofs.Pieces.{IsLoadWant, piece_right}

same_lengths : (a b : PayloadLengths) → Some a ≡ Some b → a ≡ b
same_lengths a b is = cc

same_download : (a b : Download) → Some a ≡ Some b → a ≡ b
same_download a b is = cc

-- the options choose the folder of the run, and all files
pub record AreLoadOptions (v : OptionValues) : Type 0 where
  pub folder : text_of_word v Dir ≡ Some (codes ".")
  pub files : text_of_word v SelectFile ≡ None

module _ (parts : DownloadsAreLegal) (stay : DownloadsStay) (alone : LoneAreAlone) (start : RunStart)
    (told : List RunTurn)
    (d : Download) (meta : Meta) (uris : List (List ℕ)) (digests : List (List ℕ)) (says : SaysPayload digests
    (info_of meta))
    (subject : d.subject ≡ Listed meta uris) (options : AreLoadOptions d.options)
    (added : download_in start (history_of told) d.gid ≡ Some d) (lone : IsLoneListed start
    (history_of told) d.gid meta)
    (legal : IsLegal start (history_of told)) where
  abbrev past : List Event
  past = history_of told

  is_load : IsLoadDownload d meta uris
  is_load = record {
    subject = subject;
    layout = says.files;
    total = says.total;
    piece_len = says.piece_len;
    all = options.files;
  }

  -- each want of the download is a load's
  load_want : (want : Want) → HasWant start past d.gid want → IsLoadWant digests want
  load_want want has =
      let its : has.download ≡ d = same_download has.download d (sym has.added ∙ added) in
      let is_subject : has.download.subject ≡ Listed meta uris = ap (λ (x : Download). x.subject) its ∙ subject in
      let known : has.lengths ≡ record { total = 67108864; piece_len = 1048576 } =
      same_lengths has.lengths (record { total = 67108864; piece_len = 1048576 })
      (sym has.known ∙ (ap (option_and_then (λ (e : Download). lengths_by e e.subject (own_of start past d.gid))) added
      ∙ (ap (λ (s : Subject). lengths_by d s (own_of start past d.gid)) subject
      ∙ (λ i. Some (record { total = says.total i; piece_len = says.piece_len i }))))) in
      let plan : lengths_of_plan want.plan ≡ record { total = 67108864; piece_len = 1048576 } = has.is.plan ∙ known in
      record {
        base = subst (λ (s : Subject). IsPayloadName has.download s want.base) is_subject has.is.base ∙ says.name;
        folder = has.is.dir ∙ (ap (λ (x : Download). folder_in x) its ∙ ap (λ (o : Option
            (List ℕ)). unwrap_or o []) options.folder);
        layout = has.is.layout
            ∙ (ap (λ (s : Subject). files_of_subject s want.base has.lengths.total) is_subject ∙ says.files);
        total = ap (λ (l : PayloadLengths). l.total) plan;
        piece_len = ap (λ (l : PayloadLengths). l.piece_len) plan;
        digests_are = has.is.digests ∙ (ap digests_of_subject is_subject ∙ says.digests_are);
      }

  its_want : (other : Gid) (want : Want) → HasWant start past other want → HasWant start past d.gid want
  its_want other want has =
      subst (λ (g : Gid). HasWant start past g want) (lone.only other has.download has.added) has

  written_alone : (other : Gid) (want : Want) → IsOpenedWant start told other want → IsWrittenAlone start told want
  written_alone other want opens =
      (alone start told d.gid meta want lone (its_want other want opens.has)).alone

  module _ (given now : DiskState)
      (sound : (want : Want) → IsLoadWant digests want → AreSound want given.seen given.may_leave)
      (right : HaveDigests start told given now) (lengths : HaveLengths start told now)
      (complete : Contains past (event.Ended d.gid Complete)) where
    opens : IsOpenedWant start told d.gid (want_of d meta)
    opens = record {
      opened = opened parts stay start d.gid d meta uris is_load refl past legal complete added;
      has = has_want start past d.gid d meta uris added subject;
    }

    pub each_right : (piece : ℕ) → piece < 64 → is_right_piece digests (payload_read now.seen) piece ≡ true
    each_right piece low =
        piece_right digests (want_of d meta) (load_want (want_of d meta) opens.has) now.seen
        (lengths (want_of d meta) d.gid (written_alone d.gid (want_of d meta) opens) opens) piece low
        (right d.gid (want_of d meta) (record {
          complete = complete;
          opened = opens;
          listed = refl;
        }) (record {
          alone = written_alone d.gid (want_of d meta) opens;
          sound = sound (want_of d meta) (load_want (want_of d meta) opens.has);
        }) piece (record {
          download = d;
          added = added;
          wanted = ap (λ (l : PayloadLengths). slice_index_or (wanted_pieces d l) piece false)
              (lengths_are d meta uris is_load start past d.gid added) ∙ each_wanted d meta uris is_load piece low;
        }) now.seen now.own_image).1
