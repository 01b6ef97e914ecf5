-- A complete download of a load is opened, and all of its pieces are wanted.
use Rattle.std.proofs.Common.{◌≡◌, ⊎_elim, ℕ, ◌+◌, ◌*◌, ◌<◌, Bool, true, false, List, [], ◌∷◌, ◌++◌, Option, Some, None, refl, sym, ap, ◌∙◌, subst, arith}
use Rattle.std.specs.Prelude.{◌||◌, Contains, max, min, nat_lt, slice_index_or, unwrap_or}
use Rattle.std.specs.Option.{option_and_then}
use Rattle.std.proofs.lemmas.Bool.{lt-ltb}
use Rattle.std.proofs.lemmas.List.FromFn.{get_or-map-range_with_len}
use Rattle.dl_history.specs.OwnEvents.{OwnEvent}
use Rattle.dl_history.specs.PayloadParts.{is_opened, is_opening, is_verified_in}
use Rattle.dl_kinds.specs.declared.gid.Gid.{Gid}
use Rattle.durable_progress.proofs.Promised.{verified}
use Rattle.file_choice.specs.Selected.{is_wanted_piece}
use Rattle.machine_core.specs.OwnParts.{PayloadLengths, lengths_by, no_lengths, own_of}
use Rattle.machine_core.specs.RunLegal.{DownloadsAreLegal, DownloadsStay, IsLegal, download_in, known_lengths}
use Rattle.machine_core.specs.Starts.{Download, Listed, RunStart, Subject}
use Rattle.machine_core.specs.Wanted.{wanted_by, wanted_pieces}
use Rattle.machine_core.specs.declared.ends.End.TheVariants.{Complete}
use Rattle.machine_core.specs.declared.events.Event.{Event}
use Rattle.machine_core.specs.declared.events.Event.TheVariants as event
use Rattle.metainfo.specs.declared.meta.Meta.{Meta}
use Rattle.option_set.specs.Values.{text_of_word}
use Rattle.option_set.specs.declared.kinds.Word.TheVariants.{SelectFile}
use Rattle.span_map.specs.declared.files.FileLen.{FileLen}
use Rattle.stored_run.proofs.Doing.{own_grows}
use Rattle.load_setup.specs.Said.{load_file}
use Rattle.self_load.proofs.Ends.{first_or_later, none_in}

-- ---- pieces

holds_byte : (piece : ℕ) → piece < 64
    → nat_lt (max 0 (piece * 1048576)) (min (0 + 67108864) (min ((piece + 1) * 1048576) 67108864)) ≡ true
holds_byte piece low = lt-ltb (max 0 (piece * 1048576)) (min (0 + 67108864) (min ((piece + 1) * 1048576) 67108864))
    (omega (arith, low))

wanted : (piece : ℕ) → piece < 64 → is_wanted_piece (load_file ∷ []) None 67108864 1048576 piece ≡ true
wanted piece low = ap (λ b. b || false) (holds_byte piece low)

-- the download is of a load's metainfo file, and none of its files is chosen
pub record IsLoadDownload (d : Download) (meta : Meta) (uris : List (List ℕ)) : Type 0 where
  pub subject : d.subject ≡ Listed meta uris
  pub layout : meta.layout ≡ load_file ∷ []
  pub total : meta.plan.total ≡ 67108864
  pub piece_len : meta.plan.piece_len ≡ 1048576
  pub all : text_of_word d.options SelectFile ≡ None

module _ (d : Download) (meta : Meta) (uris : List (List ℕ)) (is : IsLoadDownload d meta uris) where
  abbrev lengths : PayloadLengths
  lengths = record { total = 67108864; piece_len = 1048576 }

  pub lengths_are : (start : RunStart) (past : List Event) (gid : Gid) → download_in start past gid ≡ Some d
      → known_lengths start past gid ≡ lengths
  lengths_are start past gid added =
      ap (λ (o : Option Download). unwrap_or (option_and_then (λ (e : Download). lengths_by e e.subject
      (own_of start past gid)) o) no_lengths) added
      ∙ (ap (λ (s : Subject). unwrap_or (lengths_by d s (own_of start past gid)) no_lengths) is.subject
      ∙ (λ i. record { total = is.total i; piece_len = is.piece_len i }))

  pub each_wanted : (piece : ℕ) → piece < 64 → slice_index_or (wanted_pieces d lengths) piece false ≡ true
  each_wanted piece low =
      get_or-map-range_with_len (wanted_by d.subject
      (text_of_word d.options SelectFile) lengths) 0 64 piece piece false low (omega arith)
      ∙ ((λ i. wanted_by (is.subject i) (is.all i) lengths piece)
      ∙ (ap (λ (fs : List FileLen). is_wanted_piece fs None 67108864 1048576 piece) is.layout ∙ wanted piece low))

-- ---- histories

opened_on : (more own : List OwnEvent) → is_opened own ≡ true → is_opened (more ++ own) ≡ true
opened_on [] own is = is
opened_on (x ∷ more) own is = by (is_opening x) (opened_on more own is)
  where
    by : (b : Bool) → is_opened (more ++ own) ≡ true → (b || is_opened (more ++ own)) ≡ true
    by true rest = refl
    by false rest = rest

same_some : (a b : Download) → Some a ≡ Some b → a ≡ b
same_some a b is = cc

module _ (parts : DownloadsAreLegal) (stay : DownloadsStay) (start : RunStart) (gid : Gid) (d : Download) (meta : Meta)
    (uris : List (List ℕ)) (is : IsLoadDownload d meta uris) (named : d.gid ≡ gid) where
  pub opened : (past : List Event) → IsLegal start past → Contains past (event.Ended gid Complete)
      → download_in start past gid ≡ Some d → is_opened (own_of start past gid) ≡ true
  opened [] legal there added = none_in (event.Ended gid Complete) there
  opened (e ∷ past) legal there added =
      let grown = own_grows start e past gid in
      subst (λ (l : List OwnEvent). is_opened l ≡ true) (sym grown.1) (opened_on grown.0 (own_of start past gid)
      (⊎_elim
      (λ (same : e ≡ event.Ended gid Complete).
      let may : IsLegal start (event.Ended gid Complete ∷ past) = subst (λ (x : Event). IsLegal start
      (x ∷ past)) same legal in
      let own = may.1.own in
      let its : own.download ≡ d = same_some own.download d (sym (stay start past e gid own.download own.added)
      ∙ added) in
      let known = lengths_are d meta uris is start past gid (subst (λ
      (x : Download). download_in start past gid ≡ Some x) its own.added) in
      let chosen : slice_index_or (wanted_pieces own.download (known_lengths start past gid)) 0 false ≡ true =
      (λ i. slice_index_or (wanted_pieces (its i) (known i)) 0 false) ∙ each_wanted d meta uris is 0 (omega arith) in
      (verified (known_lengths start past gid).total (known_lengths start past gid).piece_len 0 (own_of start past gid)
      (parts start past gid legal.0)
      (subst (λ (g : Gid). is_verified_in (own_of start past g) 0 ≡ true) (ap (λ (x : Download). x.gid) its ∙ named)
      (may.1.cause.verified 0 chosen))).1)
      (λ (later : Contains past (event.Ended gid Complete)).
      opened past legal.0 later (still e past legal.0 later added)) (first_or_later e past
      (event.Ended gid Complete) there)))
    where
      ends_added : (past : List Event) → IsLegal start past → Contains past (event.Ended gid Complete)
          → (x : Download) × (download_in start past gid ≡ Some x)
      ends_added [] legal there = none_in (event.Ended gid Complete) there
      ends_added (e ∷ past) legal there = ⊎_elim
          (λ (same : e ≡ event.Ended gid Complete).
          let may : IsLegal start (event.Ended gid Complete ∷ past) = subst (λ (x : Event). IsLegal start
          (x ∷ past)) same legal in
          (may.1.own.download, stay start past e gid may.1.own.download may.1.own.added))
          (λ (later : Contains past (event.Ended gid Complete)).
          let rest = ends_added past legal.0 later in (rest.0, stay start past e gid rest.0 rest.1))
          (first_or_later e past (event.Ended gid Complete) there)

      still : (e : Event) (past : List Event) → IsLegal start past → Contains past (event.Ended gid Complete)
          → download_in start (e ∷ past) gid ≡ Some d → download_in start past gid ≡ Some d
      still e past legal there added =
          let was = ends_added past legal there in
          let same = same_some was.0 d (sym (stay start past e gid was.0 was.1) ∙ added) in
          subst (λ (x : Download). download_in start past gid ≡ Some x) same was.1
