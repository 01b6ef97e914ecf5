-- Ends of the only download of a run, where it has neither a metainfo file nor a checksum.
use Rattle.std.proofs.Common.{◌≡◌, ⊎_elim, ℕ, Bool, true, false, Some, None, List, [], ◌∷◌, length, refl, sym, ap, ◌∙◌, subst, arith}
use Rattle.std.specs.Prelude.{◌<◌, Contains}
use Rattle.std.specs.Option.{is_some, option_and_then}
use Rattle.dl_disk.specs.State.{DiskState}
use Rattle.dl_history.specs.OwnEvents.{Settles}
use Rattle.dl_history.specs.PayloadParts.{last_check, told_total}
use Rattle.dl_kinds.specs.Plan.{IsPlan}
use Rattle.dl_kinds.specs.declared.gid.Gid.{Gid}
use Rattle.dl_kinds.specs.declared.marks.Mark.{Mark}
use Rattle.engine_core.proofs.Turned.{same_download}
use Rattle.engine_turns.specs.Told.{history_of}
use Rattle.machine_core.proofs.Parts.{gid_is}
use Rattle.machine_core.specs.OwnParts.{PayloadLengths, lengths_by, own_of, payload_lengths_of, told_lengths}
use Rattle.machine_core.specs.RunLegal.{IsEndCause, IsLegal, MayBeEnded, MayBeSettled, MayFollow, download_in, is_listed, known_lengths, mirrors_by}
use Rattle.machine_core.specs.Starts.{Download, RunStart, Subject, Unlisted}
use Rattle.machine_core.specs.Wanted.{wanted_pieces}
use Rattle.machine_core.specs.declared.ends.End.{End}
use Rattle.machine_core.specs.declared.ends.End.TheVariants as end
use Rattle.machine_core.specs.declared.events.Event.{Event}
use Rattle.machine_core.specs.declared.events.Event.TheVariants.{Ended, Settled}
use Rattle.option_set.specs.Values.{number_value, text_of_word}
use Rattle.option_set.specs.declared.kinds.Num.TheVariants.{PieceLength}
use Rattle.option_set.specs.declared.kinds.Word.TheVariants.{Checksum}
use Rattle.piece_table.specs.declared.giver.Giver.{Giver}
use Rattle.piece_table.specs.declared.giver.Giver.TheVariants.{One}
use Rattle.stored_run.proofs.Left.{one_of}
use Rattle.stored_run.proofs.PlainEvents.{gid_added}
use Rattle.stored_run.specs.Refused.{IsRefusalEnd}
use Rattle.stored_run.specs.RunFollows.{RunFollows}
use Rattle.blameless_mirrors.specs.Lone.{IsOnly}
use Rattle.blameless_mirrors.specs.LoneUris.{UnlistedOnlyComplete}
use Rattle.blameless_mirrors.proofs.Blame.{loss_counted}
use Rattle.blameless_mirrors.proofs.LoneEnds.{IsIt, IsNeverChecked, it_before, none_beside, only_before, unchecked}
use Rattle.blameless_mirrors.proofs.Marks.{NothingMarks, never_dead}
use Rattle.blameless_mirrors.proofs.Refusals.{never_refused}

-- it is complete, or dead, or the disk failed, or its store refused what stands of it
abbrev IsUriEnd : End → Type 0
IsUriEnd end.Complete = Unit {0}
IsUriEnd (end.Dead piece mark) = Unit {0}
IsUriEnd (end.Disk count) = Unit {0}
IsUriEnd (end.Exists length) = Unit {0}
IsUriEnd (end.PieceLength have want) = Unit {0}
IsUriEnd (end.Length have want) = Unit {0}
IsUriEnd end.InfoHash = Unit {0}
IsUriEnd (end.Unreadable at) = Unit {0}
IsUriEnd how = ⊥

only_complete : (how : End) → IsUriEnd how → ((piece : ℕ) (mark : Mark) → how ≡ end.Dead piece mark → ⊥)
    → ((count : ℕ) → how ≡ end.Disk count → ⊥) → (IsRefusalEnd how → ⊥) → how ≡ end.Complete
only_complete end.Complete lone dead fault refused = refl
only_complete (end.Dead piece mark) lone dead fault refused = absurd (dead piece mark refl)
only_complete (end.Disk count) lone dead fault refused = absurd (fault count refl)
only_complete (end.Exists length) lone dead fault refused = absurd (refused tt)
only_complete (end.PieceLength have want) lone dead fault refused = absurd (refused tt)
only_complete (end.Length have want) lone dead fault refused = absurd (refused tt)
only_complete end.InfoHash lone dead fault refused = absurd (refused tt)
only_complete (end.Unreadable at) lone dead fault refused = absurd (refused tt)
only_complete (end.TooLarge total) lone dead fault refused = absurd lone
only_complete (end.SameFile other) lone dead fault refused = absurd lone
only_complete (end.SameHash other) lone dead fault refused = absurd lone
only_complete end.Checksum lone dead fault refused = absurd lone

module _ (laws : RunFollows) (start : RunStart) (gid : Gid) (download : Download) (uris : List (List ℕ))
    (subject : download.subject ≡ Unlisted uris) (word : text_of_word download.options Checksum ≡ None) where
  abbrev It : List Event → Type 0
  It past = IsIt laws start gid download past

  -- ---- its findings

  never_checked : IsNeverChecked laws start gid download
  never_checked past same other right is may =
      let g : other ≡ gid = gid_is gid other is in
      let added = subst (λ (h : Gid). download_in start past h ≡ Some may.own.download) g may.own.added in
      let it = same may.own.download added in
      absurd (let never : true ≡ false =
      sym may.checksum ∙ (ap (λ (d : Download). is_some (text_of_word d.options Checksum)) it ∙ ap is_some word) in cc)

  -- a full piece counts as right
  pub right_only : (past : List Event) → IsLegal start past → It past → (piece : ℕ) (giver : Giver)
      → ¬ Contains past (Settled gid piece false giver)
  right_only [] legal same piece giver there = absurd (let within = there.1 in omega (arith, within))
  right_only (e ∷ past) legal same piece giver there = ⊎_elim
      (λ (here : e ≡ Settled gid piece false giver).
      let may : MayBeSettled start past gid (Settles piece false giver) false = subst (MayFollow start past) here legal.1 in
      let it = it_before laws start gid download e past same may.own.download may.own.added in
      let never : false ≡ true = may.right_is (ap (λ (d : Download). is_listed d.subject) it ∙ ap is_listed subject) in
      absurd cc)
      (λ (was : Contains past (Settled gid piece false giver)).
      right_only past legal.0 (it_before laws start gid download e past same) piece giver was)
      (one_of e (Settled gid piece false giver) past there)

  -- ---- its ends

  abbrev Planned : List Event → Type 0
  Planned past = (lengths : PayloadLengths) → payload_lengths_of start past gid ≡ Some lengths
      → IsPlan lengths.total lengths.piece_len

  planned_before : (e : Event) (past : List Event) → IsLegal start (e ∷ past) → Planned (e ∷ past) → Planned past
  planned_before e past legal planned lengths known = planned lengths (laws.lengths start past e gid lengths legal known)

  -- what was told of it is its length
  told_known : (past : List Event) (total : ℕ) → download_in start past gid ≡ Some download
      → told_total (own_of start past gid) ≡ Some total
      → payload_lengths_of start past gid
      ≡ Some (record { total = total; piece_len = number_value download.options PieceLength })
  told_known past total added told =
      ap (option_and_then (λ (d : Download). lengths_by d d.subject (own_of start past gid))) added
      ∙ (ap (λ (s : Subject). lengths_by download s (own_of start past gid)) subject
      ∙ ap (told_lengths (number_value download.options PieceLength)) told)

  uri_cause : (past : List Event) → IsLegal start past → It past → IsOnly start past gid → Planned past
      → download_in start past gid ≡ Some download → (d : Download) → d ≡ download → d.gid ≡ gid → (wanted : List Bool)
      (how : End) → IsEndCause start past d wanted how → IsUriEnd how
  uri_cause past legal same only planned added d it its wanted end.Complete cause = tt
  uri_cause past legal same only planned added d it its wanted (end.Dead piece mark) cause = tt
  uri_cause past legal same only planned added d it its wanted (end.Disk count) cause = tt
  uri_cause past legal same only planned added d it its wanted (end.Exists length) cause = tt
  uri_cause past legal same only planned added d it its wanted (end.PieceLength have want) cause = tt
  uri_cause past legal same only planned added d it its wanted (end.Length have want) cause = tt
  uri_cause past legal same only planned added d it its wanted end.InfoHash cause = tt
  uri_cause past legal same only planned added d it its wanted (end.Unreadable at) cause = tt
  uri_cause past legal same only planned added d it its wanted (end.TooLarge total) cause =
      let told : told_total (own_of start past gid) ≡ Some total =
      subst (λ (g : Gid). told_total (own_of start past g) ≡ Some total) its cause.told in
      let plan = planned (record { total = total; piece_len = number_value download.options PieceLength })
      (told_known past total added told) in
      absurd (cause.none (subst (λ (x : Download). IsPlan total (number_value x.options PieceLength)) (sym it) plan))
  uri_cause past legal same only planned added d it its wanted (end.SameFile other) cause =
      absurd (none_beside laws start gid download past legal only d its other cause.1.beside)
  uri_cause past legal same only planned added d it its wanted (end.SameHash other) cause =
      absurd (none_beside laws start gid download past legal only d its other cause.1.beside)
  uri_cause past legal same only planned added d it its wanted end.Checksum cause =
      absurd (let never : Some false ≡ None =
      sym cause ∙ (ap (λ (g : Gid). last_check (own_of start past g)) its
      ∙ unchecked laws start gid download never_checked past legal same) in cc)

  uri_here : (past : List Event) → IsLegal start past → It past → IsOnly start past gid → Planned past → (other : Gid)
      (how : End) → MayBeEnded start past other how → (other ≡ gid) × IsUriEnd how
  uri_here past legal same only planned other how may =
      let d = may.own.download in
      let g : other ≡ gid = only other d may.own.added in
      let added : download_in start past gid ≡ Some d =
      subst (λ (h : Gid). download_in start past h ≡ Some d) g may.own.added in
      let it = same d added in
      let its : d.gid ≡ gid = gid_added start past other d may.own.added ∙ g in (
        g,
        uri_cause past legal same only planned (added ∙ ap (λ (x : Download). Some x) it) d it its
            (wanted_pieces d (known_lengths start past other)) how may.cause,
      )

  uri_end : (past : List Event) → IsLegal start past → It past → IsOnly start past gid → Planned past → (other : Gid)
      (how : End) → Contains past (Ended other how) → (other ≡ gid) × IsUriEnd how
  uri_end [] legal same only planned other how there = absurd (let within = there.1 in omega (arith, within))
  uri_end (e ∷ past) legal same only planned other how there = ⊎_elim
      (λ (here : e ≡ Ended other how).
      uri_here past legal.0 (it_before laws start gid download e past same) (only_before laws start gid download e past only)
      (planned_before e past legal planned) other how (subst (MayFollow start past) here legal.1))
      (λ (was : Contains past (Ended other how)).
      uri_end past legal.0 (it_before laws start gid download e past same) (only_before laws start gid download e past only)
      (planned_before e past legal planned) other how was)
      (one_of e (Ended other how) past there)

pub unlisted_complete : RunFollows → {D : Type 0} (state : D → DiskState) → UnlistedOnlyComplete state
unlisted_complete laws state start told disk gid mirror uris payload is other how there =
    let past = history_of told in
    let d = is.lone.download in
    let one = (λ (x : Download) (added : download_in start past gid ≡ Some x). same_download start past gid x d added is.lone.added) in
    let nothing : NothingMarks past gid mirror = (
      λ piece found. right_only laws start gid d uris is.lone.subject is.lone.unchecked past is.run.legal one piece (One mirror) found,
      λ id piece mark lost.
          is.links (id, piece, mark, lost, loss_counted start gid mirror payload told is.faithful id piece mark lost),
    ) in
    let so = uri_end laws start gid d uris is.lone.subject is.lone.unchecked past is.run.legal one is.lone.only is.lone.planned
    other how there in (
      so.0,
      only_complete how so.1
          (λ piece mark dead.
          never_dead laws start gid mirror d (subst (λ (n : ℕ). mirror < n) (sym (ap mirrors_by is.lone.subject)) is.known)
          is.some past is.run.legal one nothing piece mark
          (subst (λ (g : Gid). Contains past (Ended g (end.Dead piece mark))) so.0
          (subst (λ (h : End). Contains past (Ended other h)) dead there)))
          (λ count fault. is.faultless other count (subst (λ (h : End). Contains past (Ended other h)) fault there))
          (never_refused laws start (state disk) gid d told
          (record {
            legal = is.run.legal;
            marks = is.run.marks;
            fits = is.run.fits;
            memory = is.memory;
            only = is.lone.only;
            same = one;
          }) is.free other how there),
    )
