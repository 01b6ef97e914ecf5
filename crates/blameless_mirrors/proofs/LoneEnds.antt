-- Ends that the only download of a run can't have, where it has a metainfo file.
use Rattle.std.proofs.Common.{◌≡◌, ⊎_elim, ℕ, Bool, true, false, cond, Some, None, List, [], ◌∷◌, refl, sym, ap, ◌∙◌, subst, arith}
use Rattle.std.specs.Prelude.{Contains}
use Rattle.dl_history.proofs.Sole.{some_of}
use Rattle.dl_history.specs.OwnEvents.{Checks, Clears, Grants, Halts, Lands, Loses, Opens, OwnEvent, Saves, Settles, Sizes}
use Rattle.dl_history.specs.OwnLegal.{MaySize}
use Rattle.dl_history.specs.PayloadParts.{last_check, told_total}
use Rattle.dl_kinds.specs.declared.claims.Claim.{Claim}
use Rattle.dl_kinds.specs.declared.gid.Gid.{Gid}
use Rattle.machine_core.proofs.Parts.{gid_is, opened_added}
use Rattle.machine_core.specs.OwnParts.{halted_where, halts_by, lengths_by, own_of, payload_lengths_of}
use Rattle.machine_core.specs.Replays.{is_same_gid}
use Rattle.machine_core.specs.RunLegal.{IsEndCause, IsLegal, IsOpenedBeside, KnownAreIdle, MayBeChecked, MayBeEnded, MayFollow, MayOwn, download_in, is_listed, known_lengths}
use Rattle.machine_core.specs.Starts.{Download, Listed, RunStart, Subject}
use Rattle.machine_core.specs.Wanted.{wanted_pieces}
use Rattle.machine_core.specs.declared.ends.End.{End}
use Rattle.machine_core.specs.declared.ends.End.TheVariants as end
use Rattle.machine_core.specs.declared.events.Event.{Event}
use Rattle.machine_core.specs.declared.events.Event.TheVariants.{Called, Opened, Sized, Claimed, Landed, Settled, Cleared, Lost, Checked, Saved, Ended, Left, Stopped}
use Rattle.metainfo.specs.declared.meta.Meta.{Meta}
use Rattle.blameless_mirrors.proofs.ListedLengths.{lengths_told}
use Rattle.std.specs.Option.{option_and_then}
use Rattle.stored_run.proofs.Left.{one_of}
use Rattle.stored_run.proofs.PlainEvents.{gid_added}
use Rattle.stored_run.specs.RunFollows.{RunFollows}
use Rattle.blameless_mirrors.specs.Lone.{IsLoneEnd, IsOnly, LoneDownloadsEndWell}

module _ (laws : RunFollows) (start : RunStart) (gid : Gid) (download : Download) where
  -- what was added under the gid is the download
  abbrev pub IsIt : List Event → Type 0
  IsIt past = (d : Download) → download_in start past gid ≡ Some d → d ≡ download

  pub it_before : (e : Event) (past : List Event) → IsIt (e ∷ past) → IsIt past
  it_before e past same d added = same d (laws.downloads start past e gid d added)

  -- ---- its payload is checked as a whole never

  is_unchecked : (x : OwnEvent) (own : List OwnEvent) (t : Bool) → last_check (x ∷ own) ≡ last_check own
      → last_check own ≡ None → last_check (cond t (x ∷ own) own) ≡ None
  is_unchecked x own true same was = same ∙ was
  is_unchecked x own false same was = was

  halted_unchecked : (own : List OwnEvent) (t : Bool) → last_check own ≡ None → last_check (halted_where t own) ≡ None
  halted_unchecked own true was = was
  halted_unchecked own false was = was

  -- it may be checked at no place of a history
  abbrev pub IsNeverChecked : Type 0
  IsNeverChecked = (past : List Event) → IsIt past → (other : Gid) (right : Bool) → is_same_gid gid other ≡ true
      → MayBeChecked start past other right → ⊥

  checked_unchecked : (own : List OwnEvent) (other : Gid) (right : Bool) (t : Bool) → is_same_gid gid other ≡ t
      → (is_same_gid gid other ≡ true → ⊥) → last_check own ≡ None → last_check (cond t (Checks right ∷ own) own) ≡ None
  checked_unchecked own other right true is never was = absurd (never is)
  checked_unchecked own other right false is never was = was

  pub unchecked : IsNeverChecked → (past : List Event) → IsLegal start past → IsIt past
      → last_check (own_of start past gid) ≡ None
  unchecked never [] legal same = refl
  unchecked never (Called session asked now ∷ past) legal same =
      halted_unchecked (own_of start past gid) (halts_by start past (Called session asked now) asked gid)
      (unchecked never past legal.0 (it_before (Called session asked now) past same))
  unchecked never (Opened other verified blocks now ∷ past) legal same =
      is_unchecked (Opens verified blocks now) (own_of start past gid) (is_same_gid gid other) refl
      (unchecked never past legal.0 (it_before (Opened other verified blocks now) past same))
  unchecked never (Sized other id total ∷ past) legal same =
      is_unchecked (Sizes id total) (own_of start past gid) (is_same_gid gid other) refl
      (unchecked never past legal.0 (it_before (Sized other id total) past same))
  unchecked never (Claimed other claim ∷ past) legal same =
      is_unchecked (Grants claim) (own_of start past gid) (is_same_gid gid other) refl
      (unchecked never past legal.0 (it_before (Claimed other claim) past same))
  unchecked never (Landed other id n run now ∷ past) legal same =
      is_unchecked (Lands id n run) (own_of start past gid) (is_same_gid gid other) refl
      (unchecked never past legal.0 (it_before (Landed other id n run now) past same))
  unchecked never (Settled other piece right giver ∷ past) legal same =
      is_unchecked (Settles piece right giver) (own_of start past gid) (is_same_gid gid other) refl
      (unchecked never past legal.0 (it_before (Settled other piece right giver) past same))
  unchecked never (Cleared other piece ∷ past) legal same =
      is_unchecked (Clears piece) (own_of start past gid) (is_same_gid gid other) refl
      (unchecked never past legal.0 (it_before (Cleared other piece) past same))
  unchecked never (Lost other id n piece mark ∷ past) legal same =
      is_unchecked (Loses id n piece mark) (own_of start past gid) (is_same_gid gid other) refl
      (unchecked never past legal.0 (it_before (Lost other id n piece mark) past same))
  unchecked never (Checked other right ∷ past) legal same =
      let same_past = it_before (Checked other right) past same in
      checked_unchecked (own_of start past gid) other right (is_same_gid gid other) refl
      (λ is. never past same_past other right is legal.1) (unchecked never past legal.0 same_past)
  unchecked never (Saved other now ∷ past) legal same =
      is_unchecked (Saves now) (own_of start past gid) (is_same_gid gid other) refl
      (unchecked never past legal.0 (it_before (Saved other now) past same))
  unchecked never (Ended other how ∷ past) legal same =
      is_unchecked (Halts true) (own_of start past gid) (is_same_gid gid other) refl
      (unchecked never past legal.0 (it_before (Ended other how) past same))
  unchecked never (Left ∷ past) legal same = unchecked never past legal.0 (it_before Left past same)
  unchecked never (Stopped ∷ past) legal same = unchecked never past legal.0 (it_before Stopped past same)

  -- ---- beside others

  pub only_before : (e : Event) (past : List Event) → IsOnly start (e ∷ past) gid → IsOnly start past gid
  only_before e past only other d added = only other d (laws.downloads start past e other d added)

  -- no other is opened
  pub none_beside : (past : List Event) → IsLegal start past → IsOnly start past gid → (d : Download) → d.gid ≡ gid → (other : Gid)
      → IsOpenedBeside start past d.gid other → ⊥
  none_beside past legal only d its other beside =
      let some = some_of (download_in start past other) (opened_added start past other legal beside.opened) in
      beside.apart (ap (λ (g : Gid). g.0) (only other some.0 some.1 ∙ sym its))

-- ---- a metainfo file

module _ (laws : RunFollows) (idle : KnownAreIdle) (start : RunStart) (gid : Gid) (download : Download) (meta : Meta)
    (uris : List (List ℕ)) (subject : download.subject ≡ Listed meta uris) where
  abbrev It : List Event → Type 0
  It past = IsIt laws start gid download past

  listed_of : (d : Download) → d ≡ download → is_listed d.subject ≡ true
  listed_of d is = ap (λ (x : Download). is_listed x.subject) is ∙ ap is_listed subject

  -- ---- no probe tells its length

  is_untold : (x : OwnEvent) (own : List OwnEvent) (t : Bool) → told_total (x ∷ own) ≡ told_total own → told_total own ≡ None
      → told_total (cond t (x ∷ own) own) ≡ None
  is_untold x own true same was = same ∙ was
  is_untold x own false same was = was

  halted_untold : (own : List OwnEvent) (t : Bool) → told_total own ≡ None → told_total (halted_where t own) ≡ None
  halted_untold own true was = was
  halted_untold own false was = was

  never_sized : (past : List Event) → IsLegal start past → It past → (other : Gid) (id total : ℕ)
      → is_same_gid gid other ≡ true → MayOwn start past other (Sizes id total) → ⊥
  never_sized past legal same other id total is may =
      let g : other ≡ gid = gid_is gid other is in
      let added : download_in start past gid ≡ Some may.download =
      subst (λ (h : Gid). download_in start past h ≡ Some may.download) g may.added in
      let it = same may.download added in
      let known : payload_lengths_of start past gid ≡ Some (lengths_told meta) =
      ap (option_and_then (λ (d : Download). lengths_by d d.subject (own_of start past gid)))
      (added ∙ ap (λ (d : Download). Some d) it)
      ∙ ap (λ (s : Subject). lengths_by download s (own_of start past gid)) subject in
      let size : MaySize (own_of start past gid) id =
      subst (λ (h : Gid). MaySize (own_of start past h) id) g may.may in
      let unopened = laws.sound.sized (known_lengths start past gid).total (known_lengths start past gid).piece_len
      (own_of start past gid) id (laws.legal start past gid legal) size in
      let none = idle start past gid (lengths_told meta) legal known unopened in
      let there : Contains [] size.claim = subst (λ (cs : List Claim). Contains cs size.claim) none size.stands in
      absurd (let within = there.1 in omega (arith, within))

  sized_untold : (own : List OwnEvent) (other : Gid) (id total : ℕ) (t : Bool) → is_same_gid gid other ≡ t
      → (is_same_gid gid other ≡ true → ⊥) → told_total own ≡ None → told_total (cond t (Sizes id total ∷ own) own) ≡ None
  sized_untold own other id total true is never was = absurd (never is)
  sized_untold own other id total false is never was = was

  untold : (past : List Event) → IsLegal start past → It past → told_total (own_of start past gid) ≡ None
  untold [] legal same = refl
  untold (Called session asked now ∷ past) legal same =
      halted_untold (own_of start past gid) (halts_by start past (Called session asked now) asked gid)
      (untold past legal.0 (it_before laws start gid download (Called session asked now) past same))
  untold (Opened other verified blocks now ∷ past) legal same =
      is_untold (Opens verified blocks now) (own_of start past gid) (is_same_gid gid other) refl
      (untold past legal.0 (it_before laws start gid download (Opened other verified blocks now) past same))
  untold (Sized other id total ∷ past) legal same =
      let same_past = it_before laws start gid download (Sized other id total) past same in
      sized_untold (own_of start past gid) other id total (is_same_gid gid other) refl
      (λ is. never_sized past legal.0 same_past other id total is legal.1) (untold past legal.0 same_past)
  untold (Claimed other claim ∷ past) legal same =
      is_untold (Grants claim) (own_of start past gid) (is_same_gid gid other) refl
      (untold past legal.0 (it_before laws start gid download (Claimed other claim) past same))
  untold (Landed other id n run now ∷ past) legal same =
      is_untold (Lands id n run) (own_of start past gid) (is_same_gid gid other) refl
      (untold past legal.0 (it_before laws start gid download (Landed other id n run now) past same))
  untold (Settled other piece right giver ∷ past) legal same =
      is_untold (Settles piece right giver) (own_of start past gid) (is_same_gid gid other) refl
      (untold past legal.0 (it_before laws start gid download (Settled other piece right giver) past same))
  untold (Cleared other piece ∷ past) legal same =
      is_untold (Clears piece) (own_of start past gid) (is_same_gid gid other) refl
      (untold past legal.0 (it_before laws start gid download (Cleared other piece) past same))
  untold (Lost other id n piece mark ∷ past) legal same =
      is_untold (Loses id n piece mark) (own_of start past gid) (is_same_gid gid other) refl
      (untold past legal.0 (it_before laws start gid download (Lost other id n piece mark) past same))
  untold (Checked other right ∷ past) legal same =
      is_untold (Checks right) (own_of start past gid) (is_same_gid gid other) refl
      (untold past legal.0 (it_before laws start gid download (Checked other right) past same))
  untold (Saved other now ∷ past) legal same =
      is_untold (Saves now) (own_of start past gid) (is_same_gid gid other) refl
      (untold past legal.0 (it_before laws start gid download (Saved other now) past same))
  untold (Ended other how ∷ past) legal same =
      is_untold (Halts true) (own_of start past gid) (is_same_gid gid other) refl
      (untold past legal.0 (it_before laws start gid download (Ended other how) past same))
  untold (Left ∷ past) legal same = untold past legal.0 (it_before laws start gid download Left past same)
  untold (Stopped ∷ past) legal same = untold past legal.0 (it_before laws start gid download Stopped past same)

  never_checked : (past : List Event) → It past → (other : Gid) (right : Bool) → is_same_gid gid other ≡ true
      → MayBeChecked start past other right → ⊥
  never_checked past same other right is may =
      let g : other ≡ gid = gid_is gid other is in
      let added = subst (λ (h : Gid). download_in start past h ≡ Some may.own.download) g may.own.added in
      absurd (let never : true ≡ false = sym (listed_of may.own.download (same may.own.download added)) ∙ may.unlisted in cc)

  -- ---- its ends

  lone_cause : (past : List Event) → IsLegal start past → It past → IsOnly start past gid → (d : Download)
      → d ≡ download → d.gid ≡ gid → (wanted : List Bool) (how : End) → IsEndCause start past d wanted how → IsLoneEnd how
  lone_cause past legal same only d it its wanted end.Complete cause = tt
  lone_cause past legal same only d it its wanted (end.Dead piece mark) cause = tt
  lone_cause past legal same only d it its wanted (end.Disk count) cause = tt
  lone_cause past legal same only d it its wanted (end.Exists length) cause =
      absurd (let never : true ≡ false = sym (listed_of d it) ∙ cause.1 in cc)
  lone_cause past legal same only d it its wanted (end.PieceLength have want) cause = tt
  lone_cause past legal same only d it its wanted (end.Length have want) cause = tt
  lone_cause past legal same only d it its wanted end.InfoHash cause = tt
  lone_cause past legal same only d it its wanted (end.Unreadable at) cause = tt
  lone_cause past legal same only d it its wanted (end.TooLarge total) cause =
      absurd (let never : Some total ≡ None =
      sym cause.told ∙ (ap (λ (g : Gid). told_total (own_of start past g)) its ∙ untold past legal same) in cc)
  lone_cause past legal same only d it its wanted (end.SameFile other) cause =
      absurd (none_beside laws start gid download past legal only d its other cause.1.beside)
  lone_cause past legal same only d it its wanted (end.SameHash other) cause =
      absurd (none_beside laws start gid download past legal only d its other cause.1.beside)
  lone_cause past legal same only d it its wanted end.Checksum cause =
      absurd (let never : Some false ≡ None =
      sym cause ∙ (ap (λ (g : Gid). last_check (own_of start past g)) its ∙ unchecked laws start gid download never_checked past legal same) in cc)

  lone_here : (past : List Event) → IsLegal start past → It past → IsOnly start past gid → (other : Gid) (how : End)
      → MayBeEnded start past other how → (other ≡ gid) × IsLoneEnd how
  lone_here past legal same only other how may =
      let d = may.own.download in
      let g : other ≡ gid = only other d may.own.added in
      let it = same d (subst (λ (h : Gid). download_in start past h ≡ Some d) g may.own.added) in
      let its : d.gid ≡ gid = gid_added start past other d may.own.added ∙ g in
      (g, lone_cause past legal same only d it its (wanted_pieces d (known_lengths start past other)) how may.cause)

  pub lone_end : (past : List Event) → IsLegal start past → It past → IsOnly start past gid → (other : Gid) (how : End)
      → Contains past (Ended other how) → (other ≡ gid) × IsLoneEnd how
  lone_end [] legal same only other how there = absurd (let within = there.1 in omega (arith, within))
  lone_end (e ∷ past) legal same only other how there = ⊎_elim
      (λ (here : e ≡ Ended other how).
      lone_here past legal.0 (it_before laws start gid download e past same) (only_before laws start gid download e past only) other how
      (subst (MayFollow start past) here legal.1))
      (λ (was : Contains past (Ended other how)).
      lone_end past legal.0 (it_before laws start gid download e past same) (only_before laws start gid download e past only) other how was)
      (one_of e (Ended other how) past there)

pub lone_ends : RunFollows → KnownAreIdle → LoneDownloadsEndWell
lone_ends laws idle start past gid meta legal lone =
    lone_end laws idle start gid lone.download meta lone.uris lone.subject past legal
    (λ d added. let both : Some d ≡ Some lone.download = sym added ∙ lone.added in cc) lone.only
