-- The only download of a run isn't refused where no control file of it stood at the beginning.
use Rattle.std.proofs.Common.{◌≡◌, ◌⊎◌, ⊎_elim, inl, inr, ℕ, Bool, true, false, cond, Option, Some, None, List, [], ◌∷◌, ◌++◌, refl, sym, ap, ◌∙◌, subst, arith}
use Rattle.std.specs.Prelude.{Contains, IsSome, codes, find, not}
use Rattle.std.specs.Option.{is_some, option_and_then, option_map}
use Rattle.control_file.specs.declared.want.Want.{Want}
use Rattle.dl_disk.specs.Files.{Files}
use Rattle.dl_disk.specs.State.{DiskState}
use Rattle.dl_history.proofs.Bools.{and_left}
use Rattle.dl_history.proofs.Sole.{some_of}
use Rattle.dl_history.specs.OwnEvents.{OwnEvent}
use Rattle.dl_history.specs.PayloadParts.{is_ended, is_opened}
use Rattle.dl_kinds.specs.declared.gid.Gid.{Gid}
use Rattle.engine_core.proofs.Promising.{download_on, legal_front, opened_on, want_on}
use Rattle.engine_core.specs.Askings.{HasFailedIn, IsAsked, IsNext, is_opened_in}
use Rattle.engine_core.specs.TurnReads.{TurnsFitDisk}
use Rattle.engine_turns.specs.Told.{AllTurns, RunTurn, history_after, history_of}
use Rattle.engine_turns.specs.declared.operations.Operation.{Operation}
use Rattle.engine_turns.specs.declared.operations.Operation.TheVariants as operation
use Rattle.engine_turns.specs.declared.operations.Said.TheVariants.{NoMemory}
use Rattle.machine_core.specs.Claiming.{is_to_open, next_to_open}
use Rattle.machine_core.specs.DownloadWants.{HasWant}
use Rattle.machine_core.specs.FileNames.{IsPayloadName, folder_in}
use Rattle.machine_core.specs.OwnParts.{PayloadLengths, lengths_by, own_of, payload_lengths_of}
use Rattle.machine_core.specs.Replays.{queue_in}
use Rattle.machine_core.specs.RunLegal.{IsEndCause, IsLegal, IsOpening, MayBeEnded, download_in, info_hash_by, known_lengths}
use Rattle.machine_core.specs.Starts.{Download, Listed, RunStart, Subject}
use Rattle.machine_core.specs.Wanted.{wanted_pieces}
use Rattle.machine_core.specs.declared.ends.End.{End}
use Rattle.machine_core.specs.declared.ends.End.TheVariants as end
use Rattle.machine_core.specs.declared.events.Event.{Event}
use Rattle.machine_core.specs.declared.events.Event.TheVariants.{Ended}
use Rattle.metainfo.specs.declared.meta.Meta.{Meta}
use Rattle.payload_files.specs.Names.{name_of}
use Rattle.resume_core.specs.Refusals.{open_refusal, refused_over}
use Rattle.resume_core.specs.Lens.{first_len, lens_in, lens_of}
use Rattle.resume_core.specs.Steps.{SameFor}
use Rattle.resume_core.specs.Wants.{control_name}
use Rattle.resume_core.specs.declared.refusing.OpenErr.TheVariants.{Exists}
use Rattle.stored_run.proofs.Doing.{history_on, own_grows_on}
use Rattle.stored_run.proofs.Left.{ended_grown, ended_in}
use Rattle.stored_run.proofs.PlainEvents.{gid_added}
use Rattle.stored_run.specs.Refused.{IsRefusalEnd}
use Rattle.stored_run.specs.RunFollows.{RunFollows}
use Rattle.blameless_mirrors.specs.Blameless.{FollowsMark}
use Rattle.blameless_mirrors.specs.Lone.{HaveMemory, IsOnly, IsWork, first_time}
use Rattle.blameless_mirrors.proofs.Findings.{come_of, split_at}

-- a refusal comes of a download that is to be opened
refusal_opens : (start : RunStart) (past : List Event) (d : Download) (wanted : List Bool) (how : End) → IsRefusalEnd how
    → IsEndCause start past d wanted how → IsOpening start past d.gid
refusal_opens start past d wanted end.Complete refuses cause = absurd refuses
refusal_opens start past d wanted (end.Dead piece mark) refuses cause = absurd refuses
refusal_opens start past d wanted (end.Disk count) refuses cause = absurd refuses
refusal_opens start past d wanted (end.Exists length) refuses cause = cause.0
refusal_opens start past d wanted (end.PieceLength have want) refuses cause = cause.0
refusal_opens start past d wanted (end.Length have want) refuses cause = cause.0
refusal_opens start past d wanted end.InfoHash refuses cause = cause
refusal_opens start past d wanted (end.Unreadable at) refuses cause = cause
refusal_opens start past d wanted (end.TooLarge total) refuses cause = absurd refuses
refusal_opens start past d wanted (end.SameFile other) refuses cause = absurd refuses
refusal_opens start past d wanted (end.SameHash other) refuses cause = absurd refuses
refusal_opens start past d wanted end.Checksum refuses cause = absurd refuses

next_works : (op : Operation) → IsNext op → IsWork op
next_works (operation.Next worker now) asked = tt
next_works other asked = absurd asked

-- without a control file nothing of a listed want is refused
unrefused : (want : Want) (files : Files) → IsSome want.info_hash → files (control_name want) ≡ None
    → open_refusal want files ≡ None
unrefused want files listed none =
    ap (λ (o : Option (List ℕ)). refused_over want o (first_len (lens_in want files))) none ∙ by want.info_hash listed
  where
    by : (o : Option (List ℕ)) → IsSome o
        → cond (is_some o) None (option_map Exists (first_len (lens_in want files))) ≡ None
    by (Some hash) listed = refl
    by None listed = absurd (let never : false ≡ true = listed in cc)

found_first : (p : Gid → Bool) (x : Gid) (xs : List Gid) (g : Gid) (t : Bool) → p x ≡ t → (find p xs ≡ Some g → p g ≡ true)
    → cond t (Some x) (find p xs) ≡ Some g → p g ≡ true
found_first p x xs g true here rest is = let same : x ≡ g = cc in ap p (sym same) ∙ here
found_first p x xs g false here rest is = rest is

found_passes : (p : Gid → Bool) (xs : List Gid) (g : Gid) → find p xs ≡ Some g → p g ≡ true
found_passes p [] g is = absurd cc
found_passes p (x ∷ xs) g is = found_first p x xs g (p x) refl (found_passes p xs g) is

-- a download whose lengths are known was added
added_of : (o : Option Download) (own : List OwnEvent) (l : PayloadLengths)
    → option_and_then (λ (d : Download). lengths_by d d.subject own) o ≡ Some l → (d : Download) × (o ≡ Some d)
added_of (Some d) own l is = (d, refl)
added_of None own l is = absurd cc

-- where nothing of a want changes, the same is refused of it
same_refused : (want : Want) (old new : Files) → SameFor want old new → open_refusal want new ≡ open_refusal want old
same_refused want old new same i = refused_over want (same.control i) (first_len (lens_of (same.files i)))

-- where no file of the want changes it stays so
abbrev pub IsKeptBy : (Files → Type 0) → Want → Type 0
IsKeptBy Q want = (old new : Files) → SameFor want old new → Q old → Q new

refusals_kept : (want : Want) → IsKeptBy (λ files. open_refusal want files ≡ None) want
refusals_kept want old new same is = same_refused want old new same ∙ is

module _ (laws : RunFollows) (start : RunStart) (disk : DiskState) (gid : Gid) (download : Download) where
  -- what holds after these turns
  pub record Fresh (told : List RunTurn) : Type 0 where
    pub legal : IsLegal start (history_of told)
    pub marks : AllTurns FollowsMark told
    pub fits : TurnsFitDisk start told disk
    pub memory : HaveMemory told
    pub only : IsOnly start (history_of told) gid
    pub same : (d : Download) → download_in start (history_of told) gid ≡ Some d → d ≡ download

  pub fresh_before : (t : RunTurn) (before : List RunTurn) → Fresh (t ∷ before) → Fresh before
  fresh_before t before f = record {
    legal = legal_front start (history_of before) t.events f.legal;
    marks = f.marks.1;
    fits = f.fits.1;
    memory = f.memory.1;
    only = λ other d added. f.only other d (download_on laws start (history_of before) t.events other d added);
    same = λ d added. f.same d (download_on laws start (history_of before) t.events gid d added);
  }

  -- ---- the store was asked once

  next_is : (past : List Event) → IsOnly start past gid → (g : Gid) → next_to_open start past ≡ Some g → g ≡ gid
  next_is past only g next =
      let is = found_passes (is_to_open start past) (queue_in start past).active g next in
      let lengths = some_of (payload_lengths_of start past g)
      (and_left (is_some (payload_lengths_of start past g)) (not (is_opened (own_of start past g))) is) in
      let d = added_of (download_in start past g) (own_of start past g) lengths.0 lengths.1 in
      only g d.0 d.1

  module _ (mid : List Event) (mid_legal : IsLegal start mid) (opening : IsOpening start mid gid) where
    -- an earlier turn that asked the store would have opened the download, or ended it, or been answered for want of memory
    unasked : (told : List RunTurn) (later : List Event) → mid ≡ history_after (history_of told) later → Fresh told → (g : Gid)
        → IsAsked start told g → ⊥
    unasked [] later mid_is f g asked = asked
    unasked (t ∷ before) later mid_is f g (inr asked) =
        unasked before (t.events ++ later)
        (mid_is ∙ sym (history_on (history_of before) t.events later)) (fresh_before t before f) g asked
    unasked (t ∷ before) later mid_is f g (inl asks) =
        let its = next_is (history_of before) (fresh_before t before f).only g asks.next in
        let now = history_of (t ∷ before) in
        ⊎_elim
        (λ (opened : is_opened_in start now g ≡ true).
        absurd (let never : true ≡ false =
        sym (opened_on start now later gid (subst (λ (h : Gid). is_opened_in start now h ≡ true) its opened))
        ∙ (ap (λ (p : List Event). is_opened_in start p gid) (sym mid_is) ∙ opening.unopened) in cc))
        (λ more. ⊎_elim
        (λ (failed : HasFailedIn now g).
        let ended = ended_in start now gid (end.Disk failed.0)
        (subst (λ (h : Gid). Contains now (Ended h (end.Disk failed.0))) its failed.1) in
        let still = ended_grown (own_of start now gid) (own_of start (history_after now later) gid) (own_grows_on start later now gid) ended in
        absurd (let never : true ≡ false =
        sym still ∙ (ap (λ (p : List Event). is_ended (own_of start p gid)) (sym mid_is)
        ∙ laws.going start mid gid mid_legal opening.active) in cc))
        (λ (starved : t.answer.said ≡ NoMemory). f.memory.0 (next_works t.op asks.asked) starved) more) asks.came

    -- so what no change of other files undoes is still so
    still_so : (Q : Files → Type 0) (want : Want) → IsKeptBy Q want → (told : List RunTurn) (later : List Event)
        → mid ≡ history_after (history_of told) later → Fresh told → (t : RunTurn) (before : List RunTurn) → told ≡ t ∷ before
        → Q (disk.seen_at (first_time told)) → Q (disk.seen_at t.after.time)
    still_so Q want kept [] later mid_is f t before is so = absurd cc
    still_so Q want kept (u ∷ []) later mid_is f t before is so =
        let same : u ≡ t = cc in
        subst (λ (x : RunTurn). Q (disk.seen_at x.after.time)) same
        (kept (disk.seen_at u.before.time) (disk.seen_at u.after.time)
        (f.fits.0.fits.untouched want (λ g other asked has. absurd (unasked (u ∷ []) later mid_is f g asked))) so)
    still_so Q want kept (u ∷ v ∷ older) later mid_is f t before is so =
        let same : u ≡ t = cc in
        let f_v = fresh_before u (v ∷ older) f in
        let was = still_so Q want kept (v ∷ older) (u.events ++ later)
        (mid_is ∙ sym (history_on (history_of (v ∷ older)) u.events later)) f_v v older refl so in
        let time : u.before.time ≡ v.after.time = ap (λ s. s.time) f.marks.0 in
        let here : Q (disk.seen_at u.before.time) = subst (λ (k : ℕ). Q (disk.seen_at k)) (sym time) was in
        subst (λ (x : RunTurn). Q (disk.seen_at x.after.time)) same
        (kept (disk.seen_at u.before.time) (disk.seen_at u.after.time)
        (f.fits.0.fits.untouched want (λ g other asked has. absurd (unasked (u ∷ v ∷ older) later mid_is f g asked))) here)

  -- ---- a turn

  -- as it began that was so
  pub so_before : (Q : Files → Type 0) (want : Want) → IsKeptBy Q want → (t : RunTurn) (before : List RunTurn) (mid : List Event)
      → IsLegal start mid → IsOpening start mid gid → (front : List Event) → mid ≡ history_after (history_of before) front
      → Fresh (t ∷ before) → Q (disk.seen_at (first_time (t ∷ before))) → Q (disk.seen_at t.before.time)
  so_before Q want kept t [] mid legal opening front mid_is f so = so
  so_before Q want kept t (u ∷ older) mid legal opening front mid_is f so =
      let time : t.before.time ≡ u.after.time = ap (λ s. s.time) f.marks.0 in
      subst (λ (k : ℕ). Q (disk.seen_at k)) (sym time)
      (still_so mid legal opening Q want kept (u ∷ older) front mid_is (fresh_before t (u ∷ older) f) u older refl so)

  -- no want of the download was refused as the first of the turns began
  abbrev pub IsFreeFirst : List RunTurn → Type 0
  IsFreeFirst told =
      (want : Want) → HasWant start (history_of told) gid want → open_refusal want (disk.seen_at (first_time told)) ≡ None

  pub first_same : (t : RunTurn) (before : List RunTurn) → (before ≡ []) ⊎ (first_time (t ∷ before) ≡ first_time before)
  first_same t [] = inl refl
  first_same t (u ∷ older) = inr refl

  refused_never : (t : RunTurn) (before : List RunTurn) → Fresh (t ∷ before) → IsFreeFirst (t ∷ before) → (other : Gid) (how : End)
      → Contains t.events (Ended other how) → IsRefusalEnd how → ⊥
  refused_never t before f free other how there refuses =
      let past = history_of before in
      let e = Ended other how in
      let split = split_at t.events e there in
      let mid = history_after past split.front in
      let whole = ap (history_after past) split.cut ∙ history_on past split.front (e ∷ split.rest) in
      let legal = legal_front start (e ∷ mid) split.rest (subst (IsLegal start) whole f.legal) in
      let may : MayBeEnded start mid other how = legal.1 in
      let d = may.own.download in
      let later = download_on laws start mid (e ∷ split.rest) other d may.own.added in
      let its : other ≡ gid = f.only other d (subst (λ (p : List Event). download_in start p other ≡ Some d) (sym whole) later) in
      let opening : IsOpening start mid gid =
      subst (λ (g : Gid). IsOpening start mid g) (gid_added start mid other d may.own.added ∙ its)
      (refusal_opens start mid d (wanted_pieces d (known_lengths start mid other)) how refuses may.cause) in
      let so = f.fits.0.fits.refused gid how (subst (λ (g : Gid). Contains t.events (Ended g how)) its there) refuses in
      let never = so_before (λ files. open_refusal so.want files ≡ None) so.want (refusals_kept so.want) t before mid legal.0
      opening split.front refl f (free so.want (want_on laws start past t.events gid so.want f.legal so.has)) in
      absurd (let no : Some so.err ≡ None = sym so.found ∙ never in cc)

  free_earlier : (t : RunTurn) (before : List RunTurn) → Fresh (t ∷ before) → first_time (t ∷ before) ≡ first_time before
      → IsFreeFirst (t ∷ before) → IsFreeFirst before
  free_earlier t before f time free want has =
      subst (λ (k : ℕ). open_refusal want (disk.seen_at k) ≡ None) time
      (free want (want_on laws start (history_of before) t.events gid want f.legal has))

  pub never_refused : (told : List RunTurn) → Fresh told → IsFreeFirst told
      → (other : Gid) (how : End) → Contains (history_of told) (Ended other how) → IsRefusalEnd how → ⊥
  never_refused [] f free other how there refuses = absurd (let within = there.1 in omega (arith, within))
  never_refused (t ∷ before) f free other how there refuses = ⊎_elim
      (λ (here : Contains t.events (Ended other how)). refused_never t before f free other how here refuses)
      (λ (was : Contains (history_of before) (Ended other how)). ⊎_elim
      (λ (empty : before ≡ []).
      let there_none : Contains [] (Ended other how) =
      subst (λ (l : List RunTurn). Contains (history_of l) (Ended other how)) empty was in
      absurd (let within = there_none.1 in omega (arith, within)))
      (λ (time : first_time (t ∷ before) ≡ first_time before).
      never_refused before (fresh_before t before f) (free_earlier t before f time free) other how was refuses)
      (first_same t before))
      (come_of (history_of before) t.events (Ended other how) there)

-- ---- a metainfo file

-- without a control file no want of its download is refused
pub listed_free : (start : RunStart) (past : List Event) (gid : Gid) (meta : Meta) (download : Download) (uris : List (List ℕ))
    → download.subject ≡ Listed meta uris → (want : Want) → want.base ≡ meta.name → want.dir ≡ folder_in download
    → ((d : Download) → download_in start past gid ≡ Some d → d ≡ download) → (files : Files)
    → files (control_name want) ≡ None → (v : Want) → HasWant start past gid v → open_refusal v files ≡ None
listed_free start past gid meta download uris subject want base dir same files none v has =
    let it = same has.download has.added in
    let of : has.download.subject ≡ Listed meta uris = ap (λ (d : Download). d.subject) it ∙ subject in
    let its_base : v.base ≡ meta.name = subst (λ (s : Subject). IsPayloadName has.download s v.base) of has.is.base in
    let its_dir : v.dir ≡ want.dir = has.is.dir ∙ (ap folder_in it ∙ sym dir) in
    let names : v.base ≡ want.base = its_base ∙ sym base in
    unrefused v files
    (subst (λ (o : Option (List ℕ)). IsSome o) (sym (has.is.info_hash ∙ ap info_hash_by of)) refl)
    (ap files (λ i. name_of (its_dir i) (names i ∷ []) ++ codes ".aria2") ∙ none)
