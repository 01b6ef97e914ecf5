-- A piece that a worker compared: what the disk reads of it, what its digest says, and what comes of it.
use Rattle.std.proofs.Common.{◌≡◌, ◌≢◌, ◌<◌, inl, inr, ℕ, Bool, true, false, Option, Some, List, [], length, slice_get, refl, sym, ap, ◌∙◌, subst, arith}
use Rattle.std.specs.Prelude.{IsSome, slice_index_or}
use Rattle.std.specs.Option.{option_map_or}
use Rattle.std.specs.Str.{bytes_eq}
use Rattle.std.proofs.lemmas.Option.{same_Some, slice_get-get_or}
use Rattle.std.proofs.lemmas.Slice.Eq.{bytes_eq-Decides}
use Rattle.control_file.specs.Wants.{IsListedWant, IsWant}
use Rattle.control_file.specs.declared.want.Want.{Want}
use Rattle.dl_disk.specs.Files.{Files, IsSame}
use Rattle.dl_history.specs.OwnLegal.{MaySettle}
use Rattle.dl_kinds.specs.declared.gid.Gid.{Gid}
use Rattle.engine_turns.specs.Phases.{AfterDisk, AndThen, EndingOr, NoEvent, SettlingPhase}
use Rattle.engine_turns.specs.SealRows.{SealPhase, has_listed_digest}
use Rattle.engine_turns.specs.Standings.{AnswersUnlessStarved}
use Rattle.engine_turns.specs.Told.{history_after}
use Rattle.engine_turns.specs.declared.operations.Said.{Said}
use Rattle.engine_turns.specs.declared.operations.Said.TheVariants.{Done, Void}
use Rattle.engine_turns.specs.declared.outcome.Outcome.{Outcome}
use Rattle.engine_turns.specs.declared.outcome.Outcome.TheVariants.{Over, Starved, Went}
use Rattle.machine_core.specs.DownloadWants.{HasWant, digests_of_subject}
use Rattle.machine_core.specs.MachineViews.{IsFindingOf, IsNext, MachineView}
use Rattle.machine_core.specs.OwnParts.{own_of}
use Rattle.machine_core.specs.RunLegal.{download_in, info_hash_by, is_listed, known_lengths}
use Rattle.machine_core.specs.Starts.{Download, RunStart, Subject, Listed, Unlisted}
use Rattle.machine_core.specs.declared.ends.End.TheVariants as end
use Rattle.machine_core.specs.declared.events.Event.{Event}
use Rattle.machine_core.specs.declared.events.Event.TheVariants.{Ended, Settled}
use Rattle.piece_table.specs.declared.giver.Giver.{Giver}
use Rattle.resume_core.proofs.Filed.{files_kept}
use Rattle.resume_core.specs.Resume.{ReachesPiece, piece_payload}
use Rattle.resume_core.specs.Runs.{ReadsPiece}
use Rattle.sha1.specs.Sha1.{sha1}
use Rattle.verify_piece.specs.Checks.{has_digest}
use Rattle.verify_piece.specs.Seals.{PieceBytes}
use Rattle.stored_run.specs.Settlings.{HasItsDigest, IsListedDigest, IsSettledBetween, IsToBeSettled, ReadsPieceOf, SealedRow, SettlesIfSame, has_digest_in}
use Rattle.stored_run.specs.Steps.{Continues, DoesPart, DoesRow, turn_from}
use Rattle.stored_run.specs.Views.{GoesOpened, IsGoing, kept_want_of, own_in}
use Rattle.stored_run.specs.declared.run.StoredView.{StoredView}
use Rattle.stored_run.proofs.Between.{came_none, came_one}
use Rattle.stored_run.proofs.Doing.{IsGrown, grown_none, part_on, part_stop}
use Rattle.stored_run.proofs.Findings.{gid_found, one_download}
use Rattle.stored_run.proofs.Parts.{grown_by}

-- ---- what is read

-- the piece has the same bytes in the same files
pub reads_same : (want : Want) (piece : ℕ) (old new : Files) (bytes : List ℕ) → IsSame old new
    → ReadsPiece want piece old bytes → ReadsPiece want piece new bytes
reads_same want piece old new bytes same is = record {
  reaches = subst (λ (contents : List (Option (List ℕ))). ReachesPiece want contents piece)
      (sym (files_kept want old new same)) is.reaches;
  bytes = is.bytes ∙ ap (λ (contents : List (Option (List ℕ))). piece_payload want contents piece)
      (sym (files_kept want old new same));
}

-- it has no other bytes
pub reads_one : (want : Want) (piece : ℕ) (seen : Files) (a b : List ℕ) → ReadsPiece want piece seen a
    → ReadsPiece want piece seen b → a ≡ b
reads_one want piece seen a b is_a is_b = is_a.bytes ∙ sym is_b.bytes

module _ {D : Type 0} (r : StoredView D) (gid : Gid) (sealed : PieceBytes) (seen : Files) where
  -- where the listed digest is that of the bytes, the piece has its digest
  pub sealed_digest : ReadsPieceOf r gid sealed.piece seen sealed.bytes → IsListedDigest r gid sealed
      → HasItsDigest r gid sealed.piece seen
  sealed_digest reads listed want kept is =
      listed want kept is ∙ ap (λ (bytes : List ℕ). Some (sha1 bytes)) (reads want kept).bytes

-- ---- its digest

-- among digests that reach as far, just the one at its place is that of right bytes
pub digest_there : (digests : List (List ℕ)) (sealed : PieceBytes) → sealed.piece < length digests
    → has_digest_in digests sealed ≡ true → slice_get digests sealed.piece ≡ Some (sha1 sealed.bytes)
digest_there digests sealed within is =
    let x = slice_index_or digests sealed.piece [] in
    let there : slice_get digests sealed.piece ≡ Some x = slice_get-get_or digests sealed.piece [] within in
    let right : bytes_eq (sha1 sealed.bytes) x ≡ true =
    sym (ap (λ (o : Option (List ℕ)). option_map_or (has_digest sealed.bytes) o true) there) ∙ is in
    there ∙ ap (λ (bytes : List ℕ). Some bytes) (sym ((bytes_eq-Decides (sha1 sealed.bytes) x).0 right))

-- it is the one that the metainfo file lists
digest_listed : (subject : Subject) (digests : List (List ℕ)) (sealed : PieceBytes) → digests ≡ digests_of_subject subject
    → (IsSome (info_hash_by subject) → sealed.piece < length digests)
    → has_digest_in digests sealed ≡ has_listed_digest subject sealed
digest_listed (Listed meta uris) digests sealed same within =
    let there : sealed.piece < length meta.digests =
    subst (λ (ds : List (List ℕ)). sealed.piece < length ds) same (within refl) in
    ap (λ (ds : List (List ℕ)). has_digest_in ds sealed) same
    ∙ ap (λ (o : Option (List ℕ)). option_map_or (has_digest sealed.bytes) o true)
    (slice_get-get_or meta.digests sealed.piece [] there)
digest_listed (Unlisted uris) digests sealed same within = ap (λ (ds : List (List ℕ)). has_digest_in ds sealed) same

pub right_listed : (start : RunStart) (past : List Event) (gid : Gid) (want : Want) (sealed : PieceBytes) (download : Download)
    → HasWant start past gid want → IsWant want → sealed.piece < want.plan.pieces
    → download_in start past gid ≡ Some download
    → has_digest_in want.digests sealed ≡ has_listed_digest download.subject sealed
right_listed start past gid want sealed download has sound within added =
    let same = one_download start past gid has.download download has.added added in
    digest_listed download.subject want.digests sealed
    (has.is.digests ∙ ap (λ (d : Download). digests_of_subject d.subject) same)
    (λ listed.
    let hash : want.info_hash ≡ info_hash_by download.subject =
    has.is.info_hash ∙ ap (λ (d : Download). info_hash_by d.subject) same in
    let many = sound.digests (subst (λ (o : Option (List ℕ)). IsSome o) (sym hash) listed) in
    omega (arith, many, within))

pub right_there : (want : Want) (sealed : PieceBytes) → IsWant want → sealed.piece < want.plan.pieces
    → has_digest_in want.digests sealed ≡ true → IsListedWant want
    → slice_get want.digests sealed.piece ≡ Some (sha1 sealed.bytes)
right_there want sealed sound within is listed =
    let many = sound.digests listed in digest_there want.digests sealed (omega (arith, many, within)) is

-- ---- it may be settled

unlisted_right : (subject : Subject) (sealed : PieceBytes) → is_listed subject ≡ false
    → has_listed_digest subject sealed ≡ true
unlisted_right (Listed meta uris) sealed is = absurd cc
unlisted_right (Unlisted uris) sealed is = refl

pub sealed_may : {D : Type 0} (r : StoredView D) (gid : Gid) (sealed : PieceBytes) (right : Bool)
    → (p : IsToBeSettled r gid sealed.piece) → right ≡ has_listed_digest p.download.subject sealed
    → IsNext r.machine (IsFindingOf gid sealed.piece right)
sealed_may r gid sealed right p is = (
  Settled gid sealed.piece right p.giver,
  (p.giver, refl),
  record {
    own = record { download = p.download; added = p.added; may = p.may };
    right_is = λ un. is ∙ unlisted_right p.download.subject sealed un;
  },
)

-- ---- between the reading and the settling

module _ {D : Type 0} (old new : StoredView D) (same : new.machine ≡ old.machine) (gid : Gid) (piece : ℕ) where
  pub going_still : IsGoing old gid → IsGoing new gid
  going_still is = subst (λ (m : MachineView). GoesOpened m.start m.past gid) (sym same) is

  pub settled_still : IsToBeSettled old gid piece → IsToBeSettled new gid piece
  settled_still p = record {
    download = p.download;
    added = subst (λ (m : MachineView). download_in m.start m.past gid ≡ Some p.download) (sym same) p.added;
    giver = p.giver;
    may = subst (λ (m : MachineView). MaySettle (known_lengths m.start m.past gid).total
        (known_lengths m.start m.past gid).piece_len (own_of m.start m.past gid) piece p.giver) (sym same) p.may;
  }

  pub reads_still : (n : ℕ) → Continues n old new → (seen seen' : Files) → IsSame seen seen' → (bytes : List ℕ)
      → (w : Want) → kept_want_of old gid ≡ Some w → ReadsPieceOf old gid piece seen bytes
      → ReadsPieceOf new gid piece seen' bytes
  reads_still n on seen seen' alike bytes w kept reads want is =
      subst (λ (x : Want). ReadsPiece x piece seen' bytes) (same_Some w want (sym (on.wants gid w kept) ∙ is))
      (reads_same w piece seen seen' bytes alike (reads w kept))

-- ---- nothing was settled

settled_ended : {P : Type 0} (gid other : Gid) (piece count : ℕ) (right : Bool) (giver : Giver)
    → Settled gid piece right giver ≡ Ended other (end.Disk count) → P
settled_ended gid other piece count right giver is = absurd cc

module _ {D : Type 0} (old new : StoredView D) (gid : Gid) (f f' : ℕ) where
  -- all was read
  pub read_past : DoesPart (λ at. AfterDisk at gid []) old f new f' Went → new.machine.past ≡ old.machine.past
  read_past did =
      let none : did.events ≡ [] = did.is 0 (omega arith) in
      subst (λ (events : List Event). new.machine.past ≡ history_after old.machine.past events)
      none did.grown

  pub read_unsettled : {P : Type 0} (piece : ℕ) → new.machine.past ≡ old.machine.past
      → IsSettledBetween old.machine.past new.machine.past gid piece → P
  read_unsettled piece same is =
      came_none old.machine.past new.machine.past (Settled gid piece is.0 is.1) same is.2

  -- or it wasn't
  pub unread_unsettled : {P : Type 0} (piece : ℕ) (o : Outcome) → (o ≢ Went)
      → DoesPart (λ at. AfterDisk at gid []) old f new f' o
      → IsSettledBetween old.machine.past new.machine.past gid piece → P
  unread_unsettled piece Went stopped did is = absurd (stopped refl)
  unread_unsettled piece Over stopped did is =
      let fault = did.is 0 (omega arith) in
      let one = subst (λ (events : List Event). new.machine.past ≡ history_after old.machine.past events)
      fault.2 did.grown in
      settled_ended gid gid piece fault.0 is.0 is.1
      (came_one old.machine.past new.machine.past (Settled gid piece is.0 is.1) (Ended gid (end.Disk fault.0)) one is.2)
  unread_unsettled piece Starved stopped did is =
      let none : did.events ≡ [] = did.is 0 (omega arith) in
      read_unsettled piece (subst
      (λ (events : List Event). new.machine.past ≡ history_after old.machine.past events)
      none did.grown) is

-- ---- the answer

module _ {D : Type 0} (old new : StoredView D) (gid : Gid) (sealed : PieceBytes) (f f' : ℕ) where
  void_row : DoesPart (λ at. AfterDisk at gid []) old f new f' Went → DoesRow (SealedRow gid sealed) old f new f' Void
  void_row did = record {
    events = did.events;
    grown = did.grown;
    is = λ from s below standing. inl (did.is from below, refl);
    later = did.later;
    counts = did.counts;
  }

  sealed_row : (download : Download) (o : Outcome) (said : Said)
      → download_in old.machine.start old.machine.past gid ≡ Some download → AnswersUnlessStarved Done o said
      → DoesPart (λ at. SealPhase at download sealed) old f new f' o → DoesRow (SealedRow gid sealed) old f new f' said
  sealed_row download o said added answer did = record {
    events = did.events;
    grown = did.grown;
    is = λ from s below standing. inr (record {
      download = download;
      added = subst (λ (past : List Event). download_in old.machine.start past gid ≡ Some download) (sym standing) added;
      outcome = o;
      is = subst (λ (past : List Event). SealPhase (turn_from old from) download sealed past did.events o) (sym standing)
          (did.is from below);
      answer = answer;
    });
    later = did.later;
    counts = did.counts;
  }

  at_download : (o : Outcome) (download : Download) → download_in old.machine.start old.machine.past gid ≡ Some download
      → DoesPart (λ at. AfterDisk at gid []) old f new f' o → DoesPart (λ at. AfterDisk at download.gid []) old f new f' o
  at_download o download added did =
      subst (λ (g : Gid). DoesPart (λ at. AfterDisk at g []) old f new f' o)
      (sym (gid_found old.machine.start old.machine.past gid download added)) did

  -- the piece can't be read
  pub unread_seal : (download : Download) (o : Outcome) (said : Said)
      → download_in old.machine.start old.machine.past gid ≡ Some download → (o ≢ Went) → AnswersUnlessStarved Done o said
      → DoesPart (λ at. AfterDisk at gid []) old f new f' o → DoesRow (SealedRow gid sealed) old f new f' said
  unread_seal download o said added stopped answer did =
      sealed_row download o said added answer
      (part_stop (λ at. AfterDisk at download.gid [])
      (λ at. AndThen (SettlingPhase at download sealed.piece (has_listed_digest download.subject sealed))
      (EndingOr at download NoEvent)) old new new f f' o stopped (at_download o download added did))

pub not_void : {P : Type 0} (o : Outcome) → AnswersUnlessStarved Done o Void → P
not_void Went is = absurd cc
not_void Over is = absurd cc
not_void Starved is = absurd cc

module _ {D : Type 0} (F : D → ℕ) (old mid new : StoredView D) (gid : Gid) (sealed : PieceBytes) (bytes : List ℕ)
    (download : Download) (said : Said) (added : download_in old.machine.start old.machine.past gid ≡ Some download)
    (on : Continues 1 old mid) (read : DoesPart (λ at. AfterDisk at gid []) old (F old.disk) mid (F mid.disk) Went) where
  -- it was read
  pub seal_row : SettlesIfSame download sealed bytes mid (F mid.disk) new (F new.disk) said
      → DoesRow (SealedRow gid sealed) old (F old.disk) new (F new.disk) said
  seal_row (inl is) =
      subst (λ (r : StoredView D). DoesRow (SealedRow gid sealed) old (F old.disk) r (F r.disk) said) (sym is.1)
      (subst (λ (x : Said). DoesRow (SealedRow gid sealed) old (F old.disk) mid (F mid.disk) x) (sym is.2)
      (void_row old mid gid sealed (F old.disk) (F mid.disk) read))
  seal_row (inr is) =
      sealed_row old new gid sealed (F old.disk) (F new.disk) download is.1.0 said added is.1.1
      (part_on (λ at. AfterDisk at download.gid [])
      (λ at. AndThen (SettlingPhase at download sealed.piece (has_listed_digest download.subject sealed))
      (EndingOr at download NoEvent)) old mid new 1 (F old.disk) (F mid.disk) (F new.disk) is.1.0 on
      (at_download old mid gid sealed (F old.disk) (F mid.disk) Went download added read) is.1.2)

  -- the bytes that were read are the sealed ones where it was settled, and others where the seal is void
  pub same_settled : SettlesIfSame download sealed bytes mid (F mid.disk) new (F new.disk) said
      → IsSettledBetween old.machine.past new.machine.past gid sealed.piece → bytes ≡ sealed.bytes
  same_settled (inl is) came =
      read_unsettled old new gid (F old.disk) (F new.disk) sealed.piece
      (ap (λ (r : StoredView D). r.machine.past) is.1 ∙ read_past old mid gid (F old.disk) (F mid.disk) read) came
  same_settled (inr is) came = is.0

  pub seal_grown : SettlesIfSame download sealed bytes mid (F mid.disk) new (F new.disk) said → (n : ℕ)
      → Continues n mid new → (g : Gid) → IsGrown (own_in mid g) (own_in new g)
  seal_grown (inl is) n rest g =
      subst (λ (r : StoredView D). IsGrown (own_in mid g) (own_in r g)) (sym is.1) (grown_none (own_in mid g))
  seal_grown (inr is) n rest g =
      grown_by (λ at. AndThen (SettlingPhase at download sealed.piece (has_listed_digest download.subject sealed))
      (EndingOr at download NoEvent)) mid new n (F mid.disk) (F new.disk) is.1.0 rest is.1.2 g

  pub void_other : SettlesIfSame download sealed bytes mid (F mid.disk) new (F new.disk) said → said ≡ Void
      → bytes ≢ sealed.bytes
  void_other (inl is) void = is.0
  void_other (inr is) void = not_void is.1.0 (subst (λ (x : Said). AnswersUnlessStarved Done is.1.0 x) void is.1.1)
