-- When a download may be complete.
use Rattle.std.proofs.Common.{◌≡◌, ◌<◌, ◌∙◌, ℕ, Bool, true, false, Option, Some, List, [], ◌∷◌, get_or, refl, sym, ap, subst, arith}
use Rattle.std.specs.Prelude.{◌↔◌, ◌&&◌, not}
use Rattle.std.specs.Option.{is_some, option_map_or}
use Rattle.std.proofs.lemmas.List.FromFn.{get_or-map-range_with_len}
use Rattle.dl_history.specs.OwnEvents.{OwnEvent, Checks}
use Rattle.dl_history.specs.PayloadParts.{is_verified_in, last_check}
use Rattle.dl_kinds.specs.Plan.{pieces_of}
use Rattle.dl_kinds.specs.declared.gid.Gid.{Gid}
use Rattle.engine_turns.specs.Phases.{AfterDisk, IsWantedVerified, TurnStart}
use Rattle.engine_turns.specs.Told.{history_after}
use Rattle.engine_turns.specs.declared.outcome.Outcome.{Outcome}
use Rattle.engine_turns.specs.declared.outcome.Outcome.TheVariants.{Over, Starved, Went}
use Rattle.machine_core.specs.Done.{IsDoneGid}
use Rattle.machine_core.specs.MachineViews.{MachineView}
use Rattle.machine_core.specs.Openings.{wanted_of_gid}
use Rattle.machine_core.specs.OwnParts.{PayloadLengths, own_of}
use Rattle.machine_core.specs.Reads.{lengths_of_gid}
use Rattle.machine_core.specs.RunLegal.{MayFollow, download_in, has_checksum, info_hash_by, is_listed, known_lengths}
use Rattle.machine_core.specs.Starts.{Download, Listed, RunStart, Subject, Unlisted}
use Rattle.machine_core.specs.Wanted.{wanted_by, wanted_pieces}
use Rattle.option_set.specs.Values.{text_of_word}
use Rattle.option_set.specs.declared.kinds.Word.TheVariants as word
use Rattle.machine_core.specs.declared.ends.End.TheVariants as end
use Rattle.machine_core.specs.declared.events.Event.{Event}
use Rattle.machine_core.specs.declared.events.Event.TheVariants.{Checked, Ended}
use Rattle.machine_core.specs.RunLegal.{IsLegal}
use Rattle.dl_kinds.specs.ChecksumView.{ChecksumView}
use Rattle.stored_run.specs.Settlings.{SpellsCheckOf}
use Rattle.stored_run.specs.RunFollows.{RunFollows}
use Rattle.stored_run.specs.Steps.{DoesPart, turn_from}
use Rattle.stored_run.specs.declared.run.StoredView.{StoredView}
use Rattle.stored_run.specs.Views.{GoesOpened}
use Rattle.stored_run.proofs.Endings.{checked_own, may_end}
use Rattle.stored_run.proofs.Findings.{gid_found, same_lengths}
use Rattle.stored_run.proofs.Single.{moved, own_then}

-- what a machine tells of a download that was added
pub done_as : (m : MachineView) (gid : Gid) (download : Download) → download_in m.start m.past gid ≡ Some download
    → IsDoneGid m gid ↔ IsWantedVerified m.start m.past download
done_as m gid download added =
    let gid_is = gid_found m.start m.past gid download added in
    let wanted : wanted_of_gid m gid ≡ wanted_pieces download (known_lengths m.start m.past download.gid) =
    ap (λ (o : Option Download). option_map_or (λ (d : Download). wanted_pieces d (lengths_of_gid m gid)) o []) added
    ∙ ap (λ (g : Gid). wanted_pieces download (known_lengths m.start m.past g)) (sym gid_is) in
    let own : own_of m.start m.past gid ≡ own_of m.start m.past download.gid =
    ap (λ (g : Gid). own_of m.start m.past g) (sym gid_is) in (
      λ done piece is.
          ap (λ (xs : List OwnEvent). is_verified_in xs piece) (sym own)
          ∙ done piece (ap (λ (row : List Bool). get_or row piece false) wanted ∙ is),
      λ done piece is.
          ap (λ (xs : List OwnEvent). is_verified_in xs piece) own
          ∙ done piece (ap (λ (row : List Bool). get_or row piece false) (sym wanted) ∙ is),
    )

-- a download whose wanted pieces are verified may be complete, where its last check says so or it has no checksum
pub may_complete : RunFollows → (start : RunStart) (past : List Event) (gid : Gid) (download : Download)
    → IsLegal start past → GoesOpened start past gid → download_in start past gid ≡ Some download
    → IsWantedVerified start past download
    → (has_checksum download ≡ true → last_check (own_of start past gid) ≡ Some true)
    → MayFollow start past (Ended gid end.Complete)
may_complete laws start past gid download legal going added done checked =
    let gid_is = gid_found start past gid download added in
    may_end laws start past gid download end.Complete legal going added
    (record {
      verified = subst (λ (g : Gid). (piece : ℕ)
          → get_or (wanted_pieces download (known_lengths start past g)) piece false ≡ true
          → is_verified_in (own_of start past download.gid) piece ≡ true) gid_is done;
      checked = λ has. subst (λ (g : Gid). last_check (own_of start past g) ≡ Some true) (sym gid_is) (checked has);
    })

-- or it has a wrong checksum
pub may_be_wrong : RunFollows → (start : RunStart) (past : List Event) (gid : Gid) (download : Download)
    → IsLegal start past → GoesOpened start past gid → download_in start past gid ≡ Some download
    → last_check (own_of start past gid) ≡ Some false → MayFollow start past (Ended gid end.Checksum)
may_be_wrong laws start past gid download legal going added checked =
    may_end laws start past gid download end.Checksum legal going added
    (subst (λ (g : Gid). last_check (own_of start past g) ≡ Some false) (sym (gid_found start past gid download added))
    checked)

-- ---- after a check

disk_events : (at : TurnStart) (gid : Gid) (due past events : List Event) (o : Outcome) → o ≡ Went
    → AfterDisk at gid due past events o → events ≡ due
disk_events at gid due past events Went went is = is
disk_events at gid due past events Over went is = absurd cc
disk_events at gid due past events Starved went is = absurd cc

pub disk_past : {D : Type 0} (old new : StoredView D) (gid : Gid) (due : List Event) (f f' : ℕ) (o : Outcome)
    → DoesPart (λ at. AfterDisk at gid due) old f new f' o → o ≡ Went
    → new.machine.past ≡ history_after old.machine.past due
disk_past old new gid due f f' o did went =
    did.grown ∙ ap (λ (events : List Event). history_after old.machine.past events)
    (disk_events (turn_from old f) gid due old.machine.past did.events o went (did.is f (omega arith)))

pub check_last : (start start' : RunStart) (past past' : List Event) (gid : Gid) (right : Bool) → start' ≡ start
    → past' ≡ Checked gid right ∷ past → last_check (own_of start' past' gid) ≡ Some right
check_last start start' past past' gid right start_is past_is =
    moved (λ (s : RunStart) (xs : List Event). last_check (own_of s xs gid) ≡ Some right) start start'
    (Checked gid right ∷ past) past' start_is past_is
    (ap last_check (own_then (Checked gid right) gid (Checks right) start past (checked_own gid right)))

check_verified : (start : RunStart) (past : List Event) (download : Download) (right : Bool)
    → IsWantedVerified start past download → IsWantedVerified start (Checked download.gid right ∷ past) download
check_verified start past download right done piece is =
    let gid = download.gid in
    let e = Checked gid right in
    let lengths = same_lengths start past gid e (Checks right) (checked_own gid right) refl refl in
    ap (λ (xs : List OwnEvent). is_verified_in xs piece) (own_then e gid (Checks right) start past (checked_own gid right))
    ∙ done piece (ap (λ (l : PayloadLengths). get_or (wanted_pieces download l) piece false) (sym lengths) ∙ is)

pub check_done : (start start' : RunStart) (past past' : List Event) (gid : Gid) (download : Download) (right : Bool)
    → start' ≡ start → past' ≡ Checked gid right ∷ past → download.gid ≡ gid → IsWantedVerified start past download
    → IsWantedVerified start' past' download
check_done start start' past past' gid download right start_is past_is gid_is done =
    moved (λ (s : RunStart) (xs : List Event). IsWantedVerified s xs download) start start' (Checked gid right ∷ past) past'
    start_is past_is
    (subst (λ (g : Gid). IsWantedVerified start (Checked g right ∷ past) download) gid_is
    (check_verified start past download right done))

-- ---- a check

all_wanted : (subject : Subject) (text : Option (List ℕ)) (lengths : PayloadLengths) (piece : ℕ) → is_listed subject ≡ false
    → wanted_by subject text lengths piece ≡ true
all_wanted (Listed meta uris) text lengths piece un = absurd cc
all_wanted (Unlisted uris) text lengths piece un = refl

wanted_at : (download : Download) (lengths : PayloadLengths) (piece : ℕ) → is_listed download.subject ≡ false
    → piece < pieces_of lengths.total lengths.piece_len → get_or (wanted_pieces download lengths) piece false ≡ true
wanted_at download lengths piece un below =
    get_or-map-range_with_len (wanted_by download.subject (text_of_word download.options word.SelectFile) lengths) 0
    (pieces_of lengths.total lengths.piece_len) piece piece false below (omega arith)
    ∙ all_wanted download.subject (text_of_word download.options word.SelectFile) lengths piece un

-- each piece is wanted of a download without a metainfo file, so that its payload may be checked
pub may_check : (start : RunStart) (past : List Event) (gid : Gid) (download : Download) (right : Bool)
    → GoesOpened start past gid → download_in start past gid ≡ Some download → is_listed download.subject ≡ false
    → is_some (text_of_word download.options word.Checksum) ≡ true → IsWantedVerified start past download
    → MayFollow start past (Checked gid right)
may_check start past gid download right going added un text done =
    let gid_is = gid_found start past gid download added in
    let done_here = subst (λ (g : Gid). (piece : ℕ)
    → get_or (wanted_pieces download (known_lengths start past g)) piece false ≡ true
    → is_verified_in (own_of start past g) piece ≡ true) gid_is done in
    record {
      own = record {
        download = download;
        added = added;
        may = record {
          opened = going.opened;
          verified = λ piece below. done_here piece (wanted_at download (known_lengths start past gid) piece un below);
        };
      };
      unlisted = un;
      checksum = text;
    }

pub not_both : {P : Type 0} (b : Bool) → b ≡ true → b ≡ false → P
not_both true is un = absurd cc
not_both false is un = absurd cc

pub has_of : (download : Download) (check : ChecksumView) → SpellsCheckOf download check → has_checksum download ≡ true
has_of download check spelled =
    ap (λ (b : Bool). not b && is_some (text_of_word download.options word.Checksum)) spelled.unlisted
    ∙ ap is_some spelled.option

-- a download has an info hash exactly where it has a metainfo file
pub hash_listed : (subject : Subject) → is_some (info_hash_by subject) ≡ true → is_listed subject ≡ true
hash_listed (Listed meta uris) is = refl
hash_listed (Unlisted uris) is = absurd cc

pub hash_unlisted : (subject : Subject) → is_some (info_hash_by subject) ≡ false → is_listed subject ≡ false
hash_unlisted (Listed meta uris) is = absurd cc
hash_unlisted (Unlisted uris) is = refl

pub listed_none : (download : Download) → is_listed download.subject ≡ true → has_checksum download ≡ false
listed_none download is =
    ap (λ (b : Bool). not b && is_some (text_of_word download.options word.Checksum)) is
