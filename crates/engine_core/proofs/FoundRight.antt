-- A sealed piece is found right just where the files have its digest.
use Rattle.std.proofs.Common.{◌≡◌, ⊎_elim, ◌<◌, ℕ, Bool, true, false, List, [], ◌∷◌, Option, Some, None, length, slice_get, refl, sym, ap, ◌∙◌, subst, arith}
use Rattle.std.specs.Prelude.{◌↔◌, All, Contains, IsSome, slice_index_or, unwrap_or}
use Rattle.std.proofs.lemmas.List.Elements.{All-append, All-cons, All-contains, All-nil}
use Rattle.std.proofs.lemmas.Option.{get_or_from_slice_get, slice_get-get_or}
use Rattle.std.proofs.lemmas.Slice.Eq.{bytes_eq-Decides}
use Rattle.control_file.specs.Wants.{IsListedWant, IsWant}
use Rattle.control_file.specs.declared.want.Want.{Want}
use Rattle.dl_disk.specs.Files.{Files}
use Rattle.dl_kinds.specs.Plan.{pieces_of}
use Rattle.dl_kinds.specs.declared.gid.Gid.{Gid}
use Rattle.engine_turns.specs.Phases.{AfterDisk, AndThen, BreaksOff, CheckedPhase, CompletionPhase, ContinuesWith, DeadPhase, EndAfterDisk, EndingOr, FindingPhase, IfElse, JustEnd, JustEvent, NoEvent, Phase, SavePhase, SettlingPhase, TurnStart, UnlistingPhase, after_finding_phase}
use Rattle.engine_turns.specs.RunTurns.{IsAnswered}
use Rattle.engine_turns.specs.SealRows.{IsSettled, SealPhase, has_listed_digest}
use Rattle.engine_turns.specs.Standings.{AnswersOnly, RunStanding}
use Rattle.engine_turns.specs.Told.{history_after}
use Rattle.engine_turns.specs.declared.operations.Operation.TheVariants as operation
use Rattle.engine_turns.specs.declared.operations.Said.{Said}
use Rattle.engine_turns.specs.declared.operations.Said.TheVariants.{Void}
use Rattle.engine_turns.specs.declared.outcome.Outcome.{Outcome}
use Rattle.engine_turns.specs.declared.outcome.Outcome.TheVariants.{Went, Over, Starved}
use Rattle.dl_kinds.specs.declared.runs.Moment.{Moment}
use Rattle.machine_core.specs.DownloadWants.{HasWant, digests_of_subject}
use Rattle.machine_core.specs.Offers.{is_handed_out}
use Rattle.machine_core.specs.OwnParts.{PayloadLengths, no_lengths}
use Rattle.machine_core.specs.RunLegal.{download_in, has_checksum, info_hash_by, known_lengths}
use Rattle.machine_core.specs.Starts.{Download, RunStart, Subject, Listed, Unlisted}
use Rattle.machine_core.specs.declared.ends.End.{End}
use Rattle.machine_core.specs.declared.ends.End.TheVariants as end
use Rattle.machine_core.specs.declared.events.Event.{Event}
use Rattle.machine_core.specs.declared.events.Event.TheVariants.{Settled, Cleared, Checked, Saved, Ended}
use Rattle.piece_table.specs.declared.giver.Giver.{Giver}
use Rattle.resume_core.specs.Resume.{piece_payload}
use Rattle.resume_core.specs.Runs.{ReadsPiece}
use Rattle.resume_core.specs.Wants.{files_in}
use Rattle.sha1.specs.Sha1.{sha1}
use Rattle.verify_piece.specs.Checks.{has_digest}
use Rattle.verify_piece.specs.Seals.{PieceBytes}
use Rattle.stored_run.proofs.Seals.{none_some}
use Rattle.engine_core.specs.TurnReads.{IsFoundRight}
use Rattle.engine_core.proofs.Turned.{same_download}

-- ---- what the events of a seal find

-- a piece that the event settles is found so
abbrev pub FindsAs : Bool → Event → Type 0
FindsAs right (Settled gid piece found giver) = found ≡ right
FindsAs right e = Unit {0}

abbrev AllFind : Bool → List Event → Type 0
AllFind right events = All (FindsAs right) events

abbrev IsFinding : Bool → Phase → Type 0
IsFinding right P = (past events : List Event) (o : Outcome) → P past events o → AllFind right events

find_nothing : (right : Bool) (events : List Event) → events ≡ [] → AllFind right events
find_nothing right events is = subst (AllFind right) (sym is) (All-nil (FindsAs right))

find_one : (right : Bool) (e : Event) (events : List Event) → FindsAs right e → events ≡ e ∷ [] → AllFind right events
find_one right e events finds is =
    subst (AllFind right) (sym is) (All-cons (FindsAs right) e [] finds (All-nil (FindsAs right)))

finding_none : (right : Bool) → IsFinding right NoEvent
finding_none right past events Went is = find_nothing right events is
finding_none right past events Over is = absurd is
finding_none right past events Starved is = absurd is

finding_event : (right : Bool) (e : Event) → FindsAs right e → IsFinding right (JustEvent e)
finding_event right e finds past events Went is = find_one right e events finds is
finding_event right e finds past events Over is = absurd is
finding_event right e finds past events Starved is = absurd is

finding_end : (right : Bool) (e : Event) → FindsAs right e → IsFinding right (JustEnd e)
finding_end right e finds past events Went is = absurd is
finding_end right e finds past events Over is = find_one right e events finds is
finding_end right e finds past events Starved is = absurd is

finding_then : (right : Bool) (P Q : Phase) → IsFinding right P → IsFinding right Q → IsFinding right (AndThen P Q)
finding_then right P Q first second past events o is = ⊎_elim
    (λ (stops : BreaksOff P past events o). first past events o stops.0)
    (λ (on : ContinuesWith P Q past events o). subst (AllFind right) (sym on.cut)
    (All-append (FindsAs right) on.front on.rest (first past on.front Went on.first)
    (second (history_after past on.front) on.rest o on.second))) is

finding_if : (right : Bool) (Holds : Type 0) (P Q : Phase) → IsFinding right P → IsFinding right Q
    → IsFinding right (IfElse Holds P Q)
finding_if right Holds P Q first second past events o is = ⊎_elim
    (λ (here : Holds × P past events o). first past events o here.1)
    (λ (else : (Holds → ⊥) × Q past events o). second past events o else.1) is

finding_disk : (right : Bool) (at : TurnStart) (gid : Gid) (due : List Event) → AllFind right due
    → IsFinding right (AfterDisk at gid due)
finding_disk right at gid due finds past events Went is = subst (AllFind right) (sym is) finds
finding_disk right at gid due finds past events Over is = find_one right (Ended gid (end.Disk is.0)) events tt is.2
finding_disk right at gid due finds past events Starved is = find_nothing right events is

finding_end_disk : (right : Bool) (at : TurnStart) (gid : Gid) (how : End) → IsFinding right (EndAfterDisk at gid how)
finding_end_disk right at gid how past events Went is = absurd is
finding_end_disk right at gid how past events Over is = ⊎_elim
    (λ (ends : events ≡ Ended gid how ∷ []). find_one right (Ended gid how) events tt ends)
    (λ fault. find_one right (Ended gid (end.Disk fault.0)) events tt fault.2) is
finding_end_disk right at gid how past events Starved is = find_nothing right events is

finding_dead : (right : Bool) (at : TurnStart) (download : Download) (piece : ℕ) → IsFinding right (DeadPhase at download piece)
finding_dead right at download piece past events Went is = find_nothing right events is.0
finding_dead right at download piece past events Over is =
    find_one right (Ended download.gid (end.Dead piece is.0)) events tt is.2
finding_dead right at download piece past events Starved is = absurd is

finding_unlisting : (right : Bool) (at : TurnStart) (gid : Gid) (piece : ℕ) → IsFinding right (UnlistingPhase at gid piece)
finding_unlisting right at gid piece past events o is =
    finding_if right _ NoEvent (SavePhase at gid) (finding_none right)
    (finding_disk right at gid (Saved gid at.now ∷ []) (find_one right (Saved gid at.now) (Saved gid at.now ∷ []) tt refl))
    past events o is

finding_after : (right found : Bool) (at : TurnStart) (download : Download) (piece : ℕ)
    → IsFinding right (after_finding_phase at download piece found)
finding_after right true at download piece = finding_none right
finding_after right false at download piece =
    finding_then right (UnlistingPhase at download.gid piece)
    (AndThen (JustEvent (Cleared download.gid piece)) (DeadPhase at download piece))
    (finding_unlisting right at download.gid piece)
    (finding_then right (JustEvent (Cleared download.gid piece)) (DeadPhase at download piece)
    (finding_event right (Cleared download.gid piece) tt) (finding_dead right at download piece))

finding_found : (right : Bool) (at : TurnStart) (gid : Gid) (piece : ℕ) → IsFinding right (FindingPhase at gid piece right)
finding_found right at gid piece past events Went is = find_one right (Settled gid piece right is.0) events refl is.2
finding_found right at gid piece past events Over is = absurd is
finding_found right at gid piece past events Starved is = absurd is

finding_checked : (right checked : Bool) (at : TurnStart) (gid : Gid) → IsFinding right (CheckedPhase at gid checked)
finding_checked right true at gid = finding_end_disk right at gid end.Complete
finding_checked right false at gid = finding_end right (Ended gid end.Checksum) tt

finding_completion : (right has : Bool) (at : TurnStart) (gid : Gid) → IsFinding right (CompletionPhase at gid has)
finding_completion right false at gid past events o is = finding_end_disk right at gid end.Complete past events o is
finding_completion right true at gid past events o is =
    finding_then right (AfterDisk at gid (Checked gid is.0 ∷ [])) (CheckedPhase at gid is.0)
    (finding_disk right at gid (Checked gid is.0 ∷ []) (find_one right (Checked gid is.0) (Checked gid is.0 ∷ []) tt refl))
    (finding_checked right is.0 at gid) past events o is.1

finding_ending : (right : Bool) (at : TurnStart) (download : Download) → IsFinding right (EndingOr at download NoEvent)
finding_ending right at download past events o is =
    finding_if right _ (CompletionPhase at download.gid (has_checksum download)) NoEvent
    (finding_completion right (has_checksum download) at download.gid) (finding_none right) past events o is

finding_seal : (at : TurnStart) (download : Download) (sealed : PieceBytes)
    → IsFinding (has_listed_digest download.subject sealed) (SealPhase at download sealed)
finding_seal at download sealed =
    let right = has_listed_digest download.subject sealed in
    finding_then right (AfterDisk at download.gid []) (AndThen (SettlingPhase at download sealed.piece right) (EndingOr at download NoEvent))
    (finding_disk right at download.gid [] (All-nil (FindsAs right)))
    (finding_then right (SettlingPhase at download sealed.piece right) (EndingOr at download NoEvent)
    (finding_then right (FindingPhase at download.gid sealed.piece right) (after_finding_phase at download sealed.piece right)
    (finding_found right at download.gid sealed.piece) (finding_after right right at download sealed.piece))
    (finding_ending right at download))

never_there : {P : Type 0} (events : List Event) (e : Event) → events ≡ [] → Contains events e → P
never_there events e none there =
    absurd (let here : Contains [] e = subst (λ (l : List Event). Contains l e) none there in
    let within = here.1 in omega (arith, within))

-- the piece is out, and found by the digest that is listed
pub record IsSealedSo (start : RunStart) (s : RunStanding) (gid : Gid) (sealed : PieceBytes) (right : Bool) : Type 0 where
  pub out : is_handed_out s.handed gid sealed.piece ≡ true
  pub download : Download
  pub added : download_in start s.past gid ≡ Some download
  pub found : right ≡ has_listed_digest download.subject sealed

pub sealed_so : (at : TurnStart) (s : RunStanding) (gid : Gid) (sealed : PieceBytes) (now : Moment) (events : List Event)
    (said : Said) (before : Option Said) → IsAnswered at s (operation.Seal gid sealed now) events said before
    → (piece : ℕ) (right : Bool) (giver : Giver) → Contains events (Settled gid piece right giver)
    → IsSealedSo at.start s gid sealed right
sealed_so at s gid sealed now events said (Some before) is piece right giver there = never_there events _ is.0 there
sealed_so at s gid sealed now events said None is piece right giver there = ⊎_elim
    (λ starved. never_there events _ starved.1.0 there)
    (λ row. ⊎_elim
    (λ (void : AnswersOnly Void events said). never_there events _ void.0 there)
    (λ (settles : (is_handed_out s.handed gid sealed.piece ≡ true) × IsSettled at s gid sealed events said).
    let one = settles.1 in
    record {
      out = settles.0;
      download = one.download;
      added = one.added;
      found = All-contains (FindsAs (has_listed_digest one.download.subject sealed)) events (Settled gid piece right giver)
          (finding_seal at one.download sealed s.past events one.outcome one.is) there;
    }) row) is

-- ---- what that says of the files

-- bytes have the digest at the place just where it is theirs
digest_says : (digests : List (List ℕ)) (piece : ℕ) (bytes payload : List ℕ) → piece < length digests → bytes ≡ payload
    → (has_digest bytes (slice_index_or digests piece []) ≡ true) ↔ (slice_get digests piece ≡ Some (sha1 payload))
digest_says digests piece bytes payload within same =
    let x = slice_index_or digests piece [] in
    let there : slice_get digests piece ≡ Some x = slice_get-get_or digests piece [] within in (
      λ right. there ∙ ap (λ (b : List ℕ). Some b) (sym ((bytes_eq-Decides (sha1 bytes) x).0 right) ∙ ap sha1 same),
      λ is. (bytes_eq-Decides (sha1 bytes) x).1
          (ap sha1 same ∙ sym (get_or_from_slice_get digests piece (sha1 payload) [] is)),
    )

module _ (start : RunStart) (past : List Event) (gid : Gid) (sealed : PieceBytes) (files : Files) (right : Bool) where
  -- the pieces of a listed want have digests
  many_digests : (v : Want) → IsWant v → HasWant start past gid v → IsListedWant v
      → length v.digests ≡ pieces_of (known_lengths start past gid).total (known_lengths start past gid).piece_len
  many_digests v is has listed =
      let known : known_lengths start past gid ≡ has.lengths =
      ap (λ (o : Option PayloadLengths). unwrap_or o no_lengths) has.known in
      let plan = has.is.plan ∙ sym known in
      is.digests listed ∙ (v.plan.pieces_are ∙ (λ i. pieces_of (plan i).total (plan i).piece_len))

  by_subject : (subject : Subject) (want : Want) → want.digests ≡ digests_of_subject subject
      → want.info_hash ≡ info_hash_by subject → sealed.piece < length want.digests
      → ReadsPiece want sealed.piece files sealed.bytes → right ≡ has_listed_digest subject sealed
      → IsFoundRight right sealed.piece files want
  by_subject (Unlisted uris) want digests hash within reads found listed =
      none_some want.info_hash hash listed
  by_subject (Listed meta uris) want digests hash within reads found listed =
      let says = digest_says want.digests sealed.piece sealed.bytes (piece_payload want (files_in want files) sealed.piece) within
      reads.bytes in
      let same : right ≡ has_digest sealed.bytes (slice_index_or want.digests sealed.piece []) =
      found ∙ ap (λ (ds : List (List ℕ)). has_digest sealed.bytes (slice_index_or ds sealed.piece [])) (sym digests) in
      (λ is. says.0 (sym same ∙ is), λ is. same ∙ says.1 is)

  pub found_right : (v want : Want) → IsWant v → HasWant start past gid v → HasWant start past gid want → (s : RunStanding)
      → s.past ≡ past → sealed.piece < pieces_of (known_lengths start past gid).total (known_lengths start past gid).piece_len
      → IsSealedSo start s gid sealed right → ReadsPiece want sealed.piece files sealed.bytes
      → IsFoundRight right sealed.piece files want
  found_right v want is kept has s standing within so reads listed =
      let added = ap (λ (p : List Event). download_in start p gid) (sym standing) ∙ so.added in
      let same : has.download ≡ so.download = same_download start past gid has.download so.download has.added added in
      let twin : kept.download ≡ has.download = same_download start past gid kept.download has.download kept.added has.added in
      let digests = has.is.digests ∙ ap (λ (d : Download). digests_of_subject d.subject) same in
      let hash = has.is.info_hash ∙ ap (λ (d : Download). info_hash_by d.subject) same in
      let its = kept.is.digests ∙ (ap (λ (d : Download). digests_of_subject d.subject) twin ∙ sym has.is.digests) in
      let info : v.info_hash ≡ want.info_hash =
      kept.is.info_hash ∙ (ap (λ (d : Download). info_hash_by d.subject) twin ∙ sym has.is.info_hash) in
      let many = many_digests v is kept (subst (λ (o : Option (List ℕ)). IsSome o) (sym info) listed) in
      let below : sealed.piece < length want.digests =
      subst (λ (n : ℕ). sealed.piece < n) (sym many ∙ ap length its) within in
      by_subject so.download.subject want digests hash below reads so.found listed
