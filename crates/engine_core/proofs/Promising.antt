-- What stays promised of a download while turns come.
use Rattle.std.proofs.Common.{◌≡◌, ⊎_elim, inl, inr, ℕ, Bool, true, false, List, [], ◌∷◌, ◌++◌, Some, sym, ap, ◌∙◌, subst}
use Rattle.std.specs.Prelude.{Option, not, slice_index_or, unwrap_or}
use Rattle.std.specs.List.{list_any}
use Rattle.control_file.specs.declared.want.Want.{Want}
use Rattle.dl_disk.specs.Files.{Files}
use Rattle.dl_kinds.specs.Plan.{piece_of}
use Rattle.dl_kinds.specs.declared.gid.Gid.{Gid}
use Rattle.dl_history.specs.OwnEvents.{OwnEvent}
use Rattle.dl_history.specs.PayloadParts.{is_verified_in}
use Rattle.durable_progress.specs.Promises.{StandsWhole, finds_wrong, is_block_promised, is_block_saved}
use Rattle.durable_progress.proofs.Promised.{any_back, both_true, verified_later}
use Rattle.dl_history.proofs.Bools.{and_left, and_right, not_not}
use Rattle.machine_core.specs.DownloadWants.{HasWant}
use Rattle.machine_core.specs.OwnParts.{PayloadLengths, no_lengths, own_of, payload_lengths_of}
use Rattle.machine_core.specs.RunLegal.{IsLegal, download_in, known_lengths}
use Rattle.machine_core.specs.Starts.{Download, RunStart}
use Rattle.machine_core.specs.Wanted.{wanted_pieces}
use Rattle.machine_core.specs.declared.events.Event.{Event}
use Rattle.engine_turns.specs.Phases.{IsWantedVerified}
use Rattle.engine_turns.specs.Told.{RunTurn, history_after, history_of}
use Rattle.resume_core.specs.Steps.{SameFor}
use Rattle.resume_core.specs.Wants.{files_in}
use Rattle.resume_core.proofs.Same.{give_same}
use Rattle.stored_run.specs.RunFollows.{RunFollows}
use Rattle.stored_run.specs.Views.{IsDoneIn}
use Rattle.stored_run.proofs.Doing.{opened_grown, own_grows_on}
use Rattle.stored_run.proofs.PlainEvents.{gid_added}
use Rattle.engine_core.specs.Askings.{IsAskedLater, IsDoneSince, IsOpenedWant, IsReopened, IsWrittenAlone, is_opened_in}
use Rattle.engine_core.specs.Durable.{GivesOrStands, GivesSaves}

-- ---- histories

pub legal_front : (start : RunStart) (past events : List Event) → IsLegal start (history_after past events) → IsLegal start past
legal_front start past [] legal = legal
legal_front start past (e ∷ events) legal = (legal_front start (e ∷ past) events legal).0

pub want_on : RunFollows → (start : RunStart) (past events : List Event) (gid : Gid) (want : Want)
    → IsLegal start (history_after past events) → HasWant start past gid want
    → HasWant start (history_after past events) gid want
want_on laws start past [] gid want legal has = has
want_on laws start past (e ∷ events) gid want legal has =
    want_on laws start (e ∷ past) events gid want legal
    (laws.wants start past e gid want (legal_front start (e ∷ past) events legal) has)

pub download_on : RunFollows → (start : RunStart) (past events : List Event) (gid : Gid) (d : Download)
    → download_in start past gid ≡ Some d → download_in start (history_after past events) gid ≡ Some d
download_on laws start past [] gid d is = is
download_on laws start past (e ∷ events) gid d is =
    download_on laws start (e ∷ past) events gid d (laws.downloads start past e gid d is)

pub lengths_on : RunFollows → (start : RunStart) (past events : List Event) (gid : Gid) (lengths : PayloadLengths)
    → IsLegal start (history_after past events) → payload_lengths_of start past gid ≡ Some lengths
    → payload_lengths_of start (history_after past events) gid ≡ Some lengths
lengths_on laws start past [] gid lengths legal is = is
lengths_on laws start past (e ∷ events) gid lengths legal is =
    lengths_on laws start (e ∷ past) events gid lengths legal
    (laws.lengths start past e gid lengths (legal_front start (e ∷ past) events legal) is)

pub opened_on : (start : RunStart) (past events : List Event) (gid : Gid) → is_opened_in start past gid ≡ true
    → is_opened_in start (history_after past events) gid ≡ true
opened_on start past events gid is =
    opened_grown (own_of start past gid) (own_of start (history_after past events) gid) (own_grows_on start events past gid) is

-- ---- turns

module _ (laws : RunFollows) (start : RunStart) (told : List RunTurn) (t : RunTurn)
    (legal : IsLegal start (history_of (t ∷ told))) where
  pub want_later : (gid : Gid) (want : Want) → HasWant start (history_of told) gid want
      → HasWant start (history_of (t ∷ told)) gid want
  want_later gid want = want_on laws start (history_of told) t.events gid want legal

  pub alone_before : (want : Want) → IsWrittenAlone start (t ∷ told) want → IsWrittenAlone start told want
  alone_before want alone gid other asked has = alone gid other (inr asked) (want_later gid other has)

  pub opened_want_later : (gid : Gid) (want : Want) → IsOpenedWant start told gid want → IsOpenedWant start (t ∷ told) gid want
  opened_want_later gid want is = record {
    opened = opened_on start (history_of told) t.events gid is.opened;
    has = want_later gid want is.has;
  }

  reopened_later : (gid : Gid) (want : Want) → IsReopened start told gid want → IsReopened start (t ∷ told) gid want
  reopened_later gid want is = record { other = is.other; later = inr is.later; has = want_later is.other want is.has }

  done_later : (gid : Gid) (want : Want) → HasWant start (history_of told) gid want → IsDoneIn start (history_of told) gid
      → IsDoneIn start (history_of (t ∷ told)) gid
  done_later gid want has is other added_other =
      let past = history_of told in
      let after = history_of (t ∷ told) in
      let d = has.download in
      let same = sym (gid_added start past gid d has.added) in
      let was = subst (λ (g : Gid). payload_lengths_of start past g ≡ Some has.lengths) same has.known in
      let now = subst (λ (g : Gid). payload_lengths_of start after g ≡ Some has.lengths) same
      (lengths_on laws start past t.events gid has.lengths legal has.known) in
      let lengths : known_lengths start after d.gid ≡ known_lengths start past d.gid =
      ap (λ (o : Option PayloadLengths). unwrap_or o no_lengths) (now ∙ sym was) in
      let grown = own_grows_on start t.events past d.gid in
      let some : Some d ≡ Some other = sym (download_on laws start past t.events gid d has.added) ∙ added_other in
      let other_is : d ≡ other = cc in
      subst (IsWantedVerified start after) other_is
      (λ piece wanted.
      subst (λ (own : List OwnEvent). is_verified_in own piece ≡ true) (sym grown.1)
      (verified_later piece grown.0 (own_of start past d.gid)
      (is d has.added piece
      (subst (λ (l : PayloadLengths). slice_index_or (wanted_pieces d l) piece false ≡ true) lengths wanted))))

  done_since_later : (gid : Gid) (want : Want) → IsDoneSince start told gid want → IsDoneSince start (t ∷ told) gid want
  done_since_later gid want is = record {
    other = is.other;
    later = ⊎_elim (λ (same : is.other ≡ gid). inl same) (λ (later : IsAskedLater start told gid is.other). inr (inr later)) is.later;
    opened = opened_want_later is.other want is.opened;
    done = done_later is.other want is.opened.has is.done;
  }

  -- of later events still fewer blocks are promised
  pub fewer_promised : (len : ℕ) (more later own : List OwnEvent) (b : ℕ) → is_block_promised len (more ++ later) own b ≡ true
      → is_block_promised len later own b ≡ true
  fewer_promised len more later own b is =
      let wrong = finds_wrong (piece_of len b) in
      let none = not_not (and_left (not (list_any wrong (more ++ later))) _ is) in
      both_true (not (list_any wrong later)) (is_block_saved len own b)
      (ap not (any_back wrong more later none))
      (and_right (not (list_any wrong (more ++ later))) _ is)

  pub gives_later : (gid : Gid) (want : Want) (more later own : List OwnEvent) (complete : Bool) (seen image : Files)
      → GivesOrStands start told gid want later own complete seen image
      → GivesOrStands start (t ∷ told) gid want (more ++ later) own complete seen image
  gives_later gid want more later own complete seen image is = ⊎_elim
      (λ (gives : GivesSaves start told gid want later own complete image).
      inl (λ again reopened.
      let was = gives again (λ before. reopened (reopened_later gid want before)) in
      record {
        pieces = was.pieces;
        blocks = λ first b promised. was.blocks first b (fewer_promised want.plan.piece_len more later own b promised);
      }))
      (λ (stands : IsDoneSince start told gid want × StandsWhole want own complete seen image).
      inr (done_since_later gid want stands.0, stands.1)) is

-- ---- the same files

pub gives_same : (start : RunStart) (told : List RunTurn) (gid : Gid) (want : Want) (later own : List OwnEvent) (complete : Bool)
    (was now before image : Files) → SameFor want before image → files_in want now ≡ files_in want was
    → GivesOrStands start told gid want later own complete was before
    → GivesOrStands start told gid want later own complete now image
gives_same start told gid want later own complete was now before image same read is = ⊎_elim
    (λ (gives : GivesSaves start told gid want later own complete before).
    inl (λ again reopened.
    let alike = give_same want before image same in
    let here = gives again reopened in
    record {
      pieces = λ p promised. (alike.pieces p).1 (here.pieces p promised);
      blocks = λ first b promised. (alike.blocks b).1 (here.blocks first b promised);
    }))
    (λ (stands : IsDoneSince start told gid want × StandsWhole want own complete was before).
    inr (
      stands.0,
      record {
        gone = same.control ∙ stands.1.gone;
        files = same.files ∙ (stands.1.files ∙ sym read);
        right = λ listed p promised. rw same.files (stands.1.right listed p promised);
      },
    )) is
