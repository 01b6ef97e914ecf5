-- What is promised is kept from each mark of a list of turns on.
use Rattle.std.proofs.Common.{◌≡◌, ⊎_elim, inl, inr, ℕ, Bool, true, List, [], ◌∷◌, ◌++◌, sym, ap, arith, append_assoc, ◌∙◌, subst}
use Rattle.std.specs.Prelude.{◌≤◌, ◌↔◌, ◌&&◌}
use Rattle.std.proofs.lemmas.Bool.{and_parts, cases_lt}
use Rattle.std.proofs.lemmas.List.{append_cancel_right}
use Rattle.control_file.specs.Wants.{IsWant}
use Rattle.control_file.specs.declared.want.Want.{Want}
use Rattle.dl_disk.specs.Files.{Files}
use Rattle.dl_disk.specs.State.{DiskState}
use Rattle.dl_history.proofs.Bools.{or_cases, or_left, or_right}
use Rattle.dl_history.specs.OwnEvents.{OwnEvent}
use Rattle.dl_history.specs.OwnLegal.{LegalOwn}
use Rattle.dl_history.specs.PayloadParts.{is_verified_in}
use Rattle.dl_kinds.specs.declared.gid.Gid.{Gid}
use Rattle.durable_progress.specs.Promises.{StandsWhole, is_piece_promised, is_piece_saved}
use Rattle.durable_progress.proofs.Promised.{both_true, piece_longer, promised_longer, verified_later}
use Rattle.machine_core.specs.OwnParts.{own_of}
use Rattle.machine_core.specs.RunLegal.{IsLegal}
use Rattle.machine_core.specs.Starts.{RunStart}
use Rattle.machine_core.specs.declared.events.Event.{Event}
use Rattle.engine_turns.specs.Told.{RunTurn, history_after, history_of}
use Rattle.resume_core.specs.Resume.{Agrees, AreSound}
use Rattle.stored_run.specs.RunFollows.{RunFollows}
use Rattle.stored_run.proofs.Doing.{IsGrown, grown_none, grown_on, own_grows_on}
use Rattle.stored_run.proofs.Own.{own_legal}
use Rattle.engine_core.specs.Askings.{IsDoneSince, IsOpenedWant, IsWrittenAlone, is_completed_in, is_completion}
use Rattle.engine_core.specs.Durable.{AllHold, GivesOrStands, GivesSaves, Holds, KeepsSince}
use Rattle.engine_core.proofs.Promising.{alone_before, gives_later, legal_front, opened_want_later}
use Rattle.engine_core.proofs.Turned.{TurnKeeps}

-- ---- from some turns to more

pub grown_turns : (start : RunStart) (gid : Gid) (newer before : List RunTurn)
    → IsGrown (own_of start (history_of before) gid) (own_of start (history_of (newer ++ before)) gid)
grown_turns start gid [] before = grown_none (own_of start (history_of before) gid)
grown_turns start gid (t ∷ newer) before =
    grown_on (own_of start (history_of before) gid) (own_of start (history_of (newer ++ before)) gid)
    (own_of start (history_of (t ∷ newer ++ before)) gid) (grown_turns start gid newer before)
    (own_grows_on start t.events (history_of (newer ++ before)) gid)

pub opened_turns : RunFollows → (start : RunStart) (gid : Gid) (want : Want) (newer before : List RunTurn)
    → IsLegal start (history_of (newer ++ before)) → IsOpenedWant start before gid want
    → IsOpenedWant start (newer ++ before) gid want
opened_turns laws start gid want [] before legal is = is
opened_turns laws start gid want (t ∷ newer) before legal is =
    opened_want_later laws start (newer ++ before) t legal gid want
    (opened_turns laws start gid want newer before (legal_front start (history_of (newer ++ before)) t.events legal) is)

completed_on : (gid : Gid) (past events : List Event) → is_completed_in past gid ≡ true
    → is_completed_in (history_after past events) gid ≡ true
completed_on gid past [] is = is
completed_on gid past (e ∷ events) is = completed_on gid (e ∷ past) events (or_right (is_completion gid e) _ is)

pub completed_turns : (gid : Gid) (newer before : List RunTurn) → is_completed_in (history_of before) gid ≡ true
    → is_completed_in (history_of (newer ++ before)) gid ≡ true
completed_turns gid [] before is = is
completed_turns gid (t ∷ newer) before is =
    completed_on gid (history_of (newer ++ before)) t.events (completed_turns gid newer before is)

-- ---- promises of an earlier history

-- a piece that was promised is promised by more events, and where more is told complete
piece_promised : (complete told : Bool) (more own : List OwnEvent) (p : ℕ) → (complete ≡ true → told ≡ true)
    → is_piece_promised complete own p ≡ true → is_piece_promised told (more ++ own) p ≡ true
piece_promised complete told more own p mono is = or_cases (is_piece_saved own p) (complete && is_verified_in own p) is
    (λ saved. or_left (is_piece_saved (more ++ own) p) _ (piece_longer p more own saved))
    (λ now.
    let both = and_parts complete (is_verified_in own p) now in
    or_right (is_piece_saved (more ++ own) p) _
    (both_true told (is_verified_in (more ++ own) p) (mono both.0) (verified_later p more own both.1)))

module _ (laws : RunFollows) (start : RunStart) (told : List RunTurn) (gid : Gid) (want : Want) (seen image : Files) where
  -- what an image gives or stands for of more events it does of fewer
  gives_earlier : (later more own : List OwnEvent) (complete told_complete : Bool) → LegalOwn want.plan.total want.plan.piece_len (more ++ own)
      → IsWant want → (complete ≡ true → told_complete ≡ true)
      → GivesOrStands start told gid want later (more ++ own) told_complete seen image
      → GivesOrStands start told gid want (later ++ more) own complete seen image
  gives_earlier later more own complete told_complete legal is_want mono is = ⊎_elim
      (λ (gives : GivesSaves start told gid want later (more ++ own) told_complete image).
      inl (λ again reopened.
      let here = gives again reopened in
      record {
        pieces = λ p promised. here.pieces p (piece_promised complete told_complete more own p mono promised);
        blocks = λ first b promised. here.blocks first b
            (promised_longer laws.sound want.plan.total want.plan.piece_len b is_want.plan later more own legal promised);
      }))
      (λ (stands : IsDoneSince start told gid want × StandsWhole want (more ++ own) told_complete seen image).
      inr (
        stands.0,
        record {
          gone = stands.1.gone;
          files = stands.1.files;
          right = λ listed p promised. stands.1.right listed p (piece_promised complete told_complete more own p mono promised);
        },
      )) is

-- ---- one turn more

module _ (laws : RunFollows) (start : RunStart) (newer before : List RunTurn) (t : RunTurn)
    (legal : IsLegal start (history_of (t ∷ newer ++ before))) (want : Want)
    (sound_want : (gid : Gid) → IsOpenedWant start (newer ++ before) gid want → IsWant want) where
  abbrev told : List RunTurn
  told = newer ++ before

  legal_told : IsLegal start (history_of told)
  legal_told = legal_front start (history_of told) t.events legal

  -- what held of the turns before it
  holds_longer : (gid : Gid) (seen image : Files) → Holds start before told gid want seen image
      → Holds start before (t ∷ told) gid want seen image
  holds_longer gid seen image holds later cut =
      let own = own_of start (history_of before) gid in
      let complete = is_completed_in (history_of before) gid in
      let front = grown_turns start gid newer before in
      let back = own_grows_on start t.events (history_of told) gid in
      let same : back.0 ++ front.0 ≡ later =
      append_cancel_right (back.0 ++ front.0) later own
      (append_assoc back.0 front.0 own ∙ (ap (λ (l : List OwnEvent). back.0 ++ l) (sym front.1) ∙ (sym back.1 ∙ cut))) in
      subst (λ (l : List OwnEvent). GivesOrStands start (t ∷ told) gid want l own complete seen image) same
      (gives_later laws start told t legal gid want back.0 front.0 own complete seen image (holds front.0 front.1))

  -- what holds of all turns but the last, of the earlier ones
  holds_earlier : (gid : Gid) (seen image : Files) → IsOpenedWant start before gid want
      → Holds start told (t ∷ told) gid want seen image → Holds start before (t ∷ told) gid want seen image
  holds_earlier gid seen image is holds later cut =
      let own = own_of start (history_of before) gid in
      let front = grown_turns start gid newer before in
      let back = own_grows_on start t.events (history_of told) gid in
      let same : back.0 ++ front.0 ≡ later =
      append_cancel_right (back.0 ++ front.0) later own
      (append_assoc back.0 front.0 own ∙ (ap (λ (l : List OwnEvent). back.0 ++ l) (sym front.1) ∙ (sym back.1 ∙ cut))) in
      let then = opened_turns laws start gid want newer before legal_told is in
      let own_told = own_legal laws start (history_of told) gid want legal_told then.has in
      let here = subst (λ (l : List OwnEvent). GivesOrStands start (t ∷ told) gid want back.0 l (is_completed_in (history_of told) gid) seen image)
      front.1 (holds back.0 back.1) in
      subst (λ (l : List OwnEvent). GivesOrStands start (t ∷ told) gid want l own (is_completed_in (history_of before) gid) seen image) same
      (gives_earlier laws start (t ∷ told) gid want seen image back.0 front.0 own (is_completed_in (history_of before) gid)
      (is_completed_in (history_of told) gid) (subst (LegalOwn want.plan.total want.plan.piece_len) front.1 own_told)
      (sound_want gid then) (completed_turns gid newer before) here)

-- ---- from a mark on

module _ (laws : RunFollows) (start : RunStart) (t : RunTurn) (d new : DiskState) (later_moment : d.moment ≤ new.moment)
    (same_seen : (k : ℕ) → k ≤ d.moment → new.seen_at k ≡ d.seen_at k)
    (same_left : (k : ℕ) (image : Files) → k ≤ d.moment → new.left_at k image ↔ d.left_at k image) where
  -- what is told of an earlier moment is what was told of it then
  sound_then : (want : Want) (m : ℕ) → m ≤ d.moment → AreSound want (new.seen_at m) (new.left_at m)
      → AreSound want (d.seen_at m) (d.left_at m)
  sound_then want m below sound image left =
      let here = sound image ((same_left m image below).1 left) in
      (here.0, subst (λ (seen : Files). Agrees want seen image) (same_seen m below) here.1)

  hold_then : (before : List RunTurn) (want : Want) (m : ℕ) → m ≤ d.moment
      → AllHold start before want (new.seen_at m) (new.left_at m) → AllHold start before want (d.seen_at m) (d.left_at m)
  hold_then before want m below holds gid is image left =
      subst (λ (seen : Files). Holds start before before gid want seen image) (same_seen m below)
      (holds gid is image ((same_left m image below).1 left))

  -- of the present moment it is what is
  sound_there : (want : Want) → AreSound want (d.seen_at d.moment) (d.left_at d.moment) → AreSound want d.seen d.may_leave
  sound_there want sound image left =
      let here = sound image ((d.now_left image).1 left) in
      (here.0, subst (λ (seen : Files). Agrees want seen image) d.now_seen here.1)

  hold_there : (before : List RunTurn) (want : Want) → AllHold start before want (d.seen_at d.moment) (d.left_at d.moment)
      → AllHold start before want d.seen d.may_leave
  hold_there before want holds gid is image left =
      subst (λ (seen : Files). Holds start before before gid want seen image) d.now_seen
      (holds gid is image ((d.now_left image).1 left))

  -- from the mark before the turn
  pub from_turn : (told : List RunTurn)
      → ((want : Want) → IsWrittenAlone start (t ∷ told) want → AreSound want d.seen d.may_leave → TurnKeeps start told t want d new)
      → KeepsSince start told (t ∷ told) d.moment new
  from_turn told keeps want alone sound =
      let here = keeps want alone (sound_there want (sound_then want d.moment (omega arith) sound)) in
      record {
        sound = here.sound;
        agrees = here.agrees;
        hold = λ holds.
            let then = hold_there told want (hold_then told want d.moment (omega arith) holds) in
            (here.now then, here.since then);
      }

  -- from an earlier mark
  module _ (newer before : List RunTurn) (legal : IsLegal start (history_of (t ∷ newer ++ before)))
      (sound_want : (want : Want) (gid : Gid) → IsWrittenAlone start (t ∷ newer ++ before) want
      → IsOpenedWant start (newer ++ before) gid want → IsWant want)
      (keeps : (want : Want) → IsWrittenAlone start (t ∷ newer ++ before) want → AreSound want d.seen d.may_leave
      → TurnKeeps start (newer ++ before) t want d new)
      (m : ℕ) (within : m ≤ d.moment) (kept : KeepsSince start before (newer ++ before) m d) where
    pub from_mark : KeepsSince start before (t ∷ newer ++ before) m new
    from_mark want alone sound =
        let told = newer ++ before in
        let was = kept want (alone_before laws start told t legal want alone) (sound_then want m within sound) in
        let sound_now : AreSound want d.seen d.may_leave =
        λ image left. (was.sound image (d.moment, within, omega arith, (d.now_left image).1 left), was.agrees image left) in
        let here = keeps want alone sound_now in
        record {
          sound = λ image left. ⊎_elim
              (λ late. here.sound image (left.0, omega (arith, late), left.2, left.3))
              (λ early. was.sound image (left.0, left.1, early, (same_left left.0 image early).0 left.3))
              (cases_lt d.moment left.0);
          agrees = here.agrees;
          hold = λ holds.
              let both = was.hold (hold_then before want m within holds) in (
                here.now both.0,
                λ gid is image left. ⊎_elim
                    (λ late.
                    let then = opened_turns laws start gid want newer before (legal_front start (history_of told) t.events legal) is in
                    let one = here.since both.0 gid then image (left.0, omega (arith, late), left.2, left.3) in (
                      one.0,
                      (one.1.0, omega (arith, one.1.1, within), one.1.2, one.1.3),
                      holds_earlier laws start newer before t legal want (λ g opened. sound_want want g alone opened) gid one.0 image is
                          one.2,
                    ))
                    (λ early.
                    let one = both.1 gid is image (left.0, left.1, early, (same_left left.0 image early).0 left.3) in (
                      one.0,
                      (one.1.0, one.1.1, omega (arith, one.1.2, later_moment), one.1.3 ∙ sym (same_seen one.1.0 one.1.2)),
                      holds_longer laws start newer before t legal want (λ g opened. sound_want want g alone opened) gid one.0 image
                          one.2,
                    ))
                    (cases_lt d.moment left.0),
              );
        }
