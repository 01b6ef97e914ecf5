-- A turn that leaves the files of a want as they were.
use Rattle.std.proofs.Common.{◌≡◌, ⊎_elim, inl, inr, ℕ, Bool, false, List, [], ◌∷◌, ◌++◌, Some, refl, sym, ap, arith, ◌∙◌, subst}
use Rattle.std.specs.Prelude.{◌&&◌, ◌||◌, ◌≢◌, All, not}
use Rattle.std.specs.List.{list_any}
use Rattle.std.proofs.lemmas.Bool.{ne_eqb}
use Rattle.std.proofs.lemmas.List.{append-nil, append_cancel_right}
use Rattle.std.proofs.lemmas.List.Elements.{All-head, All-tail, All-weaker}
use Rattle.control_file.specs.declared.want.Want.{Want}
use Rattle.dl_disk.specs.Files.{Files}
use Rattle.dl_disk.specs.Passes.{image_before}
use Rattle.dl_disk.specs.State.{DiskState, LeftSince}
use Rattle.dl_kinds.specs.Plan.{piece_of}
use Rattle.dl_kinds.specs.declared.gid.Gid.{Gid}
use Rattle.dl_history.specs.OwnEvents.{OwnEvent, Halts}
use Rattle.dl_history.specs.PayloadParts.{is_verified_in}
use Rattle.durable_progress.specs.Promises.{StandsWhole, finds_wrong, is_block_promised, is_block_saved, is_piece_promised, is_piece_saved}
use Rattle.machine_core.specs.OwnParts.{own_of}
use Rattle.machine_core.specs.RunLegal.{IsLegal, goes_on_in}
use Rattle.machine_core.specs.Starts.{RunStart}
use Rattle.machine_core.specs.declared.ends.End.{End}
use Rattle.machine_core.specs.declared.ends.End.TheVariants as end
use Rattle.machine_core.specs.declared.events.Event.{Event}
use Rattle.machine_core.specs.declared.events.Event.TheVariants.{Called, Opened, Sized, Claimed, Landed, Settled, Cleared, Lost, Checked, Saved, Ended, Left, Stopped}
use Rattle.engine_turns.specs.RunTurns.{MayComeAfter}
use Rattle.engine_turns.specs.Told.{RunTurn, history_after, history_of}
use Rattle.engine_turns.specs.TurnLaws.{HandedAreActive}
use Rattle.resume_core.specs.Resume.{Agrees, AreSound, Sound}
use Rattle.resume_core.specs.States.{KeepsFor}
use Rattle.resume_core.specs.Steps.{SameFor}
use Rattle.resume_core.proofs.Same.{agrees_same, agrees_seen, sound_same}
use Rattle.stored_run.specs.RunFollows.{RunFollows}
use Rattle.engine_core.specs.Askings.{IsDoneSince, IsOpenedWant, is_completed_in, is_completion}
use Rattle.engine_core.specs.Durable.{AllHold, GivesOrStands, GivesSaves, HoldSince, Holds}
use Rattle.engine_core.proofs.Gone.{AreHalts, AreOfGoing, IsHalted, IsOfGoing, gone_events, gone_halted, turn_going}
use Rattle.engine_core.proofs.Owned.{gid_of}
use Rattle.engine_core.proofs.Promising.{gives_later, gives_same, legal_front}

-- ---- marks that no claim stands

-- they save, verify and find nothing
module _ (p : ℕ) where
  unsaved_by : (e : OwnEvent) (own : List OwnEvent) → (ends : Bool) × (e ≡ Halts ends)
      → is_piece_saved (e ∷ own) p ≡ is_piece_saved own p
  unsaved_by e own is = ap (λ (x : OwnEvent). is_piece_saved (x ∷ own) p) is.1

  pub halted_saved : (more own : List OwnEvent) → AreHalts more → is_piece_saved (more ++ own) p ≡ is_piece_saved own p
  halted_saved [] own halts = refl
  halted_saved (e ∷ more) own halts =
      unsaved_by e (more ++ own) (All-head (λ (x : OwnEvent). (ends : Bool) × (x ≡ Halts ends)) e more halts)
      ∙ halted_saved more own (All-tail (λ (x : OwnEvent). (ends : Bool) × (x ≡ Halts ends)) e more halts)

  unverified_by : (e : OwnEvent) (own : List OwnEvent) → (ends : Bool) × (e ≡ Halts ends)
      → is_verified_in (e ∷ own) p ≡ is_verified_in own p
  unverified_by e own is = ap (λ (x : OwnEvent). is_verified_in (x ∷ own) p) is.1

  pub halted_verified : (more own : List OwnEvent) → AreHalts more → is_verified_in (more ++ own) p ≡ is_verified_in own p
  halted_verified [] own halts = refl
  halted_verified (e ∷ more) own halts =
      unverified_by e (more ++ own) (All-head (λ (x : OwnEvent). (ends : Bool) × (x ≡ Halts ends)) e more halts)
      ∙ halted_verified more own (All-tail (λ (x : OwnEvent). (ends : Bool) × (x ≡ Halts ends)) e more halts)

  pub halted_promised : (complete : Bool) (more own : List OwnEvent) → AreHalts more
      → is_piece_promised complete (more ++ own) p ≡ is_piece_promised complete own p
  halted_promised complete more own halts i =
      halted_saved more own halts i || complete && halted_verified more own halts i

module _ (len b : ℕ) where
  unblocked_by : (e : OwnEvent) (own : List OwnEvent) → (ends : Bool) × (e ≡ Halts ends)
      → is_block_saved len (e ∷ own) b ≡ is_block_saved len own b
  unblocked_by e own is = ap (λ (x : OwnEvent). is_block_saved len (x ∷ own) b) is.1

  pub halted_blocks : (more own : List OwnEvent) → AreHalts more → is_block_saved len (more ++ own) b ≡ is_block_saved len own b
  halted_blocks [] own halts = refl
  halted_blocks (e ∷ more) own halts =
      unblocked_by e (more ++ own) (All-head (λ (x : OwnEvent). (ends : Bool) × (x ≡ Halts ends)) e more halts)
      ∙ halted_blocks more own (All-tail (λ (x : OwnEvent). (ends : Bool) × (x ≡ Halts ends)) e more halts)

pub halted_finds : (p : ℕ) (more : List OwnEvent) → AreHalts more → list_any (finds_wrong p) more ≡ false
halted_finds p [] halts = refl
halted_finds p (e ∷ more) halts =
    let here = All-head (λ (x : OwnEvent). (ends : Bool) × (x ≡ Halts ends)) e more halts in
    ap (λ (x : OwnEvent). finds_wrong p x || list_any (finds_wrong p) more) here.1
    ∙ halted_finds p more (All-tail (λ (x : OwnEvent). (ends : Bool) × (x ≡ Halts ends)) e more halts)

-- what was promised before them is what is promised behind them
module _ (start : RunStart) (told : List RunTurn) (gid : Gid) (want : Want) (complete : Bool) (seen image : Files) where
  pub gives_halted : (was own : List OwnEvent) → IsHalted was own
      → GivesOrStands start told gid want [] was complete seen image
      → GivesOrStands start told gid want [] own complete seen image
  gives_halted was own halted is =
      let len = want.plan.piece_len in
      let piece : (p : ℕ) → is_piece_promised complete own p ≡ is_piece_promised complete was p =
      λ p. ap (λ (l : List OwnEvent). is_piece_promised complete l p) halted.is
      ∙ halted_promised p complete halted.more was halted.halts in
      let block : (b : ℕ) → is_block_promised len [] own b ≡ is_block_promised len [] was b =
      λ b. ap (λ (l : List OwnEvent). is_block_promised len [] l b) halted.is
      ∙ halted_blocks len b halted.more was halted.halts in
      ⊎_elim
      (λ (gives : GivesSaves start told gid want [] was complete image).
      inl (λ again reopened.
      let here = gives again reopened in
      record {
        pieces = λ p promised. here.pieces p (sym (piece p) ∙ promised);
        blocks = λ first b promised. here.blocks first b (sym (block b) ∙ promised);
      }))
      (λ (stands : IsDoneSince start told gid want × StandsWhole want was complete seen image).
      inr (
        stands.0,
        record {
          gone = stands.1.gone;
          files = stands.1.files;
          right = λ listed p promised. stands.1.right listed p (sym (piece p) ∙ promised);
        },
      )) is

-- ---- ends that are told

uncompleted : (gid g : Gid) (how : End) → gid ≢ g → is_completion gid (Ended g how) ≡ false
uncompleted gid g end.Complete apart = ne_eqb g.0 gid.0
    (λ same. apart (let is : gid ≡ g = ap (λ (n : ℕ). record { 0 = n }) (sym same) in is))
uncompleted gid g (end.Dead piece mark) apart = refl
uncompleted gid g (end.Disk count) apart = refl
uncompleted gid g (end.Exists length) apart = refl
uncompleted gid g (end.PieceLength have piece_len) apart = refl
uncompleted gid g (end.Length have total) apart = refl
uncompleted gid g end.InfoHash apart = refl
uncompleted gid g (end.Unreadable at) apart = refl
uncompleted gid g (end.TooLarge total) apart = refl
uncompleted gid g (end.SameFile other) apart = refl
uncompleted gid g (end.SameHash other) apart = refl
uncompleted gid g end.Checksum apart = refl

uncompleted_by : (gid : Gid) (e : Event) → ((g : Gid) → gid_of e ≡ Some g → gid ≢ g) → is_completion gid e ≡ false
uncompleted_by gid (Ended g how) apart = uncompleted gid g how (apart g refl)
uncompleted_by gid (Called session asked now) apart = refl
uncompleted_by gid (Opened g verified blocks now) apart = refl
uncompleted_by gid (Sized g id total) apart = refl
uncompleted_by gid (Claimed g claim) apart = refl
uncompleted_by gid (Landed g id mirror run now) apart = refl
uncompleted_by gid (Settled g piece right giver) apart = refl
uncompleted_by gid (Cleared g piece) apart = refl
uncompleted_by gid (Lost g id mirror piece mark) apart = refl
uncompleted_by gid (Checked g right) apart = refl
uncompleted_by gid (Saved g now) apart = refl
uncompleted_by gid Left apart = refl
uncompleted_by gid Stopped apart = refl

completed_same : (gid : Gid) (past events : List Event)
    → All (λ (e : Event). (g : Gid) → gid_of e ≡ Some g → gid ≢ g) events
    → is_completed_in (history_after past events) gid ≡ is_completed_in past gid
completed_same gid past [] apart = refl
completed_same gid past (e ∷ events) apart =
    completed_same gid (e ∷ past) events (All-tail (λ (x : Event). (g : Gid) → gid_of x ≡ Some g → gid ≢ g) e events apart)
    ∙ ap (λ (b : Bool). b || is_completed_in past gid)
    (uncompleted_by gid e (All-head (λ (x : Event). (g : Gid) → gid_of x ≡ Some g → gid ≢ g) e events apart))

-- ---- a download that went on no more

module _ (laws : RunFollows) (handed : HandedAreActive) (start : RunStart) (told : List RunTurn) (t : RunTurn)
    (legal : IsLegal start (history_of (t ∷ told))) (may : MayComeAfter start told t) (gid : Gid)
    (gone : goes_on_in start (history_of told) gid ≡ false) where
  going : AreOfGoing start (history_of told) t.op t.events
  going = turn_going laws handed start told t (legal_front start (history_of told) t.events legal) may

  pub halted : IsHalted (own_of start (history_of told) gid) (own_of start (history_of (t ∷ told)) gid)
  halted = gone_halted start (history_of told) t.op t.events gid gone going

  pub completed : is_completed_in (history_of (t ∷ told)) gid ≡ is_completed_in (history_of told) gid
  completed = completed_same gid (history_of told) t.events
      (All-weaker (IsOfGoing start (history_of told) t.op) (λ (e : Event). (g : Gid) → gid_of e ≡ Some g → gid ≢ g)
      (gone_events start (history_of told) t.op gid gone) t.events going)

  -- what it held before the turn it holds behind it
  pub holds_on : (want : Want) (seen image : Files) → Holds start told told gid want seen image
      → Holds start (t ∷ told) (t ∷ told) gid want seen image
  holds_on want seen image holds later is =
      let own = own_of start (history_of told) gid in
      let after = own_of start (history_of (t ∷ told)) gid in
      let none : [] ≡ later = append_cancel_right [] later after is in
      let here = gives_later laws start told t legal gid want [] [] own (is_completed_in (history_of told) gid) seen image
      (holds [] refl) in
      let there = gives_halted start (t ∷ told) gid want (is_completed_in (history_of told) gid) seen image own after halted here in
      subst (λ (l : List OwnEvent). GivesOrStands start (t ∷ told) gid want l after (is_completed_in (history_of (t ∷ told)) gid) seen image)
      none
      (subst (λ (c : Bool). GivesOrStands start (t ∷ told) gid want [] after c seen image) (sym completed) there)

  -- what was promised before the turn, and holds once it is taken, is all that is promised then
  pub holds_after : (want : Want) (seen image : Files) → Holds start told (t ∷ told) gid want seen image
      → Holds start (t ∷ told) (t ∷ told) gid want seen image
  holds_after want seen image holds later is =
      let own = own_of start (history_of told) gid in
      let after = own_of start (history_of (t ∷ told)) gid in
      let complete = is_completed_in (history_of told) gid in
      let len = want.plan.piece_len in
      let none : [] ≡ later = append_cancel_right [] later after is in
      let block : (b : ℕ) → is_block_promised len halted.more own b ≡ is_block_promised len [] own b =
      λ b. ap (λ (x : Bool). not x && is_block_saved len own b) (halted_finds (piece_of len b) halted.more halted.halts) in
      let here : GivesOrStands start (t ∷ told) gid want [] own complete seen image = ⊎_elim
      (λ (gives : GivesSaves start (t ∷ told) gid want halted.more own complete image).
      inl (λ again reopened.
      let was = gives again reopened in
      record { pieces = was.pieces; blocks = λ first b promised. was.blocks first b (block b ∙ promised) }))
      (λ (stands : IsDoneSince start (t ∷ told) gid want × StandsWhole want own complete seen image). inr stands)
      (holds halted.more halted.is) in
      let there = gives_halted start (t ∷ told) gid want complete seen image own after halted here in
      subst (λ (l : List OwnEvent). GivesOrStands start (t ∷ told) gid want l after (is_completed_in (history_of (t ∷ told)) gid) seen image)
      none
      (subst (λ (c : Bool). GivesOrStands start (t ∷ told) gid want [] after c seen image) (sym completed) there)

-- what is promised by the turns before it holds, whatever the turn brings
pub holds_before : RunFollows → (start : RunStart) (told : List RunTurn) (t : RunTurn) → IsLegal start (history_of (t ∷ told))
    → (gid : Gid) (want : Want) (seen image : Files) → Holds start told told gid want seen image
    → Holds start told (t ∷ told) gid want seen image
holds_before laws start told t legal gid want seen image holds later is =
    let own = own_of start (history_of told) gid in
    subst (λ (l : List OwnEvent). GivesOrStands start (t ∷ told) gid want l own (is_completed_in (history_of told) gid) seen image)
    (append-nil later)
    (gives_later laws start told t legal gid want later [] own (is_completed_in (history_of told) gid) seen image (holds [] refl))

-- ---- the want's files are the same

module _ (laws : RunFollows) (handed : HandedAreActive) (start : RunStart) (told : List RunTurn) (t : RunTurn)
    (legal : IsLegal start (history_of (t ∷ told))) (may : MayComeAfter start told t) (want : Want) (d new : DiskState)
    (keeps : KeepsFor want d new) where
  pub kept_sound : AreSound want d.seen d.may_leave → (image : Files) → LeftSince new d.moment image → Sound want image
  kept_sound sound image left =
      let from = keeps.passes.images left.0 image left.1 left.2 left.3 in
      sound_same want from.0 image from.2 (sound from.0 from.1).0

  pub kept_agrees : AreSound want d.seen d.may_leave → (image : Files) → new.may_leave image → Agrees want new.seen image
  kept_agrees sound image left =
      let from = image_before (SameFor want) d new keeps.passes image left in
      agrees_seen want d.seen new.seen image keeps.seen.files (agrees_same want d.seen from.0 image from.2 (sound from.0 from.1).1)

  same_holds : (before : List RunTurn) (gid : Gid) (from image : Files) → SameFor want from image
      → Holds start before told gid want d.seen from → Holds start before told gid want new.seen image
  same_holds before gid from image same holds later is =
      gives_same start told gid want later (own_of start (history_of before) gid) (is_completed_in (history_of before) gid)
      d.seen new.seen from image same keeps.seen.files (holds later is)

  pub kept_now : ((gid : Gid) → IsOpenedWant start (t ∷ told) gid want
      → IsOpenedWant start told gid want × (goes_on_in start (history_of told) gid ≡ false))
      → AllHold start told want d.seen d.may_leave → AllHold start (t ∷ told) want new.seen new.may_leave
  kept_now gone holds gid is image left =
      let from = image_before (SameFor want) d new keeps.passes image left in
      let was = gone gid is in
      holds_on laws handed start told t legal may gid was.1 want new.seen image
      (same_holds told gid from.0 image from.2 (holds gid was.0 from.0 from.1))

  pub kept_since : AllHold start told want d.seen d.may_leave → HoldSince start told (t ∷ told) want d.moment new
  kept_since holds gid is image left =
      let from = keeps.passes.images left.0 image left.1 left.2 left.3 in (
        new.seen,
        (new.moment, keeps.passes.later, omega arith, sym new.now_seen),
        holds_before laws start told t legal gid want new.seen image
            (same_holds told gid from.0 image from.2 (holds gid is from.0 from.1)),
      )
