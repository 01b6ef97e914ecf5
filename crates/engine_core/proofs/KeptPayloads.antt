-- A turn leaves each byte of a payload that it doesn't write.
use Rattle.std.proofs.Common.{◌≡◌, ⊎_elim, inl, inr, ℕ, Bool, true, false, List, ◌∷◌, Some, refl, slice_get, sym, ap, ◌∙◌, subst}
use Rattle.std.specs.Prelude.{◌⊎◌, Contains}
use Rattle.control_file.specs.declared.want.Want.{Want}
use Rattle.dl_disk.specs.State.{DiskState}
use Rattle.dl_history.specs.OwnEvents.{OwnEvent}
use Rattle.dl_history.specs.PayloadParts.{is_opened}
use Rattle.dl_kinds.specs.declared.gid.Gid.{Gid}
use Rattle.dl_kinds.specs.declared.runs.Moment.{Moment}
use Rattle.dl_kinds.specs.declared.runs.Run.{Run}
use Rattle.engine_turns.specs.Told.{RunTurn, history_of}
use Rattle.engine_turns.specs.declared.operations.Operation.{Operation}
use Rattle.engine_turns.specs.declared.operations.Operation.TheVariants as operation
use Rattle.engine_turns.specs.declared.operations.Said.TheVariants.{NoMemory}
use Rattle.machine_core.specs.Claiming.{next_to_open}
use Rattle.machine_core.specs.DownloadWants.{HasWant}
use Rattle.machine_core.specs.OwnParts.{own_of}
use Rattle.machine_core.specs.RunLegal.{IsLegal}
use Rattle.machine_core.specs.Starts.{RunStart}
use Rattle.machine_core.specs.declared.ends.End.TheVariants as end
use Rattle.machine_core.specs.declared.events.Event.{Event}
use Rattle.machine_core.specs.declared.events.Event.TheVariants.{Ended, Landed}
use Rattle.payload_files.specs.Payload.{HasFiles}
use Rattle.resume_core.specs.Sharing.{share_names}
use Rattle.resume_core.specs.States.{SamePayload}
use Rattle.stored_run.specs.Leavings.{LeavesDisk}
use Rattle.stored_run.specs.Opening.{AsksStore, HasFailed, OpensDisk, StaysUnopened}
use Rattle.stored_run.specs.RunFollows.{RunFollows}
use Rattle.stored_run.specs.Settlings.{CameBetween}
use Rattle.stored_run.specs.Stored.{AreWantsKept}
use Rattle.stored_run.specs.Views.{IsGoing, kept_want_of, own_in}
use Rattle.stored_run.specs.Writings.{IsDeliveredByte, IsLandedByte, IsOpenByte}
use Rattle.stored_run.specs.declared.run.StoredView.{StoredView}
use Rattle.stored_run.proofs.Endings.{going_facts}
use Rattle.stored_run.proofs.LandedBytes.{came_of, payload_same}
use Rattle.engine_core.specs.Askings.{AreAsked, Asks, HasFailedIn, IsAsked, IsNext, IsWrittenAlone, is_opened_in}
use Rattle.engine_core.specs.Disks.{IsAlike, LeavesTurn, LeavesUnopened, OpensNext}
use Rattle.engine_core.specs.Engines.{past_of, start_of}
use Rattle.engine_core.specs.Writings.{CutsByte, KeepsUnwritten, LandsByte, WritesRun}
use Rattle.engine_core.specs.declared.state.EngineState.{EngineState}
use Rattle.engine_core.proofs.Promising.{want_later}
use Rattle.engine_core.proofs.Turned.{IsInWay, in_way_or_none, keeps_apart}

module _ {D : Type 0} (laws : RunFollows) (state : D → DiskState) (old new : EngineState D) (told : List RunTurn)
    (t : RunTurn) (turn : LeavesTurn state t.op old new t.answer.said)
    (legal : IsLegal (start_of old) (history_of (t ∷ told)))
    (kept : AreWantsKept (start_of old) (past_of old) old.run.wants.items) (asked : AreAsked (start_of old) told)
    (past_is : past_of old ≡ history_of told) (start_is : start_of new ≡ start_of old)
    (past_after : past_of new ≡ history_of (t ∷ told)) (want : Want)
    (alone : IsWrittenAlone (start_of old) (t ∷ told) want)
    (files : HasFiles want.dir want.layout (state old.run.disk).seen) where
  abbrev S : RunStart
  S = start_of old

  abbrev d : DiskState
  d = state old.run.disk

  abbrev after : DiskState
  after = state new.run.disk

  abbrev Keeps : DiskState → Type 0
  Keeps before = KeepsUnwritten S (history_of told) t want before.seen after.seen

  bytes_same : (before : DiskState) → SamePayload want before after → Keeps before
  bytes_same before same at none = ap (λ (l : List ℕ). slice_get l at) (payload_same want before after same)

  -- what was asked and shares a name has just this want
  just_this : (gid : Gid) (v : Want) → IsAsked S (t ∷ told) gid → HasWant S (history_of told) gid v
      → share_names v want ≡ true → v ≡ want
  just_this gid v is has shares = alone gid v is (want_later laws S told t legal gid v has) shares

  module _ (mid : StoredView D) (alike : IsAlike old.run mid) where
    mid_past : mid.machine.past ≡ history_of told
    mid_past = alike.past ∙ past_is

    kept_mid : AreWantsKept mid.machine.start mid.machine.past mid.wants.items
    kept_mid =
        subst (λ (s : RunStart). AreWantsKept s mid.machine.past mid.wants.items) (sym alike.start)
        (subst (λ (p : List Event). AreWantsKept S p mid.wants.items) (sym alike.past)
        (subst (λ ws. AreWantsKept S (past_of old) ws.items) (sym alike.wants) kept))

    has_told : (gid : Gid) (v : Want) → HasWant mid.machine.start mid.machine.past gid v → HasWant S (history_of told) gid v
    has_told gid v has =
        subst (λ (p : List Event). HasWant S p gid v) mid_past
        (subst (λ (s : RunStart). HasWant s mid.machine.past gid v) alike.start has)

    own_told : (gid : Gid) → own_in mid gid ≡ own_of S (history_of told) gid
    own_told gid i = own_of (alike.start i) (mid_past i) gid

    -- ---- a download that went on has the want

    module _ (star : Gid) (going : IsGoing mid star) (kept_is : kept_want_of mid star ≡ Some want) where
      has_star : HasWant S (history_of told) star want
      has_star = has_told star want (kept_mid.has star want kept_is)

      -- what came between is one of the events
      among : (e : Event) → CameBetween mid.machine.past new.run.machine.past e → Contains t.events e
      among e came =
          came_of (history_of told) t.events e
          (subst (λ (p : List Event). CameBetween (history_of told) p e) past_after
          (subst (λ (p : List Event). CameBetween p new.run.machine.past e) mid_past came))

      written : (claim : ℕ) (run : Run) (bytes : List ℕ) (now : Moment) → t.op ≡ operation.Deliver claim run bytes now
          → (at : ℕ) → IsDeliveredByte star claim run mid new.run t.answer.said want.plan at
          → LandsByte S (history_of told) t want at ⊎ CutsByte S (history_of told) t want at
      written claim run bytes now delivers at is = ⊎_elim
          (λ (lands : IsLandedByte mid.machine.past new.run.machine.past star claim want.plan at). inl (record {
            gid = star;
            has = has_star;
            claim = claim;
            mirror = lands.mirror;
            part = lands.part;
            now = lands.now;
            landed = among (Landed star claim lands.mirror lands.part lands.now) lands.came;
            inside = lands.inside;
          }))
          (λ cut. inr (record {
            claim = claim;
            run = run;
            bytes = bytes;
            now = now;
            delivers = delivers;
            gid = star;
            has = has_star;
            open_in = subst (λ (own : List OwnEvent). IsOpenByte own claim run want.plan at) (own_told star) cut.1;
            cut = ⊎_elim (λ (starved : t.answer.said ≡ NoMemory). inl starved)
                (λ failed. inr (failed.0, among (Ended star (end.Disk failed.0)) failed.1)) cut.0;
          })) is

      keeps_op : (op : Operation) → t.op ≡ op → WritesRun op mid new.run t.answer.said (state mid.disk) after
          → Keeps (state mid.disk)
      keeps_op (operation.Deliver claim run bytes now) is writes =
          λ at none. writes.kept star going want kept_is at (λ byte. none (written claim run bytes now is at byte))
      keeps_op (operation.Next worker now) is writes = bytes_same (state mid.disk) (writes star going want kept_is)
      keeps_op (operation.Seal gid sealed now) is writes = bytes_same (state mid.disk) (writes star going want kept_is)
      keeps_op (operation.Call session call now) is writes = bytes_same (state mid.disk) (writes star going want kept_is)
      keeps_op (operation.More claim most now) is writes = bytes_same (state mid.disk) (writes star going want kept_is)
      keeps_op (operation.Lose claim mark now) is writes = bytes_same (state mid.disk) (writes star going want kept_is)
      keeps_op (operation.Sized claim total now) is writes = bytes_same (state mid.disk) (writes star going want kept_is)
      keeps_op operation.Pulse is writes = bytes_same (state mid.disk) (writes star going want kept_is)
      keeps_op (operation.Notices from) is writes = bytes_same (state mid.disk) (writes star going want kept_is)
      keeps_op operation.Leave is writes = bytes_same (state mid.disk) (writes star going want kept_is)
      keeps_op (operation.Stop now) is writes = bytes_same (state mid.disk) (writes star going want kept_is)

    -- ---- an operation that opens none

    in_the_way : (star : Gid) → IsInWay mid.machine.start mid.machine.past (kept_want_of mid) want star
        → WritesRun t.op mid new.run t.answer.said (state mid.disk) after → Keeps (state mid.disk)
    in_the_way star way writes =
        let opened : is_opened_in S (history_of told) star ≡ true = ap is_opened (sym (own_told star)) ∙ way.going.opened in
        let same = just_this star way.other (inr (asked star opened))
        (has_told star way.other (kept_mid.has star way.other way.kept_is)) way.shares in
        keeps_op star way.going (way.kept_is ∙ ap (λ (v : Want). Some v) same) t.op refl writes

    keeps_left : LeavesDisk mid new.run (state mid.disk) after
        → WritesRun t.op mid new.run t.answer.said (state mid.disk) after → Keeps (state mid.disk)
    keeps_left leaves writes = ⊎_elim
        (λ (way : (star : Gid) × IsInWay mid.machine.start mid.machine.past (kept_want_of mid) want star).
        in_the_way way.0 way.1 writes)
        (λ none. bytes_same (state mid.disk) (leaves.others want none).seen.files)
        (in_way_or_none mid.machine.start mid.machine.past (kept_want_of mid) want
        (λ gid goes.
        let facts = going_facts mid.machine.start mid.machine.past mid.wants.items gid kept_mid goes in
        (facts.has.download, facts.has.added)))

    -- ---- one that opens a download

    module _ (gid : Gid) (is : IsNext t.op) (next : next_to_open S (history_of told) ≡ Some gid)
        (asks : AsksStore gid mid new.run t.answer.said (state mid.disk) after) where
      own_after : own_in new.run gid ≡ own_of S (history_of (t ∷ told)) gid
      own_after i = own_of (start_is i) (past_after i) gid

      asks_then : Asks S told t gid
      asks_then = record {
        asked = is;
        next = next;
        came = ⊎_elim
            (λ (opened : is_opened (own_in new.run gid) ≡ true). inl (ap is_opened (sym own_after) ∙ opened))
            (λ more. ⊎_elim
            (λ (failed : HasFailed new.run gid). inr (inl (subst (λ (p : List Event). HasFailedIn p gid) past_after failed)))
            (λ starved. inr (inr starved)) more) asks.touched;
      }

      by_names : (b : Bool) → share_names asks.want want ≡ b → HasFiles want.dir want.layout (state mid.disk).seen
          → SamePayload want (state mid.disk) after
      by_names false apart has = (keeps_apart laws asks.want want (state mid.disk) after apart asks.besides).seen.files
      by_names true shares has =
          let same = just_this gid asks.want (inl asks_then) (has_told gid asks.want asks.has) shares in
          subst (λ (v : Want). HasFiles v.dir v.layout (state mid.disk).seen → SamePayload v (state mid.disk) after) same
          asks.tries.payload has

    keeps_opened : (gid : Gid) → IsNext t.op → next_to_open S (history_of told) ≡ Some gid
        → OpensDisk gid mid new.run t.answer.said (state mid.disk) after → Keeps (state mid.disk)
    keeps_opened gid is next opens = bytes_same (state mid.disk) (⊎_elim
        (λ (still : StaysUnopened gid new.run (state mid.disk) after). (still.0 want).seen.files)
        (λ (asks : AsksStore gid mid new.run t.answer.said (state mid.disk) after).
        by_names gid is next asks (share_names asks.want want) refl
        (subst (λ (x : D). HasFiles want.dir want.layout (state x).seen) (sym alike.disk) files)) opens.came)

  -- ---- in each case

  pub payload_read : Keeps d
  payload_read = ⊎_elim
      (λ (alike : IsAlike old.run new.run).
      bytes_same d (subst (λ (x : D). SamePayload want d (state x)) (sym alike.disk) refl))
      (λ more. ⊎_elim
      (λ (left : LeavesUnopened state t.op old.run new.run t.answer.said).
      let mid = left.leaves.mid in
      let alike = left.leaves.alike in
      subst (λ (x : D). Keeps (state x)) alike.disk (keeps_left mid alike left.leaves.leaves left.writes))
      (λ (opens : OpensNext state t.op old.run new.run t.answer.said).
      let next : next_to_open S (history_of told) ≡ Some opens.gid = ap (next_to_open S) (sym past_is) ∙ opens.next in
      subst (λ (x : D). Keeps (state x)) opens.alike.disk
      (keeps_opened opens.mid opens.alike opens.gid opens.asked next opens.opens)) more) turn
