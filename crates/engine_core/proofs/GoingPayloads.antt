-- A turn leaves each byte of the payload of a download that went on, unless it writes it.
use Rattle.std.proofs.Common.{◌≡◌, ◌≤◌, ◌<◌, ◌+◌, ◌-◌, ⊎_elim, inl, inr, ℕ, List, ◌∷◌, Some, refl, slice_get, sym, ap, ◌∙◌, subst, true}
use Rattle.std.specs.Prelude.{◌⊎◌, Contains}
use Rattle.control_file.specs.declared.want.Want.{Want}
use Rattle.dl_disk.specs.Files.{Files}
use Rattle.dl_disk.specs.State.{DiskState}
use Rattle.dl_history.specs.OwnEvents.{OwnEvent}
use Rattle.dl_history.specs.PayloadParts.{is_opened}
use Rattle.dl_kinds.specs.Plan.{block_end, block_start}
use Rattle.dl_kinds.specs.declared.gid.Gid.{Gid}
use Rattle.dl_kinds.specs.declared.runs.Moment.{Moment}
use Rattle.dl_kinds.specs.declared.runs.Run.{Run}
use Rattle.engine_turns.specs.Told.{RunTurn, history_of}
use Rattle.engine_turns.specs.declared.operations.Operation.{Operation}
use Rattle.engine_turns.specs.declared.operations.Operation.TheVariants as operation
use Rattle.engine_turns.specs.declared.operations.Said.TheVariants.{NoMemory}
use Rattle.machine_core.specs.DownloadWants.{HasWant}
use Rattle.machine_core.specs.OwnParts.{own_of}
use Rattle.machine_core.specs.Starts.{RunStart}
use Rattle.machine_core.specs.declared.ends.End.TheVariants as end
use Rattle.machine_core.specs.declared.events.Event.{Event}
use Rattle.machine_core.specs.declared.events.Event.TheVariants.{Ended, Landed}
use Rattle.payload_files.specs.Payload.{payload_in}
use Rattle.resume_core.specs.States.{SamePayload}
use Rattle.stored_run.specs.Opening.{OpensDisk}
use Rattle.stored_run.specs.Settlings.{CameBetween, payload_of}
use Rattle.stored_run.specs.Stored.{AreWantsKept}
use Rattle.stored_run.specs.Views.{GoesOpened, IsGoing, kept_want, kept_want_of, own_in}
use Rattle.stored_run.specs.Writings.{IsByteOf, IsByteOfBlock, IsDeliveredByte, IsLandedByte, IsOpenByte}
use Rattle.stored_run.specs.declared.run.StoredView.{StoredView}
use Rattle.stored_run.proofs.LandedBytes.{came_of, payload_same}
use Rattle.engine_core.specs.Disks.{IsAlike, LeavesTurn, LeavesUnopened, OpensNext}
use Rattle.engine_core.specs.Engines.{past_of, start_of}
use Rattle.engine_core.specs.Writings.{CutsByte, KeepsUnwritten, LandsByte, WritesRun}
use Rattle.engine_core.specs.declared.state.EngineState.{EngineState}
use Rattle.engine_core.proofs.ReadTurns.{Payload, payload_cut, same_cut}
use Rattle.engine_core.proofs.TurnCases.{some_of}

module _ {D : Type 0} (state : D → DiskState) (old new : EngineState D) (told : List RunTurn) (t : RunTurn)
    (turn : LeavesTurn state t.op old new t.answer.said)
    (kept : AreWantsKept (start_of old) (past_of old) old.run.wants.items) (past_is : past_of old ≡ history_of told)
    (past_after : past_of new ≡ history_of (t ∷ told)) (star : Gid)
    (goes : GoesOpened (start_of old) (history_of told) star) (want : Want)
    (has : HasWant (start_of old) (history_of told) star want) where
  abbrev S : RunStart
  S = start_of old

  abbrev d : DiskState
  d = state old.run.disk

  abbrev after : DiskState
  after = state new.run.disk

  abbrev Keeps : DiskState → Type 0
  Keeps before = KeepsUnwritten S (history_of told) t want before.seen after.seen

  -- ---- what is kept of it cuts its payload as its want does

  abbrev its : (v : Want) × (kept_want old.run.wants.items S (past_of old) star ≡ Some v)
  its =
      some_of (kept_want old.run.wants.items S (past_of old) star)
      (kept.opened star (subst (λ (p : List Event). is_opened (own_of S p star) ≡ true) (sym past_is) goes.opened))

  same : payload_cut its.0 ≡ payload_cut want
  same =
      same_cut S (history_of told) star its.0 want
      (subst (λ (p : List Event). HasWant S p star its.0) past_is (kept.has star its.0 its.1)) has

  payload_is : (files : Files) → payload_of its.0 files ≡ payload_of want files
  payload_is files = ap (λ (p : Payload). payload_in p.dir p.layout files) same

  byte_is : (files : Files) (at : ℕ) → slice_get (payload_of its.0 files) at ≡ slice_get (payload_of want files) at
  byte_is files at = ap (λ (l : List ℕ). slice_get l at) (payload_is files)

  of_part : (part : Run) (at : ℕ) → IsByteOf its.0.plan part at → IsByteOf want.plan part at
  of_part part at is = record {
    from = subst (λ (p : Payload). block_start p.piece_len part.first ≤ at) same is.from;
    before = subst (λ (p : Payload). at < block_end p.total p.piece_len (part.first + part.count - 1)) same is.before;
  }

  of_block : (block at : ℕ) → IsByteOfBlock its.0.plan block at → IsByteOfBlock want.plan block at
  of_block block at is = record {
    from = subst (λ (p : Payload). block_start p.piece_len block ≤ at) same is.from;
    before = subst (λ (p : Payload). at < block_end p.total p.piece_len block) same is.before;
  }

  bytes_same : (before : DiskState) → SamePayload its.0 before after → Keeps before
  bytes_same before is at none =
      sym (byte_is after.seen at)
      ∙ (ap (λ (l : List ℕ). slice_get l at) (payload_same its.0 before after is) ∙ byte_is before.seen at)

  -- ---- with a view of the run at the beginning of the turn

  module _ (mid : StoredView D) (alike : IsAlike old.run mid) where
    mid_past : mid.machine.past ≡ history_of told
    mid_past = alike.past ∙ past_is

    going_mid : IsGoing mid star
    going_mid =
        subst (λ (s : RunStart). GoesOpened s mid.machine.past star) (sym alike.start)
        (subst (λ (p : List Event). GoesOpened S p star) (sym mid_past) goes)

    kept_mid : kept_want_of mid star ≡ Some its.0
    kept_mid = (λ i. kept_want (alike.wants i).items (alike.start i) (alike.past i) star) ∙ its.1

    own_told : own_in mid star ≡ own_of S (history_of told) star
    own_told i = own_of (alike.start i) (mid_past i) star

    -- what came between is one of the events
    among : (e : Event) → CameBetween mid.machine.past new.run.machine.past e → Contains t.events e
    among e came =
        came_of (history_of told) t.events e
        (subst (λ (p : List Event). CameBetween (history_of told) p e) past_after
        (subst (λ (p : List Event). CameBetween p new.run.machine.past e) mid_past came))

    open_byte : (claim : ℕ) (run : Run) (at : ℕ) → IsOpenByte (own_in mid star) claim run its.0.plan at
        → IsOpenByte (own_of S (history_of told) star) claim run want.plan at
    open_byte claim run at is =
        subst (λ (own : List OwnEvent). IsOpenByte own claim run want.plan at) own_told
        (record {
          claimed = is.claimed;
          stands = is.stands;
          id_is = is.id_is;
          block = is.block;
          of_run = is.of_run;
          open_in = is.open_in;
          inside = of_block is.block at is.inside;
        })

    written : (claim : ℕ) (run : Run) (bytes : List ℕ) (now : Moment) → t.op ≡ operation.Deliver claim run bytes now
        → (at : ℕ) → IsDeliveredByte star claim run mid new.run t.answer.said its.0.plan at
        → LandsByte S (history_of told) t want at ⊎ CutsByte S (history_of told) t want at
    written claim run bytes now delivers at is = ⊎_elim
        (λ (lands : IsLandedByte mid.machine.past new.run.machine.past star claim its.0.plan at). inl (record {
          gid = star;
          has = has;
          claim = claim;
          mirror = lands.mirror;
          part = lands.part;
          now = lands.now;
          landed = among (Landed star claim lands.mirror lands.part lands.now) lands.came;
          inside = of_part lands.part at lands.inside;
        }))
        (λ cut. inr (record {
          claim = claim;
          run = run;
          bytes = bytes;
          now = now;
          delivers = delivers;
          gid = star;
          has = has;
          open_in = open_byte claim run at cut.1;
          cut = ⊎_elim (λ (starved : t.answer.said ≡ NoMemory). inl starved)
              (λ failed. inr (failed.0, among (Ended star (end.Disk failed.0)) failed.1)) cut.0;
        })) is

    keeps_op : (op : Operation) → t.op ≡ op → WritesRun op mid new.run t.answer.said (state mid.disk) after
        → Keeps (state mid.disk)
    keeps_op (operation.Deliver claim run bytes now) is writes =
        λ at none. sym (byte_is after.seen at)
        ∙ (writes.kept star going_mid its.0 kept_mid at (λ byte. none (written claim run bytes now is at byte))
        ∙ byte_is (state mid.disk).seen at)
    keeps_op (operation.Next worker now) is writes = bytes_same (state mid.disk) (writes star going_mid its.0 kept_mid)
    keeps_op (operation.Seal gid sealed now) is writes = bytes_same (state mid.disk) (writes star going_mid its.0 kept_mid)
    keeps_op (operation.Call session call now) is writes = bytes_same (state mid.disk) (writes star going_mid its.0 kept_mid)
    keeps_op (operation.More claim most now) is writes = bytes_same (state mid.disk) (writes star going_mid its.0 kept_mid)
    keeps_op (operation.Lose claim mark now) is writes = bytes_same (state mid.disk) (writes star going_mid its.0 kept_mid)
    keeps_op (operation.Sized claim total now) is writes = bytes_same (state mid.disk) (writes star going_mid its.0 kept_mid)
    keeps_op operation.Pulse is writes = bytes_same (state mid.disk) (writes star going_mid its.0 kept_mid)
    keeps_op (operation.Notices from) is writes = bytes_same (state mid.disk) (writes star going_mid its.0 kept_mid)
    keeps_op operation.Leave is writes = bytes_same (state mid.disk) (writes star going_mid its.0 kept_mid)
    keeps_op (operation.Stop now) is writes = bytes_same (state mid.disk) (writes star going_mid its.0 kept_mid)

    keeps_opened : (gid : Gid) → OpensDisk gid mid new.run t.answer.said (state mid.disk) after → Keeps (state mid.disk)
    keeps_opened gid opens = bytes_same (state mid.disk) (opens.payloads star going_mid its.0 kept_mid)

  -- ---- in each case

  pub going_read : Keeps d
  going_read = ⊎_elim
      (λ (alike : IsAlike old.run new.run).
      bytes_same d (subst (λ (x : D). SamePayload its.0 d (state x)) (sym alike.disk) refl))
      (λ more. ⊎_elim
      (λ (left : LeavesUnopened state t.op old.run new.run t.answer.said).
      let alike = left.leaves.alike in
      subst (λ (x : D). Keeps (state x)) alike.disk (keeps_op left.leaves.mid alike t.op refl left.writes))
      (λ (opens : OpensNext state t.op old.run new.run t.answer.said).
      subst (λ (x : D). Keeps (state x)) opens.alike.disk (keeps_opened opens.mid opens.alike opens.gid opens.opens)) more) turn
