-- Runs that nothing came between.
use Rattle.std.proofs.Common.{◌≡◌, ⊎_elim, inl, inr, ℕ, Option, None, refl, sym, ap, ◌∙◌}
use Rattle.std.specs.Prelude.{max}
use Rattle.dl_disk.specs.State.{DiskState}
use Rattle.dl_kinds.specs.declared.gid.Gid.{Gid}
use Rattle.dl_kinds.specs.declared.runs.Moment.{Moment}
use Rattle.machine_core.specs.Claiming.{next_to_open}
use Rattle.engine_turns.specs.declared.operations.Operation.TheVariants as operation
use Rattle.engine_turns.specs.declared.operations.Said.{Said}
use Rattle.stored_run.specs.Beginnings.{IsRoomier}
use Rattle.stored_run.specs.declared.run.StoredView.{StoredView}
use Rattle.engine_core.specs.Beginning.{Begins}
use Rattle.engine_core.specs.Disks.{IsAlike, LeavesPayloads, LeavesRun, LeavesTurn}
use Rattle.engine_core.specs.declared.state.EngineState.{EngineState}

module _ {D : Type 0} where
  pub alike_same : (r : StoredView D) → IsAlike r r
  alike_same r = record { start = refl; past = refl; wants = refl; disk = refl }

  alike_on : (a b c : StoredView D) → IsAlike a b → IsAlike b c → IsAlike a c
  alike_on a b c front back = record {
    start = back.start ∙ front.start;
    past = back.past ∙ front.past;
    wants = back.wants ∙ front.wants;
    disk = back.disk ∙ front.disk;
  }

  pub begun_alike : (now : Moment) (old mid : EngineState D) → Begins now old mid → IsAlike old.run mid.run
  begun_alike now old mid begins = record {
    start = begins.machine.start_is;
    past = begins.machine.past_is;
    wants = begins.wants;
    disk = begins.disk;
  }

  pub come_alike : (now : Moment) (old new : StoredView D) → new ≡ record old { now = record { 0 = max now.0 old.now.0 } }
      → IsAlike old new
  come_alike now old new is = record {
    start = ap (λ (r : StoredView D). r.machine.start) is;
    past = ap (λ (r : StoredView D). r.machine.past) is;
    wants = ap (λ (r : StoredView D). r.wants) is;
    disk = ap (λ (r : StoredView D). r.disk) is;
  }

  pub roomier_alike : (old new : StoredView D) → IsRoomier old new → IsAlike old new
  roomier_alike old new is = record {
    start = is.machine.start_is;
    past = is.machine.past_is;
    wants = is.wants;
    disk = is.disk;
  }

  -- what is to be opened next
  pub next_was : (now : Moment) (old mid : EngineState D) → Begins now old mid → (next : Option Gid)
      → next_to_open mid.run.machine.start mid.run.machine.past ≡ next
      → next_to_open old.run.machine.start old.run.machine.past ≡ next
  next_was now old mid begins next is =
      (λ i. next_to_open (sym begins.machine.start_is i) (sym begins.machine.past_is i)) ∙ is

  pub run_after : (state : D → DiskState) (old mid new : StoredView D) → IsAlike old mid → LeavesRun state mid new
      → LeavesRun state old new
  run_after state old mid new alike leaves = ⊎_elim (λ (none : IsAlike mid new). inl (alike_on old mid new alike none))
      (λ (some : LeavesPayloads state mid new).
      let from = some.leaves in
      inr (record {
        leaves = record { mid = from.mid; alike = alike_on old mid from.mid alike from.alike; leaves = from.leaves };
        payloads = some.payloads;
      })) leaves

  pub run_unopened : (state : D → DiskState) (worker : ℕ) (now : Moment) (old mid : EngineState D)
      → Begins now old mid → (new : EngineState D) (said : Said)
      → next_to_open old.run.machine.start old.run.machine.past ≡ None → LeavesRun state mid.run new.run
      → LeavesTurn state (operation.Next worker now) old new said
  run_unopened state worker now old mid begins new said none leaves = ⊎_elim
      (λ (alike : IsAlike old.run new.run). inl alike)
      (λ (some : LeavesPayloads state old.run new.run).
      inr (inl (record { leaves = some.leaves; none = λ asked. none; writes = some.payloads })))
      (run_after state old.run mid.run new.run (begun_alike now old mid begins) leaves)
