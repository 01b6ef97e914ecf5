use Rattle.std.proofs.Common.{◌≡◌, ◌⊎◌, true}
use Rattle.std.specs.Prelude.{All}
use Rattle.std.specs.List.{list_any}
use Rattle.dl_kinds.specs.declared.gid.Gid.{Gid}
use Rattle.dl_queue.specs.Calls.{was_added}
use Rattle.machine_core.specs.Replays.{is_same_gid}
use Rattle.machine_core.specs.TurnRooms.{AreRoomier, HasEntry, HasClaimRoom}
use Rattle.machine_core.proofs.spares.reserve_claims.Given as goal

-- of each active download there is room, or it is among those that are left
abbrev pub invariant-loop-gid : goal.invariant-loop-gid
invariant-loop-gid l = record {
  can : (goal.iterator-loop-gid).can_next l.gid-iterator;
  ends : (goal.iterator-loop-gid).is_finite l.gid-iterator;
  added : All (λ gid. was_added l.queue.added gid ≡ true) l.gid-iterator;
  roomier : AreRoomier l.initial.entries.items l.entries.items;
  done : (gid : Gid) → list_any (is_same_gid gid) l.initial.gid-iterator ≡ true
      → (list_any (is_same_gid gid) l.gid-iterator ≡ true) ⊎ HasEntry HasClaimRoom l.queue.added l.entries.items gid;
}
