use Rattle.std.proofs.Common.{◌≡◌, false, take}
use Rattle.std.specs.Prelude.{◌&&◌, not}
use Rattle.std.specs.List.{list_any}
use Rattle.segment_claim.specs.Free.{is_open_at}
use Rattle.segment_claim.specs.Open.{has_number}
use Rattle.segment_claim.proofs.scene.Scene.is_of_others.Given as goal

abbrev pub invariant-loop-other : goal.invariant-loop-other
invariant-loop-other l =
    list_any (λ other. not (has_number l.id other) && is_open_at l.self l.block other)
    (take l.other-index l.self.standing) ≡ false
