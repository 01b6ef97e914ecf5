use Rattle.std.proofs.Common.{◌<◌, ◌+◌, length, arith}
use Rattle.segment_claim.proofs.OwnRuns.{none_true, same_itself, same_number}
use Rattle.segment_claim.proofs.scene.Scene.is_without_sole.Goals as goal

pub returns : goal.returns
returns c =
    let row = c.self.inside.sole.now in
    let first = c.piece_of-first.result in
    let last = c.piece_of-end.result in
    let next = c.next_within.result in
    let known : last < length row =
    omega (arith, c.piece_of-end.ensures.within, c.self.inside.plan.pieces_are, c.self.invariant.sound.sole) in
    let is = none_true row first last next known c.next_within.ensures.within c.next_within.ensures.found
    c.next_within.ensures.later c.next_within.ensures.passed in
    rw (← c.self.view_is, ← c.piece_of-first.ensures.value, ← c.piece_of-end.ensures.value)
    (λ yes. is.0 (same_number next (last + 1) yes), λ none. rw (is.1 none) (same_itself (last + 1)))
