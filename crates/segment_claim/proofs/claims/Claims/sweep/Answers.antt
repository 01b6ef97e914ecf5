use Rattle.std.proofs.Common.{◌≡◌, ◌≤◌, ◌-◌, length, vec_len, vec_capacity, refl, sym, ap, ◌∙◌, arith}
use Rattle.std.proofs.lemmas.Bool.Decides.{nat_tests}
use Rattle.std.proofs.lemmas.List.Sums.{count_by-le-length, length-filter}
use Rattle.dl_kinds.specs.Plan.{pieces_of}
use Rattle.segment_claim.specs.Open.{is_underway}
use Rattle.segment_claim.proofs.KeptLemmas.{kept_filtered}
use Rattle.segment_claim.proofs.Standing.{closed_same, full_where_some, room_more}
use Rattle.segment_claim.proofs.claims.Claims.sweep.Goals as goal

pub sweep-requires-clause-pieces : goal.sweep-requires-clause-pieces
sweep-requires-clause-pieces c =
    let inside = c.self.inside in
    let some : 1 ≤ length inside.standing.items = let e = c.if-not-is_empty.ensures in let l = inside.standing.ok.0 in
    grind (arith, nat_tests) in
    ap length c.deref.ensures.value
    ∙ full_where_some _ _ inside.next inside.standing.items inside.closed.items c.self.invariant some

pub invariant_of-self : goal.invariant_of-self
invariant_of-self c =
    let inside = c.self.inside in
    rw c.sweep.ensures.rest (kept_filtered _ _ inside.standing.items _ _
    (is_underway inside.plan.piece_len c.blocks-then-not-is_empty.result.now c.deref.result.now) c.self.invariant)

pub returns-then-not-is_empty-clause-rest : goal.returns-then-not-is_empty-clause-rest
returns-then-not-is_empty-clause-rest c =
    let inside = c.self.inside in
    let some : 1 ≤ length inside.standing.items = let e = c.if-not-is_empty.ensures in let l = inside.standing.ok.0 in
    grind (arith, nat_tests) in
    let full : length inside.closed.items ≡ pieces_of inside.plan.total inside.plan.piece_len =
    full_where_some _ _ inside.next inside.standing.items inside.closed.items c.self.invariant some in
    let same = closed_same inside.plan.pieces inside.closed.items (full ∙ sym inside.plan.pieces_are) in
    rw (
      ← c.self.view_is,
      c.sweep.ensures.rest,
      same,
      ← c.blocks-then-not-is_empty.ensures.row,
      ←
          c.deref.ensures.value,
    ) refl

pub returns-then-not-is_empty-clause-room : goal.returns-then-not-is_empty-clause-room
returns-then-not-is_empty-clause-room c =
    let inside = c.self.inside in
    let stays = is_underway inside.plan.piece_len c.blocks-then-not-is_empty.result.now c.deref.result.now in
    let fewer : length c.sweep.new.standing.items ≤ length inside.standing.items =
    rw c.sweep.ensures.rest (omega
    (arith, length-filter stays inside.standing.items, count_by-le-length stays inside.standing.items)) in
    rw (← c.self.view_is) (room_more inside.plan.pieces (vec_len inside.closed)
    (vec_capacity inside.standing - vec_len inside.standing)
    (vec_capacity c.sweep.new.standing - vec_len c.sweep.new.standing)
    (omega (arith, c.sweep.ensures.capacity, inside.standing.ok.0, c.sweep.new.standing.ok.0)))
