use Rattle.std.proofs.Common.{◌≡◌, ◌∙◌, ◌+◌, ◌*◌, ◌≤◌, ◌<◌, arith, ap, sym}
use Rattle.load_setup.specs.Payload.{right_from}
use Rattle.load_setup.proofs.Groups.{right_few, right_more, right_none}
use Rattle.load_setup.proofs.counting.count_right.Goals as goal

pub loop-group-init : goal.loop-group-init
loop-group-init g c = sym (right_none c.args.digests.now c.args.payload.now 0)

pub overflow_add-count : goal.overflow_add-count
overflow_add-count g c =
    let digests = c.args.digests.now in
    let payload = c.args.payload.now in
    let group = c.loop-group.group in
    let few : c.loop-group.count ≤ group * 16 = rw c.loop-group.invariant (right_few digests payload 0 (group * 16)) in
    let more : c.in_ok-count.field-0 ≤ 16 = rw c.in_ok-count.ensures (right_few digests payload (group * 16) 16) in
    let within : group < 4 = c.loop-group-test.true in
    omega (arith, few, more, within)

pub loop-group-preserved : goal.loop-group-preserved
loop-group-preserved g c =
    let digests = c.args.digests.now in
    let payload = c.args.payload.now in
    let group = c.loop-group.group in
    ap (λ n. n + c.in_ok-count.field-0) c.loop-group.invariant
    ∙ ap (λ n. right_from digests payload 0 (group * 16) + n) c.in_ok-count.ensures
    ∙ sym (right_more digests payload (group * 16) 16)
    ∙ ap (right_from digests payload 0) (let next : group * 16 + 16 ≡ (group + 1) * 16 = omega arith in next)
