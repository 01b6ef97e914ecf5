use Rattle.std.proofs.Common.{◌-◌, ◌*◌, ◌≤◌, arith, length, take, inl, inr}
use Rattle.std.proofs.Math.ListN.{drop}
use Rattle.std.proofs.lemmas.Bool.{cases_lt}
use Rattle.payload_repair.proofs.AheadLemmas.{front_len, reads_in_front, right_before, right_by_part, right_within}
use Rattle.payload_repair.proofs.StepLemmas.{same_on}
use Rattle.payload_repair.proofs.ahead.+count_ahead.Goals as goal
use Rattle.payload_repair.proofs.ahead.+count_ahead.Goals.{then-reads-eq0, else-reads-eq0}

-- ---- it ends here

pub returns-then-right-count-clause-right : goal.returns-then-right-count-clause-right
returns-then-right-count-clause-right g t c told k below =
    let job = c.args.job.now in
    right_by_part job c.args.first c.args.start ((g.D.Disk.state c.args.disk.now).seen job.name.now)
    (take (c.args.count * job.plan.piece_len) c.args.near.now) k c.requires.job (c.requires.read told)
    (c.in_ok-right.ensures.right k below)

pub returns-then-right-count-clause-within : goal.returns-then-right-count-clause-within
returns-then-right-count-clause-within g t c =
    let job = c.args.job.now in
    right_within job c.args.first c.args.start (take (c.args.count * job.plan.piece_len) c.args.near.now)
    c.in_ok-right.right c.requires.first c.in_ok-right.ensures.right

-- ---- it goes on

pub count_ahead-requires-clause-read : goal.count_ahead-requires-clause-read
count_ahead-requires-clause-read g t c κs within told =
    let d = g.D.Disk in
    let size = c.whole_ahead-behind.result.1 * c.args.job.now.plan.piece_len in
    let fits : size ≤ length c.args.far.now = elim c.if-reads-eq0.branch [
      | then-reads-eq0 w ↦ omega (arith, c.whole_ahead-behind.ensures.room, w.room-is)
      | else-reads-eq0 w ↦ omega (arith, c.whole_ahead-behind.ensures.room, w.room-is)
    ] in
    let read_len = front_len size c.args.far.now c.count_and_read.new.into fits c.count_and_read.auto.into in
    reads_in_front c.args.job.now.name.now (d.state c.args.disk.now).seen (d.state c.count_and_read.new.disk).seen
    c.whole_ahead-behind.result.0 size c.count_and_read.new.into (drop size c.args.far.now)
    (c.count_and_read.ensures.steps told).seen read_len (c.in_ok-right.ensures.read told)

pub returns-in_err-known-clause-steps : goal.returns-in_err-known-clause-steps
returns-in_err-known-clause-steps g t c told =
    let d = g.D.Disk in
    same_on (d.state c.args.disk.now) (d.state c.count_and_read.new.disk) (d.state c.count_ahead.new.disk)
    (c.count_and_read.ensures.steps told) (c.count_ahead.ensures.steps told)

pub returns-clause-right : goal.returns-clause-right
returns-clause-right g t c told k below = elim (cases_lt k c.in_ok-right.right) [
  | inl front ↦
      let job = c.args.job.now in
      right_by_part job c.args.first c.args.start ((g.D.Disk.state c.args.disk.now).seen job.name.now)
      (take (c.args.count * job.plan.piece_len) c.args.near.now) k c.requires.job (c.requires.read told)
      (c.in_ok-right.ensures.right k front)
  | inr back ↦
      let d = g.D.Disk in
      let all : c.args.count ≤ c.in_ok-right.right = omega (arith, c.if-right-count.false) in
      let few = c.in_ok-right.ensures.within in
      right_before c.args.job.now c.args.first c.args.count k (d.state c.args.disk.now)
      (d.state c.count_and_read.new.disk) (c.count_and_read.ensures.steps told) (omega (arith, all, back))
      (c.in_ok-known.ensures.right told (k - c.args.count) (omega (arith, below, all, few, back)))
]

pub returns-clause-steps : goal.returns-clause-steps
returns-clause-steps g t c told =
    let d = g.D.Disk in
    same_on (d.state c.args.disk.now) (d.state c.count_and_read.new.disk) (d.state c.count_ahead.new.disk)
    (c.count_and_read.ensures.steps told) (c.count_ahead.ensures.steps told)
