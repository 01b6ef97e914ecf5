use Rattle.std.proofs.Common.{◌≡◌, subst, ℕ, ◌+◌, true, IsTrue, arith}
use Rattle.std.proofs.lemmas.Bool.{both_ways}
use Rattle.payload_repair.specs.Jobs.{hashed, own_bytes, copy_bytes}
use Rattle.payload_repair.specs.Pieces.{is_right}
use Rattle.payload_repair.specs.Repairs.{is_mended}
use Rattle.payload_repair.proofs.AheadLemmas.{right_behind, puts_behind, changes_behind}
use Rattle.payload_repair.proofs.MendingLemmas.{right_unmended, counts_right, keeps_same}
use Rattle.payload_repair.proofs.mending.take_piece.Goals as goal

pub returns-in_err-look_ahead-clause-keeps : goal.returns-in_err-look_ahead-clause-keeps
returns-in_err-look_ahead-clause-keeps g c told =
    let d = g.D.Disk in
    keeps_same c.args.job.now c.args.piece (d.state c.args.disk.now) (d.state c.look_ahead.new.disk) (c.look_ahead.ensures.steps told)

pub returns-in_err-found-clause-keeps : goal.returns-in_err-found-clause-keeps
returns-in_err-found-clause-keeps g c told =
    let d = g.D.Disk in
    changes_behind c.args.job.now c.args.piece (d.state c.args.disk.now) (d.state c.look_ahead.new.disk) (d.state c.mend_piece.new.disk)
    (c.look_ahead.ensures.steps told) (c.mend_piece.ensures.keeps told)

-- ---- it is known to be right

right : (g : _) (c : goal.After-ahead-1 g) → IsTrue g.D.Disk.tells
    → is_right (hashed c.args.job.now) (own_bytes c.args.job.now (g.D.Disk.state c.args.disk.now).seen) c.args.piece ≡ true
right g c told =
    subst (λ (n : ℕ). is_right (hashed c.args.job.now) (own_bytes c.args.job.now (g.D.Disk.state c.args.disk.now).seen) n ≡ true) (omega arith)
    (c.in_ok-look_ahead.ensures.right told 0 (omega (arith, c.if-ahead-gt0.true)))

pub returns-then-ahead-gt0-clause-right : goal.returns-then-ahead-gt0-clause-right
returns-then-ahead-gt0-clause-right g c told k below =
    let d = g.D.Disk in
    let job = c.args.job.now in
    subst (λ (n : ℕ). is_right (hashed job) (own_bytes job (d.state c.look_ahead.new.disk).seen) n ≡ true) (omega arith)
    (right_behind job c.args.piece (d.state c.args.disk.now) (d.state c.look_ahead.new.disk) (d.state c.look_ahead.new.disk)
    (c.look_ahead.ensures.steps told) c.look_ahead.new.ahead.known c.args.piece (c.in_ok-look_ahead.ensures.right told) (1 + k) (omega (arith, below)))

pub returns-then-ahead-gt0-clause-counts : goal.returns-then-ahead-gt0-clause-counts
returns-then-ahead-gt0-clause-counts g c told =
    let job = c.args.job.now in
    let seen = (g.D.Disk.state c.args.disk.now).seen in
    counts_right (hashed job) (own_bytes job seen) (copy_bytes job seen) c.args.piece (right g c told)

pub returns-then-ahead-gt0-clause-puts : goal.returns-then-ahead-gt0-clause-puts
returns-then-ahead-gt0-clause-puts g c told mended =
    let job = c.args.job.now in
    let seen = (g.D.Disk.state c.args.disk.now).seen in
    absurd (both_ways (is_mended (hashed job) (own_bytes job seen) (copy_bytes job seen) c.args.piece)
    (right_unmended (hashed job) (own_bytes job seen) (copy_bytes job seen) c.args.piece (right g c told)) mended)

pub returns-then-ahead-gt0-clause-keeps : goal.returns-then-ahead-gt0-clause-keeps
returns-then-ahead-gt0-clause-keeps g c told =
    let d = g.D.Disk in
    keeps_same c.args.job.now c.args.piece (d.state c.args.disk.now) (d.state c.look_ahead.new.disk) (c.look_ahead.ensures.steps told)

-- ---- it was checked

pub returns-clause-puts : goal.returns-clause-puts
returns-clause-puts g c told =
    let d = g.D.Disk in
    puts_behind c.args.job.now c.args.piece (d.state c.args.disk.now) (d.state c.look_ahead.new.disk) (d.state c.mend_piece.new.disk)
    (c.look_ahead.ensures.steps told) (c.in_ok-found.ensures.puts told)

pub returns-clause-keeps : goal.returns-clause-keeps
returns-clause-keeps g c told =
    let d = g.D.Disk in
    changes_behind c.args.job.now c.args.piece (d.state c.args.disk.now) (d.state c.look_ahead.new.disk) (d.state c.mend_piece.new.disk)
    (c.look_ahead.ensures.steps told) (c.mend_piece.ensures.keeps told)
