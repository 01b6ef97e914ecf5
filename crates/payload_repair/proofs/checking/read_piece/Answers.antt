use Rattle.std.proofs.Common.{◌∙◌, ◌≤◌, ◌<◌, ◌/◌, ap, sym, subst, ℕ, length, arith, IsTrue, take}
use Rattle.dl_disk.specs.Files.{file_bytes}
use Rattle.dl_kinds.specs.declared.plan.TheConstants.{BLOCK_LEN}
use Rattle.payload_repair.specs.Jobs.{hashed}
use Rattle.payload_repair.specs.Readings.{FindsPiece}
use Rattle.payload_repair.proofs.PieceLemmas.{finds, right_found, wrong_cut, length-leaves, some_leaves, leaves_fit}
use Rattle.payload_repair.proofs.StepLemmas.{steps_look_into}
use Rattle.payload_repair.proofs.checking.read_piece.Goals as goal

pub returns-then-start-size-clause-right : goal.returns-then-start-size-clause-right
returns-then-start-size-clause-right g c told =
    wrong_cut (hashed c.args.job.now) c.args.len (file_bytes ((g.D.Disk.state c.args.disk.now).seen c.args.name.now)) c.args.piece (omega arith)

pub returns-in_err-read_at-clause-steps : goal.returns-in_err-read_at-clause-steps
returns-in_err-read_at-clause-steps g c told =
    steps_look_into c.args.name.now (g.D.Disk.state c.args.disk.now) (g.D.Disk.state c.read_at.new.self) c.read_at.result (c.read_at.ensures.looks told)

pub returns-in_err-leaves-clause-steps : goal.returns-in_err-leaves-clause-steps
returns-in_err-leaves-clause-steps g c told =
    steps_look_into c.args.name.now (g.D.Disk.state c.args.disk.now) (g.D.Disk.state c.read_at.new.self) c.read_at.result (c.read_at.ensures.looks told)

pub returns-clause-steps : goal.returns-clause-steps
returns-clause-steps g c told =
    steps_look_into c.args.name.now (g.D.Disk.state c.args.disk.now) (g.D.Disk.state c.read_at.new.self) c.read_at.result (c.read_at.ensures.looks told)

pub has_hash-right-requires-clause-some : goal.has_hash-right-requires-clause-some
has_hash-right-requires-clause-some g c =
    let span = c.piece_span-start.ensures in
    let size : 0 < length c.read_at.new.into = omega (arith, span.some, span.start, span.end, c.requires.room, c.read_at.auto.into) in
    subst (λ (n : ℕ). 1 ≤ n) (sym (ap length c.in_ok-leaves.ensures ∙ length-leaves c.read_at.new.into)) (some_leaves (length c.read_at.new.into) size)

pub has_hash-right-requires-clause-fit : goal.has_hash-right-requires-clause-fit
has_hash-right-requires-clause-fit g c =
    let span = c.piece_span-start.ensures in
    let size : length c.read_at.new.into ≤ c.args.job.now.plan.piece_len = omega (arith, span.at_most_full, span.start, span.end, c.requires.room, c.read_at.auto.into) in
    subst (λ (n : ℕ). n ≤ c.args.job.now.plan.piece_len / BLOCK_LEN) (sym (ap length c.in_ok-leaves.ensures ∙ length-leaves c.read_at.new.into))
    (leaves_fit (length c.read_at.new.into) c.args.job.now.plan.piece_len c.requires.job.piece_len size)

found : (g : _) (c : goal.After-has_hash-right g) → IsTrue g.D.Disk.tells → FindsPiece (hashed c.args.job.now) (take c.args.len (file_bytes ((g.D.Disk.state c.args.disk.now).seen c.args.name.now))) c.args.piece c.read_at.new.into c.in_ok-leaves.leaves
found g c told =
    let span = c.piece_span-start.ensures in
    let file = hashed c.args.job.now in
    let content = (g.D.Disk.state c.args.disk.now).seen c.args.name.now in
    let start = c.piece_span-start.result.0 in
    let read = c.read_at.new.into in
    let bytes = take c.args.len (file_bytes content) in
    subst (FindsPiece file bytes c.args.piece read) (sym c.in_ok-leaves.ensures)
    (finds file c.args.piece (omega (arith, span.start, span.end)) c.args.len content start read span.start (omega (arith, c.requires.room, c.read_at.auto.into))
    (omega (arith, span.end, c.if-start-size.false)) (c.in_ok-read_at.ensures.read told))

pub returns-clause-right : goal.returns-clause-right
returns-clause-right g c told =
    right_found (hashed c.args.job.now) (take c.args.len (file_bytes ((g.D.Disk.state c.args.disk.now).seen c.args.name.now))) c.args.piece c.read_at.new.into c.in_ok-leaves.leaves
    c.has_hash-right.result (found g c told) c.has_hash-right.ensures

pub returns-clause-found : goal.returns-clause-found
returns-clause-found g c within told = found g c told

pub returns-clause-leaves : goal.returns-clause-leaves
returns-clause-leaves g c within = c.in_ok-leaves.ensures
