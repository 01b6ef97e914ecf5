use Rattle.std.proofs.Common.{◌≡◌, ◌∙◌, ap, sym, subst, ℕ, ◌≤◌, true, List, length, arith}
use Rattle.std.specs.Prelude.{nat_lt}
use Rattle.std.proofs.lemmas.Bool.{both_ways}
use Rattle.payload_repair.specs.Jobs.{hashed, own_bytes, copy_bytes}
use Rattle.payload_repair.specs.Pieces.{piece_ends_at, leaves_in_piece}
use Rattle.payload_repair.specs.Placed.{IsInPlace}
use Rattle.payload_repair.specs.Repairs.{is_mended, places_by_leaves}
use Rattle.payload_repair.proofs.MendingLemmas.{right_unmended, wrong_unmended, counts_right, counts_wrong, counts_mended, keeps_same, keeps_written, fitted_same, own_leaves, content_same, copy_right, is_wanted}
use Rattle.payload_repair.proofs.PieceLemmas.{ends_some}
use Rattle.payload_repair.proofs.StepLemmas.{same_on}
use Rattle.payload_repair.proofs.mending.mend_piece.Goals as goal

-- ---- it is right

pub returns-then-own-clause-counts : goal.returns-then-own-clause-counts
returns-then-own-clause-counts g c told =
    let job = c.args.job.now in
    let seen = (g.D.Disk.state c.args.disk.now).seen in
    counts_right (hashed job) (own_bytes job seen) (copy_bytes job seen) c.args.piece (sym (c.in_ok-own.ensures.right told) ∙ c.if-own.true)

pub returns-then-own-clause-puts : goal.returns-then-own-clause-puts
returns-then-own-clause-puts g c told mended =
    let job = c.args.job.now in
    let seen = (g.D.Disk.state c.args.disk.now).seen in
    absurd (both_ways (is_mended (hashed job) (own_bytes job seen) (copy_bytes job seen) c.args.piece)
    (right_unmended (hashed job) (own_bytes job seen) (copy_bytes job seen) c.args.piece (sym (c.in_ok-own.ensures.right told) ∙ c.if-own.true)) mended)

pub returns-then-own-clause-keeps : goal.returns-then-own-clause-keeps
returns-then-own-clause-keeps g c told =
    keeps_same c.args.job.now c.args.piece (g.D.Disk.state c.args.disk.now) (g.D.Disk.state c.read_piece.new.disk) (c.read_piece.ensures.steps told)

-- ---- it is wrong in both

pub returns-in_err-copy-clause-keeps : goal.returns-in_err-copy-clause-keeps
returns-in_err-copy-clause-keeps g c told =
    let d = g.D.Disk in
    keeps_same c.args.job.now c.args.piece (d.state c.args.disk.now) (d.state c.read_copy.new.disk)
    (same_on (d.state c.args.disk.now) (d.state c.read_piece.new.disk) (d.state c.read_copy.new.disk) (c.read_piece.ensures.steps told) (c.read_copy.ensures.steps told))

pub returns-then-not-copy-clause-counts : goal.returns-then-not-copy-clause-counts
returns-then-not-copy-clause-counts g c told =
    let job = c.args.job.now in
    let a = g.D.Disk.state c.args.disk.now in
    let b = g.D.Disk.state c.read_piece.new.disk in
    counts_wrong (hashed job) (own_bytes job a.seen) (copy_bytes job a.seen) c.args.piece (sym (c.in_ok-own.ensures.right told) ∙ c.if-own.false)
    (sym (copy_right job c.args.piece a b (c.read_piece.ensures.steps told) c.in_ok-copy.copy.right (c.in_ok-copy.ensures.right told)) ∙ c.if-not-copy.true)

pub returns-then-not-copy-clause-puts : goal.returns-then-not-copy-clause-puts
returns-then-not-copy-clause-puts g c told mended =
    let job = c.args.job.now in
    let a = g.D.Disk.state c.args.disk.now in
    let b = g.D.Disk.state c.read_piece.new.disk in
    absurd (both_ways (is_mended (hashed job) (own_bytes job a.seen) (copy_bytes job a.seen) c.args.piece)
    (wrong_unmended (hashed job) (own_bytes job a.seen) (copy_bytes job a.seen) c.args.piece
    (sym (copy_right job c.args.piece a b (c.read_piece.ensures.steps told) c.in_ok-copy.copy.right (c.in_ok-copy.ensures.right told)) ∙ c.if-not-copy.true)) mended)

pub returns-then-not-copy-clause-keeps : goal.returns-then-not-copy-clause-keeps
returns-then-not-copy-clause-keeps g c told =
    let d = g.D.Disk in
    keeps_same c.args.job.now c.args.piece (d.state c.args.disk.now) (d.state c.read_copy.new.disk)
    (same_on (d.state c.args.disk.now) (d.state c.read_piece.new.disk) (d.state c.read_copy.new.disk) (c.read_piece.ensures.steps told) (c.read_copy.ensures.steps told))

-- ---- it is repaired

pub write_piece-requires-clause-own : goal.write_piece-requires-clause-own
write_piece-requires-clause-own g c told whole =
    let d = g.D.Disk in
    let job = c.args.job.now in
    let a = d.state c.args.disk.now in
    let m = d.state c.read_copy.new.disk in
    let same = same_on a (d.state c.read_piece.new.disk) m (c.read_piece.ensures.steps told) (c.read_copy.ensures.steps told) in
    let begins = ends_some job.plan.total job.plan.piece_len c.args.piece (omega (arith, c.requires.job.piece_len.least)) (omega (arith, c.requires.piece, job.plan.pieces_are)) in
    let within : piece_ends_at (hashed job) c.args.piece ≤ job.len = omega (arith, whole) in
    (c.in_ok-own.ensures.found within told).leaves_are
    ∙ own_leaves job a.seen c.args.piece (omega (arith, begins)) within
    ∙ ap (λ (l : List ℕ). leaves_in_piece (hashed job) l c.args.piece) (sym (content_same job a.seen m.seen same.seen))

pub write_piece-requires-clause-fitted : goal.write_piece-requires-clause-fitted
write_piece-requires-clause-fitted g c told first =
    let d = g.D.Disk in
    fitted_same c.args.job.now (d.state c.args.disk.now) (d.state c.read_copy.new.disk)
    (same_on (d.state c.args.disk.now) (d.state c.read_piece.new.disk) (d.state c.read_copy.new.disk) (c.read_piece.ensures.steps told) (c.read_copy.ensures.steps told))
    (c.requires.fitted told first)

pub returns-in_err-blocks-clause-keeps : goal.returns-in_err-blocks-clause-keeps
returns-in_err-blocks-clause-keeps g c told =
    let d = g.D.Disk in
    let job = c.args.job.now in
    let a = d.state c.args.disk.now in
    let b = d.state c.read_piece.new.disk in
    let m = d.state c.read_copy.new.disk in
    let yes : c.in_ok-copy.copy.right ≡ true = c.if-not-copy.false in
    let wanted = is_wanted job c.args.piece a b (c.read_piece.ensures.steps told) c.in_ok-own.own.right c.in_ok-copy.copy.right c.read_piece.new.into c.read_copy.new.into
    c.in_ok-own.own.leaves c.in_ok-copy.copy.leaves (c.requires.reached told) (c.in_ok-own.ensures.right told) c.if-own.false (c.in_ok-copy.ensures.right told) yes
    (λ within. c.in_ok-own.ensures.found within told) (c.in_ok-copy.ensures.found yes told) in
    keeps_written job c.args.piece (nat_lt job.len job.plan.total) (places_by_leaves (nat_lt job.len job.plan.total) c.in_ok-own.own.leaves c.in_ok-copy.copy.leaves) a m (d.state c.write_piece.new.disk)
    wanted.short wanted.mended wanted.places
    (same_on a b m (c.read_piece.ensures.steps told) (c.read_copy.ensures.steps told)) (c.write_piece.ensures.steps told)

pub returns-clause-keeps : goal.returns-clause-keeps
returns-clause-keeps g c told =
    let d = g.D.Disk in
    let job = c.args.job.now in
    let a = d.state c.args.disk.now in
    let b = d.state c.read_piece.new.disk in
    let m = d.state c.read_copy.new.disk in
    let yes : c.in_ok-copy.copy.right ≡ true = c.if-not-copy.false in
    let wanted = is_wanted job c.args.piece a b (c.read_piece.ensures.steps told) c.in_ok-own.own.right c.in_ok-copy.copy.right c.read_piece.new.into c.read_copy.new.into
    c.in_ok-own.own.leaves c.in_ok-copy.copy.leaves (c.requires.reached told) (c.in_ok-own.ensures.right told) c.if-own.false (c.in_ok-copy.ensures.right told) yes
    (λ within. c.in_ok-own.ensures.found within told) (c.in_ok-copy.ensures.found yes told) in
    keeps_written job c.args.piece (nat_lt job.len job.plan.total) (places_by_leaves (nat_lt job.len job.plan.total) c.in_ok-own.own.leaves c.in_ok-copy.copy.leaves) a m (d.state c.write_piece.new.disk)
    wanted.short wanted.mended wanted.places
    (same_on a b m (c.read_piece.ensures.steps told) (c.read_copy.ensures.steps told)) (c.write_piece.ensures.steps told)

pub returns-clause-counts : goal.returns-clause-counts
returns-clause-counts g c told =
    let d = g.D.Disk in
    let job = c.args.job.now in
    let a = d.state c.args.disk.now in
    let b = d.state c.read_piece.new.disk in
    let yes : c.in_ok-copy.copy.right ≡ true = c.if-not-copy.false in
    let wanted = is_wanted job c.args.piece a b (c.read_piece.ensures.steps told) c.in_ok-own.own.right c.in_ok-copy.copy.right c.read_piece.new.into c.read_copy.new.into
    c.in_ok-own.own.leaves c.in_ok-copy.copy.leaves (c.requires.reached told) (c.in_ok-own.ensures.right told) c.if-own.false (c.in_ok-copy.ensures.right told) yes
    (λ within. c.in_ok-own.ensures.found within told) (c.in_ok-copy.ensures.found yes told) in
    counts_mended (hashed job) (own_bytes job a.seen) (copy_bytes job a.seen) c.args.piece c.in_ok-blocks.blocks wanted.wrong wanted.right
    (ap length (sym wanted.places) ∙ sym c.in_ok-blocks.ensures.count)

pub returns-clause-puts : goal.returns-clause-puts
returns-clause-puts g c told mended =
    let d = g.D.Disk in
    let job = c.args.job.now in
    let a = d.state c.args.disk.now in
    let b = d.state c.read_piece.new.disk in
    let yes : c.in_ok-copy.copy.right ≡ true = c.if-not-copy.false in
    let wanted = is_wanted job c.args.piece a b (c.read_piece.ensures.steps told) c.in_ok-own.own.right c.in_ok-copy.copy.right c.read_piece.new.into c.read_copy.new.into
    c.in_ok-own.own.leaves c.in_ok-copy.copy.leaves (c.requires.reached told) (c.in_ok-own.ensures.right told) c.if-own.false (c.in_ok-copy.ensures.right told) yes
    (λ within. c.in_ok-own.ensures.found within told) (c.in_ok-copy.ensures.found yes told) in
    subst (λ (l : List (List ℕ)). IsInPlace job c.args.piece l (d.state c.write_piece.new.disk)) wanted.leaves (c.in_ok-blocks.ensures.placed told)
