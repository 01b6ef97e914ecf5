use Rattle.std.proofs.Common.{◌∙◌, ap, sym, subst, ◌+◌, ◌-◌, ◌*◌, ◌≤◌, min, arith}
use Rattle.payload_repair.specs.Counting.{plus}
use Rattle.payload_repair.specs.Jobs.{hashed, own_bytes, copy_bytes}
use Rattle.payload_repair.specs.Pieces.{piece_starts_at, piece_ends_at}
use Rattle.payload_repair.specs.Repairs.{counts_upto}
use Rattle.payload_repair.specs.declared.counts.Counts.{Counts}
use Rattle.payload_repair.proofs.LoopLemmas.{stands_here, keeps_more, puts_more, counts_same, counts_more, bounded_next, still_stands, fitted_next, keeps_among}
use Rattle.payload_repair.proofs.mending.mend_pieces.Goals as goal

pub loop-piece-preserved : goal.loop-piece-preserved
loop-piece-preserved g c =
    let d = g.D.Disk in
    let job = c.args.job.now in
    let piece = c.loop-piece.piece in
    let was = c.loop-piece.invariant in
    let start = d.state c.args.disk.now in
    let now = d.state c.loop-piece.disk in
    let new = d.state c.take_piece.new.disk in
    let file = hashed job in
    let span = c.piece_span-size.ensures in
    let begins : piece_starts_at file piece ≤ piece_ends_at file piece = omega (arith, span.start, span.end) in
    let here = piece_starts_at file piece in
    let size = piece_ends_at file piece - piece_starts_at file piece in
    let found = c.in_ok-found.found in
    record {
      counts = λ told apart.
          let same = stands_here job piece begins start now (c.requires.stands told) apart (was.keeps told apart) in
          c.plus-counts.ensures
          ∙ ap (λ (x : Counts). plus x found) (was.counts told apart)
          ∙ ap (plus (counts_upto file (own_bytes job start.seen) (copy_bytes job start.seen) piece))
          (c.in_ok-found.ensures.counts told ∙ counts_same file (own_bytes job start.seen) (copy_bytes job start.seen) (own_bytes job now.seen) (copy_bytes job now.seen) piece same)
          ∙ counts_more file (own_bytes job start.seen) (copy_bytes job start.seen) piece;
      bounded = subst (Rattle.payload_repair.specs.Counting.AreOf (piece + 1) (min ((piece + 1) * job.plan.piece_len) job.plan.total)) (sym c.plus-counts.ensures)
          (bounded_next piece (min (piece * job.plan.piece_len) job.plan.total) (min ((piece + 1) * job.plan.piece_len) job.plan.total) c.loop-piece.counts found size was.bounded c.in_ok-found.ensures.bounded
          (omega (arith, span.start, span.end, span.some)));
      reached = λ told. still_stands job piece now new (c.take_piece.ensures.keeps told) (was.reached told);
      fitted = λ told some. fitted_next job piece now new c.loop-piece.counts found (c.in_ok-found.ensures.counts told) (was.fitted told) (c.take_piece.ensures.keeps told) (c.in_ok-found.ensures.puts told)
          (λ zero. some (ap (λ (x : Counts). x.repaired) c.plus-counts.ensures ∙ zero));
      puts = λ told apart.
          let same = stands_here job piece begins start now (c.requires.stands told) apart (was.keeps told apart) in
          puts_more job piece begins start now (c.requires.stands told) new same (was.keeps told apart) (c.take_piece.ensures.keeps told)
          (λ earlier before. omega arith) (was.puts told apart) (c.in_ok-found.ensures.puts told);
      keeps = λ told apart.
          let same = stands_here job piece begins start now (c.requires.stands told) apart (was.keeps told apart) in
          keeps_more job piece begins start now (c.requires.stands told) new same (was.keeps told apart) (c.take_piece.ensures.keeps told);
      ahead = c.in_ok-found.ensures.right;
      faults = c.in_ok-found.ensures.cause.done ∙ was.faults;
    }

pub returns-in_err-found-clause-keeps : goal.returns-in_err-found-clause-keeps
returns-in_err-found-clause-keeps g c told apart =
    let d = g.D.Disk in
    let job = c.args.job.now in
    let piece = c.loop-piece.piece in
    let was = c.loop-piece.invariant in
    let start = d.state c.args.disk.now in
    let now = d.state c.loop-piece.disk in
    let new = d.state c.take_piece.new.disk in
    let span = c.piece_span-size.ensures in
    let begins : piece_starts_at (hashed job) piece ≤ piece_ends_at (hashed job) piece = omega (arith, span.start, span.end) in
    let same = stands_here job piece begins start now (c.requires.stands told) apart (was.keeps told apart) in
    keeps_among job (piece + 1) job.plan.pieces start new (omega (arith, c.loop-piece-test.true))
    (keeps_more job piece begins start now (c.requires.stands told) new same (was.keeps told apart) (c.take_piece.ensures.keeps told))

pub returns-clause-keeps : goal.returns-clause-keeps
returns-clause-keeps g c told apart =
    let d = g.D.Disk in
    let job = c.args.job.now in
    keeps_among job c.loop-piece.piece job.plan.pieces (d.state c.args.disk.now) (d.state c.loop-piece.disk) (omega (arith, c.loop-piece.auto.piece-end)) (c.loop-piece.invariant.keeps told apart)
