use Rattle.std.proofs.Common.{ℕ, ◌≡◌, ◌∙◌, ◌+◌, ◌-◌, ap, arith, false, sym, true}
use Rattle.piece_table.proofs.Weights.{sum_where-next}
use Rattle.machine_core.specs.Asked.{known_by}
use Rattle.run_report.specs.Files.{shared_bytes}
use Rattle.run_report.proofs.Shares.{sum_begins, sum_ends}
use Rattle.run_report.proofs.pieces.verified_bytes_in.Goals as goal
use Rattle.run_report.proofs.pieces.verified_bytes_in.Goals.{then-get, else-get}

pub loop-piece-init : goal.loop-piece-init
loop-piece-init c = record {
  sum = sym (sum_begins (known_by c.args.lengths) c.args.first c.args.len c.min-low.result c.args.verified.now
      c.requires.some (omega arith) (omega arith));
  few = omega arith;
  within = omega arith;
}

pub loop-piece-preserved : goal.loop-piece-preserved
loop-piece-preserved c =
    let l = known_by c.args.lengths in
    let piece = c.loop-piece.piece in
    let next = sum_where-next (shared_bytes l c.args.first c.args.len) c.args.verified.now piece in
    let len_is : c.args.first + c.args.len - c.args.first ≡ c.args.len = omega arith in
    elim c.if-get.branch [
      | then-get w ↦
          let shared : w.shared_bytes-bytes.result ≡ shared_bytes l c.args.first c.args.len piece =
          w.shared_bytes-bytes.ensures.value ∙ ap (λ (n : ℕ). shared_bytes l c.args.first n piece) len_is in
          record {
            sum = omega (arith, next true w.if-get.ensures, w.bytes-is, shared);
            few = omega (arith, w.bytes-is, w.shared_bytes-bytes.ensures.few);
            within = omega arith;
          }
      | else-get w ↦
          record {
            sum = omega (arith, next false w.if-get.ensures, w.bytes-is);
            few = omega (arith, w.bytes-is);
            within = omega arith;
          }
    ]

pub returns : goal.returns
returns c =
    c.loop-piece.invariant.sum
    ∙ sym (sum_ends (known_by c.args.lengths) c.args.first c.args.len c.loop-piece.piece c.args.verified.now
    c.requires.some c.loop-piece.invariant.within (λ more. omega arith))
