use Rattle.std.proofs.Common.{◌∙◌, ◌≤◌, ◌/◌, ap, sym, subst, ℕ, length, arith}
use Rattle.dl_kinds.specs.declared.plan.TheConstants.{BLOCK_LEN}
use Rattle.payload_repair.proofs.PieceLemmas.{leaves_fit, length-leaves}
use Rattle.payload_repair.proofs.ahead.is_right_at.Goals as goal

pub has_hash-requires-clause-fit : goal.has_hash-requires-clause-fit
has_hash-requires-clause-fit c =
    let bytes = c.args.bytes.now in
    let piece_len = c.args.job.now.plan.piece_len in
    let within : length bytes ≤ piece_len = omega (arith, c.piece_span-start.ensures.at_most_full, c.if-bytes-size.false) in
    subst (λ (n : ℕ). n ≤ piece_len / BLOCK_LEN) (sym (ap length c.in-Ok.ensures ∙ length-leaves bytes))
    (leaves_fit (length bytes) piece_len c.requires.job.piece_len within)
