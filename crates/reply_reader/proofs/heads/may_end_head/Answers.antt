use Rattle.std.proofs.Common.{ℕ, List, take, drop, sym, subst, arith, take-append-drop, length-take}
use Rattle.http_heads.specs.Heads.{IsHead}
use Rattle.reply_reader.proofs.heads.may_end_head.Goals as goal

pub returns-else-bytes-ge-MAX_HEAD_BYTES-clause-headless : goal.returns-else-bytes-ge-MAX_HEAD_BYTES-clause-headless
returns-else-bytes-ge-MAX_HEAD_BYTES-clause-headless c is_not none head used is =
    let bytes = c.args.bytes.now in
    let fits = c.has_empty_line.ensures.head is_not head used is in
    none head used (c.heads_are_one_and_stay.ensures.stood (take c.args.from bytes) (drop c.args.from bytes) head used
    (subst (λ (l : List ℕ). IsHead l head used) (sym (take-append-drop c.args.from bytes)) is)
    (omega (arith, fits, length-take c.args.from bytes)))
