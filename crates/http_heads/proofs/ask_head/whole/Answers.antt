use Rattle.std.proofs.Common.{arith}
use Rattle.http_heads.proofs.AskHeadLemmas.{head_too_large}
use Rattle.http_heads.proofs.ask_head.whole.Goals as goal

pub returns-then-parts-gt-MAX_HEAD_BYTES-clause-bad : goal.returns-then-parts-gt-MAX_HEAD_BYTES-clause-bad
returns-then-parts-gt-MAX_HEAD_BYTES-clause-bad c = λ _.
    let at = c.requires.found in
    head_too_large c.args.bytes.now c.args.spans.now c.args.parts.now at.0 c.requires.within at.1 (grind arith)
