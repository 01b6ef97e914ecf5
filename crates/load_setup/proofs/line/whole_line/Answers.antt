use Rattle.std.proofs.Common.{◌∙◌}
use Rattle.load_setup.proofs.Lines.{whole-text}
use Rattle.load_setup.proofs.line.whole_line.Goals as goal

pub returns : goal.returns
returns c = (rw c.in_ok-digest.ensures at c.in_ok-line.ensures.ok) ∙ whole-text c.args.n c.args.right c.args.digest.now
