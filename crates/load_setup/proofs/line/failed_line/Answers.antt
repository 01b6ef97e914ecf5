use Rattle.std.proofs.Common.{◌∙◌}
use Rattle.load_setup.proofs.Lines.{failed-text}
use Rattle.load_setup.proofs.line.failed_line.Goals as goal

pub returns : goal.returns
returns c = c.in_ok-line.ensures.ok ∙ failed-text c.args.n c.args.status
