use Rattle.std.proofs.Common.{◌∙◌}
use Rattle.link_source.proofs.Heads.{status-text}
use Rattle.link_source.proofs.replies.status_text.Goals as goal

pub returns : goal.returns
returns c = rw c.into_bytes.ensures.value (c.in_ok-head.ensures.ok ∙ status-text c.args.status)
