use Rattle.std.proofs.Common.{ap, ◌∙◌}
use Rattle.link_source.proofs.Heads.{moved-text}
use Rattle.link_source.specs.Replies.{bare_reply}
use Rattle.link_source.proofs.replies.moved_reply.Goals as goal

pub returns : goal.returns
returns c = c.without_content.ensures ∙ ap bare_reply (c.in_ok-head.ensures.ok ∙ moved-text c.args.location.now)
