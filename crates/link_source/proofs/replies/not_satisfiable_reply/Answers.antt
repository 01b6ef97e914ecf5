use Rattle.std.proofs.Common.{ap, ◌∙◌}
use Rattle.link_source.proofs.Heads.{not_satisfiable-text}
use Rattle.link_source.specs.Replies.{bare_reply}
use Rattle.link_source.proofs.replies.not_satisfiable_reply.Goals as goal

pub returns : goal.returns
returns c = c.without_content.ensures ∙ ap bare_reply (c.in_ok-head.ensures.ok ∙ not_satisfiable-text c.args.total)
