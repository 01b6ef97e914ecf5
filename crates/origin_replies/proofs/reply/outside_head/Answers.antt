use Rattle.std.proofs.Common.{sym, ◌∙◌}
use Rattle.std.proofs.lemmas.Result.{IfOk-weaker}
use Rattle.origin_replies.proofs.HeadTexts.{outside-pieces}
use Rattle.origin_replies.proofs.reply.outside_head.Goals as goal

pub returns : goal.returns
returns c = IfOk-weaker c.format.result _ _ (λ text is. is ∙ sym (outside-pieces c.args.total)) c.format.ensures.ok
