use Rattle.std.proofs.Common.{sym, ◌∙◌}
use Rattle.std.proofs.lemmas.Result.{IfOk-weaker}
use Rattle.origin_replies.proofs.HeadTexts.{part-pieces}
use Rattle.origin_replies.proofs.reply.part_head.Goals as goal

pub returns : goal.returns
returns c = IfOk-weaker c.format.result _ _ (λ text is. is ∙ sym (part-pieces c.args.first c.args.last c.args.total c.requires.0)) c.format.ensures.ok
