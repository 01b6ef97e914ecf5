use Rattle.std.proofs.Common.{◌∙◌, sym, Some, None}
use Rattle.std.proofs.lemmas.Result.{IfOk-weaker}
use Rattle.link_source.proofs.Answering.{replies}
use Rattle.link_source.proofs.mirrors.reply_to.Goals as goal

pub returns-in-Some : goal.returns-in-Some
returns-in-Some c = IfOk-weaker c.reply.result _ _
    (λ reply is. is ∙ sym (replies c.args.mirrors.now c.args.host.now c.args.port (Some c.in-Some.mirror.now) _ _ _ c.in-Some.ensures)) c.reply.ensures

pub returns-in-None : goal.returns-in-None
returns-in-None c =
    c.silence.ensures ∙ sym (replies c.args.mirrors.now c.args.host.now c.args.port None c.args.asked.now.target.now c.args.asked.now.first c.args.asked.now.last c.in-None.ensures)
