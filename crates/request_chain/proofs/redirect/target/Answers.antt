use Rattle.std.proofs.Common.{◌∙◌}
use Rattle.std.proofs.lemmas.Result.{IfOk-weaker}
use Rattle.request_chain.proofs.Moving.{moved_there, moved_nowhere}
use Rattle.request_chain.proofs.redirect.target.Goals as goal

pub returns-in-Some : goal.returns-in-Some
returns-in-Some c = IfOk-weaker c.joined.result _ _ (λ joined is text only. is ∙ moved_there c.args.head.now c.args.url.now c.in-Some.text.now text c.in-Some.ensures.found only) c.joined.ensures

pub returns-in-None : goal.returns-in-None
returns-in-None c = λ text only. moved_nowhere c.args.head.now c.args.url.now text (c.in-None.ensures.none) only
