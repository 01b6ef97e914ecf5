use Rattle.std.proofs.Common.{sym, ◌∙◌, ap}
use Rattle.range_http.proofs.RequestLemmas.{request_text-pieces}
use Rattle.range_http.proofs.asked.request.Goals as goal

pub returns : goal.returns
returns c = ap (λ v. v.items) c.into_bytes.ensures.value ∙ (c.in_ok-text.ensures.ok ∙ sym (request_text-pieces c.args.target.now c.args.host.now c.args.asked.now))
