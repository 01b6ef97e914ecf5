use Rattle.std.proofs.Common.{sym, ◌∙◌, ap}
use Rattle.request_stream.proofs.ResponseTexts.{content_head-pieces}
use Rattle.request_stream.proofs.response.content_head.Goals as goal

pub returns : goal.returns
returns c = ap (λ v. v.items) c.into_bytes.ensures.value ∙ (c.in_ok-text.ensures.ok ∙ sym (content_head-pieces c.args.len))
