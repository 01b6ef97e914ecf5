use Rattle.std.proofs.Common.{◌∙◌, ap, string_bytes}
use Rattle.hex.specs.Hex.{encode_lower}
use Rattle.console_session.proofs.Notifying.{notice_parts}
use Rattle.console_session.proofs.noticing.notice_text.Goals as goal

pub returns : goal.returns
returns c =
    c.in_ok-of.ensures
    ∙ (c.as_str.ensures.value
    ∙ (c.in_ok-text.ensures.ok
    ∙ notice_parts c.args.notice c.method_of-method.result.now (string_bytes c.in_ok-gid.gid) c.method_of-method.ensures
    (c.in_ok-gid.ensures ∙ ap encode_lower c.to_be_bytes.ensures)))
