use Rattle.std.proofs.Common.{sym, ◌∙◌}
use Rattle.request_stream.proofs.HeadParts.{target_goes_on}
use Rattle.request_stream.proofs.parts.in_target.Goals as goal

pub returns-then-is_uri_token : goal.returns-then-is_uri_token
returns-then-is_uri_token c = λ front len h.
    target_goes_on front c.args.from c.args.byte (sym c.is_uri_token.ensures ∙ c.if-is_uri_token.true) h
