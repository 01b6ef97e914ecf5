use Rattle.std.proofs.Common.{sym, ◌∙◌}
use Rattle.request_stream.proofs.HeadParts.{method_ended, method_goes_on}
use Rattle.request_stream.proofs.parts.behind_method.Goals as goal

pub returns-then-byte-eq32 : goal.returns-then-byte-eq32
returns-then-byte-eq32 c = rw c.if-byte-eq32.true (λ front len h. method_ended front c.args.end len h)

pub returns-then-is_method_token : goal.returns-then-is_method_token
returns-then-is_method_token c = λ front len h.
    method_goes_on front c.args.byte (sym c.is_method_token.ensures ∙ c.if-is_method_token.true) h
