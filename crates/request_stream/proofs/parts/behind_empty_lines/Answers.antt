use Rattle.std.proofs.Common.{sym, ◌∙◌}
use Rattle.request_stream.proofs.HeadParts.{line_cut, line_ended, method_begun}
use Rattle.request_stream.proofs.parts.behind_empty_lines.Goals as goal

pub returns-then-byte-eq13 : goal.returns-then-byte-eq13
returns-then-byte-eq13 c = rw c.if-byte-eq13.true (λ front len h. line_cut front h)

pub returns-then-byte-eq10 : goal.returns-then-byte-eq10
returns-then-byte-eq10 c = rw c.if-byte-eq10.true (λ front len h. line_ended front h)

pub returns-then-is_method_token : goal.returns-then-is_method_token
returns-then-is_method_token c = λ front len h.
    method_begun front c.args.byte (sym c.is_method_token.ensures ∙ c.if-is_method_token.true) h
