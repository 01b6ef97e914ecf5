use Rattle.std.proofs.Common.{sym, ◌∙◌}
use Rattle.request_stream.proofs.HeadParts.{start_line_cut, start_line_ended, value_goes_on, value_may_end}
use Rattle.request_stream.proofs.parts.behind_field_value.Goals as goal

pub returns-then-is_header_value_token : goal.returns-then-is_header_value_token
returns-then-is_header_value_token c = λ front len h.
    value_goes_on front c.args.byte (sym c.is_header_value_token.ensures ∙ c.if-is_header_value_token.true) h

pub returns-then-byte-eq13 : goal.returns-then-byte-eq13
returns-then-byte-eq13 c = rw c.if-byte-eq13.true (λ front len h. start_line_cut front (value_may_end front h))

pub returns-then-byte-eq10 : goal.returns-then-byte-eq10
returns-then-byte-eq10 c = rw c.if-byte-eq10.true (λ front len h. start_line_ended front (value_may_end front h))
