use Rattle.std.proofs.Common.{sym, ◌∙◌}
use Rattle.request_stream.proofs.HeadParts.{name_ended, name_goes_on}
use Rattle.request_stream.proofs.parts.behind_field_name.Goals as goal

pub returns-then-byte-eq58 : goal.returns-then-byte-eq58
returns-then-byte-eq58 c = rw c.if-byte-eq58.true (λ front len h. name_ended front h)

pub returns-then-is_header_name_token : goal.returns-then-is_header_name_token
returns-then-is_header_name_token c = λ front len h.
    name_goes_on front c.args.byte (sym c.is_header_name_token.ensures ∙ c.if-is_header_name_token.true) h
