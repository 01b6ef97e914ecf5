use Rattle.std.proofs.Common.{sym, ◌∙◌}
use Rattle.request_stream.proofs.HeadParts.{head_cut, name_begun}
use Rattle.request_stream.proofs.parts.behind_lines.Goals as goal

pub returns-then-byte-eq13 : goal.returns-then-byte-eq13
returns-then-byte-eq13 c = rw c.if-byte-eq13.true (λ front len h. head_cut front h)

pub returns-then-is_header_name_token : goal.returns-then-is_header_name_token
returns-then-is_header_name_token c = λ front len h.
    name_begun front c.args.byte (sym c.is_header_name_token.ensures ∙ c.if-is_header_name_token.true) h
