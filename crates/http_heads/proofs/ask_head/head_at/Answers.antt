use Rattle.std.proofs.Common.{arith, sym, subst}
use Rattle.std.specs.Prelude.{IsUtf8}
use Rattle.http_heads.proofs.FieldLemmas.{request_short, spans_cover, token_text}
use Rattle.http_heads.proofs.AskHeadLemmas.{head_found}
use Rattle.http_heads.proofs.ask_head.head_at.Goals as goal

pub text_at-requires-clause-utf8 : goal.text_at-requires-clause-utf8
text_at-requires-clause-utf8 c =
    let at = c.requires.found.1 in
    subst IsUtf8 (sym at.method) (token_text c.requires.found.0.method at.reads.0.method)

pub fields_at-requires-clause-fields : goal.fields_at-requires-clause-fields
fields_at-requires-clause-fields c =
    let at = c.requires.found in
    spans_cover c.args.bytes.now c.args.spans.now c.args.parts.now.headers at.0.fields at.1.reads.0.fields
    (request_short at.0 (omega (arith, at.1.len, c.requires.bytes_fit))) at.1.fields

pub returns : goal.returns
returns c =
    let at = c.requires.found in
    rw (c.in_ok-text_at.ensures, c.in_ok-text_at-2.ensures, c.in_ok-fields_at.ensures)
    (head_found c.args.bytes.now c.args.spans.now c.args.parts.now at.0 c.requires.within at.1 c.requires.bytes_fit c.requires.fields_fit)
