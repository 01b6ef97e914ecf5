use Rattle.std.specs.Prelude.{IfSome}
use Rattle.std.proofs.Common.{◌≤◌, ◌+◌, ◌∙◌, sym, ap, subst}
use Rattle.origin_replies.specs.Replies.{IsWithinFile, first_sent, len_sent, reply_by_span}
use Rattle.origin_replies.proofs.Within.{fits_by_head, within_by_head}
use Rattle.origin_replies.proofs.aim.reply_by_length.Goals as goal

pub returns-in-Some-clause-within : goal.returns-in-Some-clause-within
returns-in-Some-clause-within c =
    subst IsWithinFile (sym (c.reply_by_span.ensures ∙ ap (λ span. reply_by_span span c.in-Some.total) c.span_asked.ensures))
    (within_by_head c.spans_lie_within.ensures c.args.head.now c.in-Some.total)

pub returns-in-Some-clause-fits : goal.returns-in-Some-clause-fits
returns-in-Some-clause-fits c =
    let reply = c.reply_by_span.result in
    subst (λ file. IfSome file (λ total. first_sent reply + len_sent reply ≤ total)) (sym c.in-Some.is)
    (subst (λ reply. first_sent reply + len_sent reply ≤ c.in-Some.total)
    (sym (c.reply_by_span.ensures ∙ ap (λ span. reply_by_span span c.in-Some.total) c.span_asked.ensures))
    (fits_by_head c.spans_lie_within.ensures c.args.head.now c.in-Some.total))
