use Rattle.std.proofs.Common.{ap, sym, ◌∙◌, ◌++◌}
use Rattle.std.specs.Prelude.{Some}
use Rattle.rpc_envelope.proofs.TextLemmas.{closed, closed_none}
use Rattle.rpc_envelope.proofs.batches.close_if_any.Goals as goal

pub returns-then-is_empty : goal.returns-then-is_empty
returns-then-is_empty c items is = closed_none c.args.list items is (sym c.is_empty.ensures ∙ c.if-is_empty.true)

pub returns : goal.returns
returns c items is =
    ap Some (c.in_ok-push.ensures ∙ ap (λ end. c.args.list ++ end) c.in_ok-end.ensures.items)
    ∙ closed c.args.list items is (sym c.is_empty.ensures ∙ c.if-is_empty.false)
