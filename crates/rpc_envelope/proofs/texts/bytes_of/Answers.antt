use Rattle.std.proofs.Common.{◌∙◌, ◌++◌, List, ℕ, ap, arith, sym}
use Rattle.std.proofs.lemmas.List.{take_all}
use Rattle.rpc_envelope.specs.Texts.{passage_text, passages_text}
use Rattle.rpc_envelope.proofs.TextLemmas.{passages_next}
use Rattle.rpc_envelope.proofs.texts.bytes_of.Goals as goal

pub loop-passage-preserved : goal.loop-passage-preserved
loop-passage-preserved c =
    let item = c.passage-item.result in
    c.in_ok-put_passage.ensures
    ∙ (ap (λ (front : List ℕ). front ++ passage_text item) c.loop-passage.invariant
    ∙ sym (passages_next c.args.passages.now c.loop-passage.passage-index item c.loop-passage-test.true c.passage-item.is))

pub returns : goal.returns
returns c =
    c.loop-passage.invariant ∙ ap passages_text (take_all c.loop-passage.passage-index c.args.passages.now c.loop-passage-test.false)
