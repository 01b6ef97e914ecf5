use Rattle.std.proofs.Common.{◌≡◌, ◌∙◌, ◌+◌, ◌++◌, ℕ, List, ap, sym, add-one, append_assoc, arith}
use Rattle.rpc_envelope.specs.Texts.{repeated}
use Rattle.rpc_envelope.proofs.texts.put_passage.Goals as goal

pub loop-preserved : goal.loop-preserved
loop-preserved c =
    let text = c.args.passage.now.text.items in
    let front = c.args.bytes.now.items in
    let more : repeated text (c.loop.counter + 1) ≡ repeated text c.loop.counter ++ text =
    ap (repeated text) (add-one c.loop.counter) in
    c.in_ok-extend_from_slice.ensures.items
    ∙ (ap (λ (more : List ℕ). c.loop.bytes.items ++ more) c.deref.ensures.value
    ∙ (ap (λ (bytes : List ℕ). bytes ++ text) c.loop.invariant
    ∙ (append_assoc front (repeated text c.loop.counter) text
    ∙ ap (λ (rest : List ℕ). front ++ rest) (sym more))))

pub returns : goal.returns
returns c =
    let all : c.loop.counter ≡ c.args.passage.now.times = omega arith in
    c.loop.invariant ∙ ap (λ (n : ℕ). c.args.bytes.now.items ++ repeated c.args.passage.now.text.items n) all
