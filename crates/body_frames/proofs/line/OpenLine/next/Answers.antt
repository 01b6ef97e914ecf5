use Rattle.std.proofs.Common.{arith, ◌≡◌, ◌++◌, ◌&&◌, ◌==◌, false, ap, ◌∙◌}
use Rattle.std.proofs.lemmas.Bool.{and_left, and_right, ne_eqb}
use Rattle.body_frames.specs.Lines.{line_text}
use Rattle.body_frames.specs.Open.{last_cr}
use Rattle.body_frames.proofs.LineText.{ends, Pushed, pushed}
use Rattle.body_frames.proofs.line.OpenLine.next.Goals as goal
use Rattle.body_frames.proofs.line.OpenLine.next.Goals.{else-self-via-then-self+else-byte-eq10, else-self-via-else-self}

pub returns-then-byte-eq10 : goal.returns-then-byte-eq10
returns-then-byte-eq10 c = λ came is.
    rw c.if-byte-eq10.true (ends came (is.all ∙ ap (λ b. line_text came ++ last_cr b) c.if-self.true))

pub returns-then-len-limit : goal.returns-then-len-limit
returns-then-len-limit c = λ came is.
    let stays : (c.args.self.cr && c.args.byte == 10) ≡ false = elim c.else-self.branch [ else-self-via-then-self+else-byte-eq10 w ↦ and_right _ _ (ne_eqb _ _ w.if-byte-eq10.false) | else-self-via-else-self w ↦ and_left _ _ w.if-self.false ] in
    let p : Pushed came c.args.self.cr c.args.byte = pushed came c.args.self.cr c.args.byte is.all stays in
    omega (arith, p.len)

pub returns-else-len-limit : goal.returns-else-len-limit
returns-else-len-limit c = λ came is.
    let stays : (c.args.self.cr && c.args.byte == 10) ≡ false = elim c.else-self.branch [ else-self-via-then-self+else-byte-eq10 w ↦ and_right _ _ (ne_eqb _ _ w.if-byte-eq10.false) | else-self-via-else-self w ↦ and_left _ _ w.if-self.false ] in
    let p : Pushed came c.args.self.cr c.args.byte = pushed came c.args.self.cr c.args.byte is.all stays in
    (record { len = omega (arith, p.len); all = p.all }, omega arith)
