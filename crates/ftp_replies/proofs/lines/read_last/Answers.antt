use Rattle.std.proofs.Common.{arith, take, inl, inr, sym, ◌∙◌}
use Rattle.std.proofs.lemmas.Bool.{false≢true}
use Rattle.ftp_replies.proofs.ClosingLemmas.{closes_last, none_unclosed, due_last, none_apart, none_line}
use Rattle.ftp_replies.proofs.lines.read_last.Goals as goal
use Rattle.ftp_replies.proofs.lines.read_last.Goals.{then-begins-2, else-begins-2}

pub returns-then-begins : goal.returns-then-begins
returns-then-begins c =
    let line = c.in-Whole.ensures in (
      line.0,
      closes_last c.args.closing.now 63 (take c.in-Whole.len c.args.bytes.now) (omega arith) line.1
          (c.begins.ensures.0 c.if-begins.true),
    )

pub returns-else-begins : goal.returns-else-begins
returns-else-begins c =
    none_unclosed c.args.closing.now c.args.bytes.now c.in-Whole.len c.in-Whole.ensures
    (λ begins. false≢true (sym c.if-begins.false ∙ c.begins.ensures.1 begins))

pub returns-then-begins-3 : goal.returns-then-begins-3
returns-then-begins-3 c =
    due_last c.args.closing.now c.args.bytes.now c.requires c.in-More.ensures (elim c.if-begins-2.branch [
      | then-begins-2 w ↦ inl (c.begins-in-More.ensures.0 w.if-begins-2.true)
      | else-begins-2 w ↦ inr (w.begins-else-begins-2.ensures.0 (sym w.value-is ∙ c.if-begins-3.true))
    ])

pub returns-else-begins-3 : goal.returns-else-begins-3
returns-else-begins-3 c = elim c.if-begins-2.branch [
  | then-begins-2 w ↦ absurd (false≢true (sym c.if-begins-3.false ∙ (w.value-is ∙ w.if-begins-2.true)))
  | else-begins-2 w ↦
      none_apart c.args.closing.now c.args.bytes.now
      (λ begins. false≢true (sym w.if-begins-2.false ∙ c.begins-in-More.ensures.1 begins))
      (λ begins. false≢true (sym c.if-begins-3.false ∙ (w.value-is ∙ w.begins-else-begins-2.ensures.1 begins)))
]

pub returns-in-Bad : goal.returns-in-Bad
returns-in-Bad c = none_line c.args.closing.now 63 c.args.bytes.now c.in-Bad.ensures
