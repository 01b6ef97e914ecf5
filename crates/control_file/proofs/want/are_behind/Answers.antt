use Rattle.std.proofs.Common.{◌∙◌, sym, subst, refl, arith}
use Rattle.std.proofs.lemmas.Bool.{false≢true}
use Rattle.span_map.specs.declared.files.FileLen.{FileLen}
use Rattle.control_file.specs.Wants.{IsBehind}
use Rattle.control_file.proofs.Behind.{behind_more}
use Rattle.control_file.proofs.want.are_behind.Goals as goal

pub returns-then-not-is_behind : goal.returns-then-not-is_behind
returns-then-not-is_behind c = (
  λ no. absurd (false≢true no),
  λ all. absurd (false≢true (sym c.if-not-is_behind.true ∙ c.is_behind.ensures.1
      (subst (λ (file : FileLen). IsBehind c.args.base.now file.path) (sym c.file-item.is)
      (all c.loop-file.file-index c.file-item.result c.loop-file-test.true)))),
)

pub loop-file-preserved : goal.loop-file-preserved
loop-file-preserved c =
    behind_more c.args.base.now c.args.files.now c.loop-file.file-index c.file-item.result c.file-item.is
    c.loop-file-test.true (c.is_behind.ensures.0 c.if-not-is_behind.false) c.loop-file.invariant

pub returns : goal.returns
returns c = (λ yes k d within. c.loop-file.invariant k d (omega (arith, within, c.loop-file-test.false)), λ all. refl)
