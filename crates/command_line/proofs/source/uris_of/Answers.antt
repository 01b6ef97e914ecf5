use Rattle.std.proofs.Common.{◌≡◌, true, false, sym, ◌∙◌, subst}
use Rattle.link_source.specs.Endpoint.{IsUsable}
use Rattle.command_line.proofs.Parsed.{not_usable, texts_more, usable_more}
use Rattle.command_line.proofs.source.uris_of.Goals as goal

pub returns-then-not-branch : goal.returns-then-not-branch
returns-then-not-branch c =
    not_usable c.args.words.now c.loop-word.word-index _ c.loop-word-test.true
    (λ usable. let e : false ≡ true = sym c.if-not-branch.true ∙ c.in_ok-is_usable.ensures.1 usable in cc)

pub loop-word-preserved : goal.loop-word-preserved
loop-word-preserved c = (
  texts_more c.args.words.now c.loop-word.word-index _ c.loop-word.uris c.push.new.self c.in_ok-of.field-0 c.loop-word-test.true c.loop-word.invariant.0
      c.in_ok-of.ensures c.in_ok-push.ensures.ok,
  usable_more c.loop-word.uris c.push.new.self c.in_ok-of.field-0 c.loop-word.invariant.1
      (subst (λ t. IsUsable t) (sym c.in_ok-of.ensures) (c.in_ok-is_usable.ensures.0 c.if-not-branch.false)) c.in_ok-push.ensures.ok,
)
