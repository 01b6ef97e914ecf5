use Rattle.std.proofs.Common.{rules}
use Rattle.std.specs.Prelude.{string_bytes}
use Rattle.origin_replies.proofs.Cutting.{stops, goes_on, ends}
use Rattle.origin_replies.proofs.name.put_others.Goals as goal

pub returns-then-not-branch : goal.returns-then-not-branch
returns-then-not-branch c =
    stops c.loop-behind.behind c.in-Some.path c.cut.result.0.now c.cut.result.1 _ _ (string_bytes c.loop-behind.name)
    (string_bytes c.put_behind.new.name) (string_bytes c.put_behind.new.name) c.in_ok-put_behind.field-0 c.in-Some.is
    c.loop-behind.invariant c.cut.ensures.cuts c.in_ok-put_behind.ensures (search rules)

pub loop-behind-preserved : goal.loop-behind-preserved
loop-behind-preserved c =
    goes_on c.loop-behind.behind c.in-Some.path c.cut.result.0.now c.cut.result.1 _ _ (string_bytes c.loop-behind.name)
    (string_bytes c.put_behind.new.name) c.in_ok-put_behind.field-0 c.in-Some.is
    c.loop-behind.invariant c.cut.ensures.cuts c.in_ok-put_behind.ensures (search rules)

pub returns : goal.returns
returns c = ends c.loop-behind.behind _ _ (string_bytes c.loop-behind.name) c.in_default.is c.loop-behind.invariant
