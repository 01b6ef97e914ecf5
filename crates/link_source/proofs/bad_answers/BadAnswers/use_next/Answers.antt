use Rattle.std.proofs.Common.{sym, ◌∙◌}
use Rattle.link_source.proofs.Using.{one_is_used, none_is_used}
use Rattle.link_source.proofs.bad_answers.BadAnswers.use_next.Goals as goal

pub returns-in-Some-place_of : goal.returns-in-Some-place_of
returns-in-Some-place_of c =
    let at = rw c.deref.ensures.value at c.place_of.ensures in
    rw c.in-Some.is
    (one_is_used c.in-Some.mirror c.args.self.now.left.items _ _ _ c.in-Some-place_of.place c.remove-bad.result (sym at ∙ c.in-Some-place_of.is)
    c.remove-bad.ensures.value c.remove-bad.ensures.items c.push_reserved.ensures.items)

pub returns-in_default-place_of : goal.returns-in_default-place_of
returns-in_default-place_of c =
    let at = rw c.deref.ensures.value at c.place_of.ensures in
    rw c.in-Some.is (none_is_used c.in-Some.mirror c.args.self.now.left.items c.args.self.now.used.items (sym at ∙ c.in_default-place_of.is))
