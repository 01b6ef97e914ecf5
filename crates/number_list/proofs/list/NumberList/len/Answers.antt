use Rattle.std.proofs.Common.{length, ap, sym, ◌∙◌}
use Rattle.number_list.specs.Order.{NumberOrder}
use Rattle.number_list.proofs.Paths.{walk_len}
use Rattle.number_list.proofs.list.NumberList.len.Goals as goal

pub returns : goal.returns
returns c =
    sym (walk_len c.self.inside.count c.self.inside.next.items 0)
    ∙ ap (λ (v : NumberOrder). length v.order) c.self.view_is
