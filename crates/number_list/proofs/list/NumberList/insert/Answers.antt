use Rattle.std.proofs.Common.{◌≡◌, ◌∙◌, ap, unwrap_or, sym, length}
use Rattle.std.specs.Prelude.{insert}
use Rattle.number_list.specs.Order.{NumberOrder, number_place}
use Rattle.number_list.proofs.Cuts.{place_of_read, place_nowhere}
use Rattle.number_list.proofs.Paths.{walk_len}
use Rattle.number_list.proofs.list.NumberList.insert.Goals as goal
use Rattle.number_list.proofs.list.NumberList.insert.Goals.{then-place-self, else-place-self}

pub returns-clause-value : goal.returns-clause-value
returns-clause-value c =
    let order = c.args.self.now.order in
    let differ = c.numbers_differ.ensures in
    let len = sym (walk_len c.self.inside.count c.self.inside.next.items 0) ∙ ap (λ (v : NumberOrder). length v.order) c.self.view_is in
    let place : number_place order c.if-place-self.other ≡ c.args.place = elim c.if-place-self.branch [
      | then-place-self w ↦ ap (number_place order) w.other-is ∙ place_nowhere order 0 differ.0
          ∙ sym len ∙ sym w.if-place-self.true
      | else-place-self w ↦ ap (number_place order) (w.other-is ∙ w.unwrap_or-other.ensures ∙ ap (λ o. unwrap_or o 0) w.at.ensures.value)
          ∙ place_of_read order c.args.place differ.0 differ.1 c.requires.place
    ] in
    c.insert_before.ensures.value ∙ ap (λ k. record c.args.self.now { order = insert order k c.args.number }) place
