use Rattle.std.proofs.Common.{◌∙◌, sym, ap, rules}
use Rattle.std.specs.Prelude.{slice_get}
use Rattle.number_list.specs.Order.{number_place}
use Rattle.number_list.proofs.Cuts.{got_at_end, got_at_place, place_nowhere, stands_there}
use Rattle.number_list.proofs.list.NumberList.next.Goals as goal

pub returns-in-0-clause-value : goal.returns-in-0-clause-value
returns-in-0-clause-value c =
    let order = c.args.self.now.order in
    sym (ap (slice_get order) (sym c.behind.ensures.place ∙ ap (number_place order) c.in-0.is
    ∙ place_nowhere order 0 c.numbers_differ.ensures.0) ∙ got_at_end order)

pub returns-in_default-clause-value : goal.returns-in_default-clause-value
returns-in_default-clause-value c =
    let order = c.args.self.now.order in
    let listed = stands_there order c.behind.result record { listed = c.behind.ensures.listed; distinct = c.numbers_differ.ensures } (search rules) in
    sym (ap (slice_get order) (sym c.behind.ensures.place) ∙ got_at_place order c.behind.result listed)
