use Rattle.std.proofs.Common.{◌≡◌, ◌++◌, [], ◌∷◌, length, sym, ap, ◌∙◌}
use Rattle.std.specs.Option.{option_to_list}
use Rattle.tests_desk.proofs.Sharing.{popped, shared_out}
use Rattle.tests_desk.proofs.threads.count_together.Goals as goal

pub returns : goal.returns
returns g c =
    let start = c.in-Ok-start.ensures in
    let len : length c.in-Ok-start.passes.items ≡ 2 = sym c.in-Ok-start.passes.ok.0 ∙ start.count in
    let new = popped c.turn.new.self c.in-Ok-start.desk c.in-Ok-start.passes.items c.pop.new.self.items
    c.pop-2.new.self.items c.in-Some-pop.one c.in-Some.two start.passes len
    (c.pop.ensures.items ∙ ap (λ r. c.pop.new.self.items ++ option_to_list r) c.in-Some.is) (c.pop-2.ensures.items
    ∙ ap (λ r. c.pop-2.new.self.items ++ option_to_list r) c.in-Some-pop.is) in
    let w = c.work_both-one.ensures in
    let two = c.work_both-one.result in
    shared_out _ c.in-Ok-new.solo c.turn.new.self c.args.opening c.turn.result c.turn.ensures.took
    (ap (λ s. s.own) c.in-Ok-new.ensures.ok) c.a_sole_owner_took_all.ensures.own
    c.own_turns_keep_their_order.ensures.first
    c.in-Ok-start.desk c.in-Some-pop.one c.in-Some.two two.0 two.1 c.push_reserved-2.new.self.items c.args.ops.0
    c.args.ops.1 c.args.times c.in-Whole.served (λ x turns is. is) new.0 new.1 w.one w.two
    (c.push_reserved-2.ensures.items
    ∙ ap (λ l. l ++ two.1 ∷ []) (c.push_reserved.ensures.items
    ∙ ap (λ l. l ++ two.0 ∷ []) c.in-Ok.ensures.items)) c.in-Whole.ensures
