use Rattle.std.proofs.Common.{◌∙◌, ap, arith, not, sym}
use Rattle.machine_core.specs.Choices.{options_now}
use Rattle.tests_machine.proofs.Due.{first_few, has_download, later_same, may_land}
use Rattle.tests_machine.proofs.rig.Rig.land_first.Goals as goal

pub landed-requires-clause-legal : goal.landed-requires-clause-legal
landed-requires-clause-legal c =
    let d = has_download c.reserve_turn.new.self c.in-Some.gid
    (options_now c.reserve_turn.new.self.start c.reserve_turn.new.self.past) c.options.result c.options.ensures
    (c.is_none.ensures ∙ ap not c.if-is_none.false) in
    may_land c.reserve_turn.new.self c.args.claim c.args.run c.in-Some-get.first c.new_blocks.result c.args.self.now.now
    c.in-Some.gid c.in-Some.field-0-1 c.in-Some.ensures.found c.new_blocks.ensures (sym c.get.ensures ∙ c.in-Some-get.is) d
    (later_same c.args.self.now.machine c.reserve_turn.new.self c.args.self.now.now c.reserve_turn.ensures.same
    c.args.self.now.later)

pub landed-requires-clause-few : goal.landed-requires-clause-few
landed-requires-clause-few c =
    let few = first_few c.reserve_turn.new.self c.args.claim c.args.run c.in-Some-get.first c.new_blocks.result
    c.in-Some.gid c.in-Some.field-0-1 c.in-Some.ensures.found c.new_blocks.ensures (sym c.get.ensures ∙ c.in-Some-get.is) in
    let most = c.requires.few in
    omega arith
