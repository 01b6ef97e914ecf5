use Rattle.std.proofs.Common.{◌∙◌, ap, not, sym}
use Rattle.machine_core.specs.Choices.{options_now}
use Rattle.tests_machine.proofs.Due.{has_download, mark_room, may_lose}
use Rattle.tests_machine.proofs.rig.Rig.lose.Goals as goal

pub lost-requires-clause-legal : goal.lost-requires-clause-legal
lost-requires-clause-legal c =
    let d = has_download c.reserve_turn.new.self c.in-Some.gid
    (options_now c.reserve_turn.new.self.start c.reserve_turn.new.self.past) c.options.result c.options.ensures
    (c.is_none.ensures ∙ ap not c.if-is_none.false) in
    may_lose c.reserve_turn.new.self c.args.claim c.in-Some.gid c.in-Some.field-0-1 _ c.in-Some.ensures.found d

pub lost-requires-clause-mark_room : goal.lost-requires-clause-mark_room
lost-requires-clause-mark_room c =
    mark_room c.reserve_turn.new.self c.args.claim c.in-Some.gid c.in-Some.field-0-1 c.in-Some.ensures.found
    (sym c.is_active.ensures ∙ c.if-not-is_active.false) c.in_ok-reserve_turn.ensures.mark_room
