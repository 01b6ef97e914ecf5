use Rattle.std.proofs.Common.{inl, inr, subst}
use Rattle.console_socket.specs.Upgrades.{IsRightUpgrade}
use Rattle.console_socket.proofs.upgrade.read_upgrade.Goals as goal

pub returns-in-Whole : goal.returns-in-Whole
returns-in-Whole c used key it =
    let one = c.ask_heads_are_one_and_stay.ensures.one c.args.bytes.now it.head c.in-Whole.head used c.in-Whole.used it.begins c.in-Whole.ensures.whole in
    c.in-None.ensures key (subst (λ head. IsRightUpgrade head key) one.0 it.right)

pub returns-in-More : goal.returns-in-More
returns-in-More c used key it =
    elim c.in-More.is [
      | inl more ↦ c.ask_heads_are_one_and_stay.ensures.finished c.args.bytes.now it.head used it.begins (c.read_ask_head.ensures.more more)
      | inr bad ↦ (c.read_ask_head.ensures.bad bad).no_head it.head used it.begins
    ]
