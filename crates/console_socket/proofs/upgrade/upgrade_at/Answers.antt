use Rattle.std.proofs.Common.{inl, inr, ap, sym, ◌∙◌, true≢false}
use Rattle.console_socket.specs.Upgrades.{is_upgrade}
use Rattle.console_socket.proofs.upgrade.upgrade_at.Goals as goal

pub returns-in-Whole : goal.returns-in-Whole
returns-in-Whole c used it =
    let one = c.ask_heads_are_one_and_stay.ensures.one c.args.bytes.now it.head c.in-Whole.head used c.in-Whole.used it.begins c.in-Whole.ensures.whole in
    absurd (true≢false (sym it.asks ∙ ap is_upgrade one.0 ∙ sym c.is_upgrade.ensures ∙ c.if-is_upgrade.false))

pub returns-in-More : goal.returns-in-More
returns-in-More c used it =
    elim c.in-More.is [
      | inl more ↦ c.ask_heads_are_one_and_stay.ensures.finished c.args.bytes.now it.head used it.begins (c.read_ask_head.ensures.more more)
      | inr bad ↦ (c.read_ask_head.ensures.bad bad).no_head it.head used it.begins
    ]
