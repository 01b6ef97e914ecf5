use Rattle.std.proofs.Common.{◌∙◌}
use Rattle.link_source.proofs.Heads.{whole_head-told, whole_head-untold}
use Rattle.link_source.proofs.replies.head_of_whole.Goals as goal

pub returns-in_ok-text : goal.returns-in_ok-text
returns-in_ok-text c = rw (c.into_bytes.ensures.value, c.if-told.true) (c.in_ok-text.ensures.ok ∙ whole_head-told c.args.total)

pub returns-in_ok-text-2 : goal.returns-in_ok-text-2
returns-in_ok-text-2 c = rw (c.into_bytes-else-told.ensures.value, c.if-told.false) (c.in_ok-text-2.ensures.ok ∙ whole_head-untold c.args.total)
