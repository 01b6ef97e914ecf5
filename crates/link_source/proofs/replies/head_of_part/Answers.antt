use Rattle.std.proofs.Common.{◌∙◌}
use Rattle.link_source.proofs.Heads.{part_head-text}
use Rattle.link_source.proofs.replies.head_of_part.Goals as goal

pub returns : goal.returns
returns c =
    let text = rw c.in_ok-field.ensures at c.in_ok-text.ensures.ok in
    rw c.into_bytes.ensures.value (text ∙ part_head-text c.args.chunked c.args.first c.args.last c.args.total)
