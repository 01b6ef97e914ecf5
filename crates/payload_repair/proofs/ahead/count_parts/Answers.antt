use Rattle.payload_repair.proofs.ahead.count_parts.Goals as goal

pub returns-clause-right : goal.returns-clause-right
returns-clause-right g c place below =
    let marked = c.count_marked.ensures.marked place below in
    c.mark_parts.ensures.parts place marked.0 marked.1
