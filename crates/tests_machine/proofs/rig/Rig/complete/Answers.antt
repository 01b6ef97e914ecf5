use Rattle.std.proofs.Common.{◌∙◌, sym}
use Rattle.tests_machine.proofs.DueEnds.{done_by, may_complete}
use Rattle.tests_machine.proofs.rig.Rig.complete.Goals as goal

pub end-requires-clause-due : goal.end-requires-clause-due
end-requires-clause-due c =
    may_complete c.reserve_turn.new.self c.args.gid (c.goes_on.ensures c.if-not-goes_on.false)
    (done_by c.reserve_turn.new.self c.args.gid c.is_done.result c.is_done.ensures c.if-not-is_done.false) (λ download added. sym (c.has_checksum.ensures download added) ∙ c.if-has_checksum.false)
