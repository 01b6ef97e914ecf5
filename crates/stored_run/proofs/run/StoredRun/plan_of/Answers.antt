use Rattle.std.proofs.Common.{ap, sym, ◌∙◌}
use Rattle.control_file.specs.declared.want.Want.{Want}
use Rattle.machine_core.proofs.Begun.{copied_is, copied_some}
use Rattle.machine_core.specs.OwnParts.{PayloadLengths}
use Rattle.stored_run.proofs.Failing.{opened_want}
use Rattle.stored_run.proofs.run.StoredRun.plan_of.Goals as goal

pub unwrap-requires : goal.unwrap-requires
unwrap-requires g c =
    let v = c.args.self.now in
    let w = opened_want v.machine.start v.machine.past v.wants.items c.args.gid c.tells_stored.ensures.wants_are c.requires in
    copied_some c.want.result w.want (c.want.ensures.value ∙ w.kept)

pub returns : goal.returns
returns g c =
    let v = c.args.self.now in
    let w = opened_want v.machine.start v.machine.past v.wants.items c.args.gid c.tells_stored.ensures.wants_are c.requires in
    let same = copied_is c.want.result c.unwrap.result w.want c.unwrap.ensures (c.want.ensures.value ∙ w.kept) in
    record {
      total = ap (λ (x : Want). x.plan.total) same ∙ sym (ap (λ (l : PayloadLengths). l.total) w.lengths);
      piece_len = ap (λ (x : Want). x.plan.piece_len) same ∙ sym (ap (λ (l : PayloadLengths). l.piece_len) w.lengths);
      plan = w.plan;
    }
