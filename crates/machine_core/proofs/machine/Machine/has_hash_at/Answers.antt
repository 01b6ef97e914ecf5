use Rattle.std.proofs.Common.{◌∙◌, Some, ap, sym}
use Rattle.machine_core.proofs.Twins.{hash_beside}
use Rattle.machine_core.proofs.machine.Machine.has_hash_at.Goals as goal

pub returns : goal.returns
returns c =
    hash_beside c.args.self.now c.args.gid c.args.hash.now c.args.place c.hash_at.result c.is_beside_at.result
    c.hash_at.ensures
    (c.in-Some.is ∙ ap Some (sym c.as_slice.ensures ∙ (c.if-not-is_same_hash.ensures ∙ c.as_slice-2.ensures)))
    c.is_beside_at.ensures
