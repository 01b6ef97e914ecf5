use Rattle.std.proofs.Common.{None, subst, sym}
use Rattle.meta_v2.specs.Layers.{KeysAscend}
use Rattle.meta_v2.specs.Refusals.{key_text}
use Rattle.meta_v2.specs.declared.refusals.KeyV2.TheVariants.{PieceLayers}
use Rattle.meta_v2.proofs.Keys.{keys_ascend, member_sound}
use Rattle.meta_v2.proofs.layers.members_in.Goals as goal

pub returns-in_ok-members-in-Some-clause-ascend : goal.returns-in_ok-members-in-Some-clause-ascend
returns-in_ok-members-in-Some-clause-ascend c =
    let sound = member_sound (key_text PieceLayers) c.args.file.now c.in-Some.found (sym c.in-Some.ensures.found) c.requires in
    subst (KeysAscend None) (sym c.in_ok-members-in-Some.ensures) (keys_ascend c.in-Some.found sound)
