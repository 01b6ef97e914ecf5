use Rattle.std.proofs.Common.{subst, sym}
use Rattle.metainfo.specs.Info.{IsSound, info_of}
use Rattle.metainfo.specs.declared.meta.Meta.{Meta}
use Rattle.machine_core.specs.LawfulCalls.{IsLawful}
use Rattle.machine_core.proofs.wants.want_by_call.Goals as goal

pub listed_want-requires : goal.listed_want-requires
listed_want-requires c =
    let lawful = subst IsLawful c.in-AddTorrent.is c.requires.lawful in
    subst (λ (m : Meta). IsSound (info_of m)) (sym c.deref.ensures) (c.metainfo_is_sound.ensures _ lawful.said)

pub unlisted_want-requires-clause-usable : goal.unlisted_want-requires-clause-usable
unlisted_want-requires-clause-usable c =
    let lawful = subst IsLawful c.in-AddUri.is c.requires.lawful in
    lawful.0.usable
