use Rattle.std.proofs.Common.{List, subst, sym}
use Rattle.machine_core.specs.NoticeLogs.{AreSplitBy}
use Rattle.machine_core.specs.declared.notices.PlacedNotice.{PlacedNotice}
use Rattle.machine_core.proofs.Here.{sees}
use Rattle.machine_core.proofs.NoticesTold.{told_split}
use Rattle.machine_core.proofs.machine.Machine.notices.Goals as goal

pub tell_next-requires : goal.tell_next-requires
tell_next-requires c =
    let seen = sees _ c.args.self.now c.self.invariant c.self.view_is in
    subst (λ (ps : List PlacedNotice). AreSplitBy ps c.args.from) (sym c.deref.ensures.value)
    (told_split _ c.args.self.now c.catch_up.new.log c.args.from seen c.in_ok-catch_up.ensures.ok)
