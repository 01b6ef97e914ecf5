-- What a machine tells of notices.
use Rattle.std.proofs.Common.{List, reverse, refl, sym, subst}
use Rattle.machine_core.specs.MachineParts.{MachineState}
use Rattle.machine_core.specs.MachineViews.{MachineView}
use Rattle.machine_core.specs.NoticeLogs.{AreSplitBy, CatchesUp, KeepsLog}
use Rattle.machine_core.specs.Notices.{notices_in}
use Rattle.machine_core.specs.declared.notice_log.NoticeLog.{NoticeLog}
use Rattle.machine_core.specs.declared.notices.Cursor.{Cursor}
use Rattle.machine_core.specs.declared.notices.PlacedNotice.{PlacedNotice}
use Rattle.machine_core.proofs.Here.{Seen}
use Rattle.machine_core.proofs.NoticeLaws.{sorted_in}
use Rattle.machine_core.proofs.NoticeSearch.{sorted_split}

whole : (s : MachineState) (v : MachineView) (log : NoticeLog) → Seen s v
    → CatchesUp s.start.gids s.events s.log log → KeepsLog s.start (reverse s.events) log
whole s v log seen caught = caught.all s.start refl seen.keeps.log_is

pub told_split : (s : MachineState) (v : MachineView) (log : NoticeLog) (from : Cursor) → Seen s v
    → CatchesUp s.start.gids s.events s.log log → AreSplitBy log.told.items from
told_split s v log from seen caught =
    subst (λ (ps : List PlacedNotice). AreSplitBy ps from) (sym (whole s v log seen caught).told)
    (sorted_split (notices_in s.start (reverse s.events)) from (sorted_in s.start (reverse s.events)))
