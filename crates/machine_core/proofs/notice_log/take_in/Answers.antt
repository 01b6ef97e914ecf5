use Rattle.std.proofs.Common.{◌∙◌, List, Option, refl, subst, sym}
use Rattle.dl_kinds.specs.declared.status.Status.{Status}
use Rattle.machine_core.specs.NoticeLogs.{AreCounted, IsNoted}
use Rattle.machine_core.specs.declared.notices.PlacedNotice.{PlacedNotice}
use Rattle.machine_core.proofs.TakenEvents.{quiet_takes, takes_in}
use Rattle.machine_core.proofs.notice_log.take_in.Goals as goal

pub returns-then-is_quiet-clause-ok : goal.returns-then-is_quiet-clause-ok
returns-then-is_quiet-clause-ok c =
    quiet_takes c.args.gids c.args.event.now c.args.log.now _ (sym c.is_quiet.ensures ∙ c.if-is_quiet.true) refl refl refl
    refl

pub returns-clause-ok : goal.returns-clause-ok
returns-clause-ok c =
    takes_in c.args.gids c.args.event.now c.args.log.now _ c.see_new.new.seen.items c.in_ok-follow.ensures.ok
    (subst (λ (ss : List (Option Status)). AreCounted c.follow.new.queue.added ss c.see_new.new.seen.items)
    c.reserve.ensures.items c.see_new.ensures.counted)
    (subst
    (λ (ps : List PlacedNotice).
    IsNoted c.args.log.now.covered c.follow.new.queue c.see_new.new.seen.items c.note.new.seen.items ps
    c.note.new.told.items)
    c.reserve-2.ensures.items c.note.ensures)
