use Rattle.std.proofs.Common.{◌∙◌, refl}
use Rattle.machine_core.proofs.NoticeSearch.{next_told}
use Rattle.machine_core.proofs.notice_log.tell_next.Goals as goal

pub returns : goal.returns
returns c =
    next_told c.args.told.now _ c.count_before-first.result c.min-many.result c.args.behind c.args.from
    c.place_behind.result c.of.result c.count_before-first.ensures.value refl c.min-many.ensures
    (c.of.ensures ∙ c.in_ok-list.ensures) c.place_behind.ensures
