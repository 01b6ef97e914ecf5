use Rattle.std.proofs.Common.{◌≡◌, Some, length, refl, slice_get, sym}
use Rattle.std.proofs.lemmas.Option.{slice_get_read}
use Rattle.machine_core.specs.declared.notices.TheConstants.{MOST_NOTICES}
use Rattle.machine_core.proofs.NoticeSearch.{first_past, first_there}
use Rattle.machine_core.proofs.notice_log.place_behind.Goals as goal

pub returns-in-Some : goal.returns-in-Some
returns-in-Some c =
    let look = c.in-Some.ensures.lookup in
    let there : slice_get c.args.due.now MOST_NOTICES ≡ Some c.in-Some.next.now =
    slice_get_read c.args.due.now (length c.args.due.now) MOST_NOTICES c.in-Some.next.now refl look.3.0 look.1 in
    sym (first_there c.args.due.now MOST_NOTICES c.args.behind c.in-Some.next.now there)

pub returns-in-None : goal.returns-in-None
returns-in-None c =
    let look = c.in-None.ensures.lookup in sym (first_past c.args.due.now MOST_NOTICES c.args.behind look.3)
