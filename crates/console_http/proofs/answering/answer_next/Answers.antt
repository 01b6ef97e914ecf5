use Rattle.std.proofs.Common.{refl}
use Rattle.std.specs.Prelude.{slice_range}
use Rattle.request_stream.specs.Requests.{served}
use Rattle.console_http.proofs.Plain.{plain_unless}
use Rattle.console_http.proofs.answering.answer_next.Goals as goal

pub serve_between-requires-clause-plain : goal.serve_between-requires-clause-plain
serve_between-requires-clause-plain g c =
    let intake = c.args.intake.now in
    let next = c.in-Served in
    rw c.next.ensures.same
    (plain_unless c.requests_are_one_and_stay.ensures.one intake.most intake.unread
    (served (slice_range intake.unread next.from next.used) next.last) next.used next.ensures.next.is refl)

pub returns-in-TurnedAway-clause-advances : goal.returns-in-TurnedAway-clause-advances
returns-in-TurnedAway-clause-advances g c = rw c.next.ensures.same (rw c.next.ensures.same at c.refuse.ensures.advances)

pub returns-in-Served-clause-advances : goal.returns-in-Served-clause-advances
returns-in-Served-clause-advances g c = rw c.next.ensures.same at c.serve_between.ensures.advances
