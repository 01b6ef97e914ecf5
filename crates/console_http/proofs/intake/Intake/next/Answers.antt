use Rattle.std.proofs.Common.{subst}
use Rattle.request_stream.specs.Next.{IsNextRequest}
use Rattle.console_http.specs.Readings.{Reading}
use Rattle.console_http.proofs.intake.Intake.next.Goals as goal

pub returns-clause-next : goal.returns-clause-next
returns-clause-next c =
    let here = rw c.deref.ensures.value at c.next_request.ensures.next in
    let P : Reading → Type 0 = λ reading. IsNextRequest reading.most reading.unread c.next_request.result in
    subst P c.self.view_is here
