-- What a console goes by may be shared, and whether a run is over, and what a session leaves may go to another thread.
use denote.Param.Send.{IsSend, IsSync, sendable}
use Rattle.std.specs.contracts.sync.atomic.AtomicBool as flag
use Rattle.std.proofs.Crossing.{crosses}
use Rattle.std.proofs.MapsCrossing.{crosses as maps}
use Rattle.console_session.specs.contracts.serving.Transcript as transcript
use Rattle.dl_kinds.specs.contracts.text.Text as text
use Rattle.run_lifecycle.specs.contracts.console.ConsoleTerms as console

text_sync : IsSync text.the_row
text_sync = search (maps, crosses, sendable) depth 20

pub console_sync : IsSync console.the_row
console_sync = search (text_sync, sendable) depth 20

pub over_sync : IsSync flag.the_row
over_sync = search (crosses, sendable) depth 20

pub transcript_send : IsSend transcript.the_row
transcript_send = search (crosses, sendable) depth 20
