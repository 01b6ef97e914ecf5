use Rattle.std.proofs.Common.{take}
use Rattle.std.specs.Prelude.{IsTrue, true, ◌≡◌}
use Rattle.rpc_envelope.specs.Texts.{passages_text}
use Rattle.console_http.specs.Writing.{WritesBehind, writer_at}
use Rattle.console_http.proofs.writing.write_passages.Given as goal

abbrev pub invariant-loop-passage : goal.invariant-loop-passage
invariant-loop-passage g l = record {
  opened : IsTrue g.A.Doors.tells → (g.A.Doors.state l.door).is_open ≡ true;
  written : WritesBehind g.A.Doors (passages_text (take l.passage-index l.passages))
      (writer_at l.fn.door l.fn.waiting.items) (writer_at l.door l.waiting.items);
}
