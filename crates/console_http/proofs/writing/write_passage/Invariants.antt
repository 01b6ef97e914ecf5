use Rattle.std.specs.Prelude.{IsTrue, true, ◌≡◌, ◌≤◌}
use Rattle.rpc_envelope.specs.Texts.{repeated}
use Rattle.console_http.specs.Writing.{WritesBehind, writer_at}
use Rattle.console_http.proofs.writing.write_passage.Given as goal

abbrev pub invariant-loop : goal.invariant-loop
invariant-loop g l = record {
  within : l.counter ≤ l.passage.times;
  opened : IsTrue g.A.Doors.tells → (g.A.Doors.state l.door).is_open ≡ true;
  written : WritesBehind g.A.Doors (repeated l.passage.text.items l.counter)
      (writer_at l.fn.door l.fn.waiting.items) (writer_at l.door l.waiting.items);
}
