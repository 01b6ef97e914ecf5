use Rattle.std.proofs.Common.{◌+◌, ◌++◌, sym, subst, take, drop}
use Rattle.std.specs.Prelude.{Ok, Err}
use Rattle.rpc_envelope.specs.Texts.{passage_text, passages_text}
use Rattle.console_http.specs.Writing.{WritesBehind, writer_at}
use Rattle.console_http.proofs.WritingLemmas.{passages_left, passages_more, whole_failed, writes_both}
use Rattle.console_http.proofs.writing.write_passages.Goals as goal

pub loop-passage-preserved : goal.loop-passage-preserved
loop-passage-preserved g c =
    let ps = c.args.passages.now in
    let i = c.loop-passage.passage-index in
    let p = c.passage-item.result in
    let a = writer_at c.args.door.now c.args.waiting.now.items in
    let b = writer_at c.loop-passage.door c.loop-passage.waiting.items in
    let e = writer_at c.write_passage.new.door c.write_passage.new.waiting.items in
    record {
      opened = c.write_passage.ensures.stays_open;
      written = subst (λ l. WritesBehind g.A.Doors l a e) (sym (passages_more ps i p c.loop-passage-test.true c.passage-item.is))
          (writes_both c.newest_connection_is_one.ensures g.A.Doors (passages_text (take i ps)) (passage_text p) a b e (Ok tt)
          c.loop-passage.invariant.written c.in_ok-write_passage.ensures.written);
    }

pub returns-in_err-write_passage-clause-written : goal.returns-in_err-write_passage-clause-written
returns-in_err-write_passage-clause-written g c =
    let ps = c.args.passages.now in
    let i = c.loop-passage.passage-index in
    let p = c.passage-item.result in
    let a = writer_at c.args.door.now c.args.waiting.now.items in
    let b = writer_at c.loop-passage.door c.loop-passage.waiting.items in
    let e = writer_at c.write_passage.new.door c.write_passage.new.waiting.items in
    whole_failed g.A.Doors (passages_text (take i ps) ++ passage_text p) (passages_text (drop (i + 1) ps)) (passages_text ps) a e
    c.from_residual.result c.in_err-write_passage.field-0.0 c.from_residual.ensures.1
    (passages_left ps i p c.loop-passage-test.true c.passage-item.is)
    (writes_both c.newest_connection_is_one.ensures g.A.Doors (passages_text (take i ps)) (passage_text p) a b e
    (Err c.in_err-write_passage.field-0.0) c.loop-passage.invariant.written c.in_err-write_passage.ensures.written)
