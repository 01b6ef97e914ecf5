use Rattle.std.proofs.Common.{◌≡◌, ◌++◌, ℕ, sym, subst, arith}
use Rattle.std.specs.Prelude.{Ok, Err}
use Rattle.rpc_envelope.specs.Texts.{repeated}
use Rattle.console_http.specs.Writing.{WritesBehind, writer_at}
use Rattle.console_http.proofs.WritingLemmas.{repeats_left, repeats_more, whole_failed, writes_both}
use Rattle.console_http.proofs.writing.write_passage.Goals as goal

pub loop-preserved : goal.loop-preserved
loop-preserved g c =
    let text = c.args.passage.now.text.items in
    let counter = c.loop.counter in
    let less = c.loop-test.true in
    let a = writer_at c.args.door.now c.args.waiting.now.items in
    let b = writer_at c.loop.door c.loop.waiting.items in
    let e = writer_at c.write_text.new.door c.write_text.new.waiting.items in
    record {
      within = omega (arith, less);
      opened = c.write_text.ensures.stays_open;
      written = subst (λ l. WritesBehind g.A.Doors l a e) (sym (repeats_more text counter))
          (writes_both c.newest_connection_is_one.ensures g.A.Doors (repeated text counter) text a b e (Ok tt) c.loop.invariant.written
          (rw c.deref.ensures.value at c.in_ok-write_text.ensures.written));
    }

pub returns-clause-written : goal.returns-clause-written
returns-clause-written g c =
    let text = c.args.passage.now.text.items in
    let within = c.loop.invariant.within in
    let over = c.loop-test.false in
    let all : c.loop.counter ≡ c.args.passage.now.times = omega (arith, within, over) in
    let P : ℕ → Type 0 = λ n. WritesBehind g.A.Doors (repeated text n) (writer_at c.args.door.now c.args.waiting.now.items)
    (writer_at c.loop.door c.loop.waiting.items) in
    subst P all c.loop.invariant.written

pub returns-in_err-write_text-clause-written : goal.returns-in_err-write_text-clause-written
returns-in_err-write_text-clause-written g c =
    let text = c.args.passage.now.text.items in
    let counter = c.loop.counter in
    let a = writer_at c.args.door.now c.args.waiting.now.items in
    let b = writer_at c.loop.door c.loop.waiting.items in
    let e = writer_at c.write_text.new.door c.write_text.new.waiting.items in
    let left = repeats_left text counter c.args.passage.now.times c.loop-test.true in
    whole_failed g.A.Doors (repeated text counter ++ text) left.0 (repeated text c.args.passage.now.times) a e
    c.from_residual.result c.in_err-write_text.field-0.0 c.from_residual.ensures.1 left.1
    (writes_both c.newest_connection_is_one.ensures g.A.Doors (repeated text counter) text a b e (Err c.in_err-write_text.field-0.0)
    c.loop.invariant.written (rw c.deref.ensures.value at c.in_err-write_text.ensures.written))
