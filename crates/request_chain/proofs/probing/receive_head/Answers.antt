use Rattle.std.proofs.Common.{[], refl, ◌∙◌, arith}
use Rattle.std.proofs.lemmas.Result.{err_from_is_err_and}
use Rattle.request_chain.proofs.ProbeLemmas.{none_left, read_more, read_whole, read_none, read_room}
use Rattle.request_chain.proofs.probing.receive_head.Goals as goal

pub returns-in_err-count-clause-heads : goal.returns-in_err-count-clause-heads
returns-in_err-count-clause-heads g c told url before opened =
    let p = err_from_is_err_and c.from_residual.result c.from_residual.ensures.1 in
    rw (p.1, p.2) (c.in_err-count.ensures.receives told url before (c.turns.invariant.awaits told url before opened))

pub returns-in-Whole-clause-heads : goal.returns-in-Whole-clause-heads
returns-in-Whole-clause-heads g c told url before opened =
    let awaits = c.in_ok-count.ensures.receives told url before (c.turns.invariant.awaits told url before opened) in
    let whole = c.in-Whole.ensures.whole in
    read_whole url before _ _ _ _ awaits c.in-Whole.head c.in-Whole.used c.read_head.new.self (whole.2 awaits.front awaits.at) whole.0 whole.1

pub turns-preserved : goal.turns-preserved
turns-preserved g c = record {
  faults = omega (arith, c.turns.invariant.faults, c.receive.ensures.later);
  awaits = λ told url before opened.
      let awaits = c.in_ok-count.ensures.receives told url before (c.turns.invariant.awaits told url before opened) in
      read_more url before _ _ _ _ awaits c.read_head.new.reader ((c.in-More.ensures.more refl).1 awaits.front awaits.at);
  at = λ told. c.receive.ensures.at told ∙ c.turns.invariant.at told;
  listens = c.receive.ensures.listens;
  answered = λ told url others before opened few old were.
      let awaits = c.turns.invariant.awaits told url others opened in
      c.receive.ensures.answered told url others before awaits few old
      (c.turns.invariant.answered told url others before opened few old were);
}

pub returns-in_err-count-clause-answered : goal.returns-in_err-count-clause-answered
returns-in_err-count-clause-answered g c told url others before opened few old were =
    let awaits = c.turns.invariant.awaits told url others opened in
    c.receive.ensures.answered told url others before awaits few old
    (c.turns.invariant.answered told url others before opened few old were)

pub returns-in-Bad-clause-heads : goal.returns-in-Bad-clause-heads
returns-in-Bad-clause-heads g c told url before opened =
    let awaits = c.in_ok-count.ensures.receives told url before (c.turns.invariant.awaits told url before opened) in
    read_none url before _ _ _ _ awaits 0 (c.in-Bad.ensures.bad refl awaits.front awaits.at)

pub returns-in-NoMemory-clause-heads : goal.returns-in-NoMemory-clause-heads
returns-in-NoMemory-clause-heads g c told url before opened =
    let awaits = c.in_ok-count.ensures.receives told url before (c.turns.invariant.awaits told url before opened) in
    read_room url before _ _ _ _ awaits 0

pub returns-clause-heads : goal.returns-clause-heads
returns-clause-heads g c told url before opened =
    none_left url before _ [] _ _ (c.turns.invariant.awaits told url before opened) (omega arith)

pub returns-in-Whole-clause-answered : goal.returns-in-Whole-clause-answered
returns-in-Whole-clause-answered g c told url others before opened few old were =
    let awaits = c.turns.invariant.awaits told url others opened in
    c.receive.ensures.answered told url others before awaits few old
    (c.turns.invariant.answered told url others before opened few old were)

pub returns-in-Bad-clause-answered : goal.returns-in-Bad-clause-answered
returns-in-Bad-clause-answered g c told url others before opened few old were =
    let awaits = c.turns.invariant.awaits told url others opened in
    c.receive.ensures.answered told url others before awaits few old
    (c.turns.invariant.answered told url others before opened few old were)

pub returns-in-NoMemory-clause-answered : goal.returns-in-NoMemory-clause-answered
returns-in-NoMemory-clause-answered g c told url others before opened few old were =
    let awaits = c.turns.invariant.awaits told url others opened in
    c.receive.ensures.answered told url others before awaits few old
    (c.turns.invariant.answered told url others before opened few old were)
