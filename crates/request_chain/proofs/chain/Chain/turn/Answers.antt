use Rattle.std.proofs.Common.{List, ℕ, Ok, [], sym, ap, subst, append-nil, arith}
use Rattle.request_chain.specs.Chains.{IsChain}
use Rattle.request_chain.specs.Stages.{IsBehindHead}
use Rattle.request_chain.specs.declared.stage.Stage.{Stage}
use Rattle.request_chain.proofs.CallLemmas.{read_steps}
use Rattle.request_chain.proofs.VainLemmas.{unheard_weight}
use Rattle.request_chain.proofs.WholeLemmas.{whole_on_top}
use Rattle.request_chain.proofs.chain.Chain.turn.Goals as goal

pub returns-clause-steps : goal.returns-clause-steps
returns-clause-steps g c told parts before used bytes is gains =
    let came = c.in_ok-receive.ensures.receives told parts before used bytes is gains in
    let read = c.read_on-2.ensures.reads parts came.later bytes came.reading in
    (read.0, read.1, read_steps parts before used came.later _ bytes read.0 _ _ _ c.read_on-2.result came.gains (omega (arith, came.taken_is, c.read_on-2.ensures.taken)) read.2)

pub returns-then-is_unheard-clause-steps : goal.returns-then-is_unheard-clause-steps
returns-then-is_unheard-clause-steps g c told parts before used bytes is gains =
    let came = c.in_ok-receive_first.ensures.receives told parts before used bytes is gains in
    let read = c.read_on-then-is_unheard.ensures.reads parts came.later bytes came.reading in
    (read.0, read.1, read_steps parts before used came.later _ bytes read.0 _ _ _ c.read_on-then-is_unheard.result came.gains (omega (arith, came.taken_is, c.read_on-then-is_unheard.ensures.taken)) read.2)

pub returns-then-not-branch-clause-steps : goal.returns-then-not-branch-clause-steps
returns-then-not-branch-clause-steps g c told parts before used bytes is gains =
    let came = c.in_ok-receive_first.ensures.receives told parts before used bytes is gains in
    let vain = c.in_ok-receive_first.ensures.vain (ap Ok c.if-not-branch.true) in
    let P : Stage → Type 0 = λ stage. IsBehindHead stage c.receive_first.new.self.room.inbox in
    let Q : List ℕ → Type 0 = λ b. IsChain parts came.later b c.receive_first.new.self in (
      [],
      sym (append-nil c.args.out.now.items),
      record {
        later = came.later;
        gains = came.gains;
        taken_is = came.taken_is;
        chain_is = subst Q (sym (append-nil bytes)) (record { reading = came.reading; behind = subst P (sym vain.0) tt });
      },
    )

pub returns-then-not-branch-clause-smaller : goal.returns-then-not-branch-clause-smaller
returns-then-not-branch-clause-smaller g c =
    let vain = c.in_ok-receive_first.ensures.vain (ap Ok c.if-not-branch.true) in
    let weight = unheard_weight c.args.self.now.stage c.args.self.now.room.rests (c.is_unheard.ensures.unheard c.if-is_unheard.true) in
    omega (arith, vain.1, vain.2, weight)

pub returns-then-is_asking-clause-answered : goal.returns-then-is_asking-clause-answered
returns-then-is_asking-clause-answered g c told parts before used bytes is gains since few = c.ask.ensures.answered told since

pub returns-then-not-is_empty-clause-whole : goal.returns-then-not-is_empty-clause-whole
returns-then-not-is_empty-clause-whole g c told parts before used bytes is gains rests =
    whole_on_top before _ used gains (c.read_on.ensures.whole rests parts used bytes is.reading)

pub returns-then-is_unheard-clause-whole : goal.returns-then-is_unheard-clause-whole
returns-then-is_unheard-clause-whole g c told parts before used bytes is gains rests =
    let came = c.in_ok-receive_first.ensures.receives told parts before used bytes is gains in
    whole_on_top before _ came.later came.gains (c.read_on-then-is_unheard.ensures.whole rests parts came.later bytes came.reading)

pub returns-clause-whole : goal.returns-clause-whole
returns-clause-whole g c told parts before used bytes is gains rests =
    let came = c.in_ok-receive.ensures.receives told parts before used bytes is gains in
    whole_on_top before _ came.later came.gains (c.read_on-2.ensures.whole rests parts came.later bytes came.reading)
