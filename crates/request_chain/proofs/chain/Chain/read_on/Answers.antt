use Rattle.std.proofs.Common.{List, ℕ, [], sym, ap, subst, ◌∙◌, arith, length, append-nil, MatchResult}
use Rattle.request_chain.specs.Chains.{IsChain, TellsLoss}
use Rattle.request_chain.specs.Plans.{asked_of}
use Rattle.request_chain.specs.Stages.{IsReading}
use Rattle.request_chain.specs.declared.stage.Stage.{Stage}
use Rattle.request_chain.proofs.chain.Chain.read_on.Goals as goal

pub returns-in-Head-clause-reads : goal.returns-in-Head-clause-reads
returns-in-Head-clause-reads c parts used bytes reading =
    let self = c.args.self.now in
    let P : Stage → Type 0 = λ stage. IsReading stage self.course self.room.inbox parts used bytes in
    let head = subst P (sym c.replace.ensures.value ∙ c.in-Head.is) reading in
    let Q : List ℕ → Type 0 = λ came. MatchResult c.read_head-in-Head.result (λ _. IsChain parts used came c.read_head-in-Head.new.self) (λ loss. (faults : ℕ) → TellsLoss parts used came faults loss) in
    ([], sym (append-nil c.args.out.now.items), subst Q (sym (append-nil bytes)) (c.read_head-in-Head.ensures.reads parts used bytes head))

-- where the first bytes of a reply are due, nothing waits
pub returns-in-Unheard-clause-reads : goal.returns-in-Unheard-clause-reads
returns-in-Unheard-clause-reads c parts used bytes reading =
    let self = c.args.self.now in
    let P : Stage → Type 0 = λ stage. IsReading stage self.course self.room.inbox parts used bytes in
    let awaited = subst P (sym c.replace.ensures.value ∙ c.in-Unheard.is) reading in
    let some = c.requires.some in
    absurd (omega (arith, some, ap length awaited.none_waits))

pub returns-in-Content-clause-whole : goal.returns-in-Content-clause-whole
returns-in-Content-clause-whole c rests parts used bytes reading =
    let self = c.args.self.now in
    let P : Stage → Type 0 = λ stage. IsReading stage self.course self.room.inbox parts used bytes in
    let content = subst P (sym c.replace.ensures.value ∙ c.in-Content.is) reading in
    let s = content.sent in (
      s.older,
      s.newest,
      s.used_is,
      record {
        url = s.url;
        asked = asked_of s.part;
        exchange = s.exchange;
        read = c.read_content.ensures.whole rests parts used bytes content;
        open_still = s.not_ended;
      },
    )
