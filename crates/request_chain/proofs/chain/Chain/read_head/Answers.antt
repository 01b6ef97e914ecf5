use Rattle.std.proofs.Common.{List, ℕ, refl, sym, subst}
use Rattle.request_chain.specs.Stages.{IsReadingHead}
use Rattle.request_chain.specs.Turns.{HeadIsRead}
use Rattle.request_chain.proofs.HeadLemmas.{head_missing, head_on, head_whole}
use Rattle.request_chain.proofs.chain.Chain.read_head.Goals as goal

pub returns-in-Whole-clause-reads : goal.returns-in-Whole-clause-reads
returns-in-Whole-clause-reads c parts used bytes reading =
    let self = c.args.self.now in
    let whole = c.in-Whole.ensures.whole in
    let read = head_whole parts used self.course self.room.inbox bytes c.final_heads_are_one_and_stay.ensures.stood c.args.reader c.in-Whole.head c.in-Whole.used reading whole.0 (whole.2 reading.front reading.at) in
    let P : List ℕ → Type 0 = λ waiting. HeadIsRead parts used self.course waiting bytes c.in-Whole.head in
    c.start.ensures.starts parts used bytes (subst P (sym whole.1) read)

pub returns-in-More-clause-reads : goal.returns-in-More-clause-reads
returns-in-More-clause-reads c parts used bytes reading =
    let self = c.args.self.now in
    let more = c.in-More.ensures.more refl in
    let P : List ℕ → Type 0 = λ waiting. IsReadingHead parts used self.course waiting bytes c.read_head.new.reader in
    record {
      reading = subst P (sym more.0) (head_on parts used self.course self.room.inbox bytes c.args.reader c.read_head.new.reader reading (more.1 reading.front reading.at));
      behind = more.0;
    }

pub returns-in-Bad-clause-reads : goal.returns-in-Bad-clause-reads
returns-in-Bad-clause-reads c parts used bytes reading =
    let self = c.args.self.now in
    head_missing parts used self.course self.room.inbox bytes c.args.reader reading (c.in-Bad.ensures.bad refl reading.front reading.at)
