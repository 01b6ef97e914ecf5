use Rattle.std.proofs.Common.{◌++◌, List, ℕ, sym, subst}
use Rattle.reply_reader.specs.Answers.{Turn, Given, Lost}
use Rattle.reply_reader.specs.declared.loss.Loss.TheVariants.{BadReply, Short}
use Rattle.request_chain.specs.Courses.{plan_now, CarriesOn}
use Rattle.request_chain.specs.Plans.{NextAsk, plan_of, asked_of}
use Rattle.request_chain.specs.Stages.{IsReading, IsBehindHead}
use Rattle.request_chain.specs.declared.stage.Stage.{Stage}
use Rattle.request_chain.specs.Contents.{IsReadTo}
use Rattle.request_chain.proofs.AskLemmas.{asked_in}
use Rattle.request_chain.proofs.ContentLemmas.{whole_of}
use Rattle.request_chain.proofs.ReadingLemmas.{content_has, content_on, answer_leads, answer_lost}
use Rattle.request_chain.proofs.chain.Chain.read_content.Goals as goal

pub returns-in-More-clause-reads : goal.returns-in-More-clause-reads
returns-in-More-clause-reads c parts used bytes reading =
    let self = c.args.self.now in
    let s = reading.sent in
    let read = c.in-More.ensures.reads (asked_of s.part) s.newest.received reading.got reading.read in (
      read.0,
      read.1,
      record {
        reading = content_on parts used self.course self.room.inbox c.read.new.inbox bytes read.0 c.args.content c.read.new.self reading read.2;
        behind = tt;
      },
    )

pub returns-in-Come-clause-reads : goal.returns-in-Come-clause-reads
returns-in-Come-clause-reads c parts used bytes reading =
    let self = c.args.self.now in
    let s = reading.sent in
    let read = c.in-Come.ensures.reads (asked_of s.part) s.newest.received reading.got reading.read in
    let turn : Turn = Given c.read.new.self.last in
    let has = content_has c.streams_have_one_answer.ensures.stay parts used self.course self.room.inbox c.read.new.inbox bytes read.0 c.args.content c.read.new.self turn (λ is. cc) reading read.2 in
    let come = asked_in (plan_now self.course) s.part s.others s.url s.count s.status _ s.asks c.come_to.ensures in
    let P : NextAsk → Type 0 = λ plan. CarriesOn (plan_of parts) used (bytes ++ read.0) plan in
    let Q : Stage → Type 0 = λ stage. IsReading stage c.come_to.new.self c.clear.new.self parts used (bytes ++ read.0) in
    let R : Stage → Type 0 = λ stage. IsBehindHead stage c.clear.new.self in (
      read.0,
      read.1,
      record {
        reading = subst Q (sym c.requires.none_open) (subst P (sym come) (answer_leads parts used self.course (bytes ++ read.0) turn has), c.clear.ensures);
        behind = subst R (sym c.requires.none_open) tt;
      },
    )

pub returns-in-Wrong-clause-reads : goal.returns-in-Wrong-clause-reads
returns-in-Wrong-clause-reads c parts used bytes reading =
    let self = c.args.self.now in
    let s = reading.sent in
    let read = c.in-Wrong.ensures.reads (asked_of s.part) s.newest.received reading.got reading.read in
    let has = content_has c.streams_have_one_answer.ensures.stay parts used self.course self.room.inbox c.read.new.inbox bytes read.0 c.args.content c.read.new.self (Lost BadReply) (λ is. cc) reading read.2 in
    (read.0, read.1, λ faults. answer_lost parts used self.course (bytes ++ read.0) BadReply has)

pub returns-in-Over-clause-reads : goal.returns-in-Over-clause-reads
returns-in-Over-clause-reads c parts used bytes reading =
    let self = c.args.self.now in
    let s = reading.sent in
    let read = c.in-Over.ensures.reads (asked_of s.part) s.newest.received reading.got reading.read in
    let loss = Short c.read.new.self.got in
    let has = content_has c.streams_have_one_answer.ensures.stay parts used self.course self.room.inbox c.read.new.inbox bytes read.0 c.args.content c.read.new.self (Lost loss) (λ is. cc) reading read.2 in
    (read.0, read.1, λ faults. answer_lost parts used self.course (bytes ++ read.0) loss has)

pub returns-in-Come-clause-whole : goal.returns-in-Come-clause-whole
returns-in-Come-clause-whole c rests parts used bytes reading =
    let s = reading.sent in
    let read = c.in-Come.ensures.reads (asked_of s.part) s.newest.received reading.got reading.read in
    let over = c.is_read_whole-self.ensures rests in
    let P : List ℕ → Type 0 = λ waiting. IsReadTo (asked_of s.part) s.newest.received waiting (reading.got ++ read.0) c.read.new.self (Given c.read.new.self.last) in
    whole_of c.final_heads_are_one_and_stay.ensures.within (asked_of s.part) s.newest.received (reading.got ++ read.0) c.read.new.self (Given c.read.new.self.last)
    (subst P over.0 read.2) over.1 over.2
