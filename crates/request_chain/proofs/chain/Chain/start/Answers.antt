use Rattle.std.proofs.Common.{◌≡◌, Bool, List, ℕ, ap, subst, Ok}
use Rattle.std.proofs.lemmas.Result.{err_from_is_err_and}
use Rattle.range_http.specs.declared.asked.Asked.{Asked}
use Rattle.range_http.specs.declared.verdict.Verdict.TheVariants.{Moved}
use Rattle.range_http.specs.Verdict.{verdict_of}
use Rattle.reply_reader.specs.Answers.{Lost, answer_by, without_bytes}
use Rattle.request_chain.specs.Contents.{IsBegun}
use Rattle.request_chain.specs.Courses.{plan_now}
use Rattle.request_chain.specs.Plans.{asked_of}
use Rattle.request_chain.proofs.AskLemmas.{asked_in, asking_in}
use Rattle.request_chain.proofs.HeadLemmas.{head_loses, head_begins}
use Rattle.request_chain.proofs.chain.Chain.start.Goals as goal

pub returns-in_err-begun-clause-starts : goal.returns-in_err-begun-clause-starts
returns-in_err-begun-clause-starts c parts used bytes read =
    let p = err_from_is_err_and c.from_residual.result c.from_residual.ensures.1 in
    let self = c.args.self.now in
    let head = c.args.head.now in
    let s = read.sent in
    let asked = asked_in (plan_now self.course) s.part s.others s.url s.count s.status _ s.asks c.asked-asked.ensures.asked in
    let lost = c.in_err-begun.ensures.lost in
    let P : Asked → Type 0 = λ a. (stream : List ℕ) (ended : Bool) → answer_by head a (verdict_of head a) stream ended ≡ without_bytes (Lost c.in_err-begun.field-0.0) in
    rw (p.1, p.2) (head_loses parts used self.course self.room.inbox bytes c.final_heads_are_one_and_stay.ensures.stays head read c.in_err-begun.field-0.0 lost.0 (subst P asked lost.1))

pub returns-in-Some-clause-starts : goal.returns-in-Some-clause-starts
returns-in-Some-clause-starts c parts used bytes read =
    let self = c.args.self.now in
    let head = c.args.head.now in
    let s = read.sent in
    let asked = asked_in (plan_now self.course) s.part s.others s.url s.count s.status _ s.asks c.asked-asked.ensures.asked in
    let begun = rw c.in-Some.is at c.in_ok-begun.ensures.begun in
    let P : Asked → Type 0 = λ a. IsBegun a head c.in-Some.content in
    record {
      reading = head_begins parts used self.course self.room.inbox bytes head c.in-Some.content read (subst P asked begun);
      behind = tt;
    }

pub returns-in-None-clause-starts : goal.returns-in-None-clause-starts
returns-in-None-clause-starts c parts used bytes read =
    let self = c.args.self.now in
    let head = c.args.head.now in
    let s = read.sent in
    let asked = asked_in (plan_now self.course) s.part s.others s.url s.count s.status _ s.asks c.asked-asked.ensures.asked in
    let is = c.in_ok-begun.ensures.moved (ap Ok c.in-None.is) in
    let P : Asked → Type 0 = λ a. verdict_of head a ≡ Moved in
    c.follow.ensures.follows parts used bytes read
    (asking_in (plan_now self.course) s.part s.others s.url s.count s.status (λ part others url count status. verdict_of head (asked_of part) ≡ Moved) s.asks (subst P asked is))
