use Rattle.std.proofs.Common.{◌≡◌, true, false, refl, sym, ap, subst, ◌∙◌}
use Rattle.std.specs.Prelude.{Some, nat_le, []}
use Rattle.dl_kinds.specs.declared.marks.Code.{Code}
use Rattle.reply_reader.specs.Answers.{Away}
use Rattle.reply_reader.specs.declared.loss.Loss.TheVariants.{Redirects, Refused}
use Rattle.request_chain.specs.Courses.{plan_now, CarriesOn}
use Rattle.request_chain.specs.Fetched.{Fetched}
use Rattle.request_chain.specs.Plans.{NextAsk, Over, Lost, plan_of, next_plan, unusable}
use Rattle.request_chain.specs.Redirects.{moved_to}
use Rattle.request_chain.specs.declared.course.TheConstants.{REDIRECT_LIMIT}
use Rattle.request_chain.specs.Stages.{IsReading, IsBehindHead}
use Rattle.request_chain.specs.declared.stage.Stage.{Stage}
use Rattle.request_chain.proofs.AskLemmas.{asked_in}
use Rattle.request_chain.proofs.HeadLemmas.{moved_leads, moved_on}
use Rattle.request_chain.proofs.SentLemmas.{over_lost}
use Rattle.request_chain.proofs.chain.Chain.follow.Goals as goal

pub returns-then-is_moved_often-clause-follows : goal.returns-then-is_moved_often-clause-follows
returns-then-is_moved_often-clause-follows c parts used bytes read moved = λ faults.
    let self = c.args.self.now in
    let s = read.sent in
    let leads = moved_leads parts used self.course self.room.inbox bytes c.final_heads_are_one_and_stay.ensures.stays c.args.head.now read moved in
    let often = asked_in (plan_now self.course) s.part s.others s.url s.count s.status _ s.asks c.is_moved_often.ensures.value in
    let is : nat_le REDIRECT_LIMIT s.count ≡ true = sym often ∙ c.if-is_moved_often.true in
    let P : NextAsk → Type 0 = λ plan. CarriesOn (plan_of parts) used bytes plan in
    let same : next_plan s.part s.others s.url s.count (Away c.args.head.now.status leads.0) ≡ Over (Lost Redirects) = rw is refl in
    over_lost parts used bytes Redirects (subst P same leads.2)

pub returns-in-Ok-Some-clause-follows : goal.returns-in-Ok-Some-clause-follows
returns-in-Ok-Some-clause-follows c parts used bytes read moved =
    let self = c.args.self.now in
    let s = read.sent in
    let leads = moved_leads parts used self.course self.room.inbox bytes c.final_heads_are_one_and_stay.ensures.stays c.args.head.now read moved in
    let often = asked_in (plan_now self.course) s.part s.others s.url s.count s.status _ s.asks c.is_moved_often.ensures.value in
    let is : nat_le REDIRECT_LIMIT s.count ≡ false = sym often ∙ c.if-is_moved_often.false in
    let followed = asked_in (plan_now self.course) s.part s.others s.url s.count s.status _ s.asks c.follow.ensures in
    let url = asked_in (plan_now self.course) s.part s.others s.url s.count s.status _ s.asks c.url.ensures in
    let to : moved_to s.url leads.0 ≡ Some c.in-Ok-Some.url = ap (λ u. moved_to u leads.0) (sym url) ∙ sym (c.in-Ok-Some.ensures leads.0 leads.1) ∙ c.in-Ok-Some.field-0-is in
    let next = moved_on s.part s.others s.url s.count c.args.head.now.status leads.0 (Some c.in-Ok-Some.url) is to in
    let P : NextAsk → Type 0 = λ plan. CarriesOn (plan_of parts) used bytes plan in
    let Q : Stage → Type 0 = λ stage. IsReading stage c.follow.new.self c.clear.new.self parts used bytes in
    let R : Stage → Type 0 = λ stage. IsBehindHead stage c.clear.new.self in
    record {
      reading = subst Q (sym c.requires.none_open) (subst P (next ∙ sym followed) leads.2, c.clear.ensures);
      behind = subst R (sym c.requires.none_open) tt;
    }

pub returns-in-Ok-None-clause-follows : goal.returns-in-Ok-None-clause-follows
returns-in-Ok-None-clause-follows c parts used bytes read moved = λ faults.
    let self = c.args.self.now in
    let s = read.sent in
    let leads = moved_leads parts used self.course self.room.inbox bytes c.final_heads_are_one_and_stay.ensures.stays c.args.head.now read moved in
    let often = asked_in (plan_now self.course) s.part s.others s.url s.count s.status _ s.asks c.is_moved_often.ensures.value in
    let is : nat_le REDIRECT_LIMIT s.count ≡ false = sym often ∙ c.if-is_moved_often.false in
    let url = asked_in (plan_now self.course) s.part s.others s.url s.count s.status _ s.asks c.url.ensures in
    let to = ap (λ u. moved_to u leads.0) (sym url) ∙ sym (c.in-Ok-None.ensures leads.0 leads.1) ∙ c.in-Ok-None.field-0-is in
    let next = moved_on s.part s.others s.url s.count c.args.head.now.status leads.0 _ is to in
    let P : NextAsk → Type 0 = λ plan. CarriesOn (plan_of parts) used bytes plan in
    let told = over_lost parts used bytes (unusable c.args.head.now.status) (subst P next leads.2) in
    subst (λ (code : Code). Fetched parts used bytes (Lost (Refused c.args.head.now.status code)) []) (sym c.of.ensures) told
