use Rattle.std.proofs.Common.{◌≡◌, ◌+◌, ◌++◌, [], take, refl, sym, ap, subst, ◌∙◌, arith, append-nil, length-take-le}
use Rattle.link_source.specs.Link.{LinkState}
use Rattle.ftp_link.specs.Stages.{IsTalkAt}
use Rattle.ftp_link.specs.declared.stage.TalkStage.{TalkStage}
use Rattle.ftp_link.proofs.CallLemmas.{is_taking, may_take}
use Rattle.ftp_link.proofs.DataLemmas.{none_of, comes_onto, taken_more, taken_all, taken_short, data_fails, data_keeps}
use Rattle.ftp_link.proofs.talk.FtpTalk.take.Goals as goal

pub returns-in-Ok-eq0-clause-steps : goal.returns-in-Ok-eq0-clause-steps
returns-in-Ok-eq0-clause-steps g c told before used bytes is gains =
    let self = c.args.self.now in
    let at = is_taking self used bytes c.requires.taking is in
    let may = may_take self _ c.requires.taking (c.requires.may told) in
    let came = c.in-Ok-eq0.ensures.takes in
    let onto = comes_onto self.place self.part self.port self.got before used bytes _ _ _ came.0 at may gains (came.2 told) in
    let none : take c.in-Ok-eq0.field-0 came.0 ≡ [] = none_of _ (omega (arith, length-take-le c.in-Ok-eq0.field-0 came.0 came.1.within)) in
    let s = taken_short self.place self.part self.port before used bytes (take c.in-Ok-eq0.field-0 came.0) _ self.got self.taken self.taken none onto at.got_is (self.due c.requires.taking) refl in
    ([], came.1.grows ∙ ap (λ b. c.args.out.now.items ++ b) none, record { later = s.later; gains = s.gains; taken_is = s.taken_is; tells = s.holds })

pub returns-in-Ok-eq0-clause-answered : goal.returns-in-Ok-eq0-clause-answered
returns-in-Ok-eq0-clause-answered g c told before used bytes is gains since few =
    let self = c.args.self.now in
    let at = is_taking self used bytes c.requires.taking is in
    let may = may_take self _ c.requires.taking (c.requires.may told) in
    let came = c.in-Ok-eq0.ensures.takes in
    let keeps = c.links_keep_answers.ensures in
    data_keeps keeps.first_data keeps.more_data self.place self.part self.port self.got before used bytes _ _ _ came.0 at may gains came.1.within (came.2 told) since few

pub returns-then-self-clause-steps : goal.returns-then-self-clause-steps
returns-then-self-clause-steps g c told before used bytes is gains =
    let self = c.args.self.now in
    let at = is_taking self used bytes c.requires.taking is in
    let may = may_take self _ c.requires.taking (c.requires.may told) in
    let came = c.in-Ok.ensures.takes in
    let onto = comes_onto self.place self.part self.port self.got before used bytes _ _ _ came.0 at may gains (came.2 told) in
    let long = length-take-le c.in-Ok.count came.0 came.1.within in
    let s = taken_all self.place self.part self.port before used bytes (take c.in-Ok.count came.0) _ self.taken _ onto (omega (arith, long))
    (omega (arith, long, at.got_is, c.if-self.true)) (omega (arith, long)) in
    (take c.in-Ok.count came.0, came.1.grows, record { later = s.later; gains = s.gains; taken_is = s.taken_is; has_talked = s.holds })

pub returns-then-self-clause-answered : goal.returns-then-self-clause-answered
returns-then-self-clause-answered g c told before used bytes is gains since few =
    let self = c.args.self.now in
    let at = is_taking self used bytes c.requires.taking is in
    let may = may_take self _ c.requires.taking (c.requires.may told) in
    let came = c.in-Ok.ensures.takes in
    let keeps = c.links_keep_answers.ensures in
    data_keeps keeps.first_data keeps.more_data self.place self.part self.port self.got before used bytes _ _ _ came.0 at may gains came.1.within (came.2 told) since few

pub returns-else-self-clause-steps : goal.returns-else-self-clause-steps
returns-else-self-clause-steps g c told before used bytes is gains =
    let self = c.args.self.now in
    let at = is_taking self used bytes c.requires.taking is in
    let may = may_take self _ c.requires.taking (c.requires.may told) in
    let came = c.in-Ok.ensures.takes in
    let onto = comes_onto self.place self.part self.port self.got before used bytes _ _ _ came.0 at may gains (came.2 told) in
    let long = length-take-le c.in-Ok.count came.0 came.1.within in
    let s = taken_more self.place self.part self.port before used bytes (take c.in-Ok.count came.0) _ _ self.taken _ onto (omega (arith, long))
    (omega (arith, long, at.got_is)) (omega (arith, long)) in
    let P : TalkStage → Type 0 = λ stage. IsTalkAt stage self.place self.part self.port c.take.new.self.heard.items (self.got + c.in-Ok.count) s.later
    (bytes ++ take c.in-Ok.count came.0) in (
      take c.in-Ok.count came.0,
      came.1.grows,
      record {
        later = s.later;
        gains = s.gains;
        taken_is = s.taken_is;
        has_talked = subst P (sym c.requires.taking) s.holds;
      },
    )

pub returns-else-self-clause-answered : goal.returns-else-self-clause-answered
returns-else-self-clause-answered g c told before used bytes is gains since few =
    let self = c.args.self.now in
    let at = is_taking self used bytes c.requires.taking is in
    let may = may_take self _ c.requires.taking (c.requires.may told) in
    let came = c.in-Ok.ensures.takes in
    let keeps = c.links_keep_answers.ensures in
    data_keeps keeps.first_data keeps.more_data self.place self.part self.port self.got before used bytes _ _ _ came.0 at may gains came.1.within (came.2 told) since few

pub returns-in-Err-clause-steps : goal.returns-in-Err-clause-steps
returns-in-Err-clause-steps g c told before used bytes is gains =
    let self = c.args.self.now in
    let at = is_taking self used bytes c.requires.taking is in
    let s = data_fails self.place self.part self.port self.got before used _ _ bytes self.taken self.taken _ _ at (self.due c.requires.taking) gains
    (ap (λ (l : LinkState). l.exchanges) (c.in-Err.ensures.failed told)) refl (_, c.link_loss.ensures.loss) in
    ([], c.in-Err.ensures.same ∙ sym (append-nil c.args.out.now.items), record { later = s.later; gains = s.gains; taken_is = s.taken_is; tells = s.holds })
