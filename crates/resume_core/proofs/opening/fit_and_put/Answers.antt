use Rattle.std.proofs.lemmas.Result.{on_ok_weaker}
use Rattle.resume_core.proofs.Fitted.{fits_to, stretches_to}
use Rattle.resume_core.proofs.Openings.{besides_on, sound_on, given_or, given_or_on, matches_on}
use Rattle.resume_core.proofs.OverWhole.{just_kept, just_on}
use Rattle.resume_core.proofs.opening.fit_and_put.Goals as goal

pub returns-in_err-fit_payload-clause-gives : goal.returns-in_err-fit_payload-clause-gives
returns-in_err-fit_payload-clause-gives g c told either =
    let d = g.D.Disk in
    given_or c.args.want.now c.args.opened.now (d.state c.args.disk.now) (d.state c.fit_payload.new.disk)
    (c.fit_payload.ensures.gives told either)

pub returns-clause-kept : goal.returns-clause-kept
returns-clause-kept g c =
    let d = g.D.Disk in
    on_ok_weaker c.put_opened.result
    (λ opened told. fits_to c.args.want.now (d.state c.args.disk.now).seen (d.state c.fit_payload.new.disk).seen
    (d.state c.put_opened.new.disk).seen (c.put_opened.ensures.payload told) (c.in_ok-fit_payload.ensures.kept told))
    c.put_opened.ensures.opened

pub returns-clause-besides : goal.returns-clause-besides
returns-clause-besides g c told =
    let d = g.D.Disk in
    besides_on c.args.want.now (d.state c.args.disk.now) (d.state c.fit_payload.new.disk)
    (d.state c.put_opened.new.disk)
    (c.fit_payload.ensures.besides told) (c.put_opened.ensures.besides told)

pub returns-clause-sound : goal.returns-clause-sound
returns-clause-sound g c told right =
    let d = g.D.Disk in
    sound_on c.args.want.now (d.state c.args.disk.now) (d.state c.fit_payload.new.disk) (d.state c.put_opened.new.disk)
    (c.fit_payload.ensures.besides told) (c.put_opened.ensures.besides told)
    (c.fit_payload.ensures.sound told)
    (c.put_opened.ensures.sound told
    (matches_on c.args.want.now c.args.opened.now (d.state c.args.disk.now).seen (d.state c.fit_payload.new.disk).seen
    (c.in_ok-fit_payload.ensures.kept told) right))

pub returns-clause-verified : goal.returns-clause-verified
returns-clause-verified g c =
    let d = g.D.Disk in
    on_ok_weaker c.put_opened.result
    (λ verified told right. verified told
    (matches_on c.args.want.now c.args.opened.now (d.state c.args.disk.now).seen (d.state c.fit_payload.new.disk).seen
    (c.in_ok-fit_payload.ensures.kept told) right))
    c.put_opened.ensures.verified

pub returns-clause-gives : goal.returns-clause-gives
returns-clause-gives g c told either =
    let d = g.D.Disk in
    given_or_on c.args.want.now c.args.opened.now (d.state c.args.disk.now) (d.state c.fit_payload.new.disk)
    (d.state c.put_opened.new.disk) (c.fit_payload.ensures.besides told) (c.put_opened.ensures.besides told)
    (c.fit_payload.ensures.gives told either) (c.put_opened.ensures.gives told)

pub returns-in_err-fit_payload-clause-over_whole : goal.returns-in_err-fit_payload-clause-over_whole
returns-in_err-fit_payload-clause-over_whole g c told has =
    let d = g.D.Disk in
    just_kept c.args.want.now c.args.opened.now (d.state c.args.disk.now) (d.state c.fit_payload.new.disk)
    (c.fit_payload.ensures.over_whole told has)

pub returns-clause-over_whole : goal.returns-clause-over_whole
returns-clause-over_whole g c told has =
    let d = g.D.Disk in
    just_on c.args.want.now c.args.opened.now (d.state c.args.disk.now) (d.state c.fit_payload.new.disk)
    (d.state c.put_opened.new.disk) (c.fit_payload.ensures.over_whole told has) (c.put_opened.ensures.besides told)
    (c.put_opened.ensures.over_whole told)

pub returns-clause-stretches : goal.returns-clause-stretches
returns-clause-stretches g c told =
    let d = g.D.Disk in
    stretches_to c.args.want.now (d.state c.args.disk.now).seen (d.state c.fit_payload.new.disk).seen
    (d.state c.put_opened.new.disk).seen (c.put_opened.ensures.payload told) (c.fit_payload.ensures.stretches told)
