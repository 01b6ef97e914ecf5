use Rattle.resume_core.proofs.Fitted.{fits_stretched, stretches_from, stretches_same}
use Rattle.resume_core.proofs.Openings.{besides_on, sound_on, given_on}
use Rattle.std.proofs.lemmas.Result.{on_ok_weaker}
use Rattle.resume_core.proofs.opening.hold_and_fit.Goals as goal

pub returns-clause-kept : goal.returns-clause-kept
returns-clause-kept g c =
    let d = g.D.Disk in
    on_ok_weaker c.fit_held.result
    (λ sized told. fits_stretched c.args.want.now (d.state c.args.disk.now).seen (d.state c.hold_control.new.disk).seen
    (d.state c.fit_held.new.disk).seen (c.hold_control.ensures.payload told) (sized told)
    (c.fit_held.ensures.seen told))
    c.fit_held.ensures.resized

pub returns-clause-besides : goal.returns-clause-besides
returns-clause-besides g c told =
    let d = g.D.Disk in
    besides_on c.args.want.now (d.state c.args.disk.now) (d.state c.hold_control.new.disk) (d.state c.fit_held.new.disk)
    (c.hold_control.ensures.besides told) (c.fit_held.ensures.besides told)

pub returns-clause-sound : goal.returns-clause-sound
returns-clause-sound g c told =
    let d = g.D.Disk in
    sound_on c.args.want.now (d.state c.args.disk.now) (d.state c.hold_control.new.disk) (d.state c.fit_held.new.disk)
    (c.hold_control.ensures.besides told) (c.fit_held.ensures.besides told)
    (c.hold_control.ensures.sound told) (c.fit_held.ensures.sound told)

pub returns-clause-gives : goal.returns-clause-gives
returns-clause-gives g c told stood =
    let d = g.D.Disk in
    given_on c.args.want.now (d.state c.args.disk.now) (d.state c.hold_control.new.disk) (d.state c.fit_held.new.disk)
    (c.hold_control.ensures.besides told) (c.fit_held.ensures.besides told)
    (c.hold_control.ensures.gives told stood) (c.fit_held.ensures.gives told)

pub returns-in_err-hold_control-clause-stretches : goal.returns-in_err-hold_control-clause-stretches
returns-in_err-hold_control-clause-stretches g c told =
    let d = g.D.Disk in
    stretches_same c.args.want.now (d.state c.args.disk.now).seen (d.state c.hold_control.new.disk).seen
    (c.hold_control.ensures.payload told)

pub returns-clause-stretches : goal.returns-clause-stretches
returns-clause-stretches g c told =
    let d = g.D.Disk in
    stretches_from c.args.want.now (d.state c.args.disk.now).seen (d.state c.hold_control.new.disk).seen
    (d.state c.fit_held.new.disk).seen (c.hold_control.ensures.payload told) (c.fit_held.ensures.seen told).each
