use Rattle.durable_progress.proofs.Steps.{besides, finish_stays, others_stay, seen_held}
use Rattle.resume_core.specs.Steps.{Finishes}
use Rattle.durable_progress.proofs.stepping.finish_held.Goals as goal

pub returns-clause-held : goal.returns-clause-held
returns-clause-held g c told =
    let d = g.D.Disk in
    finish_stays c.args.want.now (d.state c.args.disk.now) (d.state c.finish.new.disk) (c.finish.ensures.payload told)
    (c.finish.ensures.performs told)

pub returns-clause-others : goal.returns-clause-others
returns-clause-others g c told =
    let d = g.D.Disk in
    others_stay c.args.want.now (Finishes c.args.want.now (d.state c.args.disk.now).seen)
    (λ x y finishes name beside. finishes.others name beside.control) (d.state c.args.disk.now)
    (d.state c.finish.new.disk) (c.finish.ensures.performs told)

pub returns-clause-besides : goal.returns-clause-besides
returns-clause-besides g c told =
    let d = g.D.Disk in
    besides c.args.want.now (Finishes c.args.want.now (d.state c.args.disk.now).seen)
    (λ x y finishes name beside. finishes.others name beside.control) (d.state c.args.disk.now)
    (d.state c.finish.new.disk) (c.finish.ensures.performs told)

pub returns-clause-still : goal.returns-clause-still
returns-clause-still g c told listing image =
    let d = g.D.Disk in
    seen_held c.args.want.now listing (d.state c.args.disk.now).seen (d.state c.finish.new.disk).seen image
    (c.finish.ensures.payload told)
