use Rattle.std.proofs.lemmas.Result.{on_ok_weaker}
use Rattle.resume_core.proofs.Openings.{sound_none, saved_besides, saved_gives, saved_opened, saved_sound, saved_verified}
use Rattle.resume_core.proofs.OverWhole.{for_none, just_kept, saved_just}
use Rattle.resume_core.proofs.opening.put_opened.Goals as goal

pub returns-in_err-control-clause-sound : goal.returns-in_err-control-clause-sound
returns-in_err-control-clause-sound g c told right = sound_none c.args.want.now (g.D.Disk.state c.args.disk.now)

pub returns-clause-opened : goal.returns-clause-opened
returns-clause-opened g c =
    let d = g.D.Disk in
    on_ok_weaker c.put_listing.result
    (λ saved told. saved_opened c.args.want.now c.control_files_are_read.ensures.back c.requires.want c.args.opened.now
    c.in_ok-control.control c.in_ok-control.ensures (d.state c.args.disk.now) (d.state c.put_listing.new.disk)
    (c.requires.files told) (c.put_listing.ensures.performs told) (saved told))
    c.put_listing.ensures.saved

pub returns-clause-besides : goal.returns-clause-besides
returns-clause-besides g c told =
    let d = g.D.Disk in
    saved_besides c.args.want.now c.control_files_are_read.ensures.back c.requires.want c.args.opened.now
    c.in_ok-control.control c.in_ok-control.ensures (d.state c.args.disk.now) (d.state c.put_listing.new.disk)
    (c.requires.files told) (c.put_listing.ensures.performs told)

pub returns-clause-sound : goal.returns-clause-sound
returns-clause-sound g c told right =
    let d = g.D.Disk in
    saved_sound c.args.want.now c.control_files_are_read.ensures.back c.requires.want c.args.opened.now
    c.in_ok-control.control c.in_ok-control.ensures (d.state c.args.disk.now) (d.state c.put_listing.new.disk)
    (c.requires.files told) (c.put_listing.ensures.performs told) right

pub returns-clause-verified : goal.returns-clause-verified
returns-clause-verified g c =
    let d = g.D.Disk in
    on_ok_weaker c.put_listing.result
    (λ saved told right. saved_verified c.args.want.now c.control_files_are_read.ensures.back c.requires.want
    c.args.opened.now
    c.in_ok-control.control c.in_ok-control.ensures (d.state c.args.disk.now) (d.state c.put_listing.new.disk)
    (c.requires.files told) (c.put_listing.ensures.performs told) right (saved told))
    c.put_listing.ensures.saved

pub returns-clause-gives : goal.returns-clause-gives
returns-clause-gives g c told =
    let d = g.D.Disk in
    saved_gives c.args.want.now c.control_files_are_read.ensures.back c.requires.want c.args.opened.now
    c.in_ok-control.control c.in_ok-control.ensures (d.state c.args.disk.now) (d.state c.put_listing.new.disk)
    (c.requires.files told) (c.put_listing.ensures.performs told)

pub returns-in_err-control-clause-over_whole : goal.returns-in_err-control-clause-over_whole
returns-in_err-control-clause-over_whole g c told =
    let d = g.D.Disk in
    just_kept c.args.want.now c.args.opened.now (d.state c.args.disk.now) (d.state c.args.disk.now)
    (for_none c.args.want.now (d.state c.args.disk.now))

pub returns-clause-over_whole : goal.returns-clause-over_whole
returns-clause-over_whole g c told =
    let d = g.D.Disk in
    saved_just c.args.want.now c.control_files_are_read.ensures.back c.requires.want c.args.opened.now
    c.in_ok-control.control c.in_ok-control.ensures (d.state c.args.disk.now) (d.state c.put_listing.new.disk)
    (c.requires.files told) (c.put_listing.ensures.performs told)
