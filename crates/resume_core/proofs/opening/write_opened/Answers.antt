use Rattle.std.proofs.Common.{sym}
use Rattle.std.proofs.lemmas.Result.{on_ok_weaker}
use Rattle.resume_core.proofs.Filed.{files_kept}
use Rattle.resume_core.proofs.Fitted.{fits_from, has_same, stretches_from, stretches_same}
use Rattle.resume_core.proofs.Openings.{besides_same, besides_on, sound_same_step, sound_on, given_same_step, given_or, given_or_on, matches_same}
use Rattle.resume_core.proofs.OverWhole.{for_same, just_kept, just_on}
use Rattle.resume_core.proofs.Surveys.{survey_same}
use Rattle.resume_core.proofs.opening.write_opened.Goals as goal

pub returns-in_err-make_folders-clause-sound : goal.returns-in_err-make_folders-clause-sound
returns-in_err-make_folders-clause-sound g c told right =
    let d = g.D.Disk in
    let made = c.make_folders.ensures.performs told in
    sound_same_step c.args.want.now (d.state c.args.disk.now) (d.state c.make_folders.new.disk) made.seen made.passes

pub returns-in_err-make_folders-clause-gives : goal.returns-in_err-make_folders-clause-gives
returns-in_err-make_folders-clause-gives g c told either =
    let d = g.D.Disk in
    let made = c.make_folders.ensures.performs told in
    given_or c.args.want.now c.args.opened.now (d.state c.args.disk.now) (d.state c.make_folders.new.disk)
    (given_same_step c.args.want.now (d.state c.args.disk.now) (d.state c.make_folders.new.disk) made.seen made.passes)

pub fit_and_put-requires-clause-survey : goal.fit_and_put-requires-clause-survey
fit_and_put-requires-clause-survey g c told =
    let d = g.D.Disk in
    survey_same c.args.want.now c.args.survey.now (d.state c.args.disk.now).seen (d.state c.make_folders.new.disk).seen
    (c.make_folders.ensures.performs told).seen (c.requires.survey told)

pub returns-clause-kept : goal.returns-clause-kept
returns-clause-kept g c =
    let d = g.D.Disk in
    on_ok_weaker c.fit_and_put.result
    (λ kept told. fits_from c.args.want.now (d.state c.args.disk.now).seen (d.state c.make_folders.new.disk).seen
    (d.state c.fit_and_put.new.disk).seen
    (files_kept c.args.want.now (d.state c.args.disk.now).seen (d.state c.make_folders.new.disk).seen
    (c.make_folders.ensures.performs told).seen) (kept told))
    c.fit_and_put.ensures.kept

pub returns-clause-besides : goal.returns-clause-besides
returns-clause-besides g c told =
    let d = g.D.Disk in
    let made = c.make_folders.ensures.performs told in
    besides_on c.args.want.now (d.state c.args.disk.now) (d.state c.make_folders.new.disk)
    (d.state c.fit_and_put.new.disk)
    (besides_same c.args.want.now (d.state c.args.disk.now) (d.state c.make_folders.new.disk) made.seen made.passes)
    (c.fit_and_put.ensures.besides told)

pub returns-clause-sound : goal.returns-clause-sound
returns-clause-sound g c told right =
    let d = g.D.Disk in
    let made = c.make_folders.ensures.performs told in
    sound_on c.args.want.now (d.state c.args.disk.now) (d.state c.make_folders.new.disk)
    (d.state c.fit_and_put.new.disk)
    (besides_same c.args.want.now (d.state c.args.disk.now) (d.state c.make_folders.new.disk) made.seen made.passes)
    (c.fit_and_put.ensures.besides told)
    (sound_same_step c.args.want.now (d.state c.args.disk.now) (d.state c.make_folders.new.disk) made.seen made.passes)
    (c.fit_and_put.ensures.sound told
    (matches_same c.args.want.now c.args.opened.now (d.state c.args.disk.now).seen
    (d.state c.make_folders.new.disk).seen made.seen right))

pub returns-clause-verified : goal.returns-clause-verified
returns-clause-verified g c =
    let d = g.D.Disk in
    on_ok_weaker c.fit_and_put.result
    (λ verified told right. verified told
    (matches_same c.args.want.now c.args.opened.now (d.state c.args.disk.now).seen
    (d.state c.make_folders.new.disk).seen
    (c.make_folders.ensures.performs told).seen right))
    c.fit_and_put.ensures.verified

pub returns-clause-gives : goal.returns-clause-gives
returns-clause-gives g c told either =
    let d = g.D.Disk in
    let made = c.make_folders.ensures.performs told in
    given_or_on c.args.want.now c.args.opened.now (d.state c.args.disk.now) (d.state c.make_folders.new.disk)
    (d.state c.fit_and_put.new.disk)
    (besides_same c.args.want.now (d.state c.args.disk.now) (d.state c.make_folders.new.disk) made.seen made.passes)
    (c.fit_and_put.ensures.besides told)
    (given_same_step c.args.want.now (d.state c.args.disk.now) (d.state c.make_folders.new.disk) made.seen made.passes)
    (c.fit_and_put.ensures.gives told either)

pub returns-clause-folders : goal.returns-clause-folders
returns-clause-folders g c =
    on_ok_weaker c.fit_and_put.result
    (λ kept told. rw (c.fit_and_put.ensures.folders told, sym c.as_str.ensures)
    (c.in_ok-make_folders.ensures.folders told))
    c.fit_and_put.ensures.kept

pub returns-clause-stay : goal.returns-clause-stay
returns-clause-stay g c told folder has =
    rw (c.fit_and_put.ensures.folders told) (c.make_folders.ensures.stay told folder has)

pub returns-in_err-make_folders-clause-over_whole : goal.returns-in_err-make_folders-clause-over_whole
returns-in_err-make_folders-clause-over_whole g c told has =
    let d = g.D.Disk in
    let made = c.make_folders.ensures.performs told in
    just_kept c.args.want.now c.args.opened.now (d.state c.args.disk.now) (d.state c.make_folders.new.disk)
    (for_same c.args.want.now (d.state c.args.disk.now) (d.state c.make_folders.new.disk) made.seen made.passes)

pub returns-clause-over_whole : goal.returns-clause-over_whole
returns-clause-over_whole g c told has =
    let d = g.D.Disk in
    let made = c.make_folders.ensures.performs told in
    let keeps = for_same c.args.want.now (d.state c.args.disk.now) (d.state c.make_folders.new.disk) made.seen
    made.passes in
    just_on c.args.want.now c.args.opened.now (d.state c.args.disk.now) (d.state c.make_folders.new.disk)
    (d.state c.fit_and_put.new.disk) keeps (c.fit_and_put.ensures.besides told)
    (c.fit_and_put.ensures.over_whole told
    (has_same c.args.want.now (d.state c.args.disk.now).seen (d.state c.make_folders.new.disk).seen keeps.seen.files has))

pub returns-clause-only : goal.returns-clause-only
returns-clause-only g c told =
    rw (c.fit_and_put.ensures.folders told, sym c.as_str.ensures) (c.make_folders.ensures.only told)

pub returns-in_err-make_folders-clause-stretches : goal.returns-in_err-make_folders-clause-stretches
returns-in_err-make_folders-clause-stretches g c told =
    let d = g.D.Disk in
    let was = (d.state c.args.disk.now).seen in
    let now = (d.state c.make_folders.new.disk).seen in
    stretches_same c.args.want.now was now
    (files_kept c.args.want.now was now (c.make_folders.ensures.performs told).seen)

pub returns-clause-stretches : goal.returns-clause-stretches
returns-clause-stretches g c told =
    let d = g.D.Disk in
    let was = (d.state c.args.disk.now).seen in
    let made = (d.state c.make_folders.new.disk).seen in
    stretches_from c.args.want.now was made (d.state c.fit_and_put.new.disk).seen
    (files_kept c.args.want.now was made (c.make_folders.ensures.performs told).seen)
    (c.fit_and_put.ensures.stretches told)
