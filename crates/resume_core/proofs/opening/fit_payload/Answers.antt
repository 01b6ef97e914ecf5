use Rattle.std.proofs.Common.{◌∙◌, ⊎_elim, refl, sym}
use Rattle.std.proofs.lemmas.Bool.{false≢true}
use Rattle.resume_core.proofs.Fitted.{files_whole, whole_files, fits_as_is, stretches_same}
use Rattle.resume_core.proofs.Openings.{sound_none, given_none}
use Rattle.resume_core.proofs.OverWhole.{for_none}
use Rattle.resume_core.proofs.opening.fit_payload.Goals as goal

pub returns-then-are_whole-clause-files : goal.returns-then-are_whole-clause-files
returns-then-are_whole-clause-files g c told =
    whole_files c.args.want.now (g.D.Disk.state c.args.disk.now).seen
    (sym (c.requires.survey told).lens ∙ sym c.deref.ensures.value ∙ c.are_whole.ensures.0 c.if-are_whole.true)

pub returns-then-are_whole-clause-kept : goal.returns-then-are_whole-clause-kept
returns-then-are_whole-clause-kept g c told =
    fits_as_is c.args.want.now (g.D.Disk.state c.args.disk.now).seen
    (whole_files c.args.want.now (g.D.Disk.state c.args.disk.now).seen
    (sym (c.requires.survey told).lens ∙ sym c.deref.ensures.value ∙ c.are_whole.ensures.0 c.if-are_whole.true))

pub returns-then-are_whole-clause-sound : goal.returns-then-are_whole-clause-sound
returns-then-are_whole-clause-sound g c told = sound_none c.args.want.now (g.D.Disk.state c.args.disk.now)

pub returns-then-are_whole-clause-gives : goal.returns-then-are_whole-clause-gives
returns-then-are_whole-clause-gives g c told either = given_none c.args.want.now (g.D.Disk.state c.args.disk.now)

pub returns-clause-gives : goal.returns-clause-gives
returns-clause-gives g c told either = ⊎_elim
    (λ stood. c.hold_and_fit.ensures.gives told (c.is_some.ensures ∙ stood))
    (λ whole. absurd (false≢true (sym c.if-are_whole.false ∙ c.are_whole.ensures.1 (c.deref.ensures.value ∙ whole))))
    either

pub returns-then-are_whole-clause-over_whole : goal.returns-then-are_whole-clause-over_whole
returns-then-are_whole-clause-over_whole g c told has = for_none c.args.want.now (g.D.Disk.state c.args.disk.now)

pub returns-clause-over_whole : goal.returns-clause-over_whole
returns-clause-over_whole g c told has =
    let seen = (g.D.Disk.state c.args.disk.now).seen in
    absurd (false≢true (sym c.if-are_whole.false ∙ c.are_whole.ensures.1
    (c.deref.ensures.value ∙ ((c.requires.survey told).lens ∙ files_whole c.args.want.now seen has))))

pub returns-clause-untouched : goal.returns-clause-untouched
returns-clause-untouched g c told has =
    let seen = (g.D.Disk.state c.args.disk.now).seen in
    absurd (false≢true (sym c.if-are_whole.false ∙ c.are_whole.ensures.1
    (c.deref.ensures.value ∙ ((c.requires.survey told).lens ∙ files_whole c.args.want.now seen has))))

pub returns-then-are_whole-clause-stretches : goal.returns-then-are_whole-clause-stretches
returns-then-are_whole-clause-stretches g c told =
    let seen = (g.D.Disk.state c.args.disk.now).seen in
    stretches_same c.args.want.now seen seen refl
