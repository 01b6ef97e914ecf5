use Rattle.std.proofs.Common.{◌∙◌, List, [], Option, Some, refl, sym, ap, subst}
use Rattle.fetch_session.specs.Sources.{MayReadAt, RestsWholeAt}
use Rattle.fetch_session.specs.declared.source.Reader.{Reader}
use Rattle.fetch_session.proofs.PartSteps.{asks_part, part_asks}
use Rattle.fetch_session.proofs.source.Source.begin_part.Goals as goal

pub new-requires : goal.new-requires
new-requires c = (c.part.result.now, c.in_ok-ask.ensures, c.args.self.now.valid c.args.self.now.place c.part.result.now c.part.ensures)

pub returns-clause-source : goal.returns-clause-source
returns-clause-source c parts used bytes is =
    let reader_is = sym c.in-Some-Next-take.ensures.value ∙ ap Some c.in-Some-Next-take.field-0-is in
    asks_part parts used bytes c.args.self.now _ c.in-Some-Next-take.rooms c.new.result c.part.result.now reader_is c.part.ensures refl refl refl
    (c.new.ensures.reading c.part.result.now c.in_ok-ask.ensures) is

pub returns-clause-may : goal.returns-clause-may
returns-clause-may c link may =
    let reader_is = sym c.in-Some-Next-take.ensures.value ∙ ap Some c.in-Some-Next-take.field-0-is in
    let M : Option Reader → Type 0 = λ reader. MayReadAt reader link in
    c.new.ensures.may link (subst M reader_is may)

pub returns-clause-whole : goal.returns-clause-whole
returns-clause-whole c exchanges were =
    let reader_is = sym c.in-Some-Next-take.ensures.value ∙ ap Some c.in-Some-Next-take.field-0-is in
    let W : Option Reader → Type 0 = λ reader. RestsWholeAt reader exchanges in
    c.new.ensures.whole exchanges (subst W reader_is were)

pub returns-clause-asks : goal.returns-clause-asks
returns-clause-asks c url asks =
    let reader_is = sym c.in-Some-Next-take.ensures.value ∙ ap Some c.in-Some-Next-take.field-0-is in
    part_asks c.args.self.now c.in-Some-Next-take.rooms c.new.result c.part.result.now url reader_is c.part.ensures
    (c.new.ensures.asks c.part.result.now c.in_ok-ask.ensures) asks
