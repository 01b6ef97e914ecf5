use Rattle.std.proofs.Common.{◌∙◌, Option, Some, ap, subst}
use Rattle.fetch_session.specs.Sources.{RestsWholeAt}
use Rattle.fetch_session.specs.declared.source.Reader.{Reader}
use Rattle.fetch_session.proofs.source.Source.into_rooms.Goals as goal

pub returns-in-Some-Part-clause-whole : goal.returns-in-Some-Part-clause-whole
returns-in-Some-Part-clause-whole c exchanges were =
    let reader_is = c.in-Some-Part.is ∙ ap Some c.in-Some-Part.field-0-is in
    c.into_rooms.ensures.whole exchanges (subst (λ (it : Option Reader). RestsWholeAt it exchanges) reader_is were)
