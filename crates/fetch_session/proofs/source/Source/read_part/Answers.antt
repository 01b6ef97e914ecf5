use Rattle.std.proofs.Common.{◌+◌, ◌∙◌, ℕ, [], ◌∷◌, Option, Some, refl, sym, ap, subst}
use Rattle.fetch_session.specs.Sources.{RestsWholeAt}
use Rattle.fetch_session.specs.declared.source.Reader.{Reader}
use Rattle.part_readers.proofs.Telling.{may_rest}
use Rattle.fetch_session.proofs.PartSteps.{at_part, between_of, reader_asks, loses_step, steps_over, steps_within}
use Rattle.fetch_session.proofs.source.Source.read_part.Goals as goal

pub returns-then-read-clause-steps : goal.returns-then-read-clause-steps
returns-then-read-clause-steps g c told parts before used bytes is gains =
    let self = c.args.self.now in
    let reader = c.in-Some-Part.reader in
    let reader_is = sym c.in-Some-Part.ensures.value ∙ ap Some c.in-Some-Part.field-0-is in
    let at = at_part parts used bytes self reader reader_is is in
    let between = between_of parts used bytes self is before _ gains in
    let read = c.in-Ok.ensures.reads told at.part between.between is.newer is.own is.waiting at.reading between.behind in (
      read.0,
      read.1,
      steps_over parts used bytes self _ reader c.read-read.new.self is at refl before _ _ between read.0 c.args.room c.args.allow c.requires.more
          c.in-Ok.read read.2 (ap (λ (n : ℕ). self.taken + n) (c.taken.ensures ∙ sym c.in-Ok.ensures.taken)) c.if-read.true c.next_place-next.ensures c.into_rooms.result refl,
    )

pub returns-else-read-clause-steps : goal.returns-else-read-clause-steps
returns-else-read-clause-steps g c told parts before used bytes is gains =
    let self = c.args.self.now in
    let reader = c.in-Some-Part.reader in
    let reader_is = sym c.in-Some-Part.ensures.value ∙ ap Some c.in-Some-Part.field-0-is in
    let at = at_part parts used bytes self reader reader_is is in
    let between = between_of parts used bytes self is before _ gains in
    let read = c.in-Ok.ensures.reads told at.part between.between is.newer is.own is.waiting at.reading between.behind in (
      read.0,
      read.1,
      steps_within parts used bytes self _ reader c.read-read.new.self is at refl before _ _ between read.0 c.args.room c.args.allow c.requires.more
          c.in-Ok.read read.2 (ap (λ (n : ℕ). self.taken + n) (c.taken.ensures ∙ sym c.in-Ok.ensures.taken)) c.if-read.false refl refl,
    )

pub returns-in-Err-clause-steps : goal.returns-in-Err-clause-steps
returns-in-Err-clause-steps g c told parts before used bytes is gains =
    let self = c.args.self.now in
    let reader = c.in-Some-Part.reader in
    let reader_is = sym c.in-Some-Part.ensures.value ∙ ap Some c.in-Some-Part.field-0-is in
    let at = at_part parts used bytes self reader reader_is is in
    let between = between_of parts used bytes self is before _ gains in
    let read = c.in-Err.ensures.reads told at.part between.between is.newer is.own is.waiting at.reading between.behind in (
      read.0,
      read.1,
      loses_step parts used bytes self _ reader c.read-read.new.self is at refl before _ _ between read.0 c.args.room c.args.allow c.requires.more
          _ _ c.in-Err.loss read.2 (ap (λ (n : ℕ). self.taken + n) c.taken.ensures),
    )

pub returns-then-read-clause-answered : goal.returns-then-read-clause-answered
returns-then-read-clause-answered g c told parts before used bytes is gains =
    let self = c.args.self.now in
    let reader_is = sym c.in-Some-Part.ensures.value ∙ ap Some c.in-Some-Part.field-0-is in
    let at = at_part parts used bytes self c.in-Some-Part.reader reader_is is in
    let between = between_of parts used bytes self is before _ gains in
    c.read-read.ensures.answered told at.part between.between is.newer is.own is.waiting at.reading between.behind before between.few

pub returns-then-read-clause-whole : goal.returns-then-read-clause-whole
returns-then-read-clause-whole g c told parts before used bytes is gains were rests =
    let self = c.args.self.now in
    let reader_is = sym c.in-Some-Part.ensures.value ∙ ap Some c.in-Some-Part.field-0-is in
    let at = at_part parts used bytes self c.in-Some-Part.reader reader_is is in
    let between = between_of parts used bytes self is before _ gains in
    let W : Option Reader → Type 0 = λ reader. RestsWholeAt reader (g.L.Links.state c.args.link.now).exchanges in
    c.into_rooms.ensures.whole _
    (c.read-read.ensures.whole told at.part between.between is.newer is.own is.waiting at.reading between.behind (subst W reader_is were)) rests

pub returns-else-read-clause-answered : goal.returns-else-read-clause-answered
returns-else-read-clause-answered g c told parts before used bytes is gains =
    let self = c.args.self.now in
    let reader_is = sym c.in-Some-Part.ensures.value ∙ ap Some c.in-Some-Part.field-0-is in
    let at = at_part parts used bytes self c.in-Some-Part.reader reader_is is in
    let between = between_of parts used bytes self is before _ gains in
    c.read-read.ensures.answered told at.part between.between is.newer is.own is.waiting at.reading between.behind before between.few

pub returns-else-read-clause-whole : goal.returns-else-read-clause-whole
returns-else-read-clause-whole g c told parts before used bytes is gains were =
    let self = c.args.self.now in
    let reader_is = sym c.in-Some-Part.ensures.value ∙ ap Some c.in-Some-Part.field-0-is in
    let at = at_part parts used bytes self c.in-Some-Part.reader reader_is is in
    let between = between_of parts used bytes self is before _ gains in
    let W : Option Reader → Type 0 = λ reader. RestsWholeAt reader (g.L.Links.state c.args.link.now).exchanges in
    c.read-read.ensures.whole told at.part between.between is.newer is.own is.waiting at.reading between.behind (subst W reader_is were)

pub returns-in-Err-clause-answered : goal.returns-in-Err-clause-answered
returns-in-Err-clause-answered g c told parts before used bytes is gains =
    let self = c.args.self.now in
    let reader_is = sym c.in-Some-Part.ensures.value ∙ ap Some c.in-Some-Part.field-0-is in
    let at = at_part parts used bytes self c.in-Some-Part.reader reader_is is in
    let between = between_of parts used bytes self is before _ gains in
    c.read-read.ensures.answered told at.part between.between is.newer is.own is.waiting at.reading between.behind before between.few

pub returns-in-Err-clause-whole : goal.returns-in-Err-clause-whole
returns-in-Err-clause-whole g c told parts before used bytes is gains were =
    let self = c.args.self.now in
    let reader_is = sym c.in-Some-Part.ensures.value ∙ ap Some c.in-Some-Part.field-0-is in
    let at = at_part parts used bytes self c.in-Some-Part.reader reader_is is in
    let between = between_of parts used bytes self is before _ gains in
    let W : Option Reader → Type 0 = λ reader. RestsWholeAt reader (g.L.Links.state c.args.link.now).exchanges in
    c.read-read.ensures.whole told at.part between.between is.newer is.own is.waiting at.reading between.behind (subst W reader_is were)

pub returns-else-read-clause-untouched : goal.returns-else-read-clause-untouched
returns-else-read-clause-untouched g c url asks unusable =
    let reader_is = sym c.in-Some-Part.ensures.value ∙ ap Some c.in-Some-Part.field-0-is in
    c.read-read.ensures.untouched url (reader_asks c.args.self.now c.in-Some-Part.reader url reader_is asks) unusable

pub returns-in-Err-clause-untouched : goal.returns-in-Err-clause-untouched
returns-in-Err-clause-untouched g c url asks unusable =
    let reader_is = sym c.in-Some-Part.ensures.value ∙ ap Some c.in-Some-Part.field-0-is in
    c.read-read.ensures.untouched url (reader_asks c.args.self.now c.in-Some-Part.reader url reader_is asks) unusable

pub returns-then-read-clause-may : goal.returns-then-read-clause-may
returns-then-read-clause-may g c told = c.into_rooms.ensures.rests _ (may_rest c.read-read.new.self _ (c.in-Ok.ensures.may told))

pub returns-then-read-clause-usable : goal.returns-then-read-clause-usable
returns-then-read-clause-usable g c url asks unusable =
    let reader_is = sym c.in-Some-Part.ensures.value ∙ ap Some c.in-Some-Part.field-0-is in
    c.in-Ok.ensures.usable url (reader_asks c.args.self.now c.in-Some-Part.reader url reader_is asks) unusable

pub returns-then-read-clause-untouched : goal.returns-then-read-clause-untouched
returns-then-read-clause-untouched g c url asks unusable =
    let reader_is = sym c.in-Some-Part.ensures.value ∙ ap Some c.in-Some-Part.field-0-is in
    c.read-read.ensures.untouched url (reader_asks c.args.self.now c.in-Some-Part.reader url reader_is asks) unusable

pub returns-else-read-clause-usable : goal.returns-else-read-clause-usable
returns-else-read-clause-usable g c url asks unusable =
    let reader_is = sym c.in-Some-Part.ensures.value ∙ ap Some c.in-Some-Part.field-0-is in
    c.in-Ok.ensures.usable url (reader_asks c.args.self.now c.in-Some-Part.reader url reader_is asks) unusable
