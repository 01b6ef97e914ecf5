use Rattle.std.proofs.Common.{ℕ, ◌++◌, ◌+◌, ◌≡◌, List, [], sym, ap, subst, append-nil, inl, inr}
use Rattle.request_chain.specs.Chains.{received_by}
use Rattle.fetch_session.specs.Sources.{StepsOrLosesOn}
use Rattle.fetch_session.proofs.PartSteps.{usable_on}
use Rattle.fetch_session.proofs.source.Source.turn.Goals as goal

pub read_part-requires-clause-may : goal.read_part-requires-clause-may
read_part-requires-clause-may g c told = c.begin_part.ensures.may _ (c.requires.may told)

pub returns-then-is_err-clause-steps : goal.returns-then-is_err-clause-steps
returns-then-is_err-clause-steps g c told parts before used bytes is gains = (
  [],
  sym (append-nil c.args.out.now.items),
  record { later = used; gains = gains; taken_is = ap (λ taken. received_by used + taken) (sym c.begin_part.ensures.taken); tells = tt },
)

pub returns-clause-steps : goal.returns-clause-steps
returns-clause-steps g c told parts before used bytes is gains =
    let P : ℕ → Type 0 = λ was. (added : List ℕ) × (c.read_part.new.out.items ≡ c.args.out.now.items ++ added)
    × StepsOrLosesOn parts before used bytes added c.args.room c.args.allow was c.read_part.result c.read_part.new.self (g.L.Links.state c.read_part.new.link) (g.L.Links.faults c.read_part.new.link) in
    subst P c.begin_part.ensures.taken
    (c.read_part.ensures.steps told parts before used bytes (c.begin_part.ensures.source parts used bytes is) gains)

pub returns-clause-untouched : goal.returns-clause-untouched
returns-clause-untouched g c url asks unusable = elim (c.begin_part.ensures.asks url asks) [
  | inl asked ↦ c.read_part.ensures.untouched url asked unusable
  | inr can ↦ absurd (unusable can)
]

pub returns-clause-usable : goal.returns-clause-usable
returns-clause-usable g c =
    usable_on c.begin_part.new.self c.args.self.now c.read_part.result c.begin_part.ensures.asks c.read_part.ensures.usable

pub returns-clause-answered : goal.returns-clause-answered
returns-clause-answered g c told parts before used bytes is gains =
    c.read_part.ensures.answered told parts before used bytes (c.begin_part.ensures.source parts used bytes is) gains

pub returns-clause-whole : goal.returns-clause-whole
returns-clause-whole g c told parts before used bytes is gains were =
    c.read_part.ensures.whole told parts before used bytes (c.begin_part.ensures.source parts used bytes is) gains
    (c.begin_part.ensures.whole _ were)
