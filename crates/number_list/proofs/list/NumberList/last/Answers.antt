use Rattle.std.proofs.Common.{◌≡◌, ◌-◌, ◌<◌, ◌∙◌, ℕ, Option, Some, IfSome, length, true, sym, ap, subst, arith}
use Rattle.std.specs.Prelude.{slice_get}
use Rattle.number_list.specs.Order.{NumberOrder, lists_number}
use Rattle.number_list.proofs.Changes.{some_in_bound, last_is, read_link}
use Rattle.number_list.proofs.Cuts.{got_is_listed}
use Rattle.number_list.proofs.list.NumberList.last.Goals as goal
use Rattle.number_list.proofs.list.NumberList.last.Goals.{After-index, Else-self-eq0}

within : (c : Else-self-eq0) → 0 < length c.self.inside.previous.items
within c =
    omega (
      arith,
      c.self.invariant.previous_len,
      some_in_bound c.self.inside.next.items c.self.inside.previous.items c.self.inside.bound
          c.self.inside.count c.self.invariant (omega (arith, c.if-self-eq0.false)),
    )

pub index-requires : goal.index-requires
index-requires c = omega (arith, within (goal.at.index-requires c).Else-self-eq0)

got : (c : After-index) → slice_get c.args.self.now.order (length c.args.self.now.order - 1) ≡ Some c.index.result.now
got c =
    ap (λ (v : NumberOrder). slice_get v.order (length v.order - 1)) (sym c.self.view_is)
    ∙ last_is c.self.inside.next.items c.self.inside.previous.items c.self.inside.bound c.self.inside.count c.self.invariant
    (omega (arith, c.if-self-eq0.false))
    ∙ ap (λ (k : ℕ). Some k) (sym (read_link c.self.inside.previous.items 0 c.index.result.now
    (omega (
      arith,
      c.self.invariant.previous_len,
      some_in_bound c.self.inside.next.items c.self.inside.previous.items c.self.inside.bound
          c.self.inside.count c.self.invariant (omega (arith, c.if-self-eq0.false)),
    )) c.index.ensures))

pub returns-clause-value : goal.returns-clause-value
returns-clause-value c = sym (got (goal.at.returns-clause-value c).After-index)

pub returns-clause-listed : goal.returns-clause-listed
returns-clause-listed c =
    subst (λ (o : Option ℕ). IfSome o (λ x. lists_number c.args.self.now.order x ≡ true))
    (got (goal.at.returns-clause-listed c).After-index)
    (got_is_listed c.args.self.now.order (length c.args.self.now.order - 1))
