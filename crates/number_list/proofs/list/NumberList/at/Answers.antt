use Rattle.std.proofs.Common.{◌≡◌, ℕ, List, Option, Some, None, IfSome, option_map, true, refl, sym, ◌∙◌, subst}
use Rattle.std.specs.Prelude.{slice_get}
use Rattle.std.proofs.lemmas.Iterator.Consumers.{nth_from_yields_List, YieldsList-from_first}
use Rattle.number_list.specs.Order.{lists_number}
use Rattle.number_list.proofs.Cuts.{got_is_listed}
use Rattle.number_list.proofs.list.NumberList.at.Goals as goal
use Rattle.number_list.proofs.list.NumberList.at.Goals.{After-nth}

same_map : (o : Option ℕ) → o ≡ option_map (λ x. x) o
same_map None = refl
same_map (Some x) = refl

got : (c : After-nth) → c.nth.result ≡ slice_get c.args.self.now.order c.args.place
got c =
    same_map c.nth.result
    ∙ nth_from_yields_List c.nth.result c.nth.new.self c.args.place c.nth.ensures.ran
    (YieldsList-from_first (λ (x : ℕ). x) (λ (s : List ℕ). s) c.args.self.now.order c.iter.ensures)

pub returns-clause-value : goal.returns-clause-value
returns-clause-value c = got (goal.at.returns-clause-value c).After-nth

pub returns-clause-listed : goal.returns-clause-listed
returns-clause-listed c =
    subst (λ (o : Option ℕ). IfSome o (λ x. lists_number c.args.self.now.order x ≡ true))
    (sym (got (goal.at.returns-clause-listed c).After-nth)) (got_is_listed c.args.self.now.order c.args.place)
