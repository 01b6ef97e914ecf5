use Rattle.std.proofs.Common.{ℕ, List, refl, rules}
use borrow.Author.Tests.{tests}
use Rattle.std.proofs.lemmas.Iterator.Consumers.{YieldsList-from_first}
use Rattle.std.proofs.lemmas.Iterator.Search.{position_from_yields_List}
use Rattle.number_list.proofs.list.place_among.Goals as goal

pub returns : goal.returns
returns c =
    position_from_yields_List _ _ _ _ c.position.ensures.ran
    (YieldsList-from_first (λ (x : ℕ). x) (λ (s : List ℕ). s) _ refl) (λ x b q k. search (rules, tests))
