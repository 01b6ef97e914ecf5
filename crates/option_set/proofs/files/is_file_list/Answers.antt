use Rattle.std.proofs.Common.{ℕ, List, lit<, rules}
use borrow.Author.Tests.{tests}
use Rattle.std.proofs.lemmas.Iterator.{cases_from_all}
use Rattle.std.proofs.lemmas.Iterator.Splits.{YieldsList-from_str_split}
use Rattle.option_set.specs.Files.{IsMember}
use Rattle.option_set.proofs.Members.{all_or_some}
use Rattle.option_set.proofs.files.is_file_list.Goals as goal

pub returns : goal.returns
returns c = all_or_some c.args.text.now c.all.result (cases_from_all _ _ _ IsMember (λ (m : List ℕ). IsMember m → ⊥) c.all.ensures.ran
    (YieldsList-from_str_split 44 c.args.text.now (lit< tt) c.split.ensures.text c.split.ensures.has_more c.split.ensures.pattern)
    (λ x q k. search (rules, tests)) (λ x q k. search (rules, tests)))
