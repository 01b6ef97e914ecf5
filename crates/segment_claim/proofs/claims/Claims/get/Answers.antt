use Rattle.std.proofs.Common.{ap, ◌∙◌, rules, tests}
use Rattle.std.proofs.lemmas.Iterator.{YieldsList-from_slice}
use Rattle.std.proofs.lemmas.Iterator.Search.{find_from_yields_List}
use Rattle.segment_claim.specs.Book.{ClaimBook, claim_under}
use Rattle.segment_claim.specs.Open.{has_number}
use Rattle.segment_claim.proofs.claims.Claims.get.Goals as goal

pub returns : goal.returns
returns c =
    let found = find_from_yields_List (has_number c.args.id) _ _ c.find.result c.find.ensures.ran
    (YieldsList-from_slice c.self.inside.standing.items cc) (λ x b q k. search (rules, tests)) in
    c.copied.ensures ∙ found ∙ ap (λ (book : ClaimBook). claim_under book c.args.id) c.self.view_is
