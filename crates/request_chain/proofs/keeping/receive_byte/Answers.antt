use Rattle.std.proofs.Common.{List, ℕ, length, sym, subst, ◌∙◌, arith}
use Rattle.std.proofs.lemmas.Bool.{eqb-true}
use Rattle.request_chain.specs.Searches.{HasHeadAnd}
use Rattle.request_chain.proofs.AnsweredLemmas.{answered_received, comes_due, top_later}
use Rattle.request_chain.proofs.KeepingLemmas.{byte_little, head_still, whole_then}
use Rattle.request_chain.proofs.TurnLemmas.{no_bytes}
use Rattle.request_chain.proofs.keeping.receive_byte.Goals as goal

pub returns-in-Ok-clause-has : goal.returns-in-Ok-clause-has
returns-in-Ok-clause-has g c told url before head and =
    let none = no_bytes c.args.inbox.now (eqb-true (length c.args.inbox.now) 0 (sym c.is_empty.ensures ∙ c.if-not-is_empty.false)) in
    let P : List ℕ → Type 0 = λ waiting. HasHeadAnd url before (g.L.Links.state c.args.link.now).exchanges waiting head in
    head_still c.final_heads_are_one_and_stay.ensures.stays url before _ _ head c.refill.new.self (subst P none and) (c.in-Ok.ensures.received told)

pub returns-in-Ok-clause-byte : goal.returns-in-Ok-clause-byte
returns-in-Ok-clause-byte g c one told url before head and ends =
    let none = no_bytes c.args.inbox.now (eqb-true (length c.args.inbox.now) 0 (sym c.is_empty.ensures ∙ c.if-not-is_empty.false)) in
    let P : List ℕ → Type 0 = λ waiting. HasHeadAnd url before (g.L.Links.state c.args.link.now).exchanges waiting head in
    whole_then c.final_heads_are_one_and_stay.ensures.stays url before _ _ head c.refill.new.self (subst P none and) (c.in-Ok.ensures.received told)
    ends (sym c.in-Ok.ensures.count ∙ eqb-true c.in-Ok.count 1 one)

pub returns-in-Ok-clause-answered : goal.returns-in-Ok-clause-answered
returns-in-Ok-clause-answered g c told url others before head and ends few =
    let none = no_bytes c.args.inbox.now (eqb-true (length c.args.inbox.now) 0 (sym c.is_empty.ensures ∙ c.if-not-is_empty.false)) in
    let P : List ℕ → Type 0 = λ waiting. HasHeadAnd url others (g.L.Links.state c.args.link.now).exchanges waiting head in
    answered_received before _ _ c.refill.new.self (top_later before others _ and.has.stream and.has.on_top few) (c.requires told)
    (c.in-Ok.ensures.received told) (comes_due _ c.refill.new.self _ _ c.in-Ok.ensures.count (c.in-Ok.ensures.given told)) (c.refill.ensures.kept told)
    (byte_little url others _ head c.refill.new.self (subst P none and) ends (omega (arith, c.in-Ok.ensures.count, c.in-Ok.ensures.most)))
