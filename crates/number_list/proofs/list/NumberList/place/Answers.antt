use Rattle.std.proofs.Common.{◌≡◌, ◌==◌, cond, nat_lt, ℕ, Bool, true, false, length, Some, None, unwrap_or, refl, sym, ◌∙◌, ap, arith}
use borrow.Author.Tests.{ltb-false}
use Rattle.std.specs.Prelude.{position}
use Rattle.number_list.specs.Order.{number_place}
use Rattle.number_list.proofs.Cuts.{place_within}
use Rattle.number_list.proofs.list.NumberList.place.Goals as goal

clamped : (b : Bool) (n len : ℕ) → (b ≡ false → n ≡ len) → unwrap_or (cond b (Some n) None) len ≡ n
clamped true n len past = refl
clamped false n len past = sym (past refl)

pub returns : goal.returns
returns c =
    let order = c.args.self.now.order in
    let place = number_place order c.args.number in
    let found = c.place_among.ensures ∙ ap (position (λ other. c.args.number == other)) c.iter.ensures in
    c.unwrap_or.ensures ∙ ap (λ o. unwrap_or o c.len-count.result) found
    ∙ ap (λ n. unwrap_or (cond (nat_lt place (length order)) (Some place) None) n) c.len-count.ensures
    ∙ clamped (nat_lt place (length order)) place (length order)
    (λ past. let most = place_within order c.args.number in omega (arith, ltb-false place (length order) past, most))
