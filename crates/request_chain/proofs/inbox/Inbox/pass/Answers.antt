use Rattle.std.proofs.Common.{◌≤◌, drop, length, sym, ap, subst, ◌∙◌, arith, List, ℕ}
use Rattle.request_chain.proofs.InboxLemmas.{range_later}
use Rattle.request_chain.proofs.inbox.Inbox.pass.Goals as goal

pub returns : goal.returns
returns c =
    let inside = c.self.inside in
    let within = c.self.invariant.1 in
    let long = c.self.invariant.2 in
    let few = subst (λ (bytes : List ℕ). c.args.count ≤ length bytes) (sym c.self.view_is) c.requires in
    range_later inside.block.items inside.start inside.end c.args.count c.self.invariant.0 (omega (arith, within, long)) few
    ∙ ap (drop c.args.count) c.self.view_is
