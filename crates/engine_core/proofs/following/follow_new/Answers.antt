use Rattle.std.proofs.Common.{◌≡◌, ◌∙◌, ℕ, length, ap, sym, take}
use Rattle.engine_core.specs.Buckets.{all_followed, own_rates}
use Rattle.machine_core.specs.Reads.{downloads_in}
use Rattle.engine_core.proofs.NewRates.{followed_before}
use Rattle.engine_core.proofs.following.follow_new.Goals as goal

pub follow_from-requires-clause-before : goal.follow_from-requires-clause-before
follow_from-requires-clause-before c =
    let m = c.args.machine.now in
    let own = c.args.limits.now.own in
    followed_before m.start m.past c.args.now.0 (downloads_in m) own c.requires.kept c.requires.few
    ∙ ap (λ (n : ℕ). all_followed (take n (own_rates m.start m.past)) c.args.now.0 own) (sym c.len-first.ensures)
