use Rattle.std.proofs.Common.{◌≡◌, ◌-◌, ◌≤◌, length, take, drop, ap, sym, ◌∙◌, arith, length-take-le}
use Rattle.door_source.proofs.Giving.{given_more}
use Rattle.door_source.proofs.sessions.MemSession.give.Goals as goal

pub returns-clause-given : goal.returns-clause-given
returns-clause-given c =
    let n = c.min-count.result in
    let whole = c.self.inside.whole in
    let given = c.self.inside.given in
    let rest = drop n c.args.into.now in
    let came_is = c.copy_from_slice.ensures.after ∙ ap (λ bytes. take n (take (length bytes - given) (drop given bytes))) c.bytes.ensures in
    let fits : n ≤ length c.args.into.now = omega (arith, c.min.ensures, c.min-count.ensures) in
    let len : length c.copy_from_slice.new.self ≡ n = c.copy_from_slice.ensures.len ∙ length-take-le n c.args.into.now fits in
    rw (sym c.self.view_is) (ap (λ received. record { received = received; sent = c.self.inside.sent.items; whole = whole })
    (given_more whole c.copy_from_slice.new.self rest given n came_is len))
