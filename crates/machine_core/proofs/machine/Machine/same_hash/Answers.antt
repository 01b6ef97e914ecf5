use Rattle.std.proofs.Common.{◌≡◌, ◌∙◌, Some, arith, slice_get, sym}
use Rattle.std.proofs.lemmas.Option.{slice_get_within}
use Rattle.machine_core.specs.Reads.{downloads_in}
use Rattle.machine_core.specs.Starts.{Download}
use Rattle.machine_core.proofs.Here.{if_none, sees}
use Rattle.machine_core.proofs.Twins.{no_hash, no_twin, placed, stands, twin_at}
use Rattle.machine_core.proofs.machine.Machine.same_hash.Goals as goal

pub returns-in_err-hash-clause-none : goal.returns-in_err-hash-clause-none
returns-in_err-hash-clause-none c =
    let seen = sees _ c.args.self.now c.self.invariant c.self.view_is in
    let h = placed _ c.args.self.now c.args.gid c.place.result c.in_ok-place.place seen c.place.ensures.found c.in_ok-place.was in
    if_none c.from_residual-in_err-hash.result _
    (no_hash _ c.args.self.now c.args.gid c.in_ok-place.place h.0 c.hash_at.result seen h.1 c.hash_at.ensures c.in_err-hash.was)

pub returns-then-has_hash_at-clause-found : goal.returns-then-has_hash_at-clause-found
returns-then-has_hash_at-clause-found c =
    let seen = sees _ c.args.self.now c.self.invariant c.self.view_is in
    let h = placed _ c.args.self.now c.args.gid c.place.result c.in_ok-place.place seen c.place.ensures.found c.in_ok-place.was in
    let own = λ (d : Download) (added : slice_get (downloads_in c.args.self.now) c.in_ok-place.place ≡ Some d).
    sym c.in_ok-hash.was ∙ c.hash_at.ensures d added in
    let t = c.if-has_hash_at.ensures in
    let below = slice_get_within (downloads_in c.args.self.now) c.loop-at.at t.download t.added in
    twin_at _ c.args.self.now c.args.gid c.in_ok-place.place c.loop-at.at h.0 c.index.result.now c.in_ok-hash.hash seen h.1 own
    (stands _ c.args.self.now c.loop-at.at c.index.result.now seen below c.index.ensures) t

pub returns-clause-none : goal.returns-clause-none
returns-clause-none c =
    let seen = sees _ c.args.self.now c.self.invariant c.self.view_is in
    let h = placed _ c.args.self.now c.args.gid c.place.result c.in_ok-place.place seen c.place.ensures.found c.in_ok-place.was in
    let own = λ (d : Download) (added : slice_get (downloads_in c.args.self.now) c.in_ok-place.place ≡ Some d).
    sym c.in_ok-hash.was ∙ c.hash_at.ensures d added in
    no_twin _ c.args.self.now c.args.gid c.in_ok-place.place c.loop-at.at h.0 c.in_ok-hash.hash seen h.1 own
    (let past = c.loop-at-test.false in let end = c.loop-at.auto in omega (arith, c.len-at-end.ensures, c.self.inside.entries.ok.0))
    c.loop-at.invariant
