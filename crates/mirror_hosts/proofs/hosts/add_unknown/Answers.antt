use Rattle.std.proofs.Common.{◌∙◌, ◌++◌, ◌∷◌, [], List, ℕ, ap, arith}
use Rattle.std.proofs.lemmas.Result.{on_ok_weaker}
use Rattle.mirror_hosts.proofs.Places.{becomes_known, stays_known}
use Rattle.mirror_hosts.proofs.hosts.add_unknown.Goals as goal

pub returns-then-place_of-len : goal.returns-then-place_of-len
returns-then-place_of-len c = stays_known c.args.known.now c.args.host.now
    (omega (arith, c.if-place_of-len.true, c.place_of.ensures, c.len.ensures))

pub returns : goal.returns
returns c = on_ok_weaker c.push.result
    (λ pushed. pushed ∙ ap (λ (h : List ℕ). c.args.known.now ++ h ∷ []) c.in_ok-copy.ensures
    ∙ becomes_known c.args.known.now c.args.host.now
    (omega (arith, c.if-place_of-len.false, c.place_of.ensures, c.len.ensures)))
    c.push.ensures.ok
