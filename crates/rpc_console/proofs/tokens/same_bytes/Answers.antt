use Rattle.std.proofs.Common.{sym, ap, ◌∙◌, get_or}
use Rattle.std.specs.Prelude.{◌&&◌, nat_eq}
use Rattle.rpc_console.proofs.Comparing.{equal_more}
use Rattle.rpc_console.proofs.tokens.same_bytes.Goals as goal

pub loop-i-preserved : goal.loop-i-preserved
loop-i-preserved c =
    let a = c.args.a.now in
    let b = c.args.b.now in
    let i = c.loop-i.i in
    ap (λ same. same && nat_eq (get_or a i 0) (get_or b i 0)) c.loop-i.invariant ∙ sym (equal_more a b i c.requires c.loop-i-test.true)
