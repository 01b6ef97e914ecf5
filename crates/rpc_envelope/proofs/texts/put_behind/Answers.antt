use Rattle.std.proofs.Common.{◌+◌, ap, sym, ◌∙◌, ◌++◌, refl}
use Rattle.std.specs.Cmp.Lexicographic.{same_text}
use Rattle.rpc_envelope.specs.Texts.{passages_text}
use Rattle.rpc_envelope.proofs.TextLemmas.{times_more}
use Rattle.rpc_envelope.proofs.texts.put_behind.Goals as goal

pub returns-then-eq : goal.returns-then-eq
returns-then-eq c =
    let last = c.in-Some.last in
    let same = same_text last.text.items c.args.text.items c.if-eq.ensures in
    let was = c.in-Some.ensures.items in
    ap passages_text c.push_reserved-then-eq.ensures.items
    ∙ (times_more c.pop.new.self.items last (record { text = c.args.text; times = last.times + 1 }) refl same
    ∙ ap (λ l. passages_text l ++ c.args.text.items) (sym was))
