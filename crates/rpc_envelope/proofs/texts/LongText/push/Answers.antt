use Rattle.std.proofs.Common.{◌≡◌, ◌∙◌, ◌+◌, ◌++◌, ℕ, List, ap, length, subst, sym, arith}
use Rattle.std.specs.Str.{IsUtf8}
use Rattle.std.proofs.lemmas.List.{length-append}
use Rattle.std.proofs.lemmas.Str.{IsUtf8-append}
use Rattle.rpc_envelope.specs.Texts.{passages_text}
use Rattle.rpc_envelope.proofs.texts.LongText.push.Goals as goal

pub invariant_of-self-2 : goal.invariant_of-self-2
invariant_of-self-2 c =
    let old = passages_text c.self.inside.passages.items in
    let more = c.put_behind.ensures
    ∙ ap (λ passages. passages_text passages ++ c.args.text.items) (c.in_ok-reserve.ensures.items) in
    record {
      long = grind (arith, length-append, c.in-Some.ensures, c.len.ensures, c.self.invariant.long, ap length more);
      utf8 = subst IsUtf8 (sym more) (IsUtf8-append old c.args.text.items c.self.invariant.utf8 c.requires.utf8);
    }
