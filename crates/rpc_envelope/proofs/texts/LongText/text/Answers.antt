use Rattle.std.proofs.Common.{◌∙◌, Result, Ok, Err, ap, sym, subst, refl}
use Rattle.std.specs.Result.{IsOk, MatchResult}
use Rattle.std.specs.Str.{IsUtf8}
use Rattle.rpc_envelope.specs.Texts.{passages_text}
use Rattle.rpc_envelope.proofs.texts.LongText.text.Goals as goal

ok_unless : {T E : Type 0} (r : Result T E) (P : T → Type 0) (Q : E → Type 0) → MatchResult r P Q
    → ((e : E) → Q e → ⊥) → IsOk r
ok_unless (Ok value) P Q is never = refl
ok_unless (Err e) P Q is never = absurd (never e is)

pub unwrap-text-requires : goal.unwrap-text-requires
unwrap-text-requires c =
    let is = c.deref-2.ensures.value ∙ (c.in_ok-bytes.ensures ∙ ap passages_text c.deref.ensures.value) in
    let utf8 = subst IsUtf8 (sym is) c.self.invariant.utf8 in
    ok_unless c.from_utf8.result _ _ c.from_utf8.ensures.cases (λ e no. no.0 utf8)
