use Rattle.std.proofs.Common.{◌≡◌, ◌∙◌, ◌∷◌, ◌++◌, [], ℕ, List, rules, sym, ap, subst}
use Rattle.std.specs.Str.{IsUtf8}
use Rattle.std.proofs.lemmas.Str.{IsUtf8-append}
use Rattle.rpc_envelope.proofs.batches.item_text.Goals.{then-is_first, else-is_first}
use Rattle.rpc_envelope.proofs.batches.item_text.Goals as goal

behind : (first : ℕ) (text out : List ℕ) → IsUtf8 (first ∷ []) → IsUtf8 text → out ≡ first ∷ text → IsUtf8 out
behind first text out one utf8 is =
    let P : List ℕ → Type 0 = IsUtf8 in
    subst P (sym is) (IsUtf8-append (first ∷ []) text one utf8)

pub returns-clause-utf8 : goal.returns-clause-utf8
returns-clause-utf8 c =
    let text = c.in_ok-to_vec.field-0.items in
    let front = c.in_ok-push.ensures.items ∙ ap (λ (bytes : List ℕ). bytes ++ c.if-is_first.push ∷ []) c.new-text.ensures.items in
    let whole = c.in_ok-extend_from_slice.ensures.items
    ∙ (ap (λ (more : List ℕ). c.push.new.self.items ++ more) c.deref.ensures.value
    ∙ ap (λ (bytes : List ℕ). bytes ++ text) front) in
    elim c.if-is_first.branch [
      | then-is_first w ↦ behind 91 text _ (search rules) c.in_ok-to_vec.ensures.utf8 (whole ∙ ap (λ (b : ℕ). b ∷ text) w.push-is)
      | else-is_first w ↦ behind 44 text _ (search rules) c.in_ok-to_vec.ensures.utf8 (whole ∙ ap (λ (b : ℕ). b ∷ text) w.push-is)
    ]
