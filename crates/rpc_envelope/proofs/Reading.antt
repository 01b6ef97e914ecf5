-- What bytes read as.
use Rattle.std.proofs.Common.{◌≡◌, ◌↔◌, ℕ, List, Bool, true, false, IsTrue, IsUtf8, Some, None, sym, ◌∙◌, true≢false, if◌then◌else◌, refl}
use Rattle.std.specs.Str.{is_utf8}
use Rattle.std.proofs.lemmas.Str.{IsUtf8-from_is_utf8, is_utf8-from_IsUtf8}
use Rattle.serde_json.specs.Data.{Data}
use Rattle.serde_json.specs.Read.{read}
use Rattle.rpc_envelope.specs.Answers.{read_bytes}

pub read_some : (b : List ℕ) (d : Data) → IsUtf8 b → read b ≡ Some d → Some d ≡ read_bytes b
read_some b d u e = rw (is_utf8-from_IsUtf8 b u) (sym e)

none_at : (v : Bool) (b : List ℕ) → (v ≡ true → read b ≡ None) → None ≡ (if v then read b else None)
none_at true b h = sym (h refl)
none_at false b h = refl

pub read_none : (b : List ℕ) → (IsUtf8 b → read b ≡ None) → None ≡ read_bytes b
read_none b h = none_at (is_utf8 b) b (λ e. h (IsUtf8-from_is_utf8 b e))

pub is_not : (b : Bool) (A : Type 0) → IsTrue b ↔ A → b ≡ false → A → ⊥
is_not b A h e a = true≢false (sym (h.1 a) ∙ e)
