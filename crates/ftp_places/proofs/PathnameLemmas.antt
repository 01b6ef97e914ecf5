-- The test of a path that a command can name.
use Rattle.std.proofs.Common.{◌≡◌, ℕ, true, false, cond, List, Some, None, IsUtf8, sym, ◌∙◌}
use Rattle.std.specs.Str.{is_utf8}
use Rattle.std.proofs.lemmas.Bool.{cond-true, cond-false, false_from_ne_true, and_from, and_parts, false≢true}
use Rattle.std.proofs.lemmas.Str.{IsUtf8-from_is_utf8, is_utf8-from_IsUtf8}
use Rattle.ftp_places.specs.Pathnames.{is_word, is_pathname}

pub text_of_word : (path : List ℕ) → IsUtf8 path → is_word path ≡ true → cond (is_pathname path) (Some path) None ≡ Some path
text_of_word path text word = cond-true (is_pathname path) (Some path) None (and_from _ _ (is_utf8-from_IsUtf8 path text) word)

pub no_word : (path : List ℕ) → is_word path ≡ false → cond (is_pathname path) (Some path) None ≡ None
no_word path none = cond-false (is_pathname path) (Some path) None
    (false_from_ne_true (is_pathname path) (λ is. false≢true (sym none ∙ (and_parts (is_utf8 path) (is_word path) is).1)))

pub no_text : (path : List ℕ) → (IsUtf8 path → ⊥) → cond (is_pathname path) (Some path) None ≡ None
no_text path none = cond-false (is_pathname path) (Some path) None
    (false_from_ne_true (is_pathname path) (λ is. none (IsUtf8-from_is_utf8 path (and_parts _ _ is).0)))
