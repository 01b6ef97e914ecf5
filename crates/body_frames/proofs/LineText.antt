-- The text of a line, as bytes come.
use Rattle.std.proofs.Common.{◌≡◌, ℕ, ◌+◌, ◌≤◌, ◌==◌, ◌&&◌, Bool, true, false, not, cond, List, [], ◌∷◌, ◌++◌, length, refl, sym, ap, ◌∙◌, arith, append-nil, append_assoc, length-append}
use Rattle.std.proofs.lemmas.Bool.{eqb-true}
use mir.Val.{bool_byte}
use Rattle.body_frames.specs.Lines.{line_text}
use Rattle.body_frames.specs.Open.{last_cr}

not_last : (x y : ℕ) (r : List ℕ) (cr : Bool) → x ∷ y ∷ r ≡ [] ++ last_cr cr → ⊥
not_last x y r true e = omega (arith, ap length e)
not_last x y r false e = omega (arith, ap length e)

-- a line that ended stays as it is
pub line_text-append_ended : (a b : List ℕ) → length (line_text a) + 2 ≤ length a → line_text (a ++ b) ≡ line_text a
unfolding line_text
line_text-append_ended [] b h = absurd (omega arith)
line_text-append_ended (x ∷ []) b h = absurd (omega arith)
line_text-append_ended (x ∷ y ∷ r) b h =
    elim (x == 13 && y == 10) as (λ v. length (cond v [] (x ∷ line_text (y ∷ r))) + 2 ≤ length (x ∷ y ∷ r) → cond v [] (x ∷ line_text (y ∷ (r ++ b))) ≡ cond v [] (x ∷ line_text (y ∷ r))) [
      | true ↦ λ _. refl
      | false ↦ λ h. ap (λ t. x ∷ t) (line_text-append_ended (y ∷ r) b (omega arith))
    ] h

-- what stands in a line stays in it
pub line_text-append : (a b : List ℕ) → (more : List ℕ) × (line_text (a ++ b) ≡ line_text a ++ more)
unfolding line_text
line_text-append [] b = (line_text b, refl)
line_text-append (x ∷ []) [] = ([], sym (append-nil _))
line_text-append (x ∷ []) (y ∷ b) =
    elim (x == 13) as (λ v. (more : List ℕ) × (cond (v && y == 10) [] (x ∷ line_text (y ∷ b)) ≡ cond v [] (x ∷ []) ++ more)) [
      | true ↦ (cond (y == 10) [] (x ∷ line_text (y ∷ b)), refl)
      | false ↦ (line_text (y ∷ b), refl)
    ]
line_text-append (x ∷ y ∷ r) b =
    elim (x == 13 && y == 10) as (λ v. (more : List ℕ) × (cond v [] (x ∷ line_text (y ∷ (r ++ b))) ≡ cond v [] (x ∷ line_text (y ∷ r)) ++ more)) [
      | true ↦ ([], refl)
      | false ↦ let next = line_text-append (y ∷ r) b in (next.0, ap (λ t. x ∷ t) next.1)
    ]

-- what a byte adds to the text of a line that hasn't ended
abbrev pub added : Bool → ℕ → List ℕ
added true byte = cond (byte == 10) [] (13 ∷ cond (byte == 13) [] (byte ∷ []))
added false byte = cond (byte == 13) [] (byte ∷ [])

pub line_text_push : (came : List ℕ) (cr : Bool) (byte : ℕ) → came ≡ line_text came ++ last_cr cr → line_text (came ++ byte ∷ []) ≡ line_text came ++ added cr byte
unfolding line_text
line_text_push [] true byte h = absurd (omega (arith, ap length h))
line_text_push [] false byte h = refl
line_text_push (x ∷ []) true byte h =
    elim (x == 13) as (λ v. (x ∷ []) ≡ cond v [] (x ∷ []) ++ 13 ∷ [] → cond (v && byte == 10) [] (x ∷ cond (byte == 13) [] (byte ∷ [])) ≡ cond v [] (x ∷ []) ++ added true byte) [
      | true ↦ λ e. cc
      | false ↦ λ e. absurd (omega (arith, ap length e))
    ] h
line_text_push (x ∷ []) false byte h =
    elim (x == 13) as (λ v. (x ∷ []) ≡ cond v [] (x ∷ []) ++ [] → cond (v && byte == 10) [] (x ∷ cond (byte == 13) [] (byte ∷ [])) ≡ cond v [] (x ∷ []) ++ added false byte) [
      | true ↦ λ e. absurd (omega (arith, ap length e))
      | false ↦ λ e. refl
    ] h
line_text_push (x ∷ y ∷ r) cr byte h =
    elim (x == 13 && y == 10) as (λ v. (x ∷ y ∷ r) ≡ cond v [] (x ∷ line_text (y ∷ r)) ++ last_cr cr → cond v [] (x ∷ line_text (y ∷ (r ++ byte ∷ []))) ≡ cond v [] (x ∷ line_text (y ∷ r)) ++ added cr byte) [
      | true ↦ λ e. absurd (not_last x y r cr e)
      | false ↦ λ e. ap (λ t. x ∷ t) (line_text_push (y ∷ r) cr byte cc)
    ] h

-- a line that came to its end
pub ends : (came : List ℕ) → came ≡ line_text came ++ 13 ∷ [] → (line_text (came ++ 10 ∷ []) ≡ line_text came) × (length (came ++ 10 ∷ []) ≡ length (line_text came) + 2)
ends came h = (line_text_push came true 10 h ∙ append-nil _, omega (arith, ap length h, length-append (line_text came) (13 ∷ []), length-append came (10 ∷ [])))

regroup : (text : List ℕ) (cr is_cr : Bool) (byte : ℕ) → (is_cr ≡ true → byte ≡ 13) → (text ++ last_cr cr) ++ byte ∷ [] ≡ (text ++ (last_cr cr ++ cond is_cr [] (byte ∷ []))) ++ last_cr is_cr
regroup text true true byte h = rw (h refl) (simp append_assoc)
regroup text false true byte h = rw (h refl) (simp append_assoc)
regroup text true false byte h = simp (append_assoc, append-nil)
regroup text false false byte h = simp (append_assoc, append-nil)

added_is : (cr : Bool) (byte : ℕ) → (cr && byte == 10) ≡ false → added cr byte ≡ last_cr cr ++ cond (byte == 13) [] (byte ∷ [])
added_is true byte h = rw h refl
added_is false byte h = refl

length_added : (cr is_cr : Bool) (byte : ℕ) → length (last_cr cr ++ cond is_cr [] (byte ∷ [])) ≡ bool_byte cr + bool_byte (not is_cr)
length_added true true byte = refl
length_added true false byte = refl
length_added false true byte = refl
length_added false false byte = refl

-- what a byte makes of a line that doesn't end with it
pub record Pushed (came : List ℕ) (cr : Bool) (byte : ℕ) : Type 0 where
  pub text : line_text (came ++ byte ∷ []) ≡ line_text came ++ (last_cr cr ++ cond (byte == 13) [] (byte ∷ []))
  pub len : length (line_text (came ++ byte ∷ [])) ≡ length (line_text came) + bool_byte cr + bool_byte (not (byte == 13))
  pub all : came ++ byte ∷ [] ≡ line_text (came ++ byte ∷ []) ++ last_cr (byte == 13)

pub pushed : (came : List ℕ) (cr : Bool) (byte : ℕ) → came ≡ line_text came ++ last_cr cr → (cr && byte == 10) ≡ false → Pushed came cr byte
pushed came cr byte h stays =
    let text : line_text (came ++ byte ∷ []) ≡ line_text came ++ (last_cr cr ++ cond (byte == 13) [] (byte ∷ [])) = line_text_push came cr byte h ∙ ap (λ t. line_text came ++ t) (added_is cr byte stays) in
    record {
      text = text;
      len = ap length text ∙ (length-append _ _ ∙ (ap (λ n. length (line_text came) + n) (length_added cr (byte == 13) byte) ∙ omega arith));
      all = ap (λ t. t ++ byte ∷ []) h ∙ (regroup (line_text came) cr (byte == 13) byte (eqb-true byte 13) ∙ ap (λ t. t ++ last_cr (byte == 13)) (sym text));
    }
