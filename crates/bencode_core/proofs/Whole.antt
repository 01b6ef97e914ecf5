-- Reading all of the input gives exactly what the bytes spell.
use Rattle.std.proofs.Common.{◌≡◌, ℕ, ◌^◌, ◌<◌, cond, eqb, List, [], ◌++◌, length, Result, Ok, Err, refl, sym, ◌∙◌, ap, subst, arith}
use Rattle.std.specs.Prelude.{IfOk}
use Rattle.std.proofs.lemmas.Bool.{eqb-true, eq-eqb}
use Rattle.std.proofs.lemmas.List.{append-nil, append_cancel_left, length-append, nil_from_length}
use Rattle.dl_kinds.specs.Answers.{Gives}
use Rattle.bencode_core.specs.Value.{Value, spelling, Spells}
use Rattle.bencode_core.specs.Placed.{Placed}
use Rattle.bencode_core.specs.Reading.{value_at, reading, fault_of}
use Rattle.bencode_core.specs.declared.fault.BenErr.{BenErr}
use Rattle.bencode_core.specs.declared.fault.BenErr.TheVariants.{Trailing}
use Rattle.bencode_core.proofs.Takes.{bind_ok, ok_is, test_ok, Takes, value_takes}
use Rattle.bencode_core.proofs.Again.{value_again}

pub reading_takes : (bytes : List ℕ) (v : Value) → length bytes < 2 ^ 32 → reading bytes ≡ Ok v → Spells v bytes
unfolding reading
reading_takes bytes v fits is =
    let a = bind_ok (value_at 100 0 bytes) (λ w. cond (eqb (length (spelling w)) (length bytes)) (Ok w) (Err (Trailing (length (spelling w))))) v is in
    let t = test_ok (eqb (length (spelling a.0)) (length bytes)) (Trailing (length (spelling a.0))) a.0 v a.2 in
    let taken = value_takes 100 0 bytes a.0 (omega arith) a.1 in
    subst (λ (w : Value). Spells w bytes) t.1 (all a.0 taken (eqb-true (length (spelling a.0)) (length bytes) t.0))
  where
    all : (w : Value) → Takes 100 w bytes → length (spelling w) ≡ length bytes → Spells w bytes
    all w taken len =
        let nothing : taken.rest ≡ [] = nil_from_length taken.rest (omega (arith, ap length taken.spelled, length-append (spelling w) taken.rest)) in
        record {
          is_value = record { sound = taken.sound; depth = taken.deep; short = omega arith };
          spelled = taken.spelled ∙ ap (λ (xs : List ℕ). spelling w ++ xs) nothing ∙ append-nil (spelling w);
        }

pub reading_again : (bytes : List ℕ) (v : Value) → Spells v bytes → reading bytes ≡ Ok v
unfolding reading
reading_again bytes v spells =
    let value = spells.is_value in
    let all : value_at 100 0 bytes ≡ Ok v = rw spells.spelled (ap (value_at 100 0) (sym (append-nil (spelling v))) ∙ value_again v 100 0 [] value.sound value.depth (omega (arith, value.short))) in
    rw (all, eq-eqb (length (spelling v)) (length bytes) (sym (ap length spells.spelled))) refl

pub is_found : (bytes : List ℕ) (r : Result Placed BenErr) → length bytes < 2 ^ 32 → Gives (λ b. b.value) fault_of r (reading bytes) → IfOk r (λ b. Spells b.value bytes)
is_found bytes (Ok b) fits given = reading_takes bytes b.value fits given
is_found bytes (Err e) fits given = tt

-- whatever follows a spelling, one value stands at the front
pub one_at_front : (v w : Value) (a b x y : List ℕ) → Spells v a → Spells w b → a ++ x ≡ b ++ y → (v ≡ w) × (a ≡ b) × (x ≡ y)
one_at_front v w a b x y first second same =
    let spelled : spelling v ++ x ≡ spelling w ++ y = ap (λ (xs : List ℕ). xs ++ x) (sym first.spelled) ∙ same ∙ ap (λ (xs : List ℕ). xs ++ y) second.spelled in
    let read_first = value_again v 100 0 x first.is_value.sound first.is_value.depth (omega (arith, first.is_value.short)) in
    let read_second = value_again w 100 0 y second.is_value.sound second.is_value.depth (omega (arith, second.is_value.short)) in
    let values : v ≡ w = ok_is v w (sym read_first ∙ ap (value_at 100 0) spelled ∙ read_second) in
    let texts : a ≡ b = first.spelled ∙ ap spelling values ∙ sym second.spelled in
    (values, texts, append_cancel_left b x y (ap (λ (xs : List ℕ). xs ++ x) (sym texts) ∙ same))
