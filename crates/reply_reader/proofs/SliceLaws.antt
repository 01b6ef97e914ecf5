-- A slice as its stream goes on.
use Rattle.std.proofs.Common.{◌≡◌, ℕ, ◌+◌, ◌-◌, ◌==◌, true, List, [], ◌++◌, length, take, drop, refl, sym, ap, ◌∙◌, inl, inr, arith, append-nil, length-append}
use Rattle.std.proofs.lemmas.Bool.{cases_lt, and_parts, eqb-true}
use Rattle.std.proofs.lemmas.List.{take_all, drop_all, drop-append-le, take-append-le, length-take, nil_from_length}
use Rattle.std.proofs.Math.Seq.{take-append-add}
use Rattle.std.specs.Prelude.{not, ◌&&◌}
use Rattle.body_frames.specs.Lines.{Standing, Whole, Short, Wrong}
use Rattle.body_frames.specs.Bodies.{Framing, Length, Chunked, ToEnd, StreamBody, body_of, content_of, standing_of, IsOver, IsWrong}
use Rattle.body_frames.specs.declared.BodyErr.{BodyErr}
use Rattle.reply_reader.specs.Slices.{Slice, came_of, has_come, is_wrong, is_whole, is_to_end, IsSliceWrong, IsSliceOver, GoesOn}

-- the bytes that came stay, where more of the content comes
slice_grows : (len skip : ℕ) (content more : List ℕ)
    → (added : List ℕ) × (take len (drop skip (content ++ more)) ≡ take len (drop skip content) ++ added)
slice_grows len skip content more = elim (cases_lt (length content) skip) [
  | inl before ↦ (
    take len (drop skip (content ++ more)),
    ap (λ bytes. bytes ++ take len (drop skip (content ++ more)))
        (sym (take_all len [] (omega arith)) ∙ sym (ap (take len) (drop_all skip content (omega (arith, before))))),
  )
  | inr behind ↦
      let rest = drop skip content in
      let next : take len (drop skip (content ++ more)) ≡ take len (rest ++ more) = ap (take len) (drop-append-le skip content more behind) in
      elim (cases_lt (length rest) len) [
        | inl due ↦
            let left = len - length rest in
            let whole : len ≡ length rest + left = omega (arith, due) in
            (take left more, next ∙ ap (λ n. take n (rest ++ more)) whole ∙ take-append-add rest more left ∙ ap (λ bytes. bytes ++ take left more) (sym (take_all len rest (omega (arith, due)))))
        | inr enough ↦ ([], next ∙ take-append-le len rest more enough ∙ sym (append-nil (take len rest)))
      ]
]

-- no more comes once all came
all_came : (len : ℕ) (content came added : List ℕ) → length came ≡ len → take len content ≡ came ++ added → take len content ≡ came
all_came len content came added all is =
    is ∙ ap (λ bytes. came ++ bytes) (nil_from_length added (omega (arith, all, ap length is, length-append came added, length-take len content))) ∙ append-nil came

wrong_standing : (standing : Standing) → is_wrong standing ≡ true → (error : BodyErr) × (standing ≡ Wrong error)
wrong_standing (Wrong error) is = (error, refl)
wrong_standing Whole is = cc
wrong_standing Short is = cc

whole_standing : (standing : Standing) → is_whole standing ≡ true → standing ≡ Whole
whole_standing Whole is = refl
whole_standing Short is = cc
whole_standing (Wrong error) is = cc

ended_framing : (framing : Framing) → not (is_to_end framing) ≡ true → framing ≡ ToEnd → ⊥
ended_framing (Length len) is = λ e. cc
ended_framing Chunked is = λ e. cc
ended_framing ToEnd is = λ e. cc

module _
    (content : (framing : Framing) (a b : List ℕ) → (added : List ℕ) × (content_of framing (a ++ b) ≡ content_of framing a ++ added))
    (over : (framing : Framing) (a b : List ℕ) → IsOver framing a
    → body_of framing (a ++ b) ≡ record { content = content_of framing a; rest = (body_of framing a).rest ++ b; standing = Whole })
    (wrong : (framing : Framing) (a b : List ℕ) → IsWrong framing a → body_of framing (a ++ b) ≡ body_of framing a)
  where
    module _ (slice : Slice) (stream more : List ℕ) where
      grows : (added : List ℕ) × (came_of slice (stream ++ more) ≡ came_of slice stream ++ added)
      grows =
          let gained = content slice.framing stream more in
          let is = slice_grows slice.len slice.skip (content_of slice.framing stream) gained.0 in
          (is.0, ap (λ bytes. take slice.len (drop slice.skip bytes)) gained.1 ∙ is.1)

      come : has_come slice stream ≡ true → came_of slice (stream ++ more) ≡ came_of slice stream
      come is = all_came slice.len (drop slice.skip (content_of slice.framing (stream ++ more))) (came_of slice stream) grows.0 (eqb-true _ _ is) grows.1

      still_come : has_come slice stream ≡ true → has_come slice (stream ++ more) ≡ true
      still_come is = ap (λ bytes. length bytes == slice.len) (come is) ∙ is

      same_body : IsSliceWrong slice stream → body_of slice.framing (stream ++ more) ≡ body_of slice.framing stream
      same_body is = wrong slice.framing stream more (wrong_standing (standing_of slice.framing stream) is.wrong)

      ended_body : IsSliceOver slice stream → body_of slice.framing (stream ++ more)
          ≡ record { content = content_of slice.framing stream; rest = (body_of slice.framing stream).rest ++ more; standing = Whole }
      ended_body is =
          let both = and_parts (is_whole (standing_of slice.framing stream)) (not (is_to_end slice.framing)) is.over in
          over slice.framing stream more (whole_standing (standing_of slice.framing stream) both.0, ended_framing slice.framing both.1)

      same_came : (body : StreamBody) → body_of slice.framing (stream ++ more) ≡ body → body.content ≡ content_of slice.framing stream
          → came_of slice (stream ++ more) ≡ came_of slice stream
      same_came body is same = ap (λ bytes. take slice.len (drop slice.skip bytes)) (ap (λ (b : StreamBody). b.content) is ∙ same)

      pub goes_on : GoesOn slice stream more
      goes_on = record {
        grows = grows;
        come = come;
        still_come = still_come;
        wrong = λ is. same_came (body_of slice.framing stream) (same_body is) refl;
        still_wrong = λ is. record {
          not_come = ap (λ bytes. length bytes == slice.len) (same_came (body_of slice.framing stream) (same_body is) refl) ∙ is.not_come;
          wrong = ap (λ (body : StreamBody). is_wrong body.standing) (same_body is) ∙ is.wrong;
        };
        over = λ is. same_came _ (ended_body is) refl;
        still_over = λ is. record {
          not_come = ap (λ bytes. length bytes == slice.len) (same_came _ (ended_body is) refl) ∙ is.not_come;
          right = ap (λ (body : StreamBody). is_wrong body.standing) (ended_body is);
          over = ap (λ (body : StreamBody). is_whole body.standing && not (is_to_end slice.framing)) (ended_body is) ∙ (and_parts (is_whole (standing_of slice.framing stream)) (not (is_to_end slice.framing)) is.over).1;
        };
      }
