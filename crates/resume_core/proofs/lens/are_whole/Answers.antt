use Rattle.std.proofs.Common.{◌≡◌, ◌∙◌, ℕ, List, Option, true, not, length, get_or, Some, None, eqb, eq-eqb, sym, ap, arith, refl}
use Rattle.std.specs.Option.{option_eq}
use Rattle.std.proofs.lemmas.Bool.{false≢true}
use Rattle.std.proofs.lemmas.List.{get_or-map}
use Rattle.std.proofs.lemmas.Option.{same_Some}
use Rattle.span_map.specs.declared.files.FileLen.{FileLen}
use Rattle.resume_core.proofs.Fitted.{lens_whole}
use Rattle.resume_core.proofs.lens.are_whole.Goals as goal

same_len : (o : Option ℕ) (n : ℕ) → o ≡ Some n → option_eq eqb o (Some n) ≡ true
same_len None n is = absurd cc
same_len (Some m) n is = eq-eqb m n (same_Some m n is)

pub returns-then-ne : goal.returns-then-ne
returns-then-ne c =
    let files = c.args.want.now.layout in
    let k = c.loop-index.index in
    let d = c.index-files-index.result in
    let many = ap (λ (l : List FileLen). length l) c.files-files.ensures.value in (
      λ is. absurd (false≢true is),
      λ whole. absurd (false≢true (sym (c.ne.ensures ∙ ap not (same_len _ _
          (ap (λ (l : List (Option ℕ)). get_or l k None) whole
          ∙ get_or-map (λ (file : FileLen). Some file.len) files k d None (omega (arith, c.loop-index-test.true, many))
          ∙ ap (λ (l : List FileLen). Some (get_or l k d).len) (sym c.files-files.ensures.value)))) ∙ c.if-ne.true)),
    )

pub returns : goal.returns
returns c =
    let files = c.args.want.now.layout in (
      λ is. lens_whole files c.args.lens.now c.requires
          (λ j d within.
          c.loop-index.invariant j d (omega (
            arith,
            within,
            c.requires,
            c.loop-index-test.false,
            ap
                (λ (l : List FileLen). length l) c.files-files.ensures.value,
          ))
          ∙ ap (λ (l : List FileLen). Some (get_or l j d).len) c.files-files.ensures.value),
      λ whole. refl,
    )
