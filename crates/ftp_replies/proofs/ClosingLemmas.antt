-- Lines up to one that begins with a closing.
use Rattle.std.proofs.Common.{◌≡◌, ℕ, ◌+◌, ◌-◌, ◌*◌, ◌<◌, ◌≤◌, ◌⊎◌, inl, inr, List, [], ◌∷◌, ◌++◌, length, take, drop, arith, ap, sym, ◌∙◌, refl, subst, append-nil, append_assoc, length-append, length-drop, length-take-le}
use Rattle.std.proofs.lemmas.Bool.{cases_lt, cases_eq}
use Rattle.std.proofs.lemmas.List.{append_cancel_left, take-append-drop, take_all}
use Rattle.std.proofs.lemmas.List.Elements.{All-nil, All-cons, All-head, All-tail}
use Rattle.std.proofs.Math.Seq.{take-add}
use Rattle.std.specs.Prelude.{All}
use Rattle.std.specs.List.{concat}
use Rattle.ftp_replies.specs.Fronts.{BeginsWithText, StandsInFront, IsDue, HasNone}
use Rattle.ftp_replies.specs.Lines.{line_end, IsReplyLine}
use Rattle.ftp_replies.specs.Closings.{MayClose, ClosesBehind}
use Rattle.ftp_replies.proofs.FrontLemmas.{goes_on, none_from_fits, fits_from_none, longer_than}
use Rattle.ftp_replies.proofs.LineLemmas.{same_line}

-- a line that ends a reply
pub closes_last : (closing : List ℕ) (lines : ℕ) (line : List ℕ) → lines < 64 → IsReplyLine line → BeginsWithText closing line
    → ClosesBehind closing lines line
closes_last closing lines line few is begins = record {
  front = [];
  last = line;
  is = sym (append-nil line);
  lines_are = All-cons IsReplyLine line [] is (All-nil IsReplyLine);
  few = omega (arith, few);
  between = All-nil _;
  closes = begins;
}

-- a line before the others
pub closes_more : (closing : List ℕ) (lines : ℕ) (line bytes : List ℕ) → IsReplyLine line → (BeginsWithText closing line → ⊥)
    → ClosesBehind closing (lines + 1) bytes → ClosesBehind closing lines (line ++ bytes)
closes_more closing lines line bytes is not c =
    let few = c.few in
    record {
      front = line ∷ c.front;
      last = c.last;
      is = ap (λ l. line ++ l) c.is;
      lines_are = All-cons IsReplyLine line _ is c.lines_are;
      few = omega (arith, few);
      between = All-cons (λ l. BeginsWithText closing l → ⊥) line c.front not c.between;
      closes = c.closes;
    }

-- the first line, and what stands behind it
pub record FirstLine (closing : List ℕ) (lines : ℕ) (bytes : List ℕ) : Type 0 where
  pub line : List ℕ
  pub rest : List ℕ
  pub is : bytes ≡ line ++ rest
  pub line_is : IsReplyLine line
  pub cases : (BeginsWithText closing line × (rest ≡ [])) ⊎
      ((BeginsWithText closing line → ⊥) × ClosesBehind closing (lines + 1) rest)

first_of : (closing : List ℕ) (lines : ℕ) (bytes : List ℕ) (front : List (List ℕ)) (last : List ℕ)
    → bytes ≡ concat (front ++ last ∷ [])
    → All IsReplyLine (front ++ last ∷ []) → lines + length front < 64 → All (λ line. BeginsWithText closing line → ⊥) front
    → BeginsWithText closing last
    → FirstLine closing lines bytes
first_of closing lines bytes [] last is are few between closes = record {
  line = last;
  rest = [];
  is = is;
  line_is = All-head IsReplyLine last [] are;
  cases = inl (closes, refl);
}
first_of closing lines bytes (line ∷ front) last is are few between closes = record {
  line = line;
  rest = concat (front ++ last ∷ []);
  is = is;
  line_is = All-head IsReplyLine line (front ++ last ∷ []) are;
  cases = inr (
    All-head (λ l. BeginsWithText closing l → ⊥) line front between,
    record {
      front = front;
      last = last;
      is = refl;
      lines_are = All-tail IsReplyLine line (front ++ last ∷ []) are;
      few = omega (arith, few);
      between = All-tail (λ l. BeginsWithText closing l → ⊥) line front between;
      closes = closes;
    },
  );
}

pub first_line : (closing : List ℕ) (lines : ℕ) (bytes : List ℕ) → ClosesBehind closing lines bytes
    → FirstLine closing lines bytes
first_line closing lines bytes c = first_of closing lines bytes c.front c.last c.is c.lines_are c.few c.between c.closes

-- the first line of bytes that begin with the same line
pub first_is : (closing : List ℕ) (lines : ℕ) (bytes more line behind : List ℕ) (f : FirstLine closing lines bytes)
    → bytes ++ more ≡ line ++ behind → IsReplyLine line → f.line ≡ line
first_is closing lines bytes more line behind f same is =
    same_line f.line line (f.rest ++ more) behind f.line_is is
    (sym (append_assoc f.line f.rest more) ∙ (ap (λ l. l ++ more) (sym f.is) ∙ same))

-- ---- lines that were passed over

pub record Passed (closing passed : List ℕ) (lines : ℕ) : Type 0 where
  pub goes : (tail : List ℕ) → ClosesBehind closing lines tail → ClosesBehind closing 0 (passed ++ tail)
  pub comes : (whole more behind : List ℕ) → ClosesBehind closing 0 whole → whole ++ more ≡ passed ++ behind
      → (tail : List ℕ) × (whole ≡ passed ++ tail) × ClosesBehind closing lines tail

pub passed_none : (closing : List ℕ) → Passed closing [] 0
passed_none closing = record { goes = λ tail c. c; comes = λ whole more behind c same. (whole, refl, c) }

-- what fits behind the lines
pub rest_fits : (passed whole tail more behind : List ℕ) → whole ≡ passed ++ tail → whole ++ more ≡ passed ++ behind
    → tail ++ more ≡ behind
rest_fits passed whole tail more behind is same =
    append_cancel_left passed (tail ++ more) behind
    (sym (append_assoc passed tail more) ∙ (ap (λ l. l ++ more) (sym is) ∙ same))

pub passed_more : (closing passed line : List ℕ) (lines : ℕ) → Passed closing passed lines → IsReplyLine line
    → (BeginsWithText closing line → ⊥)
    → Passed closing (passed ++ line) (lines + 1)
passed_more closing passed line lines p is not = record {
  goes = λ tail c.
      subst (ClosesBehind closing 0) (sym (append_assoc passed line tail))
      (p.goes (line ++ tail) (closes_more closing lines line tail is not c));
  comes = λ whole more behind c same.
      let whole_same : whole ++ more ≡ passed ++ (line ++ behind) = same ∙ append_assoc passed line behind in
      let come = p.comes whole more (line ++ behind) c whole_same in
      let tail : List ℕ = come.0 in
      let f : FirstLine closing lines tail = first_line closing lines tail come.2 in
      let line_is : f.line ≡ line = first_is closing lines tail more line behind f
      (rest_fits passed whole tail more (line ++ behind) come.1 whole_same) is in
      elim f.cases [
        | inl ends ↦ absurd (not (subst (BeginsWithText closing) line_is ends.0))
        | inr goes ↦ (
          f.rest,
          come.1 ∙
              (ap (λ l. passed ++ l) (f.is ∙ ap (λ l. l ++ f.rest) line_is) ∙ sym (append_assoc passed line f.rest)),
          goes.1,
        )
      ];
}

-- ---- what stands behind the lines tells what stands at the front

module _ (closing bytes : List ℕ) (used lines : ℕ) (p : Passed closing (take used bytes) lines) where
  pub tell_whole : (len : ℕ) → used ≤ length bytes → len ≤ length (drop used bytes)
      → ClosesBehind closing lines (take len (drop used bytes))
      → ClosesBehind closing 0 (take (used + len) bytes)
  tell_whole len within fits c = subst (ClosesBehind closing 0) (sym (take-add used len bytes))
      (p.goes (take len (drop used bytes)) c)

  whole_fits : (one more behind : List ℕ) → ClosesBehind closing 0 one → one ++ more ≡ bytes ++ behind
      → (tail : List ℕ) × (one ≡ take used bytes ++ tail) × ClosesBehind closing lines tail ×
      (tail ++ more ≡ drop used bytes ++ behind)
  whole_fits one more behind c same =
      let split : one ++ more ≡ take used bytes ++ (drop used bytes ++ behind) =
      same ∙
      (ap (λ l. l ++ behind) (sym (take-append-drop used bytes))
      ∙ append_assoc (take used bytes) (drop used bytes) behind) in
      let come = p.comes one more (drop used bytes ++ behind) c split in
      (come.0, come.1, come.2, rest_fits (take used bytes) one come.0 more (drop used bytes ++ behind) come.1 split)

  pub tell_none : HasNone (ClosesBehind closing lines) (drop used bytes) → HasNone (ClosesBehind closing 0) bytes
  tell_none none = none_from_fits (ClosesBehind closing 0) bytes λ one more behind c same.
      let w = whole_fits one more behind c same in
      fits_from_none (ClosesBehind closing lines) (drop used bytes) none w.0 more behind w.2 w.3

  pub tell_due : IsDue (ClosesBehind closing lines) (drop used bytes) → IsDue (ClosesBehind closing 0) bytes
  tell_due due = (
    λ n begun.
        let w = whole_fits (take n bytes) (drop n bytes) [] begun.1
        (take-append-drop n bytes ∙ sym (append-nil bytes)) in
        let longer = longer_than (ClosesBehind closing lines) (drop used bytes) due.0 w.0 (drop n bytes) [] w.2 w.3 in
        absurd
        (omega
        (arith, longer, ap length w.3, length-append w.0 (drop n bytes), length-append (drop used bytes) [])),
    (
      due.1.0,
      subst (ClosesBehind closing 0)
          (sym (append_assoc (take used bytes) (drop used bytes) due.1.0)
          ∙ ap (λ l. l ++ due.1.0) (take-append-drop used bytes))
          (p.goes (drop used bytes ++ due.1.0) due.1.1),
    ),
  )

-- the bytes begin with the text, or don't
begins_or : (text bytes : List ℕ) → BeginsWithText text bytes ⊎ (BeginsWithText text bytes → ⊥)
begins_or [] bytes = inl (bytes, refl)
begins_or (t ∷ text) [] = inr (λ begins. absurd (omega (arith, ap length begins.1)))
begins_or (t ∷ text) (b ∷ bytes) = elim (cases_eq b t) [
  | inl same ↦ elim (begins_or text bytes) [
    | inl begins ↦ let rest = begins.1 in inl (begins.0, cc)
    | inr not ↦ inr (λ begins. let is = begins.1 in not (begins.0, cc))
  ]
  | inr differ ↦ inr (λ begins. let is = begins.1 in differ cc)
]

-- ---- what the line at the front tells

module _ (closing : List ℕ) (lines : ℕ) (rest : List ℕ) where
  pub none_line : HasNone IsReplyLine rest → HasNone (ClosesBehind closing lines) rest
  none_line none = none_from_fits (ClosesBehind closing lines) rest λ one more behind c same.
      let f = first_line closing lines one c in
      fits_from_none IsReplyLine rest none f.line (f.rest ++ more) behind f.line_is
      (sym (append_assoc f.line f.rest more) ∙ (ap (λ l. l ++ more) (sym f.is) ∙ same))

  -- where no line has come, no lines have
  no_lines : ((used : ℕ) → StandsInFront IsReplyLine rest used → ⊥) → (used : ℕ) → StandsInFront (ClosesBehind closing lines) rest used → ⊥
  no_lines none used begun =
      let f = first_line closing lines (take used rest) begun.1 in
      let same : f.line ++ (f.rest ++ drop used rest) ≡ rest ++ [] =
      sym (append_assoc f.line f.rest (drop used rest))
      ∙ (ap (λ l. l ++ drop used rest) (sym f.is) ∙ (take-append-drop used rest ∙ sym (append-nil rest))) in
      let longer = longer_than IsReplyLine rest none f.line (f.rest ++ drop used rest) [] f.line_is same in
      absurd
      (omega
      (arith, longer, ap length same, length-append f.line (f.rest ++ drop used rest), length-append rest []))

  -- one that begins with the closing can be the last
  pub due_closing : lines < 64 → IsDue IsReplyLine rest → (behind : List ℕ) → IsReplyLine (rest ++ behind)
      → BeginsWithText closing (rest ++ behind)
      → IsDue (ClosesBehind closing lines) rest
  due_closing few due behind is begins =
      (no_lines due.0, (behind, closes_last closing lines (rest ++ behind) few is begins))

  -- any other, where one more may follow
  pub due_before : lines + 1 < 64 → MayClose closing → IsDue IsReplyLine rest → IsDue (ClosesBehind closing lines) rest
  due_before few may due =
      let behind : List ℕ = due.1.0 in
      elim (begins_or closing (rest ++ behind)) [
        | inl begins ↦ due_closing (omega (arith, few)) due behind due.1.1 begins
        | inr not ↦ (
          no_lines due.0,
          (
            behind ++ (closing ++ line_end),
            subst (ClosesBehind closing lines) (append_assoc rest behind (closing ++ line_end))
                (closes_more closing lines (rest ++ behind) (closing ++ line_end) due.1.1 not
                (closes_last closing (lines + 1) (closing ++ line_end) few may (line_end, refl))),
          ),
        )
      ]

-- ---- the only line that may still come

module _ (closing rest : List ℕ) where
  -- its one line begins with the closing
  only_line : (one : List ℕ) → ClosesBehind closing 63 one → IsReplyLine one × BeginsWithText closing one
  only_line one c =
      let f = first_line closing 63 one c in
      elim f.cases [
        | inl ends ↦
            let is : one ≡ f.line = f.is ∙ (ap (λ l. f.line ++ l) ends.1 ∙ append-nil f.line) in
            (subst IsReplyLine (sym is) f.line_is, subst (BeginsWithText closing) (sym is) ends.0)
        | inr goes ↦ let few = goes.1.few in absurd (omega (arith, few))
      ]

  pub none_unclosed : (len : ℕ) → StandsInFront IsReplyLine rest len → (BeginsWithText closing (take len rest) → ⊥)
      → HasNone (ClosesBehind closing 63) rest
  none_unclosed len begun not = none_from_fits (ClosesBehind closing 63) rest λ one more behind c same.
      let only = only_line one c in
      let line_is = same_line one (take len rest) more (drop len rest ++ behind) only.0 begun.1
      (same ∙
      (ap (λ l. l ++ behind) (sym (take-append-drop len rest))
      ∙ append_assoc (take len rest) (drop len rest) behind)) in
      not (subst (BeginsWithText closing) line_is only.1)

  pub due_last : MayClose closing → IsDue IsReplyLine rest → BeginsWithText closing rest ⊎ BeginsWithText rest closing
      → IsDue (ClosesBehind closing 63) rest
  due_last may due (inl begins) =
      due_closing closing 63 rest (omega arith) due due.1.0 due.1.1
      (begins.0 ++ due.1.0, ap (λ l. l ++ due.1.0) begins.1 ∙ append_assoc closing begins.0 due.1.0)
  due_last may due (inr front) =
      let whole : closing ++ line_end ≡ rest ++ (front.0 ++ line_end) = ap (λ l. l ++ line_end) front.1
      ∙ append_assoc rest front.0 line_end in
      due_closing closing 63 rest (omega arith) due (front.0 ++ line_end) (subst IsReplyLine whole may) (line_end, sym whole)

  pub none_apart : (BeginsWithText closing rest → ⊥) → (BeginsWithText rest closing → ⊥)
      → HasNone (ClosesBehind closing 63) rest
  none_apart not_here not_front = none_from_fits (ClosesBehind closing 63) rest λ one more behind c same.
      let begins = (only_line one c).1 in
      let whole : closing ++ (begins.0 ++ more) ≡ rest ++ behind =
      sym (append_assoc closing begins.0 more) ∙ (ap (λ l. l ++ more) (sym begins.1) ∙ same) in
      elim (cases_lt (length rest) (length closing)) [
        | inl longer ↦ not_front (
          drop (length rest) closing,
          goes_on rest behind closing (begins.0 ++ more) (sym whole)
              (omega (arith, longer)),
        )
        | inr fits ↦ not_here (drop (length closing) rest, goes_on closing (begins.0 ++ more) rest behind whole fits)
      ]

-- ---- lines at a place of the bytes

pub whole_rest : (bytes : List ℕ) (n : ℕ) → take (length bytes - n) (drop n bytes) ≡ drop n bytes
whole_rest bytes n = take_all (length bytes - n) (drop n bytes) (omega (arith, length-drop n bytes))

module _ (closing bytes : List ℕ) (used lines : ℕ) (within : used ≤ length bytes)
    (p : Passed closing (take used bytes) lines) where
  pub found_closing : (len : ℕ) → StandsInFront (ClosesBehind closing lines) (drop used bytes) len
      → StandsInFront (ClosesBehind closing 0) bytes (used + len)
  found_closing len begun = (
    omega
        (arith, within, begun.0, length-drop used bytes),
    tell_whole closing bytes used lines p len within begun.0 begun.1,
  )

  pub found_line : (len : ℕ) → lines < 64 → StandsInFront IsReplyLine (drop used bytes) len
      → BeginsWithText closing (take len (drop used bytes))
      → StandsInFront (ClosesBehind closing 0) bytes (used + len)
  found_line len few begun begins = found_closing len
      (begun.0, closes_last closing lines (take len (drop used bytes)) few begun.1 begins)

  pub passed_line : (len : ℕ) → StandsInFront IsReplyLine (drop used bytes) len
      → (BeginsWithText closing (take len (drop used bytes)) → ⊥)
      → Passed closing (take (used + len) bytes) (lines + 1)
  passed_line len begun not =
      subst (λ l. Passed closing l (lines + 1)) (sym (take-add used len bytes))
      (passed_more closing (take used bytes) (take len (drop used bytes)) lines p begun.1 not)

-- ---- how long they are

concat_short : (lines : List (List ℕ)) → All IsReplyLine lines → length (concat lines) ≤ 512 * length lines
concat_short [] are = omega arith
concat_short (line ∷ lines) are =
    let few = (All-head IsReplyLine line lines are).few in
    omega (arith, length-append line (concat lines), few, concat_short lines (All-tail IsReplyLine line lines are))

pub closes_short : (closing bytes : List ℕ) → ClosesBehind closing 0 bytes → length bytes ≤ 32768
closes_short closing bytes c =
    let few = c.few in
    omega (
      arith,
      few,
      ap length c.is,
      length-append c.front (c.last ∷ []),
      concat_short
          (c.front ++ c.last ∷ []) c.lines_are,
    )

pub used_short : (closing bytes : List ℕ) (used : ℕ) → StandsInFront (ClosesBehind closing 0) bytes used → used ≤ 32768
used_short closing bytes used begun = omega
    (arith, closes_short closing (take used bytes) begun.1, length-take-le used bytes begun.0)

-- ---- two that begin as one text are one

same_from : (closing : List ℕ) (front : List (List ℕ)) (last : List ℕ) (n : ℕ) (b x y : List ℕ)
    → All IsReplyLine (front ++ last ∷ [])
    → All (λ line. BeginsWithText closing line → ⊥) front → BeginsWithText closing last → ClosesBehind closing n b
    → concat (front ++ last ∷ []) ++ x ≡ b ++ y → concat (front ++ last ∷ []) ≡ b
same_from closing [] last n b x y are between closes c same =
    let f = first_line closing n b c in
    let line_is : f.line ≡ last = first_is closing n b y last ([] ++ x) f (sym same ∙ append_assoc last [] x)
    (All-head IsReplyLine last [] are) in
    elim f.cases [
      | inl ends ↦ ap (λ l. l ++ []) (sym line_is) ∙ (ap (λ l. f.line ++ l) (sym ends.1) ∙ sym f.is)
      | inr goes ↦ absurd (goes.0 (subst (BeginsWithText closing) (sym line_is) closes))
    ]
same_from closing (line ∷ front) last n b x y are between closes c same =
    let f = first_line closing n b c in
    let rest : List ℕ = concat (front ++ last ∷ []) in
    let line_is : f.line ≡ line = first_is closing n b y line (rest ++ x) f (sym same ∙ append_assoc line rest x)
    (All-head IsReplyLine line (front ++ last ∷ []) are) in
    elim f.cases [
      | inl ends ↦ absurd
          (All-head (λ l. BeginsWithText closing l → ⊥) line front between (subst (BeginsWithText closing) line_is ends.0))
      | inr goes ↦
          let b_is : b ≡ line ++ f.rest = f.is ∙ ap (λ l. l ++ f.rest) line_is in
          let rests : rest ++ x ≡ f.rest ++ y =
          append_cancel_left line (rest ++ x) (f.rest ++ y)
          (sym (append_assoc line rest x) ∙ (same ∙ (ap (λ l. l ++ y) b_is ∙ append_assoc line f.rest y))) in
          let rest_is = same_from closing front last (n + 1) f.rest x y (All-tail IsReplyLine line (front ++ last ∷ []) are)
          (All-tail (λ l. BeginsWithText closing l → ⊥) line front between) closes goes.1 rests in
          ap (λ l. line ++ l) rest_is ∙ sym b_is
    ]

pub same_closed : (closing a b x y : List ℕ) → ClosesBehind closing 0 a → ClosesBehind closing 0 b → a ++ x ≡ b ++ y
    → a ≡ b
same_closed closing a b x y is_a is_b same =
    is_a.is ∙ same_from closing is_a.front is_a.last 0 b x y is_a.lines_are is_a.between is_a.closes is_b
    (ap (λ l. l ++ x) (sym is_a.is) ∙ same)
