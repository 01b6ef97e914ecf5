-- Lines, by the places of their bytes.
use Rattle.std.proofs.Common.{◌≡◌, ℕ, suc, ◌+◌, ◌-◌, ◌<◌, ◌≤◌, inl, inr, List, [], ◌∷◌, ◌++◌, length, take, drop, get_or, arith, ap, sym, ◌∙◌, refl, subst, append-nil, append_assoc, length-append, length-drop, length-take-le, drop-cons}
use Rattle.std.proofs.lemmas.Bool.{cases_lt, cases_eq}
use Rattle.std.proofs.lemmas.Bool.Decides.{nat_tests}
use Rattle.std.proofs.lemmas.List.{get_or_append_left, get_or-append-add, take-append-drop}
use Rattle.std.proofs.Math.Seq.{take-append_seam}
use Rattle.ftp_replies.specs.Fronts.{StandsInFront, IsDue, HasNone}
use Rattle.ftp_replies.specs.LineEnds.{LineEndsAt, IsFirstEnd, missing}
use Rattle.ftp_replies.specs.Lines.{line_end, IsReplyLine}
use Rattle.ftp_replies.proofs.FrontLemmas.{none_from_fits}

-- the bytes of two texts with one front, as far as both go
pub same_byte : (xs ys a b : List ℕ) → xs ++ a ≡ ys ++ b → (k : ℕ) → k < length xs → k < length ys
    → get_or ys k 0 ≡ get_or xs k 0
same_byte xs ys a b same k in_xs in_ys =
    sym (get_or_append_left ys b 0 k in_ys) ∙ (ap (λ l. get_or l k 0) (sym same) ∙ get_or_append_left xs a 0 k in_xs)

-- a CR LF stands in each of two texts with one front, as far as both go
pub ends_in : (xs ys a b : List ℕ) (at : ℕ) → xs ++ a ≡ ys ++ b → LineEndsAt xs at → at + 1 < length ys → LineEndsAt ys at
ends_in xs ys a b at same e within =
    let inside = e.within in
    record {
      within = within;
      cr = same_byte xs ys a b same at (omega (arith, inside)) (omega (arith, within)) ∙ e.cr;
      lf = same_byte xs ys a b same (at + 1) inside within ∙ e.lf;
    }

-- CR LF behind a text
pub end_behind : (text rest : List ℕ) → LineEndsAt (text ++ 13 ∷ 10 ∷ rest) (length text)
end_behind text rest =
    let len = length-append text (13 ∷ 10 ∷ rest) in
    let here : length text + 0 ≡ length text = omega arith in
    record {
      within = omega (arith, len);
      cr = ap (λ k. get_or (text ++ 13 ∷ 10 ∷ rest) k 0) (sym here) ∙ get_or-append-add text (13 ∷ 10 ∷ rest) 0 0;
      lf = get_or-append-add text (13 ∷ 10 ∷ rest) 1 0;
    }

drop_next : (l : List ℕ) (j k : ℕ) → k ≡ j + 1 → j < length l → drop j l ≡ get_or l j 0 ∷ drop k l
drop_next l j k is within =
    let next : suc j ≡ k = omega (arith, is) in
    drop-cons l j 0 within ∙ ap (λ n. get_or l j 0 ∷ drop n l) next

-- a text around a CR LF
pub cut_at : (bytes : List ℕ) (at : ℕ) → LineEndsAt bytes at → bytes ≡ (take at bytes ++ line_end) ++ drop (at + 2) bytes
cut_at bytes at e =
    let inside = e.within in
    let one : drop at bytes ≡ get_or bytes at 0 ∷ drop (at + 1) bytes = drop_next bytes at (at + 1) refl
    (omega (arith, inside)) in
    let two : drop (at + 1) bytes ≡ get_or bytes (at + 1) 0 ∷ drop (at + 2) bytes = drop_next bytes (at + 1) (at + 2)
    (omega arith) inside in
    let cr = e.cr in
    let lf = e.lf in
    let tail : drop at bytes ≡ 13 ∷ 10 ∷ drop (at + 2) bytes = cc in
    sym (take-append-drop at bytes) ∙
    (ap (λ l. take at bytes ++ l) tail ∙ sym (append_assoc (take at bytes) line_end (drop (at + 2) bytes)))

-- a line ends where its CR LF stands, and nowhere else
pub line_len_is : (line : List ℕ) (is : IsReplyLine line) → length line ≡ length is.text + 2
line_len_is line is = ap length is.is ∙ length-append is.text line_end

pub line_ends : (line : List ℕ) (is : IsReplyLine line) → LineEndsAt line (length is.text)
line_ends line is = subst (λ l. LineEndsAt l (length is.text)) (sym is.is) (end_behind is.text [])

pub only_end : (line : List ℕ) → IsReplyLine line → (at : ℕ) → LineEndsAt line at → at + 2 ≡ length line
only_end line is at e =
    let none = ap length (is.first (take at line) (drop (at + 2) line) (cut_at line at e)) in
    let inside = e.within in
    omega (arith, none, length-drop (at + 2) line, inside)

none_left : (behind : List ℕ) → length behind ≡ 0 → behind ≡ []
none_left [] none = refl
none_left (b ∷ behind) none = absurd (omega (arith, none))

-- what ends in CR LF, and holds none before, is a line
pub made_line : (text : List ℕ) → length text + 2 ≤ 512
    → ((at : ℕ) → LineEndsAt (text ++ line_end) at → at + 2 ≡ length (text ++ line_end)) → IsReplyLine (text ++ line_end)
made_line text few only = record {
  text = text;
  is = refl;
  few = omega (arith, few, length-append text line_end);
  first = λ front behind is.
      let e : LineEndsAt (text ++ line_end) (length front) =
      subst (λ l. LineEndsAt l (length front)) (sym (is ∙ append_assoc front line_end behind)) (end_behind front behind) in
      let at = only (length front) e in
      let len : length (text ++ line_end) ≡ (length front + 2) + length behind =
      ap length is ∙
      (length-append (front ++ line_end) behind ∙ ap (λ n. n + length behind) (length-append front line_end)) in
      none_left behind (omega (arith, at, len));
}

-- lines that begin as one text are one
pub same_line : (a b x y : List ℕ) → IsReplyLine a → IsReplyLine b → a ++ x ≡ b ++ y → a ≡ b
same_line a b x y is_a is_b same =
    let len_a = line_len_is a is_a in
    let len_b = line_len_is b is_b in
    let len : length a ≡ length b = elim (cases_lt (length b) (length a)) [
      | inl shorter ↦
          let e = ends_in b a y x (length is_b.text) (sym same) (line_ends b is_b) (omega (arith, len_b, shorter)) in
          let at = only_end a is_a (length is_b.text) e in
          omega (arith, at, len_b)
      | inr longer ↦
          let e = ends_in a b x y (length is_a.text) same (line_ends a is_a) (omega (arith, len_a, longer)) in
          let at = only_end b is_b (length is_a.text) e in
          omega (arith, at, len_a)
    ] in
    sym (take-append_seam a x) ∙ (ap (λ n. take n (a ++ x)) len ∙ (ap (take (length b)) same ∙ take-append_seam b y))

-- ---- the line at the front of bytes

-- the first CR LF ends the first line
pub first_len : (line rest bytes : List ℕ) (len : ℕ) → IsReplyLine line → bytes ≡ line ++ rest → IsFirstEnd bytes len
    → len ≡ length line
first_len line rest bytes len is same e =
    let end = line_len_is line is in
    let whole : line ++ rest ≡ bytes ++ [] = sym same ∙ sym (append-nil bytes) in
    let fits : length line ≤ length bytes = omega (arith, ap length same, length-append line rest) in
    let stands = ends_in line bytes rest [] (length is.text) whole (line_ends line is) (omega (arith, end, fits)) in
    let not_before : length is.text < e.at → ⊥ = λ earlier. e.first (length is.text) earlier stands in
    let inside = ends_in bytes line [] rest e.at (sym whole) e.ends (omega (arith, not_before, end)) in
    let at = only_end line is e.at inside in
    e.behind ∙ at

pub line_found : (bytes : List ℕ) (len : ℕ) → IsFirstEnd bytes len → len ≤ 512 → StandsInFront IsReplyLine bytes len
line_found bytes len e few =
    let at : ℕ = e.at in
    let inside = e.ends.within in
    let behind = e.behind in
    let cut = cut_at bytes at e.ends in
    let front : List ℕ = take at bytes ++ line_end in
    let text_len : length (take at bytes) ≡ at = length-take-le at bytes (omega (arith, inside)) in
    let size : length front ≡ at + 2 = length-append (take at bytes) line_end ∙ ap (λ n. n + 2) text_len in
    let front_is : take len bytes ≡ front =
    ap (take len) cut ∙
    (ap (λ n. take n (front ++ drop (at + 2) bytes)) (behind ∙ sym size)
    ∙ take-append_seam front (drop (at + 2) bytes)) in
    let line : IsReplyLine front = made_line (take at bytes) (omega (arith, few, behind, text_len)) (λ k ends.
    let here = ends.within in
    let whole = ends_in front bytes (drop (at + 2) bytes) [] k (sym cut ∙ sym (append-nil bytes)) ends
    (omega (arith, here, size, inside)) in
    let not_before : k < at → ⊥ = λ before. e.first k before whole in
    omega (arith, here, size, not_before)) in
    (omega (arith, behind, inside), subst IsReplyLine (sym front_is) line)

pub line_long : (bytes : List ℕ) (len : ℕ) → IsFirstEnd bytes len → 512 < len → HasNone IsReplyLine bytes
line_long bytes len e long = none_from_fits IsReplyLine bytes λ line more behind is same.
    let end = line_len_is line is in
    let few = is.few in
    let far = e.behind in
    let inside = e.ends.within in
    let stands = ends_in line bytes more behind (length is.text) same (line_ends line is)
    (omega (arith, end, few, far, long, inside)) in
    e.first (length is.text) (omega (arith, end, few, far, long)) stands

-- ---- bytes without a CR LF

missing_one : (bytes : List ℕ) → get_or bytes (length bytes - 1) 0 ≡ 13 → missing bytes ≡ 1
missing_one bytes is = rw is refl

missing_two : (bytes : List ℕ) → (get_or bytes (length bytes - 1) 0 ≡ 13 → ⊥) → missing bytes ≡ 2
missing_two bytes is = grind (arith, nat_tests)

-- a line that they begin has what they lack
pub open_longer : (bytes : List ℕ) → ((at : ℕ) → LineEndsAt bytes at → ⊥)
    → (line more behind : List ℕ) → IsReplyLine line → line ++ more ≡ bytes ++ behind
    → length bytes + missing bytes ≤ length line
open_longer bytes none line more behind is same =
    let end = line_len_is line is in
    let at : ℕ = length is.text in
    let beyond : at + 1 < length bytes → ⊥ = λ within. none at
    (ends_in line bytes more behind at same (line_ends line is) within) in
    elim (cases_eq (get_or bytes (length bytes - 1) 0) 13) [
      | inl cr ↦ omega (arith, end, beyond, missing_one bytes cr)
      | inr other ↦
          let not_last : length bytes ≡ at + 1 → ⊥ = λ is_last.
          let here : length bytes - 1 ≡ at = omega (arith, is_last) in
          other (ap (λ k. get_or bytes k 0) here
          ∙ (same_byte line bytes more behind same at (omega (arith, end)) (omega (arith, is_last))
          ∙ (line_ends line is).cr)) in
          omega (arith, end, beyond, not_last, missing_two bytes other)
    ]

pub line_none : (bytes : List ℕ) → ((at : ℕ) → LineEndsAt bytes at → ⊥) → 512 < length bytes + missing bytes
    → HasNone IsReplyLine bytes
line_none bytes none long = none_from_fits IsReplyLine bytes λ line more behind is same.
    let few = is.few in
    omega (arith, open_longer bytes none line more behind is same, few, long)

last_cut : (bytes : List ℕ) → 0 < length bytes → get_or bytes (length bytes - 1) 0 ≡ 13
    → bytes ≡ take (length bytes - 1) bytes ++ 13 ∷ []
last_cut bytes some cr =
    let at : ℕ = length bytes - 1 in
    let one : drop at bytes ≡ get_or bytes at 0 ∷ drop (length bytes) bytes = drop_next bytes at (length bytes)
    (omega (arith, some)) (omega (arith, some)) in
    let none : drop (length bytes) bytes ≡ [] = none_left (drop (length bytes) bytes)
    (omega (arith, length-drop (length bytes) bytes)) in
    let tail : drop at bytes ≡ 13 ∷ [] = one ∙ (ap (λ b. b ∷ drop (length bytes) bytes) cr ∙ ap (λ l. 13 ∷ l) none) in
    sym (take-append-drop at bytes) ∙ ap (λ l. take at bytes ++ l) tail

not_empty : (bytes : List ℕ) → get_or bytes (length bytes - 1) 0 ≡ 13 → 0 < length bytes
not_empty [] cr = absurd (omega (arith, cr))
not_empty (b ∷ bytes) cr = omega arith

-- behind a CR an LF makes a line
due_by_lf : (bytes : List ℕ) → ((at : ℕ) → LineEndsAt bytes at → ⊥) → get_or bytes (length bytes - 1) 0 ≡ 13
    → length bytes + 1 ≤ 512
    → IsReplyLine (bytes ++ 10 ∷ [])
due_by_lf bytes none cr few =
    let some = not_empty bytes cr in
    let text : List ℕ = take (length bytes - 1) bytes in
    let whole : bytes ++ 10 ∷ [] ≡ text ++ line_end =
    ap (λ l. l ++ 10 ∷ []) (last_cut bytes some cr) ∙ append_assoc text (13 ∷ []) (10 ∷ []) in
    let len : length (text ++ line_end) ≡ length bytes + 1 = ap length (sym whole) ∙ length-append bytes (10 ∷ []) in
    let text_len : length text + 2 ≡ length bytes + 1 = sym (length-append text line_end) ∙ len in
    let line : IsReplyLine (text ++ line_end) = made_line text (omega (arith, few, text_len)) (λ k ends.
    let here = ends.within in
    let before : k + 1 < length bytes → ⊥ = λ inside.
    none k (ends_in (text ++ line_end) bytes [] (10 ∷ []) k (append-nil (text ++ line_end) ∙ sym whole) ends inside) in
    omega (arith, here, len, before)) in
    subst IsReplyLine (sym whole) line

-- elsewhere CR LF does
due_by_end : (bytes : List ℕ) → ((at : ℕ) → LineEndsAt bytes at → ⊥) → (get_or bytes (length bytes - 1) 0 ≡ 13 → ⊥)
    → length bytes + 2 ≤ 512
    → IsReplyLine (bytes ++ line_end)
due_by_end bytes none other few = made_line bytes few (λ k ends.
    let here = ends.within in
    let len : length (bytes ++ line_end) ≡ length bytes + 2 = length-append bytes line_end in
    let before : k + 1 < length bytes → ⊥ = λ inside. none k
    (ends_in (bytes ++ line_end) bytes [] line_end k (append-nil (bytes ++ line_end)) ends inside) in
    let at_last : k + 1 ≡ length bytes → ⊥ = λ is_last.
    let at : length bytes - 1 ≡ k = omega (arith, is_last) in
    other
    (ap (λ n. get_or bytes n 0) at ∙
    (sym (get_or_append_left bytes line_end 0 k (omega (arith, is_last))) ∙ ends.cr)) in
    omega (arith, here, len, before, at_last))

pub line_due : (bytes : List ℕ) → ((at : ℕ) → LineEndsAt bytes at → ⊥) → length bytes + missing bytes ≤ 512
    → IsDue IsReplyLine bytes
line_due bytes none few =
    let no_front : (lacks : ℕ) → missing bytes ≡ lacks → 0 < lacks → (used : ℕ) → StandsInFront IsReplyLine bytes used
    → ⊥ = λ lacks is some used begun.
    let longer = open_longer bytes none (take used bytes) (drop used bytes) [] begun.1
    (take-append-drop used bytes ∙ sym (append-nil bytes)) in
    omega (arith, longer, is, some, length-take-le used bytes begun.0, begun.0) in
    elim (cases_eq (get_or bytes (length bytes - 1) 0) 13) [
      | inl cr ↦
          let one = missing_one bytes cr in
          (no_front 1 one (omega arith), (10 ∷ [], due_by_lf bytes none cr (omega (arith, few, one))))
      | inr other ↦
          let two = missing_two bytes other in
          (no_front 2 two (omega arith), (line_end, due_by_end bytes none other (omega (arith, few, two))))
    ]
