-- The last of several lines.
use Rattle.std.proofs.Common.{◌≡◌, ℕ, ◌≤◌, List, [], ◌∷◌, ◌++◌, length, drop, arith, ap, sym, ◌∙◌, append-nil, length-append}
use Rattle.std.proofs.lemmas.List.{drop_at}
use Rattle.std.proofs.lemmas.List.Elements.{All-head, All-tail}
use Rattle.std.specs.Prelude.{All}
use Rattle.std.specs.List.{concat}
use Rattle.ftp_replies.specs.LineEnds.{LineEndsAt, IsFirstEnd}
use Rattle.ftp_replies.specs.Lines.{IsReplyLine}
use Rattle.ftp_replies.proofs.LineLemmas.{ends_in, line_len_is, line_ends, first_len}

-- lines of which this is the last
pub record AreLines (last rest : List ℕ) : Type 0 where
  pub front : List (List ℕ)
  pub lines : All IsReplyLine (front ++ last ∷ [])
  pub is : rest ≡ concat (front ++ last ∷ [])

last_long : (front : List (List ℕ)) (last : List ℕ) → All IsReplyLine (front ++ last ∷ [])
    → 2 ≤ length (concat (front ++ last ∷ []))
last_long [] last are = let line = All-head IsReplyLine last [] are in omega
    (arith, line_len_is last line, length-append last [])
last_long (line ∷ front) last are =
    let others = last_long front last (All-tail IsReplyLine line (front ++ last ∷ []) are) in
    omega (arith, others, length-append line (concat (front ++ last ∷ [])))

next_of : (front : List (List ℕ)) (last rest : List ℕ) (len : ℕ) → All IsReplyLine (front ++ last ∷ [])
    → rest ≡ concat (front ++ last ∷ [])
    → IsFirstEnd rest len → (len ≡ length rest → ⊥) → AreLines last (drop len rest)
next_of [] last rest len are is e more =
    let end = first_len last [] rest len (All-head IsReplyLine last [] are) is e in
    absurd (more (omega (arith, end, ap length is, length-append last [])))
next_of (line ∷ front) last rest len are is e more =
    let others : List ℕ = concat (front ++ last ∷ []) in
    let end = first_len line others rest len (All-head IsReplyLine line (front ++ last ∷ []) are) is e in
    record {
      front = front;
      lines = All-tail IsReplyLine line (front ++ last ∷ []) are;
      is = ap (drop len) is ∙ drop_at line others len (sym end);
    }

pub lines_behind : (last rest : List ℕ) (len : ℕ) → AreLines last rest → IsFirstEnd rest len → (len ≡ length rest → ⊥)
    → AreLines last (drop len rest)
lines_behind last rest len are e more = next_of are.front last rest len are.lines are.is e more

last_of : (front : List (List ℕ)) (last rest : List ℕ) (len : ℕ) → All IsReplyLine (front ++ last ∷ [])
    → rest ≡ concat (front ++ last ∷ [])
    → IsFirstEnd rest len → len ≡ length rest → rest ≡ last
last_of [] last rest len are is e all = is ∙ append-nil last
last_of (line ∷ front) last rest len are is e all =
    let others : List ℕ = concat (front ++ last ∷ []) in
    let end = first_len line others rest len (All-head IsReplyLine line (front ++ last ∷ []) are) is e in
    let long = last_long front last (All-tail IsReplyLine line (front ++ last ∷ []) are) in
    absurd (omega (arith, end, all, ap length is, length-append line others, long))

pub last_is : (last rest : List ℕ) (len : ℕ) → AreLines last rest → IsFirstEnd rest len → len ≡ length rest
    → rest ≡ last
last_is last rest len are e all = last_of are.front last rest len are.lines are.is e all

first_stands : (line others rest : List ℕ) → IsReplyLine line → rest ≡ line ++ others → ((at : ℕ) → LineEndsAt rest at → ⊥) → ⊥
first_stands line others rest is same none =
    none (length is.text)
    (ends_in line rest others [] (length is.text) (sym same ∙ sym (append-nil rest)) (line_ends line is)
    (omega (arith, line_len_is line is, ap length same, length-append line others)))

some_of : (front : List (List ℕ)) (last rest : List ℕ) → All IsReplyLine (front ++ last ∷ [])
    → rest ≡ concat (front ++ last ∷ [])
    → ((at : ℕ) → LineEndsAt rest at → ⊥) → ⊥
some_of [] last rest are is none = first_stands last [] rest (All-head IsReplyLine last [] are) is none
some_of (line ∷ front) last rest are is none =
    first_stands line (concat (front ++ last ∷ [])) rest (All-head IsReplyLine line (front ++ last ∷ []) are) is none

pub lines_end : (last rest : List ℕ) → AreLines last rest → ((at : ℕ) → LineEndsAt rest at → ⊥) → ⊥
lines_end last rest are none = some_of are.front last rest are.lines are.is none
