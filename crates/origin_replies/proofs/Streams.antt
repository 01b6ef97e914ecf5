-- Laws of the requests in the bytes of a connection.
use Rattle.std.proofs.Common.{◌≡◌, ◌⊎◌, inl, inr, ℕ, ◌≤◌, List, [], ◌∷◌, ◌++◌, drop, length, Bool, true, false, refl, sym, ap, ◌∙◌, true≢false, subst, arith}
use Rattle.std.proofs.lemmas.List.{drop-append-le}
use Rattle.http_heads.specs.AskHeadLaws.{HasOneAskHead, AskHeadStays, NoAskHeadStays, AskHeadComesWhole}
use Rattle.origin_replies.specs.Askings.{Asking, asked, bad, is_last_asking, IsOneAsking, HasNoAsking, AreAskings, AreFrontAskings, HasOneAsking, HasOneListOfAskings, AskingsGoOn, AskingsTakeMore, AskingsEnd, AskingsEndWithLast}

pub one_asking : HasOneAskHead → HasOneAsking
one_asking one bytes (asked head) (asked other) used more h k =
    let same = one bytes head other used more h k in (ap asked same.0, same.1)
one_asking one bytes (asked head) bad used more h k = absurd (k.0.no_head head used h)
one_asking one bytes bad (asked other) used more h k = absurd (h.0.no_head other more k)
one_asking one bytes bad bad used more h k = (refl, h.1 ∙ sym k.1)

stays : AskHeadStays → NoAskHeadStays → (bytes more : List ℕ) (asking : Asking) (used : ℕ) → IsOneAsking bytes asking used
    → IsOneAsking (bytes ++ more) asking used
stays head_stays none_stays bytes more (asked head) used h = head_stays bytes more head used h
stays head_stays none_stays bytes more bad used h = (none_stays bytes more h.0, h.1)

within : AskHeadComesWhole → (bytes : List ℕ) (asking : Asking) (used : ℕ) → IsOneAsking bytes asking used → used ≤ length bytes
within whole bytes (asked head) used h = (whole bytes head used h).0
within whole bytes bad used h = let none = h.1 in omega (arith, none)

-- ---- lists

both : (b : Bool) → b ≡ true → b ≡ false → ⊥
both b e f = true≢false (sym e ∙ f)

abbrev AreBehind : List ℕ → Asking → List Asking → ℕ → Type 0
AreBehind bytes asking askings used =
    ((is_last_asking asking ≡ true) × (askings ≡ [])) ⊎ ((is_last_asking asking ≡ false) × AreAskings (drop used bytes) askings)

behind_one : (bytes : List ℕ) (r s : Asking) (rs ss : List Asking) (m n : ℕ)
    → AreBehind bytes r rs m → AreBehind bytes s ss n → (r ≡ s) × (m ≡ n)
    → ((rest : List ℕ) → AreAskings rest rs → AreAskings rest ss → rs ≡ ss)
    → r ∷ rs ≡ s ∷ ss
behind_one bytes r s rs ss m n (inl h) (inl k) e on = λ i. e.0 i ∷ (h.1 ∙ sym k.1) i
behind_one bytes r s rs ss m n (inl h) (inr k) e on = absurd (both (is_last_asking s) (ap is_last_asking (sym e.0) ∙ h.0) k.0)
behind_one bytes r s rs ss m n (inr h) (inl k) e on = absurd (both (is_last_asking s) k.0 (ap is_last_asking (sym e.0) ∙ h.0))
behind_one bytes r s rs ss m n (inr h) (inr k) e on =
    let P : ℕ → Type 0 = λ used. AreAskings (drop used bytes) rs in
    let rest : rs ≡ ss = on (drop n bytes) (subst P e.1 h.1) k.1 in
    λ i. e.0 i ∷ rest i

pub one_list : HasOneAskHead → HasOneListOfAskings
one_list one bytes [] [] h k = refl
one_list one bytes [] (s ∷ ss) h k = absurd (h s k.0 k.1)
one_list one bytes (r ∷ rs) [] h k = absurd (k r h.0 h.1)
one_list one bytes (r ∷ rs) (s ∷ ss) h k =
    behind_one bytes r s rs ss h.0 k.0 h.2 k.2 (one_asking one bytes r s h.0 k.0 h.1 k.1) (λ rest. one_list one rest rs ss)

pub go_on : AskingsGoOn
go_on bytes [] rest asking used h k e =
    let P : List ℕ → Type 0 = λ left. IsOneAsking left asking used in
    (used, subst P (sym h) k, e, ap (drop used) h)
go_on bytes (r ∷ rs) rest asking used h k e = (h.0, h.1, h.2, go_on (drop h.0 bytes) rs rest asking used h.3 k e)

pub take_more : AskHeadStays → NoAskHeadStays → AskHeadComesWhole → AskingsTakeMore
take_more head_stays none_stays whole bytes [] rest more h = ap (λ left. left ++ more) h
take_more head_stays none_stays whole bytes (r ∷ rs) rest more h =
    let P : List ℕ → Type 0 = λ left. AreFrontAskings left rs (rest ++ more) in (
      h.0,
      stays head_stays none_stays bytes more r h.0 h.1,
      h.2,
      subst P (sym (drop-append-le h.0 bytes more (within whole bytes r h.0 h.1)))
          (take_more head_stays none_stays whole (drop h.0 bytes) rs rest more h.3),
    )

pub end : AskingsEnd
end bytes [] rest h k = let P : List ℕ → Type 0 = HasNoAsking in subst P (sym h) k
end bytes (r ∷ rs) rest h k = (h.0, h.1, inr (h.2, end (drop h.0 bytes) rs rest h.3 k))

pub end_with_last : AskingsEndWithLast
end_with_last bytes [] rest asking used h k e =
    let P : List ℕ → Type 0 = λ left. IsOneAsking left asking used in
    (used, subst P (sym h) k, inl (e, refl))
end_with_last bytes (r ∷ rs) rest asking used h k e =
    (h.0, h.1, inr (h.2, end_with_last (drop h.0 bytes) rs rest asking used h.3 k e))
