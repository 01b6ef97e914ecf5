-- Laws of the requests in the bytes of a connection.
use Rattle.std.proofs.Common.{◌≡◌, ◌⊎◌, inl, inr, ℕ, List, [], ◌∷◌, ◌++◌, drop, Bool, true, false, refl, sym, ap, ◌∙◌, true≢false, subst}
use Rattle.std.proofs.lemmas.List.{drop-append-le}
use Rattle.http_heads.specs.AskHeadLaws.{HasOneAskHead, AskHeadStays, NoAskHeadStays, AskHeadComesWhole}
use Rattle.request_stream.specs.Requests.{Request, is_last, IsOneRequest}
use Rattle.request_stream.specs.Streams.{HasNoWholeRequest, AreRequests, AreFront}
use Rattle.request_stream.specs.StreamLaws.{HasOneListOfRequests, FrontGoesOn, FrontTakesMore, FrontEnds, FrontEndsWithLast}
use Rattle.request_stream.proofs.OneRequest.{request_one, request_stays, request_within}

both : (b : Bool) → b ≡ true → b ≡ false → ⊥
both b e f = true≢false (sym e ∙ f)

-- the requests behind the first one
abbrev AreBehind : ℕ → List ℕ → Request → List Request → ℕ → Type 0
AreBehind most bytes request requests used =
    ((is_last request ≡ true) × (requests ≡ [])) ⊎ ((is_last request ≡ false) × AreRequests most (drop used bytes) requests)

-- of two lists that begin with one request, all is one
behind_one : (most : ℕ) (bytes : List ℕ) (r s : Request) (rs ss : List Request) (m n : ℕ)
    → AreBehind most bytes r rs m → AreBehind most bytes s ss n → (r ≡ s) × (m ≡ n)
    → ((rest : List ℕ) → AreRequests most rest rs → AreRequests most rest ss → rs ≡ ss)
    → r ∷ rs ≡ s ∷ ss
behind_one most bytes r s rs ss m n (inl h) (inl k) e on = λ i. e.0 i ∷ (h.1 ∙ sym k.1) i
behind_one most bytes r s rs ss m n (inl h) (inr k) e on = absurd (both (is_last s) (ap is_last (sym e.0) ∙ h.0) k.0)
behind_one most bytes r s rs ss m n (inr h) (inl k) e on = absurd (both (is_last s) k.0 (ap is_last (sym e.0) ∙ h.0))
behind_one most bytes r s rs ss m n (inr h) (inr k) e on =
    let P : ℕ → Type 0 = λ used. AreRequests most (drop used bytes) rs in
    let rest : rs ≡ ss = on (drop n bytes) (subst P e.1 h.1) k.1 in
    λ i. e.0 i ∷ rest i

pub one_list : HasOneAskHead → HasOneListOfRequests
one_list one most bytes [] [] h k = refl
one_list one most bytes [] (s ∷ ss) h k = absurd (h s k.0 k.1)
one_list one most bytes (r ∷ rs) [] h k = absurd (k r h.0 h.1)
one_list one most bytes (r ∷ rs) (s ∷ ss) h k =
    behind_one most bytes r s rs ss h.0 k.0 h.2 k.2 (request_one one most bytes r s h.0 k.0 h.1 k.1)
    (λ rest. one_list one most rest rs ss)

pub front_goes_on : FrontGoesOn
front_goes_on most bytes [] rest request used h k e =
    let P : List ℕ → Type 0 = λ left. IsOneRequest most left request used in
    (used, subst P (sym h) k, e, ap (drop used) h)
front_goes_on most bytes (r ∷ rs) rest request used h k e =
    (h.0, h.1, h.2, front_goes_on most (drop h.0 bytes) rs rest request used h.3 k e)

pub front_takes_more : AskHeadStays → NoAskHeadStays → AskHeadComesWhole → FrontTakesMore
front_takes_more stays none_stays whole most bytes [] rest more h = ap (λ left. left ++ more) h
front_takes_more stays none_stays whole most bytes (r ∷ rs) rest more h =
    let P : List ℕ → Type 0 = λ left. AreFront most left rs (rest ++ more) in (
      h.0,
      request_stays stays none_stays most bytes more r h.0 h.1,
      h.2,
      subst P (sym (drop-append-le h.0 bytes more (request_within whole most bytes r h.0 h.1)))
          (front_takes_more stays none_stays whole most (drop h.0 bytes) rs rest more h.3),
    )

pub front_ends : FrontEnds
front_ends most bytes [] rest h k =
    let P : List ℕ → Type 0 = HasNoWholeRequest most in subst P (sym h) k
front_ends most bytes (r ∷ rs) rest h k = (h.0, h.1, inr (h.2, front_ends most (drop h.0 bytes) rs rest h.3 k))

pub front_ends_with_last : FrontEndsWithLast
front_ends_with_last most bytes [] rest request used h k e =
    let P : List ℕ → Type 0 = λ left. IsOneRequest most left request used in
    (used, subst P (sym h) k, inl (e, refl))
front_ends_with_last most bytes (r ∷ rs) rest request used h k e =
    (h.0, h.1, inr (h.2, front_ends_with_last most (drop h.0 bytes) rs rest request used h.3 k e))
