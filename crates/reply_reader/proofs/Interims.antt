-- The interim heads at the front of a stream.
use Rattle.std.proofs.Common.{◌≡◌, ℕ, zero, suc, ◌+◌, ◌≤◌, List, ◌++◌, length, drop, refl, sym, ◌∙◌, ap, subst, arith, IsTrue}
use Rattle.std.proofs.lemmas.List.{drop-append-le, drop-drop, length-drop}
use Rattle.http_heads.specs.HeadLaws.{HasOneHead, HeadStays, HeadStoodBefore, HeadComesWhole}
use Rattle.http_heads.specs.Heads.{IsHead}
use Rattle.http_heads.specs.declared.head.Head.{Head}
use Rattle.reply_reader.specs.Heads.{is_interim, HasInterims, HasFewInterims}
use Rattle.reply_reader.specs.declared.heads.TheConstants.{INTERIM_LIMIT}

-- no interim head stands at the front
abbrev pub IsStop : List ℕ → Type 0
IsStop bytes = (head : Head) (used : ℕ) → IsHead bytes head used → IsTrue (is_interim head) → ⊥

-- behind a sum of bytes
pub along : (P : List ℕ → Type 0) (bytes : List ℕ) (used first rest : ℕ) → used ≡ first + rest → P (drop used bytes) → P (drop rest (drop first bytes))
along P bytes used first rest sum is = subst P (ap (λ (n : ℕ). drop n bytes) sum ∙ sym (drop-drop rest first bytes)) is

pub back_along : (P : List ℕ → Type 0) (bytes : List ℕ) (used first rest : ℕ) → used ≡ first + rest → P (drop rest (drop first bytes)) → P (drop used bytes)
back_along P bytes used first rest sum is = subst P (drop-drop rest first bytes ∙ ap (λ (n : ℕ). drop n bytes) (sym sum)) is

-- they stand in the bytes that came
pub interims_within : HeadComesWhole → (n : ℕ) (bytes : List ℕ) (used : ℕ) → HasInterims bytes n used → used ≤ length bytes
unfolding HasInterims
interims_within whole zero bytes used none = omega (arith, none)
interims_within whole (suc n) bytes used (head, first, rest, is, interim, others, sum) =
    omega (arith, sum, (whole bytes head first is).0, interims_within whole n (drop first bytes) rest others, length-drop first bytes)

-- they stay, whatever follows
pub interims_stay : HeadStays → HeadComesWhole → (n : ℕ) (bytes more : List ℕ) (used : ℕ) → HasInterims bytes n used → HasInterims (bytes ++ more) n used
unfolding HasInterims
interims_stay stays whole zero bytes more used none = none
interims_stay stays whole (suc n) bytes more used (head, first, rest, is, interim, others, sum) = (
  head,
  first,
  rest,
  stays bytes more head first is,
  interim,
  subst (λ (l : List ℕ). HasInterims l n rest) (sym (drop-append-le first bytes more (whole bytes head first is).0))
      (interims_stay stays whole n (drop first bytes) more rest others),
  sum,
)

-- those that take no more than the front stand in the front
pub interims_before : HeadStoodBefore → (n : ℕ) (bytes more : List ℕ) (used : ℕ) → HasInterims (bytes ++ more) n used → used ≤ length bytes → HasInterims bytes n used
unfolding HasInterims
interims_before stood zero bytes more used none fits = none
interims_before stood (suc n) bytes more used (head, first, rest, is, interim, others, sum) fits =
    let front : first ≤ length bytes = omega (arith, sum, fits) in (
      head,
      first,
      rest,
      stood bytes more head first is front,
      interim,
      interims_before stood n (drop first bytes) more rest (subst (λ (l : List ℕ). HasInterims l n rest) (drop-append-le first bytes more front) others)
          (omega (arith, sum, fits, length-drop first bytes)),
      sum,
    )

-- one more behind them
pub interims_more : (n : ℕ) (bytes : List ℕ) (used : ℕ) (next : Head) (size : ℕ) → HasInterims bytes n used → IsHead (drop used bytes) next size
    → IsTrue (is_interim next) → HasInterims bytes (suc n) (used + size)
unfolding HasInterims
interims_more zero bytes used next size none is interim =
    (next, size, 0, subst (λ (n : ℕ). IsHead (drop n bytes) next size) none is, interim, refl, omega (arith, none))
interims_more (suc n) bytes used next size (head, first, rest, begins, also, others, sum) is interim = (
  head,
  first,
  rest + size,
  begins,
  also,
  interims_more n (drop first bytes) rest next size others (along (λ (l : List ℕ). IsHead l next size) bytes used first rest sum is) interim,
  omega (arith, sum),
)

-- so many of them take so many bytes
pub interims_once : HasOneHead → (n : ℕ) (bytes : List ℕ) (used more : ℕ) → HasInterims bytes n used → HasInterims bytes n more → used ≡ more
unfolding HasInterims
interims_once one zero bytes used more none also = none ∙ sym also
interims_once one (suc n) bytes used more (head, first, rest, is, interim, others, sum) (head', first', rest', is', interim', others', sum') =
    let same = (one bytes head' head first' first is' is).1 in
    let tails = interims_once one n (drop first bytes) rest rest' others (subst (λ (k : ℕ). HasInterims (drop k bytes) n rest') same others') in
    omega (arith, sum, sum', same, tails)

-- where no further one stands behind them, there are no more
pub interims_most : HasOneHead → (n m : ℕ) (bytes : List ℕ) (used more : ℕ) → HasInterims bytes n used → IsStop (drop used bytes) → HasInterims bytes m more → m ≤ n
unfolding HasInterims
interims_most one n zero bytes used more others stop also = omega arith
interims_most one zero (suc m) bytes used more none stop (head, first, rest, is, interim, others, sum) =
    absurd (stop head first (subst (λ (k : ℕ). IsHead (drop k bytes) head first) (sym none) is) interim)
interims_most one (suc n) (suc m) bytes used more (head, first, rest, is, interim, others, sum) stop (head', first', rest', is', interim', others', sum') =
    let same = (one bytes head' head first' first is' is).1 in
    let less = interims_most one n m (drop first bytes) rest rest' others (along IsStop bytes used first rest sum stop)
    (subst (λ (k : ℕ). HasInterims (drop k bytes) m rest') same others') in
    omega (arith, less)

-- interim heads, not too many, stand at the front, and no further one behind them
pub record StopsAt (bytes : List ℕ) (before : ℕ) : Type 0 where
  pub interims : HasFewInterims bytes before
  pub stop : IsStop (drop before bytes)

pub stops_once : HasOneHead → (bytes : List ℕ) (before other : ℕ) → StopsAt bytes before → StopsAt bytes other → before ≡ other
stops_once one bytes before other a b =
    let n = a.interims.count in
    let m = b.interims.count in
    let more : m ≤ n = interims_most one n m bytes before other a.interims.interims a.stop b.interims.interims in
    let less : n ≤ m = interims_most one m n bytes other before b.interims.interims b.stop a.interims.interims in
    let same : m ≡ n = omega (arith, more, less) in
    interims_once one n bytes before other a.interims.interims (subst (λ (k : ℕ). HasInterims bytes k other) same b.interims.interims)

pub stops_soon : HasOneHead → (bytes : List ℕ) (before other : ℕ) → StopsAt bytes before → HasInterims bytes (suc INTERIM_LIMIT) other → ⊥
stops_soon one bytes before other a many =
    let less = interims_most one a.interims.count (suc INTERIM_LIMIT) bytes before other a.interims.interims a.stop many in
    absurd (omega (arith, less, a.interims.few))
