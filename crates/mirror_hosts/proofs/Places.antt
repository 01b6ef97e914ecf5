-- Places of hosts, and the hosts so far.
use Rattle.std.proofs.Common.{◌≡◌, ⊎_elim, ℕ, ◌+◌, ◌<◌, ◌≤◌, Bool, true, false, cond, List, [], ◌∷◌, ◌++◌, length, map, take, get_or, slice_get, Some, refl, sym, ap, ◌∙◌, arith}
use Rattle.std.specs.Prelude.{◌||◌, not}
use Rattle.std.specs.List.{list_any, position_or_len}
use Rattle.std.specs.Str.{bytes_eq}
use Rattle.std.proofs.lemmas.Bool.{cases_lt}
use Rattle.std.proofs.lemmas.List.{length-append, map-append, take_more}
use Rattle.std.proofs.lemmas.List.Sums.{position_or_len_is, prefix_len-le-length}
use Rattle.std.proofs.lemmas.Option.{get_or_from_slice_get, slice_get_within}
use Rattle.mirror_hosts.specs.Hosts.{distinct_hosts, host_place, with_host}

-- the first place that passes
pub place_is : (host : List ℕ) (known : List (List ℕ)) (place : ℕ) → place ≤ length known
    → ((k : ℕ) (d : List ℕ) → k < place → bytes_eq host (get_or known k d) ≡ false)
    → ((d : List ℕ) → place < length known → bytes_eq host (get_or known place d) ≡ true)
    → place ≡ host_place known host
place_is host known place within none here =
    sym (position_or_len_is (bytes_eq host) known place [] within (λ k below. none k [] below) (here []))

-- ---- whether a host is known

known_cases : (p : List ℕ → Bool) (x : List ℕ) (xs : List (List ℕ)) (b : Bool) → p x ≡ b
    → (position_or_len p xs < length xs → list_any p xs ≡ true)
    → position_or_len p (x ∷ xs) < length (x ∷ xs) → (b || list_any p xs) ≡ true
known_cases p x xs true is rest within = refl
known_cases p x xs false is rest within =
    let on : position_or_len p (x ∷ xs) ≡ 1 + position_or_len p xs = rw is refl in
    rest (omega (arith, within, on))

known_at : (p : List ℕ → Bool) (xs : List (List ℕ)) → position_or_len p xs < length xs → list_any p xs ≡ true
known_at p [] within = absurd (omega (arith, within))
known_at p (x ∷ xs) within = known_cases p x xs (p x) refl (known_at p xs) within

unknown_cases : (p : List ℕ → Bool) (x : List ℕ) (xs : List (List ℕ)) (b : Bool) → p x ≡ b
    → (length xs ≤ position_or_len p xs → list_any p xs ≡ false)
    → length (x ∷ xs) ≤ position_or_len p (x ∷ xs) → (b || list_any p xs) ≡ false
unknown_cases p x xs true is rest past =
    let here : position_or_len p (x ∷ xs) ≡ 0 = rw is refl in
    absurd (omega (arith, past, here))
unknown_cases p x xs false is rest past =
    let on : position_or_len p (x ∷ xs) ≡ 1 + position_or_len p xs = rw is refl in
    rest (omega (arith, past, on))

unknown_past : (p : List ℕ → Bool) (xs : List (List ℕ)) → length xs ≤ position_or_len p xs → list_any p xs ≡ false
unknown_past p [] past = refl
unknown_past p (x ∷ xs) past = unknown_cases p x xs (p x) refl (unknown_past p xs) past

pub stays_known : (known : List (List ℕ)) (host : List ℕ) → host_place known host < length known
    → known ≡ with_host known host
stays_known known host within = rw (known_at (bytes_eq host) known within) refl

pub becomes_known : (known : List (List ℕ)) (host : List ℕ) → length known ≤ host_place known host
    → known ++ host ∷ [] ≡ with_host known host
becomes_known known host past = rw (unknown_past (bytes_eq host) known past) refl

-- ---- one more

distinct_on : (known hosts : List (List ℕ)) (host : List ℕ)
    → distinct_hosts known (hosts ++ host ∷ []) ≡ with_host (distinct_hosts known hosts) host
distinct_on known [] host = refl
distinct_on known (first ∷ hosts) host = distinct_on (with_host known first) hosts host

pub distinct_more : (hosts known : List (List ℕ)) (host : List ℕ) (i : ℕ) → slice_get hosts i ≡ Some host
    → known ≡ distinct_hosts [] (take i hosts)
    → with_host known host ≡ distinct_hosts [] (take (i + 1) hosts)
distinct_more hosts known host i here so_far =
    let next : take (i + 1) hosts ≡ take i hosts ++ host ∷ [] =
    take_more hosts i host (slice_get_within hosts i host here)
    ∙ ap (λ (h : List ℕ). take i hosts ++ h ∷ []) (get_or_from_slice_get hosts i host host here) in
    rw (so_far, next) (sym (distinct_on [] (take i hosts) host))

pub map_more : {A B : Type 0} (f : A → B) (xs : List A) (x : A) (i : ℕ) → slice_get xs i ≡ Some x
    → map f (take i xs) ++ f x ∷ [] ≡ map f (take (i + 1) xs)
map_more f xs x i here =
    sym (ap (map f) (take_more xs i x (slice_get_within xs i x here)
    ∙ ap (λ h. take i xs ++ h ∷ []) (get_or_from_slice_get xs i x x here))
    ∙ map-append f (take i xs) (x ∷ []))

-- ---- how many there are

more_cases : (known : List (List ℕ)) (host : List ℕ) (b : Bool)
    → length (cond b known (known ++ host ∷ [])) ≤ length known + 1
more_cases known host true = omega arith
more_cases known host false = omega (arith, length-append known (host ∷ []))

distinct_len : (known hosts : List (List ℕ)) → length (distinct_hosts known hosts) ≤ length known + length hosts
distinct_len known [] = omega arith
distinct_len known (host ∷ hosts) =
    omega (arith, distinct_len (with_host known host) hosts, more_cases known host (list_any (bytes_eq host) known))

pub distinct_few : (hosts : List (List ℕ)) → length (distinct_hosts [] hosts) ≤ length hosts
distinct_few hosts = omega (arith, distinct_len [] hosts)

-- a place is one of the hosts, or their number
pub place_most : (known : List (List ℕ)) (host : List ℕ) → host_place known host ≤ length known
place_most known host = prefix_len-le-length (λ x. not (bytes_eq host x)) known

-- no host up to this place, and not the one at it
pub one_further : (host : List ℕ) (known : List (List ℕ)) (place : ℕ)
    → ((k : ℕ) (d : List ℕ) → k < place → bytes_eq host (get_or known k d) ≡ false)
    → ((d : List ℕ) → bytes_eq host (get_or known place d) ≡ false)
    → (k : ℕ) (d : List ℕ) → k < place + 1 → bytes_eq host (get_or known k d) ≡ false
one_further host known place none here k d below = ⊎_elim
    (λ before. none k d before)
    (λ from. let at : k ≡ place = omega (arith, from, below) in
    ap (λ (n : ℕ). bytes_eq host (get_or known n d)) at ∙ here d)
    (cases_lt k place)
