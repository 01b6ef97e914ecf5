-- The mirrors of a download.
use Rattle.std.proofs.Common.{◌≡◌, ◌∙◌, ℕ, zero, suc, Bool, true, false, Some, ◌+◌, ◌<◌, ◌≤◌, List, [], ◌∷◌, ◌++◌, length, get_or, map, take, slice_get, refl, sym, ap, arith}
use Rattle.std.specs.Prelude.{◌==◌, ◌||◌}
use Rattle.std.specs.List.{enumerate_from}
use Rattle.std.proofs.lemmas.List.{take_all, take_more}
use Rattle.std.proofs.lemmas.Option.{get_or_from_slice_get, same_Some, slice_get_within}
use Rattle.dl_kinds.specs.declared.claims.Claim.{Claim}
use Rattle.std.proofs.lemmas.List.FromFn.{get_or-enumerate_from, get_or-map-range_with_len, length-enumerate_from, length-map-range_with_len}
use Rattle.run_report.specs.Uris.{is_used, used_row}
use Rattle.run_report.specs.declared.views.UriView.{UriView}

pub none_used : (standing : List Claim) (mirror : ℕ)
    → ((k : ℕ) (claim : Claim) → slice_get standing k ≡ Some claim → (claim.mirror == mirror) ≡ false)
    → is_used standing mirror ≡ false
none_used [] mirror none = refl
none_used (claim ∷ standing) mirror none =
    rw (none 0 claim refl) (none_used standing mirror (λ k other is. none (suc k) other is))

left_or : (a b : Bool) → a ≡ true → (a || b) ≡ true
left_or true b is = refl
left_or false b is = absurd cc

right_or : (a b : Bool) → b ≡ true → (a || b) ≡ true
right_or true b is = refl
right_or false b is = is

pub one_used : (k : ℕ) (standing : List Claim) (claim : Claim) (mirror : ℕ) → slice_get standing k ≡ Some claim
    → (claim.mirror == mirror) ≡ true → is_used standing mirror ≡ true
one_used k [] claim mirror there is = absurd cc
one_used zero (first ∷ standing) claim mirror there is =
    left_or (first.mirror == mirror) (is_used standing mirror)
    (ap (λ (c : Claim). c.mirror == mirror) (same_Some first claim there) ∙ is)
one_used (suc k) (first ∷ standing) claim mirror there is =
    right_or (first.mirror == mirror) (is_used standing mirror) (one_used k standing claim mirror there is)

pub enumerate_append : (n : ℕ) (xs ys : List (List ℕ))
    → enumerate_from n (xs ++ ys) ≡ enumerate_from n xs ++ enumerate_from (n + length xs) ys
enumerate_append n [] ys = ap (λ (m : ℕ). enumerate_from m ys) (omega arith)
enumerate_append n (x ∷ xs) ys =
    ap (λ (rest : List (ℕ × List ℕ)). (n, x) ∷ rest)
    (enumerate_append (n + 1) xs ys
    ∙ ap (λ (m : ℕ). enumerate_from (n + 1) xs ++ enumerate_from m ys) (omega arith))

-- what the row says of a mirror
pub used_at : (standing : List Claim) (row : List Bool) (mirror : ℕ) (d : Bool) → row ≡ used_row standing (length row)
    → mirror < length row → get_or row mirror d ≡ is_used standing mirror
used_at standing row mirror d is within =
    ap (λ (bits : List Bool). get_or bits mirror d) is
    ∙ get_or-map-range_with_len (is_used standing) 0 (length row) mirror mirror d within (omega arith)

map_push : (f : ℕ × List ℕ → UriView) (xs : List (ℕ × List ℕ)) (x : ℕ × List ℕ)
    → map f (xs ++ x ∷ []) ≡ map f xs ++ f x ∷ []
map_push f [] x = refl
map_push f (y ∷ xs) x = ap (λ (views : List UriView). f y ∷ views) (map_push f xs x)

-- one more mirror
pub more_views : (f : ℕ × List ℕ → UriView) (first : ℕ) (urls : List (List ℕ)) (place : ℕ) (url : List ℕ)
    → slice_get urls place ≡ Some url
    → map f (take (place + 1) (enumerate_from first urls))
    ≡ map f (take place (enumerate_from first urls)) ++ f (first + place, url) ∷ []
more_views f first urls place url there =
    let within = slice_get_within urls place url there in
    let long = length-enumerate_from first urls in
    let at : get_or (enumerate_from first urls) place (0, []) ≡ (first + place, url) =
    get_or-enumerate_from first urls place (0, []) within
    ∙ ap (λ (u : List ℕ). (first + place, u)) (get_or_from_slice_get urls place url [] there) in
    ap (map f) (take_more (enumerate_from first urls) place (0, []) (omega arith)
    ∙ ap (λ (x : ℕ × List ℕ). take place (enumerate_from first urls) ++ x ∷ []) at)
    ∙ map_push f (take place (enumerate_from first urls)) (first + place, url)

-- .. and all of them
pub all_views : (f : ℕ × List ℕ → UriView) (first : ℕ) (urls : List (List ℕ)) (place : ℕ) → length urls ≤ place
    → map f (take place (enumerate_from first urls)) ≡ map f (enumerate_from first urls)
all_views f first urls place past =
    let long = length-enumerate_from first urls in
    ap (map f) (take_all place (enumerate_from first urls) (omega arith))

-- the row has a place for each mirror
pub row_long : (standing : List Claim) (n : ℕ) (row : List Bool) → row ≡ used_row standing n → length row ≡ n
row_long standing n row is =
    ap (λ (bits : List Bool). length bits) is ∙ length-map-range_with_len (is_used standing) 0 n

pub row_itself : (standing : List Claim) (n : ℕ) (row : List Bool) → row ≡ used_row standing n
    → row ≡ used_row standing (length row)
row_itself standing n row is = is ∙ ap (used_row standing) (sym (row_long standing n row is))

map_both : (f : ℕ × List ℕ → UriView) (xs ys : List (ℕ × List ℕ)) → map f (xs ++ ys) ≡ map f xs ++ map f ys
map_both f [] ys = refl
map_both f (x ∷ xs) ys = ap (λ (views : List UriView). f x ∷ views) (map_both f xs ys)

-- the mirrors of two lists of URLs, one behind the other
pub joined_views : (f : ℕ × List ℕ → UriView) (xs ys : List (List ℕ))
    → map f (enumerate_from 0 (xs ++ ys)) ≡ map f (enumerate_from 0 xs) ++ map f (enumerate_from (length xs) ys)
joined_views f xs ys =
    ap (map f) (enumerate_append 0 xs ys)
    ∙ (map_both f (enumerate_from 0 xs) (enumerate_from (0 + length xs) ys)
    ∙ ap (λ (n : ℕ). map f (enumerate_from 0 xs) ++ map f (enumerate_from n ys))
    (let e : 0 + length xs ≡ length xs = omega arith in e))
