-- Who gave the landed blocks of pieces.
use Rattle.std.proofs.Common.{◌≡◌, ◌≢◌, ℕ, ◌<◌, ◌≤◌, Bool, true, false, cond, eqb, ltb, List, length, get_or, set, refl, sym, ap, zero-add, ◌∙◌, subst, ⊎_elim, arith}
use Rattle.std.proofs.lemmas.Bool.{cases_lt, cases_eq, eq-eqb, lt-ltb, le-ltb}
use Rattle.std.proofs.lemmas.List.{length-set, same_lists, get_or-set_same, get_or-set_other, get_or_default}
use Rattle.std.proofs.lemmas.List.FromFn.{length-map-range_with_len, get_or-map-range_with_len}
use Rattle.piece_table.specs.declared.giver.Giver.{Giver}
use Rattle.piece_table.specs.declared.giver.Giver.TheVariants.{Nobody, One, Mixed}
use Rattle.piece_table.specs.Progress.{Progress, landed_count}
use Rattle.piece_table.specs.Steps.{with_giver, givers_after}

-- the giver of a piece, by how many of its blocks were landed before and are after
abbrev pub grown : Giver → ℕ → ℕ → ℕ → Giver
grown giver before after mirror = cond (ltb before after) (with_giver giver mirror) giver

pub get_or-givers_after : (p : Progress) (after : List Bool) (mirror piece : ℕ) (d : Giver) → piece < length p.givers
    → get_or (givers_after p after mirror) piece d
    ≡ grown (get_or p.givers piece Nobody) (landed_count p.total p.piece_len p.landed piece) (landed_count p.total p.piece_len after piece) mirror
get_or-givers_after p after mirror piece d within =
    get_or-map-range_with_len (λ k. grown (get_or p.givers k Nobody) (landed_count p.total p.piece_len p.landed k) (landed_count p.total p.piece_len after k) mirror) 0 (length p.givers) piece piece d within (zero-add piece)

pub length-givers_after : (p : Progress) (after : List Bool) (mirror : ℕ) → length (givers_after p after mirror) ≡ length p.givers
length-givers_after p after mirror =
    length-map-range_with_len (λ k. grown (get_or p.givers k Nobody) (landed_count p.total p.piece_len p.landed k) (landed_count p.total p.piece_len after k) mirror) 0 (length p.givers)

pub grown-same : (giver : Giver) (n m mirror : ℕ) → m ≤ n → grown giver n m mirror ≡ giver
grown-same giver n m mirror le = ap (λ b. cond b (with_giver giver mirror) giver) (le-ltb n m le)

pub grown-more : (giver : Giver) (n m mirror : ℕ) → n < m → grown giver n m mirror ≡ with_giver giver mirror
grown-more giver n m mirror less = ap (λ b. cond b (with_giver giver mirror) giver) (lt-ltb n m less)

-- no piece gained
pub givers-same : (p : Progress) (after : List Bool) (mirror : ℕ)
    → ((piece : ℕ) → landed_count p.total p.piece_len after piece ≡ landed_count p.total p.piece_len p.landed piece)
    → givers_after p after mirror ≡ p.givers
givers-same p after mirror same =
    same_lists (givers_after p after mirror) p.givers (length-givers_after p after mirror)
    (λ k d below.
    let within : k < length p.givers = omega (arith, length-givers_after p after mirror) in
    get_or-givers_after p after mirror k d within
    ∙ grown-same (get_or p.givers k Nobody) (landed_count p.total p.piece_len p.landed k) (landed_count p.total p.piece_len after k) mirror (omega (arith, same k))
    ∙ get_or_default p.givers k Nobody d within)

-- one piece gained
pub givers-one : (p : Progress) (after : List Bool) (mirror piece : ℕ) → piece < length p.givers
    → landed_count p.total p.piece_len p.landed piece < landed_count p.total p.piece_len after piece
    → ((other : ℕ) → other ≢ piece → landed_count p.total p.piece_len after other ≡ landed_count p.total p.piece_len p.landed other)
    → givers_after p after mirror ≡ set p.givers piece (with_giver (get_or p.givers piece Nobody) mirror)
givers-one p after mirror piece within more same =
    let new = with_giver (get_or p.givers piece Nobody) mirror in
    same_lists (givers_after p after mirror) (set p.givers piece new) (length-givers_after p after mirror ∙ sym (length-set p.givers piece new))
    (λ k d below.
    let inside : k < length p.givers = omega (arith, length-givers_after p after mirror) in
    get_or-givers_after p after mirror k d inside
    ∙ ⊎_elim
    (λ (here : k ≡ piece).
    grown-more (get_or p.givers k Nobody) (landed_count p.total p.piece_len p.landed k) (landed_count p.total p.piece_len after k) mirror
    (subst (λ n. landed_count p.total p.piece_len p.landed n < landed_count p.total p.piece_len after n) (sym here) more)
    ∙ ap (λ n. with_giver (get_or p.givers n Nobody) mirror) here
    ∙ sym (get_or-set_same p.givers piece new d within)
    ∙ ap (λ n. get_or (set p.givers piece new) n d) (sym here))
    (λ (other : k ≢ piece).
    grown-same (get_or p.givers k Nobody) (landed_count p.total p.piece_len p.landed k) (landed_count p.total p.piece_len after k) mirror (omega (arith, same k other))
    ∙ get_or_default p.givers k Nobody d inside
    ∙ sym (get_or-set_other p.givers piece k new d other))
    (cases_eq k piece))

-- ---- more and more blocks from one mirror

with_again : (giver : Giver) (mirror : ℕ) → with_giver (with_giver giver mirror) mirror ≡ with_giver giver mirror
with_again Nobody mirror = ap (λ b. cond b (One mirror) Mixed) (eq-eqb mirror mirror refl)
with_again (One other) mirror =
    (elim (eqb other mirror) as (λ v. with_giver (cond v (One mirror) Mixed) mirror ≡ cond v (One mirror) Mixed) [
      | true ↦ ap (λ b. cond b (One mirror) Mixed) (eq-eqb mirror mirror refl)
      | false ↦ refl
    ])
with_again Mixed mirror = refl

pub grown-grown : (giver : Giver) (a b c mirror : ℕ) → a ≤ b → b ≤ c → grown (grown giver a b mirror) b c mirror ≡ grown giver a c mirror
grown-grown giver a b c mirror ab bc =
    ⊎_elim
    (λ (less : b < c).
    grown-more (grown giver a b mirror) b c mirror less
    ∙ ⊎_elim
    (λ (gained : a < b). ap (λ g. with_giver g mirror) (grown-more giver a b mirror gained) ∙ with_again giver mirror)
    (λ (same : b ≤ a). ap (λ g. with_giver g mirror) (grown-same giver a b mirror same))
    (cases_lt a b)
    ∙ sym (grown-more giver a c mirror (omega arith)))
    (λ (le : c ≤ b).
    let here : b ≡ c = omega arith in
    grown-same (grown giver a b mirror) b c mirror le ∙ ap (λ n. grown giver a n mirror) here)
    (cases_lt b c)

-- nobody gave a block only where none came
pub never_nobody : (giver : Giver) (mirror : ℕ) → with_giver giver mirror ≢ Nobody
never_nobody Nobody mirror = λ is. cc
never_nobody (One other) mirror =
    (elim (eqb other mirror) as (λ v. cond v (One mirror) Mixed ≢ Nobody) [ true ↦ λ is. cc | false ↦ λ is. cc ])
never_nobody Mixed mirror = λ is. cc
