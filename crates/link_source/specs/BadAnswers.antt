-- The bad answers of mirrors in memory: each is used once, in their order.
use Rattle.std.specs.Prelude.{◌≡◌, ◌≢◌, ◌==◌, ℕ, List, [], ◌∷◌, ◌++◌, All, Option, find}
use Rattle.link_source.specs.declared.bad_answers.Bad.{Bad}

-- the next one of the mirror of this number
abbrev pub next_bad : List Bad → ℕ → Option Bad
next_bad left mirror = find (λ bad. bad.mirror == mirror) left

-- this one was left, before all others of its mirror; now it is used, and the others are as they were
pub record IsUsed (left used : List Bad) (bad : Bad) (new_left new_used : List Bad) : Type 0 where
  pub front : List Bad
  pub rest : List Bad
  pub stood : left ≡ front ++ bad ∷ rest
  pub first : All (λ other. other.mirror ≢ bad.mirror) front
  pub others : new_left ≡ front ++ rest
  pub added : new_used ≡ used ++ bad ∷ []
