-- The newest claim over a block.
use Rattle.std.proofs.Common.{◌≡◌, ℕ, ◌+◌, ◌<◌, ◌≤◌, ◌++◌, Bool, true, false, cond, List, [], ◌∷◌, Some, refl, ap, ◌∙◌, arith}
use Rattle.std.specs.Prelude.{Option, find, min}
use Rattle.std.specs.Option.{option_map, option_or}
use Rattle.std.proofs.lemmas.Bool.Decides.{nat_tests}
use Rattle.dl_kinds.specs.declared.claims.Claim.{Claim}
use Rattle.dl_kinds.specs.declared.runs.Run.{Run}
use Rattle.piece_table.specs.Changes.{is_in}

abbrev pub newest_of : List Claim → ℕ → Option ℕ
newest_of standing block = option_map (λ (claim : Claim). claim.id)
    (find (λ (claim : Claim). is_in block claim.run) standing)

-- one more claim that isn't over the block
pub newest_push_no : (standing : List Claim) (claim : Claim) (block : ℕ) → is_in block claim.run ≡ false
    → newest_of (standing ++ claim ∷ []) block ≡ newest_of standing block
newest_push_no [] claim block out = rw out refl
newest_push_no (first ∷ rest) claim block out =
    elim (is_in block first.run) as
    (λ (b : Bool). option_map (λ (c : Claim). c.id)
    (cond b (Some first) (find (λ (c : Claim). is_in block c.run) (rest ++ claim ∷ [])))
    ≡ option_map (λ (c : Claim). c.id) (cond b (Some first) (find (λ (c : Claim). is_in block c.run) rest))) [
      | true ↦ refl
      | false ↦ newest_push_no rest claim block out
    ]

-- one more that is
pub newest_push_yes : (standing : List Claim) (claim : Claim) (block : ℕ) → is_in block claim.run ≡ true
    → newest_of (standing ++ claim ∷ []) block ≡ option_or (newest_of standing block) (Some claim.id)
newest_push_yes [] claim block over = rw over refl
newest_push_yes (first ∷ rest) claim block over =
    elim (is_in block first.run) as
    (λ (b : Bool). option_map (λ (c : Claim). c.id)
    (cond b (Some first) (find (λ (c : Claim). is_in block c.run) (rest ++ claim ∷ [])))
    ≡ option_or (option_map (λ (c : Claim). c.id)
    (cond b (Some first) (find (λ (c : Claim). is_in block c.run) rest))) (Some claim.id)) [
      | true ↦ refl
      | false ↦ newest_push_yes rest claim block over
    ]

pub out_before : (block : ℕ) (run : Run) → block < run.first → is_in block run ≡ false
out_before block run less = grind (arith, nat_tests)

pub out_behind : (block : ℕ) (run : Run) → run.first + run.count ≤ block → is_in block run ≡ false
out_behind block run past = grind (arith, nat_tests)

pub inside : (block : ℕ) (run : Run) → run.first ≤ block → block < run.first + run.count → is_in block run ≡ true
inside block run from before = grind (arith, nat_tests)

-- this is the newest of the claims over each block from `at` to before `until`
abbrev pub IsUpTo : List Claim → ℕ → ℕ → Option ℕ → Type 0
IsUpTo standing at until newest = (block : ℕ) → at ≤ block → block < until → newest_of standing block ≡ newest

-- the next claim begins later
pub up_to_later : (standing : List Claim) (at until : ℕ) (newest : Option ℕ) (claim : Claim)
    → IsUpTo standing at until newest
    → IsUpTo (standing ++ claim ∷ []) at (min until claim.run.first) newest
up_to_later standing at until newest claim is block from before =
    newest_push_no standing claim block (out_before block claim.run (omega arith)) ∙ is block from (omega arith)

-- it is over the block
pub up_to_here : (standing : List Claim) (at until : ℕ) (newest : Option ℕ) (claim : Claim)
    → IsUpTo standing at until newest → claim.run.first ≤ at
    → IsUpTo (standing ++ claim ∷ []) at (min until (claim.run.first + claim.run.count))
    (option_or newest (Some claim.id))
up_to_here standing at until newest claim is from_first block from before =
    newest_push_yes standing claim block (inside block claim.run (omega arith) (omega arith))
    ∙ ap (λ (o : Option ℕ). option_or o (Some claim.id)) (is block from (omega arith))

-- it ends before
pub up_to_past : (standing : List Claim) (at until : ℕ) (newest : Option ℕ) (claim : Claim)
    → IsUpTo standing at until newest
    → claim.run.first + claim.run.count ≤ at → IsUpTo (standing ++ claim ∷ []) at until newest
up_to_past standing at until newest claim is past block from before =
    newest_push_no standing claim block (out_behind block claim.run (omega arith)) ∙ is block from before
