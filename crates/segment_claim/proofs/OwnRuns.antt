-- The longest run of own blocks so far.
use Rattle.std.proofs.Common.{◌≡◌, ℕ, ◌+◌, ◌-◌, ◌/◌, ◌<◌, ◌≤◌, Bool, true, false, List, length, Some, None, refl, sym, ◌∙◌, subst, inl, inr, arith}
use Rattle.std.specs.Prelude.{◌⊎◌, ◌↔◌, ◌&&◌, nat_eq, nat_le, not, slice_get, slice_index_or, Option, IfNone, IfSome, IsTrue}
use Rattle.std.specs.Option.{is_some}
use Rattle.std.proofs.lemmas.Bool.{cases_eq, cases_lt}
use Rattle.std.proofs.lemmas.Bool.Decides.{nat_tests}
use Rattle.std.proofs.lemmas.Option.{get_or_from_slice_get}
use Rattle.dl_kinds.specs.declared.claims.Claim.{Claim}
use Rattle.dl_kinds.specs.declared.runs.Run.{Run}
use Rattle.piece_table.specs.Changes.{is_in}
use Rattle.segment_claim.specs.Free.{piece_at}
use Rattle.segment_claim.specs.Situation.{Situation}
use Rattle.segment_claim.specs.Views.{IsOwnBlocks, IsOwnRun, is_of_others, is_own}
use Rattle.segment_claim.proofs.Covers.{inside}
use Rattle.slow_steal.specs.Theft.{later_half}
use Rattle.segment_claim.proofs.Loose.{read_as}
use Rattle.segment_claim.proofs.LooseRuns.{in_before, in_from}

-- a run isn't preferred to the longest one
abbrev IsNoLonger : Run → Run → Type 0
IsNoLonger other longest = (other.count < longest.count) ⊎
    ((other.count ≡ longest.count) × (other.first ≤ longest.first))

-- the blocks before this one were looked at: `run` is the run of own blocks that ends there, and `longest` the
-- longest so far
pub record IsLongestUpTo (s : Situation) (claim : Claim) (block : ℕ) (run longest : Run) : Type 0 where
  pub ends : run.first + run.count ≡ block
  pub from : claim.run.first ≤ run.first
  pub own : IsOwnBlocks s claim run
  pub begins : (before : ℕ) → before + 1 ≡ run.first → claim.run.first ≤ before → is_own s claim before ≡ false
  pub longest_own : IsOwnBlocks s claim longest
  pub reached : longest.first + longest.count ≤ block
  pub longer : run.count ≤ longest.count
  pub empty : longest.count ≡ 0 → longest.first ≡ claim.run.first
  pub each : (other : Run) → 1 ≤ other.count → other.first + other.count ≤ block → IsOwnBlocks s claim other
      → IsNoLonger other longest

first_of : (a b c d : Bool) → ((a && b && c) && d) ≡ true → a ≡ true
first_of true b c d is = refl
first_of false b c d is = is

-- an own block is in the claim's run
pub own_inside : (s : Situation) (claim : Claim) (block : ℕ) → is_own s claim block ≡ true
    → is_in block claim.run ≡ true
own_inside s claim block own =
    first_of (is_in block claim.run) (not (slice_index_or s.landed block false))
    (nat_le (slice_index_or s.closed (piece_at s block) 0) claim.id)
    (not (is_of_others s claim.id block)) own

-- so a run of them begins no earlier ..
pub own_from : (s : Situation) (claim : Claim) (run : Run) → 1 ≤ run.count → IsOwnBlocks s claim run
    → claim.run.first ≤ run.first
own_from s claim run some own =
    in_from run.first claim.run (own_inside s claim run.first
    (own run.first (inside run.first run (omega arith) (omega arith))))

-- .. and ends no later
pub own_to : (s : Situation) (claim : Claim) (run : Run) → 1 ≤ run.count → IsOwnBlocks s claim run
    → run.first + run.count ≤ claim.run.first + claim.run.count
own_to s claim run some own =
    let last : ℕ = run.first + run.count - 1 in
    let before = in_before last claim.run
    (own_inside s claim last (own last (inside last run (omega arith) (omega arith)))) in
    omega arith

pub none_looked_at : (s : Situation) (claim : Claim)
    → IsLongestUpTo s claim claim.run.first (record { first = claim.run.first; count = 0 })
    (record { first = claim.run.first; count = 0 })
none_looked_at s claim =
    let bare : Run = record { first = claim.run.first; count = 0 } in
    let nothing : IsOwnBlocks s claim bare =
    λ block is. absurd (let a = in_from block bare is in let b = in_before block bare is in omega arith) in
    record {
      ends = omega arith;
      from = omega arith;
      own = nothing;
      begins = λ before next low. absurd (omega arith);
      longest_own = nothing;
      reached = omega arith;
      longer = omega arith;
      empty = λ _. refl;
      each = λ other some within own. absurd (let low = own_from s claim other some own in omega arith);
    }

-- a run that ends at an own block begins no earlier than the run that was followed
begins_no_earlier : (s : Situation) (claim : Claim) (block : ℕ) (run longest other : Run)
    → IsLongestUpTo s claim block run longest
    → 1 ≤ other.count → other.first + other.count ≡ block + 1 → IsOwnBlocks s claim other → run.first ≤ other.first
begins_no_earlier s claim block run longest other up some ends own = elim (cases_lt other.first run.first) [
  | inl early ↦
      let before : ℕ = run.first - 1 in
      let at = up.ends in
      let low = own_from s claim other some own in
      let mine : is_own s claim before ≡ true = own before (inside before other (omega arith) (omega arith)) in
      absurd (let e : true ≡ false = sym mine ∙ up.begins before (omega arith) (omega arith) in cc)
  | inr late ↦ late
]

own_more : (s : Situation) (claim : Claim) (block : ℕ) (run : Run) → run.first + run.count ≡ block
    → IsOwnBlocks s claim run → is_own s claim block ≡ true
    → IsOwnBlocks s claim (record { first = run.first; count = run.count + 1 })
own_more s claim block run ends own mine other is = elim (cases_eq other block) [
  | inl same ↦ subst (λ (b : ℕ). is_own s claim b ≡ true) (sym same) mine
  | inr differs ↦
      let more : Run = record { first = run.first; count = run.count + 1 } in
      let a = in_from other more is in
      let b = in_before other more is in
      own other (inside other run a (omega arith))
]

-- one more own block makes the run the longest
pub own_longest : (s : Situation) (claim : Claim) (block : ℕ) (run longest : Run)
    → IsLongestUpTo s claim block run longest
    → is_own s claim block ≡ true → longest.count ≤ run.count + 1
    → IsLongestUpTo s claim (block + 1) (record { first = run.first; count = run.count + 1 })
    (record { first = run.first; count = run.count + 1 })
own_longest s claim block run longest up mine more =
    let ends = up.ends in
    let on = own_more s claim block run ends up.own mine in
    record {
      ends = omega arith;
      from = up.from;
      own = on;
      begins = up.begins;
      longest_own = on;
      reached = omega arith;
      longer = omega arith;
      empty = λ none. absurd (omega arith);
      each = λ other some within own. elim (cases_lt (other.first + other.count) (block + 1)) [
        | inl early ↦ elim (up.each other some (omega arith) own) [
          | inl shorter ↦ elim (cases_lt other.count (run.count + 1)) [
            | inl less ↦ inl less
            | inr not_less ↦
                absurd (omega arith)
          ]
          | inr level ↦ let same = level.0 in
              elim (cases_lt other.count (run.count + 1)) [
                | inl less ↦ inl less
                | inr not_less ↦
                    inr (omega arith, omega arith)
              ]
        ]
        | inr late ↦
            let low = begins_no_earlier s claim block run longest other up some (omega arith) own in
            elim (cases_lt other.count (run.count + 1)) [
              | inl less ↦ inl less
              | inr not_less ↦
                  inr (omega arith, omega arith)
            ]
      ];
    }

-- one more own block leaves another run the longest
pub own_shorter : (s : Situation) (claim : Claim) (block : ℕ) (run longest : Run)
    → IsLongestUpTo s claim block run longest
    → is_own s claim block ≡ true → run.count + 1 < longest.count
    → IsLongestUpTo s claim (block + 1) (record { first = run.first; count = run.count + 1 }) longest
own_shorter s claim block run longest up mine less =
    let ends = up.ends in
    let reached = up.reached in
    record {
      ends = omega arith;
      from = up.from;
      own = own_more s claim block run ends up.own mine;
      begins = up.begins;
      longest_own = up.longest_own;
      reached = omega arith;
      longer = omega arith;
      empty = up.empty;
      each = λ other some within own. elim (cases_lt (other.first + other.count) (block + 1)) [
        | inl early ↦ up.each other some (omega arith) own
        | inr late ↦
            let low = begins_no_earlier s claim block run longest other up some (omega arith) own in
            inl (omega arith)
      ];
    }

-- a block that isn't own ends the run
pub own_ends : (s : Situation) (claim : Claim) (block : ℕ) (run longest : Run)
    → IsLongestUpTo s claim block run longest → claim.run.first ≤ block
    → is_own s claim block ≡ false → IsLongestUpTo s claim (block + 1) (record { first = block + 1; count = 0 }) longest
own_ends s claim block run longest up low other_block =
    let bare : Run = record { first = block + 1; count = 0 } in
    let reached = up.reached in
    record {
      ends = omega arith;
      from = omega arith;
      own = λ at is. absurd (let a = in_from at bare is in let b = in_before at bare is in omega arith);
      begins = λ before next from. let same : block ≡ before = omega arith in
          subst (λ (b : ℕ). is_own s claim b ≡ false) same other_block;
      longest_own = up.longest_own;
      reached = omega arith;
      longer = omega arith;
      empty = up.empty;
      each = λ other some within own. elim (cases_lt (other.first + other.count) (block + 1)) [
        | inl early ↦ up.each other some (omega arith) own
        | inr late ↦ absurd (let e : true ≡ false =
            sym (own block (inside block other (omega arith) (omega arith))) ∙ other_block in cc)
      ];
    }

-- all were looked at
pub all_looked_at : (s : Situation) (claim : Claim) (block : ℕ) (run longest : Run)
    → IsLongestUpTo s claim block run longest
    → claim.run.first + claim.run.count ≤ block → IsOwnRun s claim longest
all_looked_at s claim block run longest up past = record {
  own = up.longest_own;
  longest = λ other some own. up.each other some (let to = own_to s claim other some own in omega arith) own;
  empty = up.empty;
}

-- whether a row has no true place from one to another, by its first true place from there on
pub none_true : (row : List Bool) (first last next : ℕ) → last < length row → next ≤ last + 1
    → (next < last + 1 → slice_get row next ≡ Some true) → (next < last + 1 → first ≤ next)
    → ((place : ℕ) → first ≤ place → place < next → slice_get row place ≡ Some true → ⊥)
    → (next ≡ last + 1) ↔ ((place : ℕ) → first ≤ place → place ≤ last → slice_index_or row place false ≡ false)
none_true row first last next known bound found later passed = (
  λ past place from to. read_as row place false (omega arith) (passed place from (omega arith)),
  λ none. elim (cases_lt next (last + 1)) [
    | inl early ↦ absurd (let e : true ≡ false =
        sym (get_or_from_slice_get row next true false (found early)) ∙ none next (later early) (omega arith) in cc)
    | inr late ↦ omega arith
  ],
)

-- the later half is the run with that count and that end
pub half_is : (own half : Run) → half.count ≡ own.count / 2 → half.first + half.count ≡ own.first + own.count
    → half ≡ later_half own
half_is own half count end =
    let less : own.count / 2 ≤ own.count = omega arith in
    let first : half.first ≡ own.first + (own.count - own.count / 2) = omega arith in
    λ i. record { first = first i; count = count i }

-- whether there is a mirror
pub some_is : (o : Option ℕ) (there : Bool) (P : ℕ → Type 0) → there ≡ is_some o → IfSome o P
    → IfNone o ((mirror : ℕ) → P mirror → ⊥)
    → IsTrue there ↔ (mirror : ℕ) × P mirror
some_is None there P is some none =
    (λ yes. absurd (let e : true ≡ false = sym yes ∙ is in cc), λ found. absurd (none found.0 found.1))
some_is (Some mirror) there P is some none = (λ _. (mirror, some), λ _. is)

pub same_number : (a b : ℕ) → nat_eq a b ≡ true → a ≡ b
same_number a b is = grind (arith, nat_tests)

pub same_itself : (a : ℕ) → nat_eq a a ≡ true
same_itself a = grind (arith, nat_tests)
