-- Runs of loose blocks.
use Rattle.std.proofs.Common.{◌≡◌, ℕ, ◌+◌, ◌-◌, ◌<◌, ◌≤◌, Bool, true, false, refl, sym, ◌∙◌, subst, inl, inr, arith}
use Rattle.std.specs.Prelude.{not}
use Rattle.std.proofs.lemmas.Bool.{cases_eq, cases_lt}
use Rattle.std.proofs.lemmas.Bool.Decides.{nat_tests}
use Rattle.dl_kinds.specs.Plan.{blocks_of}
use Rattle.dl_kinds.specs.declared.runs.Run.{Run}
use Rattle.piece_table.specs.Changes.{is_in}
use Rattle.segment_claim.specs.Free.{AreAlike, AreAlikeAt, IsLooseStretch, is_loose, piece_at}
use Rattle.segment_claim.specs.Situation.{Situation}
use Rattle.segment_claim.specs.Spans.{EndsStretch, IsNextStretch, IsSpanOfPiece}
use Rattle.segment_claim.specs.declared.scene.Span.{Span}
use Rattle.segment_claim.proofs.Alike.{alike_further, alike_turned}
use Rattle.segment_claim.proofs.Covers.{inside}

pub in_from : (block : ℕ) (run : Run) → is_in block run ≡ true → run.first ≤ block
in_from block run is = grind (arith, nat_tests)

pub in_before : (block : ℕ) (run : Run) → is_in block run ≡ true → block < run.first + run.count
in_before block run is = grind (arith, nat_tests)

-- the first block of a span is as loose as the rest
pub span_first : (s : Situation) (at : ℕ) (span : Span) → IsSpanOfPiece s at span → is_loose s at ≡ span.loose
span_first s at span is = is.loose at (omega arith) is.some

-- a run of loose blocks goes on over a span
pub loose_on : (s : Situation) (first at : ℕ) (span : Span) → IsSpanOfPiece s at span → span.loose ≡ true
    → ((block : ℕ) → first ≤ block → block < at → is_loose s block ≡ true)
    → (block : ℕ) → first ≤ block → block < span.end → is_loose s block ≡ true
loose_on s first at span is loose before block from to = elim (cases_lt block at) [
  | inl early ↦ before block from early
  | inr late ↦ is.loose block late to ∙ loose
]

pub alike_on : (s : Situation) (first at : ℕ) (span : Span) → IsSpanOfPiece s at span → AreAlikeAt s first at
    → ((block : ℕ) → first ≤ block → block < at → AreAlikeAt s first block)
    → (block : ℕ) → first ≤ block → block < span.end → AreAlikeAt s first block
alike_on s first at span is alike before block from to = elim (cases_lt block at) [
  | inl early ↦ before block from early
  | inr late ↦ subst (λ (piece : ℕ). AreAlike s (piece_at s first) piece) (sym (is.piece block late to)) alike
]

-- a loose run between two places
pub run_ends : (s : Situation) (first end : ℕ) → first < end → end ≤ blocks_of s.total s.piece_len
    → ((block : ℕ) → first ≤ block → block < end → is_loose s block ≡ true)
    → ((block : ℕ) → first ≤ block → block < end → AreAlikeAt s first block)
    → (end < blocks_of s.total s.piece_len → is_loose s end ≡ true → AreAlikeAt s first end → ⊥)
    → EndsStretch s (record { first = first; count = end - first })
run_ends s first end some within loose alike behind =
    let run : Run = record { first = first; count = end - first } in
    let is : first + (end - first) ≡ end = omega arith in
    record {
      some = omega arith;
      within = omega arith;
      loose = λ block inside. let a = in_from block run inside in let b = in_before block run inside in
          loose block a (omega arith);
      alike = λ block inside. let a = in_from block run inside in let b = in_before block run inside in
          alike block a (omega arith);
      behind = subst (λ (e : ℕ). e < blocks_of s.total s.piece_len → is_loose s e ≡ true → AreAlikeAt s first e → ⊥)
          (sym is) behind;
    }

-- No run of loose, alike blocks goes over this place: it is where a stretch may begin
abbrev pub IsCut : Situation → ℕ → Type 0
IsCut s at =
    at < blocks_of s.total s.piece_len
    → (block : ℕ) → block + 1 ≡ at → is_loose s block ≡ true → is_loose s at ≡ true → AreAlikeAt s at block → ⊥

-- the next stretch from a cut on is one
pub is_stretch : (s : Situation) (from : ℕ) (run : Run) → IsCut s from → IsNextStretch s from run → IsLooseStretch s run
is_stretch s from run cut next =
    let ends = next.ends in
    let low = next.later in
    record {
      some = ends.some;
      within = ends.within;
      loose = ends.loose;
      alike = ends.alike;
      before = λ block is loose alike. elim (cases_lt block from) [
        | inl early ↦
            let some = ends.some in
            let here : run.first ≡ from = omega arith in
            let opens : is_loose s run.first ≡ true =
            ends.loose run.first (inside run.first run (omega arith) (omega arith)) in
            cut (let bound = ends.within in omega arith) block (omega arith) loose
            (subst (λ (b : ℕ). is_loose s b ≡ true) here opens) (subst (λ (b : ℕ). AreAlikeAt s b block) here alike)
        | inr late ↦ let e : true ≡ false = sym loose ∙ next.none block late (omega arith) in cc
      ];
      behind = ends.behind;
    }

-- where it ends is a cut
pub end_is_cut : (s : Situation) (run : Run) → EndsStretch s run → IsCut s (run.first + run.count)
end_is_cut s run ends within block is loose opens alike =
    let some = ends.some in
    let here : is_in block run ≡ true = inside block run (omega arith) (omega arith) in
    ends.behind within opens (alike_further s (piece_at s run.first) (piece_at s block)
    (piece_at s (run.first + run.count))
    (ends.alike block here) (alike_turned s (piece_at s (run.first + run.count)) (piece_at s block) alike))

-- a stretch that begins from there on and before where the next one ends is the next one
pub next_is_only : (s : Situation) (from : ℕ) (run other : Run) → IsNextStretch s from run → IsLooseStretch s other
    → from ≤ other.first → other.first < run.first + run.count → other ≡ run
next_is_only s from run other next stretch low high =
    let ends = next.ends in
    let some = stretch.some in
    let one = ends.some in
    let within = stretch.within in
    let opens : is_loose s other.first ≡ true =
    stretch.loose other.first (inside other.first other (omega arith) (omega arith)) in
    elim (cases_lt other.first run.first) [
      | inl early ↦ absurd (let e : true ≡ false = sym opens ∙ next.none other.first low early in cc)
      | inr late ↦ elim (cases_eq other.first run.first) [
        | inr later ↦
            let block : ℕ = other.first - 1 in
            let before : block + 1 ≡ other.first = omega arith in
            let here : is_in block run ≡ true = inside block run (omega arith) (omega arith) in
            let there : is_in other.first run ≡ true = inside other.first run late high in
            absurd (stretch.before block before (ends.loose block here)
            (alike_further s (piece_at s other.first) (piece_at s run.first) (piece_at s block)
            (alike_turned s (piece_at s run.first) (piece_at s other.first) (ends.alike other.first there))
            (ends.alike block here)))
        | inl same ↦ same_run other run same (elim (cases_lt other.count run.count) [
          | inl shorter ↦
              let end : ℕ = other.first + other.count in
              let here : is_in end run ≡ true = inside end run (omega arith) (omega arith) in
              let bound = ends.within in
              absurd (stretch.behind (omega arith) (ends.loose end here)
              (subst (λ (f : ℕ). AreAlikeAt s f end) (sym same) (ends.alike end here)))
          | inr more ↦ elim (cases_lt run.count other.count) [
            | inl longer ↦
                let end : ℕ = run.first + run.count in
                let here : is_in end other ≡ true = inside end other (omega arith) (omega arith) in
                absurd (ends.behind (omega arith) (stretch.loose end here)
                (subst (λ (f : ℕ). AreAlikeAt s f end) same (stretch.alike end here)))
            | inr less ↦ omega arith
          ]
        ])
      ]
    ]
  where
    same_run : (a b : Run) → a.first ≡ b.first → a.count ≡ b.count → a ≡ b
    same_run a b firsts counts = λ i. record { first = firsts i; count = counts i }

-- what a test that is turned round tells
pub is_not : (b : Bool) → not b ≡ true → b ≡ false
is_not true is = sym is
is_not false _ = refl

pub isnt_not : (b : Bool) → not b ≡ false → b ≡ true
isnt_not true _ = refl
isnt_not false is = sym is
