-- Free stretches of which a mirror may give all pieces.
use Rattle.std.proofs.Common.{◌≡◌, ℕ, ◌+◌, ◌-◌, ◌*◌, ◌/◌, ◌%◌, ◌<◌, ◌≤◌, Bool, true, false, [], refl, sym, ap, ◌∙◌, subst, inl, inr, arith}
use Rattle.std.specs.Prelude.{◌&&◌, not, slice_index_or}
use Rattle.std.specs.List.{list_any}
use Rattle.std.proofs.Math.Nat.{mul-le-mul_right}
use Rattle.std.proofs.lemmas.Bool.{cases_lt}
use Rattle.std.proofs.lemmas.Nat.{div-add-mod', div-mul-add, mod_below}
use Rattle.dl_kinds.proofs.Cuts.{blocks_within, number, piece_within, some_blocks}
use Rattle.dl_kinds.specs.Plan.{IsPlan, blocks_of, blocks_of_piece, full_blocks, pieces_of}
use Rattle.dl_kinds.specs.declared.runs.Run.{Run}
use Rattle.mirror_blame.specs.Marks.{IsEligible, IsEligibleForAll}
use Rattle.segment_claim.specs.Free.{AreAlikeAt, IsFreeStretch, IsLooseStretch, is_claimed, is_free, is_loose, is_open_at, piece_at}
use Rattle.segment_claim.specs.Situation.{Situation, mirror_count}
use Rattle.segment_claim.proofs.Alike.{alike_further, alike_same, alike_turned}
use Rattle.segment_claim.proofs.LooseRuns.{in_before, in_from}
use Rattle.claim_choices.specs.Found.{HasFreeWork}
use Rattle.claim_choices.proofs.Extremes.{IsGreatest, greatest_of}

-- the mirror has a try left for each piece of the stretch
pub record IsStretchFor (s : Situation) (mirror : ℕ) (run : Run) : Type 0 where
  pub stretch : IsFreeStretch s run
  pub eligible : IsEligibleForAll s.max_tries s.marks mirror (piece_at s run.first)
      (piece_at s (run.first + run.count - 1))

-- ---- blocks

all_three : (a b c : Bool) → a ≡ true → b ≡ false → c ≡ false → (a && not b && not c) ≡ true
all_three true false false _ _ _ = refl
all_three false b c is _ _ = is
all_three true true c _ is _ = sym is
all_three true false true _ _ is = sym is

-- where no claim stands, a block that is to come and isn't landed is free
pub free_is : (s : Situation) (block : ℕ) → s.standing ≡ [] → slice_index_or s.wanted (piece_at s block) false ≡ true
    → slice_index_or s.landed block false ≡ false → is_free s block ≡ true
free_is s block none wanted missing =
    all_three (slice_index_or s.wanted (piece_at s block) false) (slice_index_or s.landed block false)
    (is_claimed s block) wanted missing (ap (λ standing. list_any (is_open_at s block) standing) none)

-- of each piece between those of two blocks a block stands between them
between : (size first last piece : ℕ) → 1 ≤ size → first ≤ last → first / size ≤ piece → piece ≤ last / size
    → (block : ℕ) × (first ≤ block) × (block ≤ last) × (block / size ≡ piece)
between size first last piece some order low high =
    let last_parts : last / size * size + last % size ≡ last = div-add-mod' last size in
    let parts : first / size * size + first % size ≡ first = div-add-mod' first size in
    let place : first % size < size = mod_below first size some in
    let below : piece * size ≤ last / size * size = mul-le-mul_right size high in
    elim (cases_lt first (piece * size)) [
      | inl before ↦ (
        piece * size,
        omega arith,
        omega arith,
        ap (λ (n : ℕ). n / size) (let e : piece * size ≡ piece * size + 0 = omega arith in e)
            ∙ div-mul-add piece size 0 (omega arith),
      )
      | inr from ↦ (
        first,
        omega arith,
        order,
        elim (cases_lt (first / size) piece) [
          | inl less ↦
              let step : (first / size + 1) * size ≤ piece * size = mul-le-mul_right size (omega (arith, less)) in
              absurd (omega arith)
          | inr more ↦ omega arith
        ],
      )
    ]

-- ---- loose stretches

-- a run of loose blocks around this one, whose pieces are alike
record IsAround (s : Situation) (block : ℕ) (run : Run) : Type 0 where
  from : run.first ≤ block
  to : block < run.first + run.count
  within : run.first + run.count ≤ blocks_of s.total s.piece_len
  loose : (other : ℕ) → run.first ≤ other → other < run.first + run.count → is_loose s other ≡ true
  alike : (other : ℕ) → run.first ≤ other → other < run.first + run.count → AreAlikeAt s block other

record HasCount (s : Situation) (block n : ℕ) : Type 0 where
  run : Run
  around : IsAround s block run
  is : run.count ≡ n

-- the block alone
alone : (s : Situation) (block : ℕ) → block < blocks_of s.total s.piece_len → is_loose s block ≡ true
    → IsAround s block (record { first = block; count = 1 })
alone s block within loose = record {
  from = omega arith;
  to = omega arith;
  within = omega arith;
  loose = λ other low high. let e : block ≡ other = omega arith in subst (λ (b : ℕ). is_loose s b ≡ true) e loose;
  alike = λ other low high. let e : block ≡ other = omega arith in
      subst (λ (b : ℕ). AreAlikeAt s block b) e (alike_same s (piece_at s block));
}

-- one block more, before it or behind it
wider_before : (s : Situation) (block before : ℕ) (run : Run) → IsAround s block run → before + 1 ≡ run.first
    → is_loose s before ≡ true → AreAlikeAt s run.first before
    → IsAround s block (record { first = before; count = run.count + 1 })
wider_before s block before run around is loose alike =
    let from = around.from in
    let to = around.to in
    let within = around.within in
    let first : AreAlikeAt s block run.first = around.alike run.first (omega arith) (omega arith) in
    record {
      from = omega arith;
      to = omega arith;
      within = omega arith;
      loose = λ other low high. elim (cases_lt before other) [
        | inl later ↦ around.loose other (omega arith) (omega arith)
        | inr here ↦ let e : before ≡ other = omega arith in subst (λ (b : ℕ). is_loose s b ≡ true) e loose
      ];
      alike = λ other low high. elim (cases_lt before other) [
        | inl later ↦ around.alike other (omega arith) (omega arith)
        | inr here ↦ let e : before ≡ other = omega arith in
            subst (λ (b : ℕ). AreAlikeAt s block b) e
            (alike_further s (piece_at s block) (piece_at s run.first) (piece_at s before) first alike)
      ];
    }

wider_behind : (s : Situation) (block : ℕ) (run : Run) → IsAround s block run
    → run.first + run.count < blocks_of s.total s.piece_len
    → is_loose s (run.first + run.count) ≡ true → AreAlikeAt s run.first (run.first + run.count)
    → IsAround s block (record { first = run.first; count = run.count + 1 })
wider_behind s block run around room loose alike =
    let from = around.from in
    let to = around.to in
    let first : AreAlikeAt s block run.first = around.alike run.first (omega arith) (omega arith) in
    record {
      from = from;
      to = omega arith;
      within = omega arith;
      loose = λ other low high. elim (cases_lt other (run.first + run.count)) [
        | inl before ↦ around.loose other low before
        | inr here ↦ let e : run.first + run.count ≡ other = omega arith in
            subst (λ (b : ℕ). is_loose s b ≡ true) e loose
      ];
      alike = λ other low high. elim (cases_lt other (run.first + run.count)) [
        | inl before ↦ around.alike other low before
        | inr here ↦ let e : run.first + run.count ≡ other = omega arith in
            subst (λ (b : ℕ). AreAlikeAt s block b) e
            (alike_further s (piece_at s block) (piece_at s run.first) (piece_at s (run.first + run.count)) first alike)
      ];
    }

-- a longest one is a free stretch
longest_is_stretch : (s : Situation) (block n : ℕ) (longest : IsGreatest (HasCount s block) n)
    → IsLooseStretch s longest.is.run
longest_is_stretch s block n longest =
    let run = longest.is.run in
    let around = longest.is.around in
    let count = longest.is.is in
    let from = around.from in
    let to = around.to in
    let first : AreAlikeAt s block run.first = around.alike run.first (omega arith) (omega arith) in
    record {
      some = omega arith;
      within = around.within;
      loose = λ other inside. around.loose other (in_from other run inside) (in_before other run inside);
      alike = λ other inside. alike_further s (piece_at s run.first) (piece_at s block) (piece_at s other)
          (alike_turned s (piece_at s block) (piece_at s run.first) first)
          (around.alike other (in_from other run inside) (in_before other run inside));
      before = λ before is loose alike.
          let more = longest.most (run.count + 1) (record {
            run = record { first = before; count = run.count + 1 };
            around = wider_before s block before run around is loose alike;
            is = refl;
          }) in omega arith;
      behind = λ room loose alike.
          let more = longest.most (run.count + 1) (record {
            run = record { first = run.first; count = run.count + 1 };
            around = wider_behind s block run around room loose alike;
            is = refl;
          }) in omega arith;
    }

-- a mirror with a try left for the block's piece has one for each piece of such a run
around_eligible : (s : Situation) (block mirror : ℕ) (run : Run) → IsPlan s.total s.piece_len → IsAround s block run
    → mirror < mirror_count s → IsEligible s.max_tries s.marks mirror (piece_at s block)
    → IsEligibleForAll s.max_tries s.marks mirror (piece_at s run.first) (piece_at s (run.first + run.count - 1))
around_eligible s block mirror run plan around known eligible piece low high =
    let from = around.from in
    let to = around.to in
    let some = plan.some in
    let at = between (full_blocks s.piece_len) run.first (run.first + run.count - 1) piece (omega (arith, some))
    (omega arith) low high in
    let before = at.2 in
    subst (λ (p : ℕ). IsEligible s.max_tries s.marks mirror p) at.3
    ((around.alike at.0 at.1 (omega arith) mirror known).0 eligible)

loose_found : (s : Situation) (block : ℕ) (work : HasFreeWork s block)
    → slice_index_or s.sole (piece_at s block) false ≡ false → ¬ ((run : Run) → ¬ IsStretchFor s work.mirror run)
loose_found s block work shared none =
    let free : is_free s block ≡ true = free_is s block work.none work.wanted work.missing in
    let loose : is_loose s block ≡ true = ap (λ (b : Bool). b && not (slice_index_or s.sole (piece_at s block) false)) free
    ∙ ap not shared in
    greatest_of (HasCount s block) (blocks_of s.total s.piece_len) 1
    (λ n has. let within = has.around.within in let is = has.is in omega arith)
    (record { run = record { first = block; count = 1 }; around = alone s block work.within loose; is = refl })
    (λ n longest. none longest.is.run (record {
      stretch = inl (longest_is_stretch s block n longest);
      eligible =
          around_eligible s block work.mirror longest.is.run work.plan longest.is.around work.known work.eligible;
    }))

-- ---- sole pieces

sole_run : Situation → ℕ → Run
sole_run s piece =
    record { first = piece * full_blocks s.piece_len; count = blocks_of_piece s.total s.piece_len piece }

-- the piece of each of its blocks
sole_inside : (s : Situation) (piece block : ℕ) → IsPlan s.total s.piece_len → piece < pieces_of s.total s.piece_len
    → piece * full_blocks s.piece_len ≤ block
    → block < piece * full_blocks s.piece_len + blocks_of_piece s.total s.piece_len piece
    → (piece_at s block ≡ piece) × (block < blocks_of s.total s.piece_len)
sole_inside s piece block plan known low high =
    let within = blocks_within s.total s.piece_len piece plan.some known in
    let at = number s.total s.piece_len piece (block - piece * full_blocks s.piece_len) plan.some (omega arith) in
    let is : piece * full_blocks s.piece_len + (block - piece * full_blocks s.piece_len) ≡ block = omega arith in
    (ap (piece_at s) (sym is) ∙ at.of, omega arith)

sole_found : (s : Situation) (block : ℕ) (work : HasFreeWork s block)
    → slice_index_or s.sole (piece_at s block) false ≡ true
    → IsStretchFor s work.mirror (record {
      first = piece_at s block * full_blocks s.piece_len;
      count = blocks_of_piece s.total s.piece_len (piece_at s block);
    })
sole_found s block work sole =
    let piece = piece_at s block in
    let first = piece * full_blocks s.piece_len in
    let count = blocks_of_piece s.total s.piece_len piece in
    let known : piece < pieces_of s.total s.piece_len = piece_within s.total s.piece_len block work.plan.some work.within in
    let some : 1 ≤ count = some_blocks s.total s.piece_len piece work.plan.some known in
    let at_first = (sole_inside s piece first work.plan known (omega arith) (omega arith)).0 in
    let at_last = (sole_inside s piece (first + count - 1) work.plan known (omega arith) (omega arith)).0 in
    record {
      stretch = inr (record {
        piece = piece;
        known = known;
        sole = sole;
        first = refl;
        count = refl;
        free = λ other inside.
            let is = sole_inside s piece other work.plan known
            (in_from other (record { first = first; count = count }) inside)
            (in_before other (record { first = first; count = count }) inside) in
            free_is s other work.none
            (subst (λ (p : ℕ). slice_index_or s.wanted p false ≡ true) (sym is.0) work.wanted)
            (work.whole sole other is.1 is.0);
      });
      eligible = λ other low high.
          let same : piece ≡ other = omega arith in
          subst (λ (p : ℕ). IsEligible s.max_tries s.marks work.mirror p) same work.eligible;
    }

-- ---- both

pub stretch_found : (s : Situation) (block : ℕ) (work : HasFreeWork s block)
    → ¬ ((run : Run) → ¬ IsStretchFor s work.mirror run)
stretch_found s block work =
    elim (slice_index_or s.sole (piece_at s block) false) as
    (λ (b : Bool). slice_index_or s.sole (piece_at s block) false ≡ b → ¬ ((run : Run) → ¬ IsStretchFor s work.mirror run)) [
      | true ↦ λ sole none. none _ (sole_found s block work sole)
      | false ↦ λ shared. loose_found s block work shared
    ] refl

-- a free stretch is of blocks of the payload
pub stretch_within : (s : Situation) (run : Run) → IsPlan s.total s.piece_len → IsFreeStretch s run
    → run.count ≤ blocks_of s.total s.piece_len
stretch_within s run plan (inl loose) = let within = loose.within in omega arith
stretch_within s run plan (inr sole) =
    let within = blocks_within s.total s.piece_len sole.piece plan.some sole.known in
    let count = sole.count in
    omega arith
