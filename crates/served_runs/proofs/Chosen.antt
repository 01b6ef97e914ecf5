-- What a run of blocks has of pieces that options choose, and of files.
use Rattle.std.proofs.Common.{◌≡◌, ⊎_elim, ℕ, zero, suc, ◌+◌, ◌-◌, ◌*◌, ◌<◌, ◌≤◌, max, min, List, [], ◌∷◌, ◌++◌, length, length-append, take, append_assoc, refl, sym, ap, subst, ◌∙◌, arith}
use Rattle.std.specs.Prelude.{Contains, nat_le, nat_lt, Some, true}
use Rattle.std.specs.List.{All}
use Rattle.std.proofs.Math.Seq.{take-append_seam}
use Rattle.std.proofs.lemmas.Bool.{cases_lt, le-leb, lt-ltb}
use Rattle.std.proofs.lemmas.List.Elements.{All-append, All-cons, All-head, All-nil, All-tail}
use Rattle.std.proofs.lemmas.List.Sums.{sum_by-append, sum_by-cons}
use Rattle.blameless_mirrors.proofs.ListedLengths.{known_listed, lengths_told}
use Rattle.blameless_mirrors.specs.Chosen.{ClaimsAreOfChosen}
use Rattle.dl_history.proofs.Bools.{and_both}
use Rattle.dl_kinds.specs.Plan.{IsPlan, block_end, block_start, blocks_of, piece_end, piece_of, piece_start, place_of}
use Rattle.dl_kinds.specs.PlanLaws.{BlocksFollow}
use Rattle.dl_kinds.specs.declared.claims.Claim.{Claim}
use Rattle.dl_kinds.specs.declared.gid.Gid.{Gid}
use Rattle.dl_kinds.specs.declared.runs.Run.{Run}
use Rattle.engine_turns.specs.NextRows.{IsJobOf}
use Rattle.machine_core.specs.OwnParts.{PayloadLengths}
use Rattle.machine_core.specs.RunLegal.{IsLegal, download_in, known_lengths}
use Rattle.machine_core.specs.Starts.{Download, Listed, RunStart, Subject, Unlisted}
use Rattle.machine_core.specs.declared.events.Event.{Event}
use Rattle.machine_core.specs.declared.events.Event.TheVariants.{Claimed}
use Rattle.metainfo.specs.Jobs.{len_of_file}
use Rattle.metainfo.specs.declared.meta.Meta.{Meta}
use Rattle.option_set.specs.Values.{OptionValues}
use Rattle.piece_table.specs.Changes.{is_in}
use Rattle.span_map.specs.Jobs.{run_end, run_start}
use Rattle.span_map.specs.Layout.{total_of}
use Rattle.span_map.specs.Slices.{IsPart, part_of, parts_from, slice_of}
use Rattle.span_map.specs.declared.files.FileLen.{FileLen}
use Rattle.span_map.specs.declared.files.Part.{Part}
use Rattle.span_map.specs.declared.jobs.Job.{Job}
use Rattle.span_map.proofs.Windows.{part_none, part_some, slice_parts}
use Rattle.served_runs.specs.ServingLaws.{IsChosenByte, IsChosenJob, IsChosenRun}
use Rattle.served_runs.specs.Serving.{IsFileOfChosen}

-- ---- parts of files

module _ (files : List FileLen) (low high : ℕ) where
  -- the part begins within the slice
  abbrev BeginsWithin : Part → Type 0
  BeginsWithin part =
      (low ≤ total_of (take part.file files) + part.at) × (total_of (take part.file files) + part.at < high)

  one_begins : (n start len : ℕ) → total_of (take n files) ≡ start → All BeginsWithin (part_of n start len low high)
  one_begins n start len is = ⊎_elim
      (λ (meet : max start low < min (start + len) high).
      subst (All BeginsWithin) (sym (part_some n start len low high meet))
      (All-cons BeginsWithin (record { file = n; at = max start low - start; len = min (start + len) high - max start low }) []
      (omega (arith, is), omega (arith, is, meet)) (All-nil BeginsWithin)))
      (λ (apart : min (start + len) high ≤ max start low).
      subst (All BeginsWithin) (sym (part_none n start len low high apart)) (All-nil BeginsWithin))
      (cases_lt (max start low) (min (start + len) high))

  all_begin : (before xs : List FileLen) (n start : ℕ) → files ≡ before ++ xs → length before ≡ n → total_of before ≡ start
      → All BeginsWithin (parts_from n start xs low high)
  all_begin before [] n start is count sum = All-nil BeginsWithin
  all_begin before (x ∷ xs) n start is count sum =
      let front : take n files ≡ before =
      ap (take n) is ∙ (ap (λ (k : ℕ). take k (before ++ x ∷ xs)) (sym count) ∙ take-append_seam before (x ∷ xs)) in
      let both = sum_by-append (λ (file : FileLen). file.len) before (x ∷ []) in
      let one = sum_by-cons (λ (file : FileLen). file.len) x [] in
      let long = length-append before (x ∷ []) in
      All-append BeginsWithin (part_of n start x.len low high) (parts_from (n + 1) (start + x.len) xs low high)
      (one_begins n start x.len (ap total_of front ∙ sum))
      (all_begin (before ++ x ∷ []) xs (n + 1) (start + x.len) (is ∙ sym (append_assoc before (x ∷ []) xs))
      (omega (arith, count, long)) (omega (arith, both, one, sum)))

all_of_both : (P Q R : Part → Type 0) → ((part : Part) → P part → Q part → R part) → (parts : List Part) → All P parts → All Q parts
    → All R parts
all_of_both P Q R so [] ps qs = All-nil R
all_of_both P Q R so (part ∷ parts) ps qs =
    All-cons R part parts (so part (All-head P part parts ps) (All-head Q part parts qs))
    (all_of_both P Q R so parts (All-tail P part parts ps) (All-tail Q part parts qs))

-- ---- blocks of runs

above : (a b c : ℕ) → a + b ≤ c → a ≤ c
above a b c le = omega arith

pub below_right : (a b c : ℕ) → a < min b c → a < c
below_right a b c less = omega arith

-- a byte of a block is one of its piece
pub byte_of_piece : (total len b at : ℕ) → block_start len b ≤ at → at < block_end total len b
    → (piece_start len (piece_of len b) ≤ at) × (at < piece_end total len (piece_of len b))
byte_of_piece total len b at from before = (
  above (piece_start len (piece_of len b)) (place_of len b * 16384) at from,
  below_right at (block_start len b + 16384) (piece_end total len (piece_of len b)) before,
)

-- the byte is of the block, which is one of so many from the first on
record IsByteAmong (total len first count at : ℕ) : Type 0 where
  block : ℕ
  from_first : first ≤ block
  to_last : block < first + count
  from : block_start len block ≤ at
  before : at < block_end total len block

byte_among : BlocksFollow → (total len first more at : ℕ) → IsPlan total len → first + suc more ≤ blocks_of total len
    → block_start len first ≤ at → at < block_end total len (first + more) → IsByteAmong total len first (suc more) at
byte_among follow total len first zero at plan within from before = record {
  block = first;
  from_first = omega arith;
  to_last = omega arith;
  from = from;
  before = subst (λ (b : ℕ). at < block_end total len b) (let e : first + 0 ≡ first = omega arith in e) before;
}
byte_among follow total len first (suc more) at plan within from before = ⊎_elim
    (λ (here : at < block_end total len first). record {
      block = first;
      from_first = omega arith;
      to_last = omega arith;
      from = from;
      before = here;
    })
    (λ (later : block_end total len first ≤ at).
    let next = (follow total len first plan (omega (arith, within))).next (omega (arith, within)) in
    let rest = byte_among follow total len (first + 1) more at plan (omega (arith, within)) (omega (arith, later, next))
    (subst (λ (b : ℕ). at < block_end total len b) (let e : first + suc more ≡ first + 1 + more = omega arith in e) before) in
    let low = rest.from_first in
    let high = rest.to_last in
    record {
      block = rest.block;
      from_first = omega (arith, low);
      to_last = omega (arith, high);
      from = rest.from;
      before = rest.before;
    })
    (cases_lt at (block_end total len first))

byte_of_run : BlocksFollow → (total len at : ℕ) (run : Run) → IsPlan total len → 0 < run.count
    → run.first + run.count ≤ blocks_of total len → block_start len run.first ≤ at
    → at < block_end total len (run.first + run.count - 1) → IsByteAmong total len run.first run.count at
byte_of_run follow total len at run plan some within from before =
    let more : suc (run.count - 1) ≡ run.count = omega (arith, some) in
    subst (λ (n : ℕ). IsByteAmong total len run.first n at) more
    (byte_among follow total len run.first (run.count - 1) at plan (omega (arith, within, more)) from
    (subst (λ (b : ℕ). at < block_end total len b)
    (let e : run.first + run.count - 1 ≡ run.first + (run.count - 1) = omega (arith, some) in e) before))

-- ---- files of a run

-- each part of a run's slice is of a file of which a chosen piece has bytes
pub files_chosen : (meta : Meta) (uris : List (List ℕ)) (options : OptionValues) (mirror : ℕ) (lengths : PayloadLengths) (run : Run)
    (job : Job) → IsChosenJob options lengths (Listed meta uris) mirror run job
    → ((part : Part) → IsPart meta.layout part → part.at + part.len ≤ len_of_file meta.layout part.file)
    → All (λ (part : Part). IsFileOfChosen meta options part.file)
    (slice_of meta.layout (run_start job.plan run) (run_end job.plan run - run_start job.plan run))
files_chosen meta uris options mirror lengths run job is ends =
    let files = meta.layout in
    let at : ℕ = run_start job.plan run in
    let len : ℕ = run_end job.plan run - run_start job.plan run in
    let begin : run_start job.plan run ≡ block_start lengths.piece_len run.first =
    ap (λ (n : ℕ). block_start n run.first) is.of.piece_len in
    let finish : run_end job.plan run ≡ block_end lengths.total lengths.piece_len (run.first + run.count - 1) =
    λ i. block_end (is.of.total i) (is.of.piece_len i) (run.first + run.count - 1) in
    all_of_both (IsPart files) (BeginsWithin files at (at + len)) (λ (part : Part). IsFileOfChosen meta options part.file)
    (λ part fits begins.
    let place : ℕ = total_of (take part.file files) + part.at in
    let from = begins.0 in
    let before = begins.1 in
    let byte : IsChosenByte meta options place =
    is.chosen place (omega (arith, from, begin)) (omega (arith, before, finish)) in
    let end = ends part fits in
    let some = fits.some in
    let low = byte.from in
    let high = byte.before in
    record {
      piece = byte.piece;
      chosen = byte.chosen;
      of = record { some = omega (arith, end, some); from = omega (arith, high); to = omega (arith, low, end, some) };
    })
    (slice_of files at len) (slice_parts files at len) (all_begin files at (at + len) [] files 0 0 refl refl refl)

-- ---- the runs of claims

module _ (follow : BlocksFollow) (claims : ClaimsAreOfChosen) (start : RunStart) (past : List Event) (gid : Gid) (download : Download)
    (legal : IsLegal start past) (added : download_in start past gid ≡ Some download) where
  run_chosen : (subject : Subject) → download.subject ≡ subject → (mirror : ℕ) (claim : Claim) (job : Job)
      → Contains past (Claimed gid claim) → IsJobOf (known_lengths start past gid) subject mirror claim.run job
      → IsChosenRun subject download.options (known_lengths start past gid) claim.run
  run_chosen (Unlisted uris) subject_is mirror claim job there is = tt
  run_chosen (Listed meta uris) subject_is mirror claim job there is = λ at from before.
      let known : known_lengths start past gid ≡ lengths_told meta =
      known_listed start past gid download meta uris added subject_is in
      let total : job.plan.total ≡ meta.plan.total = is.total ∙ ap (λ (l : PayloadLengths). l.total) known in
      let len : job.plan.piece_len ≡ meta.plan.piece_len = is.piece_len ∙ ap (λ (l : PayloadLengths). l.piece_len) known in
      let same : job.run.count ≡ claim.run.count = ap (λ (r : Run). r.count) is.run_is in
      let place : job.run.first ≡ claim.run.first = ap (λ (r : Run). r.first) is.run_is in
      let some = is.sound.some in
      let within = is.sound.within in
      let byte : IsByteAmong job.plan.total job.plan.piece_len claim.run.first claim.run.count at =
      byte_of_run follow job.plan.total job.plan.piece_len at claim.run job.plan.is_plan (omega (arith, some, same))
      (omega (arith, within, same, place)) (subst (λ (n : ℕ). block_start n claim.run.first ≤ at) (sym is.piece_len) from)
      (subst (λ (l : PayloadLengths). at < block_end l.total l.piece_len (claim.run.first + claim.run.count - 1))
      (λ i. record { total = sym is.total i; piece_len = sym is.piece_len i }) before) in
      let low = byte.from_first in
      let high = byte.to_last in
      let inside : is_in byte.block claim.run ≡ true =
      and_both (nat_le claim.run.first byte.block) (nat_lt byte.block (claim.run.first + claim.run.count))
      (le-leb claim.run.first byte.block low) (lt-ltb byte.block (claim.run.first + claim.run.count) high) in
      let of = byte_of_piece job.plan.total job.plan.piece_len byte.block at byte.from byte.before in
      record {
        piece = piece_of meta.plan.piece_len byte.block;
        chosen = claims start past gid download meta uris legal added subject_is claim there byte.block inside;
        from = subst (λ (n : ℕ). piece_start n (piece_of n byte.block) ≤ at) len of.0;
        before = subst (λ (l : PayloadLengths). at < piece_end l.total l.piece_len (piece_of l.piece_len byte.block))
            (λ i. record { total = total i; piece_len = len i }) of.1;
      }

  pub job_chosen : (mirror : ℕ) (claim : Claim) (job : Job) → Contains past (Claimed gid claim)
      → IsJobOf (known_lengths start past gid) download.subject mirror claim.run job
      → IsChosenJob download.options (known_lengths start past gid) download.subject mirror claim.run job
  job_chosen mirror claim job there is =
      record { of = is; chosen = run_chosen download.subject refl mirror claim job there is }
