-- What a fetch for a run of blocks brings from a mirror that holds a piece, and what pays for it.
use Rattle.std.proofs.Common.{◌≡◌, inl, inr, ℕ, zero, suc, min, ◌+◌, ◌-◌, ◌*◌, ◌<◌, ◌≤◌, ◌^◌, Bool, true, false, cond, IsTrue, List, [], ◌∷◌, ◌++◌, length, length-append, length-take, drop, map, Option, Some, refl, sym, ap, subst, ◌∙◌, arith}
use Rattle.std.specs.Prelude.{count_by, nat_le, nat_lt}
use Rattle.std.specs.List.{All, concat, slice_get}
use Rattle.std.proofs.lemmas.Bool.{cond-true, le-leb, lt-ltb}
use Rattle.std.proofs.lemmas.Bool.Decides.{nat_tests}
use Rattle.std.proofs.lemmas.List.{length-map}
use Rattle.std.proofs.lemmas.List.Elements.{All-cons, All-nil}
use Rattle.std.proofs.lemmas.List.Sums.{sum_by-cons}
use Rattle.dl_history.proofs.Bools.{and_both}
use Rattle.dl_history.proofs.Members.{Has}
use Rattle.dl_history.proofs.Sole.{run_has}
use Rattle.dl_history.specs.StandingClaims.{blocks_in}
use Rattle.piece_table.specs.Changes.{is_in}
use Rattle.conn_worker.specs.Facts.{HasUsed, IsFetchingAt, IsReady}
use Rattle.conn_worker.specs.Hands.{Fetching, LinkAt}
use Rattle.dl_kinds.specs.Plan.{block_end, block_start, blocks_of, piece_end, piece_of, piece_start}
use Rattle.dl_kinds.specs.PlanLaws.{BlocksFollow}
use Rattle.dl_kinds.specs.declared.plan.Plan.{Plan}
use Rattle.dl_kinds.specs.declared.runs.Run.{Run}
use Rattle.dl_kinds.specs.Lists.{part_at}
use Rattle.engine_turns.specs.NextRows.{IsJobOf, mirror_url}
use Rattle.fetch_session.specs.Blocks.{ready_blocks}
use Rattle.link_source.specs.Exchanges.{Exchange}
use Rattle.link_source.specs.Mirrors.{Content}
use Rattle.machine_core.specs.Starts.{Listed}
use Rattle.memory_serving_laws.specs.Alike.{AnswersKeepMirrors, LeadsAlike, LeadsAmongAlike}
use Rattle.memory_serving_laws.specs.Charges.{AreKnownOf, BadAnswersPay, IsPaidFor, differing, next_known}
use Rattle.memory_serving_laws.specs.Serving.{used_among}
use Rattle.metainfo.specs.Jobs.{mirror_part}
use Rattle.metainfo.specs.declared.meta.Meta.{Meta}
use Rattle.mirror_payloads.specs.Faithful.{run_begin, run_finish}
use Rattle.part_fetches.specs.Fetched.{Fetched}
use Rattle.request_chain.specs.Plans.{FetchEnding}
use Rattle.request_chain.specs.declared.course.TheConstants.{REDIRECT_LIMIT}
use Rattle.span_map.specs.Jobs.{run_end, run_start}
use Rattle.span_map.specs.Layout.{total_of}
use Rattle.span_map.specs.Slices.{PartsHoldSlices, slice_of}
use Rattle.span_map.specs.declared.files.FileLen.{FileLen}
use Rattle.span_map.specs.declared.files.Part.{Part}
use Rattle.span_map.specs.declared.jobs.Job.{Job}
use Rattle.span_map.specs.declared.jobs.JobPart.{JobPart}
use Rattle.stored_run.proofs.PartBytes.{starts_rise}
use Rattle.served_runs.proofs.Chosen.{below_right, byte_of_piece}
use Rattle.mark_costs.specs.Holding.{HoldsPiece}
use Rattle.mark_costs.specs.Paid.{HasRightBytes, lengths_of_meta}
use Rattle.mark_costs.proofs.Differs.{differing_none, next_at}
use Rattle.mark_costs.proofs.Known.{coded, decoded, file_within, known_byte, known_slice}

-- what is used of the libraries below
pub record PayingLaws : Type 0 where
  pub pay : BadAnswersPay
  pub keep : AnswersKeepMirrors
  pub leads : LeadsAlike
  pub among : LeadsAmongAlike
  pub hold : PartsHoldSlices
  pub follow : BlocksFollow

-- ---- lists

dropped_at : {A : Type 0} (n : ℕ) (xs : List A) (k : ℕ) → slice_get (drop n xs) k ≡ slice_get xs (n + k)
dropped_at zero xs k = ap (λ (i : ℕ). slice_get xs i) (let e : k ≡ 0 + k = omega arith in e)
dropped_at (suc n) [] k = refl
dropped_at (suc n) (x ∷ xs) k =
    dropped_at n xs k ∙ ap (λ (i : ℕ). slice_get (x ∷ xs) i) (let e : suc (n + k) ≡ suc n + k = omega arith in e)

some_at : (xs : List ℕ) (k : ℕ) → k < length xs → (r : ℕ) × (slice_get xs k ≡ Some r)
some_at [] k less = absurd (omega (arith, less))
some_at (x ∷ xs) zero less = (x, refl)
some_at (x ∷ xs) (suc k) less = some_at xs k (omega (arith, less))

all_small : (files : List FileLen) (base : List ℕ) (most : ℕ) → total_of files < most → (parts : List Part)
    → All (λ (part : JobPart). part.total < most) (map (mirror_part files base) parts)
all_small files base most few [] = All-nil (λ (part : JobPart). part.total < most)
all_small files base most few (part ∷ parts) =
    let within = file_within files part.file in
    All-cons (λ (part : JobPart). part.total < most) (mirror_part files base part) (map (mirror_part files base) parts)
    (omega (arith, within, few)) (all_small files base most few parts)

rises : (a b : Bool) → (a ≡ true → b ≡ true) → cond a 1 0 ≤ cond b 1 0
rises true true h = omega arith
rises true false h = absurd (let e = h refl in cc)
rises false true h = omega arith
rises false false h = omega arith

count_rises : (p q : ℕ → Bool) (xs : List ℕ) → ((x : ℕ) → p x ≡ true → q x ≡ true) → count_by p xs ≤ count_by q xs
count_rises p q [] more = omega arith
count_rises p q (x ∷ xs) more =
    let here = sum_by-cons (λ (y : ℕ). cond (p y) 1 0) x xs in
    let there = sum_by-cons (λ (y : ℕ). cond (q y) 1 0) x xs in
    let rest = count_rises p q xs more in
    let one = rises (p x) (q x) (more x) in
    omega (arith, here, there, rest, one)

one_more : (a b : Bool) → a ≡ false → b ≡ true → cond a 1 0 + 1 ≤ cond b 1 0
one_more true b un is = absurd cc
one_more false true un is = omega arith
one_more false false un is = absurd cc

-- one more passes the wider test
count_less : (p q : ℕ → Bool) (xs : List ℕ) (x : ℕ) → ((y : ℕ) → p y ≡ true → q y ≡ true) → Has xs x → p x ≡ false
    → q x ≡ true → count_by p xs < count_by q xs
count_less p q [] x more has un is = absurd has
count_less p q (y ∷ ys) x more (inl same) un is =
    let here = sum_by-cons (λ (z : ℕ). cond (p z) 1 0) y ys in
    let there = sum_by-cons (λ (z : ℕ). cond (q z) 1 0) y ys in
    let rest = count_rises p q ys more in
    let one = one_more (p y) (q y) (ap p same ∙ un) (ap q same ∙ is) in
    omega (arith, here, there, rest, one)
count_less p q (y ∷ ys) x more (inr later) un is =
    let here = sum_by-cons (λ (z : ℕ). cond (p z) 1 0) y ys in
    let there = sum_by-cons (λ (z : ℕ). cond (q z) 1 0) y ys in
    let rest = count_less p q ys x more later un is in
    let one = rises (p y) (q y) (more y) in
    omega (arith, here, there, rest, one)

-- no more blocks are whole: the bytes end before the end of the first block that isn't delivered
ends_before : (start handed came : ℕ) (ends : ℕ → ℕ) (run : Run) (b : ℕ) → is_in b run ≡ true → start + handed < ends b
    → min 64 (count_by (λ block. nat_le (ends block) (start + (handed + came))) (blocks_in run)
    - count_by (λ block. nat_le (ends block) (start + handed)) (blocks_in run)) ≡ 0
    → start + (handed + came) < ends b
ends_before start handed came ends run b inside before none = by (nat_le (ends b) (start + (handed + came))) refl
  where
    by : (t : Bool) → nat_le (ends b) (start + (handed + came)) ≡ t → start + (handed + came) < ends b
    by false is = grind (arith, nat_tests)
    by true is =
        let p = λ (block : ℕ). nat_le (ends block) (start + handed) in
        let q = λ (block : ℕ). nat_le (ends block) (start + (handed + came)) in
        let un : nat_le (ends b) (start + handed) ≡ false = grind (arith, nat_tests) in
        let less = count_less p q (blocks_in run) b
        (λ y le. let small : ends y ≤ start + handed = grind (arith, nat_tests) in
        let wide : nat_le (ends y) (start + (handed + came)) ≡ true = grind (arith, nat_tests) in wide)
        (run_has run b inside) un is in
        absurd (omega (arith, less, none))

-- ---- what is known

-- of the bytes of a job
abbrev pub known_of : Meta → List ℕ → ℕ → Job → List (Option ℕ)
known_of meta held piece job =
    map decoded
    (part_at
    (concat
    (coded (piece_start meta.plan.piece_len piece) (piece_end meta.plan.total meta.plan.piece_len piece) meta.layout 0 held))
    (run_start job.plan job.run) (run_end job.plan job.run - run_start job.plan job.run))

module _ (laws : PayingLaws) (tells : Bool) (true_is : IsTrue tells) (first : Content) (meta : Meta) (uris : List (List ℕ))
    (mirror : ℕ) (held : List ℕ) (among : ℕ → Bool) (piece : ℕ)
    (holds : HoldsPiece first meta (mirror_url (Listed meta uris) mirror) held among piece) where
  abbrev low : ℕ
  low = piece_start meta.plan.piece_len piece

  abbrev high : ℕ
  high = piece_end meta.plan.total meta.plan.piece_len piece

  abbrev pub IsJobFor : Run → Job → Type 0
  IsJobFor run job = IsJobOf (lengths_of_meta meta) (Listed meta uris) mirror run job

  total_is : total_of meta.layout ≡ length held
  total_is = holds.laid ∙ sym holds.has.len

  -- what comes of a job at the mirror is paid for
  pub paid_fetch : (run : Run) (job : Job) (since now : LinkAt) (used : List Exchange) (came : List ℕ) (ending : FetchEnding)
      → since.state.content.mirrors ≡ first.mirrors → IsJobFor run job → HasUsed tells since used now
      → Fetched job.parts used came ending []
      → IsPaidFor (known_of meta held piece job) came ending (used_among among since.state.content)
      (used_among among now.state.content)
  paid_fetch run job since now used came ending same is has fetched =
      let base = mirror_url (Listed meta uris) mirror in
      let parts_are : job.parts ≡ map (mirror_part meta.layout base)
      (slice_of meta.layout (run_start job.plan job.run) (run_end job.plan job.run - run_start job.plan job.run)) =
      is.parts ∙ (λ i. map (mirror_part meta.layout base)
      (slice_of meta.layout (run_start job.plan (sym is.run_is i)) (run_end job.plan (sym is.run_is i) - run_start job.plan (sym is.run_is i)))) in
      laws.pay since.state.content now.state used among job.parts (known_of meta held piece job) came ending
      (record { before = since.state.exchanges; answered = has.answered true_is; gains = has.gained true_is })
      is.sound.parts
      (subst (All (λ (part : JobPart). part.total < 2 ^ 63)) (sym parts_are)
      (all_small meta.layout base (2 ^ 63) (let small = holds.small in let total = total_is in omega (arith, small, total))
      (slice_of meta.layout (run_start job.plan job.run) (run_end job.plan job.run - run_start job.plan job.run))))
      (subst (λ (parts : List JobPart). AreKnownOf since.state.content among parts (known_of meta held piece job)) (sym parts_are)
      (known_slice since.state.content among meta.layout base held low high total_is
      (λ file some from to. laws.leads first since.state.content REDIRECT_LIMIT _ _ same
      (holds.leads file (record { some = some; from = from; to = to })))
      (λ file some from to. laws.among first since.state.content among _ same
      (holds.through file (record { some = some; from = from; to = to })))
      laws.hold (run_start job.plan job.run) (run_end job.plan job.run - run_start job.plan job.run)))
      fetched

  known_short : (job : Job)
      → length (known_of meta held piece job) ≤ run_end job.plan job.run - run_start job.plan job.run
  known_short job =
      let at : ℕ = run_start job.plan job.run in
      let len : ℕ = run_end job.plan job.run - run_start job.plan job.run in
      let all = concat (coded low high meta.layout 0 held) in
      let mapped = length-map (part_at all at len) decoded in
      let taken = length-take len (drop at all) in
      omega (arith, mapped, taken)

  -- a place of the piece is known
  known_place : (job : Job) (k r : ℕ) → k < length (known_of meta held piece job) → low ≤ run_start job.plan job.run + k
      → run_start job.plan job.run + k < high → slice_get held (run_start job.plan job.run + k) ≡ Some r
      → slice_get (known_of meta held piece job) k ≡ Some (Some r)
  known_place job k r less from before is =
      let short = known_short job in
      let at : ℕ = run_start job.plan job.run in
      let within : at + k < meta.plan.total = below_right (at + k) ((piece + 1) * meta.plan.piece_len) meta.plan.total before in
      let laid = holds.laid in
      known_byte first among meta.layout (mirror_url (Listed meta uris) mirror) held low high total_is
      (λ file some from to. holds.leads file (record { some = some; from = from; to = to }))
      (λ file some from to. holds.through file (record { some = some; from = from; to = to }))
      at (run_end job.plan job.run - run_start job.plan job.run) k r (omega (arith, short, less)) (omega (arith, within, laid)) from
      before is

  -- ---- blocks of it

  module _ (f : Fetching) (now : LinkAt) (whole : Run) (is : IsJobFor whole f.job) (at : IsFetchingAt tells f now) where
    abbrev plan : Plan
    plan = f.job.plan

    rest_within : f.rest.first < blocks_of plan.total plan.piece_len
    rest_within =
        let some = at.some in
        let end = at.carried.end in
        let within = is.sound.within in
        omega (arith, some, end, within)

    -- what is delivered ends where the rest begins
    rest_begins : run_start plan f.job.run + length f.handed ≡ block_start plan.piece_len f.rest.first
    rest_begins = at.carried.place
        ∙ cond-true (nat_lt f.rest.first (blocks_of plan.total plan.piece_len)) (block_start plan.piece_len f.rest.first) plan.total
        (lt-ltb f.rest.first (blocks_of plan.total plan.piece_len) rest_within)

    -- where no more bytes differ than before, those of the piece are right
    pub right_bytes : (run : Run) (bytes behind : List ℕ) (last : Bool) → IsReady f run bytes last
        → length ((f.handed ++ bytes) ++ behind) ≤ length (known_of meta held piece f.job)
        → differing bytes (drop (length f.handed) (known_of meta held piece f.job)) ≡ 0
        → HasRightBytes (lengths_of_meta meta) held piece run bytes
    right_bytes run bytes behind last ready few none place of_piece of_run =
        let known = known_of meta held piece f.job in
        let begin : run_begin (lengths_of_meta meta) run ≡ run_start plan run =
        ap (λ (n : ℕ). block_start n run.first) (sym is.piece_len) in
        let finish : run_finish (lengths_of_meta meta) run ≡ run_end plan run =
        λ i. block_end (sym is.total i) (sym is.piece_len i) (run.first + run.count - 1) in
        let here : run_start plan f.job.run + length f.handed ≡ run_start plan run =
        rest_begins ∙ ap (block_start plan.piece_len) (sym ready.first) in
        let len = ready.len in
        let from = of_run.from in
        let before = of_run.before in
        let k : ℕ = place - run_begin (lengths_of_meta meta) run in
        let less : k < length bytes = omega (arith, begin, finish, len, from, before) in
        let there : run_start plan f.job.run + (length f.handed + k) ≡ place = omega (arith, begin, here, from) in
        let two = length-append (f.handed ++ bytes) behind in
        let one = length-append f.handed bytes in
        let high_is = of_piece.before in
        let low_is = of_piece.from in
        let total : place < meta.plan.total = below_right place ((piece + 1) * meta.plan.piece_len) meta.plan.total of_piece.before in
        let long = holds.has.len in
        let byte = some_at held place (omega (arith, total, long)) in
        let known_is : slice_get known (length f.handed + k) ≡ Some (Some byte.0) =
        known_place f.job (length f.handed + k) byte.0 (omega (arith, few, one, two, less)) (omega (arith, there, low_is))
        (omega (arith, there, high_is)) (ap (λ (i : ℕ). slice_get held i) there ∙ byte.1) in
        differing_none bytes (drop (length f.handed) known) none k byte.0 less
        (dropped_at (length f.handed) known k ∙ known_is) ∙ sym byte.1

    -- ---- where they end

    rest_from : f.job.run.first ≤ f.rest.first
    rest_from = by (nat_lt f.rest.first f.job.run.first) refl
      where
        by : (t : Bool) → nat_lt f.rest.first f.job.run.first ≡ t → f.job.run.first ≤ f.rest.first
        by false less = grind (arith, nat_tests)
        by true less =
            let under : f.rest.first < f.job.run.first = grind (arith, nat_tests) in
            let some = is.sound.some in
            let within = is.sound.within in
            let step = laws.follow plan.total plan.piece_len f.rest.first plan.is_plan rest_within in
            let long = step.some in
            let next = step.next (omega (arith, under, some, within)) in
            let rise = starts_rise laws.follow plan.total plan.piece_len plan.is_plan (f.rest.first + 1) f.job.run.first
            (omega (arith, under)) (omega (arith, some, within)) in
            let begins = rest_begins in
            absurd (omega (arith, long, next, rise, begins))

    rest_inside : is_in f.rest.first f.job.run ≡ true
    rest_inside =
        let some = at.some in
        let end = at.carried.end in
        let p : nat_le f.job.run.first f.rest.first ≡ true = le-leb f.job.run.first f.rest.first rest_from in
        let q : nat_lt f.rest.first (f.job.run.first + f.job.run.count) ≡ true =
        lt-ltb f.rest.first (f.job.run.first + f.job.run.count) (omega (arith, some, end)) in
        and_both (nat_le f.job.run.first f.rest.first) (nat_lt f.rest.first (f.job.run.first + f.job.run.count)) p q

    -- where the bytes of the first block that isn't delivered are of the piece, the loss of it is paid for
    pub lost_known_next : (came : List ℕ)
        → (ready_blocks plan f.job.run (length f.handed) (length f.handed + length came)).count ≡ 0
        → piece_of meta.plan.piece_len f.rest.first ≡ piece
        → length (f.handed ++ came) < length (known_of meta held piece f.job)
        → next_known (drop (length (f.handed ++ came)) (known_of meta held piece f.job)) ≡ 1
    lost_known_next came none of less =
        let step = laws.follow plan.total plan.piece_len f.rest.first plan.is_plan rest_within in
        let long = step.some in
        let begins = rest_begins in
        let both = length-append f.handed came in
        let start : ℕ = run_start plan f.job.run in
        let ends = ends_before start (length f.handed) (length came) (block_end plan.total plan.piece_len) f.job.run f.rest.first
        rest_inside (omega (arith, begins, long)) none in
        let k : ℕ = length (f.handed ++ came) in
        let its = byte_of_piece plan.total plan.piece_len f.rest.first (start + k) (omega (arith, both, begins))
        (omega (arith, both, ends)) in
        let same : piece_of plan.piece_len f.rest.first ≡ piece =
        ap (λ (n : ℕ). piece_of n f.rest.first) is.piece_len ∙ of in
        let from : low ≤ start + k =
        subst (λ (n : ℕ). n ≤ start + k) (λ i. piece_start (is.piece_len i) (same i)) its.0 in
        let before : start + k < high =
        subst (λ (n : ℕ). start + k < n) (λ i. piece_end (is.total i) (is.piece_len i) (same i)) its.1 in
        let total : start + k < meta.plan.total =
        below_right (start + k) ((piece + 1) * meta.plan.piece_len) meta.plan.total before in
        let held_long = holds.has.len in
        let byte = some_at held (start + k) (omega (arith, total, held_long)) in
        next_at (known_of meta held piece f.job) k byte.0 (known_place f.job k byte.0 less from before byte.1)
