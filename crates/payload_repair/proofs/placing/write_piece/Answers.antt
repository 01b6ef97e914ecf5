use Rattle.std.proofs.Common.{◌≡◌, ◌∙◌, ap, sym, ℕ, ◌+◌, ◌*◌, ◌≤◌, true, false, length, arith}
use Rattle.std.specs.Prelude.{nat_lt}
use Rattle.std.specs.Int.{div_ceil}
use Rattle.std.specs.List.{range_with_len}
use Rattle.std.proofs.lemmas.Bool.{lt-ltb, le-ltb}
use Rattle.std.proofs.lemmas.List.FromFn.{length-range_with_len}
use Rattle.dl_kinds.specs.declared.plan.TheConstants.{BLOCK_LEN}
use Rattle.merkle_trees.specs.Places.{differing_places}
use Rattle.payload_repair.specs.Jobs.{hashed}
use Rattle.payload_repair.specs.Pieces.{piece_starts_at, piece_ends_at}
use Rattle.payload_repair.specs.Repairs.{places_by_leaves}
use Rattle.payload_repair.proofs.PieceLemmas.{length-leaves}
use Rattle.payload_repair.proofs.PlacingLemmas.{place_steps, places_short, places_whole, few_differ}
use Rattle.payload_repair.proofs.StepLemmas.{if_ok_then}
use Rattle.payload_repair.proofs.placing.write_piece.Goals as goal

pub returns-then-job-clause-count : goal.returns-then-job-clause-count
returns-then-job-clause-count g c =
    let job = c.args.job.now in
    let places = places_short job.len job.plan.total c.args.own.now c.args.copy.now c.if-job.true in
    let leaves : length c.args.copy.now ≡ div_ceil (length c.args.bytes.now) BLOCK_LEN = ap length c.requires.copy ∙ length-leaves c.args.bytes.now in
    if_ok_then c.write_all.result (λ (count : ℕ). count ≡ div_ceil (length c.args.bytes.now) BLOCK_LEN) (λ (count : ℕ). count ≡ length (places_by_leaves (nat_lt job.len job.plan.total) c.args.own.now c.args.copy.now))
    (λ count is. is ∙ sym leaves ∙ sym (length-range_with_len 0 (length c.args.copy.now)) ∙ ap length (sym places))
    c.write_all.ensures.count

pub returns-then-job-clause-steps : goal.returns-then-job-clause-steps
returns-then-job-clause-steps g c told =
    let job = c.args.job.now in
    let span = c.piece_span-start.ensures in
    let n = length c.args.bytes.now in
    let leaves : length c.args.copy.now ≡ div_ceil n BLOCK_LEN = ap length c.requires.copy ∙ length-leaves c.args.bytes.now in
    let start = c.piece_span-start.result.0 in
    let ends : start + n ≡ piece_ends_at (hashed job) c.args.piece = omega (arith, span.start, span.end, c.requires.room) in
    place_steps job true (nat_lt job.len job.plan.total) start (piece_starts_at (hashed job) c.args.piece) (start + n) (piece_ends_at (hashed job) c.args.piece)
    (range_with_len 0 (div_ceil n BLOCK_LEN)) (places_by_leaves (nat_lt job.len job.plan.total) c.args.own.now c.args.copy.now)
    (g.D.Disk.state c.args.disk.now) (g.D.Disk.state c.write_all.new.disk)
    (sym (lt-ltb job.len job.plan.total c.if-job.true)) span.start ends
    (ap (range_with_len 0) (sym leaves) ∙ sym (places_short job.len job.plan.total c.args.own.now c.args.copy.now c.if-job.true))
    (c.write_all.ensures.steps told)

pub returns-clause-few : goal.returns-clause-few
returns-clause-few g c =
    let leaves : length c.args.own.now ≡ div_ceil (length c.args.bytes.now) BLOCK_LEN = c.requires.same c.if-job.false ∙ ap length c.requires.copy ∙ length-leaves c.args.bytes.now in
    let few = few_differ c.args.bytes.now c.args.own.now c.args.copy.now leaves in
    if_ok_then c.write_differing.result (λ (count : ℕ). count ≡ length (differing_places c.args.own.now c.args.copy.now)) (λ (count : ℕ). count * BLOCK_LEN ≤ length c.args.bytes.now + BLOCK_LEN)
    (λ count is. omega (arith, is, few)) c.write_differing.ensures.count

pub returns-clause-steps : goal.returns-clause-steps
returns-clause-steps g c told =
    let job = c.args.job.now in
    let span = c.piece_span-start.ensures in
    let n = length c.args.bytes.now in
    let start = c.piece_span-start.result.0 in
    let ends : start + n ≡ piece_ends_at (hashed job) c.args.piece = omega (arith, span.start, span.end, c.requires.room) in
    place_steps job false (nat_lt job.len job.plan.total) start (piece_starts_at (hashed job) c.args.piece) (start + n) (piece_ends_at (hashed job) c.args.piece)
    (differing_places c.args.own.now c.args.copy.now) (places_by_leaves (nat_lt job.len job.plan.total) c.args.own.now c.args.copy.now)
    (g.D.Disk.state c.args.disk.now) (g.D.Disk.state c.write_differing.new.disk)
    (sym (le-ltb job.len job.plan.total c.if-job.false)) span.start ends
    (sym (places_whole job.len job.plan.total c.args.own.now c.args.copy.now c.if-job.false))
    (c.write_differing.ensures.steps told)
