use Rattle.std.proofs.Common.{◌≡◌, ◌+◌, ◌-◌, ◌∙◌, ap, arith, length}
use Rattle.dl_kinds.specs.Plan.{block_end, block_start}
use Rattle.machine_core.specs.Reads.{lengths_of_gid}
use Rattle.stored_run.specs.Deliveries.{AreBlocksOf, Delivers}
use Rattle.stored_run.specs.Views.{own_in}
use Rattle.stored_run.proofs.Delivered.{blocks_of_delivery, delivery_going, delivery_run, match_eq, match_false, match_true, run_pieces}
use Rattle.stored_run.proofs.PartBytes.{starts_before}
use Rattle.stored_run.proofs.run.StoredRun.is_delivery.Goals as goal

pub returns-then-not-are_blocks_of : goal.returns-then-not-are_blocks_of
returns-then-not-are_blocks_of g c is =
    let l = lengths_of_gid c.args.self.now.machine c.args.gid in
    match_false c.are_blocks_of.result (AreBlocksOf c.args.claim.run c.args.run) (¬ AreBlocksOf c.args.claim.run c.args.run)
    c.if-not-are_blocks_of.true c.are_blocks_of.ensures (blocks_of_delivery l c.args.claim c.args.run c.args.bytes.now is)

pub plan_of-plan-requires : goal.plan_of-plan-requires
plan_of-plan-requires g c =
    let v = c.args.self.now in
    let m = v.machine in
    let l = lengths_of_gid m c.args.gid in
    let claim = c.args.claim in
    let run = c.args.run in
    let laws = c.runs_follow.ensures in
    let kept = c.tells_stored.ensures in
    let blocks = match_true c.are_blocks_of.result (AreBlocksOf claim.run run) (¬ AreBlocksOf claim.run run)
    c.if-not-are_blocks_of.false c.are_blocks_of.ensures in
    (delivery_going laws m.start m.past c.args.gid claim run kept.legal c.requires blocks).opened

pub block_span-start-requires : goal.block_span-start-requires
block_span-start-requires g c =
    let v = c.args.self.now in
    let m = v.machine in
    let l = lengths_of_gid m c.args.gid in
    let claim = c.args.claim in
    let run = c.args.run in
    let laws = c.runs_follow.ensures in
    let kept = c.tells_stored.ensures in
    let blocks = match_true c.are_blocks_of.result (AreBlocksOf claim.run run) (¬ AreBlocksOf claim.run run)
    c.if-not-are_blocks_of.false c.are_blocks_of.ensures in
    let w = c.plan_of-plan.ensures.plan in
    let of = delivery_run laws l (own_in v c.args.gid) claim run w (laws.legal m.start m.past c.args.gid kept.legal)
    c.requires blocks in
    let at = run_pieces c.plan_laws.ensures.of_pieces l run w of in
    rw (c.plan_of-plan.ensures.total, c.plan_of-plan.ensures.piece_len) at.first

pub overflow_add-run : goal.overflow_add-run
overflow_add-run g c =
    let v = c.args.self.now in
    let m = v.machine in
    let l = lengths_of_gid m c.args.gid in
    let claim = c.args.claim in
    let run = c.args.run in
    let laws = c.runs_follow.ensures in
    let kept = c.tells_stored.ensures in
    let blocks = match_true c.are_blocks_of.result (AreBlocksOf claim.run run) (¬ AreBlocksOf claim.run run)
    c.if-not-are_blocks_of.false c.are_blocks_of.ensures in
    let w = c.plan_of-plan.ensures.plan in
    let of = delivery_run laws l (own_in v c.args.gid) claim run w (laws.legal m.start m.past c.args.gid kept.legal)
    c.requires blocks in
    let at = run_pieces c.plan_laws.ensures.of_pieces l run w of in
    let fits = at.fits in
    omega (arith, fits)

pub block_span-last-requires : goal.block_span-last-requires
block_span-last-requires g c =
    let v = c.args.self.now in
    let m = v.machine in
    let l = lengths_of_gid m c.args.gid in
    let claim = c.args.claim in
    let run = c.args.run in
    let laws = c.runs_follow.ensures in
    let kept = c.tells_stored.ensures in
    let blocks = match_true c.are_blocks_of.result (AreBlocksOf claim.run run) (¬ AreBlocksOf claim.run run)
    c.if-not-are_blocks_of.false c.are_blocks_of.ensures in
    let w = c.plan_of-plan.ensures.plan in
    let of = delivery_run laws l (own_in v c.args.gid) claim run w (laws.legal m.start m.past c.args.gid kept.legal)
    c.requires blocks in
    let at = run_pieces c.plan_laws.ensures.of_pieces l run w of in
    rw (c.plan_of-plan.ensures.total, c.plan_of-plan.ensures.piece_len) at.last

pub overflow_sub-len : goal.overflow_sub-len
overflow_sub-len g c =
    let v = c.args.self.now in
    let m = v.machine in
    let l = lengths_of_gid m c.args.gid in
    let claim = c.args.claim in
    let run = c.args.run in
    let laws = c.runs_follow.ensures in
    let kept = c.tells_stored.ensures in
    let blocks = match_true c.are_blocks_of.result (AreBlocksOf claim.run run) (¬ AreBlocksOf claim.run run)
    c.if-not-are_blocks_of.false c.are_blocks_of.ensures in
    let w = c.plan_of-plan.ensures.plan in
    let of = delivery_run laws l (own_in v c.args.gid) claim run w (laws.legal m.start m.past c.args.gid kept.legal)
    c.requires blocks in
    let at = run_pieces c.plan_laws.ensures.of_pieces l run w of in
    let some = of.some in
    let total = c.plan_of-plan.ensures.total in
    let len = c.plan_of-plan.ensures.piece_len in
    let before = starts_before c.plan_laws.ensures.follow l.total l.piece_len w run.first (run.first + (run.count - 1))
    (omega arith) at.last in
    let s : c.block_span-start.result.0 ≡ block_start l.piece_len run.first =
    c.block_span-start.ensures.start ∙ ap (λ n. block_start n run.first) len in
    let e : c.block_span-last.result.0 + c.block_span-last.result.1 ≡ block_end l.total l.piece_len (run.first + (run.count - 1)) =
    c.block_span-last.ensures.end
    ∙ (ap (λ n. block_end n c.plan_of-plan.result.piece_len (run.first + (run.count - 1))) total
    ∙ ap (λ n. block_end l.total n (run.first + (run.count - 1))) len) in
    omega (arith, s, e, before)

pub returns : goal.returns
returns g c =
    let v = c.args.self.now in
    let m = v.machine in
    let l = lengths_of_gid m c.args.gid in
    let claim = c.args.claim in
    let run = c.args.run in
    let laws = c.runs_follow.ensures in
    let kept = c.tells_stored.ensures in
    let blocks = match_true c.are_blocks_of.result (AreBlocksOf claim.run run) (¬ AreBlocksOf claim.run run)
    c.if-not-are_blocks_of.false c.are_blocks_of.ensures in
    let w = c.plan_of-plan.ensures.plan in
    let of = delivery_run laws l (own_in v c.args.gid) claim run w (laws.legal m.start m.past c.args.gid kept.legal)
    c.requires blocks in
    let at = run_pieces c.plan_laws.ensures.of_pieces l run w of in
    let total = c.plan_of-plan.ensures.total in
    let len = c.plan_of-plan.ensures.piece_len in
    let bytes = c.args.bytes.now in
    let before = starts_before c.plan_laws.ensures.follow l.total l.piece_len w run.first (run.first + (run.count - 1))
    (omega arith) at.last in
    let s : c.block_span-start.result.0 ≡ block_start l.piece_len run.first =
    c.block_span-start.ensures.start ∙ ap (λ n. block_start n run.first) len in
    let e : c.block_span-last.result.0 + c.block_span-last.result.1 ≡ block_end l.total l.piece_len (run.first + (run.count - 1)) =
    c.block_span-last.ensures.end
    ∙ (ap (λ n. block_end n c.plan_of-plan.result.piece_len (run.first + (run.count - 1))) total
    ∙ ap (λ n. block_end l.total n (run.first + (run.count - 1))) len) in
    let last = ap (block_end l.total l.piece_len) at.last_is in
    match_eq (c.block_span-last.result.0 + c.block_span-last.result.1 - c.block_span-start.result.0) (length bytes)
    (Delivers v c.args.gid claim run bytes) (¬ Delivers v c.args.gid claim run bytes)
    (λ same. record {
      some = blocks.some;
      few = blocks.few;
      first = blocks.first;
      last = blocks.last;
      len = omega (arith, s, e, before, last, same);
    })
    (λ other is. other (let given = is.len in omega (arith, s, e, before, last, given)))
