use Rattle.std.proofs.Common.{◌≡◌, ◌+◌, ◌-◌, ap, arith, ◌∙◌}
use Rattle.dl_kinds.specs.Plan.{piece_of}
use Rattle.machine_core.specs.Reads.{lengths_of_gid}
use Rattle.stored_run.specs.Deliveries.{first_piece, last_piece}
use Rattle.stored_run.proofs.Delivered.{run_pieces}
use Rattle.stored_run.proofs.run.StoredRun.pieces_of_run.Goals as goal

pub piece_of-first-requires : goal.piece_of-first-requires
piece_of-first-requires g c =
    let l = lengths_of_gid c.args.self.now.machine c.args.gid in
    let at = run_pieces c.plan_laws.ensures.of_pieces l c.args.run c.plan_of-plan.ensures.plan c.requires.run in
    rw (c.plan_of-plan.ensures.total, c.plan_of-plan.ensures.piece_len) at.first

pub overflow_add-run : goal.overflow_add-run
overflow_add-run g c =
    let l = lengths_of_gid c.args.self.now.machine c.args.gid in
    let at = run_pieces c.plan_laws.ensures.of_pieces l c.args.run c.plan_of-plan.ensures.plan c.requires.run in
    let fits = at.fits in
    omega (arith, fits)

pub piece_of-last-requires : goal.piece_of-last-requires
piece_of-last-requires g c =
    let l = lengths_of_gid c.args.self.now.machine c.args.gid in
    let at = run_pieces c.plan_laws.ensures.of_pieces l c.args.run c.plan_of-plan.ensures.plan c.requires.run in
    rw (c.plan_of-plan.ensures.total, c.plan_of-plan.ensures.piece_len) at.last

pub returns : goal.returns
returns g c =
    let l = lengths_of_gid c.args.self.now.machine c.args.gid in
    let run = c.args.run in
    let at = run_pieces c.plan_laws.ensures.of_pieces l run c.plan_of-plan.ensures.plan c.requires.run in
    let len = c.plan_of-plan.ensures.piece_len in
    let first : c.piece_of-first.result ≡ first_piece l run =
    c.piece_of-first.ensures.value ∙ ap (λ n. piece_of n run.first) len in
    let last : c.piece_of-last.result ≡ last_piece l run =
    c.piece_of-last.ensures.value
    ∙ (ap (λ n. piece_of n (run.first + (run.count - 1))) len ∙ ap (piece_of l.piece_len) at.last_is) in
    let rise = at.rise in
    let few = at.few in
    let within = at.within in
    record {
      first = first;
      last = last;
      ordered = omega (arith, first, last, rise);
      few = omega (arith, first, last, few);
      within = omega (arith, last, within);
      fits = omega (arith, last, within, c.plan_of-plan.ensures.plan.pieces);
    }
