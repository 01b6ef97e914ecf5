use Rattle.std.proofs.Common.{◌≡◌, ◌+◌, ◌-◌, ◌∙◌, ℕ, List, ◌++◌, ap, arith, subst, sym, take}
use Rattle.std.proofs.Math.Seq.{take-add}
use Rattle.std.specs.List.{concat}
use Rattle.dl_kinds.specs.Lists.{part_at}
use Rattle.payload_files.proofs.ReadSteps.{contents_same, reads_on}
use Rattle.stored_run.specs.Settlings.{payload_of}
use Rattle.verify_piece.specs.Hashes.{TookMessage}
use Rattle.stored_run.proofs.checking.check_payload.Goals as goal

pub returns-in_err-at-clause-looks : goal.returns-in_err-at-clause-looks
returns-in_err-at-clause-looks g c told =
    let d = g.D.Disk in
    reads_on c.args.want.now.dir c.args.want.now.layout (d.state c.args.disk.now) (d.state c.loop-at.disk)
    (d.state c.hash_next.new.disk) (c.loop-at.invariant.looks told) (c.hash_next.ensures.looks told)

pub loop-at-preserved : goal.loop-at-preserved
loop-at-preserved g c =
    let d = g.D.Disk in
    let want = c.args.want.now in
    let was = c.loop-at.invariant in
    let start = d.state c.args.disk.now in
    let before = d.state c.loop-at.disk in
    let after = d.state c.hash_next.new.disk in
    let at = c.loop-at.at in
    let end = c.in_ok-at.at in
    let later = c.in_ok-at.ensures.later in
    let whole = payload_of want start.seen in
    record {
      within = c.in_ok-at.ensures.within;
      check = c.hash_next.ensures.check ∙ was.check;
      took = λ told.
          let same : payload_of want before.seen ≡ whole =
          ap (λ (contents : List (List ℕ)). concat contents)
          (contents_same want.dir want.layout start.seen before.seen (was.looks told).stays.seen) in
          let last : at + (end - at) ≡ end = omega arith in
          let front : take at whole ++ part_at (payload_of want before.seen) at (end - at) ≡ take end whole =
          ap (λ (p : List ℕ). take at whole ++ part_at p at (end - at)) same
          ∙ (sym (take-add at (end - at) whole) ∙ ap (λ (n : ℕ). take n whole) last) in
          subst (λ (message : List ℕ). TookMessage c.args.check.now.hash c.hash_next.new.hash.hasher message) front
          (c.in_ok-at.ensures.took told c.args.check.now.hash (take at whole) (was.took told));
      looks = λ told. reads_on want.dir want.layout start before after (was.looks told) (c.hash_next.ensures.looks told);
      faults = c.in_ok-at.ensures.cause.done ∙ was.faults;
    }
