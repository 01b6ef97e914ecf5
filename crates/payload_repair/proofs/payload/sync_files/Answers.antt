use Rattle.std.proofs.Common.{◌≡◌, ◌∙◌, subst, ℕ, List, arith}
use Rattle.std.specs.Prelude.{IsSome}
use Rattle.std.proofs.lemmas.Option.{slice_get_within}
use Rattle.dl_disk.specs.State.{IsDurable}
use Rattle.payload_files.specs.Names.{name_of}
use Rattle.payload_repair.proofs.StepLemmas.{same_on}
use Rattle.payload_repair.proofs.WholeLemmas.{at_item, durable_more}
use Rattle.payload_repair.proofs.payload.sync_files.Goals as goal

pub loop-file-preserved : goal.loop-file-preserved
loop-file-preserved g c =
    let d = g.D.Disk in
    let dir = c.args.dir.now in
    let files = c.args.meta.now.files in
    let k = c.loop-file.file-index in
    let file = c.file-item.result in
    let was = c.loop-file.invariant in
    let a = d.state c.loop-file.disk in
    let b = d.state c.sync_standing.new.disk in
    let at_k = at_item c.as_slice-file-items.result.now files k file c.as_slice-file-items.ensures c.loop-file-test.true c.file-item.is in
    let named : c.as_str.result.now ≡ name_of dir file.path = c.as_str.ensures.value ∙ c.in_ok-name.ensures in
    record {
      durable = λ told. durable_more dir files k file at_k a b (c.sync_standing.ensures.steps told) (was.durable told)
          (subst (λ (name : List ℕ). IsSome (b.seen name) → IsDurable name b) named (c.in_ok-sync_standing.ensures.durable told));
      steps = λ told. same_on (d.state c.args.disk.now) a b (was.steps told) (c.sync_standing.ensures.steps told);
      faults = c.in_ok-sync_standing.ensures.cause.done ∙ was.faults;
    }

pub returns-in_err-sync_standing-clause-steps : goal.returns-in_err-sync_standing-clause-steps
returns-in_err-sync_standing-clause-steps g c told =
    let d = g.D.Disk in
    same_on (d.state c.args.disk.now) (d.state c.loop-file.disk) (d.state c.sync_standing.new.disk) (c.loop-file.invariant.steps told) (c.sync_standing.ensures.steps told)

pub returns-clause-synced : goal.returns-clause-synced
returns-clause-synced g c told k file at_k =
    let within = slice_get_within c.args.meta.now.files k file at_k in
    let long = Rattle.std.proofs.Common.ap Rattle.std.proofs.Common.length c.as_slice-file-items.ensures in
    c.loop-file.invariant.durable told k file (omega (arith, within, long, c.loop-file-test.false)) at_k
