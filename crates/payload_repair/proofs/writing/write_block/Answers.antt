use Rattle.std.proofs.Common.{◌*◌}
use Rattle.std.proofs.lemmas.List.{take_rest}
use Rattle.std.proofs.lemmas.Result.{on_ok_weaker}
use Rattle.dl_kinds.specs.declared.plan.TheConstants.{BLOCK_LEN}
use Rattle.payload_repair.proofs.BlockLemmas.{block_cut, block_written, block_steps}
use Rattle.payload_repair.proofs.writing.write_block.Goals as goal

pub returns-clause-written : goal.returns-clause-written
returns-clause-written g c =
    let rest = take_rest c.args.bytes.now (c.args.place * BLOCK_LEN) in
    let is = block_cut c.args.bytes.now c.args.place c.min.result _ rest c.min.ensures in
    on_ok_weaker c.write_at.result
    (λ writes told. block_written c.args.name.now c.args.start c.args.bytes.now c.args.place _ (g.D.Disk.state c.args.disk.now).seen (g.D.Disk.state c.write_at.new.self).seen
    c.requires.place is (writes told))
    c.write_at.ensures.written

pub returns-clause-steps : goal.returns-clause-steps
returns-clause-steps g c told =
    let rest = take_rest c.args.bytes.now (c.args.place * BLOCK_LEN) in
    let is = block_cut c.args.bytes.now c.args.place c.min.result _ rest c.min.ensures in
    block_steps c.args.name.now c.args.start c.args.bytes.now c.args.place _ (g.D.Disk.state c.args.disk.now) (g.D.Disk.state c.write_at.new.self) c.write_at.result
    c.requires.place is (c.write_at.ensures.alters told)
