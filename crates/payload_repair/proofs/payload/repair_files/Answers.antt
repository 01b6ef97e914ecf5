use Rattle.std.proofs.Common.{length, arith}
use Rattle.std.specs.Prelude.{option_map}
use Rattle.payload_repair.proofs.WholeLemmas.{other_names, changes_then, repaired_then, keeps_all, all_last}
use Rattle.payload_repair.proofs.payload.repair_files.Goals as goal

pub mend_files-requires-clause-names : goal.mend_files-requires-clause-names
mend_files-requires-clause-names g c lifetimes bounds = other_names c.names_differ.ensures c.args.dir.now c.args.meta.now c.requires

pub returns-in_err-counts-clause-kept : goal.returns-in_err-counts-clause-kept
returns-in_err-counts-clause-kept g c told apart =
    let d = g.D.Disk in
    let meta = c.args.meta.now in
    keeps_all meta.piece_len c.args.dir.now (option_map (λ folder. folder.now) c.args.copy) meta.files (d.state c.args.disk.now) (d.state c.mend_files.new.disk) (c.mend_files.ensures.changes told apart)

pub returns-in_err-sync_files-clause-blocks : goal.returns-in_err-sync_files-clause-blocks
returns-in_err-sync_files-clause-blocks g c told apart =
    let d = g.D.Disk in
    let meta = c.args.meta.now in
    changes_then meta.piece_len c.args.dir.now (option_map (λ folder. folder.now) c.args.copy) meta.files (length meta.files) (d.state c.args.disk.now) (d.state c.mend_files.new.disk) (d.state c.sync_files.new.disk)
    (c.mend_files.ensures.changes told apart) (c.sync_files.ensures.steps told)

pub returns-in_err-sync_files-clause-kept : goal.returns-in_err-sync_files-clause-kept
returns-in_err-sync_files-clause-kept g c told apart =
    let d = g.D.Disk in
    let meta = c.args.meta.now in
    let copy = option_map (λ folder. folder.now) c.args.copy in
    keeps_all meta.piece_len c.args.dir.now copy meta.files (d.state c.args.disk.now) (d.state c.sync_files.new.disk)
    (changes_then meta.piece_len c.args.dir.now copy meta.files (length meta.files) (d.state c.args.disk.now) (d.state c.mend_files.new.disk) (d.state c.sync_files.new.disk)
    (c.mend_files.ensures.changes told apart) (c.sync_files.ensures.steps told))

pub returns-clause-blocks : goal.returns-clause-blocks
returns-clause-blocks g c told apart =
    let d = g.D.Disk in
    let meta = c.args.meta.now in
    changes_then meta.piece_len c.args.dir.now (option_map (λ folder. folder.now) c.args.copy) meta.files (length meta.files) (d.state c.args.disk.now) (d.state c.mend_files.new.disk) (d.state c.sync_files.new.disk)
    (c.mend_files.ensures.changes told apart) (c.sync_files.ensures.steps told)

pub returns-clause-kept : goal.returns-clause-kept
returns-clause-kept g c told apart =
    let d = g.D.Disk in
    let meta = c.args.meta.now in
    let copy = option_map (λ folder. folder.now) c.args.copy in
    keeps_all meta.piece_len c.args.dir.now copy meta.files (d.state c.args.disk.now) (d.state c.sync_files.new.disk)
    (changes_then meta.piece_len c.args.dir.now copy meta.files (length meta.files) (d.state c.args.disk.now) (d.state c.mend_files.new.disk) (d.state c.sync_files.new.disk)
    (c.mend_files.ensures.changes told apart) (c.sync_files.ensures.steps told))

pub returns-clause-repaired : goal.returns-clause-repaired
returns-clause-repaired g c told apart =
    let d = g.D.Disk in
    let meta = c.args.meta.now in
    repaired_then meta.piece_len c.args.dir.now (option_map (λ folder. folder.now) c.args.copy) meta.files
    (length meta.files) (d.state c.args.disk.now).seen (d.state c.mend_files.new.disk)
    (d.state c.sync_files.new.disk) (c.in_ok-counts.ensures.repaired told apart) (c.sync_files.ensures.steps told)

pub returns-clause-lasts : goal.returns-clause-lasts
returns-clause-lasts g c told =
    let meta = c.args.meta.now in
    all_last meta.piece_len c.args.dir.now (option_map (λ folder. folder.now) c.args.copy) meta.files (g.D.Disk.state c.sync_files.new.disk) (omega (arith, c.requires.piece_len.least)) (c.in_ok-sync_files.ensures.synced told)
