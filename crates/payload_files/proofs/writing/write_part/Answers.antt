use Rattle.std.proofs.Common.{◌≡◌, ◌∙◌, subst, List, ℕ, length, get_or, arith}
use Rattle.std.proofs.lemmas.Result.{on_ok_weaker}
use Rattle.dl_disk.specs.Files.{TornWrite, Writes}
use Rattle.dl_disk.specs.Passes.{performs_alters, performs_wider}
use Rattle.span_map.specs.declared.files.FileLen.{FileLen}
use Rattle.payload_files.specs.Names.{name_of}
use Rattle.payload_files.specs.Payload.{part_start}
use Rattle.payload_files.specs.Changes.{TornSlice}
use Rattle.payload_files.proofs.SliceSteps.{part_file, torn_write_none, torn_step, written_step}
use Rattle.payload_files.proofs.writing.write_part.Goals as goal

pub returns-clause-performs : goal.returns-clause-performs
returns-clause-performs g c told =
    let d = g.D.Disk in
    let dir = c.args.dir.now in
    let file = c.index-files-part.result in
    let layout = c.args.layout.now in
    let part = c.args.part.now in
    let n = length c.args.bytes.now in
    let name = name_of dir file.path in
    let start = d.state c.args.disk.now in
    let end = d.state c.write_at.new.self in
    let found = part_file dir layout part file c.requires.part (subst (λ (l : List FileLen). file ≡ get_or l part.file file) c.files.ensures.value c.index-files-part.is) in
    let named : c.as_str.result.now ≡ name = c.as_str.ensures.value ∙ c.in_ok-name.ensures in
    performs_wider (TornWrite name part.at n) (TornSlice dir layout (part_start layout part) n) start end
    (λ a b step. torn_step dir layout c.files.ensures.layout part file found.0 n a b (omega (arith, found.1, c.requires.len)) step)
    (performs_alters (TornWrite name part.at n) start end c.write_at.result (torn_write_none dir name part.at n)
    (rw named at c.write_at.ensures.alters told))

pub returns-clause-written : goal.returns-clause-written
returns-clause-written g c =
    let d = g.D.Disk in
    let dir = c.args.dir.now in
    let file = c.index-files-part.result in
    let layout = c.args.layout.now in
    let part = c.args.part.now in
    let bytes = c.args.bytes.now in
    let old = (d.state c.args.disk.now).seen in
    let new = (d.state c.write_at.new.self).seen in
    let found = part_file dir layout part file c.requires.part (subst (λ (l : List FileLen). file ≡ get_or l part.file file) c.files.ensures.value c.index-files-part.is) in
    let named : c.as_str.result.now ≡ name_of dir file.path = c.as_str.ensures.value ∙ c.in_ok-name.ensures in
    on_ok_weaker c.write_at.result
    (λ writes told has. written_step dir layout c.files.ensures.layout part file found.0 bytes old new (omega (arith, found.1, c.requires.len))
    (subst (λ (name : List ℕ). Writes name part.at bytes old new) named (writes told)) has)
    c.write_at.ensures.written
