use Rattle.std.proofs.Common.{◌≡◌, ◌∙◌, ◌-◌, subst, List, ℕ, length, arith}
use Rattle.std.proofs.lemmas.Result.{on_ok_weaker}
use Rattle.dl_kinds.specs.Plan.{piece_start, piece_end}
use Rattle.payload_files.specs.Payload.{contents_in}
use Rattle.payload_files.specs.Reading.{ReadsParts}
use Rattle.resume_core.proofs.PieceBytes.{reach_read, bytes_read}
use Rattle.resume_core.proofs.runs.fill_piece.Goals as goal

pub returns-clause-read : goal.returns-clause-read
returns-clause-read g c =
    let want = c.args.want.now in
    let seen = (g.D.Disk.state c.args.disk.now).seen in
    let start = piece_start want.plan.piece_len c.args.piece in
    let end = piece_end want.plan.total want.plan.piece_len c.args.piece in
    let read = c.read_slice.new.into in
    let contents = contents_in c.as_str.result.now want.layout seen in
    let size : length read ≡ end - start = c.read_slice.auto.into ∙ c.requires.len in
    on_ok_weaker c.read_slice.result
    (λ reads told.
    let parts : ReadsParts want.layout (contents_in want.dir want.layout seen) start read =
    subst (λ (dir : List ℕ). ReadsParts want.layout (contents_in dir want.layout seen) start read) c.as_str.ensures
    (subst (λ (at : ℕ). ReadsParts want.layout contents at read) c.piece_span-start.ensures.start (reads told)) in
    record {
      reaches = reach_read want c.requires.want seen start end read (omega arith) size parts;
      bytes = bytes_read want c.requires.want seen start end read (omega arith) size parts;
    })
    c.read_slice.ensures.parts
