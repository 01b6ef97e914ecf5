use Rattle.std.proofs.Common.{◌∙◌, sym}
use Rattle.std.proofs.lemmas.Bool.{false≢true}
use Rattle.std.proofs.lemmas.Result.{IfOk-weaker}
use Rattle.resume_core.proofs.OpenedRows.{piece_stands_by}
use Rattle.resume_core.proofs.matching.is_matching.Goals as goal

pub returns-then-not-branch-clause-matches : goal.returns-then-not-branch-clause-matches
returns-then-not-branch-clause-matches g c told =
    let stands = piece_stands_by c.args.want.now (g.D.Disk.state c.args.disk.now).seen c.args.lens.now
    (c.requires.lens told) c.args.piece in (
      λ is. absurd (false≢true is),
      λ matches. absurd (false≢true (sym c.if-not-branch.true ∙ c.in_ok-piece_stands.ensures.1
          (stands.1 matches.reaches))),
    )

pub returns-clause-matches : goal.returns-clause-matches
returns-clause-matches g c =
    IfOk-weaker c.has_digest.result _ _
    (λ right has told.
    let stands = piece_stands_by c.args.want.now (g.D.Disk.state c.args.disk.now).seen c.args.lens.now
    (c.requires.lens told) c.args.piece in (
      λ is. record {
        numbered = c.requires.piece;
        reaches = stands.0 (c.in_ok-piece_stands.ensures.0 c.if-not-branch.false);
        digest = (has told).0 is;
      },
      λ matches. (has told).1 matches.digest,
    ))
    c.has_digest.ensures.digest
