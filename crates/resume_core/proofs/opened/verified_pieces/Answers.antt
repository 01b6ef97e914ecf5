use Rattle.std.proofs.Common.{◌∙◌, sym}
use Rattle.std.proofs.lemmas.Result.{IfOk-weaker}
use Rattle.resume_core.proofs.OpenedRows.{opens_hashed, opens_listed}
use Rattle.resume_core.proofs.opened.verified_pieces.Goals as goal

pub returns-then-is_hashed-clause-exact : goal.returns-then-is_hashed-clause-exact
returns-then-is_hashed-clause-exact g c =
    IfOk-weaker c.matching_pieces.result _ _
    (λ row exact told piece.
    let opens = opens_hashed c.args.want.now c.requires.want (g.D.Disk.state c.args.disk.now).seen c.args.survey.now
    (c.requires.survey told) c.args.compared (sym c.is_hashed.ensures ∙ c.if-is_hashed.true) piece in (
      λ set. opens.0 ((exact told piece).0 set),
      λ is. (exact told piece).1 (opens.1 is),
    ))
    c.matching_pieces.ensures.exact

pub returns-clause-exact : goal.returns-clause-exact
returns-clause-exact g c told piece =
    let opens = opens_listed c.args.want.now c.requires.want (g.D.Disk.state c.args.disk.now).seen c.args.survey.now
    (c.requires.survey told) c.args.compared c.requires.control (sym c.is_hashed.ensures
    ∙ c.if-is_hashed.false) piece in
    let exact = c.in_ok-listed_pieces.ensures.exact piece in (
      λ set. opens.0 (exact.0 set),
      λ is. exact.1 (opens.1 is),
    )
