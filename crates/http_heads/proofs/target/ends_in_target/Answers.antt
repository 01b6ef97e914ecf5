use Rattle.std.proofs.lemmas.Bool.{false≢true}
use Rattle.http_heads.proofs.TargetLemmas.{ends_where, ends_nowhere}
use Rattle.http_heads.proofs.target.ends_in_target.Goals as goal

pub returns-in-Some : goal.returns-in-Some
returns-in-Some c =
    let blank = c.behind_blank.ensures.blank in
    let at = c.in-Some.ensures.some in
    ends_where c.args.bytes.now c.behind_blank.result.now c.in-Some.target.now at.0 blank.0 c.is_target.result
    blank.1 c.behind_blank.ensures.rest at.1 c.is_target.ensures

pub returns-in-None : goal.returns-in-None
returns-in-None c =
    let blank = c.behind_blank.ensures.blank in (
      λ wrong. absurd (false≢true wrong),
      λ ends. absurd
          (ends_nowhere c.args.bytes.now c.behind_blank.result.now blank.0 blank.1 c.behind_blank.ensures.rest c.in-None.ensures.none ends),
    )
