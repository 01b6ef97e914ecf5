use Rattle.std.proofs.Common.{Some, None}
use Rattle.std.proofs.lemmas.Bool.Decides.{Decides-eqb}
use Rattle.std.proofs.lemmas.Slice.Eq.{strip_prefix_is, strip_suffix_is}
use Rattle.std.specs.Prelude.{codes}
use Rattle.link_source.proofs.Reading.{no_lines, no_last, no_first, no_between, no_method, is_request, numbered}
use Rattle.link_source.proofs.requests.split_request.Goals as goal

pub returns-in_err-lines : goal.returns-in_err-lines
returns-in_err-lines c = rw c.from_residual.ensures (no_lines _ _ (strip_suffix_is Decides-eqb _ _ None c.in_err-lines.ensures.cases))

pub returns-in_err-front : goal.returns-in_err-front
returns-in_err-front c =
    rw c.from_residual-in_err-front.ensures
    (no_last _ _ _ (strip_suffix_is Decides-eqb _ _ (Some c.in_ok-lines.lines) c.in_ok-lines.ensures.cases) c.in_err-front.ensures)

pub returns-in_err-front-2 : goal.returns-in_err-front-2
returns-in_err-front-2 c =
    rw c.from_residual-in_err-front-2.ensures
    (no_first _ _ _ _ _ (strip_suffix_is Decides-eqb _ _ (Some c.in_ok-lines.lines) c.in_ok-lines.ensures.cases)
    c.in_ok-front.ensures.0 c.in_ok-front.ensures.1 c.in_err-front-2.ensures)

pub returns-in_err-strip_suffix : goal.returns-in_err-strip_suffix
returns-in_err-strip_suffix c =
    rw c.from_residual-in_err-strip_suffix.ensures
    (no_between _ _ _ _ _
    (numbered _ _ _ _ _ _ (strip_suffix_is Decides-eqb _ _ (Some c.in_ok-lines.lines) c.in_ok-lines.ensures.cases) c.in_ok-front.ensures c.in_ok-front-2.ensures)
    (strip_suffix_is Decides-eqb _ _ None c.in_err-strip_suffix.ensures.cases))

pub returns-in_err-target : goal.returns-in_err-target
returns-in_err-target c =
    rw c.from_residual-in_err-target.ensures
    (no_method _ _ _ _ _ _
    (numbered _ _ _ _ _ _ (strip_suffix_is Decides-eqb _ _ (Some c.in_ok-lines.lines) c.in_ok-lines.ensures.cases) c.in_ok-front.ensures c.in_ok-front-2.ensures)
    (strip_suffix_is Decides-eqb _ _ (Some c.in_ok-strip_suffix.field-0) c.in_ok-strip_suffix.ensures.cases)
    (strip_prefix_is Decides-eqb _ (codes "GET ") None c.in_err-target.ensures.cases))

pub returns : goal.returns
returns c = (
  is_request _ _ _ _ _ _ _
      (numbered _ _ _ _ _ _ (strip_suffix_is Decides-eqb _ _ (Some c.in_ok-lines.lines) c.in_ok-lines.ensures.cases) c.in_ok-front.ensures c.in_ok-front-2.ensures)
      (strip_suffix_is Decides-eqb _ _ (Some c.in_ok-strip_suffix.field-0) c.in_ok-strip_suffix.ensures.cases)
      (strip_prefix_is Decides-eqb _ (codes "GET ") (Some c.in_ok-target.target) c.in_ok-target.ensures.cases),
  c.in_ok-front-2.ensures.1,
  c.in_ok-front.ensures.1,
)
