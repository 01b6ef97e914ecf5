use Rattle.std.proofs.Common.{subst, sym}
use Rattle.range_http.specs.Table.{HasOneVerdict}
use Rattle.range_http.proofs.TableLemmas.{means_one}
use Rattle.range_http.proofs.verdict.classify.Goals as goal

pub returns : goal.returns
returns c =
    let head = c.args.head.now in
    let asked = c.args.asked.now in
    record {
      table = subst (HasOneVerdict head asked) (sym c.first_line.ensures) (means_one head asked);
      value = c.first_line.ensures;
    }
