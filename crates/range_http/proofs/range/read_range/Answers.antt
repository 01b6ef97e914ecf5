use Rattle.std.proofs.Common.{◌≡◌, rules, sym, ◌∙◌}
use Rattle.range_http.specs.Range.{range_of}
use Rattle.range_http.proofs.RangeLemmas.{range_exact}
use Rattle.range_http.proofs.range.read_range.Goals as goal

pub returns : goal.returns
returns c =
    let value : c.and_then.result ≡ range_of c.args.text.now = search rules in
    record {
      exact = λ range. let exact = range_exact c.args.text.now range in (λ is. exact.0 (sym value ∙ is), λ is. value ∙ exact.1 is);
      value = value;
    }
