use Rattle.std.proofs.Common.{◌∙◌, sym, ap}
use Rattle.std.proofs.lemmas.List.Folds.{list_all-map}
use Rattle.std.specs.List.{list_all}
use Rattle.std.specs.Prelude.{not, map, codes}
use Rattle.range_http.specs.Framing.{is_word}
use Rattle.range_http.proofs.verdict.is_encoded.Goals as goal

pub returns : goal.returns
returns c =
    ap not
    (c.all_words.ensures
    ∙ (sym (list_all-map (is_word (codes "identity")) (λ value. value.bytes) c.iter.result)
    ∙ ap (λ values. list_all (is_word (codes "identity")) (map (λ value. value.bytes) values)) (c.iter.ensures ∙ c.get_all.ensures.value)))
