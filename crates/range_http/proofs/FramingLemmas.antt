-- The framing that lengths tell, by the first of them.
use Rattle.std.proofs.Common.{◌≡◌, ℕ, List, ◌∷◌, Bool, map, cond, ap, sym, ◌∙◌}
use Rattle.std.proofs.lemmas.List.Folds.{list_all-map}
use Rattle.std.specs.List.{list_all}
use Rattle.std.specs.Prelude.{Some, None}
use Rattle.http_header.specs.FieldValue.{FieldValue}
use Rattle.range_http.specs.declared.framing.Framing.TheVariants.{Length}
use Rattle.range_http.specs.Framing.{is_number_text, length_framing}
use Rattle.range_http.specs.Range.{number_of, ◌>>=◌}

-- where the first length is a number, the answer whether the others write it decides
pub length_framing-first : (values : List FieldValue) (first : FieldValue) (rest : List FieldValue) (number : ℕ) (same : Bool)
    → values ≡ first ∷ rest → Some number ≡ number_of first.bytes → same ≡ list_all (λ value. is_number_text number value.bytes) rest
    → cond same (Some (Length number)) None ≡ length_framing (map (λ value. value.bytes) values)
length_framing-first values first rest number same is number_is same_is =
    ap (λ t. cond t (Some (Length number)) None) (same_is ∙ sym (list_all-map (is_number_text number) (λ value. value.bytes) rest))
    ∙ ap (λ read. read >>= λ n. cond (list_all (is_number_text n) (map (λ value. value.bytes) rest)) (Some (Length n)) None) number_is
    ∙ ap (λ all. length_framing (map (λ value. value.bytes) all)) (sym is)
