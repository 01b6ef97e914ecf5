use Rattle.std.proofs.Common.{◌≡◌, Bool, List, [], ◌∷◌, ◌||◌, map, ap, sym, ◌∙◌, refl}
use Rattle.std.specs.List.{list_any}
use Rattle.console_socket.specs.Upgrades.{is_word}
use Rattle.console_socket.proofs.upgrade.has_field.Goals as goal

list_any-map : {A B : Type 0} (test : B → Bool) (f : A → B) (xs : List A) → list_any test (map f xs) ≡ list_any (λ x. test (f x)) xs
list_any-map test f [] = refl
list_any-map test f (x ∷ xs) = ap (λ rest. test (f x) || rest) (list_any-map test f xs)

pub returns : goal.returns
returns c =
    let word = c.args.word.now in
    c.any_is.ensures
    ∙ (sym (list_any-map (is_word word) (λ value. value.bytes) c.iter.result)
    ∙ ap (λ values. list_any (is_word word) (map (λ value. value.bytes) values)) (c.iter.ensures ∙ c.get_all.ensures.value))
