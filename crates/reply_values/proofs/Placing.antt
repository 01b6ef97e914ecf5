-- Members that are put in their places, one after the other.
use Rattle.std.proofs.Common.{◌≡◌, ◌∙◌, ◌<◌, ◌+◌, ℕ, List, [], ◌∷◌, ◌++◌, ap, get_or, length, map, refl, take}
use Rattle.std.proofs.lemmas.List.{map-append, take_more}
use Rattle.serde_json.specs.Data.{Members, put}
use Rattle.reply_values.specs.Members.{NamedData, put_all}

put_last : (done : List NamedData) (named : NamedData) (given : Members)
    → put_all (done ++ named ∷ []) given ≡ put named.0 named.1 (put_all done given)
put_last [] named given = refl
put_last (first ∷ done) named given = put_last done named (put first.0 first.1 given)

pub put_more : {A : Type 0} (named : A → NamedData) (all : List A) (i : ℕ) (a : A) (given : Members) → i < length all
    → put_all (map named (take (i + 1) all)) given
    ≡ put (named (get_or all i a)).0 (named (get_or all i a)).1 (put_all (map named (take i all)) given)
put_more named all i a given within =
    ap (λ some. put_all some given) (ap (map named) (take_more all i a within) ∙ map-append named (take i all) (get_or all i a ∷ []))
    ∙ put_last (map named (take i all)) (named (get_or all i a)) given
