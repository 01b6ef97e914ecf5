-- The set that is escaped holds all but the unreserved characters.
use Rattle.std.proofs.Common.{◌≡◌, ℕ, zero, suc, ◌<◌, ◌+◌, Bool, true, false, not, cond, List, [], ◌∷◌, ◌++◌, length, take, map, get_or, Some, refl, sym, ap, ◌∙◌, arith}
use Rattle.std.specs.Prelude.{◌==◌, if◌then◌else◌}
use Rattle.std.specs.List.{join_with_byte, slice_get}
use Rattle.std.proofs.lemmas.Bool.{agree_below, agree_below_at, cond-false, ne_eqb}
use Rattle.std.proofs.lemmas.List.{append_assoc, map_more, length-map, length-take}
use Rattle.std.proofs.lemmas.Option.{slice_get_within, get_or_from_slice_get}
use Rattle.percent_encoding.specs.AsciiSet.{should_percent_encode}
use Rattle.percent_encoding.specs.Percent.{percent_encode, percent_encode_byte}
use Rattle.metainfo.specs.declared.urls.TheConstants.{RESERVED}
use Rattle.metainfo.specs.Urls.{is_unreserved, escaped}

table : agree_below (should_percent_encode RESERVED) (λ b. not (is_unreserved b)) 256 ≡ true
unfolding should_percent_encode
table = refl

same_test : (b : ℕ) → b < 256 → should_percent_encode RESERVED b ≡ not (is_unreserved b)
same_test b small = agree_below_at (should_percent_encode RESERVED) (λ b. not (is_unreserved b)) 256 b table small

turned : {X : Type 0} (test other : Bool) (x y : X) → test ≡ not other → cond test x y ≡ cond other y x
turned test true x y is = rw is refl
turned test false x y is = rw is refl

pub escaped_is : (part : List ℕ) → ((i : ℕ) → get_or part i 0 < 256) → percent_encode RESERVED part ≡ escaped part
unfolding percent_encode
escaped_is [] small = refl
escaped_is (b ∷ part) small = λ i.
    turned (should_percent_encode RESERVED b) (is_unreserved b) (percent_encode_byte b) (b ∷ []) (same_test b (small 0)) i
    ++ escaped_is part (λ k. small (suc k)) i

-- ---- parts joined

-- a part and what stands before it
abbrev pub behind : ℕ → List ℕ → List ℕ
behind place text = if place == 0 then text else 47 ∷ text

join_more : (texts : List (List ℕ)) (first text : List ℕ) → join_with_byte 47 ((first ∷ texts) ++ text ∷ []) ≡ join_with_byte 47 (first ∷ texts) ++ 47 ∷ text
join_more [] first text = refl
join_more (next ∷ texts) first text =
    ap (λ (l : List ℕ). first ++ (47 ∷ l)) (join_more texts next text)
    ∙ sym (append_assoc first (47 ∷ join_with_byte 47 (next ∷ texts)) (47 ∷ text))

joined_by : (front : List (List ℕ)) (place : ℕ) (text : List ℕ) → length front ≡ place
    → join_with_byte 47 (front ++ text ∷ []) ≡ join_with_byte 47 front ++ behind place text
joined_by [] zero text long = refl
joined_by [] (suc place) text long = absurd (omega arith)
joined_by (first ∷ texts) zero text long = absurd (omega arith)
joined_by (first ∷ texts) (suc place) text long =
    join_more texts first text
    ∙ ap (λ (l : List ℕ). join_with_byte 47 (first ∷ texts) ++ l) (sym (cond-false (suc place == 0) text (47 ∷ text) (ne_eqb (suc place) 0 (λ e. cc))))

pub part_joined : (path : List (List ℕ)) (place : ℕ) (part : List ℕ) → slice_get path place ≡ Some part
    → join_with_byte 47 (map escaped (take (place + 1) path)) ≡ join_with_byte 47 (map escaped (take place path)) ++ behind place (escaped part)
part_joined path place part there =
    let within : place < length path = slice_get_within path place part there in
    let more : map escaped (take (place + 1) path) ≡ map escaped (take place path) ++ escaped part ∷ [] =
    map_more escaped path place part within ∙ ap (λ (x : List ℕ). map escaped (take place path) ++ escaped x ∷ []) (get_or_from_slice_get path place part part there) in
    let long : length (map escaped (take place path)) ≡ place = omega (arith, length-map (take place path) escaped, length-take place path) in
    ap (join_with_byte 47) more ∙ joined_by (map escaped (take place path)) place (escaped part) long
