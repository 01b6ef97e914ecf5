-- Names that are read segment by segment.
use Rattle.std.proofs.Common.{◌≡◌, ℕ, ◌+◌, ◌<◌, ◌≤◌, Bool, true, false, cond, List, [], ◌∷◌, ◌++◌, append_assoc, append-nil, length, take, drop, map, refl, ap, sym, ◌∙◌, subst, arith, ⊎_elim}
use Rattle.std.specs.Bool.{MatchBool}
use Rattle.std.specs.List.{flat_map, list_all, slice_split, position_or_len}
use Rattle.std.specs.Prelude.{◌==◌, ◌&&◌, position, All, Option, Some, None, option_map}
use Rattle.std.proofs.lemmas.Bool.{cases_lt, lt-ltb, ltb-true, cond-true, cond-false, and_parts, and_from}
use Rattle.std.proofs.lemmas.Option.{cond_some, none-some}
use Rattle.std.proofs.lemmas.List.Elements.{All-from_get_or, All-nil, All-cons}
use Rattle.std.proofs.lemmas.List.Splits.{slice_split_none, slice_split_first}
use Rattle.std.proofs.lemmas.List.Sums.{fails_before_first}
use Rattle.percent_encoding.specs.Percent.{percent_decode}
use Rattle.payload_files.specs.Names.{path_text}
use Rattle.span_map.specs.Paths.{IsValidPart}
use Rattle.origin_replies.specs.Names.{may_be_part, name_of_path, name_of_parts, parts_between, LiesBelow, NamesLieBelow, path_in}
use Rattle.std.specs.Borrow.{Bor}
use Rattle.origin_replies.specs.Segments.{Cuts, IsPartOf, HasPutBehind, HavePutBehind, may_be_one, part_behind, segments_in}
use Rattle.origin_replies.proofs.Parts.{part_decides}

abbrev is_slash : ℕ → Bool
is_slash byte = byte == 47

-- no slash is in the path
pub cut_none : (path : List ℕ) → position is_slash path ≡ None → slice_split is_slash path ≡ path ∷ []
cut_none path none =
    slice_split_none is_slash path
    (All-from_get_or (λ byte. is_slash byte ≡ false) path 0 (λ k below. fails_before_first is_slash path k 0 (within k below)))
  where
    all : length path ≤ position_or_len is_slash path
    all = ⊎_elim (λ lt. absurd (none-some _ (sym none ∙ cond-true _ _ _ (lt-ltb _ _ lt))))
        (λ le. le)
        (cases_lt (position_or_len is_slash path) (length path))

    within : (k : ℕ) → k < length path → k < position_or_len is_slash path
    within k below = omega (arith, below, all)

-- the first slash is at this place
pub cut_some : (path : List ℕ) (place : ℕ) → position is_slash path ≡ Some place
    → slice_split is_slash path ≡ take place path ∷ slice_split is_slash (drop (place + 1) path)
cut_some path place some =
    let both = cond_some _ _ _ some in
    let P : ℕ → Type 0 = λ n. slice_split is_slash path ≡ take n path ∷ slice_split is_slash (drop (n + 1) path) in
    subst P both.1 (slice_split_first is_slash path 0 (ltb-true _ _ both.0))

-- ---- the name

-- the decoded segments
abbrev decoded : List (List ℕ) → List (List ℕ)
decoded segments = map percent_decode segments

all_decoded : (segments : List (List ℕ)) → list_all may_be_part (decoded segments) ≡ list_all may_be_one segments
all_decoded [] = refl
all_decoded (s ∷ segments) = ap (λ b. may_be_one s && b) (all_decoded segments)

text_behind : (part : List ℕ) (segments : List (List ℕ))
    → path_text (part ∷ decoded segments) ≡ part ++ flat_map part_behind segments
text_behind part [] = sym (append-nil part)
text_behind part (s ∷ segments) = ap (λ text. part ++ 47 ∷ text) (text_behind (percent_decode s) segments)

-- each may be a part
pub name_of_all : (first : List ℕ) (segments : List (List ℕ)) → may_be_one first ≡ true → list_all may_be_one segments ≡ true
    → name_of_parts (decoded (first ∷ segments)) ≡ Some (percent_decode first ++ flat_map part_behind segments)
name_of_all first segments one others =
    cond-true _ _ _ (and_from _ _ one (all_decoded segments ∙ others)) ∙ ap Some (text_behind (percent_decode first) segments)

pub name_of_bad_first : (first : List ℕ) (segments : List (List ℕ)) → may_be_one first ≡ false
    → name_of_parts (decoded (first ∷ segments)) ≡ None
name_of_bad_first first segments bad = cond-false _ _ _ (ap (λ b. b && list_all may_be_part (decoded segments)) bad)

pub name_of_bad_others : (first : List ℕ) (segments : List (List ℕ)) → may_be_one first ≡ true
    → list_all may_be_one segments ≡ false → name_of_parts (decoded (first ∷ segments)) ≡ None
name_of_bad_others first segments one bad =
    cond-false _ _ _ (ap (λ b. b && list_all may_be_part (decoded segments)) one ∙ (all_decoded segments ∙ bad))

-- ---- one segment behind another

-- how much is left
abbrev pub left_in : Option (Bor (List ℕ)) → ℕ
left_in None = 0
left_in (Some path) = length path.now + 1

abbrev pub rest_in : Option (Bor (List ℕ)) → List (List ℕ)
rest_in behind = segments_in (option_map (λ path. path.now) behind)

-- from the one as from the other
abbrev pub PutsOn : List (List ℕ) → List ℕ → List (List ℕ) → List ℕ → Type 0
PutsOn segments old later mid =
    (may : Bool) (new : List ℕ) → HavePutBehind later mid may new → HavePutBehind segments old may new

put_more : (path segment : List ℕ) (others : Option (List ℕ)) (old mid : List ℕ) → Cuts path segment others
    → HasPutBehind segment old true mid → PutsOn (segments_in (Some path)) old (segments_in others) mid
put_more path segment others old mid cuts put may new h =
    subst (λ segments. HavePutBehind segments old may new) (sym cuts) (first, by may h.1)
  where
    rest : List (List ℕ)
    rest = segments_in others

    first : may ≡ list_all may_be_one (segment ∷ rest)
    first = h.0 ∙ ap (λ b. b && list_all may_be_one rest) put.0

    by : (may : Bool) → MatchBool may (new ≡ mid ++ flat_map part_behind rest) (Unit {0})
        → MatchBool may (new ≡ old ++ flat_map part_behind (segment ∷ rest)) (Unit {0})
    by true is = is ∙ (ap (λ m. m ++ flat_map part_behind rest) put.1 ∙ append_assoc old (part_behind segment) (flat_map part_behind rest))
    by false is = tt

pub puts_on : (path : Bor (List ℕ)) (segment : List ℕ) (others : Option (Bor (List ℕ))) (segments : List (List ℕ)) (start old mid : List ℕ)
    → PutsOn segments start (rest_in (Some path)) old → Cuts path.now segment (option_map (λ rest. rest.now) others)
    → HasPutBehind segment old true mid → PutsOn segments start (rest_in others) mid
puts_on path segment others segments start old mid on cuts put may new h =
    on may new (put_more path.now segment (option_map (λ rest. rest.now) others) old mid cuts put may new h)

pub puts_no_more : (path segment : List ℕ) (others : Option (List ℕ)) (old mid new : List ℕ) → Cuts path segment others
    → HasPutBehind segment old false mid → HavePutBehind (segments_in (Some path)) old false new
puts_no_more path segment others old mid new cuts put =
    subst (λ segments. HavePutBehind segments old false new) (sym cuts)
    (ap (λ b. b && list_all may_be_one (segments_in others)) put.0, tt)

pub stops : (behind : Option (Bor (List ℕ))) (path : Bor (List ℕ)) (segment : List ℕ) (others : Option (Bor (List ℕ)))
    (segments : List (List ℕ)) (start old mid new : List ℕ) (may : Bool)
    → behind ≡ Some path → PutsOn segments start (rest_in behind) old
    → Cuts path.now segment (option_map (λ rest. rest.now) others) → HasPutBehind segment old may mid → may ≡ false
    → HavePutBehind segments start false new
stops behind path segment others segments start old mid new may some on cuts put is =
    subst (λ behind. PutsOn segments start (rest_in behind) old) some on false new
    (puts_no_more path.now segment (option_map (λ rest. rest.now) others) old mid new cuts
    (subst (λ may. HasPutBehind segment old may mid) is put))

pub goes_on : (behind : Option (Bor (List ℕ))) (path : Bor (List ℕ)) (segment : List ℕ) (others : Option (Bor (List ℕ)))
    (segments : List (List ℕ)) (start old mid : List ℕ) (may : Bool)
    → behind ≡ Some path → PutsOn segments start (rest_in behind) old
    → Cuts path.now segment (option_map (λ rest. rest.now) others) → HasPutBehind segment old may mid → may ≡ true
    → PutsOn segments start (rest_in others) mid
goes_on behind path segment others segments start old mid may some on cuts put is =
    puts_on path segment others segments start old mid (subst (λ behind. PutsOn segments start (rest_in behind) old) some on)
    cuts (subst (λ may. HasPutBehind segment old may mid) is put)

pub ends : (behind : Option (Bor (List ℕ))) (segments : List (List ℕ)) (start old : List ℕ)
    → behind ≡ None → PutsOn segments start (rest_in behind) old → HavePutBehind segments start true old
ends behind segments start old none on =
    subst (λ behind. PutsOn segments start (rest_in behind) old) none on true old (refl, sym (append-nil old))

-- ---- the whole name

-- by the first segment and the others
pub whole : (path first : List ℕ) (behind : Option (List ℕ)) (start new : List ℕ) (may : Bool) → Cuts path first behind
    → IsPartOf first (Some start) → HavePutBehind (segments_in behind) start may new
    → name_of_parts (parts_between path) ≡ cond may (Some new) None
whole path first behind start new may cuts part put =
    ap (λ segments. name_of_parts (decoded segments)) cuts ∙ by may put.0 put.1
  where
    others : List (List ℕ)
    others = segments_in behind

    by : (may : Bool) → may ≡ list_all may_be_one others
        → MatchBool may (new ≡ start ++ flat_map part_behind others) (Unit {0})
        → name_of_parts (decoded (first ∷ others)) ≡ cond may (Some new) None
    by true all is =
        name_of_all first others part.0 (sym all)
        ∙ ap Some (sym (is ∙ ap (λ s. s ++ flat_map part_behind others) part.1))
    by false some is = name_of_bad_others first others part.0 (sym some)

-- .. where the first one may be no part
pub bad_first : (path first : List ℕ) (behind : Option (List ℕ)) → Cuts path first behind → IsPartOf first None
    → name_of_parts (parts_between path) ≡ None
bad_first path first behind cuts bad =
    ap (λ segments. name_of_parts (decoded segments)) cuts ∙ name_of_bad_first first (segments_in behind) bad

-- ---- where a name lies

all_valid : (parts : List (List ℕ)) → list_all may_be_part parts ≡ true → All IsValidPart parts
all_valid [] is = All-nil IsValidPart
all_valid (p ∷ parts) is =
    let both = and_parts (may_be_part p) (list_all may_be_part parts) is in
    All-cons IsValidPart p parts ((part_decides p).0 both.0) (all_valid parts both.1)

below_by_parts : (parts : List (List ℕ)) (name : List ℕ) → name_of_parts parts ≡ Some name → LiesBelow name
below_by_parts parts name is =
    let both = cond_some _ _ _ is in record { parts = parts; valid = all_valid parts both.0; is = sym both.1 }

below_by_path : (path name : List ℕ) → name_of_path path ≡ Some name → LiesBelow name
below_by_path [] name is = absurd (none-some name is)
below_by_path (b ∷ path) name is = by (b == 47) is
  where
    by : (test : Bool) → cond test (name_of_parts (parts_between path)) None ≡ Some name → LiesBelow name
    by true is = below_by_parts (parts_between path) name is
    by false is = absurd (none-some name is)

pub names_lie_below : NamesLieBelow
names_lie_below target name is = below_by_path (path_in target) name is
