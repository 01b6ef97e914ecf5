-- Paths of files, and roots as their strings tell them.
use Rattle.std.proofs.Common.{◌≡◌, ℕ, ◌≤◌, ◌<◌, ◌+◌, ◌-◌, ◌&&◌, Bor, Bool, true, false, cond, eqb, List, [], ◌∷◌, ◌++◌, length, take, drop, map, get_or, Ok, Err, Result, Some, None, refl, sym, ap, arith, ◌∙◌}
use Rattle.std.specs.List.{list_all}
use Rattle.std.proofs.lemmas.Bool.{and_parts, cond-true, cond-false, eq-eqb, ne_eqb, false_from_ne_true, false≢true, le-leb}
use Rattle.std.proofs.lemmas.List.{append_assoc, drop_more, get_or_default, length-append, map-append, take-append-drop, take_all, take_more}
use Rattle.std.proofs.lemmas.Option.{cond_some}
use Rattle.span_map.specs.Paths.{IsPath}
use Rattle.metainfo.specs.Tests.{is_part, is_path}
use Rattle.metainfo.proofs.Parts.{path_decides}
use Rattle.meta_v2.specs.Rules.{name_before, payload_path}
use Rattle.meta_v2.specs.declared.refusals.V2Err.{V2Err}

and_assoc : (a b c : Bool) → (a && b && c) ≡ (a && (b && c))
and_assoc true b c = refl
and_assoc false b c = refl

and_false : (a : Bool) → (a && false) ≡ false
and_false true = refl
and_false false = refl

tests_pass : (path : List (List ℕ)) → 1 ≤ length path → length path ≤ 64 → list_all is_part path ≡ true
    → is_path path ≡ true
tests_pass path some few all = rw (le-leb 1 (length path) some, le-leb (length path) 64 few, all) refl

parts_behind : (name : List ℕ) (named : Bool) (parts : List (List ℕ)) → is_part name ≡ true
    → list_all is_part (name_before name named ++ parts) ≡ list_all is_part parts
parts_behind name true parts valid = refl
parts_behind name false parts valid = rw valid refl

some_parts : (name : List ℕ) (named : Bool) (parts : List (List ℕ)) → 0 < length parts
    → payload_path name named parts ≡ name_before name named ++ parts
some_parts name named [] some = absurd (omega (arith, some))
some_parts name named (part ∷ parts) some = refl

len_behind : (name : List ℕ) (named : Bool) (parts : List (List ℕ))
    → length (name_before name named ++ parts) ≡ length (name_before name named) + length parts
len_behind name named parts = length-append (name_before name named) parts

len_before : (name : List ℕ) (named : Bool) → length (name_before name named) ≤ 1
len_before name true = omega arith
len_before name false = omega arith

-- what path_in answers for a path
abbrev pub judged : List (List ℕ) → V2Err → Result (List (List ℕ)) V2Err
judged path e = cond (is_path path) (Ok path) (Err e)

pub good_path : (name : List ℕ) (named : Bool) (parts path : List (List ℕ)) (e : V2Err) → is_part name ≡ true
    → 0 < length parts → length parts ≤ 64 - length (name_before name named) → list_all is_part parts ≡ true
    → path ≡ name_before name named ++ parts → judged (payload_path name named parts) e ≡ Ok path
good_path name named parts path e valid some few all is =
    let whole = name_before name named ++ parts in
    let long : length whole ≡ length (name_before name named) + length parts = len_behind name named parts in
    let before = len_before name named in
    let passes : is_path whole ≡ true = tests_pass whole (omega (arith, long, some)) (omega (arith, long, few, before))
    (parts_behind name named parts valid ∙ all) in
    ap (λ (p : List (List ℕ)). judged p e) (some_parts name named parts some)
    ∙ cond-true (is_path whole) (Ok whole) (Err e) passes ∙ ap Ok (sym is)

refused : (path : List (List ℕ)) (e : V2Err) → (IsPath path → ⊥) → judged path e ≡ Err e
refused path e not_path =
    cond-false (is_path path) (Ok path) (Err e) (false_from_ne_true (is_path path) (λ is. not_path ((path_decides path).0 is)))

pub no_parts : (name : List ℕ) (named : Bool) (parts : List (List ℕ)) (e : V2Err) → length parts ≡ 0
    → judged (payload_path name named parts) e ≡ Err e
no_parts name named [] e none = refused [] e (λ path. let some = path.some in omega (arith, some))
no_parts name named (part ∷ parts) e none = absurd (omega (arith, none))

pub many_parts : (name : List ℕ) (named : Bool) (parts : List (List ℕ)) (e : V2Err)
    → 64 - length (name_before name named) < length parts → judged (payload_path name named parts) e ≡ Err e
many_parts name named parts e many =
    let long = len_behind name named parts in
    ap (λ (p : List (List ℕ)). judged p e) (some_parts name named parts (omega (arith, many)))
    ∙ refused (name_before name named ++ parts) e (λ path. let short = path.short in omega (arith, short, long, many))

pub bad_parts : (name : List ℕ) (named : Bool) (parts : List (List ℕ)) (e : V2Err) → is_part name ≡ true
    → 0 < length parts → list_all is_part parts ≡ false → judged (payload_path name named parts) e ≡ Err e
bad_parts name named parts e valid some bad =
    let whole = name_before name named ++ parts in
    ap (λ (p : List (List ℕ)). judged p e) (some_parts name named parts some)
    ∙ refused whole e (λ path.
    let parts_pass = (and_parts _ (list_all is_part whole) ((path_decides whole).1 path)).1 in
    false≢true (sym (parts_behind name named parts valid ∙ bad) ∙ parts_pass))

-- ---- parts of a path, one after the other

abbrev texts : List (Bor (List ℕ)) → List (List ℕ)
texts parts = map (λ part. part.now) parts

texts_more : (parts : List (Bor (List ℕ))) (i : ℕ) (part : Bor (List ℕ)) → i < length parts → part ≡ get_or parts i part
    → texts (take (i + 1) parts) ≡ texts (take i parts) ++ part.now ∷ []
texts_more parts i part within is =
    ap texts (take_more parts i part within ∙ ap (λ (x : Bor (List ℕ)). take i parts ++ x ∷ []) (sym is))
    ∙ map-append (λ (x : Bor (List ℕ)). x.now) (take i parts) (part ∷ [])

all_append : (xs ys : List (List ℕ)) → list_all is_part (xs ++ ys) ≡ (list_all is_part xs && list_all is_part ys)
all_append [] ys = refl
all_append (x ∷ xs) ys =
    ap (λ (b : Bool). is_part x && b) (all_append xs ys) ∙ sym (and_assoc (is_part x) (list_all is_part xs) (list_all is_part ys))

-- the answer for a part that is valid, and for another
valid_is : (bytes text : List ℕ) → cond (is_part bytes) (Some bytes) None ≡ Some text → (is_part bytes ≡ true) × (bytes ≡ text)
valid_is bytes text is = cond_some (is_part bytes) bytes text is

invalid_is : (bytes : List ℕ) (test : Bool) → is_part bytes ≡ test → cond test (Some bytes) None ≡ None → is_part bytes ≡ false
invalid_is bytes true is none = cc
invalid_is bytes false is none = is

pub part_valid : (parts : List (Bor (List ℕ))) (i : ℕ) (part : Bor (List ℕ)) (text : List ℕ) → i < length parts
    → part ≡ get_or parts i part → list_all is_part (texts (take i parts)) ≡ true
    → cond (is_part part.now) (Some part.now) None ≡ Some text → list_all is_part (texts (take (i + 1) parts)) ≡ true
part_valid parts i part text within is front some =
    let valid = (valid_is part.now text some).0 in
    ap (list_all is_part) (texts_more parts i part within is) ∙ all_append (texts (take i parts)) (part.now ∷ [])
    ∙ rw (front, valid) refl

pub part_pushed : (old path more : List (List ℕ)) (parts : List (Bor (List ℕ))) (i : ℕ) (part : Bor (List ℕ))
    (text pushed : List ℕ) → i < length parts → part ≡ get_or parts i part → path ≡ old ++ texts (take i parts)
    → more ≡ path ++ pushed ∷ [] → pushed ≡ text → cond (is_part part.now) (Some part.now) None ≡ Some text
    → more ≡ old ++ texts (take (i + 1) parts)
part_pushed old path more parts i part text pushed within is so_far push same some =
    let text_is = (valid_is part.now text some).1 in
    push ∙ ap (λ (l : List (List ℕ)). l ++ pushed ∷ []) so_far
    ∙ append_assoc old (texts (take i parts)) (pushed ∷ [])
    ∙ ap (λ (l : List ℕ). old ++ (texts (take i parts) ++ l ∷ [])) (same ∙ sym text_is)
    ∙ ap (λ (l : List (List ℕ)). old ++ l) (sym (texts_more parts i part within is))

all_false : (front rest : List (List ℕ)) (part : List ℕ) → is_part part ≡ false
    → list_all is_part (front ++ part ∷ rest) ≡ false
all_false [] rest part bad = rw bad refl
all_false (x ∷ front) rest part bad = rw (all_false front rest part bad) (and_false (is_part x))

pub bad_part : (parts : List (Bor (List ℕ))) (i : ℕ) (part : Bor (List ℕ)) → i < length parts
    → part ≡ get_or parts i part → cond (is_part part.now) (Some part.now) None ≡ None
    → list_all is_part (texts parts) ≡ false
bad_part parts i part within is none =
    let bad = invalid_is part.now (is_part part.now) refl none in
    let split : texts parts ≡ texts (take i parts) ++ part.now ∷ texts (drop (i + 1) parts) =
    ap texts (sym (take-append-drop i parts)) ∙ map-append (λ (x : Bor (List ℕ)). x.now) (take i parts) (drop i parts)
    ∙ ap (λ (l : List (Bor (List ℕ))). texts (take i parts) ++ texts l)
    (drop_more parts i part within ∙ ap (λ (x : Bor (List ℕ)). x ∷ drop (i + 1) parts) (sym is)) in
    ap (list_all is_part) split ∙ all_false (texts (take i parts)) (texts (drop (i + 1) parts)) part.now bad

-- the same of what stands at a place

at_place : (parts : List (Bor (List ℕ))) (i : ℕ) (d : Bor (List ℕ)) → i < length parts
    → get_or parts i d ≡ get_or parts i (get_or parts i d)
at_place parts i d within = get_or_default parts i d (get_or parts i d) within

pub bad_place : (parts : List (Bor (List ℕ))) (i : ℕ) (d : Bor (List ℕ)) → i < length parts
    → cond (is_part (get_or parts i d).now) (Some (get_or parts i d).now) None ≡ None
    → list_all is_part (texts parts) ≡ false
bad_place parts i d within none = bad_part parts i (get_or parts i d) within (at_place parts i d within) none

pub place_valid : (parts : List (Bor (List ℕ))) (i : ℕ) (d : Bor (List ℕ)) (text : List ℕ) → i < length parts
    → list_all is_part (texts (take i parts)) ≡ true
    → cond (is_part (get_or parts i d).now) (Some (get_or parts i d).now) None ≡ Some text
    → list_all is_part (texts (take (i + 1) parts)) ≡ true
place_valid parts i d text within front some =
    part_valid parts i (get_or parts i d) text within (at_place parts i d within) front some

pub place_pushed : (old path more : List (List ℕ)) (parts : List (Bor (List ℕ))) (i : ℕ) (d : Bor (List ℕ))
    (text pushed : List ℕ) → i < length parts → path ≡ old ++ texts (take i parts) → more ≡ path ++ pushed ∷ []
    → pushed ≡ text → cond (is_part (get_or parts i d).now) (Some (get_or parts i d).now) None ≡ Some text
    → more ≡ old ++ texts (take (i + 1) parts)
place_pushed old path more parts i d text pushed within so_far push same some =
    part_pushed old path more parts i (get_or parts i d) text pushed within (at_place parts i d within) so_far push same some

-- ---- roots

pub exact_root : (bytes root rest : List ℕ) → root ≡ take 32 bytes → length rest + 32 ≡ length bytes
    → length rest ≡ 0 → Some root ≡ cond (eqb (length bytes) 32) (Some bytes) None
exact_root bytes root rest is long none =
    let whole : length bytes ≡ 32 = omega (arith, long, none) in
    ap Some (is ∙ take_all 32 bytes (omega (arith, whole)))
    ∙ sym (cond-true (eqb (length bytes) 32) (Some bytes) None (eq-eqb (length bytes) 32 whole))

pub other_root : (bytes : List ℕ) → (length bytes ≡ 32 → ⊥)
    → None ≡ cond (eqb (length bytes) 32) (Some bytes) None
other_root bytes other =
    sym (cond-false (eqb (length bytes) 32) (Some bytes) None (ne_eqb (length bytes) 32 other))
