-- What a value holds is spelled by slices of its spelling.
use Rattle.std.proofs.Common.{◌≡◌, ℕ, ◌+◌, ◌-◌, Bool, true, false, cond, List, [], ◌∷◌, ◌++◌, length, drop, All, Option, Some, None, refl, sym, ◌∙◌, ap, subst, arith, append_assoc}
use Rattle.std.specs.Prelude.{IfSome, option_map, find}
use Rattle.std.specs.List.{AllByRecursion}
use Rattle.std.specs.Str.{bytes_eq}
use Rattle.std.proofs.lemmas.List.{append-nil, take_at, drop_at, length-append}
use Rattle.std.proofs.lemmas.List.Elements.{All-from_recursion}
use Rattle.bencode_core.specs.Value.{Value, Values, Members, integer, string, list, dict, no_values, value, no_members, member, spelling, spellings, member_spellings, string_spelling}
use Rattle.std.specs.Global.{Vec}
use Rattle.std.specs.Borrow.{Bor}
use Rattle.std.specs.Option.{option_copied}
use Rattle.bencode_core.specs.declared.ben.Node.{Node}
use Rattle.bencode_core.specs.declared.ben.Node.TheVariants as nodes
use Rattle.bencode_core.specs.Node.{value_of, values_in, members_in, pairs_of, IsBen}
use Rattle.bencode_core.specs.declared.ben.Member.{Member}
use Rattle.bencode_core.specs.Placed.{Placed, placed_values, placed_members, items_at, items_of, members_at, members_of, member_of, StandsIn}

-- the part stands in a text that begins at start
record Within (text : List ℕ) (start : ℕ) (part : Placed) : Type 0 where
  front : List ℕ
  back : List ℕ
  is : text ≡ front ++ (spelling part.value ++ back)
  place : part.place ≡ start + length front

all_map : {A : Type 0} {P Q : A → Type 0} → ((x : A) → P x → Q x) → (xs : List A) → AllByRecursion P xs → AllByRecursion Q xs
all_map f [] are = tt
all_map f (x ∷ xs) are = (f x are.0, all_map f xs are.1)

-- a text in a longer one
longer : (before text after whole : List ℕ) (start : ℕ) (part : Placed) → whole ≡ before ++ (text ++ after) → Within text (start + length before) part → Within whole start part
longer before text after whole start part whole_is within = record {
  front = before ++ within.front;
  back = within.back ++ after;
  is = whole_is ∙ ap (λ (xs : List ℕ). before ++ (xs ++ after)) within.is ∙ simp append_assoc;
  place = omega (arith, within.place, length-append before within.front);
}

values_within : (vs : Values) (place : ℕ) → AllByRecursion (Within (spellings vs) place) (placed_values place vs)
values_within no_values place = tt
values_within (value v vs) place = (
  record { front = []; back = spellings vs; is = refl; place = omega arith },
  all_map (λ p. longer (spelling v) (spellings vs) [] (spelling v ++ spellings vs) place p (ap (λ (xs : List ℕ). spelling v ++ xs) (sym (append-nil (spellings vs))))) (placed_values (place + length (spelling v)) vs) (values_within vs (place + length (spelling v))),
)

members_within : (ms : Members) (place : ℕ) → AllByRecursion (λ m. Within (member_spellings ms) place m.1) (placed_members place ms)
members_within no_members place = tt
members_within (member key v ms) place =
    let text = string_spelling key ++ spelling v in
    let len = length-append (string_spelling key) (spelling v) in
    let behind : place + length (string_spelling key) + length (spelling v) ≡ place + length text = omega arith in (
      record { front = string_spelling key; back = member_spellings ms; is = append_assoc (string_spelling key) (spelling v) (member_spellings ms); place = refl },
      rw behind (all_map (λ m. longer text (member_spellings ms) [] (text ++ member_spellings ms) place m.1 (ap (λ (xs : List ℕ). text ++ xs) (sym (append-nil (member_spellings ms))))) (placed_members (place + length text) ms) (members_within ms (place + length text))),
    )

stands : (whole part : Placed) → Within (spelling whole.value) whole.place part → StandsIn whole part
stands whole part within =
    let at : part.place - whole.place ≡ length within.front = omega (arith, within.place) in
    let behind : drop (length within.front) (spelling whole.value) ≡ spelling part.value ++ within.back = ap (drop (length within.front)) within.is ∙ drop_at within.front (spelling part.value ++ within.back) (length within.front) refl in
    record {
      behind = omega (arith, within.place);
      slice = rw (at, behind) (take_at (spelling part.value) within.back (length (spelling part.value)) refl);
    }

items_stand_at : (place : ℕ) (v : Value) → AllByRecursion (StandsIn (record { place = place; value = v })) (items_at place v)
items_stand_at place (integer z) = tt
items_stand_at place (string bytes) = tt
items_stand_at place (list vs) = all_map (λ p within. stands (record { place = place; value = list vs }) p (longer (108 ∷ []) (spellings vs) (101 ∷ []) (spelling (list vs)) place p refl within)) (placed_values (place + 1) vs) (values_within vs (place + 1))
items_stand_at place (dict ms) = tt

members_stand_at : (place : ℕ) (v : Value) → AllByRecursion (λ m. StandsIn (record { place = place; value = v }) m.1) (members_at place v)
members_stand_at place (integer z) = tt
members_stand_at place (string bytes) = tt
members_stand_at place (list vs) = tt
members_stand_at place (dict ms) = all_map (λ m within. stands (record { place = place; value = dict ms }) m.1 (longer (100 ∷ []) (member_spellings ms) (101 ∷ []) (spelling (dict ms)) place m.1 refl within)) (placed_members (place + 1) ms) (members_within ms (place + 1))

pub items_stand : (whole : Placed) → All (StandsIn whole) (items_of whole)
items_stand whole = All-from_recursion (StandsIn whole) (items_of whole) (items_stand_at whole.place whole.value)

found_stands : (whole : Placed) (test : List ℕ × Placed → Bool) (ms : List (List ℕ × Placed)) → AllByRecursion (λ m. StandsIn whole m.1) ms → IfSome (option_map (λ m. m.1) (find test ms)) (StandsIn whole)
found_stands whole test [] are = tt
found_stands whole test (m ∷ ms) are =
    elim (test m) as (λ b. IfSome (option_map (λ n. n.1) (cond b (Some m) (find test ms))) (StandsIn whole)) [ true ↦ are.0 | false ↦ found_stands whole test ms are.1 ]

pub member_stands : (whole : Placed) (key : List ℕ) → IfSome (member_of key whole) (StandsIn whole)
member_stands whole key = found_stands whole (λ m. bytes_eq m.0 key) (members_of whole) (members_stand_at whole.place whole.value)

-- members as the code has them
pub pairs_stand : (whole : Placed) (ms : List Member) → pairs_of ms ≡ members_of whole → All (λ m. StandsIn whole m.value) ms
pairs_stand whole ms is = All-from_recursion (λ m. StandsIn whole m.value) ms (each ms (rw is (members_stand_at whole.place whole.value)))
  where
    each : (ns : List Member) → AllByRecursion (λ m. StandsIn whole m.1) (pairs_of ns) → AllByRecursion (λ m. StandsIn whole m.value) ns
    each [] are = tt
    each (n ∷ ns) are = (are.0, each ns are.1)

-- ---- what the fields hold

pub node_items_stand : (start end : ℕ) (items : Vec Placed) (node : Node) (whole : Placed) → node ≡ nodes.List items → IsBen start end node → record { place = start; value = value_of node } ≡ whole → All (StandsIn whole) items.items
node_items_stand start end items node whole is ben view =
    let here : IsBen start end (nodes.List items) = rw is at ben in
    let seen : record { place = start; value = list (values_in items.items) } ≡ whole = rw is at view in
    subst (λ (ps : List Placed). All (StandsIn whole) ps) (sym (here.places ∙ ap items_of seen)) (items_stand whole)

pub node_members_stand : (start end : ℕ) (ms : Vec Member) (node : Node) (whole : Placed) → node ≡ nodes.Dict ms → IsBen start end node → record { place = start; value = value_of node } ≡ whole → All (λ m. StandsIn whole m.value) ms.items
node_members_stand start end ms node whole is ben view =
    let here : IsBen start end (nodes.Dict ms) = rw is at ben in
    let seen : record { place = start; value = dict (members_in ms.items) } ≡ whole = rw is at view in
    pairs_stand whole ms.items (here.places ∙ ap members_of seen)

-- what is found among members that stand in the whole
pub found_member_stands : (start end : ℕ) (ms : Vec Member) (key : List ℕ) (node : Node) (whole : Placed) → node ≡ nodes.Dict ms → IsBen start end node → record { place = start; value = value_of node } ≡ whole → IfSome (option_map (λ m. m.1) (find (λ m. bytes_eq m.0 key) (pairs_of ms.items))) (StandsIn whole)
found_member_stands start end ms key node whole is ben view =
    let here : IsBen start end (nodes.Dict ms) = rw is at ben in
    let seen : record { place = start; value = dict (members_in ms.items) } ≡ whole = rw is at view in
    subst (λ (ps : List (List ℕ × Placed)). IfSome (option_map (λ m. m.1) (find (λ m. bytes_eq m.0 key) ps)) (StandsIn whole)) (sym (here.places ∙ ap members_of seen)) (member_stands whole key)

pub some_now : (o : Option (Bor Placed)) (P : Placed → Type 0) → IfSome (option_copied o) P → IfSome o (λ b. P b.now)
some_now None P holds = tt
some_now (Some b) P holds = holds
