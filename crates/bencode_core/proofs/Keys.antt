-- A binary search among keys that ascend finds what a look-up finds.
use Rattle.std.proofs.Common.{◌≡◌, ℕ, zero, suc, ◌<◌, ◌≤◌, true, false, cond, List, [], ◌∷◌, length, get_or, Option, Some, None, refl, sym, ◌∙◌, ap, arith, inl, inr}
use Rattle.std.specs.Prelude.{option_map, find}
use Rattle.std.specs.Str.{bytes_eq}
use Rattle.std.specs.Ordering.{nat_cmp, is_eq, is_lt, ordering_index}
use Rattle.std.specs.Cmp.Lexicographic.{slice_cmp, nat_list_cmp_total}
use Rattle.std.specs.List.Sorted.{IsNonDecreasingBy, IsPartitionPoint}
use Rattle.std.specs.declared.cmp.Ordering.{Ordering}
use Rattle.std.specs.declared.cmp.Ordering.TheVariants.{Less, Equal, Greater}
use Rattle.std.proofs.lemmas.Cmp.{alike_right}
use Rattle.std.proofs.lemmas.Bool.{cases_lt}
use Rattle.std.proofs.lemmas.Map.Text.{is_eq-slice_cmp}
use Rattle.std.proofs.lemmas.List.Recursion.{found_at}
use Rattle.bencode_core.specs.Value.{AreMembers}
use Rattle.bencode_core.specs.Placed.{Placed}
use Rattle.bencode_core.specs.Node.{members_in, pairs_of}
use Rattle.bencode_core.specs.declared.ben.Member.{Member}

abbrev order : List ℕ → List ℕ → Ordering
order = slice_cmp nat_cmp

abbrev pub found : List ℕ → List Member → Option Placed
found key ms = option_map (λ m. m.1) (find (λ m. bytes_eq m.0 key) (pairs_of ms))

found_step : (key : List ℕ) (m : Member) (ms : List Member) → found key (m ∷ ms) ≡ cond (bytes_eq m.key.items key) (Some m.value) (found key ms)
found_step key m ms =
    elim (bytes_eq m.key.items key) as (λ b. option_map (λ m. m.1) (cond b (Some (m.key.items, m.value)) (find (λ m. bytes_eq m.0 key) (pairs_of ms))) ≡ cond b (Some m.value) (found key ms)) [ true ↦ refl | false ↦ refl ]

-- a test that passes
pub is_less : (o : Ordering) → is_lt o ≡ true → o ≡ Less
is_less Less is = refl
is_less Equal is = absurd cc
is_less Greater is = absurd cc

-- a key is below those behind it
below_later : (before : List ℕ) (ms : List Member) (i : ℕ) (d : Member) → AreMembers (Some before) (members_in ms) → i < length ms → order before (get_or ms i d).key.items ≡ Less
below_later before [] i d are lt = absurd (omega arith)
below_later before (m ∷ ms) zero d are lt = is_less _ are.0
below_later before (m ∷ ms) (suc i) d are lt = nat_list_cmp_total.trans before m.key.items _ (is_less _ are.0) (below_later m.key.items ms i d are.2 (omega arith))

ascend : (before : Option (List ℕ)) (ms : List Member) (i j : ℕ) (d : Member) → AreMembers before (members_in ms) → i < j → j < length ms → order (get_or ms i d).key.items (get_or ms j d).key.items ≡ Less
ascend before [] i j d are lt within = absurd (omega arith)
ascend before (m ∷ ms) i zero d are lt within = absurd (omega arith)
ascend before (m ∷ ms) zero (suc j) d are lt within = below_later m.key.items ms j d are.2 (omega arith)
ascend before (m ∷ ms) (suc i) (suc j) d are lt within = ascend (Some m.key.items) ms i j d are.2 (omega arith) (omega arith)

index_at_most : (o : Ordering) → ordering_index o ≤ 2
index_at_most Less = omega arith
index_at_most Equal = omega arith
index_at_most Greater = omega arith

-- what is below y is no higher against the key than y
index_rises : (x y key : List ℕ) (o : Ordering) → order x y ≡ Less → order y key ≡ o → ordering_index (order x key) ≤ ordering_index (order y key)
index_rises x y key Less below is = rw (nat_list_cmp_total.trans x y key below is, is) (omega arith)
index_rises x y key Equal below is = rw (sym (alike_right nat_list_cmp_total y key x is) ∙ below, is) (omega arith)
index_rises x y key Greater below is = rw is (index_at_most (order x key))

rises : (before : Option (List ℕ)) (ms : List Member) (key : List ℕ) → AreMembers before (members_in ms) → IsNonDecreasingBy (λ m. ordering_index (order m.key.items key)) ms
rises before ms key are i j d le within =
    elim (cases_lt i j) [
      | inl lt ↦ index_rises _ _ key _ (ascend before ms i j d are lt within) refl
      | inr ge ↦ let same : i ≡ j = omega arith in rw same (omega arith)
    ]

equal_key : (x key : List ℕ) → order x key ≡ Equal → bytes_eq x key ≡ true
equal_key x key is = sym (is_eq-slice_cmp x key) ∙ ap is_eq is

other_key : (x key : List ℕ) (o : Ordering) → order x key ≡ o → is_eq o ≡ false → bytes_eq x key ≡ false
other_key x key o is other = sym (is_eq-slice_cmp x key) ∙ ap is_eq is ∙ other

-- a member that ties with the key is the one that is found
pub found_there : (before : Option (List ℕ)) (ms : List Member) (key : List ℕ) (i : ℕ) (d : Member) → AreMembers before (members_in ms) → i < length ms → order (get_or ms i d).key.items key ≡ Equal → found key ms ≡ Some (get_or ms i d).value
found_there before ms key i d are within is =
    found_at (found key) (λ m. bytes_eq m.key.items key) (λ m. Some m.value) None refl (found_step key) ms i d within
    (λ k lt. other_key (get_or ms k d).key.items key Less (sym (alike_right nat_list_cmp_total _ key _ is) ∙ ascend before ms k i d are lt within) refl)
    (equal_key (get_or ms i d).key.items key is)

-- where no member ties with the key, none is found
pub found_nowhere : (ms : List Member) (key : List ℕ) → ((k : ℕ) (d : Member) → k < length ms → bytes_eq (get_or ms k d).key.items key ≡ false) → found key ms ≡ None
found_nowhere [] key none = refl
found_nowhere (m ∷ ms) key none =
    let here : bytes_eq m.key.items key ≡ false = none 0 m (omega arith) in
    found_step key m ms ∙ rw here (found_nowhere ms key (λ k d lt. none (suc k) d (omega arith)))

pub not_found : (before : Option (List ℕ)) (ms : List Member) (key : List ℕ) (i : ℕ) → AreMembers before (members_in ms) → (IsNonDecreasingBy (λ m. ordering_index (order m.key.items key)) ms → IsPartitionPoint (λ m. order m.key.items key ≡ Less) (λ m. order m.key.items key ≡ Greater) ms i) → found key ms ≡ None
not_found before ms key i are splits =
    let parts = splits (rises before ms key are) in
    found_nowhere ms key (λ k d lt.
    elim (cases_lt k i) [
      | inl low ↦ other_key _ key Less (parts.0 k d (omega arith) low) refl
      | inr high ↦ other_key _ key Greater (parts.1 k d high lt) refl
    ])
