-- A binary search among members whose keys ascend finds what a look-up finds.
use Rattle.std.proofs.Common.{◌≡◌, ℕ, zero, suc, ◌<◌, ◌≤◌, Bool, true, false, cond, List, [], ◌∷◌, length, get_or, Bor, Option, Some, None, refl, sym, subst, ◌∙◌, ap, arith, inl, inr, ◌+◌}
use Rattle.std.specs.Option.{option_and_then, option_map}
use Rattle.std.specs.Prelude.{find}
use Rattle.std.specs.Str.{bytes_eq}
use Rattle.std.specs.Ordering.{nat_cmp, is_eq, is_lt, ordering_index}
use Rattle.std.specs.Cmp.Lexicographic.{slice_cmp, nat_list_cmp_total}
use Rattle.std.specs.List.Sorted.{IsNonDecreasingBy, IsPartitionPoint}
use Rattle.std.specs.declared.cmp.Ordering.{Ordering}
use Rattle.std.specs.declared.cmp.Ordering.TheVariants.{Less, Equal, Greater}
use Rattle.std.proofs.lemmas.Cmp.{alike_right}
use Rattle.std.proofs.lemmas.Bool.{cases_lt}
use Rattle.std.proofs.lemmas.Map.Text.{is_eq-slice_cmp}
use Rattle.std.proofs.lemmas.List.Recursion.{found_at}
use Rattle.bencode_core.specs.Placed.{Placed, member_of, members_of, placed_members, string_of}
use Rattle.bencode_core.specs.Value.{AreMembers, IsSound, Members, Value, dict, integer, list, member, no_members, string}
use Rattle.meta_v2.specs.Layers.{KeysAscend, pairs_of}
use Rattle.meta_v2.specs.Rules.{layer_text}

abbrev order : List ℕ → List ℕ → Ordering
order = slice_cmp nat_cmp

-- a member as it lies in memory
abbrev pub Lying : Type 0
Lying = Bor (List ℕ) × Placed

abbrev pub text_among : List ℕ → List Lying → Option (List ℕ)
text_among key ms = layer_text (pairs_of ms) key

text_step : (key : List ℕ) (m : Lying) (ms : List Lying)
    → text_among key (m ∷ ms) ≡ cond (bytes_eq m.0.now key) (string_of m.1.value) (text_among key ms)
text_step key m ms =
    elim (bytes_eq m.0.now key) as (λ b. option_and_then (λ (n : List ℕ × Placed). string_of n.1.value)
    (cond b (Some (m.0.now, m.1)) (find (λ (n : List ℕ × Placed). bytes_eq n.0 key) (pairs_of ms)))
    ≡ cond b (string_of m.1.value) (text_among key ms)) [ true ↦ refl | false ↦ refl ]

-- a test that passes
pub is_less : (o : Ordering) → is_lt o ≡ true → o ≡ Less
is_less Less is = refl
is_less Equal is = absurd cc
is_less Greater is = absurd cc

-- a key is below those behind it
below_later : (before : List ℕ) (ms : List Lying) (i : ℕ) (d : Lying) → KeysAscend (Some before) (pairs_of ms)
    → i < length ms → order before (get_or ms i d).0.now ≡ Less
below_later before [] i d are lt = absurd (omega arith)
below_later before (m ∷ ms) zero d are lt = is_less _ are.0
below_later before (m ∷ ms) (suc i) d are lt =
    nat_list_cmp_total.trans before m.0.now _ (is_less _ are.0) (below_later m.0.now ms i d are.1 (omega arith))

ascend : (before : Option (List ℕ)) (ms : List Lying) (i j : ℕ) (d : Lying) → KeysAscend before (pairs_of ms)
    → i < j → j < length ms → order (get_or ms i d).0.now (get_or ms j d).0.now ≡ Less
ascend before [] i j d are lt within = absurd (omega arith)
ascend before (m ∷ ms) i zero d are lt within = absurd (omega arith)
ascend before (m ∷ ms) zero (suc j) d are lt within = below_later m.0.now ms j d are.1 (omega arith)
ascend before (m ∷ ms) (suc i) (suc j) d are lt within = ascend (Some m.0.now) ms i j d are.1 (omega arith) (omega arith)

index_at_most : (o : Ordering) → ordering_index o ≤ 2
index_at_most Less = omega arith
index_at_most Equal = omega arith
index_at_most Greater = omega arith

-- what is below y is no higher against the key than y
index_rises : (x y key : List ℕ) (o : Ordering) → order x y ≡ Less → order y key ≡ o
    → ordering_index (order x key) ≤ ordering_index (order y key)
index_rises x y key Less below is = rw (nat_list_cmp_total.trans x y key below is, is) (omega arith)
index_rises x y key Equal below is =
    rw (sym (alike_right nat_list_cmp_total y key x is) ∙ below, is) (omega arith)
index_rises x y key Greater below is = rw is (index_at_most (order x key))

rises : (before : Option (List ℕ)) (ms : List Lying) (key : List ℕ) → KeysAscend before (pairs_of ms)
    → IsNonDecreasingBy (λ m. ordering_index (order m.0.now key)) ms
rises before ms key are i j d le within =
    elim (cases_lt i j) [
      | inl lt ↦ index_rises _ _ key _ (ascend before ms i j d are lt within) refl
      | inr ge ↦ let same : i ≡ j = omega arith in rw same (omega arith)
    ]

equal_key : (x key : List ℕ) → order x key ≡ Equal → bytes_eq x key ≡ true
equal_key x key is = sym (is_eq-slice_cmp x key) ∙ ap is_eq is

other_key : (x key : List ℕ) (o : Ordering) → order x key ≡ o → is_eq o ≡ false → bytes_eq x key ≡ false
other_key x key o is other = sym (is_eq-slice_cmp x key) ∙ ap is_eq is ∙ other

-- a member that ties with the key is the one that is found
pub text_there : (before : Option (List ℕ)) (ms : List Lying) (key : List ℕ) (i : ℕ) (d : Lying)
    → KeysAscend before (pairs_of ms) → i < length ms → order (get_or ms i d).0.now key ≡ Equal
    → text_among key ms ≡ string_of (get_or ms i d).1.value
text_there before ms key i d are within is =
    found_at (text_among key) (λ m. bytes_eq m.0.now key) (λ m. string_of m.1.value) None refl (text_step key) ms i d within
    (λ k lt. other_key (get_or ms k d).0.now key Less
    (sym (alike_right nat_list_cmp_total _ key _ is) ∙ ascend before ms k i d are lt within) refl)
    (equal_key (get_or ms i d).0.now key is)

-- where no member ties with the key, none is found
text_nowhere : (ms : List Lying) (key : List ℕ)
    → ((k : ℕ) (d : Lying) → k < length ms → bytes_eq (get_or ms k d).0.now key ≡ false) → text_among key ms ≡ None
text_nowhere [] key none = refl
text_nowhere (m ∷ ms) key none =
    let here : bytes_eq m.0.now key ≡ false = none 0 m (omega arith) in
    text_step key m ms ∙ rw here (text_nowhere ms key (λ k d lt. none (suc k) d (omega arith)))

pub no_text : (before : Option (List ℕ)) (ms : List Lying) (key : List ℕ) (i : ℕ) → KeysAscend before (pairs_of ms)
    → (IsNonDecreasingBy (λ m. ordering_index (order m.0.now key)) ms
    → IsPartitionPoint (λ m. order m.0.now key ≡ Less) (λ m. order m.0.now key ≡ Greater) ms i)
    → text_among key ms ≡ None
no_text before ms key i are splits =
    let parts = splits (rises before ms key are) in
    text_nowhere ms key (λ k d lt.
    elim (cases_lt k i) [
      | inl low ↦ other_key _ key Less (parts.0 k d (omega arith) low) refl
      | inr high ↦ other_key _ key Greater (parts.1 k d high lt) refl
    ])

-- ---- keys of dictionaries ascend

ascend_at : (before : Option (List ℕ)) (place : ℕ) (ms : Members) → AreMembers before ms
    → KeysAscend before (placed_members place ms)
ascend_at before place no_members are = tt
ascend_at before place (member key v ms) are = (are.0, ascend_at (Some key) _ ms are.2)

ascend_by : (place : ℕ) (v : Value) → IsSound v
    → KeysAscend None (members_of (record { place = place; value = v }))
ascend_by place (integer z) sound = tt
ascend_by place (string bytes) sound = tt
ascend_by place (list vs) sound = tt
ascend_by place (dict ms) sound = ascend_at None (place + 1) ms sound

pub keys_ascend : (p : Placed) → IsSound p.value → KeysAscend None (members_of p)
keys_ascend p sound = ascend_by p.place p.value sound

-- the value of a member is sound
abbrev HasSoundValue : Option (List ℕ × Placed) → Type 0
HasSoundValue None = Unit {0}
HasSoundValue (Some m) = IsSound m.1.value

either : (test : Bool) (m : List ℕ × Placed) (rest : Option (List ℕ × Placed)) → IsSound m.1.value → HasSoundValue rest
    → HasSoundValue (cond test (Some m) rest)
either true m rest sound more = sound
either false m rest sound more = more

sound_among : (before : Option (List ℕ)) (place : ℕ) (ms : Members) (key : List ℕ) → AreMembers before ms
    → HasSoundValue (find (λ m. bytes_eq m.0 key) (placed_members place ms))
sound_among before place no_members key are = tt
sound_among before place (member first v ms) key are =
    either (bytes_eq first key) _ _ are.1 (sound_among (Some first) _ ms key are.2)

sound_by : (place : ℕ) (v : Value) (key : List ℕ) → IsSound v
    → HasSoundValue (find (λ m. bytes_eq m.0 key) (members_of (record { place = place; value = v })))
sound_by place (integer z) key sound = tt
sound_by place (string bytes) key sound = tt
sound_by place (list vs) key sound = tt
sound_by place (dict ms) key sound = sound_among None (place + 1) ms key sound

of_found : (m : Option (List ℕ × Placed)) (found : Placed) → HasSoundValue m
    → option_map (λ (n : List ℕ × Placed). n.1) m ≡ Some found → IsSound found.value
of_found None found sound is = cc
of_found (Some m) found sound is =
    let same : m.1 ≡ found = cc in subst (λ (p : Placed). IsSound p.value) same sound

pub member_sound : (key : List ℕ) (p found : Placed) → member_of key p ≡ Some found → IsSound p.value → IsSound found.value
member_sound key p found is sound =
    of_found (find (λ m. bytes_eq m.0 key) (members_of p)) found (sound_by p.place p.value key sound) is
