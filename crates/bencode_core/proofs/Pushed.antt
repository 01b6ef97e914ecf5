-- The spelling of values as far as they were written.
use Rattle.std.proofs.Common.{◌≡◌, ℕ, zero, suc, ◌+◌, ◌<◌, ◌≤◌, List, [], ◌∷◌, ◌++◌, length, take, get_or, sym, ◌∙◌, ap, arith, append_assoc}
use Rattle.std.proofs.lemmas.List.{take_more, append-nil}
use Rattle.bencode_core.specs.Value.{spelling, spellings, member_spellings, string_spelling, depth, depths, member_depths}
use Rattle.bencode_core.specs.Placed.{Placed}
use Rattle.bencode_core.specs.Node.{values_in, members_in}
use Rattle.bencode_core.specs.declared.ben.Member.{Member}

depth_at : (items : List Placed) (i : ℕ) (d : Placed) → i < length items → depth (get_or items i d).value ≤ depths (values_in items)
depth_at [] i d within = absurd (omega arith)
depth_at (p ∷ ps) zero d within = omega arith
depth_at (p ∷ ps) (suc i) d within = omega (arith, depth_at ps i d (omega arith))

member_depth_at : (ms : List Member) (i : ℕ) (d : Member) → i < length ms → depth (get_or ms i d).value.value ≤ member_depths (members_in ms)
member_depth_at [] i d within = absurd (omega arith)
member_depth_at (m ∷ ms) zero d within = omega arith
member_depth_at (m ∷ ms) (suc i) d within = omega (arith, member_depth_at ms i d (omega arith))

-- an item is less deep than a list of it
pub item_depth : (items : List Placed) (i : ℕ) (p : Placed) → i < length items → p ≡ get_or items i p → depth p.value ≤ depths (values_in items)
item_depth items i p within is = rw is (depth_at items i p within)

pub member_depth : (ms : List Member) (i : ℕ) (m : Member) → i < length ms → m ≡ get_or ms i m → depth m.value.value ≤ member_depths (members_in ms)
member_depth ms i m within is = rw is (member_depth_at ms i m within)

pub spellings-push : (items : List Placed) (p : Placed) → spellings (values_in (items ++ p ∷ [])) ≡ spellings (values_in items) ++ spelling p.value
spellings-push [] p = append-nil (spelling p.value)
spellings-push (q ∷ items) p = ap (λ (xs : List ℕ). spelling q.value ++ xs) (spellings-push items p) ∙ sym (append_assoc (spelling q.value) (spellings (values_in items)) (spelling p.value))

pub member_spellings-push : (ms : List Member) (m : Member) → member_spellings (members_in (ms ++ m ∷ [])) ≡ member_spellings (members_in ms) ++ (string_spelling m.key.items ++ spelling m.value.value)
member_spellings-push [] m = append-nil (string_spelling m.key.items ++ spelling m.value.value)
member_spellings-push (n ∷ ms) m = ap (λ (xs : List ℕ). (string_spelling n.key.items ++ spelling n.value.value) ++ xs) (member_spellings-push ms m) ∙ sym (append_assoc (string_spelling n.key.items ++ spelling n.value.value) (member_spellings (members_in ms)) (string_spelling m.key.items ++ spelling m.value.value))

-- one item more
pub items_more : (items : List Placed) (i : ℕ) (p : Placed) (before old new : List ℕ) → i < length items → p ≡ get_or items i p → old ≡ before ++ spellings (values_in (take i items)) → new ≡ old ++ spelling p.value → new ≡ before ++ spellings (values_in (take (i + 1) items))
items_more items i p before old new within is so_far pushed =
    let all : spellings (values_in (take (i + 1) items)) ≡ spellings (values_in (take i items)) ++ spelling p.value = rw (take_more items i p within, ← is) (spellings-push (take i items) p) in
    pushed ∙ ap (λ (xs : List ℕ). xs ++ spelling p.value) so_far ∙ append_assoc before (spellings (values_in (take i items))) (spelling p.value) ∙ ap (λ (xs : List ℕ). before ++ xs) (sym all)

-- one member more
pub members_more : (ms : List Member) (i : ℕ) (m : Member) (before old middle new : List ℕ) → i < length ms → m ≡ get_or ms i m → old ≡ before ++ member_spellings (members_in (take i ms)) → middle ≡ old ++ string_spelling m.key.items → new ≡ middle ++ spelling m.value.value → new ≡ before ++ member_spellings (members_in (take (i + 1) ms))
members_more ms i m before old middle new within is so_far key pushed =
    let all : member_spellings (members_in (take (i + 1) ms)) ≡ member_spellings (members_in (take i ms)) ++ (string_spelling m.key.items ++ spelling m.value.value) = rw (take_more ms i m within, ← is) (member_spellings-push (take i ms) m) in
    pushed ∙ ap (λ (xs : List ℕ). xs ++ spelling m.value.value) (key ∙ ap (λ (xs : List ℕ). xs ++ string_spelling m.key.items) so_far) ∙ rw all (simp append_assoc)
