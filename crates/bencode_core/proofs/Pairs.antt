-- The loop that reads the members of a dictionary.
use Rattle.std.proofs.Common.{◌≡◌, ℕ, suc, ◌+◌, ◌-◌, ◌^◌, ◌<◌, ◌≤◌, true, false, List, [], ◌∷◌, ◌++◌, length, drop, Option, Some, None, Result, Ok, Err, refl, sym, ◌∙◌, ap, arith}
use Rattle.std.specs.Prelude.{IfSome, option_map, slice_get}
use Rattle.std.specs.Global.{Vec}
use Rattle.std.proofs.lemmas.List.{length-append, length-drop, length_push, map_push}
use Rattle.bencode_core.specs.Value.{Value, Members, dict, no_members, member, spelling, string_spelling, member_spellings}
use Rattle.bencode_core.specs.Placed.{Placed, placed_members}
use Rattle.bencode_core.specs.Node.{members_in, pairs_of, last_key, IsBen}
use Rattle.bencode_core.specs.Reading.{◌>>=◌, begins, member_by, member_spelling, members_by, dict_value, fault_of}
use Rattle.bencode_core.specs.declared.ben.Member.{Member}
use Rattle.bencode_core.specs.declared.ben.Node.TheVariants as nodes
use Rattle.bencode_core.specs.declared.fault.BenErr.{BenErr}
use Rattle.bencode_core.proofs.Takes.{IsReader, member_takes, members_take}
use Rattle.bencode_core.proofs.Again.{spelling_some}
use Rattle.bencode_core.proofs.Pushed.{member_spellings-push}

-- ---- the last key

last_at : (ms : List Member) (m : Member) → slice_get (ms ++ m ∷ []) (length ms) ≡ Some m
last_at [] m = refl
last_at (n ∷ ms) m = last_at ms m

last_key-push : (ms : List Member) (m : Member) → last_key (ms ++ m ∷ []) ≡ Some m.key.items
last_key-push ms m =
    let last : length (ms ++ m ∷ []) - 1 ≡ length ms = omega (arith, length_push ms m) in
    ap (λ (n : ℕ). option_map (λ k. k.key.items) (slice_get (ms ++ m ∷ []) n)) last ∙ ap (λ o. option_map (λ k. k.key.items) o) (last_at ms m)

-- ---- members behind members

abbrev pub append_members : Members → Members → Members
append_members no_members ns = ns
append_members (member key v ms) ns = member key v (append_members ms ns)

pub append_members-none : (ms : Members) → append_members ms no_members ≡ ms
append_members-none no_members = refl
append_members-none (member key v ms) = ap (member key v) (append_members-none ms)

append_members-push : (ms : List Member) (m : Member) (ns : Members) → append_members (members_in (ms ++ m ∷ [])) ns ≡ append_members (members_in ms) (member m.key.items m.value.value ns)
append_members-push [] m ns = refl
append_members-push (n ∷ ms) m ns = ap (member n.key.items n.value.value) (append_members-push ms m ns)

placed_members-push : (ms : List Member) (key : List ℕ) (v : Value) (place : ℕ) → placed_members place (members_in ms) ++ (key, record { place = place + length (member_spellings (members_in ms)) + length (string_spelling key); value = v }) ∷ [] ≡ placed_members place (append_members (members_in ms) (member key v no_members))
placed_members-push [] key v place = ap (λ (n : ℕ). (key, record { place = n + length (string_spelling key); value = v }) ∷ []) (omega arith)
placed_members-push (n ∷ ms) key v place =
    let text = string_spelling n.key.items ++ spelling n.value.value in
    let behind : place + length (text ++ member_spellings (members_in ms)) ≡ place + length (string_spelling n.key.items) + length (spelling n.value.value) + length (member_spellings (members_in ms)) = omega (arith, length-append text (member_spellings (members_in ms)), length-append (string_spelling n.key.items) (spelling n.value.value)) in
    ap (λ (ps : List (List ℕ × Placed)). (n.key.items, record { place = place + length (string_spelling n.key.items); value = n.value.value }) ∷ ps) (rw behind (placed_members-push ms key v (place + length (string_spelling n.key.items) + length (spelling n.value.value))))

-- a member that stands behind those that stand right
pairs_more : (ms : List Member) (m : Member) (place : ℕ) → pairs_of ms ≡ placed_members place (members_in ms) → m.value.place ≡ place + length (member_spellings (members_in ms)) + length (string_spelling m.key.items) → pairs_of (ms ++ m ∷ []) ≡ placed_members place (members_in (ms ++ m ∷ []))
pairs_more ms m place are is =
    let pushed : append_members (members_in ms) (member m.key.items m.value.value no_members) ≡ members_in (ms ++ m ∷ []) = sym (append_members-push ms m no_members) ∙ append_members-none (members_in (ms ++ m ∷ [])) in
    map_push (λ (n : Member). (n.key.items, n.value)) ms m ∙ ap (λ (ps : List (List ℕ × Placed)). ps ++ (m.key.items, m.value) ∷ []) are ∙ ap (λ (n : ℕ). placed_members place (members_in ms) ++ (m.key.items, record { place = n; value = m.value.value }) ∷ []) is ∙ placed_members-push ms m.key.items m.value.value place ∙ ap (placed_members place) pushed

-- the members read so far, before those that come
abbrev pub with_members : Members → Result Members BenErr → Result Members BenErr
with_members front read = read >>= λ ms. Ok (append_members front ms)

with_members-push : (ms : List Member) (m : Member) (read : Result Members BenErr) → with_members (members_in ms) (read >>= λ ns. Ok (member m.key.items m.value.value ns)) ≡ with_members (members_in (ms ++ m ∷ [])) read
with_members-push ms m (Ok ns) = ap (λ (ks : Members). Ok ks) (sym (append_members-push ms m ns))
with_members-push ms m (Err e) = refl

pub with_members-none : (read : Result Members BenErr) → with_members no_members read ≡ read
with_members-none (Ok ms) = refl
with_members-none (Err e) = refl

-- ---- one step

pub one_more_read : (one : ℕ → List ℕ → Result Value BenErr) (turns : ℕ) (before : Option (List ℕ)) (next : ℕ) (rest : List ℕ) (m : List ℕ × Value) → begins 101 rest ≡ false → member_by one before next rest ≡ Ok m → members_by one (suc turns) before next rest ≡ (members_by one turns (Some m.0) (next + length (member_spelling m)) (drop (length (member_spelling m)) rest) >>= λ ms. Ok (member m.0 m.1 ms))
unfolding members_by
one_more_read one turns before next rest m more read = rw (more, read) refl

pub one_failed : (one : ℕ → List ℕ → Result Value BenErr) (turns : ℕ) (before : Option (List ℕ)) (next : ℕ) (rest : List ℕ) (e : BenErr) → begins 101 rest ≡ false → member_by one before next rest ≡ Err e → members_by one (suc turns) before next rest ≡ Err e
unfolding members_by
one_failed one turns before next rest e more failed = rw (more, failed) refl

pub none_left : (one : ℕ → List ℕ → Result Value BenErr) (turns : ℕ) (before : Option (List ℕ)) (next : ℕ) (rest : List ℕ) → begins 101 rest ≡ true → members_by one (suc turns) before next rest ≡ Ok no_members
unfolding members_by
none_left one turns before next rest end = rw end refl

pub dict_failed : (one : ℕ → List ℕ → Result Value BenErr) (place : ℕ) (bytes : List ℕ) (f : BenErr) → members_by one (length bytes) None (place + 1) (drop 1 bytes) ≡ Err f → dict_value one place bytes ≡ Err f
unfolding dict_value
dict_failed one place bytes f is = rw is refl

pub dict_read : (one : ℕ → List ℕ → Result Value BenErr) (place : ℕ) (bytes : List ℕ) (ms : Members) → members_by one (length bytes) None (place + 1) (drop 1 bytes) ≡ Ok ms → dict_value one place bytes ≡ Ok (dict ms)
unfolding dict_value
dict_read one place bytes ms is = rw is refl

-- ---- the loop

pub record ReadsMembers (one : ℕ → List ℕ → Result Value BenErr) (place : ℕ) (bytes : List ℕ) (ms : List Member) (next : ℕ) (rest : List ℕ) : Type 0 where
  pub total : with_members (members_in ms) (members_by one (length bytes - length ms) (last_key ms) next rest) ≡ members_by one (length bytes) None (place + 1) (drop 1 bytes)
  pub counted : length ms + length rest < length bytes
  pub places : pairs_of ms ≡ placed_members (place + 1) (members_in ms)
  pub so_far : next ≡ place + 1 + length (member_spellings (members_in ms))
  pub ends : next + length rest ≡ place + length bytes

abbrev pair_of : Member → List ℕ × Value
pair_of m = (m.key.items, m.value.value)

module _ (levels : ℕ) (one : ℕ → List ℕ → Result Value BenErr) (reads : IsReader levels one) (place : ℕ) (bytes : List ℕ) where
  pub no_members_yet : 0 < length bytes → ReadsMembers one place bytes [] (place + 1) (drop 1 bytes)
  no_members_yet some =
      let all : length bytes - 0 ≡ length bytes = omega arith in
      record {
        total = with_members-none (members_by one (length bytes - 0) None (place + 1) (drop 1 bytes)) ∙ ap (λ (n : ℕ). members_by one n None (place + 1) (drop 1 bytes)) all;
        counted = omega (arith, length-drop 1 bytes);
        places = refl;
        so_far = omega arith;
        ends = omega (arith, length-drop 1 bytes);
      }

  -- how long a member is, and that it fits
  pub member_len : (ms : List Member) (next : ℕ) (rest : List ℕ) (m : Member) → length rest < 2 ^ 64 → member_by one (last_key ms) next rest ≡ Ok (pair_of m) → (0 < length (member_spelling (pair_of m))) × (length (member_spelling (pair_of m)) ≤ length rest)
  member_len ms next rest m fits read =
      let taken = member_takes levels one reads (last_key ms) next rest (pair_of m) fits read in
      (omega (arith, length-append (string_spelling m.key.items) (spelling m.value.value), spelling_some m.value.value), omega (arith, ap length taken.spelled, length-append (member_spelling (pair_of m)) taken.rest))

  pub members_more : (ms : List Member) (next : ℕ) (rest : List ℕ) (m : Member) → begins 101 rest ≡ false → length rest < 2 ^ 64 → member_by one (last_key ms) next rest ≡ Ok (pair_of m) → m.value.place ≡ next + length (string_spelling m.key.items) → ReadsMembers one place bytes ms next rest → ReadsMembers one place bytes (ms ++ m ∷ []) (next + length (member_spelling (pair_of m))) (drop (length (member_spelling (pair_of m))) rest)
  members_more ms next rest m more fits read at so_far =
      let len = length (member_spelling (pair_of m)) in
      let push = length_push ms m in
      let left : length bytes - length ms ≡ suc (length bytes - length (ms ++ m ∷ [])) = omega (arith, so_far.counted) in
      let lengths = member_len ms next rest m fits read in
      let behind = length-drop len rest in
      let step : members_by one (length bytes - length ms) (last_key ms) next rest ≡ (members_by one (length bytes - length (ms ++ m ∷ [])) (last_key (ms ++ m ∷ [])) (next + len) (drop len rest) >>= λ ns. Ok (member m.key.items m.value.value ns)) = rw (left, last_key-push ms m) (one_more_read one (length bytes - length (ms ++ m ∷ [])) (last_key ms) next rest (pair_of m) more read) in
      let spelled : length (member_spellings (members_in (ms ++ m ∷ []))) ≡ length (member_spellings (members_in ms)) + len = ap length (member_spellings-push ms m) ∙ length-append (member_spellings (members_in ms)) (member_spelling (pair_of m)) in
      record {
        total = sym (with_members-push ms m (members_by one (length bytes - length (ms ++ m ∷ [])) (last_key (ms ++ m ∷ [])) (next + len) (drop len rest))) ∙ ap (with_members (members_in ms)) (sym step) ∙ so_far.total;
        counted = omega (arith, so_far.counted, lengths.0, lengths.1);
        places = pairs_more ms m (place + 1) so_far.places (omega (arith, so_far.so_far));
        so_far = omega (arith, so_far.so_far);
        ends = omega (arith, so_far.ends, lengths.1);
      }

  -- a fault at a member is the dictionary's
  pub member_failed : (ms : List Member) (next : ℕ) (rest : List ℕ) (e : BenErr) → begins 101 rest ≡ false → IfSome (fault_of e) (λ f. member_by one (last_key ms) next rest ≡ Err f) → ReadsMembers one place bytes ms next rest → IfSome (fault_of e) (λ f. dict_value one place bytes ≡ Err f)
  member_failed ms next rest e more failed so_far = fails (fault_of e) failed
    where
      fails : (o : Option BenErr) → IfSome o (λ f. member_by one (last_key ms) next rest ≡ Err f) → IfSome o (λ f. dict_value one place bytes ≡ Err f)
      fails None failed = tt
      fails (Some f) failed =
          let left : length bytes - length ms ≡ suc (length bytes - length ms - 1) = omega (arith, so_far.counted) in
          let here : members_by one (length bytes - length ms) (last_key ms) next rest ≡ Err f = rw left (one_failed one (length bytes - length ms - 1) (last_key ms) next rest f more failed) in
          dict_failed one place bytes f (sym so_far.total ∙ ap (with_members (members_in ms)) here)

  all_read : (ms : List Member) (next : ℕ) (rest : List ℕ) → begins 101 rest ≡ true → ReadsMembers one place bytes ms next rest → members_by one (length bytes) None (place + 1) (drop 1 bytes) ≡ Ok (members_in ms)
  all_read ms next rest end so_far =
      let left : length bytes - length ms ≡ suc (length bytes - length ms - 1) = omega (arith, so_far.counted) in
      let here : members_by one (length bytes - length ms) (last_key ms) next rest ≡ Ok no_members = rw left (none_left one (length bytes - length ms - 1) (last_key ms) next rest end) in
      sym so_far.total ∙ ap (with_members (members_in ms)) here ∙ ap (λ (ns : Members). Ok ns) (append_members-none (members_in ms))

  pub dict_is : (ms : List Member) (next : ℕ) (rest : List ℕ) → begins 101 rest ≡ true → ReadsMembers one place bytes ms next rest → dict_value one place bytes ≡ Ok (dict (members_in ms))
  dict_is ms next rest end so_far = dict_read one place bytes (members_in ms) (all_read ms next rest end so_far)

  pub dict_made : (ms : Vec Member) (next : ℕ) (rest : List ℕ) → place + length bytes < 2 ^ 32 → levels < 100 → begins 101 rest ≡ true → ReadsMembers one place bytes ms.items next rest → IsBen place (next + 1) (nodes.Dict ms)
  dict_made ms next rest fits deep end so_far =
      let behind = length-drop 1 bytes in
      let all = members_take levels one reads (length bytes) None (place + 1) (drop 1 bytes) (members_in ms.items) (omega arith) (all_read ms.items next rest end so_far) in
      let some = ended_some rest end in
      let text = member_spellings (members_in ms.items) in
      let len = length-append text (101 ∷ []) in
      record {
        is_value = record { sound = all.sound; depth = omega (arith, all.deep); short = omega (arith, so_far.so_far, so_far.ends) };
        places = so_far.places;
        ends = omega (arith, so_far.so_far);
      }
    where
      ended_some : (rest : List ℕ) → begins 101 rest ≡ true → 0 < length rest
      ended_some [] end = absurd cc
      ended_some (b ∷ rest) end = omega arith
