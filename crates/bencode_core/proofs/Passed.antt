-- The length of what is read, where nothing of it is kept.
use Rattle.std.proofs.Common.{◌≡◌, ℕ, suc, ◌+◌, ◌-◌, ◌^◌, ◌<◌, ◌≤◌, true, false, ℤ, List, [], ◌∷◌, ◌++◌, length, drop, Option, Some, None, Result, Ok, Err, refl, sym, ◌∙◌, ap, arith}
use Rattle.std.specs.Prelude.{IfSome, is_some}
use Rattle.std.proofs.lemmas.List.{length-append, length-drop}
use Rattle.bencode_core.specs.Value.{Value, Values, Members, integer, no_values, value, no_members, member, spelling, spellings, string_spelling, member_spellings}
use Rattle.bencode_core.specs.Reading.{◌>>=◌, begins, integer_at, narrowed, narrowed_integer, string_at, values_by, member_by, member_spelling, members_by, integer_value, string_value, list_value, dict_value, fault_of}
use Rattle.bencode_core.specs.Passing.{value_len, member_len}
use Rattle.bencode_core.specs.declared.fault.BenErr.{BenErr}
use Rattle.bencode_core.proofs.Takes.{ok_is, IsReader, member_takes}
use Rattle.bencode_core.proofs.Again.{spelling_some}
use Rattle.bencode_core.proofs.Numbers.{mapped}
use Rattle.bencode_core.proofs.Fronts.{first_is}
use Rattle.bencode_core.proofs.Made.{integer_found, string_found}
use Rattle.bencode_core.proofs.Items as items
use Rattle.bencode_core.proofs.Pairs as pairs
use Rattle.bencode_core.proofs.Items.{append_values, append_values-none, with_values}
use Rattle.bencode_core.proofs.Pairs.{append_members, append_members-none, with_members}

-- ---- what a length and a fault tell

pub len_ok : (r : Result Value BenErr) (len : ℕ) → value_len r ≡ Ok len → (v : Value) × (r ≡ Ok v) × (length (spelling v) ≡ len)
len_ok (Ok v) len is = (v, refl, ok_is (length (spelling v)) len is)
len_ok (Err e) len is = absurd cc

pub len_err : (r : Result Value BenErr) (f : BenErr) → value_len r ≡ Err f → r ≡ Err f
len_err (Ok v) f is = absurd cc
len_err (Err e) f is = let same : e ≡ f = cc in ap (λ (d : BenErr). Err d) same

pub member_len_ok : (r : Result (List ℕ × Value) BenErr) (found : List ℕ × ℕ) → member_len r ≡ Ok found → (m : List ℕ × Value) × (r ≡ Ok m) × (m.0 ≡ found.0) × (length (member_spelling m) ≡ found.1)
member_len_ok (Ok m) found is =
    let same = ok_is {A = List ℕ × ℕ} (m.0, length (member_spelling m)) found is in
    (m, refl, ap (λ (n : List ℕ × ℕ). n.0) same, ap (λ (n : List ℕ × ℕ). n.1) same)
member_len_ok (Err e) found is = absurd cc

pub member_len_err : (r : Result (List ℕ × Value) BenErr) (f : BenErr) → member_len r ≡ Err f → r ≡ Err f
member_len_err (Ok m) f is = absurd cc
member_len_err (Err e) f is = let same : e ≡ f = cc in ap (λ (d : BenErr). Err d) same

-- ---- integers and strings

integer_is : (place : ℕ) (bytes : List ℕ) (number : ℤ) (rest : List ℕ) → Some (Some number, rest) ≡ narrowed_integer (integer_at bytes) → integer_value place bytes ≡ Ok (integer number)
unfolding integer_value
integer_is place bytes number rest is =
    let m = mapped {B = Option ℤ × List ℕ} (λ (n : ℤ × List ℕ). (narrowed n.0, n.1)) (integer_at bytes) (Some number, rest) (sym is) in
    let both = first_is (narrowed m.0.0) (Some number) m.0.1 rest m.2 in
    rw (m.1, both.0) refl

pub integer_passed : (place : ℕ) (bytes : List ℕ) (found : Option ℤ) (rest : List ℕ) → is_some found ≡ true → Some (found, rest) ≡ narrowed_integer (integer_at bytes) → (length rest ≤ length bytes) × (value_len (integer_value place bytes) ≡ Ok (length bytes - length rest))
integer_passed place bytes None rest some is = absurd cc
integer_passed place bytes (Some number) rest some is =
    let found = integer_found bytes number rest is in
    (omega (arith, found.len), ap value_len (integer_is place bytes number rest is) ∙ ap (λ (n : ℕ). Ok n) (omega (arith, found.len)))

pub string_passed : (place : ℕ) (bytes text rest : List ℕ) → length bytes < 2 ^ 32 → Some (text, rest) ≡ string_at bytes → value_len (string_value place bytes) ≡ Ok (length bytes - length rest)
unfolding string_value
string_passed place bytes text rest fits is =
    let found = string_found bytes text rest fits is in
    rw (sym is) (ap (λ (n : ℕ). Ok n) (omega (arith, found.len)))

-- ---- lists

append_values-value : (front : Values) (v : Value) (vs : Values) → append_values front (value v vs) ≡ append_values (append_values front (value v no_values)) vs
append_values-value no_values v vs = refl
append_values-value (value w front) v vs = ap (value w) (append_values-value front v vs)

with_values-value : (front : Values) (v : Value) (read : Result Values BenErr) → with_values front (read >>= λ vs. Ok (value v vs)) ≡ with_values (append_values front (value v no_values)) read
with_values-value front v (Ok vs) = ap (λ (ws : Values). Ok ws) (append_values-value front v vs)
with_values-value front v (Err e) = refl

spellings-len : (front : Values) (v : Value) → length (spellings (append_values front (value v no_values))) ≡ length (spellings front) + length (spelling v)
spellings-len no_values v = omega (arith, length-append (spelling v) [])
spellings-len (value w front) v = omega (arith, spellings-len front v, length-append (spelling w) (spellings front), length-append (spelling w) (spellings (append_values front (value v no_values))))

-- front is what was passed over
pub record PassesItems (one : ℕ → List ℕ → Result Value BenErr) (place : ℕ) (bytes : List ℕ) (next : ℕ) (rest : List ℕ) : Type 0 where
  pub front : Values
  pub turns : ℕ
  pub total : with_values front (values_by one turns next rest) ≡ values_by one (length bytes) (place + 1) (drop 1 bytes)
  pub counted : length rest < turns
  pub so_far : next ≡ place + 1 + length (spellings front)
  pub ends : next + length rest ≡ place + length bytes

-- ---- dictionaries

append_members-member : (front : Members) (key : List ℕ) (v : Value) (ms : Members) → append_members front (member key v ms) ≡ append_members (append_members front (member key v no_members)) ms
append_members-member no_members key v ms = refl
append_members-member (member k w front) key v ms = ap (member k w) (append_members-member front key v ms)

with_members-member : (front : Members) (key : List ℕ) (v : Value) (read : Result Members BenErr) → with_members front (read >>= λ ms. Ok (member key v ms)) ≡ with_members (append_members front (member key v no_members)) read
with_members-member front key v (Ok ms) = ap (λ (ns : Members). Ok ns) (append_members-member front key v ms)
with_members-member front key v (Err e) = refl

member_spellings-len : (front : Members) (key : List ℕ) (v : Value) → length (member_spellings (append_members front (member key v no_members))) ≡ length (member_spellings front) + length (member_spelling (key, v))
member_spellings-len no_members key v = omega (arith, length-append (string_spelling key ++ spelling v) [])
member_spellings-len (member k w front) key v = omega (arith, member_spellings-len front key v, length-append (string_spelling k ++ spelling w) (member_spellings front), length-append (string_spelling k ++ spelling w) (member_spellings (append_members front (member key v no_members))))

pub record PassesMembers (one : ℕ → List ℕ → Result Value BenErr) (place : ℕ) (bytes : List ℕ) (before : Option (List ℕ)) (next : ℕ) (rest : List ℕ) : Type 0 where
  pub front : Members
  pub turns : ℕ
  pub total : with_members front (members_by one turns before next rest) ≡ members_by one (length bytes) None (place + 1) (drop 1 bytes)
  pub counted : length rest < turns
  pub so_far : next ≡ place + 1 + length (member_spellings front)
  pub ends : next + length rest ≡ place + length bytes

ended_some : (rest : List ℕ) → begins 101 rest ≡ true → 0 < length rest
ended_some [] end = absurd cc
ended_some (b ∷ rest) end = omega arith

module _ (levels : ℕ) (one : ℕ → List ℕ → Result Value BenErr) (reads : IsReader levels one) (place : ℕ) (bytes : List ℕ) where
  pub no_item : 0 < length bytes → PassesItems one place bytes (place + 1) (drop 1 bytes)
  no_item some = record {
    front = no_values;
    turns = length bytes;
    total = items.with_values-none (values_by one (length bytes) (place + 1) (drop 1 bytes));
    counted = omega (arith, length-drop 1 bytes);
    so_far = omega arith;
    ends = omega (arith, length-drop 1 bytes);
  }

  pub item_fits : (next len : ℕ) (rest : List ℕ) → length rest < 2 ^ 64 → value_len (one next rest) ≡ Ok len → (0 < len) × (len ≤ length rest)
  item_fits next len rest fits is =
      let v = len_ok (one next rest) len is in
      let taken = reads next rest v.0 fits v.1 in
      (omega (arith, spelling_some v.0, v.2), omega (arith, v.2, ap length taken.spelled, length-append (spelling v.0) taken.rest))

  pub item_passed : (next len : ℕ) (rest : List ℕ) → begins 101 rest ≡ false → length rest < 2 ^ 64 → value_len (one next rest) ≡ Ok len → PassesItems one place bytes next rest → PassesItems one place bytes (next + len) (drop len rest)
  item_passed next len rest more fits is so_far =
      let v = len_ok (one next rest) len is in
      let lengths = item_fits next len rest fits is in
      let turns = so_far.turns - 1 in
      let left : so_far.turns ≡ suc turns = omega (arith, so_far.counted) in
      let behind = length-drop len rest in
      let own = length (spelling v.0) in
      let read : values_by one so_far.turns next rest ≡ (values_by one turns (next + own) (drop own rest) >>= λ vs. Ok (value v.0 vs)) = ap (λ (n : ℕ). values_by one n next rest) left ∙ items.one_more_read one turns next rest v.0 more v.1 in
      let step : values_by one so_far.turns next rest ≡ (values_by one turns (next + len) (drop len rest) >>= λ vs. Ok (value v.0 vs)) = read ∙ ap (λ (n : ℕ). values_by one turns (next + n) (drop n rest) >>= λ vs. Ok (value v.0 vs)) v.2 in
      record {
        front = append_values so_far.front (value v.0 no_values);
        turns = turns;
        total = sym (with_values-value so_far.front v.0 (values_by one turns (next + len) (drop len rest))) ∙ ap (with_values so_far.front) (sym step) ∙ so_far.total;
        counted = omega (arith, so_far.counted, lengths.0, lengths.1, behind);
        so_far = omega (arith, so_far.so_far, v.2, spellings-len so_far.front v.0);
        ends = omega (arith, so_far.ends, lengths.1, behind);
      }

  pub item_fails : (next : ℕ) (rest : List ℕ) (e : BenErr) → begins 101 rest ≡ false → IfSome (fault_of e) (λ f. value_len (one next rest) ≡ Err f) → PassesItems one place bytes next rest → IfSome (fault_of e) (λ f. value_len (list_value one place bytes) ≡ Err f)
  item_fails next rest e more failed so_far = fails (fault_of e) failed
    where
      fails : (o : Option BenErr) → IfSome o (λ f. value_len (one next rest) ≡ Err f) → IfSome o (λ f. value_len (list_value one place bytes) ≡ Err f)
      fails None failed = tt
      fails (Some f) failed =
          let turns = so_far.turns - 1 in
          let left : so_far.turns ≡ suc turns = omega (arith, so_far.counted) in
          let here : values_by one so_far.turns next rest ≡ Err f = rw left (items.one_failed one turns next rest f more (len_err (one next rest) f failed)) in
          ap value_len (items.list_failed one place bytes f (sym so_far.total ∙ ap (with_values so_far.front) here))

  pub items_passed : (next : ℕ) (rest : List ℕ) → begins 101 rest ≡ true → PassesItems one place bytes next rest → value_len (list_value one place bytes) ≡ Ok (next + 1 - place)
  items_passed next rest end so_far =
      let turns = so_far.turns - 1 in
      let left : so_far.turns ≡ suc turns = omega (arith, so_far.counted) in
      let here : values_by one so_far.turns next rest ≡ Ok no_values = rw left (items.none_left one turns next rest end) in
      let all : values_by one (length bytes) (place + 1) (drop 1 bytes) ≡ Ok so_far.front = sym so_far.total ∙ ap (with_values so_far.front) here ∙ ap (λ (vs : Values). Ok vs) (append_values-none so_far.front) in
      ap value_len (items.list_read one place bytes so_far.front all) ∙ ap (λ (n : ℕ). Ok n) (omega (arith, so_far.so_far, length-append (spellings so_far.front) (101 ∷ [])))

  pub list_fits : (next : ℕ) (rest : List ℕ) → begins 101 rest ≡ true → PassesItems one place bytes next rest → (place < next) × (next + 1 ≤ place + length bytes)
  list_fits next rest end so_far = (omega (arith, so_far.so_far), omega (arith, so_far.ends, ended_some rest end))

  pub no_member : 0 < length bytes → PassesMembers one place bytes None (place + 1) (drop 1 bytes)
  no_member some = record {
    front = no_members;
    turns = length bytes;
    total = pairs.with_members-none (members_by one (length bytes) None (place + 1) (drop 1 bytes));
    counted = omega (arith, length-drop 1 bytes);
    so_far = omega arith;
    ends = omega (arith, length-drop 1 bytes);
  }

  pub member_fits : (before : Option (List ℕ)) (next : ℕ) (found : List ℕ × ℕ) (rest : List ℕ) → length rest < 2 ^ 64 → member_len (member_by one before next rest) ≡ Ok found → (0 < found.1) × (found.1 ≤ length rest)
  member_fits before next found rest fits is =
      let m = member_len_ok (member_by one before next rest) found is in
      let taken = member_takes levels one reads before next rest m.0 fits m.1 in
      (omega (arith, m.3, length-append (string_spelling m.0.0) (spelling m.0.1), spelling_some m.0.1), omega (arith, m.3, ap length taken.spelled, length-append (member_spelling m.0) taken.rest))

  pub member_passed : (before : Option (List ℕ)) (next : ℕ) (found : List ℕ × ℕ) (rest : List ℕ) → begins 101 rest ≡ false → length rest < 2 ^ 64 → member_len (member_by one before next rest) ≡ Ok found → PassesMembers one place bytes before next rest → PassesMembers one place bytes (Some found.0) (next + found.1) (drop found.1 rest)
  member_passed before next found rest more fits is so_far =
      let m = member_len_ok (member_by one before next rest) found is in
      let lengths = member_fits before next found rest fits is in
      let turns = so_far.turns - 1 in
      let left : so_far.turns ≡ suc turns = omega (arith, so_far.counted) in
      let behind = length-drop found.1 rest in
      let own = length (member_spelling m.0) in
      let read : members_by one so_far.turns before next rest ≡ (members_by one turns (Some m.0.0) (next + own) (drop own rest) >>= λ ms. Ok (member m.0.0 m.0.1 ms)) = ap (λ (n : ℕ). members_by one n before next rest) left ∙ pairs.one_more_read one turns before next rest m.0 more m.1 in
      let step : members_by one so_far.turns before next rest ≡ (members_by one turns (Some found.0) (next + found.1) (drop found.1 rest) >>= λ ms. Ok (member m.0.0 m.0.1 ms)) =
      read ∙ λ i. members_by one turns (Some (m.2 i)) (next + m.3 i) (drop (m.3 i) rest) >>= λ ms. Ok (member m.0.0 m.0.1 ms) in
      record {
        front = append_members so_far.front (member m.0.0 m.0.1 no_members);
        turns = turns;
        total = sym (with_members-member so_far.front m.0.0 m.0.1 (members_by one turns (Some found.0) (next + found.1) (drop found.1 rest))) ∙ ap (with_members so_far.front) (sym step) ∙ so_far.total;
        counted = omega (arith, so_far.counted, lengths.0, lengths.1, behind);
        so_far = omega (arith, so_far.so_far, m.3, member_spellings-len so_far.front m.0.0 m.0.1);
        ends = omega (arith, so_far.ends, lengths.1, behind);
      }

  pub member_fails : (before : Option (List ℕ)) (next : ℕ) (rest : List ℕ) (e : BenErr) → begins 101 rest ≡ false → IfSome (fault_of e) (λ f. member_len (member_by one before next rest) ≡ Err f) → PassesMembers one place bytes before next rest → IfSome (fault_of e) (λ f. value_len (dict_value one place bytes) ≡ Err f)
  member_fails before next rest e more failed so_far = fails (fault_of e) failed
    where
      fails : (o : Option BenErr) → IfSome o (λ f. member_len (member_by one before next rest) ≡ Err f) → IfSome o (λ f. value_len (dict_value one place bytes) ≡ Err f)
      fails None failed = tt
      fails (Some f) failed =
          let turns = so_far.turns - 1 in
          let left : so_far.turns ≡ suc turns = omega (arith, so_far.counted) in
          let here : members_by one so_far.turns before next rest ≡ Err f = rw left (pairs.one_failed one turns before next rest f more (member_len_err (member_by one before next rest) f failed)) in
          ap value_len (pairs.dict_failed one place bytes f (sym so_far.total ∙ ap (with_members so_far.front) here))

  pub members_passed : (before : Option (List ℕ)) (next : ℕ) (rest : List ℕ) → begins 101 rest ≡ true → PassesMembers one place bytes before next rest → value_len (dict_value one place bytes) ≡ Ok (next + 1 - place)
  members_passed before next rest end so_far =
      let turns = so_far.turns - 1 in
      let left : so_far.turns ≡ suc turns = omega (arith, so_far.counted) in
      let here : members_by one so_far.turns before next rest ≡ Ok no_members = rw left (pairs.none_left one turns before next rest end) in
      let all : members_by one (length bytes) None (place + 1) (drop 1 bytes) ≡ Ok so_far.front = sym so_far.total ∙ ap (with_members so_far.front) here ∙ ap (λ (ms : Members). Ok ms) (append_members-none so_far.front) in
      ap value_len (pairs.dict_read one place bytes so_far.front all) ∙ ap (λ (n : ℕ). Ok n) (omega (arith, so_far.so_far, length-append (member_spellings so_far.front) (101 ∷ [])))

  pub dict_fits : (before : Option (List ℕ)) (next : ℕ) (rest : List ℕ) → begins 101 rest ≡ true → PassesMembers one place bytes before next rest → (place < next) × (next + 1 ≤ place + length bytes)
  dict_fits before next rest end so_far = (omega (arith, so_far.so_far), omega (arith, so_far.ends, ended_some rest end))
