-- The loop that reads the items of a list.
use Rattle.std.proofs.Common.{◌≡◌, ℕ, suc, ◌+◌, ◌-◌, ◌^◌, ◌<◌, ◌≤◌, true, false, List, [], ◌∷◌, ◌++◌, length, drop, Option, Some, None, Result, Ok, Err, refl, sym, ◌∙◌, ap, arith}
use Rattle.std.specs.Prelude.{IfSome}
use Rattle.std.specs.Global.{Vec}
use Rattle.std.proofs.lemmas.List.{length-append, length-drop, length_push}
use Rattle.bencode_core.specs.Value.{Value, Values, list, no_values, value, spelling, spellings}
use Rattle.bencode_core.specs.Placed.{Placed, placed_values}
use Rattle.bencode_core.specs.Node.{values_in, IsBen}
use Rattle.bencode_core.specs.Reading.{◌>>=◌, begins, values_by, list_value, fault_of}
use Rattle.bencode_core.specs.declared.ben.Node.TheVariants as nodes
use Rattle.bencode_core.specs.declared.fault.BenErr.{BenErr}
use Rattle.bencode_core.proofs.Takes.{IsReader, values_take}
use Rattle.bencode_core.proofs.Again.{spelling_some}
use Rattle.bencode_core.proofs.Pushed.{spellings-push}

abbrev pub append_values : Values → Values → Values
append_values no_values ws = ws
append_values (value v vs) ws = value v (append_values vs ws)

pub append_values-none : (vs : Values) → append_values vs no_values ≡ vs
append_values-none no_values = refl
append_values-none (value v vs) = ap (value v) (append_values-none vs)

append_values-push : (items : List Placed) (p : Placed) (ws : Values) → append_values (values_in (items ++ p ∷ [])) ws ≡ append_values (values_in items) (value p.value ws)
append_values-push [] p ws = refl
append_values-push (q ∷ items) p ws = ap (value q.value) (append_values-push items p ws)

placed_values-push : (items : List Placed) (v : Value) (place : ℕ) → placed_values place (values_in items) ++ record { place = place + length (spellings (values_in items)); value = v } ∷ [] ≡ placed_values place (append_values (values_in items) (value v no_values))
placed_values-push [] v place = ap (λ (n : ℕ). record { place = n; value = v } ∷ []) (omega arith)
placed_values-push (q ∷ items) v place =
    let behind : place + length (spelling q.value ++ spellings (values_in items)) ≡ place + length (spelling q.value) + length (spellings (values_in items)) = omega (arith, length-append (spelling q.value) (spellings (values_in items))) in
    ap (λ (ps : List Placed). record { place = place; value = q.value } ∷ ps) (rw behind (placed_values-push items v (place + length (spelling q.value))))

-- a value that stands behind those that stand right
places_more : (items : List Placed) (p : Placed) (place : ℕ) → items ≡ placed_values place (values_in items) → p.place ≡ place + length (spellings (values_in items)) → items ++ p ∷ [] ≡ placed_values place (values_in (items ++ p ∷ []))
places_more items p place are is =
    let p_is : p ≡ record { place = place + length (spellings (values_in items)); value = p.value } = ap (λ (n : ℕ). record { place = n; value = p.value }) is in
    let pushed : append_values (values_in items) (value p.value no_values) ≡ values_in (items ++ p ∷ []) = sym (append_values-push items p no_values) ∙ append_values-none (values_in (items ++ p ∷ [])) in
    ap (λ (ps : List Placed). ps ++ p ∷ []) are ∙ ap (λ (q : Placed). placed_values place (values_in items) ++ q ∷ []) p_is ∙ placed_values-push items p.value place ∙ ap (placed_values place) pushed

-- the values read so far, before those that come
abbrev pub with_values : Values → Result Values BenErr → Result Values BenErr
with_values front read = read >>= λ vs. Ok (append_values front vs)

with_values-push : (items : List Placed) (p : Placed) (read : Result Values BenErr) → with_values (values_in items) (read >>= λ vs. Ok (value p.value vs)) ≡ with_values (values_in (items ++ p ∷ [])) read
with_values-push items p (Ok vs) = ap (λ (ws : Values). Ok ws) (sym (append_values-push items p vs))
with_values-push items p (Err e) = refl

pub record ReadsItems (one : ℕ → List ℕ → Result Value BenErr) (place : ℕ) (bytes : List ℕ) (items : List Placed) (next : ℕ) (rest : List ℕ) : Type 0 where
  pub total : with_values (values_in items) (values_by one (length bytes - length items) next rest) ≡ values_by one (length bytes) (place + 1) (drop 1 bytes)
  pub counted : length items + length rest < length bytes
  pub places : items ≡ placed_values (place + 1) (values_in items)
  pub so_far : next ≡ place + 1 + length (spellings (values_in items))
  pub ends : next + length rest ≡ place + length bytes

pub with_values-none : (read : Result Values BenErr) → with_values no_values read ≡ read
with_values-none (Ok vs) = refl
with_values-none (Err e) = refl

pub one_more_read : (one : ℕ → List ℕ → Result Value BenErr) (turns next : ℕ) (rest : List ℕ) (v : Value) → begins 101 rest ≡ false → one next rest ≡ Ok v → values_by one (suc turns) next rest ≡ (values_by one turns (next + length (spelling v)) (drop (length (spelling v)) rest) >>= λ vs. Ok (value v vs))
unfolding values_by
one_more_read one turns next rest v more read = rw (more, read) refl

pub one_failed : (one : ℕ → List ℕ → Result Value BenErr) (turns next : ℕ) (rest : List ℕ) (e : BenErr) → begins 101 rest ≡ false → one next rest ≡ Err e → values_by one (suc turns) next rest ≡ Err e
unfolding values_by
one_failed one turns next rest e more failed = rw (more, failed) refl

pub none_left : (one : ℕ → List ℕ → Result Value BenErr) (turns next : ℕ) (rest : List ℕ) → begins 101 rest ≡ true → values_by one (suc turns) next rest ≡ Ok no_values
unfolding values_by
none_left one turns next rest end = rw end refl

pub list_failed : (one : ℕ → List ℕ → Result Value BenErr) (place : ℕ) (bytes : List ℕ) (f : BenErr) → values_by one (length bytes) (place + 1) (drop 1 bytes) ≡ Err f → list_value one place bytes ≡ Err f
unfolding list_value
list_failed one place bytes f is = rw is refl

pub list_read : (one : ℕ → List ℕ → Result Value BenErr) (place : ℕ) (bytes : List ℕ) (vs : Values) → values_by one (length bytes) (place + 1) (drop 1 bytes) ≡ Ok vs → list_value one place bytes ≡ Ok (list vs)
unfolding list_value
list_read one place bytes vs is = rw is refl

module _ (levels : ℕ) (one : ℕ → List ℕ → Result Value BenErr) (reads : IsReader levels one) (place : ℕ) (bytes : List ℕ) where
  pub no_items : 0 < length bytes → ReadsItems one place bytes [] (place + 1) (drop 1 bytes)
  no_items some =
      let all : length bytes - 0 ≡ length bytes = omega arith in
      record {
        total = with_values-none (values_by one (length bytes - 0) (place + 1) (drop 1 bytes)) ∙ ap (λ (n : ℕ). values_by one n (place + 1) (drop 1 bytes)) all;
        counted = omega (arith, length-drop 1 bytes);
        places = refl;
        so_far = omega arith;
        ends = omega (arith, length-drop 1 bytes);
      }

  -- how long an item is, and that it fits
  pub item_len : (next : ℕ) (rest : List ℕ) (p : Placed) → length rest < 2 ^ 64 → one next rest ≡ Ok p.value → (0 < length (spelling p.value)) × (length (spelling p.value) ≤ length rest)
  item_len next rest p fits read =
      let taken = reads next rest p.value fits read in
      (spelling_some p.value, omega (arith, ap length taken.spelled, length-append (spelling p.value) taken.rest))

  pub items_more : (items : List Placed) (next : ℕ) (rest : List ℕ) (p : Placed) → begins 101 rest ≡ false → length rest < 2 ^ 64 → one next rest ≡ Ok p.value → p.place ≡ next → ReadsItems one place bytes items next rest → ReadsItems one place bytes (items ++ p ∷ []) (next + length (spelling p.value)) (drop (length (spelling p.value)) rest)
  items_more items next rest p more fits read at so_far =
      let len = length (spelling p.value) in
      let push = length_push items p in
      let left : length bytes - length items ≡ suc (length bytes - length (items ++ p ∷ [])) = omega (arith, so_far.counted) in
      let lengths = item_len next rest p fits read in
      let behind = length-drop len rest in
      let step : values_by one (length bytes - length items) next rest ≡ (values_by one (length bytes - length (items ++ p ∷ [])) (next + len) (drop len rest) >>= λ vs. Ok (value p.value vs)) = rw left (one_more_read one (length bytes - length (items ++ p ∷ [])) next rest p.value more read) in
      let spelled : length (spellings (values_in (items ++ p ∷ []))) ≡ length (spellings (values_in items)) + len = ap length (spellings-push items p) ∙ length-append (spellings (values_in items)) (spelling p.value) in
      record {
        total = sym (with_values-push items p (values_by one (length bytes - length (items ++ p ∷ [])) (next + len) (drop len rest))) ∙ ap (with_values (values_in items)) (sym step) ∙ so_far.total;
        counted = omega (arith, so_far.counted, lengths.0, lengths.1);
        places = places_more items p (place + 1) so_far.places (omega (arith, so_far.so_far));
        so_far = omega (arith, so_far.so_far);
        ends = omega (arith, so_far.ends, lengths.1);
      }

  -- a fault at an item is the list's
  pub item_failed : (items : List Placed) (next : ℕ) (rest : List ℕ) (e : BenErr) → begins 101 rest ≡ false → IfSome (fault_of e) (λ f. one next rest ≡ Err f) → ReadsItems one place bytes items next rest → IfSome (fault_of e) (λ f. list_value one place bytes ≡ Err f)
  item_failed items next rest e more failed so_far = fails (fault_of e) failed
    where
      fails : (o : Option BenErr) → IfSome o (λ f. one next rest ≡ Err f) → IfSome o (λ f. list_value one place bytes ≡ Err f)
      fails None failed = tt
      fails (Some f) failed =
          let left : length bytes - length items ≡ suc (length bytes - length items - 1) = omega (arith, so_far.counted) in
          let here : values_by one (length bytes - length items) next rest ≡ Err f = rw left (one_failed one (length bytes - length items - 1) next rest f more failed) in
          list_failed one place bytes f (sym so_far.total ∙ ap (with_values (values_in items)) here)

  all_read : (items : List Placed) (next : ℕ) (rest : List ℕ) → begins 101 rest ≡ true → ReadsItems one place bytes items next rest → values_by one (length bytes) (place + 1) (drop 1 bytes) ≡ Ok (values_in items)
  all_read items next rest end so_far =
      let left : length bytes - length items ≡ suc (length bytes - length items - 1) = omega (arith, so_far.counted) in
      let here : values_by one (length bytes - length items) next rest ≡ Ok no_values = rw left (none_left one (length bytes - length items - 1) next rest end) in
      sym so_far.total ∙ ap (with_values (values_in items)) here ∙ ap (λ (vs : Values). Ok vs) (append_values-none (values_in items))

  pub list_is : (items : List Placed) (next : ℕ) (rest : List ℕ) → begins 101 rest ≡ true → ReadsItems one place bytes items next rest → list_value one place bytes ≡ Ok (list (values_in items))
  list_is items next rest end so_far = list_read one place bytes (values_in items) (all_read items next rest end so_far)

  pub list_made : (items : Vec Placed) (next : ℕ) (rest : List ℕ) → place + length bytes < 2 ^ 32 → levels < 100 → begins 101 rest ≡ true → ReadsItems one place bytes items.items next rest → IsBen place (next + 1) (nodes.List items)
  list_made items next rest fits deep end so_far =
      let behind = length-drop 1 bytes in
      let all = values_take levels one reads (length bytes) (place + 1) (drop 1 bytes) (values_in items.items) (omega arith) (all_read items.items next rest end so_far) in
      let some = ended_some rest end in
      let text = spellings (values_in items.items) in
      let len = length-append text (101 ∷ []) in
      record {
        is_value = record { sound = all.sound; depth = omega (arith, all.deep); short = omega (arith, so_far.so_far, so_far.ends) };
        places = so_far.places;
        ends = omega (arith, so_far.so_far);
      }
    where
      ended_some : (rest : List ℕ) → begins 101 rest ≡ true → 0 < length rest
      ended_some [] end = absurd cc
      ended_some (b ∷ rest) end = omega arith
