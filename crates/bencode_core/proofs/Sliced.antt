-- Values as the slices that spell them.
use Rattle.std.proofs.Common.{◌≡◌, ℕ, ◌+◌, ◌-◌, ◌^◌, ◌<◌, ◌≤◌, cond, eqb, true, false, ℤ, List, [], ◌∷◌, ◌++◌, length, take, drop, Option, Some, None, Result, Ok, Err, refl, sym, ◌∙◌, ap, subst, arith, append_assoc}
use Rattle.std.specs.Prelude.{IfSome, is_some, find, option_map}
use Rattle.std.specs.Fmt.{decimal}
use lib.Signed.{mag}
use Rattle.std.proofs.lemmas.Bool.{eq-eqb, lt-ltb}
use Rattle.std.proofs.lemmas.List.{append-nil, take_at, drop_at, length-append, length-drop}
use Rattle.std.proofs.lemmas.Fmt.{decimal_is_IsNumeral}
use Rattle.std.specs.Char.{is_ascii_digit}
use Rattle.std.specs.Str.{bytes_eq}
use Rattle.bencode_core.specs.Value.{Value, Values, Members, Spells, AreSound, AreMembers, integer, string, list, dict, no_values, value, no_members, member, spelling, spellings, member_spellings, string_spelling, depths, member_depths}
use Rattle.bencode_core.specs.Placed.{Placed, kind_of, integer_of, string_of, items_of, items_at, placed_values, members_at, member_of, placed_members, StandsIn}
use Rattle.bencode_core.specs.Reading.{◌>>=◌, begins, kind_at, integer_at, narrowed_integer, number_at, string_at, value_at, reading, fault_of}
use Rattle.bencode_core.specs.Passing.{value_len, TellsFault}
use Rattle.bencode_core.specs.Slice.{value_read, spelled_value, IsSlice, IsFront, placed_at}
use Rattle.bencode_core.specs.declared.ben.BenKind.TheVariants as kinds
use Rattle.bencode_core.specs.declared.fault.BenErr.{BenErr}
use Rattle.bencode_core.specs.declared.fault.BenErr.TheVariants.{Trailing}
use Rattle.bencode_core.proofs.Numbers.{some_is}
use Rattle.bencode_core.proofs.Fronts.{first_is, begins_no_digit, integer_again, string_again}
use Rattle.bencode_core.proofs.Takes.{ok_is}
use Rattle.bencode_core.proofs.Again.{string_kind, string_fits, string_grouped, value_again, spelling_some, no_end}
use Rattle.bencode_core.proofs.Whole.{reading_takes, reading_again}
use Rattle.bencode_core.proofs.Passed.{len_ok, len_err}
use Rattle.bencode_core.proofs.Slices.{member_stands}

-- ---- all of the bytes

reading_by : (bytes : List ℕ) (len : ℕ) → value_len (value_at 100 0 bytes) ≡ Ok len → (v : Value) × (reading bytes ≡ cond (eqb len (length bytes)) (Ok v) (Err (Trailing len)))
unfolding reading
reading_by bytes len is =
    let v = len_ok (value_at 100 0 bytes) len is in
    (v.0, ap (λ (r : Result Value BenErr). r >>= λ w. cond (eqb (length (spelling w)) (length bytes)) (Ok w) (Err (Trailing (length (spelling w))))) v.1 ∙ ap (λ (n : ℕ). cond (eqb n (length bytes)) (Ok v.0) (Err (Trailing n))) v.2)

pub read_fails : (bytes : List ℕ) (e : BenErr) → IfSome (fault_of e) (λ f. value_len (value_at 100 0 bytes) ≡ Err f) → IfSome (fault_of e) (λ f. reading bytes ≡ Err f)
unfolding reading
read_fails bytes e failed = fails (fault_of e) failed
  where
    fails : (o : Option BenErr) → IfSome o (λ f. value_len (value_at 100 0 bytes) ≡ Err f) → IfSome o (λ f. reading bytes ≡ Err f)
    fails None failed = tt
    fails (Some f) failed = rw (len_err (value_at 100 0 bytes) f failed) refl

pub read_more : (bytes : List ℕ) (len : ℕ) → value_len (value_at 100 0 bytes) ≡ Ok len → eqb len (length bytes) ≡ false → reading bytes ≡ Err (Trailing len)
read_more bytes len is more = let r = reading_by bytes len is in r.1 ∙ ap (λ b. cond b (Ok r.0) (Err (Trailing len))) more

pub read_all : (bytes : List ℕ) (len : ℕ) → length bytes < 2 ^ 32 → value_len (value_at 100 0 bytes) ≡ Ok len → len ≡ length bytes → (reading bytes ≡ Ok (spelled_value bytes)) × IsSlice 0 bytes
read_all bytes len fits is all =
    let r = reading_by bytes len is in
    let read : reading bytes ≡ Ok r.0 = r.1 ∙ ap (λ b. cond b (Ok r.0) (Err (Trailing len))) (eq-eqb len (length bytes) all) in
    let same : spelled_value bytes ≡ r.0 = ap value_read read in (
      read ∙ ap (λ (v : Value). Ok v) (sym same),
      record { spells = subst (λ (v : Value). Spells v bytes) (sym same) (reading_takes bytes r.0 fits read); fits = omega arith },
    )

pub sliced : (place : ℕ) (bytes : List ℕ) (whole : Placed) → IsSlice place bytes → placed_at place (spelled_value bytes) ≡ whole → Spells whole.value bytes
sliced place bytes whole slice is = subst (λ (p : Placed). Spells p.value bytes) is slice.spells

-- ---- the kind and the scalars

kind_again : (v : Value) (rest : List ℕ) → length (spelling v) < 2 ^ 32 → kind_at (spelling v ++ rest) ≡ Some (kind_of v)
kind_again (integer z) rest fits = refl
kind_again (string s) rest fits = string_kind s rest (omega (arith, string_fits s))
kind_again (list vs) rest fits = refl
kind_again (dict ms) rest fits = refl

-- the bytes, before nothing
before_none : (v : Value) (bytes : List ℕ) → Spells v bytes → bytes ≡ spelling v ++ []
before_none v bytes spells = spells.spelled ∙ sym (append-nil (spelling v))

pub slice_kind : (v : Value) (bytes : List ℕ) → Spells v bytes → kind_at bytes ≡ Some (kind_of v)
slice_kind v bytes spells = ap kind_at (before_none v bytes spells) ∙ kind_again v [] spells.is_value.short

integer_there : (z : ℤ) (bytes : List ℕ) → Spells (integer z) bytes → integer_at bytes ≡ Some (z, [])
integer_there z bytes spells = ap integer_at spells.spelled ∙ integer_again 105 z [] spells.is_value.sound.sfits

pub slice_integer : (v : Value) (bytes : List ℕ) → Spells v bytes → kind_of v ≡ kinds.Integer → narrowed_integer (integer_at bytes) ≡ Some (integer_of v, [])
slice_integer (integer z) bytes spells is = rw (integer_there z bytes spells, lt-ltb (mag z) (2 ^ 63) spells.is_value.sound.sfits) refl
slice_integer (string s) bytes spells is = absurd cc
slice_integer (list vs) bytes spells is = absurd cc
slice_integer (dict ms) bytes spells is = absurd cc

pub slice_string : (v : Value) (bytes : List ℕ) → Spells v bytes → kind_of v ≡ kinds.String → (text : List ℕ) × (string_of v ≡ Some text) × (string_at bytes ≡ Some (text, []))
slice_string (integer z) bytes spells is = absurd cc
slice_string (string s) bytes spells is = (s, refl, ap string_at (before_none (string s) bytes spells) ∙ string_again s [] (omega (arith, string_fits s, spells.is_value.short)))
slice_string (list vs) bytes spells is = absurd cc
slice_string (dict ms) bytes spells is = absurd cc

-- ---- the value at the front

pub front_is : (v : Value) (place : ℕ) (rest bytes : List ℕ) → IsFront v rest bytes → value_len (value_at 100 place bytes) ≡ Ok (length (spelling v))
front_is v place rest bytes at = ap value_len (ap (value_at 100 place) at.spelled ∙ value_again v 100 place rest at.is_value.sound at.is_value.depth (omega (arith, at.is_value.short)))

pub no_fault : (r : Result ℕ BenErr) (len : ℕ) (e : BenErr) → r ≡ Ok len → TellsFault e → IfSome (fault_of e) (λ f. r ≡ Err f) → ⊥
no_fault r len e is = fails (fault_of e)
  where
    fails : (o : Option BenErr) → is_some o ≡ true → IfSome o (λ f. r ≡ Err f) → ⊥
    fails None some failed = absurd cc
    fails (Some f) some failed = let bad : Ok len ≡ Err f = sym is ∙ failed in absurd cc

pub front_slice : (v : Value) (place len : ℕ) (rest bytes : List ℕ) → IsFront v rest bytes → value_len (value_at 100 place bytes) ≡ Ok len → (len ≤ length bytes) × Spells v (take len bytes)
front_slice v place len rest bytes at is =
    let same : length (spelling v) ≡ len = ok_is (length (spelling v)) len (sym (front_is v place rest bytes at) ∙ is) in
    let text : take len bytes ≡ spelling v = ap (take len) at.spelled ∙ take_at (spelling v) rest len same in
    (omega (arith, same, ap length at.spelled, length-append (spelling v) rest), record { is_value = at.is_value; spelled = text })

pub slice_value : (v : Value) (bytes : List ℕ) → Spells v bytes → spelled_value bytes ≡ v
slice_value v bytes spells = ap value_read (reading_again bytes v spells)

pub slice_made : (v : Value) (place : ℕ) (bytes : List ℕ) → Spells v bytes → place + length bytes < 2 ^ 32 → IsSlice place bytes
slice_made v place bytes spells fits = record { spells = subst (λ (w : Value). Spells w bytes) (sym (slice_value v bytes spells)) spells; fits = fits }

-- ---- the items

string_begins : (byte : ℕ) (s rest : List ℕ) → is_ascii_digit byte ≡ false → length s < 2 ^ 64 → begins byte (string_spelling s ++ rest) ≡ false
string_begins byte s rest other fits =
    let is = decimal_is_IsNumeral (length s) fits in
    rw (string_grouped s rest) (begins_no_digit byte (decimal (length s)) (58 ∷ (s ++ rest)) other is.0.1 is.0.0)

-- a string begins with a digit
pub begins_text : (byte : ℕ) (s bytes : List ℕ) → is_ascii_digit byte ≡ false → Spells (string s) bytes → begins byte bytes ≡ false
begins_text byte s bytes other spells = ap (begins byte) (before_none (string s) bytes spells) ∙ string_begins byte s [] other (omega (arith, string_fits s, spells.is_value.short))

pub no_items_at : (place : ℕ) (v : Value) (bytes : List ℕ) → Spells v bytes → begins 108 bytes ≡ false → items_at place v ≡ []
no_items_at place (integer z) bytes spells other = refl
no_items_at place (string s) bytes spells other = refl
no_items_at place (list vs) bytes spells other = let bad : true ≡ false = sym (ap (begins 108) spells.spelled) ∙ other in absurd cc
no_items_at place (dict ms) bytes spells other = refl

pub record ItemsLeft (whole : Placed) (items : List Placed) (next : ℕ) (rest : List ℕ) : Type 0 where
  pub left : Values
  pub sound : AreSound left
  pub deep : depths left < 100
  pub spelled : rest ≡ spellings left ++ 101 ∷ []
  pub total : items ++ placed_values next left ≡ items_of whole
  pub ends : next + length rest < 2 ^ 32

items_open : (place : ℕ) (v : Value) (bytes : List ℕ) → Spells v bytes → begins 108 bytes ≡ true → place + length bytes < 2 ^ 32 → ItemsLeft (placed_at place v) [] (place + 1) (drop 1 bytes)
items_open place (integer z) bytes spells opened fits = let bad : false ≡ true = sym (ap (begins 108) spells.spelled) ∙ opened in absurd cc
items_open place (string s) bytes spells opened fits = let bad : false ≡ true = sym (begins_text 108 s bytes refl spells) ∙ opened in absurd cc
items_open place (list vs) bytes spells opened fits =
    let text : drop 1 bytes ≡ spellings vs ++ 101 ∷ [] = ap (drop 1) spells.spelled in
    record {
      left = vs;
      sound = spells.is_value.sound;
      deep = omega (arith, spells.is_value.depth);
      spelled = text;
      total = refl;
      ends = omega (arith, fits, length-drop 1 bytes, ap length spells.spelled, length-append (spellings vs) (101 ∷ []));
    }
items_open place (dict ms) bytes spells opened fits = let bad : false ≡ true = sym (ap (begins 108) spells.spelled) ∙ opened in absurd cc

pub items_start : (place : ℕ) (bytes : List ℕ) (whole : Placed) → IsSlice place bytes → placed_at place (spelled_value bytes) ≡ whole → begins 108 bytes ≡ true → ItemsLeft whole [] (place + 1) (drop 1 bytes)
items_start place bytes whole slice is opened = subst (λ (p : Placed). ItemsLeft p [] (place + 1) (drop 1 bytes)) is (items_open place (spelled_value bytes) bytes slice.spells opened slice.fits)

pub no_items_in : (place : ℕ) (bytes : List ℕ) (whole : Placed) → IsSlice place bytes → placed_at place (spelled_value bytes) ≡ whole → begins 108 bytes ≡ false → items_of whole ≡ []
no_items_in place bytes whole slice is other = subst (λ (p : Placed). items_of p ≡ []) is (no_items_at place (spelled_value bytes) bytes slice.spells other)

-- the next item, and what is left behind it
pub record NextItem (whole : Placed) (items : List Placed) (next : ℕ) (rest : List ℕ) : Type 0 where
  pub v : Value
  pub behind : List ℕ
  pub at : IsFront v behind rest
  pub more : ItemsLeft whole (items ++ placed_at next v ∷ []) (next + length (spelling v)) (drop (length (spelling v)) rest)
  pub fits : (0 < length (spelling v)) × (length (spelling v) ≤ length rest)

pub next_item : (whole : Placed) (items : List Placed) (next : ℕ) (rest : List ℕ) → begins 101 rest ≡ false → ItemsLeft whole items next rest → NextItem whole items next rest
next_item whole items next rest more so_far = by so_far.left so_far.sound so_far.deep so_far.spelled so_far.total
  where
    by : (left : Values) → AreSound left → depths left < 100 → rest ≡ spellings left ++ 101 ∷ [] → items ++ placed_values next left ≡ items_of whole → NextItem whole items next rest
    by no_values sound deep spelled total = let bad : true ≡ false = sym (ap (begins 101) spelled) ∙ more in absurd cc
    by (value v vs) sound deep spelled total =
        let behind = spellings vs ++ 101 ∷ [] in
        let text : rest ≡ spelling v ++ behind = spelled ∙ append_assoc (spelling v) (spellings vs) (101 ∷ []) in
        let len = ap length text ∙ length-append (spelling v) behind in
        record {
          v = v;
          behind = behind;
          at = record { is_value = record { sound = sound.0; depth = omega (arith, deep); short = omega (arith, len, so_far.ends) }; spelled = text };
          more = record {
            left = vs;
            sound = sound.1;
            deep = omega (arith, deep);
            spelled = ap (drop (length (spelling v))) text ∙ drop_at (spelling v) behind (length (spelling v)) refl;
            total = append_assoc items (placed_at next v ∷ []) (placed_values (next + length (spelling v)) vs) ∙ total;
            ends = omega (arith, len, so_far.ends, length-drop (length (spelling v)) rest);
          };
          fits = (spelling_some v, omega (arith, len));
        }

-- the item that the code found
pub record FoundItem (whole : Placed) (items : List Placed) (next : ℕ) (rest : List ℕ) (item : Placed) (end : ℕ) : Type 0 where
  pub more : ItemsLeft whole (items ++ item ∷ []) end (drop (end - next) rest)
  pub behind : next < end
  pub fits : end ≤ next + length rest

pub found_item : (whole : Placed) (items : List Placed) (next : ℕ) (rest : List ℕ) (item : Placed) (span : ℕ × ℕ) (n : NextItem whole items next rest) → item ≡ placed_at next n.v → span ≡ (item.place, item.place + length (spelling item.value)) → FoundItem whole items next rest item span.1
found_item whole items next rest item span n is at =
    let end : span.1 ≡ next + length (spelling n.v) = ap (λ (s : ℕ × ℕ). s.1) at ∙ ap (λ (p : Placed). p.place + length (spelling p.value)) is in
    let len : span.1 - next ≡ length (spelling n.v) = omega (arith, end) in
    record {
      more =
          subst (λ (k : ℕ). ItemsLeft whole (items ++ item ∷ []) span.1 (drop k rest)) (sym len)
          (subst (λ (k : ℕ). ItemsLeft whole (items ++ item ∷ []) k (drop (length (spelling n.v)) rest)) (sym end)
          (subst (λ (p : Placed). ItemsLeft whole (items ++ p ∷ []) (next + length (spelling n.v)) (drop (length (spelling n.v)) rest)) (sym is) n.more));
      behind = omega (arith, end, n.fits.0);
      fits = omega (arith, end, n.fits.1);
    }

pub items_end : (whole : Placed) (items : List Placed) (next : ℕ) (rest : List ℕ) → begins 101 rest ≡ true → ItemsLeft whole items next rest → items ≡ items_of whole
items_end whole items next rest end so_far = by so_far.left so_far.sound so_far.deep so_far.spelled so_far.total
  where
    by : (left : Values) → AreSound left → depths left < 100 → rest ≡ spellings left ++ 101 ∷ [] → items ++ placed_values next left ≡ items_of whole → items ≡ items_of whole
    by no_values sound deep spelled total = sym (append-nil items) ∙ total
    by (value v vs) sound deep spelled total =
        let len = length-append (spelling v ++ spellings vs) (101 ∷ []) in
        let text : rest ≡ spelling v ++ (spellings vs ++ 101 ∷ []) = spelled ∙ append_assoc (spelling v) (spellings vs) (101 ∷ []) in
        let bad : false ≡ true = sym (ap (begins 101) text ∙ no_end v (spellings vs ++ 101 ∷ []) (omega (arith, ap length spelled, len, length-append (spelling v) (spellings vs), so_far.ends))) ∙ end in
        absurd cc

-- ---- the members

pub no_members_at : (place : ℕ) (v : Value) (bytes : List ℕ) → Spells v bytes → begins 100 bytes ≡ false → members_at place v ≡ []
no_members_at place (integer z) bytes spells other = refl
no_members_at place (string s) bytes spells other = refl
no_members_at place (list vs) bytes spells other = refl
no_members_at place (dict ms) bytes spells other = let bad : true ≡ false = sym (ap (begins 100) spells.spelled) ∙ other in absurd cc

abbrev pub found_among : List ℕ → List (List ℕ × Placed) → Option Placed
found_among key ms = option_map (λ m. m.1) (find (λ m. bytes_eq m.0 key) ms)

pub record MembersLeft (whole : Placed) (key : List ℕ) (next : ℕ) (rest : List ℕ) : Type 0 where
  pub left : Members
  pub before : Option (List ℕ)
  pub sound : AreMembers before left
  pub deep : member_depths left < 100
  pub spelled : rest ≡ member_spellings left ++ 101 ∷ []
  pub total : found_among key (placed_members next left) ≡ member_of key whole
  pub ends : next + length rest < 2 ^ 32

members_open : (key : List ℕ) (place : ℕ) (v : Value) (bytes : List ℕ) → Spells v bytes → begins 100 bytes ≡ true → place + length bytes < 2 ^ 32 → MembersLeft (placed_at place v) key (place + 1) (drop 1 bytes)
members_open key place (integer z) bytes spells opened fits = let bad : false ≡ true = sym (ap (begins 100) spells.spelled) ∙ opened in absurd cc
members_open key place (string s) bytes spells opened fits = let bad : false ≡ true = sym (begins_text 100 s bytes refl spells) ∙ opened in absurd cc
members_open key place (list vs) bytes spells opened fits = let bad : false ≡ true = sym (ap (begins 100) spells.spelled) ∙ opened in absurd cc
members_open key place (dict ms) bytes spells opened fits =
    let text : drop 1 bytes ≡ member_spellings ms ++ 101 ∷ [] = ap (drop 1) spells.spelled in
    record {
      left = ms;
      before = None;
      sound = spells.is_value.sound;
      deep = omega (arith, spells.is_value.depth);
      spelled = text;
      total = refl;
      ends = omega (arith, fits, length-drop 1 bytes, ap length spells.spelled, length-append (member_spellings ms) (101 ∷ []));
    }

pub members_start : (key : List ℕ) (place : ℕ) (bytes : List ℕ) (whole : Placed) → IsSlice place bytes → placed_at place (spelled_value bytes) ≡ whole → begins 100 bytes ≡ true → MembersLeft whole key (place + 1) (drop 1 bytes)
members_start key place bytes whole slice is opened = subst (λ (p : Placed). MembersLeft p key (place + 1) (drop 1 bytes)) is (members_open key place (spelled_value bytes) bytes slice.spells opened slice.fits)

pub no_member_in : (key : List ℕ) (place : ℕ) (bytes : List ℕ) (whole : Placed) → IsSlice place bytes → placed_at place (spelled_value bytes) ≡ whole → begins 100 bytes ≡ false → None ≡ member_of key whole
no_member_in key place bytes whole slice is other = subst (λ (p : Placed). None ≡ member_of key p) is (ap (found_among key) (sym (no_members_at place (spelled_value bytes) bytes slice.spells other)))

-- the next member, which begins with the text, and what is left behind it
pub record NextMember (whole : Placed) (key : List ℕ) (next : ℕ) (rest text behind_text : List ℕ) : Type 0 where
  pub v : Value
  pub behind : List ℕ
  pub at : IsFront v behind behind_text
  pub len : length rest ≡ length (string_spelling text) + length behind_text
  pub here : bytes_eq text key ≡ true → Some (placed_at (next + length (string_spelling text)) v) ≡ member_of key whole
  pub more : bytes_eq text key ≡ false → MembersLeft whole key (next + length (string_spelling text) + length (spelling v)) (drop (length (spelling v)) behind_text)
  pub fits : (0 < length (spelling v)) × (length (spelling v) ≤ length behind_text)

pub no_text : string_at (101 ∷ []) ≡ None
unfolding string_at number_at
no_text = refl

pub next_member : (whole : Placed) (key : List ℕ) (next : ℕ) (rest text behind_text : List ℕ) → string_at rest ≡ Some (text, behind_text) → MembersLeft whole key next rest → NextMember whole key next rest text behind_text
next_member whole key next rest text behind_text found so_far = by so_far.left so_far.before so_far.sound so_far.deep so_far.spelled so_far.total
  where
    by : (left : Members) (before : Option (List ℕ)) → AreMembers before left → member_depths left < 100 → rest ≡ member_spellings left ++ 101 ∷ [] → found_among key (placed_members next left) ≡ member_of key whole → NextMember whole key next rest text behind_text
    by no_members before sound deep spelled total = let bad : ◌≡◌ {A = Option (List ℕ × List ℕ)} None (Some (text, behind_text)) = sym (ap string_at spelled ∙ no_text) ∙ found in absurd cc
    by (member k v ms) before sound deep spelled total =
        let behind = member_spellings ms ++ 101 ∷ [] in
        let grouped : rest ≡ string_spelling k ++ (spelling v ++ behind) = spelled ∙ simp append_assoc in
        let len = ap length grouped ∙ length-append (string_spelling k) (spelling v ++ behind) in
        let value_len = length-append (spelling v) behind in
        let both = first_is k text (spelling v ++ behind) behind_text (some_is _ _ (sym (ap string_at grouped ∙ string_again k (spelling v ++ behind) (omega (arith, string_fits k, len, so_far.ends))) ∙ found)) in
        subst (λ (t : List ℕ). NextMember whole key next rest t behind_text) both.0
        (subst (λ (b : List ℕ). NextMember whole key next rest k b) both.1
        (record {
          v = v;
          behind = behind;
          at = record { is_value = record { sound = sound.1; depth = omega (arith, deep); short = omega (arith, len, value_len, so_far.ends) }; spelled = refl };
          len = len;
          here = λ same. ap (λ test. option_map (λ m. m.1) (cond test (Some (k, placed_at (next + length (string_spelling k)) v)) (find (λ m. bytes_eq m.0 key) (placed_members (next + length (string_spelling k) + length (spelling v)) ms)))) (sym same) ∙ total;
          more = λ other. record {
            left = ms;
            before = Some k;
            sound = sound.2;
            deep = omega (arith, deep);
            spelled = drop_at (spelling v) behind (length (spelling v)) refl;
            total = ap (λ test. option_map (λ m. m.1) (cond test (Some (k, placed_at (next + length (string_spelling k)) v)) (find (λ m. bytes_eq m.0 key) (placed_members (next + length (string_spelling k) + length (spelling v)) ms)))) (sym other) ∙ total;
            ends = omega (arith, len, value_len, so_far.ends, length-drop (length (spelling v)) (spelling v ++ behind));
          };
          fits = (spelling_some v, omega (arith, value_len));
        }))

pub members_end : (whole : Placed) (key : List ℕ) (next : ℕ) (rest : List ℕ) → string_at rest ≡ None → MembersLeft whole key next rest → None ≡ member_of key whole
members_end whole key next rest none so_far = by so_far.left so_far.spelled so_far.total
  where
    by : (left : Members) → rest ≡ member_spellings left ++ 101 ∷ [] → found_among key (placed_members next left) ≡ member_of key whole → None ≡ member_of key whole
    by no_members spelled total = total
    by (member k v ms) spelled total =
        let behind = member_spellings ms ++ 101 ∷ [] in
        let grouped : rest ≡ string_spelling k ++ (spelling v ++ behind) = spelled ∙ simp append_assoc in
        let len = ap length grouped ∙ length-append (string_spelling k) (spelling v ++ behind) in
        let bad : ◌≡◌ {A = Option (List ℕ × List ℕ)} None (Some (k, spelling v ++ behind)) = sym none ∙ ap string_at grouped ∙ string_again k (spelling v ++ behind) (omega (arith, string_fits k, len, so_far.ends)) in
        absurd cc

-- what the code found behind the text
pub record FoundMember (whole : Placed) (key : List ℕ) (next : ℕ) (rest text behind_text : List ℕ) (found : Placed) (at end : ℕ) : Type 0 where
  pub here : bytes_eq text key ≡ true → Some found ≡ member_of key whole
  pub more : bytes_eq text key ≡ false → MembersLeft whole key end (drop (end - at) behind_text)
  pub behind : at < end
  pub fits : end ≤ at + length behind_text

pub found_member : (whole : Placed) (key : List ℕ) (next : ℕ) (rest text behind_text : List ℕ) (found : Placed) (at : ℕ) (span : ℕ × ℕ) (n : NextMember whole key next rest text behind_text) → at ≡ next + (length rest - length behind_text) → found ≡ placed_at at n.v → span ≡ (found.place, found.place + length (spelling found.value)) → FoundMember whole key next rest text behind_text found at span.1
found_member whole key next rest text behind_text found at span n at_is is spanned =
    let behind : next + length (string_spelling text) ≡ at = omega (arith, at_is, n.len) in
    let end : span.1 ≡ at + length (spelling n.v) = ap (λ (s : ℕ × ℕ). s.1) spanned ∙ ap (λ (p : Placed). p.place + length (spelling p.value)) is in
    let len : span.1 - at ≡ length (spelling n.v) = omega (arith, end) in
    record {
      here = λ same. ap (λ (p : Placed). Some p) is ∙ ap (λ (k : ℕ). Some (placed_at k n.v)) (sym behind) ∙ n.here same;
      more = λ other.
          subst (λ (k : ℕ). MembersLeft whole key span.1 (drop k behind_text)) (sym len)
          (subst (λ (k : ℕ). MembersLeft whole key k (drop (length (spelling n.v)) behind_text)) (ap (λ (k : ℕ). k + length (spelling n.v)) behind ∙ sym end) (n.more other));
      behind = omega (arith, end, n.fits.0);
      fits = omega (arith, end, n.fits.1);
    }

pub member_slice : (whole : Placed) (key : List ℕ) (found : Placed) → Some found ≡ member_of key whole → StandsIn whole found
member_slice whole key found is = subst (λ (o : Option Placed). IfSome o (StandsIn whole)) (sym is) (member_stands whole key)
