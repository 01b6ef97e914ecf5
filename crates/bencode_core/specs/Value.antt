-- Bencoded values and their spelling (BEP 3, "bencoding").
use Rattle.std.specs.Prelude.{◌≡◌, ℕ, ◌+◌, ◌^◌, ◌<◌, ◌≤◌, max, ℤ, Bool, true, IsTrue, List, [], ◌++◌, length, codes, Option, Some, None, FitsSigned}
use Rattle.std.specs.Ordering.{nat_cmp, is_lt}
use Rattle.std.specs.Int.{w64}
use Rattle.std.specs.Fmt.{decimal, signed_decimal}
use Rattle.std.specs.Cmp.Lexicographic.{slice_cmp}
use Rattle.bencode_core.specs.declared.reading.TheConstants.{MAX_DEPTH}

-- A value: a list holds values, a dictionary members, each a key and a value.
mutual
  pub data Value : Type 0 where
    integer : ℤ → Value
    string : List ℕ → Value
    list : Values → Value
    dict : Members → Value

  pub data Values : Type 0 where
    no_values : Values
    value : Value → Values → Values

  pub data Members : Type 0 where
    no_members : Members
    member : List ℕ → Value → Members → Members

-- a string is its length in decimal, a colon and its bytes
abbrev pub string_spelling : List ℕ → List ℕ
string_spelling bytes = decimal (length bytes) ++ codes ":" ++ bytes

-- An integer is "i", its decimal and "e"; a list is "l", its values and "e"; a dictionary is "d", each key with its
-- value and "e".
abbrev mutual
  pub spelling : Value → List ℕ
  spelling (integer z) = codes "i" ++ signed_decimal z ++ codes "e"
  spelling (string bytes) = string_spelling bytes
  spelling (list vs) = codes "l" ++ spellings vs ++ codes "e"
  spelling (dict ms) = codes "d" ++ member_spellings ms ++ codes "e"

  pub spellings : Values → List ℕ
  spellings no_values = []
  spellings (value v vs) = spelling v ++ spellings vs

  pub member_spellings : Members → List ℕ
  member_spellings no_members = []
  member_spellings (member key v ms) = string_spelling key ++ spelling v ++ member_spellings ms

-- how many values stand one in the other
abbrev mutual
  pub depth : Value → ℕ
  depth (integer z) = 1
  depth (string bytes) = 1
  depth (list vs) = 1 + depths vs
  depth (dict ms) = 1 + member_depths ms

  pub depths : Values → ℕ
  depths no_values = 0
  depths (value v vs) = max (depth v) (depths vs)

  pub member_depths : Members → ℕ
  member_depths no_members = 0
  member_depths (member key v ms) = max (depth v) (member_depths ms)

-- the key stands behind the one before it, as raw bytes
abbrev pub is_behind : Option (List ℕ) → List ℕ → Bool
is_behind None key = true
is_behind (Some before) key = is_lt (slice_cmp nat_cmp before key)

-- integers have 64 bits, and the keys of a dictionary ascend
abbrev mutual
  pub IsSound : Value → Type 0
  IsSound (integer z) = FitsSigned w64 z
  IsSound (string bytes) = Unit {0}
  IsSound (list vs) = AreSound vs
  IsSound (dict ms) = AreMembers None ms

  pub AreSound : Values → Type 0
  AreSound no_values = Unit {0}
  AreSound (value v vs) = IsSound v × AreSound vs

  pub AreMembers : Option (List ℕ) → Members → Type 0
  AreMembers before no_members = Unit {0}
  AreMembers before (member key v ms) = IsTrue (is_behind before key) × IsSound v × AreMembers (Some key) ms

-- what has a spelling: it is at most MAX_DEPTH deep, and spelled by fewer than 2 ^ 32 bytes
pub record IsValue (v : Value) : Type 0 where
  pub sound : IsSound v
  pub depth : depth v ≤ MAX_DEPTH
  pub short : length (spelling v) < 2 ^ 32

-- the grammar: the value is spelled by these bytes, all of them
pub record Spells (v : Value) (bytes : List ℕ) : Type 0 where
  pub is_value : IsValue v
  pub spelled : bytes ≡ spelling v
