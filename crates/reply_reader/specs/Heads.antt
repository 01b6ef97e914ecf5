-- The heads of a reply (RFC 9110 section 15.2, RFC 9112 section 2.1): interim ones, of which some are read, and then the
-- final one.
use Rattle.std.specs.Prelude.{◌≡◌, ◌⊎◌, ◌↔◌, ◌≤◌, ◌<◌, ℕ, zero, suc, ◌+◌, Bool, false, ◌&&◌, nat_le, nat_lt, List, length, drop, Contains, IsTrue, ⊤}
use Rattle.http_heads.specs.declared.head.Head.{Head}
use Rattle.http_heads.specs.declared.limits.TheConstants.{MAX_HEAD_BYTES}
use Rattle.http_heads.specs.Heads.{IsHead, IsUnfinished, IsNoHead}
use Rattle.reply_reader.specs.declared.heads.HeadsRead.{HeadsRead}
use Rattle.reply_reader.specs.declared.heads.HeadsRead.TheVariants.{Whole, More, Bad, NoMemory}
use Rattle.reply_reader.specs.declared.heads.HeadReader.{HeadReader}
use Rattle.reply_reader.specs.declared.heads.TheConstants.{INTERIM_LIMIT}

-- 1xx
abbrev pub is_interim : Head → Bool
is_interim head = nat_le 100 head.status && nat_lt head.status 200

-- so many interim heads stand at the front, and take so many bytes
unfoldable pub HasInterims : List ℕ → ℕ → ℕ → Type 0
HasInterims bytes zero used = used ≡ 0
HasInterims bytes (suc more) used =
    (head : Head) × (first rest : ℕ) × IsHead bytes head first × IsTrue (is_interim head)
    × HasInterims (drop first bytes) more rest × (used ≡ first + rest)

-- interim heads, not too many, stand at the front, and take so many bytes
pub record HasFewInterims (bytes : List ℕ) (used : ℕ) : Type 0 where
  pub count : ℕ
  pub few : count ≤ INTERIM_LIMIT
  pub interims : HasInterims bytes count used

-- behind them stands the final head; all of it takes so many bytes
pub record HasFinalHead (bytes : List ℕ) (head : Head) (used : ℕ) : Type 0 where
  pub before : ℕ
  pub size : ℕ
  pub interims : HasFewInterims bytes before
  pub begins : IsHead (drop before bytes) head size
  pub final : is_interim head ≡ false
  pub takes : used ≡ before + size

-- the final head is due
pub record IsHeadDue (bytes : List ℕ) : Type 0 where
  pub before : ℕ
  pub interims : HasFewInterims bytes before
  pub unfinished : IsUnfinished (drop before bytes)

-- no head stands behind them, nor can stand there, or there is one interim head too many
abbrev pub HasNoFinalHead : List ℕ → Type 0
HasNoFinalHead bytes =
    ((before : ℕ) × HasFewInterims bytes before × IsNoHead (drop before bytes))
    ⊎ ((before : ℕ) × HasInterims bytes (suc INTERIM_LIMIT) before)

-- ---- reading

-- no head stands at the front
abbrev pub IsHeadless : List ℕ → Type 0
IsHeadless bytes = (head : Head) (used : ℕ) → IsHead bytes head used → ⊥

-- the reader was given these bytes, and has passed over interim heads at their front, not too many
pub record IsBehindInterims (bytes : List ℕ) (reader : HeadReader) : Type 0 where
  pub before : ℕ
  pub interims : HasInterims bytes reader.interims before
  pub few : reader.interims ≤ INTERIM_LIMIT
  pub waiting : reader.bytes.items ≡ drop before bytes

-- LF, which ends a line
abbrev pub line_feed : ℕ
line_feed = 10

-- behind them no whole head came yet, and it is known whether a line ended
pub record IsAtHead (bytes : List ℕ) (reader : HeadReader) : Type 0 where
  pub behind : IsBehindInterims bytes reader
  pub line : IsTrue reader.line ↔ Contains bytes line_feed
  pub headless : IsHeadless reader.bytes.items
  pub short : length reader.bytes.items < MAX_HEAD_BYTES

-- P of the final head and of how many bytes of the piece are its own, where one is answered
abbrev pub IfFinal : HeadsRead → (Head → ℕ → Type 0) → Type 0
IfFinal (Whole head used) P = P head used
IfFinal More P = ⊤
IfFinal Bad P = ⊤
IfFinal NoMemory P = ⊤
