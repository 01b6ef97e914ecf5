-- The request for a WebSocket, and the answer to it (RFC 6455 section 4.2).
use Rattle.std.specs.Prelude.{◌≡◌, ℕ, ◌≤◌, Bool, true, ◌&&◌, List, [], ◌++◌, length, codes, bytes_eq, Option, Some, None, ⊤}
use Rattle.std.specs.List.{list_any}
use Rattle.http_header.specs.FieldValue.{FieldValue}
use Rattle.http_header.specs.HeaderMap.{Entries}
use Rattle.http_header.specs.Token.{lowercase}
use Rattle.http_heads.specs.AskHeads.{IsAskHead}
use Rattle.http_heads.specs.Fields.{field_names, field_values, sole}
use Rattle.http_heads.specs.declared.ask_head.AskHead.{AskHead}
use Rattle.request_stream.specs.Responses.{head_line, status_line, field_line}
use Rattle.websocket.specs.Handshake.{IsValidKey, accept_key_of}
use Rattle.console_socket.specs.declared.upgrade.ReadUpgrade.{ReadUpgrade}
use Rattle.console_socket.specs.declared.upgrade.ReadUpgrade.TheVariants.{Right, Wrong, NoMemory}

-- the word in any case
abbrev pub is_word : List ℕ → List ℕ → Bool
is_word word value = bytes_eq (lowercase value) (lowercase word)

-- a field of the name is the word
abbrev pub has_field : Entries FieldValue → List ℕ → List ℕ → Bool
has_field fields name word = list_any (is_word word) (field_values fields name)

-- GET of the console's target, with a field that asks for this protocol alone
abbrev pub is_upgrade : AskHead → Bool
is_upgrade head =
    bytes_eq head.method (codes "GET") && bytes_eq head.target (codes "/jsonrpc")
    && has_field head.fields (codes "upgrade") (codes "websocket")

-- its head stands at the front of the bytes, and takes so many
pub record IsUpgradeAt (bytes : List ℕ) (used : ℕ) : Type 0 where
  pub head : AskHead
  pub begins : IsAskHead bytes head used
  pub asks : is_upgrade head ≡ true

abbrev pub FindsUpgrade : List ℕ → Option ℕ → Type 0
FindsUpgrade bytes None = (used : ℕ) → IsUpgradeAt bytes used → ⊥
FindsUpgrade bytes (Some used) = IsUpgradeAt bytes used

-- what the head has to say beside, and the key that it tells
pub record IsRightUpgrade (head : AskHead) (key : List ℕ) : Type 0 where
  pub version : head.minor ≡ 1
  pub connection : field_names head.fields (codes "connection") (codes "upgrade") ≡ true
  pub protocol : sole (field_values head.fields (codes "sec-websocket-version")) ≡ Some (codes "13")
  pub key_is : sole (field_values head.fields (codes "sec-websocket-key")) ≡ Some key
  pub valid : IsValidKey key

-- the head at the front of the bytes takes so many, and is right
pub record IsWelcome (bytes : List ℕ) (used : ℕ) (key : List ℕ) : Type 0 where
  pub head : AskHead
  pub begins : IsAskHead bytes head used
  pub right : IsRightUpgrade head key

-- the key that answers a head that is right, and none for any other
abbrev pub AcceptsHead : Option (List ℕ) → AskHead → Type 0
AcceptsHead None head = (key : List ℕ) → IsRightUpgrade head key → ⊥
AcceptsHead (Some accept) head = (key : List ℕ) × IsRightUpgrade head key × (accept ≡ accept_key_of key)

abbrev pub ReadsUpgrade : List ℕ → ReadUpgrade → Type 0
ReadsUpgrade bytes (Right used accept) = (used ≤ length bytes) × ((key : List ℕ) × IsWelcome bytes used key × (accept ≡ accept_key_of key))
ReadsUpgrade bytes Wrong = (used : ℕ) (key : List ℕ) → IsWelcome bytes used key → ⊥
ReadsUpgrade bytes NoMemory = ⊤

-- RFC 9110 section 15.2.2
abbrev pub switching_text : List ℕ → List ℕ
switching_text accept =
    status_line (codes "101 Switching Protocols")
    ++ field_line (codes "Upgrade") (codes "websocket")
    ++ field_line (codes "Connection") (codes "Upgrade")
    ++ field_line (codes "Sec-WebSocket-Accept") accept
    ++ head_line []

abbrev pub switching_response : List ℕ → List ℕ
switching_response key = switching_text (accept_key_of key)
