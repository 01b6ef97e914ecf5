-- The requests in the bytes of a connection (RFC 9112 sections 2 and 9.3).
use Rattle.std.specs.Prelude.{◌≡◌, ◌⊎◌, ℕ, Bool, true, false, ◌||◌, List, [], ◌∷◌, ◌++◌, drop}
use Rattle.dl_disk.specs.Files.{Files}
use Rattle.http_heads.specs.AskHeads.{IsAskHead, IsNoAskHead}
use Rattle.http_heads.specs.Persistence.{hangs_up}
use Rattle.http_heads.specs.declared.ask_head.AskHead.{AskHead}
use Rattle.origin_replies.specs.Aims.{tells_content, text_to}
use Rattle.origin_replies.specs.Replies.{head_of_reply}
use Rattle.origin_replies.specs.declared.reply.Reply.TheVariants.{BadRequest}

-- the head of a request, or bytes that are none, whatever follows
pub data Asking : Type 0 where
  asked : (head : AskHead) → Asking
  bad : Asking

-- it stands at the front, and takes so many bytes
abbrev pub IsOneAsking : List ℕ → Asking → ℕ → Type 0
IsOneAsking bytes (asked head) used = IsAskHead bytes head used
IsOneAsking bytes bad used = IsNoAskHead bytes × (used ≡ 0)

-- the connection ends behind the reply: to what is no head or tells of content, to HTTP/1.0, and where it is asked for
abbrev pub is_last_asking : Asking → Bool
is_last_asking (asked head) = tells_content head || hangs_up head
is_last_asking bad = true

-- the text of the reply, where the files below the folder are these; `fault` tells whether the look for a length met one
abbrev pub reply_text : Files → Asking → Bool → List ℕ
reply_text files (asked head) fault = text_to files head fault
reply_text files bad fault = head_of_reply BadRequest

-- ---- in the bytes of a connection

abbrev pub HasNoAsking : List ℕ → Type 0
HasNoAsking bytes = (asking : Asking) (used : ℕ) → IsOneAsking bytes asking used → ⊥

-- these, up to the last one of the connection, or to the front of one
abbrev pub AreAskings : List ℕ → List Asking → Type 0
AreAskings bytes [] = HasNoAsking bytes
AreAskings bytes (asking ∷ askings) =
    (used : ℕ) × IsOneAsking bytes asking used
    × (((is_last_asking asking ≡ true) × (askings ≡ []))
    ⊎ ((is_last_asking asking ≡ false) × AreAskings (drop used bytes) askings))

-- these stand in front of the rest, and none of them is the last one of the connection
abbrev pub AreFrontAskings : List ℕ → List Asking → List ℕ → Type 0
AreFrontAskings bytes [] rest = bytes ≡ rest
AreFrontAskings bytes (asking ∷ askings) rest =
    (used : ℕ) × IsOneAsking bytes asking used × (is_last_asking asking ≡ false)
    × AreFrontAskings (drop used bytes) askings rest

-- ---- laws

-- bytes begin with one request at most
abbrev pub HasOneAsking : Type 0
HasOneAsking = (bytes : List ℕ) (asking other : Asking) (used more : ℕ)
    → IsOneAsking bytes asking used → IsOneAsking bytes other more → (asking ≡ other) × (used ≡ more)

-- bytes have one list of requests
abbrev pub HasOneListOfAskings : Type 0
HasOneListOfAskings = (bytes : List ℕ) (askings others : List Asking)
    → AreAskings bytes askings → AreAskings bytes others → askings ≡ others

-- one more was read
abbrev pub AskingsGoOn : Type 0
AskingsGoOn = (bytes : List ℕ) (askings : List Asking) (rest : List ℕ) (asking : Asking) (used : ℕ)
    → AreFrontAskings bytes askings rest → IsOneAsking rest asking used → is_last_asking asking ≡ false
    → AreFrontAskings bytes (askings ++ asking ∷ []) (drop used rest)

-- more bytes came
abbrev pub AskingsTakeMore : Type 0
AskingsTakeMore = (bytes : List ℕ) (askings : List Asking) (rest more : List ℕ)
    → AreFrontAskings bytes askings rest → AreFrontAskings (bytes ++ more) askings (rest ++ more)

-- these are all, where none stands in the rest
abbrev pub AskingsEnd : Type 0
AskingsEnd = (bytes : List ℕ) (askings : List Asking) (rest : List ℕ)
    → AreFrontAskings bytes askings rest → HasNoAsking rest → AreAskings bytes askings

-- these are all, with the last one of the connection behind them
abbrev pub AskingsEndWithLast : Type 0
AskingsEndWithLast = (bytes : List ℕ) (askings : List Asking) (rest : List ℕ) (asking : Asking) (used : ℕ)
    → AreFrontAskings bytes askings rest → IsOneAsking rest asking used → is_last_asking asking ≡ true
    → AreAskings bytes (askings ++ asking ∷ [])
