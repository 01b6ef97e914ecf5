-- A request to the console, at the front of the bytes that come from a client (RFC 9112 sections 2 to 6).
use Rattle.std.specs.Prelude.{◌≡◌, ◌⊎◌, ◌≤◌, ℕ, ◌+◌, Bool, true, List, length, slice_range, codes, bytes_eq, nat_lt, if◌then◌else◌, Option, Some, None}
use Rattle.http_heads.specs.Content.{content_length}
use Rattle.http_heads.specs.AskHeads.{IsAskHead, IsNoAskHead}
use Rattle.http_heads.specs.Persistence.{hangs_up}
use Rattle.http_heads.specs.declared.content.ContentLength.{ContentLength}
use Rattle.http_heads.specs.declared.content.ContentLength.TheVariants.{Bytes, Beyond, Unclear}
use Rattle.http_heads.specs.declared.ask_head.AskHead.{AskHead}
use Rattle.request_stream.specs.declared.refusal.Refusal.{Refusal}
use Rattle.request_stream.specs.declared.refusal.Refusal.TheVariants.{BadRequest, NotFound, MethodNotAllowed, LengthRequired, ContentTooLarge}

-- It is served, by the bytes of its content, and is the last one of its connection, or isn't. Or it is turned away.
pub data Request : Type 0 where
  served : (body : List ℕ) → (last : Bool) → Request
  turned_away : Refusal → Request

-- the connection ends behind the response
abbrev pub is_last : Request → Bool
is_last (served body last) = last
is_last (turned_away refusal) = true

-- RFC 9110 sections 15.5.12 and 15.5.14
abbrev pub refusal_by_length : ℕ → ContentLength → Option Refusal
refusal_by_length most (Bytes len) = if nat_lt most len then Some ContentTooLarge else None
refusal_by_length most Beyond = Some ContentTooLarge
refusal_by_length most Unclear = Some LengthRequired

-- RFC 9110 section 15.5.6
abbrev pub refusal_by_method : ℕ → AskHead → Option Refusal
refusal_by_method most head =
    if bytes_eq head.method (codes "POST") then refusal_by_length most (content_length head) else Some MethodNotAllowed

-- Why a request is turned away by its head, where it is: for its target (RFC 9110 section 15.5.5), then for its method, then
-- for the length of its content.
abbrev pub refusal_by_head : ℕ → AskHead → Option Refusal
refusal_by_head most head =
    if bytes_eq head.target (codes "/jsonrpc") then refusal_by_method most head else Some NotFound

-- by its head a request is served, with a content of this length
pub record IsAllowed (most : ℕ) (head : AskHead) (len : ℕ) : Type 0 where
  pub unrefused : refusal_by_head most head ≡ None
  pub len_is : content_length head ≡ Bytes len
  pub few : len ≤ most

-- a request whose content takes at most `most` bytes, and behind which the next one begins
pub record IsServedAt (most : ℕ) (bytes body : List ℕ) (last : Bool) (used : ℕ) : Type 0 where
  pub head : AskHead
  pub size : ℕ
  pub len : ℕ
  pub begins : IsAskHead bytes head size
  pub unrefused : refusal_by_head most head ≡ None
  pub len_is : content_length head ≡ Bytes len
  pub takes : used ≡ size + len
  pub within : used ≤ length bytes
  pub body_is : body ≡ slice_range bytes size used
  pub last_is : last ≡ hangs_up head

-- what its head says is refused
pub record IsRefusedHead (most : ℕ) (bytes : List ℕ) (refusal : Refusal) (used : ℕ) : Type 0 where
  pub head : AskHead
  pub begins : IsAskHead bytes head used
  pub refused : refusal_by_head most head ≡ Some refusal

-- no head, whatever follows (RFC 9110 section 15.5.1)
pub record NeverHasHead (bytes : List ℕ) (refusal : Refusal) (used : ℕ) : Type 0 where
  pub none : IsNoAskHead bytes
  pub refusal_is : refusal ≡ BadRequest
  pub takes : used ≡ 0

-- a whole request stands at the front, and takes so many bytes
abbrev pub IsOneRequest : ℕ → List ℕ → Request → ℕ → Type 0
IsOneRequest most bytes (served body last) used = IsServedAt most bytes body last used
IsOneRequest most bytes (turned_away refusal) used = IsRefusedHead most bytes refusal used ⊎ NeverHasHead bytes refusal used
