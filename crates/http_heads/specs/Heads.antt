-- The head of a reply (RFC 9112 sections 2 to 5), by the grammar of httparse.
use Rattle.std.specs.Prelude.{◌≡◌, ℕ, ◌<◌, ◌≤◌, List, [], map, length, ⊤}
use Rattle.http_header.specs.HeaderMap.{append_all}
use Rattle.httparse.specs.Grammar.{ResponseHead, print_response, ReadsResponse, HasNoResponse, MayBecomeResponse, status_code}
use Rattle.http_heads.specs.Fields.{entry_of}
use Rattle.http_heads.specs.declared.limits.TheConstants.{MAX_HEAD_BYTES, MAX_HEAD_FIELDS}
use Rattle.http_heads.specs.declared.head.Head.{Head}
use Rattle.http_heads.specs.declared.head.HeadRead.{HeadRead}
use Rattle.http_heads.specs.declared.head.HeadRead.TheVariants.{Whole, More, Bad, NoMemory}

-- what the text of a head says; the values of one name stand together, in their order
abbrev pub head_of : ResponseHead → Head
head_of text = record { status = status_code text; minor = text.minor; fields = append_all [] (map entry_of text.fields) }

-- the bytes begin with a head of at most MAX_HEAD_BYTES bytes and MAX_HEAD_FIELDS fields: what it says, and how many bytes it takes
pub record IsHead (bytes : List ℕ) (head : Head) (used : ℕ) : Type 0 where
  pub text : ResponseHead
  pub rest : List ℕ
  pub reads : ReadsResponse bytes text rest
  pub says : head ≡ head_of text
  pub takes : used ≡ length (print_response text)
  pub bytes_fit : used ≤ MAX_HEAD_BYTES
  pub fields_fit : length text.fields ≤ MAX_HEAD_FIELDS

-- the bytes are no head yet, and can become one, of any number of fields
pub record IsUnfinished (bytes : List ℕ) : Type 0 where
  pub short : length bytes < MAX_HEAD_BYTES
  pub none : HasNoResponse bytes
  pub some : MayBecomeResponse bytes

-- neither of the two
pub record IsNoHead (bytes : List ℕ) : Type 0 where
  pub no_head : (head : Head) (used : ℕ) → IsHead bytes head used → ⊥
  pub no_front : IsUnfinished bytes → ⊥

-- P of the head and its length, where one is answered
abbrev pub IfWhole : HeadRead → (Head → ℕ → Type 0) → Type 0
IfWhole (Whole head used) P = P head used
IfWhole More P = ⊤
IfWhole Bad P = ⊤
IfWhole NoMemory P = ⊤
