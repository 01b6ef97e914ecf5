-- The head of a request (RFC 9112 sections 2 to 5), by the grammar of httparse.
use Rattle.std.specs.Prelude.{◌≡◌, ℕ, ◌<◌, ◌≤◌, List, [], map, length, ⊤}
use Rattle.http_header.specs.HeaderMap.{append_all}
use Rattle.httparse.specs.Grammar.{RequestHead, print_request, ReadsRequest, HasNoRequest, MayBecomeRequest}
use Rattle.http_heads.specs.Fields.{entry_of}
use Rattle.http_heads.specs.declared.limits.TheConstants.{MAX_HEAD_BYTES, MAX_HEAD_FIELDS}
use Rattle.http_heads.specs.declared.ask_head.AskHead.{AskHead}
use Rattle.http_heads.specs.declared.ask_head.AskRead.{AskRead}
use Rattle.http_heads.specs.declared.ask_head.AskRead.TheVariants.{Whole, More, Bad, NoMemory}

-- what the text of a head says; the values of one name stand together, in their order
abbrev pub ask_head_of : RequestHead → AskHead
ask_head_of text = record {
  method = text.method;
  target = text.target;
  minor = text.minor;
  fields = append_all [] (map entry_of text.fields);
}

-- the bytes begin with a head of at most MAX_HEAD_BYTES bytes and MAX_HEAD_FIELDS fields: what it says, and how many bytes it takes
pub record IsAskHead (bytes : List ℕ) (head : AskHead) (used : ℕ) : Type 0 where
  pub text : RequestHead
  pub rest : List ℕ
  pub reads : ReadsRequest bytes text rest
  pub says : head ≡ ask_head_of text
  pub takes : used ≡ length (print_request text)
  pub bytes_fit : used ≤ MAX_HEAD_BYTES
  pub fields_fit : length text.fields ≤ MAX_HEAD_FIELDS

-- the bytes are no head yet, and can become one, of any number of fields, or end in its target
pub record IsAskUnfinished (bytes : List ℕ) : Type 0 where
  pub short : length bytes < MAX_HEAD_BYTES
  pub none : HasNoRequest bytes
  pub some : MayBecomeRequest bytes

-- neither of the two
pub record IsNoAskHead (bytes : List ℕ) : Type 0 where
  pub no_head : (head : AskHead) (used : ℕ) → IsAskHead bytes head used → ⊥
  pub no_front : IsAskUnfinished bytes → ⊥

-- P of the head and its length, where one is answered
abbrev pub IfWholeAsk : AskRead → (AskHead → ℕ → Type 0) → Type 0
IfWholeAsk (Whole head used) P = P head used
IfWholeAsk More P = ⊤
IfWholeAsk Bad P = ⊤
IfWholeAsk NoMemory P = ⊤
