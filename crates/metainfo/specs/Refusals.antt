-- Steps that may refuse a metainfo file, and values by the keys of a dictionary.
use Rattle.std.specs.Prelude.{ℕ, ℤ, List, Option, Some, None, Result, Ok, Err, codes}
use Rattle.bencode_core.specs.Placed.{Placed, member_of, integer_of, string_of}
use Rattle.metainfo.specs.declared.refusals.Key.{Key}
use Rattle.metainfo.specs.declared.refusals.Key.TheVariants as keys
use Rattle.metainfo.specs.declared.refusals.MetaErr.{MetaErr}
use Rattle.metainfo.specs.declared.refusals.MetaErr.TheVariants.{Lacks, BadKind, NoMemory}

-- the next step, unless this one refused
infixl 10 ◌>>=◌
abbrev pub ◌>>=◌ : {A B : Type 0} → Result A MetaErr → (A → Result B MetaErr) → Result B MetaErr
(Ok x) >>= f = f x
(Err e) >>= f = Err e

-- what is there, or else the refusal
abbrev pub or_refusal : {A : Type 0} → MetaErr → Option A → Result A MetaErr
or_refusal refusal None = Err refusal
or_refusal refusal (Some x) = Ok x

-- what an error tells: want of memory tells nothing
abbrev pub refusal_of : MetaErr → Option MetaErr
refusal_of NoMemory = None
refusal_of e = Some e

-- how a key is written
abbrev pub key_text : Key → List ℕ
key_text keys.Info = codes "info"
key_text keys.Name = codes "name"
key_text keys.PieceLength = codes "piece length"
key_text keys.Pieces = codes "pieces"
key_text keys.Length = codes "length"
key_text keys.Files = codes "files"
key_text keys.Path = codes "path"
key_text keys.UrlList = codes "url-list"

-- the value of the key
abbrev pub sought : Key → Placed → Option Placed
sought key dict = member_of (key_text key) dict

abbrev pub value_in : Key → Placed → Result Placed MetaErr
value_in key dict = or_refusal (Lacks key) (sought key dict)

-- the value of the key, which is of this kind

unfoldable pub string_in : Key → Placed → Result (List ℕ) MetaErr
string_in key dict = do
  found ← value_in key dict
  or_refusal (BadKind key) (string_of found.value)

unfoldable pub integer_in : Key → Placed → Result ℤ MetaErr
integer_in key dict = do
  found ← value_in key dict
  or_refusal (BadKind key) (integer_of found.value)
