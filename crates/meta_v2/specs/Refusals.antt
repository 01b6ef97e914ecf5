-- Steps that may refuse a metainfo file, and values by the keys of a dictionary.
use Rattle.std.specs.Prelude.{ℕ, ℤ, List, Option, Some, None, Result, Ok, Err, codes}
use Rattle.bencode_core.specs.Placed.{Placed, member_of, integer_of, string_of}
use Rattle.meta_v2.specs.declared.refusals.KeyV2.{KeyV2}
use Rattle.meta_v2.specs.declared.refusals.KeyV2.TheVariants as keys
use Rattle.meta_v2.specs.declared.refusals.V2Err.{V2Err}
use Rattle.meta_v2.specs.declared.refusals.V2Err.TheVariants.{Lacks, BadKind, NoMemory}

-- the next step, unless this one refused
infixl 10 ◌>>=◌
abbrev pub ◌>>=◌ : {A B : Type 0} → Result A V2Err → (A → Result B V2Err) → Result B V2Err
(Ok x) >>= f = f x
(Err e) >>= f = Err e

-- what is there, or else the refusal
abbrev pub or_refusal : {A : Type 0} → V2Err → Option A → Result A V2Err
or_refusal refusal None = Err refusal
or_refusal refusal (Some x) = Ok x

-- what an error tells: want of memory tells nothing
abbrev pub refusal_of : V2Err → Option V2Err
refusal_of NoMemory = None
refusal_of e = Some e

-- how a key is written
abbrev pub key_text : KeyV2 → List ℕ
key_text keys.Info = codes "info"
key_text keys.MetaVersion = codes "meta version"
key_text keys.Name = codes "name"
key_text keys.PieceLength = codes "piece length"
key_text keys.FileTree = codes "file tree"
key_text keys.Length = codes "length"
key_text keys.PiecesRoot = codes "pieces root"
key_text keys.PieceLayers = codes "piece layers"

-- the value of the key
abbrev pub sought : KeyV2 → Placed → Option Placed
sought key dict = member_of (key_text key) dict

abbrev pub value_in : KeyV2 → Placed → Result Placed V2Err
value_in key dict = or_refusal (Lacks key) (sought key dict)

-- the value of the key, which is of this kind

unfoldable pub string_in : KeyV2 → Placed → Result (List ℕ) V2Err
string_in key dict = do
  found ← value_in key dict
  or_refusal (BadKind key) (string_of found.value)

unfoldable pub integer_in : KeyV2 → Placed → Result ℤ V2Err
integer_in key dict = do
  found ← value_in key dict
  or_refusal (BadKind key) (integer_of found.value)
