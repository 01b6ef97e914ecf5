-- How many bytes spell what is read.
use Rattle.std.specs.Prelude.{◌≡◌, ℕ, true, is_some, List, length, Result, Ok, Err}
use Rattle.dl_kinds.specs.Answers.{Gives}
use Rattle.bencode_core.specs.Value.{Value, spelling}
use Rattle.bencode_core.specs.Reading.{fault_of, member_spelling}
use Rattle.bencode_core.specs.declared.fault.BenErr.{BenErr}

abbrev pub value_len : Result Value BenErr → Result ℕ BenErr
value_len (Ok v) = Ok (length (spelling v))
value_len (Err fault) = Err fault

-- the key, and how many bytes spell the member
abbrev pub member_len : Result (List ℕ × Value) BenErr → Result (List ℕ × ℕ) BenErr
member_len (Ok m) = Ok (m.0, length (member_spelling m))
member_len (Err fault) = Err fault

-- an error that tells a fault of the bytes
abbrev pub TellsFault : BenErr → Type 0
TellsFault e = is_some (fault_of e) ≡ true

-- a call answers how many bytes spell the value that is read, or the fault
abbrev pub AnswersLen : Result ℕ BenErr → Result Value BenErr → Type 0
AnswersLen result expected = Gives (λ len. len) fault_of result (value_len expected)
