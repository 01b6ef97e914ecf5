-- What a metainfo file on a disk says as version 2 (BEP 52), and why one gives no payload.
use Rattle.std.specs.Prelude.{◌≡◌, Bool, true, false, ℕ, List, Option, None, Ok, Err}
use Rattle.bencode_core.specs.declared.fault.BenErr.{BenErr}
use Rattle.command_call.specs.Files.{HasBytes, IsTooLarge}
use Rattle.dl_kinds.specs.declared.outside.IoErr.{IoErr}
use Rattle.dl_kinds.specs.declared.outside.IoErr.TheVariants as failure
use Rattle.meta_v2.specs.Rules.{meta_v2_of}
use Rattle.meta_v2.specs.declared.meta.MetaV2.{MetaV2}
use Rattle.meta_v2.specs.declared.refusals.V2Err.{V2Err}
use Rattle.meta_v2.specs.declared.refusals.V2Err.TheVariants.{Bencode}
use Rattle.run_report.specs.declared.endings.MetainfoFault.{MetainfoFault}
use Rattle.run_report.specs.declared.endings.MetainfoFault.TheVariants as fault
use Rattle.run_report.specs.declared.endings.RunEnding.{RunEnding}
use Rattle.run_report.specs.declared.endings.RunEnding.TheVariants as ending
use Rattle.check_run.specs.declared.file_err.FileErr.{FileErr}
use Rattle.check_run.specs.declared.file_err.FileErr.TheVariants.{Missing, Fault, TooLong, Broken, NoMemory}

-- the file isn't too long, and says this
pub record SaysV2 (file : Option (List ℕ)) (meta : MetaV2) : Type 0 where
  pub bytes : List ℕ
  pub has : HasBytes file bytes
  pub says : meta_v2_of bytes ≡ Ok meta

-- the file isn't too long, and this is the first rule that it breaks
pub record BreaksRule (file : Option (List ℕ)) (error : V2Err) : Type 0 where
  pub bytes : List ℕ
  pub has : HasBytes file bytes
  pub breaks : meta_v2_of bytes ≡ Err error

-- whether the rule is that the bytes are one bencoded value
abbrev pub is_of_bencode : V2Err → Bool
is_of_bencode (Bencode why) = true
is_of_bencode other = false

-- the first rule that it breaks is another
abbrev pub BreaksOtherRule : Option (List ℕ) → Type 0
BreaksOtherRule file = (error : V2Err) × (is_of_bencode error ≡ false) × BreaksRule file error

-- Why a file gives no payload: there is none, it is too long, it is no bencoded value, or it breaks another rule. Of a
-- reading that failed it tells nothing, and mirrors aren't asked for.
abbrev pub LacksPayload : Option (List ℕ) → MetainfoFault → Type 0
LacksPayload file fault.Missing = file ≡ None
LacksPayload file fault.TooLong = IsTooLarge file
LacksPayload file fault.NotBencode = (why : BenErr) × BreaksRule file (Bencode why)
LacksPayload file fault.Unusable = BreaksOtherRule file
LacksPayload file fault.Unread = Unit {0}
LacksPayload file mirrors = ⊥

-- whether a file may be refused so: never for its mirrors
abbrev pub is_fault_of_file : MetainfoFault → Bool
is_fault_of_file fault.Missing = true
is_fault_of_file fault.TooLong = true
is_fault_of_file fault.NotBencode = true
is_fault_of_file fault.Unusable = true
is_fault_of_file fault.Unread = true
is_fault_of_file mirrors = false

-- ---- by the errors of this crate

-- why a file isn't read; of faults and want of memory it tells nothing
abbrev pub RefusesV2 : Option (List ℕ) → FileErr → Type 0
RefusesV2 file Missing = file ≡ None
RefusesV2 file TooLong = IsTooLarge file
RefusesV2 file (Broken error) = BreaksRule file error
RefusesV2 file Fault = Unit {0}
RefusesV2 file NoMemory = Unit {0}

abbrev pub error_of_disk : IoErr → FileErr
error_of_disk failure.Fault = Fault
error_of_disk failure.NoMemory = NoMemory

abbrev pub fault_by_rule : V2Err → MetainfoFault
fault_by_rule (Bencode why) = fault.NotBencode
fault_by_rule other = fault.Unusable

abbrev pub refusal_by : FileErr → RunEnding
refusal_by Missing = ending.NoMetainfo fault.Missing
refusal_by Fault = ending.NoMetainfo fault.Unread
refusal_by TooLong = ending.NoMetainfo fault.TooLong
refusal_by (Broken error) = ending.NoMetainfo (fault_by_rule error)
refusal_by NoMemory = ending.NoMemory
