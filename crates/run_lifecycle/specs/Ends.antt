-- Why a run doesn't begin.
use Rattle.std.specs.Prelude.{ℕ, zero, suc}
use Rattle.command_call.specs.declared.refusals.SourceErr.{SourceErr}
use Rattle.command_call.specs.declared.refusals.SourceErr.TheVariants as error
use Rattle.metainfo.specs.declared.refusals.MetaErr.{MetaErr}
use Rattle.metainfo.specs.declared.refusals.MetaErr.TheVariants.{Bencode}
use Rattle.run_report.specs.declared.endings.MetainfoFault.{MetainfoFault}
use Rattle.run_report.specs.declared.endings.MetainfoFault.TheVariants as fault
use Rattle.run_report.specs.declared.endings.RunEnding.{RunEnding}
use Rattle.run_report.specs.declared.endings.RunEnding.TheVariants.{NoMemory, NoMetainfo}

-- the bytes are no bencoded value, or break another rule
abbrev pub fault_of_meta : MetaErr → MetainfoFault
fault_of_meta (Bencode error) = fault.NotBencode
fault_of_meta other = fault.Unusable

abbrev pub fault_of_mirrors : ℕ → MetainfoFault
fault_of_mirrors zero = fault.NoMirror
fault_of_mirrors (suc count) = fault.TooManyMirrors

abbrev pub ending_of_source : SourceErr → RunEnding
ending_of_source error.Missing = NoMetainfo fault.Missing
ending_of_source error.Fault = NoMetainfo fault.Unread
ending_of_source error.TooLarge = NoMetainfo fault.TooLong
ending_of_source (error.Meta why) = NoMetainfo (fault_of_meta why)
ending_of_source (error.Mirrors count) = NoMetainfo (fault_of_mirrors count)
ending_of_source error.NoMemory = NoMemory
