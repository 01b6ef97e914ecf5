-- What comes of calls by their replies (aria2 manual, "RPC interface").
use Rattle.std.specs.Prelude.{ℕ, List, [], ◌∷◌, codes, map}
use Rattle.dl_queue.specs.declared.kinds.QueueErr.{QueueErr}
use Rattle.dl_queue.specs.declared.kinds.QueueErr.TheVariants as refusal
use Rattle.rpc_console.specs.Names.{names_data}
use Rattle.rpc_console.specs.declared.asking.Keys.{Keys}
use Rattle.rpc_envelope.specs.Turns.{OutcomeData, given, failed}
use Rattle.rpc_envelope.specs.declared.fault.RpcFault.{RpcFault}
use Rattle.rpc_envelope.specs.declared.fault.RpcFault.TheVariants.{GidAmbiguous, GidInUse, GidUnknown, JournalFull, TooManyDownloads, WrongStatus}
use Rattle.run_report.specs.declared.kinds.Reply.{Reply}
use Rattle.run_report.specs.declared.kinds.Reply.TheVariants as reply
use Rattle.serde_json.specs.Data.{Data, array, no_items, number, object, string, unsigned, no_members}
use Rattle.reply_values.specs.Members.{NamedData, gid_data, members_in_order, put_all}
use Rattle.reply_values.specs.Views.{files_data, stat_data, status_data, statuses_data, uris_data}

-- The fault of a call that changes nothing. Want of memory is never told, and has one in place of none.
abbrev pub refusal_fault : QueueErr → RpcFault
refusal_fault refusal.NotFound = GidUnknown
refusal_fault (refusal.Ambiguous count) = GidAmbiguous
refusal_fault (refusal.WrongStatus status) = WrongStatus status
refusal_fault refusal.SameGid = GidInUse
refusal_fault (refusal.Full count) = TooManyDownloads
refusal_fault refusal.NoMemory = JournalFull

abbrev pub named_text : List ℕ × List ℕ → NamedData
named_text pair = (pair.0, string pair.1)

-- each option by its name
abbrev pub options_data : List (List ℕ × List ℕ) → Data
options_data pairs = object (put_all (map named_text pairs) no_members)

abbrev pub version_data : Data
version_data = object (members_in_order (
    (codes "enabledFeatures", array no_items)
    ∷ (codes "version", string (codes "1.0.0")) ∷ []))

-- keys choose among the members of statuses alone
abbrev pub reply_outcome : Reply → Keys → OutcomeData
reply_outcome (reply.Gid gid) keys = given (gid_data gid)
reply_outcome reply.Fine keys = given (string (codes "OK"))
reply_outcome (reply.Status status) keys = given (status_data keys status)
reply_outcome (reply.Statuses statuses) keys = given (statuses_data keys statuses)
reply_outcome (reply.Files files) keys = given (files_data files)
reply_outcome (reply.Uris uris) keys = given (uris_data uris)
reply_outcome (reply.Options pairs) keys = given (options_data pairs)
reply_outcome (reply.Position place) keys = given (number (unsigned place))
reply_outcome (reply.Stat stat) keys = given (stat_data stat)
reply_outcome reply.Version keys = given version_data
reply_outcome (reply.Refused refused) keys = failed (refusal_fault refused)

-- a refusal but for want of memory: it takes no memory to be told
abbrev pub IsRefusal : Reply → Type 0
IsRefusal (reply.Refused refusal.NoMemory) = ⊥
IsRefusal (reply.Refused refused) = Unit {0}
IsRefusal other = ⊥

-- `system.listMethods`
abbrev pub methods_outcome : OutcomeData
methods_outcome = given names_data
