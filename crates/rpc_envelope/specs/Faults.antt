-- The code and the text of each fault (JSON-RPC 2.0 section 5.1).
use Rattle.std.specs.Prelude.{ℕ, ℤ, negsuc, pos, List, ◌++◌, codes}
use Rattle.dl_kinds.specs.declared.status.Status.{Status}
use Rattle.dl_kinds.specs.declared.status.Status.TheVariants.{Active, Waiting, Paused, Failed, Complete, Removed}
use Rattle.serde_json.specs.Data.{Data, number, string, object, no_members, member}
use Rattle.serde_json.specs.Find.{of_integer}
use Rattle.rpc_envelope.specs.declared.fault.RpcFault.{RpcFault}
use Rattle.rpc_envelope.specs.declared.fault.RpcFault.TheVariants.{NoJson, NoRequest, NoMethod, BadParams, Unauthorized, Nested, JournalFull, GidUnknown, GidAmbiguous, WrongStatus, GidInUse, TooManyDownloads, NotBencode, UnusableTorrent, NoUsableUri, TooManyUris, OptionUnknown, OptionBadValue, OptionOutOfRange, OptionFixed}

-- -32700 to -32602, and 1 for all others
abbrev pub fault_code : RpcFault → ℤ
fault_code NoJson = negsuc 32699
fault_code NoRequest = negsuc 32599
fault_code NoMethod = negsuc 32600
fault_code BadParams = negsuc 32601
fault_code other = pos 1

-- the word of aria2's `status`
abbrev pub status_word : Status → List ℕ
status_word Active = codes "active"
status_word Waiting = codes "waiting"
status_word Paused = codes "paused"
status_word Failed = codes "error"
status_word Complete = codes "complete"
status_word Removed = codes "removed"

abbrev pub fault_text : RpcFault → List ℕ
fault_text NoJson = codes "Parse error"
fault_text NoRequest = codes "Invalid Request"
fault_text NoMethod = codes "Method not found"
fault_text BadParams = codes "Invalid params"
fault_text Unauthorized = codes "Unauthorized"
fault_text Nested = codes "nested multicall is refused"
fault_text JournalFull = codes "journal is full"
fault_text GidUnknown = codes "GID is not found"
fault_text GidAmbiguous = codes "GID is not unique"
fault_text (WrongStatus status) = codes "GID cannot be changed in status " ++ status_word status
fault_text GidInUse = codes "GID is in use"
fault_text TooManyDownloads = codes "too many downloads"
fault_text NotBencode = codes "bencoded bytes are wrong"
fault_text UnusableTorrent = codes "torrent is not usable"
fault_text NoUsableUri = codes "no usable URI"
fault_text TooManyUris = codes "too many URIs"
fault_text OptionUnknown = codes "option is unknown"
fault_text OptionBadValue = codes "option value is wrong"
fault_text OptionOutOfRange = codes "option value is out of range"
fault_text OptionFixed = codes "option cannot be changed"

-- an object of both
abbrev pub fault_data : RpcFault → Data
fault_data fault = object (member (codes "code") (number (of_integer (fault_code fault)))
    (member (codes "message") (string (fault_text fault)) no_members))
