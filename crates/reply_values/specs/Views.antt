-- What views are told as: each as an object, with a member for each field, by ascending names. Numbers and truth
-- values are texts (aria2 manual, `aria2.tellStatus`, `aria2.getFiles`, `aria2.getUris`, `aria2.getGlobalStat`).
use Rattle.std.specs.Prelude.{ℕ, List, [], ◌∷◌, ◌++◌, codes, map, option_map}
use Rattle.rpc_console.specs.declared.asking.Keys.{Keys}
use Rattle.rpc_envelope.specs.Faults.{status_word}
use Rattle.run_report.specs.declared.views.FileView.{FileView}
use Rattle.run_report.specs.declared.views.StatView.{StatView}
use Rattle.run_report.specs.declared.views.StatusView.{StatusView}
use Rattle.run_report.specs.declared.views.UriStatus.{UriStatus}
use Rattle.run_report.specs.declared.views.UriStatus.TheVariants.{Used, Waiting}
use Rattle.run_report.specs.declared.views.UriView.{UriView}
use Rattle.serde_json.specs.Data.{Data, Members, string, array, object}
use Rattle.serde_json.specs.View.{items_of}
use Rattle.reply_values.specs.Members.{NamedData, decimal_data, truth_data, gid_data, members_in_order, named_if, pick}

abbrev pub uri_word : UriStatus → List ℕ
uri_word Used = codes "used"
uri_word Waiting = codes "waiting"

abbrev pub uri_data : UriView → Data
uri_data uri = object (members_in_order (
    (codes "status", string (uri_word uri.status))
    ∷ (codes "uri", string uri.uri) ∷ []))

abbrev pub uris_data : List UriView → Data
uris_data uris = array (items_of (map uri_data uris))

abbrev pub file_data : FileView → Data
file_data file = object (members_in_order (
    (codes "completedLength", decimal_data file.completed_length)
    ∷ (codes "index", decimal_data file.index)
    ∷ (codes "length", decimal_data file.length)
    ∷ (codes "path", string file.path)
    ∷ (codes "selected", truth_data file.selected)
    ∷ (codes "uris", uris_data file.uris) ∷ []))

abbrev pub files_data : List FileView → Data
files_data files = array (items_of (map file_data files))

-- ---- a download, of whose members some may be left out

abbrev pub speed_members : StatusView → List NamedData
speed_members status =
    (codes "completedLength", decimal_data status.completed_length)
    ∷ (codes "connections", decimal_data status.connections)
    ∷ (codes "dir", string status.dir)
    ∷ (codes "downloadSpeed", decimal_data status.download_speed) ∷ []

abbrev pub error_members : StatusView → List NamedData
error_members status =
    named_if (codes "errorCode") (option_map decimal_data status.error_code)
    ++ named_if (codes "errorMessage") (option_map string status.error_message)

abbrev pub payload_members : StatusView → List NamedData
payload_members status =
    (codes "files", files_data status.files)
    ∷ (codes "gid", gid_data status.gid)
    ∷ named_if (codes "infoHash") (option_map string status.info_hash)

abbrev pub length_members : StatusView → List NamedData
length_members status =
    (codes "numPieces", decimal_data status.num_pieces)
    ∷ (codes "pieceLength", decimal_data status.piece_length)
    ∷ (codes "status", string (status_word status.status))
    ∷ (codes "totalLength", decimal_data status.total_length)
    ∷ (codes "uploadLength", decimal_data status.upload_length)
    ∷ (codes "uploadSpeed", decimal_data status.upload_speed) ∷ []

abbrev pub status_members : StatusView → Members
status_members status = members_in_order (
    named_if (codes "bitfield") (option_map string status.bitfield)
    ++ (speed_members status ++ (error_members status ++ (payload_members status ++ length_members status))))

-- those that the keys choose
abbrev pub status_data : Keys → StatusView → Data
status_data keys status = object (pick keys (status_members status))

abbrev pub statuses_data : Keys → List StatusView → Data
statuses_data keys statuses = array (items_of (map (status_data keys) statuses))

-- ---- all downloads

abbrev pub stat_data : StatView → Data
stat_data stat = object (members_in_order (
    (codes "downloadSpeed", decimal_data stat.download_speed)
    ∷ (codes "numActive", decimal_data stat.num_active)
    ∷ (codes "numStopped", decimal_data stat.num_stopped)
    ∷ (codes "numStoppedTotal", decimal_data stat.num_stopped_total)
    ∷ (codes "numWaiting", decimal_data stat.num_waiting)
    ∷ (codes "uploadSpeed", decimal_data stat.upload_speed) ∷ []))
