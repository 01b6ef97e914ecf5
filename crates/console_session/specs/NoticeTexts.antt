-- Notices, as texts (JSON-RPC 2.0 section 4.1; aria2 manual, "RPC interface", the notifications of the server).
use Rattle.std.specs.Prelude.{ℕ, List, ◌++◌, codes}
use Rattle.std.specs.Int.{w64, to_be_bytes}
use Rattle.hex.specs.Hex.{encode_lower}
use Rattle.machine_core.specs.declared.notices.Notice.{Notice}
use Rattle.machine_core.specs.declared.notices.NoticeKind.{NoticeKind}
use Rattle.machine_core.specs.declared.notices.NoticeKind.TheVariants.{Start, Pause, Stop, Complete, Error}

abbrev pub method_of : NoticeKind → List ℕ
method_of Start = codes "aria2.onDownloadStart"
method_of Pause = codes "aria2.onDownloadPause"
method_of Stop = codes "aria2.onDownloadStop"
method_of Complete = codes "aria2.onDownloadComplete"
method_of Error = codes "aria2.onDownloadError"

-- a notification, whose one parameter has the download's id
unfoldable pub notice_text : Notice → List ℕ
notice_text notice =
    codes "{\"jsonrpc\":\"2.0\",\"method\":\""
    ++ method_of notice.kind
    ++ codes "\",\"params\":[{\"gid\":\""
    ++ encode_lower (to_be_bytes w64 notice.gid.0)
    ++ codes "\"}]}"
