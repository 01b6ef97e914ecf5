-- Worked replies, and the texts of their values.
use Rattle.std.specs.Prelude.{◌≡◌, ℕ, List, [], ◌∷◌, ◌++◌, true, codes, None, Some}
use Rattle.dl_kinds.specs.declared.gid.Gid.{Gid}
use Rattle.dl_kinds.specs.declared.status.Status.TheVariants.{Active, Failed}
use Rattle.dl_queue.specs.declared.kinds.QueueErr.TheVariants as refusal
use Rattle.rpc_console.specs.declared.asking.Keys.{Keys}
use Rattle.rpc_console.specs.declared.asking.Keys.TheVariants.{All, These}
use Rattle.rpc_envelope.specs.Answers.{part_data}
use Rattle.rpc_envelope.specs.Turns.{failed}
use Rattle.rpc_envelope.specs.declared.fault.RpcFault.TheVariants.{WrongStatus}
use Rattle.run_report.specs.declared.kinds.Reply.{Reply}
use Rattle.run_report.specs.declared.kinds.Reply.TheVariants as reply
use Rattle.run_report.specs.declared.views.FileView.{FileView}
use Rattle.run_report.specs.declared.views.StatView.{StatView}
use Rattle.run_report.specs.declared.views.StatusView.{StatusView}
use Rattle.run_report.specs.declared.views.UriStatus.TheVariants.{Used}
use Rattle.serde_json.specs.Written.{compact_text}
use Rattle.reply_values.specs.Outcomes.{reply_outcome}

-- the text of the one value, in a list
abbrev pub text_with : Keys → Reply → List ℕ
text_with keys answer = compact_text (part_data (reply_outcome answer keys))

abbrev pub text_of_reply : Reply → List ℕ
text_of_reply answer = text_with All answer

abbrev pub worked_gid : Gid
worked_gid = record { 0 = 2748 }

abbrev pub worked_stat : StatView
worked_stat = record {
  download_speed = 1638;
  num_active = 1;
  num_stopped = 0;
  num_stopped_total = 3;
  num_waiting = 2;
  upload_speed = 0;
}

abbrev pub worked_file : FileView
worked_file = record {
  completed_length = 0;
  index = 1;
  length = 20000;
  path = codes "a";
  selected = true;
  uris = record { status = Used; uri = codes "http://m.test/a" } ∷ [];
}

-- half of a payload without a metainfo file has come
abbrev pub worked_status : StatusView
worked_status = record {
  bitfield = Some (codes "00");
  completed_length = 16384;
  connections = 1;
  dir = codes ".";
  download_speed = 1638;
  error_code = None;
  error_message = None;
  files = worked_file ∷ [];
  gid = worked_gid;
  info_hash = None;
  num_pieces = 1;
  piece_length = 1048576;
  status = Active;
  total_length = 20000;
  upload_length = 0;
  upload_speed = 0;
}

abbrev pub failed_status : StatusView
failed_status =
    record worked_status { error_code = Some 13; error_message = Some (codes "file already exists"); status = Failed }

-- two that are told, one that isn't, and one that no status has
abbrev pub some_keys : Keys
some_keys = These (codes "status" ∷ codes "none" ∷ codes "gid" ∷ codes "infoHash" ∷ [])

pub record WorkedTexts : Type 0 where
  pub gid : text_of_reply (reply.Gid worked_gid) ≡ codes "[\"0000000000000abc\"]"
  pub fine : text_of_reply reply.Fine ≡ codes "[\"OK\"]"
  pub position : text_of_reply (reply.Position 7) ≡ codes "[7]"
  pub version : text_of_reply reply.Version ≡ codes "[{\"enabledFeatures\":[],\"version\":\"1.0.0\"}]"
  pub stat : text_of_reply (reply.Stat worked_stat)
      ≡ codes "[{\"downloadSpeed\":\"1638\",\"numActive\":\"1\",\"numStopped\":\"0\",\"numStoppedTotal\":\"3\","
      ++ codes "\"numWaiting\":\"2\",\"uploadSpeed\":\"0\"}]"
  pub uris : text_of_reply (reply.Uris worked_file.uris)
      ≡ codes "[[{\"status\":\"used\",\"uri\":\"http://m.test/a\"}]]"
  pub options : text_of_reply (reply.Options ((codes "split", codes "5") ∷ (codes "dir", codes "a\"b") ∷ []))
      ≡ codes "[{\"dir\":\"a\\\"b\",\"split\":\"5\"}]"
  pub status : text_of_reply (reply.Status worked_status)
      ≡ codes "[{\"bitfield\":\"00\",\"completedLength\":\"16384\",\"connections\":\"1\",\"dir\":\".\","
      ++ (codes "\"downloadSpeed\":\"1638\",\"files\":[{\"completedLength\":\"0\",\"index\":\"1\","
      ++ (codes "\"length\":\"20000\",\"path\":\"a\",\"selected\":\"true\",\"uris\":[{\"status\":\"used\","
      ++ (codes "\"uri\":\"http://m.test/a\"}]}],\"gid\":\"0000000000000abc\",\"numPieces\":\"1\","
      ++ (codes "\"pieceLength\":\"1048576\",\"status\":\"active\",\"totalLength\":\"20000\","
      ++ codes "\"uploadLength\":\"0\",\"uploadSpeed\":\"0\"}]"))))
  pub why_failed : text_with (These (codes "errorMessage" ∷ codes "errorCode" ∷ [])) (reply.Status failed_status)
      ≡ codes "[{\"errorCode\":\"13\",\"errorMessage\":\"file already exists\"}]"
  pub chosen : text_with some_keys (reply.Status worked_status)
      ≡ codes "[{\"gid\":\"0000000000000abc\",\"status\":\"active\"}]"
  pub none_chosen : text_with (These (codes "none" ∷ [])) (reply.Statuses (worked_status ∷ worked_status ∷ []))
      ≡ codes "[[{},{}]]"
  pub all_chosen : text_with (These []) (reply.Status worked_status) ≡ text_of_reply (reply.Status worked_status)
  pub refused : reply_outcome (reply.Refused (refusal.WrongStatus Failed)) All ≡ failed (WrongStatus Failed)
  pub refusal_text : text_of_reply (reply.Refused (refusal.WrongStatus Failed))
      ≡ codes "{\"code\":1,\"message\":\"GID cannot be changed in status error\"}"
