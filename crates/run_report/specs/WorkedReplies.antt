-- Worked runs, and what their next calls are to be answered.
use Rattle.std.specs.Prelude.{◌≡◌, ℕ, pos, negsuc, true, false, Some, None, List, [], ◌∷◌, codes}
use Rattle.bit_rows.specs.Row.{row_bytes}
use Rattle.dl_kinds.specs.declared.claims.Claim.{Claim}
use Rattle.dl_kinds.specs.declared.gid.Gid.{Gid}
use Rattle.dl_kinds.specs.declared.runs.Moment.{Moment}
use Rattle.dl_kinds.specs.declared.runs.Run.{Run}
use Rattle.dl_kinds.specs.declared.status.Status.TheVariants as status
use Rattle.dl_queue.specs.declared.kinds.QueueErr.TheVariants.{NotFound}
use Rattle.piece_table.specs.declared.giver.Giver.TheVariants.{One}
use Rattle.machine_core.specs.OwnParts.{own_of}
use Rattle.machine_core.specs.RunLegal.{known_lengths}
use Rattle.machine_core.specs.Starts.{Download, Unlisted}
use Rattle.machine_core.specs.WorkedRuns.{added_uri, at_zero, first_id, gid_at, key_of_first, one_at_once, second_id, three_added}
use Rattle.machine_core.specs.declared.calls.Call.TheVariants.{GetFiles, GetUris, GetVersion, Purge, Remove, TellStatus}
use Rattle.machine_core.specs.declared.ends.End.TheVariants.{Complete, Exists}
use Rattle.machine_core.specs.declared.events.Event.{Event}
use Rattle.machine_core.specs.declared.events.Event.TheVariants.{Called, Opened, Sized, Claimed, Landed, Settled, Ended}
use Rattle.run_report.specs.Files.{shared_bytes, verified_row}
use Rattle.run_report.specs.Replies.{reply_of, stat_view}
use Rattle.run_report.specs.Speeds.{speed_of, speed_of_all}
use Rattle.run_report.specs.Statuses.{status_view}
use Rattle.run_report.specs.Windows.{window}
use Rattle.run_report.specs.declared.kinds.Reply.TheVariants as reply
use Rattle.run_report.specs.declared.views.FileView.{FileView}
use Rattle.run_report.specs.declared.views.StatusView.{StatusView}
use Rattle.run_report.specs.declared.views.UriStatus.TheVariants.{Used, Waiting}
use Rattle.run_report.specs.declared.views.UriView.{UriView}

abbrev pub at_ms : ℕ → Moment
at_ms now = record { 0 = now }

abbrev pub blocks_at : ℕ → ℕ → Run
blocks_at first count = record { first = first; count = count }

abbrev pub claim_at : ℕ → Run → ℕ → Claim
claim_at id run since =
    record { id = id; worker = 0; mirror = 0; run = run; victim = None; since = at_ms since }

-- each payload has this name
abbrev pub named_a : Gid → List ℕ
named_a gid = codes "a"

-- ---- a payload of two blocks, 20,000 bytes, of which the first block comes after two seconds and the other half a second later

abbrev pub first_gid : Gid
first_gid = gid_at first_id

abbrev pub probed : List Event
probed = Sized first_gid 0 20000 ∷ Claimed first_gid (claim_at 0 (blocks_at 0 0) 0) ∷ added_uri ∷ []

abbrev pub half_came : List Event
half_came =
    Landed first_gid 1 0 (blocks_at 0 1) (at_ms 2000) ∷ Claimed first_gid (claim_at 1 (blocks_at 0 2) 1000)
    ∷ Opened first_gid (false ∷ []) (false ∷ false ∷ []) (at_ms 1000) ∷ probed

abbrev pub all_came : List Event
all_came = Landed first_gid 1 0 (blocks_at 1 1) (at_ms 2500) ∷ half_came

abbrev pub completed : List Event
completed = Ended first_gid Complete ∷ Settled first_gid 0 true (One 0) ∷ all_came

abbrev pub one_uri : Download
one_uri = record { gid = first_gid; subject = Unlisted (codes "http://m.test/a" ∷ []); options = one_at_once.global }

abbrev pub told_at : List Event → ℕ → StatusView
told_at past now = status_view one_at_once past (at_ms now) (codes "a") first_gid one_uri

-- the bytes whose hexadecimal digits are told as its bitfield
abbrev pub verified_bits : List Event → List ℕ
verified_bits past =
    row_bytes (verified_row (known_lengths one_at_once past first_gid) (own_of one_at_once past first_gid))

-- the one file, of which so many bytes are verified
abbrev pub one_file : ℕ → ℕ → UriView → List FileView
one_file completed len uri =
    record {
      completed_length = completed;
      index = 1;
      length = len;
      path = codes "a";
      selected = true;
      uris = uri ∷ [];
    } ∷ []

abbrev pub used_uri : UriView
used_uri = record { status = Used; uri = codes "http://m.test/a" }

abbrev pub waiting_uri : UriView
waiting_uri = record { status = Waiting; uri = codes "http://m.test/a" }

pub record SpeedsTold : Type 0 where
  pub none : speed_of one_at_once probed first_gid (at_ms 3000) ≡ 0
  pub half : speed_of one_at_once half_came first_gid (at_ms 3000) ≡ 1638
  pub at_once : speed_of one_at_once half_came first_gid (at_ms 2000) ≡ 1638
  pub last : speed_of one_at_once half_came first_gid (at_ms 11999) ≡ 1638
  pub too_late : speed_of one_at_once half_came first_gid (at_ms 12000) ≡ 0
  pub both : speed_of one_at_once all_came first_gid (at_ms 3000) ≡ 2000
  pub newer : speed_of one_at_once all_came first_gid (at_ms 12000) ≡ 361
  pub other : speed_of one_at_once all_came (gid_at second_id) (at_ms 3000) ≡ 0
  pub all : speed_of_all one_at_once all_came (at_ms 3000) ≡ 2000

pub record StatusesTold : Type 0 where
  pub unknown : (told_at (added_uri ∷ []) 0).total_length ≡ 0
  pub no_pieces : (told_at (added_uri ∷ []) 0).num_pieces ≡ 0
  pub no_bits : (told_at probed 0).bitfield ≡ None
  pub known : (told_at probed 0).total_length ≡ 20000
  pub pieces : (told_at probed 0).num_pieces ≡ 1
  pub landed : (told_at half_came 3000).completed_length ≡ 16384
  pub unverified : verified_bits half_came ≡ 0 ∷ []
  pub stands : (told_at half_came 3000).connections ≡ 1
  pub probes : (told_at (Claimed first_gid (claim_at 0 (blocks_at 0 0) 0) ∷ added_uri ∷ []) 0).connections ≡ 1
  pub ended : (told_at all_came 3000).connections ≡ 0
  pub active : (told_at half_came 3000).status ≡ status.Active
  pub unended : (told_at half_came 3000).error_code ≡ None
  pub verified : verified_bits completed ≡ 128 ∷ []
  pub complete : (told_at completed 3000).status ≡ status.Complete
  pub code : (told_at completed 3000).error_code ≡ Some 0
  pub words : (told_at completed 3000).error_message ≡ Some []
  pub failed : (told_at (Ended first_gid (Exists 5) ∷ probed) 0).error_code ≡ Some 13
  pub reason : (told_at (Ended first_gid (Exists 5) ∷ probed) 0).error_message ≡ Some (codes "file already exists")
  pub removed : (told_at (Called 0 (Remove key_of_first) at_zero ∷ probed) 0).error_code ≡ None
  pub file : (told_at half_came 3000).files ≡ one_file 0 20000 used_uri
  pub whole : (told_at completed 3000).files ≡ one_file 20000 20000 waiting_uri
  pub unsized : (told_at (added_uri ∷ []) 0).files ≡ one_file 0 0 waiting_uri

-- ---- lists

abbrev pub four : List Gid
four = gid_at 1 ∷ gid_at 2 ∷ gid_at 3 ∷ gid_at 4 ∷ []

abbrev pub second_removed : List Event
second_removed = Called 0 (Remove (record { value = second_id; digits = 16 })) at_zero ∷ three_added

pub record WindowsTold : Type 0 where
  pub front : window (pos 0) 2 four ≡ gid_at 1 ∷ gid_at 2 ∷ []
  pub middle : window (pos 1) 2 four ≡ gid_at 2 ∷ gid_at 3 ∷ []
  pub few : window (pos 3) 9 four ≡ gid_at 4 ∷ []
  pub behind : window (pos 4) 1 four ≡ []
  pub none : window (pos 0) 0 four ≡ []
  pub last : window (negsuc 0) 2 four ≡ gid_at 4 ∷ gid_at 3 ∷ []
  pub third : window (negsuc 2) 9 four ≡ gid_at 2 ∷ gid_at 1 ∷ []
  pub before : window (negsuc 4) 1 four ≡ []

pub record StatsTold : Type 0 where
  pub active : (stat_view one_at_once three_added at_zero).num_active ≡ 1
  pub waiting : (stat_view one_at_once three_added at_zero).num_waiting ≡ 2
  pub stopped : (stat_view one_at_once second_removed at_zero).num_stopped ≡ 1
  pub purged : (stat_view one_at_once (Called 0 Purge at_zero ∷ second_removed) at_zero).num_stopped ≡ 0
  pub ever : (stat_view one_at_once (Called 0 Purge at_zero ∷ second_removed) at_zero).num_stopped_total ≡ 1

pub record RepliesTold : Type 0 where
  pub none : reply_of one_at_once three_added named_a (TellStatus (record { value = 7; digits = 1 })) at_zero
      ≡ reply.Refused NotFound
  pub uris : reply_of one_at_once half_came named_a (GetUris key_of_first) at_zero ≡ reply.Uris (used_uri ∷ [])
  pub files : reply_of one_at_once half_came named_a (GetFiles key_of_first) at_zero
      ≡ reply.Files (one_file 0 20000 used_uri)
  pub version : reply_of one_at_once three_added named_a GetVersion at_zero ≡ reply.Version
  pub purged : reply_of one_at_once three_added named_a Purge at_zero ≡ reply.Fine
  pub removed : reply_of one_at_once three_added named_a (Remove key_of_first) at_zero ≡ reply.Gid first_gid

-- ---- a file in the middle of two pieces of 32 bytes

pub record BytesShared : Type 0 where
  pub first : shared_bytes (record { total = 50; piece_len = 32 }) 20 20 0 ≡ 12
  pub second : shared_bytes (record { total = 50; piece_len = 32 }) 20 20 1 ≡ 8
  pub beyond : shared_bytes (record { total = 50; piece_len = 32 }) 0 20 1 ≡ 0

pub record WorkedReplies : Type 0 where
  pub speeds_told : SpeedsTold
  pub statuses_told : StatusesTold
  pub windows_told : WindowsTold
  pub stats_told : StatsTold
  pub replies_told : RepliesTold
  pub bytes_shared : BytesShared
