-- An engine may go to another thread, where its disk may.
use denote.RattleType.{RattleType}
use denote.Enum.Declared.{shape as enum_shape}
use denote.Param.Send.{AllSend, EachSend, IsSend, enum_send, recorded_send, sendable, struct_send, view_send}
use denote.Struct.Declared.{shape}
use denote.Struct.Struct.{Struct}
use denote.Enum.Enum.{Enum}
use Rattle.std.proofs.Crossing.{Box-send, Vec-send, crosses}
use Rattle.std.proofs.MapsCrossing.{crosses as maps}
use Rattle.bit_rows.specs.contracts.row.BitRow as bits
use Rattle.control_file.specs.contracts.want.Want as want
use Rattle.dl_disk.specs.declared.disk.Disk as disk
use Rattle.dl_kinds.specs.contracts.claims.Claim as claim
use Rattle.dl_kinds.specs.contracts.lists.Digests as digests
use Rattle.dl_kinds.specs.contracts.lists.Texts as texts
use Rattle.dl_kinds.specs.contracts.text.Text as text
use Rattle.dl_queue.specs.contracts.kinds.Added as added
use Rattle.dl_queue.specs.contracts.queue.Queue as queue
use Rattle.engine_core.specs.contracts.engine.Engine as engine
use Rattle.engine_core.specs.contracts.state.EngineState as state
use Rattle.machine_core.specs.contracts.calls.Call as call
use Rattle.machine_core.specs.contracts.events.Event as event
use Rattle.machine_core.specs.contracts.handed.HandedPieces as handed
use Rattle.machine_core.specs.contracts.journal.Journal as journal
use Rattle.machine_core.specs.contracts.machine.Machine as machine
use Rattle.machine_core.specs.contracts.notice_log.NoticeLog as notice_log
use Rattle.metainfo.specs.contracts.meta.Meta as meta
use Rattle.mirror_blame.specs.contracts.marks.Marks as marks
use Rattle.number_list.specs.contracts.list.NumberList as numbers
use Rattle.one_download.specs.contracts.download.OneDownload as one
use Rattle.one_download.specs.contracts.payload.Payload as payload
use Rattle.option_set.specs.contracts.options.Options as options
use Rattle.option_set.specs.contracts.setting.Setting as setting
use Rattle.option_set.specs.contracts.settings.Settings as settings
use Rattle.piece_table.specs.contracts.table.Table as table
use Rattle.rate_limits.specs.contracts.limits.RateLimits as limits
use Rattle.segment_claim.specs.contracts.claims.Claims as claims
use Rattle.span_map.specs.contracts.layout.Layout as layout
use Rattle.stored_run.specs.contracts.run.StoredRun as stored

-- ---- rows, texts and lists

bits_send : IsSend bits.the_row
bits_send = search (crosses, sendable) depth 20

text_send : IsSend text.the_row
text_send = search (maps, crosses, sendable) depth 20

texts_send : IsSend texts.the_row
texts_send = search (text_send, crosses, sendable) depth 20

digests_send : IsSend digests.the_row
digests_send = search (crosses, sendable) depth 20

layout_send : IsSend layout.the_row
layout_send = search (texts_send, crosses, sendable) depth 20

numbers_send : IsSend numbers.the_row
numbers_send = search (crosses, sendable) depth 20

-- ---- options and calls

options_send : IsSend options.the_row
options_send = search (crosses, sendable) depth 20

setting_inside : IsSend setting.TheInside.the_row
setting_inside =
    let d = setting.TheInside.the_type in
    let all : AllSend (shape d).fields = search (text_send, sendable) depth 40 fits 100000 in
    recorded_send (Struct (shape d)) d.D d.to d.to_one (struct_send (shape d) all)

setting_send : IsSend setting.the_row
setting_send = search (setting_inside, view_send) depth 5

settings_send : IsSend settings.the_row
settings_send = search (setting_send, crosses, sendable) depth 20

meta_send : IsSend meta.the_row
meta_send = search (text_send, texts_send, layout_send, digests_send, crosses, sendable) depth 20

want_send : IsSend want.the_row
want_send = search (text_send, layout_send, digests_send, crosses, sendable) depth 20

call_send : IsSend (call.the_field).row
call_send =
    let d = call.the_type in
    let each : EachSend (enum_shape d).variants =
    search (texts_send, settings_send, meta_send, Box-send, sendable) depth 40 fits 100000 in
    enum_send (enum_shape d) each

-- ---- the journal

event_send : IsSend event.the_row
event_send =
    let d = event.the_type in
    let each : EachSend (enum_shape d).variants = search (call_send, bits_send, sendable) depth 40 fits 100000 in
    recorded_send (Enum (enum_shape d)) d.D d.to d.to_one (enum_send (enum_shape d) each)

journal_send : IsSend (journal.the_field).row
journal_send = search (event_send, crosses, sendable) depth 20

-- ---- downloads

table_send : IsSend table.the_row
table_send = search (bits_send, crosses, sendable) depth 20

claims_send : IsSend claims.the_row
claims_send = search (crosses, sendable) depth 20

payload_send : IsSend payload.the_row
payload_send = search (table_send, claims_send, bits_send, crosses, sendable) depth 20

marks_send : IsSend marks.the_row
marks_send = search (crosses, sendable) depth 20

claim_send : IsSend claim.the_row
claim_send = search sendable depth 20

one_send : IsSend one.the_row
one_send = search (payload_send, marks_send, claim_send, crosses, sendable) depth 20

added_send : IsSend added.the_row
added_send = search (options_send, crosses, sendable) depth 20

queue_inside : IsSend queue.TheInside.the_row
queue_inside =
    let d = queue.TheInside.the_type in
    let all : AllSend (shape d).fields =
    search (added_send, numbers_send, maps, Vec-send, sendable) depth 40 fits 100000 in
    recorded_send (Struct (shape d)) d.D d.to d.to_one (struct_send (shape d) all)

queue_send : IsSend queue.the_row
queue_send = search (queue_inside, view_send) depth 5

log_send : IsSend (notice_log.the_field).row
log_send = search (options_send, queue_send, Vec-send, crosses, sendable) depth 40 fits 100000

-- ---- the engine

machine_inside : IsSend machine.TheInside.the_row
machine_inside =
    let d = machine.TheInside.the_type in
    let all : AllSend (shape d).fields =
    search (options_send, queue_send, one_send, journal_send, log_send, Vec-send, sendable) depth 40 fits 100000 in
    recorded_send (Struct (shape d)) d.D d.to d.to_one (struct_send (shape d) all)

machine_send : IsSend machine.the_row
machine_send = search (machine_inside, view_send) depth 5

handed_send : IsSend handed.the_row
handed_send = search (crosses, sendable) depth 20

limits_send : IsSend limits.the_row
limits_send = search (crosses, sendable) depth 20

module _ (D : RattleType) (says : disk.Ghosts D.Denot) (s : IsSend D) where
  stored_inside : IsSend (stored.TheInside.the_row D says)
  stored_inside =
      let d = stored.TheInside.the_type D says in
      let all : AllSend (shape d).fields = (
        search sendable depth 20,
        (
          search (s, sendable) depth 20,
          (
            search (machine_send, sendable) depth 20,
            (search (want_send, Vec-send, sendable) depth 40 fits 100000, (search sendable depth 20, tt)),
          ),
        ),
      ) in recorded_send (Struct (shape d)) d.D d.to d.to_one (struct_send (shape d) all)

  stored_send : IsSend (stored.the_row D says)
  stored_send = search (stored_inside, view_send) depth 5

  state_send : IsSend (state.the_field D says).row
  state_send =
      let d = state.the_type D says in
      let all : AllSend (shape d).fields = (
        search (stored_send, sendable) depth 9,
        (search (handed_send, sendable) depth 9, (search (limits_send, sendable) depth 9, tt)),
      ) in struct_send (shape d) all

  engine_inside : IsSend (engine.TheInside.the_row D says)
  engine_inside =
      let d = engine.TheInside.the_type D says in
      let all : AllSend (shape d).fields = search (state_send, sendable) depth 20 in
      recorded_send (Struct (shape d)) d.D d.to d.to_one (struct_send (shape d) all)

  pub engine_send : IsSend (engine.the_row D says)
  engine_send = search (engine_inside, view_send) depth 5
