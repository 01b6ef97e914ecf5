-- A shelf may go to another thread, where its disk may, and so may what is left of a door.
use denote.RattleType.{RattleType}
use denote.Param.Send.{AllSend, IsSend, recorded_send, sendable, struct_send}
use denote.Struct.Declared.{shape}
use denote.Struct.Struct.{Struct}
use Rattle.std.proofs.Crossing.{crosses}
use Rattle.std.proofs.MapsCrossing.{crosses as maps}
use Rattle.console_session.specs.contracts.serving.Transcript as transcript
use Rattle.dl_kinds.specs.contracts.text.Text as text
use Rattle.range_origin.specs.contracts.shelf.Shelf as shelf

text_send : IsSend text.the_row
text_send = search (maps, crosses, sendable) depth 20

pub transcript_send : IsSend transcript.the_row
transcript_send = search (crosses, sendable) depth 20

module _ (D : RattleType) (s : IsSend D) where
  pub shelf_send : IsSend (shelf.the_row D)
  shelf_send =
      let d = shelf.the_type D in
      let all : AllSend (shape d).fields = (
        search (crosses, sendable) depth 20,
        (search (s, sendable) depth 20, (search (text_send, sendable) depth 20, (search sendable depth 20, tt))),
      ) in recorded_send (Struct (shape d)) d.D d.to d.to_one (struct_send (shape d) all)
