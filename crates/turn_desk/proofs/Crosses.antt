-- A desk may be shared, and a pass may go to another thread, where the state may.
use Rattle.std.proofs.Common.{rules}
use denote.RattleType.{RattleType}
use denote.Param.Send.{IsSend, IsSync, Frees, sendable, AllSync, recorded_sync, struct_sync}
use denote.Struct.Struct.{Struct}
use denote.Struct.Declared.{shape}
use Rattle.atomic_table.proofs.owned.Table.TheSendSync as table
use Rattle.atomic_table.proofs.shared.Shared.TheSendSync as shared
use Rattle.atomic_table.proofs.send_lease.SendLease.TheSendSync as lease
use Rattle.std.proofs.Crossing as std
use Rattle.std.proofs.Crossing.{crosses}
use Rattle.std.specs.contracts.alloc.Global as heap
use Rattle.std.specs.declared.alloc.Allocator as alloc
use Rattle.atomic_table.specs.contracts.owned.Table as tab
use Rattle.atomic_table.specs.declared.shared.TableRule as law
use Rattle.turn_desk.specs.declared.served.Served.{Ghosts}
use Rattle.turn_desk.specs.contracts.rule.Slot as slot
use Rattle.turn_desk.specs.contracts.turn_desk.TurnDesk as desk
use Rattle.turn_desk.specs.contracts.pass.Pass as pass
use Rattle.turn_desk.specs.contracts.rule.SeatView as view
use Rattle.turn_desk.specs.contracts.rule.DeskKey as key
use Rattle.turn_desk.specs.contracts.rule.DeskRule as law_row
use Rattle.turn_desk.specs.contracts.rule.DeskRuleTableRuleSlotOpAnswerSeatViewStartOpAnswerEntryDeskKey.TheImpl as law_impl
use Rattle.std.specs.contracts.impls.GlobalAllocator.TheImpl as impls

module _ (S Op Answer : RattleType) (s : IsSend S) where
  pub slot_send : IsSend (slot.the_row S Op Answer)
  slot_send = search sendable depth 20

module _ (S Op Answer : RattleType) (s : IsSend S) where
  pub table_sync : (V K P : RattleType) (g : law.Ghosts P.Denot (slot.the_row S Op Answer).Denot V.Denot K.Denot)
      (a : alloc.Ghosts heap.the_row.Denot) → Frees a a.dealloc_token
      → IsSync (tab.the_row (slot.the_row S Op Answer) V K P heap.the_row g a)
  table_sync V K P g a f = table.the_sync (slot.the_row S Op Answer) V K P heap.the_row g a
      (slot_send S Op Answer s) std.send std.sync f

module _ (S Start Op Answer Entry : RattleType) (g : Ghosts S.Denot Start.Denot Op.Denot Answer.Denot Entry.Denot)
    (s : IsSend S) where
  pub pass_send : IsSend (pass.the_row S Start Op Answer Entry g)
  unfolding types.Keyed.entry denote.Memory.part_of
  pass_send = search rules

  pub inside_sync : IsSync (desk.TheInside.the_row S Start Op Answer Entry g)
  inside_sync =
      let d = desk.TheInside.the_type S Start Op Answer Entry g in
      let all : AllSync (shape d).fields = (
        struct_sync (shape (tab.the_type (slot.the_row S Op Answer) (view.the_row Start Op Answer Entry)
            (key.the_row S Start Op Answer Entry g) (law_row.the_row S) heap.the_row
            (law_impl.ghosts S Start Op Answer Entry g law_impl.no_dict) impls.ghosts)) (
              shared.the_sync (slot.the_row S Op Answer) (view.the_row Start Op Answer Entry)
                  (key.the_row S Start Op Answer Entry g) (law_row.the_row S)
                  (law_impl.ghosts S Start Op Answer Entry g law_impl.no_dict) (slot_send S Op Answer s),
              (
                search sendable depth 9,
                (
                  search sendable depth 9,
                  (
                    lease.the_sync _ heap.the_row impls.ghosts std.send std.frees,
                    (
                      lease.the_sync (slot.the_row S Op Answer) heap.the_row impls.ghosts std.send std.frees,
                      (std.sync, tt),
                    ),
                  ),
                ),
              ),
            ),
        (
          search (sendable, rules) depth 20,
          (search (crosses, sendable, rules) depth 20, (search (crosses, sendable, rules) depth 20, tt)),
        ),
      ) in
      recorded_sync (Struct (shape d)) d.D d.to d.to_one (struct_sync (shape d) all)

  pub desk_sync : IsSync (desk.the_row S Start Op Answer Entry g)
  desk_sync = let h = inside_sync in search (h, sendable) depth 20
