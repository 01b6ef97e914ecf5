use Rattle.std.proofs.Common.{◌≡◌, refl, sym, ap, ◌∙◌, subst, true, false}
use Rattle.console_socket.proofs.Further.{not_failing}
use Rattle.console_socket.proofs.Held.{appends, counts_err, counts_on, held_part, held_same, held_sent, is_opened, keeps_part, Held, fails_by}
use Rattle.console_socket.specs.Streams.{counts_as, is_failing}
use Rattle.console_socket.proofs.stream.DoorStreamWrite.write.Goals as goal

pub invariant_of-self : goal.invariant_of-self
invariant_of-self g c =
    let s = c.args.self.now in
    record {
      same_door = s.same_door;
      same_first = s.same_first;
      within = s.within;
      told = held_same c.newest_connection_is_one.ensures g.A.Doors.tells g.B.Beginning.earlier g.B.Beginning.newest g.B.Beginning.is_closed
          s.put (is_failing s.trouble) true (g.A.Doors.state s.door.now) (g.A.Doors.state s.door.now) (not_failing s.trouble (sym c.is_over.ensures ∙ c.if-is_over.false)) (λ _. refl) s.told;
      faults = counts_on s.trouble g.B.Beginning.faults (g.A.Doors.faults s.door.now) (g.A.Doors.faults s.door.now) (sym c.is_over.ensures ∙ c.if-is_over.false) s.faults refl;
    }

pub send-requires : goal.send-requires
send-requires g c =
    let s = c.args.self.now in
    record {
      opened = is_opened c.newest_connection_is_one.ensures g.A.Doors.tells g.B.Beginning.earlier g.B.Beginning.newest g.B.Beginning.is_closed
          s.put (is_failing s.trouble) (g.A.Doors.state s.door.now) s.told;
    }

pub invariant_of-self-in-Ok : goal.invariant_of-self-in-Ok
invariant_of-self-in-Ok g c =
    let s = c.args.self.now in
    record {
      same_door = s.same_door;
      same_first = s.same_first;
      within = s.within;
      told = held_sent c.newest_connection_is_one.ensures g.A.Doors.tells g.B.Beginning.earlier g.B.Beginning.newest g.B.Beginning.is_closed
          s.put (is_failing s.trouble) false c.in-Some.put c.args.buf.now (g.A.Doors.state s.door.now) (g.A.Doors.state c.send.new.self)
          (not_failing s.trouble (sym c.is_over.ensures ∙ c.if-is_over.false)) c.in-Some.ensures.1 c.in-Ok.ensures.sent s.told;
      faults = counts_on s.trouble g.B.Beginning.faults (g.A.Doors.faults s.door.now) (g.A.Doors.faults c.send.new.self)
          (sym c.is_over.ensures ∙ c.if-is_over.false) s.faults c.in-Ok.ensures.cause.done;
    }

pub invariant_of-self-in-Err : goal.invariant_of-self-in-Err
invariant_of-self-in-Err g c =
    let s = c.args.self.now in
    record {
      same_door = s.same_door;
      same_first = s.same_first;
      within = s.within;
      told = subst (λ b. Held c.newest_connection_is_one.ensures g.A.Doors.tells g.B.Beginning.earlier g.B.Beginning.newest g.B.Beginning.is_closed
          s.put b (g.A.Doors.state c.send.new.self)) (sym (ap is_failing c.trouble_by-self.ensures ∙ fails_by c.in-Err.error))
          (held_part c.newest_connection_is_one.ensures g.A.Doors.tells g.B.Beginning.earlier g.B.Beginning.newest g.B.Beginning.is_closed
          s.put (is_failing s.trouble) c.args.buf.now c.in-Err.error (g.A.Doors.state s.door.now) (g.A.Doors.state c.send.new.self) c.in-Err.ensures.sent s.told);
      faults = subst (λ t. counts_as t g.B.Beginning.faults (g.A.Doors.faults c.send.new.self) ≡ true) (sym c.trouble_by-self.ensures)
          (counts_err s.trouble g.B.Beginning.faults (g.A.Doors.faults s.door.now) (g.A.Doors.faults c.send.new.self) c.in-Err.error
          (sym c.is_over.ensures ∙ c.if-is_over.false) s.faults c.in-Err.ensures.cause);
    }

pub returns-in-Ok-clause-bytes : goal.returns-in-Ok-clause-bytes
returns-in-Ok-clause-bytes g c =
    let s = c.args.self.now in
    appends c.newest_connection_is_one.ensures g.A.Doors.tells g.B.Beginning.earlier g.B.Beginning.newest g.B.Beginning.is_closed
    s.put (is_failing s.trouble) c.in-Some.put s.first.now s.at c.args.buf.now (g.A.Doors.state s.door.now) (g.A.Doors.state c.send.new.self)
    (not_failing s.trouble (sym c.is_over.ensures ∙ c.if-is_over.false)) c.in-Some.ensures.1 c.in-Ok.ensures.sent s.told

pub returns-in-Err-clause-bytes : goal.returns-in-Err-clause-bytes
returns-in-Err-clause-bytes g c =
    let s = c.args.self.now in
    keeps_part c.newest_connection_is_one.ensures g.A.Doors.tells g.B.Beginning.earlier g.B.Beginning.newest g.B.Beginning.is_closed
    s.put (is_failing s.trouble) s.first.now s.at c.args.buf.now c.in-Err.error (g.A.Doors.state s.door.now) (g.A.Doors.state c.send.new.self) c.in-Err.ensures.sent s.told
