use Rattle.std.proofs.Common.{◌≡◌, refl, sym, ap, ◌∙◌, subst, true, false, length}
use Rattle.door_source.specs.Doors.{ReceivesFromPeer}
use Rattle.console_socket.proofs.Further.{not_failing}
use Rattle.console_socket.proofs.Held.{Held, counts_err, counts_on, fails_by, given_some, held_received, held_same, is_opened, consumes_first, consumes_looked}
use Rattle.console_socket.specs.Streams.{counts_as, is_failing}
use Rattle.console_socket.proofs.stream.DoorStreamRead.read.Goals as goal

pub returns-then-self-clause-bytes : goal.returns-then-self-clause-bytes
returns-then-self-clause-bytes g c =
    let s = c.args.self.now in (
      consumes_first c.newest_connection_is_one.ensures g.A.Doors.tells g.B.Beginning.earlier g.B.Beginning.newest g.B.Beginning.is_closed
          s.put s.first.now s.at c.give-count.result c.give-count.new.into (g.A.Doors.state s.door.now) s.within c.give-count.ensures.bytes,
      λ none some. absurd (given_some s.first.now s.at c.give-count.result (length c.args.buf.now) c.if-self.true
          (sym c.is_empty.ensures ∙ c.if-is_empty.false) c.give-count.ensures.count none),
    )

pub invariant_of-self-then-self-ge-MOST_READS : goal.invariant_of-self-then-self-ge-MOST_READS
invariant_of-self-then-self-ge-MOST_READS g c =
    let s = c.args.self.now in
    record {
      same_door = s.same_door;
      same_first = s.same_first;
      within = s.within;
      told = held_same c.newest_connection_is_one.ensures g.A.Doors.tells g.B.Beginning.earlier g.B.Beginning.newest g.B.Beginning.is_closed s.put (is_failing s.trouble) false (g.A.Doors.state s.door.now) (g.A.Doors.state s.door.now) (not_failing s.trouble (sym c.is_over.ensures ∙ c.if-is_over.false)) (λ _. refl) s.told;
      faults = counts_on s.trouble g.B.Beginning.faults (g.A.Doors.faults s.door.now) (g.A.Doors.faults s.door.now) (sym c.is_over.ensures ∙ c.if-is_over.false) s.faults refl;
    }

pub ready-requires : goal.ready-requires
ready-requires g c =
    let s = c.args.self.now in
    record {
      opened = is_opened c.newest_connection_is_one.ensures g.A.Doors.tells g.B.Beginning.earlier g.B.Beginning.newest g.B.Beginning.is_closed
          s.put (is_failing s.trouble) (g.A.Doors.state s.door.now) s.told;
    }

pub invariant_of-self-in-Ok-false : goal.invariant_of-self-in-Ok-false
invariant_of-self-in-Ok-false g c =
    let s = c.args.self.now in
    record {
      same_door = s.same_door;
      same_first = s.same_first;
      within = s.within;
      told = held_same c.newest_connection_is_one.ensures g.A.Doors.tells g.B.Beginning.earlier g.B.Beginning.newest g.B.Beginning.is_closed s.put (is_failing s.trouble) false (g.A.Doors.state s.door.now) (g.A.Doors.state c.ready.new.self) (not_failing s.trouble (sym c.is_over.ensures ∙ c.if-is_over.false)) c.ready.ensures.same s.told;
      faults = counts_on s.trouble g.B.Beginning.faults (g.A.Doors.faults s.door.now) (g.A.Doors.faults c.ready.new.self) (sym c.is_over.ensures ∙ c.if-is_over.false) s.faults c.in-Ok-false.ensures.cause.done;
    }

pub invariant_of-self-in-Err : goal.invariant_of-self-in-Err
invariant_of-self-in-Err g c =
    let s = c.args.self.now in
    record {
      same_door = s.same_door;
      same_first = s.same_first;
      within = s.within;
      told = subst (λ b. Held c.newest_connection_is_one.ensures g.A.Doors.tells g.B.Beginning.earlier g.B.Beginning.newest g.B.Beginning.is_closed s.put b (g.A.Doors.state c.ready.new.self)) (sym (ap is_failing c.trouble_by-self.ensures ∙ fails_by c.in-Err.error))
          (held_same c.newest_connection_is_one.ensures g.A.Doors.tells g.B.Beginning.earlier g.B.Beginning.newest g.B.Beginning.is_closed s.put (is_failing s.trouble) true (g.A.Doors.state s.door.now) (g.A.Doors.state c.ready.new.self) (not_failing s.trouble (sym c.is_over.ensures ∙ c.if-is_over.false)) c.ready.ensures.same s.told);
      faults = subst (λ t. counts_as t g.B.Beginning.faults (g.A.Doors.faults c.ready.new.self) ≡ true) (sym c.trouble_by-self.ensures)
          (counts_err s.trouble g.B.Beginning.faults (g.A.Doors.faults s.door.now) (g.A.Doors.faults c.ready.new.self) c.in-Err.error (sym c.is_over.ensures ∙ c.if-is_over.false) s.faults c.in-Err.ensures.cause);
    }

pub recv-requires-clause-opened : goal.recv-requires-clause-opened
recv-requires-clause-opened g c =
    let s = c.args.self.now in
    is_opened c.newest_connection_is_one.ensures g.A.Doors.tells g.B.Beginning.earlier g.B.Beginning.newest g.B.Beginning.is_closed s.put false (g.A.Doors.state c.ready.new.self) (held_same c.newest_connection_is_one.ensures g.A.Doors.tells g.B.Beginning.earlier g.B.Beginning.newest g.B.Beginning.is_closed s.put (is_failing s.trouble) false (g.A.Doors.state s.door.now) (g.A.Doors.state c.ready.new.self) (not_failing s.trouble (sym c.is_over.ensures ∙ c.if-is_over.false)) c.ready.ensures.same s.told)

pub invariant_of-self-in-Ok-eq0 : goal.invariant_of-self-in-Ok-eq0
invariant_of-self-in-Ok-eq0 g c =
    let s = c.args.self.now in
    record {
      same_door = s.same_door;
      same_first = s.same_first;
      within = s.within;
      told = held_received c.newest_connection_is_one.ensures g.A.Doors.tells g.B.Beginning.earlier g.B.Beginning.newest g.B.Beginning.is_closed s.put false false 0 c.recv.new.into (g.A.Doors.state c.ready.new.self) (g.A.Doors.state c.recv.new.self) refl (λ e. subst (λ n. ReceivesFromPeer n c.recv.new.into (g.A.Doors.state c.ready.new.self) (g.A.Doors.state c.recv.new.self)) c.in-Ok-eq0.field-0-test (c.in-Ok-eq0.ensures.received e)) (held_same c.newest_connection_is_one.ensures g.A.Doors.tells g.B.Beginning.earlier g.B.Beginning.newest g.B.Beginning.is_closed s.put (is_failing s.trouble) false (g.A.Doors.state s.door.now) (g.A.Doors.state c.ready.new.self) (not_failing s.trouble (sym c.is_over.ensures ∙ c.if-is_over.false)) c.ready.ensures.same s.told);
      faults = counts_on s.trouble g.B.Beginning.faults (g.A.Doors.faults s.door.now) (g.A.Doors.faults c.recv.new.self) (sym c.is_over.ensures ∙ c.if-is_over.false) s.faults (c.in-Ok-eq0.ensures.cause.done ∙ (c.in-Ok-true.ensures.cause.done));
    }

pub invariant_of-self-in-Ok : goal.invariant_of-self-in-Ok
invariant_of-self-in-Ok g c =
    let s = c.args.self.now in
    record {
      same_door = s.same_door;
      same_first = s.same_first;
      within = s.within;
      told = held_received c.newest_connection_is_one.ensures g.A.Doors.tells g.B.Beginning.earlier g.B.Beginning.newest g.B.Beginning.is_closed s.put false false c.in-Ok.count c.recv.new.into (g.A.Doors.state c.ready.new.self) (g.A.Doors.state c.recv.new.self) refl c.in-Ok.ensures.received (held_same c.newest_connection_is_one.ensures g.A.Doors.tells g.B.Beginning.earlier g.B.Beginning.newest g.B.Beginning.is_closed s.put (is_failing s.trouble) false (g.A.Doors.state s.door.now) (g.A.Doors.state c.ready.new.self) (not_failing s.trouble (sym c.is_over.ensures ∙ c.if-is_over.false)) c.ready.ensures.same s.told);
      faults = counts_on s.trouble g.B.Beginning.faults (g.A.Doors.faults s.door.now) (g.A.Doors.faults c.recv.new.self) (sym c.is_over.ensures ∙ c.if-is_over.false) s.faults (c.in-Ok.ensures.cause.done ∙ (c.in-Ok-true.ensures.cause.done));
    }

pub invariant_of-self-in-Err-recv : goal.invariant_of-self-in-Err-recv
invariant_of-self-in-Err-recv g c =
    let s = c.args.self.now in
    record {
      same_door = s.same_door;
      same_first = s.same_first;
      within = s.within;
      told = subst (λ b. Held c.newest_connection_is_one.ensures g.A.Doors.tells g.B.Beginning.earlier g.B.Beginning.newest g.B.Beginning.is_closed s.put b (g.A.Doors.state c.recv.new.self)) (sym (ap is_failing c.trouble_by-self-in-Err-recv.ensures ∙ fails_by c.in-Err-recv.error))
          (held_same c.newest_connection_is_one.ensures g.A.Doors.tells g.B.Beginning.earlier g.B.Beginning.newest g.B.Beginning.is_closed s.put (is_failing s.trouble) true (g.A.Doors.state s.door.now) (g.A.Doors.state c.recv.new.self) (not_failing s.trouble (sym c.is_over.ensures ∙ c.if-is_over.false)) (λ e. c.in-Err-recv.ensures.failed e ∙ c.ready.ensures.same e) s.told);
      faults = subst (λ t. counts_as t g.B.Beginning.faults (g.A.Doors.faults c.recv.new.self) ≡ true) (sym c.trouble_by-self-in-Err-recv.ensures)
          (counts_err s.trouble g.B.Beginning.faults (g.A.Doors.faults c.ready.new.self) (g.A.Doors.faults c.recv.new.self) c.in-Err-recv.error (sym c.is_over.ensures ∙ c.if-is_over.false)
          (subst (λ n. counts_as s.trouble g.B.Beginning.faults n ≡ true) (sym c.in-Ok-true.ensures.cause.done) s.faults) c.in-Err-recv.ensures.cause);
    }

pub returns-in-Ok-clause-bytes : goal.returns-in-Ok-clause-bytes
returns-in-Ok-clause-bytes g c =
    let s = c.args.self.now in (
      consumes_looked c.newest_connection_is_one.ensures g.A.Doors.tells g.B.Beginning.earlier g.B.Beginning.newest g.B.Beginning.is_closed
          s.put (is_failing s.trouble) s.first.now s.at c.in-Ok.count c.recv.new.into (g.A.Doors.state s.door.now) (g.A.Doors.state c.ready.new.self)
          (g.A.Doors.state c.recv.new.self) c.if-self.false c.ready.ensures.same c.in-Ok.ensures.received s.told,
      λ none some. absurd (c.in-Ok.count-test.1 none),
    )
