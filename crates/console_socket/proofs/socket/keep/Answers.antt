use Rattle.std.proofs.Common.{◌≡◌, sym, ap, subst, ◌∙◌, [], false}
use Rattle.console_socket.proofs.Closing.{have_whole}
use Rattle.console_socket.specs.Frames.{HaveFrames}
use Rattle.console_socket.specs.Streams.{good_of, is_failing}
use Rattle.console_socket.specs.Talking.{EventsEnd, texts_of_events}
use Rattle.console_socket.proofs.socket.keep.Goals as goal

pub returns-clause-keeps : goal.returns-clause-keeps
returns-clause-keeps g c =
    let s = c.into_inner-door.result in
    let k = c.converse-end.ensures in
    let first = c.from_raw_socket-socket.result.stream in
    let newest = g.B.Beginning.newest in
    let none : good_of first.put newest (g.A.Doors.state first.door.now) ≡ [] =
    ap (λ x. good_of x.put newest (g.A.Doors.state x.door.now)) c.from_raw_socket-socket.ensures.fresh.on_stream
    ∙ ap (λ put. good_of put newest (g.A.Doors.state c.new-stream.result.door.now)) c.new-stream.ensures.put in
    record {
      trouble = s.trouble;
      put = s.put;
      events = k.events;
      carry = k.carry;
      joined = k.joined;
      ends = subst (λ x. EventsEnd k.events c.converse-end.result x.trouble) (sym c.into_inner-door.ensures) k.ends;
      texts = λ all. (
        subst (λ x. is_failing x.trouble ≡ false) (sym c.into_inner-door.ensures) (k.sends all).0,
        λ e. subst (λ x. HaveFrames (texts_of_events k.events) (good_of x.put newest (g.A.Doors.state x.door.now))) (sym c.into_inner-door.ensures)
            (have_whole (texts_of_events k.events) _ ((k.sends all).1 e).more _ none ((k.sends all).1 e).grew ((k.sends all).1 e).frames),
      );
      told = s.told;
      counts = s.faults;
    }
