use Rattle.std.proofs.Common.{◌≡◌, ◌+◌, ◌++◌, ◌∷◌, [], sym, ap, subst, ◌∙◌, take}
use Rattle.std.proofs.lemmas.List.{take_more}
use Rattle.std.proofs.lemmas.Option.{get_or_from_slice_get, slice_get_within}
use Rattle.console_socket.proofs.Sending.{sends_none, sends_on}
use Rattle.console_socket.specs.Sending.{SaysTexts}
use Rattle.console_socket.proofs.hearing.say.Goals as goal

pub loop-place-init : goal.loop-place-init
loop-place-init g c = record {
  sound = c.requires.sound;
  sends = sends_none g.X.Stream.tells g.X.Stream.good c.args.socket.now c.requires.rests;
}

pub loop-place-preserved : goal.loop-place-preserved
loop-place-preserved g c =
    let texts = c.args.texts.now in
    let place = c.loop-place.place in
    let text = c.at.result.now in
    let next : take (place + 1) texts ≡ take place texts ++ text ∷ [] =
    take_more texts place text (slice_get_within texts place text c.at.ensures)
    ∙ ap (λ x. take place texts ++ x ∷ []) (get_or_from_slice_get texts place text text c.at.ensures) in
    record {
      sound = c.in_default.ensures.0;
      sends = subst (λ xs. SaysTexts g.X.Stream.tells g.X.Stream.good xs c.args.socket.now c.say_one.new.socket) (sym next)
          (sends_on g.X.Stream.tells g.X.Stream.good (take place texts) text c.args.socket.now c.loop-place.socket c.say_one.new.socket
          c.loop-place.invariant.sends c.in_default.ensures.1);
    }
