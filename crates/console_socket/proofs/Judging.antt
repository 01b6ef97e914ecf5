-- What is heard, by the trouble of the stream.
use Rattle.std.proofs.Common.{◌≡◌, refl, sym, ap, ◌∙◌, false, true≢false}
use Rattle.console_socket.specs.Hearing.{CutsOff, HasHeard, heard_at_end, heard_by, heard_going, is_failing}
use Rattle.console_socket.specs.declared.ends.SocketEnd.{SocketEnd}
use Rattle.console_socket.specs.declared.ends.SocketEnd.TheVariants.{Finished, Refused, Broken as BrokenEnd, Closed as ClosedEnd, Failed as FailedEnd, Starved as StarvedEnd}
use Rattle.console_socket.specs.declared.hearing.Came.{Came}
use Rattle.console_socket.specs.declared.hearing.Came.TheVariants.{Text, Other, Quiet, Closed, Broken, Starved}
use Rattle.console_socket.specs.declared.stream.Trouble.{Trouble}
use Rattle.console_socket.specs.declared.stream.Trouble.TheVariants.{Nothing, Quiet as QuietStream, Ended, Failed, Starved as StarvedStream}

-- no call failed
cuts : (end : SocketEnd) (trouble : Trouble) → (trouble ≡ Failed → ⊥) → (end ≡ Finished → ⊥) → (end ≡ FailedEnd → ⊥) → (end ≡ Refused → ⊥)
    → CutsOff end trouble
cuts end trouble sound unfinished stands unrefused = (unfinished, ((λ is. absurd (stands is), λ is. absurd (sound is)), unrefused))

unfailed : (trouble : Trouble) → is_failing trouble ≡ false → trouble ≡ Failed → ⊥
unfailed trouble sound is = true≢false (sym (ap is_failing is) ∙ sound)

closed : (trouble : Trouble) → is_failing trouble ≡ false → CutsOff ClosedEnd trouble
closed trouble sound = cuts ClosedEnd trouble (unfailed trouble sound) (λ e. cc e) (λ e. cc e) (λ e. cc e)

broken : (trouble : Trouble) → is_failing trouble ≡ false → CutsOff BrokenEnd trouble
broken trouble sound = cuts BrokenEnd trouble (unfailed trouble sound) (λ e. cc e) (λ e. cc e) (λ e. cc e)

starved : (trouble : Trouble) → is_failing trouble ≡ false → CutsOff StarvedEnd trouble
starved trouble sound = cuts StarvedEnd trouble (unfailed trouble sound) (λ e. cc e) (λ e. cc e) (λ e. cc e)

going : (came : Came) (trouble : Trouble) → is_failing trouble ≡ false → HasHeard (heard_going came) trouble
going (Text text) trouble sound = sound
going Other trouble sound = sound
going Quiet trouble sound = sound
going Closed trouble sound = closed trouble sound
going Broken trouble sound = broken trouble sound
going Starved trouble sound = starved trouble sound

at_end : (came : Came) (trouble : Trouble) → is_failing trouble ≡ false → HasHeard (heard_at_end came) trouble
at_end (Text text) trouble sound = closed trouble sound
at_end Other trouble sound = closed trouble sound
at_end Quiet trouble sound = closed trouble sound
at_end Closed trouble sound = closed trouble sound
at_end Broken trouble sound = broken trouble sound
at_end Starved trouble sound = starved trouble sound

pub has_heard : (trouble : Trouble) (came : Came) → HasHeard (heard_by trouble came) trouble
has_heard Nothing came = going came Nothing refl
has_heard QuietStream came = going came QuietStream refl
has_heard Ended came = at_end came Ended refl
has_heard Failed came = (λ e. cc e, ((λ _. refl, λ _. refl), λ e. cc e))
has_heard StarvedStream came = cuts StarvedEnd StarvedStream (λ e. cc e) (λ e. cc e) (λ e. cc e) (λ e. cc e)
