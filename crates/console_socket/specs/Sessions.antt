-- What a session at a desk tells of calls, askings and steps.
use Rattle.std.specs.Prelude.{◌≡◌, ℕ, Bool, List, Option, Some, None, Result, Ok, Err}
use Rattle.rpc_envelope.specs.Turns.{Invoked, Extends, Since}
use Rattle.console_socket.specs.declared.session.Inward.{Inward}
use Rattle.console_socket.specs.declared.session.Inward.TheVariants.{Join, Text, Tick}

-- what holds of session and desk where, since they were others, these calls were carried out
abbrev pub CallsAt : Type 0 → Type 0 → Type 1
CallsAt S T = S → T → Since S T

-- what an asking whether the run is finished makes of session and desk, by its answer
abbrev pub AskingAt : Type 0 → Type 0 → Type 1
AskingAt S T = S → T → Bool → S → T → Type 0

-- ---- steps of a WebSocket

-- it began, this text came, or nothing for a while
pub data InwardData : Type 0 where
  joins : InwardData
  says : List ℕ → InwardData
  ticks : InwardData

abbrev pub seen_inward : Inward → InwardData
seen_inward Join = joins
seen_inward (Text text) = says text.now
seen_inward Tick = ticks

-- what came, the calls that were carried out, and the texts to be sent, in order; none where memory ran out
pub record SocketStep : Type 0 where
  pub inward : InwardData
  pub turns : List Invoked
  pub texts : Option (List (List ℕ))

-- what a step makes of session and desk
abbrev pub SteppingAt : Type 0 → Type 0 → Type 1
SteppingAt S T = S → T → SocketStep → S → T → Type 0

abbrev pub texts_if_any : {E : Type 0} → Result (List (List ℕ)) E → Option (List (List ℕ))
texts_if_any {E} (Ok texts) = Some texts
texts_if_any {E} (Err error) = None

module _ {S T : Type 0} (at : CallsAt S T) (steps : SteppingAt S T) where
  -- just the calls of the step were carried out
  pub record TakesSocketStep (step : SocketStep) (session : S) (desk : T) (session' : S) (desk' : T) : Type 0 where
    pub stepped : steps session desk step session' desk'
    pub extends : Extends (at session desk) (at session' desk') step.turns

  -- a step with what came, and these texts
  pub record HasStepped {E : Type 0} (inward : Inward) (result : Result (List (List ℕ)) E)
      (session : S) (desk : T) (session' : S) (desk' : T) : Type 0 where
    pub step : SocketStep
    pub takes : TakesSocketStep step session desk session' desk'
    pub inward_is : step.inward ≡ seen_inward inward
    pub texts_are : step.texts ≡ texts_if_any result
