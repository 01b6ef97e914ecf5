-- A session beside its desk.
use Rattle.std.specs.Prelude.{ℕ, List, Option, option_map}
use Rattle.console_session.specs.declared.session.ConsoleSession.{ConsoleSession}

pub record SessionAt (K T : Type 0) : Type 0 where
  pub session : ConsoleSession K
  pub desk : T

abbrev pub session_at : {K T : Type 0} → ConsoleSession K → T → SessionAt K T
session_at {K} {T} session desk = record { session = session; desk = desk }

-- what each call is to tell, where there is one
abbrev pub secret_of : {K : Type 0} → ConsoleSession K → Option (List ℕ)
secret_of {K} session = option_map (λ s. s.now) session.secret
