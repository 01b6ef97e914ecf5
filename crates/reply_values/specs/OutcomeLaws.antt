-- Laws of what comes of calls.
use Rattle.rpc_console.specs.declared.asking.Keys.{Keys}
use Rattle.rpc_envelope.specs.Turns.{IsPlain}
use Rattle.run_report.specs.declared.kinds.Reply.{Reply}
use Rattle.reply_values.specs.Outcomes.{methods_outcome, reply_outcome}

-- no value has a float
pub record OutcomesArePlain : Type 0 where
  pub replies : (reply : Reply) (keys : Keys) → IsPlain (reply_outcome reply keys)
  pub methods : IsPlain methods_outcome
