use Rattle.std.proofs.Common.{◌≡◌, true, refl, sym, subst, string_bytes, map}
use Rattle.clap.specs.Faults.{fault_of, is_simple_and_free}
use Rattle.clap.specs.Kinds.{FailsBy}
use Rattle.clap.specs.Simple.{App}
use Rattle.command_meanings.specs.Modes.{serve_app}
use Rattle.command_meanings.proofs.modes.serve_matches.Goals as goal

pub returns-in-Ok-clause-fails : goal.returns-in-Ok-clause-fails
returns-in-Ok-clause-fails c =
    let simple : is_simple_and_free serve_app ≡ true = refl in
    subst (λ (app : App). FailsBy (fault_of app (map string_bytes c.args.words.now)) c.try_get_matches_from.result) c.in-Ok.ensures
    (c.try_get_matches_from.ensures.kinds (subst (λ (app : App). is_simple_and_free app ≡ true) (sym c.in-Ok.ensures) simple))
