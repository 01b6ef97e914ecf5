use Rattle.option_set.proofs.Defaults.{defaults_are_values}
use Rattle.option_set.proofs.options.Options.new.Goals as goal

pub invariant_of-result : goal.invariant_of-result
invariant_of-result c = rw (c.default_numbers.ensures, c.in_ok-texts.ensures) defaults_are_values
