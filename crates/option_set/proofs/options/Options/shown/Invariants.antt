use Rattle.std.proofs.Common.{◌≡◌, take}
use Rattle.std.specs.List.{flat_map}
use Rattle.option_set.specs.Values.{shown_pairs}
use Rattle.option_set.proofs.options.Options.shown.Given as goal

-- the options so far are shown
abbrev pub invariant-loop-option : goal.invariant-loop-option
invariant-loop-option l =
    l.pairs.items ≡ flat_map (shown_pairs l.self l.scope) (take l.option-index l.option-items)
