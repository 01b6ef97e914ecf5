use Rattle.std.proofs.Common.{◌≡◌, take}
use Rattle.option_set.proofs.settings.copies.Given as goal

abbrev pub invariant-loop-setting : goal.invariant-loop-setting
invariant-loop-setting l = l.copies.items ≡ take l.setting-index l.settings
