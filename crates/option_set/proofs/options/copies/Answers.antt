use Rattle.option_set.proofs.Defaults.{six_are}
use Rattle.option_set.proofs.options.copies.Goals as goal

pub returns : goal.returns
returns c =
    six_are c.args.texts.now _ _ _ _ _ _ _ _ _ _ _ _ c.type_inv.texts
    c.in_ok-copied.ensures c.in_ok-copied-2.ensures c.in_ok-copied-3.ensures
    c.in_ok-copied-4.ensures c.in_ok-copied-5.ensures c.in_ok-copied-6.ensures
