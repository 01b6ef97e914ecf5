use Rattle.std.proofs.Common.{◌++◌, refl, subst, ap}
use Rattle.reply_reader.specs.Heads.{HasNoFinalHead}
use Rattle.request_chain.proofs.inbox.Inbox.read_head.Goals as goal

pub returns-in-Bad-clause-bad : goal.returns-in-Bad-clause-bad
returns-in-Bad-clause-bad c = λ _ received at.
    subst HasNoFinalHead (ap (λ bytes. received ++ bytes) c.waiting.ensures.all) (c.in-Bad.ensures.bad refl received at)
