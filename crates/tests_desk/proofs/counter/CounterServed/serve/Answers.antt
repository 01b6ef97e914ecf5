use Rattle.tests_desk.proofs.Adding.{counted}
use Rattle.tests_desk.proofs.counter.CounterServed.serve.Goals as goal

pub returns-clause-turn : goal.returns-clause-turn
returns-clause-turn c turns pass is =
    counted turns pass c.args.self.now.first c.args.op c.add.result c.args.self.now.log.items c.add.new.self.log.items _ _
    c.add.ensures.added is
