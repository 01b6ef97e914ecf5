use Rattle.std.proofs.Common.{arith}
use Rattle.number_list.proofs.Changes.{some_in_bound}
use Rattle.number_list.proofs.list.NumberList.clear.Goals as goal

pub index_mut-requires-then-self-gt0 : goal.index_mut-requires-then-self-gt0
index_mut-requires-then-self-gt0 c =
    let linked = c.self.invariant in
    omega (
      arith,
      linked.previous_len,
      some_in_bound c.self.inside.next.items c.self.inside.previous.items c.self.inside.bound c.self.inside.count linked c.if-self-gt0.true,
    )
