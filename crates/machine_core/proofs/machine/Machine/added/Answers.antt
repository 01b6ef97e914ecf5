use Rattle.std.proofs.Common.{ℕ, subst, sym}
use Rattle.machine_core.specs.Reads.{IsAdding}
use Rattle.machine_core.proofs.Here.{sees}
use Rattle.machine_core.proofs.Reading.{adding_here, called_within, read_entry}
use Rattle.machine_core.proofs.machine.Machine.added.Goals as goal

pub number-requires : goal.number-requires
number-requires c =
    let seen = sees _ c.args.self.now c.self.invariant c.self.view_is in
    let read = c.in_ok-entry.ensures.lookup in
    called_within _ c.args.self.now c.args.n c.in_ok-entry.entry.now seen
    (read_entry _ _ c.args.n c.in_ok-entry.entry.now c.deref.ensures.value read.3.0 read.1)

pub returns-clause-found : goal.returns-clause-found
returns-clause-found c =
    let seen = sees _ c.args.self.now c.self.invariant c.self.view_is in
    let read = c.in_ok-entry.ensures.lookup in
    subst (λ (place : ℕ). IsAdding c.args.self.now c.args.n c.in_ok-entry.entry.now.gid place) (sym c.number.ensures)
    (adding_here _ c.args.self.now c.args.n c.in_ok-entry.entry.now seen
    (read_entry _ _ c.args.n c.in_ok-entry.entry.now c.deref.ensures.value read.3.0 read.1))
