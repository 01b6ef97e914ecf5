use Rattle.std.proofs.Common.{arith}
use Rattle.std.proofs.lemmas.Option.{slice_get_within}
use Rattle.machine_core.specs.Reads.{downloads_in}
use Rattle.stored_run.proofs.Grants.{adding_told}
use Rattle.stored_run.proofs.OwnGids.{few_apart}
use Rattle.stored_run.proofs.jobs.adding_of.Goals as goal

pub overflow_cast-place : goal.overflow_cast-place
overflow_cast-place c =
    let m = c.args.machine.now in
    let found = c.in_ok-place.ensures.found in
    let within = slice_get_within (downloads_in m) c.in_ok-place.place found.download found.added in
    let few = (few_apart m.start m.past).few in
    omega (arith, within, few)

pub returns-in_err-called-clause-none : goal.returns-in_err-called-clause-none
returns-in_err-called-clause-none c =
    let m = c.args.machine.now in
    let found = c.in_ok-place.ensures.found in
    let within = slice_get_within (downloads_in m) c.in_ok-place.place found.download found.added in
    let none = c.in_err-called.ensures.none in
    absurd (omega (arith, within, none))

pub returns-clause-found : goal.returns-clause-found
returns-clause-found c download added =
    let m = c.args.machine.now in
    adding_told m c.args.gid c.in_ok-place.place c.in_ok-called.called download c.in_ok-place.ensures.first added
    c.in_ok-called.field-0-0 c.in_ok-called.ensures.found c.journal.result.now.events.items c.journal.ensures.events c.get.result c.get.ensures
