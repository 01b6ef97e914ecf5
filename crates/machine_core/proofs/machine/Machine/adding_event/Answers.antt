use Rattle.std.proofs.Common.{arith}
use Rattle.machine_core.proofs.Begun.{copied_now, has_event}
use Rattle.machine_core.proofs.Here.{sees}
use Rattle.machine_core.proofs.Reading.{called_within}
use Rattle.machine_core.proofs.Twins.{place_within, stands}
use Rattle.machine_core.proofs.Wanting.{lawful_here, subject_there}
use Rattle.machine_core.proofs.machine.Machine.adding_event.Goals as goal

pub index-entry-requires : goal.index-entry-requires
index-entry-requires c =
    let seen = sees _ c.args.self.now c.self.invariant c.self.view_is in
    let w = place_within _ c.args.self.now c.args.place seen c.requires in
    omega (arith, c.self.inside.entries.ok.0)

pub overflow_cast-entry : goal.overflow_cast-entry
overflow_cast-entry c =
    let seen = sees _ c.args.self.now c.self.invariant c.self.view_is in
    let st = stands _ c.args.self.now c.args.place c.index-entry.result.now seen c.requires c.index-entry.ensures in
    let w = called_within _ c.args.self.now c.args.place c.index-entry.result.now seen st.here.is.there in
    omega (arith, c.len.ensures)

pub unwrap-requires : goal.unwrap-requires
unwrap-requires c =
    let seen = sees _ c.args.self.now c.self.invariant c.self.view_is in
    let st = stands _ c.args.self.now c.args.place c.index-entry.result.now seen c.requires c.index-entry.ensures in
    has_event _ c.args.self.now st.download.gid c.args.place c.index-entry.result.now c.get.result seen st.here c.get.ensures

pub returns-clause-lawful : goal.returns-clause-lawful
returns-clause-lawful c =
    let seen = sees _ c.args.self.now c.self.invariant c.self.view_is in
    lawful_here _ c.args.self.now c.index-entry.result.now.called c.unwrap.result.now seen
    (copied_now c.get.result c.unwrap.result _ c.unwrap.ensures c.get.ensures)

pub returns-clause-added : goal.returns-clause-added
returns-clause-added c =
    let seen = sees _ c.args.self.now c.self.invariant c.self.view_is in
    let st = stands _ c.args.self.now c.args.place c.index-entry.result.now seen c.requires c.index-entry.ensures in
    λ d added.
    subject_there _ c.args.self.now c.args.place c.index-entry.result.now c.unwrap.result.now seen st
    (copied_now c.get.result c.unwrap.result _ c.unwrap.ensures c.get.ensures) d added
