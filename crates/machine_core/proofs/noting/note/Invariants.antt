use Rattle.std.proofs.Common.{◌+◌, ◌≤◌}
use Rattle.std.specs.Prelude.{vec_capacity, vec_len}
use Rattle.machine_core.proofs.NotedChanges.{NotesTo}
use Rattle.machine_core.proofs.noting.note.Given as goal

abbrev pub invariant-loop-place : goal.invariant-loop-place
invariant-loop-place l =
    NotesTo l.place l.queue l.event l.nth l.initial.seen.items l.seen.items l.initial.told.items l.told.items
    × (vec_len l.told + vec_len l.initial.seen ≤ vec_capacity l.told + l.place)
