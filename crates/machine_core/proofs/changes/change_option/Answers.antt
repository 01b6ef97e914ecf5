use Rattle.std.proofs.Common.{◌≡◌, ◌∙◌, Option, Some, ap, refl, set, subst, sym}
use Rattle.std.proofs.lemmas.Option.{same_Some}
use Rattle.dl_kinds.specs.declared.gid.Gid.{Gid}
use Rattle.machine_core.specs.CallParts.{AreSetWhere}
use Rattle.machine_core.specs.Choices.{is_keyed}
use Rattle.machine_core.specs.Replays.{with_settings}
use Rattle.machine_core.specs.declared.entries.Entry.{Entry}
use Rattle.machine_core.proofs.CallHalts.{entry_at_place}
use Rattle.machine_core.proofs.Keys.{keyed_found}
use Rattle.machine_core.proofs.OptionCalls.{none_keyed, none_set, one_set}
use Rattle.machine_core.proofs.changes.change_option.Goals as goal

pub returns-in_ok-changed-in-Some-clause-entries : goal.returns-in_ok-changed-in-Some-clause-entries
returns-in_ok-changed-in-Some-clause-entries c =
    let queue = c.args.queue.now in
    let xs = c.args.entries.now.items in
    let x = c.index_mut.result.now in
    let at = entry_at_place queue.added xs c.in-Ok.gid c.in-Some.place x c.requires (sym c.in-Some.ensures)
    c.index_mut.ensures.value in
    let read = entry_at_place queue.added xs c.in-Ok.gid c.in-Some.place c.index.result.now c.requires
    (sym c.in-Some.ensures) c.index.ensures in
    let same : c.index.result.now ≡ x = same_Some c.index.result.now x (sym read ∙ at) in
    subst
    (λ (o : Option Gid). AreSetWhere (is_keyed o) c.args.settings.now xs (set xs c.in-Some.place
    (record x { options = c.in_ok-changed-in-Some.changed })))
    (sym (keyed_found queue c.args.key c.in-Ok.gid (sym c.in-Ok.ensures)))
    (one_set queue.added c.in-Ok.gid c.args.settings.now xs c.in-Some.place x c.in_ok-changed-in-Some.changed c.requires
    (sym c.in-Some.ensures) at
    (c.in_ok-changed-in-Some.ensures ∙ ap (λ (y : Entry). with_settings y.options c.args.settings.now) same))

pub returns-in-None-clause-entries : goal.returns-in-None-clause-entries
returns-in-None-clause-entries c =
    subst
    (λ (o : Option Gid). AreSetWhere (is_keyed o) c.args.settings.now c.args.entries.now.items c.args.entries.now.items)
    (sym (keyed_found c.args.queue.now c.args.key c.in-Ok.gid (sym c.in-Ok.ensures)))
    (none_set (is_keyed (Some c.in-Ok.gid)) c.args.settings.now c.args.entries.now.items
    (λ i y here.
    none_keyed c.args.queue.now.added c.args.entries.now.items c.in-Ok.gid i y c.requires (sym c.in-None.ensures) here _
    refl))
