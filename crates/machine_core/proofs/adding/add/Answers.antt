use Rattle.std.proofs.Common.{List, [], ◌∷◌, ◌++◌, ◌∙◌, ap, sym}
use Rattle.machine_core.specs.declared.entries.Entry.{Entry}
use Rattle.machine_core.proofs.Additions.{added_by, refused_by}
use Rattle.machine_core.proofs.adding.add.Goals as goal

pub returns-in-None-clause-ok : goal.returns-in-None-clause-ok
returns-in-None-clause-ok c = λ subject mirrors.
    added_by c.args.gids c.args.place c.args.global.now subject c.args.settings.now c.args.position c.args.queue.now
    c.add_to_queue.new.queue c.args.entries.now.items c.push_reserved.new.self.items c.next_gid-gid.result
    c.in_ok-options.options c.in_ok-copy.copy c.is_paused-paused.result c.in_ok-entry.entry c.in_ok-options.ensures
    c.in_ok-copy.ensures c.is_paused-paused.ensures c.next_gid-gid.ensures
    (sym c.in-None.is ∙ c.in_ok-refused.ensures.answer) c.in_ok-refused.ensures.state
    (c.push_reserved.ensures.items ∙ ap (λ (xs : List Entry). xs ++ c.in_ok-entry.entry ∷ []) c.reserve.ensures.items)
    (c.in_ok-entry.ensures subject mirrors)

pub returns-in-Some-clause-ok : goal.returns-in-Some-clause-ok
returns-in-Some-clause-ok c = λ subject mirrors.
    refused_by c.args.gids c.args.place c.args.global.now subject c.args.settings.now c.args.position c.args.queue.now
    c.add_to_queue.new.queue c.args.entries.now.items c.reserve.new.self.items c.next_gid-gid.result
    c.in_ok-options.options c.is_paused-paused.result c.in-Some.refusal c.in_ok-options.ensures
    c.is_paused-paused.ensures c.next_gid-gid.ensures
    (sym c.in-Some.is ∙ c.in_ok-refused.ensures.answer) c.in_ok-refused.ensures.state c.reserve.ensures.items
