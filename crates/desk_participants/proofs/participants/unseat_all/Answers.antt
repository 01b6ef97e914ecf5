use Rattle.std.proofs.Common.{◌∙◌, ◌++◌, ◌∷◌, [], Some, ap, map, sym}
use Rattle.std.specs.Prelude.{reverse}
use Rattle.std.proofs.lemmas.List.{reverse-append}
use Rattle.desk_participants.specs.declared.participants.Participant.{Participant}
use Rattle.desk_participants.proofs.Seating.{some_behind, some_there}
use Rattle.desk_participants.proofs.participants.unseat_all.Goals as goal

pub unreachable-requires : goal.unreachable-requires
unreachable-requires g c =
    let was = c.loop-participant.invariant in
    let done = c.requires.done in
    let w = c.in-Some.participant in
    let turned = ap reverse c.in-Some.ensures.items ∙ reverse-append c.pop.new.self.items (w ∷ []) in
    let some = some_behind c.loop-participant.passes.items c.args.passes.now.items done.passes w.pass _
    (ap
    (λ xs. map Some c.loop-participant.passes.items ++ map (λ (p : Participant _ _ _ _). p.pass) xs)
    (sym turned)
    ∙ (was.0 ∙ ap (λ xs. map Some c.args.passes.now.items ++ xs) done.passes_are)) in
    c.in_default-pass.not-Some some.0 some.1

pub unreachable-requires-in_default-its : goal.unreachable-requires-in_default-its
unreachable-requires-in_default-its g c =
    let was = c.loop-participant.invariant in
    let done = c.requires.done in
    let w = c.in-Some.participant in
    let turned = ap reverse c.in-Some.ensures.items ∙ reverse-append c.pop.new.self.items (w ∷ []) in
    let some = some_there c.loop-participant.came.items done.came w.came _
    (ap
    (λ xs. map Some c.loop-participant.came.items ++ map (λ (p : Participant _ _ _ _). p.came) xs)
    (sym turned)
    ∙ (was.2 ∙ done.came_are)) in
    c.in_default-its.not-Some some.0 some.1
