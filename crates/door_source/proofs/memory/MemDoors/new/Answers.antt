use Rattle.std.proofs.Common.{◌≡◌, ℕ, List, [], ◌∷◌, map, ap, refl, sym, subst, ◌∙◌, rules}
use Rattle.std.specs.Prelude.{All}
use Rattle.door_source.specs.Doors.{met, IsUntouched}
use Rattle.door_source.proofs.Newest.{all_fresh}
use Rattle.door_source.proofs.memory.MemDoors.new.Goals as goal

wholes_are : (wholes : List (List ℕ)) → map (λ connection. connection.whole) (map met wholes) ≡ wholes
wholes_are [] = refl
wholes_are (whole ∷ wholes) = ap (λ others. whole ∷ others) (wholes_are wholes)

pub returns : goal.returns
returns c = record {
  connections = search rules;
  shut = refl;
  unclosed = refl;
  coming_are = ap (map (λ connection. connection.whole)) c.in_ok-sessions_of.ensures ∙ wholes_are c.args.sessions.items;
  faults = c.new.ensures.faults;
  untold = refl;
  cut_is = refl;
  failing_are = ap (λ failing. failing.items) c.new.ensures.failing;
  none_made = c.new.ensures.made;
}

pub invariant_of-result-clause-fresh : goal.invariant_of-result-clause-fresh
invariant_of-result-clause-fresh c =
    subst (All IsUntouched) (sym c.in_ok-sessions_of.ensures) (all_fresh c.args.sessions.items)
