use Rattle.std.proofs.Common.{◌≡◌, ◌<◌, ◌≤◌, ℕ, List, length, get_or, sym, subst, arith}
use Rattle.std.specs.Prelude.{reverse}
use Rattle.std.specs.List.{AllWithin}
use Rattle.mirror_blame.specs.Marks.{IsNextMarked}
use Rattle.mirror_blame.specs.declared.places.Place.{Place}
use Rattle.mirror_blame.proofs.NextMarked.{marked_at, unmarked_behind, unmarked_between}
use Rattle.mirror_blame.proofs.marks.Marks.next_marked.Goals as goal

pub returns-then-at-len-clause-none : goal.returns-then-at-len-clause-none
returns-then-at-len-clause-none c =
    let order : List Place = c.self.inside.order.items in
    let at : ℕ = c.start_of-at.result in
    let before : AllWithin (λ (place : Place). place.piece < c.args.from) order 0 at =
    subst (λ (l : List Place). AllWithin (λ (place : Place). place.piece < c.args.from) l 0 at) c.deref.ensures.value c.start_of-at.ensures.before in
    rw (← c.self.view_is) (unmarked_behind c.self.inside.max_tries c.args.from at order (reverse c.self.inside.log.items) c.self.invariant.places before
    (omega (arith, c.self.inside.order.ok.0, c.len.ensures, c.if-at-len.true)))

pub returns-clause-found : goal.returns-clause-found
returns-clause-found c =
    let order : List Place = c.self.inside.order.items in
    let marks = reverse c.self.inside.log.items in
    let max_tries = c.self.inside.max_tries in
    let at : ℕ = c.start_of-at.result in
    let place : Place = c.index.result.now in
    let before : AllWithin (λ (place : Place). place.piece < c.args.from) order 0 at =
    subst (λ (l : List Place). AllWithin (λ (place : Place). place.piece < c.args.from) l 0 at) c.deref.ensures.value c.start_of-at.ensures.before in
    let bound : at ≤ length order = subst (λ (l : List Place). at ≤ length l) c.deref.ensures.value c.start_of-at.ensures.bound in
    let behind : AllWithin (λ (place : Place). c.args.from ≤ place.piece) order at (length order) =
    subst (λ (l : List Place). AllWithin (λ (place : Place). c.args.from ≤ place.piece) l at (length l)) c.deref.ensures.value c.start_of-at.ensures.from in
    let within : at < length order = omega (arith, c.self.inside.order.ok.0, c.len.ensures, c.if-at-len.false) in
    let read : place ≡ get_or order at place = c.index.ensures in
    let is : IsNextMarked max_tries marks c.args.from (get_or order at place).piece = record {
      later = behind at place (omega arith) within;
      marked = marked_at c.self.inside.mirrors max_tries at order marks place c.self.invariant.marks c.self.invariant.places within;
      first = unmarked_between max_tries c.args.from at order marks place c.self.invariant.places before within;
    } in
    rw (← c.self.view_is) (subst (λ (p : Place). IsNextMarked max_tries marks c.args.from p.piece) (sym read) is)
