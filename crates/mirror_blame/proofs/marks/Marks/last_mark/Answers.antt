use Rattle.std.proofs.Common.{◌≡◌, ap, sym, ◌∙◌, Some, None}
use Rattle.std.specs.Prelude.{filter, slice_get, reverse}
use Rattle.mirror_blame.specs.Places.{is_within}
use Rattle.mirror_blame.specs.declared.blame.Blame.{Blame}
use Rattle.mirror_blame.proofs.Counted.{counted_all}
use Rattle.mirror_blame.proofs.Newest.{Finds, first_is, none_last, newest_within, some_last}
use Rattle.mirror_blame.proofs.marks.Marks.last_mark.Goals as goal

pub returns-in_err-newest : goal.returns-in_err-newest
returns-in_err-newest c =
    let run : c.run_of.result.now ≡ filter (is_within c.args.piece c.args.piece) c.self.inside.order.items = c.run_of.ensures.run ∙ ap (filter (is_within c.args.piece c.args.piece)) c.deref.ensures.value in
    let found : None ≡ slice_get c.run_of.result.now 0 = c.in_err-newest.ensures.value in
    let first : Finds c.args.piece (reverse c.self.inside.log.items) None = first_is c.args.piece c.self.inside.log.items c.self.inside.order.items c.run_of.result.now None c.self.invariant.places run found in
    c.from_residual.ensures ∙ rw (← c.self.view_is) (sym (none_last c.self.inside.max_tries c.args.piece (reverse c.self.inside.log.items) (counted_all c.self.inside.max_tries _ c.self.invariant.marks.tries) first))

pub index-requires : goal.index-requires
index-requires c =
    let run : c.run_of.result.now ≡ filter (is_within c.args.piece c.args.piece) c.self.inside.order.items = c.run_of.ensures.run ∙ ap (filter (is_within c.args.piece c.args.piece)) c.deref.ensures.value in
    rw c.self.inside.log.ok.0 (newest_within c.args.piece c.self.inside.log.items c.in_ok-newest.newest.now
    (first_is c.args.piece c.self.inside.log.items c.self.inside.order.items c.run_of.result.now (Some c.in_ok-newest.newest.now) c.self.invariant.places run c.in_ok-newest.ensures.value))

pub returns : goal.returns
returns c =
    let run : c.run_of.result.now ≡ filter (is_within c.args.piece c.args.piece) c.self.inside.order.items = c.run_of.ensures.run ∙ ap (filter (is_within c.args.piece c.args.piece)) c.deref.ensures.value in
    let first = first_is c.args.piece c.self.inside.log.items c.self.inside.order.items c.run_of.result.now (Some c.in_ok-newest.newest.now) c.self.invariant.places run c.in_ok-newest.ensures.value in
    let last = some_last c.self.inside.max_tries c.args.piece c.self.inside.log.items c.in_ok-newest.newest.now c.index.result.now (counted_all c.self.inside.max_tries _ c.self.invariant.marks.tries) first in
    rw (← c.self.view_is) (ap (λ (blame : Blame). Some blame.mark) c.index.ensures ∙ sym last)
