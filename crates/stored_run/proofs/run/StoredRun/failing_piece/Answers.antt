use Rattle.std.proofs.Common.{◌≡◌, ◌<◌, false, Some, sym, ◌∙◌, ap, subst}
use Rattle.std.specs.Prelude.{slice_index_or}
use Rattle.std.specs.Option.{is_some}
use Rattle.std.proofs.lemmas.Option.{get_or_from_slice_get}
use Rattle.control_file.specs.declared.want.Want.{Want}
use Rattle.dl_history.specs.PayloadParts.{is_opened, is_sole_in}
use Rattle.dl_history.specs.StandingClaims.{first_open_since}
use Rattle.dl_kinds.specs.Plan.{blocks_of, piece_of, pieces_of}
use Rattle.machine_core.specs.MachineViews.{StandsUnder, account_of_gid}
use Rattle.machine_core.specs.OwnParts.{PayloadLengths, own_of}
use Rattle.machine_core.specs.RunLegal.{IsLegal, known_lengths}
use Rattle.machine_core.proofs.Begun.{copied_is, copied_some}
use Rattle.machine_core.proofs.Here.{told_some}
use Rattle.piece_table.specs.Progress.{Progress}
use Rattle.stored_run.specs.Stored.{AreWantsKept}
use Rattle.stored_run.specs.Views.{kept_want_of, own_in}
use Rattle.stored_run.proofs.Claimed.{claim_goes}
use Rattle.stored_run.proofs.Failing.{failing_at, probe_sole, rows_kept, sole_kept, table_there}
use Rattle.stored_run.proofs.PlainEvents.{back_to}
use Rattle.stored_run.proofs.run.StoredRun.failing_piece.Goals as goal

pub returns-in_default-clause-sole : goal.returns-in_default-clause-sole
returns-in_default-clause-sole g c =
    let a = c.args in
    let m = c.self.inside.machine in
    let l = known_lengths m.start m.past a.gid in
    let stands = back_to (λ w. StandsUnder w.machine a.claim.id a.gid a.claim) _ _ c.self.view_is c.requires in
    let none = c.in_default.ensures.stands a.gid a.claim stands in
    sym (subst (λ w. is_sole_in (own_in w a.gid) 0 ≡ false) c.self.view_is
    (probe_sole c.runs_follow.ensures l.total l.piece_len (own_of m.start m.past a.gid) a.claim
    (c.runs_follow.ensures.legal m.start m.past a.gid c.self.invariant.legal) stands.stands none))

pub unwrap-requires : goal.unwrap-requires
unwrap-requires g c =
    let a = c.args in
    let v = a.self.now in
    let legal = subst (λ w. IsLegal w.machine.start w.machine.past) c.self.view_is c.self.invariant.legal in
    let kept = subst (λ w. AreWantsKept w.machine.start w.machine.past w.wants.items) c.self.view_is
    c.self.invariant.wants_are in
    let m = c.self.inside.machine in
    let stands = back_to (λ w. StandsUnder w.machine a.claim.id a.gid a.claim) _ _ c.self.view_is c.requires in
    let first = subst (λ w. Some c.in-Some.block ≡ first_open_since (own_in w a.gid) a.claim) c.self.view_is
    (c.in-Some.ensures.stands a.gid a.claim stands) in
    let at = failing_at c.runs_follow.ensures c.plan_laws.ensures.of_pieces v.machine.start v.machine.past v.wants.items
    a.gid a.claim c.in-Some.block kept legal c.requires.stands first in
    copied_some c.want.result at.found.want (c.want.ensures.value ∙ at.found.kept)

pub piece_of-piece-requires : goal.piece_of-piece-requires
piece_of-piece-requires g c =
    let a = c.args in
    let v = a.self.now in
    let legal = subst (λ w. IsLegal w.machine.start w.machine.past) c.self.view_is c.self.invariant.legal in
    let kept = subst (λ w. AreWantsKept w.machine.start w.machine.past w.wants.items) c.self.view_is
    c.self.invariant.wants_are in
    let stands = back_to (λ w. StandsUnder w.machine a.claim.id a.gid a.claim) _ _ c.self.view_is c.requires in
    let first = subst (λ w. Some c.in-Some.block ≡ first_open_since (own_in w a.gid) a.claim) c.self.view_is
    (c.in-Some.ensures.stands a.gid a.claim stands) in
    let at = failing_at c.runs_follow.ensures c.plan_laws.ensures.of_pieces v.machine.start v.machine.past v.wants.items
    a.gid a.claim c.in-Some.block kept legal c.requires.stands first in
    let same = copied_is c.want.result c.unwrap.result at.found.want c.unwrap.ensures
    (c.want.ensures.value ∙ at.found.kept) in
    subst (λ (w : Want). c.in-Some.block < blocks_of w.plan.total w.plan.piece_len) (sym same)
    (subst (λ (l : PayloadLengths). c.in-Some.block < blocks_of l.total l.piece_len) at.found.lengths at.within)

pub unwrap-requires-2 : goal.unwrap-requires-2
unwrap-requires-2 g c =
    let a = c.args in
    let m = c.self.inside.machine in
    let stands = back_to (λ w. StandsUnder w.machine a.claim.id a.gid a.claim) _ _ c.self.view_is c.requires in
    let first = c.in-Some.ensures.stands a.gid a.claim stands in
    let at = failing_at c.runs_follow.ensures c.plan_laws.ensures.of_pieces m.start m.past c.self.inside.wants.items
    a.gid a.claim c.in-Some.block c.self.invariant.wants_are c.self.invariant.legal stands.stands first in
    let goes = claim_goes c.runs_follow.ensures m.start m.past a.gid a.claim c.self.invariant.legal stands.stands in
    table_there c.table.result (is_opened (own_of m.start m.past a.gid)) at.opened
    (c.table.ensures.none (ap is_some goes.added))

pub is_sole-requires : goal.is_sole-requires
is_sole-requires g c =
    let a = c.args in
    let m = c.self.inside.machine in
    let stands = back_to (λ w. StandsUnder w.machine a.claim.id a.gid a.claim) _ _ c.self.view_is c.requires in
    let first = c.in-Some.ensures.stands a.gid a.claim stands in
    let at = failing_at c.runs_follow.ensures c.plan_laws.ensures.of_pieces m.start m.past c.self.inside.wants.items
    a.gid a.claim c.in-Some.block c.self.invariant.wants_are c.self.invariant.legal stands.stands first in
    let rows = rows_kept c.runs_follow.ensures m.start m.past a.gid c.self.invariant.legal at.found.plan at.opened in
    let table : c.unwrap-2.result.now ≡ (account_of_gid m a.gid).progress =
    told_some (λ t. t.now ≡ (account_of_gid m a.gid).progress) c.table.result c.unwrap-2.result c.unwrap-2.ensures
    c.table.ensures.some in
    let same = copied_is c.want.result c.unwrap.result at.found.want c.unwrap.ensures
    (c.want.ensures.value ∙ (ap (λ w. kept_want_of w a.gid) (sym c.self.view_is) ∙ at.found.kept)) in
    let piece = c.piece_of-piece.ensures.value ∙ (ap (λ (w : Want). piece_of w.plan.piece_len c.in-Some.block) same
    ∙ ap (λ (l : PayloadLengths). piece_of l.piece_len c.in-Some.block) (sym at.found.lengths)) in
    subst (λ (t : Progress). c.piece_of-piece.result < pieces_of t.total t.piece_len) (sym table)
    (rw (rows.total_is, rows.piece_len_is, piece) at.piece_within)

pub returns-clause-piece : goal.returns-clause-piece
returns-clause-piece g c =
    let a = c.args in
    let v = a.self.now in
    let legal = subst (λ w. IsLegal w.machine.start w.machine.past) c.self.view_is c.self.invariant.legal in
    let kept = subst (λ w. AreWantsKept w.machine.start w.machine.past w.wants.items) c.self.view_is
    c.self.invariant.wants_are in
    let stands = back_to (λ w. StandsUnder w.machine a.claim.id a.gid a.claim) _ _ c.self.view_is c.requires in
    let first = subst (λ w. Some c.in-Some.block ≡ first_open_since (own_in w a.gid) a.claim) c.self.view_is
    (c.in-Some.ensures.stands a.gid a.claim stands) in
    let at = failing_at c.runs_follow.ensures c.plan_laws.ensures.of_pieces v.machine.start v.machine.past v.wants.items
    a.gid a.claim c.in-Some.block kept legal c.requires.stands first in
    let same = copied_is c.want.result c.unwrap.result at.found.want c.unwrap.ensures
    (c.want.ensures.value ∙ at.found.kept) in
    c.piece_of-piece.ensures.value ∙ (ap (λ (w : Want). piece_of w.plan.piece_len c.in-Some.block) same
    ∙ (ap (λ (l : PayloadLengths). piece_of l.piece_len c.in-Some.block) (sym at.found.lengths) ∙ sym at.piece_is))

pub returns-clause-sole : goal.returns-clause-sole
returns-clause-sole g c =
    let a = c.args in
    let m = c.self.inside.machine in
    let stands = back_to (λ w. StandsUnder w.machine a.claim.id a.gid a.claim) _ _ c.self.view_is c.requires in
    let first = c.in-Some.ensures.stands a.gid a.claim stands in
    let at = failing_at c.runs_follow.ensures c.plan_laws.ensures.of_pieces m.start m.past c.self.inside.wants.items
    a.gid a.claim c.in-Some.block c.self.invariant.wants_are c.self.invariant.legal stands.stands first in
    let table : c.unwrap-2.result.now ≡ (account_of_gid m a.gid).progress =
    told_some (λ t. t.now ≡ (account_of_gid m a.gid).progress) c.table.result c.unwrap-2.result c.unwrap-2.ensures
    c.table.ensures.some in
    let same = copied_is c.want.result c.unwrap.result at.found.want c.unwrap.ensures
    (c.want.ensures.value ∙ (ap (λ w. kept_want_of w a.gid) (sym c.self.view_is) ∙ at.found.kept)) in
    let piece = c.piece_of-piece.ensures.value ∙ (ap (λ (w : Want). piece_of w.plan.piece_len c.in-Some.block) same
    ∙ ap (λ (l : PayloadLengths). piece_of l.piece_len c.in-Some.block) (sym at.found.lengths)) in
    let within : c.piece_of-piece.result < pieces_of (known_lengths m.start m.past a.gid).total (known_lengths m.start m.past a.gid).piece_len =
    rw piece at.piece_within in
    let row = get_or_from_slice_get c.unwrap-2.result.now.sole c.piece_of-piece.result c.is_sole.result false
    c.is_sole.ensures in
    sym row ∙ (ap (λ (t : Progress). slice_index_or t.sole c.piece_of-piece.result false) table
    ∙ (sole_kept c.runs_follow.ensures m.start m.past a.gid c.piece_of-piece.result c.self.invariant.legal at.found.plan within
    ∙ ap (λ w. is_sole_in (own_in w a.gid) c.piece_of-piece.result) c.self.view_is))
