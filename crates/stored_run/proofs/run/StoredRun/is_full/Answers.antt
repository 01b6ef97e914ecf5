use Rattle.std.proofs.Common.{◌≡◌, ◌<◌, ap, subst, sym}
use Rattle.std.specs.Prelude.{◌↔◌, IsTrue}
use Rattle.std.specs.Option.{is_some}
use Rattle.dl_history.specs.HistoryLaws.{IsFullIn}
use Rattle.dl_history.specs.PayloadParts.{is_opened}
use Rattle.dl_kinds.specs.Plan.{pieces_of}
use Rattle.machine_core.specs.MachineViews.{account_of_gid}
use Rattle.machine_core.specs.OwnParts.{own_of}
use Rattle.machine_core.specs.Reads.{IsOpenedGid, IsPieceOfGid, lengths_of_gid}
use Rattle.machine_core.proofs.Here.{told_some}
use Rattle.piece_table.specs.Progress.{IsFull, Progress}
use Rattle.stored_run.specs.Views.{own_in}
use Rattle.stored_run.proofs.Failing.{opened_want, rows_kept, table_there}
use Rattle.stored_run.proofs.FilledPieces.{full_told}
use Rattle.stored_run.proofs.PlainEvents.{back_to}
use Rattle.stored_run.proofs.run.StoredRun.is_full.Goals as goal

pub unwrap-requires : goal.unwrap-requires
unwrap-requires g c =
    let m = c.self.inside.machine in
    let gid = c.args.gid in
    let opened = back_to (λ w. IsOpenedGid w.machine gid) _ _ c.self.view_is c.requires.opened in
    let w = opened_want m.start m.past c.self.inside.wants.items gid c.self.invariant.wants_are opened in
    table_there c.table.result (is_opened (own_of m.start m.past gid)) opened (c.table.ensures.none (ap is_some w.has.added))

pub is_full-requires : goal.is_full-requires
is_full-requires g c =
    let m = c.self.inside.machine in
    let gid = c.args.gid in
    let opened = back_to (λ w. IsOpenedGid w.machine gid) _ _ c.self.view_is c.requires.opened in
    let below = back_to (λ w. IsPieceOfGid w.machine gid c.args.piece) _ _ c.self.view_is c.requires.piece in
    let w = opened_want m.start m.past c.self.inside.wants.items gid c.self.invariant.wants_are opened in
    let rows = rows_kept c.runs_follow.ensures m.start m.past gid c.self.invariant.legal w.plan opened in
    let table : c.unwrap.result.now ≡ (account_of_gid m gid).progress =
    told_some (λ t. t.now ≡ (account_of_gid m gid).progress) c.table.result c.unwrap.result c.unwrap.ensures
    c.table.ensures.some in
    subst (λ (t : Progress). c.args.piece < pieces_of t.total t.piece_len) (sym table)
    (rw (rows.total_is, rows.piece_len_is) below)

pub returns : goal.returns
returns g c =
    let m = c.self.inside.machine in
    let gid = c.args.gid in
    let l = lengths_of_gid m gid in
    let laws = c.runs_follow.ensures in
    let opened = back_to (λ w. IsOpenedGid w.machine gid) _ _ c.self.view_is c.requires.opened in
    let below = back_to (λ w. IsPieceOfGid w.machine gid c.args.piece) _ _ c.self.view_is c.requires.piece in
    let w = opened_want m.start m.past c.self.inside.wants.items gid c.self.invariant.wants_are opened in
    let table : c.unwrap.result.now ≡ (account_of_gid m gid).progress =
    told_some (λ t. t.now ≡ (account_of_gid m gid).progress) c.table.result c.unwrap.result c.unwrap.ensures
    c.table.ensures.some in
    let says = subst (λ (t : Progress). IsTrue c.is_full.result ↔ IsFull t.total t.piece_len t.landed c.args.piece) table
    c.is_full.ensures in
    subst (λ w. IsTrue c.is_full.result ↔ IsFullIn (lengths_of_gid w.machine gid).total (lengths_of_gid w.machine gid).piece_len
    (own_in w gid) c.args.piece) c.self.view_is
    (full_told c.plan_laws.ensures.of_pieces c.plan_laws.ensures.numbered laws.accounts l.total l.piece_len
    (own_of m.start m.past gid) c.args.piece c.is_full.result w.plan (laws.legal m.start m.past gid c.self.invariant.legal)
    opened below says)
