use Rattle.std.proofs.Common.{◌<◌, sym, subst, arith}
use Rattle.dl_kinds.specs.Plan.{pieces_of}
use Rattle.one_download.specs.DownloadViews.{IsFullUnverified}
use Rattle.one_download.specs.PayloadViews.{PayloadView}
use Rattle.one_download.proofs.Blocks.{full_of_blocks}
use Rattle.one_download.proofs.payload.Payload.settled.Goals as goal

pub set-requires : goal.set-requires
set-requires c =
    let f = c.self.invariant in
    let known : c.args.piece < pieces_of c.self.inside.plan.total c.self.inside.plan.piece_len = rw (← f.total, ← f.piece_len)
    (subst (λ (v : PayloadView). IsFullUnverified v.account.progress c.args.piece) (sym c.self.view_is) c.requires).unverified.known in
    subst (λ n. c.args.piece < n) (sym f.settled_len) known

pub find-requires-clause-full : goal.find-requires-clause-full
find-requires-clause-full c =
    let p = c.self.inside in
    let f = c.self.invariant in
    let is : IsFullUnverified p.table c.args.piece =
    subst (λ (v : PayloadView). IsFullUnverified v.account.progress c.args.piece) (sym c.self.view_is) c.requires in
    full_of_blocks p.table c.args.piece c.plan_laws.ensures.numbered (rw (f.total, f.piece_len) p.plan.is_plan)
    is.unverified.known is.full

pub returns-clause-number : goal.returns-clause-number
returns-clause-number c =
    let p = c.self.inside in
    let f = c.self.invariant in
    let is : IsFullUnverified p.table c.args.piece =
    subst (λ (v : PayloadView). IsFullUnverified v.account.progress c.args.piece) (sym c.self.view_is) c.requires in
    let known : c.args.piece < pieces_of p.plan.total p.plan.piece_len = rw (← f.total, ← f.piece_len) is.unverified.known in
    let few = p.plan.is_plan.pieces in
    omega arith

pub find-requires-clause-unverified : goal.find-requires-clause-unverified
find-requires-clause-unverified c =
    (subst (λ (v : PayloadView). IsFullUnverified v.account.progress c.args.piece) (sym c.self.view_is) c.requires).unverified
