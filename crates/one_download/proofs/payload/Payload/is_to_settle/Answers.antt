use Rattle.std.proofs.Common.{◌↔◌, ◌<◌, Bool, Some, sym, ap, subst, ◌∙◌}
use Rattle.std.specs.Prelude.{IsTrue}
use Rattle.dl_kinds.specs.Plan.{pieces_of}
use Rattle.one_download.specs.DownloadViews.{IsToSettle}
use Rattle.one_download.specs.PayloadViews.{PayloadView, account_by}
use Rattle.one_download.proofs.Blocks.{settled_by_full, settled_once, verified_once}
use Rattle.one_download.proofs.payload.Payload.is_to_settle.Goals as goal

pub returns-then-get : goal.returns-then-get
returns-then-get c = (
  λ e. absurd cc,
  λ to. absurd (settled_once (account_by c.self.inside) c.args.piece
      (c.get.ensures ∙ ap (λ (b : Bool). Some b) c.if-get.true)
      (subst (λ (v : PayloadView). IsToSettle v.account c.args.piece) (sym c.self.view_is) to)),
)

pub returns-then-is_verified : goal.returns-then-is_verified
returns-then-is_verified c = (
  λ e. absurd cc,
  λ to. absurd (verified_once (account_by c.self.inside) c.args.piece
      (c.is_verified.ensures ∙ ap (λ (b : Bool). Some b) c.if-is_verified.true)
      (subst (λ (v : PayloadView). IsToSettle v.account c.args.piece) (sym c.self.view_is) to)),
)

pub returns : goal.returns
returns c =
    let p = c.self.inside in
    let f = c.self.invariant in
    subst (λ (v : PayloadView). IsTrue c.is_full.result ↔ IsToSettle v.account c.args.piece) c.self.view_is
    (settled_by_full (account_by p) c.args.piece c.is_full.result c.plan_laws.ensures.of_pieces c.plan_laws.ensures.numbered
    (rw (f.total, f.piece_len) p.plan.is_plan) c.blocks-2.ensures.valid
    (subst (λ (v : PayloadView). c.args.piece < pieces_of v.account.progress.total v.account.progress.piece_len)
    (sym c.self.view_is) c.requires)
    (c.get.ensures ∙ ap (λ (b : Bool). Some b) c.if-get.false)
    (c.is_verified.ensures ∙ ap (λ (b : Bool). Some b) c.if-is_verified.false)
    c.is_full.ensures)
