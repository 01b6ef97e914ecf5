use Rattle.std.proofs.Common.{◌≡◌, sym, ap, refl, subst, ◌∙◌}
use Rattle.dl_history.specs.Accounts.{after_loss}
use Rattle.piece_table.specs.Progress.{Progress}
use Rattle.segment_claim.specs.Book.{ClaimBook}
use Rattle.one_download.specs.DownloadViews.{IsOpenAt}
use Rattle.one_download.specs.PayloadViews.{PayloadView, account_by}
use Rattle.one_download.proofs.Lost.{lost_unverified}
use Rattle.one_download.proofs.Payloads.{fits_more, lost_is, lost_sole_is}
use Rattle.one_download.proofs.payload.Payload.lost.Goals as goal

pub is_sole-requires : goal.is_sole-requires
is_sole-requires c =
    let p = c.self.inside in
    let f = c.self.invariant in
    (lost_unverified (account_by p) p.claims c.args.id c.args.piece c.plan_laws.ensures.of_pieces
    (rw (f.total, f.piece_len) p.plan.is_plan) c.blocks-2.ensures.valid refl (f.claims_total ∙ sym f.total)
    (f.claims_len ∙ sym f.piece_len) c.standing.ensures.sound.within
    (subst (λ (v : PayloadView). IsOpenAt v.account c.args.id c.args.piece) (sym c.self.view_is) c.requires)).known

pub clear-requires : goal.clear-requires
clear-requires c =
    let p = c.self.inside in
    let f = c.self.invariant in
    (lost_unverified (account_by p) p.claims c.args.id c.args.piece c.plan_laws.ensures.of_pieces
    (rw (f.total, f.piece_len) p.plan.is_plan) c.blocks-2.ensures.valid refl (f.claims_total ∙ sym f.total)
    (f.claims_len ∙ sym f.piece_len) c.standing.ensures.sound.within
    (subst (λ (v : PayloadView). IsOpenAt v.account c.args.id c.args.piece) (sym c.self.view_is) c.requires)).unverified

pub cleared-requires : goal.cleared-requires
cleared-requires c =
    let p = c.self.inside in
    let f = c.self.invariant in
    let total : c.void.new.self.total ≡ p.table.total = ap (λ (b : ClaimBook). b.total) c.void.ensures.rest
    ∙ f.claims_total ∙ sym f.total in
    let len : c.void.new.self.piece_len ≡ p.table.piece_len = ap (λ (b : ClaimBook). b.piece_len)
    c.void.ensures.rest ∙ f.claims_len ∙ sym f.piece_len in
    rw (total, len)
    (lost_unverified (account_by p) p.claims c.args.id c.args.piece c.plan_laws.ensures.of_pieces
    (rw (f.total, f.piece_len) p.plan.is_plan) c.blocks-2.ensures.valid refl (f.claims_total ∙ sym f.total)
    (f.claims_len ∙ sym f.piece_len) c.standing.ensures.sound.within
    (subst (λ (v : PayloadView). IsOpenAt v.account c.args.id c.args.piece) (sym c.self.view_is) c.requires)).known

pub invariant_of-self : goal.invariant_of-self
invariant_of-self c =
    fits_more _ _ _ _ _ _ _ _ _ c.self.invariant
    (ap (λ (p : Progress). p.total) c.clear.ensures)
    (ap (λ (p : Progress). p.piece_len) c.clear.ensures)
    (ap (λ (b : ClaimBook). b.total) c.cleared.ensures ∙ ap (λ (b : ClaimBook). b.total) c.void.ensures.rest)
    (ap (λ (b : ClaimBook). b.piece_len) c.cleared.ensures ∙ ap (λ (b : ClaimBook). b.piece_len) c.void.ensures.rest)
    refl

pub invariant_of-self-else-is_sole : goal.invariant_of-self-else-is_sole
invariant_of-self-else-is_sole c =
    fits_more _ _ _ _ _ _ _ _ _ c.self.invariant refl refl
    (ap (λ (b : ClaimBook). b.total) c.void.ensures.rest)
    (ap (λ (b : ClaimBook). b.piece_len) c.void.ensures.rest)
    refl

pub returns-then-is_sole-clause-account : goal.returns-then-is_sole-clause-account
returns-then-is_sole-clause-account c =
    lost_sole_is (account_by c.self.inside) c.self.inside.claims c.void.new.self c.cleared.new.self c.clear.new.self
    c.args.id c.args.piece _ refl refl refl c.void.ensures.rest c.clear.ensures c.cleared.ensures c.if-is_sole.ensures
    ∙ ap (λ (v : PayloadView). after_loss v.account c.args.id c.args.piece) c.self.view_is

pub returns-else-is_sole-clause-account : goal.returns-else-is_sole-clause-account
returns-else-is_sole-clause-account c =
    lost_is (account_by c.self.inside) c.self.inside.claims c.void.new.self c.args.id c.args.piece _ refl refl refl
    c.void.ensures.rest c.if-is_sole.ensures
    ∙ ap (λ (v : PayloadView). after_loss v.account c.args.id c.args.piece) c.self.view_is
