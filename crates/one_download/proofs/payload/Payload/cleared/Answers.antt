use Rattle.std.proofs.Common.{sym, ap, refl, subst, ◌∙◌}
use Rattle.dl_history.specs.Accounts.{without_piece}
use Rattle.piece_table.specs.Progress.{Progress}
use Rattle.segment_claim.specs.Book.{ClaimBook}
use Rattle.one_download.specs.DownloadViews.{IsUnverified}
use Rattle.one_download.specs.PayloadViews.{PayloadView, account_by}
use Rattle.one_download.proofs.Payloads.{fits_more, cleared_is}
use Rattle.one_download.proofs.payload.Payload.cleared.Goals as goal

pub clear-requires : goal.clear-requires
clear-requires c =
    (subst (λ (v : PayloadView). IsUnverified v.account.progress c.args.piece) (sym c.self.view_is) c.requires).unverified

pub cleared-requires : goal.cleared-requires
cleared-requires c =
    let f = c.self.invariant in
    rw (f.claims_total, f.claims_len, ← f.total, ← f.piece_len)
    (subst (λ (v : PayloadView). IsUnverified v.account.progress c.args.piece) (sym c.self.view_is) c.requires).known

pub invariant_of-self : goal.invariant_of-self
invariant_of-self c =
    fits_more _ _ _ _ _ _ _ _ _ c.self.invariant
    (ap (λ (p : Progress). p.total) c.clear.ensures)
    (ap (λ (p : Progress). p.piece_len) c.clear.ensures)
    (ap (λ (b : ClaimBook). b.total) c.cleared.ensures)
    (ap (λ (b : ClaimBook). b.piece_len) c.cleared.ensures)
    refl

pub returns-clause-account : goal.returns-clause-account
returns-clause-account c =
    cleared_is (account_by c.self.inside) c.self.inside.claims c.cleared.new.self c.clear.new.self c.args.piece
    refl refl refl c.clear.ensures c.cleared.ensures
    ∙ ap (λ (v : PayloadView). without_piece v.account c.args.piece) c.self.view_is
