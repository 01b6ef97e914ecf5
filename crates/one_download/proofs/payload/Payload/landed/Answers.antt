use Rattle.std.proofs.Common.{◌+◌, ◌≤◌, sym, ap, refl, subst, length, ◌∙◌}
use Rattle.std.proofs.lemmas.List.FromFn.{length-map-range_with_len}
use Rattle.dl_kinds.specs.Plan.{blocks_of}
use Rattle.dl_history.specs.Accounts.{after_landing}
use Rattle.piece_table.specs.Progress.{Progress}
use Rattle.segment_claim.specs.Book.{ClaimBook}
use Rattle.one_download.specs.PayloadViews.{PayloadView, account_by}
use Rattle.one_download.proofs.Payloads.{fits_more, landed_is}
use Rattle.one_download.proofs.payload.Payload.landed.Goals as goal

pub unsettle-requires-clause-row : goal.unsettle-requires-clause-row
unsettle-requires-clause-row c = c.self.invariant.settled_len

pub unsettle-requires-clause-within : goal.unsettle-requires-clause-within
unsettle-requires-clause-within c =
    rw (← c.self.invariant.total, ← c.self.invariant.piece_len)
    (subst (λ (v : PayloadView). c.args.run.first + c.args.run.count
    ≤ blocks_of v.account.progress.total v.account.progress.piece_len) (sym c.self.view_is) c.requires.within)

pub land-requires-clause-within : goal.land-requires-clause-within
land-requires-clause-within c =
    subst (λ (v : PayloadView). c.args.run.first + c.args.run.count
    ≤ blocks_of v.account.progress.total v.account.progress.piece_len) (sym c.self.view_is) c.requires.within

pub sweep-requires : goal.sweep-requires
sweep-requires c =
    let f = c.self.invariant in
    record {
      total = ap (λ (p : Progress). p.total) c.land.ensures.after ∙ f.total ∙ sym f.claims_total;
      piece_len = ap (λ (p : Progress). p.piece_len) c.land.ensures.after ∙ f.piece_len ∙ sym f.claims_len;
    }

pub invariant_of-self : goal.invariant_of-self
invariant_of-self c =
    fits_more _ _ _ _ _ _ _ _ _ c.self.invariant
    (ap (λ (p : Progress). p.total) c.land.ensures.after)
    (ap (λ (p : Progress). p.piece_len) c.land.ensures.after)
    (ap (λ (b : ClaimBook). b.total) c.sweep.ensures.rest)
    (ap (λ (b : ClaimBook). b.piece_len) c.sweep.ensures.rest)
    (ap length c.unsettle.ensures ∙ length-map-range_with_len _ 0 (length c.self.inside.settled))

pub returns-clause-account : goal.returns-clause-account
returns-clause-account c =
    let f = c.self.invariant in
    landed_is (account_by c.self.inside) c.self.inside.claims c.sweep.new.self c.land.new.self c.unsettle.new.settled
    c.args.mirror c.args.run c.self.inside.plan.piece_len _ _ refl refl refl
    (f.claims_len ∙ sym f.piece_len) (sym f.piece_len) c.standing.ensures.sound.within
    c.land.ensures.after c.unsettle.ensures c.sweep.ensures.rest
    ∙ ap (λ (v : PayloadView). after_landing v.account c.args.mirror c.args.run) c.self.view_is
