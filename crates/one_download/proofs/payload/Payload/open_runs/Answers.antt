use Rattle.std.proofs.Common.{◌≡◌, ◌∙◌, ℕ, true, false, subst, sym}
use Rattle.std.specs.Option.{option_map_or}
use Rattle.dl_kinds.specs.declared.claims.Claim.{Claim}
use Rattle.piece_table.specs.NewRuns.{AreRunsOf}
use Rattle.segment_claim.specs.Book.{claim_under}
use Rattle.segment_claim.specs.Open.{is_open_in}
use Rattle.one_download.specs.DownloadViews.{is_open_by}
use Rattle.one_download.specs.PayloadViews.{PayloadView}
use Rattle.one_download.proofs.payload.Payload.open_runs.Goals as goal

pub returns : goal.returns
returns c =
    let p = c.self.inside in
    let f = c.self.invariant in
    let len : p.claims.piece_len ≡ p.table.piece_len = f.claims_len ∙ sym f.piece_len in
    subst (λ (v : PayloadView). AreRunsOf (λ block. is_open_by v.account c.args.id block ≡ true) c.args.run c.open_runs.result)
    c.self.view_is
    (subst
    (λ (n : ℕ). AreRunsOf (λ block. option_map_or (λ (claim : Claim). is_open_in n p.table.landed p.claims.closed claim block)
    (claim_under p.claims c.args.id) false ≡ true) c.args.run c.open_runs.result)
    len c.open_runs.ensures)
