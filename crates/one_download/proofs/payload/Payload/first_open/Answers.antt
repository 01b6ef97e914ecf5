use Rattle.std.proofs.Common.{◌≡◌, sym, ap, ◌∙◌}
use Rattle.std.specs.Option.{option_and_then}
use Rattle.dl_history.specs.Accounts.{first_still_open}
use Rattle.segment_claim.specs.Book.{claim_under}
use Rattle.segment_claim.specs.Open.{first_open_in}
use Rattle.one_download.specs.DownloadViews.{standing_under}
use Rattle.one_download.specs.PayloadViews.{PayloadView}
use Rattle.one_download.proofs.payload.Payload.first_open.Goals as goal

pub returns : goal.returns
returns c =
    let p = c.self.inside in
    let f = c.self.invariant in
    let len : p.claims.piece_len ≡ p.table.piece_len = f.claims_len ∙ sym f.piece_len in
    c.first_open.ensures
    ∙ ap (λ n. option_and_then (first_open_in n p.table.landed p.claims.closed) (claim_under p.claims c.args.id)) len
    ∙ ap (λ (v : PayloadView). option_and_then (first_still_open v.account) (standing_under v.account c.args.id))
    c.self.view_is
