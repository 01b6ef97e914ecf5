use Rattle.std.proofs.Common.{◌≡◌, ◌/◌, sym, ap, subst, ◌∙◌}
use Rattle.std.specs.Option.{option_and_then}
use Rattle.dl_kinds.specs.Plan.{piece_of}
use Rattle.dl_history.specs.Accounts.{first_still_open}
use Rattle.segment_claim.specs.Book.{claim_under}
use Rattle.segment_claim.specs.Open.{first_open_in}
use Rattle.one_download.specs.DownloadViews.{IsFirstPiece, standing_under}
use Rattle.one_download.specs.PayloadViews.{PayloadView, account_by}
use Rattle.one_download.proofs.Lost.{first_piece_none, first_piece_some}
use Rattle.one_download.proofs.payload.Payload.first_piece.Goals as goal

pub returns-in-Some : goal.returns-in-Some
returns-in-Some c =
    let p = c.self.inside in
    let f = c.self.invariant in
    let b = c.in-Some.block in
    let len : p.claims.piece_len ≡ p.table.piece_len = f.claims_len ∙ sym f.piece_len in
    let found : c.first_open.result
    ≡ option_and_then (first_still_open (account_by p)) (standing_under (account_by p) c.args.id) =
    c.first_open.ensures
    ∙ ap (λ n. option_and_then (first_open_in n p.table.landed p.claims.closed) (claim_under p.claims c.args.id)) len in
    subst (λ (v : PayloadView). IsFirstPiece v.account c.args.id (b / c.div_ceil.result)) c.self.view_is
    (first_piece_some (account_by p) c.args.id b (b / c.div_ceil.result) (sym c.in-Some.is ∙ found)
    (ap (λ n. b / n) c.div_ceil.ensures ∙ ap (λ n. piece_of n b) (sym f.piece_len)))

pub returns-in-None : goal.returns-in-None
returns-in-None c =
    let p = c.self.inside in
    let f = c.self.invariant in
    let len : p.claims.piece_len ≡ p.table.piece_len = f.claims_len ∙ sym f.piece_len in
    let found : c.first_open.result
    ≡ option_and_then (first_still_open (account_by p)) (standing_under (account_by p) c.args.id) =
    c.first_open.ensures
    ∙ ap (λ n. option_and_then (first_open_in n p.table.landed p.claims.closed) (claim_under p.claims c.args.id)) len in
    subst (λ (v : PayloadView). IsFirstPiece v.account c.args.id 0) c.self.view_is
    (first_piece_none (account_by p) c.args.id 0 (sym c.in-None.is ∙ found))
