use Rattle.std.proofs.Common.{◌≡◌, sym, ◌∙◌}
use Rattle.one_download.proofs.payload.Payload.choice.Goals as goal

pub returns-clause-none : goal.returns-clause-none
returns-clause-none c =
    let p = c.self.inside in
    let f = c.self.invariant in
    let total : p.claims.total ≡ p.table.total = f.claims_total ∙ sym f.total in
    let len : p.claims.piece_len ≡ p.table.piece_len = f.claims_len ∙ sym f.piece_len in
    rw (← c.self.view_is, ← total, ← len) c.choose.ensures.none
