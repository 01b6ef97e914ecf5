use Rattle.std.proofs.Common.{length, List, Bool, sym, ap, ◌∙◌}
use Rattle.std.proofs.lemmas.List.FromFn.{length-map-range_with_len}
use Rattle.dl_history.specs.Accounts.{after_save}
use Rattle.one_download.specs.PayloadViews.{PayloadView, account_by}
use Rattle.one_download.proofs.Payloads.{saved_is}
use Rattle.one_download.proofs.payload.Payload.saved.Goals as goal

pub copy_over-requires : goal.copy_over-requires
copy_over-requires c =
    let f = c.self.invariant in
    let rows = rw (f.total, f.piece_len) at c.verified.ensures.valid.start.pieces in
    f.listed_pieces ∙ sym (ap (λ (r : List Bool). length r) c.verified.ensures.row ∙ rows)

pub list_blocks-requires-clause-plan : goal.list_blocks-requires-clause-plan
list_blocks-requires-clause-plan c = rw (c.self.invariant.total, c.self.invariant.piece_len) c.self.inside.plan.is_plan

pub list_blocks-requires-clause-row : goal.list_blocks-requires-clause-row
list_blocks-requires-clause-row c = rw (c.self.invariant.total, c.self.invariant.piece_len) c.self.invariant.listed_blocks

pub invariant_of-self : goal.invariant_of-self
invariant_of-self c =
    let f = c.self.invariant in
    let pieces = rw (f.total, f.piece_len) at c.verified.ensures.valid.start.pieces in
    let blocks = rw (f.total, f.piece_len) at c.verified.ensures.valid.start.blocks in
    record {
      total = f.total;
      piece_len = f.piece_len;
      claims_total = f.claims_total;
      claims_len = f.claims_len;
      settled_len = f.settled_len;
      wanted_len = f.wanted_len;
      listed_pieces = ap (λ (r : List Bool). length r) (c.copy_over.ensures ∙ c.verified.ensures.row) ∙ pieces;
      listed_blocks = ap (λ (r : List Bool). length r) c.list_blocks.ensures
          ∙ length-map-range_with_len _ 0 (length c.self.inside.table.landed)
          ∙ blocks;
    }

pub returns-clause-account : goal.returns-clause-account
returns-clause-account c =
    saved_is (account_by c.self.inside) c.copy_over.new.into c.list_blocks.new.into c.args.now
    (c.copy_over.ensures ∙ c.verified.ensures.row) c.list_blocks.ensures
    ∙ ap (λ (v : PayloadView). after_save v.account c.args.now) c.self.view_is
