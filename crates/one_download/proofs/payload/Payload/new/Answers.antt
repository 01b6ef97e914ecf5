use Rattle.std.proofs.Common.{length, replicate, List, Bool, false, ap, ◌∙◌}
use Rattle.std.proofs.lemmas.List.{length-replicate}
use Rattle.piece_table.specs.Progress.{Progress}
use Rattle.segment_claim.specs.Book.{ClaimBook}
use Rattle.one_download.proofs.Payloads.{opened_is}
use Rattle.one_download.proofs.payload.Payload.new.Goals as goal

pub invariant_of-result : goal.invariant_of-result
invariant_of-result c =
    record {
      total = ap (λ (p : Progress). p.total) c.in_ok-table.ensures;
      piece_len = ap (λ (p : Progress). p.piece_len) c.in_ok-table.ensures;
      claims_total = ap (λ (b : ClaimBook). b.total) c.new-claims.ensures;
      claims_len = ap (λ (b : ClaimBook). b.piece_len) c.new-claims.ensures;
      settled_len = ap (λ (r : List Bool). length r) c.in_ok-settled.ensures ∙ length-replicate c.args.plan.pieces false
          ∙ c.args.plan.pieces_are;
      wanted_len = c.requires.wanted;
      listed_pieces = ap (λ (r : List Bool). length r) c.in_ok-listed_pieces.ensures ∙ c.requires.start.pieces;
      listed_blocks = ap (λ (r : List Bool). length r) c.in_ok-listed_blocks.ensures ∙ c.requires.start.blocks;
    }

pub returns-clause-account : goal.returns-clause-account
returns-clause-account c =
    opened_is c.args.before c.args.plan.total c.args.plan.piece_len c.args.verified c.args.blocks c.args.now
    c.in_ok-table.table c.new-claims.result _ c.in_ok-settled.settled c.in_ok-listed_pieces.listed_pieces
    c.in_ok-listed_blocks.listed_blocks c.in_ok-table.ensures c.new-claims.ensures c.requires.start.pieces
    (c.in_ok-settled.ensures ∙ ap (λ n. replicate n false) c.args.plan.pieces_are)
    c.in_ok-listed_pieces.ensures c.in_ok-listed_blocks.ensures
