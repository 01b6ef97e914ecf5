use Rattle.durable_progress.proofs.Promised.{finished_whole, held_promised, listing_promised, piece_longer, pieces_stay, promised_longer, promised_stay, same_promises, saved_stay}
use Rattle.durable_progress.proofs.laws.promises_are_kept.Goals as goal

pub returns-clause-pieces : goal.returns-clause-pieces
returns-clause-pieces c = λ want later own p opened.
    saved_stay want.plan.total want.plan.piece_len p later own opened.legal

pub returns-clause-blocks : goal.returns-clause-blocks
returns-clause-blocks c = λ want later own b opened.
    promised_stay c.histories_are_sound.ensures want.plan.total want.plan.piece_len b opened.want_is.plan later own
    opened.legal

pub returns-clause-stay : goal.returns-clause-stay
returns-clause-stay c = λ want later own p opened.
    pieces_stay want.plan.total want.plan.piece_len p later own opened.legal

pub returns-clause-held : goal.returns-clause-held
returns-clause-held c = λ want later own seen image.
    held_promised want own c.control_files_are_read.ensures.back c.histories_are_sound.ensures later seen image

pub returns-clause-finished : goal.returns-clause-finished
returns-clause-finished c = λ want own seen image opened. finished_whole want own seen image

pub returns-clause-same : goal.returns-clause-same
returns-clause-same c = same_promises

pub returns-clause-listings : goal.returns-clause-listings
returns-clause-listings c = λ want later own image.
    listing_promised want own c.histories_are_sound.ensures later image

pub returns-clause-longer : goal.returns-clause-longer
returns-clause-longer c = λ want later more own opened. record {
  pieces = λ p. piece_longer p more own;
  blocks = λ b. promised_longer c.histories_are_sound.ensures want.plan.total want.plan.piece_len b opened.want_is.plan later more
      own opened.legal;
}
