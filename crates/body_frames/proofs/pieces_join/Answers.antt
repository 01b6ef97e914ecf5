use Rattle.body_frames.proofs.Law.{content_goes_on, over_stays, wrong_stays, used_till_over, rest_is_end}
use Rattle.body_frames.proofs.pieces_join.Goals as goal

pub returns : goal.returns
returns c = record { content = content_goes_on; over = over_stays; wrong = wrong_stays; not_over = used_till_over; end = rest_is_end }
