use Rattle.ftp_steps.proofs.FollowLemmas.{follows, due_ends, due_short}
use Rattle.ftp_steps.proofs.laws.answers_follow_their_step.Goals as goal

pub returns : goal.returns
returns c = record { follows = follows; ends = due_ends; short = due_short c.replies_are_one_and_stay.ensures.short }
