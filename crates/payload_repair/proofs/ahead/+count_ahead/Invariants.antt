use Rattle.payload_repair.proofs.ahead.+count_ahead.Given as goal

abbrev pub decreases-count_ahead : goal.decreases-count_ahead
decreases-count_ahead g l = l.reads
