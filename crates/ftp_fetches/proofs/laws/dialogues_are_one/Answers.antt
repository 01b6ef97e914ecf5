use Rattle.ftp_fetches.proofs.OneResult.{fetched_once, probed_once}
use Rattle.ftp_fetches.proofs.laws.dialogues_are_one.Goals as goal

pub returns : goal.returns
returns c =
    let once = c.answers_are_one_and_stay.ensures.one in
    record { fetched = fetched_once once; probed = probed_once once }
