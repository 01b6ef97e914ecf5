use Rattle.one_download.proofs.Histories.{marks_counted, next_below, opening_told}
use Rattle.one_download.proofs.laws.steps_match_events.Goals as goal

pub returns : goal.returns
returns c = record {
  marks = marks_counted c.counting_is_stable.ensures.same;
  numbers = next_below;
  opened = opening_told;
}
