use Rattle.stored_run.proofs.following.runs_follow.Goals as goal

pub returns : goal.returns
returns c = record {
  downloads = c.downloads_stay.ensures.downloads;
  lengths = c.downloads_stay.ensures.lengths;
  places = c.downloads_stay.ensures.places;
  behind = c.downloads_stay.ensures.behind;
  none = c.downloads_stay.ensures.none;
  wants = c.wants_stay.ensures;
  legal = c.downloads_are_legal.ensures;
  going = c.active_downloads_are_going.ensures.going;
  idle = c.active_downloads_are_going.ensures.idle;
  gone = c.downloads_go_on_once.ensures.gone;
  ended = c.downloads_go_on_once.ensures.ended;
  sound = c.histories_are_sound.ensures;
  accounts = c.accounts_match_events.ensures;
  files = c.wants_are_apart.ensures.files;
  layouts = c.wants_are_apart.ensures.lengths;
  agree = c.wants_are_apart.ensures.agree;
  lack = c.steps_hold.ensures.lack;
  same = c.steps_hold.ensures.same;
  give = c.steps_hold.ensures.give;
}
