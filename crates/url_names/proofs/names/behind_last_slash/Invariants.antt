use Rattle.std.proofs.Common.{◌≡◌, ◌≤◌, drop, take}
use Rattle.url_names.specs.UrlNames.{behind_last_slash}
use Rattle.url_names.proofs.names.behind_last_slash.Given as goal

abbrev pub invariant-loop-at : goal.invariant-loop-at
invariant-loop-at l = record {
  within : l.start ≤ l.at;
  last : drop l.start (take l.at l.bytes) ≡ behind_last_slash (take l.at l.bytes);
}
