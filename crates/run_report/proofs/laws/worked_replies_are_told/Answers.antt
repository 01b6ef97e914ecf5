use Rattle.std.proofs.Common.{refl}
use Rattle.run_report.proofs.laws.worked_replies_are_told.Goals as goal

pub returns : goal.returns
returns c = record {
  speeds_told = record {
    none = refl;
    half = refl;
    at_once = refl;
    last = refl;
    too_late = refl;
    both = refl;
    newer = refl;
    other = refl;
    all = refl;
  };
  statuses_told = record {
    unknown = refl;
    no_pieces = refl;
    no_bits = refl;
    known = refl;
    pieces = refl;
    landed = refl;
    unverified = refl;
    stands = refl;
    probes = refl;
    ended = refl;
    active = refl;
    unended = refl;
    verified = refl;
    complete = refl;
    code = refl;
    words = refl;
    failed = refl;
    reason = refl;
    removed = refl;
    file = refl;
    whole = refl;
    unsized = refl;
  };
  windows_told = record {
    front = refl;
    middle = refl;
    few = refl;
    behind = refl;
    none = refl;
    last = refl;
    third = refl;
    before = refl;
  };
  stats_told = record {
    active = refl;
    waiting = refl;
    stopped = refl;
    purged = refl;
    ever = refl;
  };
  replies_told = record {
    none = refl;
    uris = refl;
    files = refl;
    version = refl;
    purged = refl;
    removed = refl;
  };
  bytes_shared = record {
    first = refl;
    second = refl;
    beyond = refl;
  };
}
