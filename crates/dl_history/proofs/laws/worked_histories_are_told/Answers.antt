use Rattle.std.proofs.Common.{refl}
use Rattle.dl_history.proofs.laws.worked_histories_are_told.Goals as goal

pub returns : goal.returns
returns c = record {
  wrong_always_is = record { marks = refl; landed = refl; sole = refl; standing = refl; listed = refl };
  mixed_once = record {
    both = refl;
    none_stands = refl;
    unmarked = refl;
    sole = refl;
    wrong = refl;
    unlisted = refl;
    gone = refl;
    again = refl;
    half = refl;
    paused = refl;
    lost = refl;
    right = refl;
    whole = refl;
  };
  stolen_once = record { both_stand = refl; first = refl; came = refl; open_in_both = refl; open_in_thief = refl };
  paused_once_is = record { none_stands = refl; one_stands = refl; landed = refl; landed_on = refl };
  probed_once = record { stood = refl; ended = refl; told = refl };
  saved_once = record { listed = refl; more = refl };
}
