-- The options of downloads, by their numbers.
use Rattle.std.proofs.Common.{◌≡◌, ◌≤◌, ◌+◌, ◌-◌, ◌==◌, ℕ, cond, Bool, true, false, List, length, Option, None, Some, refl, sym, ◌∙◌, ap, arith}
use borrow.Author.Tests.{ltb-false}
use Rattle.std.proofs.lemmas.List.Folds.{find_at}
use Rattle.std.proofs.lemmas.Option.{slice_get_past}
use Rattle.std.specs.List.{slice_get}
use Rattle.std.specs.Option.{option_map}
use Rattle.dl_kinds.specs.declared.gid.Gid.{Gid}
use Rattle.dl_queue.specs.declared.kinds.Added.{Added}
use Rattle.dl_queue.specs.Calls.{added_place, was_added, options_in}
use Rattle.dl_queue.specs.Held.{number_in}

some_is : (b : Bool) (p n : ℕ) → cond b (Some (p + 1)) None ≡ Some n → p ≡ n - 1
some_is true p n is = let same : p + 1 ≡ n = cc in omega (arith, same)
some_is false p n is = cc

none_is : (b : Bool) (p : ℕ) → cond b (Some p) None ≡ None → b ≡ false
none_is true p is = cc
none_is false p is = refl

-- the download that stands at a gid's number has its options
pub options_at : (added : List Added) (gid : Gid) (n : ℕ) → number_in added gid ≡ Some n
    → options_in added gid ≡ option_map (λ (a : Added). a.options) (slice_get added (n - 1))
options_at added gid n is =
    ap (option_map (λ (a : Added). a.options)) (find_at (λ (a : Added). a.gid.0 == gid.0) added
    ∙ ap (slice_get added) (some_is (was_added added gid) (added_place gid added) n is))

-- where a gid has no number, there are none
pub no_options : (added : List Added) (gid : Gid) → number_in added gid ≡ None → options_in added gid ≡ None
no_options added gid is =
    let past : length added ≤ added_place gid added =
    omega (arith, ltb-false (added_place gid added) (length added) (none_is (was_added added gid) (added_place gid added + 1) is)) in
    ap (option_map (λ (a : Added). a.options)) (find_at (λ (a : Added). a.gid.0 == gid.0) added
    ∙ slice_get_past added (added_place gid added) past)
