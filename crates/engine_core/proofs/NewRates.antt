-- Buckets that take the rates of the options.
use Rattle.std.proofs.Common.{◌≡◌, ⊎_elim, ◌≤◌, ◌<◌, ℕ, zero, suc, Bool, true, false, None, Some, List, [], ◌∷◌, ◌++◌, length, map, refl, sym, ap, ◌∙◌, subst, arith}
use Rattle.std.specs.Prelude.{◌==◌, slice_get, slice_index_or, slice_set, take}
use Rattle.std.proofs.lemmas.Bool.{cases_lt, eq-eqb, eqb-true, le-ltb, lt-ltb}
use Rattle.dl_kinds.specs.declared.gid.Gid.{Gid}
use Rattle.std.specs.Option.{option_map}
use Rattle.machine_core.specs.Choices.{options_now}
use Rattle.machine_core.specs.MachineViews.{MachineView}
use Rattle.machine_core.specs.Reads.{IsAdding, downloads_in}
use Rattle.machine_core.specs.RunLegal.{download_in}
use Rattle.option_set.specs.Values.{OptionValues, number_value}
use Rattle.option_set.specs.declared.kinds.Num.TheVariants.{MaxDownloadLimit}
use Rattle.machine_core.specs.Replays.{download_of, is_download}
use Rattle.machine_core.specs.Starts.{Download, RunStart}
use Rattle.machine_core.specs.declared.events.Event.{Event}
use Rattle.rate_tokens.specs.Level.{Level, full_level}
use Rattle.engine_turns.specs.Levels.{own_rate, with_new_rate}
use Rattle.engine_core.proofs.Downloads.{AreApart, downloads_apart}
use Rattle.engine_core.specs.Buckets.{HaveRates, all_followed, followed, followed_at, own_levels_on, own_rates}

abbrev none : Level
none = full_level 0 0

-- ---- one after another

pub followed_within : (place rate now : ℕ) (levels : List Level) → place < length levels
    → followed_at place rate now levels ≡ slice_set levels place (followed rate now (slice_index_or levels place none))
followed_within place rate now levels within = let is = lt-ltb place (length levels) within in rw is refl

pub followed_new : (place rate now : ℕ) (levels : List Level) → length levels ≤ place
    → followed_at place rate now levels ≡ levels ++ full_level rate now ∷ []
followed_new place rate now levels past = let is = le-ltb place (length levels) past in rw is refl

follow_behind : (place rate now : ℕ) (level : Level) (levels : List Level)
    → followed_at (suc place) rate now (level ∷ levels) ≡ level ∷ followed_at place rate now levels
follow_behind place rate now level levels = ⊎_elim
    (λ (within : place < length levels).
    followed_within (suc place) rate now (level ∷ levels) (omega (arith, within))
    ∙ ap (λ (ls : List Level). level ∷ ls) (sym (followed_within place rate now levels within)))
    (λ (past : length levels ≤ place).
    followed_new (suc place) rate now (level ∷ levels) (omega (arith, past))
    ∙ ap (λ (ls : List Level). level ∷ ls) (sym (followed_new place rate now levels past)))
    (cases_lt place (length levels))

pub follow_next : (place : ℕ) (rates : List ℕ) (rate now : ℕ) (levels : List Level) → slice_get rates place ≡ Some rate
    → all_followed (take (suc place) rates) now levels ≡ followed_at place rate now (all_followed (take place rates) now levels)
follow_next place [] rate now levels is = absurd cc
follow_next zero (r ∷ rates) rate now [] is =
    ap (λ (n : ℕ). full_level n now ∷ []) (same r rate is) ∙ sym (followed_new 0 rate now [] (omega arith))
  where
    same : (a b : ℕ) → Some a ≡ Some b → a ≡ b
    same a b eq = cc
follow_next zero (r ∷ rates) rate now (level ∷ levels) is =
    ap (λ (n : ℕ). followed n now level ∷ levels) (same r rate is)
    ∙ sym (followed_within 0 rate now (level ∷ levels) (omega arith))
  where
    same : (a b : ℕ) → Some a ≡ Some b → a ≡ b
    same a b eq = cc
follow_next (suc place) (r ∷ rates) rate now [] is =
    ap (λ (ls : List Level). full_level r now ∷ ls) (follow_next place rates rate now [] is)
    ∙ sym (follow_behind place rate now (full_level r now) (all_followed (take place rates) now []))
follow_next (suc place) (r ∷ rates) rate now (level ∷ levels) is =
    ap (λ (ls : List Level). followed r now level ∷ ls) (follow_next place rates rate now levels is)
    ∙ sym (follow_behind place rate now (followed r now level) (all_followed (take place rates) now levels))

-- ---- they have their rates

pub followed_rate : (rate now : ℕ) (level : Level) → (followed rate now level).rate ≡ rate
followed_rate rate now level = by (level.rate == rate) refl
  where
    by : (b : Bool) → (level.rate == rate) ≡ b → (followed rate now level).rate ≡ rate
    by true is = rw is (eqb-true level.rate rate is)
    by false is = rw is refl

pub all_followed_rate : (rates : List ℕ) (now : ℕ) (levels : List Level) (place rate : ℕ)
    → slice_get rates place ≡ Some rate → (slice_index_or (all_followed rates now levels) place none).rate ≡ rate
all_followed_rate [] now levels place rate is = absurd cc
all_followed_rate (r ∷ rates) now [] zero rate is = cc
all_followed_rate (r ∷ rates) now (level ∷ levels) zero rate is =
    followed_rate r now level ∙ (let same : r ≡ rate = cc in same)
all_followed_rate (r ∷ rates) now [] (suc place) rate is = all_followed_rate rates now [] place rate is
all_followed_rate (r ∷ rates) now (level ∷ levels) (suc place) rate is = all_followed_rate rates now levels place rate is

pub all_followed_length : (rates : List ℕ) (now : ℕ) (levels : List Level) → length levels ≤ length rates
    → length (all_followed rates now levels) ≡ length rates
all_followed_length [] now [] few = refl
all_followed_length [] now (level ∷ levels) few = absurd (omega (arith, few))
all_followed_length (r ∷ rates) now [] few =
    ap (λ (n : ℕ). suc n) (all_followed_length rates now [] (omega arith))
all_followed_length (r ∷ rates) now (level ∷ levels) few =
    ap (λ (n : ℕ). suc n) (all_followed_length rates now levels (omega (arith, few)))

-- ---- as the turns say

module _ (start : RunStart) (past after : List Event) (now : ℕ) where
  pub levels_followed : (ds : List Download) (levels : List Level) → HaveRates start past ds levels
      → length levels ≤ length ds
      → own_levels_on start past after None now ds levels ≡ all_followed (map (own_rate start after) ds) now levels
  levels_followed [] [] have few = refl
  levels_followed [] (level ∷ levels) have few = absurd (omega (arith, few))
  levels_followed (d ∷ ds) [] have few =
      let rest = levels_followed ds [] (λ place x there within. absurd (omega (arith, within))) (omega arith) in
      λ i. full_level (own_rate start after d) now ∷ rest i
  levels_followed (d ∷ ds) (level ∷ levels) have few =
      let first = have 0 d refl (omega arith) in
      let rest = levels_followed ds levels (λ place x there within. have (suc place) x there (omega (arith, within)))
      (omega (arith, few)) in
      λ i. with_new_rate (sym first i) (own_rate start after d) now level ∷ rest i

-- ---- a download at its place

pub found_there : (ds : List Download) (place : ℕ) (d : Download) → AreApart ds → slice_get ds place ≡ Some d
    → download_of ds d.gid ≡ Some d
found_there [] place d apart is = absurd cc
found_there (x ∷ ds) zero d apart is = let same : x ≡ d = cc in
    let yes : is_download d.gid x ≡ true = eq-eqb x.gid.0 d.gid.0 (ap (λ (y : Download). y.gid.0) same) in rw yes is
found_there (x ∷ ds) (suc place) d apart is = by (is_download d.gid x) refl (found_there ds place d apart.1 is)
  where
    by : (b : Bool) → is_download d.gid x ≡ b → download_of ds d.gid ≡ Some d → download_of (x ∷ ds) d.gid ≡ Some d
    by true here there =
        let same : x.gid ≡ d.gid = ap (λ (n : ℕ). record { 0 = n }) (eqb-true x.gid.0 d.gid.0 here) in
        absurd (let none : download_of ds d.gid ≡ None = subst (λ (gid : Gid). download_of ds gid ≡ None) same apart.0 in
        let clash : None ≡ Some d = sym none ∙ there in cc)
    by false here there = rw here there

pub map_length : {X Y : Type 0} (f : X → Y) (xs : List X) → length (map f xs) ≡ length xs
map_length f [] = refl
map_length f (x ∷ xs) = ap (λ (n : ℕ). suc n) (map_length f xs)

pub map_there : {X Y : Type 0} (f : X → Y) (xs : List X) (place : ℕ) (x : X) → slice_get xs place ≡ Some x
    → slice_get (map f xs) place ≡ Some (f x)
map_there f [] place x is = absurd cc
map_there f (y ∷ ys) zero x is = ap (λ o. option_map f o) is
map_there f (y ∷ ys) (suc place) x is = map_there f ys place x is

module _ (m : MachineView) (place : ℕ) (gid : Gid) (called : ℕ) (adding : IsAdding m place gid called) where
  pub added_there : download_in m.start m.past gid ≡ Some adding.download
  added_there =
      subst (λ (g : Gid). download_in m.start m.past g ≡ Some adding.download) (sym adding.gid_is)
      (found_there (downloads_in m) place adding.download (downloads_apart m.start m.past) adding.added)

  pub rate_there : (options : OptionValues) → options ≡ options_now m.start m.past adding.download
      → slice_get (own_rates m.start m.past) place ≡ Some (number_value options MaxDownloadLimit)
  rate_there options is =
      map_there (own_rate m.start m.past) (downloads_in m) place adding.download adding.added
      ∙ ap (λ (o : OptionValues). Some (number_value o MaxDownloadLimit)) (sym is)

-- a place in a front part
pub prefix_there : {X : Type 0} (xs more : List X) (place : ℕ) (x : X) → slice_get (xs ++ more) place ≡ Some x
    → place < length xs → slice_get xs place ≡ Some x
prefix_there [] more place x is within = absurd (omega (arith, within))
prefix_there (y ∷ xs) more zero x is within = is
prefix_there (y ∷ xs) more (suc place) x is within = prefix_there xs more place x is (omega (arith, within))

-- ---- buckets that have their rates

same_rate : (rate now : ℕ) (level : Level) → level.rate ≡ rate → followed rate now level ≡ level
same_rate rate now level is = let same : (level.rate == rate) ≡ true = eq-eqb level.rate rate is in rw same refl

-- .. stay as they are
pub followed_before : (start : RunStart) (past : List Event) (now : ℕ) (ds : List Download) (levels : List Level)
    → HaveRates start past ds levels → length levels ≤ length ds
    → levels ≡ all_followed (take (length levels) (map (own_rate start past) ds)) now levels
followed_before start past now ds [] have few = refl
followed_before start past now [] (level ∷ levels) have few = absurd (omega (arith, few))
followed_before start past now (d ∷ ds) (level ∷ levels) have few =
    let first = same_rate (own_rate start past d) now level (have 0 d refl (omega arith)) in
    let rest = followed_before start past now ds levels
    (λ place x there within. have (suc place) x there (omega (arith, within))) (omega (arith, few)) in
    λ i. sym first i ∷ rest i
