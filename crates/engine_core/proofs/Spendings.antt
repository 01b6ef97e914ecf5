-- Bytes that a download is let take, and the rates of buckets that go on.
use Rattle.std.proofs.Common.{◌≡◌, ℕ, ◌+◌, ◌<◌, zero, suc, Bool, true, false, Option, Some, None, List, [], ◌∷◌, length, refl, sym, ap, ◌∙◌, subst, arith}
use Rattle.std.specs.Prelude.{◌==◌, slice_get, slice_index_or, slice_set}
use Rattle.std.specs.List.{position_or_len}
use Rattle.std.proofs.lemmas.Bool.{eq-eqb, eqb-true, ne_eqb}
use Rattle.dl_kinds.specs.declared.gid.Gid.{Gid}
use Rattle.machine_core.specs.MachineViews.{place_in}
use Rattle.machine_core.specs.Replays.{download_of, is_download, is_same_gid}
use Rattle.machine_core.specs.Starts.{Download, RunStart}
use Rattle.machine_core.specs.declared.events.Event.{Event}
use Rattle.rate_limits.specs.Shared.{RunLevels, levels_taken}
use Rattle.rate_tokens.specs.Calls.{Taken}
use Rattle.rate_tokens.specs.Level.{Level, full_level, level_by}
use Rattle.rate_tokens.specs.declared.bucket.Take.TheVariants.{Go}
use Rattle.engine_turns.specs.Levels.{Spending, downloads_of, level_on, overall_rate, own_rate, own_spending}
use Rattle.engine_core.specs.Buckets.{HasRates, LevelsGoOn, own_levels_on}
use Rattle.engine_core.proofs.Calm.{StaysUncalled}
use Rattle.engine_core.proofs.Downloads.{AreApart, downloads_apart}
use Rattle.engine_core.proofs.Levels.{level_still}

level_spent : (old new now : ℕ) (spending : Spending) (level : Level) → new ≡ old
    → level_on (Some spending) old new now level ≡ level_by (Taken spending.bytes now) level
level_spent old new now spending level same = let eq = eq-eqb old new (sym same) in rw eq refl

module _ (start : RunStart) (past after : List Event) (stays : StaysUncalled start past after) where
  -- ---- bytes of one download are spent

  own_others : (spending : Spending) (now : ℕ) (ds : List Download) (levels : List Level) → length levels ≡ length ds
      → download_of ds spending.gid ≡ None → own_levels_on start past after (Some spending) now ds levels ≡ levels
  own_others spending now [] [] many none = refl
  own_others spending now [] (level ∷ levels) many none = absurd (omega (arith, many))
  own_others spending now (d ∷ ds) [] many none = absurd (omega (arith, many))
  own_others spending now (d ∷ ds) (level ∷ levels) many none =
      by (is_download spending.gid d) refl (own_others spending now ds levels (omega (arith, many)))
    where
      by : (b : Bool) → is_download spending.gid d ≡ b
          → (download_of ds spending.gid ≡ None → own_levels_on start past after (Some spending) now ds levels ≡ levels)
          → own_levels_on start past after (Some spending) now (d ∷ ds) (level ∷ levels) ≡ level ∷ levels
      by true is others = absurd (let some : Some d ≡ None = (rw is at none) in cc)
      by false is others =
          let other : is_same_gid d.gid spending.gid ≡ false =
          ne_eqb spending.gid.0 d.gid.0 (λ same. let yes : true ≡ false = sym (eq-eqb d.gid.0 spending.gid.0 (sym same)) ∙ is in absurd cc) in
          let first = level_still (own_rate start past d) (own_rate start after d) now level (stays.own d) in
          let rest = others (rw is at none) in
          rw other (λ i. first i ∷ rest i)

  pub own_spent : (spending : Spending) (now : ℕ) (ds : List Download) (levels : List Level) → length levels ≡ length ds
      → AreApart ds → position_or_len (is_download spending.gid) ds < length ds
      → own_levels_on start past after (Some spending) now ds levels
      ≡ slice_set levels (position_or_len (is_download spending.gid) ds)
      (level_by (Taken spending.bytes now)
      (slice_index_or levels (position_or_len (is_download spending.gid) ds) (full_level 0 0)))
  own_spent spending now [] levels many apart within = absurd (omega (arith, within))
  own_spent spending now (d ∷ ds) [] many apart within = absurd (omega (arith, many))
  own_spent spending now (d ∷ ds) (level ∷ levels) many apart within =
      by (is_download spending.gid d) refl (own_spent spending now ds levels (omega (arith, many)) apart.1)
    where
      by : (b : Bool) → is_download spending.gid d ≡ b
          → (position_or_len (is_download spending.gid) ds < length ds
          → own_levels_on start past after (Some spending) now ds levels
          ≡ slice_set levels (position_or_len (is_download spending.gid) ds)
          (level_by (Taken spending.bytes now)
          (slice_index_or levels (position_or_len (is_download spending.gid) ds) (full_level 0 0))))
          → own_levels_on start past after (Some spending) now (d ∷ ds) (level ∷ levels)
          ≡ slice_set (level ∷ levels) (position_or_len (is_download spending.gid) (d ∷ ds))
          (level_by (Taken spending.bytes now)
          (slice_index_or (level ∷ levels) (position_or_len (is_download spending.gid) (d ∷ ds)) (full_level 0 0)))
      by true is later =
          let same : d.gid ≡ spending.gid = ap (λ (n : ℕ). record { 0 = n }) (eqb-true d.gid.0 spending.gid.0 is) in
          let yes : is_same_gid d.gid spending.gid ≡ true = eq-eqb spending.gid.0 d.gid.0 (sym (eqb-true d.gid.0 spending.gid.0 is)) in
          let first = level_spent (own_rate start past d) (own_rate start after d) now spending level (stays.own d) in
          let rest = own_others spending now ds levels (omega (arith, many))
          (subst (λ (gid : Gid). download_of ds gid ≡ None) same apart.0) in
          rw is (rw yes (λ i. first i ∷ rest i))
      by false is later =
          let other : is_same_gid d.gid spending.gid ≡ false =
          ne_eqb spending.gid.0 d.gid.0 (λ same. let yes : true ≡ false = sym (eq-eqb d.gid.0 spending.gid.0 (sym same)) ∙ is in absurd cc) in
          let first = level_still (own_rate start past d) (own_rate start after d) now level (stays.own d) in
          let behind : position_or_len (is_download spending.gid) ds < length ds = (let w = (rw is at within) in omega (arith, w)) in
          let rest = later behind in
          let next : 1 + position_or_len (is_download spending.gid) ds ≡ suc (position_or_len (is_download spending.gid) ds) =
          omega arith in
          rw is (rw other ((λ i. first i ∷ rest i)
          ∙ sym (ap (λ (n : ℕ). slice_set (level ∷ levels) n
          (level_by (Taken spending.bytes now) (slice_index_or (level ∷ levels) n (full_level 0 0)))) next)))

  -- both buckets let bytes of a download go
  pub levels_spent : (gid : Gid) (bytes place now : ℕ) (levels : RunLevels) → HasRates start past levels
      → place ≡ place_in start past gid → place < length (downloads_of start past)
      → LevelsGoOn start past after (Some (record { gid = gid; bytes = bytes })) now levels
      (levels_taken place now (Go bytes) levels)
  levels_spent gid bytes place now levels rates first within =
      let spending : Spending = record { gid = gid; bytes = bytes } in
      let ds = downloads_of start past in
      let spent = own_spent spending now ds levels.own rates.many (downloads_apart start past)
      (subst (λ (n : ℕ). n < length ds) first within) in
      record {
        overall = sym (level_spent (overall_rate start past) (overall_rate start after) now spending levels.overall stays.overall);
        own = sym (ap (λ (all : List Download). own_levels_on start past after (Some spending) now all levels.own) stays.downloads
            ∙ (spent ∙ ap (λ (n : ℕ). slice_set levels.own n (level_by (Taken bytes now) (slice_index_or levels.own n (full_level 0 0)))) (sym first)));
      }

  -- ---- rates

  rate_on : (spending : Option Spending) (old new now : ℕ) (level : Level) → level.rate ≡ old
      → (level_on spending old new now level).rate ≡ new
  rate_on None old new now level is = by (old == new) refl
    where
      by : (b : Bool) → (old == new) ≡ b → (level_on None old new now level).rate ≡ new
      by true same = rw same (is ∙ eqb-true old new same)
      by false other = rw other refl
  rate_on (Some spending) old new now level is = by (old == new) refl
    where
      by : (b : Bool) → (old == new) ≡ b → (level_on (Some spending) old new now level).rate ≡ new
      by true same = rw same (is ∙ eqb-true old new same)
      by false other = rw other refl

  many_on : (spent : Option Spending) (now : ℕ) (ds : List Download) (levels : List Level) → length levels ≡ length ds
      → length (own_levels_on start past after spent now ds levels) ≡ length ds
  many_on spent now [] [] many = refl
  many_on spent now [] (level ∷ levels) many = absurd (omega (arith, many))
  many_on spent now (d ∷ ds) [] many = absurd (omega (arith, many))
  many_on spent now (d ∷ ds) (level ∷ levels) many =
      ap (λ (n : ℕ). suc n) (many_on spent now ds levels (omega (arith, many)))

  own_on : (spent : Option Spending) (now : ℕ) (ds : List Download) (levels : List Level) → length levels ≡ length ds
      → ((place : ℕ) (d : Download) → slice_get ds place ≡ Some d
      → (slice_index_or levels place (full_level 0 0)).rate ≡ own_rate start past d)
      → (place : ℕ) (d : Download) → slice_get ds place ≡ Some d
      → (slice_index_or (own_levels_on start past after spent now ds levels) place (full_level 0 0)).rate ≡ own_rate start after d
  own_on spent now [] [] many rates place d there = absurd (let none : None ≡ Some d = there in cc)
  own_on spent now [] (level ∷ levels) many rates place d there = absurd (omega (arith, many))
  own_on spent now (x ∷ ds) [] many rates place d there = absurd (omega (arith, many))
  own_on spent now (x ∷ ds) (level ∷ levels) many rates zero d there =
      let same : x ≡ d = cc in
      rate_on (own_spending x.gid spent) (own_rate start past x) (own_rate start after x) now level (rates 0 x refl)
      ∙ ap (own_rate start after) same
  own_on spent now (x ∷ ds) (level ∷ levels) many rates (suc place) d there =
      own_on spent now ds levels (omega (arith, many)) (λ n e is. rates (suc n) e is) place d there

  -- buckets that go on have the rates of the options then
  pub rates_on : (spent : Option Spending) (now : ℕ) (levels new : RunLevels) → HasRates start past levels
      → LevelsGoOn start past after spent now levels new → HasRates start after new
  rates_on spent now levels new rates on =
      let ds = downloads_of start past in
      let own_is = on.own ∙ ap (λ (all : List Download). own_levels_on start past after spent now all levels.own) stays.downloads in
      record {
        many = ap (λ (ls : List Level). length ls) own_is
            ∙ (many_on spent now ds levels.own rates.many ∙ ap (λ (all : List Download). length all) (sym stays.downloads));
        overall = ap (λ (l : Level). l.rate) on.overall
            ∙ rate_on spent (overall_rate start past) (overall_rate start after) now levels.overall rates.overall;
        own = λ place d there.
            ap (λ (ls : List Level). (slice_index_or ls place (full_level 0 0)).rate) own_is
            ∙ own_on spent now ds levels.own rates.many rates.own place d
            (ap (λ (all : List Download). slice_get all place) (sym stays.downloads) ∙ there);
      }
