-- The levels of the buckets from one turn to the next.
use Rattle.std.proofs.Common.{◌≡◌, ℕ, true, Option, None, List, [], ◌∷◌, ◌++◌, length, map, refl, sym, ap, ◌∙◌, arith}
use Rattle.std.specs.Prelude.{All, slice_get}
use Rattle.std.specs.Option.{is_some}
use Rattle.std.proofs.lemmas.Bool.{eq-eqb}
use Rattle.std.proofs.lemmas.List.Elements.{All-head, All-tail}
use Rattle.machine_core.specs.Replays.{download_of}
use Rattle.machine_core.specs.Starts.{Download, RunStart}
use Rattle.machine_core.specs.declared.events.Event.{Event}
use Rattle.rate_limits.specs.Shared.{RunLevels}
use Rattle.rate_tokens.specs.Level.{Level, full_level}
use Rattle.engine_turns.specs.Levels.{Spending, downloads_of, level_of_download, level_on, own_rate, own_spending, overall_rate, spent_by}
use Rattle.engine_turns.specs.Told.{RunTurn, history_of, moment_in}
use Rattle.engine_core.specs.Buckets.{HasRates, LevelsGoOn, own_levels_on}
use Rattle.engine_core.proofs.Calm.{StaysUncalled}

-- ---- nothing is spent and no rate changes

pub level_still : (old new now : ℕ) (level : Level) → new ≡ old → level_on None old new now level ≡ level
level_still old new now level same = let eq = eq-eqb old new (sym same) in rw eq refl

module _ (start : RunStart) (past after : List Event) (stays : StaysUncalled start past after) where
  own_still : (now : ℕ) (ds : List Download) (levels : List Level) → length levels ≡ length ds
      → own_levels_on start past after None now ds levels ≡ levels
  own_still now [] [] many = refl
  own_still now [] (level ∷ levels) many = absurd (omega (arith, many))
  own_still now (d ∷ ds) [] many = absurd (omega (arith, many))
  own_still now (d ∷ ds) (level ∷ levels) many =
      let first = level_still (own_rate start past d) (own_rate start after d) now level (stays.own d) in
      let rest = own_still now ds levels (omega (arith, many)) in
      λ i. first i ∷ rest i

  pub rates_stay : (levels : RunLevels) → HasRates start past levels → HasRates start after levels
  rates_stay levels rates = record {
    many = rates.many ∙ ap length (sym stays.downloads);
    overall = rates.overall ∙ sym stays.overall;
    own = λ place download there.
        rates.own place download (ap (λ (ds : List Download). slice_get ds place) (sym stays.downloads) ∙ there)
        ∙ sym (stays.own download);
  }

  pub levels_stay : (now : ℕ) (levels : RunLevels) → HasRates start past levels
      → LevelsGoOn start past after None now levels levels
  levels_stay now levels rates = record {
    overall = sym (level_still (overall_rate start past) (overall_rate start after) now levels.overall stays.overall);
    own = sym (own_still now (downloads_of start after) levels.own (rates_stay levels rates).many);
  }

-- ---- a turn

module _ (start : RunStart) (t : RunTurn) (told : List RunTurn) where
  abbrev before : List Event
  before = history_of told

  abbrev behind : List Event
  behind = history_of (t ∷ told)

  abbrev spent : Option Spending
  spent = spent_by start before t.op t.answer.said

  abbrev at : ℕ
  at = (moment_in told t.op).0

  new_levels : (more : List Download) → All (λ d. download_of (downloads_of start before) d.gid ≡ None) more
      → map (level_of_download start (t ∷ told)) more ≡ own_levels_on start before behind spent at more []
  new_levels [] fresh = refl
  new_levels (d ∷ more) fresh =
      let none = All-head (λ (x : Download). download_of (downloads_of start before) x.gid ≡ None) d more fresh in
      let rest = new_levels more (All-tail (λ (x : Download). download_of (downloads_of start before) x.gid ≡ None) d more fresh) in
      rw none (λ i. full_level (own_rate start behind d) at ∷ rest i)

  pub turn_levels : (ds more : List Download)
      → All (λ d. is_some (download_of (downloads_of start before) d.gid) ≡ true) ds
      → All (λ d. download_of (downloads_of start before) d.gid ≡ None) more
      → map (level_of_download start (t ∷ told)) (ds ++ more)
      ≡ own_levels_on start before behind spent at (ds ++ more) (map (level_of_download start told) ds)
  turn_levels [] more there fresh = new_levels more fresh
  turn_levels (d ∷ ds) more there fresh =
      let some = All-head (λ (x : Download). is_some (download_of (downloads_of start before) x.gid) ≡ true) d ds there in
      let rest = turn_levels ds more
      (All-tail (λ (x : Download). is_some (download_of (downloads_of start before) x.gid) ≡ true) d ds there) fresh in
      rw some (λ i. level_on (own_spending d.gid spent) (own_rate start before d) (own_rate start behind d) at
      (level_of_download start told d) ∷ rest i)
