-- What the buckets of a run hold, by its turns.
use Rattle.std.specs.Prelude.{ℕ, ◌==◌, Option, Some, None, List, [], ◌∷◌, if◌then◌else◌, map, filter}
use Rattle.std.specs.Option.{is_some}
use Rattle.dl_kinds.specs.declared.gid.Gid.{Gid}
use Rattle.dl_history.specs.StandingClaims.{stands_in}
use Rattle.option_set.specs.Values.{number_value}
use Rattle.option_set.specs.declared.kinds.Num.TheVariants.{MaxDownloadLimit, MaxOverallDownloadLimit}
use Rattle.rate_tokens.specs.Calls.{RateSet, Taken}
use Rattle.rate_tokens.specs.Level.{Level, full_level, level_by}
use Rattle.machine_core.specs.Choices.{options_now}
use Rattle.machine_core.specs.OwnParts.{own_of}
use Rattle.machine_core.specs.Replays.{is_same_gid, replay_of}
use Rattle.machine_core.specs.RunLegal.{download_in}
use Rattle.machine_core.specs.Starts.{Download, RunStart}
use Rattle.machine_core.specs.declared.events.Event.{Event}
use Rattle.engine_turns.specs.Told.{RunTurn, history_of, moment_in}
use Rattle.engine_turns.specs.declared.operations.Grant.TheVariants.{Fetch}
use Rattle.engine_turns.specs.declared.operations.Operation.{Operation}
use Rattle.engine_turns.specs.declared.operations.Operation.TheVariants.{More}
use Rattle.engine_turns.specs.declared.operations.Said.{Said}
use Rattle.engine_turns.specs.declared.operations.Said.TheVariants.{Grant, Allow}

abbrev pub downloads_of : RunStart → List Event → List Download
downloads_of start past = (replay_of start past).downloads

-- ---- rates, in bytes a second

abbrev pub overall_rate : RunStart → List Event → ℕ
overall_rate start past = number_value (replay_of start past).global MaxOverallDownloadLimit

abbrev pub own_rate : RunStart → List Event → Download → ℕ
own_rate start past download = number_value (options_now start past download) MaxDownloadLimit

-- ---- bytes that an answer lets go

pub record Spending : Type 0 where
  pub gid : Gid
  pub bytes : ℕ

abbrev pub spending_of : List Gid → ℕ → Option Spending
spending_of [] bytes = None
spending_of (gid ∷ gids) bytes = Some (record { gid = gid; bytes = bytes })

-- the downloads of which a claim stands under this number: one at most
abbrev pub homes_of : RunStart → List Event → ℕ → List Gid
homes_of start past id =
    map (λ (download : Download). download.gid)
    (filter (λ (download : Download). stands_in (own_of start past download.gid) id) (downloads_of start past))

abbrev pub spent_by : RunStart → List Event → Operation → Said → Option Spending
spent_by start past op (Grant (Fetch grant)) = Some (record { gid = grant.gid; bytes = grant.allow })
spent_by start past (More claim want now) (Allow bytes) = spending_of (homes_of start past claim) bytes
spent_by start past op said = None

-- ---- levels

-- a rate that stays as it is is no call of a bucket
abbrev pub with_new_rate : (old new now : ℕ) → Level → Level
with_new_rate old new now level = if old == new then level else level_by (RateSet new now) level

abbrev pub with_spending : Option Spending → ℕ → Level → Level
with_spending None now level = level
with_spending (Some spending) now level = level_by (Taken spending.bytes now) level

-- what of it a download spent
abbrev pub own_spending : Gid → Option Spending → Option Spending
own_spending gid None = None
own_spending gid (Some spending) = if is_same_gid gid spending.gid then Some spending else None

-- bytes are taken before a rate is set: no turn does both
abbrev pub level_on : Option Spending → (old new now : ℕ) → Level → Level
level_on spending old new now level = with_new_rate old new now (with_spending spending now level)

abbrev pub overall_level : RunStart → List RunTurn → Level
overall_level start [] = full_level (overall_rate start []) 0
overall_level start (t ∷ before) =
    let past = history_of before in
    level_on (spent_by start past t.op t.answer.said) (overall_rate start past)
    (overall_rate start (history_of (t ∷ before))) (moment_in before t.op).0 (overall_level start before)

-- of a download from its adding on
abbrev pub level_of_download : RunStart → List RunTurn → Download → Level
level_of_download start [] download = full_level 0 0
level_of_download start (t ∷ before) download =
    let past = history_of before in
    let now = (moment_in before t.op).0 in
    let rate = own_rate start (history_of (t ∷ before)) download in
    let spent = own_spending download.gid (spent_by start past t.op t.answer.said) in
    if is_some (download_in start past download.gid)
    then level_on spent (own_rate start past download) rate now (level_of_download start before download)
    else full_level rate now

-- in the order of adding
abbrev pub own_levels : RunStart → List RunTurn → List Level
own_levels start told = map (level_of_download start told) (downloads_of start (history_of told))
