-- Worked runs, and what they are to say.
use Rattle.std.specs.Prelude.{◌≡◌, ℕ, pos, Bool, true, false, Option, Some, None, List, [], ◌∷◌, codes, map}
use Rattle.std.specs.List.{range_with_len}
use Rattle.dl_kinds.specs.declared.claims.Claim.{Claim}
use Rattle.dl_kinds.specs.declared.gid.Gid.{Gid}
use Rattle.dl_kinds.specs.declared.gid_key.GidKey.{GidKey}
use Rattle.dl_kinds.specs.declared.runs.Moment.{Moment}
use Rattle.dl_queue.specs.declared.kinds.How.TheVariants.{Cur}
use Rattle.dl_queue.specs.declared.kinds.Queued.{Queued}
use Rattle.option_set.specs.Values.{default_values, with_setting}
use Rattle.option_set.specs.declared.kinds.Num.TheVariants.{MaxConcurrentDownloads}
use Rattle.option_set.specs.declared.setting.Assigned.TheVariants.{Number}
use Rattle.span_map.specs.declared.files.FileLen.{FileLen}
use Rattle.dl_history.specs.OwnEvents.{OwnEvent, Opens, Grants, Lands, Halts}
use Rattle.dl_history.specs.StandingClaims.{standing_claims}
use Rattle.dl_history.specs.PayloadParts.{is_landed_in}
use Rattle.mirror_hosts.specs.Hosts.{numbers_of_hosts}
use Rattle.file_choice.specs.Selected.{holds_selected, is_selected}
use Rattle.machine_core.specs.OwnParts.{own_of}
use Rattle.machine_core.specs.Replays.{queue_in}
use Rattle.machine_core.specs.Starts.{RunStart}
use Rattle.machine_core.specs.declared.calls.Call.TheVariants.{AddUri, Pause, Unpause, ChangePosition, Shutdown}
use Rattle.machine_core.specs.declared.events.Event.{Event}
use Rattle.machine_core.specs.declared.events.Event.TheVariants.{Called, Opened, Claimed, Landed, Stopped}

abbrev pub at_zero : Moment
at_zero = record { 0 = 0 }

-- one download may be active at a time, and gids are made from 1
abbrev pub one_at_once : RunStart
one_at_once = record { gids = 1; global = with_setting default_values (Number MaxConcurrentDownloads 1); doors = 0 }

abbrev pub added_uri : Event
added_uri = Called 0 (AddUri (codes "http://m.test/a" ∷ []) [] None) at_zero

abbrev pub gid_at : ℕ → Gid
gid_at number = record { 0 = number }

-- the ids of the first three downloads
abbrev pub first_id : ℕ
first_id = 1

abbrev pub second_id : ℕ
second_id = 11400714819323198486

abbrev pub third_id : ℕ
third_id = 4354685564936845355

abbrev pub key_of_first : GidKey
key_of_first = record { value = first_id; digits = 16 }

abbrev pub waits : ℕ → Bool → Queued
waits number paused = record { gid = gid_at number; paused = paused }

-- ---- three downloads, of which the first is paused, goes on waiting, and is moved behind the third

abbrev pub three_added : List Event
three_added = added_uri ∷ added_uri ∷ added_uri ∷ []

abbrev pub first_paused : List Event
first_paused = Called 0 (Pause key_of_first) at_zero ∷ three_added

abbrev pub first_waits : List Event
first_waits = Called 0 (Unpause key_of_first) at_zero ∷ first_paused

abbrev pub first_moved : List Event
first_moved = Called 0 (ChangePosition key_of_first (pos 1) Cur) at_zero ∷ first_waits

pub record QueueMoves : Type 0 where
  pub active : (queue_in one_at_once three_added).active ≡ gid_at first_id ∷ []
  pub waiting : (queue_in one_at_once three_added).waiting ≡ waits second_id false ∷ waits third_id false ∷ []
  pub next : (queue_in one_at_once first_paused).active ≡ gid_at second_id ∷ []
  pub front : (queue_in one_at_once first_paused).waiting ≡ waits first_id true ∷ waits third_id false ∷ []
  pub in_place : (queue_in one_at_once first_waits).waiting ≡ waits first_id false ∷ waits third_id false ∷ []
  pub behind : (queue_in one_at_once first_moved).waiting ≡ waits third_id false ∷ waits first_id false ∷ []

-- ---- a claim of a download that is paused and goes on

abbrev pub claim_of_all : Claim
claim_of_all =
    record { id = 0; worker = 0; mirror = 0; run = record { first = 0; count = 2 }; victim = None; since = at_zero }

abbrev pub half_landed : List Event
half_landed =
    Landed (gid_at first_id) 0 0 (record { first = 0; count = 1 }) at_zero ∷ Claimed (gid_at first_id) claim_of_all
    ∷ Opened (gid_at first_id) (false ∷ []) (false ∷ false ∷ []) at_zero ∷ added_uri ∷ []

abbrev pub paused_half : List Event
paused_half = Called 0 (Pause key_of_first) at_zero ∷ half_landed

abbrev pub went_on_half : List Event
went_on_half = Called 0 (Unpause key_of_first) at_zero ∷ paused_half

abbrev pub own_events : List OwnEvent
own_events =
    Lands 0 0 (record { first = 0; count = 1 }) ∷ Grants claim_of_all ∷ Opens (false ∷ []) (false ∷ false ∷ [])
    at_zero ∷ []

pub record ClaimHalts : Type 0 where
  pub before : own_of one_at_once half_landed (gid_at first_id) ≡ own_events
  pub paused : own_of one_at_once paused_half (gid_at first_id) ≡ Halts false ∷ own_events
  pub went_on : own_of one_at_once went_on_half (gid_at first_id) ≡ Halts false ∷ own_events
  pub stopped : own_of one_at_once (Stopped ∷ half_landed) (gid_at first_id) ≡ Halts false ∷ own_events
  pub shut : own_of one_at_once (Called 0 Shutdown at_zero ∷ half_landed) (gid_at first_id) ≡ Halts false ∷ own_events
  pub other : own_of one_at_once half_landed (gid_at second_id) ≡ []
  pub landed : map (is_landed_in 32768 (own_of one_at_once went_on_half (gid_at first_id)))
      (range_with_len 0 2) ≡ true ∷ false ∷ []
  pub stands : standing_claims (own_of one_at_once half_landed (gid_at first_id)) ≡ claim_of_all ∷ []
  pub ends : standing_claims (own_of one_at_once went_on_half (gid_at first_id)) ≡ []

-- ---- the second of two files is selected

abbrev pub two_files : List FileLen
two_files =
    record { path = codes "n" ∷ codes "x" ∷ []; len = 16384 } ∷
    record { path = codes "n" ∷ codes "y" ∷ []; len = 16384 } ∷ []

abbrev pub selects : Option (List ℕ) → List Bool
selects text =
    map (λ piece. holds_selected 32768 16384 (is_selected text 2) piece 1 0
    two_files)
    (range_with_len 0 2)

pub record SecondSelected : Type 0 where
  pub second : selects (Some (codes "2")) ≡ false ∷ true ∷ []
  pub range : selects (Some (codes "1-2")) ≡ true ∷ true ∷ []
  pub above : selects (Some (codes "3-9")) ≡ true ∷ true ∷ []
  pub first_and_above : selects (Some (codes "9,1")) ≡ true ∷ false ∷ []
  pub all : selects None ≡ true ∷ true ∷ []

-- ---- mirrors on two hosts

pub record HostsNumbered : Type 0 where
  pub numbers : numbers_of_hosts (codes "a.test" ∷ codes "b.test" ∷ codes "a.test" ∷ []) ≡ 0 ∷ 1 ∷ 0 ∷ []

pub record WorkedRuns : Type 0 where
  pub queue_moves : QueueMoves
  pub claim_halts : ClaimHalts
  pub second_selected : SecondSelected
  pub hosts_numbered : HostsNumbered
