-- What downloads offer, by what is kept of them.
use Rattle.std.specs.Prelude.{◌≡◌, ◌<◌, ◌≤◌, ◌&&◌, ◌||◌, ℕ, Bool, true, false, not, Option, Some, List, [], length, slice_get}
use Rattle.std.specs.Int.{div_ceil}
use Rattle.std.specs.Option.{is_some, option_and_then, option_map_or}
use Rattle.dl_kinds.specs.declared.claims.TheConstants.{MAX_MIRRORS}
use Rattle.dl_kinds.specs.declared.gid.Gid.{Gid}
use Rattle.dl_kinds.specs.declared.plan.TheConstants.{BLOCK_LEN}
use Rattle.dl_history.specs.Accounts.{Account}
use Rattle.dl_queue.specs.Calls.{adding_place}
use Rattle.dl_queue.specs.declared.kinds.Added.{Added}
use Rattle.one_download.specs.DownloadViews.{IsToSettle, is_opened_by}
use Rattle.one_download.specs.Grants.{IsBlockChoice, IsProbeMirror, situation_with}
use Rattle.one_download.specs.declared.choices.Split.{Split}
use Rattle.option_set.specs.Values.{OptionValues, number_value}
use Rattle.option_set.specs.declared.kinds.Num.TheVariants as num
use Rattle.segment_claim.specs.Situation.{Situation}
use Rattle.machine_core.specs.Offers.{is_handed_out}
use Rattle.machine_core.specs.declared.calls.Call.{Call}
use Rattle.machine_core.specs.declared.calls.Call.TheVariants.{AddTorrent}
use Rattle.machine_core.specs.declared.entries.Entry.{Entry}
use Rattle.machine_core.specs.declared.events.Event.{Event}
use Rattle.machine_core.specs.declared.events.Event.TheVariants.{Called}
use Rattle.machine_core.specs.declared.handed.Handed.{Handed}
use Rattle.machine_core.specs.declared.offers.Offer.{Offer}
use Rattle.machine_core.specs.declared.offers.Offer.TheVariants.{Whole, Blocks, Probe}

-- ---- lengths

abbrev pub adds_torrent : Call → Bool
adds_torrent (AddTorrent meta uris options position) = true
adds_torrent other = false

abbrev pub is_torrent_event : Event → Bool
is_torrent_event (Called session asked now) = adds_torrent asked
is_torrent_event e = false

-- the call at this place of the journal added a download with a metainfo file
abbrev pub is_torrent_at : List Event → ℕ → Bool
is_torrent_at events place = option_map_or is_torrent_event (slice_get events place) false

-- the length of its payload is known: of its metainfo file, or told by a probe
abbrev pub is_sized : Bool → Account → Bool
is_sized listed k = listed || is_some k.told

abbrev pub is_sized_entry : List Event → Entry → Bool
is_sized_entry events x = is_sized (is_torrent_at events x.called) x.state.account

-- .. and it isn't opened
abbrev pub is_waiting_to_open : List Event → Entry → Bool
is_waiting_to_open events x = is_sized_entry events x && not (is_opened_by x.state.account)

-- what is kept of the download of a gid
abbrev pub kept_entry : List Added → List Entry → Gid → Option Entry
kept_entry added entries gid = option_and_then (slice_get entries) (adding_place added gid)

abbrev pub opens_next : List Added → List Entry → List Event → Gid → Bool
opens_next added entries events gid =
    option_map_or (is_waiting_to_open events) (kept_entry added entries gid) false

-- ---- offers

-- how the options split a payload
abbrev pub split_by : OptionValues → Split
split_by options =
    record {
      claims = number_value options num.Split;
      per_host = number_value options num.MaxConnectionPerServer;
      min_blocks = div_ceil (number_value options num.MinSplitSize) BLOCK_LEN;
    }

abbrev pub kept_situation : Entry → Situation
kept_situation x = situation_with x.state (split_by x.options) x.hosts.items

-- a full piece to be settled that, of a download with a metainfo file, isn't handed out
pub record MayBeHanded (handed : List Handed) (listed : Bool) (x : Entry) (piece : ℕ) : Type 0 where
  pub settle : IsToSettle x.state.account piece
  pub free : listed ≡ true → is_handed_out handed x.gid piece ≡ false

pub record IsFirstToHand (handed : List Handed) (listed : Bool) (x : Entry) (piece : ℕ) : Type 0 where
  pub is : MayBeHanded handed listed x piece
  pub first : (other : ℕ) → other < piece → ¬ MayBeHanded handed listed x other

abbrev pub HasNoneToHand : List Handed → Bool → Entry → Type 0
HasNoneToHand handed listed x = (piece : ℕ) → ¬ MayBeHanded handed listed x piece

-- a full piece goes before blocks
abbrev pub IsOpenedKeptOffer : List Handed → Bool → Entry → ℕ → Offer → Type 0
IsOpenedKeptOffer handed listed x now (Whole piece) = IsFirstToHand handed listed x piece
IsOpenedKeptOffer handed listed x now (Blocks mirror run victim) =
    HasNoneToHand handed listed x
    × IsBlockChoice (kept_situation x) now (record { run = run; mirror = mirror; victim = victim })
IsOpenedKeptOffer handed listed x now (Probe mirror) = ⊥

abbrev pub IsKeptProbeOffer : Entry → Offer → Type 0
IsKeptProbeOffer x (Probe mirror) = (x.state.account.standing ≡ []) × IsProbeMirror (kept_situation x) mirror
IsKeptProbeOffer x other = ⊥

-- a probe while the length isn't known, and nothing until it is opened
abbrev pub IsSizedKeptOffer : Bool → List Handed → Bool → Entry → ℕ → Offer → Type 0
IsSizedKeptOffer false handed listed x now offer = IsKeptProbeOffer x offer
IsSizedKeptOffer true handed listed x now offer =
    (is_opened_by x.state.account ≡ true) × IsOpenedKeptOffer handed listed x now offer

abbrev pub IsKeptOffer : List Event → List Handed → Entry → ℕ → Offer → Type 0
IsKeptOffer events handed x now offer =
    IsSizedKeptOffer (is_sized_entry events x) handed (is_torrent_at events x.called) x now offer

-- .. of the download of a gid
pub record IsGidOffer (added : List Added) (entries : List Entry) (events : List Event) (handed : List Handed)
    (now : ℕ) (gid : Gid) (offer : Offer) : Type 0 where
  pub entry : Entry
  pub there : kept_entry added entries gid ≡ Some entry
  pub is : IsKeptOffer events handed entry now offer

-- ---- what a choice needs

-- each of its mirrors has a host
pub record HasHosts (x : Entry) : Type 0 where
  pub each : length x.hosts.items ≡ x.state.mirrors
  pub few : length x.hosts.items ≤ MAX_MIRRORS

abbrev pub HaveHosts : List Entry → Type 0
HaveHosts entries = (i : ℕ) (x : Entry) → slice_get entries i ≡ Some x → HasHosts x
