-- Which claim a download is granted next.
use Rattle.std.specs.Prelude.{◌≡◌, ◌⊎◌, ◌<◌, ℕ, Bool, true, false, if◌then◌else◌, Option, Some, None, List, [], ◌∷◌, ◌++◌, length}
use Rattle.std.specs.Int.{div_ceil}
use Rattle.dl_kinds.specs.declared.claims.Claim.{Claim}
use Rattle.dl_kinds.specs.declared.gid.Gid.{Gid}
use Rattle.dl_kinds.specs.declared.plan.TheConstants.{BLOCK_LEN}
use Rattle.mirror_blame.specs.Choice.{IsChoice}
use Rattle.mirror_blame.specs.Marks.{counted}
use Rattle.mirror_hosts.specs.Hosts.{host_numbers}
use Rattle.option_set.specs.Values.{OptionValues, number_value}
use Rattle.option_set.specs.declared.kinds.Num.TheVariants as num
use Rattle.segment_claim.specs.Free.{IsFreeGrant}
use Rattle.segment_claim.specs.Situation.{Situation, host_loads}
use Rattle.segment_claim.specs.Theft.{IsTheft, stolen_claim}
use Rattle.slow_steal.specs.declared.theft.Steal.{Steal}
use Rattle.dl_history.specs.Accounts.{Account, account_of}
use Rattle.dl_history.specs.OwnEvents.{OwnEvent}
use Rattle.dl_history.specs.PayloadParts.{is_opened, blames_in}
use Rattle.machine_core.specs.OwnParts.{PayloadLengths, no_lengths, own_of, payload_lengths_of}
use Rattle.machine_core.specs.Replays.{queue_in, keyed_gid, is_same_gid, with_settings}
use Rattle.machine_core.specs.Starts.{RunStart, Download, Subject, Listed, Unlisted}
use Rattle.machine_core.specs.Wanted.{wanted_pieces}
use Rattle.machine_core.specs.declared.calls.Call.TheVariants as call
use Rattle.machine_core.specs.declared.events.Event.{Event}
use Rattle.machine_core.specs.declared.events.Event.TheVariants.{Called}

-- ---- options

abbrev pub is_keyed : Option Gid → Gid → Bool
is_keyed None gid = false
is_keyed (Some keyed) gid = is_same_gid gid keyed

-- the options of a download: those that it began with, and each change since
abbrev pub options_now : RunStart → List Event → Download → OptionValues
options_now start [] download = download.options
options_now start (Called session (call.ChangeOption key options) now ∷ before) download =
    if is_keyed (keyed_gid (queue_in start before) key) download.gid
    then with_settings (options_now start before download) options
    else options_now start before download
options_now start (e ∷ before) download = options_now start before download

-- ---- mirrors

-- the URLs of a download's mirrors, in the order of their numbers
abbrev pub mirror_urls : Subject → List (List ℕ)
mirror_urls (Listed meta uris) = meta.seeds ++ uris
mirror_urls (Unlisted uris) = uris

-- ---- the choice

-- what the choice of a claim goes by, of a download with these lengths
abbrev pub situation_by : Account → PayloadLengths → Download → List OwnEvent → OptionValues → Situation
situation_by k lengths download own options =
    record {
      total = lengths.total;
      piece_len = lengths.piece_len;
      landed = k.progress.landed;
      sole = k.progress.sole;
      wanted = wanted_pieces download lengths;
      standing = k.standing;
      closed = k.closed;
      max_tries = number_value download.options num.MaxTries;
      marks = counted (number_value download.options num.MaxTries) (blames_in own);
      hosts = host_numbers (mirror_urls download.subject);
      per_host = number_value options num.MaxConnectionPerServer;
      split = number_value options num.Split;
      min_blocks = div_ceil (number_value options num.MinSplitSize) BLOCK_LEN;
    }

abbrev pub situation_in : RunStart → List Event → Gid → Download → PayloadLengths → Situation
situation_in start past gid download lengths =
    let own = own_of start past gid in
    situation_by (account_of lengths.total lengths.piece_len own) lengths download own
    (options_now start past download)

-- a probe of the whole payload, at the mirror that is chosen for the first piece
pub record IsProbeGrant (s : Situation) (claim : Claim) : Type 0 where
  pub alone : s.standing ≡ []
  pub first : claim.run.first ≡ 0
  pub count : claim.run.count ≡ 0
  pub mirror : IsChoice (length s.hosts) s.max_tries s.marks 0 0 (host_loads s) s.per_host claim.mirror
  pub victim : claim.victim ≡ None

-- blocks stolen where nothing is free
pub record IsTheftGrant (s : Situation) (claim : Claim) : Type 0 where
  pub steal : Steal
  pub theft : IsTheft s claim.since.0 steal claim.mirror
  pub is : claim ≡ stolen_claim claim.id claim.worker steal claim.mirror claim.since.0

-- fewer claims stand than the payload is split into: the free claim, and without one the theft
pub record IsBlockGrant (s : Situation) (claim : Claim) : Type 0 where
  pub few : length s.standing < s.split
  pub grant : IsFreeGrant s claim.id claim.worker claim.since.0 claim ⊎ IsTheftGrant s claim

-- by whether the length is known: a probe, or blocks once the download is opened
abbrev pub IsGrantBy : RunStart → List Event → Gid → Download → Option PayloadLengths → Claim → Type 0
IsGrantBy start past gid download None claim =
    IsProbeGrant (situation_in start past gid download no_lengths) claim
IsGrantBy start past gid download (Some lengths) claim =
    (is_opened (own_of start past gid) ≡ true)
    × IsBlockGrant (situation_in start past gid download lengths) claim

-- the claim is the download's choice
abbrev pub IsGranted : RunStart → List Event → Gid → Download → Claim → Type 0
IsGranted start past gid download claim =
    IsGrantBy start past gid download (payload_lengths_of start past gid) claim
