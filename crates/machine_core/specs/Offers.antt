-- What a worker gets to do next.
use Rattle.std.specs.Prelude.{◌≡◌, ◌<◌, ◌≤◌, ◌&&◌, ◌==◌, ◌++◌, ℕ, Bool, true, false, Option, Some, None, List, ◌∷◌, All, map, min, nat_le}
use Rattle.std.specs.List.{list_any}
use Rattle.dl_kinds.specs.Plan.{pieces_of}
use Rattle.dl_kinds.specs.declared.claims.Claim.{Claim}
use Rattle.dl_kinds.specs.declared.gid.Gid.{Gid}
use Rattle.dl_kinds.specs.declared.runs.Run.{Run}
use Rattle.dl_history.specs.HistoryLaws.{IsFullIn}
use Rattle.dl_history.specs.OwnEvents.{OwnEvent}
use Rattle.dl_history.specs.PayloadParts.{is_opened, is_settled_in, is_verified_in}
use Rattle.dl_queue.specs.Calls.{added_place}
use Rattle.dl_queue.specs.Lists.{QueueLists}
use Rattle.dl_queue.specs.declared.kinds.Added.{Added}
use Rattle.rate_limits.specs.Shared.{RunLevels, lesser_credit, longer_wait}
use Rattle.machine_core.specs.Choices.{IsBlockGrant, IsProbeGrant, situation_in}
use Rattle.machine_core.specs.OwnParts.{PayloadLengths, no_lengths, own_of, payload_lengths_of}
use Rattle.machine_core.specs.Replays.{is_same_gid}
use Rattle.machine_core.specs.RunLegal.{download_in, is_listed}
use Rattle.machine_core.specs.Starts.{Download, RunStart}
use Rattle.machine_core.specs.declared.events.Event.{Event}
use Rattle.machine_core.specs.declared.handed.Handed.{Handed}
use Rattle.machine_core.specs.declared.offers.Offer.{Offer}
use Rattle.machine_core.specs.declared.offers.Offer.TheVariants.{Whole, Blocks, Probe}
use Rattle.machine_core.specs.declared.offers.Offered.{Offered}
use Rattle.machine_core.specs.declared.offers.Offered.TheVariants.{Next, Held, Idle}

-- the pieces that workers compare with their digests now
pub record HandedList : Type 0 where
  pub pieces : List Handed  -- the newest first
  pub room : ℕ  -- for so many more

abbrev pub is_handed : Gid → ℕ → Handed → Bool
is_handed gid piece handed = is_same_gid gid handed.gid && handed.piece == piece

abbrev pub is_handed_out : List Handed → Gid → ℕ → Bool
is_handed_out handed gid piece = list_any (is_handed gid piece) handed

-- ---- full pieces

-- a full piece that isn't verified and wasn't settled since its last landing
pub record AwaitsFinding (total len : ℕ) (own : List OwnEvent) (piece : ℕ) : Type 0 where
  pub within : piece < pieces_of total len
  pub full : IsFullIn total len own piece
  pub unverified : is_verified_in own piece ≡ false
  pub anew : is_settled_in len own piece ≡ false

-- .. which, of a download with a metainfo file, no worker compares now
pub record IsWhole (handed : List Handed) (download : Download) (lengths : PayloadLengths) (own : List OwnEvent)
    (piece : ℕ) : Type 0 where
  pub awaits : AwaitsFinding lengths.total lengths.piece_len own piece
  pub free : is_listed download.subject ≡ true → is_handed_out handed download.gid piece ≡ false

-- the first of these
pub record IsFirstWhole (handed : List Handed) (download : Download) (lengths : PayloadLengths) (own : List OwnEvent)
    (piece : ℕ) : Type 0 where
  pub whole : IsWhole handed download lengths own piece
  pub first : (other : ℕ) → other < piece → ¬ IsWhole handed download lengths own other

abbrev pub HasNoWhole : List Handed → Download → PayloadLengths → List OwnEvent → Type 0
HasNoWhole handed download lengths own = (piece : ℕ) → ¬ IsWhole handed download lengths own piece

-- ---- a download's offer

-- the claim of an offer of blocks, under a number, to a worker, at a moment
abbrev pub offered_claim : ℕ → Run → Option ℕ → ℕ → ℕ → ℕ → Claim
offered_claim mirror run victim id worker now =
    record {
      id = id;
      worker = worker;
      mirror = mirror;
      run = run;
      victim = victim;
      since = record { 0 = now };
    }

abbrev pub no_blocks : Run
no_blocks = record { first = 0; count = 0 }

-- a full piece goes before blocks; blocks are those that the download is granted next
abbrev pub IsOpenedOffer : List Handed → RunStart → List Event → Download → PayloadLengths → ℕ → Offer → Type 0
IsOpenedOffer handed start past download lengths now (Whole piece) =
    IsFirstWhole handed download lengths (own_of start past download.gid) piece
IsOpenedOffer handed start past download lengths now (Blocks mirror run victim) =
    HasNoWhole handed download lengths (own_of start past download.gid)
    × ((id worker : ℕ) → IsBlockGrant (situation_in start past download.gid download lengths)
    (offered_claim mirror run victim id worker now))
IsOpenedOffer handed start past download lengths now (Probe mirror) = ⊥

-- a probe, while the length isn't known and none stands
abbrev pub IsProbeOffer : RunStart → List Event → Download → ℕ → Offer → Type 0
IsProbeOffer start past download now (Probe mirror) =
    (id worker : ℕ) → IsProbeGrant (situation_in start past download.gid download no_lengths)
    (offered_claim mirror no_blocks None id worker now)
IsProbeOffer start past download now other = ⊥

-- by whether the length is known; a download that is to be opened offers nothing
abbrev pub IsOfferBy : List Handed → RunStart → List Event → Download → Option PayloadLengths → ℕ → Offer → Type 0
IsOfferBy handed start past download None now offer = IsProbeOffer start past download now offer
IsOfferBy handed start past download (Some lengths) now offer =
    (is_opened (own_of start past download.gid) ≡ true)
    × IsOpenedOffer handed start past download lengths now offer

-- what an active download offers a worker at this moment, while these pieces are handed out
pub record IsOffer (handed : List Handed) (start : RunStart) (past : List Event) (now : ℕ) (gid : Gid) (offer : Offer)
    : Type 0 where
  pub download : Download
  pub added : download_in start past gid ≡ Some download
  pub is : IsOfferBy handed start past download (payload_lengths_of start past gid) now offer

-- ---- the first offer that its credit affords

-- only blocks need bytes to be let through: at least one
abbrev pub affords : ℕ → Offer → Bool
affords credit (Whole piece) = true
affords credit (Blocks mirror run victim) = nat_le 1 credit
affords credit (Probe mirror) = true

-- what is known of an active download's turn to be let through: its credit in bytes, and how long until it has one
pub record Credit : Type 0 where
  pub gid : Gid
  pub bytes : ℕ
  pub wait : ℕ

abbrev pub gid_credit : List Added → RunLevels → ℕ → Gid → Credit
gid_credit added levels now gid =
    record {
      gid = gid;
      bytes = lesser_credit levels (added_place gid added) now;
      wait = longer_wait levels (added_place gid added) now;
    }

-- one for each active download, in order
abbrev pub active_credits : QueueLists → RunLevels → ℕ → List Credit
active_credits queue levels now = map (gid_credit queue.added levels now) queue.active

-- `Offers` says which offers a download has
abbrev pub HasNoOffer : (Gid → Offer → Type 0) → Credit → Type 0
HasNoOffer Offers c = (offer : Offer) → ¬ Offers c.gid offer

-- none of its offers is afforded
abbrev pub HasNoneAfforded : (Gid → Offer → Type 0) → Credit → Type 0
HasNoneAfforded Offers c = (offer : Offer) → Offers c.gid offer → affords c.bytes offer ≡ false

-- the first active download that has an offer which its credit affords
pub record IsNextOffer (Offers : Gid → Offer → Type 0) (credits : List Credit) (gid : Gid) (offer : Offer) : Type 0
  where
    pub before : List Credit
    pub credit : Credit
    pub behind : List Credit
    pub cut : credits ≡ before ++ credit ∷ behind
    pub gid_is : credit.gid ≡ gid
    pub is : Offers gid offer
    pub afforded : affords credit.bytes offer ≡ true
    pub first : All (HasNoneAfforded Offers) before

-- no active download has an offer
abbrev pub IsIdle : (Gid → Offer → Type 0) → List Credit → Type 0
IsIdle Offers credits = All (HasNoOffer Offers) credits

-- a download would have to wait no longer than any other with an offer
abbrev pub WaitsNoLonger : (Gid → Offer → Type 0) → ℕ → Credit → Type 0
WaitsNoLonger Offers wait c =
    (offer : Offer) → Offers c.gid offer → (affords c.bytes offer ≡ false) × (wait ≤ c.wait)

-- the lesser of two waits, the first of which there may be
abbrev pub least_wait : Option ℕ → ℕ → ℕ
least_wait None other = other
least_wait (Some wait) other = min wait other

-- some have, and none is afforded: the least wait of these
pub record IsHeldUp (Offers : Gid → Offer → Type 0) (credits : List Credit) (wait : ℕ) : Type 0 where
  pub before : List Credit
  pub credit : Credit
  pub behind : List Credit
  pub cut : credits ≡ before ++ credit ∷ behind
  pub offer : Offer
  pub is : Offers credit.gid offer
  pub wait_is : wait ≡ credit.wait
  pub least : All (WaitsNoLonger Offers wait) credits

-- what is answered
abbrev pub IsOffered : (Gid → Offer → Type 0) → List Credit → Offered → Type 0
IsOffered Offers credits (Next gid offer) = IsNextOffer Offers credits gid offer
IsOffered Offers credits (Held wait) = IsHeldUp Offers credits wait
IsOffered Offers credits Idle = IsIdle Offers credits
