-- A claim comes.
use Rattle.std.proofs.Common.{◌≡◌, ◌⊎◌, ℕ, zero, suc, Bool, true, false, cond, Option, Some, None, ◌+◌, ◌-◌, ◌<◌, ◌≤◌, List, [], ◌∷◌, ◌++◌, get_or, get_or-set_same, length, set, slice_get, reverse, refl, sym, ap, ◌∙◌, subst, inl, inr, ⊎_elim, arith}
use Rattle.std.specs.Prelude.{Contains, IfNone, IsSome, OnErr, Result, Ok, Err, map, slice_index_or}
use Rattle.std.specs.List.{position_or_len}
use Rattle.std.specs.Option.{is_some, unwrap_or}
use Rattle.std.proofs.lemmas.List.{length-set, length_push}
use Rattle.std.proofs.lemmas.List.Elements.{All-cons}
use Rattle.std.proofs.lemmas.List.Sums.{sum_by-cons}
use Rattle.std.proofs.lemmas.Option.{same_Some, slice_get_read, slice_get_within}
use Rattle.dl_kinds.specs.declared.claims.Claim.{Claim}
use Rattle.dl_kinds.specs.declared.gid.Gid.{Gid}
use Rattle.dl_kinds.specs.declared.runs.Moment.{Moment}
use Rattle.dl_kinds.specs.declared.runs.Run.{Run}
use Rattle.dl_history.specs.Accounts.{Account, account_of, with_claim}
use Rattle.dl_history.specs.OwnEvents.{OwnEvent, Grants}
use Rattle.dl_history.specs.OwnLegal.{MayClaim, MayProbe}
use Rattle.dl_history.specs.PayloadParts.{is_opened, told_total}
use Rattle.dl_history.specs.StandingClaims.{granted_claims}
use Rattle.mirror_hosts.specs.Hosts.{host_numbers}
use Rattle.one_download.specs.DownloadLaws.{AccountsTellOpening, NewNumbersMayBeGranted}
use Rattle.one_download.specs.DownloadViews.{DownloadView}
use Rattle.option_set.specs.Values.{AreValues, OptionValues, number_value}
use Rattle.option_set.specs.declared.kinds.Num.TheVariants as num
use Rattle.segment_claim.specs.Free.{IsFreeGrant}
use Rattle.segment_claim.specs.Situation.{Situation}
use Rattle.segment_claim.specs.declared.limits.TheConstants.{MAX_SPLIT}
use Rattle.machine_core.specs.Choices.{IsBlockGrant, IsGrantBy, IsTheftGrant, mirror_urls, options_now, situation_in}
use Rattle.machine_core.specs.Claiming.{IsClaimAt, MayBeGivenClaim, StaysGiven}
use Rattle.machine_core.specs.MachineParts.{KeepsDownload, KeepsHomes, KeepsRun, MachineState, kept_room}
use Rattle.machine_core.specs.MachineViews.{IsNext, MachineView, mark_spare_in, place_in}
use Rattle.machine_core.specs.Offers.{offered_claim}
use Rattle.machine_core.specs.OwnParts.{PayloadLengths, no_lengths, own_of, payload_lengths_of, with_own}
use Rattle.machine_core.specs.Replays.{is_download, is_same_gid, replay_of}
use Rattle.machine_core.specs.RunLegal.{MayBeClaimed, MayFollow, download_in, known_lengths, makes_claim, mirrors_by}
use Rattle.machine_core.specs.Starts.{Download, RunStart}
use Rattle.machine_core.specs.TurnRooms.{AreRoomier, IsRoomierEntry, IsRoomierRun}
use Rattle.machine_core.specs.declared.entries.Entry.{Entry}
use Rattle.machine_core.specs.declared.events.Event.{Event}
use Rattle.machine_core.specs.declared.events.Event.TheVariants.{Claimed}
use Rattle.machine_core.proofs.Answering.{renumbered}
use Rattle.machine_core.proofs.Here.{Here, Seen, known_here, marks_same, view_of}
use Rattle.machine_core.proofs.Hosted.{count_hosts, count_urls}
use Rattle.machine_core.proofs.Legal.{Laws, granted, parts}
use Rattle.machine_core.proofs.Lists.{contains_cases, slice_get-more}
use Rattle.machine_core.proofs.Numbered.{homes_new}
use Rattle.machine_core.proofs.Parts.{gid_is}
use Rattle.machine_core.proofs.Rooms.{added_here}
use Rattle.machine_core.proofs.Steps.{IsAt, called_set, lengths_of, own_here, set_one, untouched}
use Rattle.machine_core.proofs.Tests.{true_not_false}
use Rattle.machine_core.proofs.Told.{placed}
use Rattle.machine_core.proofs.Turns.{onto}
use Rattle.machine_core.proofs.Widening.{none_roomier, one_roomier, roomier_run, roomier_seen}
use Rattle.machine_core.proofs.Logged.{logged_on}

-- ---- homes

slice_get-push : {A : Type 0} (xs : List A) (x : A) → slice_get (xs ++ x ∷ []) (length xs) ≡ Some x
slice_get-push [] x = refl
slice_get-push (y ∷ xs) x = slice_get-push xs x

pushed_cases : {A : Type 0} (xs : List A) (x y : A) (k : ℕ) → slice_get (xs ++ x ∷ []) k ≡ Some y
    → (slice_get xs k ≡ Some y) ⊎ (x ≡ y)
pushed_cases [] x y zero is = inr (let e : Some x ≡ Some y = is in cc)
pushed_cases [] x y (suc k) is = absurd cc
pushed_cases (z ∷ xs) x y zero is = inl is
pushed_cases (z ∷ xs) x y (suc k) is = pushed_cases xs x y k is

home_where : (t : Bool) (own : List OwnEvent) (homes : List Gid) (g gid : Gid) (claim c : Claim) → is_same_gid g gid ≡ t
    → claim.id ≡ length homes → ((other : Claim) → Contains (granted_claims own) other → slice_get homes other.id ≡ Some g)
    → Contains (granted_claims (cond t (Grants claim ∷ own) own)) c → slice_get (homes ++ gid ∷ []) c.id ≡ Some g
home_where true own homes g gid claim c same number homed there =
    ⊎_elim
    (λ (is : claim ≡ c).
    ap (slice_get (homes ++ gid ∷ [])) (sym (ap (λ (x : Claim). x.id) is) ∙ number)
    ∙ (slice_get-push homes gid ∙ ap (λ (x : Gid). Some x) (gid_is g gid same)))
    (λ (more : Contains (granted_claims own) c). slice_get-more homes (gid ∷ []) c.id g (homed c more))
    (contains_cases claim (granted_claims own) c there)
home_where false own homes g gid claim c same number homed there =
    slice_get-more homes (gid ∷ []) c.id g (homed c there)

homes_more : (start : RunStart) (past : List Event) (homes : List Gid) (gid : Gid) (claim : Claim)
    → KeepsHomes start past homes → claim.id ≡ length homes → is_some (download_in start past gid) ≡ true
    → KeepsHomes start (Claimed gid claim ∷ past) (homes ++ gid ∷ [])
homes_more start past homes gid claim k number added =
    record {
      many =
          let more = sum_by-cons (λ (x : Event). cond (makes_claim x) 1 0) (Claimed gid claim) past in
          let was = k.many in
          let long = length_push homes gid in
          omega arith;
      own = λ g c there.
          home_where (is_same_gid g gid) (own_of start past g) homes g gid claim c refl number (k.own g) there;
      added = λ id g at.
          ⊎_elim (λ (before : slice_get homes id ≡ Some g). k.added id g before)
          (λ (here : gid ≡ g). subst (λ (x : Gid). is_some (download_in start past x) ≡ true) here added)
          (pushed_cases homes gid g id at);
    }

-- ---- one download

claims_on : (own : List OwnEvent) (l : PayloadLengths) (v : OptionValues) (claim : Claim) (d : Download) (x : Entry)
    (s : DownloadView) → KeepsDownload own l v d x → s.account ≡ with_claim x.state.account claim
    → StaysGiven x.state s → claim.mirror < mirrors_by d.subject
    → KeepsDownload (Grants claim ∷ own) l v d (record x { state = s })
claims_on own l v claim d x s k account rest below =
    record {
      gid = k.gid;
      options_are = k.options_are;
      account = account ∙ ap (λ (a : Account). with_claim a claim) k.account;
      marks = rest.marks ∙ k.marks;
      mirrors = rest.mirrors ∙ k.mirrors;
      max_tries = rest.max_tries ∙ k.max_tries;
      hosts = k.hosts;
      wanted = λ opened. rest.wanted ∙ k.wanted opened;
      known = All-cons (λ (c : Claim). c.mirror < mirrors_by d.subject) claim (granted_claims own) below k.known;
    }

claimed_one : (start : RunStart) (past : List Event) (gid : Gid) (claim : Claim) (d : Download) (x : Entry)
    (s : DownloadView)
    → KeepsDownload (own_of start past d.gid) (known_lengths start past d.gid) (options_now start past d) d x
    → d.gid ≡ gid → s.account ≡ with_claim x.state.account claim → StaysGiven x.state s
    → claim.mirror < mirrors_by d.subject
    → KeepsDownload (own_of start (Claimed gid claim ∷ past) d.gid) (known_lengths start (Claimed gid claim ∷ past) d.gid)
    (options_now start (Claimed gid claim ∷ past) d) d (record x { state = s })
claimed_one start past gid claim d x s k same account rest below =
    let own : own_of start (Claimed gid claim ∷ past) d.gid ≡ Grants claim ∷ own_of start past d.gid =
    ap (λ (g : Gid). with_own g d.gid (Grants claim) (own_of start past d.gid)) (sym same)
    ∙ own_here d.gid (Grants claim) (own_of start past d.gid) in
    untouched (Grants claim ∷ own_of start past d.gid) (own_of start (Claimed gid claim ∷ past) d.gid)
    (known_lengths start past d.gid) (known_lengths start (Claimed gid claim ∷ past) d.gid) (options_now start past d)
    (options_now start (Claimed gid claim ∷ past) d) d (record x { state = s }) own
    (lengths_of start past (Claimed gid claim) d.gid refl (ap told_total own)) refl
    (claims_on (own_of start past d.gid) (known_lengths start past d.gid) (options_now start past d) claim d x s k account
    rest below)

-- ---- the run

pub claim_step : (past : List Event) (s : MachineState) (gid : Gid) (claim : Claim) (at : ℕ) (d : Download) (x : Entry)
    (v : DownloadView) (room : ℕ) → KeepsRun past s → IsAt s.start past s.entries gid at d x
    → MayBeClaimed s.start past gid claim → claim.id ≡ length s.homes
    → v.account ≡ with_claim x.state.account claim → StaysGiven x.state v → claim.mirror < mirrors_by d.subject
    → kept_room s.start.doors s.left s.stopped ≤ room
    → KeepsRun (Claimed gid claim ∷ past) (record s {
      events = s.events ++ Claimed gid claim ∷ [];
      entries = set s.entries at (record x { state = v });
      homes = s.homes ++ gid ∷ [];
      room = room;
    })
claim_step past s gid claim at d x v room k here may number account rest below room_is =
    record {
      legal = (k.legal, may);
      queue = k.queue;
      downloads = set_one s.start past (Claimed gid claim) gid (Grants claim) s.entries at d x (record x { state = v })
          k.downloads k.apart here (record { own = λ g. refl; downloads = refl; options = λ b. refl })
          (claimed_one s.start past gid claim d x v (k.downloads.each at d x here.added here.there) here.gid_is account
          rest below);
      apart = k.apart;
      called = called_set s.events (Claimed gid claim ∷ []) (replay_of s.start past).downloads s.entries at x v here.there
          k.called;
      homes = homes_more s.start past s.homes gid claim k.homes number (ap is_some may.added);
      ends = record { left_is = k.ends.left_is; stopped_is = k.ends.stopped_is };
      room_is = room_is;
      log_is = logged_on s.start s.events (Claimed gid claim) s.log k.log_is;
    }

-- ---- what the claim fits

block_mirror : (s : Situation) (claim : Claim) → IsBlockGrant s claim → claim.mirror < length s.hosts
block_mirror s claim g =
    ⊎_elim
    (λ (free : IsFreeGrant s claim.id claim.worker claim.since.0 claim). free.free.grantable.chosen.candidate.known)
    (λ (theft : IsTheftGrant s claim). theft.theft.chosen.candidate.known) g.grant

abbrev host_list : Download → List ℕ
host_list d = host_numbers (mirror_urls d.subject)

hosts_below : (d : Download) (mirror : ℕ) → mirror < length (host_list d) → mirror < mirrors_by d.subject
hosts_below d mirror below =
    let many : length (host_list d) ≡ mirrors_by d.subject =
    count_hosts (mirror_urls d.subject) ∙ count_urls d.subject in
    omega arith

mirror_below : (start : RunStart) (past : List Event) (gid : Gid) (d : Download) (o : Option PayloadLengths)
    (claim : Claim) → IsGrantBy start past gid d o claim → claim.mirror < mirrors_by d.subject
mirror_below start past gid d None claim g = hosts_below d claim.mirror g.mirror.candidate.known
mirror_below start past gid d (Some l) claim g =
    hosts_below d claim.mirror (block_mirror (situation_in start past gid d l) claim g.1)

no_blocks_claimed : {P : Type 0} (count : ℕ) → 1 ≤ count → count ≡ 0 → P
no_blocks_claimed count some none = absurd (omega arith)

same_download : {d e : Download} → Some d ≡ Some e → d ≡ e
same_download {d} {e} is = same_Some d e is

-- fewer claims stand than may
few_by : (start : RunStart) (past : List Event) (gid : Gid) (d : Download) (x : Entry) (o : Option PayloadLengths)
    (claim : Claim) → payload_lengths_of start past gid ≡ o
    → x.state.account ≡ account_of (known_lengths start past gid).total (known_lengths start past gid).piece_len
    (own_of start past gid)
    → x.options ≡ options_now start past d → AreValues x.options → is_opened (own_of start past gid) ≡ true
    → MayProbe (own_of start past gid) claim ⊎ MayClaim (known_lengths start past gid).total
    (known_lengths start past gid).piece_len (own_of start past gid) claim
    → IsGrantBy start past gid d o claim → length x.state.account.standing < MAX_SPLIT
few_by start past gid d x None claim is account options values opened may g =
    ⊎_elim (λ (p : MayProbe (own_of start past gid) claim). true_not_false (is_opened (own_of start past gid)) opened p.unopened)
    (λ (c : MayClaim (known_lengths start past gid).total (known_lengths start past gid).piece_len (own_of start past gid)
    claim). no_blocks_claimed claim.run.count c.some g.count)
    may
few_by start past gid d x (Some l) claim is account options values opened may g =
    let lengths : known_lengths start past gid ≡ l = ap (λ (o : Option PayloadLengths). unwrap_or o no_lengths) is in
    let standing : x.state.account.standing ≡ (account_of l.total l.piece_len (own_of start past gid)).standing =
    ap (λ (k : Account). k.standing)
    (account ∙ ap (λ (y : PayloadLengths). account_of y.total y.piece_len (own_of start past gid)) lengths) in
    let many : length x.state.account.standing ≡ length (account_of l.total l.piece_len (own_of start past gid)).standing =
    ap (λ (cs : List Claim). length cs) standing in
    let split : number_value x.options num.Split ≡ number_value (options_now start past d) num.Split =
    ap (λ (v : OptionValues). number_value v num.Split) options in
    let few = g.1.few in
    let most = (values.within num.Split).1 in
    omega arith

pub may_give : Laws → AccountsTellOpening → NewNumbersMayBeGranted → (s : MachineState) (v : MachineView) (gid : Gid)
    (claim : Claim) (at : ℕ) (x : Entry) → Seen s v → Here s gid at x
    → MayBeClaimed s.start (reverse s.events) gid claim → AreValues x.options → 1 ≤ x.state.spare
    → MayBeGivenClaim x.state claim
may_give laws tells numbers s v gid claim at x seen h may values room =
    let past = reverse s.events in
    let own = own_of s.start past gid in
    let l = known_lengths s.start past gid in
    let kn = known_here laws tells s v gid at x seen h in
    let m = (granted laws s.start past gid claim (parts laws s.start past gid seen.keeps.legal) may).may in
    let same : h.download ≡ may.download = same_download (sym (added_here s v gid at x seen h) ∙ may.added) in
    let kept : KeepsDownload (own_of s.start past gid) (known_lengths s.start past gid) (options_now s.start past may.download)
    may.download x =
    subst (λ (d : Download). KeepsDownload (own_of s.start past gid) (known_lengths s.start past gid)
    (options_now s.start past d) d x) same
    (subst (λ (g : Gid). KeepsDownload (own_of s.start past g) (known_lengths s.start past g)
    (options_now s.start past h.download) h.download x) h.is.gid_is
    (seen.keeps.downloads.each at h.download x h.is.added h.is.there)) in
    let below = mirror_below s.start past gid may.download (payload_lengths_of s.start past gid) claim may.granted in
    let many = kept.mirrors in
    let mirror : claim.mirror < x.state.mirrors = omega arith in
    let fresh = ⊎_elim (λ (p : MayProbe own claim). p.fresh) (λ (c : MayClaim l.total l.piece_len own claim). c.fresh) m in
    record {
      room = room;
      blocks = λ opened.
          ⊎_elim
          (λ (p : MayProbe own claim). true_not_false (is_opened own) (sym kn.opened ∙ opened) p.unopened)
          (λ (c : MayClaim l.total l.piece_len own claim).
          let rows = kn.matches.rows c.opened in
          record { some = c.some; within = rw (rows.total_is, rows.piece_len_is) c.within; mirror = mirror })
          m;
      few = λ opened.
          few_by s.start past gid may.download x (payload_lengths_of s.start past gid) claim refl kept.account
          kept.options_are values (sym kn.opened ∙ opened) m may.granted;
      number = λ opened.
          subst (λ (k : Account). k.next ≤ claim.id) (sym kept.account) (numbers l.total l.piece_len own claim.id fresh);
      alone = λ un.
          ⊎_elim (λ (p : MayProbe own claim). kn.matches.claims.standing ∙ p.alone)
          (λ (c : MayClaim l.total l.piece_len own claim). true_not_false (is_opened own) c.opened (sym kn.opened ∙ un)) m;
      probe = λ un.
          ⊎_elim (λ (p : MayProbe own claim). record { first = p.first; count = p.count; mirror = mirror })
          (λ (c : MayClaim l.total l.piece_len own claim). true_not_false (is_opened own) c.opened (sym kn.opened ∙ un)) m;
    }

-- ---- the machine that claims

pub set_roomier : (xs : List Entry) (at : ℕ) (x y : Entry) → slice_get xs at ≡ Some x → IsRoomierEntry x y
    → AreRoomier xs (set xs at y)
set_roomier xs at x y there r =
    subst (λ (z : Entry). AreRoomier xs (set xs at z)) (sym r.is)
    (one_roomier xs xs at x r.state (none_roomier xs) there r.rest)

pub made_room : (s : MachineState) (v : MachineView) (at : ℕ) (x y : Entry) (events : List Event) (homes : List Gid)
    (room : ℕ) → Seen s v → slice_get s.entries at ≡ Some x → IsRoomierEntry x y → events ≡ s.events
    → homes ≡ s.homes → s.room ≤ room
    → KeepsRun (reverse events) (record s { events = events; entries = set s.entries at y; homes = homes; room = room })
made_room s v at x y events homes room seen there r events_is homes_is more =
    subst
    (λ (hs : List Gid). KeepsRun (reverse events)
    (record s { events = events; entries = set s.entries at y; homes = hs; room = room }))
    (sym homes_is)
    (roomier_run s v events (set s.entries at y) room seen events_is (set_roomier s.entries at x y there r) more)

pub room_seen : (s : MachineState) (v : MachineView) (at : ℕ) (x y : Entry) (events : List Event)
    (room : ℕ) → Seen s v → slice_get s.entries at ≡ Some x → IsRoomierEntry x y → events ≡ s.events → s.room ≤ room
    → IsRoomierRun v (view_of (record s { events = events; entries = set s.entries at y; room = room }))
room_seen s v at x y events room seen there r events_is more =
    roomier_seen s v events (set s.entries at y) room seen events_is (set_roomier s.entries at x y there r) more

pub on_err : {A E : Type 0} (r : Result A E) (P : Type 0) → P → OnErr r P
on_err (Ok x) P p = tt
on_err (Err e) P p = p

-- what may be claimed may be claimed under the next number
pub next_claimed : (s : MachineState) (v : MachineView) (gid : Gid) (worker mirror : ℕ) (run : Run)
    (victim : Option ℕ) (now : Moment) → Seen s v → IsNext v (IsClaimAt gid worker mirror run victim now)
    → MayBeClaimed s.start (reverse s.events) gid (offered_claim mirror run victim (length s.homes) worker now.0)
next_claimed s v gid worker mirror run victim now seen (e, is, may) =
    let its : MayBeClaimed v.start v.past gid (offered_claim mirror run victim is.0 worker now.0) =
    subst (λ (x : Event). MayFollow v.start v.past x) is.1 may in
    let here : MayBeClaimed s.start (reverse s.events) gid (offered_claim mirror run victim is.0 worker now.0) =
    subst (λ (w : MachineView). MayBeClaimed w.start w.past gid (offered_claim mirror run victim is.0 worker now.0))
    (sym seen.view_is) its in
    renumbered s.start (reverse s.events) gid mirror run victim is.0 (length s.homes) worker now.0 here
    (homes_new s.start (reverse s.events) s.homes seen.keeps.homes)

pub claim_may : (s : MachineState) (v : MachineView) (gid : Gid) (worker mirror : ℕ) (run : Run) (victim : Option ℕ)
    (id : ℕ) (now : Moment) → Seen s v → IsNext v (IsClaimAt gid worker mirror run victim now) → id ≡ length s.homes
    → MayBeClaimed s.start (reverse s.events) gid (offered_claim mirror run victim id worker now.0)
claim_may s v gid worker mirror run victim id now seen next id_is =
    subst (λ (n : ℕ). MayBeClaimed s.start (reverse s.events) gid (offered_claim mirror run victim n worker now.0))
    (sym id_is) (next_claimed s v gid worker mirror run victim now seen next)

-- its download has a place
pub claim_placed : (s : MachineState) (v : MachineView) (gid : Gid) (worker mirror : ℕ) (run : Run)
    (victim : Option ℕ) (now : Moment) (o : Option ℕ) → Seen s v → IsNext v (IsClaimAt gid worker mirror run victim now)
    → IfNone o (download_in v.start v.past gid ≡ None) → IsSome o
claim_placed s v gid worker mirror run victim now o seen next none =
    let may = next_claimed s v gid worker mirror run victim now seen next in
    placed o v gid may.download none
    (subst (λ (w : MachineView). download_in w.start w.past gid ≡ Some may.download) seen.view_is may.added)

-- the machine once there is room, with the entry of the download as it is read then
abbrev pub roomy_state : MachineState → ℕ → Entry → ℕ → MachineState
roomy_state s at y room = record s { entries = set s.entries at y; room = room }

pub record Roomy (s : MachineState) (gid : Gid) (at : ℕ) (y z : Entry) (room : ℕ) (d : Download) : Type 0 where
  pub keeps : KeepsRun (reverse s.events) (roomy_state s at y room)
  pub is : IsAt s.start (reverse s.events) (set s.entries at y) gid at d z
  pub same : z ≡ y

pub roomy : (s : MachineState) (v : MachineView) (gid : Gid) (at : ℕ) (x y z : Entry) (room : ℕ) → Seen s v
    → (h : Here s gid at x) → IsRoomierEntry x y → s.room ≤ room → z ≡ get_or (set s.entries at y) at z
    → Roomy s gid at y z room h.download
roomy s v gid at x y z room seen h r more z_is =
    let within = slice_get_within s.entries at x h.is.there in
    let long = length-set s.entries at y in
    record {
      keeps = made_room s v at x y s.events s.homes room seen h.is.there r refl refl more;
      is = record {
        added = h.is.added;
        there = slice_get_read (set s.entries at y) (length (set s.entries at y)) at z refl (omega arith) z_is;
        gid_is = h.is.gid_is;
      };
      same = z_is ∙ get_or-set_same s.entries at y z within;
    }

pub gives : Laws → AccountsTellOpening → NewNumbersMayBeGranted → (s : MachineState) (v : MachineView) (gid : Gid)
    (worker mirror : ℕ) (run : Run) (victim : Option ℕ) (id : ℕ) (now : Moment) (at : ℕ) (x y z : Entry) (room : ℕ)
    → Seen s v → Here s gid at x → IsRoomierEntry x y → s.room ≤ room → z ≡ get_or (set s.entries at y) at z
    → IsNext v (IsClaimAt gid worker mirror run victim now) → id ≡ length s.homes → AreValues z.options
    → 1 ≤ y.state.spare
    → MayBeGivenClaim z.state (offered_claim mirror run victim id worker now.0)
gives laws tells numbers s v gid worker mirror run victim id now at x y z room seen h r more z_is next id_is values spare =
    let ready = roomy s v gid at x y z room seen h r more z_is in
    let t = roomy_state s at y room in
    let may = next_claimed s v gid worker mirror run victim now seen next in
    subst (λ (n : ℕ). MayBeGivenClaim z.state (offered_claim mirror run victim n worker now.0)) (sym id_is)
    (may_give laws tells numbers t (view_of t) gid (offered_claim mirror run victim (length s.homes) worker now.0) at z
    (record { keeps = ready.keeps; view_is = refl }) (record { download = h.download; is = ready.is }) may values
    (subst (λ (w : Entry). 1 ≤ w.state.spare) (sym ready.same) spare))

pub claims : (s : MachineState) (v : MachineView) (gid : Gid)
    (worker mirror : ℕ) (run : Run) (victim : Option ℕ) (id : ℕ) (now : Moment) (at : ℕ) (x y z : Entry)
    (d : DownloadView) (was events : List Event) (had homes : List Gid) (wide room : ℕ)
    → Seen s v → Here s gid at x → IsRoomierEntry x y → s.room ≤ wide → z ≡ get_or (set s.entries at y) at z
    → IsNext v (IsClaimAt gid worker mirror run victim now) → id ≡ length s.homes
    → d.account ≡ with_claim z.state.account (offered_claim mirror run victim id worker now.0) → StaysGiven z.state d
    → s.room + 1 ≤ wide → was ≡ s.events → events ≡ was ++ Claimed gid (offered_claim mirror run victim id worker now.0) ∷ []
    → had ≡ s.homes → homes ≡ had ++ gid ∷ [] → room ≡ wide - 1
    → KeepsRun (reverse events) (record s {
      events = events;
      entries = set (set s.entries at y) at (record z { state = d });
      homes = homes;
      room = room;
    })
claims s v gid worker mirror run victim id now at x y z d was events had homes wide room seen h r more z_is next id_is
    account rest some was_is events_is had_is homes_is room_is =
    let ready = roomy s v gid at x y z wide seen h r more z_is in
    let t = roomy_state s at y wide in
    let claim : Claim = offered_claim mirror run victim id worker now.0 in
    let e : Event = Claimed gid claim in
    let may = claim_may s v gid worker mirror run victim id now seen next id_is in
    let same : may.download ≡ h.download = same_download (sym may.added ∙ added_here s v gid at x seen h) in
    let below : claim.mirror < mirrors_by h.download.subject =
    subst (λ (b : Download). claim.mirror < mirrors_by b.subject) same
    (mirror_below s.start (reverse s.events) gid may.download (payload_lengths_of s.start (reverse s.events) gid) claim
    may.granted) in
    let most = seen.keeps.room_is in
    let step = claim_step (reverse s.events) t gid claim at h.download z d room ready.keeps ready.is may id_is account
    rest below (omega arith) in
    subst
    (λ (hs : List Gid). KeepsRun (reverse events) (record s {
      events = events;
      entries = set (set s.entries at y) at (record z { state = d });
      homes = hs;
      room = room;
    }))
    (sym (homes_is ∙ ap (λ (hs : List Gid). hs ++ gid ∷ []) had_is))
    (onto s (record s {
      entries = set (set s.entries at y) at (record z { state = d });
      homes = s.homes ++ gid ∷ [];
      room = room;
    }) e events (events_is ∙ ap (λ (es : List Event). es ++ e ∷ []) was_is) step)

-- there is no less room for marks
pub marks_kept : (s : MachineState) (v : MachineView) (start : RunStart) (past : List Event) (marks : List ℕ)
    (e : Event) (at : ℕ) (x y z : Entry) (d : DownloadView) (wide : ℕ) → Seen s v
    → slice_get s.entries at ≡ Some x → IsRoomierEntry x y → s.room ≤ wide
    → z ≡ get_or (set s.entries at y) at z → d.mark_spare ≡ z.state.mark_spare
    → start ≡ s.start → past ≡ e ∷ reverse s.events
    → (replay_of s.start (e ∷ reverse s.events)).downloads ≡ (replay_of s.start (reverse s.events)).downloads
    → marks ≡ map (λ (w : Entry). w.state.mark_spare) (set (set s.entries at y) at (record z { state = d }))
    → (gid : Gid) → mark_spare_in v gid ≤ slice_index_or marks (place_in start past gid) 0
marks_kept s v start past marks e at x y z d wide seen there r more z_is same start_is past_is downloads marks_are gid =
    let roomier = room_seen s v at x y s.events wide seen there r refl more in
    let spares : marks ≡ map (λ (w : Entry). w.state.mark_spare) (set s.entries at y) =
    marks_are ∙ marks_same (set s.entries at y) at z d z_is same in
    let place : place_in start past gid ≡ place_in s.start (reverse s.events) gid =
    ap (λ (w : RunStart). place_in w past gid) start_is
    ∙ (ap (λ (p : List Event). place_in s.start p gid) past_is
    ∙ ap (λ (ds : List Download). position_or_len (is_download gid) ds) downloads) in
    let read : slice_index_or marks (place_in start past gid) 0
    ≡ mark_spare_in (view_of (roomy_state s at y wide)) gid =
    ap (λ (i : ℕ). slice_index_or marks i 0) place
    ∙ ap (λ (ms : List ℕ). slice_index_or ms (place_in s.start (reverse s.events) gid) 0) spares in
    let least = roomier.mark_spare gid in
    omega arith
