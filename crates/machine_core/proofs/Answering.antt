-- What the active downloads offer, as contracts see it.
use Rattle.std.proofs.Common.{◌≡◌, ℕ, Bool, true, false, cond, Option, Some, None, ◌≤◌, List, [], ◌∷◌, ◌++◌, length, map, slice_get, reverse, refl, sym, ap, ◌∙◌, subst, arith}
use Rattle.std.specs.Prelude.{◌↔◌, ◌||◌, ◌&&◌, find, not, slice_index_or}
use Rattle.std.specs.List.{list_any}
use Rattle.std.specs.Option.{is_some, option_and_then, option_map_or, unwrap_or}
use Rattle.std.proofs.lemmas.Bool.{eq-eqb}
use Rattle.std.proofs.lemmas.List.{length-map}
use Rattle.std.proofs.lemmas.Option.{cond_some, none-some, same_Some}
use Rattle.dl_kinds.specs.declared.gid.Gid.{Gid}
use Rattle.dl_kinds.specs.declared.runs.Moment.{Moment}
use Rattle.dl_kinds.specs.declared.runs.Run.{Run}
use Rattle.dl_history.specs.AccountLaws.{MatchesEvents}
use Rattle.dl_history.specs.Accounts.{Account, account_of}
use Rattle.dl_history.specs.OwnEvents.{OwnEvent}
use Rattle.dl_history.specs.OwnLegal.{MaySettle}
use Rattle.dl_history.specs.PayloadParts.{is_opened}
use Rattle.piece_table.specs.declared.giver.Giver.{Giver}
use Rattle.piece_table.specs.declared.giver.Giver.TheVariants.{Nobody}
use Rattle.dl_queue.specs.Calls.{added_place, adding_place}
use Rattle.dl_queue.specs.Lists.{QueueLists}
use Rattle.dl_queue.specs.declared.kinds.Added.{Added}
use Rattle.one_download.specs.DownloadLaws.{AccountsTellOpening}
use Rattle.rate_limits.specs.Shared.{RunLevels, lesser_credit, longer_wait}
use Rattle.machine_core.specs.Choices.{IsGrantBy, situation_in}
use Rattle.machine_core.specs.Claiming.{IsOfferedNow, MayBeTaken, is_to_open, next_to_open}
use Rattle.machine_core.specs.KeptOffers.{IsGidOffer, IsKeptOffer, is_waiting_to_open, kept_entry, opens_next}
use Rattle.machine_core.specs.MachineParts.{MachineState, added_as}
use Rattle.machine_core.specs.MachineViews.{MachineView}
use Rattle.machine_core.specs.Offers.{AwaitsFinding, Credit, IsNextOffer, IsOffer, IsOfferBy, IsOffered, active_credits, affords, gid_credit, no_blocks, offered_claim}
use Rattle.machine_core.specs.OwnParts.{PayloadLengths, lengths_by, no_lengths, own_of, payload_lengths_of}
use Rattle.machine_core.specs.Reads.{downloads_in}
use Rattle.machine_core.specs.Replays.{is_active_in, is_download, is_same_gid, queue_in, replay_of}
use Rattle.machine_core.specs.RunLegal.{IsLaterThan, IsNewNumber, MayBeClaimed, download_in, IsLegal, MayFollow, known_lengths}
use Rattle.machine_core.specs.Starts.{Download, RunStart}
use Rattle.machine_core.specs.TurnRooms.{AreRoomier, HasEntry, IsRoomierRun}
use Rattle.machine_core.specs.declared.entries.Entry.{Entry}
use Rattle.machine_core.specs.declared.events.Event.{Event}
use Rattle.machine_core.specs.declared.events.Event.TheVariants.{Claimed, Settled}
use Rattle.machine_core.specs.declared.handed.Handed.{Handed}
use Rattle.machine_core.specs.declared.offers.Offer.{Offer}
use Rattle.machine_core.specs.declared.offers.Offer.TheVariants.{Whole, Blocks, Probe}
use Rattle.machine_core.specs.declared.offers.Offered.{Offered}
use Rattle.machine_core.specs.declared.offers.Offered.TheVariants.{Next, Held, Idle}
use Rattle.machine_core.proofs.Fitting.{plan_of}
use Rattle.machine_core.proofs.Here.{Here, Seen, known_here, view_of}
use Rattle.machine_core.proofs.Homes.{entry_within, place_found, place_none}
use Rattle.machine_core.proofs.Keeping.{IsSeenEntry, kept_same, offers_alike, to_open_same}
use Rattle.machine_core.proofs.Legal.{Laws, parts}
use Rattle.machine_core.proofs.Lists.{element_at, find_same, found}
use Rattle.machine_core.proofs.Numbered.{homes_new}
use Rattle.machine_core.proofs.Offering.{block_grant, choice_in, grant_choice}
use Rattle.machine_core.proofs.Parts.{gid_is}
use Rattle.machine_core.proofs.Rooms.{added_here}
use Rattle.machine_core.proofs.Waits.{offered_same}
use Rattle.machine_core.proofs.Widening.{roomier_run, roomier_seen}

later : (a b : Bool) → b ≡ true → (a || b) ≡ true
later true b is = refl
later false b is = is

cons_first : {A : Type 0} {x y : A} {xs ys : List A} → x ∷ xs ≡ y ∷ ys → x ≡ y
cons_first is = cc

cons_rest : {A : Type 0} {x y : A} {xs ys : List A} → x ∷ xs ≡ y ∷ ys → xs ≡ ys
cons_rest is = cc

-- ---- a download by its gid

-- the gid of the download at the place is another word for the same
abbrev here_own : (s : MachineState) (gid : Gid) (at : ℕ) (x : Entry) → (h : Here s gid at x) → Here s h.download.gid at x
here_own s gid at x h =
    record { download = h.download; is = record { added = h.is.added; there = h.is.there; gid_is = refl } }

pub seen_entry : Laws → AccountsTellOpening → (s : MachineState) (v : MachineView) (gid : Gid) (at : ℕ) (x : Entry)
    → Seen s v → (h : Here s gid at x) → IsSeenEntry s.start (reverse s.events) s.events h.download x
seen_entry laws tells s v gid at x seen h =
    let own = here_own s gid at x h in
    record {
      added = added_here s v h.download.gid at x seen own;
      known = known_here laws tells s v h.download.gid at x seen own;
      keeps = seen.keeps.downloads.each at h.download x h.is.added h.is.there;
      called = seen.keeps.called at h.download x h.is.added h.is.there;
    }

and_then_some : {A B : Type 0} (f : A → Option B) (o : Option A) (b : B) → option_and_then f o ≡ Some b
    → (a : A) × (o ≡ Some a) × (f a ≡ Some b)
and_then_some f None b is = absurd cc
and_then_some f (Some a) b is = (a, refl, is)

added_is : (s : MachineState) (v : MachineView) → Seen s v
    → s.queue.added ≡ map added_as (replay_of s.start (reverse s.events)).downloads
added_is s v seen = ap (λ (q : QueueLists). q.added) seen.keeps.queue.queue_is ∙ seen.keeps.queue.added

-- an entry that is kept under a gid is of its download
pub record IsKeptAt (s : MachineState) (gid : Gid) (x : Entry) : Type 0 where
  pub place : ℕ
  pub here : Here s gid place x

pub kept_at : (s : MachineState) (v : MachineView) (gid : Gid) (x : Entry) → Seen s v
    → kept_entry s.queue.added s.entries gid ≡ Some x → IsKeptAt s gid x
kept_at s v gid x seen is =
    let a = and_then_some (slice_get s.entries) (adding_place s.queue.added gid) x is in
    let f = place_found gid (replay_of s.start (reverse s.events)).downloads s.queue.added a.0 (added_is s v seen) a.1 in
    record {
      place = a.0;
      here = record { download = f.0; is = record { added = f.1; there = a.2; gid_is = f.2 } };
    }

-- .. and each download that was added has one
pub record IsKept (s : MachineState) (gid : Gid) (d : Download) : Type 0 where
  pub entry : Entry
  pub place : ℕ
  pub there : kept_entry s.queue.added s.entries gid ≡ Some entry
  pub here : Here s gid place entry
  pub download : here.download ≡ d

kept_by : (s : MachineState) (v : MachineView) (gid : Gid) (d : Download) → Seen s v
    → download_in s.start (reverse s.events) gid ≡ Some d → (o : Option ℕ) → adding_place s.queue.added gid ≡ o
    → IsKept s gid d
kept_by s v gid d seen added None placed =
    absurd (none-some d (sym (place_none gid (replay_of s.start (reverse s.events)).downloads s.queue.added
    (added_is s v seen) placed) ∙ added))
kept_by s v gid d seen added (Some at) placed =
    let ds = (replay_of s.start (reverse s.events)).downloads in
    let f = place_found gid ds s.queue.added at (added_is s v seen) placed in
    let e = element_at s.entries at (entry_within (reverse s.events) s at f.0 seen.keeps f.1) in
    let h : Here s gid at e.0 =
    record { download = f.0; is = record { added = f.1; there = e.1; gid_is = f.2 } } in
    record {
      entry = e.0;
      place = at;
      there = ap (option_and_then (slice_get s.entries)) placed ∙ e.1;
      here = h;
      download = same_Some f.0 d (sym (added_here s v gid at e.0 seen h) ∙ added);
    }

pub kept_of : (s : MachineState) (v : MachineView) (gid : Gid) (d : Download) → Seen s v
    → download_in s.start (reverse s.events) gid ≡ Some d → IsKept s gid d
kept_of s v gid d seen added = kept_by s v gid d seen added (adding_place s.queue.added gid) refl

-- ---- offers

-- an offer goes by the download's own gid
offer_of : (handed : List Handed) (start : RunStart) (past : List Event) (now : ℕ) (gid : Gid) (d : Download)
    (offer : Offer) → download_in start past gid ≡ Some d → d.gid ≡ gid
    → IsOfferBy handed start past d (payload_lengths_of start past d.gid) now offer
    → IsOffer handed start past now gid offer
offer_of handed start past now gid d offer added same is =
    record {
      download = d;
      added = added;
      is = subst (λ (g : Gid). IsOfferBy handed start past d (payload_lengths_of start past g) now offer) same is;
    }

pub gid_offer_same : Laws → AccountsTellOpening → (s : MachineState) (v : MachineView) (handed : List Handed) (now : ℕ)
    → Seen s v → (gid : Gid) (offer : Offer) → IsGidOffer s.queue.added s.entries s.events handed now gid offer
    ↔ IsOffer handed s.start (reverse s.events) now gid offer
gid_offer_same laws tells s v handed now seen gid offer = (
  λ g.
      let k = kept_at s v gid g.entry seen g.there in
      let h = k.here in
      offer_of handed s.start (reverse s.events) now gid h.download offer (added_here s v gid k.place g.entry seen h)
      h.is.gid_is
      ((kept_same s.start (reverse s.events) s.events h.download g.entry handed now offer
      (seen_entry laws tells s v gid k.place g.entry seen h)).0 g.is),
  λ o.
      let k = kept_of s v gid o.download seen o.added in
      let h = k.here in
      let same : o.download ≡ h.download = sym k.download in
      let is : IsOfferBy handed s.start (reverse s.events) h.download
      (payload_lengths_of s.start (reverse s.events) gid) now offer =
      subst (λ (d : Download). IsOfferBy handed s.start (reverse s.events) d
      (payload_lengths_of s.start (reverse s.events) gid) now offer) same o.is in
      record {
        entry = k.entry;
        there = k.there;
        is = (kept_same s.start (reverse s.events) s.events h.download k.entry handed now offer
            (seen_entry laws tells s v gid k.place k.entry seen h)).1
            (subst (λ (g : Gid). IsOfferBy handed s.start (reverse s.events) h.download
            (payload_lengths_of s.start (reverse s.events) g) now offer) (sym h.is.gid_is) is);
      },
)

pub offered_here : Laws → AccountsTellOpening → (s : MachineState) (v : MachineView) (handed : List Handed)
    (levels : RunLevels) (now : ℕ) (offered : Offered) → Seen s v
    → IsOffered (IsGidOffer s.queue.added s.entries s.events handed now) (active_credits s.queue levels now) offered
    → IsOfferedNow v handed levels now offered
offered_here laws tells s v handed levels now offered seen is =
    subst (λ (w : MachineView). IsOfferedNow w handed levels now offered) seen.view_is
    (offered_same (IsGidOffer s.queue.added s.entries s.events handed now)
    (IsOffer handed s.start (reverse s.events) now) (gid_offer_same laws tells s v handed now seen)
    (active_credits (queue_in s.start (reverse s.events)) levels now) offered
    (subst (λ (q : QueueLists). IsOffered (IsGidOffer s.queue.added s.entries s.events handed now)
    (active_credits q levels now) offered) seen.keeps.queue.queue_is is))

-- ---- while the downloads are asked

pub entry_kept : (added : List Added) (xs : List Entry) (gid : Gid) (at : ℕ) (x : Entry)
    → Some at ≡ adding_place added gid → slice_get xs at ≡ Some x → kept_entry added xs gid ≡ Some x
entry_kept added xs gid at x placed there = ap (option_and_then (slice_get xs)) (sym placed) ∙ there

pub gid_none : (added : List Added) (xs : List Entry) (events : List Event) (handed : List Handed) (now : ℕ)
    (gid : Gid) (x : Entry) → kept_entry added xs gid ≡ Some x
    → ((offer : Offer) → ¬ IsKeptOffer events handed x now offer)
    → (offer : Offer) → ¬ IsGidOffer added xs events handed now gid offer
gid_none added xs events handed now gid x kept none offer g =
    none offer
    (subst (λ (y : Entry). IsKeptOffer events handed y now offer) (same_Some g.entry x (sym g.there ∙ kept)) g.is)

pub gid_alike : (added : List Added) (xs : List Entry) (events : List Event) (handed : List Handed) (now bytes : ℕ)
    (gid : Gid) (x : Entry) (offer other : Offer) → kept_entry added xs gid ≡ Some x
    → IsKeptOffer events handed x now offer → IsGidOffer added xs events handed now gid other
    → affords bytes other ≡ affords bytes offer
gid_alike added xs events handed now bytes gid x offer other kept is its =
    offers_alike events handed x now bytes offer other is
    (subst (λ (y : Entry). IsKeptOffer events handed y now other) (same_Some its.entry x (sym its.there ∙ kept)) its.is)

pub head_active : (left : List Gid) (gid : Gid) (rest : List Gid) → left ≡ gid ∷ rest
    → list_any (is_same_gid gid) left ≡ true
head_active left gid rest steps =
    ap (list_any (is_same_gid gid)) steps ∙ (rw (eq-eqb gid.0 gid.0 refl) refl)

pub tail_active : (active left : List Gid) (gid : Gid) (rest : List Gid) → left ≡ gid ∷ rest
    → ((g : Gid) → list_any (is_same_gid g) left ≡ true → list_any (is_same_gid g) active ≡ true)
    → (g : Gid) → list_any (is_same_gid g) rest ≡ true → list_any (is_same_gid g) active ≡ true
tail_active active left gid rest steps among g there =
    among g (ap (list_any (is_same_gid g)) steps ∙ later (is_same_gid g gid) (list_any (is_same_gid g) rest) there)

pub active_has : (Is : Entry → Type 0) (added : List Added) (xs : List Entry) (gid : Gid) (at : ℕ) (x : Entry)
    → HasEntry Is added xs gid → Some at ≡ adding_place added gid → slice_get xs at ≡ Some x → Is x
active_has Is added xs gid at x has placed there =
    let same : has.place ≡ at = same_Some has.place at (sym has.at ∙ sym placed) in
    subst Is (same_Some has.entry x (sym has.there ∙ (ap (slice_get xs) same ∙ there))) has.is

-- its bucket is at its place
bucket_place : (added : List Added) (gid : Gid) (at : ℕ) → Some at ≡ adding_place added gid → at ≡ added_place gid added
bucket_place added gid at placed = sym (cond_some _ _ at (sym placed)).1

pub credit_is : (added : List Added) (levels : RunLevels) (now : ℕ) (gid : Gid) (at credit : ℕ)
    → Some at ≡ adding_place added gid → credit ≡ lesser_credit levels at now
    → credit ≡ (gid_credit added levels now gid).bytes
credit_is added levels now gid at credit placed is =
    is ∙ ap (λ (place : ℕ). lesser_credit levels place now) (bucket_place added gid at placed)

pub wait_is : (added : List Added) (levels : RunLevels) (now : ℕ) (gid : Gid) (at wait : ℕ)
    → Some at ≡ adding_place added gid → wait ≡ longer_wait levels at now
    → wait ≡ (gid_credit added levels now gid).wait
wait_is added levels now gid at wait placed is =
    is ∙ ap (λ (place : ℕ). longer_wait levels place now) (bucket_place added gid at placed)

-- ---- what is to be opened

opens_some : (events : List Event) (o : Option Entry) (x : Entry) → o ≡ Some x
    → option_map_or (is_waiting_to_open events) o false ≡ is_waiting_to_open events x
opens_some events o x is = ap (λ (p : Option Entry). option_map_or (is_waiting_to_open events) p false) is

pub find_first : (p : Gid → Bool) (all : List Gid) (x : Gid) (rest : List Gid) → all ≡ x ∷ rest → p x ≡ true
    → find p all ≡ Some x
find_first p all x rest steps is =
    ap (find p) steps ∙ ap (λ (t : Bool). cond t (Some x) (find p rest)) is

pub find_behind : (p : Gid → Bool) (all : List Gid) (x : Gid) (rest : List Gid) → all ≡ x ∷ rest → p x ≡ false
    → find p all ≡ find p rest
find_behind p all x rest steps is =
    ap (find p) steps ∙ ap (λ (t : Bool). cond t (Some x) (find p rest)) is

pub asks_opening : (added : List Added) (xs : List Entry) (events : List Event) (gid : Gid) (at : ℕ) (x : Entry)
    → Some at ≡ adding_place added gid → slice_get xs at ≡ Some x
    → opens_next added xs events gid ≡ is_waiting_to_open events x
asks_opening added xs events gid at x placed there =
    opens_some events (kept_entry added xs gid) x (entry_kept added xs gid at x placed there)

opens_none : (events : List Event) (o : Option Entry) → o ≡ None
    → option_map_or (is_waiting_to_open events) o false ≡ false
opens_none events o is = ap (λ (p : Option Entry). option_map_or (is_waiting_to_open events) p false) is

opens_by : Laws → AccountsTellOpening → (s : MachineState) (v : MachineView) (gid : Gid) → Seen s v
    → (o : Option Download) → download_in s.start (reverse s.events) gid ≡ o
    → (place : Option ℕ) → adding_place s.queue.added gid ≡ place
    → opens_next s.queue.added s.entries s.events gid ≡ is_to_open s.start (reverse s.events) gid
opens_by laws tells s v gid seen (Some d) added place placed =
    let k = kept_of s v gid d seen added in
    opens_some s.events (kept_entry s.queue.added s.entries gid) k.entry k.there
    ∙ (to_open_same s.start (reverse s.events) s.events k.here.download k.entry
    (seen_entry laws tells s v gid k.place k.entry seen k.here)
    ∙ ap (is_to_open s.start (reverse s.events)) k.here.is.gid_is)
opens_by laws tells s v gid seen None added (Some at) placed =
    let f = place_found gid (replay_of s.start (reverse s.events)).downloads s.queue.added at (added_is s v seen) placed in
    let e = element_at s.entries at (entry_within (reverse s.events) s at f.0 seen.keeps f.1) in
    let h : Here s gid at e.0 =
    record { download = f.0; is = record { added = f.1; there = e.1; gid_is = f.2 } } in
    absurd (none-some f.0 (sym added ∙ added_here s v gid at e.0 seen h))
opens_by laws tells s v gid seen None added None placed =
    opens_none s.events (kept_entry s.queue.added s.entries gid) (ap (option_and_then (slice_get s.entries)) placed)
    ∙ sym (ap (λ (o : Option PayloadLengths). is_some o && not (is_opened (own_of s.start (reverse s.events) gid)))
    (ap (option_and_then (λ (y : Download). lengths_by y y.subject (own_of s.start (reverse s.events) gid))) added))

pub to_open_here : Laws → AccountsTellOpening → (s : MachineState) (v : MachineView) (o : Option Gid) → Seen s v
    → o ≡ find (opens_next s.queue.added s.entries s.events) s.queue.active → o ≡ next_to_open v.start v.past
to_open_here laws tells s v o seen is =
    subst (λ (w : MachineView). o ≡ next_to_open w.start w.past) seen.view_is
    (is
    ∙ (find_same (opens_next s.queue.added s.entries s.events) (is_to_open s.start (reverse s.events)) s.queue.active
    (λ gid. opens_by laws tells s v gid seen (download_in s.start (reverse s.events) gid) refl
    (adding_place s.queue.added gid) refl)
    ∙ ap (λ (q : QueueLists). find (is_to_open s.start (reverse s.events)) q.active) seen.keeps.queue.queue_is))

-- ---- what was offered may be claimed

among : (added : List Added) (levels : RunLevels) (now : ℕ) (gids : List Gid) (before : List Credit) (c : Credit)
    (behind : List Credit) → map (gid_credit added levels now) gids ≡ before ++ c ∷ behind
    → list_any (is_same_gid c.gid) gids ≡ true
among added levels now [] [] c behind cut = absurd cc
among added levels now [] (b ∷ before) c behind cut = absurd cc
among added levels now (g ∷ gids) [] c behind cut =
    let first : gid_credit added levels now g ≡ c = cons_first cut in
    let same : g.0 ≡ c.gid.0 = ap (λ (x : Credit). x.gid.0) first in
    rw (eq-eqb g.0 c.gid.0 same) refl
among added levels now (g ∷ gids) (b ∷ before) c behind cut =
    later (is_same_gid c.gid g) (list_any (is_same_gid c.gid) gids)
    (among added levels now gids before c behind (cons_rest cut))

-- a choice doesn't go by the number that its claim gets
regranted : (start : RunStart) (past : List Event) (gid : Gid) (d : Download) (o : Option PayloadLengths)
    (mirror : ℕ) (run : Run) (victim : Option ℕ) (first id worker now : ℕ)
    → IsGrantBy start past gid d o (offered_claim mirror run victim first worker now)
    → IsGrantBy start past gid d o (offered_claim mirror run victim id worker now)
regranted start past gid d None mirror run victim first id worker now g =
    record { alone = g.alone; first = g.first; count = g.count; mirror = g.mirror; victim = g.victim }
regranted start past gid d (Some l) mirror run victim first id worker now g = (
  g.0,
  block_grant (situation_in start past gid d l) now (choice_in (offered_claim mirror run victim first worker now)) id
      worker (grant_choice (situation_in start past gid d l) (offered_claim mirror run victim first worker now) g.1),
)

-- the claim that may come under some number may come under a new one
pub renumbered : (start : RunStart) (past : List Event) (gid : Gid) (mirror : ℕ) (run : Run) (victim : Option ℕ)
    (first id worker now : ℕ) → MayBeClaimed start past gid (offered_claim mirror run victim first worker now)
    → IsNewNumber past id → MayBeClaimed start past gid (offered_claim mirror run victim id worker now)
renumbered start past gid mirror run victim first id worker now may new =
    record {
      download = may.download;
      added = may.added;
      active = may.active;
      granted = regranted start past gid may.download (payload_lengths_of start past gid) mirror run victim first id worker
          now may.granted;
      fresh = new;
      later = may.later;
    }

blocks_by : (handed : List Handed) (start : RunStart) (past : List Event) (d : Download) (o : Option PayloadLengths)
    (mirror : ℕ) (run : Run) (victim : Option ℕ) (id worker now : ℕ)
    → IsOfferBy handed start past d o now (Blocks mirror run victim)
    → IsGrantBy start past d.gid d o (offered_claim mirror run victim id worker now)
blocks_by handed start past d None mirror run victim id worker now is = absurd is
blocks_by handed start past d (Some l) mirror run victim id worker now is = (is.0, is.1.1 id worker)

probe_by : (handed : List Handed) (start : RunStart) (past : List Event) (d : Download) (o : Option PayloadLengths)
    (mirror id worker now : ℕ) → IsOfferBy handed start past d o now (Probe mirror)
    → IsGrantBy start past d.gid d o (offered_claim mirror no_blocks None id worker now)
probe_by handed start past d None mirror id worker now is = is id worker
probe_by handed start past d (Some l) mirror id worker now is = absurd is.1

its_gid : (start : RunStart) (past : List Event) (gid : Gid) (d : Download) → download_in start past gid ≡ Some d
    → d.gid ≡ gid
its_gid start past gid d added =
    gid_is gid d.gid (found (is_download gid) (replay_of start past).downloads d added).passes

-- what is needed besides the offer
record MayBeNext (start : RunStart) (past : List Event) (gid : Gid) (now : Moment) : Type 0 where
  active : is_active_in start past gid ≡ true
  id : ℕ
  fresh : IsNewNumber past id
  later : IsLaterThan past now

blocks_next : (handed : List Handed) (start : RunStart) (past : List Event) (gid : Gid) (mirror : ℕ) (run : Run)
    (victim : Option ℕ) (worker : ℕ) (now : Moment) (n : MayBeNext start past gid now)
    → IsOffer handed start past now.0 gid (Blocks mirror run victim)
    → MayBeClaimed start past gid (offered_claim mirror run victim n.id worker now.0)
blocks_next handed start past gid mirror run victim worker now n o =
    let same = its_gid start past gid o.download o.added in
    record {
      download = o.download;
      added = o.added;
      active = n.active;
      granted = subst (λ (g : Gid). IsGrantBy start past g o.download (payload_lengths_of start past gid)
          (offered_claim mirror run victim n.id worker now.0)) same
          (blocks_by handed start past o.download (payload_lengths_of start past gid) mirror run victim n.id worker now.0
          o.is);
      fresh = n.fresh;
      later = n.later;
    }

probe_next : (handed : List Handed) (start : RunStart) (past : List Event) (gid : Gid) (mirror worker : ℕ)
    (now : Moment) (n : MayBeNext start past gid now) → IsOffer handed start past now.0 gid (Probe mirror)
    → MayBeClaimed start past gid (offered_claim mirror no_blocks None n.id worker now.0)
probe_next handed start past gid mirror worker now n o =
    let same = its_gid start past gid o.download o.added in
    record {
      download = o.download;
      added = o.added;
      active = n.active;
      granted = subst (λ (g : Gid). IsGrantBy start past g o.download (payload_lengths_of start past gid)
          (offered_claim mirror no_blocks None n.id worker now.0)) same
          (probe_by handed start past o.download (payload_lengths_of start past gid) mirror n.id worker now.0 o.is);
      fresh = n.fresh;
      later = n.later;
    }

next_active : (P : Gid → Offer → Type 0) (queue : QueueLists) (levels : RunLevels) (now : ℕ) (gid : Gid) (offer : Offer)
    → IsNextOffer P (active_credits queue levels now) gid offer → list_any (is_same_gid gid) queue.active ≡ true
next_active P queue levels now gid offer is =
    subst (λ (g : Gid). list_any (is_same_gid g) queue.active ≡ true) is.gid_is
    (among queue.added levels now queue.active is.before is.credit is.behind is.cut)

-- what is known of an opened download says who gave a full piece
piece_found : (total len : ℕ) (own : List OwnEvent) (k : Account) (piece : ℕ) → MatchesEvents total len own k
    → is_opened own ≡ true → AwaitsFinding total len own piece
    → MaySettle total len own piece (slice_index_or k.progress.givers piece Nobody)
piece_found total len own k piece matches opened awaits =
    record {
      opened = opened;
      within = awaits.within;
      full = awaits.full;
      unverified = awaits.unverified;
      anew = awaits.anew;
      givers = (matches.pieces piece awaits.within).giver;
    }

-- the giver of the piece, and that it may be found right
record MayBeRight (start : RunStart) (past : List Event) (gid : Gid) (piece : ℕ) : Type 0 where
  giver : Giver
  may : MayFollow start past (Settled gid piece true giver)

whole_by : Laws → (start : RunStart) (past : List Event) (gid : Gid) (piece : ℕ) (handed : List Handed) (now : ℕ)
    (d : Download) → IsLegal start past → download_in start past gid ≡ Some d → d.gid ≡ gid
    → (o : Option PayloadLengths) → payload_lengths_of start past gid ≡ o
    → IsOfferBy handed start past d o now (Whole piece) → MayBeRight start past gid piece
whole_by laws start past gid piece handed now d legal added same None is offered = absurd offered
whole_by laws start past gid piece handed now d legal added same (Some l) is offered =
    let own = own_of start past gid in
    let lengths : known_lengths start past gid ≡ l =
    ap (λ (o : Option PayloadLengths). unwrap_or o no_lengths) is in
    let opened : is_opened own ≡ true = subst (λ (g : Gid). is_opened (own_of start past g) ≡ true) same offered.0 in
    let awaits : AwaitsFinding (known_lengths start past gid).total (known_lengths start past gid).piece_len own piece =
    subst (λ (y : PayloadLengths). AwaitsFinding y.total y.piece_len own piece) (sym lengths)
    (subst (λ (g : Gid). AwaitsFinding l.total l.piece_len (own_of start past g) piece) same offered.1.whole.awaits) in
    let part = parts laws start past gid legal in
    let k = account_of (known_lengths start past gid).total (known_lengths start past gid).piece_len own in
    let matches = laws.accounts (known_lengths start past gid).total (known_lengths start past gid).piece_len own
    (λ (h : is_opened own ≡ true). plan_of start past gid (part.planned h)) part.legal in
    let settle = piece_found (known_lengths start past gid).total (known_lengths start past gid).piece_len own k piece
    matches opened awaits in
    record {
      giver = slice_index_or k.progress.givers piece Nobody;
      may = record { own = record { download = d; added = added; may = settle }; right_is = λ unlisted. refl };
    }

whole_next : Laws → (start : RunStart) (past : List Event) (gid : Gid) (piece : ℕ) (handed : List Handed) (now : ℕ)
    → IsLegal start past → IsOffer handed start past now gid (Whole piece) → MayBeRight start past gid piece
whole_next laws start past gid piece handed now legal o =
    whole_by laws start past gid piece handed now o.download legal o.added (its_gid start past gid o.download o.added)
    (payload_lengths_of start past gid) refl o.is

claimed_by : Laws → (m : MachineView) (handed : List Handed) (levels : RunLevels) (now : Moment) (offered : Offered)
    (id : ℕ) → IsLegal m.start m.past → IsNewNumber m.past id → IsLaterThan m.past now → IsOfferedNow m handed levels now.0 offered
    → MayBeTaken m now offered
claimed_by laws m handed levels now (Next gid (Whole piece)) id legal new later is =
    let r = whole_next laws m.start m.past gid piece handed now.0 legal is.is in
    (Settled gid piece true r.giver, (r.giver, refl), r.may)
claimed_by laws m handed levels now (Next gid (Blocks mirror run victim)) id legal new later is =
    λ worker. let active = next_active (IsOffer handed m.start m.past now.0) (queue_in m.start m.past) levels now.0 gid
    (Blocks mirror run victim) is in (
      Claimed gid (offered_claim mirror run victim id worker now.0),
      (id, refl),
      blocks_next handed m.start m.past gid mirror run victim worker now
          (record { active = active; id = id; fresh = new; later = later }) is.is,
    )
claimed_by laws m handed levels now (Next gid (Probe mirror)) id legal new later is =
    λ worker. let active = next_active (IsOffer handed m.start m.past now.0) (queue_in m.start m.past) levels now.0 gid
    (Probe mirror) is in (
      Claimed gid (offered_claim mirror no_blocks None id worker now.0),
      (id, refl),
      probe_next handed m.start m.past gid mirror worker now
          (record { active = active; id = id; fresh = new; later = later }) is.is,
    )
claimed_by laws m handed levels now (Held wait) id legal new later is = tt
claimed_by laws m handed levels now Idle id legal new later is = tt

pub may_be_claimed : Laws → (s : MachineState) (v : MachineView) (handed : List Handed) (levels : RunLevels) (now : Moment)
    (offered : Offered) → Seen s v → IsLaterThan v.past now → IsOfferedNow v handed levels now.0 offered
    → MayBeTaken v now offered
may_be_claimed laws s v handed levels now offered seen later is =
    claimed_by laws v handed levels now offered (length s.homes)
    (subst (λ (w : MachineView). IsLegal w.start w.past) seen.view_is seen.keeps.legal)
    (subst (λ (w : MachineView). IsNewNumber w.past (length s.homes)) seen.view_is
    (homes_new s.start (reverse s.events) s.homes seen.keeps.homes))
    later is

-- ---- once there is room for claims

abbrev pub grown : MachineState → List Entry → MachineState
grown s ys = record s { entries = ys }

pub grown_seen : (s : MachineState) (v : MachineView) (ys : List Entry) → Seen s v → AreRoomier s.entries ys
    → Seen (grown s ys) (view_of (grown s ys))
grown_seen s v ys seen r =
    record { keeps = roomier_run s v s.events ys s.room seen refl r (omega arith); view_is = refl }

pub grown_roomier : (s : MachineState) (v : MachineView) (ys : List Entry) → Seen s v → AreRoomier s.entries ys
    → IsRoomierRun v (view_of (grown s ys))
grown_roomier s v ys seen r = roomier_seen s v s.events ys s.room seen refl r (omega arith)

pub grown_offered : Laws → AccountsTellOpening → (s : MachineState) (v : MachineView) (ys : List Entry)
    (handed : List Handed) (levels : RunLevels) (now : ℕ) (offered : Offered) → Seen s v → AreRoomier s.entries ys
    → IsOffered (IsGidOffer s.queue.added ys s.events handed now) (active_credits s.queue levels now) offered
    → IsOfferedNow v handed levels now offered
grown_offered laws tells s v ys handed levels now offered seen r is =
    let told : IsOfferedNow (view_of (grown s ys)) handed levels now offered =
    offered_here laws tells (grown s ys) (view_of (grown s ys)) handed levels now offered (grown_seen s v ys seen r) is in
    subst (λ (w : MachineView). IsOfferedNow w handed levels now offered) seen.view_is told

pub grown_claim : Laws → (s : MachineState) (v : MachineView) (ys : List Entry) (handed : List Handed) (levels : RunLevels)
    (now : Moment) (offered : Offered) → Seen s v → AreRoomier s.entries ys → IsLaterThan v.past now
    → IsOfferedNow v handed levels now.0 offered → MayBeTaken (view_of (grown s ys)) now offered
grown_claim laws s v ys handed levels now offered seen r later is =
    let here : IsLaterThan (reverse s.events) now =
    subst (λ (w : MachineView). IsLaterThan w.past now) (sym seen.view_is) later in
    let told : IsOfferedNow (view_of s) handed levels now.0 offered =
    subst (λ (w : MachineView). IsOfferedNow w handed levels now.0 offered) (sym seen.view_is) is in
    may_be_claimed laws (grown s ys) (view_of (grown s ys)) handed levels now offered (grown_seen s v ys seen r) here told

pub all_have : (s : MachineState) (v : MachineView) → Seen s v → length s.entries ≡ length s.queue.added
all_have s v seen =
    seen.keeps.downloads.many
    ∙ (sym (length-map (replay_of s.start (reverse s.events)).downloads added_as)
    ∙ ap (λ (xs : List Added). length xs) (sym (added_is s v seen)))

pub have_buckets : (s : MachineState) (v : MachineView) (levels : RunLevels) → Seen s v
    → length (downloads_in v) ≤ length levels.own → length s.queue.added ≤ length levels.own
have_buckets s v levels seen enough =
    let same : length s.entries ≡ length (downloads_in v) =
    seen.keeps.downloads.many ∙ ap (λ (w : MachineView). length (downloads_in w)) seen.view_is in
    let many = all_have s v seen in
    omega arith
