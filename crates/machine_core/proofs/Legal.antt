-- In a legal history each download's part is legal, and the choice of a claim is one that may come next.
use Rattle.std.proofs.Common.{◌≡◌, ℕ, Bool, true, false, cond, Option, Some, None, List, [], ◌∷◌, refl, sym, ap, ◌∙◌, subst, inl, inr}
use Rattle.std.specs.Prelude.{All, ◌<◌, not, filter}
use Rattle.std.specs.List.{filter_map}
use Rattle.std.proofs.lemmas.List.Elements.{All-nil, All-cons, All-head, All-tail}
use Rattle.std.specs.Option.{is_some, unwrap_or, option_and_then}
use Rattle.dl_kinds.specs.declared.gid.Gid.{Gid}
use Rattle.dl_history.specs.HistoryLaws.{HistoriesAreSound}
use Rattle.dl_history.specs.OwnEvents.{OwnEvent, Opens, Grants, Lands, Settles, Clears, Loses, Sizes, Saves, Checks, Halts}
use Rattle.dl_history.specs.OwnLegal.{MayHappen, MayOpen, LegalOwn}
use Rattle.dl_history.specs.AccountLaws.{AccountsMatchEvents}
use Rattle.dl_history.specs.Accounts.{account_of}
use Rattle.dl_history.specs.StandingClaims.{granted_claims, standing_claims, is_standing}
use Rattle.dl_kinds.specs.Plan.{IsPlan}
use Rattle.dl_kinds.specs.declared.claims.Claim.{Claim}
use Rattle.dl_kinds.specs.declared.runs.Moment.{Moment}
use Rattle.machine_core.specs.Choices.{IsGrantBy, options_now}
use Rattle.machine_core.proofs.Granting.{PlanLaws, block_grant}
use Rattle.machine_core.proofs.Tests.{true_not_false, or_second}
use Rattle.dl_history.specs.PayloadParts.{is_opened, is_opening, told_total}
use Rattle.machine_core.specs.Starts.{RunStart, Download, Subject, Listed, Unlisted}
use Rattle.machine_core.specs.Replays.{replay_of, download_of, is_same_gid}
use Rattle.machine_core.specs.OwnParts.{PayloadLengths, no_lengths, own_of, with_own, halted_where, halts_by, lengths_by, payload_lengths_of, told_lengths}
use Rattle.machine_core.specs.RunLegal.{IsLegal, IsNewNumber, MayBeClaimed, MayBeOpened, MayOwn, claim_of_event, is_listed, known_lengths, DownloadsAreLegal, KnownAreIdle}
use Rattle.machine_core.specs.declared.events.Event.{Event}
use Rattle.machine_core.specs.declared.events.Event.TheVariants.{Called, Opened, Sized, Claimed, Landed, Settled, Cleared, Lost, Checked, Saved, Ended, Left, Stopped}
use Rattle.machine_core.proofs.Parts.{Adds, FitsOwn, call_adds, event_fits, gid_is, halted_fits, lengths_in, lengths_told, more_downloads, opened_added, opened_cases, opened_where, stays_added}

-- ---- what is known of an opened download

abbrev pub known_in : List Download → Gid → List OwnEvent → Option PayloadLengths
known_in downloads gid own = option_and_then (λ (d : Download). lengths_by d d.subject own)
    (download_of downloads gid)

-- its lengths are known, and are a plan's
pub record IsPlanned (downloads : List Download) (gid : Gid) (own : List OwnEvent) : Type 0 where
  pub lengths : PayloadLengths
  pub known : known_in downloads gid own ≡ Some lengths
  pub plan : IsPlan lengths.total lengths.piece_len

pub known_found : (o : Option Download) (own own' : List OwnEvent) → told_total own' ≡ told_total own
    → option_and_then (λ (d : Download). lengths_by d d.subject own') o ≡ option_and_then
    (λ (d : Download). lengths_by d d.subject own) o
known_found None own own' same = refl
known_found (Some d) own own' same = lengths_told d d.subject own own' same

planned_on : (downloads : List Download) (gid : Gid) (own own' : List OwnEvent) → told_total own' ≡ told_total own
    → IsPlanned downloads gid own
    → IsPlanned downloads gid own'
planned_on downloads gid own own' same p =
    record {
      lengths = p.lengths;
      known = known_found (download_of downloads gid) own own' same
          ∙ p.known;
      plan = p.plan;
    }

-- a download without a metainfo file may have probes
abbrev pub may_probe : Option Download → Bool
may_probe None = false
may_probe (Some d) = not (is_listed d.subject)

granted_where : (t : Bool) (own : List OwnEvent) (e : OwnEvent) → granted_claims (e ∷ own) ≡ granted_claims own
    → granted_claims (cond t (e ∷ own) own) ≡ granted_claims own
granted_where true own e same = same
granted_where false own e same = refl

unopened_where : (t : Bool) (own : List OwnEvent) (e : OwnEvent) → is_opened (cond t (e ∷ own) own) ≡ false
    → is_opened own ≡ false
unopened_where true own e h = or_second (is_opening e) (is_opened own) h
unopened_where false own e h = h

pub record Part (downloads : List Download) (gid : Gid) (own : List OwnEvent) : Type 0 where
  pub legal : FitsOwn downloads gid own
  pub planned : is_opened own ≡ true → IsPlanned downloads gid own
  pub bare : may_probe (download_of downloads gid) ≡ false → is_opened own ≡ false → granted_claims own ≡ []

pub told_where : (t : Bool) (own : List OwnEvent) (e : OwnEvent) → told_total (e ∷ own) ≡ told_total own
    → told_total (cond t (e ∷ own) own) ≡ told_total own
told_where true own e same = same
told_where false own e same = refl

-- an event of one download that doesn't open one
event_part : (start : RunStart) (past : List Event) (gid other : Gid) (e : OwnEvent)
    → Part (replay_of start past).downloads gid (own_of start past gid)
    → told_total (e ∷ own_of start past gid) ≡ told_total (own_of start past gid) → is_opening e ≡ false
    → granted_claims (e ∷ own_of start past gid) ≡ granted_claims (own_of start past gid) → MayOwn start past other e
    → Part (replay_of start past).downloads gid (with_own other gid e (own_of start past gid))
event_part start past gid other e part told never same may =
    let own = own_of start past gid in
    record {
      legal = event_fits start past gid other e part.legal told may;
      planned = λ h.
          planned_on (replay_of start past).downloads gid own (with_own other gid e own)
          (told_where (is_same_gid gid other) own e told)
          (part.planned (opened_where (is_same_gid gid other) own e never h));
      bare = λ none h.
          granted_where (is_same_gid gid other) own e same
          ∙ part.bare none (unopened_where (is_same_gid gid other) own e h);
    }

halted_part : (t : Bool) (downloads : List Download) (gid : Gid) (own : List OwnEvent) → Part downloads gid own
    → Part downloads gid (halted_where t own)
halted_part true downloads gid own part =
    record {
      legal = halted_fits true downloads gid own part.legal;
      planned = λ h. planned_on downloads gid own (Halts false ∷ own) refl (part.planned h);
      bare = part.bare;
    }
halted_part false downloads gid own part = part

-- ---- claims

fresh_where : (t : Bool) (own : List OwnEvent) (cl : Claim) (id : ℕ) → cl.id < id
    → All (λ (c : Claim). c.id < id) (granted_claims own)
    → All (λ (c : Claim). c.id < id) (granted_claims (cond t (Grants cl ∷ own) own))
fresh_where true own cl id less rest = All-cons (λ (c : Claim). c.id < id) cl (granted_claims own) less rest
fresh_where false own cl id less rest = rest

fresh_same : (t : Bool) (own : List OwnEvent) (e : OwnEvent) (id : ℕ) → granted_claims (e ∷ own) ≡ granted_claims own
    → All (λ (c : Claim). c.id < id) (granted_claims own)
    → All (λ (c : Claim). c.id < id) (granted_claims (cond t (e ∷ own) own))
fresh_same true own e id same rest = subst (λ (cs : List Claim). All (λ (c : Claim). c.id < id) cs) (sym same) rest
fresh_same false own e id same rest = rest

fresh_halted : (t : Bool) (own : List OwnEvent) (id : ℕ) → All (λ (c : Claim). c.id < id) (granted_claims own)
    → All (λ (c : Claim). c.id < id) (granted_claims (halted_where t own))
fresh_halted true own id rest = rest
fresh_halted false own id rest = rest

-- a number that is new in the run is new for each download
pub fresh_in : (start : RunStart) (past : List Event) (gid : Gid) (id : ℕ) → IsNewNumber past id
    → All (λ (c : Claim). c.id < id) (granted_claims (own_of start past gid))
fresh_in start [] gid id new = All-nil (λ (c : Claim). c.id < id)
fresh_in start (Called session asked now ∷ past) gid id new =
    fresh_halted (halts_by start past (Called session asked now) asked gid) (own_of start past gid) id
    (fresh_in start past gid id new)
fresh_in start (Opened other verified blocks now ∷ past) gid id new =
    fresh_same (is_same_gid gid other) (own_of start past gid) (Opens verified blocks now) id refl
    (fresh_in start past gid id new)
fresh_in start (Sized other n total ∷ past) gid id new =
    fresh_same (is_same_gid gid other) (own_of start past gid) (Sizes n total) id refl
    (fresh_in start past gid id new)
fresh_in start (Claimed other cl ∷ past) gid id new =
    fresh_where (is_same_gid gid other) (own_of start past gid) cl id
    (All-head (λ (n : ℕ). n < id) cl.id (filter_map claim_of_event past) new)
    (fresh_in start past gid id (All-tail (λ (n : ℕ). n < id) cl.id (filter_map claim_of_event past) new))
fresh_in start (Landed other n mirror run now ∷ past) gid id new =
    fresh_same (is_same_gid gid other) (own_of start past gid) (Lands n mirror run) id refl
    (fresh_in start past gid id new)
fresh_in start (Settled other piece right giver ∷ past) gid id new =
    fresh_same (is_same_gid gid other) (own_of start past gid) (Settles piece right giver) id refl
    (fresh_in start past gid id new)
fresh_in start (Cleared other piece ∷ past) gid id new =
    fresh_same (is_same_gid gid other) (own_of start past gid) (Clears piece) id refl (fresh_in start past gid id new)
fresh_in start (Lost other n mirror piece mark ∷ past) gid id new =
    fresh_same (is_same_gid gid other) (own_of start past gid) (Loses n mirror piece mark) id refl
    (fresh_in start past gid id new)
fresh_in start (Checked other right ∷ past) gid id new =
    fresh_same (is_same_gid gid other) (own_of start past gid) (Checks right) id refl (fresh_in start past gid id new)
fresh_in start (Saved other now ∷ past) gid id new =
    fresh_same (is_same_gid gid other) (own_of start past gid) (Saves now) id refl (fresh_in start past gid id new)
fresh_in start (Ended other how ∷ past) gid id new =
    fresh_same (is_same_gid gid other) (own_of start past gid) (Halts true) id refl (fresh_in start past gid id new)
fresh_in start (Left ∷ past) gid id new = fresh_in start past gid id new
fresh_in start (Stopped ∷ past) gid id new = fresh_in start past gid id new

-- what the laws of the crates below say
pub record Laws : Type 0 where
  pub sound : HistoriesAreSound
  pub accounts : AccountsMatchEvents
  pub plans : PlanLaws

none_told : (n : ℕ) (o : Option ℕ) → told_lengths n o ≡ None → o ≡ None
none_told n None h = refl
none_told n (Some total) h = absurd cc

not_so : (t : Bool) → (t ≡ true → ⊥) → t ≡ false
not_so true h = absurd (h refl)
not_so false h = refl

untold_by : (d : Download) (s : Subject) (own : List OwnEvent) → lengths_by d s own ≡ None → told_total own ≡ None
untold_by d (Listed meta uris) own h = absurd cc
untold_by d (Unlisted uris) own h = none_told _ (told_total own) h

untold : (d : Download) (o : Option Download) (own : List OwnEvent) → o ≡ Some d
    → option_and_then (λ (x : Download). lengths_by x x.subject own) o ≡ None → told_total own ≡ None
untold d None own is h = absurd cc
untold d (Some x) own is h = untold_by x x.subject own h

-- the choice is a claim that may come next
grant_by : (laws : Laws) (start : RunStart) (past : List Event) (gid : Gid) (claim : Claim) (download : Download)
    → download_of (replay_of start past).downloads gid ≡ Some download
    → Part (replay_of start past).downloads gid (own_of start past gid)
    → IsNewNumber past claim.id → (o : Option PayloadLengths)
    → known_in (replay_of start past).downloads gid (own_of start past gid) ≡ o
    → IsGrantBy start past gid download o claim
    → MayHappen (unwrap_or o no_lengths).total (unwrap_or o no_lengths).piece_len (own_of start past gid)
    (Grants claim)
grant_by laws start past gid claim download added part new None is g =
    let ds = (replay_of start past).downloads in
    let own = own_of start past gid in
    let un : is_opened own ≡ false =
    not_so (is_opened own)
    (λ opened. let p = part.planned opened in absurd (let e : None ≡ Some p.lengths = sym is ∙ p.known in cc)) in
    let legal = laws.sound.unopened (lengths_in ds gid own).total (lengths_in ds gid own).piece_len 0 0 own part.legal
    un in
    let m = laws.accounts 0 0 own (λ opened. true_not_false (is_opened own) opened un) legal in
    inl (record {
      fresh = fresh_in start past gid claim.id new;
      first = g.first;
      count = g.count;
      unopened = un;
      untold = untold download (download_of ds gid) own added is;
      alone = sym m.claims.standing ∙ g.alone;
    })
grant_by laws start past gid claim download added part new (Some lengths) is g =
    let ds = (replay_of start past).downloads in
    let own = own_of start past gid in
    let p = part.planned g.0 in
    let same : p.lengths ≡ lengths = let e : Some p.lengths ≡ Some lengths = sym p.known ∙ is in cc in
    let plan : IsPlan lengths.total lengths.piece_len = subst (λ (l : PayloadLengths). IsPlan l.total l.piece_len)
    same p.plan in
    let legal : LegalOwn lengths.total lengths.piece_len own =
    subst (λ (x : Option PayloadLengths). LegalOwn (unwrap_or x no_lengths).total (unwrap_or x no_lengths).piece_len
    own) is part.legal in
    inr (block_grant (record {
      laws = laws.plans;
      lengths = lengths;
      download = download;
      own = own;
      options = options_now start past download;
      kept = account_of lengths.total lengths.piece_len own;
      plan = plan;
      opened = g.0;
      matches = laws.accounts lengths.total lengths.piece_len own (λ opened. plan) legal;
    }) claim (fresh_in start past gid claim.id new) g.1)

pub granted : (laws : Laws) (start : RunStart) (past : List Event) (gid : Gid) (claim : Claim)
    → Part (replay_of start past).downloads gid (own_of start past gid) → MayBeClaimed start past gid claim
    → MayOwn start past gid (Grants claim)
granted laws start past gid claim part may =
    record {
      download = may.download;
      added = may.added;
      may = grant_by laws start past gid claim may.download may.added part may.fresh
          (payload_lengths_of start past gid) refl may.granted;
    }

-- ---- every event

sized_part : (laws : HistoriesAreSound) (start : RunStart) (past : List Event) (gid other : Gid) (id total : ℕ)
    → Part (replay_of start past).downloads gid (own_of start past gid) → MayOwn start past other (Sizes id total)
    → (t : Bool) → is_same_gid gid other ≡ t
    → Part (replay_of start past).downloads gid
    (cond t (Sizes id total ∷ own_of start past gid) (own_of start past gid))
sized_part laws start past gid other id total part may false same = part
sized_part laws start past gid other id total part may true same =
    let ds = (replay_of start past).downloads in
    let own = own_of start past gid in
    let mine : MayHappen (lengths_in ds gid own).total (lengths_in ds gid own).piece_len own (Sizes id total) =
    subst (λ (g : Gid). MayHappen (known_lengths start past g).total (known_lengths start past g).piece_len
    (own_of start past g) (Sizes id total))
    (gid_is gid other same) may.may in
    let un = laws.sized (lengths_in ds gid own).total (lengths_in ds gid own).piece_len own id part.legal mine in
    record {
      legal = (
        laws.unopened (lengths_in ds gid own).total (lengths_in ds gid own).piece_len
            (lengths_in ds gid (Sizes id total ∷ own)).total
            (lengths_in ds gid (Sizes id total ∷ own)).piece_len own part.legal un,
        mine,
      );
      planned = λ opened. true_not_false (is_opened own) opened un;
      bare = part.bare;
    }

-- a download whose length is known and that isn't opened is idle
listed_known : (d : Download) (s : Subject) (own : List OwnEvent) → not (is_listed s) ≡ false
    → lengths_by d s own ≡ None → ⊥
listed_known d (Listed meta uris) own never h = absurd cc
listed_known d (Unlisted uris) own never h = absurd cc

nothing_stands : (own : List OwnEvent) → granted_claims own ≡ [] → standing_claims own ≡ []
nothing_stands own none = ap (λ (cs : List Claim). filter (is_standing own) cs) none

some_told : (n : ℕ) (o : Option ℕ) (lengths : PayloadLengths) → told_lengths n o ≡ Some lengths → (t : ℕ)
    × (o ≡ Some t)
some_told n None lengths h = absurd cc
some_told n (Some t) lengths h = (t, refl)

idle_of : (laws : HistoriesAreSound) (downloads : List Download) (gid : Gid) (own : List OwnEvent)
    → Part downloads gid own
    → is_opened own ≡ false → (d : Download) (s : Subject) → d.subject ≡ s → download_of downloads gid ≡ Some d
    → (lengths : PayloadLengths) → lengths_by d d.subject own ≡ Some lengths → standing_claims own ≡ []
idle_of laws downloads gid own part un d (Listed meta uris) subject is lengths known =
    nothing_stands own (part.bare (ap may_probe is ∙ ap (λ (x : Subject). not (is_listed x)) subject) un)
idle_of laws downloads gid own part un d (Unlisted uris) subject is lengths known =
    let t = some_told _ (told_total own) lengths (sym (ap (λ (x : Subject). lengths_by d x own) subject) ∙ known) in
    laws.told (lengths_in downloads gid own).total (lengths_in downloads gid own).piece_len own t.0 part.legal un t.1

idle_by : (laws : HistoriesAreSound) (downloads : List Download) (gid : Gid) (own : List OwnEvent)
    → Part downloads gid own
    → is_opened own ≡ false → (o : Option Download) → download_of downloads gid ≡ o → (lengths : PayloadLengths)
    → option_and_then (λ (d : Download). lengths_by d d.subject own) o ≡ Some lengths → standing_claims own ≡ []
idle_by laws downloads gid own part un None is lengths known = absurd cc
idle_by laws downloads gid own part un (Some d) is lengths known =
    idle_of laws downloads gid own part un d d.subject refl is lengths known

pub idle : (laws : HistoriesAreSound) (start : RunStart) (past : List Event) (gid : Gid)
    → Part (replay_of start past).downloads gid (own_of start past gid) → is_opened (own_of start past gid) ≡ false
    → (lengths : PayloadLengths) → payload_lengths_of start past gid ≡ Some lengths
    → standing_claims (own_of start past gid) ≡ []
idle laws start past gid part un lengths known =
    idle_by laws (replay_of start past).downloads gid (own_of start past gid) part un
    (download_of (replay_of start past).downloads gid) refl
    lengths known

-- the opening is one that may come next
may_open : (laws : HistoriesAreSound) (start : RunStart) (past : List Event) (gid : Gid) (verified blocks : List Bool)
    (now : Moment)
    → Part (replay_of start past).downloads gid (own_of start past gid)
    → MayBeOpened start past gid verified blocks now
    → MayOwn start past gid (Opens verified blocks now)
may_open laws start past gid verified blocks now part may =
    record {
      download = may.download;
      added = may.added;
      may = subst
          (λ (o : Option PayloadLengths). MayOpen (unwrap_or o no_lengths).total (unwrap_or o no_lengths).piece_len
          (own_of start past gid) verified blocks) (sym may.known)
          (record {
            start = may.rows;
            first = may.first;
            idle =
                idle laws start past gid part may.first may.lengths may.known;
          });
    }

opened_part : (laws : HistoriesAreSound) (start : RunStart) (past : List Event) (gid other : Gid)
    (verified blocks : List Bool) (now : Moment)
    → Part (replay_of start past).downloads gid (own_of start past gid)
    → Part (replay_of start past).downloads other (own_of start past other)
    → MayBeOpened start past other verified blocks now
    → Part (replay_of start past).downloads gid
    (with_own other gid (Opens verified blocks now) (own_of start past gid))
opened_part laws start past gid other verified blocks now part its may =
    let ds = (replay_of start past).downloads in
    let own = own_of start past gid in
    record {
      legal = event_fits start past gid other (Opens verified blocks now) part.legal refl
          (may_open laws start past other verified blocks now its may);
      planned = λ h.
          planned_on ds gid own (with_own other gid (Opens verified blocks now) own)
          (told_where (is_same_gid gid other) own (Opens verified blocks now) refl)
          (opened_cases (is_same_gid gid other) own (Opens verified blocks now)
          (λ same. record {
            lengths = may.lengths;
            known = subst (λ (g : Gid). payload_lengths_of start past g ≡ Some may.lengths) (gid_is gid other same)
                may.known;
            plan = may.plan;
          })
          part.planned h);
      bare = λ none h.
          granted_where (is_same_gid gid other) own (Opens verified blocks now) refl
          ∙ part.bare none (unopened_where (is_same_gid gid other) own (Opens verified blocks now) h);
    }

-- a claim of a download that isn't opened is a probe, of one without a metainfo file
claim_bare : (start : RunStart) (past : List Event) (gid : Gid) (claim : Claim) (download : Download)
    (o : Option PayloadLengths)
    → payload_lengths_of start past gid ≡ o → download_of (replay_of start past).downloads gid ≡ Some download
    → IsGrantBy start past gid download o claim → may_probe (download_of (replay_of start past).downloads gid) ≡ false
    → is_opened (own_of start past gid) ≡ false → ⊥
claim_bare start past gid claim download (Some lengths) is added g none un =
    true_not_false (is_opened (own_of start past gid)) g.0 un
claim_bare start past gid claim download None is added g none un =
    listed_known download download.subject (own_of start past gid) (sym (ap may_probe added) ∙ none)
    (sym (ap (option_and_then (λ (d : Download). lengths_by d d.subject (own_of start past gid))) added) ∙ is)

claimed_bare : (start : RunStart) (past : List Event) (gid : Gid) (claim : Claim) (t : Bool)
    → (t ≡ true → may_probe (download_of (replay_of start past).downloads gid) ≡ false
    → is_opened (own_of start past gid) ≡ false → ⊥)
    → Part (replay_of start past).downloads gid (own_of start past gid)
    → may_probe (download_of (replay_of start past).downloads gid) ≡ false
    → is_opened (cond t (Grants claim ∷ own_of start past gid) (own_of start past gid)) ≡ false
    → granted_claims (cond t (Grants claim ∷ own_of start past gid) (own_of start past gid)) ≡ []
claimed_bare start past gid claim true never part none un = absurd (never refl none un)
claimed_bare start past gid claim false never part none un = part.bare none un

claimed_part : (laws : Laws) (start : RunStart) (past : List Event) (gid other : Gid) (claim : Claim)
    → Part (replay_of start past).downloads gid (own_of start past gid)
    → Part (replay_of start past).downloads other (own_of start past other)
    → MayBeClaimed start past other claim
    → Part (replay_of start past).downloads gid (with_own other gid (Grants claim) (own_of start past gid))
claimed_part laws start past gid other claim part its may =
    let ds = (replay_of start past).downloads in
    let own = own_of start past gid in
    record {
      legal = event_fits start past gid other (Grants claim) part.legal refl
          (granted laws start past other claim its may);
      planned = λ h.
          planned_on ds gid own (with_own other gid (Grants claim) own)
          (told_where (is_same_gid gid other) own (Grants claim) refl)
          (part.planned (opened_where (is_same_gid gid other) own (Grants claim) refl h));
      bare =
          claimed_bare start past gid claim (is_same_gid gid other)
          (λ same.
          subst (λ (g : Gid). may_probe (download_of (replay_of start past).downloads g) ≡ false
          → is_opened (own_of start past g) ≡ false → ⊥)
          (gid_is gid other same)
          (claim_bare start past other claim may.download (payload_lengths_of start past other) refl may.added
          may.granted))
          part;
    }

probes_before : (old new : List Download) (gid : Gid) → Adds old new → (o : Option Download) → download_of old gid ≡ o
    → may_probe (download_of new gid) ≡ false → may_probe (download_of old gid) ≡ false
probes_before old new gid adds None is none = ap may_probe is
probes_before old new gid adds (Some d) is none =
    ap may_probe (sym (stays_added gid old new adds (ap is_some is))) ∙ none

called_part : (laws : HistoriesAreSound) (start : RunStart) (past : List Event) (gid : Gid) (old new : List Download)
    (own : List OwnEvent) → Adds old new
    → (is_opened own ≡ true → is_some (download_of old gid) ≡ true) → Part old gid own → Part new gid own
called_part laws start past gid old new own adds there part =
    record {
      legal = more_downloads laws old new gid own (is_opened own) refl adds there part.legal;
      planned = λ opened.
          let p = part.planned opened in
          record {
            lengths = p.lengths;
            known = ap (option_and_then (λ (d : Download). lengths_by d d.subject own))
                (stays_added gid old new adds (there opened)) ∙ p.known;
            plan = p.plan;
          };
      bare = λ none un. part.bare (probes_before old new gid adds (download_of old gid) refl none) un;
    }

pub parts : (laws : Laws) (start : RunStart) (past : List Event) (gid : Gid) → IsLegal start past
    → Part (replay_of start past).downloads gid (own_of start past gid)
parts laws start [] gid legal = record { legal = tt; planned = λ h. absurd cc; bare = λ none un. refl }
parts laws start (Called session asked now ∷ past) gid legal =
    let new = (replay_of start (Called session asked now ∷ past)).downloads in
    let own = own_of start past gid in
    halted_part (halts_by start past (Called session asked now) asked gid) new gid own
    (called_part laws.sound start past gid (replay_of start past).downloads new own
    (call_adds start (replay_of start past) asked)
    (opened_added start past gid legal.0) (parts laws start past gid legal.0))
parts laws start (Opened other verified blocks now ∷ past) gid legal =
    opened_part laws.sound start past gid other verified blocks now (parts laws start past gid legal.0)
    (parts laws start past other legal.0) legal.1
parts laws start (Sized other id total ∷ past) gid legal =
    sized_part laws.sound start past gid other id total (parts laws start past gid legal.0) legal.1
    (is_same_gid gid other) refl
parts laws start (Claimed other claim ∷ past) gid legal =
    claimed_part laws start past gid other claim (parts laws start past gid legal.0)
    (parts laws start past other legal.0) legal.1
parts laws start (Landed other id mirror run now ∷ past) gid legal =
    event_part start past gid other (Lands id mirror run) (parts laws start past gid legal.0) refl refl refl legal.1.0
parts laws start (Settled other piece right giver ∷ past) gid legal =
    event_part start past gid other (Settles piece right giver) (parts laws start past gid legal.0) refl refl refl
    legal.1.own
parts laws start (Cleared other piece ∷ past) gid legal =
    event_part start past gid other (Clears piece) (parts laws start past gid legal.0) refl refl refl legal.1.own
parts laws start (Lost other id mirror piece mark ∷ past) gid legal =
    event_part start past gid other (Loses id mirror piece mark) (parts laws start past gid legal.0) refl refl refl
    legal.1
parts laws start (Checked other right ∷ past) gid legal =
    event_part start past gid other (Checks right) (parts laws start past gid legal.0) refl refl refl legal.1.own
parts laws start (Saved other now ∷ past) gid legal =
    event_part start past gid other (Saves now) (parts laws start past gid legal.0) refl refl refl legal.1.0
parts laws start (Ended other how ∷ past) gid legal =
    event_part start past gid other (Halts true) (parts laws start past gid legal.0) refl refl refl legal.1.own
parts laws start (Left ∷ past) gid legal = parts laws start past gid legal.0
parts laws start (Stopped ∷ past) gid legal =
    halted_part true (replay_of start past).downloads gid (own_of start past gid) (parts laws start past gid legal.0)

pub legal_parts : Laws → DownloadsAreLegal
legal_parts laws start past gid legal = (parts laws start past gid legal).legal

pub known_idle : Laws → KnownAreIdle
known_idle laws start past gid lengths legal known un =
    idle laws.sound start past gid (parts laws start past gid legal) un lengths known
