-- What workers are given.
use Rattle.std.proofs.Common.{Bor, reverse, ◌≡◌, ◌≤◌, ◌<◌, ◌+◌, ◌-◌, ⊎_elim, ℕ, zero, suc, Bool, true, false, Option, Some, None, List, [], ◌∷◌, ◌++◌, length, refl, sym, ap, ◌∙◌, subst, arith}
use Rattle.std.specs.Prelude.{◌||◌, Err, IfErr, IfNone, IfOk, IfSome, Ok, OnErr, OnOk, Result, map, option_copied, slice_get, slice_index_or}
use Rattle.std.specs.Int.{div_ceil}
use Rattle.std.specs.List.{list_any}
use Rattle.std.specs.Option.{is_some, option_and_then}
use Rattle.std.proofs.lemmas.Bool.{eq-eqb}
use Rattle.std.proofs.lemmas.List.Folds.{find_at}
use Rattle.std.proofs.lemmas.Option.{same_Some}
use Rattle.control_file.specs.Wants.{IsWant}
use Rattle.control_file.specs.declared.want.Want.{Want}
use Rattle.dl_disk.specs.State.{DiskState}
use Rattle.dl_history.specs.OwnEvents.{Grants}
use Rattle.dl_history.specs.OwnLegal.{LegalOwn, MayClaim, MayHappen, MayProbe}
use Rattle.dl_history.specs.PayloadParts.{is_opened}
use Rattle.dl_kinds.specs.Plan.{blocks_of, piece_end, piece_start, pieces_of}
use Rattle.dl_kinds.specs.declared.claims.Claim.{Claim}
use Rattle.dl_kinds.specs.declared.gid.Gid.{Gid}
use Rattle.dl_kinds.specs.declared.plan.Plan.{Plan}
use Rattle.dl_kinds.specs.declared.plan.TheConstants.{BLOCK_LEN}
use Rattle.dl_kinds.specs.declared.runs.Moment.{Moment}
use Rattle.dl_kinds.specs.declared.runs.Run.{Run}
use Rattle.dl_kinds.proofs.Cuts.{some_blocks}
use Rattle.engine_turns.specs.NextRows.{IsJobOf, mirror_url}
use Rattle.engine_turns.specs.Phases.{TurnStart}
use Rattle.engine_turns.specs.Standings.{HasNoHome, IsHomeOf, RunStanding}
use Rattle.engine_turns.specs.declared.operations.Said.{Said}
use Rattle.machine_core.specs.Claiming.{IsClaimUnder, IsOfferedNow, MayBeTaken}
use Rattle.machine_core.specs.DownloadWants.{HasWant, IsWantOf, files_of_subject}
use Rattle.machine_core.specs.MachineViews.{Appends, IsPlaceOf, MachineView, StandsUnder, place_in}
use Rattle.machine_core.specs.Offers.{Credit, IsOfferBy, active_credits, gid_credit, offered_claim}
use Rattle.machine_core.specs.Openings.{lengths_of_plan}
use Rattle.machine_core.specs.OwnParts.{PayloadLengths, own_of, payload_lengths_of}
use Rattle.machine_core.specs.MachineParts.{subject_of_event}
use Rattle.machine_core.specs.Reads.{IsAdding}
use Rattle.machine_core.specs.Replays.{is_active_in, is_download, is_same_gid, queue_in, replay_of}
use Rattle.machine_core.specs.RunLegal.{IsLegal, MayFollow, download_in, info_hash_by, is_listed, known_lengths}
use Rattle.machine_core.specs.Starts.{Download, RunStart, Subject, Listed, Unlisted}
use Rattle.machine_core.specs.TurnRooms.{IsRoomierRun}
use Rattle.machine_core.specs.declared.events.Event.{Event}
use Rattle.machine_core.specs.declared.events.Event.TheVariants.{Claimed, Settled}
use Rattle.machine_core.specs.declared.handed.Handed.{Handed}
use Rattle.machine_core.specs.declared.offers.Offer.TheVariants.{Blocks, Probe, Whole}
use Rattle.machine_core.specs.declared.offers.Offered.{Offered}
use Rattle.machine_core.specs.declared.offers.Offered.TheVariants.{Held, Idle, Next}
use Rattle.metainfo.specs.Jobs.{run_parts}
use Rattle.rate_limits.specs.Shared.{RunLevels}
use Rattle.resume_core.specs.Runs.{len_of_piece}
use Rattle.span_map.specs.Jobs.{IsJob, IsRun, run_end, run_start}
use Rattle.span_map.specs.declared.jobs.Job.{Job}
use Rattle.stored_run.specs.Granting.{IsLongAsPiece, IsPlaceOfClaim, MakesClaim, MayBeGiven, UngivenRow, ungiven_row}
use Rattle.stored_run.specs.RunFollows.{RunFollows}
use Rattle.stored_run.specs.Settlings.{CountedRow, UnreadRow}
use Rattle.stored_run.specs.Steps.{Continues, DoesRow, IsStandingOf, turn_from}
use Rattle.stored_run.specs.Stored.{IsStoredWith}
use Rattle.stored_run.specs.declared.run.StoredView.{StoredView}
use Rattle.stored_run.proofs.Claimed.{active_goes_on, claim_goes}
use Rattle.stored_run.proofs.Failing.{lengths_stay}
use Rattle.stored_run.proofs.Kept.{grants, own_at}
use Rattle.stored_run.proofs.Losses.{home_of_claim}
use Rattle.stored_run.proofs.Own.{lengths_known}
use Rattle.stored_run.proofs.PlainEvents.{gid_added, plain_after}

-- ---- the place of a claim's download

module _ (laws : RunFollows) (m : MachineView) (id : ℕ) (gid : Gid) (claim : Claim) (legal : IsLegal m.start m.past)
    (stands : StandsUnder m id gid claim) where
  place_at : (place : ℕ) → IsPlaceOf m gid place → place ≡ place_in m.start m.past gid → IsPlaceOfClaim m id place
  place_at place found first =
      let added : download_in m.start m.past gid ≡ Some found.download =
      find_at (is_download gid) (replay_of m.start m.past).downloads
      ∙ (ap (slice_get (replay_of m.start m.past).downloads) (sym first) ∙ found.added) in
      record {
        download = found.download;
        claim = claim;
        home = subst (λ (n : ℕ). IsHomeOf m.start m.past n found.download claim) stands.id_is
            (home_of_claim m.start m.past gid claim found.download added stands.stands);
        there = found.added;
        first = first ∙ ap (place_in m.start m.past) (sym found.gid_is);
        one = λ other twin there is. (stands.one other twin there is).0 ∙ sym found.gid_is;
      }

  pub found_place : (o : Option ℕ) → IfSome o (IsPlaceOf m gid)
      → IfSome o (λ place. place ≡ place_in m.start m.past gid) → IfSome o (IsPlaceOfClaim m id)
  found_place None found first = tt
  found_place (Some place) found first = place_at place found first

  pub found_none : (o : Option ℕ) → IfNone o (download_in m.start m.past gid ≡ None)
      → IfNone o (HasNoHome m.start m.past id)
  found_none (Some place) none = tt
  found_none None none =
      let goes = claim_goes laws m.start m.past gid claim legal stands.stands in
      absurd (let some : Some goes.download ≡ None = sym goes.added ∙ none in cc)

-- ---- what was offered may be given

-- one of the active downloads
pub among_active : (f : Gid → Credit) → ((g : Gid) → (f g).gid ≡ g) → (gs : List Gid) (before : List Credit) (c : Credit)
    (behind : List Credit) → map f gs ≡ before ++ c ∷ behind → list_any (is_same_gid c.gid) gs ≡ true
among_active f own [] [] c behind cut = absurd cc
among_active f own [] (b ∷ before) c behind cut = absurd cc
among_active f own (g ∷ gs) [] c behind cut =
    let first : f g ≡ c = cc in
    let same : g ≡ c.gid = sym (own g) ∙ ap (λ (x : Credit). x.gid) first in
    let yes = eq-eqb g.0 c.gid.0 (ap (λ (x : Gid). x.0) same) in
    rw yes refl
among_active f own (g ∷ gs) (b ∷ before) c behind cut =
    let rest : map f gs ≡ before ++ c ∷ behind = cc in
    either (is_same_gid c.gid g) (list_any (is_same_gid c.gid) gs) (among_active f own gs before c behind rest)
  where
    either : (a b : Bool) → b ≡ true → (a || b) ≡ true
    either true b is = refl
    either false b is = is

opened_by : (handed : List Handed) (start : RunStart) (past : List Event) (d : Download) (o : Option PayloadLengths)
    (now mirror : ℕ) (run : Run) (victim : Option ℕ) → IsOfferBy handed start past d o now (Blocks mirror run victim)
    → is_opened (own_of start past d.gid) ≡ true
opened_by handed start past d None now mirror run victim is = absurd is
opened_by handed start past d (Some lengths) now mirror run victim is = is.0

module _ {D : Type 0} (start : RunStart) (past : List Event) (handed : List Handed) (levels : RunLevels) (now : ℕ)
    (r : StoredView D) (start_is : r.machine.start ≡ start) (past_is : r.machine.past ≡ past) where
  is_going : (gid : Gid) (before behind : List Credit) (c : Credit)
      → active_credits (queue_in start past) levels now ≡ before ++ c ∷ behind → c.gid ≡ gid
      → is_active_in r.machine.start r.machine.past gid ≡ true
  is_going gid before behind c cut same =
      subst (λ (s : RunStart). is_active_in s r.machine.past gid ≡ true) (sym start_is)
      (subst (λ (p : List Event). is_active_in start p gid ≡ true) (sym past_is)
      (subst (λ (g : Gid). is_active_in start past g ≡ true) same
      (among_active (gid_credit (queue_in start past).added levels now) (λ g. refl) (queue_in start past).active before c
      behind cut)))

  pub may_give : (o : Offered) → IsOfferedNow (record { start = start; past = past; spare = 0; mark_spares = [] }) handed levels now o
      → MayBeTaken r.machine r.now o → MayBeGiven r o
  may_give (Next gid (Whole piece)) offered may =
      let giver = (may.1).0 in
      let settled : MayFollow r.machine.start r.machine.past (Settled gid piece true giver) =
      subst (λ (e : Event). MayFollow r.machine.start r.machine.past e) (may.1).1 may.2 in
      let own = settled.own in (
        record {
          opened = own.may.opened;
          goes = active_goes_on r.machine.start r.machine.past gid
              (is_going gid offered.before offered.behind offered.credit offered.cut offered.gid_is);
        },
        record { download = own.download; added = own.added; giver = giver; may = own.may },
      )
  may_give (Next gid (Blocks mirror run victim)) offered may =
      let d = offered.is.download in
      let same = gid_added start past gid d offered.is.added in
      let opened = opened_by handed start past d (payload_lengths_of start past gid) now mirror run victim offered.is.is in
      record {
        opened = subst (λ (s : RunStart). is_opened (own_of s r.machine.past gid) ≡ true) (sym start_is)
            (subst (λ (p : List Event). is_opened (own_of start p gid) ≡ true) (sym past_is)
            (subst (λ (g : Gid). is_opened (own_of start past g) ≡ true) same opened));
        next = may;
      }
  may_give (Next gid (Probe mirror)) offered may = may
  may_give (Held ms) offered may = tt
  may_give Idle offered may = tt

pub may_give_ok : {D E : Type 0} (m : MachineView) (handed : List Handed) (levels : RunLevels) (now : ℕ) (r : StoredView D)
    → IsRoomierRun m r.machine → (o : Result Offered E) → IfOk o (IsOfferedNow m handed levels now)
    → IfOk o (MayBeTaken r.machine r.now) → IfOk o (MayBeGiven r)
may_give_ok m handed levels now r same (Ok o) offered taken =
    may_give m.start m.past handed levels now r same.start_is same.past_is o offered taken
may_give_ok m handed levels now r same (Err e) offered taken = tt

-- ---- a claim

module _ (laws : RunFollows) (tells : Bool) (faults : ℕ) (disk : DiskState) (m new : MachineView)
    (wants : List (Option Want)) (now : Moment) (gid : Gid) (worker mirror : ℕ) (run : Run) (victim : Option ℕ) where
  came_kept : (id : ℕ) → Appends m new (IsClaimUnder id gid worker mirror run victim now)
      → IsStoredWith tells faults disk m.start m.past wants now → IsStoredWith tells faults disk new.start new.past wants now
  came_kept id came was =
      let claim = offered_claim mirror run victim id worker now.0 in
      plain_after laws tells faults disk m new wants now gid (Grants claim) (Claimed gid claim) was (grants claim) (λ g. refl)
      (subst (λ (e : Event). MayFollow m.start m.past e) came.is came.may) (omega arith) refl
      (came.past_is ∙ ap (λ (e : Event). e ∷ m.past) came.is) came.start_is

  pub claimed_kept : {E : Type 0} (r : Result ℕ E)
      → IfOk r (λ id. Appends m new (IsClaimUnder id gid worker mirror run victim now)) → OnErr r (IsRoomierRun m new)
      → IsStoredWith tells faults disk m.start m.past wants now → IsStoredWith tells faults disk new.start new.past wants now
  claimed_kept (Ok id) came same was = came_kept id came was
  claimed_kept (Err e) came same was =
      subst (λ (s : RunStart). IsStoredWith tells faults disk s new.past wants now) (sym same.start_is)
      (subst (λ (p : List Event). IsStoredWith tells faults disk m.start p wants now) (sym same.past_is) was)

pub claimed_by : {D E : Type 0} (u v : StoredView D) (new : MachineView) (gid : Gid) (worker mirror : ℕ) (run : Run)
    (victim : Option ℕ) → u ≡ v → (r : Result ℕ E)
    → IfOk r (λ id. Appends u.machine new (IsClaimUnder id gid worker mirror run victim u.now))
    → IfOk r (λ id. MakesClaim gid worker mirror run victim id v (record u { machine = new }))
claimed_by u v new gid worker mirror run victim same (Err e) came = tt
claimed_by u v new gid worker mirror run victim same (Ok id) came =
    subst (λ (w : StoredView _). MakesClaim gid worker mirror run victim id w (record u { machine = new })) same
    (record {
      past = came.past_is ∙ ap (λ (e : Event). e ∷ u.machine.past) came.is;
      start = came.start_is;
      disk = refl;
      wants = refl;
      now = refl;
    })

-- ---- the run of a claim

-- a claim of a download that is opened has blocks of its payload
pub claims_run : RunFollows → (start : RunStart) (past : List Event) (gid : Gid) (want : Want) (now : Moment)
    (worker mirror : ℕ) (run : Run) (victim : Option ℕ) (id : ℕ) → IsLegal start past → HasWant start past gid want
    → is_opened (own_of start past gid) ≡ true
    → MayFollow start past (Claimed gid (offered_claim mirror run victim id worker now.0)) → IsRun want.plan run
claims_run laws start past gid want now worker mirror run victim id legal has opened may =
    let claim = offered_claim mirror run victim id worker now.0 in
    let e = Claimed gid claim in
    let both : IsLegal start (e ∷ past) = (legal, may) in
    let l = known_lengths start past gid in
    let own = own_of start past gid in
    let lengths = lengths_stay laws start past e gid want both has in
    let legal_own = laws.legal start (e ∷ past) gid both in
    let grown = own_at gid (Grants claim) own in
    let happens : MayHappen l.total l.piece_len own (Grants claim) =
    (rw grown at (subst (λ (k : PayloadLengths). LegalOwn k.total k.piece_len (own_of start (e ∷ past) gid)) lengths legal_own)).1 in
    let claims : MayClaim l.total l.piece_len own claim = ⊎_elim
    (λ (probe : MayProbe own claim). absurd (let no : true ≡ false = sym opened ∙ probe.unopened in cc))
    (λ (blocks : MayClaim l.total l.piece_len own claim). blocks) happens in
    let same = lengths_known start past gid want has in
    record {
      some = claims.some;
      within = subst (λ (k : PayloadLengths). run.first + run.count ≤ blocks_of k.total k.piece_len) same claims.within;
    }

-- ---- the bytes of a piece

piece_ends : (total len piece : ℕ) → 1 ≤ len → piece < pieces_of total len
    → piece_start len piece ≤ piece_end total len piece
piece_ends total len piece some within =
    by (piece_end total len piece - piece_start len piece) refl (some_blocks total len piece some within)
  where
    by : (n : ℕ) → piece_end total len piece - piece_start len piece ≡ n
        → 1 ≤ div_ceil (piece_end total len piece - piece_start len piece) BLOCK_LEN
        → piece_start len piece ≤ piece_end total len piece
    by zero is blocks = absurd (let none : 1 ≤ div_ceil 0 BLOCK_LEN = (rw is at blocks) in omega (arith, none))
    by (suc n) is blocks = omega (arith, is)

pub long_as_piece : (start : RunStart) (past : List Event) (gid : Gid) (want : Want) (piece n : ℕ) (bytes : List ℕ)
    → HasWant start past gid want → IsWant want → piece < want.plan.pieces → n ≡ len_of_piece want.plan piece
    → length bytes ≡ n → IsLongAsPiece (known_lengths start past gid) piece bytes
long_as_piece start past gid want piece n bytes has is within len many =
    let ends = piece_ends want.plan.total want.plan.piece_len piece is.plan.some (omega (arith, within, is.pieces)) in
    subst (λ (l : PayloadLengths). IsLongAsPiece l piece bytes) (sym (lengths_known start past gid want has))
    (omega (arith, ends, len, many))

-- ---- what is asked of a mirror

pub none_reads : (xs : List (List ℕ)) (n : ℕ) → slice_get xs n ≡ None → slice_index_or xs n [] ≡ []
none_reads [] n none = refl
none_reads (x ∷ xs) zero none = absurd (let some : Some x ≡ None = none in cc)
none_reads (x ∷ xs) (suc n) none = none_reads xs n none

event_told : (o : Option (Bor Event)) (events : List Event) (called : ℕ) (subject : Subject)
    → option_copied o ≡ slice_get events called
    → option_and_then subject_of_event (slice_get events called) ≡ Some subject
    → IfSome o (λ e. subject_of_event e.now ≡ Some subject)
event_told None events called subject read told = tt
event_told (Some e) events called subject read told = ap (option_and_then subject_of_event) read ∙ told

-- the call that added a download
pub adding_told : (m : MachineView) (gid : Gid) (place called : ℕ) (download : Download)
    → place ≡ place_in m.start m.past gid → download_in m.start m.past gid ≡ Some download → (other : Gid)
    → IsAdding m place other called → (events : List Event) → events ≡ reverse m.past → (o : Option (Bor Event))
    → option_copied o ≡ slice_get events called → IfSome o (λ e. subject_of_event e.now ≡ Some download.subject)
adding_told m gid place called download first added other adding events are o read =
    let ds = (replay_of m.start m.past).downloads in
    let there : slice_get ds place ≡ Some download = ap (slice_get ds) first ∙ (sym (find_at (is_download gid) ds) ∙ added) in
    let same : adding.download ≡ download = same_Some adding.download download (sym adding.added ∙ there) in
    event_told o (reverse m.past) called download.subject
    (read ∙ ap (λ (es : List Event). slice_get es called) are)
    (adding.called ∙ ap (λ (d : Download). Some d.subject) same)

pub want_of_download : (start : RunStart) (past : List Event) (gid : Gid) (want read : Want) (download : Download)
    → HasWant start past gid want → download_in start past gid ≡ Some download → read ≡ want
    → IsWantOf download (known_lengths start past gid) read
want_of_download start past gid want read download has added same =
    subst (IsWantOf download (known_lengths start past gid)) (sym same)
    (subst (λ (l : PayloadLengths). IsWantOf download l want) (sym (lengths_known start past gid want has ∙ has.is.plan))
    (subst (λ (d : Download). IsWantOf d has.lengths want)
    (same_Some has.download download (sym has.added ∙ added)) has.is))

-- of a download with a metainfo file
listed_by : (subject : Subject) (lengths : PayloadLengths) (want : Want) (mirror : ℕ) (run : Run) (url : List ℕ) (job : Job)
    → want.layout ≡ files_of_subject subject want.base lengths.total → lengths_of_plan want.plan ≡ lengths
    → want.info_hash ≡ info_hash_by subject → is_some want.info_hash ≡ true → url ≡ mirror_url subject mirror
    → job.plan ≡ want.plan → job.run ≡ run → job.parts ≡ run_parts want.layout want.plan run url → IsJob job
    → IsJobOf lengths subject mirror run job
listed_by (Unlisted uris) lengths want mirror run url job layout lengths_are hash listed url_is plan runs parts sound =
    absurd (let no : true ≡ false = sym listed ∙ ap is_some hash in cc)
listed_by (Listed meta uris) lengths want mirror run url job layout lengths_are hash listed url_is plan runs parts sound = record {
  total = ap (λ (p : Plan). p.total) plan ∙ ap (λ (l : PayloadLengths). l.total) lengths_are;
  piece_len = ap (λ (p : Plan). p.piece_len) plan ∙ ap (λ (l : PayloadLengths). l.piece_len) lengths_are;
  run_is = runs;
  parts = parts ∙ λ i. run_parts (layout i) (sym plan i) run (url_is i);
  sound = sound;
}

-- .. and without one
unlisted_by : (subject : Subject) (lengths : PayloadLengths) (want : Want) (mirror : ℕ) (run : Run) (url : List ℕ) (job : Job)
    → lengths_of_plan want.plan ≡ lengths → want.info_hash ≡ info_hash_by subject → is_some want.info_hash ≡ false
    → url ≡ mirror_url subject mirror → job.plan ≡ want.plan → job.run ≡ run → job.parts ≡ record {
      url = url;
      at = run_start want.plan run;
      len = run_end want.plan run - run_start want.plan run;
      total = want.plan.total;
    } ∷ []
    → IsJob job → IsJobOf lengths subject mirror run job
unlisted_by (Listed meta uris) lengths want mirror run url job lengths_are hash listed url_is plan runs parts sound =
    absurd (let no : false ≡ true = sym listed ∙ ap is_some hash in cc)
unlisted_by (Unlisted uris) lengths want mirror run url job lengths_are hash listed url_is plan runs parts sound = record {
  total = ap (λ (p : Plan). p.total) plan ∙ ap (λ (l : PayloadLengths). l.total) lengths_are;
  piece_len = ap (λ (p : Plan). p.piece_len) plan ∙ ap (λ (l : PayloadLengths). l.piece_len) lengths_are;
  run_is = runs;
  parts = parts ∙ λ i. record {
    url = url_is i;
    at = run_start (sym plan i) run;
    len = run_end (sym plan i) run - run_start (sym plan i) run;
    total = (sym plan i).total;
  } ∷ [];
  sound = sound;
}

pub listed_job : {E : Type 0} (d : Download) (lengths : PayloadLengths) (want : Want) (mirror : ℕ) (run : Run) (url : List ℕ)
    → IsWantOf d lengths want → is_some want.info_hash ≡ true → url ≡ mirror_url d.subject mirror → (r : Result Job E)
    → IfOk r (λ job. job.plan ≡ want.plan) → IfOk r (λ job. job.run ≡ run)
    → IfOk r (λ job. job.parts ≡ run_parts want.layout want.plan run url) → IfOk r IsJob
    → IfOk r (IsJobOf lengths d.subject mirror run)
listed_job d lengths want mirror run url is listed url_is (Err e) plan runs parts sound = tt
listed_job d lengths want mirror run url is listed url_is (Ok job) plan runs parts sound =
    listed_by d.subject lengths want mirror run url job is.layout is.plan is.info_hash listed url_is plan runs parts sound

pub unlisted_job : {E : Type 0} (d : Download) (lengths : PayloadLengths) (want : Want) (mirror : ℕ) (run : Run) (url : List ℕ)
    → IsWantOf d lengths want → is_some want.info_hash ≡ false → url ≡ mirror_url d.subject mirror → (r : Result Job E)
    → IfOk r (λ job. job.plan ≡ want.plan) → IfOk r (λ job. job.run ≡ run)
    → IfOk r (λ job. job.parts ≡ record {
      url = url;
      at = run_start want.plan run;
      len = run_end want.plan run - run_start want.plan run;
      total = want.plan.total;
    } ∷ [])
    → IfOk r IsJob → IfOk r (IsJobOf lengths d.subject mirror run)
unlisted_job d lengths want mirror run url is listed url_is (Err e) plan runs parts sound = tt
unlisted_job d lengths want mirror run url is listed url_is (Ok job) plan runs parts sound =
    unlisted_by d.subject lengths want mirror run url job is.plan is.info_hash listed url_is plan runs parts sound

-- ---- a full piece that isn't given

row_as : {D : Type 0} (R S : TurnStart → RunStanding → List Event → Said → Type 0) (old new : StoredView D) (f f' : ℕ)
    (said : Said)
    → ((from : ℕ) (s : RunStanding) (events : List Event) → IsStandingOf old s → R (turn_from old from) s events said
    → S (turn_from old from) s events said) → DoesRow R old f new f' said → DoesRow S old f new f' said
row_as R S old new f f' said wider row = record {
  events = row.events;
  grown = row.grown;
  is = λ from s below standing. wider from s row.events standing (row.is from s below standing);
  later = row.later;
  counts = row.counts;
}

module _ {D : Type 0} (old new : StoredView D) (gid : Gid) (piece f f' : ℕ) where
  -- it couldn't be read
  pub ungiven_unread : {T : Type 0} (download : Download)
      → download_in old.machine.start old.machine.past gid ≡ Some download → is_listed download.subject ≡ true
      → (r : Result T Said) → IfErr r (DoesRow (UnreadRow gid) old f new f')
      → IfErr r (DoesRow (UngivenRow gid piece) old f new f')
  ungiven_unread download added listed (Ok bytes) row = tt
  ungiven_unread download added listed (Err said) row =
      let same = gid_added old.machine.start old.machine.past gid download added in
      row_as (UnreadRow gid) (UngivenRow gid piece) old new f f' said
      (λ from s events standing is. (
        download,
        subst (λ (past : List Event). download_in old.machine.start past gid ≡ Some download) (sym standing) added,
        subst (λ (b : Bool). ungiven_row (turn_from old from) s download piece b events said) (sym listed)
            (subst (λ (g : Gid). UnreadRow g (turn_from old from) s events said) (sym same) is),
      )) row

  -- it counts as right
  pub ungiven_counted : ((download : Download) → download_in old.machine.start old.machine.past gid ≡ Some download
      → is_listed download.subject ≡ false)
      → (said : Said) → DoesRow (CountedRow gid piece) old f new f' said
      → DoesRow (UngivenRow gid piece) old f new f' said
  ungiven_counted unlisted said row =
      row_as (CountedRow gid piece) (UngivenRow gid piece) old new f f' said
      (λ from s events standing is. (
        is.0,
        is.1,
        subst (λ (b : Bool). ungiven_row (turn_from old from) s is.0 piece b events said)
            (sym (unlisted is.0
            (subst (λ (past : List Event). download_in old.machine.start past gid ≡ Some is.0) standing is.1)))
            is.2,
      )) row

pub continues_more : {D : Type 0} (n m : ℕ) (old new : StoredView D) → n ≤ m → Continues n old new → Continues m old new
continues_more n m old new more on = record {
  start = on.start;
  now = on.now;
  room = let room = on.room in omega (arith, room, more);
  wants = on.wants;
}

pub on_ok_so : {T E : Type 0} (r : Result T E) (X : Type 0) → X → OnOk r X
on_ok_so (Ok x) X is = is
on_ok_so (Err e) X is = tt
