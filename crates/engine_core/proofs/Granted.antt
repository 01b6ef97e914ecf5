-- What was offered is given.
use Rattle.std.proofs.Common.{◌≡◌, inl, inr, ⊎_elim, ◌≤◌, ◌<◌, ℕ, Bool, true, false, Option, Some, None, List, [], ◌∷◌, ◌++◌, length, refl, sym, ap, ◌∙◌, subst, arith}
use Rattle.std.specs.Prelude.{IfNone, IfSome, IsSome, map, min, All}
use Rattle.std.specs.Option.{is_some}
use Rattle.std.proofs.lemmas.Option.{slice_get_within}
use Rattle.dl_kinds.specs.declared.gid.Gid.{Gid}
use Rattle.dl_kinds.specs.declared.runs.Moment.{Moment}
use Rattle.dl_kinds.specs.declared.runs.Run.{Run}
use Rattle.machine_core.specs.Claiming.{IsOfferedNow}
use Rattle.machine_core.specs.MachineViews.{IsPlaceOf, MachineView, is_added_in, place_in}
use Rattle.machine_core.specs.Offers.{Credit, affords, gid_credit, no_blocks, offered_claim}
use Rattle.machine_core.specs.Reads.{lengths_of_gid}
use Rattle.machine_core.specs.Replays.{queue_in}
use Rattle.machine_core.specs.RunLegal.{download_in, is_listed, known_lengths}
use Rattle.machine_core.specs.Starts.{Download, RunStart}
use Rattle.machine_core.specs.declared.events.Event.{Event}
use Rattle.machine_core.specs.declared.events.Event.TheVariants.{Claimed}
use Rattle.machine_core.specs.declared.handed.Handed.{Handed}
use Rattle.machine_core.specs.declared.offers.Offer.{Offer}
use Rattle.machine_core.specs.declared.offers.Offer.TheVariants as offer
use Rattle.machine_core.specs.declared.offers.Offered.TheVariants as offered
use Rattle.machine_core.proofs.Here.{told_some}
use Rattle.rate_limits.specs.Shared.{RunLevels, lesser_credit, levels_taken}
use Rattle.rate_tokens.specs.declared.bucket.Take.TheVariants.{Go}
use Rattle.span_map.specs.declared.jobs.Job.{Job}
use Rattle.engine_turns.specs.Faults.{CountsFaults}
use Rattle.engine_turns.specs.Levels.{downloads_of, spent_by}
use Rattle.engine_turns.specs.NextRows.{IsJobOf, OfferRow, mirror_url, offers_in, whole_row}
use Rattle.engine_turns.specs.Phases.{TurnStart}
use Rattle.engine_turns.specs.Standings.{RunStanding}
use Rattle.engine_turns.specs.Told.{handed_by, history_after}
use Rattle.engine_turns.specs.declared.limits.TheConstants.{MAX_ALLOWANCE}
use Rattle.engine_turns.specs.declared.operations.FetchGrant.{FetchGrant}
use Rattle.engine_turns.specs.declared.operations.Grant.TheVariants.{Fetch, Hash, Probe}
use Rattle.engine_turns.specs.declared.operations.Operation.{Operation}
use Rattle.engine_turns.specs.declared.operations.Operation.TheVariants.{Next}
use Rattle.engine_turns.specs.declared.operations.Said.{Said}
use Rattle.engine_turns.specs.declared.operations.Said.TheVariants.{Grant}
use Rattle.stored_run.specs.Beginnings.{IsRoomier}
use Rattle.stored_run.specs.Granting.{MakesClaim, IsLongAsPiece, MayBeGiven, UngivenRow}
use Rattle.stored_run.specs.Settlings.{IsToBeSettled, OfDownload}
use Rattle.stored_run.specs.Steps.{DoesRow, turn_from}
use Rattle.stored_run.proofs.PlainEvents.{gid_added}
use Rattle.engine_core.specs.Buckets.{HasRates, LevelsGoOn}
use Rattle.engine_core.specs.Engines.{KeepsRates, past_of, standing_of, start_of}
use Rattle.std.proofs.lemmas.List.Elements.{All-cons, All-nil}
use Rattle.engine_core.specs.Handing.{IsUnsettled}
use Rattle.engine_core.specs.Giving.{GivenRow, MakesRow, MayGive, UnopenedRow, credit_now}
use Rattle.engine_core.specs.declared.state.EngineState.{EngineState}
use Rattle.engine_core.proofs.Allowing.{place_added}
use Rattle.engine_core.proofs.Calm.{no_events, one_event}
use Rattle.engine_core.proofs.Given.{calm_ungiven, given_of_ungiven, gives_spent, gives_unspent}
use Rattle.engine_core.proofs.Letting.{lets_go, none_out, nothing_handed, nothing_spent}

pub some_added : (o : Option Download) → is_some o ≡ true → (d : Download) × (o ≡ Some d)
some_added None is = absurd (let no : false ≡ true = is in cc)
some_added (Some d) is = (d, refl)

-- ---- the place of a download that was added

module _ (m seen : MachineView) (same : seen ≡ m) (gid : Gid) where
  pub place_there : is_added_in m gid ≡ true → (o : Option ℕ) → IfNone o (download_in seen.start seen.past gid ≡ None)
      → IsSome o
  place_there added (Some n) none = refl
  place_there added None none =
      let some = some_added (download_in m.start m.past gid) added in
      absurd (let no : Some some.0 ≡ None = sym some.1 ∙ (ap (λ (v : MachineView). download_in v.start v.past gid) (sym same) ∙ none) in cc)

  module _ (o : Option ℕ) (place : ℕ) (is : o ≡ Some place) where
    pub is_first : IfSome o (λ n. n ≡ place_in seen.start seen.past gid) → place ≡ place_in m.start m.past gid
    is_first first =
        told_some (λ (n : ℕ). n ≡ place_in seen.start seen.past gid) o place is first
        ∙ ap (λ (v : MachineView). place_in v.start v.past gid) same

    pub is_within : IfSome o (IsPlaceOf seen gid) → place < length (downloads_of m.start m.past)
    is_within found =
        let there : IsPlaceOf seen gid place = told_some (IsPlaceOf seen gid) o place is found in
        subst (λ (v : MachineView). place < length (downloads_of v.start v.past)) same
        (slice_get_within (downloads_of seen.start seen.past) place there.download there.added)

module _ {D : Type 0} (worker : ℕ) (now : Moment) (old new : EngineState D) (gid : Gid) (f f' : ℕ)
    (rates : KeepsRates old) (added : is_added_in old.run.machine gid ≡ true) where
  abbrev start : RunStart
  start = start_of old

  abbrev past : List Event
  past = past_of old

  abbrev its : (d : Download) × (download_in start past gid ≡ Some d)
  its = some_added (download_in start past gid) added

  its_gid : its.0.gid ≡ gid
  its_gid = gid_added start past gid its.0 its.1

  -- a full piece is handed out
  hash_row : (listed : Bool) (piece from : ℕ) (bytes : List ℕ) → listed ≡ true
      → IsLongAsPiece (lengths_of_gid old.run.machine gid) piece bytes
      → whole_row (turn_from old.run from) (standing_of old) its.0 piece listed [] (Grant (Hash gid piece bytes))
  hash_row false piece from bytes is long = absurd (let no : false ≡ true = is in cc)
  hash_row true piece from bytes is long = inl (record {
    bytes = bytes;
    len = subst (λ (g : Gid). IsLongAsPiece (known_lengths start past g) piece bytes) (sym its_gid) long;
    is = (refl, ap (λ (g : Gid). Grant (Hash g piece bytes)) (sym its_gid));
  })

  pub hash_given : f' ≡ f → (piece : ℕ) (bytes : List ℕ) → IsToBeSettled old.run gid piece
      → OfDownload old.run gid (λ download. is_listed download.subject ≡ true)
      → IsLongAsPiece (lengths_of_gid old.run.machine gid) piece bytes → new.run.machine ≡ old.run.machine
      → new.run.now ≡ old.run.now → new.handed.pieces ≡ record { gid = gid; piece = piece } ∷ old.handed.pieces
      → new.limits ≡ old.limits
      → MakesRow (Next worker now) (GivenRow gid worker (offer.Whole piece)) old f new f' (Grant (Hash gid piece bytes))
  hash_given still piece bytes to listed long machine now_is handed limits =
      let unsettled : IsUnsettled start past (record { gid = gid; piece = piece }) = record {
        download = its.0;
        added = its.1;
        listed = listed its.0 its.1;
        opened = to.may.opened;
        awaits = record { within = to.may.within; full = to.may.full; unverified = to.may.unverified; anew = to.may.anew };
      } in
      gives_unspent (Next worker now) (GivenRow gid worker (offer.Whole piece)) old new f f' (Grant (Hash gid piece bytes)) []
      (no_events [] refl) rates (ap (λ m. m.start) machine) now_is (ap (λ m. m.past) machine)
      (λ from below. inr (
        its.0,
        its.1,
        hash_row (is_listed its.0.subject) piece from bytes (listed its.0 its.1) long,
      )) still handed
      (All-cons (IsUnsettled start past) (record { gid = gid; piece = piece }) [] unsettled (All-nil (IsUnsettled start past)))
      limits refl

  -- .. or isn't
  pub whole_ungiven : (piece : ℕ) (said : Said) → DoesRow (UngivenRow gid piece) old.run f new.run f' said
      → start_of new ≡ start → new.run.now ≡ old.run.now → new.handed ≡ old.handed → new.limits ≡ old.limits
      → MakesRow (Next worker now) (GivenRow gid worker (offer.Whole piece)) old f new f' said
  whole_ungiven piece said row start_is now_is handed limits =
      let here = row.is f (standing_of old) (omega arith) refl in
      let quiet = calm_ungiven gid piece (turn_from old.run f) (standing_of old) row.events said here in
      gives_unspent (Next worker now) (GivenRow gid worker (offer.Whole piece)) old new f f' said row.events quiet.0 rates
      start_is now_is row.grown
      (λ from below. given_of_ungiven gid worker piece (turn_from old.run from) (standing_of old) row.events said
      (row.is from (standing_of old) below refl)) row.counts
      (ap (λ h. h.pieces) handed ∙ ap (λ (hs : List Handed). hs ++ old.handed.pieces) (sym (nothing_handed said quiet.1)))
      (none_out (IsUnsettled start past) said quiet.1) limits (nothing_spent start past (Next worker now) said quiet.1)

  -- a mirror is to be asked for the length
  pub probe_given : f' ≡ f → (mirror id : ℕ) (url : List ℕ) → MakesClaim gid worker mirror no_blocks None id old.run new.run
      → OfDownload old.run gid (λ download. url ≡ mirror_url download.subject mirror) → new.handed ≡ old.handed
      → new.limits ≡ old.limits
      → MakesRow (Next worker now) (GivenRow gid worker (offer.Probe mirror)) old f new f' (Grant (Probe id gid url))
  probe_given still mirror id url claims url_is handed limits =
      let claim = offered_claim mirror no_blocks None id worker old.run.now.0 in
      gives_unspent (Next worker now) (GivenRow gid worker (offer.Probe mirror)) old new f f' (Grant (Probe id gid url))
      (Claimed gid claim ∷ []) (one_event (Claimed gid claim) (Claimed gid claim ∷ []) refl refl) rates claims.start claims.now
      claims.past
      (λ from below. inr (
        its.0,
        its.1,
        record {
          id = id;
          claimed = ap (λ (g : Gid). Claimed g claim ∷ []) (sym its_gid);
          is = ap (λ (g : Gid). Grant (Probe id g url)) (sym its_gid)
              ∙ ap (λ (u : List ℕ). Grant (Probe id its.0.gid u)) (url_is its.0 its.1);
        },
      )) (tt, still) (ap (λ h. h.pieces) handed)
      (All-nil (IsUnsettled start past)) limits refl

  -- blocks are claimed
  pub blocks_given : f' ≡ f → (mirror : ℕ) (run : Run) (victim : Option ℕ) (id : ℕ) (job : Job) (place bytes : ℕ)
      → MakesClaim gid worker mirror run victim id old.run new.run
      → OfDownload old.run gid (λ download. IsJobOf (lengths_of_gid old.run.machine gid) download.subject mirror run job)
      → bytes ≡ min MAX_ALLOWANCE (lesser_credit old.limits place old.run.now.0) → place ≡ place_in start past gid
      → place < length (downloads_of start past) → new.handed ≡ old.handed
      → new.limits ≡ levels_taken place old.run.now.0 (Go bytes) old.limits
      → MakesRow (Next worker now) (GivenRow gid worker (offer.Blocks mirror run victim)) old f new f'
      (Grant (Fetch (record { claim = id; gid = gid; job = job; allow = bytes })))
  blocks_given still mirror run victim id job place bytes claims job_is bytes_is first within handed limits =
      let claim = offered_claim mirror run victim id worker old.run.now.0 in
      let grant : FetchGrant = record { claim = id; gid = gid; job = job; allow = bytes } in
      let place_is = first ∙ (ap (place_in start past) (sym its_gid) ∙ sym (place_added start past its.0.gid)) in
      let credit = ap (λ (n : ℕ). lesser_credit old.limits n old.run.now.0) place_is in
      gives_spent (Next worker now) (GivenRow gid worker (offer.Blocks mirror run victim)) old new f f' (Grant (Fetch grant))
      (Claimed gid claim ∷ []) (one_event (Claimed gid claim) (Claimed gid claim ∷ []) refl refl) rates claims.start claims.now
      claims.past
      (λ from below. inr (
        its.0,
        its.1,
        record {
          grant = grant;
          claimed = ap (λ (g : Gid). Claimed g claim ∷ []) (sym its_gid);
          gid_is = sym its_gid;
          job_is = subst (λ (g : Gid). IsJobOf (known_lengths start past g) its.0.subject mirror run job) (sym its_gid)
              (job_is its.0 its.1);
          allow_is = omega (arith, bytes_is, credit);
          is = refl;
        },
      )) (tt, still) (ap (λ h. h.pieces) handed) (All-nil (IsUnsettled start past)) gid bytes place
      limits refl first within

-- ---- nothing is given

-- nothing came, and nothing is let go
pub gives_nothing : {D : Type 0} (op : Operation) (Row : TurnStart → RunStanding → List Event → Said → Type 0)
    (old new : EngineState D) (f f' : ℕ) (said : Said) → f' ≡ f → KeepsRates old → start_of new ≡ start_of old
    → new.run.now ≡ old.run.now → past_of new ≡ past_of old → new.handed.pieces ≡ old.handed.pieces
    → new.limits ≡ old.limits → lets_go said ≡ false
    → ((from : ℕ) → from ≤ f → Row (turn_from old.run from) (standing_of old) [] said) → MakesRow op Row old f new f' said
gives_nothing op Row old new f f' said still rates start now past handed limits none row =
    gives_unspent op Row old new f f' said [] (no_events [] refl) rates start now past row still
    (handed ∙ ap (λ (hs : List Handed). hs ++ old.handed.pieces) (sym (nothing_handed said none)))
    (none_out (IsUnsettled (start_of old) (past_of old)) said none) limits
    (nothing_spent (start_of old) (past_of old) op said none)

-- ---- what was offered may be given

-- the credit of the download that was offered
credit_of : (f : Gid → Credit) → ((g : Gid) → (f g).gid ≡ g) → (gs : List Gid) (before : List Credit) (c : Credit)
    (behind : List Credit) → map f gs ≡ before ++ c ∷ behind → c ≡ f c.gid
credit_of f own [] [] c behind cut = absurd cc
credit_of f own [] (b ∷ before) c behind cut = absurd cc
credit_of f own (g ∷ gs) [] c behind cut =
    let first : f g ≡ c = cc in
    let same : g ≡ c.gid = sym (own g) ∙ ap (λ (x : Credit). x.gid) first in
    sym first ∙ ap f same
credit_of f own (g ∷ gs) (b ∷ before) c behind cut =
    let rest : map f gs ≡ before ++ c ∷ behind = cc in
    credit_of f own gs before c behind rest

pub may_give : {D : Type 0} (old mid : EngineState D) (gid : Gid) (o : Offer) (handed : List Handed)
    → IsRoomier old.run mid.run → mid.limits ≡ old.limits → KeepsRates old → 6 ≤ old.run.machine.spare
    → 1 ≤ mid.handed.room
    → IsOfferedNow old.run.machine handed old.limits old.run.now.0 (offered.Next gid o)
    → MayBeGiven mid.run (offered.Next gid o) → MayGive mid gid o
may_give old mid gid o handed roomier limits rates room hands is may =
    let start = roomier.machine.start_is in
    let past = roomier.machine.past_is in
    let queue = queue_in (start_of old) (past_of old) in
    let credit : is.credit ≡ credit_now old gid =
    credit_of (gid_credit queue.added old.limits old.run.now.0) (λ g. refl) queue.active is.before is.credit is.behind is.cut
    ∙ ap (credit_now old) is.gid_is in
    record {
      added = ap (λ (v : Option Download). is_some v)
          ((λ i. download_in (start i) (past i) gid) ∙ is.is.added);
      may = may;
      afforded = (λ i. affords (gid_credit (queue_in (start i) (past i)).added (limits i) (roomier.now i).0 gid).bytes o)
          ∙ (ap (λ (c : Credit). affords c.bytes o) (sym credit) ∙ is.afforded);
      room = let more = roomier.machine.spare in omega (arith, more, room);
      hands = hands;
      rates = subst (λ (l : RunLevels). HasRates (start_of mid) (past_of mid) l) (sym limits)
          (subst (λ (s : RunStart). HasRates s (past_of mid) old.limits) (sym start)
          (subst (λ (p : List Event). HasRates (start_of old) p old.limits) (sym past) rates));
    }

-- ---- from a state that differs in room alone

module _ {D : Type 0} (worker : ℕ) (old mid new : EngineState D) (f f1 f' : ℕ) (said : Said) (below : f1 ≡ f)
    (start : start_of mid ≡ start_of old) (now : mid.run.now ≡ old.run.now) (past : past_of mid ≡ past_of old)
    (handed : mid.handed.pieces ≡ old.handed.pieces) (limits : mid.limits ≡ old.limits) where
  standing_is : standing_of mid ≡ standing_of old
  standing_is i = record {
    past = past i;
    handed = handed i;
    overall = ap (λ l. l.overall) limits i;
    own = ap (λ l. l.own) limits i;
  }

  abbrev op : Operation
  op = Next worker old.run.now

  -- the offer was the first one that is afforded
  pub gives_offer : (gid : Gid) (o : Offer) (handed_then : List Handed) → handed_then ≡ old.handed.pieces
      → IsOfferedNow old.run.machine handed_then old.limits old.run.now.0 (offered.Next gid o)
      → MakesRow (Next worker mid.run.now) (GivenRow gid worker o) mid f1 new f' said
      → MakesRow op (UnopenedRow worker) old f new f' said
  gives_offer gid o handed_then handed_is is gives =
      let given = subst (λ (m : Moment). MakesRow (Next worker m) (GivenRow gid worker o) mid f1 new f' said) now gives in
      let first = subst (λ (hs : List Handed). IsOfferedNow old.run.machine hs old.limits old.run.now.0 (offered.Next gid o)) handed_is is in
      record {
        start = given.start ∙ start;
        now = given.now ∙ now;
        events = given.events;
        grown = given.grown ∙ ap (λ (p : List Event). history_after p given.events) past;
        is = λ from within.
            let here = given.is from (omega (arith, within, below)) in
            let there = subst (λ (s : RunStanding). GivenRow gid worker o (turn_from old.run from) s given.events said) standing_is
            (subst (λ (a : TurnStart). GivenRow gid worker o a (standing_of mid) given.events said)
            (λ i. record { start = start i; now = now i; faults = from }) here) in
            ⊎_elim (λ starved. inl starved)
            (λ (one : (d : Download) × (download_in (start_of old) (past_of old) gid ≡ Some d)
            × OfferRow (turn_from old.run from) (standing_of old) worker d o given.events said).
            let same = gid_added (start_of old) (past_of old) gid one.0 one.1 in
            inr (inl (record {
              download = one.0;
              added = subst (λ (g : Gid). download_in (start_of old) (past_of old) g ≡ Some one.0) (sym same) one.1;
              offer = o;
              is = subst (λ (g : Gid). offers_in (turn_from old.run from) (standing_of old) (offered.Next g o)) (sym same) first;
              row = one.2;
            }))) there;
        later = omega (arith, below, given.later);
        counts = subst (λ (n : ℕ). CountsFaults n given.events f') below given.counts;
        handed = given.handed ∙ ap (λ (hs : List Handed). handed_by said ++ hs) handed;
        out =
            subst (λ (s : RunStart). All (IsUnsettled s (past_of old)) (handed_by said)) start
            (subst (λ (p : List Event). All (IsUnsettled (start_of mid) p) (handed_by said)) past given.out);
        levels =
            subst (λ (l : RunLevels). LevelsGoOn (start_of old) (past_of old) (past_of new) (spent_by (start_of old) (past_of old) op said) new.run.now.0 l new.limits)
            limits
            (subst (λ (p : List Event). LevelsGoOn (start_of old) p (past_of new) (spent_by (start_of old) p op said) new.run.now.0 mid.limits new.limits)
            past
            (subst (λ (s : RunStart). LevelsGoOn s (past_of mid) (past_of new) (spent_by s (past_of mid) op said) new.run.now.0 mid.limits new.limits)
            start given.levels));
      }
