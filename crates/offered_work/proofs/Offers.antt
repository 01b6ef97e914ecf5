-- A sound download that is active has an offer where no claim stands.
use Rattle.std.proofs.Common.{◌≡◌, ℕ, zero, suc, ◌+◌, ◌*◌, ◌<◌, Bool, true, false, Option, Some, None, List, [], length, inl, refl, sym, ap, ◌∙◌, subst, ⊎_elim, arith, length-append}
use Rattle.std.specs.Prelude.{◌&&◌, not, Contains, slice_index_or}
use Rattle.std.specs.Option.{is_some, option_and_then, unwrap_or}
use Rattle.std.proofs.lemmas.Bool.{cases_eq}
use Rattle.dl_kinds.proofs.Cuts.{some_blocks}
use Rattle.dl_kinds.specs.Plan.{IsPlan, blocks_of, full_blocks, piece_of, pieces_of}
use Rattle.dl_kinds.specs.PlanLaws.{PlacesAreNumbered}
use Rattle.dl_history.proofs.Early.{not_false}
use Rattle.dl_history.proofs.Members.{has_from}
use Rattle.dl_history.specs.AccountLaws.{AccountsMatchEvents, MatchesEvents}
use Rattle.dl_history.specs.Accounts.{account_of}
use Rattle.dl_history.specs.HistoryLaws.{IsFullIn}
use Rattle.dl_history.specs.OwnEvents.{OwnEvent}
use Rattle.dl_history.specs.OwnLegal.{LegalOwn}
use Rattle.dl_history.specs.PayloadParts.{blames_in, is_landed_in, is_opened, is_verified_in}
use Rattle.claim_choices.specs.Found.{FreeClaimsAreFound, ProbeMirrorsAreFound}
use Rattle.machine_core.proofs.Hosted.{count_hosts}
use Rattle.machine_core.specs.Choices.{mirror_urls, situation_in}
use Rattle.machine_core.specs.Claiming.{is_to_open}
use Rattle.machine_core.specs.Offers.{HasNoWhole, IsOffer, IsOfferBy, IsWhole}
use Rattle.machine_core.specs.OwnParts.{PayloadLengths, lengths_by, no_lengths, own_of, payload_lengths_of}
use Rattle.machine_core.specs.Replays.{queue_in}
use Rattle.machine_core.specs.RunLegal.{IsLegal, download_in, known_lengths, mirrors_by, tries_in}
use Rattle.machine_core.specs.RunSteps.{AccountsMatchRuns, OpenedHavePlans}
use Rattle.machine_core.specs.Starts.{Download, Listed, RunStart, Subject, Unlisted}
use Rattle.machine_core.specs.Wanted.{wanted_pieces}
use Rattle.machine_core.specs.declared.events.Event.{Event}
use Rattle.machine_core.specs.declared.offers.Offer.{Offer}
use Rattle.machine_core.specs.declared.offers.Offer.TheVariants.{Whole, Blocks, Probe}
use Rattle.mirror_blame.specs.Laws.{CountedGiveTries}
use Rattle.mirror_blame.specs.Marks.{IsEligible, counted}
use Rattle.segment_claim.specs.Situation.{Situation, mirror_count}
use Rattle.offered_work.specs.Offering.{HasOffer, IsAtRest, MayBeFetched}
use Rattle.offered_work.proofs.Lists.{row_within, unfound}
use Rattle.offered_work.proofs.OwnSteps.{HasTries, IsSound, NoPiece}
use Rattle.offered_work.proofs.Settled.{anew}
use Rattle.offered_work.proofs.SolePieces.{none_landed}

-- a mirror of the download has a host
hosts_are : (subject : Subject) (m : ℕ) → m < mirrors_by subject → m < length (mirror_urls subject)
hosts_are (Listed meta uris) m known = omega (arith, known, length-append meta.seeds uris)
hosts_are (Unlisted uris) m known = known

opened_or : (known opened : Bool) → known ≡ true → (known && not opened) ≡ false → opened ≡ true
opened_or true true is none = refl
opened_or true false is none = absurd cc
opened_or false opened is none = absurd cc

pub record OfferLaws : Type 0 where
  pub tries : CountedGiveTries
  pub numbered : PlacesAreNumbered
  pub matches : AccountsMatchEvents
  pub accounts : AccountsMatchRuns
  pub plans : OpenedHavePlans
  pub claims : FreeClaimsAreFound
  pub probes : ProbeMirrorsAreFound

module _ (laws : OfferLaws) (start : RunStart) (past : List Event) (legal : IsLegal start past)
    (rest : IsAtRest start past) (d : Download) (added : download_in start past d.gid ≡ Some d)
    (may : MayBeFetched start past d) (sound : IsSound d NoPiece NoPiece true (own_of start past d.gid)) (now : ℕ) where
  abbrev own : List OwnEvent
  own = own_of start past d.gid

  abbrev Nothing : Type 0
  Nothing = (offer : Offer) → IsOffer [] start past now d.gid offer → ⊥

  abbrev At : PayloadLengths → Situation
  At l = situation_in start past d.gid d l

  known_is : (o : Option PayloadLengths) → payload_lengths_of start past d.gid ≡ o
      → known_lengths start past d.gid ≡ unwrap_or o no_lengths
  known_is o is = ap (λ (x : Option PayloadLengths). unwrap_or x no_lengths) is

  matched : (l : PayloadLengths) → known_lengths start past d.gid ≡ l
      → MatchesEvents l.total l.piece_len own (account_of l.total l.piece_len own)
  matched l is =
      subst (λ (x : PayloadLengths). MatchesEvents x.total x.piece_len own (account_of x.total x.piece_len own)) is
      (laws.accounts start past d.gid legal)

  none_stands : (l : PayloadLengths) → known_lengths start past d.gid ≡ l → (At l).standing ≡ []
  none_stands l is = (matched l is).claims.standing ∙ rest.none d.gid

  offered : (o : Option PayloadLengths) → payload_lengths_of start past d.gid ≡ o → (offer : Offer)
      → IsOfferBy [] start past d o now offer → IsOffer [] start past now d.gid offer
  offered o is offer by = record {
    download = d;
    added = added;
    is = subst (λ (x : Option PayloadLengths). IsOfferBy [] start past d x now offer) (sym is) by;
  }

  has_tries : HasTries d
  has_tries = record { mirrors = may.mirrors; tries = may.tries }

  -- the tries that are left by the marks that count
  eligible : (m p : ℕ) → IsEligible (tries_in d) (blames_in own) m p
      → IsEligible (tries_in d) (counted (tries_in d) (blames_in own)) m p
  eligible m p left =
      let same = laws.tries (tries_in d) m p (blames_in own) in
      subst (λ (n : ℕ). n < tries_in d) (sym same) left

  known_mirror : (l : PayloadLengths) (m : ℕ) → m < mirrors_by d.subject → m < mirror_count (At l)
  known_mirror l m known =
      let urls = hosts_are d.subject m known in
      let hosts = count_hosts (mirror_urls d.subject) in
      omega (arith, urls, hosts)

  -- ---- before the length is known

  probe_offered : payload_lengths_of start past d.gid ≡ None → Nothing → ⊥
  probe_offered is never =
      let none = none_stands no_lengths (known_is None is) in
      sound.lively has_tries 0 (λ p. p) (λ m known left.
      laws.probes (At no_lengths) m
      (record {
        none = none;
        hosts = may.per_host;
        known = known_mirror no_lengths m known;
        eligible = eligible m 0 left;
      })
      (λ chosen mirror. never (Probe chosen) (offered None is (Probe chosen) (λ id worker. record {
        alone = none;
        first = refl;
        count = refl;
        mirror = mirror;
        victim = refl;
      }))))

  -- ---- once it is opened

  module _ (l : PayloadLengths) (is : payload_lengths_of start past d.gid ≡ Some l) (opened : is_opened own ≡ true)
      (legal_own : LegalOwn l.total l.piece_len own) (plan : IsPlan l.total l.piece_len) (never : Nothing) where
    none_before : (n p : ℕ) → p < n → IsWhole [] d l own p → ⊥
    none_before zero p below whole = absurd (omega (arith, below))
    none_before (suc n) p below whole =
        ⊎_elim
        (λ (same : p ≡ n). never (Whole p) (offered (Some l) is (Whole p) (
          opened,
          record {
            whole = whole;
            first = λ other less its. none_before n other (omega (arith, less, same)) its;
          },
        )))
        (λ (other : p ≡ n → ⊥). none_before n p (omega (arith, below, other)) whole) (cases_eq p n)

    no_whole : HasNoWhole [] d l own
    no_whole p whole = none_before (suc p) p (omega arith) whole

    -- a full piece that isn't verified is offered
    not_full : (p : ℕ) → p < pieces_of l.total l.piece_len → is_verified_in own p ≡ false
        → IsFullIn l.total l.piece_len own p → ⊥
    not_full p within un full =
        let some = some_blocks l.total l.piece_len p plan.some within in
        let n = laws.numbered l.total l.piece_len p 0 plan within some in
        let b : ℕ = p * full_blocks l.piece_len + 0 in
        no_whole p (record {
          awaits = record {
            within = within;
            full = full;
            unverified = un;
            anew = anew l.total l.piece_len p b own legal_own n.number.of (full b n.within n.number.of) un
                (sound.cleared p (λ x. x));
          };
          free = λ listed. refl;
        })

    m : MatchesEvents l.total l.piece_len own (account_of l.total l.piece_len own)
    m = matched l (known_is (Some l) is)

    -- where a block of a wanted piece isn't landed there is a claim
    claim_offered : (p b : ℕ) → p < pieces_of l.total l.piece_len
        → slice_index_or (wanted_pieces d l) p false ≡ true → b < blocks_of l.total l.piece_len
        → piece_of l.piece_len b ≡ p → is_landed_in l.piece_len own b ≡ false → ⊥
    claim_offered p b within wanted below here un =
        let none = none_stands l (known_is (Some l) is) in
        sound.lively has_tries p (λ x. x) (λ mirror known left.
        laws.claims (At l) b
        (record {
          plan = plan;
          none = none;
          claims = may.split;
          hosts = may.per_host;
          within = below;
          wanted = subst (λ (q : ℕ). slice_index_or (wanted_pieces d l) q false ≡ true) (sym here) wanted;
          missing = m.blocks b below ∙ un;
          whole = λ sole other below' at.
              m.blocks other below'
              ∙ none_landed laws.matches l.total l.piece_len plan other b below' below at own legal_own
              (rest.none d.gid)
              (sym (m.pieces (piece_of l.piece_len b)
              (subst (λ (q : ℕ). q < pieces_of l.total l.piece_len) (sym here) within)).sole ∙ sole) un;
          mirror = mirror;
          known = known_mirror l mirror known;
          eligible = subst (λ (q : ℕ). IsEligible (tries_in d) (counted (tries_in d) (blames_in own)) mirror q)
              (sym here) (eligible mirror p left);
        })
        (λ run chosen free. never (Blocks chosen run None) (offered (Some l) is (Blocks chosen run None) (
          opened,
          (
            no_whole,
            λ id worker. record {
              few = let s = may.split in let e = ap length none in omega (arith, s, e);
              grant = inl (record { free = free; number = refl; to = refl; at = refl; stolen_of_none = refl });
            },
          ),
        ))))

    lengths_are : unwrap_or (lengths_by d d.subject own) no_lengths ≡ l
    lengths_are =
        sym (ap (λ (o : Option Download). unwrap_or (option_and_then (λ (x : Download). lengths_by x x.subject own) o)
        no_lengths) added) ∙ known_is (Some l) is

    opened_offered : ⊥
    opened_offered =
        sound.unfinished opened (λ p wanted.
        not_false (is_verified_in own p) (λ un.
        let its : slice_index_or (wanted_pieces d l) p false ≡ true =
        subst (λ (x : PayloadLengths). slice_index_or (wanted_pieces d x) p false ≡ true) lengths_are wanted in
        let within : p < pieces_of l.total l.piece_len = row_within _ (pieces_of l.total l.piece_len) p its in
        not_full p within un (λ b below here.
        not_false (is_landed_in l.piece_len own b) (λ missing. claim_offered p b within its below here missing))))

  known_offered : (o : Option PayloadLengths) → payload_lengths_of start past d.gid ≡ o
      → (is_some o && not (is_opened own)) ≡ false
      → LegalOwn (known_lengths start past d.gid).total (known_lengths start past d.gid).piece_len own → Nothing → ⊥
  known_offered None is none legal_own never = probe_offered is never
  known_offered (Some l) is none legal_own never =
      let opened = opened_or true (is_opened own) refl none in
      opened_offered l is opened
      (subst (λ (x : PayloadLengths). LegalOwn x.total x.piece_len own) (known_is (Some l) is) legal_own)
      (subst (λ (x : PayloadLengths). IsPlan x.total x.piece_len) (known_is (Some l) is)
      (laws.plans start past d.gid legal opened)) never

  -- an active download has an offer
  pub active_offers : Contains (queue_in start past).active d.gid
      → LegalOwn (known_lengths start past d.gid).total (known_lengths start past d.gid).piece_len own
      → HasOffer start past now d.gid
  active_offers active legal_own never =
      known_offered (payload_lengths_of start past d.gid) refl
      (unfound (is_to_open start past) (queue_in start past).active rest.opened d.gid
      (has_from (queue_in start past).active d.gid active.0 active.1 active.2)) legal_own never
