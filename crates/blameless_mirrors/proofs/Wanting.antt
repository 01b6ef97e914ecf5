-- Which pieces claims bring: the wanted ones, which are those that the options choose.
use Rattle.std.proofs.Common.{◌≡◌, ◌⊎◌, ⊎_elim, inl, inr, ℕ, suc, ◌+◌, ◌<◌, ◌≤◌, Bool, true, false, cond, List, [], ◌∷◌, Option, Some, None, refl, sym, ap, subst, ◌∙◌, arith}
use Rattle.std.specs.Prelude.{◌&&◌, Contains, map, min, not, nat_le, nat_lt, slice_index_or, unwrap_or}
use Rattle.std.specs.List.{cons_option, list_any, range_with_len}
use Rattle.std.specs.Option.{option_and_then}
use Rattle.std.proofs.lemmas.Bool.{cases_lt, leb-true, ltb-true, le-leb, lt-ltb}
use Rattle.std.proofs.lemmas.List.{get_or_past}
use Rattle.std.proofs.lemmas.List.FromFn.{get_or-map-range_with_len, length-map-range_with_len}
use Rattle.dl_history.proofs.Bools.{and_both, and_left, and_right}
use Rattle.dl_history.proofs.Members.{Has, has_filter, has_from}
use Rattle.dl_history.specs.Accounts.{account_of}
use Rattle.dl_history.specs.OwnEvents.{Checks, Clears, Grants, Halts, Lands, Loses, Opens, OwnEvent, Saves, Settles, Sizes}
use Rattle.dl_history.specs.OwnLegal.{LegalOwn}
use Rattle.dl_history.specs.PayloadParts.{source_in}
use Rattle.dl_history.specs.StandingClaims.{claim_in, granted_claims, grants_claim, is_open_since, is_standing, lands_block, since, standing_claims}
use Rattle.dl_kinds.specs.Plan.{piece_of, pieces_of}
use Rattle.dl_kinds.specs.declared.claims.Claim.{Claim}
use Rattle.dl_kinds.specs.declared.gid.Gid.{Gid}
use Rattle.dl_kinds.specs.declared.runs.Run.{Run}
use Rattle.machine_core.proofs.Parts.{gid_is}
use Rattle.machine_core.specs.Choices.{IsGrantBy, IsGranted, IsTheftGrant, situation_in}
use Rattle.machine_core.specs.OwnParts.{PayloadLengths, halted_where, halts_by, lengths_by, no_lengths, own_of, payload_lengths_of}
use Rattle.machine_core.specs.Replays.{is_same_gid}
use Rattle.machine_core.specs.RunLegal.{IsLegal, MayBeClaimed, MayFollow, download_in, known_lengths}
use Rattle.machine_core.specs.RunSteps.{OpenedHavePlans}
use Rattle.machine_core.specs.Starts.{Download, Listed, RunStart, Subject}
use Rattle.machine_core.specs.Wanted.{wanted_by, wanted_pieces}
use Rattle.machine_core.specs.declared.events.Event.{Event}
use Rattle.machine_core.specs.declared.events.Event.TheVariants.{Called, Opened, Sized, Claimed, Landed, Settled, Cleared, Lost, Checked, Saved, Ended, Left, Stopped}
use Rattle.metainfo.specs.declared.meta.Meta.{Meta}
use Rattle.option_set.specs.Values.{text_of_word}
use Rattle.option_set.specs.declared.kinds.Word.TheVariants.{SelectFile}
use Rattle.piece_table.specs.Changes.{From, is_in}
use Rattle.segment_claim.proofs.StealLemmas.{steal_of}
use Rattle.segment_claim.specs.Book.{ClaimBook}
use Rattle.segment_claim.specs.Free.{IsFreeGrant, IsLooseStretch, IsSoleStretch, claim_cut, claim_size, is_free, piece_at}
use Rattle.segment_claim.specs.Situation.{Situation}
use Rattle.segment_claim.specs.Theft.{IsStealOf}
use Rattle.stored_run.proofs.Left.{one_of}
use Rattle.stored_run.specs.RunFollows.{RunFollows}
use Rattle.blameless_mirrors.specs.Chosen.{ClaimsAreOfChosen, IsChosenPiece}
use Rattle.blameless_mirrors.proofs.EventSources.{LandsBlock, WasSo, event_source, legal_before}
use Rattle.blameless_mirrors.proofs.ListedLengths.{known_listed, lengths_told}

-- ---- runs

in_from : (b : ℕ) (run : Run) → is_in b run ≡ true → run.first ≤ b
in_from b run is = leb-true run.first b (and_left (nat_le run.first b) (nat_lt b (run.first + run.count)) is)

in_to : (b : ℕ) (run : Run) → is_in b run ≡ true → b < run.first + run.count
in_to b run is = ltb-true b (run.first + run.count) (and_right (nat_le run.first b) (nat_lt b (run.first + run.count)) is)

in_by : (b : ℕ) (run : Run) → run.first ≤ b → b < run.first + run.count → is_in b run ≡ true
in_by b run from to = and_both (nat_le run.first b) (nat_lt b (run.first + run.count)) (le-leb run.first b from)
    (lt-ltb b (run.first + run.count) to)

first_of : (a b c : Bool) → (a && b && c) ≡ true → a ≡ true
first_of true b c is = refl
first_of false b c is = absurd cc

least : (t : Bool) (count most : ℕ) → cond t count (min count most) ≤ count
least true count most = omega arith
least false count most = omega arith

-- ---- a free claim

module _ (s : Situation) where
  abbrev WantsPiece : ℕ → Type 0
  WantsPiece piece = slice_index_or s.wanted piece false ≡ true

  free_wanted : (b : ℕ) → is_free s b ≡ true → WantsPiece (piece_at s b)
  free_wanted b is = first_of (slice_index_or s.wanted (piece_at s b) false) _ _ is

  stretch_wanted : (run : Run) → IsLooseStretch s run ⊎ IsSoleStretch s run → (b : ℕ) → is_in b run ≡ true
      → WantsPiece (piece_at s b)
  stretch_wanted run (inl loose) b inside = free_wanted b (and_left (is_free s b) _ (loose.loose b inside))
  stretch_wanted run (inr sole) b inside = free_wanted b (sole.free b inside)

  cut_within : (stretch : Run) (b : ℕ) → is_in b (claim_cut s stretch) ≡ true → is_in b stretch ≡ true
  cut_within stretch b inside =
      let from = in_from b (claim_cut s stretch) inside in
      let to = in_to b (claim_cut s stretch) inside in
      let few = least (slice_index_or s.sole (piece_at s stretch.first) false) stretch.count (claim_size s) in
      in_by b stretch (omega (arith, from)) (omega (arith, to, few))

  pub free_claim_wanted : (id worker now : ℕ) (claim : Claim) → IsFreeGrant s id worker now claim → (b : ℕ)
      → is_in b claim.run ≡ true → WantsPiece (piece_at s b)
  free_claim_wanted id worker now claim is b inside =
      stretch_wanted is.free.stretch is.free.grantable.stretch b
      (cut_within is.free.stretch b (ap (is_in b) (sym is.free.cut) ∙ inside))

  -- a stolen claim's blocks are those of a claim that stood
  pub stolen_within : (claim : Claim) → IsTheftGrant s claim
      → (victim : Claim) × Contains s.standing victim × ((b : ℕ) → is_in b claim.run ≡ true → is_in b victim.run ≡ true)
  stolen_within claim is =
      let book : ClaimBook = record {
        total = s.total;
        piece_len = s.piece_len;
        standing = s.standing;
        closed = s.closed;
        next = 0;
        spare = 0;
      } in
      let of : IsStealOf book is.steal = steal_of book s is.theft.views claim.since.0 is.steal refl is.theft.seen is.theft.slowest in
      let run : claim.run ≡ is.steal.run = ap (λ (c : Claim). c.run) is.is in
      let from = of.from in
      let to = of.to in (
        of.claim,
        of.stands,
        λ b inside.
            let its : is_in b is.steal.run ≡ true = ap (is_in b) (sym run) ∙ inside in
            let low = in_from b is.steal.run its in
            let high = in_to b is.steal.run its in
            in_by b of.claim.run (omega (arith, from, low)) (omega (arith, to, high)),
      )

-- ---- claims of a history

kept_with : (t : Bool) (x : OwnEvent) (own : List OwnEvent) (claim : Claim) → claim_in x ≡ None
    → Has (granted_claims (cond t (x ∷ own) own)) claim → Has (granted_claims own) claim
kept_with true x own claim none has =
    subst (λ (o : Option Claim). Has (cons_option o (granted_claims own)) claim) none has
kept_with false x own claim none has = has

kept_halted : (t : Bool) (own : List OwnEvent) (claim : Claim) → Has (granted_claims (halted_where t own)) claim
    → Has (granted_claims own) claim
kept_halted true own claim has = has
kept_halted false own claim has = has

module _ (start : RunStart) (gid : Gid) where
  abbrev granted_in : List Event → List Claim
  granted_in past = granted_claims (own_of start past gid)

  claimed_with : (other : Gid) (c : Claim) (past : List Event) (claim : Claim) (t : Bool) → is_same_gid gid other ≡ t
      → Has (granted_claims (cond t (Grants c ∷ own_of start past gid) (own_of start past gid))) claim
      → Has (granted_in past) claim ⊎ (Claimed other c ≡ Claimed gid claim)
  claimed_with other c past claim true same (inl is) =
      let gids : other ≡ gid = gid_is gid other same in inr (λ i. Claimed (gids i) (is i))
  claimed_with other c past claim true same (inr was) = inl was
  claimed_with other c past claim false same was = inl was

  -- a claim was granted before, or is by the event
  granted_before : (e : Event) (past : List Event) (claim : Claim) → Has (granted_in (e ∷ past)) claim
      → Has (granted_in past) claim ⊎ (e ≡ Claimed gid claim)
  granted_before (Called session asked now) past claim has =
      inl (kept_halted (halts_by start past (Called session asked now) asked gid) (own_of start past gid) claim has)
  granted_before (Opened other v b n) past claim has =
      inl (kept_with (is_same_gid gid other) (Opens v b n) (own_of start past gid) claim refl has)
  granted_before (Sized other id n) past claim has =
      inl (kept_with (is_same_gid gid other) (Sizes id n) (own_of start past gid) claim refl has)
  granted_before (Claimed other c) past claim has = claimed_with other c past claim (is_same_gid gid other) refl has
  granted_before (Landed other id m r n) past claim has =
      inl (kept_with (is_same_gid gid other) (Lands id m r) (own_of start past gid) claim refl has)
  granted_before (Settled other p r v) past claim has =
      inl (kept_with (is_same_gid gid other) (Settles p r v) (own_of start past gid) claim refl has)
  granted_before (Cleared other p) past claim has =
      inl (kept_with (is_same_gid gid other) (Clears p) (own_of start past gid) claim refl has)
  granted_before (Lost other id m p k) past claim has =
      inl (kept_with (is_same_gid gid other) (Loses id m p k) (own_of start past gid) claim refl has)
  granted_before (Checked other r) past claim has =
      inl (kept_with (is_same_gid gid other) (Checks r) (own_of start past gid) claim refl has)
  granted_before (Saved other n) past claim has =
      inl (kept_with (is_same_gid gid other) (Saves n) (own_of start past gid) claim refl has)
  granted_before (Ended other how) past claim has =
      inl (kept_with (is_same_gid gid other) (Halts true) (own_of start past gid) claim refl has)
  granted_before Left past claim has = inl has
  granted_before Stopped past claim has = inl has

  -- one that was granted was claimed
  granted_came : (past : List Event) (claim : Claim) → Has (granted_in past) claim → Contains past (Claimed gid claim)
  granted_came [] claim has = absurd has
  granted_came (e ∷ past) claim has = ⊎_elim
      (λ (was : Has (granted_in past) claim).
      let there = granted_came past claim was in (suc there.0, (let within = there.1 in omega (arith, within)), there.2))
      (λ (new : e ≡ Claimed gid claim). (0, omega arith, new)) (granted_before e past claim has)

  -- so was one that stands
  pub standing_claimed : (past : List Event) (claim : Claim) → Contains (standing_claims (own_of start past gid)) claim
      → Contains past (Claimed gid claim)
  standing_claimed past claim there =
      granted_came past claim (has_filter (is_standing (own_of start past gid)) (granted_in past) claim
      (has_from (standing_claims (own_of start past gid)) claim there.0 there.1 there.2)).0

module _ (laws : RunFollows) (plans : OpenedHavePlans) (start : RunStart) (gid : Gid) (meta : Meta) (uris : List (List ℕ))
    (download : Download) (subject : download.subject ≡ Listed meta uris) where
  abbrev lengths : PayloadLengths
  lengths = lengths_told meta

  abbrev pub IsWanted : ℕ → Type 0
  IsWanted piece = slice_index_or (wanted_pieces download lengths) piece false ≡ true

  abbrev pub AreSame : List Event → Type 0
  AreSame past = (d : Download) → download_in start past gid ≡ Some d → d ≡ download

  pub same_before : (e : Event) (past : List Event) → AreSame (e ∷ past) → AreSame past
  same_before e past same d added = same d (laws.downloads start past e gid d added)

  -- each block of the claim is of a wanted piece
  abbrev OfWanted : Claim → Type 0
  OfWanted claim = (b : ℕ) → is_in b claim.run ≡ true → IsWanted (piece_of meta.plan.piece_len b)

  module _ (past : List Event) (legal : IsLegal start past) (added : download_in start past gid ≡ Some download) where
    known : payload_lengths_of start past gid ≡ Some lengths
    known = ap (option_and_then (λ (d : Download). lengths_by d d.subject (own_of start past gid))) added
        ∙ ap (λ (s : Subject). lengths_by download s (own_of start past gid)) subject

    abbrev here : Situation
    here = situation_in start past gid download lengths

    standing : here.standing ≡ standing_claims (own_of start past gid)
    standing =
        let told : known_lengths start past gid ≡ lengths =
        ap (λ (o : Option PayloadLengths). unwrap_or o no_lengths) known in
        subst (λ (l : PayloadLengths).
        (account_of l.total l.piece_len (own_of start past gid)).standing ≡ standing_claims (own_of start past gid)) told
        (laws.accounts (known_lengths start past gid).total (known_lengths start past gid).piece_len (own_of start past gid)
        (λ opened. plans start past gid legal opened) (laws.legal start past gid legal)).claims.standing

    granted_wanted : ((other : Claim) → Contains past (Claimed gid other) → OfWanted other) → (claim : Claim)
        → IsGranted start past gid download claim → OfWanted claim
    granted_wanted rest claim granted b inside =
        let by : IsGrantBy start past gid download (Some lengths) claim =
        subst (λ (o : Option PayloadLengths). IsGrantBy start past gid download o claim) known granted in ⊎_elim
        (λ (free : IsFreeGrant here claim.id claim.worker claim.since.0 claim).
        free_claim_wanted here claim.id claim.worker claim.since.0 claim free b inside)
        (λ (theft : IsTheftGrant here claim).
        let of = stolen_within here claim theft in
        rest of.0 (standing_claimed start gid past of.0 (subst (λ (cs : List Claim). Contains cs of.0) standing of.1)) b
        (of.2 b inside)) by.1.grant

  pub claims_wanted : (past : List Event) → IsLegal start past → AreSame past → (claim : Claim)
      → Contains past (Claimed gid claim) → OfWanted claim
  claims_wanted [] legal same claim there = absurd (let within = there.1 in omega (arith, within))
  claims_wanted (e ∷ past) legal same claim there = ⊎_elim
      (λ (new : e ≡ Claimed gid claim).
      let may : MayBeClaimed start past gid claim = subst (MayFollow start past) new legal.1 in
      let its : may.download ≡ download = same_before e past same may.download may.added in
      granted_wanted past legal.0 (may.added ∙ ap (λ (d : Download). Some d) its)
      (claims_wanted past legal.0 (same_before e past same)) claim
      (subst (λ (d : Download). IsGranted start past gid d claim) its may.granted))
      (λ (was : Contains past (Claimed gid claim)).
      claims_wanted past legal.0 (same_before e past same) claim was)
      (one_of e (Claimed gid claim) past there)

  -- ---- landed blocks

  pub open_wanted : (past : List Event) → IsLegal start past → AreSame past → (claim : Claim)
      → Contains (standing_claims (own_of start past gid)) claim → (b : ℕ)
      → is_open_since (own_of start past gid) claim b ≡ true → IsWanted (piece_of meta.plan.piece_len b)
  open_wanted past legal same claim stands b is_open =
      claims_wanted past legal same claim (standing_claimed start gid past claim stands) b
      (and_left (is_in b claim.run) (not (list_any (lands_block b) (since (grants_claim claim.id) (own_of start past gid))))
      is_open)

  legal_of : (past : List Event) → IsLegal start past → download_in start past gid ≡ Some download
      → LegalOwn meta.plan.total meta.plan.piece_len (own_of start past gid)
  legal_of past legal added =
      subst (λ (l : PayloadLengths). LegalOwn l.total l.piece_len (own_of start past gid))
      (known_listed start past gid download meta uris added subject) (laws.legal start past gid legal)

  -- a block that a mirror gave is of a wanted piece
  given_here : (past : List Event) → IsLegal start past → AreSame past
      → LegalOwn meta.plan.total meta.plan.piece_len (own_of start past gid) → (b mirror : ℕ)
      → source_in meta.plan.piece_len (own_of start past gid) b ≡ From mirror → IsWanted (piece_of meta.plan.piece_len b)
  given_here [] legal same legal_own b mirror given = absurd cc
  given_here (e ∷ past) legal same legal_own b mirror given = ⊎_elim
      (λ (lands : LandsBlock gid b mirror e).
      let may : MayFollow start past (Landed gid lands.id mirror lands.run lands.now) =
      subst (MayFollow start past) lands.is legal.1 in
      open_wanted past legal.0 (same_before e past same) may.0.may.claim may.0.may.stands b
      (may.0.may.open_in b lands.inside))
      (λ (was : WasSo meta.plan.total meta.plan.piece_len b mirror start past gid e).
      given_here past legal.0 (same_before e past same)
      (legal_before start (e ∷ []) past gid meta.plan.total meta.plan.piece_len legal_own) b mirror was.0)
      (event_source meta.plan.total meta.plan.piece_len b mirror start past gid e legal_own given)

  pub given_wanted : (past : List Event) → IsLegal start past → AreSame past → download_in start past gid ≡ Some download
      → (b mirror : ℕ) → source_in meta.plan.piece_len (own_of start past gid) b ≡ From mirror
      → IsWanted (piece_of meta.plan.piece_len b)
  given_wanted past legal same added b mirror given = given_here past legal same (legal_of past legal added) b mirror given

-- ---- the options

-- a row is true within it alone
row_true : (f : ℕ → Bool) (n place : ℕ) → slice_index_or (map f (range_with_len 0 n)) place false ≡ true
    → (place < n) × (f place ≡ true)
row_true f n place is = ⊎_elim
    (λ (below : place < n). (below, sym (get_or-map-range_with_len f 0 n place place false below (omega arith)) ∙ is))
    (λ (past : n ≤ place).
    let long = length-map-range_with_len f 0 n in
    absurd (let never : true ≡ false = sym is ∙ get_or_past (map f (range_with_len 0 n)) place false (omega (arith, past, long)) in
    cc))
    (cases_lt place n)

-- a wanted piece is one that the options choose
pub wanted_chosen : (download : Download) (meta : Meta) (uris : List (List ℕ)) → download.subject ≡ Listed meta uris
    → (piece : ℕ) → slice_index_or (wanted_pieces download (lengths_told meta)) piece false ≡ true
    → IsChosenPiece meta download.options piece
wanted_chosen download meta uris subject piece wanted =
    let text = text_of_word download.options SelectFile in
    let row = row_true (wanted_by download.subject text (lengths_told meta)) (pieces_of meta.plan.total meta.plan.piece_len) piece
    wanted in
    record { within = row.0; wanted = (λ i. wanted_by (sym subject i) text (lengths_told meta) piece) ∙ row.1 }

pub claims_chosen : RunFollows → OpenedHavePlans → ClaimsAreOfChosen
claims_chosen laws plans start past gid download meta uris legal added subject claim there b inside =
    wanted_chosen download meta uris subject (piece_of meta.plan.piece_len b)
    (claims_wanted laws plans start gid meta uris download subject past legal
    (λ d there. let both : Some d ≡ Some download = sym there ∙ added in cc) claim there b inside)
