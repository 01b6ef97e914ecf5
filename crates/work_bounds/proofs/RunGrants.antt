-- In a legal history of a run each claim of a download is of a mirror that has a try left for its pieces.
use Rattle.std.proofs.Common.{◌≡◌, ◌⊎◌, ℕ, ◌+◌, ◌-◌, ◌*◌, ◌/◌, ◌<◌, ◌≤◌, min, Bool, true, false, cond, Option, Some, None, List, [], ◌∷◌, length, refl, sym, ap, ◌∙◌, subst, inl, inr, ⊎_elim, arith}
use Rattle.std.specs.Prelude.{count_by, nat_le, nat_lt, slice_index_or}
use Rattle.std.specs.Option.{unwrap_or}
use Rattle.std.proofs.Math.Nat.{div-mul-le_self}
use Rattle.std.proofs.lemmas.Bool.{eq-eqb, eqb-true}
use Rattle.std.proofs.lemmas.Bool.Decides.{nat_tests}
use Rattle.std.proofs.lemmas.List.{length-append}
use Rattle.std.proofs.lemmas.Nat.{le-div}
use Rattle.dl_kinds.specs.Plan.{IsPlan, full_blocks, piece_of}
use Rattle.dl_kinds.specs.declared.claims.Claim.{Claim}
use Rattle.dl_kinds.specs.declared.gid.Gid.{Gid}
use Rattle.dl_kinds.specs.declared.runs.Run.{Run}
use Rattle.mirror_blame.specs.Laws.{CountedGiveTries}
use Rattle.mirror_blame.specs.Marks.{IsEligible, counted, is_of, tries_of}
use Rattle.mirror_hosts.specs.Hosts.{host_numbers}
use Rattle.piece_table.specs.Changes.{is_in}
use Rattle.segment_claim.specs.Free.{IsFreeGrant, IsMirrorFor, claim_cut, claim_size, piece_at}
use Rattle.segment_claim.specs.Situation.{Situation}
use Rattle.dl_history.proofs.Bools.{and_left, not_true, true_not_false}
use Rattle.dl_history.proofs.Early.{below_end, early, probe_shut}
use Rattle.dl_history.specs.OwnEvents.{Checks, Clears, Grants, Halts, Lands, Loses, Opens, OwnEvent, Saves, Settles, Sizes}
use Rattle.dl_history.specs.OwnLegal.{LegalOwn, MayClaim, MayProbe}
use Rattle.dl_history.specs.PayloadParts.{blames_in, is_opened}
use Rattle.dl_history.specs.StandingClaims.{is_probe}
use Rattle.machine_core.proofs.Hosted.{count_hosts}
use Rattle.machine_core.proofs.Legal.{Laws, granted, parts}
use Rattle.machine_core.proofs.Parts.{gid_is}
use Rattle.machine_core.specs.Choices.{IsBlockGrant, IsGrantBy, IsProbeGrant, IsTheftGrant, mirror_urls, situation_in}
use Rattle.machine_core.specs.OwnParts.{PayloadLengths, halted_where, halts_by, no_lengths, own_of, payload_lengths_of}
use Rattle.machine_core.specs.Replays.{is_same_gid}
use Rattle.machine_core.specs.RunLegal.{DownloadsStay, IsLegal, LengthsStay, MayBeClaimed, download_in, known_lengths, mirrors_by, tries_in}
use Rattle.machine_core.specs.RunSteps.{OpenedHavePlans}
use Rattle.machine_core.specs.Starts.{Download, Listed, RunStart, Subject, Unlisted}
use Rattle.machine_core.specs.declared.events.Event.{Event}
use Rattle.machine_core.specs.declared.events.Event.TheVariants.{Called, Opened, Sized, Claimed, Landed, Settled, Cleared, Lost, Checked, Saved, Ended, Left, Stopped}
use Rattle.work_bounds.proofs.Ordered.{GrantHasTries, GrantsHaveTries, HasTries, marks}
use Rattle.work_bounds.proofs.Tallies.{counted_so}

-- what the laws of the crates below say
pub record RunLaws : Type 0 where
  pub legal : Laws
  pub plans : OpenedHavePlans
  pub downloads : DownloadsStay
  pub lengths : LengthsStay
  pub tries : CountedGiveTries

-- ---- the choice of a mirror

least_below : (t n : ℕ) → min t n < t → n < t
least_below t n less = omega arith

-- a mirror that is eligible by the marks that count has a try left
try_left : (laws : CountedGiveTries) (own : List OwnEvent) (tries m p : ℕ)
    → IsEligible tries (counted tries (blames_in own)) m p → marks own m p < tries
try_left laws own tries m p eligible =
    let same : tries_of tries (counted tries (blames_in own)) m p ≡ tries_of tries (blames_in own) m p =
    laws tries m p (blames_in own) in
    let less : tries_of tries (blames_in own) m p < tries = omega arith in
    let count = least_below tries (count_by (is_of m p) (blames_in own)) less in
    let e = counted_so (is_of m p) (blames_in own) in
    omega arith

many_mirrors : (s : Subject) → length (mirror_urls s) ≡ mirrors_by s
many_mirrors (Listed meta uris) = length-append meta.seeds uris
many_mirrors (Unlisted uris) = refl

known_mirror : (d : Download) (m : ℕ) → m < length (host_numbers (mirror_urls d.subject)) → m < mirrors_by d.subject
known_mirror d m below =
    let h = count_hosts (mirror_urls d.subject) in
    let n = many_mirrors d.subject in
    omega arith

-- ---- the pieces of a run

div-mono : (a b k : ℕ) → 1 ≤ k → a ≤ b → a / k ≤ b / k
div-mono a b k some below =
    le-div (a / k) b k (omega arith) (let m : a / k * k ≤ a = div-mul-le_self a k in omega (arith, m, below))

from_first : (b : ℕ) (run : Run) → is_in b run ≡ true → run.first ≤ b
from_first b run inside =
    let from = and_left (nat_le run.first b) (nat_lt b (run.first + run.count)) inside in
    grind (arith, nat_tests)

-- a block of the run is of one of the pieces for which the mirror was chosen
of_the_pieces : (len : ℕ) (run : Run) (b : ℕ) → 1 ≤ len → is_in b run ≡ true
    → (piece_of len run.first ≤ piece_of len b) × (piece_of len b ≤ piece_of len (run.first + run.count - 1))
of_the_pieces len run b some inside =
    let low = from_first b run inside in
    let high = below_end b run inside in
    let k : 1 ≤ full_blocks len = omega arith in (
      div-mono run.first b (full_blocks len) k low,
      div-mono b (run.first + run.count - 1) (full_blocks len) k (omega arith),
    )

-- the cut of a stretch is within it
cut_in : (s : Situation) (stretch : Run) (b : ℕ) → is_in b (claim_cut s stretch) ≡ true → is_in b stretch ≡ true
cut_in s stretch b inside =
    let low = from_first b (claim_cut s stretch) inside in
    let high = below_end b (claim_cut s stretch) inside in
    let few = cut_few (slice_index_or s.sole (piece_at s stretch.first) false) stretch.count
    (claim_size s) in
    let p : nat_le stretch.first b ≡ true = grind (arith, nat_tests) in
    let q : nat_lt b (stretch.first + stretch.count) ≡ true = grind (arith, nat_tests) in
    rw (p, q) refl
  where
    cut_few : (t : Bool) (n m : ℕ) → cond t n (min n m) ≤ n
    cut_few true n m = omega arith
    cut_few false n m = omega arith

-- ---- what is granted has tries

-- a probe, whatever the length of pieces
probe_has : (laws : CountedGiveTries) (start : RunStart) (past : List Event) (gid : Gid) (d : Download) (len : ℕ)
    (claim : Claim)
    → IsProbeGrant (situation_in start past gid d no_lengths) claim
    → HasTries len (mirrors_by d.subject) (tries_in d) (own_of start past gid) claim
probe_has laws start past gid d len claim g =
    record {
      known = known_mirror d claim.mirror g.mirror.candidate.known;
      blocks = λ b inside. absurd (probe_shut claim b (eq-eqb claim.run.count 0 g.count) inside);
      probe = λ is. try_left laws (own_of start past gid) (tries_in d) claim.mirror 0
          (g.mirror.candidate.eligible 0 (omega arith) (omega arith));
    }

-- the mirror is eligible for each block of the run
record Suits (len tries : ℕ) (own : List OwnEvent) (m : ℕ) (run : Run) : Type 0 where
  each : (b : ℕ) → is_in b run ≡ true → marks own m (piece_of len b) < tries

suits_by : (laws : CountedGiveTries) (start : RunStart) (past : List Event) (gid : Gid) (d : Download)
    (l : PayloadLengths)
    (m : ℕ) (run : Run) → 1 ≤ l.piece_len → IsMirrorFor (situation_in start past gid d l) run m
    → Suits l.piece_len (tries_in d) (own_of start past gid) m run
suits_by laws start past gid d l m run some chosen =
    record {
      each = λ b inside.
          let at = of_the_pieces l.piece_len run b some inside in
          try_left laws (own_of start past gid) (tries_in d) m (piece_of l.piece_len b)
          (chosen.candidate.eligible (piece_of l.piece_len b) at.0 at.1);
    }

-- the claim of blocks
record BlocksSuit (len mirrors tries : ℕ) (own : List OwnEvent) (claim : Claim) : Type 0 where
  known : claim.mirror < mirrors
  suits : Suits len tries own claim.mirror claim.run

blocks_suit : (laws : CountedGiveTries) (start : RunStart) (past : List Event) (gid : Gid) (d : Download)
    (l : PayloadLengths)
    (claim : Claim) → 1 ≤ l.piece_len → IsBlockGrant (situation_in start past gid d l) claim
    → BlocksSuit l.piece_len (mirrors_by d.subject) (tries_in d) (own_of start past gid) claim
blocks_suit laws start past gid d l claim some g =
    let s = situation_in start past gid d l in
    ⊎_elim
    (λ (free : IsFreeGrant s claim.id claim.worker claim.since.0 claim).
    let stretch = free.free.stretch in
    let chosen = free.free.grantable.chosen in
    let whole = suits_by laws start past gid d l claim.mirror stretch some chosen in
    record {
      known = known_mirror d claim.mirror chosen.candidate.known;
      suits = record {
        each = λ b inside. whole.each b
            (cut_in s stretch b (subst (λ (r : Run). is_in b r ≡ true) free.free.cut inside));
      };
    })
    (λ (theft : IsTheftGrant s claim).
    let chosen = theft.theft.chosen in
    record {
      known = known_mirror d claim.mirror chosen.candidate.known;
      suits = subst (λ (r : Run). Suits l.piece_len (tries_in d) (own_of start past gid) claim.mirror r)
          (sym (ap (λ (c : Claim). c.run) theft.is))
          (suits_by laws start past gid d l claim.mirror theft.steal.run some chosen);
    })
    g.grant

-- a claim of an opened download is no probe
no_probe : (total len : ℕ) (own : List OwnEvent) (claim : Claim) → MayProbe own claim ⊎ MayClaim total len own claim
    → is_opened own ≡ true → is_probe claim ≡ true → ⊥
no_probe total len own claim (inl may) opened is = true_not_false (is_opened own) opened may.unopened
no_probe total len own claim (inr may) opened is =
    let none : claim.run.count ≡ 0 = eqb-true claim.run.count 0 is in
    let some = may.some in
    absurd (omega arith)

granted_by : (laws : RunLaws) (start : RunStart) (past : List Event) (gid : Gid) (d : Download) (claim : Claim)
    → IsLegal start past → MayBeClaimed start past gid claim → (o : Option PayloadLengths)
    → payload_lengths_of start past gid ≡ o → IsGrantBy start past gid d o claim
    → HasTries (unwrap_or o no_lengths).piece_len (mirrors_by d.subject) (tries_in d) (own_of start past gid) claim
granted_by laws start past gid d claim legal may None is g = probe_has laws.tries start past gid d 0 claim g
granted_by laws start past gid d claim legal may (Some l) is g =
    let own = own_of start past gid in
    let same : known_lengths start past gid ≡ l = ap (λ (o : Option PayloadLengths). unwrap_or o no_lengths) is in
    let plan : IsPlan l.total l.piece_len = subst (λ (k : PayloadLengths). IsPlan k.total k.piece_len) same
    (laws.plans start past gid legal g.0) in
    let b = blocks_suit laws.tries start past gid d l claim plan.some g.1 in
    let may_own = granted laws.legal start past gid claim (parts laws.legal start past gid legal) may in
    record {
      known = b.known;
      blocks = b.suits.each;
      probe = λ probe. absurd (no_probe (known_lengths start past gid).total
          (known_lengths start past gid).piece_len own
          claim may_own.may g.0 probe);
    }

-- ---- other lengths

-- before the opening no length matters
any_length : (total len other mirrors tries : ℕ) (own : List OwnEvent) → LegalOwn total len own → is_opened own ≡ false
    → GrantsHaveTries len mirrors tries own → GrantsHaveTries other mirrors tries own
any_length total len other mirrors tries [] legal un grants = tt
any_length total len other mirrors tries (Opens verified blocks now ∷ own) legal un grants = absurd (let bad = un in cc)
any_length total len other mirrors tries (Grants cl ∷ own) legal un grants =
    let probe = (early total len (Grants cl ∷ own) legal un).probes cl (inl refl) in (
      any_length total len other mirrors tries own legal.0 un grants.0,
      record {
        known = grants.1.known;
        blocks = λ b inside. absurd (probe_shut cl b probe inside);
        probe = grants.1.probe;
      },
    )
any_length total len other mirrors tries (Lands c m run ∷ own) legal un grants =
    (any_length total len other mirrors tries own legal.0 un grants.0, tt)
any_length total len other mirrors tries (Settles q right giver ∷ own) legal un grants =
    (any_length total len other mirrors tries own legal.0 un grants.0, tt)
any_length total len other mirrors tries (Clears q ∷ own) legal un grants =
    (any_length total len other mirrors tries own legal.0 un grants.0, tt)
any_length total len other mirrors tries (Loses c m q mark ∷ own) legal un grants =
    (any_length total len other mirrors tries own legal.0 un grants.0, tt)
any_length total len other mirrors tries (Sizes c told ∷ own) legal un grants =
    (any_length total len other mirrors tries own legal.0 un grants.0, tt)
any_length total len other mirrors tries (Saves now ∷ own) legal un grants =
    (any_length total len other mirrors tries own legal.0 un grants.0, tt)
any_length total len other mirrors tries (Checks right ∷ own) legal un grants =
    (any_length total len other mirrors tries own legal.0 un grants.0, tt)
any_length total len other mirrors tries (Halts ends ∷ own) legal un grants =
    (any_length total len other mirrors tries own legal.0 un grants.0, tt)

-- the claims of a download that was added as this one
abbrev RunGrantsHaveTries : RunStart → List Event → List Event → Gid → Download → Type 0
RunGrantsHaveTries start past lengths_at gid d =
    GrantsHaveTries (known_lengths start lengths_at gid).piece_len (mirrors_by d.subject) (tries_in d)
    (own_of start past gid)

unopened_unknown : (laws : RunLaws) (start : RunStart) (past : List Event) (gid : Gid) → IsLegal start past
    → payload_lengths_of start past gid ≡ None → is_opened (own_of start past gid) ≡ false
unopened_unknown laws start past gid legal is =
    not_true (is_opened (own_of start past gid))
    (λ opened.
    let p = (parts laws.legal start past gid legal).planned opened in
    absurd (let bad : None ≡ Some p.lengths = sym is ∙ p.known in cc))

lengths_on : (laws : RunLaws) (start : RunStart) (e : Event) (past : List Event) (gid : Gid) (d : Download)
    → IsLegal start (e ∷ past) → (o : Option PayloadLengths) → payload_lengths_of start past gid ≡ o
    → RunGrantsHaveTries start past past gid d → RunGrantsHaveTries start past (e ∷ past) gid d
lengths_on laws start e past gid d legal (Some l) is grants =
    let later = laws.lengths start past e gid l legal is in
    subst (λ (o : Option PayloadLengths). GrantsHaveTries (unwrap_or o no_lengths).piece_len (mirrors_by d.subject)
    (tries_in d) (own_of start past gid)) (is ∙ sym later) grants
lengths_on laws start e past gid d legal None is grants =
    any_length (known_lengths start past gid).total (known_lengths start past gid).piece_len
    (known_lengths start (e ∷ past) gid).piece_len (mirrors_by d.subject) (tries_in d) (own_of start past gid)
    (parts laws.legal start past gid legal.0).legal
    (unopened_unknown laws start past gid legal.0 is) grants

-- ---- every event

grants_where : (len mirrors tries : ℕ) (own : List OwnEvent) (e : OwnEvent) (t : Bool)
    → GrantsHaveTries len mirrors tries own → (t ≡ true → GrantHasTries len mirrors tries own e)
    → GrantsHaveTries len mirrors tries (cond t (e ∷ own) own)
grants_where len mirrors tries own e true grants new = (grants, new refl)
grants_where len mirrors tries own e false grants new = grants

-- the claim that comes, with the lengths that are known then
claimed_has : (laws : RunLaws) (start : RunStart) (past : List Event) (gid : Gid) (d : Download) (claim : Claim)
    → IsLegal start past → MayBeClaimed start past gid claim
    → ((x : Download) → download_in start past gid ≡ Some x → x ≡ d)
    → HasTries (known_lengths start past gid).piece_len (mirrors_by d.subject) (tries_in d)
    (own_of start past gid) claim
claimed_has laws start past gid d claim legal may only =
    subst (λ (x : Download). HasTries (known_lengths start past gid).piece_len (mirrors_by x.subject) (tries_in x)
    (own_of start past gid) claim) (only may.download may.added)
    (granted_by laws start past gid may.download claim legal may (payload_lengths_of start past gid) refl may.granted)

only_before : (laws : RunLaws) (start : RunStart) (e : Event) (past : List Event) (gid : Gid) (d : Download)
    → ((x : Download) → download_in start (e ∷ past) gid ≡ Some x → x ≡ d)
    → (x : Download) → download_in start past gid ≡ Some x → x ≡ d
only_before laws start e past gid d only x is = only x (laws.downloads start past e gid x is)

-- the claim that came, with the lengths that are known after it
new_claim : (laws : RunLaws) (start : RunStart) (past : List Event) (gid : Gid) (d : Download) (claim : Claim)
    (other : Gid) → IsLegal start (Claimed other claim ∷ past) → MayBeClaimed start past gid claim
    → (o : Option PayloadLengths) → payload_lengths_of start past gid ≡ o
    → HasTries (known_lengths start past gid).piece_len (mirrors_by d.subject) (tries_in d)
    (own_of start past gid) claim
    → HasTries (known_lengths start (Claimed other claim ∷ past) gid).piece_len (mirrors_by d.subject) (tries_in d)
    (own_of start past gid) claim
new_claim laws start past gid d claim other legal may (Some l) is has =
    let later = laws.lengths start past (Claimed other claim) gid l legal is in
    subst (λ (o : Option PayloadLengths). HasTries (unwrap_or o no_lengths).piece_len (mirrors_by d.subject)
    (tries_in d)
    (own_of start past gid) claim) (is ∙ sym later) has
new_claim laws start past gid d claim other legal may None is has =
    let g : IsGrantBy start past gid may.download None claim =
    subst (λ (o : Option PayloadLengths). IsGrantBy start past gid may.download o claim) is may.granted in
    record {
      known = has.known;
      blocks = λ b inside. absurd (probe_shut claim b (eq-eqb claim.run.count 0 g.count) inside);
      probe = has.probe;
    }

event_grants : (laws : RunLaws) (start : RunStart) (e : Event) (past : List Event) (gid : Gid) (d : Download)
    → IsLegal start (e ∷ past) → ((x : Download) → download_in start past gid ≡ Some x → x ≡ d)
    → RunGrantsHaveTries start past (e ∷ past) gid d → RunGrantsHaveTries start (e ∷ past) (e ∷ past) gid d
event_grants laws start (Called session asked now) past gid d legal only before =
    called_grants (halts_by start past (Called session asked now) asked gid)
  where
    called_grants : (t : Bool)
        → GrantsHaveTries (known_lengths start (Called session asked now ∷ past) gid).piece_len (mirrors_by d.subject)
        (tries_in d) (halted_where t (own_of start past gid))
    called_grants true = (before, tt)
    called_grants false = before
event_grants laws start (Claimed other claim) past gid d legal only before =
    grants_where (known_lengths start (Claimed other claim ∷ past) gid).piece_len (mirrors_by d.subject) (tries_in d)
    (own_of start past gid) (Grants claim) (is_same_gid gid other) before
    (λ same.
    let may = subst (λ (g : Gid). MayBeClaimed start past g claim) (gid_is gid other same) legal.1 in
    new_claim laws start past gid d claim other legal may (payload_lengths_of start past gid) refl
    (claimed_has laws start past gid d claim legal.0 may only))
event_grants laws start (Opened other verified blocks now) past gid d legal only before =
    grants_where (known_lengths start (Opened other verified blocks now ∷ past) gid).piece_len
    (mirrors_by d.subject) (tries_in d)
    (own_of start past gid) (Opens verified blocks now) (is_same_gid gid other) before (λ same. tt)
event_grants laws start (Sized other id total) past gid d legal only before =
    grants_where (known_lengths start (Sized other id total ∷ past) gid).piece_len (mirrors_by d.subject) (tries_in d)
    (own_of start past gid) (Sizes id total) (is_same_gid gid other) before (λ same. tt)
event_grants laws start (Landed other id mirror run now) past gid d legal only before =
    grants_where (known_lengths start (Landed other id mirror run now ∷ past) gid).piece_len
    (mirrors_by d.subject) (tries_in d)
    (own_of start past gid) (Lands id mirror run) (is_same_gid gid other) before (λ same. tt)
event_grants laws start (Settled other piece right giver) past gid d legal only before =
    grants_where (known_lengths start (Settled other piece right giver ∷ past) gid).piece_len
    (mirrors_by d.subject) (tries_in d)
    (own_of start past gid) (Settles piece right giver) (is_same_gid gid other) before (λ same. tt)
event_grants laws start (Cleared other piece) past gid d legal only before =
    grants_where (known_lengths start (Cleared other piece ∷ past) gid).piece_len (mirrors_by d.subject) (tries_in d)
    (own_of start past gid) (Clears piece) (is_same_gid gid other) before (λ same. tt)
event_grants laws start (Lost other id mirror piece mark) past gid d legal only before =
    grants_where (known_lengths start (Lost other id mirror piece mark ∷ past) gid).piece_len
    (mirrors_by d.subject) (tries_in d)
    (own_of start past gid) (Loses id mirror piece mark) (is_same_gid gid other) before (λ same. tt)
event_grants laws start (Checked other right) past gid d legal only before =
    grants_where (known_lengths start (Checked other right ∷ past) gid).piece_len (mirrors_by d.subject) (tries_in d)
    (own_of start past gid) (Checks right) (is_same_gid gid other) before (λ same. tt)
event_grants laws start (Saved other now) past gid d legal only before =
    grants_where (known_lengths start (Saved other now ∷ past) gid).piece_len (mirrors_by d.subject) (tries_in d)
    (own_of start past gid) (Saves now) (is_same_gid gid other) before (λ same. tt)
event_grants laws start (Ended other how) past gid d legal only before =
    grants_where (known_lengths start (Ended other how ∷ past) gid).piece_len (mirrors_by d.subject) (tries_in d)
    (own_of start past gid) (Halts true) (is_same_gid gid other) before (λ same. tt)
event_grants laws start Left past gid d legal only before = before
event_grants laws start Stopped past gid d legal only before = (before, tt)

pub run_grants : (laws : RunLaws) (start : RunStart) (past : List Event) (gid : Gid) (d : Download) → IsLegal start past
    → ((x : Download) → download_in start past gid ≡ Some x → x ≡ d) → RunGrantsHaveTries start past past gid d
run_grants laws start [] gid d legal only = tt
run_grants laws start (e ∷ past) gid d legal only =
    let before = lengths_on laws start e past gid d legal (payload_lengths_of start past gid) refl
    (run_grants laws start past gid d legal.0 (only_before laws start e past gid d only)) in
    event_grants laws start e past gid d legal (only_before laws start e past gid d only) before
