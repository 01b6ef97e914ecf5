-- A piece that is dead is a wanted one.
use Rattle.std.proofs.Common.{◌≡◌, ⊎_elim, ℕ, zero, suc, Bool, true, false, cond, List, [], ◌∷◌, Option, Some, None, refl, sym, ap, subst, ◌∙◌, arith}
use Rattle.std.specs.Prelude.{Contains, ◌||◌, ◌==◌, find, nat_lt, not}
use Rattle.std.specs.List.{list_any}
use Rattle.std.specs.Option.{is_some, option_and_then, option_map}
use Rattle.std.proofs.lemmas.Bool.{eqb-true}
use Rattle.std.proofs.lemmas.Option.{none-some}
use Rattle.dl_history.proofs.Bools.{and_right}
use Rattle.dl_history.proofs.Early.{not_false}
use Rattle.dl_history.proofs.Members.{has_filter, has_from}
use Rattle.dl_history.specs.OwnLegal.{MayBeLost, MaySettle}
use Rattle.dl_history.specs.PayloadParts.{is_opened, source_in}
use Rattle.dl_history.specs.StandingClaims.{blocks_in, ends_claim, first_open_since, granted_claims, grants_claim, is_open_since, is_probe, is_standing, piece_of_first, since, standing_claims}
use Rattle.dl_kinds.specs.Plan.{IsPlan, piece_of, piece_start}
use Rattle.dl_kinds.specs.PlanLaws.{PlacesAreNumbered}
use Rattle.dl_kinds.specs.declared.claims.Claim.{Claim}
use Rattle.dl_kinds.specs.declared.gid.Gid.{Gid}
use Rattle.dl_kinds.specs.declared.marks.Mark.{Mark}
use Rattle.machine_core.specs.OwnParts.{PayloadLengths, lengths_by, own_of, payload_lengths_of}
use Rattle.machine_core.specs.RunLegal.{IsDeadIn, IsLegal, KnownAreIdle, MayBeEnded, MayFollow, download_in, known_lengths, marks_in, tries_in}
use Rattle.machine_core.specs.RunSteps.{OpenedHavePlans}
use Rattle.machine_core.specs.Starts.{Download, Listed, RunStart, Subject}
use Rattle.machine_core.specs.declared.ends.End.TheVariants.{Dead}
use Rattle.machine_core.specs.declared.events.Event.{Event}
use Rattle.machine_core.specs.declared.events.Event.TheVariants.{Ended, Lost, Settled}
use Rattle.metainfo.specs.declared.meta.Meta.{Meta}
use Rattle.mirror_blame.specs.Marks.{counted, last_mark_of, tries_of}
use Rattle.mirror_blame.specs.declared.blame.Blame.{Blame}
use Rattle.piece_table.specs.Changes.{From}
use Rattle.piece_table.specs.declared.giver.Giver.TheVariants.{One}
use Rattle.stored_run.proofs.Left.{one_of}
use Rattle.stored_run.proofs.PlainEvents.{gid_added}
use Rattle.stored_run.specs.RunFollows.{RunFollows}
use Rattle.blameless_mirrors.proofs.Givers.{given_whole}
use Rattle.blameless_mirrors.proofs.ListedLengths.{known_listed, lengths_told}
use Rattle.blameless_mirrors.proofs.Marks.{mark_cause}
use Rattle.blameless_mirrors.proofs.PayloadBytes.{block_at}
use Rattle.mark_costs.proofs.Found.{pieces_begin}
use Rattle.blameless_mirrors.proofs.Wanting.{AreSame, IsWanted, given_wanted, open_wanted, same_before}

-- ---- what is found

find_true : {A : Type 0} (p : A → Bool) (xs : List A) (x : A) → find p xs ≡ Some x → Contains xs x × (p x ≡ true)
find_true p [] x is = absurd (none-some x is)
find_true p (y ∷ ys) x is = by (p y) refl (find_true p ys x)
  where
    by : (t : Bool) → p y ≡ t → (find p ys ≡ Some x → Contains ys x × (p x ≡ true)) → Contains (y ∷ ys) x × (p x ≡ true)
    by true at rest =
        let here : Some y ≡ Some x = sym (ap (λ (t : Bool). cond t (Some y) (find p ys)) at) ∙ is in
        let same : y ≡ x = cc in
        ((0, omega arith, same), sym (ap p same) ∙ at)
    by false at rest =
        let later : find p ys ≡ Some x = sym (ap (λ (t : Bool). cond t (Some y) (find p ys)) at) ∙ is in
        let more = rest later in
        ((suc more.0.0, (let within = more.0.1 in omega (arith, within)), more.0.2), more.1)

-- the marks that count are marks
counted_there : (tries : ℕ) (marks : List Blame) (x : Blame) → Contains (counted tries marks) x → Contains marks x
counted_there tries [] x there = there
counted_there tries (blame ∷ earlier) x there =
    by (nat_lt (tries_of tries earlier blame.mirror blame.piece) tries) there (counted_there tries earlier x)
  where
    by : (t : Bool) → Contains (cond t (blame ∷ counted tries earlier) (counted tries earlier)) x
        → (Contains (counted tries earlier) x → Contains earlier x) → Contains (blame ∷ earlier) x
    by true (zero, within, is) rest = (0, omega arith, is)
    by true (suc n, within, is) rest =
        let more = rest (n, omega (arith, within), is) in (suc more.0, (let w = more.1 in omega (arith, w)), more.2)
    by false later rest = let more = rest later in (suc more.0, (let w = more.1 in omega (arith, w)), more.2)

last_there : (tries : ℕ) (marks : List Blame) (piece : ℕ) (mark : Mark) → last_mark_of tries marks piece ≡ Some mark
    → (blame : Blame) × Contains marks blame × (blame.piece ≡ piece)
last_there tries marks piece mark is =
    by (find (λ (blame : Blame). blame.piece == piece) (counted tries marks)) refl is
  where
    by : (o : Option Blame) → find (λ (blame : Blame). blame.piece == piece) (counted tries marks) ≡ o
        → option_map (λ (blame : Blame). blame.mark) o ≡ Some mark → (blame : Blame) × Contains marks blame × (blame.piece ≡ piece)
    by None found so = absurd (none-some mark so)
    by (Some blame) found so =
        let its = find_true (λ (b : Blame). b.piece == piece) (counted tries marks) blame found in
        (blame, counted_there tries marks blame its.0, eqb-true blame.piece piece its.1)

or_rest : (a b : Bool) → (a || b) ≡ true → a ≡ false → b ≡ true
or_rest true b is un = absurd cc
or_rest false b is un = is

some_of : (o : Option ℕ) → is_some o ≡ true → (b : ℕ) × (o ≡ Some b)
some_of None is = absurd cc
some_of (Some b) is = (b, refl)

-- ---- pieces that are marked

module _ (laws : RunFollows) (plans : OpenedHavePlans) (idle : KnownAreIdle) (numbered : PlacesAreNumbered) (start : RunStart)
    (gid : Gid) (meta : Meta) (uris : List (List ℕ)) (download : Download) (subject : download.subject ≡ Listed meta uris) where
  abbrev Wanted : ℕ → Type 0
  Wanted = IsWanted laws plans start gid meta uris download subject

  abbrev Same : List Event → Type 0
  Same = AreSame laws plans start gid meta uris download subject

  before_same : (e : Event) (past : List Event) → Same (e ∷ past) → Same past
  before_same = same_before laws plans start gid meta uris download subject

  lost_wanted : (past : List Event) (id mirror piece : ℕ) (mark : Mark) → IsLegal start past → Same past
      → MayFollow start past (Lost gid id mirror piece mark) → Wanted piece
  lost_wanted past id mirror piece mark legal same may =
      let added : download_in start past gid ≡ Some download = may.added ∙ ap (λ (d : Download). Some d) (same may.download may.added) in
      let own = own_of start past gid in
      let lengths = known_lengths start past gid in
      let its : MayBeLost lengths.piece_len own id mirror piece = may.may in
      let c : Claim = its.claim in
      let known : payload_lengths_of start past gid ≡ Some (lengths_told meta) =
      ap (option_and_then (λ (d : Download). lengths_by d d.subject own)) added
      ∙ ap (λ (s : Subject). lengths_by download s own) subject in
      let opened : is_opened own ≡ true = not_false (is_opened own) (λ un.
      let none = idle start past gid (lengths_told meta) legal known un in
      let no = subst (λ (cs : List Claim). Contains cs c) none its.stands in
      let within = no.1 in omega (arith, within)) in
      let standing = (has_filter (is_standing own) (granted_claims own) c
      (has_from (standing_claims own) c its.stands.0 its.stands.1 its.stands.2)).1 in
      let some = some_of (first_open_since own c) (or_rest (is_probe c) (is_some (first_open_since own c))
      (and_right (not (list_any (ends_claim c.id) (since (grants_claim c.id) own))) (is_probe c || is_some (first_open_since own c))
      standing) ((laws.sound.probes lengths.total lengths.piece_len own c (laws.legal start past gid legal) its.stands).blocks opened)) in
      let is_open = (find_true (is_open_since own c) (blocks_in c.run) some.0 some.1).1 in
      let len : lengths.piece_len ≡ meta.plan.piece_len =
      ap (λ (l : PayloadLengths). l.piece_len) (known_listed start past gid download meta uris added subject) in
      let same_piece : piece_of meta.plan.piece_len some.0 ≡ piece =
      ap (λ (n : ℕ). piece_of n some.0) (sym len) ∙ sym (ap (piece_of_first lengths.piece_len) some.1) ∙ its.piece_is in
      subst Wanted same_piece
      (open_wanted laws plans start gid meta uris download subject past legal same c its.stands some.0 is_open)

  given_piece : (past : List Event) (mirror piece b : ℕ) → IsLegal start past → Same past
      → download_in start past gid ≡ Some download → piece_of meta.plan.piece_len b ≡ piece
      → source_in meta.plan.piece_len (own_of start past gid) b ≡ From mirror → Wanted piece
  given_piece past mirror piece b legal same added of given =
      subst Wanted of
      (given_wanted laws plans start gid meta uris download subject past legal same added b mirror given)

  -- a piece that is found wrong and was given by one mirror has a block that this mirror gave
  found_wanted : (past : List Event) (mirror piece : ℕ) → IsLegal start past → Same past
      → MayFollow start past (Settled gid piece false (One mirror)) → Wanted piece
  found_wanted past mirror piece legal same may =
      let added : download_in start past gid ≡ Some download =
      may.own.added ∙ ap (λ (d : Download). Some d) (same may.own.download may.own.added) in
      let lengths : known_lengths start past gid ≡ lengths_told meta =
      known_listed start past gid download meta uris added subject in
      let own = own_of start past gid in
      let settles : MaySettle meta.plan.total meta.plan.piece_len own piece (One mirror) =
      subst (λ (l : PayloadLengths). MaySettle l.total l.piece_len own piece (One mirror)) lengths may.own.may in
      let plan : IsPlan meta.plan.total meta.plan.piece_len =
      subst (λ (l : PayloadLengths). IsPlan l.total l.piece_len) lengths (plans start past gid legal settles.opened) in
      let block = block_at meta.plan.total meta.plan.piece_len piece (piece_start meta.plan.piece_len piece) numbered plan
      settles.within (omega arith) (pieces_begin meta.plan.total meta.plan.piece_len piece plan settles.within) in
      let given = given_whole meta.plan.total meta.plan.piece_len own piece mirror block.0 plan.some settles block.1.within
      block.1.of in
      given_piece past mirror piece block.0 legal same added block.1.of given

  lost_in : (past : List Event) (id mirror piece : ℕ) (mark : Mark) → IsLegal start past → Same past
      → Contains past (Lost gid id mirror piece mark) → Wanted piece
  lost_in [] id mirror piece mark legal same there = absurd (let within = there.1 in omega (arith, within))
  lost_in (e ∷ past) id mirror piece mark legal same there = ⊎_elim
      (λ (here : e ≡ Lost gid id mirror piece mark).
      lost_wanted past id mirror piece mark legal.0 (before_same e past same) (subst (MayFollow start past) here legal.1))
      (λ (was : Contains past (Lost gid id mirror piece mark)).
      lost_in past id mirror piece mark legal.0 (before_same e past same) was)
      (one_of e (Lost gid id mirror piece mark) past there)

  found_in : (past : List Event) (mirror piece : ℕ) → IsLegal start past → Same past
      → Contains past (Settled gid piece false (One mirror)) → Wanted piece
  found_in [] mirror piece legal same there = absurd (let within = there.1 in omega (arith, within))
  found_in (e ∷ past) mirror piece legal same there = ⊎_elim
      (λ (here : e ≡ Settled gid piece false (One mirror)).
      found_wanted past mirror piece legal.0 (before_same e past same) (subst (MayFollow start past) here legal.1))
      (λ (was : Contains past (Settled gid piece false (One mirror))).
      found_in past mirror piece legal.0 (before_same e past same) was)
      (one_of e (Settled gid piece false (One mirror)) past there)

  dead_here : (past : List Event) (piece : ℕ) (mark : Mark) → IsLegal start past → Same past
      → MayBeEnded start past gid (Dead piece mark) → Wanted piece
  dead_here past piece mark legal same may =
      let d = may.own.download in
      let dead : IsDeadIn start past d piece mark = may.cause in
      let its : d.gid ≡ gid = gid_added start past gid d may.own.added in
      let last = last_there (tries_in d) (marks_in start past d.gid) piece mark dead.last in
      let blame : Blame = last.0 in
      subst Wanted last.2
      (⊎_elim
      (λ (found : Contains past (Settled gid blame.piece false (One blame.mirror))).
      found_in past blame.mirror blame.piece legal same found)
      (λ (lost : (id : ℕ) × Contains past (Lost gid id blame.mirror blame.piece blame.mark)).
      lost_in past lost.0 blame.mirror blame.piece blame.mark legal same lost.1)
      (mark_cause start gid blame past (subst (λ (g : Gid). Contains (marks_in start past g) blame) its last.1)))

  pub dead_wanted : (past : List Event) (piece : ℕ) (mark : Mark) → IsLegal start past → Same past
      → Contains past (Ended gid (Dead piece mark)) → Wanted piece
  dead_wanted [] piece mark legal same there = absurd (let within = there.1 in omega (arith, within))
  dead_wanted (e ∷ past) piece mark legal same there = ⊎_elim
      (λ (here : e ≡ Ended gid (Dead piece mark)).
      dead_here past piece mark legal.0 (before_same e past same) (subst (MayFollow start past) here legal.1))
      (λ (was : Contains past (Ended gid (Dead piece mark))).
      dead_wanted past piece mark legal.0 (before_same e past same) was)
      (one_of e (Ended gid (Dead piece mark)) past there)
