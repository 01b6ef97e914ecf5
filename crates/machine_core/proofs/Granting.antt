-- The choice of a claim is one that may come next.
use Rattle.std.proofs.Common.{zero, suc, ◌≡◌, ℕ, ◌+◌, ◌-◌, ◌*◌, ◌/◌, ◌<◌, ◌≤◌, Bool, true, false, cond, min, List, [], ◌∷◌, length, get_or, refl, sym, ap, ◌∙◌, subst, inl, inr, ⊎_elim, arith}
use Rattle.std.specs.Prelude.{◌&&◌, not, nat_le, All, Contains}
use Rattle.std.specs.Int.{div_ceil}
use Rattle.std.specs.List.{AllZip}
use Rattle.std.proofs.Math.Nat.{div-mul-le_self, mul-le-mul_right}
use Rattle.std.proofs.lemmas.Nat.{le-div}
use Rattle.std.proofs.lemmas.Bool.{cases_lt}
use Rattle.std.proofs.lemmas.Grind.{div_ceil_times}
use Rattle.dl_kinds.specs.Plan.{piece_of, pieces_of, place_of, full_blocks, blocks_of, blocks_of_piece, piece_start, piece_end, IsPlan}
use Rattle.dl_kinds.specs.declared.plan.TheConstants.{BLOCK_LEN}
use Rattle.dl_kinds.specs.PlanLaws.{BlocksAreOfPieces, PlacesAreNumbered}
use Rattle.dl_kinds.specs.declared.claims.Claim.{Claim}
use Rattle.dl_kinds.specs.declared.runs.Run.{Run}
use Rattle.piece_table.specs.Changes.{is_in}
use Rattle.slow_steal.specs.Theft.{later_half}
use Rattle.option_set.specs.Values.{OptionValues}
use Rattle.segment_claim.specs.Free.{IsFreeGrant, IsLooseStretch, IsSoleStretch, is_free, is_open_at, is_claimed, piece_at, claim_size, claim_cut}
use Rattle.segment_claim.specs.Situation.{Situation}
use Rattle.segment_claim.specs.Views.{IsViewOf}
use Rattle.dl_history.specs.AccountLaws.{MatchesEvents}
use Rattle.dl_history.specs.Accounts.{Account, is_still_open}
use Rattle.dl_history.specs.OwnEvents.{OwnEvent}
use Rattle.dl_history.specs.OwnLegal.{MayClaim, IsNewClaim}
use Rattle.dl_history.specs.PayloadParts.{is_opened, is_sole_in, is_landed_in}
use Rattle.dl_history.specs.StandingClaims.{standing_claims, is_open_since}
use Rattle.machine_core.specs.Choices.{situation_by, IsBlockGrant, IsTheftGrant}
use Rattle.machine_core.specs.OwnParts.{PayloadLengths}
use Rattle.machine_core.specs.Starts.{Download}
use Rattle.machine_core.proofs.Tests.{and_left, and_right, not_not, none_passes, from_first, before_end, is_inside}

pub record PlanLaws : Type 0 where
  pub of_pieces : BlocksAreOfPieces
  pub numbered : PlacesAreNumbered

-- some parts cover some bytes
some_parts : (n split : ℕ) → 1 ≤ n → 1 ≤ split → 1 ≤ div_ceil n split
some_parts n split some one =
    ⊎_elim
    (λ (none : div_ceil n split < 1).
    let zero : div_ceil n split ≡ 0 = omega arith in
    let e : div_ceil n split * split ≡ 0 * split = ap (λ (q : ℕ). q * split) zero in
    let c = (div_ceil_times n split one).0 in
    absurd (omega (arith, c, e)))
    (λ (more : 1 ≤ div_ceil n split). more)
    (cases_lt (div_ceil n split) 1)

div-mono : (a b k : ℕ) → 1 ≤ k → a ≤ b → a / k ≤ b / k
div-mono a b k some below =
    le-div (a / k) b k (omega arith) (let m : a / k * k ≤ a = div-mul-le_self a k in omega (arith, m, below))

-- an opened download, and what is kept of it
pub record Scene : Type 0 where
  pub laws : PlanLaws
  pub lengths : PayloadLengths
  pub download : Download
  pub own : List OwnEvent
  pub options : OptionValues
  pub kept : Account
  pub plan : IsPlan lengths.total lengths.piece_len
  pub opened : is_opened own ≡ true
  pub matches : MatchesEvents lengths.total lengths.piece_len own kept

abbrev pub scene : Scene → Situation
scene x = situation_by x.kept x.lengths x.download x.own x.options

abbrev pub blocks_in_scene : Scene → ℕ
blocks_in_scene x = blocks_of x.lengths.total x.lengths.piece_len

-- ---- blocks

open_same : (x : Scene) (c : Claim) (b : ℕ) → is_open_at (scene x) b c ≡ is_still_open x.kept c b
open_same x c b =
    ap
    (λ (n : ℕ). is_in b c.run && not (get_or x.kept.progress.landed b false)
    && nat_le (get_or x.kept.closed (piece_of n b) 0) c.id)
    (sym (x.matches.rows x.opened).piece_len_is)

unlanded : (x : Scene) (b : ℕ) → b < blocks_in_scene x → not (get_or x.kept.progress.landed b false) ≡ true
    → is_landed_in x.lengths.piece_len x.own b ≡ false
unlanded x b below h = sym (x.matches.blocks b below) ∙ not_not (get_or x.kept.progress.landed b false) h

sole_same : (x : Scene) (b : ℕ) → b < blocks_in_scene x
    → get_or x.kept.progress.sole (piece_of x.lengths.piece_len b) false ≡ is_sole_in x.own
    (piece_of x.lengths.piece_len b)
sole_same x b below =
    (x.matches.pieces (piece_of x.lengths.piece_len b)
    (x.laws.of_pieces x.lengths.total x.lengths.piece_len b x.plan below).piece).sole

free_unlanded : (x : Scene) (b : ℕ) → b < blocks_in_scene x → is_free (scene x) b ≡ true
    → is_landed_in x.lengths.piece_len x.own b ≡ false
free_unlanded x b below h =
    unlanded x b below
    (and_right (get_or (scene x).wanted (piece_at (scene x) b) false) (not (get_or x.kept.progress.landed b false))
    (and_left (get_or (scene x).wanted (piece_at (scene x) b) false && not (get_or x.kept.progress.landed b false))
    (not (is_claimed (scene x) b)) h))

-- no claim that stands is to bring a free block
free_unclaimed : (x : Scene) (b : ℕ) → is_free (scene x) b ≡ true
    → All (λ (c : Claim). is_open_since x.own c b ≡ false) (standing_claims x.own)
free_unclaimed x b h =
    let none = not_not (is_claimed (scene x) b)
    (and_right (get_or (scene x).wanted (piece_at (scene x) b) false && not (get_or x.kept.progress.landed b false))
    (not (is_claimed (scene x) b)) h) in
    let shut = none_passes (is_open_at (scene x) b) x.kept.standing none in
    let there = subst (λ (cs : List Claim). All (λ (c : Claim). is_open_at (scene x) b c ≡ false) cs)
    x.matches.claims.standing shut in
    λ place d below.
    let c = get_or (standing_claims x.own) place d in
    sym (x.matches.claims.open_blocks place d below b) ∙ (sym (open_same x c b) ∙ there place d below)

-- ---- a free stretch

size_some : (x : Scene) → 1 ≤ blocks_in_scene x → 1 ≤ (scene x).split → 1 ≤ claim_size (scene x)
size_some x some one = let c = some_parts (blocks_in_scene x) (scene x).split some one in omega arith

front : (b first count : ℕ) (run : Run) → run.first ≡ first → run.count ≤ count → is_in b run ≡ true
    → is_in b (record { first = first; count = count }) ≡ true
front b first count run at few inside =
    let low = from_first b run inside in
    let high = before_end b run inside in
    is_inside b (record { first = first; count = count }) (omega arith) (omega arith)

of_loose : (x : Scene) (claim : Claim) (stretch : Run) → IsNewClaim x.own claim → 1 ≤ (scene x).split
    → IsLooseStretch (scene x) stretch
    → claim.run ≡ claim_cut (scene x) stretch → MayClaim x.lengths.total x.lengths.piece_len x.own claim
of_loose x claim stretch fresh one is cut =
    let s = scene x in
    let least = is.some in
    let within = is.within in
    let head : is_in stretch.first stretch ≡ true = is_inside stretch.first stretch (omega arith) (omega arith) in
    let not_sole : get_or x.kept.progress.sole (piece_of x.lengths.piece_len stretch.first) false ≡ false =
    not_not (get_or x.kept.progress.sole (piece_of x.lengths.piece_len stretch.first) false)
    (and_right (is_free s stretch.first)
    (not (get_or x.kept.progress.sole (piece_of x.lengths.piece_len stretch.first) false))
    (is.loose stretch.first head)) in
    let first : claim.run.first ≡ stretch.first = ap (λ (r : Run). r.first) cut in
    let count : claim.run.count ≡ min stretch.count (claim_size s) =
    ap (λ (r : Run). r.count) cut ∙ ap (λ (t : Bool). cond t stretch.count (min stretch.count (claim_size s)))
    not_sole in
    let size = size_some x (omega arith) one in
    let few : claim.run.count ≤ stretch.count = omega arith in
    let more : 1 ≤ claim.run.count = omega arith in
    let inner : (b : ℕ) → is_in b claim.run ≡ true → is_in b stretch ≡ true =
    λ b h. front b stretch.first stretch.count claim.run first few h in
    let below : (b : ℕ) → is_in b claim.run ≡ true → b < blocks_in_scene x = λ b h. let e =
    before_end b stretch (inner b h) in omega arith in
    record {
      fresh = fresh;
      opened = x.opened;
      some = more;
      within = omega arith;
      unlanded = λ b h.
          free_unlanded x b (below b h)
          (and_left (is_free s b) (not (get_or x.kept.progress.sole (piece_of x.lengths.piece_len b) false))
          (is.loose b (inner b h)));
      pieces = inl (λ b h.
          sym (sole_same x b (below b h))
          ∙ not_not (get_or x.kept.progress.sole (piece_of x.lengths.piece_len b) false)
          (and_right (is_free s b) (not (get_or x.kept.progress.sole (piece_of x.lengths.piece_len b) false))
          (is.loose b (inner b h))));
    }

-- ---- a sole piece

-- a piece begins within the payload, so it has a block
piece_some : (total len p : ℕ) → 1 ≤ len → p < pieces_of total len → 1 ≤ blocks_of_piece total len p
piece_some total len p some below =
    let more : p + 1 ≤ pieces_of total len = omega arith in
    let step : (p + 1) * len ≤ pieces_of total len * len = mul-le-mul_right len more in
    let top : pieces_of total len * len < total + len = (div_ceil_times total len some).1 in
    let begins : p * len < total = omega (arith, step, top) in
    some_parts (piece_end total len p - piece_start len p) BLOCK_LEN (omega (arith, begins)) (omega arith)

of_sole : (x : Scene) (claim : Claim) (stretch : Run) → IsNewClaim x.own claim → IsSoleStretch (scene x) stretch
    → claim.run ≡ claim_cut (scene x) stretch → MayClaim x.lengths.total x.lengths.piece_len x.own claim
of_sole x claim stretch fresh is cut =
    let s = scene x in
    let total = x.lengths.total in
    let len = x.lengths.piece_len in
    let some = piece_some total len is.piece x.plan.some is.known in
    let numbered = λ (place : ℕ) (inside : place < blocks_of_piece total len is.piece). x.laws.numbered total len
    is.piece place x.plan is.known inside in
    let zero : is.piece * full_blocks len + 0 ≡ stretch.first = let f = is.first in omega arith in
    let at : piece_of len stretch.first ≡ is.piece = ap (piece_of len) (sym zero)
    ∙ (numbered 0 (omega arith)).number.of in
    let flag : get_or x.kept.progress.sole (piece_of len stretch.first) false ≡ true =
    ap (λ (p : ℕ). get_or x.kept.progress.sole p false) at ∙ is.sole in
    let first : claim.run.first ≡ is.piece * full_blocks len = ap (λ (r : Run). r.first) cut ∙ is.first in
    let count : claim.run.count ≡ blocks_of_piece total len is.piece =
    ap (λ (r : Run). r.count) cut
    ∙ (ap (λ (t : Bool). cond t stretch.count (min stretch.count (claim_size s))) flag ∙ is.count) in
    let first' = is.first in
    let count' = is.count in
    let inner : (b : ℕ) → is_in b claim.run ≡ true → is_in b stretch ≡ true =
    λ b h. front b stretch.first stretch.count claim.run (omega arith) (omega arith) h in
    let last = (numbered (blocks_of_piece total len is.piece - 1) (omega arith)).within in
    let within : claim.run.first + claim.run.count ≤ blocks_in_scene x = omega (arith, last, some) in
    let below : (b : ℕ) → is_in b claim.run ≡ true → b < blocks_in_scene x = λ b h. let e =
    before_end b claim.run h in omega arith in
    record {
      fresh = fresh;
      opened = x.opened;
      some = omega arith;
      within = within;
      unlanded = λ b h. free_unlanded x b (below b h) (is.free b (inner b h));
      pieces = inr (record {
        piece = is.piece;
        sole = sym (x.matches.pieces is.piece is.known).sole ∙ is.sole;
        exact = λ b inside. (
          λ h.
              let low = from_first b claim.run h in
              let high = before_end b claim.run h in
              let place : is.piece * full_blocks len + (b - is.piece * full_blocks len) ≡ b = omega arith in
              ap (piece_of len) (sym place) ∙ (numbered (b - is.piece * full_blocks len) (omega arith)).number.of,
          λ here.
              let p = x.laws.of_pieces total len b x.plan inside in
              let low : is.piece * full_blocks len + place_of len b ≡ b =
              subst (λ (n : ℕ). n * full_blocks len + place_of len b ≡ b) here p.number in
              let high : place_of len b < blocks_of_piece total len is.piece =
              subst (λ (n : ℕ). place_of len b < blocks_of_piece total len n) here p.place in
              is_inside b claim.run (omega arith) (omega arith),
        );
        free = λ b h. free_unclaimed x b (is.free b (inner b h));
      });
    }

-- ---- a theft

zipped : {A B : Type 0} (R : A → B → Type 0) (xs : List A) (ys : List B) (y : B) (k : ℕ) → AllZip R xs ys
    → k < length ys → get_or ys k y ≡ y
    → (x : A) × Contains xs x × R x y
zipped R [] [] y k all below is = absurd (omega arith)
zipped R [] (z ∷ zs) y k all below is = absurd all
zipped R (x ∷ xs) [] y k all below is = absurd all
zipped R (x ∷ xs) (z ∷ zs) y zero all below is = (x, (0, omega arith, refl), subst (λ (v : _). R x v) is all.0)
zipped R (x ∷ xs) (z ∷ zs) y (suc k) all below is =
    let r = zipped R xs zs y k all.1 (omega arith) is in
    (r.0, (suc r.1.0, (let w = r.1.1 in omega arith), r.1.2), r.2)

of_theft : (x : Scene) (claim : Claim) → IsNewClaim x.own claim → IsTheftGrant (scene x) claim
    → MayClaim x.lengths.total x.lengths.piece_len x.own claim
of_theft x claim fresh g =
    let s = scene x in
    let total = x.lengths.total in
    let len = x.lengths.piece_len in
    let slow = g.theft.slowest in
    let view = slow.claim in
    let found = zipped (IsViewOf s) s.standing g.theft.views view slow.is.listed.0 g.theft.seen slow.is.listed.1
    slow.is.listed.2 in
    let victim = found.0 in
    let v = found.2 in
    let able = v.able.0 slow.is.may.able in
    let two = slow.is.may.two in
    let run_is : claim.run ≡ later_half view.own = ap (λ (c : Claim). c.run) g.is ∙ slow.run in
    let first : claim.run.first ≡ view.own.first + (view.own.count - view.own.count / 2) =
    ap (λ (r : Run). r.first) run_is in
    let count : claim.run.count ≡ view.own.count / 2 = ap (λ (r : Run). r.count) run_is in
    let inner : (b : ℕ) → is_in b claim.run ≡ true → is_in b view.own ≡ true =
    λ b h.
    let low = from_first b claim.run h in
    let high = before_end b claim.run h in
    is_inside b view.own (omega arith) (omega arith) in
    let here : (b : ℕ) → is_in b claim.run ≡ true → is_open_at s b victim ≡ true =
    λ b h. and_left (is_open_at s b victim) _ (v.own.own b (inner b h)) in
    let held : (b : ℕ) → is_in b claim.run ≡ true
    → (is_in b victim.run && not (get_or x.kept.progress.landed b false)) ≡ true =
    λ b h.
    and_left (is_in b victim.run && not (get_or x.kept.progress.landed b false))
    (nat_le (get_or x.kept.closed (piece_of len b) 0) victim.id) (here b h) in
    let in_victim : (b : ℕ) → is_in b claim.run ≡ true → is_in b victim.run ≡ true =
    λ b h. and_left (is_in b victim.run) (not (get_or x.kept.progress.landed b false)) (held b h) in
    let standing : Contains (standing_claims x.own) victim =
    subst (λ (cs : List Claim). Contains cs victim) x.matches.claims.standing found.1 in
    let fits : victim.run.first + victim.run.count ≤ blocks_in_scene x =
    subst (λ (c : Claim). c.run.first + c.run.count ≤ blocks_in_scene x) standing.2
    (x.matches.claims.within standing.0 victim standing.1) in
    let below : (b : ℕ) → is_in b claim.run ≡ true → b < blocks_in_scene x = λ b h. let e =
    before_end b victim.run (in_victim b h) in omega arith in
    let some : 1 ≤ claim.run.count = omega arith in
    let last = below (claim.run.first + (claim.run.count - 1))
    (is_inside (claim.run.first + (claim.run.count - 1)) claim.run (omega arith) (omega arith)) in
    record {
      fresh = fresh;
      opened = x.opened;
      some = some;
      within = omega (arith, last, some);
      unlanded =
          λ b h. unlanded x b (below b h)
          (and_right (is_in b victim.run) (not (get_or x.kept.progress.landed b false)) (held b h));
      pieces = inl (λ b h.
          let inside = in_victim b h in
          let low = from_first b victim.run inside in
          let high = before_end b victim.run inside in
          let full : 1 ≤ full_blocks len = some_parts len BLOCK_LEN x.plan.some (omega arith) in
          let from : piece_of len victim.run.first ≤ piece_of len b = div-mono victim.run.first b (full_blocks len) full low in
          let to : piece_of len b ≤ piece_of len (victim.run.first + victim.run.count - 1) =
          div-mono b (victim.run.first + victim.run.count - 1) (full_blocks len) full (omega arith) in
          sym (sole_same x b (below b h)) ∙ able.whole (piece_of len b) from to);
    }

-- ---- the choice

pub block_grant : (x : Scene) (claim : Claim) → IsNewClaim x.own claim → IsBlockGrant (scene x) claim
    → MayClaim x.lengths.total x.lengths.piece_len x.own claim
block_grant x claim fresh g =
    let few = g.few in
    ⊎_elim
    (λ (free : IsFreeGrant (scene x) claim.id claim.worker claim.since.0 claim).
    ⊎_elim
    (λ (is : IsLooseStretch (scene x) free.free.stretch). of_loose x claim free.free.stretch fresh
    (omega arith) is free.free.cut)
    (λ (is : IsSoleStretch (scene x) free.free.stretch). of_sole x claim free.free.stretch fresh is free.free.cut)
    free.free.grantable.stretch)
    (λ (theft : IsTheftGrant (scene x) claim). of_theft x claim fresh theft)
    g.grant
