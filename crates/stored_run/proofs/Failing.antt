-- The piece at which a claim fails, and what may come of it.
use Rattle.std.proofs.Common.{◌≡◌, inl, ℕ, ◌<◌, ◌+◌, Bool, true, false, Option, Some, None, List, ◌∷◌, refl, sym, ap, ◌∙◌, subst, arith}
use Rattle.std.specs.Prelude.{◌&&◌, ◌||◌, not, nat_le, nat_lt, Contains, IfNone, IsSome, slice_index_or}
use Rattle.std.specs.List.{list_any}
use Rattle.std.specs.Option.{is_some}
use Rattle.std.proofs.lemmas.Bool.{eqb-true, leb-true, ltb-true}
use Rattle.std.proofs.lemmas.List.Elements.{All-contains, filter_passes}
use Rattle.dl_kinds.specs.Plan.{IsPlan, blocks_of, piece_of, pieces_of}
use Rattle.dl_kinds.specs.PlanLaws.{BlocksAreOfPieces}
use Rattle.dl_kinds.specs.declared.claims.Claim.{Claim}
use Rattle.dl_kinds.specs.declared.gid.Gid.{Gid}
use Rattle.dl_kinds.specs.declared.marks.Mark.{Mark}
use Rattle.dl_kinds.specs.declared.runs.Run.{Run}
use Rattle.piece_table.specs.Changes.{is_in}
use Rattle.piece_table.specs.Progress.{Progress}
use Rattle.dl_history.specs.AccountLaws.{FitsPlan}
use Rattle.dl_history.specs.Accounts.{account_of}
use Rattle.dl_history.specs.OwnEvents.{OwnEvent, Loses}
use Rattle.dl_history.specs.OwnLegal.{LegalOwn, MayClear}
use Rattle.dl_history.specs.PayloadParts.{is_opened, is_sole_in}
use Rattle.dl_history.specs.StandingClaims.{blocks_in, ends_claim, first_open_since, grants_claim, granted_claims, is_open_since, is_probe, is_standing, lands_block, piece_of_first, since, standing_claims}
use Rattle.dl_history.proofs.Bools.{and_left, and_right, true_not_false}
use Rattle.dl_history.proofs.Sole.{found}
use Rattle.control_file.specs.Wants.{IsWant}
use Rattle.control_file.specs.declared.want.Want.{Want}
use Rattle.engine_turns.specs.ClaimRows.{lost_piece}
use Rattle.machine_core.specs.DownloadWants.{HasWant}
use Rattle.machine_core.specs.MachineViews.{IsLossOfClaim, MachineView, StandsUnder}
use Rattle.machine_core.specs.Openings.{lengths_of_plan}
use Rattle.machine_core.specs.OwnParts.{PayloadLengths, own_of}
use Rattle.machine_core.specs.RunLegal.{IsLegal, MayFollow, MayOwn, known_lengths}
use Rattle.machine_core.specs.Starts.{RunStart}
use Rattle.machine_core.specs.declared.events.Event.{Event}
use Rattle.machine_core.specs.declared.events.Event.TheVariants.{Cleared, Lost}
use Rattle.stored_run.specs.RunFollows.{RunFollows}
use Rattle.stored_run.specs.Stored.{AreWantsKept}
use Rattle.stored_run.specs.Views.{kept_want}
use Rattle.stored_run.proofs.Claimed.{claim_goes}
use Rattle.stored_run.proofs.Kept.{own_at}
use Rattle.stored_run.proofs.Own.{lengths_known}

-- ---- a claim without an open block

stands_so : (own : List OwnEvent) (claim : Claim) → Contains (standing_claims own) claim → is_standing own claim ≡ true
stands_so own claim there =
    All-contains (λ (c : Claim). is_standing own c ≡ true) (standing_claims own) claim
    (filter_passes (is_standing own) (granted_claims own)) there

probe_by : (a p o : Bool) → (a && (p || o)) ≡ true → o ≡ false → p ≡ true
probe_by true true o is none = refl
probe_by true false true is none = absurd cc
probe_by true false false is none = absurd cc
probe_by false p o is none = absurd cc

pub none_open_is_probe : (own : List OwnEvent) (claim : Claim) → Contains (standing_claims own) claim
    → None ≡ first_open_since own claim → is_probe claim ≡ true
none_open_is_probe own claim there none =
    probe_by (not (list_any (ends_claim claim.id) (since (grants_claim claim.id) own))) (is_probe claim)
    (is_some (first_open_since own claim)) (stands_so own claim there) (sym (ap is_some none))

-- of a download that isn't opened nothing was settled, so that no piece is sole
pub unopened_sole : RunFollows → (total len : ℕ) (own : List OwnEvent) → LegalOwn total len own
    → is_opened own ≡ false → is_sole_in own 0 ≡ false
unopened_sole laws total len own legal un =
    let matches = laws.accounts 1 1 own (λ is. true_not_false (is_opened own) is un)
    (laws.sound.unopened total len 1 1 own legal un) in
    let one : 0 < pieces_of 1 1 = omega arith in
    sym (matches.pieces 0 one).sole ∙ ap (λ (p : Progress). slice_index_or p.sole 0 false) (matches.nothing un)

pub probe_sole : RunFollows → (total len : ℕ) (own : List OwnEvent) (claim : Claim) → LegalOwn total len own
    → Contains (standing_claims own) claim → None ≡ first_open_since own claim → is_sole_in own 0 ≡ false
probe_sole laws total len own claim legal there none = by (is_opened own) refl
  where
    by : (b : Bool) → is_opened own ≡ b → is_sole_in own 0 ≡ false
    by true is =
        true_not_false (is_probe claim) (none_open_is_probe own claim there none)
        ((laws.sound.probes total len own claim legal there).blocks is)
    by false is = unopened_sole laws total len own legal is

-- ---- a claim with one

pub first_is_open : (own : List OwnEvent) (claim : Claim) (b : ℕ) → Some b ≡ first_open_since own claim
    → is_open_since own claim b ≡ true
first_is_open own claim b is = (found (is_open_since own claim) (blocks_in claim.run) b (sym is)).1

pub open_in_run : (own : List OwnEvent) (claim : Claim) (b : ℕ) → is_open_since own claim b ≡ true
    → is_in b claim.run ≡ true
open_in_run own claim b is =
    and_left (is_in b claim.run) (not (list_any (lands_block b) (since (grants_claim claim.id) own))) is

in_no_run : {P : Type 0} (b : ℕ) (run : Run) → is_in b run ≡ true → run.count ≡ 0 → P
in_no_run b run is none =
    let from = leb-true run.first b (and_left (nat_le run.first b) (nat_lt b (run.first + run.count)) is) in
    let to = ltb-true b (run.first + run.count) (and_right (nat_le run.first b) (nat_lt b (run.first + run.count)) is) in
    absurd (omega arith)

-- so it is opened, and the block is one of the payload that isn't landed
pub open_is_opened : RunFollows → (total len : ℕ) (own : List OwnEvent) (claim : Claim) (b : ℕ) → LegalOwn total len own
    → Contains (standing_claims own) claim → is_open_since own claim b ≡ true → is_opened own ≡ true
open_is_opened laws total len own claim b legal there open_so = by (is_opened own) refl
  where
    by : (t : Bool) → is_opened own ≡ t → is_opened own ≡ true
    by true is = is
    by false is =
        in_no_run b claim.run (open_in_run own claim b open_so)
        (eqb-true claim.run.count 0 ((laws.sound.probes total len own claim legal there).probe is))

-- ---- the download of a claim that stands

some_want : (o : Option Want) → is_some o ≡ true → (w : Want) × (o ≡ Some w)
some_want None is = absurd cc
some_want (Some w) is = (w, refl)

-- what the disk is to keep of a download that is opened
pub record OpenedWant (start : RunStart) (past : List Event) (wants : List (Option Want)) (gid : Gid) : Type 0 where
  pub want : Want
  pub kept : kept_want wants start past gid ≡ Some want
  pub has : HasWant start past gid want
  pub sound : IsWant want
  pub plan : IsPlan (known_lengths start past gid).total (known_lengths start past gid).piece_len
  pub lengths : known_lengths start past gid ≡ lengths_of_plan want.plan

pub opened_want : (start : RunStart) (past : List Event) (wants : List (Option Want)) (gid : Gid)
    → AreWantsKept start past wants → is_opened (own_of start past gid) ≡ true → OpenedWant start past wants gid
opened_want start past wants gid kept opened =
    let some = some_want (kept_want wants start past gid) (kept.opened gid opened) in
    let has = kept.has gid some.0 some.1 in
    let lengths = lengths_known start past gid some.0 has in
    record {
      want = some.0;
      kept = some.1;
      has = has;
      sound = kept.sound gid some.0 some.1;
      plan = subst (λ (l : PayloadLengths). IsPlan l.total l.piece_len) (sym lengths) (kept.sound gid some.0 some.1).plan;
      lengths = lengths;
    }

-- ---- the loss

-- the loss of a claim at its piece may come
pub loss_may : RunFollows → (m : MachineView) (gid : Gid) (claim : Claim) (piece : ℕ) (mark : Mark)
    → IsLegal m.start m.past → StandsUnder m claim.id gid claim → piece ≡ lost_piece m.start m.past gid claim
    → MayFollow m.start m.past (Lost gid claim.id claim.mirror piece mark)
loss_may laws m gid claim piece mark legal stands piece_is =
    let goes = claim_goes laws m.start m.past gid claim legal stands.stands in
    record {
      download = goes.download;
      added = goes.added;
      may = record { claim = claim; stands = stands.stands; id_is = refl; mirror_is = refl; piece_is = sym piece_is };
    }

-- and no other loss of it may
pub loss_is : (m : MachineView) (gid : Gid) (claim : Claim) (piece : ℕ) (mark : Mark) (e : Event)
    → StandsUnder m claim.id gid claim → piece ≡ lost_piece m.start m.past gid claim → IsLossOfClaim claim.id mark e
    → MayFollow m.start m.past e → e ≡ Lost gid claim.id claim.mirror piece mark
loss_is m gid claim piece mark e stands piece_is is may =
    let own : MayOwn m.start m.past is.0 (Loses claim.id is.1 is.2 mark) =
    subst (λ (x : Event). MayFollow m.start m.past x) is.3 may in
    let one = stands.one is.0 own.may.claim own.may.stands own.may.id_is in
    let mirror : is.1 ≡ claim.mirror = sym own.may.mirror_is ∙ ap (λ (c : Claim). c.mirror) one.1 in
    let at : is.2 ≡ piece =
    sym own.may.piece_is ∙ (ap (λ (g : Gid). lost_piece m.start m.past g own.may.claim) one.0
    ∙ (ap (λ (c : Claim). lost_piece m.start m.past gid c) one.1 ∙ sym piece_is)) in
    is.3 ∙ (ap (λ (g : Gid). Lost g claim.id is.1 is.2 mark) one.0
    ∙ (ap (λ (n : ℕ). Lost gid claim.id n is.2 mark) mirror
    ∙ ap (λ (p : ℕ). Lost gid claim.id claim.mirror p mark) at))

-- ---- a sole piece is cleared

-- the lengths of a download with a want stay
pub lengths_stay : RunFollows → (start : RunStart) (past : List Event) (e : Event) (gid : Gid) (want : Want)
    → IsLegal start (e ∷ past) → HasWant start past gid want
    → known_lengths start (e ∷ past) gid ≡ known_lengths start past gid
lengths_stay laws start past e gid want legal has =
    lengths_known start (e ∷ past) gid want (laws.wants start past e gid want legal has)
    ∙ sym (lengths_known start past gid want has)

module _ (laws : RunFollows) (of_pieces : BlocksAreOfPieces) (start : RunStart) (past : List Event)
    (wants : List (Option Want)) (kept : AreWantsKept start past wants) (gid : Gid) (claim : Claim) (mark : Mark)
    (there : Contains (standing_claims (own_of start past gid)) claim) where
  -- the events after its loss
  abbrev lost_past : ℕ → List Event
  lost_past piece = Lost gid claim.id claim.mirror piece mark ∷ past

  clear_at : (b piece : ℕ) → IsLegal start (lost_past piece) → is_open_since (own_of start past gid) claim b ≡ true
      → piece_of (known_lengths start past gid).piece_len b ≡ piece → is_sole_in (own_of start past gid) piece ≡ true
      → MayFollow start (lost_past piece) (Cleared gid piece)
  clear_at b piece legal open_so at sole =
      let l = known_lengths start past gid in
      let own = own_of start past gid in
      let e = Lost gid claim.id claim.mirror piece mark in
      let own_is_legal = laws.legal start past gid legal.0 in
      let opened = open_is_opened laws l.total l.piece_len own claim b own_is_legal there open_so in
      let w = opened_want start past wants gid kept opened in
      let un = laws.sound.open_blocks l.total l.piece_len own claim b own_is_legal there open_so in
      let within : piece < pieces_of l.total l.piece_len =
      subst (λ (n : ℕ). n < pieces_of l.total l.piece_len) at (of_pieces l.total l.piece_len b w.plan un.within).piece in
      let none = laws.sound.sole l.total l.piece_len own piece b w.plan own_is_legal sole un.within at un.unlanded in
      let goes = claim_goes laws start past gid claim legal.0 there in
      let grown = own_at gid (Loses claim.id claim.mirror piece mark) own in
      record {
        own = record {
          download = goes.download;
          added = laws.downloads start past e gid goes.download goes.added;
          may = subst (λ (k : PayloadLengths). MayClear k.total k.piece_len (own_of start (lost_past piece) gid) piece)
              (sym (lengths_stay laws start past e gid w.want legal w.has))
              (subst (λ (x : List OwnEvent). MayClear l.total l.piece_len x piece) (sym grown)
              (record { within = within; cause = inl (refl, sole); unlisted = none }));
        };
        direct = λ loss. (refl, refl);
      }

  pub clear_may : (piece : ℕ) → IsLegal start (lost_past piece) → piece ≡ lost_piece start past gid claim
      → is_sole_in (own_of start past gid) piece ≡ true → MayFollow start (lost_past piece) (Cleared gid piece)
  clear_may piece legal piece_is sole = by (first_open_since (own_of start past gid) claim) refl
    where
      by : (o : Option ℕ) → first_open_since (own_of start past gid) claim ≡ o
          → MayFollow start (lost_past piece) (Cleared gid piece)
      by None is =
          let l = known_lengths start past gid in
          let none = probe_sole laws l.total l.piece_len (own_of start past gid) claim (laws.legal start past gid legal.0)
          there (sym is) in
          let first : piece ≡ 0 = piece_is ∙ ap (piece_of_first l.piece_len) is in
          true_not_false (is_sole_in (own_of start past gid) piece) sole
          (ap (is_sole_in (own_of start past gid)) first ∙ none)
      by (Some b) is =
          clear_at b piece legal (first_is_open (own_of start past gid) claim b (sym is))
          (sym (piece_is ∙ ap (piece_of_first (known_lengths start past gid).piece_len) is)) sole

-- ---- the piece of a first open block

pub record FailingAt (start : RunStart) (past : List Event) (wants : List (Option Want)) (gid : Gid) (claim : Claim)
    (b : ℕ) : Type 0 where
  pub opened : is_opened (own_of start past gid) ≡ true
  pub found : OpenedWant start past wants gid
  pub within : b < blocks_of (known_lengths start past gid).total (known_lengths start past gid).piece_len
  pub piece_within : piece_of (known_lengths start past gid).piece_len b
      < pieces_of (known_lengths start past gid).total (known_lengths start past gid).piece_len
  pub piece_is : lost_piece start past gid claim ≡ piece_of (known_lengths start past gid).piece_len b

pub failing_at : RunFollows → BlocksAreOfPieces → (start : RunStart) (past : List Event) (wants : List (Option Want))
    (gid : Gid) (claim : Claim) (b : ℕ) → AreWantsKept start past wants → IsLegal start past
    → Contains (standing_claims (own_of start past gid)) claim
    → Some b ≡ first_open_since (own_of start past gid) claim → FailingAt start past wants gid claim b
failing_at laws of_pieces start past wants gid claim b kept legal there first =
    let l = known_lengths start past gid in
    let own = own_of start past gid in
    let own_is_legal = laws.legal start past gid legal in
    let open_so = first_is_open own claim b first in
    let opened = open_is_opened laws l.total l.piece_len own claim b own_is_legal there open_so in
    let w = opened_want start past wants gid kept opened in
    let un = laws.sound.open_blocks l.total l.piece_len own claim b own_is_legal there open_so in
    record {
      opened = opened;
      found = w;
      within = un.within;
      piece_within = (of_pieces l.total l.piece_len b w.plan un.within).piece;
      piece_is = ap (piece_of_first l.piece_len) (sym first);
    }

-- what is kept of it says whether the piece is sole
pub sole_kept : RunFollows → (start : RunStart) (past : List Event) (gid : Gid) (piece : ℕ) → IsLegal start past
    → IsPlan (known_lengths start past gid).total (known_lengths start past gid).piece_len
    → piece < pieces_of (known_lengths start past gid).total (known_lengths start past gid).piece_len
    → slice_index_or (account_of (known_lengths start past gid).total (known_lengths start past gid).piece_len
    (own_of start past gid)).progress.sole piece false
    ≡ is_sole_in (own_of start past gid) piece
sole_kept laws start past gid piece legal plan within =
    let l = known_lengths start past gid in
    ((laws.accounts l.total l.piece_len (own_of start past gid) (λ opened. plan) (laws.legal start past gid legal)).pieces
    piece within).sole

pub rows_kept : RunFollows → (start : RunStart) (past : List Event) (gid : Gid) → IsLegal start past
    → IsPlan (known_lengths start past gid).total (known_lengths start past gid).piece_len
    → is_opened (own_of start past gid) ≡ true
    → FitsPlan (known_lengths start past gid).total (known_lengths start past gid).piece_len
    (account_of (known_lengths start past gid).total (known_lengths start past gid).piece_len (own_of start past gid))
rows_kept laws start past gid legal plan opened =
    let l = known_lengths start past gid in
    (laws.accounts l.total l.piece_len (own_of start past gid) (λ is. plan) (laws.legal start past gid legal)).rows opened

pub table_there : {A : Type 0} (o : Option A) (opened : Bool) → opened ≡ true → IfNone o (opened ≡ false) → IsSome o
table_there None opened is none = true_not_false opened is none
table_there (Some t) opened is none = refl
