-- What each event of a download leaves of its soundness: pieces that were found wrong are cleared, none is dead, and a
-- wanted one isn't verified.
use Rattle.std.proofs.Common.{◌≡◌, ◌≢◌, ℕ, ◌≤◌, Bool, true, false, cond, Option, List, [], ◌∷◌, refl, sym, ap, ◌∙◌, subst, ⊎_elim}
use Rattle.std.specs.Prelude.{◌&&◌, ◌||◌, ◌==◌, slice_index_or}
use Rattle.std.specs.List.{list_any}
use Rattle.std.specs.Option.{unwrap_or}
use Rattle.std.proofs.lemmas.Bool.{cases_eq, eq-eqb, ne_eqb}
use Rattle.dl_kinds.specs.declared.claims.Claim.{Claim}
use Rattle.dl_kinds.specs.declared.marks.Mark.{Mark}
use Rattle.dl_kinds.specs.declared.runs.Moment.{Moment}
use Rattle.dl_kinds.specs.declared.runs.Run.{Run}
use Rattle.dl_history.proofs.Bools.{true_not_false}
use Rattle.dl_history.specs.OwnEvents.{Checks, Clears, Grants, Lands, Loses, Opens, OwnEvent, Saves, Settles, Sizes}
use Rattle.dl_history.specs.PayloadParts.{blames_in, checksum_mark, is_opened, is_verified_in, told_total}
use Rattle.dl_history.specs.StandingClaims.{since}
use Rattle.machine_core.specs.OwnParts.{PayloadLengths, lengths_by, no_lengths, told_lengths}
use Rattle.machine_core.specs.RunLegal.{mirrors_by, tries_in}
use Rattle.machine_core.specs.Starts.{Download, Listed, Subject, Unlisted}
use Rattle.machine_core.specs.Wanted.{wanted_pieces}
use Rattle.mirror_blame.specs.Marks.{IsDead}
use Rattle.mirror_blame.specs.declared.blame.Blame.{Blame}
use Rattle.option_set.specs.Values.{number_value}
use Rattle.option_set.specs.declared.kinds.Num.TheVariants as num
use Rattle.piece_table.specs.declared.giver.Giver.{Giver}
use Rattle.piece_table.specs.declared.giver.Giver.TheVariants.{Mixed, Nobody, One}
use Rattle.offered_work.proofs.Marked.{other_dead}
use Rattle.offered_work.proofs.Uncleared.{clears_piece, finds_wrong, is_uncleared}

-- ---- what holds of a download's events

-- the lengths that are known by them
abbrev pub lengths_now : Download → List OwnEvent → PayloadLengths
lengths_now d own = unwrap_or (lengths_by d d.subject own) no_lengths

-- each wanted piece is verified
abbrev pub AllWanted : Download → List OwnEvent → Type 0
AllWanted d own = (piece : ℕ) → slice_index_or (wanted_pieces d (lengths_now d own)) piece false ≡ true
    → is_verified_in own piece ≡ true

-- once it is opened a wanted piece isn't; or that isn't asked
abbrev pub IsUnfinished : Download → Bool → List OwnEvent → Type 0
IsUnfinished d true own = is_opened own ≡ true → AllWanted d own → ⊥
IsUnfinished d false own = Unit {0}

pub record HasTries (d : Download) : Type 0 where
  pub mirrors : 1 ≤ mirrors_by d.subject
  pub tries : 1 ≤ tries_in d

abbrev pub NoPiece : ℕ → Type 0
NoPiece p = ⊥

abbrev pub ThePiece : ℕ → ℕ → Type 0
ThePiece q p = p ≡ q

-- but for some pieces, those found wrong are cleared, and but for some none is dead
pub record IsSound (d : Download) (Wrong Dead : ℕ → Type 0) (asks : Bool) (own : List OwnEvent) : Type 0 where
  pub cleared : (p : ℕ) → (Wrong p → ⊥) → is_uncleared p own ≡ false
  pub lively : HasTries d → (p : ℕ) → (Dead p → ⊥)
      → IsDead (mirrors_by d.subject) (tries_in d) (blames_in own) p → ⊥
  pub unfinished : IsUnfinished d asks own

-- ---- events that change little

-- the event finds no piece wrong, and marks none
pub record IsHarmless (x : OwnEvent) : Type 0 where
  pub wrong : (p : ℕ) (own : List OwnEvent) → is_uncleared p (x ∷ own) ≡ is_uncleared p own
  pub marks : (own : List OwnEvent) → blames_in (x ∷ own) ≡ blames_in own

-- nor does it verify one, or tell a length
pub record VerifiesNone (x : OwnEvent) : Type 0 where
  pub opened : (own : List OwnEvent) → is_opened (x ∷ own) ≡ is_opened own
  pub verified : (p : ℕ) (own : List OwnEvent) → is_verified_in (x ∷ own) p ≡ is_verified_in own p
  pub told : (own : List OwnEvent) → told_total (x ∷ own) ≡ told_total own

lengths_same : (d : Download) (s : Subject) (own own' : List OwnEvent) → told_total own' ≡ told_total own
    → lengths_by d s own' ≡ lengths_by d s own
lengths_same d (Listed meta uris) own own' same = refl
lengths_same d (Unlisted uris) own own' same = ap (told_lengths (number_value d.options num.PieceLength)) same

pub unfinished_on : (d : Download) (asks : Bool) (x : OwnEvent) (own : List OwnEvent) → VerifiesNone x
    → IsUnfinished d asks own → IsUnfinished d asks (x ∷ own)
unfinished_on d false x own none was = tt
unfinished_on d true x own none was = λ opened all.
    was (sym (none.opened own) ∙ opened) (λ piece wanted.
    sym (none.verified piece own)
    ∙ all piece
    (ap (λ (o : Option PayloadLengths). slice_index_or (wanted_pieces d (unwrap_or o no_lengths)) piece false)
    (lengths_same d d.subject own (x ∷ own) (none.told own)) ∙ wanted))

module _ (d : Download) (Wrong Dead : ℕ → Type 0) where
  harmless_on : (asks now : Bool) (x : OwnEvent) (own : List OwnEvent) → IsHarmless x → IsUnfinished d now (x ∷ own)
      → IsSound d Wrong Dead asks own → IsSound d Wrong Dead now (x ∷ own)
  harmless_on asks now x own free unfinished s = record {
    cleared = λ p not. free.wrong p own ∙ s.cleared p not;
    lively = λ tries p not dead. s.lively tries p not
        (subst (λ (marks : List Blame). IsDead (mirrors_by d.subject) (tries_in d) marks p) (free.marks own) dead);
    unfinished = unfinished;
  }

  quiet_on : (asks : Bool) (x : OwnEvent) (own : List OwnEvent) → IsHarmless x → VerifiesNone x
      → IsSound d Wrong Dead asks own → IsSound d Wrong Dead asks (x ∷ own)
  quiet_on asks x own free none s = harmless_on asks asks x own free (unfinished_on d asks x own none s.unfinished) s

  pub granted_on : (asks : Bool) (claim : Claim) (own : List OwnEvent) → IsSound d Wrong Dead asks own
      → IsSound d Wrong Dead asks (Grants claim ∷ own)
  granted_on asks claim own s =
      quiet_on asks (Grants claim) own (record { wrong = λ p o. refl; marks = λ o. refl })
      (record { opened = λ o. refl; verified = λ p o. refl; told = λ o. refl }) s

  pub landed_on : (asks : Bool) (id mirror : ℕ) (run : Run) (own : List OwnEvent) → IsSound d Wrong Dead asks own
      → IsSound d Wrong Dead asks (Lands id mirror run ∷ own)
  landed_on asks id mirror run own s =
      quiet_on asks (Lands id mirror run) own (record { wrong = λ p o. refl; marks = λ o. refl })
      (record { opened = λ o. refl; verified = λ p o. refl; told = λ o. refl }) s

  pub saved_on : (asks : Bool) (now : Moment) (own : List OwnEvent) → IsSound d Wrong Dead asks own
      → IsSound d Wrong Dead asks (Saves now ∷ own)
  saved_on asks now own s =
      quiet_on asks (Saves now) own (record { wrong = λ p o. refl; marks = λ o. refl })
      (record { opened = λ o. refl; verified = λ p o. refl; told = λ o. refl }) s

  pub checked_on : (asks right : Bool) (own : List OwnEvent) → IsSound d Wrong Dead asks own
      → IsSound d Wrong Dead asks (Checks right ∷ own)
  checked_on asks right own s =
      quiet_on asks (Checks right) own (record { wrong = λ p o. refl; marks = λ o. refl })
      (record { opened = λ o. refl; verified = λ p o. refl; told = λ o. refl }) s

  pub sized_on : (id total : ℕ) (own : List OwnEvent) → is_opened own ≡ false → IsSound d Wrong Dead true own
      → IsSound d Wrong Dead true (Sizes id total ∷ own)
  sized_on id total own unopened s =
      harmless_on true true (Sizes id total) own (record { wrong = λ p o. refl; marks = λ o. refl })
      (λ opened all. true_not_false (is_opened own) opened unopened) s

  pub opened_on : (verified blocks : List Bool) (now : Moment) (own : List OwnEvent) → IsSound d Wrong Dead true own
      → IsSound d Wrong Dead false (Opens verified blocks now ∷ own)
  opened_on verified blocks now own s =
      harmless_on true false (Opens verified blocks now) own (record { wrong = λ p o. refl; marks = λ o. refl }) tt s

  not_wrong : (q p : ℕ) (own : List OwnEvent) (t : Bool) → ((t && false) || is_uncleared p own) ≡ is_uncleared p own
  not_wrong q p own true = refl
  not_wrong q p own false = refl

  pub right_on : (q : ℕ) (giver : Giver) (own : List OwnEvent) → IsSound d Wrong Dead false own
      → IsSound d Wrong Dead false (Settles q true giver ∷ own)
  right_on q giver own s =
      harmless_on false false (Settles q true giver) own
      (record { wrong = λ p o. not_wrong q p o (q == p); marks = λ o. refl }) tt s

  pub asks_less : (own : List OwnEvent) → IsSound d Wrong Dead true own → IsSound d Wrong Dead false own
  asks_less own s = record { cleared = s.cleared; lively = s.lively; unfinished = tt }

-- ---- a piece is found wrong, marked or cleared

module _ (d : Download) (q : ℕ) where
  still_cleared : (p : ℕ) (own : List OwnEvent) → (p ≡ q → ⊥)
      → ((q == p) && true || is_uncleared p own) ≡ is_uncleared p own
  still_cleared p own other =
      ap (λ (t : Bool). t && true || is_uncleared p own) (ne_eqb q p (λ e. other (sym e)))

  wrong_lively : (own : List OwnEvent) (giver : Giver) → IsSound d NoPiece NoPiece false own → HasTries d → (p : ℕ)
      → (ThePiece q p → ⊥)
      → IsDead (mirrors_by d.subject) (tries_in d) (blames_in (Settles q false giver ∷ own)) p → ⊥
  wrong_lively own Nobody s tries p other dead = s.lively tries p (λ none. none) dead
  wrong_lively own Mixed s tries p other dead = s.lively tries p (λ none. none) dead
  wrong_lively own (One mirror) s tries p other dead =
      s.lively tries p (λ none. none)
      (other_dead (mirrors_by d.subject) (tries_in d) (record { mirror = mirror; piece = q; mark = checksum_mark })
      (blames_in own) p (λ e. other (sym e)) dead)

  pub wrong_on : (giver : Giver) (own : List OwnEvent) → IsSound d NoPiece NoPiece false own
      → IsSound d (ThePiece q) (ThePiece q) false (Settles q false giver ∷ own)
  wrong_on giver own s = record {
    cleared = λ p other. still_cleared p own other ∙ s.cleared p (λ none. none);
    lively = wrong_lively own giver s;
    unfinished = tt;
  }

  cleared_now : (Wrong : ℕ → Type 0) (own : List OwnEvent) → ((p : ℕ) → (Wrong p → ⊥) → is_uncleared p own ≡ false)
      → ((p : ℕ) → Wrong p → p ≡ q) → (p : ℕ) → (p ≡ q → is_uncleared p (Clears q ∷ own) ≡ false)
      → is_uncleared p (Clears q ∷ own) ≡ false
  cleared_now Wrong own was only p here =
      ⊎_elim (λ (e : q ≡ p). here (sym e))
      (λ (other : q ≢ p).
      ap (λ (t : Bool). list_any (finds_wrong p) (cond t [] (Clears q ∷ since (clears_piece p) own)))
      (ne_eqb q p other) ∙ was p (λ wrong. other (sym (only p wrong))))
      (cases_eq q p)

  gone_now : (p : ℕ) (own : List OwnEvent) → p ≡ q → is_uncleared p (Clears q ∷ own) ≡ false
  gone_now p own e =
      ap (λ (t : Bool). list_any (finds_wrong p) (cond t [] (Clears q ∷ since (clears_piece p) own)))
      (eq-eqb q p (sym e))

  pub cleared_on : (Wrong Dead : ℕ → Type 0) (asks : Bool) (own : List OwnEvent) → ((p : ℕ) → Wrong p → p ≡ q)
      → IsSound d Wrong Dead asks own → IsSound d NoPiece Dead asks (Clears q ∷ own)
  cleared_on Wrong Dead asks own only s = record {
    cleared = λ p none. cleared_now Wrong own s.cleared only p (gone_now p own);
    lively = s.lively;
    unfinished = unfinished_on d asks (Clears q) own
        (record { opened = λ o. refl; verified = λ p o. refl; told = λ o. refl }) s.unfinished;
  }

  pub lost_on : (id mirror : ℕ) (mark : Mark) (own : List OwnEvent) → IsSound d NoPiece NoPiece true own
      → IsSound d NoPiece (ThePiece q) true (Loses id mirror q mark ∷ own)
  lost_on id mirror mark own s = record {
    cleared = s.cleared;
    lively = λ tries p other dead. s.lively tries p (λ none. none)
        (other_dead (mirrors_by d.subject) (tries_in d) (record { mirror = mirror; piece = q; mark = mark })
        (blames_in own) p (λ e. other (sym e)) dead);
    unfinished = unfinished_on d true (Loses id mirror q mark) own
        (record { opened = λ o. refl; verified = λ p o. refl; told = λ o. refl }) s.unfinished;
  }

  -- the piece that might be dead isn't
  pub lively_again : (Wrong : ℕ → Type 0) (asks : Bool) (own : List OwnEvent)
      → (HasTries d → IsDead (mirrors_by d.subject) (tries_in d) (blames_in own) q → ⊥)
      → IsSound d Wrong (ThePiece q) asks own → IsSound d Wrong NoPiece asks own
  lively_again Wrong asks own alive s = record {
    cleared = s.cleared;
    lively = λ tries p none dead.
        ⊎_elim
        (λ (e : p ≡ q). alive tries
        (subst (λ (n : ℕ). IsDead (mirrors_by d.subject) (tries_in d) (blames_in own) n) e dead))
        (λ (other : p ≢ q). s.lively tries p other dead) (cases_eq p q);
    unfinished = s.unfinished;
  }
