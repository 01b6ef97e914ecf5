-- An opening as a whole: what was looked up, and then what was written.
use Rattle.std.proofs.Common.{◌≡◌, inr, ⊎_elim, ◌∙◌, ℕ, Bool, true, false, ◌&&◌, not, List, Option, Some, None, sym, subst, refl, ap, arith}
use Rattle.std.specs.Prelude.{IsSome, is_some, slice_get}
use Rattle.std.proofs.lemmas.Bool.{false≢true}
use Rattle.std.proofs.lemmas.Option.{slice_get_within}
use Rattle.dl_disk.specs.Files.{Files, IsSame}
use Rattle.dl_disk.specs.Passes.{since_split}
use Rattle.dl_disk.specs.State.{DiskState}
use Rattle.dl_kinds.specs.Plan.{piece_of}
use Rattle.payload_files.specs.Payload.{HasFiles}
use Rattle.control_file.specs.declared.control.Control.{Control}
use Rattle.control_file.specs.declared.want.Want.{Want}
use Rattle.control_file.specs.declared.want.Opened.{Opened}
use Rattle.resume_core.specs.Found.{Found, Absent, found}
use Rattle.resume_core.specs.Openings.{KeepsBesides, KeepsSound, KeepsGiven, KeepsPieces, GivesMoreOrOpened, HasControl, LacksControl, MatchesOpened, MatchesPiece, OpensJust, LooksPast, is_compared}
use Rattle.resume_core.specs.Resume.{Sound, ResumesPiece, ResumesBlock, PieceResumed, BlockResumed}
use Rattle.resume_core.specs.Rows.{IsSurvey, IsOurControl, StoodOrWhole, hashes}
use Rattle.resume_core.specs.States.{KeepsFor}
use Rattle.resume_core.specs.Steps.{SameBesides}
use Rattle.control_file.specs.Wants.{IsWant, IsListedWant}
use Rattle.resume_core.specs.Wants.{control_name, files_in}
use Rattle.resume_core.specs.declared.refusing.OpenErr.{OpenErr}
use Rattle.resume_core.specs.declared.surveying.Survey.{Survey}
use Rattle.resume_core.proofs.Fitted.{files_whole}
use Rattle.resume_core.proofs.Openings.{besides_same, besides_on, sound_same_step, sound_on, given_same_step, matches_same, given_after}
use Rattle.resume_core.proofs.OverWhole.{for_same, opens_for, same_for}
use Rattle.resume_core.proofs.Past.{past_on, past_fewer}

-- ---- what was looked up

abbrev pub NoFile : List ℕ → Type 0
NoFile name = ⊥

pub looked : (passed : List ℕ → Type 0) (a b : DiskState) → LooksPast passed a b → LooksPast NoFile a b
looked passed a b looks = past_fewer passed NoFile a b (λ name none. absurd none) looks

pub looked_both : (one two : List ℕ → Type 0) (a b c : DiskState) → LooksPast one a b → LooksPast two b c
    → LooksPast NoFile a c
looked_both one two a b c first second = past_on NoFile a b c (looked one a b first) (looked two b c second)

module _ (want : Want) (a b : DiskState) (looks : LooksPast NoFile a b) where
  pub looked_besides : KeepsBesides want a b
  looked_besides = besides_same want a b looks.stays.seen looks.passes

  pub looked_sound : KeepsSound want a b
  looked_sound = sound_same_step want a b looks.stays.seen looks.passes

  pub looked_given : KeepsGiven want a b
  looked_given = given_same_step want a b looks.stays.seen looks.passes

  pub looked_for : KeepsFor want a b
  looked_for = for_same want a b looks.stays.seen looks.passes

-- nothing is opened that is refused
pub no_reason : {P : Type 0} (reason : Option OpenErr) → IsSome reason → reason ≡ None → P
no_reason None some none = absurd (false≢true some)
no_reason (Some err) some none = absurd cc

pub given_pieces : (want : Want) (a b : DiskState) → KeepsGiven want a b → KeepsPieces want a b
given_pieces want a b given image left =
    let most = given image left in record { before = most.before; left = most.left; pieces = most.pieces }

pub opens_same : (want : Want) (compared : Bool) (x y : Files) (opened : Opened) → IsSame x y
    → OpensJust compared want x opened → OpensJust compared want y opened
opens_same want compared x y opened same = opens_for want x y (same_for want x y same) compared opened

-- ---- the control file that stood

none_is_some : {P : Type 0} → IsSome {T = List ℕ} None → P
none_is_some some = absurd cc

usable_some : (want : Want) (control : Option Control) (file : Option (List ℕ)) → IsOurControl want control file →
    IsSome file
    → IsSome control
usable_some want (Some control) file usable some = refl
usable_some want None file usable some = none_is_some (subst (λ (o : Option (List ℕ)). IsSome o) usable some)

pub survey_stood : (want : Want) (survey : Survey) (seen : Files) → IsSurvey want survey seen → HasControl want seen
    → IsSome survey.control
survey_stood want survey seen surveyed stood = usable_some want survey.control
    (seen (control_name want)) surveyed.control stood

pub survey_whole : (want : Want) (survey : Survey) (seen : Files) → IsSurvey want survey seen
    → HasFiles want.dir want.layout seen → StoodOrWhole want survey
survey_whole want survey seen surveyed has = inr (surveyed.lens ∙ files_whole want seen has)

not_hashed : (control : Option Control) (listed : Bool) → IsSome control → (not (is_some control) && listed) ≡ false
not_hashed (Some control) listed some = refl
not_hashed None listed some = absurd (false≢true some)

pub hashes_none : (want : Want) (control : Option Control) (compared : Bool) → IsSome control → compared ≡ false
    → hashes want control compared ≡ false
hashes_none want control true some is = absurd (false≢true (sym is))
hashes_none want control false some is = not_hashed control (is_some want.info_hash) some

-- ---- what is opened is right

second_true : (a b : Bool) → (a && b) ≡ true → b ≡ true
second_true true b is = is
second_true false b is = absurd (false≢true is)

pub compared_listed : (want : Want) (check : Bool) → is_compared want check ≡ true → IsListedWant want
compared_listed want check is = second_true check (is_some want.info_hash) is

module _ (want : Want) (seen : Files) (opened : Opened) where
  pub compared_matches : (compared : Bool) → compared ≡ true → OpensJust compared want seen opened
      → MatchesOpened want opened seen
  compared_matches false is opens = absurd (false≢true is)
  compared_matches true is opens = λ listed piece set.
      let matches = (opens.pieces piece).0 set in (matches.reaches, matches.digest)

  pub sound_matches : (compared : Bool) → OpensJust compared want seen opened → Sound want seen
      → MatchesOpened want opened seen
  sound_matches true opens sound = compared_matches true refl opens
  sound_matches false opens sound = λ listed piece set.
      let gives = (opens.pieces piece).0 set in (gives.0, sound.right listed piece gives)

  -- ---- nothing is lost that the disk's own files give

  abbrev pub Covers : Type 0
  Covers = ((piece : ℕ) → ResumesPiece want seen piece → slice_get opened.verified piece ≡ Some true)
      × ((block : ℕ) → ResumesBlock want seen block → slice_get opened.blocks block ≡ Some true)

  pub covers : (compared : Bool) → compared ≡ false → OpensJust compared want seen opened → Covers
  covers true is opens = absurd (false≢true (sym is))
  covers false is opens = (λ piece gives. (opens.pieces piece).1 gives, λ block gives. (opens.blocks block).1 gives)

  matching_piece : LacksControl want seen → (piece : ℕ) → ResumesPiece want seen piece → MatchesPiece want
      (files_in want seen) piece
  matching_piece lacks piece gives =
      let given : PieceResumed want Absent (files_in want seen) piece =
      subst (λ (f : Found). PieceResumed want f (files_in want seen) piece) (ap (found want) lacks) gives in
      ⊎_elim
      (λ lists. absurd lists)
      (λ hashed. record { numbered = hashed.1; reaches = given.0; digest = hashed.2 }) given.1

  pub covers_absent : LacksControl want seen → (compared : Bool) → OpensJust compared want seen opened → Covers
  covers_absent lacks false opens = covers false refl opens
  covers_absent lacks true opens = (
    λ piece gives. (opens.pieces piece).1 (matching_piece lacks piece gives),
    λ block gives.
        let given : BlockResumed want Absent (files_in want seen) block =
        subst (λ (f : Found). BlockResumed want f (files_in want seen) block) (ap (found want) lacks) gives in
        ⊎_elim
        (λ of_piece. (opens.blocks block).1 (
          of_piece.0,
          matching_piece lacks (piece_of want.plan.piece_len block)
              (subst (λ (f : Found). PieceResumed want f (files_in want seen) (piece_of want.plan.piece_len block))
              (sym (ap (found want) lacks)) of_piece.1),
        ))
        (λ in_flight. absurd in_flight.1)
        given,
  )

  -- with soundness no piece is lost where they are compared
  pub covers_pieces : IsWant want → (compared : Bool) → (compared ≡ true → IsListedWant want)
      → OpensJust compared want seen opened
      → Sound want seen → (piece : ℕ) → ResumesPiece want seen piece → slice_get opened.verified piece ≡ Some true
  covers_pieces is false listed opens sound piece gives = (opens.pieces piece).1 gives
  covers_pieces is true listed opens sound piece gives =
      let digest = sound.right (listed refl) piece gives in
      (opens.pieces piece).1 (record {
        numbered = omega (arith, slice_get_within want.digests piece _ digest, is.digests (listed refl));
        reaches = gives.0;
        digest = digest;
      })

-- ---- the whole

module _ (want : Want) (a b c : DiskState) (looks : LooksPast NoFile a b) (after : KeepsBesides want b c) where
  pub whole_besides : KeepsBesides want a c
  whole_besides = besides_on want a b c (looked_besides want a b looks) after

  pub whole_sound : (opened : Opened) → MatchesOpened want opened a.seen
      → (MatchesOpened want opened b.seen → KeepsSound want b c) → KeepsSound want a c
  whole_sound opened right keeps =
      sound_on want a b c (looked_besides want a b looks) after (looked_sound want a b looks)
      (keeps (matches_same want opened a.seen b.seen looks.stays.seen right))

  module _ (opened : Opened) (writes : GivesMoreOrOpened want opened b c) where
    pub whole_given : Covers want a.seen opened → KeepsGiven want a c
    whole_given covered image left = ⊎_elim
        (λ early. looked_given want a b looks image early)
        (λ late. ⊎_elim
        (λ more. given_after want a b looks.passes.later (looked_given want a b looks) image more)
        (λ opens. record {
          before = a.seen;
          left = a.own_image;
          pieces = λ piece gives. (opens.pieces piece).1 (covered.0 piece gives);
          blocks = λ block gives. (opens.blocks block).1 (covered.1 block gives);
        })
        (writes image late))
        (since_split (SameBesides want) a.moment b c after.passes image left)

    pub whole_pieces : ((piece : ℕ) → ResumesPiece want a.seen piece → slice_get opened.verified piece ≡ Some true)
        → KeepsPieces want a c
    whole_pieces covered image left = ⊎_elim
        (λ early. let most = looked_given want a b looks image early in
        record { before = most.before; left = most.left; pieces = most.pieces })
        (λ late. ⊎_elim
        (λ more. let most = given_after want a b looks.passes.later (looked_given want a b looks) image more in
        record { before = most.before; left = most.left; pieces = most.pieces })
        (λ opens. record {
          before = a.seen;
          left = a.own_image;
          pieces = λ piece gives. (opens.pieces piece).1 (covered piece gives);
        })
        (writes image late))
        (since_split (SameBesides want) a.moment b c after.passes image left)
