-- The rows with which a download is opened say what its files give.
use Rattle.std.proofs.Common.{◌≡◌, ◌↔◌, ◌⊎◌, inl, inr, ⊎_elim, ◌∙◌, ℕ, ◌+◌, ◌*◌, ◌<◌, ◌≤◌, Bool, true, false, ◌&&◌, not, List, length, get_or, slice_get, ◌++◌, [], ◌∷◌, replicate, take, Option, Some, None, sym, subst, refl, ap, arith}
use Rattle.std.specs.Prelude.{is_some, Contains, IfSome, if◌then◌else◌, ◌==◌}
use Rattle.std.proofs.lemmas.Bool.{eqb-true, false≢true}
use Rattle.std.proofs.lemmas.List.{length-replicate, take_more}
use Rattle.std.proofs.lemmas.List.Elements.{All-contains, Contains-append_left, Contains-push, Contains-push_cases}
use Rattle.std.proofs.lemmas.Nat.{div-add-mod'}
use Rattle.std.proofs.lemmas.Option.{slice_get_within, get_or_from_slice_get}
use Rattle.std.specs.Str.{bytes_eq}
use Rattle.dl_disk.specs.Files.{Files}
use Rattle.dl_kinds.specs.Plan.{pieces_of, blocks_of, blocks_of_piece, full_blocks, piece_of, place_of, piece_start, piece_end, block_start, block_end}
use Rattle.dl_kinds.proofs.Cuts.{blocks_within, number}
use Rattle.piece_table.specs.Progress.{IsStart, piece_part}
use Rattle.piece_table.proofs.Parts.{length-part}
use Rattle.control_file.specs.Spelling.{IsInFlight, IsReadableControl}
use Rattle.control_file.specs.declared.control.Control.{Control}
use Rattle.control_file.specs.declared.control.InFlight.{InFlight}
use Rattle.control_file.specs.declared.want.Want.{Want}
use Rattle.resume_core.specs.Found.{Found, Absent, Refused, Used, found, hash_bytes, is_control_of, judged, IsBlockInFlight, ListsInFlight}
use Rattle.resume_core.specs.Lens.{lens_in, PieceStands, BlockStands}
use Rattle.resume_core.specs.Openings.{MatchesPiece, OpensPiece, OpensBlock, OpensJust}
use Rattle.resume_core.specs.Refusals.{foreign}
use Rattle.resume_core.specs.Resume.{ReachesPiece, ReachesBlock, PieceResumed, ResumesPiece, ResumesBlock}
use Rattle.resume_core.specs.Rows.{IsRowWhere, IsBlockIn, IsBlockOfOne, BlockGiven, IsOurControl, IsControlOf, IsListedPiece, IsFlyingBlock, hashes, ListsNothing, IsSurvey}
use Rattle.resume_core.specs.Tables.{ListsJust}
use Rattle.control_file.specs.Wants.{IsWant}
use Rattle.resume_core.specs.Wants.{control_name, files_in}
use Rattle.resume_core.specs.declared.refusing.OpenErr.{OpenErr}
use Rattle.resume_core.specs.declared.refusing.OpenErr.TheVariants.{InfoHash, Length, PieceLength}
use Rattle.resume_core.specs.declared.surveying.Survey.{Survey}
use Rattle.resume_core.proofs.Places.{never, part_bit}
use Rattle.resume_core.proofs.Standing.{reach_stands}

-- ---- a control file of the want

all_none : (a b c : Bool) (x y z : OpenErr)
    → (if a then (if b then (if c then None else Some z) else Some y) else Some x) ≡ None → (a && b && c) ≡ true
all_none true true true x y z none = refl
all_none true true false x y z none = absurd cc
all_none true false c x y z none = absurd cc
all_none false b c x y z none = absurd cc

pub not_foreign : (want : Want) (control : Control) → foreign want control ≡ None → is_control_of want control ≡ true
not_foreign want control none =
    all_none (bytes_eq control.info_hash (hash_bytes want.info_hash)) (control.piece_len == want.plan.piece_len)
    (control.total == want.plan.total) InfoHash (PieceLength control.piece_len want.plan.piece_len)
    (Length control.total want.plan.total) none

last_two : (a b c : Bool) → (a && b && c) ≡ true → (b ≡ true) × (c ≡ true)
last_two true true true is = (refl, refl)
last_two true true false is = absurd cc
last_two true false c is = absurd cc
last_two false b c is = absurd cc

-- it is cut as the want is
pub same_plan : (want : Want) (control : Control) → foreign want control ≡ None
    → (control.piece_len ≡ want.plan.piece_len) × (control.total ≡ want.plan.total)
same_plan want control none =
    let tests = last_two (bytes_eq control.info_hash (hash_bytes want.info_hash))
    (control.piece_len == want.plan.piece_len)
    (control.total == want.plan.total) (not_foreign want control none) in
    (eqb-true control.piece_len want.plan.piece_len tests.0, eqb-true control.total want.plan.total tests.1)

judged_used : (want : Want) (control : Control) (test : Bool) → test ≡ true
    → (if test then Used control else Refused) ≡ Used control
judged_used want control true is = refl
judged_used want control false is = absurd cc

pub used_found : (want : Want) (control : Control) (file : Option (List ℕ)) → IsOurControl want (Some control) file
    → found want file ≡ Used control
used_found want control file usable =
    ap (found want) usable.1 ∙ ap (judged want) usable.2
    ∙ judged_used want control (is_control_of want control) (not_foreign want control usable.3)

pub absent_found : (want : Want) (file : Option (List ℕ)) → IsOurControl want None file → found want file ≡ Absent
absent_found want file none = ap (found want) none

-- ---- blocks of a piece

pub block_is : (len block piece place : ℕ) → piece_of len block ≡ piece → place_of len block ≡ place
    → block ≡ piece * full_blocks len + place
block_is len block piece place of at =
    sym (div-add-mod' block (full_blocks len))
    ∙ ap (λ (n : ℕ). n * full_blocks len + place_of len block) of
    ∙ ap (λ (n : ℕ). piece * full_blocks len + n) at

pub in_piece_below : (total len : ℕ) → 1 ≤ len → (block piece : ℕ) → piece_of len block ≡ piece
    → piece < pieces_of total len
    → place_of len block < blocks_of_piece total len piece → block < blocks_of total len
in_piece_below total len some block piece of below within =
    omega (
      arith,
      blocks_within total len piece some below,
      block_is len block piece (place_of len block) of refl,
      within,
    )

-- ---- the rows as a start

pub rows_start : (want : Want) (is : IsWant want) (verified blocks : List Bool) → length verified ≡ want.plan.pieces
    → length blocks ≡ blocks_of want.plan.total want.plan.piece_len
    → ((block : ℕ) → block < blocks_of want.plan.total want.plan.piece_len
    → slice_get verified (piece_of want.plan.piece_len block) ≡ Some true → slice_get blocks block ≡ Some true)
    → IsStart want.plan.total want.plan.piece_len verified blocks
rows_start want is verified blocks pieces count given = record {
  pieces = pieces ∙ is.pieces;
  blocks = count;
  full = λ piece set k d within.
      let total = want.plan.total in
      let len = want.plan.piece_len in
      let below : piece < pieces_of total len = omega (
        arith,
        slice_get_within verified piece true set,
        pieces,
        is.pieces,
      ) in
      let room = blocks_within total len piece is.plan.some below in
      let fits : piece * full_blocks len + blocks_of_piece total len piece ≤ length blocks = omega
      (arith, room, count) in
      let inside : k < blocks_of_piece total len piece =
      omega (arith, within, length-part blocks (piece * full_blocks len) (blocks_of_piece total len piece) fits) in
      let at = number total len piece k is.plan.some inside in
      let block : ℕ = piece * full_blocks len + k in
      get_or_from_slice_get (piece_part total len blocks piece) k true d
      (part_bit blocks (piece * full_blocks len) (blocks_of_piece total len piece) k inside fits
      ∙ given block (omega (arith, inside, room))
      (subst (λ (n : ℕ). slice_get verified n ≡ Some true) (sym at.of) set));
}

pub empty_start : (want : Want) (is : IsWant want) (blocks : ℕ) → blocks ≡ blocks_of want.plan.total want.plan.piece_len
    → IsStart want.plan.total want.plan.piece_len (replicate want.plan.pieces false) (replicate blocks false)
empty_start want is blocks count =
    rows_start want is (replicate want.plan.pieces false) (replicate blocks false)
    (length-replicate {A = Bool} want.plan.pieces false) (length-replicate {A = Bool} blocks false ∙ count)
    (λ block below set. absurd (never want.plan.pieces (piece_of want.plan.piece_len block) set))

pub lists_nothing : (want : Want) (pieces blocks : ℕ) (control : Control)
    → ListsJust want (replicate pieces false) (replicate blocks false) control → ListsNothing want control
lists_nothing want pieces blocks control lists = record {
  listing = lists.listing;
  pieces = λ piece listed. never pieces piece
      (subst (λ (row : List Bool). slice_get row piece ≡ Some true) lists.pieces listed);
  blocks = λ block listed. never blocks block ((lists.blocks block).0 listed);
}

-- ---- blocks in flight

module _ (control : Control) (total len : ℕ) (some : 1 ≤ len) (rules : IsReadableControl control)
    (of_total : control.total ≡ total) (of_len : control.piece_len ≡ len) where
  pub flight_rules : (piece : InFlight) → Contains control.flight piece
      → (piece.index < pieces_of total len) × (length piece.blocks ≡ blocks_of_piece total len piece.index)
  flight_rules piece contains =
      let of : IsInFlight control piece = All-contains
      (IsInFlight control) control.flight piece rules.fields.flight contains in (
        omega (
          arith,
          slice_get_within control.pieces piece.index false of.unverified,
          rules.fields.pieces,
          ap (λ (n : ℕ). pieces_of n control.piece_len) of_total,
          ap (λ (n : ℕ). pieces_of total n) of_len,
        ),
        of.bits ∙ ap (λ (n : ℕ). blocks_of_piece n control.piece_len piece.index) of_total
            ∙ ap (λ (n : ℕ). blocks_of_piece total n piece.index) of_len,
      )

  pub flight_below : (block : ℕ) → IsBlockInFlight control len block → block < blocks_of total len
  flight_below block in_flight =
      let of = flight_rules in_flight.piece in_flight.listed in
      in_piece_below total len some block in_flight.piece.index (sym in_flight.of) of.0
      (omega (arith, slice_get_within in_flight.piece.blocks (place_of len block) true in_flight.set, of.1))

  pub flying_of_one : (block : ℕ) → IsBlockOfOne control.flight len block → IsBlockInFlight control len block
  flying_of_one block one = record { piece = one.0; listed = one.1; of = sym one.2.0; set = one.2.1 }

  pub one_of_flying : (block : ℕ) → IsBlockInFlight control len block → IsBlockOfOne control.flight len block
  one_of_flying block in_flight = (in_flight.piece, in_flight.listed, (sym in_flight.of, in_flight.set))

-- one piece more
pub one_more : (flight : List InFlight) (k : ℕ) (piece : InFlight) (len block : ℕ) → k < length flight
    → piece ≡ get_or flight k piece
    → IsBlockOfOne (take (k + 1) flight) len block
    ↔ (IsBlockOfOne (take k flight) len block ⊎ IsBlockIn piece len block)
one_more flight k piece len block within is =
    let more : take (k + 1) flight ≡ take k flight ++ piece ∷ [] =
    take_more flight k piece within ∙ ap (λ (p : InFlight). take k flight ++ p ∷ []) (sym is) in (
      λ one. ⊎_elim
          (λ before. inl (one.0, before, one.2))
          (λ (last : piece ≡ one.0). inr (subst (λ (p : InFlight). IsBlockIn p len block) (sym last) one.2))
          (Contains-push_cases (take k flight) piece one.0
          (subst (λ (l : List InFlight). Contains l one.0) more one.1)),
      λ either. ⊎_elim
          (λ before. (
            before.0,
            subst (λ (l : List InFlight). Contains l before.0) (sym more)
                (Contains-append_left (take k flight) (piece ∷ []) before.0 before.1),
            before.2,
          ))
          (λ last. (
            piece,
            subst (λ (l : List InFlight). Contains l piece) (sym more)
                (Contains-push (take k flight) piece),
            last,
          ))
          either,
    )

-- ---- what is opened

pub piece_stands_by : (want : Want) (seen : Files) (lens : List (Option ℕ)) → lens ≡ lens_in want seen → (piece : ℕ)
    → PieceStands want lens piece ↔ ReachesPiece want (files_in want seen) piece
piece_stands_by want seen lens is piece =
    let same = reach_stands want (files_in want seen) (piece_start want.plan.piece_len piece)
    (piece_end want.plan.total want.plan.piece_len piece) in (
      λ stands. same.1 (subst (λ (l : List (Option ℕ)). PieceStands want l piece) is stands),
      λ reach. subst (λ (l : List (Option ℕ)). PieceStands want l piece) (sym is) (same.0 reach),
    )

module _ (want : Want) (is : IsWant want) (seen : Files) (survey : Survey) (surveyed : IsSurvey want survey seen) where
  piece_stands_is : (piece : ℕ) → PieceStands want survey.lens.items piece
      ↔ ReachesPiece want (files_in want seen) piece
  piece_stands_is = piece_stands_by want seen survey.lens.items surveyed.lens

  block_stands_is : (block : ℕ) → BlockStands want survey.lens.items block
      ↔ ReachesBlock want (files_in want seen) block
  block_stands_is block =
      let same = reach_stands want (files_in want seen) (block_start want.plan.piece_len block)
      (block_end want.plan.total want.plan.piece_len block) in (
        λ stands. same.1 (subst (λ (lens : List (Option ℕ)). BlockStands want lens block) surveyed.lens stands),
        λ reach. subst (λ (lens : List (Option ℕ)). BlockStands want lens block) (sym surveyed.lens) (same.0 reach),
      )

  -- where pieces are compared with their digests
  hashed_absent : (control : Option Control) → IsOurControl want control (seen (control_name want))
      → (not (is_some control) && is_some want.info_hash) ≡ true → (piece : ℕ)
      → MatchesPiece want (files_in want seen) piece ↔ ResumesPiece want seen piece
  hashed_absent (Some control) usable test piece = absurd (false≢true test)
  hashed_absent None usable test piece =
      let absent = sym (absent_found want (seen (control_name want)) usable) in (
        λ matches. subst (λ (f : Found). PieceResumed want f (files_in want seen) piece) absent
            (matches.reaches, inr (test, matches.numbered, matches.digest)),
        λ gives.
            let given : PieceResumed want Absent (files_in want seen) piece =
            subst (λ (f : Found). PieceResumed want f (files_in want seen) piece) (sym absent) gives in
            ⊎_elim
            (λ lists. absurd lists)
            (λ hashed. record { numbered = hashed.1; reaches = given.0; digest = hashed.2 }) given.1,
      )

  pub opens_hashed : (compared : Bool) → hashes want survey.control compared ≡ true → (piece : ℕ)
      → MatchesPiece want (files_in want seen) piece ↔ OpensPiece compared want seen piece
  opens_hashed true test piece = (λ matches. matches, λ matches. matches)
  opens_hashed false test piece = hashed_absent survey.control surveyed.control test piece

  many : (control : Control) → IsControlOf want control → length control.pieces ≡ want.plan.pieces
  many control of =
      let plan = same_plan want control of.same in
      of.rules.fields.pieces
      ∙ ap (λ (n : ℕ). pieces_of n control.piece_len) plan.1
      ∙ ap (λ (n : ℕ). pieces_of want.plan.total n) plan.0
      ∙ sym is.pieces

  -- where they are given by what a control file lists
  listed_given : (control : Option Control) → IsOurControl want control (seen (control_name want))
      → IfSome control (IsControlOf want)
      → (not (is_some control) && is_some want.info_hash) ≡ false → (piece : ℕ)
      → ((piece < want.plan.pieces) × IsListedPiece want survey.lens.items control piece) ↔ ResumesPiece want seen piece
  listed_given None usable of test piece =
      let absent = sym (absent_found want (seen (control_name want)) usable) in (
        λ lists. absurd lists.1,
        λ gives.
            let given : PieceResumed want Absent (files_in want seen) piece =
            subst (λ (f : Found). PieceResumed want f (files_in want seen) piece) (sym absent) gives in
            ⊎_elim (λ lists. absurd lists) (λ hashed. absurd (false≢true (sym test ∙ hashed.0))) given.1,
      )
  listed_given (Some control) usable of test piece =
      let used = sym (used_found want control (seen (control_name want)) usable) in (
        λ lists. subst (λ (f : Found). PieceResumed want f (files_in want seen) piece) used
            ((piece_stands_is piece).0 lists.1.1, inl lists.1.0),
        λ gives.
            let given : PieceResumed want (Used control) (files_in want seen) piece =
            subst (λ (f : Found). PieceResumed want f (files_in want seen) piece) (sym used) gives in
            let listed : slice_get control.pieces piece ≡ Some true = ⊎_elim (λ lists. lists)
            (λ hashed. absurd hashed) given.1 in (
              omega (arith, slice_get_within control.pieces piece true listed, many control of),
              (listed, (piece_stands_is piece).1 given.0),
            ),
      )

  pub opens_listed : (compared : Bool) → IfSome survey.control (IsControlOf want)
      → hashes want survey.control compared ≡ false → (piece : ℕ)
      → ((piece < want.plan.pieces) × IsListedPiece want survey.lens.items survey.control piece)
      ↔ OpensPiece compared want seen piece
  opens_listed true of test piece = absurd (false≢true (sym test))
  opens_listed false of test piece = listed_given survey.control surveyed.control of test piece

  -- blocks
  flying_none : (control : Option Control) (block : ℕ) → IsFlyingBlock want control true block → ⊥
  flying_none None block flies = flies
  flying_none (Some control) block flies = flies

  module _ (verified flying blocks : List Bool) where
    resumed_block : (control : Option Control) → IsOurControl want control (seen (control_name want))
        → IfSome control (IsControlOf want)
        → ((piece : ℕ) → (slice_get verified piece ≡ Some true) ↔ ResumesPiece want seen piece)
        → IsRowWhere (blocks_of want.plan.total want.plan.piece_len) (IsFlyingBlock want control false) flying
        → (block : ℕ)
        → ((block < blocks_of want.plan.total want.plan.piece_len)
        × BlockGiven want survey.lens.items verified flying block)
        ↔ ResumesBlock want seen block
    resumed_block None usable of pieces flies block =
        let absent = sym (absent_found want (seen (control_name want)) usable) in (
          λ given. ⊎_elim
              (λ set. inl (given.0, (pieces (piece_of want.plan.piece_len block)).0 set))
              (λ lone. absurd (((flies.exact block).0 lone.0).1))
              given.1,
          λ gives. ⊎_elim
              (λ of_piece. (of_piece.0, inl ((pieces (piece_of want.plan.piece_len block)).1 of_piece.1)))
              (λ in_flight. absurd
              (subst (λ (f : Found). ListsInFlight want.plan.piece_len f block) (sym absent) in_flight.1)) gives,
        )
    resumed_block (Some control) usable of pieces flies block =
        let used = sym (used_found want control (seen (control_name want)) usable) in
        let plan = same_plan want control of.same in (
          λ given. ⊎_elim
              (λ set. inl (given.0, (pieces (piece_of want.plan.piece_len block)).0 set))
              (λ lone. inr (
                (block_stands_is block).0 lone.1,
                subst (λ (f : Found). ListsInFlight want.plan.piece_len f block) used ((flies.exact block).0 lone.0).1,
              ))
              given.1,
          λ gives. ⊎_elim
              (λ of_piece. (of_piece.0, inl ((pieces (piece_of want.plan.piece_len block)).1 of_piece.1)))
              (λ in_flight.
              let lists : IsBlockInFlight control want.plan.piece_len block =
              subst (λ (f : Found). ListsInFlight want.plan.piece_len f block) (sym used) in_flight.1 in
              let below = flight_below control want.plan.total want.plan.piece_len is.plan.some of.rules plan.1 plan.0
              block lists in
              (below, inr ((flies.exact block).1 (below, lists), (block_stands_is block).1 in_flight.0))) gives,
        )

    opens_block : (compared : Bool) → IfSome survey.control (IsControlOf want)
        → ((piece : ℕ) → (slice_get verified piece ≡ Some true) ↔ OpensPiece compared want seen piece)
        → IsRowWhere (blocks_of want.plan.total want.plan.piece_len) (IsFlyingBlock want survey.control compared) flying
        → (block : ℕ)
        → ((block < blocks_of want.plan.total want.plan.piece_len)
        × BlockGiven want survey.lens.items verified flying block)
        ↔ OpensBlock compared want seen block
    opens_block false of pieces flies block = resumed_block survey.control surveyed.control of pieces flies block
    opens_block true of pieces flies block = (
      λ given. ⊎_elim
          (λ set. (given.0, (pieces (piece_of want.plan.piece_len block)).0 set))
          (λ lone. absurd (flying_none survey.control block ((flies.exact block).0 lone.0).1)) given.1,
      λ opens. (opens.0, inl ((pieces (piece_of want.plan.piece_len block)).1 opens.1)),
    )

    pub opens_just : (compared : Bool) → IfSome survey.control (IsControlOf want)
        → ((piece : ℕ) → (slice_get verified piece ≡ Some true) ↔ OpensPiece compared want seen piece)
        → IsRowWhere (blocks_of want.plan.total want.plan.piece_len) (IsFlyingBlock want survey.control compared) flying
        → IsRowWhere (blocks_of want.plan.total want.plan.piece_len)
        (BlockGiven want survey.lens.items verified flying) blocks
        → OpensJust compared want seen (record { verified = verified; blocks = blocks })
    opens_just compared of pieces flies given = record {
      pieces = pieces;
      blocks = λ block. (
        λ set. (opens_block compared of pieces flies block).0 ((given.exact block).0 set),
        λ opens. (given.exact block).1 ((opens_block compared of pieces flies block).1 opens),
      );
    }
