-- The newest mark of a piece.
use Rattle.std.proofs.Common.{◌≡◌, ℕ, ◌<◌, List, [], ◌∷◌, ◌++◌, true, false, cond, length, get_or, refl, sym, ◌∙◌, ap, subst, arith}
use Rattle.std.specs.Prelude.{Option, Some, None, MatchOption, find, filter, slice_get, reverse, ◌==◌}
use Rattle.std.proofs.lemmas.List.{reverse-append, length-reverse}
use Rattle.std.proofs.Math.Seq.{get_or-append_seam}
use Rattle.std.proofs.Math.ListN.{get_or-append}
use Rattle.mirror_blame.specs.declared.blame.Blame.{Blame}
use Rattle.mirror_blame.specs.declared.places.Place.{Place}
use Rattle.mirror_blame.specs.Marks.{counted, last_mark_of}
use Rattle.mirror_blame.specs.Places.{stands_at, is_within, places_of, ArePlaces}
use Rattle.mirror_blame.proofs.ListLemmas.{filter_alike}
use Rattle.mirror_blame.proofs.Dead.{one_piece}

-- the mark that a place tells of is the first of the piece
pub record IsNewest (piece : ℕ) (marks : List Blame) (place : Place) : Type 0 where
  pub within : place.at < length marks
  pub is : (d : Blame) → find (λ blame. blame.piece == piece) marks ≡ Some (get_or (reverse marks) place.at d)

abbrev pub Finds : ℕ → List Blame → Option Place → Type 0
Finds piece marks found = MatchOption found (find (λ blame. blame.piece == piece) marks ≡ None) (IsNewest piece marks)

reverse-cons : (blame : Blame) (earlier : List Blame) → reverse (blame ∷ earlier) ≡ reverse earlier ++ blame ∷ []
reverse-cons blame earlier = reverse-append (blame ∷ []) earlier

here : (piece : ℕ) (blame : Blame) (earlier : List Blame) → blame.piece == piece ≡ true
    → IsNewest piece (blame ∷ earlier) (record { piece = blame.piece; mirror = blame.mirror; at = length earlier })
here piece blame earlier own = record {
  within = omega arith;
  is = λ d. rw own (ap Some (sym (ap (λ (l : List Blame). get_or l (length earlier) d) (reverse-cons blame earlier)
      ∙ ap (λ (n : ℕ). get_or (reverse earlier ++ blame ∷ []) n d) (sym (length-reverse earlier)) ∙ get_or-append_seam (reverse earlier) blame [] d)));
}

later : (piece : ℕ) (blame : Blame) (earlier : List Blame) (found : Option Place) → blame.piece == piece ≡ false → Finds piece earlier found → Finds piece (blame ∷ earlier) found
later piece blame earlier None other none = rw other none
later piece blame earlier (Some place) other newest = record {
  within = let w = newest.within in omega arith;
  is = λ d. rw other (newest.is d ∙ ap Some (sym (ap (λ (l : List Blame). get_or l place.at d) (reverse-cons blame earlier)
      ∙ get_or-append (reverse earlier) (blame ∷ []) d place.at (let w = newest.within in omega (arith, length-reverse earlier)))));
}

pub newest_is : (piece : ℕ) (marks : List Blame) → Finds piece marks (slice_get (filter (stands_at piece) (places_of marks)) 0)
newest_is piece [] = refl
newest_is piece (blame ∷ earlier) =
    elim (blame.piece == piece) as (λ b. blame.piece == piece ≡ b → Finds piece (blame ∷ earlier) (slice_get
    (cond b (record { piece = blame.piece; mirror = blame.mirror; at = length earlier } ∷ filter (stands_at piece) (places_of earlier)) (filter (stands_at piece) (places_of earlier))) 0)) [
      | true ↦ λ own. here piece blame earlier own
      | false ↦ λ other. later piece blame earlier (slice_get (filter (stands_at piece) (places_of earlier)) 0) other (newest_is piece earlier)
    ] refl

-- what stands first in the run of the piece
pub first_is : (piece : ℕ) (log : List Blame) (order run : List Place) (found : Option Place) → ArePlaces order (reverse log)
    → run ≡ filter (is_within piece piece) order → found ≡ slice_get run 0 → Finds piece (reverse log) found
first_is piece log order run found are is read =
    let same : run ≡ filter (stands_at piece) (places_of (reverse log)) = is ∙ filter_alike (is_within piece piece) (stands_at piece) (one_piece piece) order ∙ are.each piece in
    subst (Finds piece (reverse log)) (sym (read ∙ ap (λ (l : List Place). slice_get l 0) same)) (newest_is piece (reverse log))

reverse-reverse : (log : List Blame) → reverse (reverse log) ≡ log
reverse-reverse [] = refl
reverse-reverse (blame ∷ later) = ap reverse (reverse-cons blame later) ∙ reverse-append (reverse later) (blame ∷ []) ∙ ap (λ l. blame ∷ l) (reverse-reverse later)

-- so there is no last mark, or it is in the log at that place
pub none_last : (max_tries piece : ℕ) (marks : List Blame) → counted max_tries marks ≡ marks → Finds piece marks None → last_mark_of max_tries marks piece ≡ None
none_last max_tries piece marks all none = rw (all, none) refl

pub newest_within : (piece : ℕ) (log : List Blame) (place : Place) → IsNewest piece (reverse log) place → place.at < length log
newest_within piece log place newest = let w = newest.within in omega (arith, length-reverse log)

pub some_last : (max_tries piece : ℕ) (log : List Blame) (place : Place) (d : Blame) → counted max_tries (reverse log) ≡ reverse log → IsNewest piece (reverse log) place
    → last_mark_of max_tries (reverse log) piece ≡ Some (get_or log place.at d).mark
some_last max_tries piece log place d all newest = rw (all, newest.is d, reverse-reverse log) refl
