-- The list of places that is sorted by piece.
use Rattle.std.specs.Prelude.{◌≡◌, ℕ, ◌==◌, ◌&&◌, nat_le, List, [], ◌∷◌, Bool, length, filter}
use Rattle.std.specs.List.Sorted.{IsNonDecreasingBy}
use Rattle.mirror_blame.specs.declared.blame.Blame.{Blame}
use Rattle.mirror_blame.specs.declared.places.Place.{Place}

-- a place of this piece
abbrev pub stands_at : ℕ → Place → Bool
stands_at piece place = place.piece == piece

-- a place of one of these pieces
abbrev pub is_within : ℕ → ℕ → Place → Bool
is_within first last place = nat_le first place.piece && nat_le place.piece last

-- a place of this mirror and piece
abbrev pub is_place_of : ℕ → ℕ → Place → Bool
is_place_of mirror piece place = place.mirror == mirror && place.piece == piece

-- the places of marks, the newest first
abbrev pub places_of : List Blame → List Place
places_of [] = []
places_of (blame ∷ earlier) =
    record { piece = blame.piece; mirror = blame.mirror; at = length earlier } ∷ places_of earlier

-- the places are in the order of their pieces, and those of one piece with the newest first
pub record ArePlaces (order : List Place) (marks : List Blame) : Type 0 where
  pub sorted : IsNonDecreasingBy (λ place. place.piece) order
  pub each : (piece : ℕ) → filter (stands_at piece) order ≡ filter (stands_at piece) (places_of marks)
