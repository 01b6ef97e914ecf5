-- Lists of those who take part in a desk.
use Rattle.std.proofs.Common.{◌≡◌, ◌+◌, ◌<◌, ℕ, zero, suc, List, [], ◌∷◌, ◌++◌, Option, Some, length, map, refl, sym, ap, ◌∙◌, arith, append_assoc, slice_get, slice_index_or, length-append}
use Rattle.std.specs.Prelude.{reverse}
use Rattle.std.proofs.lemmas.List.{append-nil, reverse-append, reverse-reverse}
use Rattle.desk_participants.specs.Seats.{participant_of, participants_from}
use Rattle.desk_participants.specs.declared.participants.Participant.{Participant}

module _ {P X K Y : Type 0} where
  -- ---- seating

  from_last : (n : ℕ) (ps : List P) (ls : List (X × K)) (p : P) (l : X × K) → length ps ≡ length ls
      → participants_from {Y = Y} n (ps ++ p ∷ []) (ls ++ l ∷ [])
      ≡ participants_from n ps ls ++ participant_of (n + length ls) p l ∷ []
  from_last n [] [] p l same =
      let none : n ≡ n + 0 = omega arith in ap (λ (m : ℕ). participant_of m p l ∷ []) none
  from_last n [] (y ∷ ls) p l same = absurd (omega (arith, same))
  from_last n (x ∷ ps) [] p l same = absurd (omega (arith, same))
  from_last n (x ∷ ps) (y ∷ ls) p l same =
      let shift : n + 1 + length ls ≡ n + length (y ∷ ls) = omega arith in
      ap (λ (ws : List (Participant P X K Y)). participant_of n x y ∷ ws)
      (from_last (n + 1) ps ls p l (omega (arith, same))
      ∙ ap (λ (m : ℕ). participants_from (n + 1) ps ls ++ participant_of m p l ∷ []) shift)

  pub seated_more : (ps ps' : List P) (ls ls' : List (X × K)) (ws ws' : List (Participant P X K Y))
      (p : P) (l : X × K) → ps ≡ ps' ++ p ∷ [] → ls ≡ ls' ++ l ∷ [] → ws' ≡ ws ++ participant_of (length ls') p l ∷ []
      → length ps ≡ length ls
      → participants_from 0 ps' ls' ++ reverse ws' ≡ participants_from 0 ps ls ++ reverse ws
  seated_more ps ps' ls ls' ws ws' p l ps_are ls_are ws_are same =
      let w : Participant P X K Y = participant_of (length ls') p l in
      let one = ap length ps_are in
      let two = ap length ls_are in
      let a = length-append ps' (p ∷ []) in
      let b = length-append ls' (l ∷ []) in
      let less : length ps' ≡ length ls' = omega (arith, same, one, two, a, b) in
      let turned : reverse ws' ≡ w ∷ reverse ws = ap reverse ws_are ∙ reverse-append ws (w ∷ []) in
      let number : 0 + length ls' ≡ length ls' = omega arith in
      let last : participants_from 0 (ps' ++ p ∷ []) (ls' ++ l ∷ []) ≡ participants_from 0 ps' ls' ++ w ∷ [] =
      from_last 0 ps' ls' p l less
      ∙ ap (λ (m : ℕ). participants_from 0 ps' ls' ++ participant_of m p l ∷ []) number in
      ap (λ (xs : List (Participant P X K Y)). participants_from 0 ps' ls' ++ xs) turned
      ∙ (sym (append_assoc (participants_from 0 ps' ls') (w ∷ []) (reverse ws))
      ∙ ap (λ (xs : List (Participant P X K Y)). xs ++ reverse ws)
      (sym last
      ∙ (ap (λ (xs : List P). participants_from 0 xs (ls' ++ l ∷ [])) (sym ps_are)
      ∙ ap (λ (xs : List (X × K)). participants_from 0 ps xs) (sym ls_are))))

  pub all_seated : (ps : List P) (ls : List (X × K)) (ws all : List (Participant P X K Y)) → ps ≡ [] → ls ≡ []
      → participants_from 0 ps ls ++ reverse ws ≡ all → reverse ws ≡ all
  all_seated ps ls ws all no_passes no_links is =
      ap (λ (xs : List P). participants_from 0 xs ls ++ reverse ws) (sym no_passes) ∙ is

-- ---- giving back

module _ {X Y : Type 0} (f : X → Y) where
  map-append : (xs ys : List X) → map f (xs ++ ys) ≡ map f xs ++ map f ys
  map-append [] ys = refl
  map-append (x ∷ xs) ys = ap (λ (zs : List Y). f x ∷ zs) (map-append xs ys)

  -- the value of the next one is taken
  pub given_more : (ys : List Y) (xs xs' : List X) (x : X) (all : List Y) → xs ≡ xs' ++ x ∷ []
      → ys ++ map f (reverse xs) ≡ all → (ys ++ f x ∷ []) ++ map f (reverse xs') ≡ all
  given_more ys xs xs' x all xs_are is =
      append_assoc ys (f x ∷ []) (map f (reverse xs'))
      ∙ (ap (λ (zs : List X). ys ++ map f zs) (sym (reverse-append xs' (x ∷ [])) ∙ ap reverse (sym xs_are)) ∙ is)

  pub given_end : (ys : List Y) (xs : List X) (all : List Y) → xs ≡ [] → ys ++ map f (reverse xs) ≡ all → ys ≡ all
  given_end ys xs all none is =
      sym (append-nil ys) ∙ (ap (λ (zs : List X). ys ++ map f (reverse zs)) (sym none) ∙ is)

  -- at the beginning, turned round
  pub given_start : (ys : List Y) (xs all : List X) → ys ≡ [] → xs ≡ reverse all → ys ++ map f (reverse xs) ≡ map f all
  given_start ys xs all none xs_are =
      ap (λ (zs : List Y). zs ++ map f (reverse xs)) none
      ∙ ap (map f) (ap reverse xs_are ∙ reverse-reverse all)

module _ {Y : Type 0} where
  abbrev pub opt_head : Option Y → List (Option Y) → Option Y
  opt_head y [] = y
  opt_head y (x ∷ xs) = x

  abbrev pub opt_tail : List (Option Y) → List (Option Y)
  opt_tail [] = []
  opt_tail (x ∷ xs) = xs

  -- one that stands among values is one
  pub some_there : (ys all : List Y) (o : Option Y) (rest : List (Option Y)) → map Some ys ++ o ∷ rest ≡ map Some all
      → (y : Y) × (o ≡ Some y)
  some_there [] [] o rest is = absurd (let n = ap length is in omega (arith, n))
  some_there [] (a ∷ all) o rest is = (a, ap (opt_head o) is)
  some_there (y ∷ ys) [] o rest is = absurd (let n = ap length is in omega (arith, n))
  some_there (y ∷ ys) (a ∷ all) o rest is = some_there ys all o rest (ap opt_tail is)

  -- .. so is one that stands among more values than others do
  pub some_behind : (ys xs all : List Y) (o : Option Y) (rest : List (Option Y))
      → map Some ys ++ o ∷ rest ≡ map Some xs ++ map Some all → (y : Y) × (o ≡ Some y)
  some_behind ys xs all o rest is = some_there ys (xs ++ all) o rest (is ∙ sym (map-append Some xs all))

-- ---- members

module _ {X : Type 0} where
  -- one at a place
  pub index_at : (xs : List X) (place : ℕ) (x : X) → slice_get xs place ≡ Some x
      → (place < length xs) × ((d : X) → slice_index_or xs place d ≡ x)
  index_at [] place x is = absurd cc
  index_at (y ∷ xs) zero x is = let same : Some y ≡ Some x = is in (omega arith, λ d. cc)
  index_at (y ∷ xs) (suc place) x is = let rest = index_at xs place x is in
      let low = rest.0 in (omega (arith, low), rest.1)

  pub get_at : (xs : List X) (place : ℕ) → place < length xs → (x : X) × (slice_get xs place ≡ Some x)
  get_at [] place low = absurd (omega (arith, low))
  get_at (y ∷ xs) zero low = (y, refl)
  get_at (y ∷ xs) (suc place) low = get_at xs place (omega (arith, low))
