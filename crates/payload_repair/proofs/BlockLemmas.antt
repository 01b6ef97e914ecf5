-- Blocks that are written into a file, and the leaves that it has then.
use Rattle.std.proofs.Common.{◌≡◌, ◌≢◌, ◌∙◌, ap, sym, subst, ℕ, ◌+◌, ◌-◌, ◌*◌, ◌<◌, ◌≤◌, min, false, List, [], ◌∷◌, ◌++◌, length, take, drop, get_or, arith, inl, inr, ⊎_elim, ◌⊎◌, length-append, length-take, length-drop}
use Rattle.std.specs.Prelude.{Contains, Result}
use Rattle.std.proofs.lemmas.Bool.{cases_lt, cases_eq}
use Rattle.std.proofs.lemmas.Grind.{same_number_lists}
use Rattle.std.proofs.lemmas.List.{get_or_append_left, get_or-append_right, length-take-le, append-nil, take_more, map-id, take_min, take-append-drop}
use Rattle.std.proofs.lemmas.List.Elements.{Contains-push, Contains-push_cases, Contains-append_left}
use Rattle.std.specs.Prelude.{replicate}
use Rattle.std.specs.List.{range_with_len}
use Rattle.std.proofs.lemmas.List.FromFn.{map-range_with_len_more}
use Rattle.dl_kinds.specs.declared.outside.IoErr.{IoErr}
use Rattle.dl_disk.specs.Calls.{Alters}
use Rattle.dl_disk.specs.State.{DiskState}
use Rattle.dl_disk.specs.Files.{Files, TornWrite, Writes, replaced, overwritten, file_bytes}
use Rattle.dl_disk.specs.Tears.{length-replaced, get_or-replaced_before, get_or-replaced_after}
use Rattle.dl_kinds.specs.Lists.{part_at}
use Rattle.dl_kinds.specs.declared.plan.TheConstants.{BLOCK_LEN}
use Rattle.merkle_trees.specs.Leaves.{block_at}
use Rattle.payload_repair.specs.Blocks.{IsInBlocks, HasBlocks, PutsBlocks}
use Rattle.payload_repair.specs.Mends.{MendsBlocks}
use Rattle.payload_repair.specs.StepsBy.{StepsBy}
use Rattle.payload_repair.proofs.MendLemmas.{file_none, file_torn}
use Rattle.payload_repair.proofs.StepLemmas.{steps_alters}
use Rattle.payload_repair.proofs.PieceLemmas.{length-part, get_or-part}

-- ---- bytes put in a place where there is room

get_or-replaced_inside : (long : List ℕ) (at : ℕ) (bytes : List ℕ) (k : ℕ) → at + length bytes ≤ length long → k < length bytes → get_or (replaced long at bytes) (at + k) 0 ≡ get_or bytes k 0
get_or-replaced_inside long at bytes k room within =
    let front : length (take at long) ≡ at = length-take-le at long (omega (arith, room)) in
    let same : at + k - at ≡ k = omega arith in
    get_or_append_left (take at long ++ bytes) (drop (at + length bytes) long) 0 (at + k) (omega (arith, front, within, length-append (take at long) bytes))
    ∙ get_or-append_right (take at long) bytes at (at + k) 0 front (omega arith)
    ∙ ap (λ (i : ℕ). get_or bytes i 0) same

overwritten_within : (old : List ℕ) (at : ℕ) (bytes : List ℕ) → at + length bytes ≤ length old → overwritten old at bytes ≡ replaced old at bytes
overwritten_within old at bytes within =
    let none : at + length bytes - length old ≡ 0 = omega (arith, within) in
    ap (λ (l : List ℕ). replaced l at bytes) (ap (λ (k : ℕ). old ++ replicate k 0) none ∙ append-nil old)

-- ---- a block of a part of a list

module _ (xs : List ℕ) (start n place : ℕ) (room : start + n ≤ length xs) where
  abbrev block : List ℕ
  block = block_at (part_at xs start n) place

  length-block : length block ≡ min BLOCK_LEN (n - place * BLOCK_LEN)
  length-block = omega (arith, length-part xs start n room, length-take BLOCK_LEN (drop (place * BLOCK_LEN) (part_at xs start n)), length-drop (place * BLOCK_LEN) (part_at xs start n))

  get_or-block : (k : ℕ) → k < length block → get_or block k 0 ≡ get_or xs (start + place * BLOCK_LEN + k) 0
  get_or-block k within =
      let size = length-block in
      let sum : start + (place * BLOCK_LEN + k) ≡ start + place * BLOCK_LEN + k = omega arith in
      get_or-part (part_at xs start n) (place * BLOCK_LEN) BLOCK_LEN k 0 (omega (arith, within, size))
      ∙ get_or-part xs start n (place * BLOCK_LEN + k) 0 (omega (arith, within, size))
      ∙ ap (λ (i : ℕ). get_or xs i 0) sum

-- ---- one block

module _ (start : ℕ) (bytes : List ℕ) (place : ℕ) (long : List ℕ) (inside : place * BLOCK_LEN < length bytes) (room : start + length bytes ≤ length long) where
  abbrev at : ℕ
  at = start + place * BLOCK_LEN

  abbrev ours : List ℕ
  ours = block_at bytes place

  length-ours : length ours ≡ min BLOCK_LEN (length bytes - place * BLOCK_LEN)
  length-ours = omega (arith, length-take BLOCK_LEN (drop (place * BLOCK_LEN) bytes), length-drop (place * BLOCK_LEN) bytes)

  fits : at + length ours ≤ length long
  fits = omega (arith, length-ours, inside, room)

  new_size : length (replaced long at ours) ≡ length long
  new_size = length-replaced long at ours fits

  new_room : start + length bytes ≤ length (replaced long at ours)
  new_room = omega (arith, new_size, room)

  block_put : block_at (part_at (replaced long at ours) start (length bytes)) place ≡ ours
  block_put =
      let size = length-block (replaced long at ours) start (length bytes) place new_room in
      same_number_lists (block_at (part_at (replaced long at ours) start (length bytes)) place) ours (omega (arith, size, length-ours))
      (λ k within. get_or-block (replaced long at ours) start (length bytes) place new_room k within
      ∙ get_or-replaced_inside long at ours k fits (omega (arith, within, size, length-ours)))

  block_left : (other : ℕ) → other ≢ place → block_at (part_at (replaced long at ours) start (length bytes)) other ≡ block_at (part_at long start (length bytes)) other
  block_left other differs =
      let size = length-block (replaced long at ours) start (length bytes) other new_room in
      let was = length-block long start (length bytes) other room in
      same_number_lists (block_at (part_at (replaced long at ours) start (length bytes)) other) (block_at (part_at long start (length bytes)) other) (omega (arith, size, was))
      (λ k within. get_or-block (replaced long at ours) start (length bytes) other new_room k within
      ∙ apart (start + other * BLOCK_LEN + k) (sides k (omega (arith, within, size)))
      ∙ sym (get_or-block long start (length bytes) other room k (omega (arith, within, size, was))))
    where
      sides : (k : ℕ) → k < BLOCK_LEN → (start + other * BLOCK_LEN + k < at) ⊎ (at + length ours ≤ start + other * BLOCK_LEN + k)
      sides k below = ⊎_elim (λ (before : other < place). inl (omega (arith, before, below)))
          (λ (behind : place ≤ other). inr (let later : place < other = omega (arith, behind, differs) in omega (arith, later, length-ours)))
          (cases_lt other place)

      apart : (i : ℕ) → (i < at) ⊎ (at + length ours ≤ i) → get_or (replaced long at ours) i 0 ≡ get_or long i 0
      apart i outside = ⊎_elim (get_or-replaced_before long at ours fits i) (get_or-replaced_after long at ours fits i) outside

  only_place : (other : ℕ) → Contains (place ∷ []) other → other ≡ place
  only_place other has = ⊎_elim (λ none. absurd (omega (arith, none.1))) (λ is. sym is) (Contains-push_cases [] place other has)

  pub one_put : HasBlocks start bytes (place ∷ []) long (replaced long at ours)
  one_put = record {
    size = new_size;
    written = λ other has. let here = only_place other has in
        ap (block_at (part_at (replaced long at ours) start (length bytes))) here ∙ block_put ∙ sym (ap (block_at bytes) here);
    others = λ other has. block_left other (λ here. has (subst (Contains (place ∷ [])) (sym here) (Contains-push [] place)));
  }

-- a write of a block
pub block_written : (name : List ℕ) (start : ℕ) (bytes : List ℕ) (place : ℕ) (part : List ℕ) (old new : Files) → place * BLOCK_LEN < length bytes → part ≡ block_at bytes place
    → Writes name (start + place * BLOCK_LEN) part old new → PutsBlocks start bytes (place ∷ []) (file_bytes (old name)) (file_bytes (new name))
block_written name start bytes place part old new inside is writes room =
    let long = file_bytes (old name) in
    let now : file_bytes (new name) ≡ replaced long (start + place * BLOCK_LEN) (block_at bytes place) =
    ap file_bytes writes.here ∙ ap (overwritten long (start + place * BLOCK_LEN)) is
    ∙ overwritten_within long (start + place * BLOCK_LEN) (block_at bytes place) (fits start bytes place long inside room) in
    subst (HasBlocks start bytes (place ∷ []) long) (sym now) (one_put start bytes place long inside room)

-- ---- one block more

module _ (start : ℕ) (bytes : List ℕ) (places : List ℕ) (k place : ℕ) (within : k < length places) (is : place ≡ get_or places k place) where
  more : take (k + 1) places ≡ take k places ++ place ∷ []
  more = take_more places k place within ∙ ap (λ (last : ℕ). take k places ++ last ∷ []) (sym is)

  next_cases : (other : ℕ) → Contains (take (k + 1) places) other → Contains (take k places) other ⊎ (place ≡ other)
  next_cases other has = Contains-push_cases (take k places) place other (subst (λ (l : List ℕ). Contains l other) more has)

  pub front_more : (other : ℕ) → Contains (take k places) other → Contains (take (k + 1) places) other
  front_more other has = subst (λ (l : List ℕ). Contains l other) (sym more) (Contains-append_left (take k places) (place ∷ []) other has)

  pub last_more : (other : ℕ) → Contains (place ∷ []) other → Contains (take (k + 1) places) other
  last_more other has = ⊎_elim (λ none. absurd (omega (arith, none.1)))
      (λ here. subst (λ (l : List ℕ). Contains l other) (sym more) (subst (Contains (take k places ++ place ∷ [])) here (Contains-push (take k places) place)))
      (Contains-push_cases [] place other has)

  pub blocks_more : (a b c : List ℕ) → PutsBlocks start bytes (take k places) a b → PutsBlocks start bytes (place ∷ []) b c → PutsBlocks start bytes (take (k + 1) places) a c
  blocks_more a b c front one room =
      let was = front room in
      let now = one (omega (arith, room, was.size)) in
      record {
        size = now.size ∙ was.size;
        written = λ other has. ⊎_elim
            (λ here. now.written other (subst (Contains (place ∷ [])) (sym here) (Contains-push [] place)))
            (λ differs. now.others other (λ in_one. ⊎_elim (λ none. absurd (omega (arith, none.1))) (λ at. differs (sym at)) (Contains-push_cases [] place other in_one))
            ∙ ⊎_elim (λ before. was.written other before) (λ at. absurd (differs (sym at))) (next_cases other has))
            (cases_eq other place);
        others = λ other none. now.others other (λ in_one. none (last_more other in_one)) ∙ was.others other (λ before. none (front_more other before));
      }

pub in_blocks : (start end : ℕ) (few many : List ℕ) → ((place : ℕ) → Contains few place → Contains many place) → (i : ℕ) → IsInBlocks start end few i → IsInBlocks start end many i
in_blocks start end few many wider i is = record { place = is.place; listed = wider is.place is.listed; from = is.from; to = is.to; within = is.within }

-- ---- places of all blocks

pub range_more : (n : ℕ) → range_with_len 0 (n + 1) ≡ range_with_len 0 n ++ n ∷ []
range_more n =
    sym (map-id (range_with_len 0 (n + 1))) ∙ map-range_with_len_more (λ (i : ℕ). i) 0 n n (omega arith)
    ∙ ap (λ (l : List ℕ). l ++ n ∷ []) (map-id (range_with_len 0 n))

-- ---- a block of some bytes

-- it is cut at the end of the bytes
pub block_cut : (bytes : List ℕ) (place count : ℕ) (rest : List ℕ) → rest ≡ drop (place * BLOCK_LEN) bytes → count ≡ min (length rest) BLOCK_LEN → take count rest ≡ block_at bytes place
block_cut bytes place count rest behind is =
    let other : count ≡ min BLOCK_LEN (length rest) = omega (arith, is) in
    ap (λ (some : ℕ). take some rest) other ∙ take_min BLOCK_LEN rest ∙ ap (take BLOCK_LEN) behind

block_within : (bytes : List ℕ) (place : ℕ) → place * BLOCK_LEN < length bytes → place * BLOCK_LEN + length (block_at bytes place) ≤ length bytes
block_within bytes place inside = omega (arith, inside, length-take BLOCK_LEN (drop (place * BLOCK_LEN) bytes), length-drop (place * BLOCK_LEN) bytes)

block_most : (bytes : List ℕ) (place : ℕ) → length (block_at bytes place) ≤ BLOCK_LEN
block_most bytes place = omega (arith, length-take BLOCK_LEN (drop (place * BLOCK_LEN) bytes))

-- a write of a block, whole or cut short
pub block_steps : (name : List ℕ) (start : ℕ) (bytes : List ℕ) (place : ℕ) (part : List ℕ) (old new : DiskState) (result : Result (Unit {0}) IoErr) → place * BLOCK_LEN < length bytes → part ≡ block_at bytes place
    → Alters (TornWrite name (start + place * BLOCK_LEN) (length part)) old new result → StepsBy (MendsBlocks name start (length bytes) (place ∷ [])) old new
block_steps name start bytes place part old new result inside is alters =
    let size = ap length is in
    let within = block_within bytes place inside in
    let most = block_most bytes place in
    let W : ℕ → Type 0 = IsInBlocks start (start + length bytes) (place ∷ []) in
    steps_alters (TornWrite name (start + place * BLOCK_LEN) (length part)) (MendsBlocks name start (length bytes) (place ∷ [])) old new result
    (file_none name (start + length bytes) false W)
    (λ x y torn. file_torn name (start + length bytes) false W (start + place * BLOCK_LEN) (length part) x y (omega (arith, size, within))
    (λ i after before. record { place = place; listed = Contains-push [] place; from = after; to = omega (arith, before, size, most); within = omega (arith, before, size, within) }) torn)
    alters

-- what is among the first is among all
pub front_of : (n : ℕ) (places : List ℕ) (place : ℕ) → Contains (take n places) place → Contains places place
front_of n places place has = subst (λ (l : List ℕ). Contains l place) (take-append-drop n places) (Contains-append_left (take n places) (drop n places) place has)
