-- How edges were used, by those who took part.
use Rattle.std.proofs.Common.{All, ◌≡◌, ◌+◌, ◌<◌, ◌++◌, ◌^◌, ℕ, zero, suc, List, [], ◌∷◌, Option, Some, drop, length, map, refl, sym, ap, ◌∙◌, subst, arith, slice_get, slice_index_or, take}
use Rattle.std.proofs.lemmas.List.Elements.{All-cons, All-head, All-nil, All-tail}
use Rattle.turn_desk.specs.Passes.{IsClosed, IsNewPass, IsPassOf, PassView, TurnDeskView, sight_at}
use Rattle.turn_desk.specs.Turns.{turns_by}
use Rattle.turn_desk.specs.declared.turn.Sight.{Sight}
use Rattle.turn_desk.specs.declared.turn.Turn.{Turn}
use Rattle.desk_participants.specs.Seats.{AreDone, edge_of, participant_of, participants_from}
use Rattle.desk_participants.specs.Uses.{AllMayTakePart, AllTookPart, AreUsed, Doing, MayTakePart, TookPart, Use, UsedInTurns, UsedWithPass}
use Rattle.desk_participants.specs.declared.participants.Participant.{Participant}
use Rattle.desk_participants.proofs.Seating.{get_at, index_at}

pub same_some : {X : Type 0} (x y : X) → Some x ≡ Some y → x ≡ y
same_some x y is = cc

-- ---- places

pub map_get : {X Y : Type 0} (f : X → Y) (xs : List X) (place : ℕ) (x : X) → slice_get xs place ≡ Some x
    → slice_get (map f xs) place ≡ Some (f x)
map_get f [] place x is = absurd cc
map_get f (y ∷ xs) zero x is = ap (λ (z : _). Some (f z)) (same_some y x is)
map_get f (y ∷ xs) (suc place) x is = map_get f xs place x is

pub map_length : {X Y : Type 0} (f : X → Y) (xs : List X) → length (map f xs) ≡ length xs
map_length f [] = refl
map_length f (x ∷ xs) = let rest = map_length f xs in omega (arith, rest)

pub get_left : {X : Type 0} (xs ys : List X) (place : ℕ) (x : X) → slice_get xs place ≡ Some x
    → slice_get (xs ++ ys) place ≡ Some x
get_left [] ys place x is = absurd cc
get_left (z ∷ xs) ys zero x is = is
get_left (z ∷ xs) ys (suc place) x is = get_left xs ys place x is

pub get_right : {X : Type 0} (xs ys : List X) (place : ℕ) → slice_get (xs ++ ys) (length xs + place) ≡ slice_get ys place
get_right [] ys place = let none : 0 + place ≡ place = omega arith in ap (slice_get ys) none
get_right (x ∷ xs) ys place =
    let shift : suc (length xs) + place ≡ suc (length xs + place) = omega arith in
    ap (slice_get (x ∷ xs ++ ys)) shift ∙ get_right xs ys place

pub get_drop : {X : Type 0} (k : ℕ) (xs : List X) (place : ℕ) → slice_get (drop k xs) place ≡ slice_get xs (k + place)
get_drop zero xs place = let none : place ≡ 0 + place = omega arith in ap (slice_get xs) none
get_drop (suc k) [] place = refl
get_drop (suc k) (x ∷ xs) place =
    let shift : suc (k + place) ≡ suc k + place = omega arith in
    get_drop k xs place ∙ ap (slice_get (x ∷ xs)) shift

pub get_take : {X : Type 0} (k : ℕ) (xs : List X) (place : ℕ) (x : X) → slice_get (take k xs) place ≡ Some x
    → slice_get xs place ≡ Some x
get_take zero xs place x is = absurd cc
get_take (suc k) [] place x is = absurd cc
get_take (suc k) (y ∷ xs) zero x is = is
get_take (suc k) (y ∷ xs) (suc place) x is = get_take k xs place x is

-- a value that stands among values
pub some_at : {X : Type 0} (os : List (Option X)) (xs : List X) (place : ℕ) (x : X) → map Some xs ≡ os
    → slice_get os place ≡ Some (Some x) → slice_get xs place ≡ Some x
some_at os xs place x are is = by xs place (ap (λ (l : _). slice_get l place) are ∙ is)
  where
    by : (ys : List _) (n : ℕ) → slice_get (map Some ys) n ≡ Some (Some x) → slice_get ys n ≡ Some x
    by [] n there = absurd cc
    by (y ∷ ys) zero there = same_some (Some y) (Some x) there
    by (y ∷ ys) (suc n) there = by ys n there

-- ---- those who didn't take part yet

module _ {P X K : Type 0} where
  pub from_edges : (Y : Type 0) (n : ℕ) (passes : List P) (edges : List (X × K)) → length passes ≡ length edges
      → map edge_of (participants_from {Y = Y} n passes edges) ≡ edges
  from_edges Y n [] [] same = refl
  from_edges Y n [] (l ∷ edges) same = absurd (omega (arith, same))
  from_edges Y n (p ∷ passes) [] same = absurd (omega (arith, same))
  from_edges Y n (p ∷ passes) (l ∷ edges) same =
      ap (λ (ls : List (X × K)). l ∷ ls) (from_edges Y (n + 1) passes edges (omega (arith, same)))

  pub from_length : (Y : Type 0) (n : ℕ) (passes : List P) (edges : List (X × K)) → length passes ≡ length edges
      → length (participants_from {Y = Y} n passes edges) ≡ length edges
  from_length Y n [] [] same = refl
  from_length Y n [] (l ∷ edges) same = absurd (omega (arith, same))
  from_length Y n (p ∷ passes) [] same = absurd (omega (arith, same))
  from_length Y n (p ∷ passes) (l ∷ edges) same =
      let rest = from_length Y (n + 1) passes edges (omega (arith, same)) in omega (arith, rest)

module _ {P X K Y : Type 0} where
  pub from_get : (n : ℕ) (passes : List P) (edges : List (X × K)) (place : ℕ) (w : Participant P X K Y)
      → slice_get (participants_from n passes edges) place ≡ Some w
      → (pass : P) × (edge : X × K) × (slice_get passes place ≡ Some pass) × (slice_get edges place ≡ Some edge)
      × (w ≡ participant_of (n + place) pass edge)
  from_get n [] edges place w is = absurd cc
  from_get n (p ∷ passes) [] place w is = absurd cc
  from_get n (p ∷ passes) (l ∷ edges) zero w is =
      let none : n ≡ n + 0 = omega arith in
      (p, l, refl, refl, sym (same_some _ _ is) ∙ ap (λ (m : ℕ). participant_of m p l) none)
  from_get n (p ∷ passes) (l ∷ edges) (suc place) w is =
      let rest = from_get (n + 1) passes edges place w is in
      let shift : n + 1 + place ≡ n + suc place = omega arith in
      (rest.0, rest.1, rest.2, rest.3, rest.4 ∙ ap (λ (m : ℕ). participant_of m rest.0 rest.1) shift)

  -- ---- uses

  pub uses_of : (olds news : List (Participant P X K Y)) (came : List Y) → List (Use X K Y)
  uses_of (w ∷ ws) (w' ∷ ws') (c ∷ cs) = record { old = edge_of w; new = edge_of w'; came = c } ∷ uses_of ws ws' cs
  uses_of ws ws' cs = []

  pub uses_get : (ws ws' : List (Participant P X K Y)) (cs : List Y) (place : ℕ) (u : Use X K Y)
      → slice_get (uses_of ws ws' cs) place ≡ Some u
      → (w : Participant P X K Y) × (w' : Participant P X K Y) × (slice_get ws place ≡ Some w)
      × (slice_get ws' place ≡ Some w') × (slice_get cs place ≡ Some u.came)
      × (u ≡ record { old = edge_of w; new = edge_of w'; came = u.came })
  unfolding uses_of
  uses_get [] ws' cs place u is = absurd cc
  uses_get (w ∷ ws) [] cs place u is = absurd cc
  uses_get (w ∷ ws) (w' ∷ ws') [] place u is = absurd cc
  uses_get (w ∷ ws) (w' ∷ ws') (c ∷ cs) zero u is =
      let same = same_some (record { old = edge_of w; new = edge_of w'; came = c }) u is in
      let came = ap (λ (v : Use X K Y). v.came) same in
      (w, w', refl, refl, ap Some came, sym same ∙ ap (λ (y : Y). record { old = edge_of w; new = edge_of w'; came = y }) came)
  uses_get (w ∷ ws) (w' ∷ ws') (c ∷ cs) (suc place) u is = uses_get ws ws' cs place u is

  pub are_used : (ws ws' : List (Participant P X K Y)) (cs : List Y) → length ws' ≡ length ws → length cs ≡ length ws
      → AreUsed (map edge_of ws) (map edge_of ws') cs (uses_of ws ws' cs)
  unfolding uses_of
  are_used [] [] [] same came = record { olds_are = refl; news_are = refl; came_are = refl }
  are_used [] [] (c ∷ cs) same came = absurd (omega (arith, came))
  are_used [] (w' ∷ ws') cs same came = absurd (omega (arith, same))
  are_used (w ∷ ws) [] cs same came = absurd (omega (arith, same))
  are_used (w ∷ ws) (w' ∷ ws') [] same came = absurd (omega (arith, came))
  are_used (w ∷ ws) (w' ∷ ws') (c ∷ cs) same came =
      let rest = are_used ws ws' cs (omega (arith, same)) (omega (arith, came)) in record {
        olds_are = ap (λ (l : List (X × K)). edge_of w ∷ l) rest.olds_are;
        news_are = ap (λ (l : List (X × K)). edge_of w' ∷ l) rest.news_are;
        came_are = ap (λ (l : List Y). c ∷ l) rest.came_are;
      }

  pub uses_length : (ws ws' : List (Participant P X K Y)) (cs : List Y) → length ws' ≡ length ws → length cs ≡ length ws
      → length (uses_of ws ws' cs) ≡ length ws
  unfolding uses_of
  uses_length [] ws' cs same came = refl
  uses_length (w ∷ ws) [] cs same came = absurd (omega (arith, same))
  uses_length (w ∷ ws) (w' ∷ ws') [] same came = absurd (omega (arith, came))
  uses_length (w ∷ ws) (w' ∷ ws') (c ∷ cs) same came =
      let rest = uses_length ws ws' cs (omega (arith, same)) (omega (arith, came)) in omega (arith, rest)

-- ---- passes

module _ {P X K Y : Type 0} where
  abbrev pub pass_in : Participant P X K Y → Option P
  pass_in p = p.pass

  abbrev pub came_in : Participant P X K Y → Option Y
  came_in p = p.came

module _ {T O A E : Type 0} (desk : TurnDeskView T E) where
  -- it is a pass of the desk
  abbrev pub HasPassOf : Option (PassView T O A E) → Type 0
  HasPassOf o = (pass : PassView T O A E) × (o ≡ Some pass) × IsPassOf desk pass

  pub all_of_desk : (os : List (Option (PassView T O A E))) (passes : List (PassView T O A E)) → map Some passes ≡ os
      → All HasPassOf os → All (IsPassOf desk) passes
  all_of_desk os passes are all = by passes (subst (All HasPassOf) (sym are) all)
    where
      by : (ps : List (PassView T O A E)) → All HasPassOf (map Some ps) → All (IsPassOf desk) ps
      by [] has = All-nil (IsPassOf desk)
      by (p ∷ ps) has =
          let first = All-head HasPassOf (Some p) (map Some ps) has in
          All-cons (IsPassOf desk) p ps (subst (IsPassOf desk) (same_some first.0 p (sym first.1)) first.2)
          (by ps (All-tail HasPassOf (Some p) (map Some ps) has))

abbrev pub SeatOf : (T O A E X K Y : Type 0) → Type 0
SeatOf T O A E X K Y = Participant (PassView T O A E) X K Y

module _ {T O A E X K Y : Type 0} where
  -- each has a pass of the desk
  pub may_all : (solo : Sight T O A E) (desk : TurnDeskView T E) (base : ℕ) (passes : List (PassView T O A E))
      (edges : List (X × K)) (ws : List (SeatOf T O A E X K Y))
      → ((place : ℕ) (pass : PassView T O A E) → slice_get passes place ≡ Some pass
      → IsNewPass solo desk (base + place) pass)
      → length edges < 2 ^ 32 → ws ≡ participants_from 0 passes edges → AllMayTakePart desk ws
  may_all solo desk base passes edges ws new few are place d low =
      let there = get_at ws place low in
      let w = there.0 in
      let its = from_get 0 passes edges place w
      (ap (λ (xs : List (SeatOf T O A E X K Y)). slice_get xs place) (sym are) ∙ there.1) in
      let within = (index_at edges place its.1 its.3).0 in
      let number : w.number ≡ 0 + place = ap (λ (p : SeatOf T O A E X K Y). p.number) its.4 in
      subst (MayTakePart desk) (sym ((index_at ws place w there.1).1 d)) (record {
        pass = its.0;
        has = ap pass_in its.4;
        of_desk = (new place its.0 its.2).of_desk;
        bound = omega (arith, within, few, number);
      })

  module _ (desk : TurnDeskView T E) (Did : Doing T O A E X K Y) where
    abbrev pub TookAll : (olds news : List (SeatOf T O A E X K Y)) → Type 0
    TookAll ws ws' = (place : ℕ) (w' : SeatOf T O A E X K Y) → slice_get ws' place ≡ Some w'
        → (w : SeatOf T O A E X K Y) × (slice_get ws place ≡ Some w) × TookPart desk Did w w'

    pub took_all : (ws ws' : List (SeatOf T O A E X K Y)) → AllTookPart desk Did ws ws' → TookAll ws ws'
    took_all ws ws' all place w' is =
        let its = index_at ws' place w' is in
        let low = its.0 in
        let many = all.many in
        let was = get_at ws place (omega (arith, low, many)) in
        let old = index_at ws place was.0 was.1 in (
          was.0,
          was.1,
          subst (λ (w : SeatOf T O A E X K Y). TookPart desk Did w w') (old.1 was.0)
              (subst (λ (w : SeatOf T O A E X K Y). TookPart desk Did (slice_index_or ws place was.0) w) (its.1 was.0)
              (all.each place was.0 old.0)),
        )

    pub are_done : (ws ws' : List (SeatOf T O A E X K Y)) → TookAll ws ws' → AreDone ws'
    are_done ws ws' all = by ws' (λ place w is. let its = all place w is in
        (its.2.pass', its.2.has, its.2.came, its.2.came_is))
      where
        by : (seats : List (SeatOf T O A E X K Y)) → ((place : ℕ) (w : SeatOf T O A E X K Y) → slice_get seats place ≡ Some w
            → (pass : PassView T O A E) × (w.pass ≡ Some pass) × (came : Y) × (w.came ≡ Some came)) → AreDone seats
        by [] has = record { passes = []; passes_are = refl; came = []; came_are = refl }
        by (w ∷ seats) has =
            let first = has 0 w refl in
            let rest = by seats (λ place x is. has (suc place) x is) in record {
              passes = first.0 ∷ rest.passes;
              passes_are = λ i. first.1 i ∷ rest.passes_are i;
              came = first.2 ∷ rest.came;
              came_are = λ i. first.3 i ∷ rest.came_are i;
            }

    -- they have passes of the desk
    pub of_desk : (ws ws' : List (SeatOf T O A E X K Y)) → TookAll ws ws' → All (HasPassOf desk) (map pass_in ws')
    of_desk ws ws' all = by ws' (λ place w is. let its = all place w is in (its.2.pass', its.2.has, its.2.of_desk))
      where
        by : (seats : List (SeatOf T O A E X K Y)) → ((place : ℕ) (w : SeatOf T O A E X K Y)
            → slice_get seats place ≡ Some w → HasPassOf desk w.pass) → All (HasPassOf desk) (map pass_in seats)
        by [] has = All-nil (HasPassOf desk)
        by (w ∷ seats) has = All-cons (HasPassOf desk) w.pass (map pass_in seats) (has 0 w refl)
            (by seats (λ place x is. has (suc place) x is))

    -- ---- each use

    module _ (relates : T → List (Turn O A E) → Turn O A E → Type 0) (solo : Sight T O A E) (base : ℕ)
        (passes : List (PassView T O A E)) (edges news : List (X × K)) (ws' : List (SeatOf T O A E X K Y)) (cs : List Y)
        (turns : List (Turn O A E)) (all : List (PassView T O A E))
        (keeps_number : (n : ℕ) (s s' : Sight T O A E) (e e' : X × K) (y : Y) → Did n s e s' e' y → s'.number ≡ s.number)
        (same : length passes ≡ length edges)
        (new : (place : ℕ) (pass : PassView T O A E) → slice_get passes place ≡ Some pass
        → IsNewPass solo desk (base + place) pass)
        (took : AllTookPart desk Did (participants_from 0 passes edges) ws')
        (news_are : map edge_of ws' ≡ news) (came_are : map came_in ws' ≡ map Some cs)
        (there : (place : ℕ) (pass : PassView T O A E) → slice_get (map pass_in ws') place ≡ Some (Some pass)
        → slice_get all (base + place) ≡ Some pass)
        (closed : IsClosed relates desk all turns) where
      abbrev ws : List (SeatOf T O A E X K Y)
      ws = participants_from 0 passes edges

      many : length ws' ≡ length ws
      many = took.many

      many_came : length cs ≡ length ws
      many_came =
          let one = ap length came_are in
          let two = map_length came_in ws' in
          let three = map_length Some cs in
          let four = many in
          omega (arith, one, two, three, four)

      abbrev uses : List (Use X K Y)
      uses = uses_of ws ws' cs

      many_uses : length uses ≡ length edges
      many_uses = uses_length ws ws' cs many many_came ∙ from_length Y 0 passes edges same

      used : AreUsed edges news cs uses
      used =
          let its = are_used ws ws' cs many many_came in record {
            olds_are = sym (from_edges Y 0 passes edges same) ∙ its.olds_are;
            news_are = sym news_are ∙ its.news_are;
            came_are = its.came_are;
          }

      used_by : (number : ℕ) (w w' : SeatOf T O A E X K Y) (came : Y) (pass : PassView T O A E) (edge : X × K)
          → w ≡ participant_of (0 + number) pass edge → slice_get passes number ≡ Some pass → TookPart desk Did w w'
          → slice_get ws' number ≡ Some w' → slice_get cs number ≡ Some came
          → UsedWithPass Did solo desk turns base number (record { old = edge_of w; new = edge_of w'; came = came })
      used_by number w w' came pass edge w_is pass_is at stands came_stands =
          let none : 0 + number ≡ number = omega arith in
          let number_is : w.number ≡ number = ap (λ (p : SeatOf T O A E X K Y). p.number) w_is ∙ none in
          let same_pass : at.pass ≡ pass = same_some at.pass pass (sym at.had ∙ ap pass_in w_is) in
          let is_new = subst (λ (p : PassView T O A E). IsNewPass solo desk (base + number) p) (sym same_pass)
          (new number pass pass_is) in
          let came_same : at.came ≡ came = same_some at.came came
          (sym at.came_is
          ∙ same_some (w'.came) (Some came)
          (sym (map_get came_in ws' number w' stands)
          ∙ (ap (λ (l : List (Option Y)). slice_get l number) came_are ∙ map_get Some cs number came came_stands))) in
          let pass_number : at.pass'.number ≡ base + number =
          keeps_number w.number (sight_at desk at.pass) (sight_at desk at.pass') (edge_of w) (edge_of w') at.came at.did
          ∙ is_new.number_is in
          let own = (closed.own (base + number) at.pass'
          (there number at.pass' (map_get pass_in ws' number w' stands ∙ ap Some at.has))).1 in record {
            from = at.pass;
            new = is_new;
            to = at.pass';
            did = subst
                (λ (n : ℕ). Did n (sight_at desk at.pass) (edge_of w) (sight_at desk at.pass') (edge_of w') came) number_is
                (subst
                (λ (y : Y). Did w.number (sight_at desk at.pass) (edge_of w) (sight_at desk at.pass') (edge_of w') y)
                came_same at.did);
            own = subst (λ (n : ℕ). turns_by n turns ≡ at.pass'.own) pass_number own;
          }

      each : (number : ℕ) (u : Use X K Y) → slice_get uses number ≡ Some u
          → UsedWithPass Did solo desk turns base number u
      each number u stands =
          let its = uses_get ws ws' cs number u stands in
          let at = took_all ws ws' took number its.1 its.3 in
          let was = from_get 0 passes edges number at.0 at.1 in
          let one : its.0 ≡ at.0 = same_some its.0 at.0 (sym its.2 ∙ at.1) in
          subst (λ (v : Use X K Y). UsedWithPass Did solo desk turns base number v) (sym its.5)
          (subst
          (λ (w : SeatOf T O A E X K Y). UsedWithPass Did solo desk turns base number (record { old = edge_of w; new = edge_of its.1; came = u.came }))
          (sym one)
          (used_by number at.0 its.1 u.came was.0 was.1 was.4 was.2 at.2 its.3 its.4))

      pub used_in_turns : UsedInTurns Did solo desk turns base edges news cs
      used_in_turns = record { uses = uses; many = many_uses; used = used; each = each }
