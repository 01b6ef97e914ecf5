-- The visits of a door, one behind another.
use Rattle.std.proofs.Common.{◌≡◌, ℕ, ◌+◌, List, [], ◌∷◌, ◌++◌, append_assoc, append-nil, Bool, refl, ap, sym, ◌∙◌, subst, arith}
use Rattle.std.specs.Prelude.{IsTrue, Option, Some, None}
use Rattle.console_http.specs.Visits.{RoseBy, capped}
use Rattle.dl_disk.specs.Files.{Files}
use Rattle.dl_disk.specs.declared.disk.Disk.{Ghosts as DiskSays}
use Rattle.door_source.specs.Doors.{Accepts, Connection, DoorState, met}
use Rattle.door_source.specs.declared.Came.TheVariants.{Closed as NoneAnyMore}
use Rattle.door_source.specs.declared.Doors.{Ghosts as DoorSays}
use Rattle.turn_desk.specs.Laws.{NoTurnsChangeNothing, TurnsAddUp}
use Rattle.range_origin.specs.Conversations.{HasServed, files_of}
use Rattle.range_origin.specs.Ends.{CausesVisitEnd}
use Rattle.range_origin.specs.Keeping.{AreVisited, GainsVisits, HasKept, HasVisited, IsKept, KeepsDoor, KeepsOn, KeepsOrigin, LetsIn, end_at, failed_at_end, failed_in, failed_once, is_closed_at, is_open_behind, starved_at, starved_at_end, starved_in, starved_once}
use Rattle.range_origin.specs.Shelves.{AsksFolder}
use Rattle.range_origin.specs.Talking.{OriginAt, ShelfSight, files_below, with_more}
use Rattle.range_origin.specs.Visits.{Visit, visit_of}
use Rattle.range_origin.specs.declared.ends.OriginEnd.{OriginEnd}
use Rattle.range_origin.specs.declared.ends.OriginEnd.TheVariants.{Closed, Fault, NoMemory}
use Rattle.range_origin.specs.declared.ends.VisitEnd.{VisitEnd}
use Rattle.range_origin.specs.declared.ends.VisitEnd.TheVariants.{AtItsEnd, HungUp, Failed, DiskFailed, Cut, Starved}
use Rattle.range_origin.specs.declared.keeping.Visited.{Visited}
use Rattle.range_origin.specs.declared.keeping.Visited.TheVariants.{NobodyCame, Served, Ended}
use Rattle.range_origin.proofs.Visiting.{visits_behind}

-- ---- counts

failed-append : (visits others : List Visit) → failed_in (visits ++ others) ≡ failed_in visits + failed_in others
failed-append [] others = omega arith
failed-append (visit ∷ visits) others = let is = failed-append visits others in omega (arith, is)

starved-append : (visits others : List Visit) → starved_in (visits ++ others) ≡ starved_in visits + starved_in others
starved-append [] others = omega arith
starved-append (visit ∷ visits) others = let is = starved-append visits others in omega (arith, is)

rose_none : (before now : ℕ) → now ≡ before → RoseBy 0 before now
rose_none before now is = omega (arith, is)

rose_both : (m n : ℕ) (before middle now : ℕ) → RoseBy m before middle → RoseBy n middle now → RoseBy (m + n) before now
rose_both m n before middle now first then = omega (arith, first, then)

rose_as : (m n : ℕ) (before now : ℕ) → m ≡ n → RoseBy m before now → RoseBy n before now
rose_as m n before now same rose = subst (λ k. RoseBy k before now) same rose

rose_by : (end : VisitEnd) (before now : ℕ) → CausesVisitEnd end before now → RoseBy (failed_once end) before now
rose_by Failed before now cause = cause
rose_by AtItsEnd before now same = rose_none before now same
rose_by HungUp before now same = rose_none before now same
rose_by DiskFailed before now same = rose_none before now same
rose_by Cut before now same = rose_none before now same
rose_by Starved before now same = rose_none before now same

-- ---- connections

open_behind : (visits others : List Visit) (was : Bool)
    → is_open_behind (visits ++ others) was ≡ is_open_behind others (is_open_behind visits was)
open_behind [] others was = refl
open_behind (visit ∷ visits) [] was = refl
open_behind (visit ∷ visits) (other ∷ others) was = refl

module _ (known : Bool) (files : Files) where
  visited_both : (visits : List Visit) (cs : List Connection) (others : List Visit) (ds : List Connection)
      → AreVisited known files visits cs → AreVisited known files others ds → AreVisited known files (visits ++ others) (cs ++ ds)
  visited_both [] [] others ds are then = then
  visited_both [] (c ∷ cs) others ds are then = absurd are
  visited_both (visit ∷ visits) [] others ds are then = absurd are
  visited_both (visit ∷ visits) (c ∷ cs) others ds are then = (are.0, visited_both visits cs others ds are.1 then)

  gains_both : (visits others : List Visit) (end : Option OriginEnd) (s t u : DoorState)
      → GainsVisits known files visits None s t → GainsVisits known files others end t u
      → GainsVisits known files (visits ++ others) end s u
  gains_both visits others end s t u first then = record {
    gained = first.gained ++ then.gained;
    are = visited_both visits first.gained others then.gained first.are then.are;
    connections = then.connections
        ∙ (ap (λ before. before ++ then.gained) first.connections ∙ append_assoc s.connections first.gained then.gained);
    is_open = then.is_open ∙ (ap (is_open_behind others) first.is_open ∙ sym (open_behind visits others s.is_open));
    is_closed = then.is_closed ∙ ap (is_closed_at end) first.is_closed;
  }

  gains_still : (s t : DoorState) → t ≡ s → GainsVisits known files [] None s t
  gains_still s t same = record {
    gained = [];
    are = tt;
    connections = ap (λ (d : DoorState). d.connections) same ∙ sym (append-nil s.connections);
    is_open = ap (λ (d : DoorState). d.is_open) same;
    is_closed = ap (λ (d : DoorState). d.is_closed) same;
  }

  module _ {A : Type 0} (doors : DoorSays A) where
    keeps_both : (visits others : List Visit) (end : Option OriginEnd) (a b c : A) → (end ≡ Some NoMemory → ⊥)
        → KeepsDoor known files doors visits None a b → KeepsDoor known files doors others end b c
        → KeepsDoor known files doors (visits ++ others) end a c
    keeps_both visits others end a b c buffered first then =
        let many = failed-append visits others in
        record {
          told = λ tells. gains_both visits others end (doors.state a) (doors.state b) (doors.state c) (first.told tells) (then.told tells);
          faults =
              rose_as ((failed_in visits + 0) + (failed_in others + failed_at_end end)) (failed_in (visits ++ others) + failed_at_end end)
              (doors.faults a) (doors.faults c) (omega (arith, many))
              (rose_both (failed_in visits + 0) (failed_in others + failed_at_end end) (doors.faults a) (doors.faults b) (doors.faults c)
              first.faults then.faults);
          count = then.count;
          none = λ no. absurd (buffered no);
        }

    pub keeps_still : (a b : A) → (IsTrue doors.tells → doors.state b ≡ doors.state a) → doors.faults b ≡ doors.faults a
        → KeepsDoor known files doors [] None a b
    keeps_still a b same calm = record {
      told = λ tells. gains_still (doors.state a) (doors.state b) (same tells);
      faults = rose_none (doors.faults a) (doors.faults b) calm;
      count = λ count no. absurd (none_fault count no);
      none = λ no. absurd (none_end no);
    }
      where
        none_fault : (count : ℕ) → None ≡ Some (Fault count) → ⊥
        none_fault count e = cc

        none_end : None ≡ Some NoMemory → ⊥
        none_end e = cc

    pub closes : (a b : A) → (IsTrue doors.tells → Accepts NoneAnyMore (doors.state a) (doors.state b))
        → doors.faults b ≡ doors.faults a → KeepsDoor known files doors [] (Some Closed) a b
    closes a b told calm = record {
      told = λ tells. record {
        gained = [];
        are = tt;
        connections = ap (λ (d : DoorState). d.connections) (told tells) ∙ sym (append-nil (doors.state a).connections);
        is_open = ap (λ (d : DoorState). d.is_open) (told tells);
        is_closed = ap (λ (d : DoorState). d.is_closed) (told tells);
      };
      faults = rose_none (doors.faults a) (doors.faults b) calm;
      count = λ count no. absurd (closed_fault count no);
      none = λ no. absurd (closed_none no);
    }
      where
        closed_fault : (count : ℕ) → Some Closed ≡ Some (Fault count) → ⊥
        closed_fault count e = cc

        closed_none : Some Closed ≡ Some NoMemory → ⊥
        closed_none e = cc

    pub breaks : (count : ℕ) (a b : A) → (IsTrue doors.tells → doors.state b ≡ doors.state a) → RoseBy 1 (doors.faults a) (doors.faults b)
        → count ≡ doors.faults b → KeepsDoor known files doors [] (Some (Fault count)) a b
    breaks count a b same rose is = record {
      told = λ tells. record {
        gained = [];
        are = tt;
        connections = ap (λ (d : DoorState). d.connections) (same tells) ∙ sym (append-nil (doors.state a).connections);
        is_open = ap (λ (d : DoorState). d.is_open) (same tells);
        is_closed = ap (λ (d : DoorState). d.is_closed) (same tells);
      };
      faults = rose;
      count = λ other told. sym (same_count count other told) ∙ is;
      none = λ no. absurd (fault_none no);
    }
      where
        same_count : (n m : ℕ) → Some (Fault n) ≡ Some (Fault m) → n ≡ m
        same_count n m e = cc

        fault_none : Some (Fault count) ≡ Some NoMemory → ⊥
        fault_none e = cc

    pub unbuffered : (a : A) → KeepsDoor known files doors [] (Some NoMemory) a a
    unbuffered a = record {
      told = λ tells. record {
        gained = [];
        are = tt;
        connections = sym (append-nil (doors.state a).connections);
        is_open = refl;
        is_closed = refl;
      };
      faults = rose_none (doors.faults a) (doors.faults a) refl;
      count = λ count no. absurd (no_fault count no);
      none = λ so. (refl, refl);
    }
      where
        no_fault : (count : ℕ) → Some NoMemory ≡ Some (Fault count) → ⊥
        no_fault count e = cc

-- ---- beside turns

no_memory_counts : (end : Option OriginEnd) → starved_at_end end ≡ 0 → end ≡ Some NoMemory → ⊥
no_memory_counts end none same = let is = ap starved_at_end same in omega (arith, none, is)

module _ {D T A : Type 0} (sight : T → ShelfSight D) (disk : DiskSays D) (doors : DoorSays A) where
  kept_both : TurnsAddUp (AsksFolder disk) → (visits others : List Visit) (end : Option OriginEnd) (s t u : ShelfSight D) (a b c : A)
      → starved_at_end end ≡ 0 → HasKept disk doors visits None s a t b → HasKept disk doors others end t b u c
      → HasKept disk doors (visits ++ others) end s a u c
  kept_both add visits others end s t u a b c buffered first then = record {
    door_is =
        keeps_both disk.tells (files_below disk s.given) doors visits others end a b c (no_memory_counts end buffered) first.door_is
        (subst (λ files. KeepsDoor disk.tells files doors others end b c) (ap (λ given. files_below disk given) first.went.given) then.door_is);
    mine = first.mine ++ then.mine;
    went = add s t u first.mine then.mine first.went then.went;
    turns = visits_behind visits others first.mine then.mine first.turns then.turns;
  }

  -- ---- one visit

  pub served_one : (end : VisitEnd) (a m b : OriginAt T A) → LetsIn sight disk doors a m → HasServed sight disk doors end m b
      → (visit : Visit) × (visit.end ≡ end) × HasKept disk doors (visit ∷ []) None (sight a.desk) a.door (sight b.desk) b.door
  served_one end a m b lets served =
      let talked = served.talked in
      let visit : Visit = visit_of served.answers end in
      let at : sight m.desk ≡ sight a.desk = ap sight lets.desk in
      let files = files_of sight disk doors m in
      let kept : KeepsDoor disk.tells files doors (visit ∷ []) None a.door b.door = record {
        told = λ tells.
            let meets = lets.told tells in
            let c : Connection = met meets.0 in
            let to = (talked.told tells).grows (doors.state a.door).connections c meets.0 meets.1.connections refl in
            record {
              gained = with_more c talked.received talked.sent ∷ [];
              are = (
                record {
                  answers = talked.answers_are;
                  rest = to.rest;
                  front = to.front;
                  all = to.none_left;
                  uncut = talked.uncut;
                },
                tt,
              );
              connections = ap (λ (d : DoorState). d.connections) (served.told tells) ∙ to.are;
              is_open = ap (λ (d : DoorState). d.is_open) (served.told tells);
              is_closed =
                  ap (λ (d : DoorState). d.is_closed) (served.told tells) ∙ ((talked.told tells).is_closed ∙ meets.1.is_closed);
            };
        faults =
            rose_as (failed_once end) (failed_once end + 0 + 0) (doors.faults a.door) (doors.faults b.door) (omega arith)
            (subst (λ n. RoseBy (failed_once end) (doors.faults a.door) n) (sym served.faults)
            (subst (λ n. RoseBy (failed_once end) n (doors.faults served.closing)) lets.faults
            (rose_by end (doors.faults m.door) (doors.faults served.closing) talked.cause)));
        count = λ count no. absurd (none_fault count no);
        none = λ no. absurd (none_end no);
      } in (
        visit,
        refl,
        subst (λ s. HasKept disk doors (visit ∷ []) None s a.door (sight b.desk) b.door) at
            (record {
              door_is = kept;
              mine = talked.mine;
              went = talked.went;
              turns = (talked.mine, [], sym (append-nil talked.mine), talked.turns, refl);
            }),
      )
    where
      none_fault : (count : ℕ) → None ≡ Some (Fault count) → ⊥
      none_fault count e = cc

      none_end : None ≡ Some NoMemory → ⊥
      none_end e = cc

  -- ---- calls

  kept_alone : NoTurnsChangeNothing (AsksFolder disk) → (end : Option OriginEnd) (s s' : ShelfSight D) (a b : A) → s' ≡ s
      → KeepsDoor disk.tells (files_below disk s.given) doors [] end a b → HasKept disk doors [] end s a s' b
  kept_alone none end s s' a b same keeps = subst (λ to. HasKept disk doors [] end s a to b) (sym same)
      (record { door_is = keeps; mine = []; went = none s; turns = refl })

  -- what came of letting a client in
  visited_one : NoTurnsChangeNothing (AsksFolder disk) → (visited : Visited) (a b : OriginAt T A) → HasVisited sight disk doors a b visited
      → (visits : List Visit) × HasKept disk doors visits (end_at visited) (sight a.desk) a.door (sight b.desk) b.door
      × (starved_in visits ≡ starved_at visited) × (starved_at_end (end_at visited) ≡ 0)
  visited_one none NobodyCame a b is = (
    [],
    kept_alone none None (sight a.desk) (sight b.desk) a.door b.door (ap sight is.desk)
        (keeps_still disk.tells (files_of sight disk doors a) doors a.door b.door is.told is.faults),
    refl,
    refl,
  )
  visited_one none (Served end) a b is =
      let one = served_one end a is.0 b is.1 is.2 in
      let count = ap starved_once one.1 in
      (one.0 ∷ [], one.2, omega (arith, count), refl)
  visited_one none (Ended end) a b is =
      ([], kept_alone none (Some end) (sight a.desk) (sight b.desk) a.door b.door (ap sight is.0) is.1, refl, is.2)

  pub kept_on : TurnsAddUp (AsksFolder disk) → NoTurnsChangeNothing (AsksFolder disk) → (visited : Visited) (a b : OriginAt T A)
      (before now : ℕ) (end : Option OriginEnd) → HasVisited sight disk doors a b visited → now ≡ capped (before + starved_at visited)
      → end ≡ end_at visited → KeepsOn sight disk doors a before b now end
  kept_on add none visited a b before now end is counted ends start first kept =
      let one = visited_one none visited a b is in
      let many = starved-append kept.visits one.0 in
      let was = kept.starved in
      let here = one.2 in
      let zero_is = one.3 in
      let end_is : starved_at_end end ≡ 0 = ap starved_at_end ends ∙ one.3 in
      record {
        visits = kept.visits ++ one.0;
        kept =
            kept_both add kept.visits one.0 end (sight start.desk) (sight a.desk) (sight b.desk) start.door a.door b.door end_is kept.kept
            (subst (λ e. HasKept disk doors one.0 e (sight a.desk) a.door (sight b.desk) b.door) (sym ends) one.1);
        starved = omega (arith, counted, many, was, here, end_is);
      }

  pub kept_none : NoTurnsChangeNothing (AsksFolder disk) → (a : OriginAt T A) (first : ℕ) → first ≡ capped first
      → IsKept sight disk doors None a first a first
  kept_none none a first small = record {
    visits = [];
    kept = kept_alone none None (sight a.desk) (sight a.desk) a.door a.door refl
        (keeps_still disk.tells (files_of sight disk doors a) doors a.door a.door (λ tells. refl) refl);
    starved = omega (arith, small);
  }

  pub keeps_all : (end : OriginEnd) (a : OriginAt T A) (before first : ℕ) (b : OriginAt T A) (count now : ℕ)
      → IsKept sight disk doors (Some end) a first b count → first ≡ 0 → now ≡ capped (before + count)
      → KeepsOrigin disk doors end (sight a.desk) a.door before (sight b.desk) b.door now
  keeps_all end a before first b count now is none sum =
      let counted = is.starved in
      record { visits = is.visits; kept = is.kept; starved = omega (arith, counted, none, sum) }

  pub keeps_nobody : NoTurnsChangeNothing (AsksFolder disk) → (desk : T) (door : A) (before now : ℕ) → now ≡ capped (before + 1)
      → KeepsOrigin disk doors NoMemory (sight desk) door before (sight desk) door now
  keeps_nobody none desk door before now counted = record {
    visits = [];
    kept = kept_alone none (Some NoMemory) (sight desk) (sight desk) door door refl
        (unbuffered disk.tells (files_below disk (sight desk).given) doors door);
    starved = omega (arith, counted);
  }
