-- What those who took part did together, once their desk is closed.
use Rattle.std.proofs.Common.{◌≡◌, inl, inr, ◌+◌, ◌≤◌, ◌++◌, ℕ, zero, suc, Bool, List, [], ◌∷◌, Some, length, map, sym, ap, ◌∙◌, subst, arith, slice_get}
use Rattle.std.specs.List.{list_any}
use Rattle.conn_worker.specs.Works.{RunSight}
use Rattle.console_session.specs.declared.serving.Transcript.{Transcript}
use Rattle.desk_participants.specs.Seats.{edge_of, participants_from}
use Rattle.desk_participants.specs.Uses.{AllTookPart, Use, UsedInTurns, UsedWithPass}
use Rattle.desk_participants.proofs.Seating.{get_at}
use Rattle.desk_participants.proofs.Uses.{came_in, get_left, get_right, map_length, pass_in, some_at, used_in_turns}
use Rattle.dl_clock.specs.declared.clock.Clock.{Ghosts as ClockSays}
use Rattle.door_source.specs.declared.Doors.{Ghosts as DoorSays}
use Rattle.engine_core.specs.Beginnings.{ties_run}
use Rattle.engine_core.specs.EngineViews.{EngineStart}
use Rattle.engine_turns.specs.Told.{RunTurn}
use Rattle.link_source.specs.declared.Links.{Ghosts as LinkSays}
use Rattle.turn_desk.specs.Laws.{RankZeroIsFirst}
use Rattle.turn_desk.specs.Passes.{AreNumbered, IsClosed, IsNewPass}
use Rattle.turn_desk.specs.Turns.{StartsWith, turns_by}
use Rattle.run_lifecycle.specs.declared.console.ConsoleTerms.{ConsoleTerms}
use Rattle.shared_run.specs.Participants.{DoorKeeper, RunDesk, RunPass, ServesAt, Worker, WorksAt}
use Rattle.shared_run.specs.Together.{ComesFirst, Edges, UsesDoor, UsesLink, WorkedTogether, own_before}

-- the turns that a new pass had are those that its number had before
had_before : {D : Type 0} (solo : RunSight D) (desk : RunDesk D) (worker : ℕ) (pass : RunPass D)
    → IsNewPass solo desk (0 + worker) pass → pass.own ≡ own_before worker solo.own
had_before solo desk zero pass new = new.first (omega arith)
had_before solo desk (suc worker) pass new = new.others (omega arith)

module _ {D L K : Type 0} (links : LinkSays L) (clocks : ClockSays K) (solo : RunSight D) (desk : RunDesk D)
    (turns : List RunTurn) where
  link_used : (worker : ℕ) (used : Use L K Bool) → UsedWithPass (WorksAt links clocks) solo desk turns 0 worker used
      → UsesLink D links clocks solo.own turns worker used
  link_used worker used is =
      let none : 0 + worker ≡ worker = omega arith in
      let its = is.did.worked.its in
      let went = its.went in
      let mine = its.worked ++ its.stop in record {
        from = _;
        to = _;
        came = is.did.came;
        by_clock = is.did.worked;
        own = ap (λ (n : ℕ). turns_by n turns) (sym none)
            ∙ (is.own
            ∙ (went.own ∙ ap (λ (ts : List RunTurn). ts ++ mine) (had_before solo desk worker is.from is.new)));
        short_is = is.did.short_is;
      }

module _ {D A K : Type 0} (doors : DoorSays A) (clocks : ClockSays K) (console : ConsoleTerms) (solo : RunSight D)
    (desk : RunDesk D) (turns : List RunTurn) where
  door_used : (base door : ℕ) (used : Use A K Transcript) → 1 ≤ base
      → UsedWithPass (ServesAt doors clocks console) solo desk turns base door used
      → UsesDoor D doors clocks console turns (base + door) door used
  door_used base door used some is =
      let none = is.new.others (omega (arith, some)) in
      let its = is.did.its in
      let mine = its.before ++ its.last ∷ [] in record {
        from = _;
        to = _;
        its = its;
        asked = is.did.asked;
        own = is.own ∙ (its.went.own ∙ ap (λ (ts : List RunTurn). ts ++ mine) none);
      }

module _ {D L A K : Type 0} {links : LinkSays L} {clocks : ClockSays K} {doors : DoorSays A} (console : ConsoleTerms)
    (solo : RunSight D) (desk : RunDesk D) (olds news : Edges L A K) (transcripts : List Transcript) (shorts : List Bool)
    (wp kp passes' : List (RunPass D)) (ws' : List (Worker D L K)) (ks' : List (DoorKeeper D A K)) (turns : List RunTurn)
    (w_same : length wp ≡ length olds.links) (k_same : length kp ≡ length olds.doors)
    (w_new : (place : ℕ) (pass : RunPass D) → slice_get wp place ≡ Some pass → IsNewPass solo desk (0 + place) pass)
    (k_new : (place : ℕ) (pass : RunPass D) → slice_get kp place ≡ Some pass
    → IsNewPass solo desk (length olds.links + place) pass)
    (w_took : AllTookPart desk (WorksAt links clocks) (participants_from 0 wp olds.links) ws')
    (k_took : AllTookPart desk (ServesAt doors clocks console) (participants_from 0 kp olds.doors) ks')
    (w_edges : map edge_of ws' ≡ news.links) (w_came : map came_in ws' ≡ map Some shorts)
    (k_edges : map edge_of ks' ≡ news.doors) (k_came : map came_in ks' ≡ map Some transcripts)
    (many_ws : length ws' ≡ length olds.links)
    (passes_are : map Some passes' ≡ map pass_in ws' ++ map pass_in ks')
    (count : desk.passes ≡ length olds.links + length olds.doors)
    (closed : IsClosed ties_run desk passes' turns) where
  by_links : UsedInTurns (WorksAt links clocks) solo desk turns 0 olds.links news.links shorts
  by_links = used_in_turns desk (WorksAt links clocks) ties_run solo 0 wp olds.links news.links ws' shorts turns passes'
      (λ n s s' e e' y did. did.worked.its.went.number) w_same w_new w_took w_edges w_came
      (λ place pass is.
      let none : 0 + place ≡ place = omega arith in
      ap (slice_get passes') none
      ∙ some_at (map pass_in ws' ++ map pass_in ks') passes' place pass passes_are
      (get_left (map pass_in ws') (map pass_in ks') place (Some pass) is)) closed

  by_doors : UsedInTurns (ServesAt doors clocks console) solo desk turns (length olds.links) olds.doors news.doors transcripts
  by_doors =
      let many = map_length pass_in ws' ∙ many_ws in
      used_in_turns desk (ServesAt doors clocks console) ties_run solo (length olds.links) kp olds.doors news.doors ks' transcripts
      turns passes' (λ n s s' e e' y did. did.its.went.number) k_same k_new k_took k_edges k_came
      (λ place pass is.
      some_at (map pass_in ws' ++ map pass_in ks') passes' (length olds.links + place) pass passes_are
      (ap (λ (n : ℕ). slice_get (map pass_in ws' ++ map pass_in ks') (n + place)) (sym many)
      ∙ (get_right (map pass_in ws') (map pass_in ks') place ∙ is))) closed

  each_link : (worker : ℕ) (one : Use L K Bool) → slice_get by_links.uses worker ≡ Some one
      → UsesLink D links clocks solo.own turns worker one
  each_link worker one there = link_used links clocks solo desk turns worker one (by_links.each worker one there)

  -- the line's own call is the first of all
  call_first : 1 ≤ length olds.links → RankZeroIsFirst {T = EngineStart D} ties_run → ComesFirst solo.own
      → StartsWith turns solo.own
  call_first some zero_first (inl none) = (turns, ap (λ (ts : List RunTurn). ts ++ turns) (sym none))
  call_first some zero_first (inr one) =
      let many = by_links.many in
      let first = get_at by_links.uses 0 (omega (arith, some, many)) in
      let own = each_link 0 first.0 first.1 in
      let behind = own.by_clock.its.worked ++ own.by_clock.its.stop in
      let cut = zero_first desk.given turns 0 one.0 behind closed.whole
      (own.own ∙ ap (λ (ts : List RunTurn). ts ++ behind) one.1) one.2 in
      (cut.0, cut.1 ∙ ap (λ (ts : List RunTurn). ts ++ cut.0) (sym one.1))

  pub worked_together : (short : Bool) → short ≡ list_any (λ (its : Bool). its) shorts → 1 ≤ length olds.links
      → RankZeroIsFirst {T = EngineStart D} ties_run → ComesFirst solo.own
      → WorkedTogether D links clocks doors console solo.own olds news transcripts turns short
  worked_together short short_is some zero_first first =
      let many = by_links.many in
      let many_doors = by_doors.many in
      let all : desk.passes ≡ length by_links.uses + length by_doors.uses = omega (arith, count, many, many_doors) in
      record {
        uses = by_links.uses;
        shorts = shorts;
        used = by_links.used;
        short_is = short_is;
        door_uses = by_doors.uses;
        doors_used = by_doors.used;
        first = call_first some zero_first first;
        numbered = subst (λ (n : ℕ). AreNumbered n turns) all closed.numbered;
        each = each_link;
        each_door = λ door one there.
            subst (λ (n : ℕ). UsesDoor D doors clocks console turns (n + door) door one) (sym many)
            (door_used doors clocks console solo desk turns (length olds.links) door one some (by_doors.each door one there));
      }
