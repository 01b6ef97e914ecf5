-- The passes of a desk are shared out: the first ones to the workers, the last ones to the sessions of doors.
use Rattle.std.proofs.Common.{◌≡◌, ◌+◌, ◌-◌, ◌≤◌, ◌++◌, ℕ, Bool, List, [], Option, Some, length, map, sym, ap, ◌∙◌, subst, arith, slice_get, take, length-append}
use Rattle.std.proofs.lemmas.List.{length-drop, length-take-le}
use Rattle.conn_worker.specs.Works.{RunSight}
use Rattle.console_session.specs.declared.serving.Transcript.{Transcript}
use Rattle.desk_participants.specs.Seats.{last_for, participants_from, rest_for}
use Rattle.desk_participants.specs.Uses.{AllTookPart}
use Rattle.desk_participants.proofs.Uses.{from_length, get_drop, get_take, map_length, pass_in}
use Rattle.dl_clock.specs.declared.clock.Clock.{Ghosts as ClockSays}
use Rattle.door_source.specs.declared.Doors.{Ghosts as DoorSays}
use Rattle.link_source.specs.declared.Links.{Ghosts as LinkSays}
use Rattle.turn_desk.specs.Passes.{IsNewPass}
use Rattle.run_lifecycle.specs.declared.console.ConsoleTerms.{ConsoleTerms}
use Rattle.shared_run.specs.Participants.{DoorKeeper, RunPass, ServesAt, Worker, WorksAt}
use Rattle.shared_run.specs.Together.{IsShared}
use Rattle.shared_run.specs.declared.work.Shared.{Shared}

module _ {D L A K : Type 0} (solo : RunSight D) (shared : Shared D L A K) (links : List (L × K)) (doors : List (A × K))
    (is : IsShared solo (length links + length doors) shared) (front : List (RunPass D))
    (front_is : front ≡ rest_for doors shared.passes.items) where
  abbrev passes : List (RunPass D)
  passes = shared.passes.items

  abbrev left : ℕ
  left = length passes - length doors

  left_is : left ≡ length links
  left_is = let many = is.many in omega (arith, many)

  pub for_doors : length (last_for doors passes) ≡ length doors
  for_doors =
      let many = is.many in
      let rest = length-drop left passes in
      omega (arith, many, rest)

  pub new_for_doors : (place : ℕ) (pass : RunPass D) → slice_get (last_for doors passes) place ≡ Some pass
      → IsNewPass solo shared.desk (length links + place) pass
  new_for_doors place pass there =
      subst (λ (n : ℕ). IsNewPass solo shared.desk (n + place) pass) left_is
      (is.new (left + place) pass (sym (get_drop left passes place) ∙ there))

  many_front : length front ≡ length links
  many_front =
      let many = is.many in
      let low : left ≤ length passes = omega arith in
      ap length front_is ∙ (length-take-le left passes low ∙ left_is)

  none_left : length front - length links ≡ 0
  none_left = let many = many_front in omega (arith, many)

  pub for_links : length (last_for links front) ≡ length links
  for_links =
      let many = many_front in
      let rest = length-drop (length front - length links) front in
      omega (arith, many, rest)

  pub new_for_links : (place : ℕ) (pass : RunPass D) → slice_get (last_for links front) place ≡ Some pass
      → IsNewPass solo shared.desk (0 + place) pass
  new_for_links place pass there =
      let stands = sym (get_drop (length front - length links) front place) ∙ there in
      let first = ap (λ (n : ℕ). slice_get front (n + place)) (sym none_left) ∙ stands in
      is.new (0 + place) pass
      (get_take left passes (0 + place) pass (ap (λ (ps : List (RunPass D)). slice_get ps (0 + place)) (sym front_is) ∙ first))

  pub no_pass_left : rest_for links front ≡ []
  no_pass_left = ap (λ (n : ℕ). take n front) none_left

  pub many_passes : length passes ≡ length links + length doors
  many_passes = is.many

  -- ---- behind the work

  module _ {links_say : LinkSays L} {clocks_say : ClockSays K} {doors_say : DoorSays A} (console : ConsoleTerms)
      (workers ws' : List (Worker D L K)) (keepers ks' : List (DoorKeeper D A K)) (w_seated : workers ≡ participants_from 0 (last_for links front) links)
      (k_seated : keepers ≡ participants_from 0 (last_for doors passes) doors)
      (worked : AllTookPart shared.desk (WorksAt links_say clocks_say) workers ws')
      (served : AllTookPart shared.desk (ServesAt doors_say clocks_say console) keepers ks') where
    pub many_workers : length ws' ≡ length links
    many_workers = worked.many ∙ (ap length w_seated ∙ from_length Bool 0 (last_for links front) links for_links)

    pub many_keepers : length ks' ≡ length doors
    many_keepers = served.many ∙ (ap length k_seated ∙ from_length Transcript 0 (last_for doors passes) doors for_doors)

    module _ (left_over with_workers : List (RunPass D)) (left_is_none : left_over ≡ rest_for links front)
        (w_passes : map Some with_workers ≡ map Some left_over ++ map pass_in ws') where
      w_are : map Some with_workers ≡ map pass_in ws'
      w_are = w_passes ∙ ap (λ (ps : List (RunPass D)). map Some ps ++ map pass_in ws') (left_is_none ∙ no_pass_left)

      pub many_back_of_workers : length with_workers ≡ length links
      many_back_of_workers =
          let one = map_length Some with_workers in
          let two = map_length pass_in ws' in
          let both = ap length w_are in
          let all = many_workers in
          omega (arith, one, two, both, all)

      module _ (back : List (RunPass D)) (k_passes : map Some back ≡ map Some with_workers ++ map pass_in ks') where
        pub passes_are : map Some back ≡ map pass_in ws' ++ map pass_in ks'
        passes_are = k_passes ∙ ap (λ (os : List (Option (RunPass D))). os ++ map pass_in ks') w_are

        pub many_back : length back ≡ length links + length doors
        many_back =
            let one = map_length Some back in
            let two = map_length pass_in ws' in
            let three = map_length pass_in ks' in
            let both = ap length passes_are in
            let sum = length-append (map pass_in ws') (map pass_in ks') in
            let workers_are = many_workers in
            let keepers_are = many_keepers in
            omega (arith, one, two, three, both, sum, workers_are, keepers_are)
