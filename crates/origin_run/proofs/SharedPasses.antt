-- The passes of the desk, one for each door.
use Rattle.std.proofs.Common.{◌≡◌, ◌+◌, ◌-◌, ℕ, List, [], Some, length, map, sym, ap, ◌∙◌, arith, slice_get, take, ◌++◌}
use Rattle.std.proofs.lemmas.List.{length-drop}
use Rattle.console_session.specs.declared.serving.Transcript.{Transcript}
use Rattle.desk_participants.specs.Seats.{last_for, participants_from, rest_for}
use Rattle.desk_participants.specs.Uses.{AllTookPart}
use Rattle.desk_participants.proofs.Uses.{from_length, get_drop, map_length, pass_in}
use Rattle.dl_disk.specs.declared.disk.Disk.{Ghosts as DiskSays}
use Rattle.door_source.specs.declared.Doors.{Ghosts as DoorSays}
use Rattle.range_origin.specs.Talking.{ShelfSight}
use Rattle.turn_desk.specs.Passes.{IsNewPass}
use Rattle.origin_run.specs.Doors.{ServesDoorAt}
use Rattle.origin_run.specs.Sharing.{IsShared, Keeper, ShelfPass}
use Rattle.origin_run.specs.declared.sharing.Shared.{Shared}

module _ {D A K : Type 0} (solo : ShelfSight D) (shared : Shared D A K) (doors : List (A × K))
    (is : IsShared solo (length doors) shared) where
  abbrev passes : List (ShelfPass D)
  passes = shared.passes.items

  none_before : length passes - length doors ≡ 0
  none_before = let many = is.many in omega (arith, many)

  pub for_doors : length (last_for doors passes) ≡ length doors
  for_doors =
      let many = is.many in
      let rest = length-drop (length passes - length doors) passes in
      omega (arith, many, rest)

  pub new_for_doors : (place : ℕ) (pass : ShelfPass D) → slice_get (last_for doors passes) place ≡ Some pass
      → IsNewPass solo shared.desk (0 + place) pass
  new_for_doors place pass there =
      is.new (0 + place) pass
      (ap (λ (n : ℕ). slice_get passes (n + place)) (sym none_before)
      ∙ (sym (get_drop (length passes - length doors) passes place) ∙ there))

  pub no_pass_left : rest_for doors passes ≡ []
  no_pass_left = ap (λ (n : ℕ). take n passes) none_before

  -- ---- behind the serving

  module _ (disk : DiskSays D) (doors_say : DoorSays A) (keepers ks' : List (Keeper D A K))
      (seated : keepers ≡ participants_from 0 (last_for doors passes) doors)
      (served : AllTookPart shared.desk (ServesDoorAt disk doors_say) keepers ks') where
    pub many_keepers : length ks' ≡ length doors
    many_keepers = served.many ∙ (ap length seated ∙ from_length Transcript 0 (last_for doors passes) doors for_doors)

    module _ (left back : List (ShelfPass D)) (left_is : left ≡ rest_for doors passes)
        (back_is : map Some back ≡ map Some left ++ map pass_in ks') where
      pub passes_are : map Some back ≡ map pass_in ks'
      passes_are = back_is ∙ ap (λ (ps : List (ShelfPass D)). map Some ps ++ map pass_in ks') (left_is ∙ no_pass_left)

      pub many_back : length back ≡ length doors
      many_back =
          let one = map_length Some back in
          let two = map_length pass_in ks' in
          let both = ap length passes_are in
          let keepers_are = many_keepers in
          omega (arith, one, two, both, keepers_are)
