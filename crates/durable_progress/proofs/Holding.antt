-- What the steps of the store leave of what every image has of an opened download.
use Rattle.std.proofs.Common.{◌≡◌, ◌⊎◌, inl, inr, ⊎_elim, Bool, true, false, List, slice_get, slice_index_or, Some, refl, sym, ap, ◌∙◌, subst}
use Rattle.std.specs.Prelude.{◌↔◌}
use Rattle.std.proofs.lemmas.Option.{get_or_from_slice_get}
use Rattle.dl_disk.specs.Files.{Files}
use Rattle.dl_kinds.specs.Plan.{IsPlan}
use Rattle.dl_kinds.specs.PlanLaws.{BlocksAreOfPieces, BlocksFollow}
use Rattle.dl_kinds.specs.declared.runs.Run.{Run}
use Rattle.payload_files.proofs.SliceSteps.{torn_none}
use Rattle.piece_table.specs.Progress.{Progress}
use Rattle.control_file.specs.Laws.{WrittenIsReadBack}
use Rattle.control_file.specs.Spelling.{control_bytes}
use Rattle.control_file.specs.Wants.{IsWant}
use Rattle.control_file.specs.declared.fields.ByteOrder.TheVariants.{Big}
use Rattle.control_file.specs.declared.want.Opened.{Opened}
use Rattle.control_file.specs.declared.want.Want.{Want}
use Rattle.dl_history.specs.Accounts.{listing_of}
use Rattle.dl_history.specs.Listings.{Listing}
use Rattle.dl_history.proofs.Bools.{true_not_false}
use Rattle.resume_core.specs.Found.{Used, found, found_in}
use Rattle.resume_core.specs.Listing.{GivesJust}
use Rattle.resume_core.specs.Openings.{IsOpenedIn}
use Rattle.resume_core.specs.Resume.{ResumesPiece}
use Rattle.resume_core.specs.RunLaws.{TornUnder}
use Rattle.resume_core.specs.Runs.{IsControlUsed, LacksRun, TornRun, run_len}
use Rattle.resume_core.specs.Steps.{SameFor, Finishes, IsFinished}
use Rattle.resume_core.specs.Tables.{IsTableSaved, SavesTable}
use Rattle.resume_core.specs.Wants.{control_name}
use Rattle.resume_core.proofs.Apart.{control_other}
use Rattle.resume_core.proofs.Filed.{files_kept}
use Rattle.resume_core.proofs.Fitted.{has_same}
use Rattle.resume_core.proofs.Same.{agrees_same}
use Rattle.resume_core.proofs.Saved.{gives_just, agrees_saved, written_is_used}
use Rattle.resume_core.proofs.Torn.{agrees_still, whole_within}
use Rattle.span_map.specs.Jobs.{run_start}
use Rattle.durable_progress.specs.Held.{IsHeld, IsHeldByEither, GivesListing}
use Rattle.durable_progress.specs.HeldLaws.{ListsNoneOf, SavesFrom, WritesUnlisted}
use Rattle.durable_progress.proofs.Listings.{table_lists}

-- ---- what is given

module _ (back : WrittenIsReadBack) (want : Want) (listing : Listing) (seen image : Files) (is : IsWant want)
    (held : IsHeld want listing seen image) where
  just : GivesJust want held.control image
  just = gives_just back want held.control image image is held.lists.listing held.files
      (record { control = held.bytes; files = refl })

  pub held_gives : GivesListing want listing image
  held_gives = record {
    pieces = λ piece. subst (λ (row : List Bool). ResumesPiece want image piece ↔ (slice_get row piece ≡ Some true))
        held.lists.pieces (just.pieces piece);
    blocks = λ block.
        let lists = held.lists.blocks block in
        let gives = just.blocks block in
        (λ h. lists.0 (gives.0 h), λ h. gives.1 (lists.1 h));
  }

  control_used : found_in want image ≡ Used held.control
  control_used = ap (found want) held.bytes ∙ written_is_used back want held.control held.lists.listing

  pub held_lacks : (run : Run) → ListsNoneOf listing run → LacksRun want run image
  held_lacks run none = record {
    used = subst IsControlUsed (sym control_used) tt;
    blocks = λ block of_run gives.
        let listed = get_or_from_slice_get listing.blocks block true false ((held_gives.blocks block).0 gives) in
        true_not_false (slice_index_or listing.blocks block false) listed (none block of_run);
  }

-- ---- openings and saves

pub opened_held : (want : Want) (opened : Opened) (seen image : Files) → IsOpenedIn want opened seen image
    → IsHeld want (record { pieces = opened.verified; blocks = opened.blocks }) seen image
opened_held want opened seen image is = record {
  control = is.control;
  lists = is.lists;
  bytes = is.saved.control;
  files = is.files;
  agrees = agrees_saved want (control_bytes Big is.control) seen image is.saved;
}

pub same_held : (want : Want) (listing : Listing) (seen before image : Files) → SameFor want before image
    → IsHeld want listing seen before → IsHeld want listing seen image
same_held want listing seen before image same held = record {
  control = held.control;
  lists = held.lists;
  bytes = same.control ∙ held.bytes;
  files = has_same want before image same.files held.files;
  agrees = agrees_same want seen before image same held.agrees;
}

module _ (of_pieces : BlocksAreOfPieces) (want : Want) (table : Progress) (seen : Files)
    (from : SavesFrom want table seen) where
  pub saved_held : (image : Files) → IsTableSaved want table seen image → IsHeld want (listing_of table) seen image
  saved_held image saved =
      let plan : IsPlan table.total table.piece_len = rw (from.table_is.total, from.table_is.piece_len) from.want_is.plan in
      record {
        control = saved.control;
        lists = record {
          listing = saved.lists.listing;
          pieces = saved.lists.pieces;
          blocks = λ block.
              let row = table_lists of_pieces table plan from.valid block in
              let listed = saved.lists.blocks block in
              (λ h. row.1 (listed.0 h), λ h. listed.1 (row.0 h));
        };
        bytes = saved.saved.control;
        files = has_same want seen image saved.saved.files from.files;
        agrees = agrees_saved want (control_bytes Big saved.control) seen image saved.saved;
      }

  pub saves_hold : (listing : Listing) (before image : Files) → SavesTable want table seen before image
      → IsHeld want listing seen before → IsHeldByEither want listing (listing_of table) seen image
  saves_hold listing before image saves held = ⊎_elim
      (λ same. inl (same_held want listing seen before image same held))
      (λ saved. inr (saved_held image saved))
      saves.files

-- ---- writes

module _ (back : WrittenIsReadBack) (follow : BlocksFollow) (want : Want) (listing : Listing) (run : Run)
    (was now : Files) (writes : WritesUnlisted want listing run was now) where
  pub writes_hold : (before image : Files) → TornRun want run before image → IsHeld want listing was before
      → IsHeld want listing now image
  writes_hold before image tears held =
      let is = writes.want_is in
      let under : TornUnder want run before image = record {
        want_is = is;
        run_is = writes.run_is;
        lacks = held_lacks back want listing was before is held run writes.none;
        tears = tears;
      } in
      record {
        control = held.control;
        lists = held.lists;
        bytes = tears.others (control_name want) (control_other want is) ∙ held.bytes;
        files = tears.standing held.files;
        agrees = agrees_still follow want run before image under (whole_within want before is held.files) was now
            writes.tears held.agrees;
      }

  pub elsewhere_hold : (image : Files) → IsHeld want listing was image → IsHeld want listing now image
  elsewhere_hold image held = writes_hold image image
      (torn_none want.dir want.layout (run_start want.plan run) (run_len want.plan run) image) held

-- ---- the end

pub finishes_hold : (want : Want) (listing : Listing) (seen before image : Files) → Finishes want seen before image
    → IsHeld want listing seen before → IsHeld want listing seen image ⊎ IsFinished want seen image
finishes_hold want listing seen before image finishes held = ⊎_elim
    (λ same. inl (same_held want listing seen before image
    (record { control = same (control_name want); files = files_kept want before image same }) held))
    (λ finished. inr finished)
    finishes.files
