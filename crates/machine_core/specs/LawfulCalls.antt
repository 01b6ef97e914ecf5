-- Which calls are lawful.
use Rattle.std.specs.Prelude.{◌≡◌, ◌+◌, ◌≤◌, ℕ, true, List, All, length, box_value}
use Rattle.dl_kinds.specs.declared.claims.TheConstants.{MAX_MIRRORS}
use Rattle.link_source.specs.Endpoint.{IsUsable}
use Rattle.metainfo.specs.Info.{info_of}
use Rattle.metainfo.specs.Rules.{IsMetaOfSome}
use Rattle.metainfo.specs.declared.meta.Meta.{Meta}
use Rattle.option_set.specs.Assignments.{option_of}
use Rattle.option_set.specs.Table.{table_row, is_changed_by_option, is_changed_globally}
use Rattle.option_set.specs.Values.{is_of_downloads}
use Rattle.option_set.specs.declared.setting.Assigned.{Assigned}
use Rattle.machine_core.specs.declared.calls.Call.{Call}
use Rattle.machine_core.specs.declared.calls.Call.TheVariants.{AddUri, AddTorrent, ChangeOption, ChangeGlobalOption}

-- 1 to 256 mirrors, each an `http` URL
pub record AreMirrors (count : ℕ) (uris : List (List ℕ)) : Type 0 where
  pub some : 1 ≤ count
  pub few : count ≤ MAX_MIRRORS
  pub usable : All IsUsable uris

-- options of downloads
abbrev pub AreOfDownloads : List Assigned → Type 0
AreOfDownloads options = All (λ setting. is_of_downloads (table_row (option_of setting)).scope ≡ true) options

abbrev pub AreChangedByOption : List Assigned → Type 0
AreChangedByOption options = All (λ setting. is_changed_by_option (table_row (option_of setting)).change ≡ true)
    options

abbrev pub AreChangedGlobally : List Assigned → Type 0
AreChangedGlobally options = All (λ setting. is_changed_globally (table_row (option_of setting)).change ≡ true)
    options

pub record IsLawfulTorrent (meta : Meta) (uris : List (List ℕ)) (options : List Assigned) : Type 0 where
  pub said : IsMetaOfSome (info_of meta)
  pub mirrors : AreMirrors (length meta.seeds + length uris) uris
  pub options_are : AreOfDownloads options

abbrev pub IsLawful : Call → Type 0
IsLawful (AddUri uris options position) = AreMirrors (length uris) uris × AreOfDownloads options
IsLawful (AddTorrent meta uris options position) = IsLawfulTorrent (box_value meta) uris options
IsLawful (ChangeOption key options) = AreChangedByOption options
IsLawful (ChangeGlobalOption options) = AreChangedGlobally options
IsLawful other = Unit {0}
