-- The mirrors of a download, as they are told of a file (aria2 manual, `aria2.getUris`).
use Rattle.std.specs.Prelude.{ℕ, ◌==◌, Bool, true, false, Option, Some, None, List, map}
use Rattle.std.specs.List.{enumerate_from, list_any, range_with_len}
use Rattle.dl_kinds.specs.declared.claims.Claim.{Claim}
use Rattle.metainfo.specs.Urls.{seed_url_of}
use Rattle.metainfo.specs.declared.meta.Meta.{Meta}
use Rattle.machine_core.specs.Choices.{mirror_urls}
use Rattle.machine_core.specs.Openings.{meta_of_subject}
use Rattle.machine_core.specs.Starts.{Subject}
use Rattle.run_report.specs.declared.views.UriStatus.{UriStatus}
use Rattle.run_report.specs.declared.views.UriStatus.TheVariants.{Used, Waiting}
use Rattle.run_report.specs.declared.views.UriView.{UriView}

-- one of these claims has the mirror
abbrev pub is_used : List Claim → ℕ → Bool
is_used standing mirror = list_any (λ claim. claim.mirror == mirror) standing

abbrev pub uri_status : Bool → UriStatus
uri_status true = Used
uri_status false = Waiting

-- where the file of this number is at a mirror with this URL; a payload without a metainfo file is at the URL itself
abbrev pub file_url : Option Meta → ℕ → List ℕ → List ℕ
file_url None file url = url
file_url (Some meta) file url = seed_url_of meta.layout url file

abbrev pub uri_view : List Claim → Option Meta → ℕ → ℕ × List ℕ → UriView
uri_view standing meta file mirror =
    record { status = uri_status (is_used standing mirror.0); uri = file_url meta file mirror.1 }

-- .. of each mirror, in the order of their numbers
abbrev pub uri_views : List Claim → Subject → ℕ → List UriView
uri_views standing subject file =
    map (uri_view standing (meta_of_subject subject) file) (enumerate_from 0 (mirror_urls subject))

-- for each of so many mirrors whether a claim has it
abbrev pub used_row : List Claim → ℕ → List Bool
used_row standing mirrors = map (is_used standing) (range_with_len 0 mirrors)
