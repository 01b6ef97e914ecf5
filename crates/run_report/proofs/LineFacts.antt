-- What a line tells of a download that was added.
use Rattle.std.proofs.Common.{◌≡◌, ℕ, Bool, true, List, ap, subst}
use Rattle.std.specs.Prelude.{Err, IfOk, None, Ok, Option, Result, Some}
use Rattle.std.specs.Option.{is_some, option_map}
use Rattle.dl_kinds.specs.declared.gid.Gid.{Gid}
use Rattle.option_set.specs.Values.{OptionValues}
use Rattle.machine_core.specs.MachineParts.{subject_of_call}
use Rattle.machine_core.specs.OwnParts.{PayloadLengths, payload_lengths_of}
use Rattle.machine_core.specs.RunLegal.{download_in}
use Rattle.machine_core.specs.Starts.{Download, RunStart, Subject, Listed, Unlisted}
use Rattle.metainfo.specs.declared.meta.Meta.{Meta}
use Rattle.machine_core.specs.declared.calls.Call.{Call}
use Rattle.machine_core.specs.declared.events.Event.{Event}
use Rattle.run_report.specs.Lines.{IsDownloadLine, fields_of, line_with}
use Rattle.run_report.specs.Paths.{IsPathBy, IsPathOf, IsRootName}
use Rattle.machine_core.specs.Asked.{known_by}
use Rattle.machine_core.specs.declared.asked.Lengths.{Lengths}

-- the length is known where it is told
pub told_known : (told : Option Lengths) (known : Option PayloadLengths) → option_map known_by told ≡ known
    → is_some told ≡ is_some known
told_known None known is = ap is_some is
told_known (Some lengths) known is = ap is_some is

-- what the path is by the call, it is by the download
pub is_line : (start : RunStart) (past : List Event) (gid : Gid) (call : Call) (begun : OptionValues) (known : Bool)
    (path line : List ℕ) (found : Option Download) → download_in start past gid ≡ found
    → subject_of_call call ≡ option_map (λ (d : Download). d.subject) found
    → Some begun ≡ option_map (λ (d : Download). d.options) found
    → known ≡ is_some (payload_lengths_of start past gid)
    → ((download : Download) → subject_of_call call ≡ Some download.subject → begun ≡ download.options
    → IsPathOf download known path)
    → line ≡ line_with gid (fields_of start past gid) path → IsDownloadLine start past gid line
is_line start past gid call begun known path line None added subject options known_is paths text = cc
is_line start past gid call begun known path line (Some d) added subject options known_is paths text =
    record {
      download = d;
      added = added;
      path = path;
      path_is = subst (λ k. IsPathOf d k path) known_is (paths d subject (cc));
      text = text;
    }

pub if_ok_map : {T E : Type 0} (result : Result T E) (P Q : T → Type 0) → ((x : T) → P x → Q x) → IfOk result P
    → IfOk result Q
if_ok_map (Ok x) P Q f is = f x is
if_ok_map (Err e) P Q f is = tt

-- the name of the payload is the path once the length is known ..
known_path_by : (download : Download) (subject : Subject) (path : List ℕ) → IsRootName download path
    → IsPathBy download subject true path
known_path_by download (Listed meta uris) path is = is
known_path_by download (Unlisted uris) path is = is

pub known_path : (download : Download) (path : List ℕ) → IsRootName download path → IsPathOf download true path
known_path download path is = known_path_by download download.subject path is

-- .. and of a download with a metainfo file
pub torrent_path : (download : Download) (meta : Meta) (uris : List (List ℕ)) (known : Bool) (path : List ℕ)
    → Some (Listed meta uris) ≡ Some download.subject → IsRootName download path → IsPathOf download known path
torrent_path download meta uris known path subject is =
    let same : Listed meta uris ≡ download.subject = cc in
    subst (λ s. IsPathBy download s known path) same is
