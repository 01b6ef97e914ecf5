-- The call that adds a download of a metainfo file, and the download's want.
use Rattle.std.proofs.Common.{◌≡◌, ℕ, List, [], ◌∷◌, ◌++◌, Option, Some, None, Ok, refl, sym, ap, ◌∙◌, subst}
use Rattle.std.specs.Prelude.{box_value}
use Rattle.std.specs.Option.{option_and_then}
use Rattle.command_line.specs.declared.source.Source.TheVariants as source
use Rattle.control_file.specs.declared.want.Want.{Want}
use Rattle.dl_disk.specs.Files.{Files}
use Rattle.dl_kinds.specs.declared.gid.Gid.{Gid}
use Rattle.command_call.specs.Files.{Says}
use Rattle.command_call.specs.Sources.{IsCallOf}
use Rattle.machine_core.specs.DownloadWants.{HasWant, digests_of_subject, files_of_subject}
use Rattle.machine_core.specs.FileNames.{IsPayloadName, folder_in}
use Rattle.machine_core.specs.OwnParts.{PayloadLengths, lengths_by, own_of}
use Rattle.machine_core.specs.RunLegal.{DownloadsStay, download_in, info_hash_by}
use Rattle.machine_core.specs.Starts.{Download, Listed, RunStart, Subject}
use Rattle.machine_core.specs.declared.calls.Call.{Call}
use Rattle.machine_core.specs.declared.calls.Call.TheVariants as call
use Rattle.machine_core.specs.declared.events.Event.{Event}
use Rattle.metainfo.specs.Info.{Info, info_of}
use Rattle.metainfo.specs.Rules.{metainfo_of}
use Rattle.metainfo.specs.declared.meta.Meta.{Meta}
use Rattle.option_set.specs.declared.setting.Assigned.{Assigned}
use Rattle.served_runs.proofs.FirstAdded.{AddsFirst}
use Rattle.served_runs.proofs.Metas.{meta_one}

-- ---- what a metainfo file says

pub says_one : (file : Option (List ℕ)) (one other : Info) → Says file one → Says file other → one ≡ other
says_one file one other is also =
    let same : Some is.bytes ≡ Some also.bytes = sym is.has.holds ∙ also.has.holds in
    let bytes : is.bytes ≡ also.bytes = cc in
    let infos : Ok one ≡ Ok other = sym is.says ∙ (ap metainfo_of bytes ∙ also.says) in
    cc

-- its call
pub record CallOfFile (asked : Option Call) (meta : Meta) (uris : List (List ℕ)) (settings : List Assigned) : Type 0 where
  pub its : Call
  pub is : asked ≡ Some its
  pub adds : AddsFirst its (Listed meta uris) settings

pub call_of_file : (seen : Files) (file : List ℕ) (meta : Meta) (uris : List (List ℕ)) (settings : List Assigned)
    (asked : Option Call) → Says (seen file) (info_of meta) → IsCallOf seen (source.Metainfo file uris) settings asked
    → CallOfFile asked meta uris settings
call_of_file seen file meta uris settings None said called = absurd called
call_of_file seen file meta uris settings (Some (call.AddTorrent m us os position)) said called =
    let adds : (info_of (box_value m) ≡ called.0) × (us ≡ uris) × (os ≡ settings) × (position ≡ None) = called.2 in
    record {
      its = call.AddTorrent m us os position;
      is = refl;
      adds = (
        (λ i. Listed (meta_one (box_value m) meta (adds.0 ∙ says_one (seen file) called.0 (info_of meta) called.1 said) i)
            (adds.1 i)),
        adds.2,
        adds.3,
      );
    }
call_of_file seen file meta uris settings (Some other) said called = absurd called.2

-- ---- a download's want

abbrev pub want_of : Download → Meta → Want
want_of d meta = record {
  base = meta.name;
  dir = folder_in d;
  layout = meta.layout;
  plan = meta.plan;
  digests = meta.digests;
  info_hash = Some meta.info_hash;
}

pub has_want : (start : RunStart) (past : List Event) (gid : Gid) (d : Download) (meta : Meta) (uris : List (List ℕ))
    → download_in start past gid ≡ Some d → d.subject ≡ Listed meta uris → HasWant start past gid (want_of d meta)
has_want start past gid d meta uris added subject =
    let lengths : PayloadLengths = record { total = meta.plan.total; piece_len = meta.plan.piece_len } in
    record {
      download = d;
      added = added;
      lengths = lengths;
      known = ap (option_and_then (λ (e : Download). lengths_by e e.subject (own_of start past gid))) added
          ∙ ap (λ (s : Subject). lengths_by d s (own_of start past gid)) subject;
      is = record {
        base = subst (λ (s : Subject). IsPayloadName d s meta.name) (sym subject) refl;
        dir = refl;
        layout = sym (ap (λ (s : Subject). files_of_subject s meta.name meta.plan.total) subject);
        plan = refl;
        digests = sym (ap digests_of_subject subject);
        info_hash = sym (ap info_hash_by subject);
      };
    }

-- a download stays
pub download_on : DownloadsStay → (start : RunStart) (newer base : List Event) (gid : Gid) (d : Download)
    → download_in start base gid ≡ Some d → download_in start (newer ++ base) gid ≡ Some d
download_on stay start [] base gid d added = added
download_on stay start (e ∷ newer) base gid d added =
    stay start (newer ++ base) e gid d (download_on stay start newer base gid d added)
