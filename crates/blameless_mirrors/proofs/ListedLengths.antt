-- The lengths that a metainfo file tells.
use Rattle.std.proofs.Common.{◌≡◌, ℕ, Option, Some, List, sym, ap, ◌∙◌}
use Rattle.std.specs.Prelude.{unwrap_or}
use Rattle.std.specs.Option.{option_and_then}
use Rattle.dl_kinds.specs.declared.gid.Gid.{Gid}
use Rattle.machine_core.specs.OwnParts.{PayloadLengths, lengths_by, no_lengths, own_of, payload_lengths_of}
use Rattle.machine_core.specs.RunLegal.{download_in, known_lengths}
use Rattle.machine_core.specs.Starts.{Download, Listed, RunStart, Subject}
use Rattle.machine_core.specs.declared.events.Event.{Event}
use Rattle.metainfo.specs.declared.meta.Meta.{Meta}

abbrev pub lengths_told : Meta → PayloadLengths
lengths_told meta = record { total = meta.plan.total; piece_len = meta.plan.piece_len }

-- they are known at once
pub known_listed : (start : RunStart) (past : List Event) (gid : Gid) (download : Download) (meta : Meta) (uris : List (List ℕ))
    → download_in start past gid ≡ Some download → download.subject ≡ Listed meta uris
    → known_lengths start past gid ≡ lengths_told meta
known_listed start past gid download meta uris added is =
    ap (λ (o : Option PayloadLengths). unwrap_or o no_lengths)
    (ap (option_and_then (λ (d : Download). lengths_by d d.subject (own_of start past gid))) added
    ∙ ap (λ (s : Subject). lengths_by download s (own_of start past gid)) is)

pub listed_known : (start : RunStart) (past : List Event) (gid : Gid) (download : Download) (meta : Meta) (uris : List (List ℕ))
    → download_in start past gid ≡ Some download → download.subject ≡ Listed meta uris → (l : PayloadLengths)
    → payload_lengths_of start past gid ≡ Some l → l ≡ lengths_told meta
listed_known start past gid download meta uris added is l known =
    let told : payload_lengths_of start past gid ≡ Some (lengths_told meta) =
    ap (option_and_then (λ (d : Download). lengths_by d d.subject (own_of start past gid))) added
    ∙ ap (λ (s : Subject). lengths_by download s (own_of start past gid)) is in
    let both : Some l ≡ Some (lengths_told meta) = sym known ∙ told in cc
