-- A download that is told complete has each of its wanted pieces verified.
use Rattle.std.proofs.Common.{◌≡◌, ⊎_elim, ℕ, true, false, Option, Some, List, [], ◌∷◌, refl, sym, ap, ◌∙◌, subst, arith}
use Rattle.std.specs.Prelude.{Contains, slice_index_or, unwrap_or}
use Rattle.std.proofs.lemmas.Bool.{eq-eqb}
use Rattle.std.specs.Option.{option_and_then}
use Rattle.dl_history.proofs.Bools.{or_left, or_right}
use Rattle.dl_history.specs.OwnEvents.{OwnEvent}
use Rattle.dl_history.specs.PayloadParts.{is_verified_in}
use Rattle.dl_kinds.specs.declared.gid.Gid.{Gid}
use Rattle.durable_progress.proofs.Promised.{verified_later}
use Rattle.engine_core.specs.Askings.{is_completed_in, is_completion}
use Rattle.machine_core.specs.OwnParts.{PayloadLengths, lengths_by, no_lengths, own_of}
use Rattle.machine_core.specs.RunLegal.{IsLegal, MayFollow, download_in, known_lengths}
use Rattle.machine_core.specs.Starts.{Download, Listed, RunStart, Subject}
use Rattle.machine_core.specs.Wanted.{wanted_pieces}
use Rattle.machine_core.specs.declared.ends.End.TheVariants.{Complete}
use Rattle.machine_core.specs.declared.events.Event.{Event}
use Rattle.machine_core.specs.declared.events.Event.TheVariants.{Ended}
use Rattle.metainfo.specs.declared.meta.Meta.{Meta}
use Rattle.stored_run.specs.RunFollows.{RunFollows}
use Rattle.stored_run.proofs.Doing.{own_grows_on}
use Rattle.stored_run.proofs.Left.{one_of}
use Rattle.stored_run.proofs.PlainEvents.{gid_added}

-- the lengths that a metainfo file tells
abbrev pub lengths_told : Meta → PayloadLengths
lengths_told meta = record { total = meta.plan.total; piece_len = meta.plan.piece_len }

listed_lengths : (download : Download) (own : List OwnEvent) (subject : Subject) (meta : Meta) (uris : List (List ℕ))
    → subject ≡ Listed meta uris → lengths_by download subject own ≡ Some (lengths_told meta)
listed_lengths download own subject meta uris is =
    ap (λ (s : Subject). lengths_by download s own) is

-- .. are known at once
pub known_listed : (start : RunStart) (past : List Event) (gid : Gid) (download : Download) (meta : Meta) (uris : List (List ℕ))
    → download_in start past gid ≡ Some download → download.subject ≡ Listed meta uris
    → known_lengths start past gid ≡ lengths_told meta
known_listed start past gid download meta uris added is =
    ap (λ (o : Option PayloadLengths). unwrap_or o no_lengths)
    (ap (option_and_then (λ (d : Download). lengths_by d d.subject (own_of start past gid))) added
    ∙ listed_lengths download (own_of start past gid) download.subject meta uris is)

-- the download was added, and where it has a metainfo file each wanted piece is verified
pub record IsDone (start : RunStart) (past : List Event) (gid : Gid) : Type 0 where
  pub download : Download
  pub added : download_in start past gid ≡ Some download
  pub done : (meta : Meta) (uris : List (List ℕ)) → download.subject ≡ Listed meta uris
      → (piece : ℕ) → slice_index_or (wanted_pieces download (lengths_told meta)) piece false ≡ true
      → is_verified_in (own_of start past gid) piece ≡ true

verified_on : (start : RunStart) (e : Event) (past : List Event) (gid : Gid) (piece : ℕ)
    → is_verified_in (own_of start past gid) piece ≡ true → is_verified_in (own_of start (e ∷ past) gid) piece ≡ true
verified_on start e past gid piece is =
    let grown = own_grows_on start (e ∷ []) past gid in
    subst (λ (own : List OwnEvent). is_verified_in own piece ≡ true) (sym grown.1)
    (verified_later piece grown.0 (own_of start past gid) is)

module _ (laws : RunFollows) (start : RunStart) (gid : Gid) where
  done_here : (past : List Event) → MayFollow start past (Ended gid Complete) → IsDone start past gid
  done_here past may =
      let d = may.own.download in
      let gid_is = gid_added start past gid d may.own.added in
      record {
        download = d;
        added = may.own.added;
        done = λ meta uris is piece wanted.
            subst (λ (g : Gid). is_verified_in (own_of start past g) piece ≡ true) gid_is
            (may.cause.verified piece
            (subst (λ (l : PayloadLengths). slice_index_or (wanted_pieces d l) piece false ≡ true)
            (sym (known_listed start past gid d meta uris may.own.added is)) wanted));
      }

  done_on : (e : Event) (past : List Event) → IsDone start past gid → IsDone start (e ∷ past) gid
  done_on e past is = record {
    download = is.download;
    added = laws.downloads start past e gid is.download is.added;
    done = λ meta uris listed piece wanted. verified_on start e past gid piece (is.done meta uris listed piece wanted);
  }

  pub completed_done : (past : List Event) → IsLegal start past → Contains past (Ended gid Complete) → IsDone start past gid
  completed_done [] legal there = absurd (omega (arith, there.1))
  completed_done (e ∷ past) legal there = ⊎_elim
      (λ (here : e ≡ Ended gid Complete). done_on e past (done_here past (subst (MayFollow start past) here legal.1)))
      (λ (before : Contains past (Ended gid Complete)). done_on e past (completed_done past legal.0 before))
      (one_of e (Ended gid Complete) past there)

  pub completion_found : (past : List Event) → Contains past (Ended gid Complete) → is_completed_in past gid ≡ true
  completion_found [] there = absurd (omega (arith, there.1))
  completion_found (e ∷ past) there = ⊎_elim
      (λ (here : e ≡ Ended gid Complete). or_left (is_completion gid e) (is_completed_in past gid)
      (subst (λ (x : Event). is_completion gid x ≡ true) (sym here) (eq-eqb gid.0 gid.0 refl)))
      (λ (before : Contains past (Ended gid Complete)). or_right (is_completion gid e) (is_completed_in past gid)
      (completion_found past before))
      (one_of e (Ended gid Complete) past there)
