-- The laws of marks that are paid for.
use Rattle.std.proofs.Common.{◌≡◌, ⊎_elim, ℕ, ◌+◌, ◌≤◌, Some, List, sym, ap, ◌∙◌, subst, arith}
use Rattle.std.specs.Option.{option_and_then}
use Rattle.control_file.specs.declared.want.Want.{Want}
use Rattle.dl_disk.specs.State.{DiskState}
use Rattle.dl_kinds.specs.PlanLaws.{BlocksFollow, PlacesAreNumbered}
use Rattle.dl_kinds.specs.declared.gid.Gid.{Gid}
use Rattle.engine_core.proofs.Turned.{same_download}
use Rattle.engine_turns.specs.Told.{RunTurn, history_of}
use Rattle.machine_core.specs.DownloadWants.{IsWantOf}
use Rattle.machine_core.specs.OwnParts.{PayloadLengths, lengths_by, own_of, payload_lengths_of}
use Rattle.machine_core.specs.RunSteps.{OpenedHavePlans}
use Rattle.machine_core.specs.Starts.{Download, RunStart, Subject}
use Rattle.metainfo.specs.declared.meta.Meta.{Meta}
use Rattle.stored_run.specs.RunFollows.{RunFollows}
use Rattle.blameless_mirrors.specs.Blameless.{IsListedAlone}
use Rattle.blameless_mirrors.proofs.ListedLengths.{lengths_told, listed_known}
use Rattle.mark_costs.specs.Paid.{AffordedNeverDie, CostAtMost, HasPiece, IsListedRun, MarksArePaid, marks_for}
use Rattle.mark_costs.proofs.Ledger.{Ledger, ledger, never_dead}
use Rattle.mark_costs.proofs.Standing.{Clean, Stands}

-- its want is the one of its metainfo file
want_told : (start : RunStart) (told : List RunTurn) (gid : Gid) (meta : Meta) (want : Want)
    → (l : IsListedAlone start told gid meta want) → IsWantOf l.download (lengths_told meta) want
want_told start told gid meta want l =
    let past = history_of told in
    let same : l.has.download ≡ l.download = same_download start past gid l.has.download l.download l.has.added l.added in
    let known : payload_lengths_of start past gid ≡ Some (lengths_told meta) =
    ap (option_and_then (λ (d : Download). lengths_by d d.subject (own_of start past gid))) l.added
    ∙ ap (λ (s : Subject). lengths_by l.download s (own_of start past gid)) l.subject in
    let lengths : l.has.lengths ≡ lengths_told meta =
    let some : Some l.has.lengths ≡ Some (lengths_told meta) = sym l.has.known ∙ known in cc in
    subst (λ (d : Download). IsWantOf d (lengths_told meta) want) same
    (subst (λ (n : PayloadLengths). IsWantOf l.has.download n want) lengths l.has.is)

module _ (laws : RunFollows) (plans : OpenedHavePlans) (follow : BlocksFollow) (numbered : PlacesAreNumbered) where
  module _ (start : RunStart) (told : List RunTurn) (disk : DiskState) (gid : Gid) (mirror : ℕ) (meta : Meta) (want : Want)
      (held : List ℕ) (piece most : ℕ) (is : IsListedRun start told disk gid meta want) (has : HasPiece meta held piece)
      (cost : CostAtMost gid mirror meta held piece told most) where
    abbrev its : IsListedAlone start told gid meta want
    its = is.listed

    stands : Stands laws plans follow start disk gid mirror (lengths_told meta) want held its.download
        (want_told start told gid meta want its) piece told
    stands = record {
      legal = is.run.legal;
      ties = is.run.ties;
      marks = is.run.marks;
      fits = is.run.fits;
      alone = its.alone;
      only = its.only;
      same = λ d added. same_download start (history_of told) gid d its.download added its.added;
      known = listed_known start (history_of told) gid its.download meta its.uris its.added its.subject;
    }

    held_so : Ledger laws plans follow numbered start disk gid mirror meta want held its.download its.uris its.subject
        (want_told start told gid meta want its) piece has told most
    held_so = ledger laws plans follow numbered start disk gid mirror meta want held its.download its.uris its.subject
        (want_told start told gid meta want its) piece has told stands is.memory is.well most cost

    pub paid : marks_for start told gid mirror piece ≤ most
    paid = ⊎_elim
        (λ (less : marks_for start told gid mirror piece + 1 ≤ most). omega (arith, less))
        (λ (clean : (marks_for start told gid mirror piece ≤ most)
        × Clean laws plans follow start disk gid mirror (lengths_told meta) want held its.download
        (want_told start told gid meta want its) piece told). clean.0) held_so

  module _ {D : Type 0} (state : D → DiskState) where
    pub marks_paid : MarksArePaid state
    marks_paid start told disk gid mirror meta want held piece most is has cost =
        paid start told (state disk) gid mirror meta want held piece most is has cost

    pub afforded : AffordedNeverDie state
    afforded start told disk gid meta want is piece can =
        let l = is.listed in
        never_dead start gid can.mirror piece laws l.download can.most can.known can.fewer (history_of told) is.run.legal
        (λ d added. same_download start (history_of told) gid d l.download added l.added)
        (paid start told (state disk) gid can.mirror meta want can.held piece can.most is can.has can.cost)
