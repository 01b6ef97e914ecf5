-- What is held against a mirror that brings the payload.
use Rattle.std.proofs.Common.{◌≡◌, ⊎_elim, ℕ, ◌<◌, false, Some, List, [], ◌∷◌, sym, ap, ◌∙◌, subst, arith}
use Rattle.std.specs.Prelude.{Contains}
use Rattle.control_file.specs.declared.want.Want.{Want}
use Rattle.dl_disk.specs.State.{DiskState}
use Rattle.dl_kinds.specs.PlanLaws.{BlocksFollow, PlacesAreNumbered}
use Rattle.dl_kinds.specs.declared.gid.Gid.{Gid}
use Rattle.dl_kinds.specs.declared.marks.Mark.{Mark}
use Rattle.engine_core.proofs.Turned.{same_download}
use Rattle.engine_turns.specs.Told.{RunTurn, history_of}
use Rattle.machine_core.specs.DownloadWants.{IsWantOf}
use Rattle.machine_core.specs.OwnParts.{PayloadLengths, lengths_by, own_of, payload_lengths_of}
use Rattle.machine_core.specs.Starts.{Download, RunStart, Subject}
use Rattle.machine_core.specs.declared.events.Event.TheVariants.{Lost, Settled}
use Rattle.metainfo.specs.declared.meta.Meta.{Meta}
use Rattle.mirror_payloads.specs.Faithful.{IsFaithful}
use Rattle.piece_table.specs.declared.giver.Giver.TheVariants.{One}
use Rattle.machine_core.specs.RunSteps.{OpenedHavePlans}
use Rattle.blameless_mirrors.proofs.ListedLengths.{lengths_told, listed_known}
use Rattle.std.specs.Option.{option_and_then}
use Rattle.stored_run.specs.RunFollows.{RunFollows}
use Rattle.blameless_mirrors.specs.Blameless.{DeliveredAreRead, HasChosenPieces, HasFailedLink, IsBroughtBy, IsListedAlone, MarksAreOfLinks, NeverEndDead, StayEligible, WrongFindingsArentTheirs}
use Rattle.blameless_mirrors.proofs.Delivered.{Stands, blocks_read}
use Rattle.blameless_mirrors.proofs.Findings.{come_of, never_wrong}
use Rattle.blameless_mirrors.proofs.Marks.{NothingMarks, mark_cause, never_dead, unmarked_eligible}

-- ---- what a run of such turns stands on

-- its want is the one of its metainfo file
want_told : (start : RunStart) (told : List RunTurn) (gid : Gid) (meta : Meta) (want : Want)
    → (l : IsListedAlone start told gid meta want) → IsWantOf l.download (lengths_told meta) want
want_told start told gid meta want l =
    let past = history_of told in
    let same : l.has.download ≡ l.download = same_download start past gid l.has.download l.download l.has.added l.added in
    let known : payload_lengths_of start past gid ≡ Some (lengths_told meta) =
    ap (option_and_then (λ (d : Download). lengths_by d d.subject (own_of start past gid))) l.added
    ∙ ap (λ (s : Subject). lengths_by l.download s (own_of start past gid)) l.subject in
    let lengths : l.has.lengths ≡ lengths_told meta =
    let some : Some l.has.lengths ≡ Some (lengths_told meta) = sym l.has.known ∙ known in cc in
    subst (λ (d : Download). IsWantOf d (lengths_told meta) want) same
    (subst (λ (n : PayloadLengths). IsWantOf l.has.download n want) lengths l.has.is)

-- a loss of a claim at the mirror tells a count
pub loss_counted : (start : RunStart) (gid : Gid) (mirror : ℕ) (payload : List ℕ) (told : List RunTurn)
    → IsFaithful start gid mirror payload told → (id piece : ℕ) (mark : Mark)
    → Contains (history_of told) (Lost gid id mirror piece mark) → 0 < mark.count
loss_counted start gid mirror payload [] all id piece mark there = absurd (let within = there.1 in omega (arith, within))
loss_counted start gid mirror payload (t ∷ before) all id piece mark there = ⊎_elim
    (λ (here : Contains t.events (Lost gid id mirror piece mark)). all.0.lost id piece mark here)
    (λ (was : Contains (history_of before) (Lost gid id mirror piece mark)).
    loss_counted start gid mirror payload before all.1 id piece mark was)
    (come_of (history_of before) t.events (Lost gid id mirror piece mark) there)

module _ (laws : RunFollows) (plans : OpenedHavePlans) (follow : BlocksFollow) (numbered : PlacesAreNumbered) where
  module _ (start : RunStart) (told : List RunTurn) (disk : DiskState) (gid : Gid) (mirror : ℕ) (meta : Meta) (want : Want)
      (payload : List ℕ) (is : IsBroughtBy start told disk gid mirror meta want payload) where
    abbrev its : IsListedAlone start told gid meta want
    its = is.listed

    stands : Stands laws plans follow start disk gid mirror (lengths_told meta) want payload its.download
        (want_told start told gid meta want its) told
    stands = record {
      legal = is.run.legal;
      ties = is.run.ties;
      marks = is.run.marks;
      fits = is.run.fits;
      faithful = is.faithful;
      alone = its.alone;
      only = its.only;
      same = λ d added. same_download start (history_of told) gid d its.download added its.added;
      known = listed_known start (history_of told) gid its.download meta its.uris its.added its.subject;
    }

    never_wrong_here : HasChosenPieces meta its.download.options payload → (piece : ℕ)
        → ¬ Contains (history_of told) (Settled gid piece false (One mirror))
    never_wrong_here of =
        never_wrong laws plans follow numbered start disk gid mirror meta want payload its.download its.uris its.subject
        (want_told start told gid meta want its) of told stands

    nothing_marks : HasChosenPieces meta its.download.options payload → ¬ HasFailedLink (history_of told) gid mirror
        → NothingMarks (history_of told) gid mirror
    nothing_marks of none = (
      never_wrong_here of,
      λ id piece mark there.
          none (id, piece, mark, there, loss_counted start gid mirror payload told is.faithful id piece mark there),
    )

  -- ---- the laws

  module _ {D : Type 0} (state : D → DiskState) where
    pub delivered_read : DeliveredAreRead state
    delivered_read start t before disk gid mirror meta want payload is =
        let l = is.listed in
        blocks_read laws plans follow start (state disk) gid mirror (lengths_told meta) want payload l.download
        (want_told start (t ∷ before) gid meta want l) t before
        (stands start (t ∷ before) (state disk) gid mirror meta want payload is)

    pub not_theirs : WrongFindingsArentTheirs state
    not_theirs start told disk gid mirror meta want payload is of =
        never_wrong_here start told (state disk) gid mirror meta want payload is of

    pub of_links : MarksAreOfLinks state
    of_links start told disk gid mirror meta want payload is of blame there same = ⊎_elim
        (λ (found : Contains (history_of told) (Settled gid blame.piece false (One blame.mirror))).
        absurd (never_wrong_here start told (state disk) gid mirror meta want payload is of blame.piece
        (subst (λ (m : ℕ). Contains (history_of told) (Settled gid blame.piece false (One m))) same found)))
        (λ (lost : (id : ℕ) × Contains (history_of told) (Lost gid id blame.mirror blame.piece blame.mark)).
        let at = subst (λ (m : ℕ). Contains (history_of told) (Lost gid lost.0 m blame.piece blame.mark)) same lost.1 in
        (lost.0, blame.piece, blame.mark, at, loss_counted start gid mirror payload told is.faithful lost.0 blame.piece blame.mark at))
        (mark_cause start gid blame (history_of told) there)

    pub stay_eligible : StayEligible state
    stay_eligible start told disk gid mirror meta want payload is of none =
        unmarked_eligible start (history_of told) gid mirror (nothing_marks start told (state disk) gid mirror meta want payload is of none)

    pub never_end_dead : NeverEndDead state
    never_end_dead start told disk gid mirror meta want payload is of none known some =
        let l = is.listed in
        never_dead laws start gid mirror l.download known some (history_of told) is.run.legal
        (λ d added. same_download start (history_of told) gid d l.download added l.added)
        (nothing_marks start told (state disk) gid mirror meta want payload is of none)
