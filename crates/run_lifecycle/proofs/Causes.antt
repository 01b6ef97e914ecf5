-- What the history of a run tells of its disk was so.
use Rattle.std.proofs.Common.{◌≡◌, ◌-◌, ◌^◌, ◌<◌, ◌≤◌, inl, inr, ⊎_elim, ℕ, Bool, false, IsTrue, List, ◌∷◌, ◌++◌, Option, Some, refl, sym, ap, ◌∙◌, subst, arith}
use Rattle.std.specs.Prelude.{Contains, IsSome, reverse}
use Rattle.std.proofs.lemmas.Bool.{false≢true}
use Rattle.std.proofs.lemmas.List.Elements.{Contains-append_left}
use Rattle.dl_disk.specs.Files.{Files}
use Rattle.dl_disk.specs.State.{ReadSince}
use Rattle.dl_disk.specs.declared.disk.Disk.{Ghosts as DiskSays}
use Rattle.dl_kinds.specs.declared.gid.Gid.{Gid}
use Rattle.dl_kinds.specs.declared.outside.Sink.{Ghosts as SinkSays}
use Rattle.dl_kinds.specs.declared.runs.Moment.{Moment}
use Rattle.dl_kinds.specs.Counts.{Rose}
use Rattle.engine_core.specs.TurnReads.{ChecksAsRead, FitsFiles, IsFoundRight, OfItsWant, OpensAsRead, TakesAsRead}
use Rattle.engine_turns.proofs.Faults.{counts_within}
use Rattle.engine_turns.specs.Phases.{IsRisen}
use Rattle.engine_turns.specs.RunTurns.{turn_start}
use Rattle.engine_turns.specs.TurnLaws.{TurnsAppend}
use Rattle.engine_turns.specs.Told.{RunTurn, history_of}
use Rattle.engine_turns.specs.declared.operations.Operation.{Operation}
use Rattle.machine_core.specs.RunLegal.{download_in, info_hash_by, is_listed}
use Rattle.machine_core.specs.Starts.{Download, RunStart, Subject, Listed, Unlisted}
use Rattle.machine_core.specs.declared.ends.End.{End}
use Rattle.machine_core.specs.declared.ends.End.TheVariants as end
use Rattle.machine_core.specs.declared.events.Event.{Event}
use Rattle.machine_core.specs.declared.events.Event.TheVariants as event
use Rattle.piece_table.specs.declared.giver.Giver.{Giver}
use Rattle.stored_run.specs.Refused.{IsRefusalEnd, RefusesAsRead}
use Rattle.turn_desk.specs.Turns.{events_of}
use Rattle.turn_desk.specs.declared.turn.Stamp.{Stamp}
use Rattle.run_lifecycle.specs.DiskCauses.{CameAsRead, ShowsDisk, StandsBehind}
use Rattle.run_lifecycle.specs.Finishes.{Ran, IsWholeRun}
use Rattle.run_lifecycle.specs.declared.ended.Ended.{Ended}
use Rattle.run_lifecycle.proofs.Ran as ran_facts
use Rattle.run_lifecycle.proofs.Rows.{CountsRight, SealsPiece, turn_brings}
use Rattle.run_lifecycle.proofs.Turns.{BroughtBy, events_on}

-- ---- findings of a download without digests

not_listed : {P : Type 0} (subject : Subject) → is_listed subject ≡ false → IsSome (info_hash_by subject) → P
not_listed (Listed meta uris) unlisted some = absurd cc
not_listed (Unlisted uris) unlisted some = absurd (false≢true some)

same_download : (start : RunStart) (past : List Event) (gid : Gid) (one other : Download)
    → download_in start past gid ≡ Some one
    → download_in start past gid ≡ Some other → one ≡ other
same_download start past gid one other is also = (let same : Some one ≡ Some other = sym is ∙ also in cc)

found_unlisted : (start : RunStart) (past : List Event) (gid : Gid) (right : Bool) (piece : ℕ) (files : Files)
    → CountsRight start past gid right → OfItsWant start past gid (IsFoundRight right piece files)
found_unlisted start past gid right piece files counts want has listed =
    let same = same_download start past gid has.download counts.download has.added counts.added in
    let unlisted : is_listed has.download.subject ≡ false = ap (λ (d : Download). is_listed d.subject) same
    ∙ counts.unlisted in
    not_listed has.download.subject unlisted (subst (λ (o : Option (List ℕ)). IsSome o) has.is.info_hash listed)

module _ {D O : Type 0} {says : DiskSays D} {sinks : SinkSays O} {words : List (List ℕ)}
    {gids doors : ℕ}
    {disk : D} {out : O} {ended : Ended D} {out' : O} where
  module _ (ran : Ran says sinks words gids doors disk out ended out') where
    -- ---- faults

    fault_rose : (gid : Gid) (count : ℕ) → Contains ended.journal.events.items (event.Ended gid (end.Disk count))
        → Rose (says.faults disk) count × (count ≤ says.faults ended.disk)
    fault_rose gid count there =
        let by = ran_facts.event_brought ran (event.Ended gid (end.Disk count)) there in
        let may = ran_facts.may_come ran by.earlier by.turn by.later by.cut in
        let risen : IsRisen (turn_start (ran_facts.start ran) (reverse by.earlier) by.turn) count =
        turn_brings (ran_facts.start ran) (reverse by.earlier) by.turn may
        (event.Ended gid (end.Disk count)) by.there in
        let within = ran_facts.between ran by.earlier by.turn by.later by.cut in
        let from : says.faults ran.begins.read ≤ by.turn.before.faults = within.from.1 in
        let read : says.faults disk ≤ says.faults ran.begins.read = ran.begins.is_read.later in
        let last = ap (λ (s : Stamp). s.faults) (ran_facts.last_is ran) in
        let to = within.to.1 in
        let most : count ≤ by.turn.after.faults =
        counts_within by.turn.before.faults by.turn.after.faults by.turn.events may.counts gid count by.there in (
          ⊎_elim (λ (rose : by.turn.before.faults < count). omega (arith, rose, from, read))
              (λ (full : count ≡ 2 ^ 64 - 1). omega (arith, full)) risen,
          omega (arith, most, to, last),
        )

    -- ---- readings

    -- the turns before a turn are the history before it
    behind : TurnsAppend → (e : Event) → (by : BroughtBy (ran_facts.turns ran) e)
        → StandsBehind ended.journal (history_of (reverse by.earlier)) e
    behind append e by = record {
      rest = by.turn.events ++ events_of by.later;
      cut = ran_facts.items_are ran
          ∙ (ap events_of by.cut ∙ (events_on by.earlier (by.turn ∷ by.later)
          ∙ ap (λ (es : List Event). es ++ (by.turn.events ++ events_of by.later)) (sym (append by.earlier))));
      there = Contains-append_left by.turn.events (events_of by.later) e by.there;
    }

    -- the disk read so at the mark before the turn, which is of the run
    read_before : IsTrue says.tells → (e : Event) → (by : BroughtBy (ran_facts.turns ran) e)
        → ReadSince (says.state ended.disk) (says.state disk).moment
        ((says.state ended.disk).seen_at by.turn.before.time)
    read_before tells e by =
        let within = ran_facts.between ran by.earlier by.turn by.later by.cut in
        let fits = ran_facts.fits ran tells by.earlier by.turn by.later by.cut in
        let first : (says.state disk).moment ≤ (says.state ran.begins.read).moment =
        (ran.begins.is_read.passes tells).later in
        let mark = ran_facts.mark_time ran tells in
        let from = within.from.0 in
        (by.turn.before.time, omega (arith, first, mark, from), omega (arith, fits.later, fits.within), refl)

    came_as_read : TurnsAppend → IsTrue says.tells → (e : Event) (IsSo : List Event → Files → Type 0)
        → (by : BroughtBy (ran_facts.turns ran) e)
        → IsSo (history_of (reverse by.earlier)) ((says.state ended.disk).seen_at by.turn.before.time)
        → CameAsRead says words gids doors disk ended e IsSo
    came_as_read append tells e IsSo by so = record {
      past = history_of (reverse by.earlier);
      behind = behind append e by;
      files = (says.state ended.disk).seen_at by.turn.before.time;
      read = read_before tells e by;
      so = so;
    }

    opened_as_read : TurnsAppend → IsTrue says.tells → (gid : Gid) (verified blocks : List Bool) (now : Moment)
        → Contains ended.journal.events.items (event.Opened gid verified blocks now)
        → CameAsRead says words gids doors disk ended (event.Opened gid verified blocks now)
        (λ past. OpensAsRead (ran_facts.start ran) past gid verified blocks)
    opened_as_read append tells gid verified blocks now there =
        let e = event.Opened gid verified blocks now in
        let by = ran_facts.event_brought ran e there in
        let fits = (ran_facts.fits ran tells by.earlier by.turn by.later by.cut).fits in
        came_as_read append tells e (λ past. OpensAsRead (ran_facts.start ran) past gid verified blocks) by
        (fits.opened gid verified blocks now by.there)

    -- a seal finds its piece by what was read
    sealed_right : (before : List RunTurn) (t : RunTurn) (old new : Files) (op : Operation) (gid : Gid) (piece : ℕ)
        (right : Bool) (giver : Giver) → t.op ≡ op → FitsFiles (ran_facts.start ran) before t old new
        → Contains t.events (event.Settled gid piece right giver) → SealsPiece op gid piece
        → OfItsWant (ran_facts.start ran) (history_of before) gid (IsFoundRight right piece old)
    sealed_right before t old new op gid piece right giver is fits there seals =
        let takes = subst (λ (o : Operation). TakesAsRead (ran_facts.start ran) before t o old)
        (is ∙ seals.op_is) fits.takes in
        let its : Contains t.events (event.Settled gid seals.sealed.piece right giver) =
        subst (λ (p : ℕ). Contains t.events (event.Settled gid p right giver)) (sym seals.piece_is) there in
        subst (λ (p : ℕ). OfItsWant (ran_facts.start ran) (history_of before) gid (IsFoundRight right p old))
        seals.piece_is
        (takes.right right giver its)

    settled_as_read : TurnsAppend → IsTrue says.tells → (gid : Gid) (piece : ℕ) (right : Bool) (giver : Giver)
        → Contains ended.journal.events.items (event.Settled gid piece right giver)
        → CameAsRead says words gids doors disk ended (event.Settled gid piece right giver)
        (λ past files. OfItsWant (ran_facts.start ran) past gid (IsFoundRight right piece files))
    settled_as_read append tells gid piece right giver there =
        let e = event.Settled gid piece right giver in
        let by = ran_facts.event_brought ran e there in
        let before = reverse by.earlier in
        let may = ran_facts.may_come ran by.earlier by.turn by.later by.cut in
        let found = turn_brings (ran_facts.start ran) before by.turn may e by.there in
        let files = (says.state ended.disk).seen_at by.turn.before.time in
        let fits = (ran_facts.fits ran tells by.earlier by.turn by.later by.cut).fits in
        came_as_read append tells e
        (λ past files. OfItsWant (ran_facts.start ran) past gid (IsFoundRight right piece files)) by
        (⊎_elim (λ seals. sealed_right before by.turn files _ by.turn.op gid piece right giver refl fits by.there seals)
        (λ counts. found_unlisted (ran_facts.start ran) (history_of before) gid right piece files counts) found)

    -- the disk read so at the mark behind the turn, too
    read_behind : IsTrue says.tells → (e : Event) → (by : BroughtBy (ran_facts.turns ran) e)
        → ReadSince (says.state ended.disk) (says.state disk).moment
        ((says.state ended.disk).seen_at by.turn.after.time)
    read_behind tells e by =
        let within = ran_facts.between ran by.earlier by.turn by.later by.cut in
        let fits = ran_facts.fits ran tells by.earlier by.turn by.later by.cut in
        let first : (says.state disk).moment ≤ (says.state ran.begins.read).moment =
        (ran.begins.is_read.passes tells).later in
        let mark = ran_facts.mark_time ran tells in
        let from = within.from.0 in
        (by.turn.after.time, omega (arith, first, mark, from, fits.later), fits.within, refl)

    refused_as_read : TurnsAppend → IsTrue says.tells → (gid : Gid) (how : End)
        → Contains ended.journal.events.items (event.Ended gid how) → IsRefusalEnd how
        → CameAsRead says words gids doors disk ended (event.Ended gid how)
        (λ past. RefusesAsRead (ran_facts.start ran) past gid how)
    refused_as_read append tells gid how there refusal =
        let e = event.Ended gid how in
        let by = ran_facts.event_brought ran e there in
        let fits = (ran_facts.fits ran tells by.earlier by.turn by.later by.cut).fits in
        came_as_read append tells e (λ past. RefusesAsRead (ran_facts.start ran) past gid how) by
        (fits.refused gid how by.there refusal)

    checked_as_read : TurnsAppend → IsTrue says.tells → (gid : Gid) (right : Bool)
        → Contains ended.journal.events.items (event.Checked gid right)
        → CameAsRead says words gids doors disk ended (event.Checked gid right)
        (λ past. ChecksAsRead (ran_facts.start ran) past gid right)
    checked_as_read append tells gid right there =
        let e = event.Checked gid right in
        let by = ran_facts.event_brought ran e there in
        let fits = (ran_facts.fits ran tells by.earlier by.turn by.later by.cut).fits in
        record {
          past = history_of (reverse by.earlier);
          behind = behind append e by;
          files = (says.state ended.disk).seen_at by.turn.after.time;
          read = read_behind tells e by;
          so = fits.checked gid right by.there;
        }

  pub shows_disk : TurnsAppend → IsWholeRun says sinks words gids doors disk out ended out'
      → ShowsDisk says words gids doors disk ended
  shows_disk append (inl never) = inl never.journal
  shows_disk append (inr ran) = inr (record {
    line = ran.begins.line;
    means = ran.begins.means;
    faults = fault_rose ran;
    opened = opened_as_read ran append;
    settled = settled_as_read ran append;
    refused = refused_as_read ran append;
    checked = checked_as_read ran append;
  })
