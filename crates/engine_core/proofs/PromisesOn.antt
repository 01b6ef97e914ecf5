-- What is promised of all downloads is kept by one turn more.
use Rattle.std.proofs.Common.{◌≡◌, ⊎_elim, inl, inr, ℕ, Bool, true, false, List, [], ◌∷◌, ◌++◌, Some, refl, sym, ap, arith, append_assoc, ◌∙◌, subst}
use Rattle.std.specs.Prelude.{◌⊎◌, ◌≤◌, ◌≢◌}
use Rattle.control_file.specs.Wants.{IsWant}
use Rattle.control_file.specs.declared.want.Want.{Want}
use Rattle.dl_disk.specs.State.{DiskState}
use Rattle.dl_kinds.specs.declared.gid.Gid.{Gid}
use Rattle.dl_kinds.specs.declared.runs.Moment.{Moment}
use Rattle.machine_core.specs.DownloadWants.{HasWant}
use Rattle.machine_core.specs.OwnParts.{PayloadLengths}
use Rattle.machine_core.specs.RunLegal.{IsLegal, download_in, goes_on_in}
use Rattle.machine_core.specs.Starts.{Download, RunStart}
use Rattle.machine_core.specs.declared.events.Event.{Event}
use Rattle.engine_turns.specs.RunTurns.{MayComeAfter}
use Rattle.engine_turns.specs.Told.{RunTurn, history_after, history_of}
use Rattle.engine_turns.specs.TurnLaws.{HandedAreActive}
use Rattle.resume_core.specs.Resume.{AreSound}
use Rattle.stored_run.proofs.OpenNext.{before_opening}
use Rattle.stored_run.specs.Opening.{AsksStore}
use Rattle.stored_run.specs.RunFollows.{RunFollows}
use Rattle.stored_run.specs.Stored.{IsStoredWith}
use Rattle.stored_run.specs.Views.{kept_want}
use Rattle.stored_run.specs.declared.run.StoredView.{StoredView}
use Rattle.engine_core.specs.Askings.{AreAsked, AreInOrder, IsOpenedWant, IsWrittenAlone, is_opened_in}
use Rattle.engine_core.specs.Durable.{KeepsPromises, KeepsSince}
use Rattle.engine_core.proofs.Gone.{IsOpenedNext, newly_opened}
use Rattle.engine_core.proofs.Marks.{from_mark, from_turn}
use Rattle.engine_core.proofs.Promising.{download_on, lengths_on, want_later}
use Rattle.engine_core.proofs.TurnCases.{KeepsEach, TurnsNone, TurnsOne, gid_equal, keeps_each, some_of, want_sound}
use Rattle.engine_core.proofs.Turned.{TurnKeeps, same_download, wants_of_one_share}

-- what goes on behind some events went on before them
going_before : RunFollows → (start : RunStart) (past events : List Event) (gid : Gid) (d : Download)
    → download_in start past gid ≡ Some d → goes_on_in start (history_after past events) gid ≡ true
    → goes_on_in start past gid ≡ true
going_before laws start past [] gid d added goes = goes
going_before laws start past (e ∷ events) gid d added goes =
    let next = going_before laws start (e ∷ past) events gid d (laws.downloads start past e gid d added) goes in
    by (goes_on_in start past gid) refl next
  where
    by : (b : Bool) → goes_on_in start past gid ≡ b → goes_on_in start (e ∷ past) gid ≡ true → goes_on_in start past gid ≡ true
    by true is next = is
    by false is next =
        absurd (let never : true ≡ false = sym next ∙ laws.gone start past e gid d added is in cc)

module _ {D : Type 0} (laws : RunFollows) (handed : HandedAreActive) (start : RunStart) (told : List RunTurn) (t : RunTurn)
    (legal : IsLegal start (history_of (t ∷ told))) (may : MayComeAfter start told t) (faults : ℕ) (d new : DiskState)
    (old after : StoredView D) (moment : Moment) (was : IsStoredWith true faults d start (history_of told) old.wants.items moment)
    (promises : KeepsPromises start told d)
    (turns : TurnsNone laws handed start told t legal may faults d new old after moment was promises.asked promises.ordered promises.lengths
    ⊎ TurnsOne laws handed start told t legal may faults d new old after moment was promises.asked promises.ordered promises.lengths) where
  keeps : KeepsEach laws handed start told t legal may faults d new old after moment was promises.asked promises.ordered promises.lengths
  keeps = keeps_each laws handed start told t legal may faults d new old after moment was promises.asked promises.ordered promises.lengths
      turns

  newly : (gid : Gid) → is_opened_in start (history_of (t ∷ told)) gid ≡ true
      → (is_opened_in start (history_of told) gid ≡ true) ⊎ IsOpenedNext start (history_of told) t.op gid
  newly = newly_opened laws handed start told t was.legal may

  asked_next : AreAsked start (t ∷ told)
  asked_next gid is = ⊎_elim
      (λ (opened : is_opened_in start (history_of told) gid ≡ true). inr (promises.asked gid opened))
      (λ (next : IsOpenedNext start (history_of told) t.op gid).
      inl (record { asked = next.0; next = next.1; came = inl is })) (newly gid is)

  -- the want that a download has, it had before, where it was opened
  want_before : (gid : Gid) (want : Want) → is_opened_in start (history_of told) gid ≡ true
      → HasWant start (history_of (t ∷ told)) gid want → HasWant start (history_of told) gid want
  want_before gid want opened has =
      let v = some_of (kept_want old.wants.items start (history_of told) gid) (was.wants_are.opened gid opened) in
      let own = was.wants_are.has gid v.0 v.1 in
      let added = download_on laws start (history_of told) t.events gid own.download own.added in
      let known = lengths_on laws start (history_of told) t.events gid own.lengths legal own.known in
      let same = same_download start (history_of (t ∷ told)) gid own.download has.download added has.added in
      let some : Some own.lengths ≡ Some has.lengths = sym known ∙ has.known in
      let lengths : own.lengths ≡ has.lengths = cc in
      record {
        download = has.download;
        added = own.added ∙ ap (λ (x : Download). Some x) same;
        lengths = has.lengths;
        known = own.known ∙ ap (λ (l : PayloadLengths). Some l) lengths;
        is = has.is;
      }

  -- one that is opened in the turn shares no name with one that goes on
  never_beside : (want : Want) (first second : Gid) → IsOpenedNext start (history_of told) t.op first
      → is_opened_in start (history_of (t ∷ told)) first ≡ true → HasWant start (history_of (t ∷ told)) first want
      → is_opened_in start (history_of told) second ≡ true → HasWant start (history_of told) second want
      → goes_on_in start (history_of told) second ≡ true → ⊥
  never_beside want first second next opened has opened_second has_second goes =
      let unopened = (before_opening laws (record { start = start; past = history_of told; spare = 0; mark_spares = [] }) first was.legal next.1).opening.unopened in
      ⊎_elim
      (λ (none : TurnsNone laws handed start told t legal may faults d new old after moment was promises.asked promises.ordered promises.lengths).
      absurd (let never : true ≡ false = sym (none.unopened first next opened) ∙ unopened in cc))
      (λ (one : TurnsOne laws handed start told t legal may faults d new old after moment was promises.asked promises.ordered promises.lengths).
      let some : Some first ≡ Some one.gid = sym next.1 ∙ one.next.1 in
      let same : first ≡ one.gid = cc in
      let opened_one = subst (λ (g : Gid). is_opened_in start (history_of (t ∷ told)) g ≡ true) same opened in
      ⊎_elim
      (λ (still : _ × (is_opened_in start (history_of (t ∷ told)) one.gid ≡ false)).
      absurd (let never : true ≡ false = sym opened_one ∙ still.1 in cc))
      (λ (asks : AsksStore one.gid _ _ t.answer.said d new).
      let has_one = subst (λ (g : Gid). HasWant start (history_of (t ∷ told)) g want) same has in
      let apart : second.0 ≢ one.gid.0 = λ equal.
      absurd (let never : true ≡ false = sym opened_second
      ∙ (ap (is_opened_in start (history_of told)) (gid_equal second one.gid equal ∙ sym same) ∙ unopened) in cc) in
      let none = (asks.tries.opened opened_one).apart asks.want second want asks.has
      (record { apart = apart; opened = opened_second; going = goes }) has_second in
      absurd (let never : true ≡ false =
      sym (wants_of_one_share start (history_of (t ∷ told)) one.gid asks.want want
      (want_later laws start told t legal one.gid asks.want asks.has) has_one) ∙ none in cc))
      one.opens.came) turns

  ordered_next : AreInOrder start (t ∷ told)
  ordered_next want first second is his apart goes = ⊎_elim
      (λ (opened : is_opened_in start (history_of told) second ≡ true).
      let has = want_before second want opened his.has in
      let went = going_before laws start (history_of told) t.events second has.download has.added goes in
      ⊎_elim
      (λ (both : is_opened_in start (history_of told) first ≡ true).
      inr (promises.ordered want first second (record { opened = both; has = want_before first want both is.has })
      (record { opened = opened; has = has }) apart went))
      (λ (next : IsOpenedNext start (history_of told) t.op first).
      absurd (never_beside want first second next is.opened is.has opened has went))
      (newly first is.opened))
      (λ (next : IsOpenedNext start (history_of told) t.op second). ⊎_elim
      (λ (opened : is_opened_in start (history_of told) first ≡ true).
      inl (opened, record { asked = next.0; next = next.1; came = inl his.opened }))
      (λ (also : IsOpenedNext start (history_of told) t.op first).
      absurd (apart (let some : Some first ≡ Some second = sym also.1 ∙ next.1 in let same : first ≡ second = cc in same)))
      (newly first is.opened))
      (newly second his.opened)

  -- ---- marks

  marks_next : t.before.time ≡ d.moment → (newer : List RunTurn) (u : RunTurn) (before : List RunTurn)
      → t ∷ told ≡ newer ++ u ∷ before
      → (u.before.time ≤ new.moment) × KeepsSince start before (t ∷ told) u.before.time new
  marks_next mark [] u before cut =
      let first : t ≡ u = cc in
      let rest : told ≡ before = cc in
      let here = from_turn laws start t d new keeps.later keeps.time keeps.left told keeps.turn in (
        omega (arith, keeps.later, mark, ap (λ (x : RunTurn). x.before.time) first),
        subst (λ (x : RunTurn). KeepsSince start before (t ∷ told) x.before.time new) first
            (subst (λ (l : List RunTurn). KeepsSince start l (t ∷ told) t.before.time new) rest
            (subst (λ (m : ℕ). KeepsSince start told (t ∷ told) m new) (sym mark) here)),
      )
  marks_next mark (n ∷ newer) u before cut =
      let rest : told ≡ newer ++ u ∷ before = cc in
      let front = newer ++ u ∷ [] in
      let same : front ++ before ≡ told = append_assoc newer (u ∷ []) before ∙ sym rest in
      let was_kept = promises.marks newer u before rest in (
        omega (arith, was_kept.0, keeps.later),
        subst (λ (l : List RunTurn). KeepsSince start before (t ∷ l) u.before.time new) same
            (from_mark laws start t d new keeps.later keeps.time keeps.left front before
            (subst (λ (l : List RunTurn). IsLegal start (history_of (t ∷ l))) (sym same) legal)
            (subst
            (λ (l : List RunTurn). (want : Want) (gid : Gid) → IsWrittenAlone start (t ∷ l) want → IsOpenedWant start l gid want → IsWant want)
            (sym same)
            (λ want gid alone is.
            want_sound laws handed start told t legal may faults d new old.wants.items moment was promises.asked promises.ordered want
            alone gid is))
            (subst
            (λ (l : List RunTurn). (want : Want) → IsWrittenAlone start (t ∷ l) want → AreSound want d.seen d.may_leave → TurnKeeps start l t want d new)
            (sym same) keeps.turn)
            u.before.time was_kept.0
            (subst (λ (l : List RunTurn). KeepsSince start before l u.before.time d) (sym same) was_kept.1)),
      )

  pub promises_on : t.before.time ≡ d.moment → KeepsPromises start (t ∷ told) new
  promises_on mark = record {
    asked = asked_next;
    ordered = ordered_next;
    wants = keeps.wants;
    lengths = keeps.files;
    marks = marks_next mark;
  }
