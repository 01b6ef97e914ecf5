-- What is held against a mirror for a piece that it holds, turn by turn, and that the piece is never dead.
use Rattle.std.proofs.Common.{◌≡◌, ◌⊎◌, ⊎_elim, inl, inr, ℕ, suc, ◌+◌, ◌<◌, ◌≤◌, ◌++◌, Bool, false, cond, Option, Some, None, List, [], ◌∷◌, refl, sym, ap, ◌∙◌, subst, arith}
use Rattle.std.specs.Prelude.{Contains, count_by}
use Rattle.std.specs.List.{cons_option}
use Rattle.std.proofs.lemmas.List.Elements.{Contains-append_right}
use Rattle.std.proofs.lemmas.List.Sums.{sum_by-cons}
use Rattle.control_file.specs.declared.want.Want.{Want}
use Rattle.dl_disk.specs.State.{DiskState}
use Rattle.dl_history.specs.OwnEvents.{OwnEvent}
use Rattle.dl_history.specs.PayloadParts.{blame_in, blames_in}
use Rattle.dl_kinds.specs.PlanLaws.{BlocksFollow, PlacesAreNumbered}
use Rattle.dl_kinds.specs.declared.gid.Gid.{Gid}
use Rattle.dl_kinds.specs.declared.marks.Mark.{Mark}
use Rattle.dl_kinds.specs.declared.runs.Moment.{Moment}
use Rattle.dl_kinds.specs.declared.runs.Run.{Run}
use Rattle.engine_core.specs.Writings.{WritesAsTold}
use Rattle.engine_turns.specs.Phases.{TurnStart}
use Rattle.engine_turns.specs.RunTurns.{IsAnswered, OperationRow, answer_before, turn_start}
use Rattle.engine_turns.specs.Standings.{RunStanding, standing_after}
use Rattle.engine_turns.specs.Told.{RunTurn, history_after, history_of}
use Rattle.engine_turns.specs.declared.operations.Operation.{Operation}
use Rattle.engine_turns.specs.declared.operations.Operation.TheVariants as operation
use Rattle.engine_turns.specs.declared.operations.Said.{Said}
use Rattle.engine_turns.specs.declared.operations.Said.TheVariants as said
use Rattle.machine_core.specs.DownloadWants.{IsWantOf}
use Rattle.machine_core.specs.OwnParts.{own_of}
use Rattle.machine_core.specs.RunLegal.{IsDeadIn, IsLegal, MayBeEnded, MayFollow, download_in, marks_in, mirrors_by, tries_in}
use Rattle.machine_core.specs.RunSteps.{OpenedHavePlans}
use Rattle.machine_core.specs.Starts.{Download, Listed, RunStart}
use Rattle.machine_core.specs.declared.ends.End.TheVariants.{Dead}
use Rattle.machine_core.specs.declared.events.Event.{Event}
use Rattle.machine_core.specs.declared.events.Event.TheVariants.{Cleared, Ended, Landed, Lost, Settled}
use Rattle.metainfo.specs.declared.meta.Meta.{Meta}
use Rattle.mirror_blame.specs.Marks.{IsEligible, is_of}
use Rattle.mirror_blame.specs.declared.blame.Blame.{Blame}
use Rattle.piece_table.specs.declared.giver.Giver.TheVariants.{One}
use Rattle.run_lifecycle.proofs.Rows.{turn_brings}
use Rattle.served_runs.specs.ServingLaws.{UsesClaim}
use Rattle.stored_run.proofs.Doing.{history_on, own_grows_on}
use Rattle.stored_run.proofs.Left.{one_of}
use Rattle.stored_run.proofs.PlainEvents.{gid_added}
use Rattle.stored_run.specs.RunFollows.{RunFollows}
use Rattle.blameless_mirrors.specs.Lone.{HasNoDiskFault, HaveMemory, IsWork}
use Rattle.blameless_mirrors.proofs.EventSources.{LandsAmong, WasUntouched, source_among}
use Rattle.blameless_mirrors.proofs.ListedLengths.{lengths_told}
use Rattle.blameless_mirrors.proofs.Parts.{IsSealOf, wrong_sealed}
use Rattle.mark_costs.specs.Paid.{CostAtMost, HasPiece, IsRightFor, marks_for}
use Rattle.mark_costs.proofs.Counting.{MarksIt, count_after, marked, marked_none, marked_some}
use Rattle.mark_costs.proofs.Found.{never_found}
use Rattle.mark_costs.proofs.Standing.{Clean, GivenIn, Stands, added_at, clean_behind, legal_own, opened_at, stood}
use Rattle.mark_costs.proofs.Wrong.{ClearsAmong, NoFault, cleared_none, few_lose, few_seal, seal_clears}

-- ---- rows

none_here : {P : Type 0} (events : List Event) (e : Event) → events ≡ [] → Contains events e → P
none_here events e empty there =
    absurd (let no = subst (λ (es : List Event). Contains es e) empty there in let within = no.1 in omega (arith, within))

-- a turn with events has its operation's row
row_of : (at : TurnStart) (s : RunStanding) (op : Operation) (events : List Event) (answer : Said) (before : Option Said)
    → IsAnswered at s op events answer before → (events ≡ []) ⊎ OperationRow at s op events answer
row_of at s op events answer (Some said) is = inl is.0
row_of at s op events answer None (inl starved) = inl starved.1.0
row_of at s op events answer None (inr row) = inr row

-- ---- histories

pub there_after : (past events : List Event) (x : Event) → Contains past x → Contains (history_after past events) x
there_after past [] x there = there
there_after past (e ∷ events) x there =
    there_after (e ∷ past) events x (suc there.0, (let within = there.1 in omega (arith, within)), there.2)

pub new_there : (past events : List Event) (x : Event) → Contains events x → Contains (history_after past events) x
new_there past [] x there = absurd (let within = there.1 in omega (arith, within))
new_there past (e ∷ events) x there = ⊎_elim
    (λ (is : e ≡ x). there_after (e ∷ past) events x (0, omega arith, is))
    (λ (later : Contains events x). new_there (e ∷ past) events x later) (one_of e x events there)

-- ---- marks only grow

more_marked : (p : Blame → Bool) (o : Option Blame) (xs : List Blame) → count_by p xs ≤ count_by p (cons_option o xs)
more_marked p None xs = omega arith
more_marked p (Some x) xs = let more = sum_by-cons (λ (y : Blame). cond (p y) 1 0) x xs in omega (arith, more)

grown_marked : (p : Blame → Bool) (more own : List OwnEvent) → count_by p (blames_in own) ≤ count_by p (blames_in (more ++ own))
grown_marked p [] own = omega arith
grown_marked p (x ∷ more) own =
    let rest = grown_marked p more own in
    let here = more_marked p (blame_in x) (blames_in (more ++ own)) in
    omega (arith, rest, here)

module _ (start : RunStart) (gid : Gid) (mirror piece : ℕ) where
  abbrev count_in : List Event → ℕ
  count_in past = count_by (is_of mirror piece) (marks_in start past gid)

  count_before : (e : Event) (past : List Event) → count_in past ≤ count_in (e ∷ past)
  count_before e past =
      let grown = own_grows_on start (e ∷ []) past gid in
      subst (λ (own : List OwnEvent). count_in past ≤ count_by (is_of mirror piece) (blames_in own)) (sym grown.1)
      (grown_marked (is_of mirror piece) grown.0 (own_of start past gid))

  -- ---- a piece that isn't dead

  module _ (laws : RunFollows) (download : Download) (most : ℕ) (known : mirror < mirrors_by download.subject)
      (fewer : most < tries_in download) where
    eligible : (past : List Event) → count_in past ≤ most → IsEligible (tries_in download) (marks_in start past gid) mirror piece
    eligible past few = omega (arith, few, fewer)

    never_here : (past : List Event) (mark : Mark) → download_in start (Ended gid (Dead piece mark) ∷ past) gid ≡ Some download
        → MayBeEnded start past gid (Dead piece mark) → count_in past ≤ most → ⊥
    never_here past mark added may few =
        let d = may.own.download in
        let stays = laws.downloads start past (Ended gid (Dead piece mark)) gid d may.own.added in
        let same : d ≡ download = let e : Some d ≡ Some download = sym stays ∙ added in cc in
        let dead : IsDeadIn start past download piece mark = subst (λ (x : Download). IsDeadIn start past x piece mark) same may.cause in
        let its : download.gid ≡ gid =
        gid_added start past gid download (may.own.added ∙ ap (λ (x : Download). Some x) same) in
        dead.dead mirror known
        (subst (λ (g : Gid). IsEligible (tries_in download) (marks_in start past g) mirror piece) (sym its) (eligible past few))

    pub never_dead : (past : List Event) → IsLegal start past
        → ((d : Download) → download_in start past gid ≡ Some d → d ≡ download) → count_in past ≤ most
        → (mark : Mark) → ¬ Contains past (Ended gid (Dead piece mark))
    never_dead [] legal same few mark there = absurd (let within = there.1 in omega (arith, within))
    never_dead (e ∷ past) legal same few mark there =
        let less = count_before e past in
        let few_past : count_in past ≤ most = omega (arith, less, few) in
        ⊎_elim
        (λ (here : e ≡ Ended gid (Dead piece mark)).
        let may : MayBeEnded start past gid (Dead piece mark) = subst (MayFollow start past) here legal.1 in
        let stays = laws.downloads start past e gid may.own.download may.own.added in
        let its = same may.own.download stays in
        never_here past mark
        (subst (λ (x : Event). download_in start (x ∷ past) gid ≡ Some download) here
        (stays ∙ ap (λ (x : Download). Some x) its)) may few_past)
        (λ (before : Contains past (Ended gid (Dead piece mark))).
        never_dead past legal.0 (λ d added. same d (laws.downloads start past e gid d added)) few_past mark before)
        (one_of e (Ended gid (Dead piece mark)) past there)

-- ---- the ledger

module _ (laws : RunFollows) (plans : OpenedHavePlans) (follow : BlocksFollow) (numbered : PlacesAreNumbered) (start : RunStart)
    (disk : DiskState) (gid : Gid) (mirror : ℕ) (meta : Meta) (want : Want) (held : List ℕ) (download : Download)
    (uris : List (List ℕ)) (subject : download.subject ≡ Listed meta uris) (is_want : IsWantOf download (lengths_told meta) want)
    (piece : ℕ) (its : HasPiece meta held piece) where
  abbrev Fine : List RunTurn → Type 0
  Fine told = Stands laws plans follow start disk gid mirror (lengths_told meta) want held download is_want piece told

  abbrev CleanFor : List RunTurn → Type 0
  CleanFor told = Clean laws plans follow start disk gid mirror (lengths_told meta) want held download is_want piece told

  abbrev Given : List RunTurn → ℕ → Type 0
  Given told b = GivenIn laws plans follow start disk gid mirror (lengths_told meta) want held download is_want piece told b

  abbrev count : List RunTurn → ℕ
  count told = marks_for start told gid mirror piece

  -- Either one mark less is held than was paid for, or no more are, and the blocks that it gave read right.
  abbrev pub Ledger : List RunTurn → ℕ → Type 0
  Ledger told paid = (count told + 1 ≤ paid) ⊎ ((count told ≤ paid) × CleanFor told)

  module _ (t : RunTurn) (before : List RunTurn) (st : Fine (t ∷ before)) where
    abbrev past : List Event
    past = history_of before

    abbrev total : ℕ
    total = want.plan.total

    abbrev len : ℕ
    len = want.plan.piece_len

    abbrev marks_now : ℕ
    marks_now = marked gid mirror piece t.events

    counted : count (t ∷ before) ≤ count before + marks_now
    counted = count_after gid mirror piece start t.events past

    row : (op : Operation) → t.op ≡ op
        → (t.events ≡ []) ⊎ OperationRow (turn_start start before t) (standing_after start before) op t.events t.answer.said
    row op is = row_of (turn_start start before t) (standing_after start before) op t.events t.answer.said
        (answer_before start past op)
        (subst (λ (o : Operation). IsAnswered (turn_start start before t) (standing_after start before) o t.events t.answer.said
        (answer_before start past o)) is st.ties.0.answered)

    -- ---- a finding

    module _ (memory : IsWork t.op → ¬ (t.answer.said ≡ said.NoMemory)) (none : NoFault t.events)
        (there : Contains t.events (Settled gid piece false (One mirror))) where
      seal : IsSealOf start before t gid piece
      seal = wrong_sealed start before t st.ties.0 gid piece (One mirror) there

      lands_none : (id m : ℕ) (part : Run) (at : Moment) → Contains t.events (Landed gid id m part at) → ⊥
      lands_none id m part at lands =
          subst (λ (op : Operation). WritesAsTold start past t op (disk.seen_at t.after.time)) seal.op st.fits.0.fits.written
          gid id m part at lands

      clears : ClearsAmong gid piece t.events
      clears = ⊎_elim
          (λ (empty : t.events ≡ []). none_here t.events (Settled gid piece false (One mirror)) empty there)
          (λ is. subst (λ (p : ℕ). ClearsAmong gid p t.events) seal.same
          (seal_clears (turn_start start before t) (standing_after start before) gid seal.sealed t.events t.answer.said is
          (memory (subst IsWork (sym seal.op) tt)) none (One mirror)
          (subst (λ (p : ℕ). Contains t.events (Settled gid p false (One mirror))) (sym seal.same) there)))
          (row (operation.Seal gid seal.sealed seal.now) seal.op)

      one_mark : marks_now ≤ 1
      one_mark = ⊎_elim
          (λ (empty : t.events ≡ []). none_here t.events (Settled gid piece false (One mirror)) empty there)
          (λ is. few_seal gid mirror piece (turn_start start before t) (standing_after start before) gid seal.sealed t.events
          t.answer.said is)
          (row (operation.Seal gid seal.sealed seal.now) seal.op)

      -- no block of it is the mirror's any more
      clean_after : CleanFor (t ∷ before)
      clean_after b of given =
          let opened = opened_at laws plans follow start disk gid mirror (lengths_told meta) want held download is_want piece
          (t ∷ before) st b given in
          let added = added_at laws plans follow start disk gid mirror (lengths_told meta) want held download is_want piece
          (t ∷ before) st opened in
          let legal = legal_own laws plans follow start disk gid mirror (lengths_told meta) want held download is_want piece
          (history_of (t ∷ before)) st.legal added opened st.known in
          let mid = history_after past clears.front in
          let cut : history_after past t.events ≡ history_after (Cleared gid piece ∷ mid) clears.rest =
          ap (history_after past) clears.cut ∙ history_on past clears.front (Cleared gid piece ∷ clears.rest) in
          absurd (⊎_elim
          (λ (lands : LandsAmong gid b mirror clears.rest).
          lands_none lands.id mirror lands.run lands.now
          (subst (λ (es : List Event). Contains es (Landed gid lands.id mirror lands.run lands.now)) (sym clears.cut)
          (Contains-append_right clears.front (Cleared gid piece ∷ clears.rest) (Landed gid lands.id mirror lands.run lands.now)
          (suc lands.there.0, (let within = lands.there.1 in omega (arith, within)), lands.there.2))))
          (λ (was : WasUntouched start gid total len b mirror (Cleared gid piece ∷ mid) clears.rest).
          cleared_none start mid gid piece len mirror b of was.0)
          (source_among start gid total len b mirror clears.rest (Cleared gid piece ∷ mid)
          (subst (λ (h : List Event). Rattle.dl_history.specs.OwnLegal.LegalOwn total len (own_of start h gid)) cut legal)
          (subst (λ (h : List Event). Rattle.dl_history.specs.PayloadParts.source_in len (own_of start h gid) b
          ≡ Rattle.piece_table.specs.Changes.From mirror) cut given)))

      found_step : (n : ℕ) → Ledger before n → Ledger (t ∷ before) n
      found_step n (inl less) =
          let one = one_mark in let all = counted in inr (omega (arith, one, all, less), clean_after)
      found_step n (inr clean) =
          absurd (never_found laws plans follow numbered start disk gid mirror meta want held download uris subject is_want piece
          its t before st clean.1 there)

    -- ---- a turn that brings nothing wrong

    module _ (memory : IsWork t.op → ¬ (t.answer.said ≡ said.NoMemory)) (none : NoFault t.events)
        (right : IsRightFor gid mirror meta held piece t) where
      unmarked_step : (n : ℕ) → marks_now ≡ 0 → Ledger before n → Ledger (t ∷ before) n
      unmarked_step n zero_is (inl less) = let all = counted in inl (omega (arith, all, zero_is, less))
      unmarked_step n zero_is (inr clean) =
          let all = counted in
          let few = clean.0 in
          inr (
            omega (arith, all, zero_is, few),
            clean_behind laws plans follow start disk gid mirror (lengths_told meta) want held download is_want piece t before st
                right.landed clean.1,
          )

      pub right_step : (n : ℕ) → Ledger before n → Ledger (t ∷ before) n
      right_step n was = ⊎_elim (λ (zero_is : marks_now ≡ 0). unmarked_step n zero_is was)
          (λ (some : (e : Event) × Contains t.events e × MarksIt gid mirror piece e).
          ⊎_elim
          (λ (lost : (id : ℕ) × (mark : Mark) × (some.0 ≡ Lost gid id mirror piece mark)).
          absurd (right.lost lost.0 lost.1 (subst (λ (e : Event). Contains t.events e) lost.2 some.1)))
          (λ (found : some.0 ≡ Settled gid piece false (One mirror)).
          found_step memory none (subst (λ (e : Event). Contains t.events e) found some.1) n was)
          some.2)
          (marked_some gid mirror piece t.events)

    -- ---- a turn that may

    delivery_unmarked : (claim : ℕ) (run : Run) (bytes : List ℕ) (now : Moment) → t.op ≡ operation.Deliver claim run bytes now
        → marks_now ≡ 0
    delivery_unmarked claim run bytes now op = marked_none gid mirror piece t.events (λ e there is. ⊎_elim
        (λ (lost : (id : ℕ) × (mark : Mark) × (e ≡ Lost gid id mirror piece mark)).
        let brought = turn_brings start before t st.ties.0 (Lost gid lost.0 mirror piece lost.1)
        (subst (λ (x : Event). Contains t.events x) lost.2 there) in
        let no : operation.Deliver claim run bytes now ≡ operation.Lose lost.0 lost.1 brought.0 = sym op ∙ brought.1 in
        cc)
        (λ (found : e ≡ Settled gid piece false (One mirror)).
        let seal = wrong_sealed start before t st.ties.0 gid piece (One mirror)
        (subst (λ (x : Event). Contains t.events x) found there) in
        let no : operation.Deliver claim run bytes now ≡ operation.Seal gid seal.sealed seal.now = sym op ∙ seal.op in
        cc) is)

    loss_marked : (claim : ℕ) (mark : Mark) (now : Moment) → t.op ≡ operation.Lose claim mark now → marks_now ≤ 1
    loss_marked claim mark now op = ⊎_elim
        (λ (empty : t.events ≡ []). subst (λ (es : List Event). marked gid mirror piece es ≤ 1) (sym empty) (omega arith))
        (λ is. few_lose gid mirror piece (turn_start start before t) (standing_after start before) claim mark t.events
        t.answer.said is)
        (row (operation.Lose claim mark now) op)

    delivery_step : (claim : ℕ) (run : Run) (bytes : List ℕ) (now : Moment) → t.op ≡ operation.Deliver claim run bytes now
        → (n : ℕ) → Ledger before n → Ledger (t ∷ before) (suc n)
    delivery_step claim run bytes now op n was =
        let same = delivery_unmarked claim run bytes now op in
        let all = counted in
        ⊎_elim (λ (less : count before + 1 ≤ n). inl (omega (arith, same, all, less)))
        (λ (clean : (count before ≤ n) × CleanFor before). let few = clean.0 in inl (omega (arith, same, all, few))) was

    loss_step : (claim : ℕ) (mark : Mark) (now : Moment) → t.op ≡ operation.Lose claim mark now
        → (n : ℕ) → Ledger before n → Ledger (t ∷ before) (suc n)
    loss_step claim mark now op n was =
        let one = loss_marked claim mark now op in
        let all = counted in
        ⊎_elim (λ (less : count before + 1 ≤ n). inl (omega (arith, one, all, less)))
        (λ (clean : (count before ≤ n) × CleanFor before).
        let few = clean.0 in
        inr (
          omega (arith, one, all, few),
          clean_behind laws plans follow start disk gid mirror (lengths_told meta) want held download is_want piece t before st
              (λ id run part bytes at when is there.
              let no : operation.Lose claim mark now ≡ operation.Deliver id run bytes at = sym op ∙ is in absurd cc) clean.1,
        )) was

    pub wrong_step : (op : Operation) → t.op ≡ op → UsesClaim op → (n : ℕ) → Ledger before n → Ledger (t ∷ before) (suc n)
    wrong_step (operation.Deliver claim run bytes now) is uses n was = delivery_step claim run bytes now is n was
    wrong_step (operation.Lose claim mark now) is uses n was = loss_step claim mark now is n was
    wrong_step other is uses n was = absurd uses

  -- ---- all turns

  before_fine : (t : RunTurn) (before : List RunTurn) → Fine (t ∷ before) → Fine before
  before_fine = stood laws plans follow start disk gid mirror (lengths_told meta) want held download is_want piece

  pub ledger : (told : List RunTurn) → Fine told → HaveMemory told → HasNoDiskFault (history_of told) → (n : ℕ)
      → CostAtMost gid mirror meta held piece told n → Ledger told n
  ledger [] st memory none n cost = inr (omega arith, tt)
  ledger (t ∷ before) st memory none n (inl cost) =
      right_step t before st memory.0 (λ g c there. none g c (new_there (history_of before) t.events _ there)) cost.0 n
      (ledger before (before_fine t before st) memory.1
      (λ g c there. none g c (there_after (history_of before) t.events _ there)) n cost.1)
  ledger (t ∷ before) st memory none n (inr cost) =
      let less : ℕ = cost.1 in
      subst (Ledger (t ∷ before)) (sym cost.2)
      (wrong_step t before st t.op refl cost.0 less
      (ledger before (before_fine t before st) memory.1
      (λ g c there. none g c (there_after (history_of before) t.events _ there)) less cost.3))
