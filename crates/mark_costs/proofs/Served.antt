-- A piece that is served over the one link is never dead.
use Rattle.std.proofs.Common.{◌≡◌, inl, ℕ, suc, ◌≤◌, IsTrue, Bool, List, [], ◌∷◌, ◌++◌, append_assoc, append-nil, Some, refl, sym, ap, subst, ◌∙◌, arith}
use Rattle.std.specs.Prelude.{Contains, reverse}
use Rattle.std.proofs.lemmas.List.{reverse-append}
use Rattle.conn_worker.specs.Hands.{Fetching, Hand, Nothing, Fetches, LinkAt, fresh}
use Rattle.conn_worker.specs.Table.{FollowsAnswer, due_op}
use Rattle.dl_disk.specs.State.{DiskState}
use Rattle.dl_kinds.specs.Plan.{piece_of}
use Rattle.dl_kinds.specs.declared.gid.Gid.{Gid}
use Rattle.dl_kinds.specs.declared.marks.Mark.{Mark}
use Rattle.dl_kinds.specs.declared.runs.Moment.{Moment}
use Rattle.engine_turns.specs.NextRows.{mirror_url}
use Rattle.engine_turns.specs.RunTurns.{MayComeAfter}
use Rattle.engine_turns.specs.Told.{AllTurns, RunTurn, history_of}
use Rattle.machine_core.specs.RunLegal.{DownloadsStay, IsLegal, LengthsStay, download_in}
use Rattle.machine_core.specs.Starts.{Download, Listed, RunStart, Subject}
use Rattle.machine_core.specs.declared.events.Event.TheVariants.{Lost}
use Rattle.metainfo.specs.declared.meta.Meta.{Meta}
use Rattle.run_lifecycle.proofs.Rows.{turn_brings}
use Rattle.blameless_mirrors.specs.Blameless.{HasFailedLink}
use Rattle.served_runs.specs.ServingLaws.{UsesClaim}
use Rattle.served_runs.proofs.ServedHistories.{may_at}
use Rattle.served_runs.proofs.Working.{StandsBehind, stands_first}
use Rattle.mark_costs.specs.Holding.{HoldsPiece, bad_among}
use Rattle.mark_costs.specs.Paid.{AffordedNeverDie, CostAtMost, IsRightFor}
use Rattle.mark_costs.specs.Served.{IsWorkOfOne, ServedNeverDie}
use Rattle.mark_costs.proofs.Fetch.{PayingLaws}
use Rattle.mark_costs.proofs.Opened.{Opens, opens_end, opens_next}
use Rattle.mark_costs.proofs.Over.{onto, works_pay}

onto_reverse : (past ts : List RunTurn) → onto past ts ≡ reverse ts ++ past
onto_reverse past [] = refl
onto_reverse past (t ∷ ts) =
    onto_reverse (t ∷ past) ts ∙ sym (append_assoc (reverse ts) (t ∷ []) past)
    ∙ ap (λ (l : List RunTurn). l ++ past) (sym (reverse-append (t ∷ []) ts))

-- what is carried of a fetch in hand, so that a loss is told where its bytes end
pub record EndsKnown (first : LinkAt) (tells : Bool) (gid : Gid) (meta : Meta) (mirror piece : ℕ) (told : List RunTurn) : Type 1
  where
    pub Opens : List RunTurn → Fetching → Type 0
    pub next : (newer : List RunTurn) (t : RunTurn) (before : List RunTurn) → told ≡ newer ++ t ∷ before
        → (turns : List RunTurn) (worker : ℕ) (moment : Moment) (hand : Hand) (link : LinkAt) (hand' : Hand) (link' : LinkAt)
        → t.op ≡ due_op worker hand moment → StandsBehind tells first turns hand link
        → FollowsAnswer tells hand t.answer.said link hand' link'
        → ((f : Fetching) → hand ≡ Fetches f → Opens before f) → (g : Fetching) → hand' ≡ Fetches g → Opens (t ∷ before) g
    pub end : (newer : List RunTurn) (t : RunTurn) (before : List RunTurn) → told ≡ newer ++ t ∷ before
        → (f : Fetching) (mark : Mark) → Opens before f → Contains t.events (Lost gid f.claim mirror piece mark)
        → piece_of meta.plan.piece_len f.rest.first ≡ piece

module _ (laws : PayingLaws) (stay : DownloadsStay) (lengths_stay : LengthsStay) (tells : Bool) (true_is : IsTrue tells) (start : RunStart)
    (told : List RunTurn) (gid : Gid) (meta : Meta) (uris : List (List ℕ)) (download : Download) (old : LinkAt)
    (legal : IsLegal start (history_of told)) (ties : AllTurns (MayComeAfter start) told)
    (added : download_in start (history_of told) gid ≡ Some download) (subject : download.subject ≡ Listed meta uris)
    (mirror : ℕ) (held : List ℕ) (among : ℕ → Bool) (piece : ℕ)
    (holds : HoldsPiece old.state.content meta (mirror_url (Listed meta uris) mirror) held among piece)
    (none_failed : ¬ HasFailedLink (history_of told) gid mirror) where
  -- turns that use no claim cost nothing
  quiet_right : (newer : List RunTurn) (t : RunTurn) (before : List RunTurn) → told ≡ newer ++ t ∷ before → ¬ UsesClaim t.op
      → IsRightFor gid mirror meta held piece t
  quiet_right newer t before cut none = record {
    landed = λ claim run part bytes now at same there. absurd (none (subst UsesClaim (sym same) tt));
    lost = λ id mark there.
        let may = may_at stay lengths_stay start told legal ties gid download added newer t before cut in
        let brought = turn_brings start before t may (Lost gid id mirror piece mark) there in
        none (subst UsesClaim (sym brought.1) tt);
  }

  quiet_more : (newer more past : List RunTurn) → told ≡ newer ++ (more ++ past)
      → ((t : RunTurn) → Contains more t → ¬ UsesClaim t.op) → (n : ℕ) → CostAtMost gid mirror meta held piece past n
      → CostAtMost gid mirror meta held piece (more ++ past) n
  quiet_more newer [] past cut none n cost = cost
  quiet_more newer (t ∷ more) past cut none n cost =
      inl (
        quiet_right newer t (more ++ past) cut (none t (0, omega arith, refl)),
        quiet_more (newer ++ t ∷ []) more past (cut ∙ sym (append_assoc newer (t ∷ []) (more ++ past)))
            (λ u there. none u (suc there.0, (let w = there.1 in omega (arith, w)), there.2)) n cost,
      )

  pub cost_of : (over : IsWorkOfOne tells told old) → EndsKnown old tells gid meta mirror piece told
      → (k : ℕ) × CostAtMost gid mirror meta held piece told k × (k ≤ bad_among among old.state.content)
  cost_of over known =
      let cut : told ≡ over.last ++ onto over.first over.worked =
      over.order ∙ ap (λ (l : List RunTurn). over.last ++ l) (sym (onto_reverse over.first over.worked)) in
      let empty : over.first ++ [] ≡ over.first = append-nil over.first in
      let cut_first : told ≡ (over.last ++ reverse over.worked) ++ (over.first ++ []) =
      over.order ∙ sym (append_assoc over.last (reverse over.worked) over.first)
      ∙ ap (λ (l : List RunTurn). (over.last ++ reverse over.worked) ++ l) (sym empty) in
      let cost_first : CostAtMost gid mirror meta held piece over.first 0 =
      subst (λ (l : List RunTurn). CostAtMost gid mirror meta held piece l 0) empty
      (quiet_more (over.last ++ reverse over.worked) over.first [] cut_first over.before 0 tt) in
      let ends = works_pay laws tells true_is old gid meta uris mirror held among piece holds stay lengths_stay start told download
      legal ties added subject none_failed known.Opens known.next known.end over.worker [] over.first over.worked (fresh old)
      over.works.b over.works.end over.last cut (λ u there. absurd (let w = there.1 in omega (arith, w))) (stands_first tells old)
      (λ f hand. absurd (let e : Nothing ≡ Fetches f = hand in cc)) (λ f hand. absurd (let e : Nothing ≡ Fetches f = hand in cc))
      over.works.works 0 cost_first (omega arith) (omega arith) in
      let few = ends.2 in (
        ends.0,
        subst (λ (l : List RunTurn). CostAtMost gid mirror meta held piece l ends.0) (sym cut)
            (quiet_more [] over.last (onto over.first over.worked) cut over.behind ends.0 ends.1),
        omega (arith, few),
      )

-- ---- the law

module _ (laws : PayingLaws) (stay : DownloadsStay) (lengths_stay : LengthsStay) {D : Type 0} (state : D → DiskState)
    (afforded : AffordedNeverDie state) where
  pub served_never_die : ServedNeverDie state
  served_never_die tells start told disk gid meta want old true_is is over piece served none_failed mark =
      let l = is.listed in
      let d = l.download in
      let holds : HoldsPiece old.state.content meta (mirror_url (Listed meta l.uris) served.mirror) served.held served.among piece =
      subst (λ (s : Subject). HoldsPiece old.state.content meta (mirror_url s served.mirror) served.held served.among piece) l.subject
      served.holds in
      let known : EndsKnown old tells gid meta served.mirror piece told = record {
        Opens = Opens stay lengths_stay start told gid meta l.uris d is.run.legal is.run.ties l.added l.subject is.well tells old
            served.mirror piece;
        next = λ newer t before cut turns worker moment hand link hand' link' op stands follows opens g is_g.
            opens_next stay lengths_stay start told gid meta l.uris d is.run.legal is.run.ties l.added l.subject is.well tells old
            served.mirror piece newer t before cut link hand' link' g is_g turns worker moment hand t.answer.said refl op stands
            follows opens;
        end = λ newer t before cut f mark opens there.
            opens_end stay lengths_stay start told gid meta l.uris d is.run.legal is.run.ties l.added l.subject is.well tells old
            served.mirror piece newer t before cut f mark opens there;
      } in
      let cost = cost_of laws stay lengths_stay tells true_is start told gid meta l.uris d old is.run.legal is.run.ties l.added
      l.subject served.mirror served.held served.among piece holds none_failed over known in
      let few = cost.2 in
      let fewer = served.fewer in
      afforded start told disk gid meta want is piece
      (record {
        mirror = served.mirror;
        known = served.known;
        held = served.held;
        has = served.holds.has;
        most = cost.0;
        cost = cost.1;
        fewer = omega (arith, few, fewer);
      }) mark
