-- A worker's turns over one link cost a mirror that holds a piece no more than the bad answers that were left of it.
use Rattle.std.proofs.Common.{◌≡◌, ℕ, zero, suc, ◌+◌, ◌≤◌, IsTrue, Bool, List, [], ◌∷◌, ◌++◌, append_assoc, Option, Some, None, refl, sym, ap, subst, ◌∙◌, arith}
use Rattle.std.specs.Prelude.{Contains}
use Rattle.std.specs.Option.{option_or}
use Rattle.std.proofs.lemmas.List.Elements.{Contains-append_right}
use Rattle.conn_worker.specs.Ends.{end_of_said}
use Rattle.conn_worker.specs.Hands.{Fetching, Hand, Nothing, Fetches, Probes, Seals, LinkAt, WorkerAt}
use Rattle.conn_worker.specs.Table.{FollowsAnswer, due_op, end_behind, end_of_gain}
use Rattle.conn_worker.specs.Works.{EndsOrGoesOn, Works, turn_moment}
use Rattle.conn_worker.specs.declared.ends.WorkEnd.{WorkEnd}
use Rattle.conn_worker.specs.declared.hands.Gain.{Gain}
use Rattle.conn_worker.specs.declared.hands.Gain.TheVariants as gain
use Rattle.dl_kinds.specs.Plan.{piece_of}
use Rattle.dl_kinds.specs.declared.gid.Gid.{Gid}
use Rattle.dl_kinds.specs.declared.marks.Mark.{Mark}
use Rattle.dl_kinds.specs.declared.runs.Moment.{Moment}
use Rattle.engine_turns.specs.NextRows.{mirror_url}
use Rattle.engine_turns.specs.RunTurns.{MayComeAfter}
use Rattle.engine_turns.specs.Told.{AllTurns, RunTurn, history_of}
use Rattle.machine_core.specs.RunLegal.{DownloadsStay, IsLegal, LengthsStay, download_in}
use Rattle.machine_core.specs.Starts.{Download, Listed, RunStart}
use Rattle.machine_core.specs.declared.events.Event.TheVariants.{Lost}
use Rattle.metainfo.specs.declared.meta.Meta.{Meta}
use Rattle.blameless_mirrors.specs.Blameless.{HasFailedLink}
use Rattle.served_runs.specs.Answering.{HasAnswered}
use Rattle.served_runs.proofs.Working.{StandsBehind}
use Rattle.mark_costs.specs.Holding.{HoldsPiece}
use Rattle.mark_costs.proofs.Facts.{turn_facts}
use Rattle.mark_costs.proofs.Fetch.{PayingLaws}
use Rattle.mark_costs.proofs.Held.{turn_held}
use Rattle.mark_costs.proofs.Left.{all_bad, used_at_most}
use Rattle.mark_costs.proofs.Paying.{Costs, HandPays, TurnPays, next_pays, turn_step, used_at}

-- the turns of a worker, in order, come before these
abbrev pub onto : List RunTurn → List RunTurn → List RunTurn
onto past [] = past
onto past (t ∷ ts) = onto (t ∷ past) ts

onto_cut : (past ts : List RunTurn) → (newer : List RunTurn) × (onto past ts ≡ newer ++ past)
onto_cut past [] = ([], refl)
onto_cut past (t ∷ ts) =
    let rest = onto_cut (t ∷ past) ts in
    (rest.0 ++ t ∷ [], rest.1 ∙ sym (append_assoc rest.0 (t ∷ []) past))

-- want of memory ends the work
fed_behind : (answered : Option WorkEnd) (g : Gain) → option_or answered (end_of_gain g) ≡ None → g ≡ gain.Starved → ⊥
fed_behind (Some end) g none is = cc
fed_behind None (gain.Ready run bytes last) none is = cc
fed_behind None (gain.Lost loss mark) none is = cc
fed_behind None gain.Open none is = cc
fed_behind None gain.Starved none is = cc

module _ (laws : PayingLaws) (tells : Bool) (true_is : IsTrue tells) (first : LinkAt) (gid : Gid) (meta : Meta)
    (uris : List (List ℕ)) (mirror : ℕ) (held : List ℕ) (among : ℕ → Bool) (piece : ℕ)
    (holds : HoldsPiece first.state.content meta (mirror_url (Listed meta uris) mirror) held among piece)
    (stay : DownloadsStay) (lengths_stay : LengthsStay) (start : RunStart) (told : List RunTurn) (download : Download)
    (legal : IsLegal start (history_of told)) (ties : AllTurns (MayComeAfter start) told)
    (added : download_in start (history_of told) gid ≡ Some download) (subject : download.subject ≡ Listed meta uris)
    (none_failed : ¬ HasFailedLink (history_of told) gid mirror)
    (Opens : List RunTurn → Fetching → Type 0)
    (opens_next : (newer : List RunTurn) (t : RunTurn) (before : List RunTurn) → told ≡ newer ++ t ∷ before
    → (turns : List RunTurn) (worker : ℕ) (moment : Moment) (hand : Hand) (link : LinkAt) (hand' : Hand) (link' : LinkAt)
    → t.op ≡ due_op worker hand moment → StandsBehind tells first turns hand link
    → FollowsAnswer tells hand t.answer.said link hand' link'
    → ((f : Fetching) → hand ≡ Fetches f → Opens before f) → (g : Fetching) → hand' ≡ Fetches g → Opens (t ∷ before) g)
    (opens_end : (newer : List RunTurn) (t : RunTurn) (before : List RunTurn) → told ≡ newer ++ t ∷ before
    → (f : Fetching) (mark : Mark) → Opens before f → Contains t.events (Lost gid f.claim mirror piece mark)
    → piece_of meta.plan.piece_len f.rest.first ≡ piece) where
  abbrev CostsHere : List RunTurn → ℕ → Type 0
  CostsHere ts n = Costs laws tells true_is first gid meta uris mirror held among piece holds ts n

  abbrev HandPaysHere : ℕ → Hand → LinkAt → Type 0
  HandPaysHere n hand link = HandPays laws tells true_is first gid meta uris mirror held among piece holds n hand link

  abbrev TurnPaysHere : ℕ → Hand → LinkAt → Type 0
  TurnPaysHere n hand link = TurnPays laws tells true_is first gid meta uris mirror held among piece holds n hand link

  abbrev at_first : LinkAt → ℕ
  at_first link = used_at laws tells true_is first gid meta uris mirror held among piece holds link

  -- no more than all bad answers of the mirrors, used or left
  abbrev pub IsBounded : ℕ → Type 0
  IsBounded n = n + at_first first ≤ all_bad among first.state.content

  bounded_by : (n : ℕ) (hand : Hand) (link : LinkAt) → HasAnswered first.state link.state → TurnPaysHere n hand link → IsBounded n
  bounded_by n (Fetches f) link has pays =
      let most = used_at_most among first.state link.state has in let few = pays.0 in omega (arith, most, few)
  bounded_by n Nothing link has few = let most = used_at_most among first.state link.state has in omega (arith, most, few)
  bounded_by n (Probes p) link has few = let most = used_at_most among first.state link.state has in omega (arith, most, few)
  bounded_by n (Seals g sealed) link has few = let most = used_at_most among first.state link.state has in omega (arith, most, few)

  -- what the turns cost
  abbrev Ends : List RunTurn → Type 0
  Ends ts = (k : ℕ) × CostsHere ts k × IsBounded k

  added_there : (t u : RunTurn) (l : List RunTurn) → ((v : RunTurn) → Contains l v → Contains told v) → Contains told t
      → Contains (l ++ t ∷ []) u → Contains told u
  added_there t u [] all here (zero, within, is) = subst (λ (v : RunTurn). Contains told v) is here
  added_there t u [] all here (suc k, within, is) = absurd (omega (arith, within))
  added_there t u (x ∷ l) all here (zero, within, is) = all u (0, omega arith, is)
  added_there t u (x ∷ l) all here (suc k, within, is) =
      added_there t u l (λ v there. all v (suc there.0, (let w = there.1 in omega (arith, w)), there.2)) here
      (k, omega (arith, within), is)

  goes_on : (t : RunTurn) (past ts : List RunTurn) (b m : WorkerAt) (end by : Option WorkEnd) (P : Type 0)
      → EndsOrGoesOn by ((ts ≡ []) × (b ≡ m) × (end ≡ by)) P → (k : ℕ) → CostsHere (t ∷ past) k → IsBounded k
      → (by ≡ None → P → Ends (onto (t ∷ past) ts)) → Ends (onto (t ∷ past) ts)
  goes_on t past ts b m end None P its k cost bound on = on refl its
  goes_on t past ts b m end (Some e) P its k cost bound on =
      (k, subst (λ (l : List RunTurn). CostsHere (onto (t ∷ past) l) k) (sym its.0) cost, bound)

  pub works_pay : (worker : ℕ) (turns past ts : List RunTurn) (a b : WorkerAt) (end : Option WorkEnd) (last : List RunTurn)
      → told ≡ last ++ onto past ts → ((u : RunTurn) → Contains turns u → Contains told u)
      → StandsBehind tells first turns a.hand a.link → ((f : Fetching) → a.hand ≡ Fetches f → f.gain ≡ gain.Starved → ⊥)
      → ((f : Fetching) → a.hand ≡ Fetches f → Opens past f) → Works tells worker ts a b end
      → (n : ℕ) → CostsHere past n → HandPaysHere n a.hand a.link → IsBounded n → Ends (onto past ts)
  works_pay worker turns past [] a b end last cut within stands fed opens works n cost pays bound = (n, cost, bound)
  works_pay worker turns past (t ∷ ts) a b end last cut within stands fed opens works n cost pays bound =
      let told_ = works.0 in
      let m : WorkerAt = works.1 in
      let does = works.2 in
      let moment = turn_moment told_ a.moment in
      let c = onto_cut (t ∷ past) ts in
      let cut_here : told ≡ (last ++ c.0) ++ t ∷ past =
      cut ∙ ap (λ (l : List RunTurn). last ++ l) c.1 ∙ sym (append_assoc last c.0 (t ∷ past)) in
      let facts = turn_facts laws tells true_is first gid meta uris mirror held among piece holds stay lengths_stay start told
      download legal ties added subject none_failed (last ++ c.0) t past cut_here turns within a.hand a.link
      (λ f mark hand there. opens_end (last ++ c.0) t past cut_here f mark (opens f hand) there) in
      let step = turn_step laws tells true_is first gid meta uris mirror held among piece holds turns t past a.link worker moment
      a.hand does.op stands facts fed n cost pays in
      let next = next_pays laws tells true_is first gid meta uris mirror held among piece holds step.0 a.hand t.answer.said a.link
      m.hand m.link step.2 does.follows in
      let bound' = bounded_by step.0 a.hand a.link (stands.reached true_is) step.2 in
      let stands' = turn_held tells first turns t t.answer.said a.hand a.link m.hand m.link refl does.follows stands in
      let t_there : Contains told t = subst (λ (l : List RunTurn). Contains l t) (sym cut_here)
      (Contains-append_right (last ++ c.0) (t ∷ past) t (0, omega arith, refl)) in
      let within' = (λ (u : RunTurn) (there : Contains (turns ++ t ∷ []) u). added_there t u turns within t_there there) in
      goes_on t past ts b m end (end_behind t.answer.said m.hand) (Works tells worker ts m b end) works.3 step.0 step.1 bound'
      (λ none its. works_pay worker (turns ++ t ∷ []) (t ∷ past) ts m b end last cut within' stands'
      (λ f hand. fed_behind (end_of_said t.answer.said) f.gain
      (subst (λ (h : Hand). end_behind t.answer.said h ≡ None) hand none))
      (opens_next (last ++ c.0) t past cut_here turns worker moment a.hand a.link m.hand m.link does.op stands does.follows opens)
      its step.0 step.1 next bound')
