-- A loss of a fetch is told for the piece of the first block that wasn't delivered.
use Rattle.std.proofs.Common.{◌≡◌, inl, inr, ⊎_elim, ℕ, zero, suc, ◌+◌, ◌<◌, ◌≤◌, ◌++◌, Bool, true, false, cond, List, [], ◌∷◌, length, Option, Some, None, refl, sym, ap, subst, ◌∙◌, arith}
use Rattle.std.specs.Prelude.{Contains, ◌&&◌, ◌||◌, ◌==◌, nat_le, nat_lt, not}
use Rattle.std.specs.List.{list_any}
use Rattle.std.specs.Option.{is_some}
use Rattle.std.proofs.lemmas.Bool.{eq-eqb, eqb-true, le-leb, lt-ltb}
use Rattle.std.proofs.lemmas.Bool.Decides.{nat_tests}
use Rattle.std.proofs.lemmas.List.Elements.{Contains-append_left}
use Rattle.conn_worker.specs.Facts.{IsGain}
use Rattle.conn_worker.specs.Hands.{Fetching, Hand, Nothing, Fetches, Probes, Seals, LinkAt, allowing, begun_fetch, blocks_behind, delivered}
use Rattle.conn_worker.specs.Table.{FollowsAnswer, FollowsDelivery, FollowsFetch, FollowsGrant, FollowsKept, FollowsMore, StepsOn, due_op, fetch_op, goes_on_by}
use Rattle.conn_worker.specs.declared.hands.Gain.{Gain}
use Rattle.conn_worker.specs.declared.hands.Gain.TheVariants as gain
use Rattle.dl_history.proofs.Bools.{and_both, and_left, and_right, not_true, true_not_false}
use Rattle.dl_history.proofs.Members.{has_any, has_filter, has_from}
use Rattle.dl_history.specs.OwnEvents.{Grants, OwnEvent}
use Rattle.dl_history.specs.StandingClaims.{ends_claim, first_open_since, granted_claims, grants_claim, is_open_since, is_probe, is_standing, lands_block, piece_of_first, since, standing_claims}
use Rattle.dl_kinds.specs.Plan.{piece_of}
use Rattle.dl_kinds.specs.declared.claims.Claim.{Claim}
use Rattle.dl_kinds.specs.declared.gid.Gid.{Gid}
use Rattle.dl_kinds.specs.declared.marks.Mark.{Mark}
use Rattle.dl_kinds.specs.declared.runs.Moment.{Moment}
use Rattle.dl_kinds.specs.declared.runs.Run.{Run}
use Rattle.engine_turns.specs.ClaimRows.{IsKept, LoseRow, lost_piece, sole_phase}
use Rattle.engine_turns.specs.Phases.{AndThen, BreaksOff, ContinuesWith, DeadPhase, JustEvent, LandingsPhase}
use Rattle.engine_turns.specs.RunTurns.{IsAnswered, MayComeAfter, OperationRow, answer_before, is_nearly_full, turn_start}
use Rattle.engine_turns.specs.Standings.{AnswersUnlessStarved, IsHomeOf, OfClaim, standing_after}
use Rattle.engine_turns.specs.Told.{AllTurns, RunTurn, history_after, history_of}
use Rattle.engine_turns.specs.declared.operations.FetchGrant.{FetchGrant}
use Rattle.engine_turns.specs.declared.operations.Grant.{Grant}
use Rattle.engine_turns.specs.declared.operations.Grant.TheVariants as grant
use Rattle.engine_turns.specs.declared.operations.Operation.{Operation}
use Rattle.engine_turns.specs.declared.operations.Operation.TheVariants as operation
use Rattle.engine_turns.specs.declared.operations.Said.{Said}
use Rattle.engine_turns.specs.declared.operations.Said.TheVariants as said
use Rattle.engine_turns.specs.declared.outcome.Outcome.{Outcome}
use Rattle.engine_turns.specs.declared.outcome.Outcome.TheVariants.{Over, Starved, Went}
use Rattle.machine_core.proofs.Parts.{gid_is}
use Rattle.machine_core.specs.OwnParts.{own_of}
use Rattle.machine_core.specs.Replays.{is_same_gid}
use Rattle.machine_core.specs.RunLegal.{DownloadsStay, IsLegal, LengthsStay, download_in, known_lengths}
use Rattle.machine_core.specs.Starts.{Download, Listed, RunStart}
use Rattle.machine_core.specs.declared.events.Event.{Event}
use Rattle.machine_core.specs.declared.events.Event.TheVariants.{Called, Opened, Sized, Claimed, Landed, Settled, Cleared, Lost, Checked, Saved, Ended, Left, Stopped}
use Rattle.metainfo.specs.declared.meta.Meta.{Meta}
use Rattle.piece_table.specs.Changes.{is_in}
use Rattle.piece_table.specs.NewRuns.{AreRunsOf}
use Rattle.run_lifecycle.proofs.Claims.{claims_one, standing_came}
use Rattle.run_lifecycle.proofs.Grants.{granted_in}
use Rattle.run_lifecycle.proofs.Rows.{turn_brings}
use Rattle.stored_run.proofs.OfOne.{Each, HoldsOfOwn, delivery_in, event_in, then_in}
use Rattle.blameless_mirrors.specs.Lone.{HasNoDiskFault}
use Rattle.blameless_mirrors.proofs.ListedLengths.{known_listed}
use Rattle.blameless_mirrors.proofs.Parts.{delivered_part}
use Rattle.blameless_mirrors.proofs.Rows.{of_each}
use Rattle.served_runs.proofs.ServedHistories.{brought_there, legal_on, may_at}
use Rattle.served_runs.proofs.Working.{StandsBehind}
use Rattle.mark_costs.proofs.Ledger.{there_after}
use Rattle.mark_costs.proofs.Opening.{ClaimsNot, all_landed, find_from, lands_for, none_broken, open_after}
use Rattle.mark_costs.proofs.Paying.{found_or_none}
use Rattle.mark_costs.proofs.Wrong.{IsQuiet, NoFault, quiet_dead, quiet_sole}

-- ---- bits

or_rest : (a b : Bool) → (a || b) ≡ true → a ≡ false → b ≡ true
or_rest true b is un = absurd cc
or_rest false b is un = is

in_bounds : (b : ℕ) (run : Run) → run.first ≤ b → b < run.first + run.count → is_in b run ≡ true
in_bounds b run from before =
    and_both (nat_le run.first b) (nat_lt b (run.first + run.count)) (le-leb run.first b from) (lt-ltb b (run.first + run.count) before)

bounds_of : (b : ℕ) (run : Run) → is_in b run ≡ true → (run.first ≤ b) × (b < run.first + run.count)
bounds_of b run is =
    let p = and_left (nat_le run.first b) (nat_lt b (run.first + run.count)) is in
    let q = and_right (nat_le run.first b) (nat_lt b (run.first + run.count)) is in
    let low : run.first ≤ b = grind (arith, nat_tests) in
    let high : b < run.first + run.count = grind (arith, nat_tests) in
    (low, high)

not_probe : (c : Claim) → 0 < c.run.count → is_probe c ≡ false
not_probe c some = by (is_probe c) refl
  where
    by : (t : Bool) → is_probe c ≡ t → is_probe c ≡ false
    by false is = is
    by true is = let none = eqb-true c.run.count 0 is in absurd (omega (arith, none, some))

full_only : (t : Bool) (n : ℕ) (b : Said) → cond t (Some (said.JournalFull n)) None ≡ Some b → said.JournalFull n ≡ b
full_only true n b is = cc
full_only false n b is = absurd cc

-- ---- what is carried

module _ (stay : DownloadsStay) (lengths_stay : LengthsStay) (start : RunStart) (told : List RunTurn) (gid : Gid) (meta : Meta)
    (uris : List (List ℕ)) (download : Download) (legal : IsLegal start (history_of told)) (ties : AllTurns (MayComeAfter start) told)
    (added : download_in start (history_of told) gid ≡ Some download) (subject : download.subject ≡ Listed meta uris)
    (well : HasNoDiskFault (history_of told)) (tells : Bool) (first : LinkAt) (mirror piece : ℕ) where
  abbrev own : List RunTurn → List OwnEvent
  own before = own_of start (history_of before) gid

  -- The blocks from the first one of the rest on are open in the claim, where it stands, and no others.
  pub record OpensFor (before : List RunTurn) (claim : ℕ) (run rest : Run) : Type 0 where
    pub some : 0 < run.count
    pub from : run.first ≤ rest.first
    pub claims : (c : Claim) → Contains (standing_claims (own before)) c → c.id ≡ claim
        → (c.run ≡ run) × ((b : ℕ) → is_in b run ≡ true → is_open_since (own before) c b ≡ nat_le rest.first b)

  abbrev pub Opens : List RunTurn → Fetching → Type 0
  Opens before f = OpensFor before f.claim f.job.run f.rest

  added_after : (past events : List Event) (d : Download) → download_in start past gid ≡ Some d
      → download_in start (history_after past events) gid ≡ Some d
  added_after past [] d is = is
  added_after past (e ∷ events) d is = added_after (e ∷ past) events d (stay start past e gid d is)

  added_on : (newer before : List RunTurn) (d : Download) → download_in start (history_of before) gid ≡ Some d
      → download_in start (history_of (newer ++ before)) gid ≡ Some d
  added_on [] before d is = is
  added_on (t ∷ newer) before d is = added_after (history_of (newer ++ before)) t.events d (added_on newer before d is)

  module _ (newer : List RunTurn) (t : RunTurn) (before : List RunTurn) (cut : told ≡ newer ++ t ∷ before) where
    abbrev past : List Event
    past = history_of before

    may : MayComeAfter start before t
    may = may_at stay lengths_stay start told legal ties gid download added newer t before cut

    legal_here : IsLegal start (history_of (t ∷ before))
    legal_here = legal_on start newer (t ∷ before) (subst (λ (l : List RunTurn). IsLegal start (history_of l)) cut legal)

    no_fault : NoFault t.events
    no_fault g c there = well g c
        (subst (λ (l : List RunTurn). Contains (history_of l) (Ended g (Rattle.machine_core.specs.declared.ends.End.TheVariants.Disk c)))
        (sym cut) (brought_there newer t before _ there))

    -- ---- a loss

    abbrev LostSo : Gid → ℕ → ℕ → Type 0
    LostSo g id p = (d : Download) × (c : Claim) × (download_in start past g ≡ Some d)
        × Contains (standing_claims (own_of start past g)) c × (c.id ≡ id) × (lost_piece start past g c ≡ p)

    abbrev IsLostSo : Event → Type 0
    IsLostSo e = (g : Gid) (id m p : ℕ) (k : Mark) → e ≡ Lost g id m p k → LostSo g id p

    quiet_so : (events : List Event) → Each IsQuiet events → Each IsLostSo events
    quiet_so [] all = tt
    quiet_so (e ∷ events) (here, all) = (λ g id m p k is. absurd (here.loses g id m p k is), quiet_so events all)

    lost_here : (d : Download) (c : Claim) (mark : Mark) (id : ℕ) → IsHomeOf start past id d c
        → IsLostSo (Lost d.gid c.id c.mirror (lost_piece start past d.gid c) mark)
    lost_here d c mark id home g id' m p k is =
        let gids : d.gid ≡ g = cc in
        let ids : c.id ≡ id' = cc in
        let pieces : lost_piece start past d.gid c ≡ p = cc in
        subst (λ (x : Gid). LostSo x id' p) gids (d, c, home.added, home.stands, ids, pieces)

    lost_row : (id : ℕ) (mark : Mark) (events : List Event) (answer : Said)
        → OfClaim (turn_start start before t) (standing_after start before) id
        (LoseRow (turn_start start before t) (standing_after start before) mark) events answer → Each IsLostSo events
    lost_row id mark events answer (inl none) = subst (Each IsLostSo) (sym none.1.0) tt
    lost_row id mark events answer (inr (d, c, home, row)) =
        then_in IsLostSo (JustEvent (Lost d.gid c.id c.mirror (lost_piece start past d.gid c) mark))
        (AndThen (sole_phase d.gid (lost_piece start past d.gid c) _) (DeadPhase (turn_start start before t) d _))
        (event_in IsLostSo (Lost d.gid c.id c.mirror (lost_piece start past d.gid c) mark) (lost_here d c mark id home))
        (λ past' events' o is'. quiet_so events'
        (then_in IsQuiet (sole_phase d.gid (lost_piece start past d.gid c) _) (DeadPhase (turn_start start before t) d _)
        (quiet_sole d.gid _ _) (quiet_dead (turn_start start before t) d _) past' events' o is'))
        past events row.0 row.1

    row_each : (op : Operation) (before_said : Option Said)
        → IsAnswered (turn_start start before t) (standing_after start before) op t.events t.answer.said before_said
        → ((events : List Event) (answer : Said)
        → OperationRow (turn_start start before t) (standing_after start before) op events answer → Each IsLostSo events)
        → Each IsLostSo t.events
    row_each op (Some b) is row = subst (Each IsLostSo) (sym is.0) tt
    row_each op None (inl is) row = subst (Each IsLostSo) (sym is.1.0) tt
    row_each op None (inr is) row = row t.events t.answer.said is

    pub opens_end : (f : Fetching) (mark : Mark) → Opens before f → Contains t.events (Lost gid f.claim mirror piece mark)
        → piece_of meta.plan.piece_len f.rest.first ≡ piece
    opens_end f mark opens there =
        let brought = turn_brings start before t may (Lost gid f.claim mirror piece mark) there in
        let op = brought.1 in
        let all = row_each (operation.Lose f.claim mark brought.0) (answer_before start past (operation.Lose f.claim mark brought.0))
        (subst (λ (o : Operation). IsAnswered (turn_start start before t) (standing_after start before) o t.events t.answer.said
        (answer_before start past o)) op may.answered) (lost_row f.claim mark) in
        let its = of_each IsLostSo t.events (Lost gid f.claim mirror piece mark) all there gid f.claim mirror piece mark refl in
        let d : Download = its.0 in
        let c : Claim = its.1 in
        let stands = its.3 in
        let so = opens.claims c stands its.4 in
        let standing = (has_filter (is_standing (own before)) (granted_claims (own before)) c
        (has_from (standing_claims (own before)) c stands.0 stands.1 stands.2)).1 in
        let some = opens.some in
        let from = opens.from in
        let runs = so.0 in
        let count_is : c.run.count ≡ f.job.run.count = ap (λ (r : Run). r.count) so.0 in
        let first_is : c.run.first ≡ f.job.run.first = ap (λ (r : Run). r.first) so.0 in
        let opened : is_some (first_open_since (own before) c) ≡ true =
        or_rest (is_probe c) (is_some (first_open_since (own before) c))
        (and_right (not (list_any (ends_claim c.id) (since (grants_claim c.id) (own before)))) (is_probe c || is_some (first_open_since (own before) c)) standing)
        (not_probe c (omega (arith, some, count_is))) in
        let found : first_open_since (own before) c ≡ Some f.rest.first =
        find_from (is_open_since (own before) c) c.run.first c.run.count f.rest.first (omega (arith, first_is, from))
        (λ x low less. so.1 x (in_bounds x f.job.run (omega (arith, low, first_is)) (omega (arith, less, first_is, count_is)))) opened in
        let later = added_on newer (t ∷ before) d (added_after past t.events d its.2) in
        let at_end : download_in start (history_of told) gid ≡ Some d =
        subst (λ (l : List RunTurn). download_in start (history_of l) gid ≡ Some d) (sym cut) later in
        let same : d ≡ download = let e : Some d ≡ Some download = sym at_end ∙ added in cc in
        let lengths = known_listed start past gid d meta uris its.2 (ap (λ (x : Download). x.subject) same ∙ subject) in
        sym (sym its.5 ∙ ap (piece_of_first (known_lengths start past gid).piece_len) found
        ∙ ap (λ (l : Rattle.machine_core.specs.OwnParts.PayloadLengths). piece_of l.piece_len f.rest.first) lengths)

    -- ---- a grant

    -- two claims of one number are one
    twin : (d_gid : Gid) (c cl : Claim) → Contains (standing_claims (own (t ∷ before))) c
        → Contains (history_of (t ∷ before)) (Claimed d_gid cl) → c.id ≡ cl.id → (gid ≡ d_gid) × (c ≡ cl)
    twin d_gid c cl stands came ids =
        let same = claims_one start (history_of (t ∷ before)) gid d_gid c cl legal_here
        (standing_came start gid c (history_of (t ∷ before)) stands) came ids in
        (same.gids, same.claims)

    granted_open : (with : Bool) (cl : Claim) (rest : List OwnEvent) (b : ℕ) → with ≡ true → is_in b cl.run ≡ true
        → is_open_since (cond with (Grants cl ∷ rest) rest) cl b ≡ true
    granted_open true cl rest b is inside =
        by (cl.id == cl.id) (eq-eqb cl.id cl.id refl)
      where
        by : (t : Bool) → t ≡ true
            → (is_in b cl.run && not (list_any (lands_block b) (cond t [] (Grants cl ∷ since (grants_claim cl.id) rest)))) ≡ true
        by true same = and_both (is_in b cl.run) true inside refl
        by false same = absurd cc
    granted_open false cl rest b is inside = absurd cc

    grant_opens : (granted : FetchGrant) → t.answer.said ≡ said.Grant (grant.Fetch granted)
        → OpensFor (t ∷ before) granted.claim granted.job.run granted.job.run
    grant_opens granted is =
        let g = (granted_in start before t (grant.Fetch granted) granted.claim may is refl).3 in
        let cl : Claim = g.claim in
        let runs : granted.job.run ≡ cl.run = g.asks.run_is in
        let past_is : history_of (t ∷ before) ≡ Claimed g.download.gid cl ∷ past = ap (history_after past) g.alone in
        record {
          some = g.asks.sound.some;
          from = omega arith;
          claims = λ c stands ids.
              let came : Contains (history_of (t ∷ before)) (Claimed g.download.gid cl) =
              subst (λ (h : List Event). Contains h (Claimed g.download.gid cl)) (sym past_is) (0, omega arith, refl) in
              let same = twin g.download.gid c cl stands came (ids ∙ sym g.id_is) in (
                ap (λ (x : Claim). x.run) same.1 ∙ sym runs,
                λ b inside.
                    let in_bounds_b = bounds_of b granted.job.run inside in
                    subst (λ (h : List Event). is_open_since (own_of start h gid) c b ≡ nat_le granted.job.run.first b) (sym past_is)
                    (subst (λ (x : Claim). is_open_since (own_of start (Claimed g.download.gid cl ∷ past) gid) x b
                    ≡ nat_le granted.job.run.first b) (sym same.1)
                    (granted_open (is_same_gid gid g.download.gid) cl (own_of start past gid) b
                    (subst (λ (x : Gid). is_same_gid gid x ≡ true) same.0 (eq-eqb gid.0 gid.0 refl))
                    (subst (λ (r : Run). is_in b r ≡ true) runs inside)
                    ∙ sym (le-leb granted.job.run.first b in_bounds_b.0))),
              );
        }

    -- ---- more bytes

    more_events : (claim want : ℕ) (now : Moment) → t.op ≡ operation.More claim want now → t.events ≡ []
    more_events claim want now op =
        by (answer_before start past (operation.More claim want now))
        (subst (λ (o : Operation). IsAnswered (turn_start start before t) (standing_after start before) o t.events t.answer.said
        (answer_before start past o)) op may.answered)
      where
        by : (o : Option Said)
            → IsAnswered (turn_start start before t) (standing_after start before) (operation.More claim want now) t.events
            t.answer.said o → t.events ≡ []
        by (Some b) is = is.0
        by None (inl is) = is.1.0
        by None (inr (inl none)) = none.1.0
        by None (inr (inr row)) = row.3.0

    more_opens : (f : Fetching) (want : ℕ) (now : Moment) → t.op ≡ operation.More f.claim want now → Opens before f
        → OpensFor (t ∷ before) f.claim f.job.run f.rest
    more_opens f want now op opens =
        let same : own (t ∷ before) ≡ own before =
        ap (λ (es : List Event). own_of start (history_after past es) gid) (more_events f.claim want now op) in
        record {
          some = opens.some;
          from = opens.from;
          claims = λ c stands ids.
              let so = opens.claims c (subst (λ (o : List OwnEvent). Contains (standing_claims o) c) same stands) ids in
              (so.0, λ b inside. ap (λ (o : List OwnEvent). is_open_since o c b) same ∙ so.1 b inside);
        }

    -- ---- blocks

    claims_not : (g : Gid) → HoldsOfOwn (ClaimsNot start gid) g
    claims_not g = record {
      ended = λ how. tt;
      landed = λ id m run now. tt;
      settled = λ p right giver. tt;
      cleared = λ p. tt;
      saved = λ now. tt;
      checked = λ right. tt;
    }

    -- what a delivery that was counted did
    pub record IsCounted (claim : ℕ) (run : Run) : Type 0 where
      pub of : Download
      pub cl : Claim
      pub home : IsHomeOf start past claim of cl
      pub runs : List Run
      pub open_runs : AreRunsOf (λ (b : ℕ). is_open_since (own_of start past of.gid) cl b ≡ true) run runs
      pub front : List Event
      pub rest : List Event
      pub parted : t.events ≡ front ++ rest
      pub landed : LandingsPhase (turn_start start before t) of.gid cl.id cl.mirror runs past front Went
      pub none_claimed : Each (ClaimsNot start gid) t.events

    fed_by : (o : Outcome) (counted repeated counted' repeated' : ℕ) (answer : Said) → answer ≡ said.Kept counted repeated
        → AnswersUnlessStarved (said.Kept counted' repeated') o answer → o ≡ Starved → ⊥
    fed_by Went counted repeated counted' repeated' answer kept is same = absurd cc
    fed_by Over counted repeated counted' repeated' answer kept is same = absurd cc
    fed_by Starved counted repeated counted' repeated' answer kept is same =
        let e : said.Kept counted repeated ≡ said.NoMemory = sym kept ∙ is in cc

    counted_by : (claim : ℕ) (run : Run) (bytes : List ℕ) (d : Download) (cl : Claim) → IsHomeOf start past claim d cl
        → (counted repeated : ℕ) → t.answer.said ≡ said.Kept counted repeated
        → IsKept (turn_start start before t) (standing_after start before) d cl run t.events t.answer.said → IsCounted claim run
    counted_by claim run bytes d cl home counted repeated kept is =
        let fed = fed_by is.outcome counted repeated _ _ t.answer.said kept is.answer in
        let none_claimed = delivery_in (ClaimsNot start gid) (turn_start start before t) d (claims_not d.gid) past cl is.runs past
        t.events is.outcome is.is in
        ⊎_elim
        (λ (off : BreaksOff (LandingsPhase (turn_start start before t) d.gid cl.id cl.mirror is.runs) past t.events is.outcome).
        absurd (off.1 (none_broken (turn_start start before t) d.gid cl.id cl.mirror is.runs past t.events is.outcome off.0 fed
        no_fault)))
        (λ (on : ContinuesWith (LandingsPhase (turn_start start before t) d.gid cl.id cl.mirror is.runs) _ past t.events is.outcome).
        record {
          of = d;
          cl = cl;
          home = home;
          runs = is.runs;
          open_runs = is.open_runs;
          front = on.front;
          rest = on.rest;
          parted = on.cut;
          landed = on.first;
          none_claimed = none_claimed;
        }) is.is

    counted_so : (claim : ℕ) (run : Run) (bytes : List ℕ) (now : Moment) → t.op ≡ operation.Deliver claim run bytes now
        → (counted repeated : ℕ) → t.answer.said ≡ said.Kept counted repeated → IsCounted claim run
    counted_so claim run bytes now op counted repeated kept =
        by (answer_before start past (operation.Deliver claim run bytes now)) refl
        (subst (λ (o : Operation). IsAnswered (turn_start start before t) (standing_after start before) o t.events t.answer.said
        (answer_before start past o)) op may.answered)
      where
        by : (o : Option Said) → answer_before start past (operation.Deliver claim run bytes now) ≡ o
            → IsAnswered (turn_start start before t) (standing_after start before) (operation.Deliver claim run bytes now) t.events
            t.answer.said o → IsCounted claim run
        by (Some b) same is =
            let full = full_only (is_nearly_full past) (length past) b same in
            absurd (let e : said.Kept counted repeated ≡ said.JournalFull (length past) = sym kept ∙ is.1 ∙ sym full in cc)
        by None same (inl is) =
            absurd (let e : said.Kept counted repeated ≡ said.NoMemory = sym kept ∙ is.1.1 in cc)
        by None same (inr (inl none)) =
            absurd (let e : said.Kept counted repeated ≡ said.Void = sym kept ∙ none.1.1 in cc)
        by None same (inr (inr (d, cl, home, inl row))) = counted_by claim run bytes d cl home counted repeated kept row.1
        by None same (inr (inr (d, cl, home, inr void))) =
            absurd (let e : said.Kept counted repeated ≡ said.Void = sym kept ∙ void.1.1 in cc)

    lands_is : (b : ℕ) (e : Event) → lands_for start gid b e ≡ true
        → (id : ℕ) × (m : ℕ) × (run : Run) × (now : Moment) × (e ≡ Landed gid id m run now) × (is_in b run ≡ true)
    lands_is b (Landed other id m run now) is =
        let same : other ≡ gid = gid_is gid other (and_left (is_same_gid gid other) (is_in b run) is) in
        (id, m, run, now, (λ i. Landed (same i) id m run now), and_right (is_same_gid gid other) (is_in b run) is)
    lands_is b (Called session asked now) is = absurd cc
    lands_is b (Opened other verified blocks now) is = absurd cc
    lands_is b (Sized other id total) is = absurd cc
    lands_is b (Claimed other c) is = absurd cc
    lands_is b (Settled other p right giver) is = absurd cc
    lands_is b (Cleared other p) is = absurd cc
    lands_is b (Lost other id m p mark) is = absurd cc
    lands_is b (Checked other right) is = absurd cc
    lands_is b (Saved other now) is = absurd cc
    lands_is b (Ended other how) is = absurd cc
    lands_is b Left is = absurd cc
    lands_is b Stopped is = absurd cc

    any_there : (test : Event → Bool) (events : List Event) (e : Event) → Contains events e → test e ≡ true
        → list_any test events ≡ true
    any_there test events e there is = has_any test events e (has_from events e there.0 there.1 there.2) is

    any_none : (test : Event → Bool) (events : List Event) → ((e : Event) → Contains events e → test e ≡ false)
        → list_any test events ≡ false
    any_none test [] none = refl
    any_none test (e ∷ events) none =
        first_false (test e) (list_any test events) (none e (0, omega arith, refl))
        ∙ any_none test events (λ x there. none x (suc there.0, (let within = there.1 in omega (arith, within)), there.2))
      where
        first_false : (a b : Bool) → a ≡ false → (a || b) ≡ b
        first_false true b is = absurd cc
        first_false false b is = refl

    -- ---- what is open behind a delivery

    module _ (f : Fetching) (run : Run) (bytes : List ℕ) (now : Moment) (op : t.op ≡ operation.Deliver f.claim run bytes now)
        (opens : Opens before f) (at_first : run.first ≡ f.rest.first) (counted : IsCounted f.claim run) where
      behind_first : ℕ
      behind_first = f.rest.first + run.count

      -- a block that the turn lands is one of the run
      landed_within : (b : ℕ) → list_any (lands_for start gid b) t.events ≡ true → b < f.rest.first + run.count
      landed_within b is = ⊎_elim
          (λ (some : (e : Event) × Contains t.events e × (lands_for start gid b e ≡ true)).
          let its = lands_is b some.0 some.2 in
          let there : Contains t.events (Landed gid its.0 its.1 its.2 its.3) =
          subst (λ (e : Event). Contains t.events e) its.4 some.1 in
          let d = delivered_part start before t may f.claim run bytes now op gid its.0 its.1 its.2 its.3 there in
          let inside = bounds_of b its.2 its.5 in
          let last = d.last in
          omega (arith, inside.1, last, at_first))
          (λ (none : (e : Event) → Contains t.events e → lands_for start gid b e ≡ false).
          absurd (true_not_false (list_any (lands_for start gid b) t.events) is (any_none (lands_for start gid b) t.events none)))
          (found_or_none (lands_for start gid b) t.events)

      module _ (c : Claim) (stands : Contains (standing_claims (own (t ∷ before))) c) (ids : c.id ≡ f.claim) where
        same : (gid ≡ counted.of.gid) × (c ≡ counted.cl)
        same = twin counted.of.gid c counted.cl stands
            (there_after past t.events (Claimed counted.of.gid counted.cl)
            (standing_came start counted.of.gid counted.cl past counted.home.stands))
            (ids ∙ sym counted.home.id_is)

        stood : Contains (standing_claims (own before)) c
        stood = subst (λ (x : Claim). Contains (standing_claims (own before)) x) (sym same.1)
            (subst (λ (g : Gid). Contains (standing_claims (own_of start past g)) counted.cl) (sym same.0) counted.home.stands)

        -- an open block of the run lands
        lands_open : (b : ℕ) → run.first ≤ b → b < run.first + run.count → is_open_since (own before) c b ≡ true
            → list_any (lands_for start gid b) t.events ≡ true
        lands_open b low high is =
            let opened : is_open_since (own_of start past counted.of.gid) counted.cl b ≡ true =
            subst (λ (g : Gid). is_open_since (own_of start past g) counted.cl b ≡ true) same.0
            (subst (λ (x : Claim). is_open_since (own before) x b ≡ true) same.1 is) in
            let part = (counted.open_runs.exact b).1 (record { from = low; before = high }, opened) in
            let r : Run = part.1 in
            let there = all_landed (turn_start start before t) counted.of.gid counted.cl.id counted.cl.mirror counted.runs past
            counted.front counted.landed r (part.0, part.2, part.3) in
            let inside = part.4 in
            any_there (lands_for start gid b) t.events
            (Landed counted.of.gid counted.cl.id counted.cl.mirror r (turn_start start before t).now)
            (subst (λ (es : List Event). Contains es (Landed counted.of.gid counted.cl.id counted.cl.mirror r
            (turn_start start before t).now)) (sym counted.parted)
            (Contains-append_left counted.front counted.rest (Landed counted.of.gid counted.cl.id counted.cl.mirror r
            (turn_start start before t).now) there))
            (and_both (is_same_gid gid counted.of.gid) (is_in b r)
            (subst (λ (g : Gid). is_same_gid gid g ≡ true) same.0 (eq-eqb gid.0 gid.0 refl))
            (in_bounds b r inside.from inside.before))

        closed : (a : Bool) (x : Bool) → a ≡ false → (a && x) ≡ false
        closed true x is = absurd cc
        closed false x is = refl

        kept_open : (a x : Bool) → a ≡ true → x ≡ false → (a && not x) ≡ true
        kept_open true true is un = absurd cc
        kept_open true false is un = refl
        kept_open false x is un = absurd cc

        shut : (a x : Bool) → x ≡ true → (a && not x) ≡ false
        shut true true is = refl
        shut true false is = absurd cc
        shut false x is = refl

        open_now : (b : ℕ) → is_in b f.job.run ≡ true
            → is_open_since (own (t ∷ before)) c b ≡ nat_le (f.rest.first + run.count) b
        open_now b inside =
            let was = (opens.claims c stood ids).1 b inside in
            open_after start gid c b t.events past counted.none_claimed
            ∙ by (nat_le f.rest.first b) (nat_le (f.rest.first + run.count) b) refl refl was
          where
            by : (low high : Bool) → nat_le f.rest.first b ≡ low → nat_le (f.rest.first + run.count) b ≡ high
                → is_open_since (own before) c b ≡ nat_le f.rest.first b
                → (is_open_since (own before) c b && not (list_any (lands_for start gid b) t.events))
                ≡ nat_le (f.rest.first + run.count) b
            by false true p q was =
                let under : b < f.rest.first = grind (arith, nat_tests) in
                let over : f.rest.first + run.count ≤ b = grind (arith, nat_tests) in
                absurd (omega (arith, under, over))
            by false false p q was =
                closed (is_open_since (own before) c b) (not (list_any (lands_for start gid b) t.events)) (was ∙ p) ∙ sym q
            by true true p q was =
                let over : f.rest.first + run.count ≤ b = grind (arith, nat_tests) in
                kept_open (is_open_since (own before) c b) (list_any (lands_for start gid b) t.events) (was ∙ p)
                (not_true (list_any (lands_for start gid b) t.events) (λ is. let less = landed_within b is in omega (arith, less, over)))
                ∙ sym q
            by true false p q was =
                let low : f.rest.first ≤ b = grind (arith, nat_tests) in
                let under : b < f.rest.first + run.count = grind (arith, nat_tests) in
                shut (is_open_since (own before) c b) (list_any (lands_for start gid b) t.events)
                (lands_open b (omega (arith, low, at_first)) (omega (arith, under, at_first)) (was ∙ p)) ∙ sym q

      delivered_opens : OpensFor (t ∷ before) f.claim f.job.run (blocks_behind f.rest run)
      delivered_opens = record {
        some = opens.some;
        from = let from = opens.from in omega (arith, from);
        claims = λ c stands ids. ((opens.claims c (stood c stands ids) ids).0, open_now c stands ids);
      }

    -- ---- what follows a turn

    module _ (link : LinkAt) (hand' : Hand) (link' : LinkAt) (g : Fetching) (is_g : hand' ≡ Fetches g) where
      none_left : {P : Type 0} → hand' ≡ Nothing → P
      none_left left = absurd (let e : Nothing ≡ Fetches g = sym left ∙ is_g in cc)

      by_same : (x : Fetching) → hand' ≡ Fetches x → OpensFor (t ∷ before) x.claim x.job.run x.rest → Opens (t ∷ before) g
      by_same x is opens =
          let e : Fetches x ≡ Fetches g = sym is ∙ is_g in
          let same : x ≡ g = cc in
          subst (λ (y : Fetching). OpensFor (t ∷ before) y.claim y.job.run y.rest) same opens

      by_steps : (base : Fetching) → StepsOn tells base hand' link' → OpensFor (t ∷ before) base.claim base.job.run base.rest
          → Opens (t ∷ before) g
      by_steps base s opens =
          by_same s.0 s.2 (subst (λ (y : Fetching). OpensFor (t ∷ before) y.claim y.job.run y.rest) (sym s.1.same) opens)

      by_grant : (granted : Grant) → t.answer.said ≡ said.Grant granted → FollowsGrant tells granted link hand' link'
          → Opens (t ∷ before) g
      by_grant (grant.Fetch granted) is follows = by_steps (begun_fetch granted link) follows (grant_opens granted is)
      by_grant (grant.Probe claim pg url) is follows =
          absurd (let e : Probes follows.0 ≡ Fetches g = sym follows.2 ∙ is_g in cc)
      by_grant (grant.Hash hg p bytes) is follows =
          absurd (let e = sym follows.0 ∙ is_g in cc)

      by_kept : (d : Fetching) (left : ℕ) (last : Bool) → d.left ≡ left → FollowsKept tells d last link hand' link'
          → OpensFor (t ∷ before) d.claim d.job.run d.rest → Opens (t ∷ before) g
      by_kept d left true is follows opens = none_left follows.0
      by_kept d zero false is follows opens =
          let leaves = subst (λ k. goes_on_by tells d k link hand' link') is follows in by_same d leaves.0 opens
      by_kept d (suc left) false is follows opens =
          by_steps d (subst (λ k. goes_on_by tells d k link hand' link') is follows) opens

      by_delivery : (f : Fetching) (run : Run) (bytes : List ℕ) (last : Bool) (now : Moment) (answer : Said)
          → t.answer.said ≡ answer → t.op ≡ operation.Deliver f.claim run bytes now → run.first ≡ f.rest.first → Opens before f
          → FollowsDelivery tells (delivered f run bytes) last answer link hand' link' → Opens (t ∷ before) g
      by_delivery f run bytes last now (said.Kept counted repeated) is op at_first opens follows =
          by_kept (delivered f run bytes) f.left last refl follows
          (delivered_opens f run bytes now op opens at_first (counted_so f.claim run bytes now op counted repeated is))
      by_delivery f run bytes last now answer is op at_first opens follows = none_left follows.0

      by_more : (f : Fetching) (now : Moment) (want : ℕ) (answer : Said) → t.op ≡ operation.More f.claim want now → Opens before f
          → FollowsMore tells f answer link hand' link' → Opens (t ∷ before) g
      by_more f now want (said.Allow bytes) op opens follows =
          by_steps (allowing f bytes) follows (more_opens f want now op opens)
      by_more f now want (said.Hold ms) op opens follows = by_same f follows.0 (more_opens f want now op opens)
      by_more f now want answer op opens follows = none_left follows.0

      by_fetch : (turns : List RunTurn) (f : Fetching) (gained : Gain) (worker : ℕ) (now : Moment) (answer : Said) → f.gain ≡ gained
          → t.answer.said ≡ answer → t.op ≡ fetch_op worker f now gained → StandsBehind tells first turns (Fetches f) link
          → Opens before f → FollowsFetch tells f gained answer link hand' link' → Opens (t ∷ before) g
      by_fetch turns f (gain.Ready run bytes last) worker now answer is answered op stands opens follows =
          let at = stands.held.at (λ opened. let e : gain.Ready run bytes last ≡ gain.Open = sym is ∙ opened in cc) in
          let ready = (subst (λ (x : Gain). IsGain tells f link x) is at.gain).0 in
          by_delivery f run bytes last now answer answered op ready.first opens follows
      by_fetch turns f (gain.Lost loss mark) worker now answer is answered op stands opens follows = none_left follows.0
      by_fetch turns f gain.Open worker now answer is answered op stands opens follows =
          by_more f now _ answer op opens follows
      by_fetch turns f gain.Starved worker now answer is answered op stands opens follows = none_left follows.0

      pub opens_next : (turns : List RunTurn) (worker : ℕ) (moment : Moment) (hand : Hand) (answer : Said) → t.answer.said ≡ answer
          → t.op ≡ due_op worker hand moment → StandsBehind tells first turns hand link
          → FollowsAnswer tells hand answer link hand' link' → ((f : Fetching) → hand ≡ Fetches f → Opens before f)
          → Opens (t ∷ before) g
      opens_next turns worker moment Nothing (said.Grant granted) is op stands follows opens = by_grant granted is follows
      opens_next turns worker moment Nothing answer is op stands follows opens = none_left follows.0
      opens_next turns worker moment (Probes p) (said.Grant granted) is op stands follows opens = by_grant granted is follows
      opens_next turns worker moment (Probes p) answer is op stands follows opens = none_left follows.0
      opens_next turns worker moment (Seals sg sealed) (said.Grant granted) is op stands follows opens = by_grant granted is follows
      opens_next turns worker moment (Seals sg sealed) answer is op stands follows opens = none_left follows.0
      opens_next turns worker moment (Fetches f) (said.Grant granted) is op stands follows opens = by_grant granted is follows
      opens_next turns worker moment (Fetches f) answer is op stands follows opens =
          by_fetch turns f f.gain worker moment answer refl is op stands (opens f refl) follows
