-- What a run leaves as it was, and where.
use Rattle.std.proofs.Common.{◌≡◌, inl, inr, ⊎_elim, ℕ, Bool, List, [], Some, length, map, refl, sym, ap, ◌∙◌, subst, arith, slice_get}
use Rattle.std.specs.Prelude.{Contains}
use Rattle.conn_worker.specs.Brought.{IsLaterLink, LinksGoOn}
use Rattle.conn_worker.specs.Hands.{LinkAt, WorkerAt, fresh, link_at}
use Rattle.conn_worker.specs.Works.{ComesOut, HasNoRoom, RunSight, Worked}
use Rattle.conn_worker.specs.declared.ends.Spent.{Spent}
use Rattle.conn_worker.specs.declared.ends.WorkEnd.{WorkEnd}
use Rattle.console_session.specs.declared.serving.Transcript.{Transcript}
use Rattle.desk_participants.specs.Uses.{Use}
use Rattle.desk_participants.proofs.Seating.{get_at, index_at}
use Rattle.desk_participants.proofs.Uses.{map_get, map_length, same_some}
use Rattle.dl_clock.specs.declared.clock.Clock.{Ghosts as ClockSays}
use Rattle.dl_disk.specs.declared.disk.Disk.{Ghosts as DiskSays}
use Rattle.dl_kinds.specs.declared.outside.Sink.{Ghosts as SinkSays}
use Rattle.door_source.specs.declared.Doors.{Ghosts as DoorSays}
use Rattle.engine_turns.specs.Told.{RunTurn}
use Rattle.link_source.specs.declared.Links.{Ghosts as LinkSays}
use Rattle.machine_core.specs.declared.events.Event.{Event}
use Rattle.machine_core.specs.declared.events.Event.TheVariants.{Stopped}
use Rattle.std.proofs.Common.{Ok, Result}
use Rattle.run_lifecycle.specs.Finishes.{Ran}
use Rattle.run_lifecycle.specs.Untouched.{OnlyReads}
use Rattle.run_lifecycle.specs.declared.console.ConsoleTerms.{ConsoleTerms}
use Rattle.run_lifecycle.specs.declared.ended.Ended.{Ended}
use Rattle.shared_run.specs.LinksLeft.{LeavesLinks}
use Rattle.shared_run.specs.RunsTogether.{RanTogether, RunsTogether, used_edges}
use Rattle.shared_run.specs.Together.{Edges, NobodyWorked, WorkedTogether}
use Rattle.shared_run.proofs.Framed.{framed}

none_there : {P : Type 0} → Contains [] Stopped → P
none_there there = absurd (let within = there.1 in omega (arith, within))

-- a link that wasn't used
pub stays : (tells : Bool) (at : LinkAt) → IsLaterLink tells at at
stays tells at = record { faults = omega arith; used = []; gained = λ told. refl }

-- the link of a worker goes on
pub worker_goes_on : {D L : Type 0} {links : LinkSays L} (worker : ℕ) (s s' : RunSight D) (old new : L)
    (came : Result WorkEnd Spent) → LinksGoOn → Worked links worker s old s' new came
    → IsLaterLink links.tells (link_at links old) (link_at links new)
worker_goes_on {links = links} worker s s' old new came go_on its = ⊎_elim
    (λ (comes : ComesOut links.tells worker its.worked (fresh (link_at links old)) its.b came).
    subst (IsLaterLink links.tells (link_at links old)) its.link_is
    (go_on links.tells worker its.worked (link_at links old) its.b comes.end comes.works))
    (λ (none : HasNoRoom its.worked (fresh (link_at links old)) its.b came).
    subst (IsLaterLink links.tells (link_at links old))
    (sym (ap (λ (a : WorkerAt). a.link) none.same) ∙ its.link_is) (stays links.tells (link_at links old)))
    its.comes_out

module _ {L K : Type 0} (links : LinkSays L) where
  abbrev pub GoOn : (olds news : List (L × K)) → Type 0
  GoOn olds news = (place : ℕ) (old new : L × K) → slice_get olds place ≡ Some old → slice_get news place ≡ Some new
      → IsLaterLink links.tells (link_at links old.0) (link_at links new.0)

  pub same_go_on : (olds news : List (L × K)) → news ≡ olds → GoOn olds news
  same_go_on olds news same place old new old_is new_is =
      let one : old ≡ new = same_some old new
      (sym old_is ∙ (ap (λ (ls : List (L × K)). slice_get ls place) (sym same) ∙ new_is)) in
      subst (λ (l : L × K). IsLaterLink links.tells (link_at links old.0) (link_at links l.0)) one
      (stays links.tells (link_at links old.0))

  module _ {A : Type 0} (clocks : ClockSays K) (doors : DoorSays A) (D : Type 0) (console : ConsoleTerms)
      (call : List RunTurn) (olds news : Edges L A K) (transcripts : List Transcript) (turns : List RunTurn) (short : Bool)
      (worked : WorkedTogether D links clocks doors console call olds news transcripts turns short) where
    used_go_on : LinksGoOn → GoOn olds.links news.links
    used_go_on go_on place old new old_is new_is =
        let are = worked.used in
        let olds_get = ap (λ (ls : List (L × K)). slice_get ls place) (sym are.olds_are) ∙ old_is in
        let low = (index_at (map (λ (u : Use L K Bool). u.old) worked.uses) place old olds_get).0 in
        let many = map_length (λ (u : Use L K Bool). u.old) worked.uses in
        let its = get_at worked.uses place (omega (arith, low, many)) in
        let u = its.0 in
        let used = worked.each place u its.1 in
        let old_same : u.old ≡ old = same_some u.old old
        (sym (map_get (λ (x : Use L K Bool). x.old) worked.uses place u its.1) ∙ olds_get) in
        let new_same : u.new ≡ new = same_some u.new new
        (sym (map_get (λ (x : Use L K Bool). x.new) worked.uses place u its.1)
        ∙ (ap (λ (ls : List (L × K)). slice_get ls place) (sym are.news_are) ∙ new_is)) in
        subst (λ (l : L × K). IsLaterLink links.tells (link_at links l.0) (link_at links new.0)) old_same
        (subst (λ (l : L × K). IsLaterLink links.tells (link_at links u.old.0) (link_at links l.0)) new_same
        (worker_goes_on place used.from used.to u.old.0 u.new.0 (Ok used.came) go_on used.by_clock.its))

    used_many : length news.links ≡ length olds.links
    used_many =
        let are = worked.used in
        ap length are.news_are
        ∙ (map_length (λ (u : Use L K Bool). u.new) worked.uses
        ∙ sym (ap length are.olds_are ∙ map_length (λ (u : Use L K Bool). u.old) worked.uses))

module _ {D L A K O : Type 0} {says : DiskSays D} {links : LinkSays L} {clocks : ClockSays K} {doors : DoorSays A}
    {sinks : SinkSays O}
    {words : List (List ℕ)} {gids : ℕ} {disk : D} {olds : Edges L A K} {out : O} {ended : Ended D} {news : Edges L A K}
    {transcripts : List Transcript} {out' : O} where
  module _ (ran : RanTogether says links clocks doors sinks words gids disk olds out ended news transcripts out') where
    abbrev before : Edges L A K
    before = used_edges ran.begun.console.is_on olds

    abbrev used : Edges L A K
    used = ran.goes_on.used

    abbrev Nobody : Type 0
    Nobody = NobodyWorked ran.begun.desk.own before used transcripts ran.goes_on.goes.works.turns
        ran.goes_on.goes.works.work_short

    links_same : news.links ≡ used.links
    links_same = ap (λ (e : Edges L A K). e.links) ran.goes_on.news_are

    ran_many : length used.links ≡ length olds.links
    ran_many = ⊎_elim
        (λ worked. used_many links clocks doors D ran.begun.console ran.begun.desk.own before used transcripts
        ran.goes_on.goes.works.turns ran.goes_on.goes.works.work_short worked)
        (λ (nobody : Nobody). ap (λ (e : Edges L A K). length e.links) nobody.same) ran.goes_on.goes.works.worked

    ran_go_on : LinksGoOn → GoOn links olds.links used.links
    ran_go_on go_on = ⊎_elim
        (λ worked. used_go_on links clocks doors D ran.begun.console ran.begun.desk.own before used transcripts
        ran.goes_on.goes.works.turns ran.goes_on.goes.works.work_short worked go_on)
        (λ (nobody : Nobody).
        same_go_on links olds.links used.links (ap (λ (e : Edges L A K). e.links) nobody.same))
        ran.goes_on.goes.works.worked

  pub leaves_links : ((ran : Ran says sinks words gids (length olds.doors) disk out ended out')
      → Contains ended.journal.events.items Stopped) → LinksGoOn → OnlyReads says disk ended
      → RunsTogether says links clocks doors sinks words gids disk olds out ended news transcripts out'
      → LeavesLinks says links disk olds.links ended news.links
  leaves_links stopped go_on reads (inl never) =
      let same = ap (λ (e : Edges L A K). e.links) never.1 in record {
        reads = reads;
        all = λ none. same;
        many = ap length same;
        places = same_go_on links olds.links news.links same;
      }
  leaves_links stopped go_on reads (inr ran) = record {
    reads = reads;
    all = λ none. none_there (subst (λ (es : List Event). Contains es Stopped) none (stopped (framed ran)));
    many = ap length (links_same ran) ∙ ran_many ran;
    places = subst (GoOn links olds.links) (sym (links_same ran)) (ran_go_on ran go_on);
  }
