-- Doors are used where the console is on.
use Rattle.std.proofs.Common.{◌≡◌, ⊎_elim, Bool, true, false, List, [], ◌∷◌, length, map, sym, ap, ◌∙◌, subst, arith}
use Rattle.console_session.specs.declared.serving.Transcript.{Transcript}
use Rattle.desk_participants.specs.Uses.{Use}
use Rattle.dl_clock.specs.declared.clock.Clock.{Ghosts as ClockSays}
use Rattle.dl_disk.specs.declared.disk.Disk.{Ghosts as DiskSays}
use Rattle.dl_kinds.specs.declared.outside.Sink.{Ghosts as SinkSays}
use Rattle.door_source.specs.declared.Doors.{Ghosts as DoorSays}
use Rattle.link_source.specs.declared.Links.{Ghosts as LinkSays}
use Rattle.run_lifecycle.specs.declared.beginning.Begun.{Begun}
use Rattle.run_lifecycle.specs.declared.ended.Ended.{Ended}
use Rattle.shared_run.specs.RunsTogether.{GoesOnBegun, GoesTogether, edges, used_edges, with_unused}
use Rattle.shared_run.specs.Together.{Edges, NobodyWorked, WorkedTogether}

none_mapped : {X Y : Type 0} (f : X → Y) (xs : List X) → [] ≡ map f xs → xs ≡ []
none_mapped f [] is = λ i. []
none_mapped f (x ∷ xs) is = absurd (let many = ap length is in omega (arith, many))

module _ {D L A K O : Type 0} {says : DiskSays D} {links : LinkSays L} {clocks : ClockSays K} {doors : DoorSays A}
    {sinks : SinkSays O}
    {begun : Begun D} {olds : Edges L A K} {out : O} {ended : Ended D} {news : Edges L A K}
    {transcripts : List Transcript} {out' : O} where
  pub goes_with : begun.console.is_on ≡ true
      → GoesTogether says links clocks doors sinks begun olds out ended news transcripts out'
      → GoesOnBegun says links clocks doors sinks begun olds out ended news transcripts out'
  goes_with is goes = record {
    used = news;
    goes = subst
        (λ (e : Edges L A K). GoesTogether says links clocks doors sinks begun e out ended news transcripts out')
        (sym (ap (λ (b : Bool). used_edges b olds) is)) goes;
    news_are = sym (ap (λ (b : Bool). with_unused b olds news) is);
  }

  -- where no door was given none comes back
  pub no_doors_left :
      GoesTogether says links clocks doors sinks begun olds out ended news transcripts out' → olds.doors ≡ []
      → news.doors ≡ []
  no_doors_left goes none = ⊎_elim
      (λ (worked : WorkedTogether D links clocks doors begun.console begun.desk.own olds news transcripts goes.works.turns
      goes.works.work_short).
      worked.doors_used.news_are
      ∙ ap (map (λ (u : Use A K Transcript). u.new))
      (none_mapped (λ (u : Use A K Transcript). u.old) worked.door_uses (sym none ∙ worked.doors_used.olds_are)))
      (λ (nobody : NobodyWorked begun.desk.own olds news transcripts goes.works.turns goes.works.work_short).
      ap (λ (e : Edges L A K). e.doors) nobody.same ∙ none) goes.works.worked

module _ {D L A K O : Type 0} {says : DiskSays D} {links : LinkSays L} {clocks : ClockSays K} {doors : DoorSays A}
    {sinks : SinkSays O}
    {begun : Begun D} {out : O} {ended : Ended D} {transcripts : List Transcript} {out' : O} {ls : List (L × K)}
    {given : List (A × K)} {used : Edges L A K} where
  -- each door that was not used is as it was
  pub goes_without : (unused : List (A × K))
      → GoesTogether says links clocks doors sinks begun (edges ls given) out ended used transcripts out'
      → begun.console.is_on ≡ false → given ≡ []
      → GoesOnBegun says links clocks doors sinks begun (edges ls unused) out ended (edges used.links unused) transcripts
      out'
  goes_without unused goes off none = record {
    used = used;
    goes = subst
        (λ (e : Edges L A K). GoesTogether says links clocks doors sinks begun e out ended used transcripts out')
        (ap (λ (ds : List (A × K)). edges ls ds) none ∙ sym (ap (λ (b : Bool). used_edges b (edges ls unused)) off)) goes;
    news_are = sym (ap (λ (b : Bool). with_unused b (edges ls unused) used) off);
  }
