-- What a load's mirrors serve comes.
use Rattle.std.proofs.Common.{◌≡◌, ◌⊎◌, inl, inr, ⊎_elim, ℕ, Bool, true, false, List, Result, Ok, Err, [], ◌∷◌, ◌++◌, Some, None, cond, drop, get_or, length, slice_get, sym, ap, ◌∙◌, subst, arith}
use Rattle.std.specs.Prelude.{codes}
use Rattle.std.specs.Str.{bytes_eq}
use Rattle.std.proofs.Math.Seq.{drop-append_seam}
use Rattle.std.proofs.lemmas.Bool.{false_from_ne_true}
use Rattle.std.proofs.lemmas.List.{length-append}
use Rattle.std.proofs.lemmas.Slice.Eq.{bytes_eq-Decides}
use Rattle.command_line.specs.Lines.{IsLine, has_console}
use Rattle.conn_worker.specs.declared.ends.Spent.{Spent}
use Rattle.conn_worker.specs.declared.ends.WorkEnd.{WorkEnd}
use Rattle.conn_worker.specs.declared.ends.WorkEnd.TheVariants as end
use Rattle.dl_disk.specs.Contents.{files_listed}
use Rattle.dl_disk.specs.declared.disk.Disk.{Ghosts as DiskSays}
use Rattle.dl_kinds.specs.declared.outside.Sink.{Ghosts as SinkSays}
use Rattle.engine_turns.specs.RunTurns.{is_nearly_full}
use Rattle.link_source.specs.Load.{load_bytes}
use Rattle.link_source.specs.Mirrors.{Content}
use Rattle.link_source.specs.declared.Links.{Ghosts as LinkSays}
use Rattle.machine_core.specs.Starts.{Listed}
use Rattle.machine_core.specs.declared.events.Event.{Event}
use Rattle.metainfo.specs.Info.{info_of}
use Rattle.run_lifecycle.specs.Begins.{start_of_line}
use Rattle.run_lifecycle.specs.declared.ended.Ended.{Ended}
use Rattle.run_report.specs.declared.endings.RunEnding.TheVariants.{NoMemory}
use Rattle.served_runs.specs.Serving.{ServesRightly}
use Rattle.served_runs.specs.Completes.{CompletesServed, EndsCutShort, HadNoFaults, IsCutShort, IsDone, IsDoneWhole, own_options}
use Rattle.load_setup.specs.Links.{load_content}
use Rattle.load_setup.specs.LoadLine.{WordsNameLoad}
use Rattle.load_setup.specs.Metainfo.{metainfo_by}
use Rattle.load_setup.specs.Payload.{digests_of}
use Rattle.load_setup.specs.Said.{MetainfoFilesAreRead, MetainfoFilesSayPayloads, SaysPayload}
use Rattle.load_setup.specs.Words.{run_words}
use Rattle.load_setup.proofs.Said.{file_long}
use Rattle.self_load.proofs.Served.{payload_is, serves_rightly}

-- ---- no control file

never_suffix : (name : List ℕ) → codes "load.torrent" ≡ name ++ codes ".aria2" → ⊥
never_suffix name is =
    let both = length-append name (codes ".aria2") in
    let long = ap length is in
    let six : length name ≡ 6 = omega (arith, both, long) in
    let behind : codes "orrent" ≡ codes ".aria2" =
    ap (drop 6) is ∙ (ap (λ k. drop k (name ++ codes ".aria2")) (sym six) ∙ drop-append_seam name (codes ".aria2")) in
    let first : 111 ≡ 46 = ap (λ (xs : List ℕ). get_or xs 0 0) behind in
    omega (arith, first)

pub no_control : (bytes name : List ℕ) → files_listed ((codes "load.torrent", bytes) ∷ [])
    (name ++ codes ".aria2") ≡ None
no_control bytes name =
    ap (λ b. cond b (Some bytes) None)
    (false_from_ne_true (bytes_eq (codes "load.torrent") (name ++ codes ".aria2"))
    (λ same. never_suffix name ((bytes_eq-Decides (codes "load.torrent") (name ++ codes ".aria2")).0 same)))

-- ---- the run

-- what is known of the words, the disk and the links
pub record IsLoadGiven {D L K : Type 0} (says : DiskSays D) (links : LinkSays L) (words : List (List ℕ)) (disk : D)
    (olds : List (L × K)) (n : ℕ) : Type 0 where
  pub words_name : WordsNameLoad
  pub files_say : MetainfoFilesSayPayloads
  pub files_read : MetainfoFilesAreRead
  pub words_are : words ≡ run_words
  pub file : (says.state disk).seen (codes "load.torrent") ≡ Some (metainfo_by (digests_of n))
  pub fresh : (name : List ℕ) → (says.state disk).seen (name ++ codes ".aria2") ≡ None
  pub content : (place : ℕ) (old : L × K) → slice_get olds place ≡ Some old
      → (links.state old.0).content ≡ load_content n place

pub comes_well : {D L K O : Type 0} {limited : Bool} {says : DiskSays D} {links : LinkSays L} {sinks : SinkSays O}
    {words : List (List ℕ)} {gids : ℕ} {disk : D} {olds : List (L × K)} {out : O} {ended : Ended D} {news : List (L × K)}
    {out' : O} (doors n : ℕ)
    → CompletesServed limited says links sinks words gids doors disk olds out ended news out'
    → (is : IsLoadGiven says links words disk olds n)
    → HadNoFaults says links sinks words disk olds out ended news out'
    → IsDone ended ⊎ (ended.ending ≡ NoMemory)
    ⊎ EndsCutShort limited links (start_of_line gids doors is.words_name.some.0.globals) olds ended news
comes_well {D} {L} {K} {O} {limited} {says} {links} {sinks} {words} {gids} {disk} {olds} {out} {ended} doors n completes is well =
    let line = is.words_name.some.0 in
    let names = is.words_name.line line is.words_name.some.1 in
    let meta = (is.files_read n).0 in
    let told : SaysPayload (digests_of n) (info_of meta) = is.files_say n (info_of meta) (is.files_read n).1 in
    let many = ap length told.seeds in
    let long = file_long n in
    ⊎_elim (λ (whole : IsDoneWhole says disk ended (own_options line) meta). inl whole.done) (λ other. inr other)
    (completes line meta [] 2 (load_bytes n 67108864) (record {
      names = record {
        off = ap has_console is.words_are ∙ is.words_name.off;
        means = subst (λ (ws : List (List ℕ)). IsLine ws line) (sym is.words_are) is.words_name.some.1;
        file = codes "load.torrent";
        named = names.source;
        says = record {
          bytes = metainfo_by (digests_of n);
          has = record { holds = is.file; few = omega (arith, long) };
          says = (is.files_read n).1;
        };
        few = omega (arith, many);
      };
      of = payload_is n meta (own_options line) told.total told.piece_len told.digests_are;
      known = omega (arith, many);
      serve = λ place old at.
          subst (λ (c : Content). ServesRightly c (Listed meta []) (own_options line) 2 (load_bytes n 67108864)) (sym
          (is.content place old at))
          (serves_rightly n place meta (own_options line) told.files told.total told.seeds);
      fresh = is.fresh;
      well = well;
    }))

-- where the number of turns isn't limited, a full journal alone cuts a worker short
pub full_alone : (events : List Event) (came : Result WorkEnd Spent) → IsCutShort false events came
    → is_nearly_full events ≡ true
full_alone events (Ok end.JournalFull) why = why
full_alone events (Ok end.Finished) why = absurd why
full_alone events (Ok end.NoMemory) why = absurd why
full_alone events (Err spent) why = absurd cc
