-- Texts that a sink takes, one after the other.
use Rattle.std.proofs.Common.{◌≡◌, ◌∙◌, ℕ, ◌+◌, ◌≤◌, Bool, true, false, List, [], ◌∷◌, ◌++◌, ap, refl, sym, subst, append_assoc, arith, length, take, drop}
use Rattle.std.specs.Prelude.{IsTrue, Ok, Err, Result, Some, slice_get}
use Rattle.std.specs.Option.{option_map}
use Rattle.std.specs.Result.{IsErrAnd}
use Rattle.std.proofs.lemmas.List.{append-nil, take-append-drop, take_more}
use Rattle.std.proofs.lemmas.Option.{get_or_from_slice_get, slice_get-map, slice_get_within}
use Rattle.dl_kinds.specs.Causes.{HasCause}
use Rattle.dl_kinds.specs.Sinks.{Takes}
use Rattle.dl_kinds.specs.declared.gid.Gid.{Gid}
use Rattle.dl_kinds.specs.declared.outside.IoErr.{IoErr}
use Rattle.dl_kinds.specs.declared.outside.IoErr.TheVariants.{Fault, NoMemory}
use Rattle.dl_kinds.specs.declared.outside.Sink.{Ghosts as SinkSays}
use Rattle.machine_core.specs.MachineViews.{MachineView}
use Rattle.machine_core.specs.Reads.{IsAdding}
use Rattle.machine_core.specs.Replays.{gids_in, replay_of}
use Rattle.machine_core.specs.Starts.{Download, RunStart}
use Rattle.machine_core.specs.declared.events.Event.{Event}
use Rattle.run_report.specs.Lines.{AreLines, IsDownloadLine, IsSummaryOf, heading}
use Rattle.run_report.specs.Writing.{Writes, WritesLines, WritesSummary}

-- ---- lines

-- one more line behind the others
pub lines_push : (start : RunStart) (past : List Event) (gids : List Gid) (gid : Gid) (text line : List ℕ)
    → AreLines start past gids text → IsDownloadLine start past gid line
    → AreLines start past (gids ++ gid ∷ []) (text ++ line)
lines_push start past [] gid text line are is =
    record {
      first = line;
      rest = [];
      is_first = is;
      is_rest = refl;
      text_is = ap (λ t. t ++ line) are ∙ sym (append-nil line);
    }
lines_push start past (other ∷ gids) gid text line are is =
    record {
      first = are.first;
      rest = are.rest ++ line;
      is_first = are.is_first;
      is_rest = lines_push start past gids gid are.rest line are.is_rest is;
      text_is = ap (λ t. t ++ line) are.text_is ∙ append_assoc are.first are.rest line;
    }

-- the download that was added n-th
pub gid_at : (m : MachineView) (n : ℕ) (gid : Gid) (place : ℕ) → IsAdding m n gid place
    → slice_get (gids_in m.start m.past) n ≡ Some gid
gid_at m n gid place adding =
    slice_get-map (λ (d : Download). d.gid) (replay_of m.start m.past).downloads n
    ∙ ap (option_map (λ (d : Download). d.gid)) adding.added ∙ ap Some (sym adding.gid_is)

-- ---- sinks

pub came_err : {T : Type 0} (result : Result T IoErr) (e : IoErr) → IsErrAnd result (λ f. f ≡ e) → result ≡ Err e
came_err (Ok x) e is = absurd is
came_err (Err f) e is = ap Err is

module _ {O : Type 0} (says : SinkSays O) where
  -- what was taken of a text, and what wasn't
  record Front (tells : Bool) (text : List ℕ) (old new : O) : Type 0 where
    front : List ℕ
    rest : List ℕ
    is : text ≡ front ++ rest
    taken : IsTrue tells → says.taken new ≡ says.taken old ++ front

  failed_front : (tells : Bool) (text : List ℕ) (old new : O)
      → (IsTrue tells → Takes (says.taken old) text (says.taken new) (Err Fault)) → Front tells text old new
  failed_front true text old new takes =
      let cut = (takes refl).cut refl in
      record {
        front = take cut.0 text;
        rest = drop cut.0 text;
        is = sym (take-append-drop cut.0 text);
        taken = λ told. cut.2;
      }
  failed_front false text old new takes =
      record { front = []; rest = text; is = refl; taken = λ told. cc }

  -- .. by one call
  pub written : (text : List ℕ) (old new : O) (result : Result (Unit {0}) IoErr)
      → (IsTrue says.tells → Takes (says.taken old) text (says.taken new) result)
      → HasCause (says.faults old) (says.faults new) result → Writes says text old new result
  written text old new (Ok done) takes cause =
      record {
        front = text;
        rest = [];
        is = sym (append-nil text);
        taken = λ told. (takes told).whole;
        all = refl;
        cause = cause;
      }
  written text old new (Err Fault) takes cause =
      let f = failed_front says.tells text old new takes in
      record { front = f.front; rest = f.rest; is = f.is; taken = f.taken; all = tt; cause = cause }
  written text old new (Err NoMemory) takes cause =
      record {
        front = [];
        rest = text;
        is = refl;
        taken = λ told. (takes told).none refl ∙ sym (append-nil (says.taken old));
        all = tt;
        cause = cause;
      }

  -- nothing yet
  pub unwritten : (old : O) → Writes says [] old old (Ok tt)
  unwritten old =
      record {
        front = [];
        rest = [];
        is = refl;
        taken = λ told. sym (append-nil (says.taken old));
        all = refl;
        cause = record { later = omega arith; done = refl; fault = λ e. cc; none = λ e. cc };
      }

  -- a text behind one that was taken whole
  pub joined : (first second : List ℕ) (old mid new : O) (result : Result (Unit {0}) IoErr)
      → Writes says first old mid (Ok tt) → Writes says second mid new result
      → Writes says (first ++ second) old new result
  joined first second old mid new result one two =
      let whole : first ≡ one.front = one.is ∙ ap (λ r. one.front ++ r) one.all ∙ append-nil one.front in
      let same : says.faults mid ≡ says.faults old = one.cause.done in
      record {
        front = first ++ two.front;
        rest = two.rest;
        is = ap (λ t. first ++ t) two.is ∙ sym (append_assoc first two.front two.rest);
        taken = λ told. two.taken told ∙ ap (λ t. t ++ two.front) (one.taken told ∙ ap (λ t. says.taken old ++ t) (sym whole))
            ∙ append_assoc (says.taken old) first two.front;
        all = two.all;
        cause = subst (λ n. HasCause n (says.faults new) result) same two.cause;
      }

  -- memory was wanting behind a text that was taken whole
  pub starved : (text : List ℕ) (old new : O) → Writes says text old new (Ok tt)
      → Writes says text old new (Err NoMemory)
  starved text old new one =
      record {
        front = one.front;
        rest = one.rest;
        is = one.is;
        taken = one.taken;
        all = tt;
        cause = record {
          later = one.cause.later;
          done = tt;
          fault = λ e. cc;
          none = λ e. one.cause.done;
        };
      }

  -- ---- the lines of the first downloads

  -- so many lines were taken
  pub record Has (start : RunStart) (past : List Event) (n : ℕ) (old new : O) : Type 0 where
    pub lines : List ℕ
    pub are : AreLines start past (take n (gids_in start past)) lines
    pub writes : Writes says lines old new (Ok tt)

  pub has_none : (start : RunStart) (past : List Event) (old : O) → Has start past 0 old old
  has_none start past old = record { lines = []; are = refl; writes = unwritten old }

  -- the next download in the order of adding
  pub next_gids : (start : RunStart) (past : List Event) (n : ℕ) (gid : Gid)
      → slice_get (gids_in start past) n ≡ Some gid
      → take (n + 1) (gids_in start past) ≡ take n (gids_in start past) ++ gid ∷ []
  next_gids start past n gid at =
      take_more (gids_in start past) n gid (slice_get_within (gids_in start past) n gid at)
      ∙ ap (λ g. take n (gids_in start past) ++ g ∷ []) (get_or_from_slice_get (gids_in start past) n gid gid at)

  -- its line, as far as it was taken
  pub next_are : (start : RunStart) (past : List Event) (n : ℕ) (gid : Gid) (line : List ℕ) (old mid : O)
      (has : Has start past n old mid) → slice_get (gids_in start past) n ≡ Some gid → IsDownloadLine start past gid line
      → AreLines start past (take (n + 1) (gids_in start past)) (has.lines ++ line)
  next_are start past n gid line old mid has at is =
      subst (λ gids. AreLines start past gids (has.lines ++ line)) (sym (next_gids start past n gid at))
      (lines_push start past (take n (gids_in start past)) gid has.lines line has.are is)

  -- one line more was taken
  pub has_next : (start : RunStart) (past : List Event) (n : ℕ) (gid : Gid) (line : List ℕ) (old mid new : O)
      → Has start past n old mid → slice_get (gids_in start past) n ≡ Some gid → IsDownloadLine start past gid line
      → Writes says line mid new (Ok tt) → Has start past (n + 1) old new
  has_next start past n gid line old mid new has at is writes =
      record {
        lines = has.lines ++ line;
        are = next_are start past n gid line old mid has at is;
        writes = joined has.lines line old mid new (Ok tt) has.writes writes;
      }

  -- .. or wasn't, wholly
  pub ends_within : (start : RunStart) (past : List Event) (n : ℕ) (gid : Gid) (line : List ℕ) (old mid new : O)
      (why : IoErr) → Has start past n old mid → slice_get (gids_in start past) n ≡ Some gid
      → IsDownloadLine start past gid line → Writes says line mid new (Err why)
      → WritesLines says start past old new (Err why)
  ends_within start past n gid line old mid new why has at is writes =
      record {
        count = n + 1;
        lines = has.lines ++ line;
        are = next_are start past n gid line old mid has at is;
        writes = joined has.lines line old mid new (Err why) has.writes writes;
        all = tt;
      }

  pub ends_before : (start : RunStart) (past : List Event) (n : ℕ) (old new : O) → Has start past n old new
      → WritesLines says start past old new (Err NoMemory)
  ends_before start past n old new has =
      record {
        count = n;
        lines = has.lines;
        are = has.are;
        writes = starved has.lines old new has.writes;
        all = tt;
      }

  pub ends_behind : (start : RunStart) (past : List Event) (n : ℕ) (old new : O) → Has start past n old new
      → length (gids_in start past) ≤ n → WritesLines says start past old new (Ok tt)
  ends_behind start past n old new has all =
      record { count = n; lines = has.lines; are = has.are; writes = has.writes; all = all }

  -- ---- the summary

  pub summary_of : (start : RunStart) (past : List Event) (count : ℕ) (lines : List ℕ)
      → AreLines start past (take count (gids_in start past)) lines
      → IsSummaryOf start past count (heading ++ lines)
  summary_of start past count lines are = record { lines = lines; are = are; text_is = refl }

  -- the lines behind the heading
  pub summed : (start : RunStart) (past : List Event) (old mid new : O) (result : Result (Unit {0}) IoErr)
      → Writes says heading old mid (Ok tt) → WritesLines says start past mid new result
      → WritesSummary says start past old new result
  summed start past old mid new result one two =
      record {
        count = two.count;
        text = heading ++ two.lines;
        is = summary_of start past two.count two.lines two.are;
        writes = joined heading two.lines old mid new result one two.writes;
        all = two.all;
      }

  -- the heading, as far as it was taken
  pub heading_alone : (start : RunStart) (past : List Event) (old new : O) (why : IoErr)
      → Writes says heading old new (Err why) → WritesSummary says start past old new (Err why)
  heading_alone start past old new why one =
      record {
        count = 0;
        text = heading ++ [];
        is = summary_of start past 0 [] refl;
        writes = subst (λ text. Writes says text old new (Err why)) (sym (append-nil heading)) one;
        all = tt;
      }

  -- nothing of it
  pub nothing : (start : RunStart) (past : List Event) (old : O) → WritesSummary says start past old old (Err NoMemory)
  nothing start past old =
      record {
        count = 0;
        text = heading ++ [];
        is = summary_of start past 0 [] refl;
        writes = record {
          front = [];
          rest = heading ++ [];
          is = refl;
          taken = λ told. sym (append-nil (says.taken old));
          all = tt;
          cause = record { later = omega arith; done = tt; fault = λ e. cc; none = λ e. refl };
        };
        all = tt;
      }
