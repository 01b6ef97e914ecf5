-- What the queue and the entries become by the adding of a download.
use Rattle.std.proofs.Common.{◌≡◌, ℕ, Bool, Option, Some, None, List, [], ◌∷◌, ◌++◌, sym, ap, ◌∙◌, subst}
use Rattle.std.specs.Prelude.{◌==◌, map, not}
use Rattle.dl_kinds.specs.declared.gid.Gid.{Gid}
use Rattle.dl_queue.specs.Calls.{Add, after, refusal}
use Rattle.dl_queue.specs.Lists.{QueueLists}
use Rattle.dl_queue.specs.declared.kinds.QueueErr.{QueueErr}
use Rattle.option_set.specs.Values.{OptionValues, number_value}
use Rattle.option_set.specs.declared.kinds.Num.TheVariants as num
use Rattle.option_set.specs.declared.setting.Assigned.{Assigned}
use Rattle.machine_core.specs.Answers.{answer_unless}
use Rattle.machine_core.specs.CallParts.{IsAddition, IsEntryAdded, IsNewEntry, add_call}
use Rattle.machine_core.specs.MachineParts.{added_as}
use Rattle.machine_core.specs.Replays.{next_gid, with_settings}
use Rattle.machine_core.specs.Starts.{RunStart, Download, Subject}
use Rattle.machine_core.specs.declared.applied.Applied.TheVariants.{Added, Refused}
use Rattle.machine_core.specs.declared.entries.Entry.{Entry}

-- the call of the queue, by the options that were made
pub call_is : (gid : Gid) (options made : OptionValues) (paused : Bool) (position : Option ℕ) → options ≡ made
    → paused ≡ not (number_value options num.Pause == 0)
    → Add gid options paused position ≡ add_call gid made position
call_is gid options made paused position is paused_is =
    ap (λ (t : Bool). Add gid options t position) paused_is ∙ ap (λ (v : OptionValues). add_call gid v position) is

answer_is : (o : Option QueueErr) (gid : Gid) → o ≡ None → Added gid ≡ answer_unless o (Added gid)
answer_is o gid is = ap (λ (x : Option QueueErr). answer_unless x (Added gid)) (sym is)

refusal_is : (o : Option QueueErr) (gid : Gid) (e : QueueErr) → o ≡ Some e → Refused e ≡ answer_unless o (Added gid)
refusal_is o gid e is = ap (λ (x : Option QueueErr). answer_unless x (Added gid)) (sym is)

abbrev pub IsMade : ℕ → QueueLists → OptionValues → Gid → Type 0
IsMade gids old options gid =
    (start : RunStart) (downloads : List Download) → start.gids ≡ gids → old.added ≡ map added_as downloads
    → gid ≡ next_gid start downloads options

pub made_by : (gids : ℕ) (old : QueueLists) (options made : OptionValues) (gid : Gid) → options ≡ made
    → IsMade gids old options gid → IsMade gids old made gid
made_by gids old options made gid is m start downloads g added =
    m start downloads g added ∙ ap (next_gid start downloads) is

pub added_by : (gids place : ℕ) (global : OptionValues) (subject : Subject) (settings : List Assigned)
    (position : Option ℕ) (old new : QueueLists) (xs ys : List Entry) (gid : Gid) (options copy : OptionValues)
    (paused : Bool) (x : Entry) → options ≡ with_settings global settings → copy ≡ options
    → paused ≡ not (number_value options num.Pause == 0) → IsMade gids old options gid
    → None ≡ refusal old (Add gid options paused position)
    → new ≡ after old (Add gid options paused position) → ys ≡ xs ++ x ∷ []
    → IsNewEntry (record { gid = gid; subject = subject; options = copy }) place x
    → IsAddition gids place global subject settings position old new xs ys (Added gid)
added_by gids place global subject settings position old new xs ys gid options copy paused x is same paused_is made answer queue more entry =
    let o = with_settings global settings in
    let c = call_is gid options o paused position is paused_is in
    let none : refusal old (add_call gid o position) ≡ None =
    sym (answer ∙ ap (refusal old) c) in
    record {
      gid = gid;
      made = made_by gids old options o gid is made;
      queue = queue ∙ ap (after old) c;
      answer = answer_is (refusal old (add_call gid o position)) gid none;
      entries = subst
          (λ (r : Option QueueErr). IsEntryAdded r (record { gid = gid; subject = subject; options = o }) place xs ys)
          (sym none) (
            x,
            more,
            subst (λ (v : OptionValues). IsNewEntry (record { gid = gid; subject = subject; options = v }) place x)
                (same ∙ is) entry,
          );
    }

pub refused_by : (gids place : ℕ) (global : OptionValues) (subject : Subject) (settings : List Assigned)
    (position : Option ℕ) (old new : QueueLists) (xs ys : List Entry) (gid : Gid) (options : OptionValues)
    (paused : Bool) (e : QueueErr) → options ≡ with_settings global settings
    → paused ≡ not (number_value options num.Pause == 0) → IsMade gids old options gid
    → Some e ≡ refusal old (Add gid options paused position) → new ≡ after old (Add gid options paused position)
    → ys ≡ xs
    → IsAddition gids place global subject settings position old new xs ys (Refused e)
refused_by gids place global subject settings position old new xs ys gid options paused e is paused_is made answer queue same =
    let o = with_settings global settings in
    let c = call_is gid options o paused position is paused_is in
    let some : refusal old (add_call gid o position) ≡ Some e =
    sym (answer ∙ ap (refusal old) c) in
    record {
      gid = gid;
      made = made_by gids old options o gid is made;
      queue = queue ∙ ap (after old) c;
      answer = refusal_is (refusal old (add_call gid o position)) gid e some;
      entries = subst
          (λ (r : Option QueueErr). IsEntryAdded r (record { gid = gid; subject = subject; options = o }) place xs ys)
          (sym some) same;
    }
