-- Worked runs, and what their next calls are to be answered.
use Rattle.std.specs.Prelude.{◌≡◌, ℕ, pos, None, List, [], ◌∷◌, codes}
use Rattle.dl_kinds.specs.declared.gid_key.GidKey.{GidKey}
use Rattle.dl_kinds.specs.declared.status.Status.TheVariants as status
use Rattle.dl_queue.specs.declared.kinds.How.TheVariants.{Cur, Set}
use Rattle.dl_queue.specs.declared.kinds.QueueErr.TheVariants as refusal
use Rattle.option_set.specs.Values.{number_value}
use Rattle.option_set.specs.declared.kinds.Num.TheVariants.{MaxConcurrentDownloads, Split}
use Rattle.option_set.specs.declared.kinds.Word.TheVariants as word
use Rattle.option_set.specs.declared.setting.Assigned.TheVariants.{Number, Text}
use Rattle.machine_core.specs.Answers.{applied_by}
use Rattle.machine_core.specs.Choices.{options_now}
use Rattle.machine_core.specs.Replays.{queue_in, replay_of}
use Rattle.machine_core.specs.Starts.{Download, Unlisted}
use Rattle.machine_core.specs.WorkedRuns.{added_uri, at_zero, first_id, first_paused, first_waits, gid_at, key_of_first, one_at_once, second_id, three_added, third_id}
use Rattle.machine_core.specs.declared.applied.Applied.TheVariants.{Added, Named, Fine, Moved, Refused, Asked}
use Rattle.machine_core.specs.declared.calls.Call.{Call}
use Rattle.machine_core.specs.declared.calls.Call.TheVariants.{AddUri, ChangeGlobalOption, ChangeOption, ChangePosition, Pause, Purge, Remove, RemoveResult, Shutdown, TellActive, Unpause}
use Rattle.machine_core.specs.declared.events.Event.{Event}
use Rattle.machine_core.specs.declared.events.Event.TheVariants.{Called}

abbrev pub add_one : Call
add_one = AddUri (codes "http://m.test/a" ∷ []) [] None

-- a download whose gid its options name
abbrev pub add_given : Call
add_given = AddUri (codes "http://m.test/a" ∷ []) (Text word.Gid (codes "00000000000000fF") ∷ []) None

abbrev pub given_id : ℕ
given_id = 255

abbrev pub key_by : ℕ → ℕ → GidKey
key_by digits value = record { value = value; digits = digits }

abbrev pub given_added : List Event
given_added = Called 0 add_given at_zero ∷ added_uri ∷ []

abbrev pub split_changed : Event
split_changed = Called 0 (ChangeOption key_of_first (Number Split 3 ∷ [])) at_zero

abbrev pub added_download : ℕ → Download
added_download number =
    record { gid = gid_at number; subject = Unlisted (codes "http://m.test/a" ∷ []); options = one_at_once.global }

abbrev pub split_after : List Event → ℕ → ℕ
split_after past number = number_value (options_now one_at_once past (added_download number)) Split

abbrev pub three_at_once : Event
three_at_once = Called 0 (ChangeGlobalOption (Number MaxConcurrentDownloads 3 ∷ [])) at_zero

pub record GidsMade : Type 0 where
  pub first : applied_by one_at_once [] add_one ≡ Added (gid_at first_id)
  pub second : applied_by one_at_once (added_uri ∷ []) add_one ≡ Added (gid_at second_id)
  pub given : applied_by one_at_once (added_uri ∷ []) add_given ≡ Added (gid_at given_id)
  pub behind : applied_by one_at_once given_added add_one ≡ Added (gid_at third_id)
  pub twice : applied_by one_at_once given_added add_given ≡ Refused refusal.SameGid
  -- a gid that was named before its number came is passed over
  pub used : applied_by (record one_at_once { gids = given_id }) (Called 0 add_given at_zero ∷ []) add_one
      ≡ Added (gid_at 11400714819323198740)

pub record KeysFound : Type 0 where
  pub front : applied_by one_at_once three_added (Remove (key_by 1 9)) ≡ Named (gid_at second_id)
  pub several : applied_by one_at_once given_added (Pause (key_by 14 0)) ≡ Refused (refusal.Ambiguous 2)
  pub none : applied_by one_at_once given_added (Pause (key_by 1 7)) ≡ Refused refusal.NotFound
  pub whole : applied_by one_at_once given_added (Pause (key_by 16 255)) ≡ Named (gid_at given_id)

pub record StatusesJudged : Type 0 where
  pub paused : applied_by one_at_once first_paused (Pause key_of_first) ≡ Refused (refusal.WrongStatus status.Paused)
  pub waits : applied_by one_at_once first_waits (Unpause key_of_first) ≡ Refused (refusal.WrongStatus status.Waiting)
  pub active : applied_by one_at_once three_added (ChangePosition key_of_first (pos 0) Set)
      ≡ Refused (refusal.WrongStatus status.Active)
  pub unfinished : applied_by one_at_once first_paused (RemoveResult key_of_first)
      ≡ Refused (refusal.WrongStatus status.Paused)
  pub moved : applied_by one_at_once first_waits (ChangePosition key_of_first (pos 7) Cur) ≡ Moved 1
  pub purged : applied_by one_at_once three_added Purge ≡ Fine
  pub shut : applied_by one_at_once three_added Shutdown ≡ Fine
  pub asked : applied_by one_at_once three_added TellActive ≡ Asked

pub record OptionsChanged : Type 0 where
  pub answer : applied_by one_at_once three_added (ChangeOption key_of_first (Number Split 3 ∷ [])) ≡ Fine
  pub own : split_after (split_changed ∷ three_added) first_id ≡ 3
  pub other : split_after (split_changed ∷ three_added) second_id ≡ 5
  pub unknown : split_after (split_changed ∷ []) first_id ≡ 5
  pub global : (replay_of one_at_once (split_changed ∷ three_added)).global ≡ one_at_once.global
  pub risen : (queue_in one_at_once (three_at_once ∷ three_added)).active
      ≡ gid_at first_id ∷ gid_at second_id ∷ gid_at third_id ∷ []

pub record WorkedAnswers : Type 0 where
  pub gids_made : GidsMade
  pub keys_found : KeysFound
  pub statuses_judged : StatusesJudged
  pub options_changed : OptionsChanged
