-- Each download of a legal history has a name.
use Rattle.std.proofs.Common.{◌≡◌, inl, inr, ℕ, Bool, true, false, cond, Option, Some, None, List, [], ◌∷◌, length, refl, sym, subst, ◌∙◌, arith}
use Rattle.std.specs.Prelude.{◌==◌, ◌↔◌, All, IsTrue, box_value, codes, not}
use Rattle.std.proofs.lemmas.List.Elements.{All-append, All-contains, All-cons, All-nil}
use Rattle.std.proofs.lemmas.Option.{same_Some}
use Rattle.dl_kinds.specs.declared.gid.Gid.{Gid}
use Rattle.dl_queue.specs.Calls.{QueueCall, Add, ChangePosition, Forget, Pause, Remove, Unpause, refusal}
use Rattle.dl_queue.specs.declared.kinds.QueueErr.{QueueErr}
use Rattle.link_source.specs.Endpoint.{IsUsable}
use Rattle.metainfo.specs.Tests.{is_part}
use Rattle.option_set.specs.Values.{OptionValues, number_value, text_of_word}
use Rattle.option_set.specs.declared.kinds.Num.TheVariants as num
use Rattle.option_set.specs.declared.kinds.Word.TheVariants.{Out}
use Rattle.option_set.specs.declared.setting.Assigned.{Assigned}
use Rattle.percent_encoding.specs.Percent.{percent_decode}
use Rattle.span_map.specs.Paths.{IsValidPart}
use Rattle.url_names.specs.UrlNames.{IsNameBy, IsNameOfUrl, behind_last_slash}
use Rattle.machine_core.proofs.Lists.{found}
use Rattle.machine_core.specs.FileNames.{IsPayloadName, IsUnlistedName}
use Rattle.machine_core.specs.LawfulCalls.{AreMirrors, IsLawful}
use Rattle.machine_core.specs.Replays.{Replay, after_call, is_download, keyed_gid, next_gid, replay_of, with_call_of, with_download, with_settings}
use Rattle.machine_core.specs.RunLegal.{IsLegal, download_in}
use Rattle.machine_core.specs.Starts.{Download, RunStart, Subject, Listed, Unlisted}
use Rattle.machine_core.specs.declared.calls.Call.{Call}
use Rattle.machine_core.specs.declared.calls.Call.TheVariants as call
use Rattle.machine_core.specs.declared.events.Event.{Event}
use Rattle.machine_core.specs.declared.events.Event.TheVariants.{Called, Opened, Sized, Claimed, Landed, Settled, Cleared, Lost, Checked, Saved, Ended, Left, Stopped}
use Rattle.run_report.specs.Subjects.{PayloadsAreNamed}

-- ---- the name of a download

abbrev segment_name : List ℕ → Bool → List ℕ
segment_name segment valid = cond valid segment (codes "index.html")

segment_named : (segment : List ℕ) (valid : Bool) → IsTrue valid ↔ IsValidPart segment
    → IsNameBy segment (segment_name segment valid)
segment_named segment true is = inl (is.0 refl, refl)
segment_named segment false is = inr ((λ part. absurd (let no = is.1 part in cc)), refl)

module _ (is_valid : (part : List ℕ) → IsTrue (is_part part) ↔ IsValidPart part) where
  url_named : (uri : List ℕ) → IsUsable uri → (name : List ℕ) × IsNameOfUrl uri name
  url_named uri usable =
      let segment = percent_decode (behind_last_slash usable.0.path) in (
        segment_name segment (is_part segment),
        record {
          url = usable.0;
          parsed = usable.1;
          named = segment_named segment (is_part segment) (is_valid segment);
        },
      )

  -- of a download without a metainfo file
  unlisted_named : (out : Option (List ℕ)) (uris : List (List ℕ)) → AreMirrors (length uris) uris
      → (name : List ℕ) × IsUnlistedName out uris name
  unlisted_named (Some out) uris are = (out, refl)
  unlisted_named None [] are = absurd (let some = are.some in omega arith)
  unlisted_named None (uri ∷ uris) are =
      url_named uri (are.usable 0 [] (omega arith))

  abbrev HasMirrors : Subject → Type 0
  HasMirrors (Listed meta uris) = Unit {0}
  HasMirrors (Unlisted uris) = AreMirrors (length uris) uris

  payload_named : (d : Download) (subject : Subject) → HasMirrors subject
      → (name : List ℕ) × IsPayloadName d subject name
  payload_named d (Listed meta uris) has = (meta.name, refl)
  payload_named d (Unlisted uris) has = unlisted_named (text_of_word d.options Out) uris has

  -- ---- the downloads of a legal history

  abbrev AllHave : List Download → Type 0
  AllHave downloads = All (λ (d : Download). HasMirrors d.subject) downloads

  added_has : (start : RunStart) (r : Replay) (subject : Subject) (settings : List Assigned) (position : Option ℕ)
      → AllHave r.downloads → HasMirrors subject
      → AllHave (with_download start r subject settings position).downloads
  added_has start r subject settings position all has = by (refusal r.queue new) refl
    where
      options : OptionValues
      options = with_settings r.global settings

      gid : Gid
      gid = next_gid start r.downloads options

      new : QueueCall
      new = Add gid options (not (number_value options num.Pause == 0)) position

      one : AllHave (record { gid = gid; subject = subject; options = options } ∷ [])
      one =
          All-cons (λ (d : Download). HasMirrors d.subject)
          (record { gid = gid; subject = subject; options = options }) [] has
          (All-nil (λ (d : Download). HasMirrors d.subject))

      by : (o : Option QueueErr) → refusal r.queue new ≡ o
          → AllHave (with_download start r subject settings position).downloads
      by None is =
          rw is (All-append (λ (d : Download). HasMirrors d.subject) r.downloads
          (record { gid = gid; subject = subject; options = options } ∷ []) all one)
      by (Some e) is = rw is all

  keyed_has : (r : Replay) (queue_call : Gid → QueueCall) (o : Option Gid) → AllHave r.downloads
      → AllHave (with_call_of r queue_call o).downloads
  keyed_has r queue_call None all = all
  keyed_has r queue_call (Some gid) all = all

  call_has : (start : RunStart) (r : Replay) (asked : Call) → IsLawful asked → AllHave r.downloads
      → AllHave (after_call start r asked).downloads
  call_has start r (call.AddUri uris options position) lawful all =
      added_has start r (Unlisted uris) options position all lawful.0
  call_has start r (call.AddTorrent meta uris options position) lawful all =
      added_has start r (Listed (box_value meta) uris) options position all tt
  call_has start r (call.Remove key) lawful all = keyed_has r Remove (keyed_gid r.queue key) all
  call_has start r (call.Pause key) lawful all = keyed_has r Pause (keyed_gid r.queue key) all
  call_has start r (call.Unpause key) lawful all = keyed_has r Unpause (keyed_gid r.queue key) all
  call_has start r (call.RemoveResult key) lawful all = keyed_has r Forget (keyed_gid r.queue key) all
  call_has start r (call.ChangePosition key position how) lawful all =
      keyed_has r (λ gid. ChangePosition gid position how) (keyed_gid r.queue key) all
  call_has start r call.PauseAll lawful all = all
  call_has start r call.UnpauseAll lawful all = all
  call_has start r (call.ChangeGlobalOption options) lawful all = all
  call_has start r call.Purge lawful all = all
  call_has start r call.Shutdown lawful all = all
  call_has start r other lawful all = all

  all_have : (start : RunStart) (past : List Event) → IsLegal start past → AllHave (replay_of start past).downloads
  all_have start [] legal = All-nil (λ (d : Download). HasMirrors d.subject)
  all_have start (Called session asked now ∷ before) legal =
      call_has start (replay_of start before) asked legal.1.0 (all_have start before legal.0)
  all_have start (Opened gid verified blocks now ∷ before) legal = all_have start before legal.0
  all_have start (Sized gid id total ∷ before) legal = all_have start before legal.0
  all_have start (Claimed gid claim ∷ before) legal = all_have start before legal.0
  all_have start (Landed gid id mirror run now ∷ before) legal = all_have start before legal.0
  all_have start (Settled gid piece right giver ∷ before) legal = all_have start before legal.0
  all_have start (Cleared gid piece ∷ before) legal = all_have start before legal.0
  all_have start (Lost gid id mirror piece mark ∷ before) legal = all_have start before legal.0
  all_have start (Checked gid right ∷ before) legal = all_have start before legal.0
  all_have start (Saved gid now ∷ before) legal = all_have start before legal.0
  all_have start (Ended gid how ∷ before) legal = all_have start before legal.0
  all_have start (Left ∷ before) legal = all_have start before legal.0
  all_have start (Stopped ∷ before) legal = all_have start before legal.0

  added_named : (start : RunStart) (past : List Event) (gid : Gid) (d : Download) → IsLegal start past
      → download_in start past gid ≡ Some d → (name : List ℕ) × IsPayloadName d d.subject name
  added_named start past gid d legal added =
      payload_named d d.subject
      (All-contains (λ (x : Download). HasMirrors x.subject) (replay_of start past).downloads d (all_have start past legal)
      (found (is_download gid) (replay_of start past).downloads d added).there)

  -- ---- all names

  -- a name of this download, if there is one
  one_named : (start : RunStart) (past : List Event) (gid : Gid) → IsLegal start past → (o : Option Download)
      → download_in start past gid ≡ o
      → (name : List ℕ) × ((d : Download) → download_in start past gid ≡ Some d → IsPayloadName d d.subject name)
  one_named start past gid legal None is = ([], λ d added. absurd (let none : None ≡ Some d = sym is ∙ added in cc))
  one_named start past gid legal (Some d) is =
      let named = added_named start past gid d legal is in (
        named.0,
        λ other added.
            subst (λ (x : Download). IsPayloadName x x.subject named.0) (same_Some d other (sym is ∙ added)) named.1,
      )

  pub payloads_named : PayloadsAreNamed
  payloads_named start past legal = (
    (λ gid. (one_named start past gid legal (download_in start past gid) refl).0),
    (λ gid. (one_named start past gid legal (download_in start past gid) refl).1),
  )
