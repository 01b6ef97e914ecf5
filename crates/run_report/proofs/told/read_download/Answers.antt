use Rattle.std.proofs.Common.{◌≡◌, ◌∙◌, ℕ, Some, ap, arith, length, length-append, refl, sym}
use Rattle.metainfo.specs.declared.meta.Meta.{Meta}
use Rattle.machine_core.proofs.Begun.{copied_now}
use Rattle.machine_core.specs.MachineParts.{subject_of_call}
use Rattle.machine_core.specs.MachineViews.{standing_in}
use Rattle.machine_core.specs.Starts.{Listed, Unlisted}
use Rattle.run_report.specs.Uris.{used_row}
use Rattle.run_report.proofs.Telling.{read_by}
use Rattle.run_report.proofs.told.read_download.Goals as goal

pub invariant_of-result : goal.invariant_of-result
invariant_of-result c =
    let m = c.args.machine.now in
    let subject = ap subject_of_call c.in-AddTorrent.is
    ∙ ap (λ (meta : Meta). Some (Listed meta c.in-AddTorrent.uris)) (sym c.deref-in-AddTorrent.ensures) in
    record {
      used = c.in_ok-used_mirrors-in-AddTorrent.ensures
          ∙ ap (λ (n : ℕ). used_row (standing_in m c.args.gid) n)
          (let a = c.len.ensures in let b = c.len-in-AddTorrent.ensures in
          let d : c.deref.result.now ≡ c.deref-in-AddTorrent.result.now = c.deref.ensures ∙ sym c.deref-in-AddTorrent.ensures in
          let s = ap (λ (meta : Meta). length meta.seeds) d in
          let long = length-append c.deref-in-AddTorrent.result.now.seeds c.in-AddTorrent.uris in
          omega (arith, s, long));
      named = c.in_ok-name.ensures
          (record {
            gid = c.args.gid;
            subject = Listed c.deref-in-AddTorrent.result.now c.in-AddTorrent.uris;
            options = c.unwrap-begun.result.now;
          })
          subject refl;
    }

pub invariant_of-result-in-AddUri : goal.invariant_of-result-in-AddUri
invariant_of-result-in-AddUri c =
    let m = c.args.machine.now in
    record {
      used = c.in_ok-used_mirrors-in-AddUri.ensures
          ∙ ap (λ (n : ℕ). used_row (standing_in m c.args.gid) n) c.len-in-AddUri.ensures;
      named = c.in_ok-name.ensures
          (record {
            gid = c.args.gid;
            subject = Unlisted c.in-AddUri.uris;
            options = c.unwrap-begun.result.now;
          })
          (ap subject_of_call c.in-AddUri.is) refl;
    }

pub returns-in_ok-used_mirrors-in-AddTorrent-clause-found : goal.returns-in_ok-used_mirrors-in-AddTorrent-clause-found
returns-in_ok-used_mirrors-in-AddTorrent-clause-found c =
    let m = c.args.machine.now in
    let subject = ap subject_of_call c.in-AddTorrent.is
    ∙ ap (λ (meta : Meta). Some (Listed meta c.in-AddTorrent.uris)) (sym c.deref-in-AddTorrent.ensures) in
    record {
      machine_is = refl;
      gid_is = refl;
      added = read_by m.start m.past c.args.gid c.in-Some.call.now
          (Listed c.deref-in-AddTorrent.result.now c.in-AddTorrent.uris) c.unwrap-begun.result.now
          c.in-Some.ensures.subject c.in-Some.ensures.adds subject
          (copied_now c.begun.result c.unwrap-begun.result _ c.unwrap-begun.ensures c.begun.ensures);
      named = c.in_ok-name.ensures
          (record {
            gid = c.args.gid;
            subject = Listed c.deref-in-AddTorrent.result.now c.in-AddTorrent.uris;
            options = c.unwrap-begun.result.now;
          })
          subject refl;
    }

pub returns-in_ok-used_mirrors-in-AddUri-clause-found : goal.returns-in_ok-used_mirrors-in-AddUri-clause-found
returns-in_ok-used_mirrors-in-AddUri-clause-found c =
    let m = c.args.machine.now in
    record {
      machine_is = refl;
      gid_is = refl;
      added = read_by m.start m.past c.args.gid c.in-Some.call.now (Unlisted c.in-AddUri.uris)
          c.unwrap-begun.result.now c.in-Some.ensures.subject c.in-Some.ensures.adds
          (ap subject_of_call c.in-AddUri.is)
          (copied_now c.begun.result c.unwrap-begun.result _ c.unwrap-begun.ensures c.begun.ensures);
      named = c.in_ok-name.ensures
          (record {
            gid = c.args.gid;
            subject = Unlisted c.in-AddUri.uris;
            options = c.unwrap-begun.result.now;
          })
          (ap subject_of_call c.in-AddUri.is) refl;
    }
