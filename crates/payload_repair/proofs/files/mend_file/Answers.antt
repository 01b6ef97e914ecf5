use Rattle.std.proofs.Common.{◌≡◌, ◌≢◌, ◌∙◌, ap, sym, subst, ℕ, List, length}
use Rattle.std.specs.Prelude.{option_map, IfSome, IsTrue}
use Rattle.std.proofs.lemmas.Result.{on_ok_weaker}
use Rattle.dl_disk.specs.Files.{file_bytes}
use Rattle.dl_kinds.specs.declared.plan.Plan.{Plan}
use Rattle.payload_files.specs.Names.{folder_of, name_of}
use Rattle.payload_repair.specs.Jobs.{hashed, own_bytes, copy_bytes, HasOtherCopy}
use Rattle.payload_repair.specs.Payload.{CopyIsApart, file_counts}
use Rattle.payload_repair.specs.Repairs.{counts_upto}
use Rattle.payload_repair.proofs.FileLemmas.{is_file, job_stands, file_changes, file_repaired, file_counted, copy_apart, changes_same}
use Rattle.payload_repair.proofs.RepairedLemmas.{is_repaired}
use Rattle.payload_repair.proofs.StepLemmas.{same_on, if_ok_then}
use Rattle.payload_repair.proofs.files.mend_file.Goals as goal

pub returns-in_err-copy_len-clause-changes : goal.returns-in_err-copy_len-clause-changes
returns-in_err-copy_len-clause-changes g c told apart =
    let d = g.D.Disk in
    changes_same c.args.piece_len c.args.dir.now (option_map (λ folder. folder.now) c.args.copy) c.args.file.now (d.state c.args.disk.now) (d.state c.len_of_copy.new.disk)
    (same_on (d.state c.args.disk.now) (d.state c.len_of.new.disk) (d.state c.len_of_copy.new.disk) (c.len_of.ensures.steps told) (c.len_of_copy.ensures.steps told))

pub returns-clause-changes : goal.returns-clause-changes
returns-clause-changes g c told apart =
    let d = g.D.Disk in
    let s0 = d.state c.args.disk.now in
    let s1 = d.state c.len_of.new.disk in
    let s2 = d.state c.len_of_copy.new.disk in
    let s3 = d.state c.mend_pieces.new.disk in
    let job = c.job_of-job.result in
    let file = c.args.file.now in
    let dir = c.args.dir.now in
    let copy = option_map (λ folder. folder.now) c.args.copy in
    let set = c.job_of-job.ensures in
    let named : job.name.now ≡ name_of dir file.path = set.name ∙ c.as_str-2.ensures.value ∙ c.in_ok-names.ensures.own in
    let same_name : c.as_str.result.now ≡ job.name.now = c.as_str.ensures.value ∙ sym c.as_str-2.ensures.value ∙ sym set.name in
    let long : job.len ≡ length (file_bytes (s0.seen job.name.now)) = set.len ∙ c.in_ok-len.ensures.len told ∙ ap (λ (n : List ℕ). length (file_bytes (s0.seen n))) same_name in
    let copies : option_map (λ name. name.now) job.copy ≡ option_map (λ folder. name_of folder.now file.path) c.args.copy =
    ap (option_map (λ name. name.now)) set.copy ∙ c.as_text-copied.ensures ∙ c.in_ok-names.ensures.copy in
    let reach : IfSome job.copy (λ name. job.copy_len ≡ length (file_bytes (s1.seen name.now))) =
    subst (λ (n : ℕ). IfSome job.copy (λ name. n ≡ length (file_bytes (s1.seen name.now)))) (sym set.copy_len)
    (subst (λ o. IfSome o (λ name. c.in_ok-copy_len.copy_len ≡ length (file_bytes (s1.seen name.now)))) (sym set.copy) (c.in_ok-copy_len.ensures.len told)) in
    let is = is_file job c.args.piece_len dir c.args.copy file s0 s1 s2 named (ap (λ (p : Plan). p.total) set.plan ∙ c.plan_of-plan.ensures.total) (ap (λ (p : Plan). p.piece_len) set.plan ∙ c.plan_of-plan.ensures.piece_len)
    (set.hashes ∙ c.as_slice-hashes.ensures) long copies reach (c.len_of.ensures.steps told) (c.len_of_copy.ensures.steps told) in
    let other = copy_apart file.path job.name.now job.copy c.args.copy copies (subst (λ (n : List ℕ). IfSome copy (λ folder. name_of folder file.path ≢ n)) (sym named) apart) in
    file_changes job c.args.piece_len dir copy file s0 s2 s3 is (c.mend_pieces.ensures.keeps told other)

pub returns-clause-counts : goal.returns-clause-counts
returns-clause-counts g c =
    let s2 = g.D.Disk.state c.len_of_copy.new.disk in
    let job = c.job_of-job.result in
    let copy = option_map (λ folder. folder.now) c.args.copy in
    if_ok_then c.mend_pieces.result
    (λ counts. IsTrue g.D.Disk.tells → HasOtherCopy job → counts ≡ counts_upto (hashed job) (own_bytes job s2.seen) (copy_bytes job s2.seen) job.plan.pieces)
    (λ counts. IsTrue g.D.Disk.tells → CopyIsApart c.args.dir.now copy c.args.file.now → counts ≡ file_counts c.args.piece_len c.args.dir.now copy (g.D.Disk.state c.args.disk.now).seen c.args.file.now)
    (λ counts are told apart.
    let d = g.D.Disk in
    let s0 = d.state c.args.disk.now in
    let s1 = d.state c.len_of.new.disk in
    let s2 = d.state c.len_of_copy.new.disk in
    let s3 = d.state c.mend_pieces.new.disk in
    let job = c.job_of-job.result in
    let file = c.args.file.now in
    let dir = c.args.dir.now in
    let copy = option_map (λ folder. folder.now) c.args.copy in
    let set = c.job_of-job.ensures in
    let named : job.name.now ≡ name_of dir file.path = set.name ∙ c.as_str-2.ensures.value ∙ c.in_ok-names.ensures.own in
    let same_name : c.as_str.result.now ≡ job.name.now = c.as_str.ensures.value ∙ sym c.as_str-2.ensures.value ∙ sym set.name in
    let long : job.len ≡ length (file_bytes (s0.seen job.name.now)) = set.len ∙ c.in_ok-len.ensures.len told ∙ ap (λ (n : List ℕ). length (file_bytes (s0.seen n))) same_name in
    let copies : option_map (λ name. name.now) job.copy ≡ option_map (λ folder. name_of folder.now file.path) c.args.copy =
    ap (option_map (λ name. name.now)) set.copy ∙ c.as_text-copied.ensures ∙ c.in_ok-names.ensures.copy in
    let reach : IfSome job.copy (λ name. job.copy_len ≡ length (file_bytes (s1.seen name.now))) =
    subst (λ (n : ℕ). IfSome job.copy (λ name. n ≡ length (file_bytes (s1.seen name.now)))) (sym set.copy_len)
    (subst (λ o. IfSome o (λ name. c.in_ok-copy_len.copy_len ≡ length (file_bytes (s1.seen name.now)))) (sym set.copy) (c.in_ok-copy_len.ensures.len told)) in
    let is = is_file job c.args.piece_len dir c.args.copy file s0 s1 s2 named (ap (λ (p : Plan). p.total) set.plan ∙ c.plan_of-plan.ensures.total) (ap (λ (p : Plan). p.piece_len) set.plan ∙ c.plan_of-plan.ensures.piece_len)
    (set.hashes ∙ c.as_slice-hashes.ensures) long copies reach (c.len_of.ensures.steps told) (c.len_of_copy.ensures.steps told) in
    let other = copy_apart file.path job.name.now job.copy c.args.copy copies (subst (λ (n : List ℕ). IfSome copy (λ folder. name_of folder file.path ≢ n)) (sym named) apart) in
    are told other ∙ file_counted job c.args.piece_len dir copy file s0 s2 s3 is)
    c.mend_pieces.ensures.counts

pub returns-clause-repaired : goal.returns-clause-repaired
returns-clause-repaired g c =
    on_ok_weaker c.mend_pieces.result
    (λ puts told apart.
    let d = g.D.Disk in
    let s0 = d.state c.args.disk.now in
    let s1 = d.state c.len_of.new.disk in
    let s2 = d.state c.len_of_copy.new.disk in
    let s3 = d.state c.mend_pieces.new.disk in
    let job = c.job_of-job.result in
    let file = c.args.file.now in
    let dir = c.args.dir.now in
    let copy = option_map (λ folder. folder.now) c.args.copy in
    let set = c.job_of-job.ensures in
    let named : job.name.now ≡ name_of dir file.path = set.name ∙ c.as_str-2.ensures.value ∙ c.in_ok-names.ensures.own in
    let same_name : c.as_str.result.now ≡ job.name.now = c.as_str.ensures.value ∙ sym c.as_str-2.ensures.value ∙ sym set.name in
    let long : job.len ≡ length (file_bytes (s0.seen job.name.now)) = set.len ∙ c.in_ok-len.ensures.len told ∙ ap (λ (n : List ℕ). length (file_bytes (s0.seen n))) same_name in
    let copies : option_map (λ name. name.now) job.copy ≡ option_map (λ folder. name_of folder.now file.path) c.args.copy =
    ap (option_map (λ name. name.now)) set.copy ∙ c.as_text-copied.ensures ∙ c.in_ok-names.ensures.copy in
    let reach : IfSome job.copy (λ name. job.copy_len ≡ length (file_bytes (s1.seen name.now))) =
    subst (λ (n : ℕ). IfSome job.copy (λ name. n ≡ length (file_bytes (s1.seen name.now)))) (sym set.copy_len)
    (subst (λ o. IfSome o (λ name. c.in_ok-copy_len.copy_len ≡ length (file_bytes (s1.seen name.now)))) (sym set.copy) (c.in_ok-copy_len.ensures.len told)) in
    let is = is_file job c.args.piece_len dir c.args.copy file s0 s1 s2 named (ap (λ (p : Plan). p.total) set.plan ∙ c.plan_of-plan.ensures.total) (ap (λ (p : Plan). p.piece_len) set.plan ∙ c.plan_of-plan.ensures.piece_len)
    (set.hashes ∙ c.as_slice-hashes.ensures) long copies reach (c.len_of.ensures.steps told) (c.len_of_copy.ensures.steps told) in
    let other = copy_apart file.path job.name.now job.copy c.args.copy copies (subst (λ (n : List ℕ). IfSome copy (λ folder. name_of folder file.path ≢ n)) (sym named) apart) in
    let folders : option_map (λ folder. folder.now) job.folder ≡ folder_of dir file.path =
    ap (option_map (λ folder. folder.now)) set.folder ∙ c.as_text-folder.ensures ∙ c.in_ok-names.ensures.folder in
    file_repaired job c.args.piece_len dir copy file s0 s2 s3 is folders (long ∙ ap (λ (n : List ℕ). length (file_bytes (s0.seen n))) named)
    (is_repaired job job.plan.pieces s2 s3
    (job_stands job c.args.piece_len dir c.args.copy file s0 s1 s2 named
    (ap (λ (p : Plan). p.total) set.plan ∙ c.plan_of-plan.ensures.total)
    (ap (λ (p : Plan). p.piece_len) set.plan ∙ c.plan_of-plan.ensures.piece_len)
    (set.hashes ∙ c.as_slice-hashes.ensures) long (c.len_of.ensures.steps told) (c.len_of_copy.ensures.steps told))
    (c.mend_pieces.ensures.keeps told other) job.plan.pieces_are (puts told other)) (puts told other))
    c.mend_pieces.ensures.puts
