-- A file of a payload, as what is checked and repaired.
use Rattle.std.proofs.Common.{◌≡◌, ◌≢◌, ◌∙◌, ap, sym, subst, ℕ, ◌+◌, ◌-◌, ◌*◌, ◌/◌, ◌<◌, ◌≤◌, min, true, List, length, take, Option, Some, None, refl, arith, Bor, inl, inr}
use Rattle.std.specs.Prelude.{IfSome, Contains, option_map}
use Rattle.std.specs.Int.{div_ceil}
use Rattle.std.proofs.Math.Nat.{mul-le-mul_left, mul_assoc}
use Rattle.std.proofs.lemmas.Bool.{cases_lt, ltb-true}
use Rattle.std.proofs.lemmas.Grind.{div_ceil_times}
use Rattle.std.proofs.lemmas.List.{take_all}
use Rattle.std.proofs.lemmas.Option.{same_Some}
use Rattle.dl_disk.specs.Files.{Files, IsSame, file_bytes}
use Rattle.dl_disk.specs.State.{DiskState}
use Rattle.dl_kinds.specs.Plan.{IsPlan, blocks_of, pieces_of}
use Rattle.dl_kinds.specs.declared.plan.TheConstants.{BLOCK_LEN}
use Rattle.merkle_trees.specs.Trees.{IsPieceLen}
use Rattle.meta_v2.specs.declared.files.FileV2.{FileV2}
use Rattle.payload_files.specs.Names.{folder_of, name_of}
use Rattle.payload_repair.specs.Jobs.{hashed, own_bytes, copy_bytes, IsRepairJob}
use Rattle.payload_repair.specs.Mending.{ChangesPieces, PutsPieces}
use Rattle.payload_repair.specs.Payload.{hashed_file, bytes_in, bytes_of_copy, ChangesFile, FileIsRepaired, file_counts}
use Rattle.payload_repair.specs.Pieces.{HashedFile, file_pieces}
use Rattle.payload_repair.specs.Placed.{own_content}
use Rattle.payload_repair.specs.Repaired.{IsRepaired}
use Rattle.payload_repair.specs.Repairs.{falls_short, is_mended, IsWrittenUpTo, MendsPieces, counts_upto}
use Rattle.payload_repair.specs.StepsBy.{StepsBy}
use Rattle.payload_repair.specs.declared.job.RepairJob.{RepairJob}
use Rattle.payload_repair.proofs.MendLemmas.{file_on, file_same}
use Rattle.payload_repair.proofs.PieceLemmas.{leaves_fit, next_piece, whole_blocks}
use Rattle.payload_repair.proofs.StepLemmas.{same_on, steps_none, steps_on, steps_wider}

-- ---- what stands of the copy

pub copies_are : (path : List (List ℕ)) (len : ℕ) (old now : Files) → IsSame old now → (named copy : Option (Bor (List ℕ))) → option_map (λ name. name.now) named ≡ option_map (λ folder. name_of folder.now path) copy
    → IfSome named (λ name. len ≡ length (file_bytes (old name.now)))
    → file_bytes (option_map (λ name. take len (file_bytes (now name.now))) named) ≡ file_bytes (option_map (λ folder. file_bytes (old (name_of folder path))) (option_map (λ folder. folder.now) copy))
copies_are path len old now same None None is long = refl
copies_are path len old now same None (Some folder) is long = absurd (cc)
copies_are path len old now same (Some name) None is long = absurd (cc)
copies_are path len old now same (Some name) (Some folder) is long =
    ap (λ (it : Option (List ℕ)). take len (file_bytes it)) (same name.now)
    ∙ take_all len (file_bytes (old name.now)) (omega (arith, long))
    ∙ ap (λ (n : List ℕ). file_bytes (old n)) (same_Some name.now (name_of folder.now path) is)

pub copy_apart : (path : List (List ℕ)) (own : List ℕ) (named copy : Option (Bor (List ℕ))) → option_map (λ name. name.now) named ≡ option_map (λ folder. name_of folder.now path) copy
    → IfSome (option_map (λ folder. folder.now) copy) (λ folder. name_of folder path ≢ own) → IfSome named (λ name. name.now ≢ own)
copy_apart path own None copy is apart = tt
copy_apart path own (Some name) None is apart = absurd (cc)
copy_apart path own (Some name) (Some folder) is apart = λ same. apart (sym (same_Some name.now (name_of folder.now path) is) ∙ same)

-- the same of the texts that a name was made of
pub copy_named : (path : List (List ℕ)) (a b c : Option (List ℕ)) → a ≡ b → b ≡ c → a ≡ c
copy_named path a b c first second = first ∙ second

-- ---- a file

pub hashed_is : (a b : HashedFile) → a.len ≡ b.len → a.piece_len ≡ b.piece_len → a.hashes ≡ b.hashes → a ≡ b
hashed_is a b len piece_len hashes =
    ap (λ (n : ℕ). let it : HashedFile = record { len = n; piece_len = a.piece_len; hashes = a.hashes } in it) len
    ∙ ap (λ (n : ℕ). let it : HashedFile = record { len = b.len; piece_len = n; hashes = a.hashes } in it) piece_len
    ∙ ap (λ (l : List (List ℕ)). let it : HashedFile = record { len = b.len; piece_len = b.piece_len; hashes = l } in it) hashes

folder_there : (named : Option (Bor (List ℕ))) (folder : Option (List ℕ)) (folders : List (List ℕ)) → option_map (λ name. name.now) named ≡ folder → IfSome named (λ name. Contains folders name.now)
    → IfSome folder (Contains folders)
folder_there None None folders is made = tt
folder_there None (Some folder) folders is made = absurd (cc)
folder_there (Some name) None folders is made = absurd (cc)
folder_there (Some name) (Some folder) folders is made = subst (Contains folders) (same_Some name.now folder is) made

-- what is made of it by this name is made of it by that name
pub record IsFile (job : RepairJob) (piece_len : ℕ) (dir : List ℕ) (copy : Option (List ℕ)) (file : FileV2) (start now : DiskState) : Type 0 where
  pub name : job.name.now ≡ name_of dir file.path
  pub hashes : hashed job ≡ hashed_file piece_len file
  pub own : own_bytes job now.seen ≡ bytes_in dir file start.seen
  pub copied : copy_bytes job now.seen ≡ bytes_of_copy copy file start.seen
  pub same : StepsBy IsSame start now

module _ (job : RepairJob) (piece_len : ℕ) (dir : List ℕ) (copy : Option (List ℕ)) (file : FileV2) (start now new : DiskState) (is : IsFile job piece_len dir copy file start now) where
  pub file_changes : ChangesPieces job job.plan.pieces now new → ChangesFile piece_len dir copy file start new
  file_changes changes =
      let count = job.plan.pieces in
      let own = own_bytes job now.seen in
      let theirs = copy_bytes job now.seen in
      let many : count ≡ file_pieces (hashed_file piece_len file) = job.plan.pieces_are ∙ ap file_pieces is.hashes in
      let step : List ℕ → HashedFile → List ℕ → List ℕ → ℕ → Type 0 = λ n f o c k. StepsBy (MendsPieces n f o c k) start new in
      let steps : step job.name.now (hashed job) own theirs count =
      steps_on IsSame (MendsPieces job.name.now (hashed job) own theirs count) (MendsPieces job.name.now (hashed job) own theirs count) start now new
      (file_same job.name.now job.plan.total (falls_short (hashed job) own) (IsWrittenUpTo (hashed job) own theirs count))
      (λ x y z one two. file_on job.name.now job.plan.total (falls_short (hashed job) own) (IsWrittenUpTo (hashed job) own theirs count) x y z
      (file_same job.name.now job.plan.total (falls_short (hashed job) own) (IsWrittenUpTo (hashed job) own theirs count) x y one) two)
      is.same changes.steps in
      record {
        steps = subst (λ (k : ℕ). step (name_of dir file.path) (hashed_file piece_len file) (bytes_in dir file start.seen) (bytes_of_copy copy file start.seen) k) many
            (subst (λ (c : List ℕ). step (name_of dir file.path) (hashed_file piece_len file) (bytes_in dir file start.seen) c count) is.copied
            (subst (λ (o : List ℕ). step (name_of dir file.path) (hashed_file piece_len file) o theirs count) is.own
            (subst (λ (f : HashedFile). step (name_of dir file.path) f own theirs count) is.hashes
            (subst (λ (n : List ℕ). step n (hashed job) own theirs count) is.name steps))));
        spared = λ none. same_on start now new is.same (changes.spared (λ piece before mended. none piece (subst (λ (k : ℕ). piece < k) many before)
            (ap (λ (f : HashedFile). is_mended f (bytes_in dir file start.seen) (bytes_of_copy copy file start.seen) piece) (sym is.hashes)
            ∙ ap (λ (o : List ℕ). is_mended (hashed job) o (bytes_of_copy copy file start.seen) piece) (sym is.own)
            ∙ ap (λ (c : List ℕ). is_mended (hashed job) own c piece) (sym is.copied) ∙ mended)));
      }

  mended_here : (piece : ℕ) → is_mended (hashed_file piece_len file) (bytes_in dir file start.seen) (bytes_of_copy copy file start.seen) piece ≡ true
      → is_mended (hashed job) (own_bytes job now.seen) (copy_bytes job now.seen) piece ≡ true
  mended_here piece mended =
      ap (λ (f : HashedFile). is_mended f (own_bytes job now.seen) (copy_bytes job now.seen) piece) is.hashes
      ∙ ap (λ (o : List ℕ). is_mended (hashed_file piece_len file) o (copy_bytes job now.seen) piece) is.own
      ∙ ap (λ (c : List ℕ). is_mended (hashed_file piece_len file) (bytes_in dir file start.seen) c piece) is.copied ∙ mended

  pub file_repaired : option_map (λ folder. folder.now) job.folder ≡ folder_of dir file.path → job.len ≡ length (bytes_in dir file start.seen)
      → IsRepaired (hashed job) (own_bytes job now.seen) (copy_bytes job now.seen) (own_content job new.seen) → PutsPieces job job.plan.pieces now new
      → FileIsRepaired piece_len dir copy start.seen new file
  file_repaired folders long repaired puts = record {
    pieces = subst (λ (n : List ℕ). IsRepaired (hashed_file piece_len file) (bytes_in dir file start.seen) (bytes_of_copy copy file start.seen) (file_bytes (new.seen n))) is.name
        (subst (λ (c : List ℕ). IsRepaired (hashed_file piece_len file) (bytes_in dir file start.seen) c (own_content job new.seen)) is.copied
        (subst (λ (o : List ℕ). IsRepaired (hashed_file piece_len file) o (copy_bytes job now.seen) (own_content job new.seen)) is.own
        (subst (λ (f : HashedFile). IsRepaired f (own_bytes job now.seen) (copy_bytes job now.seen) (own_content job new.seen)) is.hashes repaired)));
    fitted = λ piece within mended.
        let many : job.plan.pieces ≡ file_pieces (hashed_file piece_len file) = job.plan.pieces_are ∙ ap file_pieces is.hashes in
        let placed = puts piece (subst (λ (k : ℕ). piece < k) (sym many) within) (mended_here piece mended) in
        let total : job.plan.total ≡ file.len = ap (λ (f : HashedFile). f.len) is.hashes in
        record {
          len = subst (λ (n : List ℕ). file.len ≤ length (file_bytes (new.seen n))) is.name (subst (λ (n : ℕ). n ≤ length (own_content job new.seen)) total placed.fitted.len);
          made = λ short. folder_there job.folder (folder_of dir file.path) new.folders folders
              (placed.fitted.made (omega (arith, ltb-true (length (bytes_in dir file start.seen)) file.len short, long, total)));
        };
  }

  pub file_counted : counts_upto (hashed job) (own_bytes job now.seen) (copy_bytes job now.seen) job.plan.pieces ≡ file_counts piece_len dir copy start.seen file
  file_counted =
      ap (counts_upto (hashed job) (own_bytes job now.seen) (copy_bytes job now.seen)) job.plan.pieces_are
      ∙ ap (λ (f : HashedFile). counts_upto f (own_bytes job now.seen) (copy_bytes job now.seen) (file_pieces f)) is.hashes
      ∙ ap (λ (o : List ℕ). counts_upto (hashed_file piece_len file) o (copy_bytes job now.seen) (file_pieces (hashed_file piece_len file))) is.own
      ∙ ap (λ (c : List ℕ). counts_upto (hashed_file piece_len file) (bytes_in dir file start.seen) c (file_pieces (hashed_file piece_len file))) is.copied

-- ---- the plan of a file

full_within : (len piece_len : ℕ) → 1 ≤ piece_len → (pieces_of len piece_len - 1) * piece_len ≤ len
full_within len piece_len some =
    let full = pieces_of len piece_len - 1 in
    let times = div_ceil_times len piece_len some in
    let next = next_piece full piece_len in
    elim (cases_lt 0 (pieces_of len piece_len)) [
      | inl begun ↦
          let whole : pieces_of len piece_len ≡ full + 1 = omega (arith, begun) in
          let product : pieces_of len piece_len * piece_len ≡ (full + 1) * piece_len = ap (λ (n : ℕ). n * piece_len) whole in
          omega (arith, times, next, product)
      | inr none ↦
          let nothing : full ≡ 0 = omega (arith, none) in
          let product : full * piece_len ≡ 0 * piece_len = ap (λ (n : ℕ). n * piece_len) nothing in
          omega (arith, product)
    ]

few_blocks : (len piece_len : ℕ) → IsPieceLen piece_len → len ≤ 4398046511104 → blocks_of len piece_len ≤ 268435456
few_blocks len piece_len is most =
    let full = pieces_of len piece_len - 1 in
    let width = piece_len / BLOCK_LEN in
    let within = full_within len piece_len (omega (arith, is.least)) in
    let each : full * div_ceil piece_len BLOCK_LEN ≤ full * width = mul-le-mul_left full (leaves_fit piece_len piece_len is (omega arith)) in
    let whole : full * piece_len ≡ full * width * BLOCK_LEN = ap (λ (n : ℕ). full * n) (whole_blocks piece_len is) ∙ sym (mul_assoc full width BLOCK_LEN) in
    let times = div_ceil_times (len - full * piece_len) 16384 (omega arith) in
    omega (arith, within, each, whole, times, most)

pub is_plan : (len piece_len : ℕ) → IsPieceLen piece_len → pieces_of len piece_len ≤ 1048576 → len ≤ 4398046511104 → IsPlan len piece_len
is_plan len piece_len is few most = record {
  some = omega (arith, is.least);
  piece = omega (arith, is.most);
  pieces = omega (arith, few);
  blocks = few_blocks len piece_len is most;
}

-- ---- what is checked and repaired is the file

copy_unchanged : (path : List (List ℕ)) (a b : Files) → IsSame a b → (copy : Option (List ℕ))
    → file_bytes (option_map (λ folder. file_bytes (b (name_of folder path))) copy) ≡ file_bytes (option_map (λ folder. file_bytes (a (name_of folder path))) copy)
copy_unchanged path a b same None = refl
copy_unchanged path a b same (Some folder) = ap file_bytes (same (name_of folder path))

module _ (job : RepairJob) (piece_len : ℕ) (dir : List ℕ) (copy : Option (Bor (List ℕ))) (file : FileV2) (start mid now : DiskState) (is_name : job.name.now ≡ name_of dir file.path)
    (total : job.plan.total ≡ file.len) (length_of : job.plan.piece_len ≡ piece_len) (layer : job.hashes.now ≡ file.layer) where
  pub is_file : job.len ≡ length (file_bytes (start.seen job.name.now))
      → option_map (λ name. name.now) job.copy ≡ option_map (λ folder. name_of folder.now file.path) copy → IfSome job.copy (λ name. job.copy_len ≡ length (file_bytes (mid.seen name.now)))
      → StepsBy IsSame start mid → StepsBy IsSame mid now → IsFile job piece_len dir (option_map (λ folder. folder.now) copy) file start now
  is_file long named copied first second =
      let same = same_on start mid now first second in
      record {
        name = is_name;
        hashes = hashed_is (hashed job) (hashed_file piece_len file) total length_of layer;
        own = ap (λ (it : Option (List ℕ)). take job.len (file_bytes it)) (same.seen job.name.now)
            ∙ take_all job.len (file_bytes (start.seen job.name.now)) (omega (arith, long))
            ∙ ap (λ (n : List ℕ). file_bytes (start.seen n)) is_name;
        copied = copies_are file.path job.copy_len mid.seen now.seen second.seen job.copy copy named copied
            ∙ copy_unchanged file.path start.seen mid.seen first.seen (option_map (λ folder. folder.now) copy);
        same = same;
      }

  pub job_stands : job.len ≡ length (file_bytes (start.seen job.name.now)) → StepsBy IsSame start mid → StepsBy IsSame mid now → job.len ≡ length (own_content job now.seen)
  job_stands long first second = long ∙ ap (λ (it : Option (List ℕ)). length (file_bytes it)) (sym ((same_on start mid now first second).seen job.name.now))

  pub is_job : IsPieceLen piece_len → length file.layer ≡ pieces_of file.len piece_len → IsRepairJob job
  is_job is many = record {
    piece_len = subst IsPieceLen (sym length_of) is;
    each = ap length layer ∙ many ∙ ap (λ (n : ℕ). pieces_of n piece_len) (sym total) ∙ ap (pieces_of job.plan.total) (sym length_of) ∙ sym job.plan.pieces_are;
  }

  pub job_of_pieces : job.plan.pieces ≡ pieces_of file.len piece_len
  job_of_pieces = job.plan.pieces_are ∙ ap (λ (n : ℕ). pieces_of n job.plan.piece_len) total ∙ ap (pieces_of file.len) length_of

pub piece_fits : (total len piece buffer : ℕ) → len ≤ buffer → min ((piece + 1) * len) total - piece * len ≤ buffer
piece_fits total len piece buffer room = let next = next_piece piece len in omega (arith, next, room)

pub changes_same : (piece_len : ℕ) (dir : List ℕ) (copy : Option (List ℕ)) (file : FileV2) (a b : DiskState) → StepsBy IsSame a b → ChangesFile piece_len dir copy file a b
changes_same piece_len dir copy file a b same =
    let hf = hashed_file piece_len file in
    let own = bytes_in dir file a.seen in
    let theirs = bytes_of_copy copy file a.seen in
    record {
      steps = steps_wider IsSame (MendsPieces (name_of dir file.path) hf own theirs (file_pieces hf)) a b
          (file_same (name_of dir file.path) file.len (falls_short hf own) (IsWrittenUpTo hf own theirs (file_pieces hf))) same;
      spared = λ none. same;
    }

pub unchanged : (disk : DiskState) → StepsBy IsSame disk disk
unchanged disk = steps_none IsSame disk (λ x name. refl)
