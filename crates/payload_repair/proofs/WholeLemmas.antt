-- The files of a payload are checked and repaired one after the other.
use Rattle.std.proofs.Common.{◌≡◌, ◌≢◌, ◌∙◌, ap, sym, subst, ℕ, zero, suc, ◌+◌, ◌<◌, ◌≤◌, ◌⊎◌, inl, inr, Bool, true, List, [], ◌∷◌, ◌++◌, length, take, get_or, Option, Some, None, refl, arith, ⊎_elim, zero-add, slice_get}
use mathlib.Core.Path.{fun_ext}
use Rattle.std.specs.Prelude.{IsSome, option_map, map, sum_by}
use Rattle.std.proofs.lemmas.Bool.{cases_Bool, cases_eq, cases_lt, both_ways}
use Rattle.std.proofs.lemmas.List.{take_more, get_or-map, length-map}
use Rattle.std.proofs.lemmas.List.Elements.{All-map}
use Rattle.std.proofs.lemmas.List.Sums.{sum_by-append, sum_by-cons, sum_by-take-le, get_or-le-sum_by}
use Rattle.std.proofs.lemmas.Option.{IfSome_then, same_Some, slice_get-map, slice_get_within, get_or_from_slice_get, slice_get-get_or}
use Rattle.dl_disk.specs.Files.{Files, IsSame, file_bytes}
use Rattle.dl_disk.specs.State.{DiskState, IsDurable}
use Rattle.dl_kinds.specs.Plan.{pieces_of}
use Rattle.meta_v2.specs.Sound.{IsFileV2, IsSoundV2, all_bytes, all_pieces}
use Rattle.meta_v2.specs.declared.files.FileV2.{FileV2}
use Rattle.meta_v2.specs.declared.meta.MetaV2.{MetaV2}
use Rattle.payload_files.specs.Names.{folder_of, name_of, KeepsFolders, NamesDiffer}
use Rattle.payload_repair.specs.Counting.{AreOf, AreSmall, plus}
use Rattle.payload_repair.specs.Payload.{hashed_file, bytes_in, bytes_of_copy, CopyIsApart, ShareNoFile, HaveOtherNames, ChangesFile, FileIsRepaired, IsMendedIn, IsWrittenIn, MendsFileV2, file_counts}
use Rattle.payload_repair.specs.Pieces.{HashedFile, file_pieces, is_right}
use Rattle.payload_repair.specs.Repaired.{IsRepaired}
use Rattle.payload_repair.specs.Repairs.{falls_short, is_mended, IsWrittenUpTo, MendsPieces}
use Rattle.payload_repair.specs.StepsBy.{StepsBy}
use Rattle.payload_repair.specs.Whole.{MendsFiles, ChangesFiles, FilesAreRepaired, KeepsAllRight, AllLast, counts_of_files}
use Rattle.payload_repair.specs.declared.counts.Counts.{Counts}
use Rattle.span_map.specs.Layout.{IsLayout, total_of}
use Rattle.span_map.specs.declared.files.FileLen.{FileLen}
use Rattle.payload_repair.proofs.MendLemmas.{file_none, file_same, mends_bytes}
use Rattle.payload_repair.proofs.MendingLemmas.{right_unmended, wrong_unmended}
use Rattle.payload_repair.proofs.PieceLemmas.{right_kept, wrong_past, ends_some}
use Rattle.payload_repair.proofs.RepairedLemmas.{spared_piece, lasts_right}
use Rattle.payload_repair.proofs.StepLemmas.{same_on, steps_on, steps_none, steps_wider}

-- ---- names

-- the files as those of a layout
abbrev as_layout : List FileV2 → List FileLen
as_layout files = map (λ (f : FileV2). let it : FileLen = record { path = f.path; len = f.len } in it) files

total_is : (files : List FileV2) → total_of (as_layout files) ≡ all_bytes files
total_is [] = refl
total_is (x ∷ files) =
    let front = sum_by-cons (λ (f : FileLen). f.len) (let it : FileLen = record { path = x.path; len = x.len } in it) (as_layout files) in
    let back = sum_by-cons (λ (f : FileV2). f.len) x files in
    let rest = total_is files in
    omega (arith, front, back, rest)

is_layout : (meta : MetaV2) → IsSoundV2 meta → (file : FileV2) (k : ℕ) → slice_get meta.files k ≡ Some file → IsLayout (as_layout meta.files)
is_layout meta sound file k at_k =
    let shape : FileV2 → FileLen = λ f. record { path = f.path; len = f.len } in
    let within = slice_get_within meta.files k file at_k in
    record {
      some = λ none. let empty : length (as_layout meta.files) ≡ 0 = ap length none in
          let long : length (as_layout meta.files) ≡ length meta.files = length-map meta.files shape in
          absurd (omega (arith, within, empty, long));
      paths = record {
        valid = All-map (λ (f : FileLen). Rattle.span_map.specs.Paths.IsPath f.path) shape meta.files (λ j d inside. (sound.files j d inside).path);
        apart = λ i j d before inside clash.
            let long : length (as_layout meta.files) ≡ length meta.files = length-map meta.files shape in
            let first = get_or-map shape meta.files i file d (omega (arith, before, inside, long)) in
            let second = get_or-map shape meta.files j file d (omega (arith, inside, long)) in
            sound.apart i j file before (omega (arith, inside, long))
            (subst (λ (f : FileLen). Rattle.span_map.specs.Paths.Clash (get_or meta.files i file).path f.path) second
            (subst (λ (f : FileLen). Rattle.span_map.specs.Paths.Clash f.path (get_or (as_layout meta.files) j d).path) first clash));
      };
      bounded = omega (arith, total_is meta.files, sound.bounded);
    }

pub other_names : NamesDiffer → (dir : List ℕ) (meta : MetaV2) → IsSoundV2 meta → HaveOtherNames dir meta.files
other_names law dir meta sound j k f g at_j at_k differ =
    let shape : FileV2 → FileLen = λ f. record { path = f.path; len = f.len } in
    law dir (as_layout meta.files) j k (shape f) (shape g) (is_layout meta sound f j at_j) differ
    (slice_get-map shape meta.files j ∙ ap (option_map shape) at_j) (slice_get-map shape meta.files k ∙ ap (option_map shape) at_k)

-- ---- counts

sum_push : (f : FileV2 → ℕ) (xs : List FileV2) (x : FileV2) → sum_by f xs + f x ≡ sum_by f (xs ++ x ∷ [])
sum_push f xs x = sym (sum_by-append f xs (x ∷ []) ∙ ap (λ (n : ℕ). sum_by f xs + n) (zero-add (f x)))

more_files : (files : List FileV2) (k : ℕ) (file : FileV2) → slice_get files k ≡ Some file → take (k + 1) files ≡ take k files ++ file ∷ []
more_files files k file at_k =
    take_more files k file (slice_get_within files k file at_k) ∙ ap (λ (f : FileV2). take k files ++ f ∷ []) (get_or_from_slice_get files k file file at_k)

pub sum_more_files : (f : FileV2 → ℕ) (files : List FileV2) (k : ℕ) (file : FileV2) → slice_get files k ≡ Some file → sum_by f (take k files) + f file ≡ sum_by f (take (k + 1) files)
sum_more_files f files k file at_k = sum_push f (take k files) file ∙ ap (sum_by f) (sym (more_files files k file at_k))

module _ (piece_len : ℕ) (dir : List ℕ) (copy : Option (List ℕ)) where
  pub counts_more_files : (seen : Files) (files : List FileV2) (k : ℕ) (file : FileV2) → slice_get files k ≡ Some file
      → plus (counts_of_files piece_len dir copy seen (take k files)) (file_counts piece_len dir copy seen file) ≡ counts_of_files piece_len dir copy seen (take (k + 1) files)
  counts_more_files seen files k file at_k =
      let one : FileV2 → Counts = file_counts piece_len dir copy seen in
      let p = sum_more_files (λ (f : FileV2). (one f).pieces) files k file at_k in
      let r = sum_more_files (λ (f : FileV2). (one f).right) files k file at_k in
      let q = sum_more_files (λ (f : FileV2). (one f).repaired) files k file at_k in
      let b = sum_more_files (λ (f : FileV2). (one f).blocks) files k file at_k in
      same_counts (plus (counts_of_files piece_len dir copy seen (take k files)) (file_counts piece_len dir copy seen file)) (counts_of_files piece_len dir copy seen (take (k + 1) files)) p r q b
    where
      same_counts : (x y : Counts) → x.pieces ≡ y.pieces → x.right ≡ y.right → x.repaired ≡ y.repaired → x.blocks ≡ y.blocks → x ≡ y
      same_counts x y p r q b =
          ap (λ (n : ℕ). let it : Counts = record { pieces = n; right = x.right; repaired = x.repaired; blocks = x.blocks } in it) p
          ∙ ap (λ (n : ℕ). let it : Counts = record { pieces = y.pieces; right = n; repaired = x.repaired; blocks = x.blocks } in it) r
          ∙ ap (λ (n : ℕ). let it : Counts = record { pieces = y.pieces; right = y.right; repaired = n; blocks = x.blocks } in it) q
          ∙ ap (λ (n : ℕ). let it : Counts = record { pieces = y.pieces; right = y.right; repaired = y.repaired; blocks = n } in it) b

pub are_of_both : (p l q m : ℕ) (a b : Counts) → AreOf p l a → AreOf q m b → AreOf (p + q) (l + m) (plus a b)
are_of_both p l q m a b one two = record {
  pieces = omega (arith, one.pieces, two.pieces);
  each = omega (arith, one.each, two.each);
  blocks = omega (arith, one.blocks, two.blocks);
}

pub are_small : (p l : ℕ) (a : Counts) → AreOf p l a → p ≤ 1048576 → l ≤ 4398046511104 → AreSmall a
are_small p l a of few most = record {
  pieces = omega (arith, of.pieces, few);
  right = omega (arith, of.each, few);
  repaired = omega (arith, of.each, few);
  blocks = omega (arith, of.blocks, few, most);
}

-- what was repaired stays so where the file stays
repaired_on : (piece_len : ℕ) (dir : List ℕ) (copy : Option (List ℕ)) (file : FileV2) (start : Files) (a b : DiskState) → b.seen (name_of dir file.path) ≡ a.seen (name_of dir file.path)
    → KeepsFolders a.folders b.folders → FileIsRepaired piece_len dir copy start a file → FileIsRepaired piece_len dir copy start b file
repaired_on piece_len dir copy file start a b same folders was = record {
  pieces = subst (IsRepaired (hashed_file piece_len file) (bytes_in dir file start) (bytes_of_copy copy file start)) (sym (ap file_bytes same)) was.pieces;
  fitted = λ piece within mended.
      let fitted = was.fitted piece within mended in
      record {
        len = subst (λ (l : List ℕ). file.len ≤ length l) (sym (ap file_bytes same)) fitted.len;
        made = λ short. IfSome_then (folder_of dir file.path) (fitted.made short) (λ folder has. folders folder has);
      };
}

-- a test passes below a number, or at none of them
any_below : (p : ℕ → Bool) (n : ℕ) → ((i : ℕ) → i < n → ¬ (p i ≡ true)) ⊎ ((i : ℕ) × (i < n) × (p i ≡ true))
any_below p zero = inl (λ i before. absurd (omega (arith, before)))
any_below p (suc n) = elim (any_below p n) [
  | inr some ↦ inr (some.0, omega (arith, some.1), some.2)
  | inl none ↦ elim (cases_Bool (p n)) [
    | inl passes ↦ inr (n, omega arith, passes)
    | inr fails ↦ inl (λ i before is. ⊎_elim
        (λ (here : i ≡ n). both_ways (p n) fails (subst (λ (m : ℕ). p m ≡ true) here is))
        (λ differs. none i (omega (arith, before, differs)) is)
        (cases_eq i n))
  ]
]

-- ---- one file more

copy_same_files : (dir : List ℕ) (files : List FileV2) (k : ℕ) (file : FileV2) (a b : Files) → slice_get files k ≡ Some file
    → ((name : List ℕ) → ((j : ℕ) (f : FileV2) → j < k → slice_get files j ≡ Some f → name_of dir f.path ≢ name) → b name ≡ a name)
    → (copy : Option (List ℕ)) → ShareNoFile dir copy files → bytes_of_copy copy file b ≡ bytes_of_copy copy file a
copy_same_files dir files k file a b at_k others None apart = refl
copy_same_files dir files k file a b at_k others (Some folder) apart =
    ap file_bytes (others (name_of folder file.path) (λ j f before at_j same. apart k j file f at_k at_j (sym same)))

pub file_apart : (dir : List ℕ) (files : List FileV2) (k : ℕ) (file : FileV2) → slice_get files k ≡ Some file → (copy : Option (List ℕ)) → ShareNoFile dir copy files → CopyIsApart dir copy file
file_apart dir files k file at_k None apart = tt
file_apart dir files k file at_k (Some folder) apart = apart k k file file at_k at_k

no_copy_unmended : (piece_len : ℕ) (dir : List ℕ) (file : FileV2) (seen : Files) (piece : ℕ) → 1 ≤ piece_len → piece < file_pieces (hashed_file piece_len file) → (copy : Option (List ℕ)) → copy ≡ None
    → is_mended (hashed_file piece_len file) (bytes_in dir file seen) (bytes_of_copy copy file seen) piece ≡ true → ⊥
no_copy_unmended piece_len dir file seen piece some within None is mended =
    let begun = ends_some file.len piece_len piece some within in
    both_ways (is_mended (hashed_file piece_len file) (bytes_in dir file seen) [] piece)
    (wrong_unmended (hashed_file piece_len file) (bytes_in dir file seen) [] piece (sym (wrong_past (hashed_file piece_len file) [] piece (omega (arith, begun))))) mended
no_copy_unmended piece_len dir file seen piece some within (Some folder) is mended = absurd (cc)

module _ (piece_len : ℕ) (dir : List ℕ) (copy : Option (List ℕ)) (files : List FileV2) (names : HaveOtherNames dir files) (k : ℕ) (file : FileV2) (at_k : slice_get files k ≡ Some file) where
  abbrev hf : HashedFile
  hf = hashed_file piece_len file

  abbrev name : List ℕ
  name = name_of dir file.path

  earlier : (j : ℕ) (f : FileV2) → j < k → slice_get files j ≡ Some f → name_of dir f.path ≢ name
  earlier j f before at_j = names j k f file at_j at_k (λ same. absurd (omega (arith, same, before)))

  -- a step of the first files, and one of this file
  both : (seen x y z : Files) → MendsFiles piece_len dir copy files seen k x y → MendsPieces name hf (bytes_in dir file seen) (bytes_of_copy copy file seen) (file_pieces hf) y z
      → (((piece : ℕ) → piece < file_pieces hf → ¬ IsMendedIn piece_len dir copy seen file piece) → z name ≡ y name)
      → MendsFiles piece_len dir copy files seen (k + 1) x z
  both seen x y z first second spared = record {
    others = λ other apart. second.others other (λ same. apart k file (omega arith) at_k (sym same))
        ∙ first.others other (λ j f before at_j. apart j f (omega (arith, before)) at_j);
    each = λ j f before at_j. ⊎_elim
        (λ (here : j ≡ k).
        let same : f ≡ file = same_Some f file (sym at_j ∙ ap (slice_get files) here ∙ at_k) in
        let now : MendsFileV2 piece_len dir copy seen file (y name) (z name) = record { bytes = second.here; spared = spared } in
        subst (λ (g : FileV2). MendsFileV2 piece_len dir copy seen g (x (name_of dir g.path)) (z (name_of dir g.path))) (sym same)
        (subst (λ (it : Option (List ℕ)). MendsFileV2 piece_len dir copy seen file it (z name)) (first.others name earlier) now))
        (λ differs.
        let sooner : j < k = omega (arith, before, differs) in
        subst (MendsFileV2 piece_len dir copy seen f (x (name_of dir f.path))) (sym (second.others (name_of dir f.path) (earlier j f sooner at_j))) (first.each j f sooner at_j))
        (cases_eq j k);
  }

  module _ (start now new : DiskState) (apart : ShareNoFile dir copy files) (front : ChangesFiles piece_len dir copy files k start now) where
    own_is : bytes_in dir file now.seen ≡ bytes_in dir file start.seen
    own_is = ap file_bytes (front.steps.seen.others name earlier)

    copy_is : bytes_of_copy copy file now.seen ≡ bytes_of_copy copy file start.seen
    copy_is = copy_same_files dir files k file start.seen now.seen at_k front.steps.seen.others copy apart

    pub counts_here : file_counts piece_len dir copy now.seen file ≡ file_counts piece_len dir copy start.seen file
    counts_here =
        ap (λ (o : List ℕ). Rattle.payload_repair.specs.Repairs.counts_upto hf o (bytes_of_copy copy file now.seen) (file_pieces hf)) own_is
        ∙ ap (λ (c : List ℕ). Rattle.payload_repair.specs.Repairs.counts_upto hf (bytes_in dir file start.seen) c (file_pieces hf)) copy_is

    module _ (one : ChangesFile piece_len dir copy file now new) where
      step_here : StepsBy (MendsPieces name hf (bytes_in dir file start.seen) (bytes_of_copy copy file start.seen) (file_pieces hf)) now new
      step_here =
          subst (λ (c : List ℕ). StepsBy (MendsPieces name hf (bytes_in dir file start.seen) c (file_pieces hf)) now new) copy_is
          (subst (λ (o : List ℕ). StepsBy (MendsPieces name hf o (bytes_of_copy copy file now.seen) (file_pieces hf)) now new) own_is one.steps)

      abbrev OneFile : Files → Files → Type 0
      OneFile y z = MendsPieces name hf (bytes_in dir file start.seen) (bytes_of_copy copy file start.seen) (file_pieces hf) y z
          × (((piece : ℕ) → piece < file_pieces hf → ¬ IsMendedIn piece_len dir copy start.seen file piece) → z name ≡ y name)

      one_step : StepsBy OneFile now new
      one_step = ⊎_elim
          (λ (none : (piece : ℕ) → piece < file_pieces hf → ¬ IsMendedIn piece_len dir copy start.seen file piece).
          steps_wider IsSame OneFile now new
          (λ x y same. (file_same name file.len (falls_short hf (bytes_in dir file start.seen)) (IsWrittenIn piece_len dir copy start.seen file) x y same, λ all. same name))
          (one.spared (λ piece within mended. none piece within
          (ap (λ (o : List ℕ). is_mended hf o (bytes_of_copy copy file start.seen) piece) (sym own_is)
          ∙ ap (λ (c : List ℕ). is_mended hf (bytes_in dir file now.seen) c piece) (sym copy_is) ∙ mended))))
          (λ some. steps_wider (MendsPieces name hf (bytes_in dir file start.seen) (bytes_of_copy copy file start.seen) (file_pieces hf)) OneFile now new
          (λ x y mends. (mends, λ none. absurd (none some.0 some.1 some.2))) step_here)
          (any_below (is_mended hf (bytes_in dir file start.seen) (bytes_of_copy copy file start.seen)) (file_pieces hf))

      pub changes_more : 1 ≤ piece_len → ChangesFiles piece_len dir copy files (k + 1) start new
      changes_more some = record {
        steps = steps_on (MendsFiles piece_len dir copy files start.seen k) OneFile (MendsFiles piece_len dir copy files start.seen (k + 1)) start now new
            (λ x y first. both start.seen x y y first (file_none name file.len (falls_short hf (bytes_in dir file start.seen)) (IsWrittenIn piece_len dir copy start.seen file) y) (λ none. refl))
            (λ x y z first second. both start.seen x y z first second.0 second.1) front.steps one_step;
        spared = λ none. same_on start now new (front.spared none)
            (one.spared (λ piece within mended. no_copy_unmended piece_len dir file now.seen piece some within copy none mended));
      }

      pub repaired_more : FilesAreRepaired piece_len dir copy files k start.seen now → FileIsRepaired piece_len dir copy now.seen new file → FilesAreRepaired piece_len dir copy files (k + 1) start.seen new
      repaired_more were is j f before at_j = ⊎_elim
          (λ (here : j ≡ k).
          let same : f ≡ file = same_Some f file (sym at_j ∙ ap (slice_get files) here ∙ at_k) in
          subst (FileIsRepaired piece_len dir copy start.seen new) (sym same) (record {
            pieces = subst (λ (c : List ℕ). IsRepaired hf (bytes_in dir file start.seen) c (bytes_in dir file new.seen)) copy_is
                (subst (λ (o : List ℕ). IsRepaired hf o (bytes_of_copy copy file now.seen) (bytes_in dir file new.seen)) own_is is.pieces);
            fitted = λ piece within mended.
                let fitted = is.fitted piece within (ap (λ (o : List ℕ). is_mended hf o (bytes_of_copy copy file now.seen) piece) own_is
                ∙ ap (λ (c : List ℕ). is_mended hf (bytes_in dir file start.seen) c piece) copy_is ∙ mended) in
                record { len = fitted.len; made = λ short. fitted.made (ap (falls_short hf) own_is ∙ short) };
          }))
          (λ differs.
          let sooner : j < k = omega (arith, before, differs) in
          repaired_on piece_len dir copy f start.seen now new (one.steps.seen.others (name_of dir f.path) (earlier j f sooner at_j)) one.steps.folders (were j f sooner at_j))
          (cases_eq j k)

-- ---- all of them

module _ (piece_len : ℕ) (dir : List ℕ) (copy : Option (List ℕ)) (files : List FileV2) where
  pub changes_none : (start : DiskState) → ChangesFiles piece_len dir copy files 0 start start
  changes_none start = record {
    steps = steps_none (MendsFiles piece_len dir copy files start.seen 0) start (λ x. record { others = λ name apart. refl; each = λ j f before. absurd (omega (arith, before)) });
    spared = λ none. steps_none IsSame start (λ x name. refl);
  }

  -- the first files are among all
  pub changes_among : HaveOtherNames dir files → (few many : ℕ) (a b : DiskState) → few ≤ many → ChangesFiles piece_len dir copy files few a b → ChangesFiles piece_len dir copy files many a b
  changes_among names few many a b within changes = record {
    steps = steps_wider (MendsFiles piece_len dir copy files a.seen few) (MendsFiles piece_len dir copy files a.seen many) a b
        (λ x y first. record {
          others = λ other apart. first.others other (λ j f before at_j. apart j f (omega (arith, before, within)) at_j);
          each = λ j f before at_j. ⊎_elim
              (λ (sooner : j < few). first.each j f sooner at_j)
              (λ (later : few ≤ j).
              subst (MendsFileV2 piece_len dir copy a.seen f (x (name_of dir f.path)))
              (sym (first.others (name_of dir f.path) (λ i h earlier at_i. names i j h f at_i at_j (λ same. absurd (omega (arith, same, earlier, later))))))
              (record { bytes = (file_none (name_of dir f.path) f.len (falls_short (hashed_file piece_len f) (bytes_in dir f a.seen)) (IsWrittenIn piece_len dir copy a.seen f) x).here; spared = λ none. refl }))
              (cases_lt j few);
        }) changes.steps;
    spared = changes.spared;
  }

  -- calls that change nothing, behind
  pub changes_then : (count : ℕ) (a b c : DiskState) → ChangesFiles piece_len dir copy files count a b → StepsBy IsSame b c → ChangesFiles piece_len dir copy files count a c
  changes_then count a b c changes same = record {
    steps = steps_on (MendsFiles piece_len dir copy files a.seen count) IsSame (MendsFiles piece_len dir copy files a.seen count) a b c (λ x y is. is)
        (λ x y z one two. record {
          others = λ name apart. two name ∙ one.others name apart;
          each = λ j f before at_j. subst (MendsFileV2 piece_len dir copy a.seen f (x (name_of dir f.path))) (sym (two (name_of dir f.path))) (one.each j f before at_j);
        }) changes.steps same;
    spared = λ none. same_on a b c (changes.spared none) same;
  }

  -- a file that is as it was
  unmended : (seen : Files) (f : FileV2) (x : Files) → MendsFileV2 piece_len dir copy seen f (x (name_of dir f.path)) (x (name_of dir f.path))
  unmended seen f x = record {
    bytes = (file_none (name_of dir f.path) f.len (falls_short (hashed_file piece_len f) (bytes_in dir f seen)) (IsWrittenIn piece_len dir copy seen f) x).here;
    spared = λ none. refl;
  }

  -- calls that change nothing, in front
  pub changes_first : (count : ℕ) (a b c : DiskState) → StepsBy IsSame a b → ChangesFiles piece_len dir copy files count b c → ChangesFiles piece_len dir copy files count a c
  changes_first count a b c same changes =
      let seen_is : b.seen ≡ a.seen = fun_ext (λ name. same.seen name) in
      let M = MendsFiles piece_len dir copy files a.seen count in
      record {
        steps = steps_on IsSame M M a b c
            (λ x y is. record {
              others = λ name apart. is name;
              each = λ j f before at_j. subst (MendsFileV2 piece_len dir copy a.seen f (x (name_of dir f.path))) (sym (is (name_of dir f.path))) (unmended a.seen f x);
            })
            (λ x y z is on. record {
              others = λ name apart. on.others name apart ∙ is name;
              each = λ j f before at_j. subst (λ (old : Option (List ℕ)). MendsFileV2 piece_len dir copy a.seen f old (z (name_of dir f.path))) (is (name_of dir f.path)) (on.each j f before at_j);
            })
            same (subst (λ (seen : Files). StepsBy (MendsFiles piece_len dir copy files seen count) b c) seen_is changes.steps);
        spared = λ none. same_on a b c same (changes.spared none);
      }

  pub repaired_then : (count : ℕ) (start : Files) (a b : DiskState) → FilesAreRepaired piece_len dir copy files count start a → StepsBy IsSame a b → FilesAreRepaired piece_len dir copy files count start b
  repaired_then count start a b repaired same j f before at_j =
      repaired_on piece_len dir copy f start a b (same.seen (name_of dir f.path)) same.folders (repaired j f before at_j)

  -- a crash at some moment
  pub keeps_all : (a b : DiskState) → ChangesFiles piece_len dir copy files (length files) a b → KeepsAllRight piece_len dir files a b
  keeps_all a b changes k file at_k piece within every image left =
      let hf = hashed_file piece_len file in
      let own = bytes_in dir file a.seen in
      let theirs = bytes_of_copy copy file a.seen in
      let short = falls_short hf own in
      let W : ℕ → Type 0 = IsWrittenUpTo hf own theirs (file_pieces hf) in
      let here : is_right hf own piece ≡ true = every a.seen a.own_image in
      let from = changes.steps.passes.images left.0 image left.1 left.2 left.3 in
      right_kept hf short W (file_bytes (from.0 (name_of dir file.path))) (file_bytes (image (name_of dir file.path)))
      (mends_bytes file.len short W (from.0 (name_of dir file.path)) (image (name_of dir file.path)) (from.2.each k file (slice_get_within files k file at_k) at_k).bytes) piece
      (spared_piece hf own theirs (file_pieces hf) piece (right_unmended hf own theirs piece here)) (every from.0 from.1)

  pub all_last : (disk : DiskState) → 1 ≤ piece_len
      → ((k : ℕ) (file : FileV2) → slice_get files k ≡ Some file → IsSome (disk.seen (name_of dir file.path)) → IsDurable (name_of dir file.path) disk) → AllLast piece_len dir files disk
  all_last disk some durable k file at_k = lasts_right (hashed_file piece_len file) (name_of dir file.path) disk some (durable k file at_k)

-- a durable file stays so
pub durable_then : (name : List ℕ) (a b : DiskState) → StepsBy IsSame a b → (IsSome (a.seen name) → IsDurable name a) → IsSome (b.seen name) → IsDurable name b
durable_then name a b same durable some image left =
    let was : IsSome (a.seen name) = subst (λ (it : Option (List ℕ)). IsSome it) (same.seen name) some in
    let from = Rattle.dl_disk.specs.Passes.image_before IsSame a b same.passes image left in
    from.2 name ∙ durable was from.0 from.1 ∙ sym (same.seen name)

-- the file at hand
pub at_item : (items files : List FileV2) (k : ℕ) (file : FileV2) → items ≡ files → k < length items → file ≡ get_or items k file → slice_get files k ≡ Some file
at_item items files k file are within is =
    subst (λ (l : List FileV2). slice_get l k ≡ Some file) are (slice_get-get_or items k file within ∙ ap (λ (f : FileV2). Some f) (sym is))

-- one more is durable
pub durable_more : (dir : List ℕ) (files : List FileV2) (k : ℕ) (file : FileV2) → slice_get files k ≡ Some file → (a b : DiskState) → StepsBy IsSame a b
    → ((j : ℕ) (f : FileV2) → j < k → slice_get files j ≡ Some f → IsSome (a.seen (name_of dir f.path)) → IsDurable (name_of dir f.path) a)
    → (IsSome (b.seen (name_of dir file.path)) → IsDurable (name_of dir file.path) b)
    → (j : ℕ) (f : FileV2) → j < k + 1 → slice_get files j ≡ Some f → IsSome (b.seen (name_of dir f.path)) → IsDurable (name_of dir f.path) b
durable_more dir files k file at_k a b same front one j f before at_j = ⊎_elim
    (λ (here : j ≡ k).
    let it : f ≡ file = same_Some f file (sym at_j ∙ ap (slice_get files) here ∙ at_k) in
    subst (λ (g : FileV2). IsSome (b.seen (name_of dir g.path)) → IsDurable (name_of dir g.path) b) (sym it) one)
    (λ differs. durable_then (name_of dir f.path) a b same (front j f (omega (arith, before, differs)) at_j))
    (cases_eq j k)

-- what holds of the file at hand
pub sound_at : (meta : MetaV2) → IsSoundV2 meta → (k : ℕ) (file : FileV2) → slice_get meta.files k ≡ Some file → IsFileV2 meta.piece_len file
sound_at meta sound k file at_k =
    subst (IsFileV2 meta.piece_len) (get_or_from_slice_get meta.files k file file at_k) (sound.files k file (slice_get_within meta.files k file at_k))

within_sum : (f : FileV2 → ℕ) (files : List FileV2) (k : ℕ) (file : FileV2) → slice_get files k ≡ Some file → f file ≤ sum_by f files
within_sum f files k file at_k =
    subst (λ (g : FileV2). f g ≤ sum_by f files) (get_or_from_slice_get files k file file at_k) (get_or-le-sum_by f files k file (slice_get_within files k file at_k))

pub few_at : (meta : MetaV2) → IsSoundV2 meta → (k : ℕ) (file : FileV2) → slice_get meta.files k ≡ Some file → pieces_of file.len meta.piece_len ≤ 1048576
few_at meta sound k file at_k = let within = within_sum (λ (f : FileV2). pieces_of f.len meta.piece_len) meta.files k file at_k in omega (arith, within, sound.few)

pub bounded_at : (meta : MetaV2) → IsSoundV2 meta → (k : ℕ) (file : FileV2) → slice_get meta.files k ≡ Some file → file.len ≤ 4398046511104
bounded_at meta sound k file at_k = let within = within_sum (λ (f : FileV2). f.len) meta.files k file at_k in omega (arith, within, sound.bounded)

-- the sums so far
pub are_of_next : (meta : MetaV2) (k : ℕ) (file : FileV2) → slice_get meta.files k ≡ Some file → (a b : Counts)
    → AreOf (all_pieces meta.piece_len (take k meta.files)) (all_bytes (take k meta.files)) a → AreOf (pieces_of file.len meta.piece_len) file.len b
    → AreOf (all_pieces meta.piece_len (take (k + 1) meta.files)) (all_bytes (take (k + 1) meta.files)) (plus a b)
are_of_next meta k file at_k a b one two =
    subst (λ (n : ℕ). AreOf n (all_bytes (take (k + 1) meta.files)) (plus a b)) (sum_more_files (λ (f : FileV2). pieces_of f.len meta.piece_len) meta.files k file at_k)
    (subst (λ (n : ℕ). AreOf (all_pieces meta.piece_len (take k meta.files) + pieces_of file.len meta.piece_len) n (plus a b)) (sum_more_files (λ (f : FileV2). f.len) meta.files k file at_k)
    (are_of_both (all_pieces meta.piece_len (take k meta.files)) (all_bytes (take k meta.files)) (pieces_of file.len meta.piece_len) file.len a b one two))

pub small_next : (meta : MetaV2) → IsSoundV2 meta → (k : ℕ) (file : FileV2) → slice_get meta.files k ≡ Some file → (a b : Counts)
    → AreOf (all_pieces meta.piece_len (take k meta.files)) (all_bytes (take k meta.files)) a → AreOf (pieces_of file.len meta.piece_len) file.len b → AreSmall (plus a b)
small_next meta sound k file at_k a b one two =
    let pieces = sum_by-take-le (λ (f : FileV2). pieces_of f.len meta.piece_len) meta.files (k + 1) in
    let bytes = sum_by-take-le (λ (f : FileV2). f.len) meta.files (k + 1) in
    are_small (all_pieces meta.piece_len (take (k + 1) meta.files)) (all_bytes (take (k + 1) meta.files)) (plus a b) (are_of_next meta k file at_k a b one two)
    (omega (arith, pieces, sound.few)) (omega (arith, bytes, sound.bounded))
