-- Parts of a slice are written, one after the other.
use Rattle.std.proofs.Common.{◌≡◌, ◌≢◌, ◌∙◌, ap, sym, subst, ℕ, ◌+◌, ◌-◌, ◌<◌, ◌≤◌, List, ◌++◌, length, take, drop, length-drop, get_or, Option, Some, None, refl, arith, slice_get, IsSomeAnd}
use Rattle.std.specs.List.{sum_by}
use Rattle.std.proofs.lemmas.List.{take-take, take_all, drop-take, take-append-drop, length-take-le}
use Rattle.std.proofs.lemmas.List.Sums.{sum_by_more, sum_by_more_le}
use Rattle.std.proofs.lemmas.Option.{slice_get_within, slice_get-get_or, get_or_from_slice_get}
use Rattle.dl_kinds.specs.Lists.{part_at}
use Rattle.dl_disk.specs.Files.{Files, file_bytes, replaced, overwritten, Puts, Torn, MayMake, Changes, TornWrite}
use Rattle.span_map.specs.Layout.{IsLayout, total_of}
use Rattle.span_map.specs.Slices.{slice_of, IsPart}
use Rattle.span_map.specs.declared.files.FileLen.{FileLen}
use Rattle.span_map.specs.declared.files.Part.{Part}
use Rattle.payload_files.specs.Names.{name_of}
use Rattle.payload_files.specs.Payload.{HasFiles, payload_in, part_start}
use Rattle.payload_files.specs.Changes.{SameOutside, TornSlice}
use Rattle.payload_files.proofs.FileNames.{names_differ}
use Rattle.payload_files.proofs.ListEdits.{SameSides, replaced_middle, replaced_on, part_at_replaced, overwritten_within, outside_of, sides_of_middle, outside_none, outside_on, outside_wider, torn_sides}
use Rattle.payload_files.proofs.Contents.{OneChanges, Cut, cut_at, one_stands, has_len, payload_len}
use Rattle.payload_files.proofs.TornFiles.{torn_each, torn_each_none, torn_each_on, torn_each_wider}
use Rattle.payload_files.proofs.Places.{part_place}

module _ (dir : List ℕ) where
  -- ---- one part

  -- the file of a part
  pub part_file : (files : List FileLen) (part : Part) (file : FileLen) → IsPart files part → file ≡ get_or files part.file file
      → (slice_get files part.file ≡ Some file) × (part.at + part.len ≤ file.len)
  part_file files part file is_part is = by_found (slice_get files part.file) refl is_part.within
    where
      by_found : (found : Option FileLen) → slice_get files part.file ≡ found → IsSomeAnd found (λ (f : FileLen). part.at + part.len ≤ f.len)
          → (slice_get files part.file ≡ Some file) × (part.at + part.len ≤ file.len)
      by_found None at_file within = absurd within
      by_found (Some f) at_file within =
          let same : f ≡ file = sym (is ∙ get_or_from_slice_get files part.file f file at_file) in
          (at_file ∙ ap (λ (x : FileLen). Some x) same, subst (λ (x : FileLen). part.at + part.len ≤ x.len) same within)

  abbrev HasLen : ℕ → Option (List ℕ) → Type 0
  HasLen len it = IsSomeAnd it (λ (bytes : List ℕ). length bytes ≡ len)

  -- no write
  pub torn_write_none : (name : List ℕ) (at n : ℕ) (a : Files) → TornWrite name at n a a
  torn_write_none name at n a = record { here = nothing (a name); others = λ other differs. refl }
    where
      nothing : (it : Option (List ℕ)) → MayMake (Torn at n) it it
      nothing None = tt
      nothing (Some old) = record { same = λ i within outside. refl; no_shorter = omega arith; no_longer = omega arith }

  -- a file that is long enough stays so
  torn_file : (at n len : ℕ) (was now : Option (List ℕ)) → at + n ≤ len → HasLen len was → MayMake (Torn at n) was now
      → HasLen len now × SameSides at n (file_bytes was) (file_bytes now)
  torn_file at n len None now within has made = absurd has
  torn_file at n len (Some old) None within has made = absurd made
  torn_file at n len (Some old) (Some new) within has torn =
      let sides = torn_sides at n old new (omega (arith, within, has)) torn in
      (sides.size ∙ has, sides)

  module _ (files : List FileLen) (layout : IsLayout files) (part : Part) (file : FileLen) (at_file : slice_get files part.file ≡ Some file) where
    -- whatever leaves the other names leaves the other files
    one_changes : (old new : Files) → ((name : List ℕ) → name ≢ name_of dir file.path → new name ≡ old name) → OneChanges dir files part.file old new
    one_changes old new others j other at_j differ = others (name_of dir other.path) (names_differ dir files j part.file other file layout differ at_j at_file)

    has_file : (old : Files) → HasFiles dir files old → HasLen file.len (old (name_of dir file.path))
    has_file old has =
        subst (λ (f : FileLen). HasLen f.len (old (name_of dir f.path))) (get_or_from_slice_get files part.file file file at_file) (has part.file file (slice_get_within files part.file file at_file))

    sides_in : (n : ℕ) (old new : Files) → part.at + n ≤ file.len → OneChanges dir files part.file old new → HasFiles dir files old
        → SameSides part.at n (file_bytes (old (name_of dir file.path))) (file_bytes (new (name_of dir file.path)))
        → SameOutside (part_start files part) n (payload_in dir files old) (payload_in dir files new)
    sides_in n old new within one has sides =
        let cut : Cut dir files part.file (name_of dir file.path) old new = cut_at dir files part.file file old new at_file one has in
        let long = has_len dir file (old (name_of dir file.path)) (has_file old has) in
        subst (λ (l : List ℕ). SameOutside (part_start files part) n l (payload_in dir files new)) (sym cut.was)
        (subst (SameOutside (part_start files part) n (cut.front ++ (file_bytes (old (name_of dir file.path)) ++ cut.back))) (sym cut.now)
        (subst (λ (at : ℕ). SameOutside at n (cut.front ++ (file_bytes (old (name_of dir file.path)) ++ cut.back)) (cut.front ++ (file_bytes (new (name_of dir file.path)) ++ cut.back))) (ap (λ (k : ℕ). k + part.at) cut.size)
        (outside_of (length cut.front + part.at) n (cut.front ++ (file_bytes (old (name_of dir file.path)) ++ cut.back)) (cut.front ++ (file_bytes (new (name_of dir file.path)) ++ cut.back))
        (sides_of_middle cut.front cut.back (file_bytes (old (name_of dir file.path))) (file_bytes (new (name_of dir file.path))) part.at n (omega (arith, within, long)) sides))))

    -- a write to the file that is cut short
    pub torn_step : (n : ℕ) (old new : Files) → part.at + n ≤ file.len → Changes (name_of dir file.path) (MayMake (Torn part.at n)) old new → TornSlice dir files (part_start files part) n old new
    torn_step n old new within changes =
        let one : OneChanges dir files part.file old new = one_changes old new changes.others in
        record {
          others = λ name other. changes.others name (λ same. subst (λ (f : FileLen). name_of dir f.path ≢ name) (get_or_from_slice_get files part.file file file at_file) (other part.file file (slice_get_within files part.file file at_file)) (sym same));
          each = torn_each dir files part.file part.at n file old new at_file within changes.here one;
          standing = λ has. one_stands dir files part.file file old new at_file one has (torn_file part.at n file.len (old (name_of dir file.path)) (new (name_of dir file.path)) within (has_file old has) changes.here).0;
          outside = λ has. sides_in n old new within one has (torn_file part.at n file.len (old (name_of dir file.path)) (new (name_of dir file.path)) within (has_file old has) changes.here).1;
        }

    -- a whole one
    pub written_step : (bytes : List ℕ) (old new : Files) → part.at + length bytes ≤ file.len
        → Puts (name_of dir file.path) (Some (overwritten (file_bytes (old (name_of dir file.path))) part.at bytes)) old new → HasFiles dir files old
        → payload_in dir files new ≡ replaced (payload_in dir files old) (part_start files part) bytes
    written_step bytes old new within puts has =
        let cut : Cut dir files part.file (name_of dir file.path) old new = cut_at dir files part.file file old new at_file (one_changes old new puts.others) has in
        let long = has_len dir file (old (name_of dir file.path)) (has_file old has) in
        let room : part.at + length bytes ≤ length (file_bytes (old (name_of dir file.path))) = omega (arith, within, long) in
        let now : file_bytes (new (name_of dir file.path)) ≡ replaced (file_bytes (old (name_of dir file.path))) part.at bytes =
        ap file_bytes puts.here ∙ overwritten_within (file_bytes (old (name_of dir file.path))) part.at bytes room in
        cut.now
        ∙ ap (λ (l : List ℕ). cut.front ++ (l ++ cut.back)) now
        ∙ sym (replaced_middle cut.front (file_bytes (old (name_of dir file.path))) cut.back part.at bytes room)
        ∙ ap (λ (k : ℕ). replaced (cut.front ++ (file_bytes (old (name_of dir file.path)) ++ cut.back)) (k + part.at) bytes) cut.size
        ∙ ap (λ (l : List ℕ). replaced l (part_start files part) bytes) (sym cut.was)

  -- ---- several

  pub torn_none : (files : List FileLen) (at n : ℕ) (a : Files) → TornSlice dir files at n a a
  torn_none files at n a = record {
    others = λ name other. refl;
    each = torn_each_none dir files at n a;
    standing = λ has. has;
    outside = λ has. outside_none at n (payload_in dir files a) (payload_in dir files a) refl;
  }

  pub torn_on : (files : List FileLen) (at first second : ℕ) (a b c : Files) → TornSlice dir files at first a b → TornSlice dir files (at + first) second b c → TornSlice dir files at (first + second) a c
  torn_on files at first second a b c one two = record {
    others = λ name other. two.others name other ∙ one.others name other;
    each = torn_each_on dir files at (first + second) a b c (torn_each_wider dir files at first at (first + second) a b (omega arith) (omega arith) one.each)
        (torn_each_wider dir files (at + first) second at (first + second) b c (omega arith) (omega arith) two.each);
    standing = λ has. two.standing (one.standing has);
    outside = λ has. outside_on at first second (payload_in dir files a) (payload_in dir files b) (payload_in dir files c) (one.outside has) (two.outside (one.standing has));
  }

  pub torn_wider : (files : List FileLen) (at n most : ℕ) (a b : Files) → n ≤ most → TornSlice dir files at n a b → TornSlice dir files at most a b
  torn_wider files at n most a b less torn = record {
    others = torn.others;
    each = torn_each_wider dir files at n at most a b (omega arith) (omega (arith, less)) torn.each;
    standing = torn.standing;
    outside = λ has. outside_wider at n most (payload_in dir files a) (payload_in dir files b) less (torn.outside has);
  }

  -- ---- the next part of a slice

  -- what was written, with the bytes that follow
  written_more : (start middle now bytes chunk : List ℕ) (at written n : ℕ) → written + n ≤ length bytes → at + length bytes ≤ length start
      → middle ≡ replaced start at (take written bytes) → chunk ≡ take n (drop written bytes) → now ≡ replaced middle (at + written) chunk
      → now ≡ replaced start at (take (written + n) bytes)
  written_more start middle now bytes chunk at written n within room was is made =
      let front : length (take written bytes) ≡ written = length-take-le written bytes (omega (arith, within)) in
      let more : length (take n (drop written bytes)) ≡ n = length-take-le n (drop written bytes) (omega (arith, within, length-drop written bytes)) in
      made
      ∙ ap (λ (l : List ℕ). replaced l (at + written) chunk) was
      ∙ ap (λ (l : List ℕ). replaced (replaced start at (take written bytes)) (at + written) l) is
      ∙ ap (λ (k : ℕ). replaced (replaced start at (take written bytes)) (at + k) (take n (drop written bytes))) (sym front)
      ∙ replaced_on start at (take written bytes) (take n (drop written bytes)) (omega (arith, front, more, within, room))
      ∙ ap (replaced start at)
      (ap (λ (l : List ℕ). l ++ take n (drop written bytes)) (sym (take-take written (written + n) bytes (omega arith)))
      ∙ ap (λ (l : List ℕ). take written (take (written + n) bytes) ++ l) (sym (drop-take written n bytes))
      ∙ take-append-drop written (take (written + n) bytes))

  abbrev len_of : Part → ℕ
  len_of part = part.len

  -- the bytes of the next part
  abbrev chunk_of : List ℕ → ℕ → ℕ → List ℕ
  chunk_of bytes written n = take (written + n - written) (drop written bytes)

  module _ (files : List FileLen) (at : ℕ) (bytes : List ℕ) (parts : List Part) (is_slice : parts ≡ slice_of files at (length bytes)) (sum : sum_by len_of parts ≡ length bytes)
      (k : ℕ) (d : Part) (within : k < length parts) (written : ℕ) (so_far : written ≡ sum_by len_of (take k parts)) where
    abbrev next : Part
    next = get_or parts k d

    pub next_sum : written + next.len ≡ sum_by len_of (take (k + 1) parts)
    next_sum = omega (arith, so_far, sum_by_more len_of parts k d within)

    pub next_fits : written + next.len ≤ length bytes
    next_fits = omega (arith, so_far, sum, sum_by_more_le len_of parts k d within)

    next_cut : chunk_of bytes written next.len ≡ take next.len (drop written bytes)
    next_cut = ap (λ (n : ℕ). take n (drop written bytes)) (let e : written + next.len - written ≡ next.len = omega arith in e)

    pub next_size : length (chunk_of bytes written next.len) ≡ next.len
    next_size = ap length next_cut ∙ length-take-le next.len (drop written bytes) (omega (arith, next_fits, length-drop written bytes))

    next_place : part_start files next ≡ at + written
    next_place =
        part_place files at (length bytes) k next (ap (λ (l : List Part). slice_get l k) (sym is_slice) ∙ slice_get-get_or parts k d within)
        ∙ ap (λ (l : List Part). at + sum_by len_of (take k l)) (sym is_slice)
        ∙ ap (λ (n : ℕ). at + n) (sym so_far)

    pub next_torn : (a b c : Files) → TornSlice dir files at written a b → TornSlice dir files (part_start files next) (length (chunk_of bytes written next.len)) b c → TornSlice dir files at (written + next.len) a c
    next_torn a b c first step =
        torn_on files at written next.len a b c first
        (subst (λ (place : ℕ). TornSlice dir files place next.len b c) next_place (subst (λ (m : ℕ). TornSlice dir files (part_start files next) m b c) next_size step))

    pub next_written : (a b c : Files) → at + length bytes ≤ total_of files → HasFiles dir files a → TornSlice dir files at written a b
        → (HasFiles dir files a → payload_in dir files b ≡ replaced (payload_in dir files a) at (take written bytes))
        → (HasFiles dir files b → payload_in dir files c ≡ replaced (payload_in dir files b) (part_start files next) (chunk_of bytes written next.len))
        → payload_in dir files c ≡ replaced (payload_in dir files a) at (take (written + next.len) bytes)
    next_written a b c room has torn was made =
        written_more (payload_in dir files a) (payload_in dir files b) (payload_in dir files c) bytes (chunk_of bytes written next.len) at written next.len next_fits (omega (arith, room, payload_len dir files a has))
        (was has) next_cut (made (torn.standing has) ∙ ap (λ (place : ℕ). replaced (payload_in dir files b) place (chunk_of bytes written next.len)) next_place)

  -- all of the bytes stand there
  pub held_all : (files : List FileLen) (at written : ℕ) (bytes now : List ℕ) (a : Files) → at + length bytes ≤ total_of files → length bytes ≤ written → HasFiles dir files a
      → now ≡ replaced (payload_in dir files a) at (take written bytes) → part_at now at (length bytes) ≡ bytes
  held_all files at written bytes now a room all has made =
      ap (λ (l : List ℕ). part_at l at (length bytes)) (made ∙ ap (replaced (payload_in dir files a) at) (take_all written bytes all))
      ∙ part_at_replaced (payload_in dir files a) at bytes (omega (arith, room, payload_len dir files a has))
