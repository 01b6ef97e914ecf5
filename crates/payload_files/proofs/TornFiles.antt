-- Each file by itself after a write of a slice that is cut short.
use Rattle.std.proofs.Common.{◌≡◌, ◌∙◌, ap, sym, subst, ℕ, ◌+◌, ◌≤◌, List, [], take, Option, Some, None, refl, arith, inl, inr, slice_get, ⊎_elim}
use Rattle.std.proofs.lemmas.Bool.{cases_eq}
use Rattle.std.proofs.lemmas.Option.{same_Some}
use Rattle.dl_disk.specs.Files.{Files, Torn, MayMake}
use Rattle.span_map.specs.Layout.{total_of}
use Rattle.span_map.specs.declared.files.FileLen.{FileLen}
use Rattle.payload_files.specs.Names.{name_of}
use Rattle.payload_files.specs.Changes.{TornFile, AreTorn}
use Rattle.payload_files.proofs.Contents.{OneChanges}

-- ---- one file

file_none : (start len at n : ℕ) (it : Option (List ℕ)) → MayMake (TornFile start len at n) it it
file_none start len at n None = tt
file_none start len at n (Some old) = record { same = λ i within outside. refl; no_shorter = omega arith; no_longer = omega arith }

bytes_on : (start len at n : ℕ) (a b c : List ℕ) → TornFile start len at n a b → TornFile start len at n b c → TornFile start len at n a c
bytes_on start len at n a b c one two = record {
  same = λ i within outside. two.same i (omega (arith, within, one.no_shorter)) outside ∙ one.same i within outside;
  no_shorter = omega (arith, one.no_shorter, two.no_shorter);
  no_longer = omega (arith, one.no_longer, two.no_longer);
}

file_on : (start len at n : ℕ) (a b c : Option (List ℕ)) → MayMake (TornFile start len at n) a b → MayMake (TornFile start len at n) b c → MayMake (TornFile start len at n) a c
file_on start len at n None None None one two = tt
file_on start len at n None None (Some z) one two = two
file_on start len at n None (Some y) None one two = absurd two
file_on start len at n None (Some y) (Some z) one two = bytes_on start len at n [] y z one two
file_on start len at n (Some x) None c one two = absurd one
file_on start len at n (Some x) (Some y) None one two = absurd two
file_on start len at n (Some x) (Some y) (Some z) one two = bytes_on start len at n x y z one two

bytes_wider : (start len at n wide most : ℕ) (a b : List ℕ) → wide ≤ at → at + n ≤ wide + most → TornFile start len at n a b → TornFile start len wide most a b
bytes_wider start len at n wide most a b low high torn = record {
  same = λ i within outside. torn.same i within (⊎_elim (λ before. inl (omega (arith, before, low))) (λ behind. inr (omega (arith, behind, high))) outside);
  no_shorter = torn.no_shorter;
  no_longer = torn.no_longer;
}

file_wider : (start len at n wide most : ℕ) (a b : Option (List ℕ)) → wide ≤ at → at + n ≤ wide + most → MayMake (TornFile start len at n) a b → MayMake (TornFile start len wide most) a b
file_wider start len at n wide most None None low high torn = tt
file_wider start len at n wide most None (Some y) low high torn = bytes_wider start len at n wide most [] y low high torn
file_wider start len at n wide most (Some x) None low high torn = absurd torn
file_wider start len at n wide most (Some x) (Some y) low high torn = bytes_wider start len at n wide most x y low high torn

-- a write to a file within its length
bytes_torn : (start len at n : ℕ) (a b : List ℕ) → at + n ≤ len → Torn at n a b → TornFile start len (start + at) n a b
bytes_torn start len at n a b room torn = record {
  same = λ i within outside. torn.same i within (⊎_elim (λ before. inl (omega (arith, before))) (λ behind. inr (omega (arith, behind))) outside);
  no_shorter = torn.no_shorter;
  no_longer = omega (arith, torn.no_longer, room);
}

file_torn : (start len at n : ℕ) (a b : Option (List ℕ)) → at + n ≤ len → MayMake (Torn at n) a b → MayMake (TornFile start len (start + at) n) a b
file_torn start len at n None None room torn = tt
file_torn start len at n None (Some y) room torn = bytes_torn start len at n [] y room torn
file_torn start len at n (Some x) None room torn = absurd torn
file_torn start len at n (Some x) (Some y) room torn = bytes_torn start len at n x y room torn

-- ---- all of them

module _ (dir : List ℕ) (files : List FileLen) where
  pub torn_each_none : (at n : ℕ) (a : Files) → AreTorn dir files at n a a
  torn_each_none at n a k file at_k = file_none (total_of (take k files)) file.len at n (a (name_of dir file.path))

  pub torn_each_on : (at n : ℕ) (a b c : Files) → AreTorn dir files at n a b → AreTorn dir files at n b c → AreTorn dir files at n a c
  torn_each_on at n a b c one two k file at_k =
      file_on (total_of (take k files)) file.len at n (a (name_of dir file.path)) (b (name_of dir file.path)) (c (name_of dir file.path)) (one k file at_k) (two k file at_k)

  pub torn_each_wider : (at n wide most : ℕ) (a b : Files) → wide ≤ at → at + n ≤ wide + most → AreTorn dir files at n a b → AreTorn dir files wide most a b
  torn_each_wider at n wide most a b low high torn k file at_k =
      file_wider (total_of (take k files)) file.len at n wide most (a (name_of dir file.path)) (b (name_of dir file.path)) low high (torn k file at_k)

  -- a write to the file of this number
  pub torn_each : (number at n : ℕ) (file : FileLen) (a b : Files) → slice_get files number ≡ Some file → at + n ≤ file.len
      → MayMake (Torn at n) (a (name_of dir file.path)) (b (name_of dir file.path)) → OneChanges dir files number a b → AreTorn dir files (total_of (take number files) + at) n a b
  torn_each number at n file a b at_file room torn others k other at_k = ⊎_elim
      (λ same.
      let is : file ≡ other = same_Some file other (sym at_file ∙ ap (slice_get files) (sym same) ∙ at_k) in
      rw (same, ← is) (file_torn (total_of (take number files)) file.len at n (a (name_of dir file.path)) (b (name_of dir file.path)) room torn))
      (λ differ.
      subst (MayMake (TornFile (total_of (take k files)) other.len (total_of (take number files) + at) n) (a (name_of dir other.path))) (sym (others k other at_k differ))
      (file_none (total_of (take k files)) other.len (total_of (take number files) + at) n (a (name_of dir other.path))))
      (cases_eq k number)
