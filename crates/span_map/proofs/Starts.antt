-- Where files begin, and the files that a slice meets.
use Rattle.std.proofs.Common.{◌≡◌, ℕ, ◌+◌, ◌-◌, ◌<◌, ◌≤◌, List, [], ◌++◌, length, take, get_or, arith, sym, subst, ap, ◌∙◌, ⊎_elim}
use Rattle.std.specs.List.Sorted.{IsNonDecreasingBy}
use Rattle.std.proofs.lemmas.List.{take-take, get_or_default}
use Rattle.std.proofs.lemmas.List.Sums.{sum_by-take-le}
use Rattle.std.proofs.lemmas.Bool.{cases_lt}
use Rattle.span_map.specs.Layout.{total_of, AreStarts}
use Rattle.span_map.specs.Slices.{part_of, parts_from, slice_of}
use Rattle.span_map.specs.declared.files.FileLen.{FileLen}
use Rattle.span_map.specs.declared.files.Part.{Part}
use Rattle.span_map.proofs.Windows.{none_before, parts_more, parts_whole}

take_rises : (files : List FileLen) (i j : ℕ) → i ≤ j → total_of (take i files) ≤ total_of (take j files)
take_rises files i j below = subst (λ (l : List FileLen). total_of l ≤ total_of (take j files)) (take-take i j files below) (sum_by-take-le (λ (file : FileLen). file.len) (take j files) i)

pub rising : (files : List FileLen) (starts : List ℕ) → AreStarts files starts → IsNonDecreasingBy (λ x. x) starts
rising files starts are i j d below within =
    let here : get_or starts i d ≡ total_of (take i files) = get_or_default starts i d 0 (omega arith) ∙ are.each i (omega (arith, are.long)) in
    let there : get_or starts j d ≡ total_of (take j files) = get_or_default starts j d 0 within ∙ are.each j (omega (arith, are.long)) in
    omega (arith, here, there, take_rises files i j below)

-- the files before the last that begins at or before the slice end before it
pub front_before : (files : List FileLen) (starts : List ℕ) (at p : ℕ) → AreStarts files starts → p ≤ length starts → ((k : ℕ) → k < p → get_or starts k 0 ≤ at) → total_of (take (p - 1) files) ≤ at
front_before files starts at p are within upto =
    ⊎_elim
    (λ (none : p < 1). subst (λ k. total_of (take k files) ≤ at) (let e : 0 ≡ p - 1 = omega arith in e) (omega arith))
    (λ (some : 1 ≤ p). let last = upto (p - 1) (omega arith) in let e = are.each (p - 1) (omega (arith, are.long)) in omega (arith, last, e))
    (cases_lt p 1)

pub none_in_front : (files : List FileLen) (starts : List ℕ) (at end p : ℕ) → AreStarts files starts → p ≤ length starts → ((k : ℕ) → k < p → get_or starts k 0 ≤ at) → parts_from 0 0 (take (p - 1) files) at end ≡ []
none_in_front files starts at end p are within upto = none_before 0 0 at end (take (p - 1) files) (let b = front_before files starts at p are within upto in omega (arith, b))

-- from the first file on that begins at the slice's end or later, no file has a part
pub all_of_slice : (files : List FileLen) (starts : List ℕ) (at len until number : ℕ) → AreStarts files starts → until ≤ number → ((k : ℕ) → until ≤ k → k < length starts → at + len ≤ get_or starts k 0)
    → parts_from 0 0 (take number files) at (at + len) ≡ slice_of files at len
all_of_slice files starts at len until number are past from =
    parts_whole at (at + len) number files (λ below. let b = from number past (omega (arith, are.long, below)) in let e = are.each number below in omega (arith, b, e))

-- one file more, as a read of the files at its number shows it
pub slice_more : (files read : List FileLen) (starts : List ℕ) (at end number : ℕ) (d : FileLen) (part : List Part) → AreStarts files starts → number < length files → read ≡ files
    → part ≡ part_of number (get_or starts number 0) (get_or read number d).len at end
    → parts_from 0 0 (take number files) at end ++ part ≡ parts_from 0 0 (take (number + 1) files) at end
slice_more files read starts at end number d part are within same is =
    sym (parts_more at end number files d within
    ∙ ap (λ (l : List FileLen). parts_from 0 0 (take number files) at end ++ part_of number (total_of (take number files)) (get_or l number d).len at end) (sym same)
    ∙ ap (λ s. parts_from 0 0 (take number files) at end ++ part_of number s (get_or read number d).len at end) (sym (are.each number within))
    ∙ ap (λ l. parts_from 0 0 (take number files) at end ++ l) (sym is))

pub AreStarts-same : (files files' : List FileLen) (starts starts' : List ℕ) → AreStarts files starts → files ≡ files' → starts' ≡ starts → AreStarts files' starts'
AreStarts-same files files' starts starts' are p q = subst (λ (f : List FileLen). AreStarts f starts') p (subst (λ (s : List ℕ). AreStarts files s) (sym q) are)
