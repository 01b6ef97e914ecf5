-- Which files members name, by how far they reach.
use Rattle.std.proofs.Common.{◌≡◌, ◌⊎◌, ◌∙◌, ◌+◌, ◌<◌, ◌≤◌, ◌≢◌, ◌&&◌, ℕ, Bool, true, false, Some, List, [], ◌∷◌, ◌++◌, ⊎_elim, ap, sym, subst, inl, inr, length, max, map, take, arith, nat_le, get_or, get_or-set_same, get_or-set_other, Bor, All}
use Rattle.std.specs.List.{list_any}
use Rattle.std.proofs.lemmas.Bool.{cases_eq, cases_lt, le-leb, lt-leb, leb-true, and_parts, and_from, or_cases, or_left, or_right, false_from_ne_true}
use Rattle.std.proofs.lemmas.List.{length-set, length-map, get_or-map, map_more, take_all}
use Rattle.std.proofs.lemmas.List.Folds.{list_any-append}
use Rattle.std.specs.Ordering.{nat_cmp, ord_max}
use Rattle.std.proofs.lemmas.Bool.Decides.{nat_tests}
use Rattle.std.specs.Prelude.{slice_set}
use Rattle.option_set.specs.Files.{IsFileList, IsMember, NamesFiles, file_members, last_text}
use Rattle.option_set.specs.Numbers.{decimal_value}
use Rattle.file_choice.specs.Selected.{is_between, names_file}
use Rattle.file_choice.specs.Sweeps.{AreReaches, IsReached, IsFarthest}

-- ---- one more member

any_push : {X : Type 0} (p : X → Bool) (xs : List X) (y : X)
    → (list_any p xs ≡ true) ⊎ (p y ≡ true) → list_any p (xs ++ y ∷ []) ≡ true
any_push p xs y h =
    list_any-append p xs (y ∷ [])
    ∙ ⊎_elim (λ (some : list_any p xs ≡ true). or_left (list_any p xs) (list_any p (y ∷ [])) some)
    (λ (last : p y ≡ true). or_right (list_any p xs) (list_any p (y ∷ [])) (or_left (p y) false last)) h

any_push_cases : {X : Type 0} (p : X → Bool) (xs : List X) (y : X)
    → list_any p (xs ++ y ∷ []) ≡ true → (list_any p xs ≡ true) ⊎ (p y ≡ true)
any_push_cases p xs y h =
    ⊎_elim (λ (some : list_any p xs ≡ true). inl some)
    (λ (last : list_any p (y ∷ []) ≡ true). ⊎_elim (λ (is : p y ≡ true). inr is) (λ (no : false ≡ true). absurd (cc)) (or_cases (p y) false last))
    (or_cases (list_any p xs) (list_any p (y ∷ [])) (sym (list_any-append p xs (y ∷ [])) ∙ h))

-- what a member names
names_by : (member : List ℕ) (first last number : ℕ) → NamesFiles member first last
    → names_file number member ≡ (nat_le first number && nat_le number last)
names_by member first last number h =
    ap (λ o. is_between o (decimal_value (last_text member)) number) h.first_is
    ∙ ap (λ o. is_between (Some first) o number) h.last_is

names_within : (member : List ℕ) (first last number : ℕ) → NamesFiles member first last
    → first ≤ number → number ≤ last → names_file number member ≡ true
names_within member first last number h low high =
    names_by member first last number h
    ∙ and_from (nat_le first number) (nat_le number last) (le-leb first number low) (le-leb number last high)

within_named : (member : List ℕ) (first last number : ℕ) → NamesFiles member first last
    → names_file number member ≡ true → (first ≤ number) × (number ≤ last)
within_named member first last number h is =
    let both = and_parts (nat_le first number) (nat_le number last) (sym (names_by member first last number h) ∙ is) in
    (leb-true first number both.0, leb-true number last both.1)

-- a reach that isn't less
farther : (reach more : List ℕ) (places number : ℕ)
    → ((place : ℕ) → get_or reach place 0 ≤ get_or more place 0)
    → IsReached reach places number → IsReached more places number
farther reach more places number le h =
    let l : get_or reach h.place 0 ≤ get_or more h.place 0 = le h.place in
    record { place = h.place; before = h.before; far = omega arith }

raised : (reach : List ℕ) (first last place : ℕ) → first < length reach
    → get_or reach place 0 ≤ get_or (slice_set reach first (max (get_or reach first 0) last)) place 0
raised reach first last place within =
    ⊎_elim
    (λ (e : place ≡ first). subst (λ p. get_or reach p 0 ≤ get_or (slice_set reach first (max (get_or reach first 0) last)) p 0) (sym e)
    (let s = get_or-set_same reach first (max (get_or reach first 0) last) 0 within in omega (arith, s)))
    (λ (ne : place ≢ first). let s = get_or-set_other reach first place (max (get_or reach first 0) last) 0 ne in omega (arith, s))
    (cases_eq place first)

-- a member that begins among the files raises the reach of its first one
pub reaches_more : (members : List (List ℕ)) (files : ℕ) (reach : List ℕ) (member : List ℕ) (first last : ℕ)
    → AreReaches members files reach → NamesFiles member first last → first ≤ files
    → AreReaches (members ++ member ∷ []) files (slice_set reach first (max (get_or reach first 0) last))
reaches_more members files reach member first last h m le =
    let value = max (get_or reach first 0) last in
    let within : first < length reach = omega (arith, h.long) in
    let same : get_or (slice_set reach first value) first 0 ≡ value = get_or-set_same reach first value 0 within in
    record {
      long = length-set reach first value ∙ h.long;
      none = let ne : 0 ≢ first = (let s = m.some in omega arith) in get_or-set_other reach first 0 value 0 ne ∙ h.none;
      named = λ place number low high some. any_push (names_file number) members member
          (⊎_elim
          (λ (e : place ≡ first).
          let top : number ≤ value = (let f : get_or (slice_set reach first value) place 0 ≡ value = ap (λ p. get_or (slice_set reach first value) p 0) e ∙ same in omega arith) in
          ⊎_elim
          (λ (new : number ≤ last). inr (names_within member first last number m (omega arith) new))
          (λ (old : last < number). inl (h.named first number (omega arith) (omega arith) some))
          (⊎_elim (λ (a : last < number). inr a) (λ (b : number ≤ last). inl b) (cases_lt last number)))
          (λ (ne : place ≢ first).
          let s = get_or-set_other reach first place value 0 ne in
          inl (h.named place number low (omega (arith, s)) some))
          (cases_eq place first));
      reached = λ number below is.
          ⊎_elim
          (λ (old : list_any (names_file number) members ≡ true).
          farther reach (slice_set reach first value) (number + 1) number
          (λ place. raised reach first last place within) (h.reached number below old))
          (λ (new : names_file number member ≡ true).
          let b = within_named member first last number m new in
          record { place = first; before = omega (arith, b.0); far = omega (arith, b.1, same) })
          (any_push_cases (names_file number) members member is);
    }

-- a member that begins behind the files names none of them
pub reaches_same : (members : List (List ℕ)) (files : ℕ) (reach : List ℕ) (member : List ℕ) (first last : ℕ)
    → AreReaches members files reach → NamesFiles member first last → files < first
    → AreReaches (members ++ member ∷ []) files reach
reaches_same members files reach member first last h m behind =
    record {
      long = h.long;
      none = h.none;
      named = λ place number low high some. any_push (names_file number) members member (inl (h.named place number low high some));
      reached = λ number below is.
          ⊎_elim
          (λ (old : list_any (names_file number) members ≡ true). h.reached number below old)
          (λ (new : names_file number member ≡ true). let b = within_named member first last number m new in absurd (omega (arith, b.0)))
          (any_push_cases (names_file number) members member is);
    }

-- ---- the sweep over the files

pub farthest_first : (members : List (List ℕ)) (files : ℕ) (reach : List ℕ) → AreReaches members files reach
    → IsFarthest reach 1 0
farthest_first members files reach h =
    record {
      most = λ place below. let e : get_or reach place 0 ≡ 0 = (let z : place ≡ 0 = omega arith in ap (λ p. get_or reach p 0) z ∙ h.none) in omega arith;
      attained = λ some. absurd (omega arith);
    }

reached_later : (reach : List ℕ) (places number : ℕ) → IsReached reach places number
    → IsReached reach (places + 1) number
reached_later reach places number h = record { place = h.place; before = (let b = h.before in omega arith); far = h.far }

pub farthest_more : (reach : List ℕ) (places far : ℕ) → IsFarthest reach places far
    → IsFarthest reach (places + 1) (max far (get_or reach places 0))
farthest_more reach places far h =
    record {
      most = λ place below.
          ⊎_elim
          (λ (e : place ≡ places). let s : get_or reach place 0 ≡ get_or reach places 0 = ap (λ p. get_or reach p 0) e in omega arith)
          (λ (ne : place ≢ places). let m : get_or reach place 0 ≤ far = h.most place (omega arith) in omega arith)
          (cases_eq place places);
      attained = λ some.
          ⊎_elim
          (λ (old : get_or reach places 0 < far).
          let e : max far (get_or reach places 0) ≡ far = omega arith in
          subst (λ (n : ℕ). IsReached reach (places + 1) n) (sym e) (reached_later reach places far (h.attained (omega arith))))
          (λ (new : far ≤ get_or reach places 0).
          record { place = places; before = omega arith; far = omega arith })
          (cases_lt (get_or reach places 0) far);
    }

-- a file is named exactly where the farthest reach up to it isn't before it
pub named_by_reach : (members : List (List ℕ)) (files : ℕ) (reach : List ℕ) (number far : ℕ)
    → AreReaches members files reach → IsFarthest reach (number + 1) far → 1 ≤ number → number ≤ files
    → list_any (names_file number) members ≡ nat_le number far
named_by_reach members files reach number far h f some below =
    ⊎_elim
    (λ (short : far < number).
    false_from_ne_true (list_any (names_file number) members)
    (λ is. let r = h.reached number below is in
    let m : get_or reach r.place 0 ≤ far = f.most r.place r.before in
    let l : number ≤ get_or reach r.place 0 = r.far in omega arith)
    ∙ sym (lt-leb number far short))
    (λ (long : number ≤ far).
    let r = f.attained (omega arith) in
    let l : far ≤ get_or reach r.place 0 = r.far in
    let b : r.place < number + 1 = r.before in
    h.named r.place number (omega arith) (omega arith) some ∙ sym (le-leb number far long))
    (cases_lt far number)

-- ---- the loop over the members

-- a member of a list of files names some
pub is_member : (refs : List (Bor (List ℕ))) (text : List ℕ) (i : ℕ) (d : Bor (List ℕ)) → i < length refs
    → map (λ m. m.now) refs ≡ file_members text → IsFileList text → IsMember (get_or refs i d).now
is_member refs text i d within are all =
    let long : length (map (λ (m : Bor (List ℕ)). m.now) refs) ≡ length refs = length-map refs (λ m. m.now) in
    let here : IsMember (get_or (map (λ (m : Bor (List ℕ)). m.now) refs) i text) =
    subst (λ (ms : List (List ℕ)). All IsMember ms) (sym are) all i text (omega arith) in
    subst IsMember (get_or-map (λ (m : Bor (List ℕ)). m.now) refs i d text within) here

pub reaches_next : (refs : List (Bor (List ℕ))) (i files : ℕ) (d : Bor (List ℕ)) (reach : List ℕ) (first last : ℕ)
    → i < length refs → AreReaches (map (λ m. m.now) (take i refs)) files reach
    → NamesFiles (get_or refs i d).now first last → first ≤ files
    → AreReaches (map (λ m. m.now) (take (i + 1) refs)) files (slice_set reach first (max (get_or reach first 0) last))
reaches_next refs i files d reach first last within h m le =
    subst (λ (ms : List (List ℕ)). AreReaches ms files (slice_set reach first (max (get_or reach first 0) last)))
    (sym (map_more (λ (m : Bor (List ℕ)). m.now) refs i d within))
    (reaches_more (map (λ m. m.now) (take i refs)) files reach (get_or refs i d).now first last h m le)

pub reaches_past : (refs : List (Bor (List ℕ))) (i files : ℕ) (d : Bor (List ℕ)) (reach : List ℕ) (first last : ℕ)
    → i < length refs → AreReaches (map (λ m. m.now) (take i refs)) files reach
    → NamesFiles (get_or refs i d).now first last → files < first
    → AreReaches (map (λ m. m.now) (take (i + 1) refs)) files reach
reaches_past refs i files d reach first last within h m behind =
    subst (λ (ms : List (List ℕ)). AreReaches ms files reach)
    (sym (map_more (λ (m : Bor (List ℕ)). m.now) refs i d within))
    (reaches_same (map (λ m. m.now) (take i refs)) files reach (get_or refs i d).now first last h m behind)

pub reaches_all : (refs : List (Bor (List ℕ))) (text : List ℕ) (i files : ℕ) (reach : List ℕ)
    → length refs ≤ i → map (λ m. m.now) refs ≡ file_members text
    → AreReaches (map (λ m. m.now) (take i refs)) files reach → AreReaches (file_members text) files reach
reaches_all refs text i files reach past are h =
    subst (λ (ms : List (List ℕ)). AreReaches ms files reach)
    (ap (map (λ (m : Bor (List ℕ)). m.now)) (take_all i refs past) ∙ are) h

pub max_is : (a b : ℕ) → ord_max nat_cmp a b ≡ max a b
max_is a b = grind (arith, nat_tests)
