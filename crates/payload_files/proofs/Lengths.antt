-- The files get their lengths, one after the other.
use Rattle.std.proofs.Common.{◌≡◌, ◌≢◌, ◌∙◌, ap, sym, subst, ℕ, ◌+◌, ◌-◌, ◌<◌, ◌≤◌, List, [], ◌∷◌, length, take, replicate, get_or, Option, None, Some, arith, refl, inr, ⊎_elim, length-append, length-take, slice_get, IsSomeAnd}
use Rattle.std.proofs.lemmas.List.{get_or-take, length-replicate}
use Rattle.std.proofs.lemmas.List.Elements.{All-head, All-cons, All-nil, All-more, All-take}
use Rattle.std.proofs.lemmas.Bool.{cases_lt}
use Rattle.std.proofs.lemmas.Option.{slice_get-get_or}
use Rattle.dl_disk.specs.Passes.{Performs, performs_more, performs_wider}
use Rattle.dl_disk.specs.State.{DiskState}
use Rattle.dl_disk.specs.Files.{Files, IsSame, file_bytes, lengthened, resized, Stretched, MayMake, TornResize, IsResized}
use Rattle.span_map.specs.Layout.{IsLayout}
use Rattle.span_map.specs.declared.files.FileLen.{FileLen}
use Rattle.payload_files.specs.Names.{name_of}
use Rattle.payload_files.specs.Payload.{HasFiles, HasLength, AreResized}
use Rattle.payload_files.specs.Changes.{AreSameBeside, LeavesFit, LeavesFitting, SameAt, Stretches}
use Rattle.payload_files.proofs.FileNames.{names_differ}
use Rattle.payload_files.proofs.Keeping.{front_apart, file_apart}

length-resized : (old : List ℕ) (len : ℕ) → length (resized old len) ≡ len
length-resized old len = omega (arith, length-take len (lengthened old len), length-append old (replicate (len - length old) 0), length-replicate {A = ℕ} (len - length old) 0)

-- what a change of the length may do to a file that has it already
pub stretched_none : (len : ℕ) (file : Option (List ℕ)) → MayMake (Stretched len) file file
stretched_none len None = tt
stretched_none len (Some old) = record { same = λ i in_old in_new. refl; least = inr (omega arith); most = omega arith }

-- a change of the length behind calls that change nothing
pub resize_none : (name : List ℕ) (len : ℕ) (x y : Files) → IsSame x y → TornResize name len x y
resize_none name len x y same = record {
  here = subst (MayMake (Stretched len) (x name)) (sym (same name)) (stretched_none len (x name));
  others = λ other differs. same other;
}

pub resize_behind : (name : List ℕ) (len : ℕ) (x y z : Files) → IsSame x y → TornResize name len y z → TornResize name len x z
resize_behind name len x y z same torn = record {
  here = subst (λ (it : Option (List ℕ)). MayMake (Stretched len) it (z name)) (same name) torn.here;
  others = λ other differs. torn.others other differs ∙ same other;
}

stays_at : (name : List ℕ) (a b c : DiskState) → Performs (SameAt name) a b → Performs (SameAt name) b c
    → Performs (SameAt name) a c
stays_at name a b c = performs_more (SameAt name) a b c (λ x y z one two. two ∙ one)

module _ (dir : List ℕ) where
  -- resized files have their lengths
  pub has_resized : (files : List FileLen) (old new : Files) → AreResized dir files old new → HasFiles dir files new
  has_resized files old new sized k d within =
      let file = get_or files k d in
      subst (λ (it : Option (List ℕ)). IsSomeAnd it (λ (bytes : List ℕ). length bytes ≡ file.len)) (sym (sized k d within)) (length-resized (file_bytes (old (name_of dir file.path))) file.len)

  -- no file changes
  pub stretches_none : (files : List FileLen) (a : Files) → Stretches dir files a a
  stretches_none files a = record { others = λ name other. refl; each = λ k d within. stretched_none (get_or files k d).len (a (name_of dir (get_or files k d).path)) }

  -- the length of one file changes
  pub stretches_one : (file : FileLen) (a b : Files) → TornResize (name_of dir file.path) file.len a b → Stretches dir (file ∷ []) a b
  stretches_one file a b torn = record {
    others = λ name other. torn.others name (λ same. All-head (λ (f : FileLen). name_of dir f.path ≢ name) file [] other (sym same));
    each = All-cons (λ (f : FileLen). MayMake (Stretched f.len) (a (name_of dir f.path)) (b (name_of dir f.path))) file [] torn.here
        (All-nil (λ (f : FileLen). MayMake (Stretched f.len) (a (name_of dir f.path)) (b (name_of dir f.path))));
  }

  pub alone_one : (file : FileLen) (a b : DiskState)
      → (HasLength file.len (a.seen (name_of dir file.path)) → Performs IsSame a b) → LeavesFitting dir (file ∷ []) a b
  alone_one file a b alone =
      let P : FileLen → Type 0 = λ f. LeavesFit (name_of dir f.path) f.len a b in
      let name = name_of dir file.path in
      All-cons P file [] (λ has. performs_wider IsSame (SameAt name) a b (λ x y same. same name) (alone has))
      (All-nil P)

  pub resized_one : (file : FileLen) (a b : Files) → IsResized (name_of dir file.path) file.len a b → AreResized dir (file ∷ []) a b
  resized_one file a b is =
      All-cons (λ (f : FileLen). b (name_of dir f.path) ≡ Some (resized (file_bytes (a (name_of dir f.path))) f.len)) file [] is
      (All-nil (λ (f : FileLen). b (name_of dir f.path) ≡ Some (resized (file_bytes (a (name_of dir f.path))) f.len)))

  module _ (files : List FileLen) (layout : IsLayout files) (k : ℕ) (file : FileLen) (within : k < length files) (is : file ≡ get_or files k file) where
    at_k : slice_get files k ≡ Some file
    at_k = slice_get-get_or files k file within ∙ ap (λ (f : FileLen). Some f) (sym is)

    -- a file before it has another name
    before_apart : (j : ℕ) (d : FileLen) → j < length (take k files) → name_of dir (get_or (take k files) j d).path ≢ name_of dir file.path
    before_apart j d inside =
        let before : j < k = omega (arith, inside, length-take k files) in
        names_differ dir files j k (get_or (take k files) j d) file layout (λ same. absurd (omega (arith, same, before)))
        (slice_get-get_or files j d (omega (arith, before, within)) ∙ ap (λ (f : FileLen). Some f) (sym (get_or-take k files j d before))) at_k

    -- What each file before it was to what it is, and this file to what it is after its change, holds of all of them, since
    -- no change touches another file.
    each_more : (R : FileLen → Option (List ℕ) → Option (List ℕ) → Type 0) (a b c : Files)
        → ((j : ℕ) (d : FileLen) → j < length (take k files) → R (get_or (take k files) j d) (a (name_of dir (get_or (take k files) j d).path)) (b (name_of dir (get_or (take k files) j d).path)))
        → AreSameBeside dir (take k files) a b
        → R file (b (name_of dir file.path)) (c (name_of dir file.path)) → AreSameBeside dir (file ∷ []) b c
        → (j : ℕ) (d : FileLen) → j < length (take (k + 1) files) → R (get_or (take (k + 1) files) j d) (a (name_of dir (get_or (take (k + 1) files) j d).path)) (c (name_of dir (get_or (take (k + 1) files) j d).path))
    each_more R a b c front beside_front one beside_one =
        let P : FileLen → Type 0 = λ f. R f (a (name_of dir f.path)) (c (name_of dir f.path)) in
        let was : b (name_of dir file.path) ≡ a (name_of dir file.path) = beside_front (name_of dir file.path) before_apart in
        All-more P files k file within
        (λ j d inside. let f = get_or (take k files) j d in
        subst (R f (a (name_of dir f.path)))
        (sym (beside_one (name_of dir f.path) (All-cons (λ (g : FileLen). name_of dir g.path ≢ name_of dir f.path) file [] (λ same. before_apart j d inside (sym same)) (All-nil (λ (g : FileLen). name_of dir g.path ≢ name_of dir f.path)))))
        (front j d inside))
        (subst P is (subst (λ (it : Option (List ℕ)). R file it (c (name_of dir file.path))) was one))

    pub resized_more : (a b c : Files) → AreResized dir (take k files) a b → AreSameBeside dir (take k files) a b → AreResized dir (file ∷ []) b c → AreSameBeside dir (file ∷ []) b c
        → AreResized dir (take (k + 1) files) a c
    resized_more a b c front beside_front one beside_one =
        each_more (λ f was now. now ≡ Some (resized (file_bytes was) f.len)) a b c front beside_front
        (All-head (λ (f : FileLen). c (name_of dir f.path) ≡ Some (resized (file_bytes (b (name_of dir f.path))) f.len)) file [] one) beside_one

    pub stretches_more : (a b c : Files) → Stretches dir (take k files) a b → Stretches dir (file ∷ []) b c → Stretches dir (take (k + 1) files) a c
    stretches_more a b c front one = record {
      others = λ name other. one.others name (file_apart dir files k file within is name other) ∙ front.others name (front_apart dir files k file within is name other);
      each = each_more (λ f was now. MayMake (Stretched f.len) was now) a b c front.each front.others
          (All-head (λ (f : FileLen). MayMake (Stretched f.len) (b (name_of dir f.path)) (c (name_of dir f.path))) file [] one.each) one.others;
    }

    -- a file that had its length was left alone, before and in the change of this one
    pub alone_more : (a b c : DiskState) → Performs (Stretches dir (take k files)) a b
        → Performs (Stretches dir (file ∷ [])) b c → LeavesFitting dir (take k files) a b
        → LeavesFitting dir (file ∷ []) b c → LeavesFitting dir (take (k + 1) files) a c
    alone_more a b c first second front one =
        let P : FileLen → Type 0 = λ f. LeavesFit (name_of dir f.path) f.len a c in
        let Q : FileLen → Type 0 = λ f. LeavesFit (name_of dir f.path) f.len b c in
        All-more P files k file within
        (λ j d inside has. let name = name_of dir (get_or (take k files) j d).path in
        let Other : FileLen → Type 0 = λ g. name_of dir g.path ≢ name in
        let apart = All-cons Other file [] (λ same. before_apart j d inside (sym same)) (All-nil Other) in
        stays_at name a b c (front j d inside has)
        (performs_wider (Stretches dir (file ∷ [])) (SameAt name) b c (λ x y change. change.others name apart) second))
        (subst P is (λ has. let name = name_of dir file.path in
        let before = performs_wider (Stretches dir (take k files)) (SameAt name) a b
        (λ x y change. change.others name before_apart) first in
        stays_at name a b c before (All-head Q file [] one (subst (HasLength file.len) (sym before.seen) has))))

  -- a file behind the first ones has another name than each of them
  behind_apart : (files : List FileLen) (layout : IsLayout files) (n j : ℕ) (d : FileLen) → j < length files → n ≤ j
      → (i : ℕ) (e : FileLen) → i < length (take n files)
      → name_of dir (get_or (take n files) i e).path ≢ name_of dir (get_or files j d).path
  behind_apart files layout n j d within behind i e inside =
      let before : i < n = omega (arith, inside, length-take n files) in
      names_differ dir files i j (get_or (take n files) i e) (get_or files j d) layout
      (λ same. absurd (omega (arith, same, before, behind)))
      (slice_get-get_or files i e (omega (arith, before, within, behind))
      ∙ ap (λ (f : FileLen). Some f) (sym (get_or-take n files i e before)))
      (slice_get-get_or files j d within)

  -- what the first files do, all do: those behind them stay as they are
  pub stretches_of_front : (files : List FileLen) (layout : IsLayout files) (n : ℕ) (a b : Files) → Stretches dir (take n files) a b → Stretches dir files a b
  stretches_of_front files layout n a b front = record {
    others = λ name other. front.others name (All-take (λ (f : FileLen). name_of dir f.path ≢ name) n files other);
    each = λ j d within. ⊎_elim
        (λ (before : j < n).
        let same : get_or (take n files) j d ≡ get_or files j d = get_or-take n files j d before in
        subst (λ (f : FileLen). MayMake (Stretched f.len) (a (name_of dir f.path)) (b (name_of dir f.path))) same (front.each j d (omega (arith, before, within, length-take n files))))
        (λ (behind : n ≤ j).
        let file = get_or files j d in
        let name = name_of dir file.path in
        subst (MayMake (Stretched file.len) (a name))
        (sym (front.others name (behind_apart files layout n j d within behind))) (stretched_none file.len (a name)))
        (cases_lt j n);
  }

  pub alone_of_front : (files : List FileLen) (layout : IsLayout files) (n : ℕ) (a b : DiskState)
      → Performs (Stretches dir (take n files)) a b → LeavesFitting dir (take n files) a b → LeavesFitting dir files a b
  alone_of_front files layout n a b change front j d within = ⊎_elim
      (λ (before : j < n).
      let same : get_or (take n files) j d ≡ get_or files j d = get_or-take n files j d before in
      subst (λ (f : FileLen). LeavesFit (name_of dir f.path) f.len a b) same
      (front j d (omega (arith, before, within, length-take n files))))
      (λ (behind : n ≤ j) has. let name = name_of dir (get_or files j d).path in
      performs_wider (Stretches dir (take n files)) (SameAt name) a b
      (λ x y stretched. stretched.others name (behind_apart files layout n j d within behind)) change)
      (cases_lt j n)
