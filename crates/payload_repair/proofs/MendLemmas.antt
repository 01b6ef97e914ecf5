-- What writes may make of bytes: how it goes on, and which writes do so.
use Rattle.std.proofs.Common.{◌≡◌, ◌∙◌, sym, subst, ℕ, ◌+◌, ◌<◌, ◌≤◌, min, Bool, true, false, cond, List, [], length, Option, Some, None, refl, arith, inl, inr, ⊎_elim}
use Rattle.std.proofs.lemmas.Bool.{cases_lt, cases_Bool}
use Rattle.dl_disk.specs.Files.{Files, IsSame, Changes, MayMake, Torn, Stretched, TornWrite, TornResize, file_bytes}
use Rattle.payload_repair.specs.Mends.{Mends}

-- ---- one file that may be missing

pub make_wider : (R S : List ℕ → List ℕ → Type 0) (a b : Option (List ℕ)) → ((x y : List ℕ) → R x y → S x y) → MayMake R a b → MayMake S a b
make_wider R S None None wider made = tt
make_wider R S None (Some y) wider made = wider [] y made
make_wider R S (Some x) None wider made = made
make_wider R S (Some x) (Some y) wider made = wider x y made

make_on : (R S T : List ℕ → List ℕ → Type 0) (a b c : Option (List ℕ)) → ((x y : List ℕ) → S x y → T x y) → ((x y z : List ℕ) → R x y → S y z → T x z)
    → MayMake R a b → MayMake S b c → MayMake T a c
make_on R S T None None None alone on one two = tt
make_on R S T None None (Some z) alone on one two = alone [] z two
make_on R S T None (Some y) None alone on one two = absurd two
make_on R S T None (Some y) (Some z) alone on one two = on [] y z one two
make_on R S T (Some x) None c alone on one two = absurd one
make_on R S T (Some x) (Some y) None alone on one two = absurd two
make_on R S T (Some x) (Some y) (Some z) alone on one two = on x y z one two

make_none : (R : List ℕ → List ℕ → Type 0) (a : Option (List ℕ)) → ((x : List ℕ) → R x x) → MayMake R a a
make_none R None none = tt
make_none R (Some x) none = none x

-- ---- bytes

least : ℕ → Bool → List ℕ → ℕ
least len short old = cond short (min (length old) len) (length old)

module _ (len : ℕ) (short : Bool) where
  least_within : (old : List ℕ) → min (length old) len ≤ cond short (min (length old) len) (length old)
  least_within old = elim short as (λ b. min (length old) len ≤ cond b (min (length old) len) (length old)) [ true ↦ omega arith | false ↦ omega arith ]

  least_on : (a b : List ℕ) (n : ℕ) → cond short (min (length a) len) (length a) ≤ length b → cond short (min (length b) len) (length b) ≤ n
      → cond short (min (length a) len) (length a) ≤ n
  least_on a b n = elim short as (λ s. cond s (min (length a) len) (length a) ≤ length b → cond s (min (length b) len) (length b) ≤ n → cond s (min (length a) len) (length a) ≤ n) [
    | true ↦ λ one two. omega arith
    | false ↦ λ one two. omega arith
  ]

  least_self : (old : List ℕ) → cond short (min (length old) len) (length old) ≤ length old
  least_self old = elim short as (λ b. cond b (min (length old) len) (length old) ≤ length old) [ true ↦ omega arith | false ↦ omega arith ]

  pub mends_none : (W : ℕ → Type 0) (old : List ℕ) → Mends len short W old old
  mends_none W old = record { same = λ i in_old in_new none. refl; no_shorter = least_self old; no_longer = omega arith }

  pub mends_wider : (W V : ℕ → Type 0) (old new : List ℕ) → ((i : ℕ) → W i → V i) → Mends len short W old new → Mends len short V old new
  mends_wider W V old new wider mends = record {
    same = λ i in_old in_new none. mends.same i in_old in_new (λ is. none (wider i is));
    no_shorter = mends.no_shorter;
    no_longer = mends.no_longer;
  }

  pub mends_on : (W : ℕ → Type 0) (a b c : List ℕ) → Mends len short W a b → Mends len short W b c → Mends len short W a c
  mends_on W a b c one two = record {
    same = λ i in_a in_c none.
        let low = least_within a in
        let within : i < length b = ⊎_elim (λ (before : i < len). omega (arith, before, in_a, low, one.no_shorter))
        (λ (behind : len ≤ i). omega (arith, behind, in_c, two.no_longer)) (cases_lt i len) in
        two.same i within in_c none ∙ one.same i in_a within none;
    no_shorter = least_on a b (length c) one.no_shorter two.no_shorter;
    no_longer = omega (arith, one.no_longer, two.no_longer);
  }

  -- a write within what the file is to have
  pub torn_mends : (W : ℕ → Type 0) (at n : ℕ) (old new : List ℕ) → at + n ≤ len → ((i : ℕ) → at ≤ i → i < at + n → W i) → Torn at n old new → Mends len short W old new
  torn_mends W at n old new room touched torn = record {
    same = λ i in_old in_new none. torn.same i in_old (⊎_elim (λ before. inl before)
        (λ (behind : at ≤ i). ⊎_elim (λ (before : i < at + n). absurd (none (touched i behind before))) (λ past. inr past) (cases_lt i (at + n)))
        (cases_lt i at));
    no_shorter = let low = least_self old in omega (arith, low, torn.no_shorter);
    no_longer = omega (arith, torn.no_longer, room);
  }

-- a change of the length of a short file
pub stretched_mends : (len : ℕ) (W : ℕ → Type 0) (old new : List ℕ) → Stretched len old new → Mends len true W old new
stretched_mends len W old new stretched = record {
  same = λ i in_old in_new none. stretched.same i in_old in_new;
  no_shorter = ⊎_elim (λ (far : len ≤ length new). omega (arith, far)) (λ (all : length old ≤ length new). omega (arith, all)) stretched.least;
  no_longer = stretched.most;
}

-- ---- files

module _ (name : List ℕ) (len : ℕ) (short : Bool) where
  abbrev pub MendsFile : (ℕ → Type 0) → Files → Files → Type 0
  MendsFile W = Changes name (MayMake (Mends len short W))

  pub file_same : (W : ℕ → Type 0) (a b : Files) → IsSame a b → MendsFile W a b
  file_same W a b same = record {
    here = subst (MayMake (Mends len short W) (a name)) (sym (same name)) (make_none (Mends len short W) (a name) (mends_none len short W));
    others = λ other differs. same other;
  }

  pub file_none : (W : ℕ → Type 0) (a : Files) → MendsFile W a a
  file_none W a = file_same W a a (λ other. refl)

  pub file_wider : (W V : ℕ → Type 0) (a b : Files) → ((i : ℕ) → W i → V i) → MendsFile W a b → MendsFile V a b
  file_wider W V a b wider mends = record {
    here = make_wider (Mends len short W) (Mends len short V) (a name) (b name) (λ x y. mends_wider len short W V x y wider) mends.here;
    others = mends.others;
  }

  pub file_on : (W : ℕ → Type 0) (a b c : Files) → MendsFile W a b → MendsFile W b c → MendsFile W a c
  file_on W a b c one two = record {
    here = make_on (Mends len short W) (Mends len short W) (Mends len short W) (a name) (b name) (c name) (λ x y is. is) (mends_on len short W) one.here two.here;
    others = λ other differs. two.others other differs ∙ one.others other differs;
  }

  pub file_torn : (W : ℕ → Type 0) (at n : ℕ) (a b : Files) → at + n ≤ len → ((i : ℕ) → at ≤ i → i < at + n → W i) → TornWrite name at n a b → MendsFile W a b
  file_torn W at n a b room touched torn = record {
    here = make_wider (Torn at n) (Mends len short W) (a name) (b name) (λ x y. torn_mends len short W at n x y room touched) torn.here;
    others = torn.others;
  }

pub file_stretched : (name : List ℕ) (len : ℕ) (W : ℕ → Type 0) (a b : Files) → TornResize name len a b → MendsFile name len true W a b
file_stretched name len W a b torn = record {
  here = make_wider (Stretched len) (Mends len true W) (a name) (b name) (λ x y. stretched_mends len W x y) torn.here;
  others = torn.others;
}

-- writes within a part of the file, where none makes it shorter
part_mends : (end len : ℕ) (short : Bool) (W : ℕ → Type 0) (old new : List ℕ) → end ≤ len → Mends end false W old new → Mends len short W old new
part_mends end len short W old new within mends = record {
  same = mends.same;
  no_shorter = let low = least_self len short old in omega (arith, low, mends.no_shorter);
  no_longer = omega (arith, mends.no_longer, within);
}

pub file_part : (name : List ℕ) (end len : ℕ) (short : Bool) (W : ℕ → Type 0) (a b : Files) → end ≤ len → MendsFile name end false W a b → MendsFile name len short W a b
file_part name end len short W a b within mends = record {
  here = make_wider (Mends end false W) (Mends len short W) (a name) (b name) (λ x y. part_mends end len short W x y within) mends.here;
  others = mends.others;
}

-- ---- the bytes of a file that may be missing

pub mends_bytes : (len : ℕ) (short : Bool) (W : ℕ → Type 0) (a b : Option (List ℕ)) → MayMake (Mends len short W) a b → Mends len short W (file_bytes a) (file_bytes b)
mends_bytes len short W None None made = mends_none len short W []
mends_bytes len short W None (Some y) made = made
mends_bytes len short W (Some x) None made = absurd made
mends_bytes len short W (Some x) (Some y) made = made

-- a file that has its length has it still
pub still_long : (len : ℕ) (short : Bool) (W : ℕ → Type 0) (old new : List ℕ) → Mends len short W old new → len ≤ length old → len ≤ length new
still_long len short W old new mends within = let low = least_within len short old in omega (arith, low, mends.no_shorter, within)

-- bytes that a file had before its end, whether it was short or not
pub least_short : (len : ℕ) (short : Bool) (W : ℕ → Type 0) (old new : List ℕ) → Mends len short W old new → (n : ℕ) → n ≤ length old → (short ≡ true → n ≤ len) → n ≤ length new
least_short len short W old new mends n within lacks = ⊎_elim
    (λ (yes : short ≡ true). let low = least_within len short old in omega (arith, low, mends.no_shorter, within, lacks yes))
    (λ (no : short ≡ false). let low = subst (λ (s : Bool). cond s (min (length old) len) (length old) ≤ length new) no mends.no_shorter in omega (arith, low, within))
    (cases_Bool short)
