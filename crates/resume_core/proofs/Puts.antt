-- A file is put in the place of another, by way of a temporary one.
use Rattle.std.proofs.Common.{◌≡◌, ◌≢◌, inl, inr, ◌∙◌, sym, refl, ℕ, List, Some}
use Rattle.std.specs.Prelude.{Result}
use Rattle.dl_kinds.specs.declared.outside.IoErr.{IoErr}
use Rattle.dl_disk.specs.Calls.{Alters, IsTaken}
use Rattle.dl_disk.specs.Files.{Files, Moved, MayBe}
use Rattle.dl_disk.specs.Passes.{Performs, passes_alters, passes_on}
use Rattle.dl_disk.specs.State.{DiskState, IsDurable}
use Rattle.resume_core.specs.Steps.{SameBut, PutsOrKeeps}

module _ (temporary name bytes : List ℕ) (apart : temporary ≢ name) where
  puts_first : (x y : Files) → SameBut temporary x y → PutsOrKeeps temporary name bytes x y
  puts_first x y step = record {
    others = λ other from_temporary from_name. step other from_temporary;
    file = inl (step name (λ is. apart (sym is)));
  }

  puts_both : (x y z : Files) → y temporary ≡ Some bytes → SameBut temporary x y → MayBe (Moved temporary name) y z
      → PutsOrKeeps temporary name bytes x z
  puts_both x y z whole one (inl same) = record {
    others = λ other from_temporary from_name. same other ∙ one other from_temporary;
    file = inl (same name ∙ one name (λ is. apart (sym is)));
  }
  puts_both x y z whole one (inr moved) = record {
    others = λ other from_temporary from_name. moved.others other from_temporary from_name ∙ one other from_temporary;
    file = inr (moved.here ∙ whole);
  }

  -- only the temporary file was written
  pub performs_first : (a b : DiskState) → Performs (SameBut temporary) a b
      → Performs (PutsOrKeeps temporary name bytes) a b
  performs_first a b first = record {
    seen = puts_first a.seen b.seen first.seen;
    passes = record {
      later = first.passes.later;
      seen = first.passes.seen;
      left = first.passes.left;
      images = λ t image after before left. let from =
          first.passes.images t image after before left in (from.0, from.1, puts_first from.0 image from.2);
    };
    reads = first.reads;
  }

  module _ (a b c : DiskState) (result : Result (Unit {0}) IoErr) (first : Performs (SameBut temporary) a b)
      (written : b.seen temporary ≡ Some bytes) (durable : IsDurable temporary b)
      (alters : Alters (MayBe (Moved temporary name)) b c result) where
    pub performs_put : Performs (PutsOrKeeps temporary name bytes) a c
    performs_put = record {
      seen = puts_both a.seen b.seen c.seen written first.seen alters.seen;
      passes = passes_on (SameBut temporary) (MayBe (Moved temporary name))
          (PutsOrKeeps temporary name bytes) a b c puts_first
          (λ x y z left one two. puts_both x y z (durable y left ∙ written) one two)
          first.passes
          (passes_alters (MayBe (Moved temporary name)) b c result (λ image. inl (λ other. refl)) alters);
      reads = λ other. alters.reads other ∙ first.reads other;
    }

    pub put_durable : IsTaken (Moved temporary name) b c → IsDurable name c
    put_durable taken image left =
        let from = taken.images image left in
        from.2.here ∙ durable from.0 from.1 ∙ sym taken.seen.here
