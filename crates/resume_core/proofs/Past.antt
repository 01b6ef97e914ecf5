-- Calls that change nothing, and read none of some files.
use Rattle.std.proofs.Common.{◌≢◌, ◌∙◌, ℕ, List, refl}
use Rattle.std.specs.Prelude.{Result}
use Rattle.dl_kinds.specs.declared.outside.IoErr.{IoErr}
use Rattle.dl_disk.specs.Calls.{Looks, LooksInto}
use Rattle.dl_disk.specs.Files.{IsSame}
use Rattle.dl_disk.specs.Passes.{passes_none, passes_more, passes_look, passes_look_into}
use Rattle.dl_disk.specs.State.{DiskState}
use Rattle.span_map.specs.declared.files.FileLen.{FileLen}
use Rattle.payload_files.specs.Names.{IsOther}
use Rattle.payload_files.specs.Reading.{ReadsOnly}
use Rattle.resume_core.specs.Openings.{LooksPast}

pub past_none : (passed : List ℕ → Type 0) (a : DiskState) → LooksPast passed a a
past_none passed a = record {
  stays = record { seen = λ name. refl; images = λ image left. left };
  passes = passes_none IsSame a (λ image name. refl);
  reads = λ name is. refl;
  folders = refl;
}

pub past_on : (passed : List ℕ → Type 0) (a b c : DiskState) → LooksPast passed a b → LooksPast passed b c
    → LooksPast passed a c
past_on passed a b c one two = record {
  stays = record {
    seen = λ name. two.stays.seen name ∙ one.stays.seen name;
    images = λ image left. one.stays.images image (two.stays.images image left);
  };
  passes = passes_more IsSame a b c (λ x y z f g name. g name ∙ f name) one.passes two.passes;
  reads = λ name is. two.reads name is ∙ one.reads name is;
  folders = two.folders ∙ one.folders;
}

pub past_fewer : (more fewer : List ℕ → Type 0) (a b : DiskState) → ((name : List ℕ) → fewer name → more name)
    → LooksPast more a b → LooksPast fewer a b
past_fewer more fewer a b are looks = record {
  stays = looks.stays;
  passes = looks.passes;
  reads = λ name is. looks.reads name (are name is);
  folders = looks.folders;
}

pub past_look : {T : Type 0} (passed : List ℕ → Type 0) (a b : DiskState) (result : Result T IoErr) → Looks a b result
    → LooksPast passed a b
past_look passed a b result looks = record {
  stays = looks.stays;
  passes = passes_look IsSame a b result (λ image name. refl) looks;
  reads = λ name is. looks.reads name;
  folders = looks.folders;
}

pub past_read : (name : List ℕ) (a b : DiskState) (result : Result (Unit {0}) IoErr) → LooksInto name a b result
    → LooksPast (λ other. other ≢ name) a b
past_read name a b result looks = record {
  stays = looks.stays;
  passes = passes_look_into IsSame name a b result (λ image other. refl) looks;
  reads = λ other differs. looks.reads.others other differs;
  folders = looks.folders;
}

pub past_files : (dir : List ℕ) (files : List FileLen) (a b : DiskState) → ReadsOnly dir files a b
    → LooksPast (IsOther dir files) a b
past_files dir files a b reads = record {
  stays = reads.stays;
  passes = reads.passes;
  reads = λ name other. reads.others name other;
  folders = reads.folders;
}
