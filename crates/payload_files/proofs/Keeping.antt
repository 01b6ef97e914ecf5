-- What stays over several calls.
use Rattle.std.proofs.Common.{◌≡◌, ◌≢◌, ◌∙◌, sym, subst, ap, ℕ, ◌+◌, ◌<◌, List, [], ◌∷◌, ◌++◌, map, take, get_or, length, length-take, append_assoc, Option, None, Some, ⊎_elim, refl, arith}
use Rattle.std.proofs.lemmas.List.{take-take, get_or-take, get_or-map, length-map}
use Rattle.std.proofs.lemmas.List.Elements.{All-append, All-cons, All-nil, All-take, All-more, Contains-append_right, Contains-get_or}
use Rattle.std.proofs.lemmas.Option.{IfSome_then}
use Rattle.std.specs.Prelude.{IfSome, IsSomeAnd, Contains}
use Rattle.dl_disk.specs.Calls.{Stays}
use Rattle.dl_disk.specs.Files.{Files, IsSame}
use Rattle.dl_disk.specs.Passes.{Performs, performs_more}
use Rattle.dl_disk.specs.State.{DiskState, IsDurable}
use Rattle.span_map.specs.declared.files.FileLen.{FileLen}
use Rattle.payload_files.specs.Names.{name_of, folder_of, IsFolderOf, IsOther, HasFolders, KeepsFolders, MakesAtMost, MakesFoldersOf}
use Rattle.payload_files.specs.Payload.{AreDurable}
use Rattle.payload_files.specs.Changes.{AreSameBeside}

-- ---- states

pub same_on : (a b c : DiskState) → Performs IsSame a b → Performs IsSame b c → Performs IsSame a c
same_on a b c = performs_more IsSame a b c (λ x y z one two name. two name ∙ one name)

pub stays_on : (a b c : DiskState) → Stays a b → Stays b c → Stays a c
stays_on a b c first second = record {
  seen = λ name. second.seen name ∙ first.seen name;
  images = λ image left. first.images image (second.images image left);
}

pub stays_none : (a : DiskState) → Stays a a
stays_none a = record { seen = λ name. refl; images = λ image left. left }

-- ---- one file more

module _ (dir : List ℕ) (files : List FileLen) (k : ℕ) (file : FileLen) (within : k < length files) (is : file ≡ get_or files k file) where
  pub front_apart : (name : List ℕ) → IsOther dir (take (k + 1) files) name → IsOther dir (take k files) name
  front_apart name other = subst (λ (l : List FileLen). IsOther dir l name) (take-take k (k + 1) files (omega arith)) (All-take (λ (f : FileLen). name_of dir f.path ≢ name) k (take (k + 1) files) other)

  pub file_apart : (name : List ℕ) → IsOther dir (take (k + 1) files) name → IsOther dir (file ∷ []) name
  file_apart name other =
      let last : get_or (take (k + 1) files) k file ≡ file = get_or-take (k + 1) files k file (omega arith) ∙ sym is in
      All-cons (λ (f : FileLen). name_of dir f.path ≢ name) file [] (subst (λ (f : FileLen). name_of dir f.path ≢ name) last (other k file (omega (arith, length-take (k + 1) files)))) (All-nil (λ (f : FileLen). name_of dir f.path ≢ name))

  -- it is durable, as those before it are
  pub durable_more : (a b : DiskState) → Stays a b → AreDurable dir (take k files) a → IsDurable (name_of dir file.path) b → AreDurable dir (take (k + 1) files) b
  durable_more a b stays durable synced image left =
      let P : FileLen → Type 0 = λ f. image (name_of dir f.path) ≡ b.seen (name_of dir f.path) in
      All-more P files k file within
      (λ j d inside. durable image (stays.images image left) j d inside ∙ sym (stays.seen (name_of dir (get_or (take k files) j d).path)))
      (subst P is (synced image left))

  -- its folder stands, as those before it do
  pub folders_more : (old new : List (List ℕ)) → KeepsFolders old new → HasFolders dir (take k files) old → IfSome (folder_of dir file.path) (Contains new) → HasFolders dir (take (k + 1) files) new
  folders_more old new stay front made =
      let P : FileLen → Type 0 = λ f. IfSome (folder_of dir f.path) (Contains new) in
      All-more P files k file within (λ j d inside. IfSome_then (folder_of dir (get_or (take k files) j d).path) (front j d inside) stay) (subst P is made)

-- the first files are files
pub beside_front : (dir : List ℕ) (files : List FileLen) (k : ℕ) (x y : Files) → AreSameBeside dir (take k files) x y → AreSameBeside dir files x y
beside_front dir files k x y same name other = same name (All-take (λ (f : FileLen). name_of dir f.path ≢ name) k files other)

-- ---- folders

pub contains_cons : (folders : List (List ℕ)) (first folder : List ℕ) → Contains folders folder → Contains (first ∷ folders) folder
contains_cons folders first folder has = Contains-append_right (first ∷ []) folders folder has

pub made_none : (dir : List ℕ) (files : List FileLen) (old new : List (List ℕ)) → new ≡ old
    → MakesFoldersOf dir files old new
made_none dir files old new same = record { made = []; is = same; named = All-nil (IsFolderOf dir files) }

module _ (dir : List ℕ) (files : List FileLen) (k : ℕ) (file : FileLen) (within : k < length files)
    (is : file ≡ get_or files k file) where
  abbrev folders : List (Option (List ℕ))
  folders = map (λ (f : FileLen). folder_of dir f.path) files

  folder_is : (folder : List ℕ) → folder_of dir file.path ≡ Some folder → IsFolderOf dir files folder
  folder_is folder named =
      let at : get_or folders k None ≡ Some folder =
      get_or-map (λ (f : FileLen). folder_of dir f.path) files k file None within
      ∙ ap (λ (f : FileLen). folder_of dir f.path) (sym is) ∙ named in
      let long = length-map files (λ (f : FileLen). folder_of dir f.path) in
      subst (Contains folders) at (Contains-get_or folders k None (omega (arith, within, long)))

  one_made : (o : Option (List ℕ)) (old new : List (List ℕ)) → o ≡ folder_of dir file.path
      → IsSomeAnd o (λ name. new ≡ name ∷ old) → MakesFoldersOf dir files old new
  one_made None old new same made = absurd made
  one_made (Some folder) old new same made = record {
    made = folder ∷ [];
    is = made;
    named = All-cons (IsFolderOf dir files) folder [] (folder_is folder (sym same)) (All-nil (IsFolderOf dir files));
  }

  -- the folder of one more file is made, where it isn't the last one
  pub made_more : (a b c : List (List ℕ)) → MakesFoldersOf dir files a b → MakesAtMost (folder_of dir file.path) b c
      → MakesFoldersOf dir files a c
  made_more a b c before one =
      let here : MakesFoldersOf dir files b c = ⊎_elim
      (λ same. made_none dir files b c same)
      (λ made. one_made (folder_of dir file.path) b c refl made) one in
      record {
        made = here.made ++ before.made;
        is = here.is ∙ ap (λ (l : List (List ℕ)). here.made ++ l) before.is
            ∙ sym (append_assoc here.made before.made a);
        named = All-append (IsFolderOf dir files) here.made before.made here.named before.named;
      }
