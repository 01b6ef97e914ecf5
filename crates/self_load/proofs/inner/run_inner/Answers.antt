use Rattle.std.proofs.Common.{◌++◌, ⊎_elim, ◌∙◌, ap, arith, inl, inr, map, refl, string_bytes, subst}
use Rattle.std.specs.Prelude.{codes}
use Rattle.load_setup.specs.Disk.{IsLoadDisk}
use Rattle.load_setup.specs.Payload.{digests_of}
use Rattle.load_setup.specs.Links.{load_content}
use Rattle.load_setup.specs.Sound.{inner_disk}
use Rattle.self_load.proofs.Comes.{comes_well, full_alone, no_control}
use Rattle.self_load.proofs.Links.{links_content}
use Rattle.self_load.proofs.Pieces.{starts_sound}
use Rattle.self_load.proofs.Run.{ends_so}
use Rattle.self_load.proofs.inner.run_inner.Goals as goal

pub returns-clause-run : goal.returns-clause-run
returns-clause-run g c = record {
  words = _;
  words_are = ap (map string_bytes) c.deref.ensures.value ∙ c.in_ok-words.ensures;
  disk = c.in_ok-disk.disk;
  disk_is = subst (λ digests. IsLoadDisk digests c.in_ok-disk.disk) c.requires c.in_ok-disk.ensures;
  olds = c.in_ok-links.links.items;
  olds_are = c.in_ok-links.ensures;
  none = c.new-doors.result.items;
  none_are = c.new-doors.ensures.items;
  sink = _;
  shown = _;
  does = c.run_shared.ensures.does;
}

pub returns-clause-ends : goal.returns-clause-ends
returns-clause-ends g c =
    let stands = subst (λ digests. IsLoadDisk digests c.in_ok-disk.disk) c.requires c.in_ok-disk.ensures in
    let ends = ends_so c.args.n c.run_shared.ensures.over (record {
      laws = record {
        stay = c.downloads_stay.ensures.downloads;
        parts = c.downloads_are_legal.ensures;
        ends = c.lone_downloads_end_well.ensures.ends;
        alone = c.lone_downloads_end_well.ensures.alone;
      };
      words_name = c.words_name_load.ensures;
      files_say = c.metainfo_files_say_payloads.ensures.said;
      right = c.disks_keep_runs.ensures.complete;
      tells = refl;
      words_are = ap (map string_bytes) c.deref.ensures.value ∙ c.in_ok-words.ensures;
      file = stands.seen (codes "load.torrent");
      sound = starts_sound (digests_of c.args.n) (inner_disk c.in_ok-disk.disk) stands;
    }) in
    let comes = comes_well _ c.args.n (c.run_shared.ensures.completes refl refl) (record {
      words_name = c.words_name_load.ensures;
      files_say = c.metainfo_files_say_payloads.ensures.said;
      files_read = c.metainfo_files_say_payloads.ensures.read;
      words_are = ap (map string_bytes) c.deref.ensures.value ∙ c.in_ok-words.ensures;
      file = stands.seen (codes "load.torrent");
      fresh = λ name. stands.seen (name ++ codes ".aria2") ∙ no_control _ name;
      content = λ place old at.
          links_content c.args.n 0 c.in_ok-links.links.items c.in_ok-links.ensures.1 place old at
          ∙ ap (load_content c.args.n) (omega arith);
    }) (record {
      of_disk = (refl, omega arith);
      of_output = (refl, omega arith);
      of_links = λ place old new was is. (refl, omega arith);
    }) in
    record {
      complete = ends.complete;
      done = λ told. ⊎_elim inl (λ more. ⊎_elim inr (λ sunk. absurd (let never = sunk.1 in omega (arith, never))) more)
          (ends.done told);
      whole = ends.right;
      otherwise = ⊎_elim (λ done. inl done.0)
          (λ more. ⊎_elim (λ starved. inr (inl starved))
          (λ short. inr (inr (short.unfinished, full_alone _ short.cut.came short.cut.why))) more) comes;
    }
