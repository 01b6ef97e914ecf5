-- What a run starts with, and what it knows of a download from its adding on.
use Rattle.std.specs.Prelude.{ℕ, List}
use Rattle.dl_kinds.specs.declared.gid.Gid.{Gid}
use Rattle.metainfo.specs.declared.meta.Meta.{Meta}
use Rattle.option_set.specs.Values.{OptionValues}

pub record RunStart : Type 0 where
  pub gids : ℕ  -- what the gids of downloads are made from
  pub global : OptionValues  -- the global options
  pub doors : ℕ  -- how many doors the console has

-- what a download is of: a metainfo file, with more URIs, or URIs alone
pub data Subject : Type 0 where
  Listed : (meta : Meta) (uris : List (List ℕ)) → Subject
  Unlisted : (uris : List (List ℕ)) → Subject

pub record Download : Type 0 where
  pub gid : Gid
  pub subject : Subject
  pub options : OptionValues  -- those that it began with
