-- What a metainfo file says is all that there is of it.
use Rattle.std.proofs.Common.{◌≡◌, ap}
use Rattle.blameless_mirrors.proofs.OneWant.{plans_same}
use Rattle.metainfo.specs.Info.{Info, info_of}
use Rattle.metainfo.specs.declared.meta.Meta.{Meta}

pub meta_one : (one other : Meta) → info_of one ≡ info_of other → one ≡ other
meta_one one other is =
    let plans = plans_same one.plan other.plan (ap (λ (i : Info). i.total) is) (ap (λ (i : Info). i.piece_len) is) in
    λ i. record {
      name = (is i).name;
      layout = (is i).files;
      plan = plans i;
      digests = (is i).digests;
      info_hash = (is i).info_hash;
      seeds = (is i).seeds;
    }
