use Rattle.std.proofs.Common.{◌≡◌, length, take, arith, subst}
use Rattle.std.proofs.lemmas.List.Elements.{All-more}
use Rattle.std.specs.List.{All}
use Rattle.span_map.specs.Paths.{IsPath}
use Rattle.span_map.specs.declared.files.FileLen.{FileLen}
use Rattle.span_map.proofs.paths.valid_len.Goals as goal

pub loop-count-preserved : goal.loop-count-preserved
loop-count-preserved c =
    All-more (λ file. IsPath file.path) c.args.files.now c.loop-count.count c.index-files-count.result c.loop-count-test.true c.loop-count.invariant
    (subst (λ (file : FileLen). IsPath file.path) c.index-files-count.is (c.is_path.ensures.0 c.if-not-is_path.false))

pub returns-clause-valid : goal.returns-clause-valid
returns-clause-valid c =
    let whole : c.loop-count.count ≡ length c.args.files.now = omega arith in
    subst (λ n. All (λ file. IsPath file.path) (take n c.args.files.now)) whole c.loop-count.invariant
