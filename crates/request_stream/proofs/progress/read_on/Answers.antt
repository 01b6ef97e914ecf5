use Rattle.std.proofs.Common.{List, ℕ}
use Rattle.std.specs.Prelude.{IfSome, Option, Some, None}
use Rattle.request_stream.specs.Progress.{IsReadUpTo, IsUnfinishedAt}
use Rattle.request_stream.specs.declared.progress.RequestProgress.{RequestProgress}
use Rattle.request_stream.proofs.progress.read_on.Goals as goal

-- in the head the limit of the content is no matter
of_any_limit : (bytes : List ℕ) (progress : RequestProgress) (result : Option RequestProgress)
    → IfSome result (λ now. (most : ℕ) → IsUnfinishedAt most bytes now)
    → IfSome result (λ now. (most : ℕ) → IsReadUpTo most bytes progress → IsUnfinishedAt most bytes now)
of_any_limit bytes progress None h = tt
of_any_limit bytes progress (Some now) h = λ most known. h most

pub returns-in-InHead : goal.returns-in-InHead
returns-in-InHead c = of_any_limit c.args.bytes.now c.args.progress c.read_head_on.result c.read_head_on.ensures
