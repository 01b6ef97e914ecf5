use Rattle.std.proofs.Common.{◌≡◌, List, ℕ, refl, subst}
use Rattle.http_heads.specs.Heads.{IfWhole, IsHead, IsUnfinished, IsNoHead}
use Rattle.http_heads.specs.declared.head.Head.{Head}
use Rattle.http_heads.specs.declared.head.HeadRead.{HeadRead}
use Rattle.http_heads.specs.declared.head.HeadRead.TheVariants.{Whole, More, Bad, NoMemory}
use Rattle.reply_reader.proofs.HeadsKept.{passes, too_many, no_head_behind}
use Rattle.reply_reader.proofs.heads.HeadReader.read_on.Goals as goal

unless_whole : (P : Head → ℕ → Type 0) (read : HeadRead) → ((head : Head) (used : ℕ) → read ≡ Whole head used → ⊥) → IfWhole read P
unless_whole P (Whole head used) none = absurd (none head used refl)
unless_whole P More none = tt
unless_whole P Bad none = tt
unless_whole P NoMemory none = tt

pub returns-then-self-ge-INTERIM_LIMIT-clause-bad : goal.returns-then-self-ge-INTERIM_LIMIT-clause-bad
returns-then-self-ge-INTERIM_LIMIT-clause-bad c is received was =
    too_many received c.turns.self c.in-Whole.head c.in-Whole.used
    (subst (λ (l : List ℕ). IsHead l c.in-Whole.head c.in-Whole.used) c.deref.ensures.value c.in-Whole.ensures.whole)
    (cc) c.if-self-ge-INTERIM_LIMIT.true (c.turns.invariant.behind received was)

pub turns-preserved : goal.turns-preserved
turns-preserved c = record {
  behind = λ received was.
      passes received c.turns.self _ c.in-Whole.head c.in-Whole.used
      (subst (λ (l : List ℕ). IsHead l c.in-Whole.head c.in-Whole.used) c.deref.ensures.value c.in-Whole.ensures.whole)
      (cc) c.if-self-ge-INTERIM_LIMIT.false refl c.drop_front.ensures (c.turns.invariant.behind received was);
  line = c.turns.invariant.line;
}

pub returns-then-not-is_interim-clause-line : goal.returns-then-not-is_interim-clause-line
returns-then-not-is_interim-clause-line c = c.turns.invariant.line

pub returns-then-self-ge-INTERIM_LIMIT-clause-line : goal.returns-then-self-ge-INTERIM_LIMIT-clause-line
returns-then-self-ge-INTERIM_LIMIT-clause-line c = c.turns.invariant.line

pub returns-in_default-clause-line : goal.returns-in_default-clause-line
returns-in_default-clause-line c = c.turns.invariant.line

pub returns-in_default-clause-whole : goal.returns-in_default-clause-whole
returns-in_default-clause-whole c = unless_whole _ c.read_head.result c.in_default.not-Whole

pub returns-in_default-clause-last : goal.returns-in_default-clause-last
returns-in_default-clause-last c = unless_whole _ c.read_head.result c.in_default.not-Whole

pub returns-in_default-clause-more : goal.returns-in_default-clause-more
returns-in_default-clause-more c is = subst IsUnfinished c.deref.ensures.value (c.read_head.ensures.more is)

pub returns-in_default-clause-bad : goal.returns-in_default-clause-bad
returns-in_default-clause-bad c is received was =
    no_head_behind received c.turns.self (subst IsNoHead c.deref.ensures.value (c.read_head.ensures.bad is)) (c.turns.invariant.behind received was)
