-- One check of a payload: what it was given, and what came of it.
use Rattle.std.specs.Prelude.{ℕ, List, Option, option_map}
use Rattle.std.specs.Borrow.{Bor}
use Rattle.run_report.specs.declared.endings.RunEnding.{RunEnding}

-- the names of the metainfo file, of the payload's folder and of the copy's, if there is one; and the outside
pub record CheckInput (D O : Type 0) : Type 0 where
  pub file : List ℕ
  pub dir : List ℕ
  pub copy : Option (List ℕ)
  pub disk : D
  pub out : O

-- how it ended, and the outside as it is then
pub record CheckOutput (D O : Type 0) : Type 0 where
  pub ending : RunEnding
  pub disk : D
  pub out : O

pub record OneCheck (D O : Type 0) : Type 0 where
  pub given : CheckInput D O
  pub came : CheckOutput D O

abbrev pub one_check : {D O : Type 0} → (file dir : List ℕ) → Option (Bor (List ℕ)) → D → O → RunEnding → D → O
    → OneCheck D O
one_check file dir copy disk out ending disk' out' = record {
  given = record { file = file; dir = dir; copy = option_map (λ folder. folder.now) copy; disk = disk; out = out };
  came = record { ending = ending; disk = disk'; out = out' };
}
