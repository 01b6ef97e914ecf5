-- Numbers outside the limits of an option.
use Rattle.std.proofs.Common.{◌≡◌, ℕ, ◌<◌, ◌⊎◌, inl, inr, List, Some, sym, ◌∙◌, ap, arith}
use Rattle.std.specs.Option.{option_map}
use Rattle.option_set.specs.declared.kinds.Num.{Num}
use Rattle.option_set.specs.declared.table.NumRow.{NumRow}
use Rattle.option_set.specs.Table.{NumberRow, row_of_number}
use Rattle.option_set.specs.Rows.{shown_number_row}
use Rattle.option_set.specs.Numbers.{number_value, saturated}
use Rattle.option_set.specs.Settings.{IsWithinLimits}
use Rattle.option_set.proofs.Decimals.{spelled}
use Rattle.option_set.proofs.Rows.{most_small}

-- what was read outside of the limits is a number outside of them
pub outside : (row : NumRow) (num : Num) (text : List ℕ) (value : ℕ) → shown_number_row row ≡ row_of_number num
    → Some value ≡ option_map saturated (number_value row.spelling text) → (value < row.least) ⊎ (row.most < value)
    → (number : ℕ) × (number_value (row_of_number num).spelling text ≡ Some number) × (IsWithinLimits num number → ⊥)
    × ((row_of_number num).least ≡ row.least) × ((row_of_number num).most ≡ row.most)
outside row num text value is read out =
    let it = spelled (number_value row.spelling text) value read in
    let spelling = ap (λ (r : NumberRow). r.spelling) is in
    let least = ap (λ (r : NumberRow). r.least) is in
    let most = ap (λ (r : NumberRow). r.most) is in
    let apart : IsWithinLimits num it.number → ⊥ = λ within.
    elim out [
      | inl below ↦ omega (arith, it.value_is, least, below, within.0, within.1, most_small num)
      | inr above ↦ omega (arith, it.value_is, most, above, within.0, within.1, most_small num)
    ] in
    (it.number, ap (λ s. number_value s text) (sym spelling) ∙ it.is, apart, sym least, sym most)
