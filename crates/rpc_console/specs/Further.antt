-- What stands behind the URIs of a call that adds a download: options, and then a position among the waiting ones. Both may be
-- left out, or the position alone (aria2 manual, `aria2.addUri`).
use Rattle.std.specs.Prelude.{ℕ, ◌&&◌, Bool, true, false, List, [], ◌∷◌, Option, Some, None, is_some}
use Rattle.rpc_console.specs.Options.{are_texts}
use Rattle.rpc_console.specs.Params.{count_in}
use Rattle.serde_json.specs.Data.{Data, Members, no_members}
use Rattle.serde_json.specs.Find.{as_object}

-- an object of texts
abbrev pub is_text_object : Option Members → Bool
is_text_object None = false
is_text_object (Some members) = are_texts members

abbrev pub are_further : List Data → Bool
are_further [] = true
are_further (d ∷ []) = is_text_object (as_object d)
are_further (d ∷ e ∷ []) = is_text_object (as_object d) && is_some (count_in e)
are_further (d ∷ e ∷ f ∷ ds) = false

-- where they are left out, an object without members
abbrev pub further_options : List Data → Option Members
further_options [] = Some no_members
further_options (d ∷ ds) = as_object d

abbrev pub further_position : List Data → Option ℕ
further_position [] = None
further_position (d ∷ []) = None
further_position (d ∷ e ∷ ds) = count_in e
