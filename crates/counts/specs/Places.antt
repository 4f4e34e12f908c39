-- Where the gates of a program stand in its image.
use Rattle.std.specs.Prelude.{◌≡◌, List, [], ◌∷◌, ℕ, ◌<◌, length, get_or}
use Rattle.rules.specs.Reading.{load_at}
use Rattle.rules.specs.Syntax.{Gate, Decl, include, reg, gate, top}
use Rattle.rules.specs.Checking.{gate_at}
use Rattle.views.specs.View.{next_in, rest}
use Rattle.views.specs.Steps.{gate_at_place}

-- the gate whose field stands at a place
abbrev pub gate_here : (img : List ℕ) → ℕ → Gate
gate_here img at = gate_at_place (load_at img at) (rest img (next_in img at))

-- the gates of the declarations, in their order
unfoldable pub gate_list : List Decl → List Gate
gate_list [] = []
gate_list (include sp x ∷ ds) = gate_list ds
gate_list (reg c d o ∷ ds) = gate_list ds
gate_list (gate g ∷ ds) = g ∷ gate_list ds
gate_list (top s ∷ ds) = gate_list ds

-- the table has the place of each gate that it has room for
pub record Placed (img : List ℕ) (gs : List Gate) (places : List ℕ) : Type 0 where
  pub at : (i : ℕ) → i < length gs → i < length places → gate_here img (get_or places i 0) ≡ gate_at gs i
