-- The recursion errors, by the tables of the code.
use Rattle.std.specs.Prelude.{ℕ, ◌+◌, ◌*◌, ◌≤◌, ◌<◌, ◌≡◌, List, [], ◌∷◌, length, get_or, ltb}
use Rattle.rules.specs.Basics.{pick}
use Rattle.rules.specs.Syntax.{Gate}
use Rattle.rules.specs.Checking.{gate_at}
use Rattle.rules.specs.Calls.{Call, edge}
use Rattle.theorems.specs.Words.{Within}
use Rattle.calls.specs.Collecting.{Has}
use Rattle.calls.specs.declared.Tables.{Tables}

-- the span of the earliest call of h by g
unfoldable pub span_by : List ℕ → ℕ → ℕ → ℕ
span_by spans g h = pick (ltb g 128) (pick (ltb h 128) (get_or spans (128 * g + h) 0) 0) 0

unfoldable pub pairs_by : (defs spans : List ℕ) → ℕ → List ℕ → List (ℕ × ℕ)
pairs_by defs spans g [] = []
pairs_by defs spans g (h ∷ hs) = (get_or defs h 0, span_by spans g h) ∷ pairs_by defs spans h hs

-- the declaration span of each of the n gates of gs stands at its number
pub record Defined (defs : List ℕ) (n : ℕ) (gs : List Gate) : Type 0 where
  pub few : n ≤ 128
  pub decl : (i : ℕ) → i < n → get_or defs i 0 ≡ (gate_at gs i).decl

-- the tables are those of the gates gs and the calls cs
pub record Shown (gs : List Gate) (cs : List Call) (t : Tables) : Type 0 where
  pub count : t.n ≡ length gs
  pub defined : Defined t.defs.now t.n gs
  pub within : Within t.n (edge cs)
  pub has : Has cs t.graph.now.rows t.spans.now
  pub room : 16384 ≤ length t.spans.now
