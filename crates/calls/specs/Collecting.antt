-- The calls of an image, field by field.
use Rattle.std.specs.Prelude.{ℕ, ◌+◌, ◌*◌, ◌≤◌, ◌<◌, ◌≡◌, false, ◌||◌, List, [], ◌++◌, length, get_or, T, Option, option_map}
use Rattle.rules.specs.Basics.{pick}
use Rattle.rules.specs.Syntax.{Gate}
use Rattle.rules.specs.Grouping.{stmts, decls}
use Rattle.rules.specs.Checking.{header}
use Rattle.rules.specs.Calls.{Call, stmts_calls, decl_calls, edge, earliest}
use Rattle.views.specs.View.{rest}
use Rattle.views.specs.Fields.{left, opened}
use Rattle.views.specs.declared.Fields.{Fields}
use Rattle.tables.specs.Tables.{gate_in}
use Rattle.graph.specs.declared.sets.Set.{Set}
use Rattle.graph.specs.Rows.{calls}
use Rattle.calls.specs.declared.Calls.{Calls}

-- the table holds the n gates of gs, by name
pub record Numbered (gates : List ℕ) (n : ℕ) (gs : List Gate) : Type 0 where
  pub count : n ≡ length gs
  pub known : (x : ℕ) → header gs x ≡ gate_in gates x

-- the number of the gate with the name x in a table, if there is one
abbrev pub named : List ℕ → ℕ → Option ℕ
named gates x = option_map (λ h. h.number) (gate_in gates x)

-- the calls of the gates gs that an image lists
unfoldable pub calls_in : List Gate → List ℕ → List Call
calls_in gs img = decl_calls gs (decls false false (rest img 0))

-- what the fields that are left call, where `from` is the number of the gate whose body is open
unfoldable pub calls_from : List Gate → (from : ℕ) → Fields → List Call
calls_from gs from s = pick s.inside (stmts_calls gs from (stmts false (left s))) [] ++ decl_calls gs (opened s)

-- ---- a graph with the span of the earliest call of each gate by each, 128 to a row

-- the calls cs are added after those that were met; spans are kept where there is room for all
pub record Added (cs : List Call) (c c' : Calls) : Type 0 where
  pub long : length c'.spans.now ≡ length c.spans.now
  pub rows : (a b : ℕ) → a < 128 → b < 128 → calls c'.graph.rows a b ≡ (calls c.graph.rows a b || edge cs a b)
  pub spans : 16384 ≤ length c.spans.now → (a b : ℕ) → a < 128 → b < 128
      → get_or c'.spans.now (128 * a + b) 0
      ≡ pick (calls c.graph.rows a b) (get_or c.spans.now (128 * a + b) 0) (pick (edge cs a b) (earliest cs a b) (get_or c.spans.now (128 * a + b) 0))

-- the rows t have the calls cs
pub record Has (cs : List Call) (t : List Set) (s : List ℕ) : Type 0 where
  pub size : length t ≡ 128
  pub rows : (a b : ℕ) → a < 128 → b < 128 → calls t a b ≡ edge cs a b
  pub spans : 16384 ≤ length s → (a b : ℕ) → a < 128 → b < 128 → T (edge cs a b) → get_or s (128 * a + b) 0 ≡ earliest cs a b
