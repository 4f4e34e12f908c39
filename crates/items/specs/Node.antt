-- The node that stands at a place, for any bytes: those past the end count as 0. 01: "Nodes become an enum of their own that keeps Real as an f32".
use Rattle.std.specs.Prelude.{ℕ, ◌+◌, List, get_or, eqb, ltb}
use Rattle.std.specs.Float.Ieee.{of_bits}
use Rattle.std.specs.Float.{binary32}
use Rattle.rules.specs.Basics.{pick}
use Rattle.rules.specs.Items.{le2, le4, le8}
use Rattle.items.specs.declared.nodes.Node.{Node}
use Rattle.items.specs.declared.nodes.Node.TheVariants.{Pi, Real, Int, Var, Add, Sub, Mul, Div, Pow, Neg, Sin, Cos, Tan, Exp, Ln, Sqrt}

-- 01: "4 Add, 5 Sub, 6 Mul, 7 Div, 8 Pow with two operands; 9 Neg, 10 Sin, 11 Cos, 12 Tan, 13 Exp, 14 Ln, 15 Sqrt with one". No expression that
-- is read has an opcode over 15; here it counts as Sqrt.
unfoldable pub operator : (opcode : ℕ) → Node
operator o =
    pick (eqb o 4) Add
    (pick (eqb o 5) Sub
    (pick (eqb o 6) Mul
    (pick (eqb o 7) Div
    (pick (eqb o 8) Pow
    (pick (eqb o 9) Neg
    (pick (eqb o 10) Sin
    (pick (eqb o 11) Cos
    (pick (eqb o 12) Tan
    (pick (eqb o 13) Exp
    (pick (eqb o 14) Ln Sqrt))))))))))

-- with the data at a place
unfoldable pub node_of : (opcode : ℕ) → List ℕ → (start : ℕ) → Node
node_of o s d =
    pick (eqb o 0) Pi
    (pick (eqb o 1) (Real (of_bits binary32 (le4 s d)))
    (pick (eqb o 2) (Int (le8 s d))
    (pick (eqb o 3) (Var (le2 s d)) (operator o))))

-- 01: "A node is an opcode byte, a span, then data"
unfoldable pub node_at : List ℕ → ℕ → Node
node_at s at = node_of (get_or s at 0) s (at + 5)

unfoldable pub node_length : (opcode : ℕ) → ℕ
node_length o = pick (eqb o 1) 9 (pick (eqb o 2) 13 (pick (eqb o 3) 7 5))

unfoldable pub node_operands : (opcode : ℕ) → ℕ
node_operands o = pick (ltb o 4) 0 (pick (ltb o 9) 2 1)
