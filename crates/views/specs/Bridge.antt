-- An image that is read is what it is taken to be: the program read is the one that the views give.
use Prim.Native.Nat.{ℕ, zero, suc, ◌+◌, ◌-◌, ◌<◌, ◌≤◌}
use Rattle.std.proofs.Common.{arith, sym, ap, ◌∙◌, subst, mod-eq_of_lt, eqb-true, leb-true, lt-ltb, ltb-true, lit≤, lit<}
use Rattle.std.specs.Prelude.{Ok, Err, ◌≡◌, refl, List, [], ◌∷◌, Bool, true, false, ◌||◌, length, get_or, T, ltb, leb, eqb}
use Rattle.rules.specs.declared.Operand.{Operand}
use Rattle.rules.specs.declared.Counts.{Counts}
use Rattle.rules.specs.declared.Fault.{Fault}
use Rattle.rules.specs.declared.Fault.TheVariants.{TooLong, Cut, BadTag, BadItem, BadName, TooMany}
use Rattle.rules.specs.Basics.{pick}
use Rattle.rules.specs.Syntax.{Expr, two, one, Stmt, cx, measure, reset, Field, name_f, include_f, reg_f, end_f, stmt_f, Program}
use Rattle.rules.specs.Items.{Got, bind, times, fit, byte, word2, word4, word8, le2, le4, le8, span, name, flag, count, operand, indexed, named, opcode, leaf, node, expr}
use Rattle.rules.specs.Reading.{fresh, name_field, include_field, reg_field, gate_lists, gate_field, u_field, pair_field, reset_field, barrier_field, call_lists, call_field, if_field, items, payload, placed, within, field, whole, from, more, next, names_then, either, start, scan, len_at, load_at, Fields, refused, fields}
use Rattle.rules.specs.Grouping.{group, program, grouped, read}
use Rattle.views.specs.View.{name_in, on, operand_in, named_in, row_in, row_past, leaf_in, leaf_past, expr_in, expr_past, exprs_in, exprs_past, u_in, barrier_in, call_in, params_in, args_in, gate_in, if_in, stmt_in, field_in, field_at, past, rest, rest_end, rest_more, program_in}
use Rattle.views.specs.Tags.{Unknown, by_tag}

-- if it ends well, then with this and there
abbrev pub Is : {A : Type 0} → Got A → A → ℕ → Type 0
Is {A} g v m = (x : A) (n : ℕ) → g ≡ Ok (x, n) → (x ≡ v) × (n ≡ m)

never : {A : Type 0} {k : Fault} {r : A × ℕ} → ◌≡◌ {A = Got A} (Err k) (Ok r) → ⊥
never p = let z : ◌≡◌ {A = ℕ} 0 1 = cc in omega arith

same : {A : Type 0} (v x : A) (m n : ℕ) → ◌≡◌ {A = Got A} (Ok (v, m)) (Ok (x, n)) → (x ≡ v) × (n ≡ m)
same {A} v x m n p =
    let q : ◌≡◌ {A = A × ℕ} (v, m) (x, n) = cc in
    (sym (ap (λ (r : A × ℕ). r.0) q), sym (ap (λ (r : A × ℕ). r.1) q))

is_bind : {A B : Type 0} (g : Got A) (f : A → ℕ → Got B) (v : A) (m : ℕ) (w : B) (k : ℕ) → Is g v m → Is (f v m) w k → Is (bind g f) w k
is_bind (Err j) f v m w k h i y n p = absurd (never p)
is_bind (Ok r) f v m w k h i y n p = let e = h r.0 r.1 refl in i y n (rw (← e.0, ← e.1) p)

is_got : {A : Type 0} (v : A) (m : ℕ) → Is (Ok (v, m)) v m
is_got v m x n p = same v x m n p

-- the same place, written another way
is_at : {A : Type 0} (g : Got A) (v : A) (m k : ℕ) → m ≡ k → Is g v m → Is g v k
is_at g v m k e h x n p = let q = h x n p in (q.0, q.1 ∙ e)

is_pick : {A : Type 0} (b : Bool) (g : Got A) (k : Fault) (v : A) (m : ℕ) → Is g v m → Is (pick b g (Err k)) v m
is_pick true g k v m h = h
is_pick false g k v m h = λ x n p. absurd (never p)

is_either : {A : Type 0} (b : Bool) (p q : List ℕ → ℕ → Got A) (s : List ℕ) (at : ℕ) (v w : A) (m k : ℕ)
    → Is (p s at) v m → Is (q s at) w k → Is (pick b p q s at) (pick b v w) (pick b m k)
is_either true p q s at v w m k h i = h
is_either false p q s at v w m k h i = i

is_fit : (b : Bool) (v m : ℕ) → Is (pick b (Ok (v, m)) (Err BadItem)) v m
is_fit true v m = is_got v m
is_fit false v m = λ x n p. absurd (never p)

-- ---- items

module _ (s : List ℕ) (at : ℕ) where
  byte_is : Is (byte s at) (get_or s at 0) (at + 1)
  unfolding byte
  byte_is = is_fit (leb 1 (length s - at)) _ _

  word2_is : Is (word2 s at) (le2 s at) (at + 2)
  unfolding word2
  word2_is = is_fit (leb 2 (length s - at)) _ _

  word4_is : Is (word4 s at) (le4 s at) (at + 4)
  unfolding word4
  word4_is = is_fit (leb 4 (length s - at)) _ _

  word8_is : Is (word8 s at) (le8 s at) (at + 8)
  unfolding word8
  word8_is = is_fit (leb 8 (length s - at)) _ _

  span_is : Is (span s at) (le4 s at) (at + 4)
  unfolding span
  span_is = word4_is

  flag_is : Is (flag s at) (get_or s at 0) (at + 1)
  unfolding flag
  flag_is = is_bind (byte s at) _ _ _ _ _ byte_is (is_pick (ltb (get_or s at 0) 2) _ BadItem _ _ (is_got _ _))

  count_is : Is (count s at) (get_or s at 0) (at + 1)
  unfolding count
  count_is = is_bind (byte s at) _ _ _ _ _ byte_is (is_pick (leb (get_or s at 0) 32) _ TooMany _ _ (is_got _ _))

  opcode_is : Is (opcode s at) (get_or s at 0) (at + 1)
  unfolding opcode
  opcode_is = is_bind (byte s at) _ _ _ _ _ byte_is (is_pick (ltb (get_or s at 0) 16) _ BadItem _ _ (is_got _ _))

-- what fits ends before the end
module _ (n : ℕ) (f : List ℕ → ℕ → ℕ) (s : List ℕ) (at j : ℕ) (some : 0 < n) (e : at + n ≤ length s → at + n ≡ j) where
  is_fit_to : Is (fit n f s at) (f s at) j
  is_fit_to = by (leb n (length s - at)) refl
    where
      by : (b : Bool) → leb n (length s - at) ≡ b → Is (pick b (Ok (f s at, at + n)) (Err BadItem)) (f s at) j
      by true h = let k : n ≤ length s - at = leb-true _ _ h in is_at _ _ _ j (e (omega arith)) (is_got (f s at) (at + n))
      by false h = λ x m p. absurd (never p)

word4_to : (s : List ℕ) (at j : ℕ) → (at + 4 ≤ length s → at + 4 ≡ j) → Is (word4 s at) (le4 s at) j
unfolding word4
word4_to s at j e = is_fit_to 4 le4 s at j (lit< tt) e

word8_on : (s : List ℕ) (at : ℕ) → Is (word8 s at) (le8 s at) (on s at 8)
unfolding word8
word8_on s at = is_fit_to 8 le8 s at (on s at 8) (lit< tt) (λ h. omega arith)

word2_on : (s : List ℕ) (at : ℕ) → Is (word2 s at) (le2 s at) (on s at 2)
unfolding word2
word2_on s at = is_fit_to 2 le2 s at (on s at 2) (lit< tt) (λ h. omega arith)

-- a name, which is below the count
name_by : (s : List ℕ) (at n j : ℕ) → n ≤ 512 → Is (word2 s at) (le2 s at) j → Is (name n s at) (name_in s at) j
unfolding name
name_by s at n j small w = is_bind (word2 s at) _ _ _ _ _ w (by (ltb (le2 s at) n) refl)
  where
    by : (b : Bool) → ltb (le2 s at) n ≡ b → Is (pick b (Ok (le2 s at, j)) (Err BadName)) (name_in s at) j
    by true e x m p =
        let h : le2 s at < n = ltb-true _ _ e in
        let k : le2 s at < 512 = omega arith in
        let q = same (le2 s at) x j m p in
        (q.0 ∙ sym (mod-eq_of_lt k), q.1)
    by false e x m p = absurd (never p)

name_is : (s : List ℕ) (at n : ℕ) → n ≤ 512 → Is (name n s at) (name_in s at) (at + 2)
name_is s at n small = name_by s at n (at + 2) small (word2_is s at)

-- places inside an item, and their sums
sum6 : (at : ℕ) → at + 4 + 2 ≡ at + 6
sum6 at = omega arith

sum7 : (at : ℕ) → at + 6 + 1 ≡ at + 7
sum7 at = omega arith

sum15 : (at : ℕ) → at + 7 + 8 ≡ at + 15
sum15 at = omega arith

span_to : (s : List ℕ) (at j : ℕ) → (at + 4 ≤ length s → at + 4 ≡ j) → Is (span s at) (le4 s at) j
unfolding span
span_to s at j e = word4_to s at j e

operand_is : (n : ℕ) → n ≤ 512 → (s : List ℕ) (at : ℕ) → Is (operand n s at) (operand_in s at) (at + 15)
unfolding operand operand_in
operand_is n small s at =
    is_bind (span s at) _ _ _ _ _ (span_is s at)
    (is_bind (name n s (at + 4)) _ _ _ _ _ (is_at _ _ _ (at + 6) (sum6 at) (name_is s (at + 4) n small))
    (is_bind (flag s (at + 6)) _ _ _ _ _ (is_at _ _ _ (at + 7) (sum7 at) (flag_is s (at + 6)))
    (is_bind (word8 s (at + 7)) _ _ _ _ _ (is_at _ _ _ (at + 15) (sum15 at) (word8_is s (at + 7)))
    (is_pick (indexed (get_or s (at + 6) 0) (le8 s (at + 7))) _ BadItem _ _ (is_got _ _)))))

named_is : (n : ℕ) → n ≤ 512 → (s : List ℕ) (at : ℕ) → Is (named n s at) (named_in s at) (at + 6)
unfolding named named_in
named_is n small s at =
    is_bind (span s at) _ _ _ _ _ (span_is s at)
    (is_bind (name n s (at + 4)) _ _ _ _ _ (is_at _ _ _ (at + 6) (sum6 at) (name_is s (at + 4) n small)) (is_got _ _))

-- a row of items of one width
row_is : {A : Type 0} (p : List ℕ → ℕ → Got A) (v : List ℕ → ℕ → A) (w : ℕ) → ((s : List ℕ) (at : ℕ) → Is (p s at) (v s at) (at + w))
    → (k : ℕ) (s : List ℕ) (at : ℕ) → Is (times k p s at) (row_in v w k s at) (row_past w k at)
unfolding times row_in row_past
row_is p v w h zero s at = is_got _ _
row_is p v w h (suc k) s at = is_bind (p s at) _ _ _ _ _ (h s at) (is_bind (times k p s (at + w)) _ _ _ _ _ (row_is p v w h k s (at + w)) (is_got _ _))

-- ---- expressions

leaf_is : (n o : ℕ) → n ≤ 512 → (s : List ℕ) (at : ℕ) → Is (leaf n o s at) (leaf_in o s at) (leaf_past o s at)
unfolding leaf leaf_in leaf_past
leaf_is n o small s at =
    is_either (eqb o 0) _ _ s at _ _ _ _ (is_got _ _)
    (is_either (eqb o 1) _ _ s at _ _ _ _ (is_bind (word4 s at) _ _ _ _ _ (word4_to s at (on s at 4) (λ h. omega arith)) (is_got _ _))
    (is_either (eqb o 2) _ _ s at _ _ _ _ (is_bind (word8 s at) _ _ _ _ _ (word8_on s at) (is_got _ _))
    (is_bind (name n s at) _ _ _ _ _ (name_by s at n (on s at 2) small (word2_on s at)) (is_got _ _))))

node_is : (n o : ℕ) → n ≤ 512 → (e : List ℕ → ℕ → Got Expr) (v : ℕ → Expr) (k : ℕ → ℕ) (s : List ℕ) (m j : ℕ) → (m + 4 ≤ length s → m + 4 ≡ j) → ((i : ℕ) → Is (e s i) (v i) (k i))
    → Is (node n e o s m)
    (pick (ltb o 4) (leaf_in o s j (le4 s m)) (pick (ltb o 9) (two o (le4 s m) (v j) (v (k j))) (one o (le4 s m) (v j))))
    (pick (ltb o 4) (leaf_past o s j) (pick (ltb o 9) (k (k j)) (k j)))
unfolding node
node_is n o small e v k s m j q h =
    is_bind (span s m) _ _ _ _ _ (span_to s m j q)
    (is_either (ltb o 4) _ _ s j _ _ _ _ (is_bind (leaf n o s j) _ _ _ _ _ (leaf_is n o small s j) (is_got _ _))
    (is_bind (e s j) _ _ _ _ _ (h j)
    (is_either (ltb o 9) _ _ s (k j) _ _ _ _ (is_bind (e s (k j)) _ _ _ _ _ (h (k j)) (is_got _ _)) (is_got _ _))))

-- what is read begins before the end
is_there : {A : Type 0} (g : Got A) (s : List ℕ) (at : ℕ) (v w : A) (m k : ℕ) → ((x : A) (n : ℕ) → g ≡ Ok (x, n) → at < length s) → Is g v m
    → Is g (pick (ltb at (length s)) v w) (pick (ltb at (length s)) m k)
is_there g s at v w m k there h x n p = rw (lt-ltb at (length s) (there x n p)) (h x n p)

no_opcode : (n d : ℕ) (s : List ℕ) (at : ℕ) → leb 1 (length s - at) ≡ false → expr n d s at ≡ Err BadItem
unfolding expr opcode byte
no_opcode n zero s at e = rw e refl
no_opcode n (suc d) s at e = rw e refl

opcode_there : (n d : ℕ) (s : List ℕ) (at : ℕ) (x : Expr) (m : ℕ) → expr n d s at ≡ Ok (x, m) → at < length s
opcode_there n d s at x m p = by (leb 1 (length s - at)) refl
  where
    by : (b : Bool) → leb 1 (length s - at) ≡ b → at < length s
    by true e = let h : 1 ≤ length s - at = leb-true _ _ e in omega arith
    by false e = absurd (never (sym (no_opcode n d s at e) ∙ p))

expr_is : (n d : ℕ) → n ≤ 512 → (s : List ℕ) (at : ℕ) → Is (expr n d s at) (expr_in d s at) (expr_past d s at)
unfolding expr expr_in expr_past
expr_is n zero small s at = is_bind (opcode s at) _ _ _ _ _ (opcode_is s at) (λ x m p. absurd (never p))
expr_is n (suc d) small s at =
    is_there (expr n (suc d) s at) s at _ _ _ _ (opcode_there n (suc d) s at)
    (is_bind (opcode s at) _ _ _ _ _ (opcode_is s at)
    (node_is n (get_or s at 0) small (expr n d) (expr_in d s) (expr_past d s) s (at + 1) (on s at 5) (λ h. omega arith) (expr_is n d small s)))

exprs_is : (n k : ℕ) → n ≤ 512 → (s : List ℕ) (at : ℕ) → Is (times k (expr n 64) s at) (exprs_in k s at) (exprs_past k s at)
unfolding times exprs_in exprs_past
exprs_is n zero small s at = is_got _ _
exprs_is n (suc k) small s at =
    is_bind (expr n 64 s at) _ _ _ _ _ (expr_is n 64 small s at)
    (is_bind (times k (expr n 64) s (expr_past 64 s at)) _ _ _ _ _ (exprs_is n k small s (expr_past 64 s at)) (is_got _ _))

-- ---- payloads

module _ (n : ℕ) (small : n ≤ 512) (s : List ℕ) where
  include_is : Is (include_field n s 0) (include_f (le4 s 0) (name_in s 4)) 6
  unfolding include_field
  include_is = is_bind (span s 0) _ _ _ _ _ (span_is s 0) (is_bind (name n s 4) _ _ _ _ _ (name_is s 4 n small) (is_got _ _))

  reg_is : (c : Bool) → Is (reg_field n c s 0) (reg_f c (le4 s 0) (operand_in s 4)) 19
  unfolding reg_field
  reg_is c = is_bind (span s 0) _ _ _ _ _ (span_is s 0) (is_bind (operand n s 4) _ _ _ _ _ (operand_is n small s 4) (is_got _ _))

  lists_is : Is (gate_lists n s 11) (params_in s, args_in s) (row_past 6 (get_or s 12 0) (row_past 6 (get_or s 11 0) 13))
  unfolding gate_lists params_in args_in
  lists_is =
      let at : ℕ = row_past 6 (get_or s 11 0) 13 in
      is_bind (count s 11) _ _ _ _ _ (count_is s 11)
      (is_bind (count s 12) _ _ _ _ _ (count_is s 12)
      (is_bind (times (get_or s 11 0) (named n) s 13) _ _ _ _ _ (row_is (named n) named_in 6 (named_is n small) (get_or s 11 0) s 13)
      (is_bind (times (get_or s 12 0) (named n) s at) _ _ _ _ _ (row_is (named n) named_in 6 (named_is n small) (get_or s 12 0) s at) (is_got _ _))))

  gate_is : Is (gate_field n s 0) (gate_in s) (row_past 6 (get_or s 12 0) (row_past 6 (get_or s 11 0) 13))
  unfolding gate_field gate_in
  gate_is =
      is_bind (span s 0) _ _ _ _ _ (span_is s 0)
      (is_bind (span s 4) _ _ _ _ _ (span_is s 4)
      (is_bind (name n s 8) _ _ _ _ _ (name_is s 8 n small)
      (is_bind (flag s 10) _ _ _ _ _ (flag_is s 10)
      (is_bind (gate_lists n s 11) _ _ _ _ _ lists_is (is_got _ _)))))

  u_is : Is (u_field n s 0) (stmt_f (u_in s)) (expr_past 64 s (expr_past 64 s (expr_past 64 s 19)))
  unfolding u_field u_in
  u_is =
      is_bind (span s 0) _ _ _ _ _ (span_is s 0)
      (is_bind (operand n s 4) _ _ _ _ _ (operand_is n small s 4)
      (is_bind (expr n 64 s 19) _ _ _ _ _ (expr_is n 64 small s 19)
      (is_bind (expr n 64 s (expr_past 64 s 19)) _ _ _ _ _ (expr_is n 64 small s (expr_past 64 s 19))
      (is_bind (expr n 64 s (expr_past 64 s (expr_past 64 s 19))) _ _ _ _ _ (expr_is n 64 small s (expr_past 64 s (expr_past 64 s 19))) (is_got _ _)))))

  pair_is : (make : ℕ → Operand → Operand → Stmt) → Is (pair_field n make s 0) (stmt_f (make (le4 s 0) (operand_in s 4) (operand_in s 19))) 34
  unfolding pair_field
  pair_is make =
      is_bind (span s 0) _ _ _ _ _ (span_is s 0)
      (is_bind (operand n s 4) _ _ _ _ _ (operand_is n small s 4)
      (is_bind (operand n s 19) _ _ _ _ _ (operand_is n small s 19) (is_got _ _)))

  reset_is : Is (reset_field n s 0) (stmt_f (reset (le4 s 0) (operand_in s 4))) 19
  unfolding reset_field
  reset_is = is_bind (span s 0) _ _ _ _ _ (span_is s 0) (is_bind (operand n s 4) _ _ _ _ _ (operand_is n small s 4) (is_got _ _))

  operands_is : (k at : ℕ) → Is (times k (operand n) s at) (row_in operand_in 15 k s at) (row_past 15 k at)
  operands_is k at = row_is (operand n) operand_in 15 (operand_is n small) k s at

  barrier_is : Is (barrier_field n s 0) (stmt_f (barrier_in s)) (row_past 15 (get_or s 4 0) 5)
  unfolding barrier_field barrier_in
  barrier_is =
      is_bind (span s 0) _ _ _ _ _ (span_is s 0)
      (is_bind (count s 4) _ _ _ _ _ (count_is s 4)
      (is_bind (times (get_or s 4 0) (operand n) s 5) _ _ _ _ _ (operands_is (get_or s 4 0) 5) (is_got _ _)))

  call_lists_is : Is (call_lists n s 10) (row_in operand_in 15 (get_or s 11 0) s 12, exprs_in (get_or s 10 0) s (row_past 15 (get_or s 11 0) 12))
      (exprs_past (get_or s 10 0) s (row_past 15 (get_or s 11 0) 12))
  unfolding call_lists
  call_lists_is =
      let at : ℕ = row_past 15 (get_or s 11 0) 12 in
      is_bind (count s 10) _ _ _ _ _ (count_is s 10)
      (is_bind (count s 11) _ _ _ _ _ (count_is s 11)
      (is_bind (times (get_or s 11 0) (operand n) s 12) _ _ _ _ _ (operands_is (get_or s 11 0) 12)
      (is_bind (times (get_or s 10 0) (expr n 64) s at) _ _ _ _ _ (exprs_is n (get_or s 10 0) small s at) (is_got _ _))))

  call_is : Is (call_field n s 0) (stmt_f (call_in s)) (exprs_past (get_or s 10 0) s (row_past 15 (get_or s 11 0) 12))
  unfolding call_field call_in
  call_is =
      is_bind (span s 0) _ _ _ _ _ (span_is s 0)
      (is_bind (span s 4) _ _ _ _ _ (span_is s 4)
      (is_bind (name n s 8) _ _ _ _ _ (name_is s 8 n small)
      (is_bind (call_lists n s 10) _ _ _ _ _ call_lists_is (is_got _ _))))

  if_is : Is (if_field n s 0) (if_in s) 31
  unfolding if_field if_in
  if_is =
      is_bind (span s 0) _ _ _ _ _ (span_is s 0)
      (is_bind (operand n s 4) _ _ _ _ _ (operand_is n small s 4)
      (is_bind (span s 19) _ _ _ _ _ (span_is s 19)
      (is_bind (word8 s 23) _ _ _ _ _ (word8_is s 23) (is_got _ _))))

-- ---- a field

-- only what was read, not where it ends
abbrev Gives : {A : Type 0} → Got A → A → Type 0
Gives {A} g v = (x : A) (n : ℕ) → g ≡ Ok (x, n) → x ≡ v

not_placed : (c : Counts) (t : ℕ) → Unknown t → placed c t ≡ true → ⊥
unfolding placed
not_placed c t k p = let q : ◌≡◌ {A = Bool} false true = rw (k.not1, k.decl, k.not6, k.stmt) at p in subst T (sym q) tt

payload_gives : (c : Counts) → c.names ≤ 512 → (ns : List (List ℕ)) (s : List ℕ) (t : ℕ) → placed c t ≡ true → Gives (payload c.names ns t s 0) (field_in t s)
unfolding payload items name_field field_in stmt_in
payload_gives c small ns s =
    let n = c.names in
    by_tag (λ t. placed c t ≡ true → Gives (payload n ns t s 0) (field_in t s))
    (λ ok x m p. (is_pick (fresh ns s) _ BadName _ _ (is_got (name_f s) (length s)) x m p).0)
    (λ ok x m p. (include_is n small s x m p).0)
    (λ ok x m p. (reg_is n small s false x m p).0)
    (λ ok x m p. (reg_is n small s true x m p).0)
    (λ ok x m p. (gate_is n small s x m p).0)
    (λ ok x m p. (is_got end_f 0 x m p).0)
    (λ ok x m p. (u_is n small s x m p).0)
    (λ ok x m p. (pair_is n small s cx x m p).0)
    (λ ok x m p. (pair_is n small s measure x m p).0)
    (λ ok x m p. (reset_is n small s x m p).0)
    (λ ok x m p. (barrier_is n small s x m p).0)
    (λ ok x m p. (call_is n small s x m p).0)
    (λ ok x m p. (if_is n small s x m p).0)
    (λ t k ok. absurd (not_placed c t k ok))

tests : (b₁ b₂ b₃ b₄ : Bool) (g : Got Field) (v : Field) (e at : ℕ) → (b₂ ≡ true → Gives g v)
    → Is (bind (pick b₁ (Ok (tt, at)) (Err Cut)) (λ (ok : Unit {0}) n. bind (pick b₂ (Ok (tt, n)) (Err BadTag)) (λ (ok : Unit {0}) n. bind (pick b₃ (Ok (tt, n)) (Err Cut)) (λ (ok : Unit {0}) n. bind (pick b₄ (Ok (tt, n)) (Err TooMany)) (λ (ok : Unit {0}) n. bind g (λ f m. Ok (f, e))))))) v e
tests true true true true (Ok r) v e at h = λ x m p. let q = same r.0 x e m p in (q.0 ∙ h refl r.0 r.1 refl, q.1)
tests true true true true (Err k) v e at h = λ x m p. absurd (never p)
tests true true true false g v e at h = λ x m p. absurd (never p)
tests true true false b₄ g v e at h = λ x m p. absurd (never p)
tests true false b₃ b₄ g v e at h = λ x m p. absurd (never p)
tests false b₂ b₃ b₄ g v e at h = λ x m p. absurd (never p)

whole_gives : {A : Type 0} (g : Got A) (l : ℕ) (v : A) → Gives g v → Gives (bind g (λ x at. pick (eqb at l) (Ok (x, at)) (Err BadItem))) v
whole_gives (Err k) l v h = λ x n p. absurd (never p)
whole_gives (Ok r) l v h = λ x n p. (is_pick (eqb r.1 l) (Ok r) BadItem r.0 r.1 (is_got r.0 r.1) x n p).0 ∙ h r.0 r.1 refl

pub field_is : (c : Counts) → c.names ≤ 512 → (ns : List (List ℕ)) (img : List ℕ) (at : ℕ) → Is (field c ns img at) (field_at img at) (past img at)
unfolding field field_at
field_is c small ns img at =
    tests (leb 3 (length img - at)) (placed c (get_or img at 0)) (leb (len_at img at) (length img - (at + 3))) (within c (get_or img at 0))
    (whole (payload c.names ns (get_or img at 0)) (load_at img at) 0) _ _ at
    (λ ok. whole_gives (payload c.names ns (get_or img at 0) (load_at img at) 0) (length (load_at img at)) _ (payload_gives c small ns (load_at img at) (get_or img at 0) ok))

-- ---- all fields

pub more_is : (f : Field) (r : Fields) (l : List Field) → more f r ≡ fields l → (l' : List Field) × (r ≡ fields l') × (l ≡ f ∷ l')
unfolding more
more_is f (refused k o) l p = let z : ◌≡◌ {A = ℕ} 0 1 = cc in absurd (omega arith)
more_is f (fields l') l p = (l', refl, cc)

pub at_end : (b : Bool) (at : ℕ) (l : List Field) → pick b (refused Cut at) (fields []) ≡ fields l → l ≡ []
at_end true at l p = let z : ◌≡◌ {A = ℕ} 0 1 = cc in absurd (omega arith)
at_end false at l p = cc

there : (c : Counts) (ns : List (List ℕ)) (img : List ℕ) (at : ℕ) (f : Field) (m : ℕ) → field c ns img at ≡ Ok (f, m) → at < length img
unfolding field
there c ns img at f m p = by (leb 3 (length img - at)) refl
  where
    by : (b : Bool) → leb 3 (length img - at) ≡ b → at < length img
    by true e = let h : 3 ≤ length img - at = leb-true _ _ e in omega arith
    by false e = absurd (never (rw e at p))

-- a field that is read is within its count
counted : (b₁ b₂ b₃ b₄ : Bool) (g : Got Field) (e at : ℕ) (f : Field) (m : ℕ)
    → bind (pick b₁ (Ok (tt, at)) (Err Cut)) (λ (ok : Unit {0}) n. bind (pick b₂ (Ok (tt, n)) (Err BadTag)) (λ (ok : Unit {0}) n. bind (pick b₃ (Ok (tt, n)) (Err Cut)) (λ (ok : Unit {0}) n. bind (pick b₄ (Ok (tt, n)) (Err TooMany)) (λ (ok : Unit {0}) n. bind g (λ f m. Ok (f, e)))))) ≡ Ok (f, m)
    → b₄ ≡ true
counted true true true true g e at f m p = refl
counted true true true false g e at f m p = absurd (never p)
counted true true false b₄ g e at f m p = absurd (never p)
counted true false b₃ b₄ g e at f m p = absurd (never p)
counted false b₂ b₃ b₄ g e at f m p = absurd (never p)

pub is_within : (c : Counts) (ns : List (List ℕ)) (img : List ℕ) (at : ℕ) (f : Field) (m : ℕ) → field c ns img at ≡ Ok (f, m) → within c (get_or img at 0) ≡ true
unfolding field
is_within c ns img at f m p =
    counted (leb 3 (length img - at)) (placed c (get_or img at 0)) (leb (len_at img at) (length img - (at + 3))) (within c (get_or img at 0))
    (whole (payload c.names ns (get_or img at 0)) (load_at img at) 0) (at + 3 + len_at img at) at f m p

-- so the count of names stays within its limit
pub names_within : (c : Counts) (p : List ℕ) (t : ℕ) → within c t ≡ true → c.names ≤ 512 → (next c t p).names ≤ 512
unfolding next within
names_within c p t h small = by (eqb t 1) refl
  where
    by : (b : Bool) → eqb t 1 ≡ b → c.names + pick b 1 0 ≤ 512
    by false e = omega arith
    by true e = let q : ltb c.names 512 ≡ true = rw e at h in let k : c.names < 512 = ltb-true _ _ q in omega arith

pub from_is : (k : ℕ) (c : Counts) → c.names ≤ 512 → (ns : List (List ℕ)) (img : List ℕ) (at : ℕ) (l : List Field) → from k c ns img at ≡ fields l → l ≡ rest img at
unfolding from
from_is zero c small ns img at l p = let z : ◌≡◌ {A = ℕ} 0 1 = cc in absurd (omega arith)
from_is (suc k) c small ns img at l p = go (eqb at (length img)) refl (λ d few ms m l'. from_is k d few ms img m l')
  where
    after : (g : Got Field) → field c ns img at ≡ g → ((d : Counts) → d.names ≤ 512 → (ms : List (List ℕ)) (m : ℕ) (l' : List Field) → from k d ms img m ≡ fields l' → l' ≡ rest img m)
        → either g (λ j. refused j at) (λ f m. more f (from k (next c (get_or img at 0) (load_at img at)) (names_then ns (get_or img at 0) (load_at img at)) img m)) ≡ fields l
        → l ≡ rest img at
    after (Err j) e ih q = let z : ◌≡◌ {A = ℕ} 0 1 = cc in absurd (omega arith)
    after (Ok r) e ih q =
        let t = more_is r.0 _ l q in
        let i = field_is c small ns img at r.0 r.1 e in
        let tail : t.0 ≡ rest img (past img at) = ih _ (names_within c _ _ (is_within c ns img at r.0 r.1 e) small) _ r.1 t.0 t.1 ∙ ap (rest img) i.1 in
        let both : r.0 ∷ t.0 ≡ field_at img at ∷ rest img (past img at) = cc in
        t.2 ∙ (both ∙ sym (rest_more img at (there c ns img at r.0 r.1 e)))

    go : (b : Bool) → eqb at (length img) ≡ b → ((d : Counts) → d.names ≤ 512 → (ms : List (List ℕ)) (m : ℕ) (l' : List Field) → from k d ms img m ≡ fields l' → l' ≡ rest img m) → l ≡ rest img at
    go true e ih =
        let q : at ≡ length img = eqb-true _ _ e in
        let h : length img ≤ at = omega arith in
        at_end (c.body || ltb 0 c.ifs) at l (rw e at p) ∙ sym (rest_end img at h)
    go false e ih = after (field c ns img at) refl ih (rw e at p)

-- ---- the bridge

pub grouped_is : (r : Fields) (p : Program) → grouped r ≡ program p → (l : List Field) × (r ≡ fields l) × (p ≡ group l)
unfolding grouped
grouped_is (refused k o) p e = let z : ◌≡◌ {A = ℕ} 0 1 = cc in absurd (omega arith)
grouped_is (fields l) p e = (l, refl, cc)

pub not_long : (b : Bool) (r : Fields) (l : List Field) → pick b r (refused TooLong 0) ≡ fields l → r ≡ fields l
not_long true r l p = p
not_long false r l p = let z : ◌≡◌ {A = ℕ} 0 1 = cc in absurd (omega arith)

pub bridge : (img : List ℕ) (p : Program) → read img ≡ program p → p ≡ program_in img
unfolding read scan program_in
bridge img p e =
    let o = grouped_is (scan img) p e in
    o.2 ∙ ap group (from_is _ start (lit≤ tt) _ img 0 o.0 (not_long (leb (length img) 65536) _ _ o.1))
