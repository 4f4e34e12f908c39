-- The rows of a scope: which row a name means, and that the bits it names are there.
use Rattle.rules.specs.declared.Header.{Header}
use Rattle.std.specs.Prelude.{◌≡◌, refl, Bool, true, false, List, [], ◌∷◌, ◌++◌, map, ℕ, zero, suc, ◌+◌, ◌≤◌, ◌<◌, T, ltb, eqb, length, get_or, take, Option, Some, None}
use Rattle.std.proofs.Common.{sym, ap, ◌∙◌, subst, le_refl, le_of_suc-le-suc, not-suc-le-zero, arith, ltb→lt, take-suc}
use Rattle.std.specs.Bool.{beq}
use Rattle.std.proofs.lemmas.List.{length-map}
use Rattle.std.proofs.Math.Seq.{take-length}
use Rattle.rules.specs.declared.Reg.{Reg}
use Rattle.rules.specs.Basics.{pick}
use Rattle.rules.specs.declared.Named.{Named}
use Rattle.rules.specs.Syntax.{Gate, Decl}
use Rattle.rules.specs.Errors.{Error}
use Rattle.rules.specs.Checking.{header, latest, later, argument, registers, is_param, top_scope, body_scope, Asked, size, bad, found_size, assert_reg}
use Rattle.rules.specs.Run.{no_reg, latest_of, starts_from, bits_of, bit_of, Place, start_of, body_place, top_place}
use Rattle.theorems.specs.Words.{Each}
use Rattle.theorems.specs.Search.{pick_same}

-- ---- lists

pub each_at : {A : Type 0} (P : A → Type 0) (l : List A) (d : A) (i : ℕ) → Each P l → i < length l → P (get_or l i d)
each_at P [] d i e h = absurd (not-suc-le-zero h)
each_at P (x ∷ xs) d zero e h = e.0
each_at P (x ∷ xs) d (suc i) e h = each_at P xs d i e.1 (le_of_suc-le-suc h)

-- ---- the latest row

row_row : (r s : Reg) → Some r ≡ Some s → r ≡ s
row_row r s e = cc

no_row : (s : Reg) → None ≡ Some s → ⊥
no_row s e = let k : ◌≡◌ {A = ℕ} 0 1 = cc in omega arith

pub latest_each : (P : Reg → Type 0) (rs : List Reg) (x : ℕ) (r : Reg) → Each P rs → latest rs x ≡ Some r → P r
unfolding latest
latest_each P [] x r a e = absurd (no_row r e)
latest_each P (s ∷ rs) x r a e = go (latest rs x) (eqb s.name x) (latest_each P rs x r a.1) e
  where
    go : (f : Option Reg) (b : Bool) → (f ≡ Some r → P r) → later f (pick b (Some s) None) ≡ Some r → P r
    go (Some t) b ih e = ih e
    go None true ih e = subst P (row_row s r e) a.0
    go None false ih e = absurd (no_row r e)

pub latest_snoc : (rs : List Reg) (s : Reg) (x : ℕ) → latest (rs ++ (s ∷ [])) x ≡ pick (eqb s.name x) (Some s) (latest rs x)
unfolding latest
latest_snoc [] s x = refl
latest_snoc (r ∷ rs) s x = ap (λ (f : Option Reg). later f (pick (eqb r.name x) (Some r) None)) (latest_snoc rs s x) ∙ go (eqb s.name x) _
  where
    go : (b : Bool) (f : Option Reg) → later (pick b (Some s) (latest rs x)) f ≡ pick b (Some s) (later (latest rs x) f)
    go true f = refl
    go false f = refl

-- its number is the one that the run takes
latest_front : (other k : ℕ) (rs : List Reg) (x : ℕ) (r : Reg) → k ≤ length rs → latest (take k rs) x ≡ Some r
    → (latest_of other k rs x < length rs) × (get_or rs (latest_of other k rs x) no_reg ≡ r)
unfolding latest_of latest
latest_front other zero rs x r h e = absurd (no_row r e)
latest_front other (suc k) rs x r h e = go (eqb (get_or rs k no_reg).name x) (latest_front other k rs x r (omega arith)) (sym (split (omega arith)) ∙ e)
  where
    split : k < length rs → latest (take (suc k) rs) x ≡ pick (eqb (get_or rs k no_reg).name x) (Some (get_or rs k no_reg)) (latest (take k rs) x)
    split h = ap (λ (l : List Reg). latest l x) (take-suc rs k no_reg h) ∙ latest_snoc (take k rs) (get_or rs k no_reg) x

    go : (b : Bool) → (latest (take k rs) x ≡ Some r → (latest_of other k rs x < length rs) × (get_or rs (latest_of other k rs x) no_reg ≡ r))
        → pick b (Some (get_or rs k no_reg)) (latest (take k rs) x) ≡ Some r
        → (pick b k (latest_of other k rs x) < length rs) × (get_or rs (pick b k (latest_of other k rs x)) no_reg ≡ r)
    go true ih e = (h, row_row (get_or rs k no_reg) r e)
    go false ih e = ih e

latest_number : (other : ℕ) (rs : List Reg) (x : ℕ) (r : Reg) → latest rs x ≡ Some r
    → (latest_of other (length rs) rs x < length rs) × (get_or rs (latest_of other (length rs) rs x) no_reg ≡ r)
latest_number other rs x r e = latest_front other (length rs) rs x r (le_refl (length rs)) (ap (λ (l : List Reg). latest l x) (take-length rs) ∙ e)

-- ---- an operand of size n lies in its row

pub record Fitting (find : ℕ → Option Reg) (q : Asked) (n : ℕ) : Type 0 where
  pub row : Reg
  pub found : find q.operand.name ≡ Some row
  pub kind : row.classical ≡ q.classical
  pub inside : pick q.operand.indexed q.operand.index 0 + n ≤ row.size
  pub some : 0 < row.size → 0 < n

beq_eq : (a b : Bool) → T (beq a b) → a ≡ b
beq_eq true true t = refl
beq_eq true false t = absurd t
beq_eq false true t = absurd t
beq_eq false false t = refl

size_size : (m n : ℕ) → size m ≡ size n → m ≡ n
size_size m n e = cc

bad_size : (x : Error) (n : ℕ) → bad x ≡ size n → ⊥
bad_size x n e = let k : ◌≡◌ {A = ℕ} 0 1 = cc in omega arith

row_fits : (kind indexed inside : Bool) (j n m : ℕ) (d e : Error) → (T inside → j < m)
    → pick kind (pick indexed (pick inside (size 1) (bad d)) (size m)) (bad e) ≡ size n → T kind × (pick indexed j 0 + n ≤ m) × (0 < m → 0 < n)
row_fits true true true j n m d e h q = let k = size_size 1 n q in let l = h tt in (tt, omega arith, λ _. omega arith)
row_fits true true false j n m d e h q = absurd (bad_size d n q)
row_fits true false c j n m d e h q = let k = size_size m n q in (tt, omega arith, λ l. omega arith)
row_fits false b c j n m d e h q = absurd (bad_size e n q)

pub fitting : (find : ℕ → Option Reg) (stmt : ℕ) (q : Asked) (n : ℕ) → assert_reg find stmt q ≡ size n → Fitting find q n
unfolding assert_reg
fitting find stmt q n e = go (find q.operand.name) refl e
  where
    go : (f : Option Reg) → find q.operand.name ≡ f → found_size f stmt q ≡ size n → Fitting find q n
    go None f e = absurd (bad_size _ n e)
    go (Some r) f e =
        let i : ℕ = q.operand.index in
        let a = row_fits (beq r.classical q.classical) q.operand.indexed (ltb i r.size) i n r.size _ _ (ltb→lt i r.size) e in
        record { row = r; found = f; kind = beq_eq r.classical q.classical a.0; inside = a.1; some = a.2 }

-- ---- the bits of an operand are below the total of its kind

-- every operand with a size names bits that there are, one at least
abbrev pub Bounded : (Bool → ℕ) → Place → Type 0
Bounded tot P = (q : Asked) (n : ℕ) → assert_reg P.scope.regs 0 q ≡ size n → (0 < n) × (start_of P q.operand + n ≤ tot q.classical)

-- enough that every row does, where names mean rows that begin at the starts
abbrev pub RowsBounded : (Bool → ℕ) → List Reg → List ℕ → Type 0
RowsBounded tot rs starts =
    (i : ℕ) → i < length rs → (0 < (get_or rs i no_reg).size) × (get_or starts i 0 + (get_or rs i no_reg).size ≤ tot (get_or rs i no_reg).classical)

bounded : (tot : Bool → ℕ) (gates : ℕ → Option Header) (params : ℕ → Bool) (rs : List Reg) (starts : List ℕ) → RowsBounded tot rs starts
    → Bounded tot (record { scope = record { gates = gates; regs = latest rs; params = params }; bit = bit_of rs starts })
unfolding start_of bit_of
bounded tot gates params rs starts R q n e =
    let f = fitting (latest rs) 0 q n e in
    let i : ℕ = latest_of (length rs) (length rs) rs q.operand.name in
    let a = latest_number (length rs) rs q.operand.name f.row f.found in
    let b = subst (λ (r : Reg). (0 < r.size) × (get_or starts i 0 + r.size ≤ tot r.classical)) a.1 (R i a.0) in
    (f.some b.0, omega (arith, b.1, f.inside, ap tot f.kind))

bits_cons : (k b : Bool) (r : Reg) (rs : List Reg) → r.classical ≡ b → bits_of k (r ∷ rs) ≡ pick (beq k b) r.size 0 + bits_of k rs
unfolding bits_of
bits_cons true true r rs e = rw e refl
bits_cons true false r rs e = rw e refl
bits_cons false true r rs e = rw e refl
bits_cons false false r rs e = rw e refl

starts_bound : (q c : ℕ) (rs : List Reg) (i : ℕ) → i < length rs
    → get_or (starts_from q c rs) i 0 + (get_or rs i no_reg).size ≤ pick (get_or rs i no_reg).classical c q + bits_of (get_or rs i no_reg).classical rs
unfolding starts_from
starts_bound q c [] i h = absurd (not-suc-le-zero h)
starts_bound q c (r ∷ rs) zero h = go r.classical refl
  where
    go : (b : Bool) → r.classical ≡ b
        → get_or (pick b (c ∷ starts_from q (c + r.size) rs) (q ∷ starts_from (q + r.size) c rs)) 0 0 + r.size ≤ pick b c q + bits_of b (r ∷ rs)
    go true e = omega (arith, bits_cons true true r rs e)
    go false e = omega (arith, bits_cons false false r rs e)
starts_bound q c (r ∷ rs) (suc i) h =
    let b = le_of_suc-le-suc h in
    go r.classical refl (get_or rs i no_reg).classical (starts_bound q (c + r.size) rs i b) (starts_bound (q + r.size) c rs i b)
  where
    go : (b : Bool) → r.classical ≡ b → (k : Bool)
        → get_or (starts_from q (c + r.size) rs) i 0 + (get_or rs i no_reg).size ≤ pick k (c + r.size) q + bits_of k rs
        → get_or (starts_from (q + r.size) c rs) i 0 + (get_or rs i no_reg).size ≤ pick k c (q + r.size) + bits_of k rs
        → get_or (pick b (c ∷ starts_from q (c + r.size) rs) (q ∷ starts_from (q + r.size) c rs)) (suc i) 0 + (get_or rs i no_reg).size
        ≤ pick k c q + bits_of k (r ∷ rs)
    go true e true x y = omega (arith, bits_cons true true r rs e)
    go true e false x y = omega (arith, bits_cons false true r rs e)
    go false e true x y = omega (arith, bits_cons true false r rs e)
    go false e false x y = omega (arith, bits_cons false false r rs e)

-- at top level: the registers in declaration order, none of size 0
pub top_bounded : (gs : List Gate) (ds : List Decl) → Each (λ r. 0 < r.size) (registers ds) → Bounded (λ c. bits_of c (registers ds)) (top_place gs ds)
unfolding top_place top_scope
top_bounded gs ds e =
    let rs : List Reg = registers ds in
    bounded (λ c. bits_of c rs) (header gs) (λ x. false) rs (starts_from 0 0 rs) (λ i h.
    (each_at (λ r. 0 < r.size) rs no_reg i e h, omega (arith, starts_bound 0 0 rs i h, pick_same (get_or rs i no_reg).classical 0)))

-- in a body: each argument is one quantum bit
pub arguments : (l : List Named) → Each (λ r. (r.size ≡ 1) × (r.classical ≡ false)) (map argument l)
arguments [] = tt
arguments (a ∷ l) = ((refl, refl), arguments l)

pub body_bounded : (tot : Bool → ℕ) (gs : List Gate) (g : Gate) (qs : List ℕ) → length qs ≡ length g.args → Each (λ q. q < tot false) qs
    → Bounded tot (body_place gs g qs)
unfolding body_place body_scope
body_bounded tot gs g qs len a =
    bounded tot (header gs) (is_param g.params) (map argument g.args) qs (λ i h.
    let r = each_at (λ r. (r.size ≡ 1) × (r.classical ≡ false)) (map argument g.args) no_reg i (arguments g.args) h in
    let q = each_at (λ q. q < tot false) qs 0 i a (omega (arith, len, length-map g.args argument)) in
    (omega (arith, r.0), omega (arith, r.0, ap tot r.1)))
