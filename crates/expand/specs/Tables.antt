-- What the tables say of a program: sizes of operands, first bits of names, and where the gates stand.
use Rattle.std.specs.Prelude.{◌≡◌, refl, Bool, true, false, List, [], ◌∷◌, ◌++◌, map, ℕ, zero, suc, ◌+◌, ◌<◌, ◌≤◌, min, ltb, length, get_or, set, drop, replicate, Option, Some, None}
use Rattle.std.proofs.Common.{sym, ap, ap₂, ◌∙◌, subst, append_assoc, append-nil, arith, eq-eqb, ne_eqb, length-set, drop_of_length-le, drop-cons, get_or-set_same, get_or-set_other}
use Rattle.std.proofs.Math.Decide.{ℕ_discrete}
use Rattle.std.proofs.lemmas.List.{length-replicate, get_or-replicate}
use Rattle.std.proofs.Math.ListN.{get_or-eq_default}
use Rattle.rules.specs.declared.Reg.{Reg}
use Rattle.rules.specs.Basics.{pick}
use Rattle.rules.specs.declared.Named.{Named}
use Rattle.rules.specs.Syntax.{Gate, Decl, include, reg, gate, top, Program}
use Rattle.rules.specs.Checking.{Scope, header, is_gate, entered, entries, gates_of, header_errors, decl_errors, latest, argument, registers, top_scope, body_scope, Asked, size, assert_reg}
use Rattle.rules.specs.Run.{no_reg, sizes, latest_of, starts_from, bits_of, bit_of}
use Rattle.theorems.specs.Words.{Each}
use Rattle.theorems.specs.Search.{nil_parts}
use Rattle.theorems.specs.Agree.{sizes_cons, sizes_nil}
use Rattle.theorems.specs.Rows.{latest_each, fitting}
use Rattle.tables.specs.Tables.{reg_in}
use Rattle.counts.specs.Sums.{size_in, sizes_in}
use Rattle.counts.specs.Starts.{start_fill}
use Rattle.counts.specs.Places.{gate_list}
use Rattle.run.specs.Lines.{frame_fill}

-- ---- sizes

-- where an operand has a size, it is the table's
abbrev pub Measures : Scope → (regs : List ℕ) → Type 0
Measures C regs = (q : Asked) (n : ℕ) → assert_reg C.regs 0 q ≡ size n → n ≡ size_in regs q

pub sizes_same : (C : Scope) (regs : List ℕ) → Measures C regs → (qs : List Asked) (ns : List ℕ) → sizes C qs ≡ Some ns → ns ≡ sizes_in regs qs
unfolding sizes_in
sizes_same C regs M [] ns e = sizes_nil C ns e
sizes_same C regs M (q ∷ qs) ns e =
    let s = sizes_cons C q qs ns e in
    let a : s.head ≡ size_in regs q = M q s.head (s.one 0) in
    let b : s.tail ≡ sizes_in regs qs = sizes_same C regs M qs s.tail s.rest in
    s.all ∙ (rw (a, b) refl)

pub top_measures : (gs : List Gate) (ds : List Decl) (regs : List ℕ) → ((x : ℕ) → latest (registers ds) x ≡ reg_in regs x) → Measures (top_scope gs ds) regs
unfolding size_in assert_reg top_scope
top_measures gs ds regs er q n e = rw (← er q.operand.name, e) refl

reg_none : (x : ℕ) → reg_in [] x ≡ None
unfolding reg_in
reg_none x = go (ltb x 512)
  where
    go : (b : Bool) → ◌≡◌ {A = Option Reg} (pick b None None) None
    go true = refl
    go false = refl

pub size_one : (q : Asked) → size_in [] q ≡ 1
unfolding size_in assert_reg
size_one q = rw (reg_none q.operand.name) refl

-- an argument is quantum and of size 1
arguments : (l : List Named) → Each (λ r. (r.size ≡ 1) × (r.classical ≡ false)) (map argument l)
arguments [] = tt
arguments (a ∷ l) = ((refl, refl), arguments l)

pub body_single : (gs : List Gate) (g : Gate) (q : Asked) (n : ℕ) → assert_reg (body_scope gs g).regs 0 q ≡ size n → (n ≡ 1) × (q.classical ≡ false)
unfolding body_scope
body_single gs g q n e =
    let f = fitting (latest (map argument g.args)) 0 q n e in
    let r = latest_each (λ r. (r.size ≡ 1) × (r.classical ≡ false)) (map argument g.args) q.operand.name f.row (arguments g.args) f.found in
    let o : 0 < f.row.size = omega (arith, r.0) in
    (omega (arith, f.inside, f.some o, r.0), sym f.kind ∙ r.1)

pub body_measures : (gs : List Gate) (g : Gate) → Measures (body_scope gs g) []
body_measures gs g q n e = (body_single gs g q n e).0 ∙ sym (size_one q)

-- ---- first bits

-- the first k rows entered
unfoldable up_to : List Reg → (starts t : List ℕ) → ℕ → List ℕ
up_to rs ss t zero = t
up_to rs ss t (suc k) = set (up_to rs ss t k) (get_or rs k no_reg).name (get_or ss k 0)

up_to_length : (rs : List Reg) (ss t : List ℕ) (k : ℕ) → length (up_to rs ss t k) ≡ length t
unfolding up_to
up_to_length rs ss t zero = refl
up_to_length rs ss t (suc k) = length-set (up_to rs ss t k) (get_or rs k no_reg).name (get_or ss k 0) ∙ up_to_length rs ss t k

up_to_at : (rs : List Reg) (ss t : List ℕ) (other x : ℕ) → x < length t → get_or t x 0 ≡ get_or ss other 0 → (k : ℕ) → get_or (up_to rs ss t k) x 0 ≡ get_or ss (latest_of other k rs x) 0
unfolding up_to latest_of
up_to_at rs ss t other x h z zero = z
up_to_at rs ss t other x h z (suc k) = elim (ℕ_discrete (get_or rs k no_reg).name x) [
  | yes e ↦
      let l : x < length (up_to rs ss t k) = omega (arith, up_to_length rs ss t k) in
      rw (e, eq-eqb x x refl) (get_or-set_same (up_to rs ss t k) x (get_or ss k 0) 0 l)
  | no e ↦
      rw (ne_eqb (get_or rs k no_reg).name x e) (get_or-set_other (up_to rs ss t k) (get_or rs k no_reg).name x (get_or ss k 0) 0 (λ q. e (sym q)) ∙ up_to_at rs ss t other x h z k)
]

-- rows entered from the front
frame_up_to : (rs : List Reg) (ss t : List ℕ) (m k : ℕ) → k + m ≡ length rs → frame_fill (drop k rs) (drop k ss) (up_to rs ss t k) ≡ up_to rs ss t (length rs)
unfolding frame_fill up_to
frame_up_to rs ss t zero k e =
    let l : length rs ≤ k = omega arith in
    let z : k ≡ length rs = omega arith in
    rw (drop_of_length-le rs {i = k} l) (ap (up_to rs ss t) z)
frame_up_to rs ss t (suc m) k e =
    let l : k < length rs = omega arith in
    ap (λ (d : List Reg). frame_fill d (drop k ss) (up_to rs ss t k)) (drop-cons rs k no_reg l) ∙ step (drop_drop k ss) (drop_first k ss) ∙ frame_up_to rs ss t m (suc k) (omega arith)
  where
    drop_drop : (i : ℕ) (l : List ℕ) → drop 1 (drop i l) ≡ drop (suc i) l
    drop_drop zero l = refl
    drop_drop (suc i) [] = refl
    drop_drop (suc i) (x ∷ l) = drop_drop i l

    drop_first : (i : ℕ) (l : List ℕ) → get_or (drop i l) 0 0 ≡ get_or l i 0
    drop_first zero l = refl
    drop_first (suc i) [] = refl
    drop_first (suc i) (x ∷ l) = drop_first i l

    step : drop 1 (drop k ss) ≡ drop (suc k) ss → get_or (drop k ss) 0 0 ≡ get_or ss k 0
        → frame_fill (get_or rs k no_reg ∷ drop (suc k) rs) (drop k ss) (up_to rs ss t k) ≡ frame_fill (drop (suc k) rs) (drop (suc k) ss) (up_to rs ss t (suc k))
    step a b = ap₂ (λ (m : List ℕ) (v : ℕ). frame_fill (drop (suc k) rs) m (set (up_to rs ss t k) (get_or rs k no_reg).name v)) a b

zeros_at : (n x : ℕ) → x < n → ◌≡◌ {A = ℕ} (get_or (replicate n 0) x 0) 0
zeros_at n x h = get_or-replicate n x 0 0 h

-- a table of 512 zeros with the rows entered says where the bits of a name begin
pub frame_bits : (rs : List Reg) (ss : List ℕ) (x : ℕ) → x < 512 → length ss ≡ length rs → bit_of rs ss x ≡ get_or (frame_fill rs ss (replicate 512 0)) x 0
unfolding bit_of up_to
frame_bits rs ss x h len =
    let t : List ℕ = replicate 512 0 in
    let l : length t ≡ 512 = length-replicate {A = ℕ} 512 0 in
    let a : length ss ≤ length rs = omega arith in
    let z : get_or t x 0 ≡ get_or ss (length rs) 0 = zeros_at 512 x h ∙ sym (get_or-eq_default ss 0 a) in
    sym (up_to_at rs ss t (length rs) x (omega arith) z (length rs)) ∙ ap (λ (u : List ℕ). get_or u x 0) (sym (frame_up_to rs ss t (length rs) 0 (omega arith)))

starts_length : (q c : ℕ) (rs : List Reg) → length (starts_from q c rs) ≡ length rs
unfolding starts_from
starts_length q c [] = refl
starts_length q c (r ∷ rs) = go (λ m n. starts_length m n rs) r.classical
  where
    go : ((m n : ℕ) → length (starts_from m n rs) ≡ length rs) → (b : Bool) → length (pick b (c ∷ starts_from q (c + r.size) rs) (q ∷ starts_from (q + r.size) c rs)) ≡ suc (length rs)
    go ih true = ap suc (ih q (c + r.size))
    go ih false = ap suc (ih (q + r.size) c)

-- below the limit the sums stop nowhere
start_frame : (q c : ℕ) (rs : List Reg) (t : List ℕ) → q + bits_of false rs ≤ 4096 → c + bits_of true rs ≤ 4096 → start_fill q c rs t ≡ frame_fill rs (starts_from q c rs) t
unfolding start_fill frame_fill starts_from bits_of
start_frame q c [] t h k = refl
start_frame q c (r ∷ rs) t h k = go (λ m n v. start_frame m n rs v) r.classical refl
  where
    go : ((m n : ℕ) (v : List ℕ) → m + bits_of false rs ≤ 4096 → n + bits_of true rs ≤ 4096 → start_fill m n rs v ≡ frame_fill rs (starts_from m n rs) v) → (b : Bool) → r.classical ≡ b
        → pick b (start_fill q (min 4097 (c + r.size)) rs (set t r.name c)) (start_fill (min 4097 (q + r.size)) c rs (set t r.name q))
        ≡ frame_fill (r ∷ rs) (pick b (c ∷ starts_from q (c + r.size) rs) (q ∷ starts_from (q + r.size) c rs)) t
    go ih true e =
        let h' : q + (0 + bits_of false rs) ≤ 4096 = subst (λ (b : Bool). q + (pick b 0 r.size + bits_of false rs) ≤ 4096) e h in
        let k' : c + (r.size + bits_of true rs) ≤ 4096 = subst (λ (b : Bool). c + (pick b r.size 0 + bits_of true rs) ≤ 4096) e k in
        let m : min 4097 (c + r.size) ≡ c + r.size = omega arith in
        rw m (ih q (c + r.size) (set t r.name c) (omega arith) (omega arith))
    go ih false e =
        let h' : q + (r.size + bits_of false rs) ≤ 4096 = subst (λ (b : Bool). q + (pick b 0 r.size + bits_of false rs) ≤ 4096) e h in
        let k' : c + (0 + bits_of true rs) ≤ 4096 = subst (λ (b : Bool). c + (pick b r.size 0 + bits_of true rs) ≤ 4096) e k in
        let m : min 4097 (q + r.size) ≡ q + r.size = omega arith in
        rw m (ih (q + r.size) c (set t r.name q) (omega arith) (omega arith))

pub start_bits : (rs : List Reg) (x : ℕ) → x < 512 → bits_of false rs ≤ 4096 → bits_of true rs ≤ 4096 → bit_of rs (starts_from 0 0 rs) x ≡ get_or (start_fill 0 0 rs (replicate 512 0)) x 0
start_bits rs x h a b =
    frame_bits rs (starts_from 0 0 rs) x h (starts_length 0 0 rs) ∙ ap (λ (t : List ℕ). get_or t x 0) (sym (start_frame 0 0 rs (replicate 512 0) (omega arith) (omega arith)))

-- ---- gates: without errors every field is a first entry

all_entered : (gs : List Gate) (ds : List Decl) → decl_errors gs ds ≡ [] → entries gs ds ≡ gs ++ gate_list ds
unfolding entries gate_list decl_errors entered header
all_entered gs [] e = sym (append-nil gs)
all_entered gs (include sp x ∷ ds) e = all_entered gs ds e
all_entered gs (reg c d o ∷ ds) e = all_entered gs ds e
all_entered gs (gate g ∷ ds) e =
    let a = nil_parts (header_errors (header gs g.name) g) (decl_errors (entered gs g) ds) e in
    go (λ l. all_entered l ds) (is_gate gs g.name) refl a.0 a.1
  where
    go : ((l : List Gate) → decl_errors l ds ≡ [] → entries l ds ≡ l ++ gate_list ds) → (b : Bool) → is_gate gs g.name ≡ b → header_errors (header gs g.name) g ≡ [] → decl_errors (entered gs g) ds ≡ [] → entries (entered gs g) ds ≡ gs ++ (g ∷ gate_list ds)
    go ih true q h i = let w = rw q at h in let k : ◌≡◌ {A = ℕ} 0 1 = cc in absurd (omega arith)
    go ih false q h i = ih (entered gs g) i ∙ (rw q (append_assoc gs (g ∷ []) (gate_list ds)))
all_entered gs (top s ∷ ds) e = all_entered gs ds e

pub gates_listed : (p : Program) → decl_errors [] p.decls ≡ [] → gates_of p ≡ gate_list p.decls
unfolding gates_of
gates_listed p e = all_entered [] p.decls e
