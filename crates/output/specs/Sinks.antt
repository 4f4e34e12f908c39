-- Fields written one after another and counted: errors, and the entries of a run. `w` gives the bytes of one.
use Rattle.std.specs.Prelude.{◌≡◌, refl, ℕ, length}
use Rattle.std.proofs.Common.{ap, sym, ◌∙◌, length-append}
use mathlib.Core.List.{List, [], ◌∷◌, ◌++◌, map, append_assoc, append-nil, map-append}
use native.Mathlib.Omega.{arith}
use Rattle.rules.specs.Errors.{Error, error_field}
use Rattle.rules.specs.Answers.{flat}
use Rattle.output.specs.Bytes.{plus, Wrote, wrote_none, wrote_then}
use Rattle.output.specs.declared.Sink.{Sink}

flat_append : (a b : List (List ℕ)) → flat (a ++ b) ≡ flat a ++ flat b
unfolding flat
flat_append [] b = refl
flat_append (f ∷ a) b = ap (λ (l : List ℕ). f ++ l) (flat_append a b) ∙ sym (append_assoc f (flat a) (flat b))

module _ {E : Type 0} (w : E → List ℕ) where
  -- From buffer o and counts s, the items es lead to o' and s': their bytes laid over o as far as they fit, and counted whole.
  pub record Put (o : List ℕ) (s : Sink) (es : List E) (o' : List ℕ) (s' : Sink) : Type 0 where
    pub wrote : Wrote o s.bytes (flat (map w es)) o' s'.bytes
    pub count : s'.items ≡ plus s.items (length es)

  pub put_none : (o : List ℕ) (s : Sink) → Put o s [] o s
  unfolding flat
  put_none o s = record { wrote = wrote_none o s.bytes; count = omega arith }

  pub put_one : {o o' : List ℕ} {s s' : Sink} (e : E) → Wrote o s.bytes (w e) o' s'.bytes → s'.items ≡ plus s.items 1 → Put o s (e ∷ []) o' s'
  unfolding flat
  put_one e h c = record { wrote = rw append-nil h; count = c }

  pub put_then : {o o₁ o₂ : List ℕ} {s s₁ s₂ : Sink} {a b : List E} → Put o s a o₁ s₁ → Put o₁ s₁ b o₂ s₂ → Put o s (a ++ b) o₂ s₂
  put_then {a = a} {b = b} h k = record {
    wrote = rw (map-append w a b, flat_append (map w a) (map w b)) (wrote_then h.wrote k.wrote);
    count = omega (arith, h.count, k.count, length-append a b);
  }

  pub put_same : {o o' : List ℕ} {s s' : Sink} {a b : List E} → Put o s a o' s' → a ≡ b → Put o s b o' s'
  put_same h e = rw (← e) h

abbrev pub Said : List ℕ → Sink → List Error → List ℕ → Sink → Type 0
Said = Put error_field

-- nothing yet
abbrev pub start : Sink
start = record { items = 0; bytes = 0 }
