-- What a writer's methods leave: the bytes laid over its buffer and counted, by the words of Bytes and Sinks. Each word says as well that the writer still
-- holds the same lent buffer (`same`), so that whoever lent it learns what it ends as.
use Rattle.std.specs.Prelude.{◌≡◌, refl, ℕ}
use Rattle.std.proofs.Common.{sym, ◌∙◌}
use mathlib.Core.List.{List, [], ◌∷◌, ◌++◌}
use Rattle.rules.specs.Errors.{Error, error_field}
use Rattle.output.specs.Bytes.{plus, Wrote, wrote_none, wrote_then}
use Rattle.output.specs.Sinks.{Put, put_none, put_one, put_then}
use Rattle.output.specs.declared.Writer.{Writer}

-- From w, the bytes bs lead to w', in the midst of a field.
pub record Writes (w : Writer) (bs : List ℕ) (w' : Writer) : Type 0 where
  pub same : w'.out.ghost_name ≡ w.out.ghost_name
  pub wrote : Wrote w.out.now w.sink.bytes bs w'.out.now w'.sink.bytes
  pub count : w'.sink.items ≡ w.sink.items

pub writes_none : (w : Writer) → Writes w [] w
writes_none w = record { same = refl; wrote = wrote_none w.out.now w.sink.bytes; count = refl }

pub writes_then : {w w₁ w₂ : Writer} {a b : List ℕ} → Writes w a w₁ → Writes w₁ b w₂ → Writes w (a ++ b) w₂
writes_then h k = record { same = k.same ∙ h.same; wrote = wrote_then h.wrote k.wrote; count = k.count ∙ h.count }

pub writes_same : {w w' : Writer} {a b : List ℕ} → Writes w a w' → a ≡ b → Writes w b w'
writes_same h e = rw (← e) h

-- From w, the bytes bs of one field more lead to w', or those of its front.
pub record Field (w : Writer) (bs : List ℕ) (w' : Writer) : Type 0 where
  pub same : w'.out.ghost_name ≡ w.out.ghost_name
  pub wrote : Wrote w.out.now w.sink.bytes bs w'.out.now w'.sink.bytes
  pub count : w'.sink.items ≡ plus w.sink.items 1

pub field_then : {w w₁ w₂ : Writer} {a b : List ℕ} → Field w a w₁ → Writes w₁ b w₂ → Field w (a ++ b) w₂
field_then h k = record { same = k.same ∙ h.same; wrote = wrote_then h.wrote k.wrote; count = k.count ∙ h.count }

pub field_same : {w w' : Writer} {a b : List ℕ} → Field w a w' → a ≡ b → Field w b w'
field_same h e = rw (← e) h

module _ {E : Type 0} (f : E → List ℕ) where
  -- From w, the items es lead to w'.
  pub record Puts (w : Writer) (es : List E) (w' : Writer) : Type 0 where
    pub same : w'.out.ghost_name ≡ w.out.ghost_name
    pub put : Put f w.out.now w.sink es w'.out.now w'.sink

  pub puts_none : (w : Writer) → Puts w [] w
  puts_none w = record { same = refl; put = put_none f w.out.now w.sink }

  pub puts_one : {w w' : Writer} (e : E) → Field w (f e) w' → Puts w (e ∷ []) w'
  puts_one e h = record { same = h.same; put = put_one f e h.wrote h.count }

  pub puts_then : {w w₁ w₂ : Writer} {a b : List E} → Puts w a w₁ → Puts w₁ b w₂ → Puts w (a ++ b) w₂
  puts_then h k = record { same = k.same ∙ h.same; put = put_then f h.put k.put }

  pub puts_same : {w w' : Writer} {a b : List E} → Puts w a w' → a ≡ b → Puts w b w'
  puts_same h e = rw (← e) h

  -- A loop that puts `all` from w₀ stands at w, with `rest` left to put.
  abbrev pub Owes : Writer → List E → Writer → List E → Type 0
  Owes w₀ all w rest = (w' : Writer) → Puts w rest w' → Puts w₀ all w'

  pub owes_all : (w : Writer) (es : List E) → Owes w es w es
  owes_all w es = λ w' h. h

  pub owes_same : (w : Writer) {all rest : List E} → all ≡ rest → Owes w all w rest
  owes_same w e = λ w' h. puts_same h (sym e)

  pub owes_less : {w₀ w w₁ : Writer} {all rest a b : List E} → Owes w₀ all w rest → rest ≡ a ++ b → Puts w a w₁ → Owes w₀ all w₁ b
  owes_less h e k = λ w' l. h w' (puts_same (puts_then k l) (sym e))

  pub owes_none : {w₀ w : Writer} {all rest : List E} → Owes w₀ all w rest → rest ≡ [] → Puts w₀ all w
  owes_none {w = w} h e = h w (puts_same (puts_none w) (sym e))

abbrev pub Says : Writer → List Error → Writer → Type 0
Says = Puts error_field

-- one error's field
pub says_one : {w w' : Writer} (e : Error) → Field w (error_field e) w' → Says w (e ∷ []) w'
says_one e h = puts_one error_field e h
