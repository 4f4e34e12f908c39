-- What writing bytes at a place of a lent buffer leaves. A place stops at the largest number, which no buffer reaches, so that a count never wraps and
-- no writer demands room; that a program's list stays below it is shown once, for the whole.
use Rattle.std.specs.Prelude.{◌≡◌, refl, List, [], ◌∷◌, ◌++◌, ℕ, suc, ◌+◌, ◌≤◌, min, max, length, set}
use Rattle.std.proofs.Common.{ap, sym, ◌∙◌, add-zero, add-suc, suc-add, arith, length-append}
use Rattle.std.proofs.Math.Decide.{dec_le}
use Rattle.std.proofs.lemmas.List.Edits.{sets}
use Rattle.std.proofs.Math.Seq.{set_out, length-sets}

-- the largest number of 64 bits
abbrev pub most : ℕ
most = 18446744073709551615

-- a sum that stops there
abbrev pub plus : ℕ → ℕ → ℕ
plus a n = max a (min most (a + n))

-- o' is o with the bytes bs laid over it from place p on, as far as they fit; q is the place after them.
-- (`sets` stores one by one, and a store past the end changes nothing. Every lent buffer is at most `most` long.)
pub record Wrote (o : List ℕ) (p : ℕ) (bs : List ℕ) (o' : List ℕ) (q : ℕ) : Type 0 where
  pub buffer : length o ≤ most → o' ≡ sets o p bs
  pub long : length o' ≡ length o
  pub place : q ≡ plus p (length bs)

-- laid over in two parts
sets_append : (o : List ℕ) (p : ℕ) (a b : List ℕ) → sets (sets o p a) (p + length a) b ≡ sets o p (a ++ b)
sets_append o p [] b = ap (λ (k : ℕ). sets o k b) (add-zero p)
sets_append o p (x ∷ a) b =
    ap (λ (k : ℕ). sets (sets (set o p x) (suc p) a) k b) (add-suc p (length a) ∙ sym (suc-add p (length a)))
    ∙ sets_append (set o p x) (suc p) a b

sets_out : (o : List ℕ) (p : ℕ) (b : List ℕ) → length o ≤ p → sets o p b ≡ o
sets_out o p [] h = refl
sets_out o p (x ∷ b) h = ap (λ (l : List ℕ). sets l (suc p) b) (set_out o p x h) ∙ sets_out o (suc p) b (omega arith)

-- the place may stop at the most
sets_stop : (o : List ℕ) (p n q : ℕ) (b : List ℕ) → length o ≤ most → q ≡ plus p n → sets o q b ≡ sets o (p + n) b
sets_stop o p n q b h e = elim (dec_le (p + n) most) [
  | yes l ↦ let z : q ≡ p + n = omega arith in ap (λ (k : ℕ). sets o k b) z
  | no l ↦ sets_out o q b (omega arith) ∙ sym (sets_out o (p + n) b (omega arith))
]

pub wrote_then : {o o₁ o₂ a b : List ℕ} {p q r : ℕ} → Wrote o p a o₁ q → Wrote o₁ q b o₂ r → Wrote o p (a ++ b) o₂ r
wrote_then {o} {o₁} {o₂} {a} {b} {p} {q} {r} v w = record {
  buffer = λ h.
      w.buffer (omega (arith, v.long))
      ∙ ap (λ (x : List ℕ). sets x q b) (v.buffer h)
      ∙ sets_stop (sets o p a) p (length a) q b (omega (arith, length-sets o p a)) v.place
      ∙ sets_append o p a b;
  long = w.long ∙ v.long;
  place = omega (arith, v.place, w.place, length-append a b);
}

pub wrote_none : (o : List ℕ) (p : ℕ) → Wrote o p [] o p
wrote_none o p = record { buffer = λ h. refl; long = refl; place = omega arith }
