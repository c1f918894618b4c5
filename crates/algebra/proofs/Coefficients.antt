-- A value by a fold, and turns of loops that compute b + (X - a)·f and f + c·g in place, one coefficient at a time.
-- Assumes nothing.
use Rattle.std.proofs.Common.{◌≡◌, ℕ, ◌+◌, ◌<◌, ◌≤◌, List, [], ◌∷◌, ◌++◌, length, get_or, take, drop, set, reverse, sym, refl, ap, ◌∙◌, ap₂, append_assoc, ⊎_elim, arith, drop-set-lt}
use Rattle.std.specs.List.{fold}
use Rattle.std.proofs.lemmas.Bool.{cases_lt}
use Rattle.std.proofs.lemmas.List.Sums.{fold-append}
use Rattle.std.proofs.lemmas.List.{drop_more, take_more, take_more_set, length-take-le, reverse-append}
use Rattle.algebra.specs.Field.{Field}
use Rattle.algebra.specs.Polynomial.{eval, plus, scale, lin, times_root}
use Rattle.algebra.proofs.Unique.{length_plus_left, length_plus_right, length_scale}

module _ {K : Type 0} (X : Field K) where
  open X use {add as ◌⊕◌, mul as ◌⊗◌, neg as ⊖◌}

  infixl 65 ◌⊕◌
  infixl 70 ◌⊗◌
  infix 80 ⊖◌
  -- the value of f at x, from the last coefficient to the first
  pub fold_is_value : (f : List K) (x z : K) → z ≡ X.zero → fold (λ value c. c ⊕ x ⊗ value) z (reverse f) ≡ eval X f x
  fold_is_value [] x z e = e
  fold_is_value (c ∷ f) x z e =
      ap (fold (λ value c. c ⊕ x ⊗ value) z) (reverse-append (c ∷ []) f) ∙ fold-append (λ value c. c ⊕ x ⊗ value) z (reverse f) (c ∷ [])
      ∙ ap (λ value. c ⊕ x ⊗ value) (fold_is_value f x z e)

  -- b + (X - a)·f: v is written over the coefficient c of f, and p is the coefficient before c, at first b
  pub lin_more : (f : List K) (i : ℕ) (a p c v : K) → i < length f → c ≡ get_or f i c → v ≡ p ⊕ ⊖ (a ⊗ c)
      → take (i + 1) (set f i v) ++ lin X a c (drop (i + 1) (set f i v)) ≡ take i f ++ lin X a p (drop i f)
  lin_more f i a p c v h is vis =
      ap₂ (λ l r. l ++ lin X a c r) (take_more_set f i v h) (drop-set-lt (i + 1) f i v (omega arith))
      ∙ append_assoc (take i f) (v ∷ []) (lin X a c (drop (i + 1) f))
      ∙ ap (λ z. take i f ++ z ∷ lin X a c (drop (i + 1) f)) vis
      ∙ sym (ap (λ z. take i f ++ lin X a p z) (drop_more f i c h ∙ ap (λ z. z ∷ drop (i + 1) f) (sym is)))

  -- (X - z)·f as b + (X - z)·f with b = 0
  pub times_root_is : (z b : K) (f : List K) → 0 < length f → b ≡ X.zero → lin X z b f ≡ times_root X z f
  times_root_is z b [] l e = absurd (omega arith)
  times_root_is z b (c ∷ f) l e = ap (λ w. lin X z w (c ∷ f)) e

  pub plus_nil : (f : List K) → plus X f [] ≡ f
  plus_nil [] = refl
  plus_nil (c ∷ f) = refl

  pub scale_push : (k : K) (f : List K) (d : K) → scale X k (f ++ d ∷ []) ≡ scale X k f ++ k ⊗ d ∷ []
  scale_push k [] d = refl
  scale_push k (c ∷ f) d = ap (λ z. k ⊗ c ∷ z) (scale_push k f d)

  -- a further coefficient in a sum with a longer polynomial, and in one with a polynomial that is no longer
  pub plus_push : (f g : List K) (d z : K) → length g < length f
      → plus X f (g ++ d ∷ []) ≡ set (plus X f g) (length g) (get_or (plus X f g) (length g) z ⊕ d)
  plus_push [] g d z l = absurd (omega arith)
  plus_push (c ∷ f) [] d z l = ap (λ w. (c ⊕ d) ∷ w) (plus_nil f)
  plus_push (c ∷ f) (e ∷ g) d z l = ap (λ w. (c ⊕ e) ∷ w) (plus_push f g d z (omega arith))

  plus_past : (f g : List K) (d : K) → length f ≤ length g → plus X f (g ++ d ∷ []) ≡ plus X f g ++ d ∷ []
  plus_past [] g d l = refl
  plus_past (c ∷ f) [] d l = absurd (omega arith)
  plus_past (c ∷ f) (e ∷ g) d l = ap (λ z. (c ⊕ e) ∷ z) (plus_past f g d (omega arith))

  -- f + c·g, where p has the first i coefficients of g: b is the next one
  module _ (f g p : List K) (i : ℕ) (c b : K) (lt : i < length g) (is : b ≡ get_or g i b) (h : p ≡ plus X f (scale X c (take i g))) where
    abbrev s : List K
    s = scale X c (take i g)

    long : length s ≡ i
    long = length_scale X c (take i g) ∙ length-take-le i g (omega arith)

    more : plus X f (scale X c (take (i + 1) g)) ≡ plus X f (s ++ c ⊗ b ∷ [])
    more = ap (λ z. plus X f (scale X c z)) (take_more g i b lt ∙ ap (λ z. take i g ++ z ∷ []) (sym is)) ∙ ap (plus X f) (scale_push c (take i g) b)

    -- p has a coefficient a at i
    pub added_within : (a : K) → i < length p → a ≡ get_or p i a → set p i (a ⊕ c ⊗ b) ≡ plus X f (scale X c (take (i + 1) g))
    added_within a within at =
        let below : length s < length f = ⊎_elim (λ l. l) (λ l. absurd (omega (arith, ap length h, long, length_plus_right X f s l))) (cases_lt (length s) (length f)) in
        let here : get_or (plus X f s) (length s) a ≡ a = ap₂ (λ z k. get_or z k a) (sym h) long ∙ sym at in
        ap₂ (λ z k. set z k (a ⊕ c ⊗ b)) h (sym long) ∙ ap (λ z. set (plus X f s) (length s) (z ⊕ c ⊗ b)) (sym here)
        ∙ sym (more ∙ plus_push f s (c ⊗ b) a below)

    -- p has none
    pub added_past : length p ≤ i → p ++ c ⊗ b ∷ [] ≡ plus X f (scale X c (take (i + 1) g))
    added_past past =
        let short : length f ≤ length s = ⊎_elim (λ l. absurd (omega (arith, ap length h, long, length_plus_left X f s (omega arith)))) (λ l. l) (cases_lt (length s) (length f)) in
        ap (λ z. z ++ c ⊗ b ∷ []) h ∙ sym (more ∙ plus_past f s (c ⊗ b) short)
