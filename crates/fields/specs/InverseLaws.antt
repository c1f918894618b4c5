-- The inverse by what it means: it is found where there is one, it is the only one, and a table of inverses has it.
-- Assumes nothing.
use Rattle.std.specs.Prelude.{◌≡◌, ℕ, zero, suc, ◌<◌, Bool, true, false, cond, T, List, ◌==◌, ◌≢◌, nat_lt, slice_index}
use Rattle.std.proofs.Math.Path.{refl}
use Rattle.std.proofs.Common.{sym, ◌∙◌, ap, subst, ⊎_elim, eq-or-lt_of_le, le_of_suc-le-suc, not-suc-le-zero, arith, eqb→eq, ltb→lt}
use Rattle.std.proofs.lemmas.Bool.{cond_both, eqb-true, eqb-false, eq-eqb, ne_eqb, cond-true, cond-false, cases_eq}
use Rattle.fields.specs.Elements.{one_below}
use Rattle.fields.specs.Laws.{Codes, Laws}
use Rattle.fields.specs.Inverse.{inverse_under, InverseOf, InverseTable}
use Rattle.fields.specs.Tests.{all_below, at_each}

module _ (product : ℕ → ℕ → ℕ) where
  pub found : (n a b : ℕ) → b < n → product a b ≡ 1 → product a (inverse_under n product a) ≡ 1
  unfolding inverse_under
  found zero a b h e = absurd (not-suc-le-zero h)
  found (suc n) a b h e =
      cond_both (product a n == 1) n (inverse_under n product a) (λ c. product a c ≡ 1)
      (λ t. eqb-true (product a n) 1 t)
      (λ f. found n a b (⊎_elim (λ g. absurd (eqb-false (product a n) 1 f (ap (product a) (sym g) ∙ e))) (λ l. l) (eq-or-lt_of_le (le_of_suc-le-suc h))) e)

  pub bounded : (n a : ℕ) → 0 < n → inverse_under n product a < n
  unfolding inverse_under
  bounded zero a h = h
  bounded (suc zero) a h = cond_both (product a 0 == 1) 0 0 (λ c. c < 1) (λ t. omega arith) (λ f. omega arith)
  bounded (suc (suc n)) a h =
      cond_both (product a (suc n) == 1) (suc n) (inverse_under (suc n) product a) (λ c. c < suc (suc n))
      (λ t. omega arith) (λ f. let k : inverse_under (suc n) product a < suc n = bounded (suc n) a (omega arith) in omega arith)

  pub none : (n a : ℕ) → ((b : ℕ) → b < n → product a b ≢ 1) → inverse_under n product a ≡ 0
  unfolding inverse_under
  none zero a h = refl
  none (suc n) a h =
      cond_both (product a n == 1) n (inverse_under n product a) (λ c. c ≡ 0)
      (λ t. absurd (h n (omega arith) (eqb-true (product a n) 1 t))) (λ f. none n a (λ b l. h b (omega arith)))

module _ {C : Codes} (L : Laws C) where
  -- b = b·(a·c) = (a·b)·c = c
  only : (a b c : ℕ) → a < C.size → b < C.size → c < C.size → C.product a b ≡ 1 → C.product a c ≡ 1 → b ≡ c
  only a b c ha hb hc eb ec =
      sym (L.product_one b hb) ∙ ap (C.product b) (sym ec) ∙ sym (L.product_assoc b a c hb ha hc)
      ∙ ap (λ t. C.product t c) (L.product_comm b a hb ha ∙ eb) ∙ L.product_comm 1 c (one_below L) hc ∙ L.product_one c hc

  pub inverse_is : (a b : ℕ) → a < C.size → InverseOf C a b → b ≡ C.inverse a
  inverse_is a b h i =
      ⊎_elim (λ e. i.of_zero e ∙ sym (ap C.inverse e ∙ L.inverse_zero))
      (λ n. only a b (C.inverse a) h i.below (L.inverse_below a h) (i.of_others n) (L.product_inverse a h n)) (cases_eq a 0)

-- the rule of a table as one test over all of its entries, which the prover computes
abbrev right_entry : Codes → List ℕ → ℕ → Bool
right_entry C table a =
    cond (nat_lt (slice_index table a) C.size) (cond (a == 0) (slice_index table a == 0) (C.product a (slice_index table a) == 1)) false

pub table_by_test : (C : Codes) (table : List ℕ) → T (all_below C.size (right_entry C table)) → InverseTable C table
unfolding InverseTable
table_by_test C table t a h = by (nat_lt b C.size) (ltb→lt b C.size) (at_each (right_entry C table) C.size t a h)
  where
    b : ℕ
    b = slice_index table a

    by : (below : Bool) → (T below → b < C.size) → T (cond below (cond (a == 0) (b == 0) (C.product a b == 1)) false) → InverseOf C a b
    by true k s = record {
      below = k tt;
      of_zero = λ e. eqb→eq b 0 (subst T (cond-true (a == 0) _ _ (eq-eqb a 0 e)) s);
      of_others = λ n. eqb→eq (C.product a b) 1 (subst T (cond-false (a == 0) _ _ (ne_eqb a 0 n)) s);
    }
    by false k s = absurd s

pub entry : (C : Codes) (table : List ℕ) → InverseTable C table → (a : ℕ) → a < C.size → InverseOf C a (slice_index table a)
unfolding InverseTable
entry C table t = t
