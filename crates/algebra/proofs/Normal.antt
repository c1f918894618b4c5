-- A normal form of expressions over a commutative ring, so that an identity is proved by computing both sides:
-- `ring F ρ e f tt`, where ρ has the values of the variables.
-- Assumes nothing.
use Rattle.std.proofs.Common.{◌≡◌, ℕ, Bool, true, false, cond, not, T, eqb, ltb, List, [], ◌∷◌, get_or, sym, refl, ap, ◌∙◌, ap₂, arith, eqb→eq}
use Rattle.algebra.specs.Field.{Field}
use Rattle.algebra.proofs.Rules.{zero_add, add_cancel, add_left_comm, mul_left_comm, add_mul, mul_zero, one_mul, zero_mul, neg_add, neg_zero, neg_neg, neg_sum, neg_mul, mul_neg}

infixl 65 ◌:+◌
infixl 65 ◌:-◌
infixl 70 ◌:*◌
infix 75 :-◌
-- an expression; v i is the i-th variable
pub data Expr : Type 0 where
  v : ℕ → Expr
  :0 : Expr
  :1 : Expr
  ◌:+◌ : Expr → Expr → Expr
  ◌:*◌ : Expr → Expr → Expr
  :-◌ : Expr → Expr

abbrev pub ◌:-◌ : Expr → Expr → Expr
a :- b = a :+ (:- b)

-- a product of variables, sorted
abbrev Monomial : Type 0
Monomial = List ℕ

-- a monomial with its sign, true for plus; a normal form is a sorted list of these
pub data Term : Type 0 where
  signed : Bool → Monomial → Term

abbrev monomials_equal : Monomial → Monomial → Bool
monomials_equal [] [] = true
monomials_equal [] (j ∷ n) = false
monomials_equal (i ∷ m) [] = false
monomials_equal (i ∷ m) (j ∷ n) = cond (eqb i j) (monomials_equal m n) false

abbrev before : Monomial → Monomial → Bool
before [] [] = false
before [] (j ∷ n) = true
before (i ∷ m) [] = false
before (i ∷ m) (j ∷ n) = cond (eqb i j) (before m n) (ltb i j)

abbrev insert : ℕ → Monomial → Monomial
insert i [] = i ∷ []
insert i (j ∷ m) = cond (ltb j i) (j ∷ insert i m) (i ∷ j ∷ m)

abbrev times_monomial : Monomial → Monomial → Monomial
times_monomial [] n = n
times_monomial (i ∷ m) n = insert i (times_monomial m n)

abbrev signs_equal : Bool → Bool → Bool
signs_equal true b = b
signs_equal false b = not b

-- opposite terms cancel
abbrev add_term : Term → List Term → List Term
add_term t [] = t ∷ []
add_term (signed s m) (signed r n ∷ p) =
    cond (monomials_equal m n) (cond (signs_equal s r) (signed s m ∷ signed r n ∷ p) p)
    (cond (before m n) (signed s m ∷ signed r n ∷ p) (signed r n ∷ add_term (signed s m) p))

abbrev add_form : List Term → List Term → List Term
add_form [] q = q
add_form (t ∷ p) q = add_term t (add_form p q)

abbrev times_term : Term → Term → Term
times_term (signed s m) (signed r n) = signed (signs_equal s r) (times_monomial m n)

abbrev scale_form : Term → List Term → List Term
scale_form t [] = []
scale_form t (u ∷ q) = add_term (times_term t u) (scale_form t q)

abbrev times_form : List Term → List Term → List Term
times_form [] q = []
times_form (t ∷ p) q = add_form (scale_form t q) (times_form p q)

abbrev negative_form : List Term → List Term
negative_form [] = []
negative_form (signed s m ∷ p) = signed (not s) m ∷ negative_form p

abbrev pub normal : Expr → List Term
normal (v i) = signed true (i ∷ []) ∷ []
normal :0 = []
normal :1 = signed true [] ∷ []
normal (a :+ b) = add_form (normal a) (normal b)
normal (a :* b) = times_form (normal a) (normal b)
normal (:- a) = negative_form (normal a)

-- a test of two normal forms, which the prover computes at once
abbrev forms_equal : List Term → List Term → Bool
forms_equal [] [] = true
forms_equal [] (u ∷ q) = false
forms_equal (t ∷ p) [] = false
forms_equal (signed s m ∷ p) (signed r n ∷ q) = cond (signs_equal s r) (cond (monomials_equal m n) (forms_equal p q) false) false

-- both expressions have one normal form
abbrev pub SameForm : Expr → Expr → Type 0
SameForm a b = T (forms_equal (normal a) (normal b))

monomials_equal→eq : (m n : Monomial) → T (monomials_equal m n) → m ≡ n
monomials_equal→eq [] [] h = refl
monomials_equal→eq [] (j ∷ n) h = absurd h
monomials_equal→eq (i ∷ m) [] h = absurd h
monomials_equal→eq (i ∷ m) (j ∷ n) h = grind (arith, eqb→eq i j, monomials_equal→eq m n)

signs_equal→eq : (s r : Bool) → T (signs_equal s r) → s ≡ r
signs_equal→eq s r h = grind arith

forms_equal→eq : (p q : List Term) → T (forms_equal p q) → p ≡ q
forms_equal→eq [] [] h = refl
forms_equal→eq [] (u ∷ q) h = absurd h
forms_equal→eq (t ∷ p) [] h = absurd h
forms_equal→eq (signed s m ∷ p) (signed r n ∷ q) h =
    grind (arith, signs_equal→eq s r, monomials_equal→eq m n, forms_equal→eq p q)

module _ {K : Type 0} (F : Field K) where
  open F use {zero as 𝟘, one as 𝟙, add as ◌⊕◌, mul as ◌⊗◌, neg as ⊖◌, add_assoc, add_zero, add_neg, mul_assoc, mul_one, mul_add}

  infixl 65 ◌⊕◌
  infixl 70 ◌⊗◌
  infix 80 ⊖◌
  module _ (ρ : List K) where
    abbrev pub value : Expr → K
    value (v i) = get_or ρ i 𝟘
    value :0 = 𝟘
    value :1 = 𝟙
    value (a :+ b) = value a ⊕ value b
    value (a :* b) = value a ⊗ value b
    value (:- a) = ⊖ (value a)

    abbrev monomial_value : Monomial → K
    monomial_value [] = 𝟙
    monomial_value (i ∷ m) = get_or ρ i 𝟘 ⊗ monomial_value m

    abbrev with_sign : Bool → K → K
    with_sign true x = x
    with_sign false x = ⊖ x

    abbrev term_value : Term → K
    term_value (signed s m) = with_sign s (monomial_value m)

    abbrev form_value : List Term → K
    form_value [] = 𝟘
    form_value (t ∷ p) = term_value t ⊕ form_value p

    insert_is : (i : ℕ) (m : Monomial) → monomial_value (insert i m) ≡ get_or ρ i 𝟘 ⊗ monomial_value m
    insert_is i [] = refl
    insert_is i (j ∷ m) = grind (arith, insert_is i m, mul_left_comm F (get_or ρ j 𝟘) (get_or ρ i 𝟘) (monomial_value m))

    times_monomial_is : (m n : Monomial) → monomial_value (times_monomial m n) ≡ monomial_value m ⊗ monomial_value n
    times_monomial_is [] n = sym (one_mul F (monomial_value n))
    times_monomial_is (i ∷ m) n =
        cc (insert_is i (times_monomial m n), times_monomial_is m n, mul_assoc (get_or ρ i 𝟘) (monomial_value m) (monomial_value n))

    minus_plus : (x r : K) → r ≡ x ⊕ (⊖ x ⊕ r)
    minus_plus x r = cc (add_assoc x (⊖ x) r, add_neg x, zero_add F r)

    plus_minus : (x r : K) → r ≡ ⊖ x ⊕ (x ⊕ r)
    plus_minus x r = cc (add_assoc (⊖ x) x r, neg_add F x, zero_add F r)

    add_term_is : (t : Term) (p : List Term) → form_value (add_term t p) ≡ term_value t ⊕ form_value p
    add_term_is t [] = refl
    add_term_is (signed s m) (signed r n ∷ p) =
        grind (
          arith,
          add_term_is (signed s m) p,
          monomials_equal→eq m n,
          minus_plus (monomial_value n) (form_value p),
          plus_minus (monomial_value n) (form_value p),
          add_left_comm F (with_sign r (monomial_value n)) (with_sign s (monomial_value m)) (form_value p),
        )

    add_form_is : (p q : List Term) → form_value (add_form p q) ≡ form_value p ⊕ form_value q
    add_form_is [] q = sym (zero_add F (form_value q))
    add_form_is (t ∷ p) q =
        cc (add_term_is t (add_form p q), add_form_is p q, add_assoc (term_value t) (form_value p) (form_value q))

    times_sign_is : (s r : Bool) (x y : K) → with_sign (signs_equal s r) (x ⊗ y) ≡ with_sign s x ⊗ with_sign r y
    times_sign_is s r x y = grind (arith, mul_neg F x y, neg_mul F x y, neg_mul F x (⊖ y), neg_neg F (x ⊗ y))

    times_term_is : (t u : Term) → term_value (times_term t u) ≡ term_value t ⊗ term_value u
    times_term_is (signed s m) (signed r n) =
        ap (with_sign (signs_equal s r)) (times_monomial_is m n) ∙ times_sign_is s r (monomial_value m) (monomial_value n)

    scale_form_is : (t : Term) (q : List Term) → form_value (scale_form t q) ≡ term_value t ⊗ form_value q
    scale_form_is t [] = sym (mul_zero F (term_value t))
    scale_form_is t (u ∷ q) =
        add_term_is (times_term t u) (scale_form t q) ∙ ap₂ ◌⊕◌ (times_term_is t u) (scale_form_is t q)
        ∙ sym (mul_add (term_value t) (term_value u) (form_value q))

    times_form_is : (p q : List Term) → form_value (times_form p q) ≡ form_value p ⊗ form_value q
    times_form_is [] q = sym (zero_mul F (form_value q))
    times_form_is (t ∷ p) q =
        add_form_is (scale_form t q) (times_form p q) ∙ ap₂ ◌⊕◌ (scale_form_is t q) (times_form_is p q)
        ∙ sym (add_mul F (term_value t) (form_value p) (form_value q))

    not_is : (s : Bool) (x : K) → with_sign (not s) x ≡ ⊖ (with_sign s x)
    not_is s x = grind (arith, neg_neg F x)

    negative_form_is : (p : List Term) → form_value (negative_form p) ≡ ⊖ (form_value p)
    negative_form_is [] = sym (neg_zero F)
    negative_form_is (signed s m ∷ p) =
        ap₂ ◌⊕◌ (not_is s (monomial_value m)) (negative_form_is p) ∙ sym (neg_sum F (with_sign s (monomial_value m)) (form_value p))

    normal_is : (e : Expr) → form_value (normal e) ≡ value e
    normal_is (v i) = add_zero (get_or ρ i 𝟘 ⊗ 𝟙) ∙ mul_one (get_or ρ i 𝟘)
    normal_is :0 = refl
    normal_is :1 = add_zero 𝟙
    normal_is (a :+ b) = add_form_is (normal a) (normal b) ∙ ap₂ ◌⊕◌ (normal_is a) (normal_is b)
    normal_is (a :* b) = times_form_is (normal a) (normal b) ∙ ap₂ ◌⊗◌ (normal_is a) (normal_is b)
    normal_is (:- a) = negative_form_is (normal a) ∙ ap ⊖◌ (normal_is a)

    -- expressions with one normal form have one value
    pub ring : (a b : Expr) → SameForm a b → value a ≡ value b
    ring a b h = sym (normal_is a) ∙ ap form_value (forms_equal→eq (normal a) (normal b) h) ∙ normal_is b

    -- a = b from l = r, where a - b = c·(l - r)
    pub ring_from : (a b c l r : Expr) → value l ≡ value r → SameForm (a :+ c :* r) (b :+ c :* l) → value a ≡ value b
    ring_from a b c l r h e =
        add_cancel F (value a) (value b) (value c ⊗ value r)
        (ring (a :+ c :* r) (b :+ c :* l) e ∙ ap (λ z. value b ⊕ value c ⊗ z) h)
