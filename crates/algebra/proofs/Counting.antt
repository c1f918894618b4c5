-- Counting: what stands in a list, how many things have a property after a bijection, and how many pairs and tuples have
-- one.
-- Assumes nothing.
use Rattle.std.proofs.Common.{◌≡◌, ℕ, suc, ◌+◌, ◌*◌, ◌^◌, ◌≤◌, Bool, cond, List, [], ◌∷◌, ◌++◌, map, length, filter, sym, refl, ap, ◌∙◌, subst, ap₂, inl, inr, arith, length-append}
use Rattle.std.proofs.Math.Nat.{pow-succ', pow-zero}
use Rattle.std.specs.List.{AllByRecursion}
use Rattle.std.proofs.lemmas.List.{length-map}
use Rattle.std.proofs.ByRecursion.{All-append, All-weaker, All-map}
use Rattle.algebra.specs.Polynomial.{Distinct}
use Rattle.algebra.specs.Count.{In, Exactly, AtEach}

-- the product of the numbers n i over the places
abbrev pub product : {I : Type 0} → (I → ℕ) → List I → ℕ
product n [] = 1
product n (i ∷ is) = n i * product n is

-- how many of the places are not fixed
abbrev pub free : {I : Type 0} → (I → Bool) → List I → ℕ
free fixed [] = 0
free fixed (i ∷ is) = cond (fixed i) 0 1 + free fixed is

-- each of the places is fixed or not
pub free_kept : {I : Type 0} (fixed : I → Bool) (is : List I) → free fixed is + length (filter fixed is) ≡ length is
free_kept fixed [] = refl
free_kept fixed (i ∷ is) = grind (arith, free_kept fixed is)

-- what holds of each element of a list holds of what stands in it, and back
pub all_in : {A : Type 0} (P : A → Type 0) (l : List A) (a : A) → AllByRecursion P l → In a l → P a
all_in P [] a h k = absurd k
all_in P (b ∷ l) a h (inl e) = subst P (sym e) h.0
all_in P (b ∷ l) a h (inr k) = all_in P l a h.1 k

pub all_from_in : {A : Type 0} {P : A → Type 0} (l : List A) → ((a : A) → In a l → P a) → AllByRecursion P l
all_from_in [] h = tt
all_from_in (b ∷ l) h = (h b (inl refl), all_from_in l (λ a k. h a (inr k)))

-- what stands in a joined list or in a mapped list
pub in_left : {A : Type 0} (l r : List A) (a : A) → In a l → In a (l ++ r)
in_left [] r a h = absurd h
in_left (b ∷ l) r a (inl e) = inl e
in_left (b ∷ l) r a (inr h) = inr (in_left l r a h)

pub in_right : {A : Type 0} (l r : List A) (a : A) → In a r → In a (l ++ r)
in_right [] r a h = h
in_right (b ∷ l) r a h = inr (in_right l r a h)

pub in_map : {A B : Type 0} (f : A → B) (l : List A) (a : A) → In a l → In (f a) (map f l)
in_map f [] a h = absurd h
in_map f (b ∷ l) a (inl e) = inl (ap f e)
in_map f (b ∷ l) a (inr h) = inr (in_map f l a h)

pub in_map_back : {A B : Type 0} (f : A → B) (l : List A) (b : B) → In b (map f l) → (a : A) × In a l × (b ≡ f a)
in_map_back f [] b h = absurd h
in_map_back f (c ∷ l) b (inl e) = (c, inl refl, e)
in_map_back f (c ∷ l) b (inr h) = let r = in_map_back f l b h in (r.0, inr r.1, r.2)

-- where P and Q hold of each element of a list, so does what follows from both
pub all_with : {A : Type 0} {P Q R : A → Type 0} → ((a : A) → P a → Q a → R a) → (l : List A) → AllByRecursion P l → AllByRecursion Q l → AllByRecursion R l
all_with k [] p q = tt
all_with k (a ∷ l) p q = (k a p.0 q.0, all_with k l p.1 q.1)

pub in_self : {A : Type 0} (l : List A) → AllByRecursion (λ a. In a l) l
in_self l = all_from_in l (λ a k. k)

-- a distinct list stays distinct under a map that is one to one where P holds, and P holds of its elements
pub apart_map : {A B : Type 0} {P : A → Type 0} (f : A → B) → ((a b : A) → P a → P b → f a ≡ f b → a ≡ b) → (l : List A) → AllByRecursion P l
    → Distinct l → Distinct (map f l)
apart_map f inj [] p d = tt
apart_map f inj (a ∷ l) p d =
    (All-map (λ b. b ≡ f a → ⊥) f l (all_with (λ b n pb e. n (inj b a pb p.0 e)) l d.0 p.1), apart_map f inj l p.1 d.1)

-- two distinct lists with no common element make a distinct list
pub apart_append : {A : Type 0} (l r : List A) → Distinct l → Distinct r → ((a : A) → In a l → In a r → ⊥) → Distinct (l ++ r)
apart_append [] r d e n = e
apart_append (a ∷ l) r d e n = (
  All-append (λ y. y ≡ a → ⊥) l r d.0 (all_from_in r (λ b k q. n a (inl refl) (subst (λ z. In z r) q k))),
  apart_append l r d.1 e (λ b k m. n b (inr k) m),
)

-- as many things have Q as have P, where f is a bijection between them
pub exactly_map : {A B : Type 0} {n : ℕ} {P : A → Type 0} {Q : B → Type 0} (f : A → B) → ((a : A) → P a → Q (f a))
    → ((a b : A) → P a → P b → f a ≡ f b → a ≡ b) → ((b : B) → Q b → (a : A) × P a × (b ≡ f a)) → Exactly n P → Exactly n Q
exactly_map {P = P} {Q = Q} f to inj back x = record {
  list = map f x.list;
  apart = apart_map f inj x.list x.sound x.apart;
  count = length-map x.list f ∙ x.count;
  sound = All-map Q f x.list (All-weaker P (λ a. Q (f a)) to x.list x.sound);
  complete =
      λ b q. let r = back b q in subst (λ z. In z (map f x.list)) (sym r.2)
      (in_map f x.list r.0 (x.complete r.0 r.1));
}

-- as many things have Q as have P, where one follows from the other
pub exactly_iff : {A : Type 0} {n : ℕ} {P Q : A → Type 0} → ((a : A) → P a → Q a) → ((a : A) → Q a → P a) → Exactly n P → Exactly n Q
exactly_iff {P = P} {Q = Q} to back x = record {
  list = x.list;
  apart = x.apart;
  count = x.count;
  sound = All-weaker P Q to x.list x.sound;
  complete = λ a q. x.complete a (back a q);
}

-- a thing that has the property, and that all others with the property equal, is the only one
pub exactly_one : {A : Type 0} {P : A → Type 0} (a : A) → P a → ((b : A) → P b → b ≡ a) → Exactly 1 P
exactly_one a p u = record { list = a ∷ []; apart = (tt, tt); count = refl; sound = (p, tt); complete = λ b q. inl (u b q) }

-- the number of pairs is the product of the numbers; f makes a pair, and is one to one
module _ {A B C : Type 0} (f : A → B → C) (inj : (a a' : A) (b b' : B) → f a b ≡ f a' b' → (a ≡ a') × (b ≡ b')) where
  -- all pairs of an element of one list and an element of the other
  abbrev grid : List A → List B → List C
  grid [] bs = []
  grid (a ∷ us) bs = map (f a) bs ++ grid us bs

  in_grid : (us : List A) (bs : List B) (a : A) (b : B) → In a us → In b bs → In (f a b) (grid us bs)
  in_grid [] bs a b h k = absurd h
  in_grid (c ∷ us) bs a b (inl e) k = in_left _ (grid us bs) _ (subst (λ z. In (f z b) (map (f c) bs)) (sym e) (in_map (f c) bs b k))
  in_grid (c ∷ us) bs a b (inr h) k = in_right (map (f c) bs) _ _ (in_grid us bs a b h k)

  all_grid : (R : C → Type 0) (us : List A) (bs : List B) → ((a : A) (b : B) → In a us → In b bs → R (f a b)) → AllByRecursion R (grid us bs)
  all_grid R [] bs h = tt
  all_grid R (a ∷ us) bs h =
      All-append R (map (f a) bs) (grid us bs) (All-map R (f a) bs (all_from_in bs (λ b k. h a b (inl refl) k)))
      (all_grid R us bs (λ c b m k. h c b (inr m) k))

  length_grid : (us : List A) (bs : List B) → length (grid us bs) ≡ length us * length bs
  length_grid [] bs = omega arith
  length_grid (a ∷ us) bs = length-append (map (f a) bs) (grid us bs) ∙ omega (arith, length-map bs (f a), length_grid us bs)

  apart_grid : (us : List A) (bs : List B) → Distinct us → Distinct bs → Distinct (grid us bs)
  apart_grid [] bs d e = tt
  apart_grid (a ∷ us) bs d e =
      apart_append (map (f a) bs) (grid us bs)
      (apart_map {P = λ _. Unit {0}} (f a) (λ b b' _ _ q. (inj a a b b' q).1) bs (all_from_in bs (λ _ _. tt)) e)
      (apart_grid us bs d.1 e) none
    where
      none : (c : C) → In c (map (f a) bs) → In c (grid us bs) → ⊥
      none c m n =
          let r = in_map_back (f a) bs c m in
          let other : AllByRecursion (λ z. z ≡ f a r.0 → ⊥) (grid us bs) =
          all_grid (λ z. z ≡ f a r.0 → ⊥) us bs (λ a' b' k _ q. all_in _ us a' d.0 k (inj a' a b' r.0 q).0) in
          all_in _ (grid us bs) c other n r.2

  pub exactly_with : {m n : ℕ} {P : A → Type 0} {Q : B → Type 0} {R : C → Type 0} → ((a : A) (b : B) → P a → Q b → R (f a b))
      → ((c : C) → R c → (a : A) × (b : B) × P a × Q b × (c ≡ f a b)) → Exactly m P → Exactly n Q → Exactly (m * n) R
  exactly_with {R = R} to back x y = record {
    list = grid x.list y.list;
    apart = apart_grid x.list y.list x.apart y.apart;
    count = length_grid x.list y.list ∙ ap₂ ◌*◌ x.count y.count;
    sound = all_grid R x.list y.list (λ a b k m. to a b (all_in _ x.list a x.sound k) (all_in _ y.list b y.sound m));
    complete =
        λ c h. let r = back c h in subst (λ z. In z (grid x.list y.list)) (sym r.4)
        (in_grid x.list y.list r.0 r.1 (x.complete r.0 r.2) (y.complete r.1 r.3));
  }

-- the number of tuples is the product over the places
pub exactly_each : {I A : Type 0} (P : I → A → Type 0) (n : I → ℕ) (is : List I) → ((i : I) → In i is → Exactly (n i) (P i))
    → Exactly (product n is) (AtEach P is)
exactly_each P n [] x = exactly_one [] tt (λ l h. grind arith)
exactly_each {A = A} P n (i ∷ is) x =
    exactly_with ◌∷◌ (λ a a' l l' e. (cc, cc)) (λ a l p q. (p, q)) back (x i (inl refl))
    (exactly_each P n is (λ j k. x j (inr k)))
  where
    back : (l : List A) → AtEach P (i ∷ is) l → (a : A) × (t : List A) × P i a × AtEach P is t × (l ≡ a ∷ t)
    back [] h = absurd h
    back (a ∷ l) h = (a, l, h.0, h.1, refl)

pub pow_one : (q : ℕ) → q ^ 1 ≡ q
pow_one q = grind (arith, pow-succ' q 0, pow-zero q)

-- the product of equal numbers is a power
pub product_same : {I : Type 0} (q : ℕ) (is : List I) → product (λ _. q) is ≡ q ^ length is
product_same q [] = sym (pow-zero q)
product_same q (i ∷ is) = ap (λ z. q * z) (product_same q is) ∙ sym (pow-succ' q (length is))

-- the product of q over the places that are not fixed and of 1 over the others
pub product_free : {I : Type 0} (q : ℕ) (fixed : I → Bool) (is : List I) → product (λ i. cond (fixed i) 1 q) is ≡ q ^ free fixed is
product_free q fixed [] = sym (pow-zero q)
product_free q fixed (i ∷ is) = grind (arith, product_free q fixed is, pow-succ' q (free fixed is))

-- a list without an element that stands in it
take_out : {A : Type 0} (l : List A) (a : A) → In a l
    → (r : List A) × (length l ≡ suc (length r)) × ((b : A) → (b ≡ a → ⊥) → In b l → In b r)
take_out [] a h = absurd h
take_out (c ∷ l) a (inl e) = (l, refl, λ b n k. grind arith)
take_out (c ∷ l) a (inr h) = let t = take_out l a h in (c ∷ t.0, ap suc t.1, λ b n k. grind (arith, t.2 b n))

-- a distinct list whose elements stand in another list is not longer
pub at_most : {A : Type 0} (l r : List A) → Distinct l → AllByRecursion (λ a. In a r) l → length l ≤ length r
at_most [] r d h = omega arith
at_most (a ∷ l) r d h =
    let t = take_out r a h.0 in
    let k = at_most l t.0 d.1 (all_with t.2 l d.0 h.1) in
    omega (arith, t.1)

-- there is only one number of things that have a property
pub exactly_same : {A : Type 0} {m n : ℕ} {P : A → Type 0} → Exactly m P → Exactly n P → m ≡ n
exactly_same x y =
    let a = at_most x.list y.list x.apart (all_from_in x.list (λ b k. y.complete b (all_in _ x.list b x.sound k))) in
    let b = at_most y.list x.list y.apart (all_from_in y.list (λ b k. x.complete b (all_in _ y.list b y.sound k))) in
    omega (arith, x.count, y.count)
