-- The arithmetic of bytes is a field that can be doubled. The product is linear in each argument, so that what holds of all
-- bytes is tested at the eight powers of two.
-- Assumes nothing.
use Rattle.std.specs.Prelude.{◌≡◌, ℕ, zero, suc, ◌+◌, ◌-◌, ◌*◌, ◌/◌, ◌%◌, ◌^◌, ◌<◌, ◌≤◌, cond, T, ◌⊎◌, ◌==◌, ◌≢◌, bit_xor, nat_eq, refl}
use Rattle.std.proofs.Common.{sym, ◌∙◌, ap, ap₂, subst, inl, inr, ⊎_elim, le_of_suc-le-suc, not-suc-le-zero, mod-lt, div-add-mod', zero-mul, one-mul, zero-add, add-zero, div-lt_iff_lt-mul, arith, pow_pos, lit≤}
use Rattle.std.proofs.Math.Nat.{pow-succ'}
use Rattle.std.proofs.lemmas.Nat.{xor_lt, xor_comm, xor_shr, xor_mod, xor_block}
use lib.Bits.{bit_and, and_mask}
use Rattle.std.specs.Int.Bits.{xor_assoc, xor_self, xor_zero_r, xor_shifted}
use Rattle.std.proofs.lemmas.Bool.{cond-false, ne_eqb}
use Rattle.fields.specs.Byte.{carryless, remainder, product, byte}
use Rattle.fields.specs.Inverse.{inverse_under}
use Rattle.fields.specs.Laws.{Laws, DoublableLaws}
use Rattle.fields.specs.InverseLaws.{bounded, none}
use Rattle.fields.specs.Tests.{all_below, at_each, equal_below, apart_below}

-- ---- every number below 2^n is a sum, without carry, of powers of two

bit_ways : (q : ℕ) → q < 2 → (q ≡ 0) ⊎ (q ≡ 1)
bit_ways zero h = inl refl
bit_ways (suc zero) h = inr refl
bit_ways (suc (suc q)) h = absurd (not-suc-le-zero (le_of_suc-le-suc (le_of_suc-le-suc h)))

-- what holds of 0 and of each power of two below 2^n, and of a sum where it holds of its parts, holds below 2^n
span : (P : ℕ → Type 0) → P 0 → ((x y : ℕ) → P x → P y → P (bit_xor x y)) → (n : ℕ) → ((i : ℕ) → i < n → P (2 ^ i)) → (a : ℕ) → a < 2 ^ n → P a
span P none sums zero base a h = subst P (sym (omega arith)) none
span P none sums (suc n) base a h =
    let low : P (a % 2 ^ n) = span P none sums n (λ i l. base i (omega arith)) (a % 2 ^ n) (mod-lt a (pow_pos n)) in
    let back : (q : ℕ) → a / 2 ^ n ≡ q → q * 2 ^ n + a % 2 ^ n ≡ a =
    λ q e. ap (λ t. t * 2 ^ n + a % 2 ^ n) (sym e) ∙ div-add-mod' a (2 ^ n) in
    let top : n < suc n = omega arith in
    ⊎_elim
    (λ e. let f : a % 2 ^ n ≡ a = sym (zero-add (a % 2 ^ n)) ∙ ap (λ t. t + a % 2 ^ n) (sym (zero-mul (2 ^ n))) ∙ back 0 e in subst P f low)
    (λ e. let f : bit_xor (2 ^ n) (a % 2 ^ n) ≡ a =
    ap (λ t. bit_xor t (a % 2 ^ n)) (sym (one-mul (2 ^ n))) ∙ xor_shifted 1 n (a % 2 ^ n) (mod-lt a (pow_pos n)) ∙ back 1 e in
    subst P f (sums (2 ^ n) (a % 2 ^ n) (base n top) low))
    (bit_ways (a / 2 ^ n) ((div-lt_iff_lt-mul {k = 2 ^ n} {x = a} {y = 2} (pow_pos n)).1 (rw pow-succ' at h)))

-- ---- functions that keep sums without carry

abbrev Linear : (ℕ → ℕ) → Type 0
Linear f = (a b : ℕ) → f (bit_xor a b) ≡ bit_xor (f a) (f b)

linear_zero : (f : ℕ → ℕ) → Linear f → f 0 ≡ 0
linear_zero f l = l 0 0 ∙ xor_self (f 0)

-- linear functions that agree at the powers of two agree below 2^n
linear_same : (f g : ℕ → ℕ) → Linear f → Linear g → (n : ℕ) → ((i : ℕ) → i < n → f (2 ^ i) ≡ g (2 ^ i)) → (a : ℕ) → a < 2 ^ n → f a ≡ g a
linear_same f g lf lg =
    span (λ a. f a ≡ g a) (linear_zero f lf ∙ sym (linear_zero g lg)) (λ x y ex ey. lf x y ∙ ap₂ bit_xor ex ey ∙ sym (lg x y))

bilinear_same : (f g : ℕ → ℕ → ℕ) → ((b : ℕ) → Linear (λ a. f a b)) → ((a : ℕ) → Linear (f a)) → ((b : ℕ) → Linear (λ a. g a b)) → ((a : ℕ) → Linear (g a))
    → ((i j : ℕ) → i < 8 → j < 8 → f (2 ^ i) (2 ^ j) ≡ g (2 ^ i) (2 ^ j)) → (a b : ℕ) → a < 256 → b < 256 → f a b ≡ g a b
bilinear_same f g lf rf lg rg base a b ha hb =
    linear_same (λ a. f a b) (λ a. g a b) (lf b) (lg b) 8
    (λ i hi. linear_same (f (2 ^ i)) (g (2 ^ i)) (rf (2 ^ i)) (rg (2 ^ i)) 8 (λ j hj. base i j hi hj) b hb) a ha

xor_swap : (a b c d : ℕ) → bit_xor (bit_xor a b) (bit_xor c d) ≡ bit_xor (bit_xor a c) (bit_xor b d)
xor_swap a b c d =
    xor_assoc a b (bit_xor c d) ∙ ap (bit_xor a) (sym (xor_assoc b c d) ∙ ap (λ t. bit_xor t d) (xor_comm b c) ∙ xor_assoc c b d)
    ∙ sym (xor_assoc a c (bit_xor b d))

-- a sum of linear functions
sum_linear : (f g : ℕ → ℕ) → Linear f → Linear g → Linear (λ a. bit_xor (f a) (g a))
sum_linear f g lf lg a b = ap₂ bit_xor (lf a b) (lg a b) ∙ xor_swap (f a) (f b) (g a) (g b)

pub bit : (n : ℕ) → n % 2 < 2
bit n = mod-lt n (omega arith)

-- a bit times a number, linear in both
bit_linear : (p q a : ℕ) → p < 2 → q < 2 → bit_xor p q * a ≡ bit_xor (p * a) (q * a)
bit_linear zero q a hp hq = ap (λ t. bit_xor t (q * a)) (sym (zero-mul a))
bit_linear (suc zero) zero a hp hq = sym (xor_zero_r (1 * a)) ∙ ap (bit_xor (1 * a)) (sym (zero-mul a))
bit_linear (suc zero) (suc zero) a hp hq = zero-mul a ∙ sym (xor_self (1 * a))
bit_linear (suc zero) (suc (suc q)) a hp hq = absurd (not-suc-le-zero (le_of_suc-le-suc (le_of_suc-le-suc hq)))
bit_linear (suc (suc p)) q a hp hq = absurd (not-suc-le-zero (le_of_suc-le-suc (le_of_suc-le-suc hp)))

scaled_linear : (s : ℕ) → s < 2 → Linear (λ a. s * a)
scaled_linear zero h a b = zero-mul (bit_xor a b) ∙ ap₂ bit_xor (sym (zero-mul a)) (sym (zero-mul b))
scaled_linear (suc zero) h a b = one-mul (bit_xor a b) ∙ ap₂ bit_xor (sym (one-mul a)) (sym (one-mul b))
scaled_linear (suc (suc s)) h a b = absurd (not-suc-le-zero (le_of_suc-le-suc (le_of_suc-le-suc h)))

-- the i-th bit times m
bit_of_linear : (i m : ℕ) → Linear (λ a. a / 2 ^ i % 2 * m)
bit_of_linear i m a b =
    ap (λ t. t % 2 * m) (xor_shr a b i) ∙ ap (λ t. t * m) (xor_mod (a / 2 ^ i) (b / 2 ^ i) 1)
    ∙ bit_linear (a / 2 ^ i % 2) (b / 2 ^ i % 2) m (bit (a / 2 ^ i)) (bit (b / 2 ^ i))

double_linear : Linear (λ a. a * 2)
double_linear a b =
    sym (add-zero (bit_xor a b * 2)) ∙ sym (xor_block 1 a b 0 0 (omega arith) (omega arith)) ∙ ap₂ bit_xor (add-zero (a * 2)) (add-zero (b * 2))

remainder_linear : (k : ℕ) → Linear (remainder k)
remainder_linear zero a b = refl
remainder_linear (suc k) a b =
    ap (remainder k) (sum_linear (λ c. c) (λ c. c / 2 ^ (8 + k) % 2 * (0x11b * 2 ^ k)) (λ a b. refl) (bit_of_linear (8 + k) (0x11b * 2 ^ k)) a b)
    ∙ remainder_linear k (bit_xor a (a / 2 ^ (8 + k) % 2 * (0x11b * 2 ^ k))) (bit_xor b (b / 2 ^ (8 + k) % 2 * (0x11b * 2 ^ k)))

-- a sum over the lowest k bits of b: a step function x in place of doubling serves the program's loop too
abbrev pub over_bits : (ℕ → ℕ) → ℕ → ℕ → ℕ → ℕ
over_bits x zero a b = 0
over_bits x (suc k) a b = bit_xor (b % 2 * a) (over_bits x k (x a) (b / 2))

over_bits_right : (x : ℕ → ℕ) (k a : ℕ) → Linear (over_bits x k a)
over_bits_right x zero a b c = refl
over_bits_right x (suc k) a b c =
    ap₂ bit_xor (ap (λ t. t * a) (xor_mod b c 1) ∙ bit_linear (b % 2) (c % 2) a (bit b) (bit c))
    (ap (over_bits x k (x a)) (xor_shr b c 1) ∙ over_bits_right x k (x a) (b / 2) (c / 2))
    ∙ xor_swap (b % 2 * a) (c % 2 * a) (over_bits x k (x a) (b / 2)) (over_bits x k (x a) (c / 2))

over_bits_left : (x : ℕ → ℕ) → Linear x → (k c : ℕ) → Linear (λ a. over_bits x k a c)
over_bits_left x l zero c a b = refl
over_bits_left x l (suc k) c a b =
    ap₂ bit_xor (scaled_linear (c % 2) (bit c) a b) (ap (λ t. over_bits x k t (c / 2)) (l a b) ∙ over_bits_left x l k (c / 2) (x a) (x b))
    ∙ xor_swap (c % 2 * a) (c % 2 * b) (over_bits x k (x a) (c / 2)) (over_bits x k (x b) (c / 2))

carryless_is : (k a b : ℕ) → carryless k a b ≡ over_bits (λ t. t * 2) k a b
carryless_is zero a b = refl
carryless_is (suc k) a b = ap (bit_xor (b % 2 * a)) (carryless_is k (a * 2) (b / 2))

product_is : (a b : ℕ) → product a b ≡ remainder 7 (over_bits (λ t. t * 2) 8 a b)
unfolding product
product_is a b = ap (remainder 7) (carryless_is 8 a b)

pub product_right : (a : ℕ) → Linear (product a)
product_right a b c =
    product_is a (bit_xor b c) ∙ ap (remainder 7) (over_bits_right (λ t. t * 2) 8 a b c)
    ∙ remainder_linear 7 (over_bits (λ t. t * 2) 8 a b) (over_bits (λ t. t * 2) 8 a c)
    ∙ sym (ap₂ bit_xor (product_is a b) (product_is a c))

pub product_left : (b : ℕ) → Linear (λ a. product a b)
product_left c a b =
    product_is (bit_xor a b) c ∙ ap (remainder 7) (over_bits_left (λ t. t * 2) double_linear 8 c a b)
    ∙ remainder_linear 7 (over_bits (λ t. t * 2) 8 a c) (over_bits (λ t. t * 2) 8 b c)
    ∙ sym (ap₂ bit_xor (product_is a c) (product_is b c))

-- ---- what is tested at the powers of two, or at each byte

-- at each pair of powers of two
pairs : (f g : ℕ → ℕ → ℕ) → T (all_below 8 (λ i. all_below 8 (λ j. nat_eq (f (2 ^ i) (2 ^ j)) (g (2 ^ i) (2 ^ j)))))
    → (i j : ℕ) → i < 8 → j < 8 → f (2 ^ i) (2 ^ j) ≡ g (2 ^ i) (2 ^ j)
pairs f g t i j hi hj =
    equal_below (λ j. f (2 ^ i) (2 ^ j)) (λ j. g (2 ^ i) (2 ^ j)) 8
    (at_each (λ i. all_below 8 (λ j. nat_eq (f (2 ^ i) (2 ^ j)) (g (2 ^ i) (2 ^ j)))) 8 t i hi) j hj

product_comm : (a b : ℕ) → a < 256 → b < 256 → product a b ≡ product b a
unfolding all_below product
product_comm =
    bilinear_same product (λ a b. product b a) product_left product_right product_right product_left
    (pairs product (λ a b. product b a) tt)

assoc_base : (k : ℕ) → k < 8 → (i j : ℕ) → i < 8 → j < 8 → product (product (2 ^ i) (2 ^ j)) (2 ^ k) ≡ product (2 ^ i) (product (2 ^ j) (2 ^ k))
unfolding all_below product
assoc_base k hk =
    pairs (λ a b. product (product a b) (2 ^ k)) (λ a b. product a (product b (2 ^ k)))
    (at_each (λ k. all_below 8 (λ i. all_below 8 (λ j. nat_eq (product (product (2 ^ i) (2 ^ j)) (2 ^ k)) (product (2 ^ i) (product (2 ^ j) (2 ^ k))))))
    8 tt k hk)

product_assoc : (a b c : ℕ) → a < 256 → b < 256 → c < 256 → product (product a b) c ≡ product a (product b c)
product_assoc a b c ha hb hc =
    bilinear_same (λ a b. product (product a b) c) (λ a b. product a (product b c))
    (λ b x y. ap (λ t. product t c) (product_left b x y) ∙ product_left c (product x b) (product y b))
    (λ a x y. ap (λ t. product t c) (product_right a x y) ∙ product_left c (product a x) (product a y))
    (λ b. product_left (product b c))
    (λ a x y. ap (product a) (product_left c x y) ∙ product_right a (product x c) (product y c))
    (λ i j hi hj. linear_same (product (product (2 ^ i) (2 ^ j))) (λ c. product (2 ^ i) (product (2 ^ j) c))
    (product_right (product (2 ^ i) (2 ^ j)))
    (λ x y. ap (product (2 ^ i)) (product_right (2 ^ j) x y) ∙ product_right (2 ^ i) (product (2 ^ j) x) (product (2 ^ j) y)) 8
    (λ k hk. assoc_base k hk i j hi hj) c hc) a b ha hb

product_one : (a : ℕ) → a < 256 → product a 1 ≡ a
unfolding all_below product
product_one = equal_below (λ a. product a 1) (λ a. a) 256 tt

one_over : (a : ℕ) → a < 256 → product a (inverse_under 256 product a) ≡ cond (a == 0) 0 1
unfolding all_below product inverse_under
one_over = equal_below (λ a. product a (inverse_under 256 product a)) (λ a. cond (a == 0) 0 1) 256 tt

no_root : (a : ℕ) → a < 256 → product a a ≢ bit_xor (product 1 a) 0x20
unfolding all_below product
no_root = apart_below (λ a. product a a) (λ a. bit_xor (product 1 a) 0x20) 256 tt

-- ---- the program's loop: where the specification multiplies first and reduces then, it reduces at each turn

abbrev pub xtime : ℕ → ℕ
xtime a = bit_xor (a * 2 % 256) (a / 128 % 2 * 27)

xtime_linear : Linear xtime
xtime_linear =
    sum_linear (λ a. a * 2 % 256) (λ a. a / 128 % 2 * 27)
    (λ a b. ap (λ t. t % 256) (double_linear a b) ∙ xor_mod (a * 2) (b * 2) 8) (bit_of_linear 7 27)

pub bit_below : (s a : ℕ) → s < 2 → a < 256 → s * a < 256
bit_below zero a h l = subst (λ (t : ℕ). t < 256) (sym (zero-mul a)) (omega arith)
bit_below (suc zero) a h l = subst (λ (t : ℕ). t < 256) (sym (one-mul a)) l
bit_below (suc (suc s)) a h l = absurd (not-suc-le-zero (le_of_suc-le-suc (le_of_suc-le-suc h)))

pub xtime_below : (a : ℕ) → xtime a < 256
xtime_below a =
    xor_lt 8 (a * 2 % 256) (a / 128 % 2 * 27) (mod-lt (a * 2) (omega arith)) (bit_below (a / 128 % 2) 27 (bit (a / 128)) (omega arith))

over_bits_below : (k a b : ℕ) → a < 256 → over_bits xtime k a b < 256
over_bits_below zero a b h = omega arith
over_bits_below (suc k) a b h =
    xor_lt 8 (b % 2 * a) (over_bits xtime k (xtime a) (b / 2)) (bit_below (b % 2) a (bit b) h) (over_bits_below k (xtime a) (b / 2) (xtime_below a))

pub reduced_each_turn : (a b : ℕ) → a < 256 → b < 256 → over_bits xtime 8 a b ≡ product a b
unfolding all_below product
reduced_each_turn =
    bilinear_same (over_bits xtime 8) product (over_bits_left xtime xtime_linear 8) (over_bits_right xtime 8) product_left product_right
    (pairs (over_bits xtime 8) product tt)

-- one turn: the lowest bit of b times a joins the sum
pub turn : (k s a b : ℕ) → k < 8 → bit_xor (bit_xor s (b % 2 * a)) (over_bits xtime (8 - (k + 1)) (xtime a) (b / 2)) ≡ bit_xor s (over_bits xtime (8 - k) a b)
turn k s a b h =
    xor_assoc s (b % 2 * a) (over_bits xtime (8 - (k + 1)) (xtime a) (b / 2)) ∙ ap (λ t. bit_xor s (over_bits xtime t a b)) (left_is k h)
  where
    left_is : (k : ℕ) → k < 8 → suc (8 - (k + 1)) ≡ 8 - k
    left_is k h = omega arith

-- the same in the words of the program's loop
pub loop_turn : (k s a b : ℕ) → k < 8 → a < 256
    → bit_xor (bit_xor s (bit_and b 1 * a)) (over_bits xtime (8 - (k + 1)) (bit_xor (a * 2 % 256) (a / 128 * 27)) (b / 2))
    ≡ bit_xor s (over_bits xtime (8 - k) a b)
loop_turn k s a b h ha =
    ap₂ (λ (l p : ℕ). bit_xor (bit_xor s (l * a)) (over_bits xtime (8 - (k + 1)) p (b / 2))) (and_mask b 1)
    (ap (λ t. bit_xor (a * 2 % 256) (t * 27)) (top a ha))
    ∙ turn k s a b h
  where
    top : (a : ℕ) → a < 256 → a / 128 ≡ a / 128 % 2
    top a h = omega arith

pub ended : (k s a b : ℕ) → 8 ≤ k → bit_xor s (over_bits xtime (8 - k) a b) ≡ s
ended k s a b h = ap (λ t. bit_xor s (over_bits xtime t a b)) (none_left k h) ∙ xor_zero_r s
  where
    none_left : (k : ℕ) → 8 ≤ k → 8 - k ≡ 0
    none_left k h = omega arith

-- ---- the laws

pub byte_laws : Laws byte
byte_laws = record {
  at_least_33 = lit≤ tt;
  at_most_2^32 = lit≤ tt;
  sum_below = λ a b ha hb. xor_lt 8 a b ha hb;
  negative_below = λ a h. h;
  product_below = λ a b ha hb. subst (λ (t : ℕ). t < 256) (reduced_each_turn a b ha hb) (over_bits_below 8 a b ha);
  inverse_below = λ a h. bounded product 256 a (omega arith);
  sum_comm = λ a b ha hb. xor_comm a b;
  sum_assoc = λ a b c ha hb hc. xor_assoc a b c;
  sum_zero = λ a h. xor_zero_r a;
  sum_negative = λ a h. xor_self a;
  product_comm = product_comm;
  product_assoc = product_assoc;
  product_one = product_one;
  product_sum = λ a b c ha hb hc. product_right a b c;
  product_inverse = λ a h n. one_over a h ∙ cond-false (a == 0) 0 1 (ne_eqb a 0 n);
  inverse_zero = none product 256 0 (λ b h e. let z : product 0 b ≡ 0 = linear_zero (λ a. product a b) (product_left b) in omega arith);
}

pub byte_doublable : DoublableLaws byte 1 0x20
byte_doublable = record { on_codes = byte_laws; at_most_65536 = lit≤ tt; u_below = lit≤ tt; v_below = lit≤ tt; no_root = no_root }
