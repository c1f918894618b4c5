-- A buffer that is filled from its front with groups of d elements.
-- Assumes nothing.
use Rattle.std.proofs.Common.{◌≡◌, ℕ, ◌+◌, ◌*◌, ◌<◌, ◌≤◌, List, [], ◌∷◌, ◌++◌, length, drop, sym, ap, ◌∙◌, ap₂, mul-le-mul_right, suc-mul, arith}
use borrow.Rule.Slice.PartMut.{put_mid}
use Rattle.std.specs.List.{range_with_len, flat_map}
use Rattle.std.proofs.lemmas.List.{append_assoc, append-nil, drop_all, drop-drop, drop_at, take_at, length-append, flat_map_more, map-id}
use Rattle.std.proofs.lemmas.List.FromFn.{length-range_with_len, map-range_with_len_more}

-- all of them
pub filled_all : {X : Type 0} (front buffer : List X) (j : ℕ) → length buffer ≤ j → front ++ drop j buffer ≡ front
filled_all front buffer j h = ap (λ l. front ++ l) (drop_all j buffer h) ∙ append-nil front

-- row j of n ends within all of them
pub row_ends : (d j n : ℕ) → j < n → j * d + d ≤ n * d
row_ends d j n h = omega (arith, mul-le-mul_right d h, suc-mul j d)

counting_more : (a n : ℕ) → range_with_len a (n + 1) ≡ range_with_len a n ++ (a + n) ∷ []
counting_more a n =
    sym (map-id (range_with_len a (n + 1))) ∙ map-range_with_len_more (λ x. x) a n (a + n) (omega arith) ∙ ap (λ l. l ++ (a + n) ∷ []) (map-id (range_with_len a n))

-- groups of d elements, one after the other
module _ {X : Type 0} (f : ℕ → List X) (d : ℕ) (each : (i : ℕ) → length (f i) ≡ d) where
  length_joined : (list : List ℕ) → length (flat_map f list) ≡ length list * d
  length_joined [] = omega arith
  length_joined (i ∷ list) = length-append (f i) (flat_map f list) ∙ ap₂ ◌+◌ (each i) (length_joined list) ∙ omega arith

  -- one group more, written as a part of the buffer
  pub groups_more : (buffer group : List X) (i k : ℕ) → group ≡ f (i + 1) → k ≡ d
      → put_mid (i * d) k (flat_map f (range_with_len 1 i) ++ drop (i * d) buffer) group ≡ flat_map f (range_with_len 1 (i + 1)) ++ drop ((i + 1) * d) buffer
  groups_more buffer group i k eg ek =
      let front = flat_map f (range_with_len 1 i) in
      let long : length front ≡ i * d = length_joined (range_with_len 1 i) ∙ ap (λ n. n * d) (length-range_with_len 1 i) in
      let behind : drop k (drop (i * d) (front ++ drop (i * d) buffer)) ≡ drop ((i + 1) * d) buffer =
      ap (drop k) (drop_at front (drop (i * d) buffer) (i * d) long) ∙ drop-drop k (i * d) buffer
      ∙ ap (λ n. drop n buffer) (ap (λ n. i * d + n) ek ∙ omega arith) in
      let more : front ++ f (i + 1) ≡ flat_map f (range_with_len 1 (i + 1)) =
      flat_map_more f [] (range_with_len 1 i) (i + 1)
      ∙ sym (ap (flat_map f) (counting_more 1 i ∙ ap (λ n. range_with_len 1 i ++ n ∷ []) (omega arith))) in
      ap₂ ◌++◌ (take_at front (drop (i * d) buffer) (i * d) long) (ap₂ ◌++◌ eg behind)
      ∙ sym (append_assoc front (f (i + 1)) (drop ((i + 1) * d) buffer)) ∙ ap (λ l. l ++ drop ((i + 1) * d) buffer) more
