-- The text of a card that passes its questions fits, and is read as that card.
-- Assumes nothing.
use Rattle.std.proofs.Common.{◌≡◌, ℕ, ◌+◌, ◌*◌, ◌<◌, ◌≤◌, true, leb, List, [], ◌∷◌, ◌++◌, map, length, drop, is_ok, None, Ok, Err, decimal, sym, refl, ap, ◌∙◌, subst, mul-le-mul, arith}
use Rattle.scheme.proofs.Acceptance.{no_refusal}
use Rattle.std.specs.List.{AllByRecursion, list_all}
use Rattle.std.proofs.lemmas.Fmt.{length-decimal-le}
use Rattle.std.proofs.ByRecursion.{All-map, All-weaker}
use Rattle.std.proofs.lemmas.List.{length-append, length-map}
use Rattle.std.proofs.lemmas.Bool.{and_from, cond-true, eq-eqb, le-leb, lt-ltb}
use Rattle.scheme.specs.Figures.{figures_questions, figures_answer}
use Rattle.scheme.specs.Questions.{unless, all_codes}
use Rattle.scheme.specs.declared.types.Figures.{Figures}
use Rattle.scheme.specs.declared.types.Pair.{Pair}
use Rattle.runs.specs.Cards.{card_refusal}
use Rattle.text.specs.Card.{codes_of, card_keys, paired, reading, reading_questions, answer, settled, read_card, card_contents, card_text}
use Rattle.text.specs.Lines.{Number, key_word, kind_of, in_content, is_content, field_name, written, written_line}
use Rattle.text.specs.Numbers.{listed}
use Rattle.text.specs.RoundTrips.{reading_for}
use Rattle.text.specs.declared.types.Key.{Key}
use Rattle.text.specs.declared.types.Key.TheVariants.{Field, Participants, Threshold, Altered, Symbols, Card, Values, Tags}
use Rattle.text.specs.declared.types.FieldName.{FieldName}
use Rattle.text.specs.declared.types.FieldName.TheVariants.{Byte, P251}
use Rattle.text.proofs.LinesBack.{Good, Goods, lines_read}
use Rattle.text.proofs.LinesTold.{named_back}
use Rattle.text.proofs.NumbersBack.{decimal_digits, decimal_is_number, value_back, listed_is_list, numbers_back, listed_bytes}
use Rattle.text.proofs.Passing.{Passed, passed, size_small}
use Rattle.text.proofs.Lengths.{word_short, name_short, length_listed}

-- values and tags of a card

unpaired : (card : List Pair) → paired (map (λ (pair : Pair). pair.value) card) (map (λ (pair : Pair). pair.tag) card) ≡ card
unpaired [] = refl
unpaired (pair ∷ card) = ap (λ l. pair ∷ l) (unpaired card)

all_codes_from : (size : ℕ) (list : List ℕ) → AllByRecursion (λ n. n < size) list → all_codes size list ≡ true
all_codes_from size [] a = refl
all_codes_from size (n ∷ list) a = and_from _ _ (lt-ltb n size a.0) (all_codes_from size list a.1)

-- figures pass their questions
figures_pass : (f : Figures) → is_ok (figures_answer f.n f.k f.t f.d) ≡ true
figures_pass f = ap (λ o. is_ok {T = ℕ × ℕ × ℕ × ℕ} (unless o (f.n, f.k, f.t, f.d))) (no_refusal (figures_questions f.n f.k f.t f.d) (
  and_from _ _ (le-leb _ _ f.participants.0) (le-leb _ _ f.participants.1),
  (
    and_from _ _ (le-leb _ _ f.threshold.0) (le-leb _ _ f.threshold.1),
    (
      le-leb _ _ f.altered,
      (
        and_from _ _ (le-leb _ _ f.symbols.0) (le-leb _ _ f.symbols.1),
        tt,
      ),
    ),
  ),
))

-- a line has at most seven bytes more than its content
line_short : (key : Key) (content rest : List ℕ) → length (written_line key content ++ rest) ≤ length content + 7 + length rest
line_short key content rest =
    omega (arith, length-append (written_line key content) rest, length-append (key_word key) (content ++ (10 ∷ [])), length-append content (10 ∷ []), word_short key)

-- a card that passes its questions
module _ (field : FieldName) (f : Figures) (number : ℕ) (card : List Pair) (unrefused : card_refusal (codes_of field) f number card ≡ None) where
  p : Passed field f number card
  p = passed field f number card unrefused

  abbrev values : List ℕ
  values = map (λ (pair : Pair). pair.value) card

  abbrev tags : List ℕ
  tags = map (λ (pair : Pair). pair.tag) card

  values_codes : AllByRecursion (λ n. n < (codes_of field).size) values
  values_codes = All-map _ (λ (pair : Pair). pair.value) card (All-weaker _ _ (λ pair c. c.0) card p.codes)

  tags_codes : AllByRecursion (λ n. n < (codes_of field).size * (codes_of field).size) tags
  tags_codes = All-map _ (λ (pair : Pair). pair.tag) card (All-weaker _ _ (λ pair c. c.1) card p.codes)

  p_small : (codes_of field).size * (codes_of field).size ≤ 65536
  p_small = mul-le-mul (size_small field) (size_small field)

  values_small : {m : ℕ} → 256 ≤ m → AllByRecursion (λ n. n < m) values
  values_small {m} h = All-weaker _ (λ n. n < m) (λ n c. omega (arith, size_small field)) values values_codes

  tags_small : {m : ℕ} → 65536 ≤ m → AllByRecursion (λ n. n < m) tags
  tags_small {m} h = All-weaker _ (λ n. n < m) (λ n c. omega (arith, p_small)) tags tags_codes

  some : (g : Pair → ℕ) → 1 ≤ length (map g card)
  some g = let a = p.pairs in let b = f.symbols.0 in omega (arith, length-map card g)

  small_figure : (n : ℕ) → n ≤ 64 → n < 10000000000
  small_figure n h = omega arith

  n_small : f.n < 10000000000
  n_small = small_figure f.n (omega (arith, f.participants.1))

  k_small : f.k < 10000000000
  k_small = small_figure f.k (omega (arith, f.participants.1, f.threshold.1))

  t_small : f.t < 10000000000
  t_small = small_figure f.t (omega (arith, f.participants.1, f.threshold.1, f.altered))

  d_small : f.d < 10000000000
  d_small = small_figure f.d f.symbols.1

  number_small : number < 10000000000
  number_small = small_figure number (omega (arith, p.to_n, f.participants.1))

  pub text_fits : length (card_text field f number card) ≤ 1024
  text_fits =
      let few = λ (n : ℕ) (h : n < 10000000000). length-decimal-le 10 n (omega arith) (omega arith) (omega arith) in
      let contents = card_contents field f number card in
      let v = length_listed values (values_small (omega arith)) in
      let g = length_listed tags (tags_small (omega arith)) in
      let pairs = p.pairs in
      let places = f.symbols.1 in
      let eight = line_short Tags (listed tags) [] in
      let seven = line_short Values (listed values) (written (Tags ∷ []) (listed tags ∷ [])) in
      let six = line_short Card (decimal number) (written (Values ∷ Tags ∷ []) (listed values ∷ listed tags ∷ [])) in
      let five = line_short Symbols (decimal f.d) (written (Card ∷ Values ∷ Tags ∷ []) (drop 5 contents)) in
      let four = line_short Altered (decimal f.t) (written (drop 4 card_keys) (drop 4 contents)) in
      let three = line_short Threshold (decimal f.k) (written (drop 3 card_keys) (drop 3 contents)) in
      let two = line_short Participants (decimal f.n) (written (drop 2 card_keys) (drop 2 contents)) in
      let one = line_short Field (field_name field) (written (drop 1 card_keys) (drop 1 contents)) in
      omega (
        arith,
        few f.n n_small,
        few f.k k_small,
        few f.t t_small,
        few f.d d_small,
        few number number_small,
        name_short field,
        length-map card (λ (pair : Pair). pair.value),
        length-map card (λ (pair : Pair). pair.tag),
      )

  good_number : (key : Key) → kind_of key ≡ Number → (n : ℕ) → n < 10000000000 → Good key (decimal n)
  good_number key e n h = record {
    bytes = subst (λ c. list_all (in_content c) (decimal n) ≡ true) (sym e) (decimal_digits n h);
    is = subst (λ c. is_content c (decimal n) ≡ true) (sym e) (decimal_is_number n h);
  }

  goods : Goods card_keys (card_contents field f number card)
  goods = (
    good_name field,
    (
      good_number Participants refl f.n n_small,
      (
        good_number Threshold refl f.k k_small,
        (
          good_number Altered refl f.t t_small,
          (
            good_number Symbols refl f.d d_small,
            (
              good_number Card refl number number_small,
              (
                record { bytes = listed_bytes values (values_small (omega arith)); is = listed_is_list values (some _) (values_small (omega arith)) },
                (
                  record { bytes = listed_bytes tags (tags_small (omega arith)); is = listed_is_list tags (some _) (tags_small (omega arith)) },
                  tt,
                ),
              ),
            ),
          ),
        ),
      ),
    ),
  )
    where
      good_name : (name : FieldName) → Good Field (field_name name)
      good_name Byte = record { bytes = refl; is = refl }
      good_name P251 = record { bytes = refl; is = refl }

  asked : AllByRecursion (λ q. q.0 ≡ true) (reading_questions field f.n f.k f.t f.d number values tags [])
  asked = (
    refl,
    (
      figures_pass f,
      (
        and_from _ _ (le-leb 1 number p.from_one) (le-leb number f.n p.to_n),
        (
          eq-eqb _ _ (length-map card _ ∙ p.pairs),
          (
            eq-eqb _ _ (length-map card _ ∙ p.pairs),
            (
              all_codes_from _ values values_codes,
              (
                all_codes_from _ tags tags_codes,
                tt,
              ),
            ),
          ),
        ),
      ),
    ),
  )

  pub text_is_read : read_card (card_text field f number card) ≡ Ok (reading_for field f number card)
  text_is_read =
      cond-true (leb (length (card_text field f number card)) 1024) _ (Err (51, 0)) (le-leb _ 1024 text_fits)
      ∙ ap settled (lines_read 1 card_keys (card_contents field f number card) goods)
      ∙ (λ j. answer (named_back field j) (value_back f.n n_small j) (value_back f.k k_small j) (value_back f.t t_small j) (value_back f.d d_small j)
      (value_back number number_small j) (numbers_back values (some _) (values_small (omega arith)) j) (numbers_back tags (some _) (tags_small (omega arith)) j) [])
      ∙ ap (λ o. unless o (reading field f.n f.k f.t f.d number values tags [])) (no_refusal (reading_questions field f.n f.k f.t f.d number values tags []) asked)
      ∙ ap (λ c. Ok (reading_for field f number c)) (unpaired card)
