-- An accepted text is written back unchanged.
-- Assumes nothing.
use Rattle.std.proofs.Common.{◌≡◌, ℕ, ◌*◌, Bool, true, false, cond, ◌||◌, leb, List, [], ◌∷◌, ◌++◌, map, length, is_ok, Some, None, Ok, Err, Option, Result, sym, refl, ap, ◌∙◌, subst, append-nil, arith}
use Rattle.std.specs.List.{AllByRecursion, list_all}
use Rattle.std.specs.Str.{bytes_eq}
use Rattle.std.proofs.lemmas.Slice.Eq.{bytes_eq-Decides}
use Rattle.std.proofs.lemmas.List.{nil_from_length}
use Rattle.std.proofs.lemmas.Bool.{and_parts, and_from, both_ways, eqb-true, leb-true}
use Rattle.fields.specs.Laws.{Codes}
use Rattle.scheme.specs.Figures.{figures_questions, figures_answer}
use Rattle.scheme.specs.Questions.{unless, all_codes, first_no}
use Rattle.scheme.specs.declared.types.Figures.{Figures}
use Rattle.scheme.specs.declared.types.Pair.{Pair}
use Rattle.scheme.proofs.Acceptance.{all_yes}
use Rattle.runs.specs.Cards.{is_coded_pair}
use Rattle.text.specs.Card.{Reading, codes_of, named_field, card_keys, paired, reading, reading_questions, settled, read_card}
use Rattle.text.specs.Lines.{Name, is_content, field_name, lines, written}
use Rattle.text.specs.Numbers.{digits_value, numbers_in, listed}
use Rattle.text.specs.RoundTrips.{WrittenBack}
use Rattle.text.specs.declared.types.FieldName.TheVariants.{Byte, P251}
use Rattle.text.proofs.LinesBack.{Back, lines_back, unrefused, not_ok}
use Rattle.text.proofs.NumbersBack.{decimal_back, listed_back}
use Rattle.text.proofs.Pairing.{length_paired}
use Rattle.runs.proofs.Tables.{right_from}

ok_none : {A : Type 0} (o : Option ℕ) (a : A) → is_ok (unless o a) ≡ true → o ≡ None
ok_none None a e = refl
ok_none (Some x) a e = absurd (both_ways false refl e)

-- figures of four numbers that pass
passing : (n k t d : ℕ) → is_ok (figures_answer n k t d) ≡ true → Figures
passing n k t d e =
    let told = all_yes (figures_questions n k t d) (ok_none _ (n, k, t, d) e) in
    let a = and_parts _ _ told.0 in
    let b = and_parts _ _ told.1.0 in
    let c = and_parts _ _ told.1.1.1.0 in
    record {
      n = n;
      k = k;
      t = t;
      d = d;
      participants = (leb-true _ _ a.0, leb-true _ _ a.1);
      threshold = (leb-true _ _ b.0, leb-true _ _ b.1);
      altered = leb-true _ _ told.1.1.0;
      symbols = (leb-true _ _ c.0, leb-true _ _ c.1);
    }

name_back : (name : List ℕ) → is_content Name name ≡ true → field_name (named_field name) ≡ name
name_back name e =
    elim (bytes_eq name (field_name Byte)) as (λ b. bytes_eq name (field_name Byte) ≡ b → (b || bytes_eq name (field_name P251)) ≡ true → field_name (cond b Byte P251) ≡ name) [
      | true ↦ λ q _. sym ((bytes_eq-Decides name (field_name Byte)).0 q)
      | false ↦ λ _ q. sym ((bytes_eq-Decides name (field_name P251)).0 q)
    ] refl e

values_of : (values tags : List ℕ) → length values ≡ length tags → map (λ (pair : Pair). pair.value) (paired values tags) ≡ values
values_of [] tags e = refl
values_of (v ∷ values) [] e = absurd (omega arith)
values_of (v ∷ values) (g ∷ tags) e = ap (λ l. v ∷ l) (values_of values tags (omega arith))

tags_of : (values tags : List ℕ) → length values ≡ length tags → map (λ (pair : Pair). pair.tag) (paired values tags) ≡ tags
tags_of [] [] e = refl
tags_of [] (g ∷ tags) e = absurd (omega arith)
tags_of (v ∷ values) [] e = absurd (omega arith)
tags_of (v ∷ values) (g ∷ tags) e = ap (λ l. g ∷ l) (tags_of values tags (omega arith))

coded_pairs : (C : Codes) (values tags : List ℕ) → all_codes C.size values ≡ true → all_codes (C.size * C.size) tags ≡ true → list_all (is_coded_pair C) (paired values tags) ≡ true
coded_pairs C [] tags a b = refl
coded_pairs C (v ∷ values) [] a b = refl
coded_pairs C (v ∷ values) (g ∷ tags) a b =
    let x = and_parts _ _ a in
    let y = and_parts _ _ b in
    and_from _ _ (and_from _ _ x.0 y.0) (coded_pairs C values tags x.1 y.1)

-- with the contents of the eight lines
module _ (text c₀ c₁ c₂ c₃ c₄ c₅ c₆ c₇ rest : List ℕ) where
  abbrev all_contents : List (List ℕ)
  all_contents = c₀ ∷ c₁ ∷ c₂ ∷ c₃ ∷ c₄ ∷ c₅ ∷ c₆ ∷ c₇ ∷ []

  abbrev told : List (Bool × (ℕ × ℕ))
  told = reading_questions (named_field c₀) (digits_value c₁) (digits_value c₂) (digits_value c₃) (digits_value c₄) (digits_value c₅) (numbers_in c₆) (numbers_in c₇) rest

  abbrev tells : Reading
  tells = reading (named_field c₀) (digits_value c₁) (digits_value c₂) (digits_value c₃) (digits_value c₄) (digits_value c₅) (numbers_in c₆) (numbers_in c₇) rest

  told_back : Back card_keys text all_contents rest → AllByRecursion (λ q. q.0 ≡ true) told → WrittenBack text tells
  unfolding passing
  told_back back yeses =
      let f = passing (digits_value c₁) (digits_value c₂) (digits_value c₃) (digits_value c₄) yeses.1.0 in
      let are = back.are in
      let v = eqb-true _ _ yeses.1.1.1.0 in
      let g = eqb-true _ _ yeses.1.1.1.1.0 in
      let level : length (numbers_in c₆) ≡ length (numbers_in c₇) = v ∙ sym g in
      let none : rest ≡ [] = nil_from_length rest (eqb-true _ _ yeses.0) in
      record {
        figures = f;
        reads = refl;
        passes = right_from (codes_of (named_field c₀)) f (digits_value c₅) (paired (numbers_in c₆) (numbers_in c₇)) (
          yeses.1.1.0,
          length_paired (numbers_in c₆) (numbers_in c₇) level ∙ v,
          coded_pairs (codes_of (named_field c₀)) (numbers_in c₆) (numbers_in c₇) yeses.1.1.1.1.1.0 yeses.1.1.1.1.1.1.0,
        );
        unchanged =
            (λ j. written card_keys (name_back c₀ are.0 j ∷ decimal_back c₁ are.1.0 j ∷ decimal_back c₂ are.1.1.0 j ∷ decimal_back c₃ are.1.1.1.0 j
            ∷ decimal_back c₄ are.1.1.1.1.0 j ∷ decimal_back c₅ are.1.1.1.1.1.0 j
            ∷ (ap listed (values_of (numbers_in c₆) (numbers_in c₇) level) ∙ listed_back c₆ are.1.1.1.1.1.1.0) j
            ∷ (ap listed (tags_of (numbers_in c₆) (numbers_in c₇) level) ∙ listed_back c₇ are.1.1.1.1.1.1.1.0) j ∷ []))
            ∙ sym (append-nil (written card_keys all_contents)) ∙ ap (λ l. written card_keys all_contents ++ l) (sym none) ∙ back.same;
      }

  read_back : Back card_keys text all_contents rest → (r : Reading) → settled (Ok (all_contents, rest)) ≡ Ok r → WrittenBack text r
  read_back back r e =
      let u = unrefused (first_no told) tells r e in
      subst (WrittenBack text) u.1 (told_back back (all_yes told u.0))

-- there are eight contents
contents_back : (text : List ℕ) (contents : List (List ℕ)) (rest : List ℕ) → Back card_keys text contents rest → (r : Reading) → settled (Ok (contents, rest)) ≡ Ok r → WrittenBack text r
contents_back text [] rest b r e = absurd b.are
contents_back text (c₀ ∷ []) rest b r e = absurd b.are.1
contents_back text (c₀ ∷ c₁ ∷ []) rest b r e = absurd b.are.1.1
contents_back text (c₀ ∷ c₁ ∷ c₂ ∷ []) rest b r e = absurd b.are.1.1.1
contents_back text (c₀ ∷ c₁ ∷ c₂ ∷ c₃ ∷ []) rest b r e = absurd b.are.1.1.1.1
contents_back text (c₀ ∷ c₁ ∷ c₂ ∷ c₃ ∷ c₄ ∷ []) rest b r e = absurd b.are.1.1.1.1.1
contents_back text (c₀ ∷ c₁ ∷ c₂ ∷ c₃ ∷ c₄ ∷ c₅ ∷ []) rest b r e = absurd b.are.1.1.1.1.1.1
contents_back text (c₀ ∷ c₁ ∷ c₂ ∷ c₃ ∷ c₄ ∷ c₅ ∷ c₆ ∷ []) rest b r e = absurd b.are.1.1.1.1.1.1.1
contents_back text (c₀ ∷ c₁ ∷ c₂ ∷ c₃ ∷ c₄ ∷ c₅ ∷ c₆ ∷ c₇ ∷ []) rest b r e = read_back text c₀ c₁ c₂ c₃ c₄ c₅ c₆ c₇ rest b r e
contents_back text (c₀ ∷ c₁ ∷ c₂ ∷ c₃ ∷ c₄ ∷ c₅ ∷ c₆ ∷ c₇ ∷ c ∷ contents) rest b r e = absurd b.are.1.1.1.1.1.1.1.1

pub text_back : (text : List ℕ) (r : Reading) → read_card text ≡ Ok r → WrittenBack text r
text_back text r e = by (leb (length text) 1024) e
  where
    of_lines : (l : Result (List (List ℕ) × List ℕ) (ℕ × ℕ)) → lines 1 card_keys text ≡ l → settled l ≡ Ok r → WrittenBack text r
    of_lines (Ok l) q h = contents_back text l.0 l.1 (lines_back 1 card_keys text l.0 l.1 q) r h
    of_lines (Err x) q h = absurd (not_ok x r h)

    by : (b : Bool) → cond b (settled (lines 1 card_keys text)) (Err (51, 0)) ≡ Ok r → WrittenBack text r
    by true h = of_lines (lines 1 card_keys text) refl h
    by false h = absurd (not_ok (51, 0) r h)
