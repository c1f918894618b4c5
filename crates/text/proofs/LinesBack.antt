-- Lines that are written and read, and read and written.
-- Assumes nothing.
use Rattle.std.proofs.Common.{◌≡◌, ℕ, suc, ◌+◌, Bool, true, false, cond, List, [], ◌∷◌, ◌++◌, length, take, drop, Some, None, Ok, Err, Option, Result, sym, refl, ap, ◌∙◌, subst, append_assoc, one-add, arith}
use Rattle.scheme.proofs.Acceptance.{all_yes}
use Rattle.scheme.specs.Questions.{first_no, unless}
use Rattle.std.specs.List.{list_all, prefix_len}
use Rattle.std.specs.Str.{bytes_eq}
use Rattle.std.proofs.lemmas.Slice.Eq.{bytes_eq-Decides}
use Rattle.std.proofs.lemmas.List.{take-append-drop, take_at, drop_at}
use Rattle.std.proofs.lemmas.Bool.{and_parts}
use Rattle.text.specs.Lines.{Kind, Name, Number, Numbers, OptionalNumbers, key_word, kind_of, in_content, is_content, begins, line, lines, with_content, and_then, written_line, written}
use Rattle.text.specs.declared.types.Key.{Key}

-- a line ends at its byte 10
ends_at_10 : (kind : Kind) → in_content kind 10 ≡ false
ends_at_10 Name = refl
ends_at_10 Number = refl
ends_at_10 Numbers = refl
ends_at_10 OptionalNumbers = refl

same_itself : (bytes : List ℕ) → bytes_eq bytes bytes ≡ true
same_itself bytes = (bytes_eq-Decides bytes bytes).1 refl

-- the longest run of bytes that pass ends at the first that does not
leading_all : (test : ℕ → Bool) (run rest : List ℕ) (b : ℕ) → list_all test run ≡ true → test b ≡ false → prefix_len test (run ++ (b ∷ rest)) ≡ length run
leading_all test [] rest b e n = ap (λ t. cond t (1 + prefix_len test rest) 0) n
leading_all test (a ∷ run) rest b e n =
    let p = and_parts _ _ e in
    ap (λ t. cond t (1 + prefix_len test (run ++ (b ∷ rest))) 0) p.0 ∙ ap (λ m. 1 + m) (leading_all test run rest b p.1 n) ∙ one-add (length run)

-- a content that its key takes: the bytes are of its kind, and it is such a content
pub record Good (key : Key) (content : List ℕ) : Type 0 where
  pub bytes : list_all (in_content (kind_of key)) content ≡ true
  pub is : is_content (kind_of key) content ≡ true

abbrev pub Goods : List Key → List (List ℕ) → Type 0
Goods [] [] = Unit {0}
Goods [] (content ∷ contents) = ⊥
Goods (key ∷ keys) [] = ⊥
Goods (key ∷ keys) (content ∷ contents) = Good key content × Goods keys contents

module _ (at : ℕ) (key : Key) (content rest : List ℕ) (good : Good key content) where
  abbrev line_text : List ℕ
  line_text = key_word key ++ (content ++ (10 ∷ rest))

  regrouped : written_line key content ++ rest ≡ line_text
  regrouped = append_assoc (key_word key) (content ++ (10 ∷ [])) rest ∙ ap (λ l. key_word key ++ l) (append_assoc content (10 ∷ []) rest)

  behind : drop (length (key_word key)) line_text ≡ content ++ (10 ∷ rest)
  behind = drop_at (key_word key) (content ++ (10 ∷ rest)) (length (key_word key)) refl

  run : prefix_len (in_content (kind_of key)) (content ++ (10 ∷ rest)) ≡ length content
  run = leading_all (in_content (kind_of key)) content rest 10 good.bytes (ends_at_10 (kind_of key))

  -- a line that was written is read
  pub line_read : line at key (written_line key content ++ rest) ≡ Ok (content, rest)
  line_read =
      ap (line at key) regrouped
      ∙ ap (λ l. asked (begins (key_word key) line_text) l (prefix_len (in_content (kind_of key)) l)) behind
      ∙ ap (asked (begins (key_word key) line_text) (content ++ (10 ∷ rest))) run
      ∙ (λ j. answered (starts j) (take_at content (10 ∷ rest) (length content) refl j) (drop_at content (10 ∷ rest) (length content) refl j))
      ∙ ap (λ b. unless (cond b None (Some (53, at))) (content, rest)) good.is
    where
      starts : begins (key_word key) line_text ≡ true
      starts = ap (λ front. bytes_eq front (key_word key)) (take_at (key_word key) (content ++ (10 ∷ rest)) (length (key_word key)) refl) ∙ same_itself (key_word key)

      answered : Bool → List ℕ → List ℕ → Result (List ℕ × List ℕ) (ℕ × ℕ)
      answered b c r =
          unless (first_no ((b, (52, at)) ∷ (is_content (kind_of key) c, (53, at)) ∷ (begins (10 ∷ []) r, (54, at)) ∷ [])) (c, drop 1 r)

      asked : Bool → List ℕ → ℕ → Result (List ℕ × List ℕ) (ℕ × ℕ)
      asked b l end = answered b (take end l) (drop end l)

-- all lines
pub lines_read : (at : ℕ) (keys : List Key) (contents : List (List ℕ)) → Goods keys contents → lines at keys (written keys contents) ≡ Ok (contents, [])
lines_read at [] [] goods = refl
lines_read at [] (c ∷ contents) goods = absurd goods
lines_read at (k ∷ keys) [] goods = absurd goods
lines_read at (k ∷ keys) (c ∷ contents) goods =
    ap (λ r. and_then r (lines (suc at) keys)) (line_read at k c (written keys contents) goods.0)
    ∙ ap (with_content c) (lines_read (suc at) keys contents goods.1)

ok_same : {A E : Type 0} (a b : A) → ◌≡◌ {A = Result A E} (Ok a) (Ok b) → a ≡ b
ok_same a b e = cc

pub not_ok : {A E : Type 0} (e : E) (a : A) → ◌≡◌ {A = Result A E} (Err e) (Ok a) → ⊥
not_ok e a p = let z : ◌≡◌ {A = ℕ} 0 1 = cc in omega arith

-- an answer that is not refused
pub unrefused : {A : Type 0} (o : Option (ℕ × ℕ)) (a b : A) → unless o a ≡ Ok b → (o ≡ None) × (a ≡ b)
unrefused None a b e = (refl, ok_same a b e)
unrefused (Some x) a b e = absurd (not_ok x b e)

begins_with : (front text : List ℕ) → begins front text ≡ true → front ++ drop (length front) text ≡ text
begins_with front text e =
    ap (λ l. l ++ drop (length front) text) (sym ((bytes_eq-Decides (take (length front) text) front).0 e)) ∙ take-append-drop (length front) text

-- a line that was read is written
module _ (at : ℕ) (key : Key) (whole : List ℕ) where
  abbrev rest_of : List ℕ
  rest_of = drop (length (key_word key)) whole

  abbrev run_length : ℕ
  run_length = prefix_len (in_content (kind_of key)) rest_of

  abbrev line_questions : List (Bool × (ℕ × ℕ))
  line_questions =
      (begins (key_word key) whole, (52, at)) ∷ (is_content (kind_of key) (take run_length rest_of), (53, at)) ∷ (begins (10 ∷ []) (drop run_length rest_of), (54, at)) ∷ []

  pub line_back : (content rest : List ℕ) → line at key whole ≡ Ok (content, rest)
      → (written_line key content ++ rest ≡ whole) × (is_content (kind_of key) content ≡ true)
  line_back content rest e =
      let u = unrefused (first_no line_questions) (take run_length rest_of, drop 1 (drop run_length rest_of)) (content, rest) e in
      let told = all_yes line_questions u.0 in
      let c-is : take run_length rest_of ≡ content = ap (λ (p : List ℕ × List ℕ). p.0) u.1 in
      let r-is : drop 1 (drop run_length rest_of) ≡ rest = ap (λ (p : List ℕ × List ℕ). p.1) u.1 in
      let ending : (10 ∷ []) ++ rest ≡ drop run_length rest_of = ap (λ l. (10 ∷ []) ++ l) (sym r-is) ∙ begins_with (10 ∷ []) (drop run_length rest_of) told.1.1.0 in (
        append_assoc (key_word key) (content ++ (10 ∷ [])) rest
            ∙ ap (λ l. key_word key ++ l)
            (append_assoc content (10 ∷ []) rest ∙ (λ j. sym c-is j ++ ending j) ∙ take-append-drop run_length rest_of)
            ∙ begins_with (key_word key) whole told.0,
        subst (λ c. is_content (kind_of key) c ≡ true) c-is told.1.0,
      )

-- every content is what its key asks for
abbrev pub Contents : List Key → List (List ℕ) → Type 0
Contents [] [] = Unit {0}
Contents [] (content ∷ contents) = ⊥
Contents (key ∷ keys) [] = ⊥
Contents (key ∷ keys) (content ∷ contents) = (is_content (kind_of key) content ≡ true) × Contents keys contents

pub record Back (keys : List Key) (text : List ℕ) (contents : List (List ℕ)) (rest : List ℕ) : Type 0 where
  pub same : written keys contents ++ rest ≡ text
  pub are : Contents keys contents

abbrev LinesComeBack : ℕ → List Key → Type 0
LinesComeBack at keys = (text : List ℕ) (contents : List (List ℕ)) (rest : List ℕ) → lines at keys text ≡ Ok (contents, rest) → Back keys text contents rest

-- all lines
pub lines_back : (at : ℕ) (keys : List Key) → LinesComeBack at keys
lines_back at [] text contents rest e =
    subst (λ (p : List (List ℕ) × List ℕ). Back [] text p.0 p.1) (ok_same ([], text) (contents, rest) e) (record { same = refl; are = tt })
lines_back at (key ∷ keys) text contents rest e = first (line at key text) refl (lines_back (suc at) keys) e
  where
    others : LinesComeBack (suc at) keys → (l : List ℕ × List ℕ) → line at key text ≡ Ok l → (s : Result (List (List ℕ) × List ℕ) (ℕ × ℕ)) → lines (suc at) keys l.1 ≡ s
        → with_content l.0 s ≡ Ok (contents, rest) → Back (key ∷ keys) text contents rest
    others back l p (Err x) q h = absurd (not_ok x (contents, rest) h)
    others back l p (Ok o) q h =
        let b = back l.1 o.0 o.1 q in
        let f = line_back at key text l.0 l.1 p in
        subst (λ (p : List (List ℕ) × List ℕ). Back (key ∷ keys) text p.0 p.1) (ok_same (l.0 ∷ o.0, o.1) (contents, rest) h)
        (record {
          same = append_assoc (written_line key l.0) (written keys o.0) o.1 ∙ ap (λ t. written_line key l.0 ++ t) b.same ∙ f.0;
          are = (f.1, b.are);
        })

    first : (r : Result (List ℕ × List ℕ) (ℕ × ℕ)) → line at key text ≡ r → LinesComeBack (suc at) keys → and_then r (lines (suc at) keys) ≡ Ok (contents, rest) → Back (key ∷ keys) text contents rest
    first (Err x) p back h = absurd (not_ok x (contents, rest) h)
    first (Ok l) p back h = others back l p (lines (suc at) keys l.1) refl h
