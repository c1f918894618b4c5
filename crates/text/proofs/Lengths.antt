-- The bytes of keys, names and lists of numbers are few.
-- Assumes nothing.
use Rattle.std.proofs.Common.{ℕ, ◌*◌, ◌<◌, ◌≤◌, List, [], ◌∷◌, length, decimal, arith, lit≤}
use Rattle.std.specs.List.{AllByRecursion}
use Rattle.std.proofs.lemmas.Fmt.{length-decimal-le}
use Rattle.std.proofs.lemmas.List.{length-append}
use Rattle.text.specs.Lines.{field_name, key_word}
use Rattle.text.specs.Numbers.{others, listed}
use Rattle.text.specs.declared.types.FieldName.{FieldName}
use Rattle.text.specs.declared.types.FieldName.TheVariants.{Byte, P251}
use Rattle.text.specs.declared.types.Key.{Key}
use Rattle.text.specs.declared.types.Key.TheVariants.{Field, Participants, Threshold, Altered, Symbols, Card, Values, Tags, Secret, ValueCoefficients, TagCoefficients}

pub word_short : (key : Key) → length (key_word key) ≤ 6
word_short Field = lit≤ tt
word_short Participants = lit≤ tt
word_short Threshold = lit≤ tt
word_short Altered = lit≤ tt
word_short Symbols = lit≤ tt
word_short Card = lit≤ tt
word_short Values = lit≤ tt
word_short Tags = lit≤ tt
word_short Secret = lit≤ tt
word_short ValueCoefficients = lit≤ tt
word_short TagCoefficients = lit≤ tt

pub name_short : (field : FieldName) → length (field_name field) ≤ 4
name_short Byte = lit≤ tt
name_short P251 = lit≤ tt

-- a list of numbers has at most six bytes for each
length_others : (numbers : List ℕ) → AllByRecursion (λ n. n < 100000) numbers → length (others numbers) ≤ 6 * length numbers
length_others [] small = omega arith
length_others (n ∷ numbers) small =
    let few = length-decimal-le 5 n (omega arith) (omega (arith, small.0)) (omega (arith, small.0)) in
    let rest = length_others numbers small.1 in
    omega (arith, length-append (44 ∷ decimal n) (others numbers))

pub length_listed : (numbers : List ℕ) → AllByRecursion (λ n. n < 100000) numbers → length (listed numbers) ≤ 6 * length numbers
length_listed [] small = omega arith
length_listed (n ∷ numbers) small =
    let few = length-decimal-le 5 n (omega arith) (omega (arith, small.0)) (omega (arith, small.0)) in
    let rest = length_others numbers small.1 in
    omega (arith, length-append (decimal n) (others numbers))
