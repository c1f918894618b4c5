-- Numbers, and lists of numbers, as text. A text is the list of its bytes; `decimal n` are the digits of n, highest first.
-- Assumes nothing.
use Rattle.std.specs.Prelude.{ℕ, ◌+◌, ◌-◌, ◌*◌, Bool, cond, not, ◌&&◌, List, [], ◌∷◌, ◌++◌, map, length, Some, None, Option, decimal, fold, ◌==◌, nat_le, nat_lt, slice_index}
use Rattle.std.specs.List.{flat_map, list_all, slice_split}
use Rattle.std.specs.Char.{is_ascii_digit}

-- the number that digits write
abbrev pub digits_value : List ℕ → ℕ
digits_value digits = fold (λ n c. n * 10 + (c - 48)) 0 digits

-- 1 to 10 digits without a leading zero, 0 itself allowed
abbrev pub is_number : List ℕ → Bool
is_number text =
    nat_le 1 (length text) && (nat_le (length text) 10 && (list_all is_ascii_digit text && not (slice_index text 0 == 48 && nat_lt 1 (length text))))

-- the number that a text is, where it is one
abbrev pub number_told : List ℕ → Option ℕ
number_told text = cond (is_number text) (Some (digits_value text)) None

-- what stands between the commas
abbrev pub pieces : List ℕ → List (List ℕ)
pieces text = slice_split (λ b. b == 44) text

-- numbers that are separated by single commas
abbrev pub is_list : List ℕ → Bool
is_list text = list_all is_number (pieces text)

abbrev pub numbers_in : List ℕ → List ℕ
numbers_in text = map digits_value (pieces text)

-- the numbers of a list that may be empty
abbrev pub optional_numbers_in : List ℕ → List ℕ
optional_numbers_in text = cond (length text == 0) [] (numbers_in text)

-- the numbers, each behind a comma
abbrev pub others : List ℕ → List ℕ
others numbers = flat_map (λ n. 44 ∷ decimal n) numbers

-- the text of a list of numbers
abbrev pub listed : List ℕ → List ℕ
listed [] = []
listed (n ∷ numbers) = decimal n ++ others numbers
