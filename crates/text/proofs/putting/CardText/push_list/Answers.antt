use Rattle.std.proofs.Common.{◌≡◌, ℕ, ◌+◌, ◌<◌, List, ◌∷◌, ◌++◌, map, length, get_or, drop, decimal, ap, arith}
use Rattle.std.proofs.lemmas.List.{at_drop_more, length-append}
use Rattle.scheme.specs.declared.types.Pair.{Pair}
use Rattle.text.specs.Numbers.{others}
use Rattle.text.specs.Writing.{picked}
use Rattle.text.proofs.putting.CardText.push_list.Goals as goal

-- what is still to write begins with a comma and the next number
next : (number_of : Pair → ℕ) (pairs : List Pair) (i : ℕ) → i < length pairs
    → length (others (map number_of (drop i pairs))) ≡ length ((44 ∷ decimal (number_of (get_or pairs i (record { value = 0; tag = 0 })))) ++ others (map number_of (drop (i + 1) pairs)))
next number_of pairs i h = at_drop_more (λ rest. length (others (map number_of rest))) pairs i _ h

pub push-requires : goal.push-requires
push-requires c =
    let more = next (picked c.args.half) c.in-Some.others.now c.loop-pair.pair-index c.loop-pair-test.true in
    omega (arith, length-append {A = ℕ}, ap length c.loop-pair.invariant)

pub push_number-requires-in-loop-pair : goal.push_number-requires-in-loop-pair
push_number-requires-in-loop-pair c =
    let more = next (picked c.args.half) c.in-Some.others.now c.loop-pair.pair-index c.loop-pair-test.true in
    grind (arith, length-append {A = ℕ}, ap length c.loop-pair.invariant)
