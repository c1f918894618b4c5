use Rattle.std.proofs.Common.{◌≡◌, ◌++◌, map, drop}
use Rattle.text.specs.Numbers.{listed, others}
use Rattle.text.specs.Writing.{picked}
use Rattle.text.proofs.putting.CardText.push_list.Given as goal

-- what is written and what is still to write are the whole list
abbrev pub invariant-loop-pair : goal.invariant-loop-pair
invariant-loop-pair l =
    l.self ++ others (map (picked l.half) (drop l.pair-index l.others)) ≡ l.fn.self ++ listed (map (picked l.half) l.fn.card)
