use Rattle.std.proofs.Common.{◌≡◌, ◌<◌, [], ◌∷◌, ◌++◌, length, get_or, take, sym, ap, subst, ◌∙◌, rules, arith}
use Rattle.std.proofs.lemmas.Iterator.Consumers.{YieldsList-turn, YieldsList-end}
use Rattle.std.proofs.lemmas.List.{take_all, length-map, length_push, get_or-map}
use Rattle.std.proofs.lemmas.List.FromFn.{length-enumerate_from}
use borrow.Author.Tests.{tests}
use Rattle.text.specs.Numbers.{pieces, numbers_in, digits_value}
use Rattle.text.proofs.Pieces.{pieces_road, placed, piece_is_number, copied_more}
use Rattle.text.proofs.numbers.NumberList.copy_into.Goals as goal

pub value_of-requires : goal.value_of-requires
value_of-requires c =
    let text = c.args.self.now.text.now in
    let here = placed (pieces text) (length c.loop-i.yielded) c.in-Some.i c.in-Some.piece.now (YieldsList-turn
    (pieces_road _ text c.split.ensures.rest c.split.ensures.done c.split.ensures.closure (λ x b q k. search (rules, tests)) c.enumerate-i-items.ensures.source c.enumerate-i-items.ensures.count c.into_iter-i-iterator.ensures.into_iter_gives)
    c.loop-i.yielded _ c.loop-i.yielded_by _ _ (c.in-Some.i, c.in-Some.piece) c.in-Some.is c.next.ensures.steps) in
    piece_is_number text c.in-Some.i c.in-Some.piece.now c.args.self.now.list here.0 here.2

-- where the loop is
here : (c : goal.After-value_of) → (c.in-Some.i < length (pieces c.args.self.now.text.now)) × (c.in-Some.i ≡ length c.loop-i.yielded)
    × (c.in-Some.piece.now ≡ get_or (pieces c.args.self.now.text.now) c.in-Some.i c.in-Some.piece.now)
here c =
    let text = c.args.self.now.text.now in
    placed (pieces text) (length c.loop-i.yielded) c.in-Some.i c.in-Some.piece.now (YieldsList-turn
    (pieces_road _ text c.split.ensures.rest c.split.ensures.done c.split.ensures.closure (λ x b q k. search (rules, tests)) c.enumerate-i-items.ensures.source c.enumerate-i-items.ensures.count c.into_iter-i-iterator.ensures.into_iter_gives)
    c.loop-i.yielded _ c.loop-i.yielded_by _ _ (c.in-Some.i, c.in-Some.piece) c.in-Some.is c.next.ensures.steps)

pub offset_bounds-numbers-i : goal.offset_bounds-numbers-i
offset_bounds-numbers-i c = omega (arith, here c, length-map (pieces c.args.self.now.text.now) digits_value, c.requires)

pub bounds-numbers-i : goal.bounds-numbers-i
bounds-numbers-i c = omega (arith, here c, length-map (pieces c.args.self.now.text.now) digits_value, c.requires)

pub loop-i-preserved : goal.loop-i-preserved
loop-i-preserved c =
    let text = c.args.self.now.text.now in
    let h = here c in
    let more = c.loop-i.yielded ++ ((c.in-Some.i, c.in-Some.piece) ∷ []) in
    let n = c.value_of.result in
    let next : n ≡ get_or (numbers_in text) c.in-Some.i n =
    c.value_of.ensures ∙ ap digits_value h.2 ∙ sym (get_or-map digits_value (pieces text) c.in-Some.i c.in-Some.piece.now n h.0) in
    copied_more (numbers_in text) c.loop-i.numbers c.in-Some.i (length more) n (omega (arith, length_push c.loop-i.yielded (c.in-Some.i, c.in-Some.piece)))
    (omega (arith, length-map (pieces text) digits_value)) (omega (arith, length-map (pieces text) digits_value, c.requires)) next
    (subst (λ k. take k c.loop-i.numbers ≡ take k (numbers_in text)) (sym h.1) c.loop-i.invariant)

pub returns : goal.returns
returns c =
    let text = c.args.self.now.text.now in
    let end = YieldsList-end
    (pieces_road _ text c.split.ensures.rest c.split.ensures.done c.split.ensures.closure (λ x b q k. search (rules, tests)) c.enumerate-i-items.ensures.source c.enumerate-i-items.ensures.count c.into_iter-i-iterator.ensures.into_iter_gives)
    c.loop-i.yielded _ c.loop-i.yielded_by _ _ c.in-None.is c.next.ensures.steps in
    let all : length (numbers_in text) ≡ length c.loop-i.yielded = length-map (pieces text) digits_value ∙ sym (length-enumerate_from 0 (pieces text)) ∙ sym end.1 in
    ap (λ k. take k c.loop-i.numbers) all ∙ c.loop-i.invariant ∙ take_all (length c.loop-i.yielded) (numbers_in text) (omega arith)
