use Rattle.std.proofs.Common.{◌≡◌, [], ◌∷◌, ◌++◌, length, get_or, take, sym, ap, subst, ◌∙◌, arith}
use Rattle.std.specs.List.{zip}
use Rattle.std.proofs.lemmas.Iterator.{YieldsList-from_slice, YieldsList-from_zip}
use Rattle.std.proofs.lemmas.Iterator.Consumers.{YieldsList-at, YieldsList-from_enumerate, YieldsList-turn, YieldsList-end}
use Rattle.std.proofs.lemmas.List.{take_all, length-map, length-set, length_push, get_or-map}
use Rattle.std.proofs.lemmas.List.FromFn.{length-enumerate_from}
use Rattle.std.proofs.lemmas.Slice.Zip.{length-zip}
use Rattle.text.specs.Card.{paired}
use Rattle.text.proofs.Pairing.{paired_of}
use Rattle.text.proofs.Pieces.{placed, copied_more}
use Rattle.text.proofs.reader.pair_up.Goals as goal

pub loop-j-preserved : goal.loop-j-preserved
loop-j-preserved c =
    let values = c.args.values.now in
    let tags = c.args.tags.now in
    let both = zip values tags in
    let j = c.in-Some.j in
    let here = placed both (length c.loop-j.yielded) j (c.in-Some.value.now, c.in-Some.tag.now) (YieldsList-turn
    (YieldsList-at c.into_iter-j-iterator.ensures.into_iter_gives (YieldsList-from_enumerate (YieldsList-at c.enumerate-j-items.ensures.source
    (YieldsList-from_zip (YieldsList-at c.zip.ensures.first (YieldsList-from_slice values c.iter.ensures.rest)) (YieldsList-from_slice tags c.zip.ensures.second.0))) c.enumerate-j-items.ensures.count))
    c.loop-j.yielded c.loop-j.j-iterator c.loop-j.yielded_by c.next.result c.next.new.self (j, (c.in-Some.value, c.in-Some.tag)) c.in-Some.is c.next.ensures.steps) in
    let pair = paired_of (c.in-Some.value.now, c.in-Some.tag.now) in
    let more = c.loop-j.yielded ++ ((j, (c.in-Some.value, c.in-Some.tag)) ∷ []) in
    let next : pair ≡ get_or (paired values tags) j pair = ap paired_of here.2 ∙ sym (get_or-map paired_of both j (c.in-Some.value.now, c.in-Some.tag.now) pair here.0) in (
      length-set c.loop-j.pairs j pair ∙ c.loop-j.invariant.0,
      copied_more (paired values tags) c.loop-j.pairs j (length more) pair (omega (arith, length_push c.loop-j.yielded (j, (c.in-Some.value, c.in-Some.tag))))
          (omega (arith, length-map both paired_of)) (omega (arith, length-zip values tags, c.requires)) next
          (subst (λ k. take k c.loop-j.pairs ≡ take k (paired values tags)) (sym here.1) c.loop-j.invariant.1),
    )

pub returns : goal.returns
returns c =
    let values = c.args.values.now in
    let tags = c.args.tags.now in
    let both = zip values tags in
    let end = YieldsList-end
    (YieldsList-at c.into_iter-j-iterator.ensures.into_iter_gives (YieldsList-from_enumerate (YieldsList-at c.enumerate-j-items.ensures.source
    (YieldsList-from_zip (YieldsList-at c.zip.ensures.first (YieldsList-from_slice values c.iter.ensures.rest)) (YieldsList-from_slice tags c.zip.ensures.second.0))) c.enumerate-j-items.ensures.count))
    c.loop-j.yielded c.loop-j.j-iterator c.loop-j.yielded_by c.next.result c.next.new.self c.in-None.is c.next.ensures.steps in
    let all : length c.loop-j.yielded ≡ length both = end.1 ∙ length-enumerate_from 0 both in
    let long : length values ≡ length c.loop-j.yielded = omega (arith, length-zip values tags, c.requires) in
    ap (λ k. take k c.loop-j.pairs) long ∙ c.loop-j.invariant.1 ∙ take_all (length c.loop-j.yielded) (paired values tags) (omega (arith, length-map both paired_of))
