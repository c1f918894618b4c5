use Rattle.std.proofs.Common.{◌≡◌, ℕ, reverse, sym, ap, ◌∙◌, rules}
use Rattle.std.specs.List.{fold}
use Rattle.std.proofs.lemmas.Iterator.Consumers.{fold_from_yields_List}
use Rattle.std.proofs.lemmas.Iterator.Adapters.{YieldsList-from_rev_slice}
use Rattle.algebra.proofs.Coefficients.{fold_is_value}
use Rattle.fields.specs.Elements.{elements}
use Rattle.fields.specs.Laws.{Codes, FieldLaws}
use Rattle.fields.specs.ElementsLemmas.{zero_is, add_is, mul_code}
use Rattle.scheme.proofs.Fitted.{value_code}
use Rattle.scheme.proofs.arithmetic.value_at.Goals as goal

-- a turn of Horner's rule on elements
turn : {E : Type 0} {C : Codes} {code : E → ℕ} (L : FieldLaws E C code) (value a x b : E) → code b ≡ C.sum (code a) (C.product (code x) (code value))
    → b ≡ (elements L).add a ((elements L).mul x value)
turn {C = C} {code} L value a x b e = add_is L a _ b (e ∙ ap (C.sum (code a)) (sym (mul_code L x value)))

pub returns : goal.returns
returns g c =
    let L = g.met.F.Field.laws in
    let X = elements L in
    let f = c.args.f.now in
    let x = c.args.x in
    let folded : c.fold.result ≡ fold (λ value a. X.add a (X.mul x value)) c.zero.result (reverse f) =
    fold_from_yields_List _ (λ value a. X.add a (X.mul x value)) c.zero.result c.fold.result c.fold.ensures.ran (YieldsList-from_rev_slice f (search rules)) (λ a y b q k. search (rules, turn L)) in
    ap g.F.Field.code (folded ∙ fold_is_value X f x c.zero.result (zero_is L _ c.zero.ensures)) ∙ sym (value_code L f x)
