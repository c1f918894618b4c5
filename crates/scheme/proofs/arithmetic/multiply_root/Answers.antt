use Rattle.std.proofs.Common.{◌≡◌, ◌<◌, [], ◌∷◌, ◌++◌, length, ap, ◌∙◌, arith}
use Rattle.std.proofs.lemmas.List.{length-take-le, take_at}
use Rattle.algebra.specs.Polynomial.{lin}
use Rattle.algebra.proofs.Coefficients.{times_root_is}
use Rattle.fields.specs.Elements.{elements}
use Rattle.fields.specs.ElementsLemmas.{zero_is}
use Rattle.scheme.proofs.arithmetic.multiply_root.Goals as goal

pub returns-then-p-gt0 : goal.returns-then-p-gt0
returns-then-p-gt0 g c = λ L.
    let X = elements L in
    let n = c.p.inside.len in
    let front : length c.times_linear-last.new.f ≡ n = omega (arith, length-take-le n c.p.inside.coefficients (omega arith)) in
    let some : 0 < length c.args.p.now = omega (arith, ap length c.p.view_is, length-take-le n c.p.inside.coefficients (omega arith)) in
    c.push.ensures ∙ ap (λ l. l ++ c.times_linear-last.result ∷ []) (take_at c.times_linear-last.new.f _ n front)
    ∙ c.times_linear-last.ensures L ∙ ap (lin X c.args.z c.zero.result) c.p.view_is
    ∙ times_root_is X c.args.z c.zero.result c.args.p.now some (zero_is L _ c.zero.ensures)
