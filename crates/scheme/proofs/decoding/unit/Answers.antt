use Rattle.std.proofs.Common.{[], ◌∷◌, ◌++◌, ◌∙◌, ap₂}
use Rattle.fields.specs.ElementsLemmas.{one_is}
use Rattle.scheme.proofs.decoding.unit.Goals as goal

pub returns : goal.returns
returns g c = λ L. c.push.ensures ∙ ap₂ (λ p a. p ++ a ∷ []) c.nothing-p.ensures (one_is L _ c.one.ensures)
