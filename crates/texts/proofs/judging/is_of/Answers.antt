use Rattle.std.proofs.Common.{◌≡◌, sym, ◌∙◌, refl}
use Rattle.std.proofs.lemmas.Bool.Decides.{Decides-at, Decides-like}
use Rattle.std.proofs.lemmas.Slice.Eq.{slice_eq-Decides}
use Rattle.text.specs.RoundTrips.{reading_for}
use Rattle.text.specs.Shown.{shown}
use Rattle.texts.proofs.Same.{pair_Decides, reading_Decides}
use Rattle.texts.proofs.judging.is_of.Goals as goal

pub returns : goal.returns
returns c =
    let told : reading_for c.field.result c.figures.result c.number.result c.card.result.now ≡ shown c.args.read.now =
    λ i. reading_for (c.field.ensures i) (c.figures.ensures i) (c.number.ensures i) (c.card.ensures i) in
    let cards = slice_eq-Decides pair_Decides c.card.result.now c.args.case.now.card.now _ refl in
    Decides-like c.eq.result (λ e. sym told ∙ e) (λ e. told ∙ e)
    (Decides-at _ _ c.eq.ensures (reading_Decides _ _ c.figures.result c.args.f.now _ _ _ _ _ cards))
