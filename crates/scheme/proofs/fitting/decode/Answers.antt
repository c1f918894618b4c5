use Rattle.std.proofs.Common.{◌≡◌, ℕ, ◌+◌, ◌-◌, ◌*◌, ◌≤◌, Bool, true, false, ◌&&◌, eqb, leb, List, length, None, Ok, Option, sym, ap, ◌∙◌, true≢false, arith}
use Rattle.std.proofs.lemmas.List.{length-map}
use Rattle.std.proofs.lemmas.Bool.{and_from, and_parts, eq-eqb, eqb-true}
use Rattle.std.specs.Bool.{then_some}
use Rattle.algebra.specs.Decoder.{answer, errors, place, down}
use Rattle.algebra.proofs.Candidate.{fit_is_answer}
use Rattle.fields.specs.Elements.{elements}
use Rattle.fields.specs.Laws.{Codes, FieldLaws}
use Rattle.scheme.specs.Fitting.{agreements, decoded, first, fits, fitting, points_refusal}
use Rattle.scheme.specs.Questions.{unless}
use Rattle.scheme.specs.Held.{abscissae, option_told, ordinates, point_codes, polynomial_told}
use Rattle.scheme.specs.declared.held.Polynomial.{Polynomial}
use Rattle.scheme.specs.declared.types.Point.{Point}
use Rattle.scheme.specs.declared.types.PointsFault.{PointsFault}
use Rattle.scheme.proofs.Fitted.{apart_x, few_fits, fits_few, fitting_one, fitting_none}
use Rattle.scheme.proofs.Memory.{roomy}
use Rattle.scheme.proofs.PointQuestions.{bounds, settled}
use Rattle.scheme.proofs.fitting.decode.Goals as goal

module _ {E : Type 0} {C : Codes} {code : E → ℕ} (L : FieldLaws E C code) (points : List (Point E)) (t : ℕ) where
  abbrev P : List (ℕ × ℕ)
  P = point_codes code points

  -- the last question that is put to the candidate
  abbrev question : Polynomial E → Bool
  question f = eqb (length f) (t + 1) && leb (length points - t) (agreements C P (polynomial_told code f))

  module _ (asked : None ≡ points_refusal P (3 * t + 1)) (f : Polynomial E) (only : f ≡ answer (elements L) (abscissae points) (ordinates points) t) where
    abbrev misses : List E → ℕ
    misses e = errors (elements L) (place (elements L) (abscissae points)) (place (elements L) (ordinates points)) e (down (length points))

    counted : fits C P t (polynomial_told code f) ≡ leb (length points - t) (agreements C P (polynomial_told code f))
    counted = ap (λ m. leb (m - t) (agreements C P (polynomial_told code f))) (length-map points _)

    -- the candidate is the one polynomial that fits, or nothing does
    decides : (b : Bool) → question f ≡ b → first (fitting C P t) ≡ option_told code (then_some b f)
    decides true e =
        let apart = (settled P (3 * t + 1) (sym asked)).distinct_abscissae in
        let both = and_parts _ _ e in
        let few = fits_few L points t apart f (counted ∙ both.1) in
        ap first (fitting_one L points t apart (bounds code points (3 * t + 1) asked).0 f (eqb-true _ _ both.0, few))
    decides false e =
        let apart = (settled P (3 * t + 1) (sym asked)).distinct_abscissae in
        ap first (fitting_none L points t apart (λ h fit.
        let same : f ≡ h =
        only ∙ fit_is_answer (elements L) (abscissae points) (ordinates points) t (length points) (apart_x L points apart (length points) (omega arith)) (bounds code points (3 * t + 1) asked).0 h fit in
        let few : misses f ≤ t = omega (arith, ap misses same, fit.1) in
        let yes = and_from (eqb (length f) (t + 1)) _ (eq-eqb _ _ (ap length same ∙ fit.0)) (sym counted ∙ few_fits L points t apart f few) in
        true≢false (sym yes ∙ e)))

    answers : (b : Bool) → question f ≡ b → Ok (option_told code (then_some b f)) ≡ decoded C P t
    answers b e = ap (unless None) (sym (decides b e)) ∙ ap (λ (r : Option PointsFault). unless r (first (fitting C P t))) asked

-- the questions ask for as many points as the decoder wants, and the last count
pub candidate-f-requires : goal.candidate-f-requires
candidate-f-requires g c =
    ((roomy g.row.F-Elem g.F.Field.codes g.met.F.Field.laws.on_codes g.met.F.Field.room).polynomial, (omega (arith, (bounds g.F.Field.code c.args.points.now _ c.in_ok-ask_points.ensures).0), omega arith))

pub fits-requires : goal.fits-requires
fits-requires g c =
    ((roomy g.row.F-Elem g.F.Field.codes g.met.F.Field.laws.on_codes g.met.F.Field.room).polynomial, (omega (arith, (bounds g.F.Field.code c.args.points.now _ c.in_ok-ask_points.ensures).0), omega arith))

pub returns : goal.returns
returns g c =
    ap (λ (o : Option (Polynomial g.row.F-Elem.Denot)). Ok (option_told g.F.Field.code o)) c.then_some.ensures
    ∙ answers g.met.F.Field.laws c.args.points.now c.args.t c.in_ok-ask_points.ensures c.candidate-f.result (c.candidate-f.ensures g.met.F.Field.laws) c.fits.result (sym c.fits.ensures)
