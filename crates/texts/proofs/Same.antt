-- What `==` says of two pairs, of two figures, and of all that the text of a card tells.
-- Assumes nothing.
use Rattle.std.proofs.Common.{◌≡◌, ℕ, Bool, ◌&&◌, nat_eq, List, Decides, ap, rules}
use Rattle.std.proofs.lemmas.Bool.Decides.{Decides-and, Decides-eqb, Decides-like}
use denote.Enum.Bare.{sameb, same_true, true_same}
use Rattle.scheme.specs.declared.types.Figures.{Figures}
use Rattle.scheme.specs.declared.types.Pair.{Pair}
use Rattle.text.specs.Card.{Reading}
use Rattle.text.specs.RoundTrips.{reading_for}
use Rattle.text.specs.contracts.types.FieldName.{the_type}
use Rattle.text.specs.declared.types.FieldName.{FieldName}

-- `==` of two pairs
pub pair_Decides : (a b : Pair) → Decides (nat_eq a.value b.value && nat_eq a.tag b.tag) (a ≡ b)
pair_Decides a b =
    Decides-like _ (λ p i. record { value = p.0 i; tag = p.1 i }) (λ e. (ap (λ (x : Pair). x.value) e, ap (λ (x : Pair). x.tag) e))
    (Decides-and _ _ (Decides-eqb a.value b.value) (Decides-eqb a.tag b.tag))

-- whether the four numbers are the same
abbrev pub same_figures : Figures → Figures → Bool
same_figures f g = nat_eq f.n g.n && (nat_eq f.k g.k && (nat_eq f.t g.t && nat_eq f.d g.d))

module _ (x y : FieldName) (f g : Figures) (m n : ℕ) (p q : List Pair) (cards : Bool) (same_cards : Decides cards (p ≡ q)) where
  -- `==` of field, figures, number and card is that of what is read, where `==` of the cards is that of their pairs
  pub reading_Decides : Decides (sameb the_type x y && same_figures f g && nat_eq m n && cards) (reading_for x f m p ≡ reading_for y g n q)
  reading_Decides =
      Decides-like _
      (λ e i. record { field = e.0.0.0 i; figures = (e.0.0.1.0 i, e.0.0.1.1.0 i, e.0.0.1.1.1.0 i, e.0.0.1.1.1.1 i); number = e.0.1 i; card = e.1 i })
      (λ e. (
        (
          (
            ap (λ (r : Reading). r.field) e,
            (ap (λ (r : Reading). r.figures.0) e, (ap (λ (r : Reading). r.figures.1) e, (ap (λ (r : Reading). r.figures.2) e, ap (λ (r : Reading). r.figures.3) e))),
          ),
          ap (λ (r : Reading). r.number) e,
        ),
        ap (λ (r : Reading). r.card) e,
      ))
      (Decides-and _ _ (Decides-and _ _ (Decides-and _ _ (same_true the_type (search rules) x y, true_same the_type x y)
      (Decides-and _ _ (Decides-eqb f.n g.n) (Decides-and _ _ (Decides-eqb f.k g.k) (Decides-and _ _ (Decides-eqb f.t g.t) (Decides-eqb f.d g.d)))))
      (Decides-eqb m n)) same_cards)
