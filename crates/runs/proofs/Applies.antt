-- A run to which the law applies.
-- Assumes nothing.
use Rattle.std.proofs.Common.{[], ◌∷◌, refl, inl, inr, lit≤}
use Rattle.std.proofs.lemmas.Bool.{leb-true}
use Rattle.fields.specs.P251.{p251}
use Rattle.fields.specs.Doubled.{sum2, product2}
use Rattle.fields.specs.P251Laws.{p251_doublable}
use Rattle.runs.specs.Runs.{Run, start, ◌then◌, present, seal}
use Rattle.scheme.specs.Worked.{five}
use Rattle.runs.specs.Worked.{card, nines}
use Rattle.runs.specs.Law.{Deal, Move, as_dealt, just, LawApplies}

-- the worked deal
abbrev worked : Deal
worked = record {
  codes = p251;
  u = 0;
  v = 250;
  laws = p251_doublable;
  figures = five;
  key = 7 ∷ [];
  values = 1 ∷ 0 ∷ 2 ∷ [];
  tags = 5 ∷ 3 ∷ [];
  accepted = refl;
}

-- participant 2 presents an altered card, then the card as dealt, which is refused; the others present theirs; 6 is no participant
abbrev until_open : Run Move
until_open =
    start then as_dealt 1 then just (present 2 (card 26 1586)) then just (present 2 (card 25 1586)) then as_dealt 3 then as_dealt 4
    then as_dealt 5 then just (present 6 []) then just seal

pub law_applies_lem : LawApplies
unfolding sum2 product2
law_applies_lem = record {
  deal = worked;
  group = 2 ∷ [];
  acting = record { size = refl; apart = (tt, tt); participants = ((lit≤ tt, lit≤ tt), tt) };
  past = until_open;
  buffer = 9 ∷ [];
  names = nines;
  permitted = (((((((((tt, refl), inl (inl refl)), inl (inl refl)), refl), refl), refl), inr (λ old. refl)), tt), tt);
  passes = record { key_room = refl; names_room = lit≤ tt; enough = leb-true 4 _ refl };
  number = 2;
  card = card 26 1586;
  lies_altered = (refl, refl);
}
