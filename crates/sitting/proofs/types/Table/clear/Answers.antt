use Rattle.std.proofs.Common.{◌≡◌, replicate, ap, ◌∙◌, rules, arith}
use Rattle.std.proofs.lemmas.Slice.{put_mid-paste}
use Rattle.std.proofs.lemmas.List.{length-take-le, length-drop}
use Rattle.scheme.specs.declared.types.Pair.{Pair}
use Rattle.runs.specs.Cards.{blank}
use Rattle.sitting.proofs.types.Table.clear.Goals as goal

pub returns : goal.returns
returns c =
    let wiped : c.fill.new.self ≡ replicate 64 blank = c.fill.ensures.after (λ y e. search rules) ∙ ap (λ n. replicate n blank) {y = 64} (omega (arith, length-take-le {A = Pair}, length-drop {A = Pair})) in
    search (rules, put_mid-paste)
