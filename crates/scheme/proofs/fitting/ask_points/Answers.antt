use Rattle.std.proofs.Common.{◌≡◌, true, false, ◌&&◌, leb, length, sym, refl, arith}
use Rattle.std.proofs.lemmas.Bool.Decides.{nat_tests}
use Rattle.scheme.proofs.PointQuestions.{told}
use Rattle.scheme.proofs.fitting.ask_points.Goals as goal

pub returns-then-not-contains : goal.returns-then-not-contains
returns-then-not-contains g c =
    let n = length c.args.points.now in
    let count : (leb c.args.least n && leb n 32) ≡ false = grind (arith, nat_tests, c.if-not-contains.ensures.value, c.new.ensures) in
    sym (told g.F.Field.code c.args.points.now c.args.least false _ count refl)

pub returns-then-not-are_distinct : goal.returns-then-not-are_distinct
returns-then-not-are_distinct g c =
    let n = length c.args.points.now in
    let count : (leb c.args.least n && leb n 32) ≡ true = grind (arith, nat_tests, c.if-not-contains.ensures.value, c.new.ensures) in
    sym (told g.F.Field.code c.args.points.now c.args.least true false count (sym c.if-not-are_distinct.ensures))

pub returns : goal.returns
returns g c =
    let n = length c.args.points.now in
    let count : (leb c.args.least n && leb n 32) ≡ true = grind (arith, nat_tests, c.if-not-contains.ensures.value, c.new.ensures) in
    sym (told g.F.Field.code c.args.points.now c.args.least true true count (sym c.if-not-are_distinct.ensures))
