use Rattle.std.proofs.Common.{◌≡◌, ℕ, length, arith}
use Rattle.std.proofs.lemmas.List.FromFn.{fill_by_all}
use Rattle.scheme.specs.Dealing.{dealt_pair, value_polynomial, tag_polynomial}
use Rattle.scheme.specs.declared.types.Pair.{Pair}
use Rattle.scheme.proofs.dealing.Secret.write_share.Goals as goal

pub returns : goal.returns
returns g c =
    let s = c.args.self.now in
    let f = s.figures in
    let pair : ℕ → Pair = λ j. dealt_pair g.F.Field.codes g.F.Doublable.u g.F.Doublable.v (value_polynomial f s.key.now s.values.now j) (tag_polynomial f s.tags.now j) c.args.i in
    let many : length c.loop-j.share ≡ f.d = omega (arith, c.loop-j.auto.share, c.requires.share_len) in
    fill_by_all pair c.loop-j.share f.d (record { value = 0; tag = 0 }) many (λ k h. c.loop-j.invariant _ k (omega (arith, c.loop-j-test.false)))
