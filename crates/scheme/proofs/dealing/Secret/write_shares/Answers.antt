use Rattle.std.proofs.Common.{◌≡◌, ℕ, ◌+◌, ◌-◌, ◌*◌, ◌<◌, ◌≤◌, List, ◌++◌, length, drop, ap, ◌∙◌, arith}
use borrow.Rule.Slice.PartMut.{put_mid}
use Rattle.std.specs.List.{range_with_len, flat_map}
use Rattle.std.proofs.lemmas.List.FromFn.{length-map-range_with_len}
use Rattle.std.proofs.lemmas.List.{length-take-le, length-drop}
use Rattle.scheme.specs.Dealing.{dealt_pair, dealt_share, value_polynomial, tag_polynomial}
use Rattle.scheme.specs.declared.types.Pair.{Pair}
use Rattle.scheme.proofs.Filling.{filled_all, groups_more, row_ends}
use Rattle.scheme.proofs.dealing.Secret.write_shares.Goals as goal

pub slice_bounds-write_share-end : goal.slice_bounds-write_share-end
slice_bounds-write_share-end g c =
    let f = c.args.self.now.figures in
    let here : c.loop-i.i < f.n = omega arith in
    omega (arith, row_ends f.d c.loop-i.i f.n here, c.requires.shares_len, c.loop-i.auto.shares)

pub write_share-requires : goal.write_share-requires
write_share-requires g c =
    let f = c.args.self.now.figures in
    let here : c.loop-i.i < f.n = omega arith in
    let start = c.loop-i.i * f.d in
    let ends : start + f.d ≤ length c.loop-i.shares = omega (arith, row_ends f.d c.loop-i.i f.n here, c.requires.shares_len, c.loop-i.auto.shares) in
    let width : start + f.d - start ≡ f.d = omega arith in
    record {
      i_in = omega (arith, g.met.F.Field.laws.on_codes.at_least_33, f.participants.1);
      share_len = length-take-le (start + f.d - start) (drop start c.loop-i.shares) (simp length-drop (omega arith)) ∙ width;
    }

pub loop-i-preserved : goal.loop-i-preserved
loop-i-preserved g c =
    let s = c.args.self.now in
    let f = s.figures in
    let g1 = value_polynomial f s.key.now s.values.now in
    let h1 = tag_polynomial f s.tags.now in
    let share : ℕ → List Pair = dealt_share g.F.Field.codes g.F.Doublable.u g.F.Doublable.v f g1 h1 in
    let start = c.loop-i.i * f.d in
    let k = start + f.d - start in
    ap (λ (s : List Pair). put_mid start k s c.write_share.new.share) c.loop-i.invariant
    ∙ groups_more share f.d
    (λ i. length-map-range_with_len (λ j. dealt_pair g.F.Field.codes g.F.Doublable.u g.F.Doublable.v (g1 j) (h1 j) i) 0 f.d)
    c.args.shares.now c.write_share.new.share c.loop-i.i k c.write_share.ensures (omega arith)

pub returns : goal.returns
returns g c =
    let s = c.args.self.now in
    let f = s.figures in
    let share : ℕ → List Pair = dealt_share g.F.Field.codes g.F.Doublable.u g.F.Doublable.v f (value_polynomial f s.key.now s.values.now) (tag_polynomial f s.tags.now) in
    let all : c.loop-i.i ≡ f.n = omega arith in
    c.loop-i.invariant ∙ ap (λ n. flat_map share (range_with_len 1 n) ++ drop (n * f.d) c.args.shares.now) all
    ∙ filled_all (flat_map share (range_with_len 1 f.n)) c.args.shares.now (f.n * f.d) (omega (arith, c.requires.shares_len))
