use Rattle.std.proofs.lemmas.Bool.Decides.{Decides-eqb}
use Rattle.std.proofs.lemmas.Slice.Eq.{strip_prefix_is}
use Rattle.texts.proofs.Held.{strip_Decides}
use Rattle.texts.proofs.judging.holds.Goals as goal

pub returns : goal.returns
returns c =
    strip_Decides c.args.buffer.now c.args.text.now _ _
    (strip_prefix_is Decides-eqb _ _ _ c.strip_prefix.ensures.cases)
    c.is_some_and.ensures
