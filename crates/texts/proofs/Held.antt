-- A buffer that begins with a text, and the rest behind it.
-- Assumes nothing.
use Rattle.std.proofs.Common.{◌≡◌, ◌≢◌, ℕ, ◌-◌, Bool, false, List, ◌++◌, length, replicate, Option, Some, None, MatchOption, Bor, Decides, sym, ap, ◌∙◌}
use Rattle.std.proofs.lemmas.Bool.{false≢true}
use Rattle.std.proofs.lemmas.Bool.Decides.{Decides-like}
use Rattle.std.proofs.Math.Nat.{add-sub_cancel_left}
use Rattle.std.proofs.lemmas.List.{length-append, append_cancel_left}
use Rattle.texts.specs.Judged.{held}

module _ (buffer text rest : List ℕ) (cut : buffer ≡ text ++ rest) where
  -- how much is behind the text
  behind : length buffer - length text ≡ length rest
  behind = ap (λ n. n - length text) (ap length cut ∙ length-append text rest) ∙ add-sub_cancel_left (length text) (length rest)

  pub held_from : rest ≡ replicate (length rest) 7 → buffer ≡ held (length buffer) text
  held_from r = cut ∙ ap (λ s. text ++ s) (r ∙ ap (λ n. replicate n 7) (sym behind))

  pub held_to : buffer ≡ held (length buffer) text → rest ≡ replicate (length rest) 7
  held_to e = append_cancel_left text rest (replicate (length buffer - length text) 7) (sym cut ∙ e) ∙ ap (λ n. replicate n 7) behind

-- where the buffer does not begin with the text, the text is not held
pub strip_Decides : (buffer text : List ℕ) (r : Option (Bor (List ℕ))) (b : Bool)
    → MatchOption r ((rest : List ℕ) → buffer ≢ text ++ rest) (λ x. buffer ≡ text ++ x.now)
    → MatchOption r (b ≡ false) (λ x. Decides b (x.now ≡ replicate (length x.now) 7))
    → Decides b (buffer ≡ held (length buffer) text)
strip_Decides buffer text None b cut answer = (
  λ h. absurd (false≢true (sym answer ∙ h)),
  λ e. absurd (cut (replicate (length buffer - length text) 7) e),
)
strip_Decides buffer text (Some x) b cut answer = Decides-like b (held_from buffer text x.now cut) (held_to buffer text x.now cut) answer
