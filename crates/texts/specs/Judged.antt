-- What the program asks of what the writer wrote and the reader read.
-- Assumes nothing.
use Rattle.std.specs.Prelude.{◌≡◌, ℕ, ◌-◌, List, ◌++◌, length, replicate, Ok}
use Rattle.scheme.specs.declared.types.Figures.{Figures}
use Rattle.text.specs.Card.{Reading, write_card_answer}
use Rattle.text.specs.RoundTrips.{reading_for}
use Rattle.text.specs.Shown.{shown}
use Rattle.text.specs.declared.types.CardRead.{CardRead}
use Rattle.texts.specs.declared.cases.Case.{Case}

-- a buffer of n bytes has the text at its front and is as it was behind it; each byte was 7
abbrev pub held : ℕ → List ℕ → List ℕ
held n text = text ++ replicate (n - length text) 7

-- the writer gives this text for this card
abbrev pub IsWrittenAs : CardRead → List ℕ → Type 0
IsWrittenAs card text =
    write_card_answer card.field card.figures card.number (shown card).card (replicate 1100 7) ≡ (Ok (length text), held 1100 text)

-- what a reader is to tell of the text of the case
abbrev pub reading_of : Figures → Case → Reading
reading_of f case = reading_for case.field f case.number case.card.now
