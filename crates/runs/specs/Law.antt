-- The law over runs: which cards an opening names and what key it gives, whatever t participants do together. They know their own
-- cards, and all else that they can tell of the tag polynomials is that these deal them their cards. So the law counts the choices of
-- tag polynomials that do: under all but at most w·q^(d - 1) of these q^d, every opening of a run that passes its first three questions
-- names exactly the altered cards. Here w is how many altered cards are accepted; where it is q or more, this says nothing.
-- A script is a run of moves, and becomes a run of calls once tag polynomials are chosen: the group's cards stay, and the others'
-- cards as dealt follow the choice.
-- Assumes nothing.
use Rattle.std.specs.Prelude.{◌≡◌, ℕ, ◌+◌, ◌-◌, ◌*◌, ◌^◌, ◌<◌, ◌≤◌, true, false, ◌⊎◌, List, [], ◌++◌, map, length, replicate, is_some, Some, None, Ok, Err, Option, slice_index_or}
use Rattle.std.specs.List.{AllByRecursion}
use Rattle.algebra.specs.Polynomial.{Distinct}
use Rattle.algebra.specs.Count.{In, Exactly}
use Rattle.fields.specs.Laws.{Codes, DoublableLaws}
use Rattle.scheme.specs.Dealing.{places, value_polynomial, tag_polynomial, dealt_share, deal_refusal}
use Rattle.scheme.specs.declared.types.Figures.{Figures}
use Rattle.runs.specs.Cards.{Card, is_participant, present_refusal}
use Rattle.runs.specs.Opening.{Opening, opened, FirstThree}
use Rattle.runs.specs.Runs.{Run, ◌then◌, each, Each, Beginning, Call, present, withdraw, seal, reopen, opens, table, answers, written, lies, numbers_lying, value_altered, tag_altered, altered, altered_values, lying_altered, lying_unaltered, altered_presents}

-- ---- what was dealt

-- a deal that was accepted, over a field that can be doubled: the field's operations on codes, figures, and what deal was given
pub record Deal : Type 0 where
  pub codes : Codes
  pub u : ℕ
  pub v : ℕ
  pub laws : DoublableLaws codes u v
  pub figures : Figures
  pub key : List ℕ
  pub values : List ℕ
  pub tags : List ℕ
  pub accepted : deal_refusal codes u v figures key values tags (figures.n * figures.d) ≡ None

-- t different participants, who may act together
pub record Group (f : Figures) (group : List ℕ) : Type 0 where
  pub size : length group ≡ f.t
  pub apart : Distinct group
  pub participants : AllByRecursion (λ i. (1 ≤ i) × (i ≤ f.n)) group

-- a tag choice: a tag polynomial for each place
abbrev pub Choice : Type 0
Choice = List (List ℕ)

-- a move of a script: the present of participant i's own card as dealt, or a call as it stands
pub data Move : Type 0 where
  as_dealt : ℕ → Move
  just : Call → Move

-- the call that a move is, where participant i was dealt the card `dealt i`
abbrev pub called : (ℕ → Card) → Move → Call
called dealt (as_dealt i) = present i (dealt i)
called dealt (just call) = call

-- What a move of a script may be: a present of any pairs under a number of the group, a present of the own card as dealt, a present
-- that is refused whatever lies, or any other call.
abbrev pub Permitted : Codes → Figures → List ℕ → Move → Type 0
Permitted C f group (as_dealt i) = is_participant C f i ≡ true
Permitted C f group (just (present i card)) = In i group ⊎ ((old : Option Card) → is_some (present_refusal C f old i card) ≡ true)
Permitted C f group (just (withdraw i)) = Unit {0}
Permitted C f group (just seal) = Unit {0}
Permitted C f group (just reopen) = Unit {0}
Permitted C f group (just (opens key names)) = Unit {0}

module _ (D : Deal) where
  open D use {codes, u, v, figures, key, values, tags}

  -- how many elements the doubled field has
  abbrev pub q : ℕ
  q = codes.size * codes.size

  -- the share that deal writes for participant i
  abbrev pub dealt_card : ℕ → Card
  dealt_card i = dealt_share codes u v figures (value_polynomial figures key values) (tag_polynomial figures tags) i

  -- the choice that was dealt
  abbrev pub dealt_choice : Choice
  dealt_choice = map (tag_polynomial figures tags) (places figures)

  -- participant i's card, were c dealt: key and value coefficients stay
  abbrev pub card_under : Choice → ℕ → Card
  card_under c i = dealt_share codes u v figures (value_polynomial figures key values) (λ j. slice_index_or c j []) i

  -- the calls that a script becomes, were c dealt
  abbrev pub calls : Choice → Run Move → Run Call
  calls c script = each (called (card_under c)) script

  -- after the script `past`, by the calls alone: the numbers whose cards lie, whose cards lie altered and whose cards lie unaltered
  abbrev pub lying_then : Choice → Run Move → List ℕ
  lying_then c past = numbers_lying codes figures (calls c past)

  abbrev pub altered_then : Choice → Run Move → List ℕ
  altered_then c past = lying_altered codes figures (card_under c) (calls c past)

  abbrev pub unaltered_then : Choice → Run Move → List ℕ
  unaltered_then c past = lying_unaltered codes figures (card_under c) (calls c past)

  -- what an open then answers and leaves, whose key buffer holds `buffer` and whose names buffer holds `names`
  abbrev pub opening : Choice → Run Move → List ℕ → List ℕ → Opening
  opening c past buffer names = opened codes u v figures (table codes u v figures (calls c past)) buffer names

  -- it passes its first three questions
  abbrev pub Passes : Choice → Run Move → List ℕ → List ℕ → Type 0
  Passes c past buffer names = FirstThree figures (length (lying_then c past)) buffer names

  -- it names participant i, that is, writes the number into the names buffer
  abbrev pub Names : Choice → Run Move → List ℕ → List ℕ → ℕ → Type 0
  Names c past buffer names i = In i (written (opening c past buffer names))

  -- the card of participant i that lies then
  abbrev pub Lies : Choice → Run Move → ℕ → Card → Type 0
  Lies c past i card = lies codes figures (calls c past) i ≡ Some card

  -- c has a polynomial of degree at most t for each place, and deals the group the cards that it was dealt
  pub record Deals (group : List ℕ) (c : Choice) : Type 0 where
    pub each_place : length c ≡ figures.d
    pub degrees : AllByRecursion (λ g. (length g ≡ figures.t + 1) × AllByRecursion (λ a. a < q) g) c
    pub same_cards : AllByRecursion (λ i. card_under c i ≡ card_under dealt_choice i) group

  -- ---- at one open that passes its first three questions

  -- under each choice c that deals the group its cards
  pub record Naming (group : List ℕ) (c : Choice) (past : Run Move) (buffer names : List ℕ) : Type 0 where
    -- no lying card as dealt is named
    pub dealt_card_unnamed : (i : ℕ) (card : Card) → Lies c past i card → altered figures (card_under c i) card ≡ false
        → Names c past buffer names i → ⊥
    -- a lying card with an altered tag beside a value as dealt is named
    pub altered_tag_named : (i : ℕ) (card : Card) → Lies c past i card
        → (j : ℕ) → j < figures.d → value_altered (card_under c i) card j ≡ false → tag_altered (card_under c i) card j ≡ true
        → Names c past buffer names i
    -- a lying card with r altered values, r at least 1, and tags as dealt at the other places goes unnamed under exactly q^(d - r) choices
    pub altered_values_unnamed : (i : ℕ) (card : Card) → Lies c past i card
        → 1 ≤ altered_values figures (card_under c i) card
        → ((j : ℕ) → j < figures.d → value_altered (card_under c i) card j ≡ false → tag_altered (card_under c i) card j ≡ false)
        → Exactly (q ^ (figures.d - altered_values figures (card_under c i) card))
        (λ b. Deals group b × (Names b past buffer names i → ⊥))

  -- under each choice c that is no exception
  pub record Identifies (c : Choice) (past : Run Move) (buffer names : List ℕ) : Type 0 where
    -- the names are the numbers of the lying altered cards, each once, rising
    pub names_the_altered : written (opening c past buffer names) ≡ altered_then c past
    -- where at least k unaltered cards lie, it gives the dealt key
    pub gives_the_key : figures.k ≤ length (unaltered_then c past)
        → opening c past buffer names ≡ record {
          answer = Ok (length (lying_then c past), length (altered_then c past));
          key = key;
          names = altered_then c past ++ replicate (length names - length (altered_then c past)) 0;
        }
    -- where fewer lie, it refuses with 36 and leaves the key buffer as it was
    pub refuses_else : length (unaltered_then c past) < figures.k
        → opening c past buffer names ≡ record {
          answer = Err (36, length (altered_then c past));
          key = buffer;
          names = altered_then c past ++ replicate (length names - length (altered_then c past)) 0;
        }

  -- ---- over a script

  -- `past` and then an open is how the script begins
  abbrev pub OpensAfter : Run Move → List ℕ → List ℕ → Run Move → Type 0
  OpensAfter past buffer names script = Beginning (past then just (opens buffer names)) script

  -- w: how many accepted presents of the script carry an altered card
  abbrev pub forgeries : Choice → Run Move → ℕ
  forgeries c script = altered_presents codes figures (card_under c) (calls c script)

  pub record Law (group : List ℕ) (script : Run Move) : Type 0 where
    -- the cards under the choice that was dealt are the shares that deal writes
    pub shares_dealt : (i : ℕ) → card_under dealt_choice i ≡ dealt_card i
    -- exactly q^d choices deal the group its cards, and the one that was dealt is one of them
    pub choices : Exactly (q ^ figures.d) (Deals group)
    pub dealt_is_one : Deals group dealt_choice
    -- under each of them the same numbers lie at all times, and as many altered cards are accepted
    pub same_lying : (c : Choice) → Deals group c → (past : Run Move) → Beginning past script
        → lying_then c past ≡ lying_then dealt_choice past
    pub same_forgeries : (c : Choice) → Deals group c → forgeries c script ≡ forgeries dealt_choice script
    -- how each open that passes its first three questions names
    pub naming : (c : Choice) → Deals group c → (past : Run Move) (buffer names : List ℕ) → OpensAfter past buffer names script
        → Passes c past buffer names → Naming group c past buffer names
    -- there are at most w·q^(d - 1) exceptions, where w is how many altered cards are accepted
    pub exceptions : List Choice
    pub few : length exceptions ≤ forgeries dealt_choice script * q ^ (figures.d - 1)
    -- any two other choices give the same answers and the same buffers at every call
    pub alike : (b c : Choice) → Deals group b → Deals group c → (In b exceptions → ⊥) → (In c exceptions → ⊥)
        → answers codes u v figures (calls b script) ≡ answers codes u v figures (calls c script)
    -- under each other choice, every open that passes its first three questions identifies the altered cards
    pub identifies : (c : Choice) → Deals group c → (In c exceptions → ⊥)
        → (past : Run Move) (buffer names : List ℕ) → OpensAfter past buffer names script
        → Passes c past buffer names → Identifies c past buffer names

-- ---- every run

-- what a call of a run may be: a present under a number of the group, of the own card as dealt, or refused whatever lies; or another
abbrev pub PermittedCall : Deal → List ℕ → Call → Type 0
PermittedCall D group (present i card) =
    In i group
    ⊎ (((is_participant D.codes D.figures i ≡ true) × (card ≡ card_under D (dealt_choice D) i))
    ⊎ ((old : Option Card) → is_some (present_refusal D.codes D.figures old i card) ≡ true))
PermittedCall D group (withdraw i) = Unit {0}
PermittedCall D group seal = Unit {0}
PermittedCall D group reopen = Unit {0}
PermittedCall D group (opens buffer names) = Unit {0}

pub record OverRuns (D : Deal) (group : List ℕ) : Type 0 where
  -- every run of such calls is what some script becomes
  pub scripted : (run : Run Call) → Each (PermittedCall D group) run
      → (script : Run Move) × Each (Permitted D.codes D.figures group) script × (calls D (dealt_choice D) script ≡ run)
  -- and the law holds for every script
  pub lawful : (script : Run Move) → Each (Permitted D.codes D.figures group) script → Law D group script

abbrev pub LawOverRuns : Type 0
LawOverRuns = (D : Deal) (group : List ℕ) → Group D.figures group → OverRuns D group

-- The law speaks of something: there is a deal, a group, a script that is permitted and ends with an open that passes its first
-- three questions, and an altered card that lies then.
pub record LawApplies : Type 0 where
  pub deal : Deal
  pub group : List ℕ
  pub acting : Group deal.figures group
  pub past : Run Move
  pub buffer : List ℕ
  pub names : List ℕ
  pub permitted : Each (Permitted deal.codes deal.figures group) (past then just (opens buffer names))
  pub passes : Passes deal (dealt_choice deal) past buffer names
  pub number : ℕ
  pub card : Card
  pub lies_altered : Lies deal (dealt_choice deal) past number card
      × (altered deal.figures (card_under deal (dealt_choice deal) number) card ≡ true)
