-- What texts of lines ask for, and what is known of texts that were cut, torn, or written on.
use Rattle.std.specs.Prelude.{◌≡◌, ◌+◌, ℕ, false, List, [], ◌∷◌, ◌++◌, codes, length, Option, Some, unwrap_or, ⊤, refl}
use Rattle.std.specs.Io.KnownBytes.{Appends}
use Rattle.std.specs.List.{flat_map}
use Rattle.jiff.specs.declared.tz.timezone.TimeZone.{TimeZone}
use Rattle.pay_rules.specs.InTurn.{IsIn, HaveTheSame}
use Rattle.pay_shard.specs.declared.asked.Asked.{Asked}
use Rattle.pay_session.specs.Words.{request_of, line_requests, rest_of, has_newline, asks_of}
use Rattle.pay_session.specs.declared.asks.Asks.{Asks}
use Rattle.pay_session.specs.declared.asks.Asks.TheVariants as asks
use Rattle.pay_session.specs.declared.request.Request.{Request}
use Rattle.pay_journal.specs.Keeping.{held}

-- ---- what texts ask for

-- what the whole lines of texts ask for, of one text after the other
abbrev pub requests_in : List (List ℕ) → List Request
requests_in texts = flat_map line_requests texts

-- the command that is put to a desk, if one is
abbrev pub put_by : Asks → List Asked
put_by (asks.Put a) = a ∷ []
put_by _ = []

-- the commands that requests put to a desk in a zone, in order
abbrev pub asked_in : TimeZone → List Request → List Asked
asked_in zone list = flat_map (λ r. put_by (asks_of zone r)) list

-- a request puts this command to a desk
abbrev pub Puts : TimeZone → Request → Asked → Type 0
Puts zone r a = asks_of zone r ≡ asks.Put a

-- texts that ask for the same, in whatever order and however often
abbrev pub AskAlike : List (List ℕ) → List (List ℕ) → Type 0
AskAlike texts other = HaveTheSame (requests_in texts) (requests_in other)

-- the same texts, but that after each may stand what no newline ends
abbrev pub AreTorn : List (List ℕ) → List (List ℕ) → Type 0
AreTorn [] [] = ⊤
AreTorn [] (torn ∷ others) = ⊥
AreTorn (text ∷ texts) [] = ⊥
AreTorn (text ∷ texts) (torn ∷ others) = ((rest : List ℕ) × (has_newline rest ≡ false) × (torn ≡ text ++ rest)) × AreTorn texts others

-- texts that ask for nothing but what others do
abbrev pub AskWithin : List (List ℕ) → List (List ℕ) → Type 0
AskWithin texts part = (r : Request) → IsIn (requests_in part) r → IsIn (requests_in texts) r

-- the same texts, of each of which a front is left
abbrev pub AreCut : List (List ℕ) → List (List ℕ) → Type 0
AreCut [] [] = ⊤
AreCut [] (cut ∷ others) = ⊥
AreCut (text ∷ texts) [] = ⊥
AreCut (text ∷ texts) (cut ∷ others) = ((rest : List ℕ) × (text ≡ cut ++ rest)) × AreCut texts others

-- ---- what stands in journals

-- what is known to be held are the whole lines of a text
abbrev pub IsWholeOf : Option (List ℕ) → List ℕ → Type 0
IsWholeOf held text = (front : List ℕ) × (held ≡ Some front) × (front ++ rest_of text ≡ text)

-- Each keeper held the whole lines of the text of its number, and nothing where there is no such text. There may be more texts.
abbrev pub AreWholeOf : List (Option (List ℕ)) → List (List ℕ) → Type 0
AreWholeOf [] texts = ⊤
AreWholeOf (held ∷ keepers) [] = (held ≡ Some []) × AreWholeOf keepers []
AreWholeOf (held ∷ keepers) (text ∷ texts) = IsWholeOf held text × AreWholeOf keepers texts

-- ---- laws

-- texts that were cut, wherever, ask for nothing that was not asked for
abbrev pub CutAskWithin : Type 0
CutAskWithin = (texts cut : List (List ℕ)) → AreCut texts cut → AskWithin texts cut

-- what stands after the last newline of a text asks for nothing
abbrev pub TornAskAlike : Type 0
TornAskAlike = (texts torn : List (List ℕ)) → AreTorn texts torn → requests_in torn ≡ requests_in texts

-- A keeper of a file of which so many bytes count holds the whole lines of its text, if these are all but the rest after the last newline.
abbrev pub WholeIsHeld : Type 0
WholeIsHeld = (text : List ℕ) (whole : ℕ) → whole + length (rest_of text) ≡ length text → IsWholeOf (held (Some whole) (Some text)) text

-- What is held once lines were kept after the whole lines of a text asks for what the text does, and then for what the lines do.
abbrev pub KeptAsksMore : Type 0
KeptAsksMore = (before now : Option (List ℕ)) (text lines : List ℕ) → IsWholeOf before text → Appends before now lines
    → line_requests (unwrap_or now []) ≡ line_requests text ++ line_requests lines

-- A part in front of texts that asks for nothing more changes nothing of what these ask for.
abbrev pub PartAsksAlike : Type 0
PartAsksAlike = (texts later part : List (List ℕ)) → AskAlike texts later → AskWithin later part → AskAlike texts (part ++ later)

-- ---- worked rows

-- the first held its whole line, and the second nothing
two_held : AreWholeOf (Some (codes "A\n") ∷ Some [] ∷ []) (codes "A\nB" ∷ [] ∷ codes "D\n" ∷ [])
two_held = ((codes "A\n", refl, refl), (([], refl, refl), tt))

-- three texts ask for what their three lines do, and the front of another asks for nothing
three_lines : requests_in (codes "A\nC\n" ∷ codes "Q" ∷ codes "D\n" ∷ []) ≡ request_of (codes "A") ∷ request_of (codes "C") ∷ request_of (codes "D") ∷ []
three_lines = refl

-- the second text was torn
second_torn : AreTorn (codes "A\n" ∷ [] ∷ []) (codes "A\n" ∷ codes "TAP 1 1" ∷ [])
second_torn = (([], refl, refl), ((codes "TAP 1 1", refl, refl), tt))

-- the first text was cut in its second line, the second to nothing, and the third lost nothing
three_cut : AreCut (codes "A\nC\n" ∷ codes "Q\n" ∷ codes "D\n" ∷ []) (codes "A\nC" ∷ [] ∷ codes "D\n" ∷ [])
three_cut = ((codes "\n", refl), ((codes "Q\n", refl), (([], refl), tt)))
