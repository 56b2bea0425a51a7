-- What a turn says of the words of staff, and whether its connection is still there after it.
use Rattle.std.specs.Prelude.{⊤, Option, Some, None}
use Rattle.pay_peers.specs.declared.fate.Fate.{Fate}
use Rattle.pay_peers.specs.declared.fate.Fate.TheVariants.{Waits, GoesOn, Asks, Lost, Ends}
use Rattle.pay_peers.specs.declared.word.Word.{Word}

-- the word that it ended at
abbrev pub word_in : Fate → Option Word
word_in Waits = None
word_in GoesOn = None
word_in (Asks word) = Some word
word_in (Lost why) = None
word_in Ends = None

-- it is neither lost nor over
abbrev pub Lasts : Fate → Type 0
Lasts Waits = ⊤
Lasts GoesOn = ⊤
Lasts (Asks word) = ⊤
Lasts (Lost why) = ⊥
Lasts Ends = ⊥
