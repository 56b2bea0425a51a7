-- Two stretches of boardings, without a touch and with it, and where they meet again.
use Rattle.std.specs.Prelude.{◌≡◌, ℕ, false, List, ◌++◌, length}
use Rattle.pay_rules.specs.declared.tap.Touch.{Touch}
use Rattle.pay_rules.specs.declared.journey.Journey.{Journey}
use Rattle.pay_book.specs.Boardings.{boarded_after, any_pays_twice}
use Rattle.pay_book.specs.declared.boardings.Stretch.{Stretch}

-- a stretch, and the boardings of later touches after it
abbrev pub with_later : ℕ → Stretch → List Touch → List Journey
with_later hopper stretch later = stretch.boardings.items ++ boarded_after hopper stretch.last_paid later

-- Of two stretches that some touches follow, as they were and as they have become: from where they end all boardings are alike.
pub record Meet (hopper : ℕ) (later : List Touch) (old new : Stretch × Stretch) : Type 0 where
  pub right : List Journey
  pub without_it : with_later hopper old.0 later ≡ new.0.boardings.items ++ right
  pub with_it : with_later hopper old.1 later ≡ new.1.boardings.items ++ right

-- Each of two stretches has gone on by as many taps, none of which pays in both.
pub record HaveGoneOn (old new : Stretch × Stretch) : Type 0 where
  pub fewer : List Journey
  pub more : List Journey
  pub without_it : new.0.boardings.items ≡ old.0.boardings.items ++ fewer
  pub with_it : new.1.boardings.items ≡ old.1.boardings.items ++ more
  pub one_each : length fewer ≡ length more
  pub no_others : any_pays_twice fewer more ≡ false
