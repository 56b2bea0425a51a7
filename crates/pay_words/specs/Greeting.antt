-- What a greeting may be.
use Rattle.std.specs.Prelude.{◌≡◌, ℕ, ◌==◌, ◌&&◌, ◌||◌, nat_eq, nat_le, not, ◌++◌, length, replicate, codes, Bool, true, false, refl, Option}
use Rattle.std.specs.Char.{is_ascii_graphic}
use Rattle.std.specs.List.{ends_with, list_all, starts_with}
use Rattle.std.specs.Option.{option_map_or}
use Rattle.std.specs.Str.{bytes_eq}
use Rattle.pay_words.specs.declared.limits.TheConstants.{MOST_GREETING_BYTES}
use Rattle.pay_words.specs.OneWord.{Text}

-- printable ASCII, of which one character is the space (32)
abbrev pub is_printable : ℕ → Bool
is_printable byte = is_ascii_graphic byte || byte == 32

abbrev pub begins_or_ends_with_space : Text → Bool
begins_or_ends_with_space text = starts_with nat_eq text (codes " ") || ends_with nat_eq text (codes " ")

-- what staff ask of a service is no greeting
abbrev pub is_word_of_staff : Text → Bool
is_word_of_staff text = bytes_eq text (codes "STOP") || (bytes_eq text (codes "STATS") || (starts_with nat_eq text (codes "BACKUP ") || starts_with nat_eq text (codes "OPEN ")))

-- a line of 1 to 128 printable characters, with no space at either end, which is no word of staff
unfoldable pub is_greeting : Text → Bool
is_greeting text = nat_le 1 (length text) && (nat_le (length text) MOST_GREETING_BYTES
    && (list_all is_printable text && (not (begins_or_ends_with_space text) && not (is_word_of_staff text))))

-- a greeting that is given is one
abbrev pub may_greet : Option Text → Bool
may_greet greeting = option_map_or is_greeting greeting true

-- ---- worked rows

letters : is_greeting (codes "x") ≡ true
unfolding is_greeting
letters = refl

-- spaces may stand between others, and the first printable one but the space is `!`, the last `~`
spaces : is_greeting (codes "!hello  farebox~") ≡ true
unfolding is_greeting
spaces = refl

longest : is_greeting (replicate 128 120) ≡ true
unfolding is_greeting
longest = refl

too_long : is_greeting (replicate 129 120) ≡ false
unfolding is_greeting
too_long = refl

none : is_greeting (codes "") ≡ false
unfolding is_greeting
none = refl

-- a tab, a newline, what is deleted (127) and letters beyond ASCII are not printable
tab : is_greeting (codes "a\tb") ≡ false
unfolding is_greeting
tab = refl

deleted : is_greeting (codes "a" ++ replicate 1 127) ≡ false
unfolding is_greeting
deleted = refl

beyond : is_greeting (codes "é") ≡ false
unfolding is_greeting
beyond = refl

space_before : is_greeting (codes " a") ≡ false
unfolding is_greeting
space_before = refl

space_after : is_greeting (codes "a ") ≡ false
unfolding is_greeting
space_after = refl

stop : is_greeting (codes "STOP") ≡ false
unfolding is_greeting
stop = refl

stats : is_greeting (codes "STATS") ≡ false
unfolding is_greeting
stats = refl

backup : is_greeting (codes "BACKUP /a") ≡ false
unfolding is_greeting
backup = refl

-- which have to be whole
open_week : is_greeting (codes "OPEN 19735") ≡ false
unfolding is_greeting
open_week = refl

longer_words : is_greeting (codes "STOP!") && (is_greeting (codes "stats") && (is_greeting (codes "BACKUP") && is_greeting (codes "OPEN"))) ≡ true
unfolding is_greeting
longer_words = refl
