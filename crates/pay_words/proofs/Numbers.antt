-- What a number among the words is read as.
use Rattle.std.proofs.Common.{◌≡◌, ℕ, ◌<◌, ◌^◌, false, true, ap, Option, Some, None, Result, Ok, Err, arith}
use Rattle.std.specs.Str.Parse.{ParsesUnsigned, without_leading_plus, digits_value}
use Rattle.std.specs.Prelude.{IfSome, option_map}
use Rattle.clap.specs.Walk.{Text}
use Rattle.clap.specs.Matches.{ReadsOne}
use Rattle.clap.specs.ValueTests.{is_unsigned_in}
use Rattle.clap.specs.declared.builder.value_parser.ValueParser.TheVariants as vp
use Rattle.clap.proofs.ValueTestLemmas.{accepts-Accepts}
use Rattle.pay_dates.specs.Words.{day_of_text}
use Rattle.pay_words.specs.Asked.{number_of}

-- a word of a range that these bits hold is read as its number
pub read_number : {E : Type 0} (bits : ℕ) (gives : Text → Result ℕ E → Type 0) → ((t : Text) (r : Result ℕ E) → gives t r → ParsesUnsigned bits 10 t r)
    → (least most : ℕ) (word : Text) (found : Option ℕ) → is_unsigned_in least most word ≡ true → most < 2 ^ bits → ReadsOne gives word found → found ≡ Some (number_of word)
read_number {E} bits gives parses least most word found fits within read = go found read
  where
    go : (found : Option ℕ) → ReadsOne gives word found → found ≡ Some (number_of word)
    go (Some n) h = ap Some (parses word (Ok n) h).1
    go None h =
        let in_range = accepts-Accepts false (vp.Unsigned least most) word fits in
        let small : digits_value 10 (without_leading_plus word) < 2 ^ bits = omega (arith, in_range.3, within) in
        absurd (parses word (Err h.0) h.1 (in_range.0, small))

-- a number that may be given, where none is read as none, and one in its range as its number
pub number_given : (found given : Option Text) (IsRead : Text → Type 0) (read : Option ℕ) → (found ≡ None → read ≡ None)
    → ((word : Text) → found ≡ Some word → IsRead word → read ≡ Some (number_of word)) → found ≡ given → IfSome given IsRead → read ≡ option_map number_of given
number_given found None IsRead read none value is fits = none is
number_given found (Some word) IsRead read none value is fits = value word is fits

-- a day that may be given
pub day_given : {S : Type 0} (text_of : S → Text) (found : Option S) (given : Option Text) → option_map text_of found ≡ given
    → option_map (λ s. day_of_text (text_of s)) found ≡ option_map day_of_text given
day_given text_of None given is = ap (option_map day_of_text) is
day_given text_of (Some s) given is = ap (option_map day_of_text) is
