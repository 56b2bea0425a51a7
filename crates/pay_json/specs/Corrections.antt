-- What the corrections about a day do, as JSON.
use Rattle.std.specs.Prelude.{◌≡◌, ℕ, ◌-◌, List, [], ◌∷◌, length, take, drop, Option, Some, None, codes, refl}
use Rattle.std.specs.Char.{is_ascii_whitespace}
use Rattle.std.specs.Fmt.{digits}
use Rattle.std.specs.List.{prefix_len, suffix_len}
use Rattle.std.specs.FinMap.{values}
use Rattle.json.specs.Print.{escape_byte}
use Rattle.serde_json.specs.Data.{Data, string, object, array, Members}
use Rattle.serde_json.specs.Written.{compact_text}
use Rattle.pay_names.specs.Words.{Named}
use Rattle.pay_rules.specs.declared.fix.Fix.{Fix}
use Rattle.pay_rules.specs.declared.fix.What.TheVariants.{Void}
use Rattle.pay_rules.specs.Taps.{Taps}
use Rattle.pay_rules.specs.Fixes.{Fixes}
use Rattle.pay_why.specs.declared.correction.FixReason.{FixReason}
use Rattle.pay_why.specs.declared.correction.FixReason.TheVariants.{Stands, DroppedBy, NamesNothing}
use Rattle.pay_why.specs.Words.{fix_reason}
use Rattle.pay_explain.specs.Corrections.{correction_line, form_text}
use Rattle.pay_json.specs.Values.{all_joined, fields, items_of, whole}

-- what a correction does now, in a word
abbrev pub effect_word : FixReason → List ℕ
effect_word Stands = codes "Stands"
effect_word (DroppedBy staff seq) = codes "DroppedBy"
effect_word NamesNothing = codes "NamesNothing"

-- a line without the white space around it
abbrev from_first : List ℕ → List ℕ
from_first line = drop (prefix_len is_ascii_whitespace line) line

abbrev through_last : List ℕ → List ℕ
through_last line = take (length line - suffix_len is_ascii_whitespace line) line

abbrev pub trimmed : List ℕ → List ℕ
trimmed line = through_last (from_first line)

-- a correction with its number, what it does now, and its line
unfoldable pub correction_members : List ℕ → FixReason → Fix → Members
correction_members line reason fix =
    fields (
    (codes "form", string (form_text fix.what)) ∷ (codes "staff", whole fix.staff) ∷ (codes "seq", whole fix.seq) ∷ (codes "effect", string (effect_word reason))
    ∷ (codes "sentence", string (trimmed line)) ∷ [])

-- where it has a line
abbrev pub correction_of : List ℕ → FixReason → Fix → Option Members
correction_of [] reason fix = None
correction_of (byte ∷ line) reason fix = Some (correction_members (byte ∷ line) reason fix)

abbrev pub correction_about : Named → Taps → Fixes → ℕ → Fix → Option Members
correction_about names taps fixes day fix = correction_of (correction_line names taps fixes day fix) (fix_reason taps fixes fix) fix

-- the accepted corrections about a day, in the order of their numbers
abbrev pub corrections_joined : Named → Taps → Fixes → ℕ → List ℕ
corrections_joined names taps fixes day = all_joined (correction_about names taps fixes day) [] (values fixes)

abbrev pub corrections_value : Named → Taps → Fixes → ℕ → Data
corrections_value names taps fixes day = array (items_of (correction_about names taps fixes day) (values fixes))

-- ---- worked rows

of_spaces : trimmed (codes "   a b\n") ≡ codes "a b"
of_spaces = refl

-- the second Void of staff 3, of a tap that is not accepted
early : compact_text (object (correction_members (codes "         Void 3 2 of tap 1 9: names nothing\n") NamesNothing (record { account = 7; staff = 3; seq = 2; what = Void 1 9 })))
    ≡ codes "{\"form\":\"Void\",\"staff\":3,\"seq\":2,\"effect\":\"NamesNothing\",\"sentence\":\"Void 3 2 of tap 1 9: names nothing\"}"
unfolding digits escape_byte correction_members
early = refl
