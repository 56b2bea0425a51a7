-- Texts without a newline: what may be left of a line, and what is another's.
use Rattle.std.specs.Prelude.{◌≡◌, true, false, [], ◌∷◌, replicate, codes, refl}
use Rattle.pay_files.specs.Journals.{is_cut_line}

nothing : is_cut_line [] ≡ true
nothing = refl

one_letter : is_cut_line (codes "F") ≡ true
one_letter = refl

the_word : is_cut_line (codes "TAP ") ≡ true
the_word = refl

a_front : is_cut_line (codes "TAP 1 1 9 17046") ≡ true
a_front = refl

zeros : is_cut_line (0 ∷ 0 ∷ []) ≡ true
zeros = refl

-- a query is never kept
a_query : is_cut_line (codes "DUE 9 19730") ≡ false
a_query = refl

a_note : is_cut_line (codes "TAPE 7") ≡ false
a_note = refl

zeros_after_a_letter : is_cut_line (84 ∷ 0 ∷ []) ≡ false
zeros_after_a_letter = refl

too_long : is_cut_line (replicate 129 0) ≡ false
too_long = refl
