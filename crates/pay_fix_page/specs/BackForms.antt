-- Forms that take a tap or a correction back.
use Rattle.std.specs.Prelude.{◌≡◌, ℕ, List, ◌++◌, codes, decimal, refl}
use Rattle.std.specs.Fmt.{digits}
use Rattle.pay_fix_page.specs.declared.back_forms.TakenBack.{TakenBack}
use Rattle.pay_fix_page.specs.declared.back_forms.TakenBack.TheVariants.{Tap, Fix}

-- a field that is not shown, with its value as HTML
unfoldable pub hidden : List ℕ → List ℕ → List ℕ
hidden name value = codes "<input type=\"hidden\" name=\"" ++ (name ++ (codes "\" value=\"" ++ (value ++ codes "\">\n")))

-- those by which each form begins
unfoldable pub account_fields : ℕ → ℕ → List ℕ
account_fields account day = hidden (codes "account") (decimal account) ++ hidden (codes "day") (decimal day)

-- what takes a tap or a correction back, as the end of a line
abbrev pub taken_back : TakenBack → List ℕ
taken_back (Tap reader seq) = codes "VOID " ++ (decimal reader ++ (codes " " ++ decimal seq))
taken_back (Fix staff seq) = codes "DROP " ++ (decimal staff ++ (codes " " ++ decimal seq))

-- the form that asks what would change, with the text of its button as HTML
unfoldable pub back_form : ℕ → ℕ → TakenBack → List ℕ → List ℕ
back_form account day what button =
    codes "<form action=\"/preview\" method=\"post\">\n"
    ++ (account_fields account day
    ++ (hidden (codes "what") (taken_back what) ++ (codes "<button type=\"submit\">" ++ (button ++ codes "</button>\n</form>\n"))))

-- ---- worked rows

of_a_tap : back_form 7 19_730 (Tap 1 2) (codes "Take it out..")
    ≡ codes "<form action=\"/preview\" method=\"post\">\n<input type=\"hidden\" name=\"account\" value=\"7\">\n"
    ++ codes "<input type=\"hidden\" name=\"day\" value=\"19730\">\n<input type=\"hidden\" name=\"what\" value=\"VOID 1 2\">\n"
    ++ codes "<button type=\"submit\">Take it out..</button>\n</form>\n"
unfolding digits hidden account_fields back_form
of_a_tap = refl

of_a_correction : taken_back (Fix 3 4) ≡ codes "DROP 3 4"
unfolding digits
of_a_correction = refl
