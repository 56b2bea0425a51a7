-- The page that begins.
use Rattle.std.specs.Prelude.{ℕ, Bool, true, false, List, [], ◌++◌, codes}
use Rattle.pay_page.specs.Frame.{page_start, page_end}

-- a second button of the form, which asks for corrections of the day
abbrev pub correct_button : Bool → List ℕ
correct_button true = codes "\n<button type=\"submit\" formaction=\"/correct\">Correct this day</button>"
correct_button false = []

-- a form for an account and a day, which asks for its week, and may have the second button
unfoldable pub week_form : Bool → List ℕ
week_form corrects =
    codes "<form action=\"/week\" method=\"get\">\n<p><label for=\"account\">Account</label>\n"
    ++ (codes "<input id=\"account\" name=\"account\" type=\"number\" min=\"1\" max=\"4294967295\" required></p>\n<p><label for=\"day\">Day</label>\n"
    ++ (codes "<input id=\"day\" name=\"day\" type=\"date\" min=\"1970-01-05\" max=\"2106-11-24\" required></p>\n"
    ++ (codes "<p><button type=\"submit\">Show its week through this day</button>" ++ (correct_button corrects ++ codes "</p>\n</form>\n"))))

abbrev pub form_page_text : Bool → List ℕ
form_page_text corrects = page_start (codes "Why an account was charged") ++ (week_form corrects ++ page_end)
