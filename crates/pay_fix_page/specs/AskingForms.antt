-- Forms that ask for a credit, and for a tap that is missing.
use Rattle.std.specs.Prelude.{ℕ, List, ◌++◌, codes}
use Rattle.pay_fix_page.specs.BackForms.{account_fields}

-- how many pence a credit is
unfoldable pub credit_form : ℕ → ℕ → List ℕ
credit_form account day =
    codes "<h2>Give a credit</h2>\n<form action=\"/preview-credit\" method=\"post\">\n"
    ++ (account_fields account day
    ++ (codes "<p><label for=\"pence\">Pence</label>\n<input id=\"pence\" name=\"pence\" type=\"number\" min=\"1\" max=\"100000\" required></p>\n"
    ++ codes "<p><button type=\"submit\">Preview</button></p>\n</form>\n"))

-- the time, the place and the kind of a tap
unfoldable pub tap_form : ℕ → ℕ → List ℕ
tap_form account day =
    codes "<h2>Add a tap that is missing</h2>\n<form action=\"/preview-tap\" method=\"post\">\n"
    ++ (account_fields account day
    ++ (codes "<p><label for=\"time\">Time</label>\n<input id=\"time\" name=\"time\" type=\"time\" step=\"1\" required></p>\n"
    ++ (codes "<p><label for=\"place\">Place number</label>\n<input id=\"place\" name=\"place\" type=\"number\" min=\"1\" max=\"65535\" required></p>\n"
    ++ (codes "<p><label for=\"kind\">Kind</label>\n<select id=\"kind\" name=\"kind\">\n<option value=\"IN\">In at a station</option>\n"
    ++ (codes "<option value=\"OUT\">Out of a station</option>\n<option value=\"BUS\">On a bus</option>\n</select></p>\n"
    ++ codes "<p><button type=\"submit\">Preview</button></p>\n</form>\n")))))
