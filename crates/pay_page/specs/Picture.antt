-- The picture of a day.
use Rattle.std.specs.Prelude.{◌≡◌, ℕ, ◌+◌, ◌*◌, ◌%◌, List, ◌++◌, codes, decimal, refl}
use Rattle.std.specs.Fmt.{digits}
use Rattle.std.specs.List.{flat_map, range_with_len}
use Rattle.pay_rules.specs.declared.journey.Journey.{Journey}
use Rattle.pay_why.specs.declared.listed.ListedJourney.{ListedJourney}
use Rattle.pay_html.specs.Words.{escaped}
use Rattle.pay_page.specs.declared.marks.TheConstants.{LEFT}
use Rattle.pay_page.specs.Marks.{across, marks}

-- its title, and what its marks mean
unfoldable pub picture_start : List ℕ → List ℕ
picture_start title =
    codes "<svg viewBox=\"0 0 1040 150\" role=\"img\" aria-labelledby=\"picture-title picture-desc\">\n<title id=\"picture-title\">"
    ++ (escaped title
    ++ (codes "</title>\n<desc id=\"picture-desc\">The day from 04:30 to 04:30. Squares are boardings, and bars are legs by rail, which a line joins to a journey. "
    ++ (codes "Diamonds are taps that stand alone. What costs nothing is hollow. The numbers are those of the table.</desc>\n"
    ++ codes "<text x=\"10\" y=\"56\">Bus</text>\n<text x=\"10\" y=\"106\">Rail</text>\n")))

-- a full hour, where it stands
unfoldable pub hour_at : ℕ → ℕ → List ℕ
hour_at x hour =
    codes "<line class=\"hour\" x1=\""
    ++ (decimal x
    ++ (codes "\" y1=\"10\" x2=\""
    ++ (decimal x
    ++ (codes "\" y2=\"120\"/>\n<text class=\"hour\" x=\"" ++ (decimal x ++ (codes "\" y=\"138\">" ++ (decimal hour ++ codes ":00</text>\n")))))))

-- the one so many hours after 05:00
abbrev pub hour_mark : ℕ → List ℕ
hour_mark hours = hour_at (LEFT + 20 + 40 * hours) ((hours + 5) % 24)

abbrev pub hour_marks : List ℕ
hour_marks = flat_map hour_mark (range_with_len 0 24)

-- of the journeys that a day lists, among all by rail of the account
abbrev pub picture : List ℕ → List Journey → List ListedJourney → List ℕ
picture title journeys list = picture_start title ++ (hour_marks ++ (marks journeys list ++ codes "</svg>\n"))

-- ---- worked rows

-- 05:00 and 00:00 stand where they are on the line
five_o_clock : hour_mark 0 ≡ codes "<line class=\"hour\" x1=\"80\" y1=\"10\" x2=\"80\" y2=\"120\"/>\n<text class=\"hour\" x=\"80\" y=\"138\">5:00</text>\n"
unfolding digits hour_at
five_o_clock = refl

midnight : hour_mark 19 ≡ codes "<line class=\"hour\" x1=\"840\" y1=\"10\" x2=\"840\" y2=\"120\"/>\n<text class=\"hour\" x=\"840\" y=\"138\">0:00</text>\n"
unfolding digits hour_at
midnight = refl

there_too : across 18_000 ≡ 80
there_too = refl
