-- A fare file of one line, kept with the zone UTC0.
use Rattle.std.specs.Prelude.{◌≡◌, true, false, codes, refl}
use Rattle.pay_kept.specs.Text.{kept_text}

one_line : kept_text (codes "UTC0") false (codes "zones = 3\n") ≡ codes "# zone UTC0\n# without a ledger\nzones = 3\n"
one_line = refl

one_line_closed : kept_text (codes "UTC0") true (codes "zones = 3\n") ≡ codes "# zone UTC0\n# with a ledger\nzones = 3\n"
one_line_closed = refl
