-- What a day comes to, as lines.
use Rattle.std.specs.Prelude.{◌≡◌, ℕ, List, [], ◌++◌, Option, Some, None, codes, refl}
use Rattle.std.specs.Fmt.{digits}
use Rattle.pay_tables.specs.declared.band.Cover.{Cover}
use Rattle.pay_tables.specs.declared.band.Cover.TheVariants.{Buses, Zones}
use Rattle.pay_why.specs.declared.cap.CappedBand.{CappedBand}
use Rattle.pay_why.specs.declared.cap.CapReason.{CapReason}
use Rattle.pay_explain.specs.Amounts.{pounds_text, head_text}
use Rattle.pay_explain.specs.Sentences.{zones_text}

abbrev pub cover_text : Cover → List ℕ
cover_text Buses = codes "buses"
cover_text (Zones span) = zones_text span

-- the band that gives a price: its cap stands for what is inside, and what is outside comes on top of it
abbrev pub band_text : Option CappedBand → List ℕ
band_text None = []
band_text (Some band) =
    head_text band.cap
    ++ (codes "by the cap of "
    ++ (cover_text band.cover ++ (codes ", in place of " ++ (pounds_text band.inside ++ (codes "\n" ++ (head_text band.outside ++ codes "outside of it\n"))))))

-- the fares that caps are for, the band, the maximum fares, and what is charged
abbrev pub day_sums_text : CapReason → List ℕ
day_sums_text reason =
    head_text reason.uncapped
    ++ (codes "all but maximum fares, without a cap\n" ++ (band_text reason.band ++ (head_text reason.maximum ++ (codes "maximum fares\n" ++ (head_text reason.price ++ codes "the day\n")))))

-- ---- worked rows

-- three journeys in zones 1 and 2, one in zone 3, and a tap that stands alone: the band 1-2 leaves the one in zone 3 outside
by_a_band : day_sums_text (record {
  uncapped = 1_200;
  band = Some (record { place = 1; cover = Zones (record { from = 1; to = 2 }); cap = 890; inside = 1_020; outside = 180 });
  maximum = 860;
  price = 1_930;
})
    ≡ codes "  12.00  all but maximum fares, without a cap\n   8.90  by the cap of zones 1 to 2, in place of 10.20\n   1.80  outside of it\n   8.60  maximum fares\n  19.30  the day\n"
unfolding digits
by_a_band = refl

by_no_band : day_sums_text (record { uncapped = 350; band = None; maximum = 0; price = 350 })
    ≡ codes "   3.50  all but maximum fares, without a cap\n   0.00  maximum fares\n   3.50  the day\n"
unfolding digits
by_no_band = refl
