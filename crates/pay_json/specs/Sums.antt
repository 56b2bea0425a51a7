-- What a day and a week come to, as JSON.
use Rattle.std.specs.Prelude.{◌≡◌, [], ◌∷◌, Option, Some, None, codes, refl}
use Rattle.std.specs.Fmt.{digits}
use Rattle.json.specs.Print.{escape_byte}
use Rattle.serde_json.specs.Data.{Data, null, string, object}
use Rattle.serde_json.specs.Written.{compact_text}
use Rattle.pay_tables.specs.declared.band.Cover.{Cover}
use Rattle.pay_tables.specs.declared.band.Cover.TheVariants.{Buses, Zones}
use Rattle.pay_why.specs.declared.cap.CappedBand.{CappedBand}
use Rattle.pay_why.specs.declared.cap.CapReason.{CapReason}
use Rattle.pay_json.specs.Values.{fields, whole}

unfoldable pub cover_value : Cover → Data
cover_value Buses = object (fields ((codes "kind", string (codes "Buses")) ∷ []))
cover_value (Zones span) = object (fields ((codes "kind", string (codes "Zones")) ∷ (codes "from", whole span.from) ∷ (codes "to", whole span.to) ∷ []))

-- the band that gives a price: its cap stands for what is inside, and what is outside comes on top of it
unfoldable pub band_value : Option CappedBand → Data
band_value None = null
band_value (Some band) =
    object (fields (
    (codes "cover", cover_value band.cover) ∷ (codes "cap_pence", whole band.cap) ∷ (codes "inside_pence", whole band.inside) ∷ (codes "outside_pence", whole band.outside) ∷ []))

-- all but maximum fares without a cap, the band, the maximum fares, and what is charged
unfoldable pub sums_value : CapReason → Data
sums_value reason =
    object (fields (
    (codes "uncapped_pence", whole reason.uncapped) ∷ (codes "band", band_value reason.band) ∷ (codes "maximum_fares_pence", whole reason.maximum)
    ∷ (codes "price_pence", whole reason.price) ∷ []))

-- ---- worked rows

-- three journeys in zones 1 and 2, one in zone 3, and a tap that stands alone: the band 1-2 leaves the one in zone 3 outside
by_a_band : compact_text (sums_value (record {
  uncapped = 1_200;
  band = Some (record { place = 1; cover = Zones (record { from = 1; to = 2 }); cap = 890; inside = 1_020; outside = 180 });
  maximum = 860;
  price = 1_930;
}))
    ≡ codes "{\"uncapped_pence\":1200,\"band\":{\"cover\":{\"kind\":\"Zones\",\"from\":1,\"to\":2},\"cap_pence\":890,\"inside_pence\":1020,\"outside_pence\":180},\"maximum_fares_pence\":860,\"price_pence\":1930}"
unfolding digits escape_byte sums_value band_value cover_value
by_a_band = refl

by_no_band : compact_text (sums_value (record { uncapped = 350; band = None; maximum = 0; price = 350 }))
    ≡ codes "{\"uncapped_pence\":350,\"band\":null,\"maximum_fares_pence\":0,\"price_pence\":350}"
unfolding digits escape_byte sums_value band_value
by_no_band = refl
