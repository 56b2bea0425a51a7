use Rattle.pay_taps.proofs.Places.{put_in_at_place, stands_at_place, taken_out_at_place, some_with_one_more}
use Rattle.pay_taps.proofs.PlacesAgain.{place_without, put_back}
use Rattle.pay_taps.proofs.laws.places.Goals as goal

pub returns : goal.returns
returns c = record { put_in = put_in_at_place; stands = stands_at_place; taken_out = taken_out_at_place; place_kept = place_without; again = put_back; some = some_with_one_more }
