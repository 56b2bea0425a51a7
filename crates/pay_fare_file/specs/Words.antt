-- Words for the crates above: what the text of a fare file says, its refusals and their places, and what stands at a key.
pub use Rattle.pay_fare_file.specs.FareFile.{fare_file, fare_text}
pub use Rattle.pay_fare_file.specs.Keys.{integer_of, integer_at}
pub use Rattle.pay_fare_file.specs.Fault.{fault_number, fault_name}
pub use Rattle.pay_fare_file.specs.Spots.{key_name, told, untold}
pub use Rattle.pay_fare_file.specs.FaultPlaces.{fare_file_told, place_told, line_of, IsLineOf, IsPlaceIn, IsFaultPlace}
pub use Rattle.pay_fare_file.specs.Printed.{named_day, spot_text, place_text}
