-- Words for the crates above: timelines of touches.
pub use Rattle.pay_taps.specs.Timelines.{TimelineParts, AreTimed, place_of, touch_before, counted, PutInAtPlace, StandsAtPlace, TakenOutAtPlace, PlaceWithoutIt, PutInAgain, SomeWithOneMore, OwnNumberAmongSome}
