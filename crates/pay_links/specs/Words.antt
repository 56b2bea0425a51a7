-- Words for the crates above: the marks of where journeys start.
pub use Rattle.pay_links.specs.Starts.{leg_of, leg_between, are_linked, starts_at, starts_after, starts, AreApart, taps_of_journey, marks_of_one, start_marks, journey_of_taps, until_start, journeys_by_marks}
pub use Rattle.pay_links.specs.Laws.{StartsAreLocal, AsManyMarksAsTaps, JourneysHaveEachTap, JourneysAreKeptAsMarks, MarksAreCut, JourneysAreCut}
