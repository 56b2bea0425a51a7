-- Words for the crates above: what a service day is, a week, and an instant as it is kept.
pub use Rattle.pay_day.specs.Day.{day_of_week, is_in_week_of, is_instant, IsDay, IsInstant, monday, offset_of, Stamp, stamp_of, sunday}
