-- Words for the crates above: the date of a service day, days and weeks as they are printed, and the day that a text names.
pub use Rattle.pay_dates.specs.Calendar.{date_text_of}
pub use Rattle.pay_dates.specs.Dates.{dated_text, dated_week_text}
pub use Rattle.pay_dates.specs.Reading.{day_of_text}
