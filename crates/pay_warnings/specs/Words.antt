-- Words for the crates above: what is said of the text of a fare file, and what is printed of it.
pub use Rattle.pay_warnings.specs.Warnings.{Said, not_read, peak_below_off, fare_of_zero, week_below_day, cap_of_zero, no_bands, no_holiday_after, no_holidays, says, all_said, file_said, text_said}
pub use Rattle.pay_warnings.specs.Printed.{said_text}
