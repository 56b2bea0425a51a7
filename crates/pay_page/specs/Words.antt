-- Words for the crates above: the pages, what stands around each page, a day by its name, and a link to a day.
unfoldable pub use Rattle.pay_page.specs.Frame.{page_start, page_end}
pub use Rattle.pay_page.specs.Headings.{named_day}
unfoldable pub use Rattle.pay_page.specs.Links.{day_link}
pub use Rattle.pay_page.specs.DayPages.{day_page_text}
pub use Rattle.pay_page.specs.Posted.{is_of_ledger, posted_part}
pub use Rattle.pay_page.specs.WeekPages.{week_page_text}
pub use Rattle.pay_page.specs.FormPages.{form_page_text}
