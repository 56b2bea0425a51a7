-- Words for the crates above: the pages.
pub use Rattle.pay_fix_page.specs.Choosing.{choices_text}
pub use Rattle.pay_fix_page.specs.Previews.{preview_text}
pub use Rattle.pay_fix_page.specs.Sent.{done_text, refusal_text}
