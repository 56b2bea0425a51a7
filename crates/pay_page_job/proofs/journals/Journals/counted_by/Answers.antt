use Rattle.std.proofs.Common.{◌∙◌, ap, inl, sym}
use Rattle.std.specs.Prelude.{option_map}
use Rattle.std.specs.String.{string_bytes}
use Rattle.pay_page_job.proofs.journals.Journals.counted_by.Goals as goal

pub returns-in-Some-2 : goal.returns-in-Some-2
returns-in-Some-2 g c = inl (c.as_str.result.now, sym c.in_ok-text.ensures ∙ ap (option_map string_bytes) c.in-Some-2.is)
