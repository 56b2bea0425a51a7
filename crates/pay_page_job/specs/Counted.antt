-- What a service has counted.
use Rattle.std.specs.Prelude.{◌≡◌, ◌⊎◌, ℕ, List, Option, Some, None}
use Rattle.pay_metrics.specs.Words.{metrics_text}
use Rattle.pay_metrics.specs.declared.metrics.TheConstants.{DOWN}
use Rattle.pay_page_job.specs.declared.control.StaffPort.{StaffPort}

-- by the line with which it answers, or it is down
abbrev pub IsCounted : List ℕ → Type 0
IsCounted text = ((line : List ℕ) × (metrics_text line ≡ Some text)) ⊎ (text ≡ DOWN.now)

-- of the service that is asked, if there is one
abbrev pub AreMetrics : Option StaffPort → Option (List ℕ) → Type 0
AreMetrics (Some service) counted = (text : List ℕ) × IsCounted text × (counted ≡ Some text)
AreMetrics None counted = counted ≡ None
