-- The metrics of a service.
use Rattle.std.specs.Prelude.{ℕ, List, [], ◌∷◌, Option, Some, None, option_map, codes}
use Rattle.pay_metrics.specs.declared.families.Family.{Family}

pub record FamilyOf : Type 0 where
  pub field : List ℕ
  pub metric : List ℕ
  pub label : Option (List ℕ)
  pub kind : List ℕ
  pub help : List ℕ

abbrev pub family_of : Family → FamilyOf
family_of it =
    record { field = it.field.now; metric = it.metric.now; label = option_map (λ label. label.now) it.label; kind = it.kind.now; help = it.help.now }

-- what only rises
abbrev pub counter : List ℕ → List ℕ → Option (List ℕ) → List ℕ → FamilyOf
counter field metric label help = record { field = field; metric = metric; label = label; kind = codes "counter"; help = help }

-- what may fall too
abbrev pub gauge : List ℕ → List ℕ → Option (List ℕ) → List ℕ → FamilyOf
gauge field metric label help = record { field = field; metric = metric; label = label; kind = codes "gauge"; help = help }

abbrev pub families : List FamilyOf
families =
    gauge (codes "seconds=") (codes "farebox_uptime_seconds") None (codes "Seconds for which lines have been answered.")
    ∷ gauge (codes "connections=") (codes "farebox_open_connections") None (codes "Connections that are open.")
    ∷ counter (codes "connections_in_all=") (codes "farebox_connections_total") None (codes "Connections that were taken.")
    ∷ counter (codes "dropped=") (codes "farebox_dropped_connections_total") None (codes "Connections that were dropped for want of room.")
    ∷ counter (codes "lines=") (codes "farebox_lines_total") None (codes "Lines that were answered.")
    ∷ counter (codes "accepted=") (codes "farebox_accepted_total") None (codes "Taps and corrections that were accepted.")
    ∷ counter (codes "again=") (codes "farebox_again_total") None (codes "Taps and corrections that had been accepted before.")
    ∷ counter (codes "taps=") (codes "farebox_taps_total") None (codes "Taps that were accepted.")
    ∷ counter (codes "corrections=") (codes "farebox_corrections_total") None (codes "Corrections that were accepted.")
    ∷ counter (codes "refused_") (codes "farebox_refused_total") (Some (codes "refusal")) (codes "Lines that were refused, by the number of the refusal.")
    ∷ gauge (codes "journal_bytes=") (codes "farebox_journal_bytes") None (codes "Bytes of all journals.")
    ∷ gauge (codes "memory_bytes=") (codes "farebox_memory_bytes") None (codes "Bytes of the service's memory.")
    ∷ gauge (codes "accounts=") (codes "farebox_accounts") None (codes "Accounts that have accepted something.")
    ∷ gauge (codes "waiting_") (codes "farebox_waiting_commands") (Some (codes "shard")) (codes "Commands that waited for a shard when it last took one.")
    ∷ gauge (codes "close_day=") (codes "farebox_last_close_day") None (codes "Service day of the last close, counted from 1970-01-01.")
    ∷ gauge (codes "close_postings=") (codes "farebox_last_close_postings") None (codes "Postings of the last close.")
    ∷ gauge (codes "close_seconds=") (codes "farebox_last_close_age_seconds") None (codes "Seconds since the last close.")
    ∷ []
