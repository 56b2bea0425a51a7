-- Lines of STATS, and the texts of their metrics, worked by hand.
use Rattle.std.specs.Prelude.{◌≡◌, ◌++◌, Some, None, codes, refl}
use Rattle.pay_metrics.specs.Fields.{parted}
use Rattle.pay_metrics.specs.declared.metrics.TheConstants.{DOWN}
use Rattle.pay_metrics.specs.Metrics.{headed, labelled, metrics_text, plain, up}

-- of a service without refusals, journals and closes
least : metrics_text (codes "STATS seconds=9 connections=2 connections_in_all=5 dropped=0 lines=7 accepted=3 again=1 taps=2 corrections=1")
    ≡ Some (codes "# HELP farebox_up Whether the service answers.\n# TYPE farebox_up gauge\nfarebox_up 1\n"
    ++ codes "# HELP farebox_uptime_seconds Seconds for which lines have been answered.\n# TYPE farebox_uptime_seconds gauge\nfarebox_uptime_seconds 9\n"
    ++ codes "# HELP farebox_open_connections Connections that are open.\n# TYPE farebox_open_connections gauge\nfarebox_open_connections 2\n"
    ++ codes "# HELP farebox_connections_total Connections that were taken.\n# TYPE farebox_connections_total counter\nfarebox_connections_total 5\n"
    ++ codes "# HELP farebox_dropped_connections_total Connections that were dropped for want of room.\n"
    ++ codes "# TYPE farebox_dropped_connections_total counter\nfarebox_dropped_connections_total 0\n"
    ++ codes "# HELP farebox_lines_total Lines that were answered.\n# TYPE farebox_lines_total counter\nfarebox_lines_total 7\n"
    ++ codes "# HELP farebox_accepted_total Taps and corrections that were accepted.\n# TYPE farebox_accepted_total counter\nfarebox_accepted_total 3\n"
    ++ codes "# HELP farebox_again_total Taps and corrections that had been accepted before.\n# TYPE farebox_again_total counter\nfarebox_again_total 1\n"
    ++ codes "# HELP farebox_taps_total Taps that were accepted.\n# TYPE farebox_taps_total counter\nfarebox_taps_total 2\n"
    ++ codes "# HELP farebox_corrections_total Corrections that were accepted.\n# TYPE farebox_corrections_total counter\nfarebox_corrections_total 1\n")
unfolding parted plain labelled headed
least = refl

-- what a line may have beside that
others : metrics_text (codes "STATS refused_20=1 refused_34=12 journal_bytes=4728040 memory_bytes=51380224 accounts=30412 waiting_0=0 waiting_1=3"
    ++ codes " close_day=19737 close_postings=1234 close_seconds=2760")
    ≡ Some (up
    ++ codes "# HELP farebox_refused_total Lines that were refused, by the number of the refusal.\n# TYPE farebox_refused_total counter\n"
    ++ codes "farebox_refused_total{refusal=\"20\"} 1\nfarebox_refused_total{refusal=\"34\"} 12\n"
    ++ codes "# HELP farebox_journal_bytes Bytes of all journals.\n# TYPE farebox_journal_bytes gauge\nfarebox_journal_bytes 4728040\n"
    ++ codes "# HELP farebox_memory_bytes Bytes of the service's memory.\n# TYPE farebox_memory_bytes gauge\nfarebox_memory_bytes 51380224\n"
    ++ codes "# HELP farebox_accounts Accounts that have accepted something.\n# TYPE farebox_accounts gauge\nfarebox_accounts 30412\n"
    ++ codes "# HELP farebox_waiting_commands Commands that waited for a shard when it last took one.\n# TYPE farebox_waiting_commands gauge\n"
    ++ codes "farebox_waiting_commands{shard=\"0\"} 0\nfarebox_waiting_commands{shard=\"1\"} 3\n"
    ++ codes "# HELP farebox_last_close_day Service day of the last close, counted from 1970-01-01.\n"
    ++ codes "# TYPE farebox_last_close_day gauge\nfarebox_last_close_day 19737\n"
    ++ codes "# HELP farebox_last_close_postings Postings of the last close.\n"
    ++ codes "# TYPE farebox_last_close_postings gauge\nfarebox_last_close_postings 1234\n"
    ++ codes "# HELP farebox_last_close_age_seconds Seconds since the last close.\n"
    ++ codes "# TYPE farebox_last_close_age_seconds gauge\nfarebox_last_close_age_seconds 2760\n")
unfolding parted plain labelled headed
others = refl

-- a number of a metric stands with the others of it, wherever its field does
apart : metrics_text (codes "STATS waiting_0=0 taps=2 waiting_1=3")
    ≡ Some (up
    ++ codes "# HELP farebox_taps_total Taps that were accepted.\n# TYPE farebox_taps_total counter\nfarebox_taps_total 2\n"
    ++ codes "# HELP farebox_waiting_commands Commands that waited for a shard when it last took one.\n# TYPE farebox_waiting_commands gauge\n"
    ++ codes "farebox_waiting_commands{shard=\"0\"} 0\nfarebox_waiting_commands{shard=\"1\"} 3\n")
unfolding parted plain labelled headed
apart = refl

-- names that are not known, or only begin as others do
unknown : metrics_text (codes "STATS threads=4 taps_in_all=9 taps=2 refused_all=3 refused_=3 waiting=1")
    ≡ Some (up ++ codes "# HELP farebox_taps_total Taps that were accepted.\n# TYPE farebox_taps_total counter\nfarebox_taps_total 2\n")
unfolding parted plain labelled headed
unknown = refl

-- 2 to the 64th less one
greatest : metrics_text (codes "STATS taps=18446744073709551615")
    ≡ Some (up ++ codes "# HELP farebox_taps_total Taps that were accepted.\n# TYPE farebox_taps_total counter\nfarebox_taps_total 18446744073709551615\n")
unfolding parted plain labelled headed
greatest = refl

-- ---- what is no such line

another_digit : metrics_text (codes "STATS taps=184467440737095516150") ≡ None
unfolding parted
another_digit = refl

no_number : metrics_text (codes "STATS taps=2 lines= again=1") ≡ None
unfolding parted
no_number = refl

another_letter : metrics_text (codes "STATS taps=2 lines=-7") ≡ None
unfolding parted
another_letter = refl

no_equals : metrics_text (codes "STATS taps=2 lines") ≡ None
unfolding parted
no_equals = refl

two_spaces : metrics_text (codes "STATS taps=2  lines=7") ≡ None
unfolding parted
two_spaces = refl

with_its_newline : metrics_text (codes "STATS taps=2\n") ≡ None
unfolding parted
with_its_newline = refl

no_fields : metrics_text (codes "STATS ") ≡ None
unfolding parted
no_fields = refl

a_refusal : metrics_text (codes "NO 50 BadLine") ≡ None
a_refusal = refl

nothing_at_all : metrics_text (codes "") ≡ None
nothing_at_all = refl

-- ---- where a service does not answer

down : DOWN.now ≡ codes "# HELP farebox_up Whether the service answers.\n# TYPE farebox_up gauge\nfarebox_up 0\n"
down = refl
