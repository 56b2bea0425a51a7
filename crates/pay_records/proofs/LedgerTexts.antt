-- What each SELECT of the ledger means over its own tables, and two of them where these stand among others, as worked rows.
use Rattle.pay_records.specs.Tables.{ledger_schema, meta_tree, postings_tree, shares_tree, taps_tree, fixes_tree, taps_columns, fixes_columns}
use Rattle.pay_records.specs.Places.{ledger_places, ledger_has, other_schema, other_places, other_has}
use Rattle.pay_records.proofs.SelectTexts.{select_meta, select_all_taps, select_all_fixes, select_taps, select_fixes, select_postings, select_shares, IsQuery, meta_query, all_taps_query, all_fixes_query, taps_query, fixes_query, postings_query, shares_query}
use Rattle.pay_records.proofs.Queries.{meta_names, postings_names, select_meta_is, select_all_taps_is, select_all_fixes_is, select_taps_is, select_fixes_is, select_postings_is}
use Rattle.pay_records.proofs.Joining.{shares_names, select_shares_is}

pub ledger_meta : IsQuery ledger_schema select_meta (meta_query meta_tree) meta_names
ledger_meta = select_meta_is ledger_schema ledger_places.meta ledger_has.has_meta

pub ledger_all_taps : IsQuery ledger_schema select_all_taps (all_taps_query taps_tree) taps_columns
ledger_all_taps = select_all_taps_is ledger_schema ledger_places.taps ledger_has.has_taps

pub ledger_all_fixes : IsQuery ledger_schema select_all_fixes (all_fixes_query fixes_tree) fixes_columns
ledger_all_fixes = select_all_fixes_is ledger_schema ledger_places.fixes ledger_has.has_fixes

pub ledger_taps : IsQuery ledger_schema select_taps (taps_query taps_tree) taps_columns
ledger_taps = select_taps_is ledger_schema ledger_places.taps ledger_has.has_taps

pub ledger_fixes : IsQuery ledger_schema select_fixes (fixes_query fixes_tree) fixes_columns
ledger_fixes = select_fixes_is ledger_schema ledger_places.fixes ledger_has.has_fixes

pub ledger_postings : IsQuery ledger_schema select_postings (postings_query postings_tree) postings_names
ledger_postings = select_postings_is ledger_schema ledger_places.postings ledger_has.has_postings

pub ledger_shares : IsQuery ledger_schema select_shares (shares_query postings_tree shares_tree) shares_names
ledger_shares = select_shares_is ledger_schema ledger_places.postings ledger_places.shares ledger_has.has_postings ledger_has.has_shares

-- ---- in another order, beside a table of others whose rows go with the posting that they refer to

other_meta : IsQuery other_schema select_meta (meta_query 10) meta_names
other_meta = select_meta_is other_schema other_places.meta other_has.has_meta

other_shares : IsQuery other_schema select_shares (shares_query 5 8) shares_names
other_shares = select_shares_is other_schema other_places.postings other_places.shares other_has.has_postings other_has.has_shares
