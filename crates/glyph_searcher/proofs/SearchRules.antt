-- The laws by which a code point leads to a chain, by two names, as the proofs of `search_unicode` and `search` take them.
use Rattle.definitions.proofs.LookupLaws.{table_past, table_none, table_sum, chain_past, looks16, search_above, search_chain, search_table_lem}

pub ruleset table_leads = (table_past, table_none, table_sum, chain_past, looks16)

pub ruleset searches = (search_above, search_chain, search_table_lem)
