-- The rows of Unicode's table 3-7, each from the range of its first byte, as rules that the check tries.
use Rattle.definitions.proofs.Utf8Rows.{row_one, row_two, row_three_e0, row_three_e1, row_three_ed, row_three_ee, row_four_f0, row_four_f1, row_four_f4, row_none_80, row_none_f5}

pub ruleset table_rows = (row_one, row_two, row_three_e0, row_three_e1, row_three_ed, row_three_ee, row_four_f0, row_four_f1, row_four_f4, row_none_80, row_none_f5)
