use Rattle.std.proofs.Common.{arith}
use Rattle.site_totals.proofs.JoinedRows.{joined_lengths, length_joined_rows}
use Rattle.site_totals.proofs.joining.count_missing.Goals as goal

pub overflow_sub-result : goal.overflow_sub-result
overflow_sub-result c = let least = joined_lengths c.args.rows.now c.args.others.now in omega (arith, least.0, c.joined_count.ensures)

-- few others are searched for
pub returns-then-others-le-FEW_ROWS : goal.returns-then-others-le-FEW_ROWS
returns-then-others-le-FEW_ROWS c =
    let more = length_joined_rows c.args.rows.now c.args.others.now c.requires.rising c.requires.others_rising in
    let most = joined_lengths c.args.rows.now c.args.others.now in
    record {
      value = c.searched_count.ensures;
      longer = omega (arith, more, c.searched_count.ensures);
      few = omega (arith, most.1, more, c.searched_count.ensures);
    }

-- the join is longer by what is missing
pub returns : goal.returns
returns c =
    let more = length_joined_rows c.args.rows.now c.args.others.now c.requires.rising c.requires.others_rising in
    let most = joined_lengths c.args.rows.now c.args.others.now in
    record {
      value = omega (arith, more, c.joined_count.ensures);
      longer = omega (arith, more, c.joined_count.ensures);
      few = omega (arith, most.1, more, c.joined_count.ensures);
    }
