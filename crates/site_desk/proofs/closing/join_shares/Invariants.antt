use Rattle.std.specs.Prelude.{◌≡◌, ◌+◌, vec_len}
use Rattle.site_desk.specs.Passes.{shares_of}
use Rattle.site_desk.proofs.closing.join_shares.Given as goal

-- what was joined and what is left are all parts, and all that was counted
abbrev pub invariant-loop-pass : goal.invariant-loop-pass
invariant-loop-pass g l = (l.share.parts + vec_len l.passes ≡ vec_len l.fn.passes) × (l.share.amount + shares_of l.passes.items ≡ shares_of l.fn.passes.items) × (l.book.total ≡ l.fn.book.total)

abbrev pub decreases-loop-pass : goal.decreases-loop-pass
decreases-loop-pass g l = goal.left-loop-pass g l
