use Rattle.std.proofs.Common.{◌≡◌, ℕ, ◌+◌, ◌<◌, ◌≤◌, List, [], ◌∷◌, ◌++◌, length, take, drop, append_assoc, append-nil, length-append, sym, ap, ◌∙◌, arith}
use Rattle.std.proofs.lemmas.List.{drop-set-lt, length-drop, length-set, length-take-le, take_all, take_more_set, nil_from_length}
use Rattle.site_totals.specs.TotalLists.{Row, joined_rows}
use Rattle.site_totals.proofs.JoinedRows.{joined_lengths}
use Rattle.site_totals.proofs.joining.merge.Goals as goal

-- there are as many entries left to write as places
left : (rows whole rest : List Row) (written : ℕ) → written ≤ length rows → take written rows ++ rest ≡ whole → written + length rest ≡ length whole
left rows whole rest written within is =
    let lengths = sym (length-append (take written rows) rest) ∙ ap length is in
    let taken = length-take-le written rows within in
    omega (arith, lengths, taken)

pub next_row-row-requires-clause-left : goal.next_row-row-requires-clause-left
next_row-row-requires-clause-left c =
    let rows = c.loop-written.rows in
    let own = drop c.loop-written.own rows in
    let theirs = drop c.loop-written.theirs c.args.others.now in
    let rest = left rows (joined_rows (drop c.args.spare c.args.rows.now) c.args.others.now) (joined_rows own theirs) c.loop-written.written (omega arith) c.loop-written.invariant.joins in
    let most = (joined_lengths own theirs).1 in
    omega (arith, rest, most, length-drop c.loop-written.own rows, length-drop c.loop-written.theirs c.args.others.now, c.requires.room)

pub loop-written-preserved : goal.loop-written-preserved
loop-written-preserved c =
    let rows = c.loop-written.rows in
    let w = c.loop-written.written in
    let row = c.next_row-row.result in
    let own = c.next_row-row.new.own in
    let theirs = drop c.next_row-row.new.theirs c.args.others.now in
    let next = c.next_row-row.ensures.next in
    let rest = left rows (joined_rows (drop c.args.spare c.args.rows.now) c.args.others.now) (joined_rows (drop c.loop-written.own rows) (drop c.loop-written.theirs c.args.others.now)) w (omega arith) c.loop-written.invariant.joins in
    let one = ap length next in
    let least = (joined_lengths (drop own rows) theirs).0 in
    let before : w < own = omega (arith, rest, one, least, length-drop own rows, c.requires.room) in
    record {
      ours = omega (arith, length-set {A = Row});
      others = omega arith;
      joins =
          (λ i. take_more_set rows w row (omega arith) i ++ joined_rows (drop-set-lt own rows w row before i) theirs)
          ∙ append_assoc (take w rows) (row ∷ []) (joined_rows (drop own rows) theirs)
          ∙ ap (λ rest. take w rows ++ rest) (sym next)
          ∙ c.loop-written.invariant.joins;
    }

-- all places are written
pub returns : goal.returns
returns c =
    let rows = c.loop-written.rows in
    let w = c.loop-written.written in
    let rest = joined_rows (drop c.loop-written.own rows) (drop c.loop-written.theirs c.args.others.now) in
    let lengths = left rows (joined_rows (drop c.args.spare c.args.rows.now) c.args.others.now) rest w (omega arith) c.loop-written.invariant.joins in
    let none : rest ≡ [] = nil_from_length rest (omega (arith, lengths, c.requires.room)) in
    sym (take_all w rows (omega arith)) ∙ sym (append-nil (take w rows)) ∙ ap (λ rest. take w rows ++ rest) (sym none) ∙ c.loop-written.invariant.joins
