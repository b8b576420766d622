use Rattle.std.proofs.Common.{◌≡◌, ◌+◌, ◌-◌, ◌≤◌, ◌∷◌, Result, Ok, Err, drop, false, refl, sym, ap, subst, ◌∙◌, arith}
use Rattle.std.specs.Prelude.{IsOk, OnOk}
use Rattle.std.specs.Vec.{vec_capacity, vec_len}
use Rattle.std.proofs.lemmas.List.{drop_all}
use Rattle.general_lemmas.specs.SortedEntries.{IsRising}
use Rattle.dots.specs.CountedCalls.{is_zero}
use Rattle.operations.specs.Totals.{IsTotal, count_missing, join_of, key_cmp, single}
use Rattle.general_lemmas.proofs.Fronts.{open_at}
use Rattle.operations.proofs.TotalsLaws.{counted_not_zero, joined_assoc, joined_empty, single_limits}
use Rattle.site_totals.specs.TotalLists.{Row, entries_of}
use Rattle.site_totals.proofs.EntryLemmas.{entries_none, limits_at}
use Rattle.site_totals.proofs.FewRows.{front_joined, front_missing, rising_drop}
use Rattle.site_totals.proofs.few.absorb_searched.Goals as goal
use Rattle.site_totals.proofs.few.absorb_searched.Goals.{After-join_one}

made : {E P : Type 0} (r : Result (Unit {0}) E) → IsOk r → OnOk r P → P
made (Ok u) is h = h
made (Err e) is h = absurd (cc)

pub loop-row-init : goal.loop-row-init
loop-row-init c = record { kept = c.requires.kept; joins = refl; room = c.requires.room }

pub join_one-requires-clause-limits : goal.join_one-requires-clause-limits
join_one-requires-clause-limits c =
    let others = c.args.others.now in
    let x = c.row-item.result in
    single_limits x.0 x.1 (λ some. subst (λ (row : Row). IsTotal row.0 row.1) (sym c.row-item.is) (limits_at others c.requires.others_kept c.loop-row.row-index x c.loop-row-test.true))

-- the entry at hand has calls, and begins what is left
some : (c : After-join_one) → is_zero c.row-item.result.1 ≡ false
some c = counted_not_zero c.row-item.result.0 c.row-item.result.1
    (subst (λ (row : Row). IsTotal row.0 row.1) (sym c.row-item.is) (limits_at c.args.others.now c.requires.others_kept c.loop-row.row-index c.row-item.result c.loop-row-test.true))

begins : (c : After-join_one) → drop c.loop-row.row-index c.args.others.now ≡ c.row-item.result ∷ drop (c.loop-row.row-index + 1) c.args.others.now
begins c = open_at c.args.others.now c.loop-row.row-index c.row-item.result c.loop-row-test.true c.row-item.is

rises : (c : After-join_one) → IsRising key_cmp (c.row-item.result ∷ drop (c.loop-row.row-index + 1) c.args.others.now)
rises c = subst (IsRising key_cmp) (begins c) (rising_drop c.args.others.now c.loop-row.row-index c.requires.others_kept.rising)

-- what is missing of it and of those that follow is what was missing
left : (c : After-join_one)
    → count_missing (entries_of c.loop-row.rows.items) (single c.row-item.result.0 c.row-item.result.1)
    + count_missing (join_of (entries_of c.loop-row.rows.items) (single c.row-item.result.0 c.row-item.result.1)) (entries_of (drop (c.loop-row.row-index + 1) c.args.others.now))
    ≤ vec_capacity c.loop-row.rows - vec_len c.loop-row.rows
left c =
    let missing = front_missing (entries_of c.loop-row.rows.items) c.row-item.result (drop (c.loop-row.row-index + 1) c.args.others.now) (rises c) (some c) in
    let all = ap (λ rows. count_missing (entries_of c.loop-row.rows.items) (entries_of rows)) (begins c) in
    omega (arith, missing, all, c.loop-row.invariant.room)

-- the next entry is joined
done : (c : After-join_one) → entries_of c.join_one.new.rows.items ≡ join_of (entries_of c.loop-row.rows.items) (single c.row-item.result.0 c.row-item.result.1)
done c = made c.join_one.result (c.join_one.ensures.succeeds (let l = left c in omega arith)) c.join_one.ensures.ok

pub loop-row-preserved : goal.loop-row-preserved
loop-row-preserved c0 =
    let c = (goal.at.loop-row-preserved c0).After-join_one in
    let old = entries_of c.loop-row.rows.items in
    let x = c.row-item.result in
    let rest = drop (c.loop-row.row-index + 1) c.args.others.now in
    let less = left c in
    let same = ap (λ entries. count_missing entries (entries_of rest)) (done c) in
    record {
      kept = c.join_one.ensures.kept;
      joins =
          ap (λ entries. join_of entries (entries_of rest)) (done c)
          ∙ joined_assoc old (single x.0 x.1) (entries_of rest)
          ∙ ap (join_of old) (sym (front_joined x rest (rises c) (some c)) ∙ ap entries_of (sym (begins c)))
          ∙ c.loop-row.invariant.joins;
      room = omega (arith, less, same, c.join_one.ensures.room);
    }

pub returns-clause-joined : goal.returns-clause-joined
returns-clause-joined c =
    let rows = entries_of c.loop-row.rows.items in
    sym (joined_empty rows)
    ∙ ap (join_of rows) (sym entries_none)
    ∙ ap (λ left. join_of rows (entries_of left)) (sym (drop_all c.loop-row.row-index c.args.others.now c.loop-row-test.false))
    ∙ c.loop-row.invariant.joins
