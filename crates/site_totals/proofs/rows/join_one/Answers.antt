use Rattle.std.proofs.Common.{◌≡◌, ℕ, ◌-◌, ◌<◌, ◌≤◌, cond, is_none, IsSome, Option, Some, None, refl, sym, ap, ◌∙◌, subst, arith, length}
use Rattle.std.specs.Vec.{vec_capacity, vec_len}
use Rattle.std.specs.FinMap as map
use Rattle.std.proofs.lemmas.Bool.{false≢true}
use Rattle.dots.specs.declared.call_totals.CallTotals.{CallTotals}
use Rattle.operations.specs.Totals.{key_cmp, greater}
use Rattle.operations.proofs.TotalsLaws.{joined_zero}
use Rattle.site_totals.specs.TotalLists.{IsKept, row_totals, entries_of}
use Rattle.site_totals.proofs.EntryLemmas.{joined_by_put, kept_by_put, missing_one, length_put}
use Rattle.site_totals.proofs.rows.join_one.Goals as goal
use Rattle.site_totals.proofs.rows.join_one.Goals.{In_ok-put, In_err-put}

-- two zeros change nothing
pub returns-then-is_zero-clause-ok : goal.returns-then-is_zero-clause-ok
returns-then-is_zero-clause-ok c = sym (joined_zero _ c.args.key c.args.totals (sym c.is_zero.ensures ∙ c.if-is_zero.true))

-- the greater of both is put at the key
items : (c : In_ok-put) → c.put.new.rows.items ≡ map.put key_cmp c.args.key (greater (row_totals c.args.rows.now.items c.args.key) c.args.totals) c.args.rows.now.items
items c = c.in_ok-put.ensures.ok ∙ ap (λ p. map.put key_cmp c.args.key p c.args.rows.now.items)
    (c.greater.ensures ∙ ap (λ p. greater p c.args.totals) (c.row_totals-had.ensures ∙ ap (λ rows. row_totals rows c.args.key) c.deref.ensures.value))

pub returns-clause-kept : goal.returns-clause-kept
returns-clause-kept c = subst IsKept (sym (items c)) (kept_by_put _ c.requires.kept _ _ (sym c.is_zero.ensures ∙ c.if-is_zero.false) c.requires.limits)

pub returns-clause-ok : goal.returns-clause-ok
returns-clause-ok c = ap entries_of (items c) ∙ joined_by_put _ c.requires.kept.rising _ _ (sym c.is_zero.ensures ∙ c.if-is_zero.false)

-- as much room is used as keys were missing
pub returns-clause-room : goal.returns-clause-room
returns-clause-room c =
    let missing = missing_one c.args.rows.now.items c.requires.kept.rising c.args.key c.args.totals (sym c.is_zero.ensures ∙ c.if-is_zero.false) in
    let longer = ap length (items c) ∙ length_put _ c.requires.kept.rising c.args.key (greater (row_totals c.args.rows.now.items c.args.key) c.args.totals) in
    omega (arith, missing, longer, c.put.new.rows.ok.0, c.args.rows.now.ok.0, c.in_ok-put.ensures.capacity)

-- memory is wanted only where the key is missing and there is no room
room_or_there : (o : Option CallTotals) (room : ℕ) → cond (is_none o) 1 0 ≤ room → (IsSome o → ⊥) → 0 < room
room_or_there None room h not_there = h
room_or_there (Some p) room h not_there = absurd (not_there refl)

pub returns-in_err-put-clause-succeeds : goal.returns-in_err-put-clause-succeeds
returns-in_err-put-clause-succeeds c fits =
    let missing = missing_one c.args.rows.now.items c.requires.kept.rising c.args.key c.args.totals (sym c.is_zero.ensures ∙ c.if-is_zero.false) in
    let room : 0 < vec_capacity c.args.rows.now - vec_len c.args.rows.now =
    room_or_there _ _ (subst (λ n. n ≤ vec_capacity c.args.rows.now - vec_len c.args.rows.now) missing fits) (λ there. false≢true (c.in_err-put.ensures.there there)) in
    absurd (false≢true (c.in_err-put.ensures.room (omega arith)))
