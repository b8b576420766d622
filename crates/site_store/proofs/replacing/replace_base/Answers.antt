use Rattle.std.proofs.Common.{◌+◌, ◌++◌, ◌∷◌, [], List, inl, inr, length, ap, arith, subst, sym, ◌∙◌}
use Rattle.sqlite.specs.Effect.{Database}
use Rattle.sqlite.specs.Held.{state}
use Rattle.sqlite.specs.Order.{Row}
use Rattle.site_store.specs.Steps.{Lists}
use Rattle.site_store.proofs.GroupLemmas.{all_at, all_committed, all_same_now, holds_committed, lists_at, steps_of_all}
use Rattle.site_store.proofs.KeepingLemmas.{base_alone}
use Rattle.site_store.proofs.WriteLemmas.{holds_same}
use Rattle.site_store.proofs.replacing.replace_base.Goals as goal

pub returns-clause-replaced : goal.returns-clause-replaced
returns-clause-replaced g c clean first list holds _ =
    let clean_put = c.commit.ensures.clean clean in
    let clean_cleared = c.append.ensures.clean clean_put in
    let clean_begun = c.clear_steps.ensures.clean clean_cleared in
    let begun = c.in_ok-begin.ensures.begun clean_begun in
    let old = state g.S.Store c.args.conn.now in
    let mid = state g.S.Store c.begin.new.conn in
    let there = holds_same old mid first list begun.0 holds in
    let cleared = c.in_ok-clear_steps.ensures.cleared clean_cleared begun.1.mode first list there c.args.at in
    let put = c.in_ok-append.ensures.added clean_put c.args.at [] cleared.1 (omega arith) in
    holds_committed (state g.S.Store c.append.new.conn) (state g.S.Store c.commit.new.conn) c.args.at (c.args.base.now ∷ []) (c.in_ok-commit.ensures.done clean) put

pub returns-clause-idle : goal.returns-clause-idle
returns-clause-idle g c clean first list holds _ = (c.in_ok-commit.ensures.done clean).idle

pub returns-clause-moved : goal.returns-clause-moved
returns-clause-moved g c clean first kept list holds place _ =
    let clean_put = c.commit.ensures.clean clean in
    let clean_cleared = c.append.ensures.clean clean_put in
    let clean_begun = c.clear_steps.ensures.clean clean_cleared in
    let begun = c.in_ok-begin.ensures.begun clean_begun in
    let old = state g.S.Store c.args.conn.now in
    let mid = state g.S.Store c.begin.new.conn in
    let steps = steps_of_all old first kept list holds in
    let there = holds_same old mid (first + length kept) list begun.0 steps in
    let cleared = c.in_ok-clear_steps.ensures.cleared clean_cleared begun.1.mode (first + length kept) list there c.args.at in
    let put = c.in_ok-append.ensures.added clean_put c.args.at [] cleared.1 (omega arith) in
    let moved = c.in_ok-clear_steps.ensures.kept clean_cleared begun.1.mode first kept list (all_same_now old mid first kept list begun.0 holds) in
    let spared = c.in_ok-append.ensures.spared clean_put cleared.1.schema in
    let new = state g.S.Store c.append.new.conn in
    let all = base_alone new first c.args.at kept list c.args.base.now (spared.schema ∙ moved.0) (subst (λ (rows : List Row). Lists rows first (kept ++ list)) (sym spared.kept) moved.1) put place in
    all_committed new (state g.S.Store c.commit.new.conn) first (kept ++ list) (c.args.base.now ∷ []) (c.in_ok-commit.ensures.done clean) all

pub returns-clause-crash : goal.returns-clause-crash
returns-clause-crash g c clean first list holds db may =
    let clean_put = c.commit.ensures.clean clean in
    let clean_cleared = c.append.ensures.clean clean_put in
    let clean_begun = c.clear_steps.ensures.clean clean_cleared in
    let begun = c.in_ok-begin.ensures.begun clean_begun in
    let old = state g.S.Store c.args.conn.now in
    let mid = state g.S.Store c.begin.new.conn in
    let there = holds_same old mid first list begun.0 holds in
    let cleared = c.in_ok-clear_steps.ensures.cleared clean_cleared begun.1.mode first list there c.args.at in
    let put = c.in_ok-append.ensures.added clean_put c.args.at [] cleared.1 (omega arith) in
    elim (c.commit.ensures.crash clean db may) [
      | inl p ↦ inl (c.begin.ensures.crash clean_begun db (c.clear_steps.ensures.crash clean_cleared begun.1.mode first list there db ((c.append.ensures.inside clean_put c.args.at [] cleared.1 cleared.0.mode).1 db p)))
      | inr same ↦ inr (lists_at (state g.S.Store c.append.new.conn) db c.args.at (c.args.base.now ∷ []) put same)
    ]

pub returns-in_err-commit-clause-crash : goal.returns-in_err-commit-clause-crash
returns-in_err-commit-clause-crash g c clean first list holds db may =
    let clean_put = c.commit.ensures.clean clean in
    let clean_cleared = c.append.ensures.clean clean_put in
    let clean_begun = c.clear_steps.ensures.clean clean_cleared in
    let begun = c.in_ok-begin.ensures.begun clean_begun in
    let old = state g.S.Store c.args.conn.now in
    let mid = state g.S.Store c.begin.new.conn in
    let there = holds_same old mid first list begun.0 holds in
    let cleared = c.in_ok-clear_steps.ensures.cleared clean_cleared begun.1.mode first list there c.args.at in
    let put = c.in_ok-append.ensures.added clean_put c.args.at [] cleared.1 (omega arith) in
    elim (c.commit.ensures.crash clean db may) [
      | inl p ↦ inl (c.begin.ensures.crash clean_begun db (c.clear_steps.ensures.crash clean_cleared begun.1.mode first list there db ((c.append.ensures.inside clean_put c.args.at [] cleared.1 cleared.0.mode).1 db p)))
      | inr same ↦ inr (lists_at (state g.S.Store c.append.new.conn) db c.args.at (c.args.base.now ∷ []) put same)
    ]

pub returns-clause-moved_crash : goal.returns-clause-moved_crash
returns-clause-moved_crash g c clean first kept list holds place db may =
    let clean_put = c.commit.ensures.clean clean in
    let clean_cleared = c.append.ensures.clean clean_put in
    let clean_begun = c.clear_steps.ensures.clean clean_cleared in
    let begun = c.in_ok-begin.ensures.begun clean_begun in
    let old = state g.S.Store c.args.conn.now in
    let mid = state g.S.Store c.begin.new.conn in
    let steps = steps_of_all old first kept list holds in
    let there = holds_same old mid (first + length kept) list begun.0 steps in
    let cleared = c.in_ok-clear_steps.ensures.cleared clean_cleared begun.1.mode (first + length kept) list there c.args.at in
    let put = c.in_ok-append.ensures.added clean_put c.args.at [] cleared.1 (omega arith) in
    let moved = c.in_ok-clear_steps.ensures.kept clean_cleared begun.1.mode first kept list (all_same_now old mid first kept list begun.0 holds) in
    let spared = c.in_ok-append.ensures.spared clean_put cleared.1.schema in
    let new = state g.S.Store c.append.new.conn in
    let all = base_alone new first c.args.at kept list c.args.base.now (spared.schema ∙ moved.0) (subst (λ (rows : List Row). Lists rows first (kept ++ list)) (sym spared.kept) moved.1) put place in
    elim (c.commit.ensures.crash clean db may) [
      | inl p ↦ inl (c.begin.ensures.crash clean_begun db (c.clear_steps.ensures.crash clean_cleared begun.1.mode (first + length kept) list there db ((c.append.ensures.inside clean_put c.args.at [] cleared.1 cleared.0.mode).1 db p)))
      | inr same ↦ inr (all_at new db first (kept ++ list) (c.args.base.now ∷ []) all same)
    ]

pub returns-in_err-commit-clause-moved_crash : goal.returns-in_err-commit-clause-moved_crash
returns-in_err-commit-clause-moved_crash g c clean first kept list holds place db may =
    let clean_put = c.commit.ensures.clean clean in
    let clean_cleared = c.append.ensures.clean clean_put in
    let clean_begun = c.clear_steps.ensures.clean clean_cleared in
    let begun = c.in_ok-begin.ensures.begun clean_begun in
    let old = state g.S.Store c.args.conn.now in
    let mid = state g.S.Store c.begin.new.conn in
    let steps = steps_of_all old first kept list holds in
    let there = holds_same old mid (first + length kept) list begun.0 steps in
    let cleared = c.in_ok-clear_steps.ensures.cleared clean_cleared begun.1.mode (first + length kept) list there c.args.at in
    let put = c.in_ok-append.ensures.added clean_put c.args.at [] cleared.1 (omega arith) in
    let moved = c.in_ok-clear_steps.ensures.kept clean_cleared begun.1.mode first kept list (all_same_now old mid first kept list begun.0 holds) in
    let spared = c.in_ok-append.ensures.spared clean_put cleared.1.schema in
    let new = state g.S.Store c.append.new.conn in
    let all = base_alone new first c.args.at kept list c.args.base.now (spared.schema ∙ moved.0) (subst (λ (rows : List Row). Lists rows first (kept ++ list)) (sym spared.kept) moved.1) put place in
    elim (c.commit.ensures.crash clean db may) [
      | inl p ↦ inl (c.begin.ensures.crash clean_begun db (c.clear_steps.ensures.crash clean_cleared begun.1.mode (first + length kept) list there db ((c.append.ensures.inside clean_put c.args.at [] cleared.1 cleared.0.mode).1 db p)))
      | inr same ↦ inr (all_at new db first (kept ++ list) (c.args.base.now ∷ []) all same)
    ]

pub returns-in_err-append-clause-crash : goal.returns-in_err-append-clause-crash
returns-in_err-append-clause-crash g c clean first list holds db may =
    let clean_cleared = c.append.ensures.clean clean in
    let clean_begun = c.clear_steps.ensures.clean clean_cleared in
    let begun = c.in_ok-begin.ensures.begun clean_begun in
    let old = state g.S.Store c.args.conn.now in
    let there = holds_same old (state g.S.Store c.begin.new.conn) first list begun.0 holds in
    let cleared = c.in_ok-clear_steps.ensures.cleared clean_cleared begun.1.mode first list there c.args.at in
    inl (c.begin.ensures.crash clean_begun db (c.clear_steps.ensures.crash clean_cleared begun.1.mode first list there db ((c.append.ensures.inside clean c.args.at [] cleared.1 cleared.0.mode).1 db may)))

pub returns-in_err-append-clause-moved_crash : goal.returns-in_err-append-clause-moved_crash
returns-in_err-append-clause-moved_crash g c clean first kept list holds place db may =
    let clean_cleared = c.append.ensures.clean clean in
    let clean_begun = c.clear_steps.ensures.clean clean_cleared in
    let begun = c.in_ok-begin.ensures.begun clean_begun in
    let old = state g.S.Store c.args.conn.now in
    let there = holds_same old (state g.S.Store c.begin.new.conn) (first + length kept) list begun.0 (steps_of_all old first kept list holds) in
    let cleared = c.in_ok-clear_steps.ensures.cleared clean_cleared begun.1.mode (first + length kept) list there c.args.at in
    inl (c.begin.ensures.crash clean_begun db (c.clear_steps.ensures.crash clean_cleared begun.1.mode (first + length kept) list there db ((c.append.ensures.inside clean c.args.at [] cleared.1 cleared.0.mode).1 db may)))

pub returns-in_err-clear_steps-clause-crash : goal.returns-in_err-clear_steps-clause-crash
returns-in_err-clear_steps-clause-crash g c clean first list holds db may =
    let clean_begun = c.clear_steps.ensures.clean clean in
    let begun = c.in_ok-begin.ensures.begun clean_begun in
    let there = holds_same (state g.S.Store c.args.conn.now) (state g.S.Store c.begin.new.conn) first list begun.0 holds in
    inl (c.begin.ensures.crash clean_begun db (c.clear_steps.ensures.crash clean begun.1.mode first list there db may))

pub returns-in_err-clear_steps-clause-moved_crash : goal.returns-in_err-clear_steps-clause-moved_crash
returns-in_err-clear_steps-clause-moved_crash g c clean first kept list holds place db may =
    let clean_begun = c.clear_steps.ensures.clean clean in
    let begun = c.in_ok-begin.ensures.begun clean_begun in
    let old = state g.S.Store c.args.conn.now in
    let there = holds_same old (state g.S.Store c.begin.new.conn) (first + length kept) list begun.0 (steps_of_all old first kept list holds) in
    inl (c.begin.ensures.crash clean_begun db (c.clear_steps.ensures.crash clean begun.1.mode (first + length kept) list there db may))

pub returns-clause-schema : goal.returns-clause-schema
returns-clause-schema g c clean first list holds _ =
    let clean_put = c.commit.ensures.clean clean in
    let clean_cleared = c.append.ensures.clean clean_put in
    let clean_begun = c.clear_steps.ensures.clean clean_cleared in
    let begun = c.in_ok-begin.ensures.begun clean_begun in
    let there = holds_same (state g.S.Store c.args.conn.now) (state g.S.Store c.begin.new.conn) first list begun.0 holds in
    let cleared = c.in_ok-clear_steps.ensures.cleared clean_cleared begun.1.mode first list there c.args.at in
    let put = c.in_ok-append.ensures.spared clean_put cleared.1.schema in
    ap (λ (d : Database). d.schema) (c.in_ok-commit.ensures.done clean).now ∙ put.schema ∙ c.in_ok-clear_steps.ensures.schema clean_cleared begun.1.mode first list there ∙ ap (λ (d : Database). d.schema) begun.0
