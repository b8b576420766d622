use Rattle.std.proofs.Common.{◌+◌, inl, inr, length}
use Rattle.sqlite.specs.Held.{state}
use Rattle.site_store.proofs.GroupLemmas.{all_at, all_committed, all_of_steps, holds_committed, lists_at, spared_same, spared_then, steps_of_all}
use Rattle.site_store.proofs.WriteLemmas.{holds_same}
use Rattle.site_store.proofs.group.append_all.Goals as goal

pub returns-clause-added : goal.returns-clause-added
returns-clause-added g c clean first list holds place =
    let clean_each = c.commit.ensures.clean clean in
    let begun = c.in_ok-begin.ensures.begun (c.append_each.ensures.clean clean_each) in
    let there = holds_same (state g.S.Store c.args.conn.now) (state g.S.Store c.begin.new.conn) first list begun.0 holds in
    let added = c.in_ok-append_each.ensures.added clean_each first list there place begun.1.mode begun.1.is_open in
    holds_committed (state g.S.Store c.append_each.new.conn) (state g.S.Store c.commit.new.conn) first _ (c.in_ok-commit.ensures.done clean) added.0

pub returns-clause-idle : goal.returns-clause-idle
returns-clause-idle g c clean first list holds place = (c.in_ok-commit.ensures.done clean).idle

pub returns-clause-spared : goal.returns-clause-spared
returns-clause-spared g c clean first kept list holds place =
    let clean_each = c.commit.ensures.clean clean in
    let clean_begun = c.append_each.ensures.clean clean_each in
    let begun = c.in_ok-begin.ensures.begun clean_begun in
    let old = state g.S.Store c.args.conn.now in
    let mid = state g.S.Store c.begin.new.conn in
    let new = state g.S.Store c.append_each.new.conn in
    let there = holds_same old mid (first + length kept) list begun.0 (steps_of_all old first kept list holds) in
    let added = c.in_ok-append_each.ensures.added clean_each (first + length kept) list there place begun.1.mode begun.1.is_open in
    let spared = spared_then old mid new (spared_same old mid begun.0) (c.in_ok-append_each.ensures.spared clean_each (first + length kept) list there place begun.1.mode begun.1.is_open) in
    all_committed new (state g.S.Store c.commit.new.conn) first kept _ (c.in_ok-commit.ensures.done clean) (all_of_steps old new first kept list _ holds added.0 spared)

pub returns-clause-crash : goal.returns-clause-crash
returns-clause-crash g c clean first list holds place db may =
    let clean_each = c.commit.ensures.clean clean in
    let clean_begun = c.append_each.ensures.clean clean_each in
    let begun = c.in_ok-begin.ensures.begun clean_begun in
    let there = holds_same (state g.S.Store c.args.conn.now) (state g.S.Store c.begin.new.conn) first list begun.0 holds in
    let added = c.in_ok-append_each.ensures.added clean_each first list there place begun.1.mode begun.1.is_open in
    elim (c.commit.ensures.crash clean db may) [
      | inl p ↦ inl (c.begin.ensures.crash clean_begun db (c.append_each.ensures.crash clean_each first list there place begun.1.mode begun.1.is_open db p))
      | inr same ↦ inr (lists_at (state g.S.Store c.append_each.new.conn) db first _ added.0 same)
    ]

pub returns-in_err-commit-clause-crash : goal.returns-in_err-commit-clause-crash
returns-in_err-commit-clause-crash g c clean first list holds place db may =
    let clean_each = c.commit.ensures.clean clean in
    let clean_begun = c.append_each.ensures.clean clean_each in
    let begun = c.in_ok-begin.ensures.begun clean_begun in
    let there = holds_same (state g.S.Store c.args.conn.now) (state g.S.Store c.begin.new.conn) first list begun.0 holds in
    let added = c.in_ok-append_each.ensures.added clean_each first list there place begun.1.mode begun.1.is_open in
    elim (c.commit.ensures.crash clean db may) [
      | inl p ↦ inl (c.begin.ensures.crash clean_begun db (c.append_each.ensures.crash clean_each first list there place begun.1.mode begun.1.is_open db p))
      | inr same ↦ inr (lists_at (state g.S.Store c.append_each.new.conn) db first _ added.0 same)
    ]

pub returns-clause-spared_crash : goal.returns-clause-spared_crash
returns-clause-spared_crash g c clean first kept list holds place db may =
    let clean_each = c.commit.ensures.clean clean in
    let clean_begun = c.append_each.ensures.clean clean_each in
    let begun = c.in_ok-begin.ensures.begun clean_begun in
    let old = state g.S.Store c.args.conn.now in
    let mid = state g.S.Store c.begin.new.conn in
    let new = state g.S.Store c.append_each.new.conn in
    let there = holds_same old mid (first + length kept) list begun.0 (steps_of_all old first kept list holds) in
    let added = c.in_ok-append_each.ensures.added clean_each (first + length kept) list there place begun.1.mode begun.1.is_open in
    let spared = spared_then old mid new (spared_same old mid begun.0) (c.in_ok-append_each.ensures.spared clean_each (first + length kept) list there place begun.1.mode begun.1.is_open) in
    let all = all_of_steps old new first kept list _ holds added.0 spared in
    elim (c.commit.ensures.crash clean db may) [
      | inl p ↦ inl (c.begin.ensures.crash clean_begun db (c.append_each.ensures.crash clean_each (first + length kept) list there place begun.1.mode begun.1.is_open db p))
      | inr same ↦ inr (all_at new db first kept _ all same)
    ]

pub returns-in_err-commit-clause-spared_crash : goal.returns-in_err-commit-clause-spared_crash
returns-in_err-commit-clause-spared_crash g c clean first kept list holds place db may =
    let clean_each = c.commit.ensures.clean clean in
    let clean_begun = c.append_each.ensures.clean clean_each in
    let begun = c.in_ok-begin.ensures.begun clean_begun in
    let old = state g.S.Store c.args.conn.now in
    let mid = state g.S.Store c.begin.new.conn in
    let new = state g.S.Store c.append_each.new.conn in
    let there = holds_same old mid (first + length kept) list begun.0 (steps_of_all old first kept list holds) in
    let added = c.in_ok-append_each.ensures.added clean_each (first + length kept) list there place begun.1.mode begun.1.is_open in
    let spared = spared_then old mid new (spared_same old mid begun.0) (c.in_ok-append_each.ensures.spared clean_each (first + length kept) list there place begun.1.mode begun.1.is_open) in
    let all = all_of_steps old new first kept list _ holds added.0 spared in
    elim (c.commit.ensures.crash clean db may) [
      | inl p ↦ inl (c.begin.ensures.crash clean_begun db (c.append_each.ensures.crash clean_each (first + length kept) list there place begun.1.mode begun.1.is_open db p))
      | inr same ↦ inr (all_at new db first kept _ all same)
    ]

pub returns-in_err-append_each-clause-crash : goal.returns-in_err-append_each-clause-crash
returns-in_err-append_each-clause-crash g c clean first list holds place db may =
    let clean_begun = c.append_each.ensures.clean clean in
    let begun = c.in_ok-begin.ensures.begun clean_begun in
    let there = holds_same (state g.S.Store c.args.conn.now) (state g.S.Store c.begin.new.conn) first list begun.0 holds in
    inl (c.begin.ensures.crash clean_begun db (c.append_each.ensures.crash clean first list there place begun.1.mode begun.1.is_open db may))

pub returns-in_err-append_each-clause-spared_crash : goal.returns-in_err-append_each-clause-spared_crash
returns-in_err-append_each-clause-spared_crash g c clean first kept list holds place db may =
    let clean_begun = c.append_each.ensures.clean clean in
    let begun = c.in_ok-begin.ensures.begun clean_begun in
    let old = state g.S.Store c.args.conn.now in
    let there = holds_same old (state g.S.Store c.begin.new.conn) (first + length kept) list begun.0 (steps_of_all old first kept list holds) in
    inl (c.begin.ensures.crash clean_begun db (c.append_each.ensures.crash clean (first + length kept) list there place begun.1.mode begun.1.is_open db may))
