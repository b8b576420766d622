use Rattle.std.proofs.Common.{inl, inr, arith}
use Rattle.std.proofs.lemmas.Bool.{cases_lt}
use Rattle.live_cells.proofs.Pieces.{dots_ahead}
use Rattle.member_orset.proofs.site_walk.SiteWalk.live_at.Goals as goal

pub returns-then-not-is_passed-clause-before : goal.returns-then-not-is_passed-clause-before
returns-then-not-is_passed-clause-before c =
    let walk = c.args.self.now in
    dots_ahead walk.from c.args.dot.site c.args.dot.count walk.dots.list.now walk.live c.requires.0 c.requires.1 walk.live_before

pub overflow_add-live : goal.overflow_add-live
overflow_add-live c =
    let within = c.is_passed.ensures.within c.if-not-is_passed.false in
    let limit = c.is_passed.ensures.limit in
    omega arith

pub overflow_add-result : goal.overflow_add-result
overflow_add-result c =
    let within = c.is_passed.ensures.within c.if-not-is_passed.false in
    let limit = c.is_passed.ensures.limit in
    omega arith

pub returns-then-not-is_passed-2-clause-before : goal.returns-then-not-is_passed-2-clause-before
returns-then-not-is_passed-2-clause-before c k e lo hi =
    let walk = c.args.self.now in
    elim (cases_lt k walk.live) [
      | inl l ↦ dots_ahead walk.from c.args.dot.site c.args.dot.count walk.dots.list.now walk.live c.requires.0 c.requires.1 walk.live_before k e lo l
      | inr m ↦ c.is_passed.ensures.here c.if-not-is_passed.false k e m hi
    ]
