use Rattle.std.proofs.Common.{◌≤◌, refl, arith}
use Rattle.std.specs.FinMap as map
use Rattle.dots.specs.Values.{Dot}
use Rattle.member_orset.specs.Members.{Holding}
use Rattle.member_orset.specs.Reads.{cell_read}
use Rattle.replica.proofs.Found.{found_now, none_left, none_yet}
use Rattle.replica.proofs.foreign.has_strange_member.Goals as goal

pub loop-dot-preserved : goal.loop-dot-preserved
loop-dot-preserved c =
    none_yet (λ (e : Dot × Holding). c.args.queues ≤ e.1.0.queue) (c.in-Some._dot, cell_read c.in-Some.cell) c.loop-dot._dot-iterator c.next.new.self (map.entries c.args.members.now.live)
    c.in-Some.ensures.steps (λ strange. omega arith) c.loop-dot.invariant

pub returns-then-cell-queues : goal.returns-then-cell-queues
returns-then-cell-queues c = (
  λ _. found_now (λ (e : Dot × Holding). c.args.queues ≤ e.1.0.queue) (c.in-Some._dot, cell_read c.in-Some.cell) c.loop-dot._dot-iterator c.next.new.self (map.entries c.args.members.now.live)
      c.in-Some.ensures.steps c.if-cell-queues.true c.loop-dot.invariant,
  λ _. refl,
)

pub returns : goal.returns
returns c = (
  λ h. absurd (cc h),
  λ a. absurd (none_left (λ (e : Dot × Holding). c.args.queues ≤ e.1.0.queue) c.loop-dot._dot-iterator (map.entries c.args.members.now.live) c.in-None.ensures.steps.0 c.loop-dot.invariant a),
)
