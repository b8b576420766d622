use Rattle.std.proofs.Common.{refl}
use Rattle.std.specs.FinMap as map
use Rattle.dots.specs.Values.{Dot}
use Rattle.member_orset.specs.Members.{Holding}
use Rattle.member_orset.specs.Reads.{cell_read}
use Rattle.replica.specs.Taking.{HasFieldPast}
use Rattle.replica.proofs.Found.{found_now, none_left, none_yet}
use Rattle.replica.proofs.foreign.has_stamp_past.Goals as goal

pub loop-dot-preserved : goal.loop-dot-preserved
loop-dot-preserved c =
    none_yet (λ (e : Dot × Holding). HasFieldPast c.args.site c.args.last e.1.1) (c.in-Some._dot, cell_read c.in-Some.cell) c.loop-dot._dot-iterator c.next.new.self (map.entries c.args.members.now.live)
    c.in-Some.ensures.steps (λ past. absurd (let t = c.has_field_past.ensures.1 past in cc (t, c.if-has_field_past.false))) c.loop-dot.invariant

pub returns-then-has_field_past : goal.returns-then-has_field_past
returns-then-has_field_past c = (
  λ _. found_now (λ (e : Dot × Holding). HasFieldPast c.args.site c.args.last e.1.1) (c.in-Some._dot, cell_read c.in-Some.cell) c.loop-dot._dot-iterator c.next.new.self (map.entries c.args.members.now.live)
      c.in-Some.ensures.steps (c.has_field_past.ensures.0 c.if-has_field_past.true) c.loop-dot.invariant,
  λ _. refl,
)

pub returns : goal.returns
returns c = (
  λ h. absurd (cc h),
  λ a. absurd (none_left (λ (e : Dot × Holding). HasFieldPast c.args.site c.args.last e.1.1) c.loop-dot._dot-iterator (map.entries c.args.members.now.live) c.in-None.ensures.steps.0 c.loop-dot.invariant a),
)
