use Rattle.std.proofs.Common.{ap, refl, sym, ◌∙◌, arith}
use Rattle.std.specs.FinMap as map
use Rattle.dots.specs.Orders.{dot_cmp}
use Rattle.member_orset.specs.Members.{Holding}
use Rattle.member_orset.specs.Reads.{cell_read}
use Rattle.replica.proofs.WrittenDots.{len_more, live_written, none_written, rising_few, written_before}
use Rattle.replica.proofs.changes.write_all.Goals as goal
use Rattle.replica.proofs.changes.write_all.Goals.{in-Some+in_ok-cell, in_default}

pub loop-dot-init : goal.loop-dot-init
loop-dot-init c = record {
  known = refl;
  live = λ q. ap (λ m. map.get m q) c.requires.empty ∙ map.get-empty dot_cmp q;
  few = let e = ap map.len c.requires.empty ∙ map.len-empty dot_cmp Holding in omega (arith, e);
}

pub cell-requires-clause-greater : goal.cell-requires-clause-greater
cell-requires-clause-greater c =
    written_before c.args.members.now c.args.fields.now c.args.dots.now c.loop-dot.dot-index c.dot-item.result c.loop-dot.builder.live c.requires.rise c.loop-dot-test.true c.dot-item.is c.loop-dot.invariant.live

pub cell-requires-clause-room : goal.cell-requires-clause-room
cell-requires-clause-room c =
    let few = rising_few c.args.members.now c.args.dots.now c.requires.rise c.requires.live in
    let most = c.live.ensures.limits.cells in
    omega (arith, few, most, c.loop-dot.invariant.few)

pub loop-dot-preserved : goal.loop-dot-preserved
loop-dot-preserved c = elim c.match-live.branch [
  | in-Some+in_ok-cell w ↦
      let h = cell_read w.in-Some.cell in
      let given = w.in_ok-cell.ensures.ok in
      let is = ap (λ b. b.live) w.builder-is ∙ given in
      record {
        known = ap (λ b. b.known) w.builder-is ∙ w.in_ok-cell.ensures.known ∙ c.loop-dot.invariant.known;
        live = λ q. ap (λ m. map.get m q) is
            ∙ live_written c.args.members.now c.args.fields.now c.args.dots.now c.loop-dot.dot-index c.dot-item.result h c.loop-dot.builder.live c.loop-dot-test.true c.dot-item.is c.loop-dot.invariant.live (sym w.in-Some.ensures.value) q;
        few = let few = len_more c.loop-dot.builder.live c.dot-item.result (h.0, c.args.fields.now) c.loop-dot.dot-index c.loop-dot.invariant.few in
            let e = ap map.len is in omega (arith, few, e);
      }
  | in_default w ↦
      let is = ap (λ b. b.live) w.builder-is in
      record {
        known = ap (λ b. b.known) w.builder-is ∙ c.loop-dot.invariant.known;
        live = λ q. ap (λ m. map.get m q) is
            ∙ none_written c.args.members.now c.args.fields.now c.args.dots.now c.loop-dot.dot-index c.dot-item.result c.loop-dot.builder.live c.loop-dot-test.true c.dot-item.is c.loop-dot.invariant.live (sym w.in_default.ensures.value) q;
        few = let e = ap map.len is in omega (arith, e, c.loop-dot.invariant.few);
      }
]
