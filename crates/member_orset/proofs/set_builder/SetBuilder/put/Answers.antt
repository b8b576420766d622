use Rattle.std.proofs.Common.{◌≡◌, ◌≤◌, Result, Ok, Err, sym, ap, subst, ◌∙◌, arith}
use Rattle.std.specs.Prelude.{IsSome, OnErr, OnOk}
use Rattle.std.specs.FinMap as map
use Rattle.std.specs.FinSet as set
use Rattle.std.specs.declared.cmp.Ordering.TheVariants.{Less}
use Rattle.dots.specs.Orders.{dot_cmp}
use Rattle.dots.specs.Values.{Dot}
use Rattle.dots.specs.declared.limits.TheConstants.{MOST_LIVE}
use Rattle.live_cells.specs.Holdings.{Holding}
use Rattle.member_orset.specs.Members.{AreKept, Members}
use Rattle.member_orset.proofs.Asserting.{held_inserted, len_one_more, not_live_below}
use Rattle.member_orset.proofs.set_builder.SetBuilder.put.Goals as goal

-- live dots are kept, whether one more came or none
kept_either : {T E : Type 0} (r : Result T E) (known : set.FinSet dot_cmp) (live more after : map.FinMap dot_cmp Holding)
    → OnOk r (after ≡ more) → OnErr r (after ≡ live) → AreKept known live → AreKept known more → AreKept known after
kept_either (Ok x) known live more after ok err before now = subst (AreKept known) (sym ok) now
kept_either (Err e) known live more after ok err before now = subst (AreKept known) (sym err) before

pub invariant_of-self : goal.invariant_of-self
invariant_of-self c =
    let b = c.self.inside in
    let d = c.args.dot in
    let x : Holding = (c.args.member, c.args.fields) in
    let old : Members = c.args.self.now in
    let live : b.cells.live ≡ old.live = ap (λ (s : Members). s.live) c.self.view_is in
    let greater : (q : Dot) → IsSome (map.get b.cells.live q) → dot_cmp q d ≡ Less = λ q h. c.requires.greater q (subst (λ l. IsSome (map.get l q)) live h) in
    let one_more = len_one_more b.cells.live d x (not_live_below b.cells.live d greater) in
    let few : map.len (map.insert b.cells.live d x) ≤ MOST_LIVE = let room = c.requires.room in let count = ap map.len live in omega arith in
    let there = ap (λ (s : Members). set.contains s.known d) c.self.view_is ∙ c.requires.in_context in
    kept_either c.put.result b.context.dots b.cells.live (map.insert b.cells.live d x) c.put.new.self.live c.put.ensures.ok c.put.ensures.err c.self.invariant
    (held_inserted b.context.dots b.cells.live d x there c.requires.field few c.self.invariant)
