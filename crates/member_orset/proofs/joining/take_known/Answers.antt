use Rattle.std.proofs.Common.{◌≡◌, ◌&&◌, Bool, true, false, not, None, is_some, refl, ap, ◌∙◌, arith}
use Rattle.std.specs.Prelude.{Option, if◌then◌else◌}
use Rattle.std.specs.FinMap as map
use Rattle.std.specs.FinSet as set
use Rattle.dots.specs.Values.{Dot}
use Rattle.dots.specs.Orders.{dot_cmp}
use Rattle.live_cells.specs.Holdings.{Holding}
use Rattle.member_orset.proofs.Taking.{all_left, known_there, new_left, none_left, unknown_apart}
use Rattle.member_orset.proofs.joining.take_known.Goals as goal

pub returns-then-are_unknown : goal.returns-then-are_unknown
returns-then-are_unknown c =
    let known = set.contains c.args.known.now.dots in
    all_left known c.args.cells.now c.args.others.now.live
    (unknown_apart known c.args.cells.now.live c.args.others.now.live c.placed.result.list.now c.placed.ensures.dots (c.are_unknown.ensures c.if-are_unknown.true) c.requires.heard) c.requires.heard c.requires.room

pub returns-then-are_known : goal.returns-then-are_known
returns-then-are_known c =
    let known = set.contains c.args.known.now.dots in
    let there = c.args.others.now.live in
    new_left known c.args.cells.now c.join_live.new.cells there c.new-none.result.live c.join_live.ensures.met c.join_live.ensures.few c.join_live.ensures.room c.requires.heard
    (none_left known there c.new-none.result.live c.new-none.ensures.live (known_there known there c.placed-2.result.list.now c.placed-2.ensures.dots (c.are_known.ensures c.if-are_known.true)))
    (let none = ap map.len c.new-none.ensures.live ∙ map.len-empty dot_cmp Holding in omega arith) c.requires.room

pub returns-else-are_known : goal.returns-else-are_known
returns-else-are_known c =
    let known = set.contains c.args.known.now.dots in
    new_left known c.args.cells.now c.join_live.new.cells c.args.others.now.live c.thin.new.self.live c.join_live.ensures.met c.join_live.ensures.few c.join_live.ensures.room c.requires.heard
    (λ q. c.thin.ensures.thinned.live q ∙ dies q (known q) (map.get c.args.others.now.live q)) c.thin.ensures.few c.requires.room
  where
    -- nothing is live in no set
    dies : (q : Dot) (b : Bool) (o : Option Holding) → (if (b && not (map.contains_key c.new-none.result.live q)) then None else o) ≡ (if b then None else o)
    dies q true o = ap (λ m. if (not (map.contains_key m q)) then None else o) c.new-none.ensures.live ∙ ap (λ x. if (not (is_some x)) then None else o) (map.get-empty dot_cmp q)
    dies q false o = refl
