use Rattle.std.proofs.Common.{refl}
use Rattle.std.proofs.lemmas.Bool.{not-false, not-true}
use Rattle.live_cells.specs.PlacedLists.{is_placed}
use Rattle.member_orset.proofs.SiteWalk.{all_given, all_known, none_known}
use Rattle.member_orset.proofs.site_walk.SiteWalk.piece.Goals as goal

pub returns-then-given : goal.returns-then-given
returns-then-given c known are =
    all_given known (is_placed c.args.self.now.dots.list.now) c.args.self.now.given.list.now c.args.self.now.from.site c.args.self.now.from.count c.args.self.now.last.count c.piece-given.result c.piece-given.ensures c.if-given.true

pub returns-then-not-known : goal.returns-then-not-known
returns-then-not-known c known are =
    none_known known (is_placed c.args.self.now.dots.list.now) c.args.self.now.given.list.now c.args.self.now.from.site c.args.self.now.from.count c.args.self.now.last.count c.piece-given.result c.piece-given.ensures c.if-given.false
    c.args.self.now.runs.list.now are c.known_piece-known.result c.known_piece-known.ensures (not-true _ c.if-not-known.true)

pub returns : goal.returns
returns c known are =
    all_known known (is_placed c.args.self.now.dots.list.now) c.args.self.now.given.list.now c.args.self.now.from.site c.args.self.now.from.count c.args.self.now.last.count c.piece-given.result c.piece-given.ensures c.if-given.false
    c.args.self.now.runs.list.now are c.known_piece-known.result c.known_piece-known.ensures c.live_piece-live.result _ (not-false _ c.if-not-known.false) c.live_piece-live.ensures refl refl
