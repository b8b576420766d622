-- What a set has seen below given dots, and a set that is being made of it.
use Rattle.std.proofs.Common.{◌≡◌, ◌<◌, true, not, ◌&&◌, ◌||◌, List, [], ◌∷◌, is_some, true≢false, sym, ap, ◌∙◌, arith}
use Rattle.std.specs.Prelude.{IsSome}
use Rattle.std.specs.List.{list_any}
use Rattle.std.specs.FinMap as map
use Rattle.std.specs.FinSet as set
use Rattle.std.specs.declared.cmp.Ordering.TheVariants.{Less}
use Rattle.dots.specs.declared.limits.TheConstants.{MOST_LIVE}
use Rattle.dots.specs.Values.{Dot}
use Rattle.dots.specs.Orders.{dot_cmp}
use Rattle.dots.specs.DotSets.{is_older}
use Rattle.operations.specs.Knowledge.{is_dot}
use Rattle.dots.proofs.DotOrder.{dots_total}
use Rattle.member_orset.specs.Members.{Holding, Members}
use Rattle.member_orset.specs.Reads.{dots_seen_below, seen_dots}
use Rattle.live_cells.proofs.DotTests.{same_itself}

-- the given dots are among those that are seen
pub given_seen : (s : Members) (given : List Dot) (q : Dot) → list_any (is_dot q) given ≡ true → set.contains (dots_seen_below s given) q ≡ true
unfolding seen_dots
given_seen s given q h =
    let older = set.retain s.known (λ dot. not (map.contains_key s.live dot) && is_older given dot) in
    set.contains-union dots_total (set.from_list given) older q ∙ ap (λ b. b || set.contains older q) (set.contains-from_list dots_total given q ∙ h)

-- a single given dot is among those that are seen
pub one_seen : (s : Members) (dot : Dot) → set.contains (dots_seen_below s (dot ∷ [])) dot ≡ true
one_seen s dot = given_seen s (dot ∷ []) dot (ap (λ b. b || list_any (is_dot dot) []) (same_itself dot))

-- where nothing is live, no dot comes before another
pub none_before : (live : map.FinMap dot_cmp Holding) (dot : Dot) → live ≡ map.empty → (q : Dot) → IsSome (map.get live q) → dot_cmp q dot ≡ Less
none_before live dot empty q h = absurd (true≢false (sym h ∙ ap (λ m. map.contains_key m q) empty ∙ ap is_some (map.get-empty dot_cmp q)))

-- if no dot is live, there is room for one
pub none_full : (live : map.FinMap dot_cmp Holding) → live ≡ map.empty → map.len live < MOST_LIVE
none_full live empty = let e = ap map.len empty ∙ map.len-empty dot_cmp Holding in omega (arith, e)
