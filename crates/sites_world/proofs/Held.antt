-- What is held in a world stands for knowledges of one history.
use Rattle.std.proofs.Common.{◌≡◌, ◌≤◌, ◌*◌, ℕ, true, false, List, Contains, length, Option, Some, None, refl, sym, ap, subst, ◌∙◌, true≢false}
use Rattle.std.specs.FinSet as set
use Rattle.std.specs.List.{filter_map}
use Rattle.std.specs.Option.{option_map_or}
use Rattle.std.specs.Ordering.{eq_by_cmp}
use Rattle.std.proofs.lemmas.Option.{slice_get_within}
use Rattle.dots.specs.declared.member.Member.{Member}
use Rattle.dots.specs.Values.{Dot}
use Rattle.dots.specs.Orders.{member_cmp}
use Rattle.operations.specs.Knowledge.{Knowledge, member_of, visible_dots}
use Rattle.operations.specs.Rows.{DotView, ShowAlike, dot_view, dots_of, is_of}
use Rattle.operations.proofs.VisibleLaws.{visible_parts}
use Rattle.general_lemmas.specs.SetItems.{in_order}
use Rattle.operations.proofs.AlikeViews.{filter_map_same, own_visible, same_dots}
use Rattle.general_lemmas.proofs.Counting.{of_item}
use Rattle.dots.proofs.DotOrder.{dots_exact, dots_total}
use Rattle.general_lemmas.proofs.Filters.{passes}
use Rattle.dots.proofs.MemberOrder.{exact_members}
use Rattle.general_lemmas.proofs.TruthTables.{equal_of}
use Rattle.member_orset.specs.Members.{dot_view_of}
use Rattle.delta.specs.DeltaStates.{DeltaState}
use Rattle.delta.specs.Standing.{IsDeltaOf}
use Rattle.delta.proofs.ShownDeltas.{read_as}
use Rattle.delta.proofs.StandingDeltas.{consistent_agree, own_cells}
use Rattle.sites_world.specs.Histories.{Buffered, Carried, IsIn, Known}
use Rattle.sites_world.specs.Holding.{HeldAgree, HoldFewCells, HoldOneDotASite, HoldWithinLimits, IsHeldIn, KnowNonePast, MayJoinFrames, MayTakeEntries, Pending, Said, State}
use Rattle.sites_world.specs.Promises.{IsVisibleDotOf, members_seen, visible_members}
use Rattle.sites_world.specs.Worlds.{IsReached, World}
use Rattle.sites_world.specs.WorldStates.{IsFrameOf, IsSiteOf, StandsForWorld, WorldState}
use Rattle.sites_world.proofs.KnownTogether.{one_dot, part_of, together}
use Rattle.sites_world.proofs.Lists.{correspond_get, place_in}
use Rattle.sites_world.proofs.MayTake.{knows_none_past, may_take}
use Rattle.sites_world.proofs.Parts.{known_asserted, known_part}
use Rattle.sites_world.proofs.SteppedHistories.{reached_history}
use Rattle.sites_world.proofs.VisibleCounts.{few_visible}

-- what is held stands for a knowledge of the world
pub held_in : (state : WorldState) (w : World) (d : DeltaState) → StandsForWorld state w → IsHeldIn state d → (k : Knowledge) × IsIn w k × IsDeltaOf d k
held_in state w d stands (State site s here is) =
    let knows = correspond_get (IsSiteOf state.names) state.sites w.sites stands.sites site s here in
    (knows.0.known, Known site knows.0 knows.1 refl, subst (λ x. IsDeltaOf x knows.0.known) (sym is) knows.2.stands.known)
held_in state w d stands (Pending site s here is) =
    let knows = correspond_get (IsSiteOf state.names) state.sites w.sites stands.sites site s here in
    (knows.0.buffer, Buffered site knows.0 knows.1 refl, subst (λ x. IsDeltaOf x knows.0.buffer) (sym is) knows.2.stands.buffer)
held_in state w d stands (Said place frame here is) =
    let entry = correspond_get IsFrameOf state.pool w.pool stands.pool place frame here in
    (entry.0.carried, Carried entry.0 (place_in w.pool place entry.0 entry.1) refl, subst (λ x. IsDeltaOf x entry.0.carried) (sym is) entry.2.delta)

-- ---- dots of a member

-- a dot that is read of a member is a visible one of it
visible_of_member : (k : Knowledge) (m : Member) (dot : Dot) → Contains (dots_of (dot_view k) m) dot → IsVisibleDotOf k m dot
visible_of_member k m dot here = record {
  visible = own_visible (dot_view k) m dot here;
  member = reported (member_of k dot) (passes (is_of (dot_view k) m) (in_order (visible_dots k)) dot here);
}
  where
    reported : (found : Option Member) → option_map_or (eq_by_cmp member_cmp m) found false ≡ true → found ≡ Some m
    reported None h = absurd (true≢false (sym h))
    reported (Some n) h = ap Some (sym (exact_members m n (equal_of _ h)))

pub one_held : HoldOneDotASite
one_held state d m is held dot other here there same =
    let k = held_in state is.world d is.stands held in
    let has = reached_history state.names (length state.sites) is.world is.reached in
    let dots = same_dots (dot_view_of d.members) (dot_view k.0) (read_as d k.0 k.2).dots m in
    one_dot state.names (length is.world.sites) has.made k.0 has.is.history (part_of state.names is.world has.made k.0 has.is k.1) m dot other
    (visible_of_member k.0 m dot (subst (λ ds. Contains ds dot) dots here)) (visible_of_member k.0 m other (subst (λ ds. Contains ds other) dots there)) same

-- ---- how many

-- a knowledge of a world has at most as many visible dots as members that have one times sites
pub few_known : (names : List (List ℕ)) (sites : ℕ) (w : World) (k : Knowledge) → IsReached names sites w → IsIn w k
    → set.len (visible_dots k) ≤ set.len (visible_members k) * length w.sites
few_known names sites w k reached ik =
    let has = reached_history names sites w reached in
    let part = part_of names w has.made k has.is ik in
    few_visible k (length w.sites) (λ m dot other. one_dot names (length w.sites) has.made k has.is.history part m dot other)
    (λ dot visible. has.is.history.sites_are dot (known_part k has.made dot part (known_asserted k dot (visible_parts k dot visible).0)))

-- views that show alike show the same members
members_alike : (r s : DotView) → ShowAlike r s → members_seen r ≡ members_seen s
unfolding members_seen
members_alike r s alike =
    ap set.from_list
    (filter_map_same r.member s.member (set.items r.visible) (λ dot here. alike.member dot (of_item dots_total dots_exact r.visible dot here))
    ∙ ap (λ v. filter_map s.member (set.items v)) alike.visible)

pub few_held : HoldFewCells
few_held state d is held =
    let k = held_in state is.world d is.stands held in
    let members = members_alike (dot_view_of d.members) (dot_view k.0) (read_as d k.0 k.2).dots in
    subst (λ n. n ≤ set.len (members_seen (dot_view_of d.members)) * length state.sites) (sym (own_cells d k.0 k.2))
    (subst (λ n. set.len (visible_dots k.0) ≤ set.len (members_seen (dot_view_of d.members)) * n) (sym is.stands.sites.lengths)
    (subst (λ ms. set.len (visible_dots k.0) ≤ set.len ms * length is.world.sites) (sym members) (few_known state.names (length state.sites) is.world k.0 is.reached k.1)))

-- what is held stands for operations within their limits
pub within_held : HoldWithinLimits
within_held state d is held = let k = held_in state is.world d is.stands held in (k.0, k.2, is.within k.0 k.1)

-- ---- what may be taken

pub held_agree : HeldAgree
held_agree state x y is one two =
    let k = held_in state is.world x is.stands one in
    let l = held_in state is.world y is.stands two in
    consistent_agree x y k.0 l.0 (together state.names is.world k.0 l.0 (reached_history state.names (length state.sites) is.world is.reached) k.1 l.1) k.2 l.2

pub may_take_entries : MayTakeEntries
may_take_entries names sites w site place state s entry reached knows of found =
    let has = reached_history names sites w reached in
    may_take names (length w.sites) site has.made s state entry.carried has.is.history (has.is.sites site s knows) (slice_get_within w.sites site s knows) of
    (has.is.pool entry (place_in w.pool place entry found))

pub know_none_past : KnowNonePast
know_none_past names sites w site s reached knows =
    let has = reached_history names sites w reached in
    knows_none_past names (length w.sites) site has.made s has.is.history (has.is.sites site s knows) (slice_get_within w.sites site s knows)

pub may_join_frames : MayJoinFrames
may_join_frames state site place s frame is here found =
    let knows = correspond_get (IsSiteOf state.names) state.sites is.world.sites is.stands.sites site s here in
    let entry = correspond_get IsFrameOf state.pool is.world.pool is.stands.pool place frame found in
    let may = may_take_entries state.names (length state.sites) is.world site place s knows.0 entry.0 is.reached knows.1 knows.2 entry.1 in
    record {
      hears = record { queues = may.queues frame.delta entry.2.delta; own = may.own frame.delta entry.2.delta };
      agree = held_agree state s.state frame.delta is (State site s here refl) (Said place frame found refl);
    }
