use Rattle.std.proofs.Common.{◌≡◌, ◌++◌, true, length, lit<, min, is_some, sym, ap, subst, ◌∙◌, arith}
use Rattle.std.specs.FinMap as map
use Rattle.std.specs.List.Sorted.{IsPermutation, IsStrictlySortedBy}
use Rattle.std.specs.Option.{option_or}
use Rattle.dots.specs.Values.{Dot}
use Rattle.live_cells.specs.LiveStates.{HaveGrown}
use Rattle.live_cells.specs.LiveLists.{live_of}
use Rattle.live_cells.specs.Merges.{AreUntied}
use Rattle.live_cells.specs.PlacedStates.{AreIndexed, cells_of, id_order, live_state}
use Rattle.live_cells.proofs.LiveChanges.{members_count}
use Rattle.live_cells.proofs.LiveMaps.{len_live}
use Rattle.live_cells.proofs.MovedSets.{come_grown, come_indexed, come_live, none_placed, now_count, now_sorted, now_untied, own_sorted}
use Rattle.live_cells.proofs.live_cells.LiveCells.append.Goals as goal

pub append-requires : goal.append-requires
append-requires g c =
    let s = c.self.inside.placed in
    let t = c.others.inside.placed in
    let ids = c.into_vec-ids.result.items in
    let x = subst (AreIndexed t) (sym c.into_vec-ids.ensures.items) c.others.invariant in
    let here : length s.dots ≡ map.len c.args.self.now.live = sym (len_live s.dots s.held s.spent c.self.invariant.placed) ∙ ap (λ l. map.len l.live) c.self.view_is in
    let there : length t.dots ≡ map.len c.args.others.live = sym (len_live t.dots t.held t.spent c.others.invariant.placed) ∙ ap (λ l. map.len l.live) c.others.view_is in
    let room : min s.room c.self.inside.members.room ≡ c.args.self.now.room = ap (λ l. l.room) c.self.view_is in (
      lit< tt,
      (
        x,
        (
          none_placed s c.self.inside.members.items c.self.invariant t ids x
              (λ q h. ap (λ l. map.get l.live q) c.self.view_is ∙ c.requires.apart q (ap (λ l. is_some (map.get l.live q)) (sym c.others.view_is) ∙ h)),
          omega (arith, here, there, room, c.requires.room),
        ),
      ),
    )

pub merge_members-requires : goal.merge_members-requires
merge_members-requires g c =
    let s = c.self.inside.placed in
    let t = c.others.inside.placed in
    let ids = c.into_vec-ids.result.items in
    let x = subst (AreIndexed t) (sym c.into_vec-ids.ensures.items) c.others.invariant in
    let own = c.self.inside.members.items in
    let u = c.append.new.self in
    let now = c.append.new.members.items in
    let m = c.append.ensures.moved in
    let here : length s.dots ≡ map.len c.args.self.now.live = sym (len_live s.dots s.held s.spent c.self.invariant.placed) ∙ ap (λ l. map.len l.live) c.self.view_is in
    let there : length t.dots ≡ map.len c.args.others.live = sym (len_live t.dots t.held t.spent c.others.invariant.placed) ∙ ap (λ l. map.len l.live) c.others.view_is in
    let room : min s.room c.self.inside.members.room ≡ c.args.self.now.room = ap (λ l. l.room) c.self.view_is in
    let count : length c.deref.result.now ≡ length now = ap length c.deref.ensures.value in
    let apart = λ (q : Dot) (h : is_some (map.get (live_of (cells_of t)) q) ≡ true). ap (λ l. map.get l.live q) c.self.view_is ∙ c.requires.apart q (ap (λ l. is_some (map.get l.live q)) (sym c.others.view_is) ∙ h) in (
      lit< tt,
      (
        own_sorted s own c.self.invariant t ids x apart u m.0 now m.1,
        (
          subst (IsStrictlySortedBy (id_order u.held)) (sym c.deref.ensures.value) (now_sorted s own c.self.invariant t ids x apart u m.0 now m.1),
          (
            subst (AreUntied (id_order u.held) own) (sym c.deref.ensures.value) (now_untied s own c.self.invariant t ids x apart u m.0 now m.1),
            omega (arith, here, there, room, count, now_count s own c.self.invariant t ids x apart u m.0 now m.1, members_count s own c.self.invariant, members_count t ids x, c.requires.room),
          ),
        ),
      ),
    )

pub invariant_of-self : goal.invariant_of-self
invariant_of-self g c =
    let s = c.self.inside.placed in
    let t = c.others.inside.placed in
    let ids = c.into_vec-ids.result.items in
    let x = subst (AreIndexed t) (sym c.into_vec-ids.ensures.items) c.others.invariant in
    let own = c.self.inside.members.items in
    let m = c.append.ensures.moved in
    let apart = λ (q : Dot) (h : is_some (map.get (live_of (cells_of t)) q) ≡ true). ap (λ l. map.get l.live q) c.self.view_is ∙ c.requires.apart q (ap (λ l. is_some (map.get l.live q)) (sym c.others.view_is) ∙ h) in
    come_indexed s own c.self.invariant t ids x apart c.append.new.self m.0 c.append.new.members.items m.1 c.append.ensures.valid c.merge_members.new.own.items
    (subst (λ xs. IsPermutation (own ++ xs) c.merge_members.new.own.items) c.deref.ensures.value c.merge_members.ensures.same) c.merge_members.ensures.rises

pub returns-clause-live : goal.returns-clause-live
returns-clause-live g c q =
    let s = c.self.inside.placed in
    let t = c.others.inside.placed in
    let ids = c.into_vec-ids.result.items in
    let x = subst (AreIndexed t) (sym c.into_vec-ids.ensures.items) c.others.invariant in
    let m = c.append.ensures.moved in
    let apart = λ (q : Dot) (h : is_some (map.get (live_of (cells_of t)) q) ≡ true). ap (λ l. map.get l.live q) c.self.view_is ∙ c.requires.apart q (ap (λ l. is_some (map.get l.live q)) (sym c.others.view_is) ∙ h) in
    come_live s c.self.inside.members.items c.self.invariant t ids x apart c.append.new.self m.0 c.append.new.members.items m.1 c.append.ensures.valid q
    ∙ (λ k. option_or (map.get (c.self.view_is k).live q) (map.get (c.others.view_is k).live q))

pub returns-clause-ids : goal.returns-clause-ids
returns-clause-ids g c =
    let s = c.self.inside.placed in
    let t = c.others.inside.placed in
    let ids = c.into_vec-ids.result.items in
    let x = subst (AreIndexed t) (sym c.into_vec-ids.ensures.items) c.others.invariant in
    let m = c.append.ensures.moved in
    let apart = λ (q : Dot) (h : is_some (map.get (live_of (cells_of t)) q) ≡ true). ap (λ l. map.get l.live q) c.self.view_is ∙ c.requires.apart q (ap (λ l. is_some (map.get l.live q)) (sym c.others.view_is) ∙ h) in
    subst (λ l. HaveGrown l (live_state c.append.new.self c.merge_members.new.own.room)) c.self.view_is
    (come_grown s c.self.inside.members.items c.self.invariant t ids x apart c.append.new.self m.0 c.append.new.members.items m.1 c.append.ensures.valid c.append.ensures.spent
    c.self.inside.members.room c.merge_members.new.own.room)
