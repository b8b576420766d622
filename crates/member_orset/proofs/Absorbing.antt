-- What a set says once another was absorbed, and what it keeps.
use Rattle.std.proofs.Common.{◌≡◌, ◌≤◌, Bool, true, false, not, ◌&&◌, ◌||◌, get_or, Option, Some, None, is_some, refl, sym, ap, subst, ◌∙◌, true≢false, inl, inr, ◌⊎◌}
use Rattle.std.specs.Prelude.{if◌then◌else◌}
use Rattle.std.specs.FinMap as map
use Rattle.std.specs.FinSet as set
use Rattle.std.proofs.lemmas.Bool.{cases_Bool}
use Rattle.std.proofs.lemmas.List.Elements.{Contains-get_or}
use Rattle.std.proofs.Math.Bool.{or-true}
use Rattle.dots.specs.declared.limits.TheConstants.{MOST_LIVE}
use Rattle.dots.specs.Values.{Dot}
use Rattle.operations.specs.Conditions.{ConditionsAgree}
use Rattle.dots.specs.Orders.{dot_cmp}
use Rattle.dots.proofs.DotOrder.{dots_total}
use Rattle.dots.proofs.KeySets.{len_of_keys}
use Rattle.op_arena.specs.Ids.{Id}
use Rattle.live_cells.specs.CellIds.{IdsFollow}
use Rattle.member_orset.specs.Joining.{EntriesAgree, IsJoinedWith, holding_joined, holding_with, HoldingsAgree}
use Rattle.live_cells.specs.LiveStates.{IsThinned, LiveState, dead_there}
use Rattle.member_orset.specs.Members.{AreKept, SetsAgree, HasField, Members, both_joined, cells_joined, condition_at, joined_dots, AreOfTheDead}
use Rattle.member_orset.proofs.Agreeing.{agree_back}
use Rattle.member_orset.proofs.Deaths.{still_dead}
use Rattle.member_orset.proofs.FieldReadings.{joined_field}
use Rattle.live_cells.proofs.IdSteps.{follow_grown}
use Rattle.member_orset.proofs.JoinedSets.{contains_joined}
use Rattle.member_orset.proofs.Joins.{conditions_at, of_either}
use Rattle.member_orset.proofs.LiveIds.{unnamed}
use Rattle.general_lemmas.proofs.MapEntries.{entry_is}
use Rattle.member_orset.proofs.Thinning.{shrinks}
use Rattle.live_cells.specs.Holdings.{Holding}

-- dropping what is dead there and taking in what is live there is the join of what is live
both_ways : (o p : Option Holding) (a b : Bool) → holding_with (if (b && not (is_some p)) then None else o) a p ≡ holding_joined o a p b
both_ways (Some h) (Some g) a true = refl
both_ways (Some h) (Some g) a false = refl
both_ways (Some h) None a true = refl
both_ways (Some h) None a false = refl
both_ways None (Some g) a true = refl
both_ways None (Some g) a false = refl
both_ways None None true true = refl
both_ways None None true false = refl
both_ways None None false true = refl
both_ways None None false false = refl

none_of : {X : Type 0} (o : Option X) → is_some o ≡ false → o ≡ None
none_of None h = refl
none_of (Some x) h = absurd (cc h)

module _ (s t : Members) (heard : (q : Dot) (h : Holding) → map.get s.live q ≡ Some h → set.contains s.known q ≡ true) (heard_there : (q : Dot) (h : Holding) → map.get t.live q ≡ Some h → set.contains t.known q ≡ true)
    (old mid : LiveState) (old_is : old.live ≡ s.live) (thin : IsThinned (dead_there t.known t.live) old mid) where
  mid_live : (q : Dot) → map.get mid.live q ≡ (if (set.contains t.known q && not (map.contains_key t.live q)) then None else map.get s.live q)
  mid_live q = thin.live q ∙ (λ i. if dead_there t.known t.live q then None else map.get (old_is i) q)

  -- what is left agrees with what is live there
  pub left_agrees : SetsAgree s t → EntriesAgree mid.live (map.entries t.live)
  left_agrees agree k d l =
      let e = get_or (map.entries t.live) k d in
      let there : map.get t.live e.0 ≡ Some e.1 = entry_is dot_cmp dots_total t.live e (Contains-get_or (map.entries t.live) k d l) in
      let same : map.get mid.live e.0 ≡ map.get s.live e.0 = mid_live e.0 ∙ ap (λ o. if (set.contains t.known e.0 && not (is_some o)) then None else map.get s.live e.0) there ∙ kept (set.contains t.known e.0) (map.get s.live e.0) in
      subst (λ o. HoldingsAgree o e.1) (sym same) (agree_back (map.get s.live e.0) e.1 (set.contains s.known e.0) (set.contains t.known e.0)
      (subst (λ (o : Option Holding). ConditionsAgree (condition_at (map.get s.live e.0) (set.contains s.known e.0)) (condition_at o (set.contains t.known e.0))) there (agree e.0)))
    where
      kept : (b : Bool) (o : Option Holding) → (if (b && not true) then None else o) ≡ o
      kept true o = refl
      kept false o = refl

  module _ (after : LiveState) (join : IsJoinedWith (set.contains s.known) mid t.live after) where
    live_after : (q : Dot) → map.get after.live q ≡ holding_joined (map.get s.live q) (set.contains s.known q) (map.get t.live q) (set.contains t.known q)
    live_after q = join.live q ∙ ap (λ o. holding_with o (set.contains s.known q) (map.get t.live q)) (mid_live q) ∙ both_ways (map.get s.live q) (map.get t.live q) (set.contains s.known q) (set.contains t.known q)

    len_after : map.len after.live ≡ cells_joined s t
    len_after = sym (len_of_keys after.live (joined_dots s t) (λ q. contains_joined s t heard heard_there q ∙ ap is_some (sym (live_after q))))

    -- each dot has the join of its conditions
    pub conditions_after : (q : Dot) → condition_at (map.get after.live q) (set.contains (set.union s.known t.known) q) ≡ both_joined s t q
    conditions_after q =
        (λ i. condition_at (live_after q i) (set.contains-union dots_total s.known t.known q i))
        ∙ conditions_at (map.get s.live q) (map.get t.live q) (set.contains s.known q) (set.contains t.known q)

    -- what is kept of all that is live
    pub held_after : ((q : Dot) (h : Holding) → map.get s.live q ≡ Some h → HasField h.1) → ((q : Dot) (h : Holding) → map.get t.live q ≡ Some h → HasField h.1) → cells_joined s t ≤ MOST_LIVE → AreKept (set.union s.known t.known) after.live
    held_after fields fields_there few = record {
      few = subst (λ n. n ≤ MOST_LIVE) (sym len_after) few;
      heard = λ q h e. of_either (λ _. set.contains (set.union s.known t.known) q ≡ true) (map.get s.live q) (map.get t.live q) (set.contains s.known q) (set.contains t.known q) h (sym (live_after q) ∙ e)
          (λ x g. set.contains-union dots_total s.known t.known q ∙ ap (λ z. z || set.contains t.known q) (heard q x g))
          (λ y g. set.contains-union dots_total s.known t.known q ∙ ap (λ z. set.contains s.known q || z) (heard_there q y g) ∙ or-true (set.contains s.known q))
          (λ x y g. set.contains-union dots_total s.known t.known q ∙ ap (λ z. z || set.contains t.known q) (heard q x g));
      set = λ q h e. of_either (λ (x : Holding). HasField x.1) (map.get s.live q) (map.get t.live q) (set.contains s.known q) (set.contains t.known q) h (sym (live_after q) ∙ e)
          (fields q) (fields_there q) (λ x y g. joined_field x.1 y.1 (fields q x g));
    }

    -- the ids follow those before
    pub follow_after : ((q : Dot) → map.contains_key after.ids q ≡ map.contains_key after.live q) → IdsFollow old.ids old.spent after.ids after.spent
    follow_after named = follow_grown old.ids old.spent mid after (shrinks (dead_there t.known t.live) old mid thin) thin.follow join.ids (λ q i had none. unnamed after.ids after.live named q (gone q i had none (cases_Bool (dead_there t.known t.live q))))
      where
        not_there : (a b : Bool) → (a && not b) ≡ true → b ≡ false
        not_there true true h = absurd (cc h)
        not_there true false h = refl
        not_there false b h = absurd (cc h)

        gone : (q : Dot) (i : Id) → map.get old.ids q ≡ Some i → map.get mid.ids q ≡ None → (dead_there t.known t.live q ≡ true) ⊎ (dead_there t.known t.live q ≡ false) → map.get after.live q ≡ None
        gone q i had none c = elim c [
          | inl y ↦
              let there : map.get t.live q ≡ None = none_of (map.get t.live q) (not_there (set.contains t.known q) (map.contains_key t.live q) y) in
              let left : map.get mid.live q ≡ None = thin.live q ∙ ap (λ b. if b then None else map.get old.live q) y in
              join.live q ∙ (λ j. holding_with (left j) (set.contains s.known q) (there j))
          | inr n ↦ absurd (let e = sym none ∙ thin.ids q ∙ ap (λ b. if b then None else map.get old.ids q) n ∙ had in cc e)
        ]

    -- at most as many ids are spent as dots are dead
    pub dead_after : ((q : Dot) → map.contains_key old.ids q ≡ map.contains_key old.live q) → ((q : Dot) → map.contains_key after.ids q ≡ map.contains_key after.live q)
        → AreOfTheDead s.known (map.contains_key old.live) old.spent → AreOfTheDead (set.union s.known t.known) (map.contains_key after.live) after.spent
    dead_after named named_after few =
        still_dead s.known (set.union s.known t.known) (map.contains_key old.live) (map.contains_key after.live) old.ids after.ids old.spent after.spent (follow_after named_after) named named_after
        (λ q h. known_live q (map.get old.live q) refl h)
        (λ q h. set.contains-union dots_total s.known t.known q ∙ ap (λ b. b || set.contains t.known q) h)
        (λ q h n. let none = ap (λ m. map.get m q) (sym old_is) ∙ none_of (map.get old.live q) n in
        ap is_some (live_after q ∙ (λ i. holding_joined (none i) (h i) (map.get t.live q) (set.contains t.known q)))) few
      where
        known_live : (q : Dot) (o : Option Holding) → map.get old.live q ≡ o → is_some (map.get old.live q) ≡ true → set.contains s.known q ≡ true
        known_live q None e h = absurd (true≢false (sym h ∙ ap is_some e))
        known_live q (Some x) e h = heard q x (ap (λ m. map.get m q) (sym old_is) ∙ e)
