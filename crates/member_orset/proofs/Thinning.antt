-- Dots that are live no more, in steps; and dots that become live, in steps.
use Rattle.std.proofs.Common.{◌≡◌, ℕ, ◌+◌, ◌≤◌, ◌<◌, Bool, true, false, not, ◌&&◌, ◌||◌, ◌⊎◌, inl, inr, nat_eq, Option, Some, None, is_some, refl, sym, ap, subst, ◌∙◌, arith, true≢false}
use Rattle.std.specs.Prelude.{if◌then◌else◌, nat_lt, nat_le}
use Rattle.std.specs.Ordering.{eq_by_cmp}
use Rattle.std.specs.FinMap as map
use Rattle.std.proofs.lemmas.Bool.{cases_Bool, cases_eq, cases_lt}
use Rattle.std.proofs.lemmas.Bool.Decides.{nat_tests}
use Rattle.dots.specs.Values.{Dot}
use Rattle.dots.specs.Orders.{dot_cmp}
use Rattle.dots.specs.DotSets.{Run, in_run}
use Rattle.dots.proofs.DotOrder.{dots_total}
use Rattle.live_cells.specs.CellIds.{IdMap, IdSet, IdsFollow}
use Rattle.member_orset.specs.Joining.{IsFirstDead, dead_in_run}
use Rattle.live_cells.specs.LiveStates.{LiveState, spent_with, IsThinned}
use Rattle.live_cells.proofs.DotTests.{one_dot, same_tied}
use Rattle.live_cells.proofs.IdSteps.{Shrinks, follow_remove, follow_same, follow_shrunk}
use Rattle.member_orset.proofs.LiveIds.{unnamed}
use Rattle.live_cells.specs.Holdings.{Holding}

-- nothing is dropped
pub thinned_none : (dead : Dot → Bool) (s : LiveState) → ((q : Dot) → dead q ≡ false) → IsThinned dead s s
thinned_none dead s none = record {
  live = λ q. ap (λ b. if b then None else map.get s.live q) (sym (none q));
  ids = λ q. ap (λ b. if b then None else map.get s.ids q) (sym (none q));
  follow = follow_same s.ids s.ids s.spent s.spent refl refl;
  room = omega arith;
}

pub shrinks : (dead : Dot → Bool) (s t : LiveState) → IsThinned dead s t → Shrinks s.ids t.ids
shrinks dead s t h q = split (dead q) (h.ids q)
  where
    split : (b : Bool) → map.get t.ids q ≡ (if b then None else map.get s.ids q) → (map.get t.ids q ≡ None) ⊎ (map.get t.ids q ≡ map.get s.ids q)
    split true e = inl e
    split false e = inr e

twice : {X : Type 0} (a b : Bool) (o : Option X) → (if b then None else (if a then None else o)) ≡ (if (a || b) then None else o)
twice true true o = refl
twice true false o = refl
twice false true o = refl
twice false false o = refl

-- dropped twice
pub thinned_twice : (first second both : Dot → Bool) (s t u : LiveState) → ((q : Dot) → both q ≡ (first q || second q)) → IsThinned first s t → IsThinned second t u → IsThinned both s u
thinned_twice first second both s t u is a b = record {
  live = λ q. b.live q ∙ ap (λ o. if second q then None else o) (a.live q) ∙ twice (first q) (second q) (map.get s.live q) ∙ ap (λ c. if c then None else map.get s.live q) (sym (is q));
  ids = λ q. b.ids q ∙ ap (λ o. if second q then None else o) (a.ids q) ∙ twice (first q) (second q) (map.get s.ids q) ∙ ap (λ c. if c then None else map.get s.ids q) (sym (is q));
  follow = follow_shrunk s.ids t.ids u.ids s.spent t.spent u.spent (shrinks first s t a) (shrinks second t u b) a.follow b.follow;
  room = let x = a.room in let y = b.room in omega arith;
}

-- one dot is dropped
pub thinned_one : (s t : LiveState) (d : Dot) → t.live ≡ map.remove s.live d → t.ids ≡ map.remove s.ids d → t.spent ≡ spent_with (map.get s.ids d) s.spent → s.room + map.len t.live ≤ t.room + map.len s.live
    → IsThinned (λ q. eq_by_cmp dot_cmp q d) s t
thinned_one s t d live ids spent room = record {
  live = λ q. ap (λ m. map.get m q) live ∙ map.get-remove dots_total s.live d q;
  ids = λ q. ap (λ m. map.get m q) ids ∙ map.get-remove dots_total s.ids d q;
  follow = subst (λ (m : IdMap). IdsFollow s.ids s.spent m t.spent) (sym ids) (subst (λ (x : IdSet). IdsFollow s.ids s.spent (map.remove s.ids d) x) (sym spent) (follow_remove s.ids s.spent d));
  room = room;
}

-- another test that differs only on dots that aren't live removes the same dots
pub thinned_by : (test other : Dot → Bool) (s t : LiveState) → ((q : Dot) → map.contains_key s.ids q ≡ map.contains_key s.live q) → ((q : Dot) → (test q ≡ other q) ⊎ (map.get s.live q ≡ None)) → IsThinned test s t → IsThinned other s t
thinned_by test other s t named alike h = record {
  live = λ q. h.live q ∙ by q (map.get s.live q) (alike q) (λ e. e);
  ids = λ q. h.ids q ∙ by q (map.get s.ids q) (alike q) (unnamed s.ids s.live named q);
  follow = h.follow;
  room = h.room;
}
  where
    none : {X : Type 0} (a b : Bool) (o : Option X) → o ≡ None → (if a then None else o) ≡ (if b then None else o)
    none true true o e = refl
    none true false o e = sym e
    none false true o e = e
    none false false o e = refl

    by : {X : Type 0} (q : Dot) (o : Option X) → (test q ≡ other q) ⊎ (map.get s.live q ≡ None) → (map.get s.live q ≡ None → o ≡ None) → (if test q then None else o) ≡ (if other q then None else o)
    by q o c f = elim c [
      | inl e ↦ ap (λ b. if b then None else o) e
      | inr n ↦ none (test q) (other q) o (f n)
    ]

-- ---- the dots of a run

abbrev pub dropped_before : Run → map.FinMap dot_cmp Holding → ℕ → Dot → Bool
dropped_before run there first q = dead_in_run run there q && nat_lt q.count first

itself_by_numbers : (s c f l : ℕ) → f ≤ c → c ≤ l → (nat_eq s s && (nat_le f c && nat_le c l)) ≡ true
itself_by_numbers s c f l a b = grind (arith, nat_tests)

run_numbers : (s t c f l : ℕ) → (nat_eq s t && (nat_le f c && nat_le c l)) ≡ true → (s ≡ t) × (f ≤ c) × (c ≤ l)
run_numbers s t c f l h = (grind (arith, nat_tests, h), grind (arith, nat_tests, h), grind (arith, nat_tests, h))

lt_true : (a b : ℕ) → a < b → nat_lt a b ≡ true
lt_true a b h = grind (arith, nat_tests)

lt_false : (a b : ℕ) → b ≤ a → nat_lt a b ≡ false
lt_false a b h = grind (arith, nat_tests)

-- before the first count none is dropped
pub dropped_none : (run : Run) (there : map.FinMap dot_cmp Holding) (s : LiveState) (first : ℕ) → first ≡ run.first → IsThinned (dropped_before run there first) s s
dropped_none run there s first is = thinned_none (dropped_before run there first) s (λ q. at q (cases_Bool (in_run q run)))
  where
    at : (q : Dot) → (in_run q run ≡ true) ⊎ (in_run q run ≡ false) → dropped_before run there first q ≡ false
    at q c = elim c [
      | inl t ↦ ap (λ b. (in_run q run && not (map.contains_key there q)) && b) (lt_false q.count first (let n = (run_numbers run.site q.site q.count run.first run.last t).1 in omega arith)) ∙ and_false (in_run q run && not (map.contains_key there q))
      | inr f ↦ ap (λ b. (b && not (map.contains_key there q)) && nat_lt q.count first) f
    ]
      where
        and_false : (b : Bool) → (b && false) ≡ false
        and_false true = refl
        and_false false = refl

-- what isn't live any more isn't live
not_live : {X : Type 0} (o : Option X) (b : Bool) → (is_some o && not b) ≡ false → b ≡ false → o ≡ None
not_live None b h f = refl
not_live (Some x) b h f = absurd (true≢false (sym (ap not f) ∙ h))

-- a dot of the run with a count from there on, that is dead there and was live, is dropped next
module _ (run : Run) (there : map.FinMap dot_cmp Holding) (first : ℕ) (old s : LiveState) (named : (q : Dot) → map.contains_key old.ids q ≡ map.contains_key old.live q) (before : IsThinned (dropped_before run there first) old s) where
  -- if no dot is live in between, none was
  none_was : (q : Dot) → dead_in_run run there q ≡ true → first ≤ q.count → map.get s.live q ≡ None → map.get old.live q ≡ None
  none_was q dead past none = ap (λ b. if b then None else map.get old.live q) (sym (ap (λ b. b && nat_lt q.count first) dead ∙ lt_false q.count first past)) ∙ sym (before.live q) ∙ none

  in_of : (q : Dot) → dead_in_run run there q ≡ true → (in_run q run ≡ true) × (map.contains_key there q ≡ false)
  in_of q h = (first_of (in_run q run) (map.contains_key there q) h, second_of (in_run q run) (map.contains_key there q) h)
    where
      first_of : (a b : Bool) → (a && not b) ≡ true → a ≡ true
      first_of true b h = refl
      first_of false b h = h

      second_of : (a b : Bool) → (a && not b) ≡ true → b ≡ false
      second_of true true h = absurd (cc h)
      second_of true false h = refl
      second_of false b h = absurd (cc h)

  pub dropped_more : (t : LiveState) (dot : Dot) (next : ℕ) → next ≡ dot.count + 1 → run.first ≤ first → IsFirstDead run there first s.live dot → t.live ≡ map.remove s.live dot → t.ids ≡ map.remove s.ids dot
      → t.spent ≡ spent_with (map.get s.ids dot) s.spent → s.room + map.len t.live ≤ t.room + map.len s.live → IsThinned (dropped_before run there next) old t
  dropped_more t dot next is least d live ids spent room =
      thinned_by (λ q. dropped_before run there first q || eq_by_cmp dot_cmp q dot) (dropped_before run there next) old t named (λ q. at q (cases_Bool (eq_by_cmp dot_cmp q dot)) (cases_Bool (dead_in_run run there q)))
      (thinned_twice (dropped_before run there first) (λ q. eq_by_cmp dot_cmp q dot) _ old s t (λ q. refl) before (thinned_one s t dot live ids spent room))
    where
      own_dead : dead_in_run run there dot ≡ true
      own_dead = (λ i. in_here i && not (d.gone i))
        where
          in_here : in_run dot run ≡ true
          in_here = ap (λ x. nat_eq run.site x && (nat_le run.first dot.count && nat_le dot.count run.last)) d.site_is ∙ itself_by_numbers run.site dot.count run.first run.last (let l = d.least in omega arith) d.most

      or_true : (b : Bool) → (b || true) ≡ true
      or_true true = refl
      or_true false = refl

      or_none : (b : Bool) → (b || false) ≡ b
      or_none true = refl
      or_none false = refl

      at : (q : Dot) → (eq_by_cmp dot_cmp q dot ≡ true) ⊎ (eq_by_cmp dot_cmp q dot ≡ false) → (dead_in_run run there q ≡ true) ⊎ (dead_in_run run there q ≡ false)
          → ((dropped_before run there first q || eq_by_cmp dot_cmp q dot) ≡ dropped_before run there next q) ⊎ (map.get old.live q ≡ None)
      at q e c = elim e [
        | inl t ↦ inl (ap (λ b. dropped_before run there first q || b) t ∙ or_true (dropped_before run there first q)
            ∙ sym (ap (dropped_before run there next) (one_dot q dot t) ∙ ap (λ b. b && nat_lt dot.count next) own_dead ∙ lt_true dot.count next (omega arith)))
        | inr f ↦ elim c [
          | inr n ↦ inl (ap (λ b. dropped_before run there first q || b) f ∙ or_none (dropped_before run there first q) ∙ ap (λ b. b && nat_lt q.count first) n ∙ sym (ap (λ b. b && nat_lt q.count next) n))
          | inl y ↦ elim (cases_lt q.count first) [
            | inl l ↦ inl (ap (λ b. dropped_before run there first q || b) f ∙ or_none (dropped_before run there first q) ∙ ap (λ b. b && nat_lt q.count first) y ∙ lt_true q.count first l
                ∙ sym (ap (λ b. b && nat_lt q.count next) y ∙ lt_true q.count next (let m = d.least in omega arith)))
            | inr m ↦ elim (cases_lt dot.count q.count) [
              | inl g ↦ inl (ap (λ b. dropped_before run there first q || b) f ∙ or_none (dropped_before run there first q) ∙ ap (λ b. b && nat_lt q.count first) y ∙ lt_false q.count first m
                  ∙ sym (ap (λ b. b && nat_lt q.count next) y ∙ lt_false q.count next (omega arith)))
              | inr k ↦
                  let site : q.site ≡ run.site = sym (run_numbers run.site q.site q.count run.first run.last (in_of q y).0).0 in
                  let less : q.count < dot.count = earlier q f site k in
                  let here : record { site = run.site; count = q.count } ≡ q = λ i. record { site = sym site i; count = q.count } in
                  inr (none_was q y m (not_live (map.get s.live q) (map.contains_key there q)
                  (subst (λ (x : Dot). (map.contains_key s.live x && not (map.contains_key there x)) ≡ false) here (d.none q.count m less)) (in_of q y).1))
            ]
          ]
        ]
      ]
        where
          earlier : (q : Dot) → eq_by_cmp dot_cmp q dot ≡ false → q.site ≡ run.site → q.count ≤ dot.count → q.count < dot.count
          earlier q f site k = elim (cases_eq q.count dot.count) [
            | inl e ↦ absurd (true≢false (sym (same_tied q dot (λ i. record { site = (site ∙ sym d.site_is) i; count = e i })) ∙ f))
            | inr n ↦ omega (arith, n)
          ]

  -- all dead dots of the run are removed once none is live
  pub dropped_all : ((n : ℕ) → first ≤ n → n ≤ run.last → (map.contains_key s.live (record { site = run.site; count = n }) && not (map.contains_key there (record { site = run.site; count = n }))) ≡ false)
      → IsThinned (dead_in_run run there) old s
  dropped_all none = thinned_by (dropped_before run there first) (dead_in_run run there) old s named (λ q. at q (cases_Bool (dead_in_run run there q))) before
    where
      at : (q : Dot) → (dead_in_run run there q ≡ true) ⊎ (dead_in_run run there q ≡ false) → (dropped_before run there first q ≡ dead_in_run run there q) ⊎ (map.get old.live q ≡ None)
      at q c = elim c [
        | inr n ↦ inl (ap (λ b. b && nat_lt q.count first) n ∙ sym n)
        | inl y ↦ elim (cases_lt q.count first) [
          | inl l ↦ inl (ap (λ b. b && nat_lt q.count first) y ∙ lt_true q.count first l ∙ sym y)
          | inr m ↦
              let numbers = run_numbers run.site q.site q.count run.first run.last (in_of q y).0 in
              let here : record { site = run.site; count = q.count } ≡ q = λ i. record { site = numbers.0 i; count = q.count } in
              inr (none_was q y m (not_live (map.get s.live q) (map.contains_key there q)
              (subst (λ (x : Dot). (map.contains_key s.live x && not (map.contains_key there x)) ≡ false) here (none q.count m numbers.2)) (in_of q y).1))
        ]
      ]
