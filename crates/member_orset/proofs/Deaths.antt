-- There are at most as many spent ids as dead dots, so few places aren't used again.
use Rattle.std.proofs.Common.{◌≡◌, ◌+◌, ◌*◌, ◌≤◌, inl, inr, Bool, true, false, not, ◌&&◌, cond, Option, Some, None, is_some, refl, sym, ap, subst, ◌∙◌, true≢false, arith}
use Rattle.std.specs.FinMap as map
use Rattle.std.specs.FinSet as set
use Rattle.std.specs.Ordering.{eq_by_cmp}
use Rattle.std.proofs.lemmas.Bool.{and_parts, not-true}
use Rattle.operations.specs.Conditions.{DotFields, fields_joined}
use Rattle.dots.specs.Orders.{dot_cmp}
use Rattle.dots.specs.Values.{Dot}
use Rattle.dots.specs.WithinLimits.{AreDots}
use Rattle.general_lemmas.proofs.Counting.{apart, given, within}
use Rattle.dots.proofs.DotCounts.{dots_few}
use Rattle.dots.proofs.DotOrder.{dots_exact, dots_total}
use Rattle.op_arena.specs.Ids.{id_cmp}
use Rattle.op_arena.proofs.IdOrder.{ids_exact, ids_total}
use Rattle.live_cells.specs.declared.places.TheConstants.{LAST_GENERATION}
use Rattle.live_cells.specs.CellIds.{IdMap, IdSet, IdsFollow, retired_of}
use Rattle.live_cells.specs.LiveStates.{fields_joined_at, joined_at_held}
use Rattle.member_orset.specs.Members.{AreKept, most_retired, AreOfTheDead, dead_among}
use Rattle.live_cells.proofs.DotTests.{one_dot}
use Rattle.live_cells.specs.Holdings.{Holding}

-- sets of dots
abbrev Dots : Type 0
Dots = set.FinSet dot_cmp

-- live dots
abbrev Live : Type 0
Live = map.FinMap dot_cmp Holding

-- the dots of a set that pass a test
in_retain : (s : Dots) (p : Dot → Bool) (q : Dot) → set.contains (set.retain s p) q ≡ (set.contains s q && p q)
in_retain s p q = set.contains-retain s p q (λ x t. ap p (sym (dots_exact q x t)))

-- a dead dot is known and not live
dead_parts : (known : Dots) (live : Dot → Bool) (q : Dot) → set.contains (dead_among known live) q ≡ true → (set.contains known q ≡ true) × (live q ≡ false)
unfolding dead_among
dead_parts known live q h =
    let d = and_parts (set.contains known q) (not (live q)) (sym (in_retain known (λ dot. not (live dot)) q) ∙ h) in (d.0, not-true (live q) d.1)

dead_of : (known : Dots) (live : Dot → Bool) (q : Dot) → set.contains known q ≡ true → live q ≡ false → set.contains (dead_among known live) q ≡ true
unfolding dead_among
dead_of known live q h n = in_retain known (λ dot. not (live dot)) q ∙ (λ i. h i && not (n i))

-- no id is spent
pub none_spent : (known : Dots) (live : Dot → Bool) (spent : IdSet) → spent ≡ set.empty → AreOfTheDead known live spent
none_spent known live spent e = let none = ap set.len e ∙ set.len-empty id_cmp in omega (arith, none)

-- nothing has changed
pub same_dead : (known after : Dots) (live now : Dot → Bool) (spent new : IdSet) → after ≡ known → ((q : Dot) → now q ≡ live q) → new ≡ spent → AreOfTheDead known live spent → AreOfTheDead after now new
same_dead known after live now spent new k l s few = subst (λ (X : Type 0). X) (λ i. AreOfTheDead (sym k i) (λ q. sym (l q) i) (sym s i)) few

-- dead dots stay dead, and no id more is spent
pub more_dead : (known after : Dots) (live now : Dot → Bool) (spent new : IdSet) → ((q : Dot) → set.contains known q ≡ true → set.contains after q ≡ true)
    → ((q : Dot) → set.contains known q ≡ true → live q ≡ false → now q ≡ false) → new ≡ spent → AreOfTheDead known live spent → AreOfTheDead after now new
more_dead known after live now spent new grows stays same few =
    let more = within dots_total dots_exact (dead_among known live) (dead_among after now) (λ q h. let d = dead_parts known live q h in dead_of after now q (grows q d.0) (stays q d.0 d.1)) in
    let as_many = ap set.len same in
    omega (arith, more, as_many, few)

-- dead dots stay dead, and the ids of those that die are spent
pub still_dead : (known after : Dots) (live now : Dot → Bool) (ids new : IdMap) (spent more : IdSet) → IdsFollow ids spent new more
    → ((q : Dot) → map.contains_key ids q ≡ live q) → ((q : Dot) → map.contains_key new q ≡ now q)
    → ((q : Dot) → live q ≡ true → set.contains known q ≡ true)
    → ((q : Dot) → set.contains known q ≡ true → set.contains after q ≡ true)
    → ((q : Dot) → set.contains known q ≡ true → live q ≡ false → now q ≡ false)
    → AreOfTheDead known live spent → AreOfTheDead after now more
still_dead known after live now ids new spent more follow named named_now heard grows stays few =
    let went : Dot → Bool = λ q. live q && not (now q) in
    let gone = set.retain known went in
    let at-gone : (q : Dot) → set.contains gone q ≡ (set.contains known q && went q) = in_retain known went in
    let ids_more : set.len more ≤ set.len spent + set.len gone = given dots_total dots_exact ids_total ids_exact (map.get ids) gone spent more (λ id h. elim (follow.spent_alone id h) [
      | inl was ↦ inl was
      | inr had ↦ inr (
          let was_live : live had.dot ≡ true = sym (named had.dot) ∙ ap is_some had.had in
          let is_dead : now had.dot ≡ false = sym (named_now had.dot) ∙ ap is_some had.gone in
          record { from = had.dot; is = at-gone had.dot ∙ (λ i. heard had.dot was_live i && (was_live i && not (is_dead i))); gives = had.had })
    ]) in
    let dead_more : set.len (dead_among known live) + set.len gone ≤ set.len (dead_among after now) = apart dots_total dots_exact (dead_among known live) gone (dead_among after now)
    (λ q h. let d = dead_parts known live q h in dead_of after now q (grows q d.0) (stays q d.0 d.1))
    (λ q h. let g = gone_parts q (sym (at-gone q) ∙ h) in dead_of after now q (grows q g.0) g.1.1)
    (λ q h l. true≢false (sym (gone_parts q (sym (at-gone q) ∙ l)).1.0 ∙ (dead_parts known live q h).1)) in
    omega (arith, ids_more, dead_more, few)
  where
    gone_parts : (q : Dot) → (set.contains known q && (live q && not (now q))) ≡ true → (set.contains known q ≡ true) × ((live q ≡ true) × (now q ≡ false))
    gone_parts q h =
        let g = and_parts (set.contains known q) (live q && not (now q)) h in
        let w = and_parts (live q) (not (now q)) g.1 in
        (g.0, (w.0, not-true (now q) w.1))

-- each place that isn't used again has spent 2 ^ 32 ids, and there are at most 2 ^ 46 dots
pub few_retired : (known : Dots) (live : Dot → Bool) (spent : IdSet) → AreDots known → AreOfTheDead known live spent
    → retired_of LAST_GENERATION spent * (LAST_GENERATION + 1) ≤ set.len spent → retired_of LAST_GENERATION spent ≤ most_retired
few_retired known live spent are few worn =
    let dead = within dots_total dots_exact (dead_among known live) known (λ q h. (dead_parts known live q h).0) in
    let most : set.len known ≤ 70368744177664 = dots_few known are in
    omega (arith, few, worn, dead, most)

-- a live dot is known
pub heard_keys : (known : Dots) (live : Live) → AreKept known live → (q : Dot) → map.contains_key live q ≡ true → set.contains known q ≡ true
heard_keys known live kept q h = at (map.get live q) refl
  where
    at : (o : Option Holding) → map.get live q ≡ o → set.contains known q ≡ true
    at None e = absurd (true≢false (sym h ∙ ap is_some e))
    at (Some x) e = kept.heard q x e

-- the same dots are live after the fields of one of them are joined with others
pub same_keys : (live : Live) (d : Dot) (f : DotFields) (q : Dot) → map.contains_key (fields_joined_at live d f) q ≡ map.contains_key live q
same_keys live d f q = at (map.get live d) refl
  where
    by : (x h : Holding) (b : Bool) → (b ≡ true → q ≡ d) → map.get live d ≡ Some h → is_some (cond b (Some x) (map.get live q)) ≡ map.contains_key live q
    by x h true same e = sym (ap is_some (ap (map.get live) (same refl) ∙ e))
    by x h false same e = refl

    at : (o : Option Holding) → map.get live d ≡ o → map.contains_key (joined_at_held live d f o) q ≡ map.contains_key live q
    at None e = refl
    at (Some h) e = ap is_some (map.get-insert dots_total live d (h.0, fields_joined h.1 f) q) ∙ by (h.0, fields_joined h.1 f) h (eq_by_cmp dot_cmp q d) (one_dot q d) e

-- one more dot is live, and no dead one
pub stays_dead : (known : Dots) (live : Live) (d : Dot) (x : Holding) → set.contains known d ≡ false → (q : Dot) → set.contains known q ≡ true → map.contains_key live q ≡ false
    → map.contains_key (map.insert live d x) q ≡ false
stays_dead known live d x unknown q here dead = ap is_some (map.get-insert dots_total live d x q) ∙ by (eq_by_cmp dot_cmp q d) (one_dot q d)
  where
    by : (b : Bool) → (b ≡ true → q ≡ d) → is_some (cond b (Some x) (map.get live q)) ≡ false
    by true same = absurd (true≢false (sym here ∙ ap (set.contains known) (same refl) ∙ unknown))
    by false same = dead

-- a dot that isn't live isn't without another one either
pub removed_dead : (live : Live) (d q : Dot) → map.contains_key live q ≡ false → map.contains_key (map.remove live d) q ≡ false
removed_dead live d q dead = ap is_some (map.get-remove dots_total live d q) ∙ by (eq_by_cmp dot_cmp q d)
  where
    by : (b : Bool) → is_some (cond b None (map.get live q)) ≡ false
    by true = refl
    by false = dead

-- the same dots have an id as are live, after one is removed
pub removed_named : (ids : IdMap) (live : Live) (d : Dot) → ((q : Dot) → map.contains_key ids q ≡ map.contains_key live q)
    → (q : Dot) → map.contains_key (map.remove ids d) q ≡ map.contains_key (map.remove live d) q
removed_named ids live d named q = ap is_some (map.get-remove dots_total ids d q) ∙ by (eq_by_cmp dot_cmp q d) ∙ sym (ap is_some (map.get-remove dots_total live d q))
  where
    by : (b : Bool) → is_some (cond b None (map.get ids q)) ≡ is_some (cond b None (map.get live q))
    by true = refl
    by false = named q
