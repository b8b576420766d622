-- How many dots are live in the join of two sets, and how many aren't among others.
use Rattle.std.proofs.Common.{◌≡◌, ◌+◌, Bool, true, false, not, cond, ◌&&◌, ◌||◌, List, [], ◌∷◌, length, filter, map as each, is_some, Option, Some, None, refl, sym, ap, ◌∙◌, arith, true≢false}
use Rattle.std.specs.List.{count_by, list_any}
use Rattle.std.specs.Ordering.{eq_by_cmp, is_lt}
use Rattle.std.specs.FinMap as map
use Rattle.std.specs.FinMap.Entries.{below_all}
use Rattle.std.specs.FinSet as set
use Rattle.std.proofs.lemmas.Bool.{and_parts, or_from}
use Rattle.std.proofs.lemmas.List.{length-map}
use Rattle.std.proofs.lemmas.List.Sums.{length-filter}
use Rattle.std.proofs.Math.Bool.{or-false, or-true}
use Rattle.dots.specs.Values.{Dot}
use Rattle.dots.specs.Orders.{dot_cmp}
use Rattle.dots.proofs.DotOrder.{dots_total, dots_exact}
use Rattle.live_cells.specs.declared.placed.Placed.{Placed}
use Rattle.live_cells.specs.LiveStates.{dead_there}
use Rattle.member_orset.specs.Joining.{holding_joined}
use Rattle.member_orset.specs.LiveDots.{live_dots_without}
use Rattle.member_orset.specs.Members.{Members, both_joined, cells_joined, is_live, joined_dots}
use Rattle.live_cells.specs.PlacedLists.{id_entries, is_placed}
use Rattle.live_cells.proofs.Counts.{AreNew, add, contains_add, len_add}
use Rattle.live_cells.proofs.DotTests.{apart_after, one_dot, same_itself}
use Rattle.member_orset.proofs.Joins.{stays_live}
use Rattle.live_cells.proofs.PlacedOrder.{Rise, rise_head, rise_tail}
use Rattle.live_cells.specs.Holdings.{Holding}

-- the dots that pass a test, of live dots that rise
module _ (test : Dot → Bool) where
  abbrev pub kept : List Placed → List Dot
  kept ps = each (λ p. p.dot) (filter (λ p. test p.dot) ps)

  pub length_kept : (ps : List Placed) → length (kept ps) ≡ count_by (λ p. test p.dot) ps
  length_kept ps = length-map (filter (λ p. test p.dot) ps) (λ p. p.dot) ∙ length-filter (λ p. test p.dot) ps

  any_cond : (q : Dot) (p : Placed) (b : Bool) (ps : List Placed) → list_any (eq_by_cmp dot_cmp q) (each (λ p. p.dot) (cond b (p ∷ ps) ps)) ≡ cond b (eq_by_cmp dot_cmp q p.dot || list_any (eq_by_cmp dot_cmp q) (each (λ p. p.dot) ps)) (list_any (eq_by_cmp dot_cmp q) (each (λ p. p.dot) ps))
  any_cond q p true ps = refl
  any_cond q p false ps = refl

  step : (b tp tq r x : Bool) → (b ≡ true → tq ≡ tp) → x ≡ (r && tq) → cond tp (b || x) x ≡ ((b || r) && tq)
  step true true tq r x same h = sym (same refl)
  step true false tq r x same h = h ∙ ap (λ t. r && t) (same refl) ∙ none r ∙ sym (same refl)
    where
      none : (a : Bool) → (a && false) ≡ false
      none true = refl
      none false = refl
  step false true tq r x same h = h
  step false false tq r x same h = h

  pub placed_kept : (q : Dot) (ps : List Placed) → list_any (eq_by_cmp dot_cmp q) (kept ps) ≡ (is_placed ps q && test q)
  placed_kept q [] = refl
  placed_kept q (p ∷ ps) =
      any_cond q p (test p.dot) (filter (λ x. test x.dot) ps)
      ∙ step (eq_by_cmp dot_cmp q p.dot) (test p.dot) (test q) (is_placed ps q) (list_any (eq_by_cmp dot_cmp q) (kept ps)) (λ t. ap test (one_dot q p.dot t)) (placed_kept q ps)

  none_below : (d : Dot) (ps : List Placed) → below_all dot_cmp d (id_entries ps) ≡ true → is_placed ps d ≡ false
  none_below d [] h = refl
  none_below d (p ∷ ps) h =
      let parts = and_parts (is_lt (dot_cmp d p.dot)) (below_all dot_cmp d (id_entries ps)) h in
      or_from _ _ (apart_after d p.dot parts.0) (none_below d ps parts.1)

  -- dots that pass a test are new to a set that has none of them
  pub new_kept : (s : set.FinSet dot_cmp) (ps : List Placed) → Rise ps → ((q : Dot) → is_placed ps q ≡ true → test q ≡ true → set.contains s q ≡ false) → AreNew s (kept ps)
  new_kept s [] rise none = tt
  new_kept s (p ∷ ps) rise none = at (test p.dot) refl (new_kept s ps (rise_tail p ps rise) (λ q h t. none q (ap (λ b. eq_by_cmp dot_cmp q p.dot || b) h ∙ or-true (eq_by_cmp dot_cmp q p.dot)) t))
    where
      at : (b : Bool) → test p.dot ≡ b → AreNew s (kept ps) → AreNew s (each (λ x. x.dot) (cond b (p ∷ filter (λ x. test x.dot) ps) (filter (λ x. test x.dot) ps)))
      at true t rest = (placed_kept p.dot ps ∙ ap (λ b. b && test p.dot) (none_below p.dot ps (rise_head p ps rise)), none p.dot (ap (λ b. b || is_placed ps p.dot) (same_itself p.dot)) t, rest)
      at false t rest = rest

-- how many live dots aren't among others
pub counted_without : (s : Members) (others : set.FinSet dot_cmp) (ps : List Placed) → Rise ps → is_placed ps ≡ map.contains_key s.live
    → set.len (live_dots_without s others) ≡ count_by (λ p. not (set.contains others p.dot)) ps
unfolding live_dots_without
counted_without s others ps rise placed =
    let test = λ (q : Dot). not (set.contains others q) in
    ap set.len (sets_same test)
    ∙ len_add (set.empty {R = dot_cmp}) (kept test ps) (new_kept test (set.empty {R = dot_cmp}) ps rise (λ q h t. set.contains-empty dot_cmp q))
    ∙ (let none = set.len-empty dot_cmp in let n = length_kept test ps in omega arith)
  where
    sets_same : (test : Dot → Bool) → set.difference (set.from_list (map.keys s.live)) others ≡ add (set.empty {R = dot_cmp}) (kept (λ q. not (set.contains others q)) ps)
    sets_same test = set.same_set dots_total dots_exact _ _ (λ q.
        set.contains-difference dots_total (set.from_list (map.keys s.live)) others q
        ∙ (λ i. (set.contains-from_list dots_total (map.keys s.live) q ∙ sym (map.contains_key-keys s.live q) ∙ (λ j. sym placed j q)) i && not (set.contains others q))
        ∙ sym (placed_kept (λ x. not (set.contains others x)) q ps)
        ∙ sym (or-false (list_any (eq_by_cmp dot_cmp q) (kept (λ x. not (set.contains others x)) ps)))
        ∙ ap (λ b. list_any (eq_by_cmp dot_cmp q) (kept (λ x. not (set.contains others x)) ps) || b) (sym (set.contains-empty dot_cmp q))
        ∙ sym (contains_add (set.empty {R = dot_cmp}) (kept (λ x. not (set.contains others x)) ps) q))

-- what is live in the join: what is live there and unknown here, and what is live here and not dead there
live_in : (o p : Option Holding) (a b : Bool) → is_some (holding_joined o a p b) ≡ ((is_some p && not a) || ((is_some o && not (b && not (is_some p))) || false))
live_in (Some h) (Some g) true true = refl
live_in (Some h) (Some g) true false = refl
live_in (Some h) (Some g) false true = refl
live_in (Some h) (Some g) false false = refl
live_in (Some h) None a true = refl
live_in (Some h) None a false = refl
live_in None (Some g) true b = refl
live_in None (Some g) false b = refl
live_in None None true b = refl
live_in None None false b = refl

-- the dots that are live in the join of two sets, as they are held
module _ (s t : Members) (heard : (q : Dot) (h : Holding) → map.get s.live q ≡ Some h → set.contains s.known q ≡ true) (heard_there : (q : Dot) (h : Holding) → map.get t.live q ≡ Some h → set.contains t.known q ≡ true) where
  pub contains_joined : (q : Dot) → set.contains (joined_dots s t) q ≡ is_some (holding_joined (map.get s.live q) (set.contains s.known q) (map.get t.live q) (set.contains t.known q))
  unfolding joined_dots
  contains_joined q =
      set.contains-retain (set.union s.known t.known) (λ d. is_live (both_joined s t d)) q (λ x h. ap (λ d. is_live (both_joined s t d)) (sym (dots_exact q x h)))
      ∙ ap (λ x. x && is_live (both_joined s t q)) (set.contains-union dots_total s.known t.known q)
      ∙ stays_live (map.get s.live q) (map.get t.live q) (set.contains s.known q) (set.contains t.known q) (heard q) (heard_there q)

  module _ (ps qs : List Placed) (rise : Rise ps) (rise_there : Rise qs) (placed : is_placed ps ≡ map.contains_key s.live) (placed_there : is_placed qs ≡ map.contains_key t.live) where
    abbrev ours : List Dot
    ours = kept (λ q. not (dead_there t.known t.live q)) ps

    abbrev theirs : List Dot
    theirs = kept (λ q. not (set.contains s.known q)) qs

    abbrev own : set.FinSet dot_cmp
    own = add (set.empty {R = dot_cmp}) ours

    contains_own : (q : Dot) → set.contains own q ≡ ((map.contains_key s.live q && not (set.contains t.known q && not (map.contains_key t.live q))) || false)
    contains_own q =
        contains_add (set.empty {R = dot_cmp}) ours q
        ∙ (λ i. placed_kept (λ x. not (dead_there t.known t.live x)) q ps i || set.contains-empty dot_cmp q i)
        ∙ (λ i. (placed i q && not (set.contains t.known q && not (map.contains_key t.live q))) || false)

    unheard : (q : Dot) → set.contains s.known q ≡ false → set.contains own q ≡ false
    unheard q f = contains_own q ∙ at (map.get s.live q) refl
      where
        at : (o : Option Holding) → map.get s.live q ≡ o → ((is_some o && not (set.contains t.known q && not (map.contains_key t.live q))) || false) ≡ false
        at None e = refl
        at (Some h) e = absurd (true≢false (sym (heard q h e) ∙ f))

    pub counted_joined : cells_joined s t ≡ count_by (λ p. not (dead_there t.known t.live p.dot)) ps + count_by (λ p. not (set.contains s.known p.dot)) qs
    counted_joined =
        ap set.len (set.same_set dots_total dots_exact _ _ (λ q.
        contains_joined q ∙ live_in (map.get s.live q) (map.get t.live q) (set.contains s.known q) (set.contains t.known q)
        ∙ (λ i. (sym placed_there i q && not (set.contains s.known q)) || sym (contains_own q) i)
        ∙ (λ i. sym (placed_kept (λ x. not (set.contains s.known x)) q qs) i || set.contains own q)
        ∙ sym (contains_add own theirs q)))
        ∙ len_add own theirs (new_kept (λ q. not (set.contains s.known q)) own qs rise_there (λ q h u. unheard q (not_true (set.contains s.known q) u)))
        ∙ (λ i. (len_add (set.empty {R = dot_cmp}) ours (new_kept (λ q. not (dead_there t.known t.live q)) (set.empty {R = dot_cmp}) ps rise (λ q h u. set.contains-empty dot_cmp q)) ∙ ap (λ n. n + length ours) (set.len-empty dot_cmp)) i + length theirs)
        ∙ (let a = length_kept (λ q. not (dead_there t.known t.live q)) ps in let b = length_kept (λ q. not (set.contains s.known q)) qs in omega arith)
      where
        not_true : (b : Bool) → not b ≡ true → b ≡ false
        not_true true h = absurd (cc h)
        not_true false h = refl
