-- The keys of a map from dots make a set of as many.
use Rattle.std.proofs.Common.{◌≡◌, ◌+◌, true, false, cond, ◌||◌, List, [], ◌∷◌, length, map as each, refl, sym, ap, ◌∙◌, arith}
use Rattle.std.specs.List.{list_any}
use Rattle.std.specs.Ordering.{eq_by_cmp, is_eq, is_lt}
use Rattle.std.specs.declared.cmp.Ordering.{Ordering}
use Rattle.std.specs.declared.cmp.Ordering.TheVariants.{Less, Equal, Greater}
use Rattle.std.specs.FinMap as map
use Rattle.std.specs.FinSet as set
use Rattle.std.specs.FinMap.Entries.{below_all}
use Rattle.std.proofs.lemmas.Bool.{and_parts}
use Rattle.dots.specs.Values.{Dot}
use Rattle.dots.specs.Orders.{dot_cmp}
use Rattle.dots.proofs.DotOrder.{dots_total, dots_exact}
use Rattle.general_lemmas.proofs.TruthTables.{fact}

apart : (o : Ordering) → is_lt o ≡ true → is_eq o ≡ false
apart Less h = refl
apart Equal h = absurd (cc)
apart Greater h = absurd (cc)

module _ {V : Type 0} where
  -- a dot that lies before all entries is none of them
  none_tied : (d : Dot) (es : List (Dot × V)) → below_all dot_cmp d es ≡ true → list_any (eq_by_cmp dot_cmp d) (each (λ e. e.0) es) ≡ false
  none_tied d [] h = refl
  none_tied d (e ∷ es) h =
      let p = and_parts (is_lt (dot_cmp d e.0)) (below_all dot_cmp d es) h in
      ap (λ b. b || list_any (eq_by_cmp dot_cmp d) (each (λ e. e.0) es)) (apart (dot_cmp d e.0) p.0) ∙ none_tied d es p.1

  -- the keys of entries that rise make a set of as many
  pub len_rising : (es : List (Dot × V)) → map.is_sorted dot_cmp es ≡ true → set.len (set.from_list {R = dot_cmp} (each (λ e. e.0) es)) ≡ length es
  len_rising [] h = set.len-empty dot_cmp
  len_rising (e ∷ es) h =
      let p = and_parts (below_all dot_cmp e.0 es) (map.is_sorted dot_cmp es) h in
      let rest = set.from_list {R = dot_cmp} (each (λ e. e.0) es) in
      set.len-insert dots_total rest e.0
      ∙ ap (λ b. cond b (set.len rest) (set.len rest + 1)) (set.contains-from_list dots_total (each (λ e. e.0) es) e.0 ∙ none_tied e.0 es p.0)
      ∙ ap (λ n. n + 1) (len_rising es p.1) ∙ omega arith

  -- a set that has exactly the keys of a map has as many dots
  pub len_of_keys : (m : map.FinMap dot_cmp V) (s : set.FinSet dot_cmp) → ((q : Dot) → set.contains s q ≡ map.contains_key m q) → set.len s ≡ map.len m
  len_of_keys m s same =
      ap set.len (set.same_set dots_total dots_exact s (set.from_list (map.keys m)) (λ q. same q ∙ map.contains_key-keys m q ∙ sym (set.contains-from_list dots_total (map.keys m) q)))
      ∙ len_rising (map.entries m) (fact _ (map.entries_sorted m))
      ∙ sym (map.len-entries m)
