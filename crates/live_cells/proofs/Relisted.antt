-- The index of cells: what it lists, and how many.
use Rattle.std.proofs.Common.{◌≡◌, true, false, cond, ◌&&◌, ◌||◌, List, [], ◌∷◌, length, map as each, Some, refl, sym, ap, ◌∙◌, subst, inl, inr}
use Rattle.std.specs.FinMap.Entries.{below_all, find}
use Rattle.std.specs.List.{AllByRecursion, IsDistinct, list_any}
use Rattle.std.specs.Option.{option_map, option_map_or}
use Rattle.std.specs.Ordering.{eq_by_cmp, is_lt}
use Rattle.std.proofs.lemmas.Bool.{and_parts, cases_Bool}
use Rattle.std.proofs.lemmas.Cmp.{eq_by_cmp_equiv}
use Rattle.std.proofs.lemmas.List.{length-map}
use Rattle.std.proofs.lemmas.Map.Made.{length-from_same_keys}
use Rattle.std.proofs.Math.Bool.{and-false}
use Rattle.dots.specs.Values.{Dot}
use Rattle.dots.specs.Orders.{dot_cmp, member_cmp}
use Rattle.dots.specs.declared.member.Member.{Member}
use Rattle.general_lemmas.proofs.TruthTables.{first_alone, third_alone}
use Rattle.live_cells.specs.declared.live_dot.LiveDot.{LiveDot}
use Rattle.live_cells.specs.LiveLists.{entries_of, holding, live_of}
use Rattle.live_cells.specs.Index.{IsBelow, IsIndex, Listed, Rises, listed_cmp, listing, listings}
use Rattle.live_cells.proofs.CellLists.{Rise, rise_head, rise_tail}
use Rattle.live_cells.proofs.DotTests.{apart_after, one_dot}
use Rattle.live_cells.proofs.Indexes.{entry, listed_exact, listed_total, rises_head, rises_tail, same_parts}
use Rattle.live_cells.proofs.Rising as rising
use Rattle.live_cells.proofs.Views.{get_live_of}

-- a dot before those of all cells is none of theirs
apart_from : (m : Member) (d : Dot) (c : LiveDot) → is_lt (dot_cmp d c.dot) ≡ true → eq_by_cmp listed_cmp (entry m d) (listing c) ≡ false
apart_from m d c l = same_parts m c.member d c.dot ∙ ap (λ b. eq_by_cmp member_cmp m c.member && b) (apart_after d c.dot l) ∙ and-false (eq_by_cmp member_cmp m c.member)

none_listed : (m : Member) (d : Dot) (cs : List LiveDot) → below_all dot_cmp d (entries_of cs) ≡ true → list_any (eq_by_cmp listed_cmp (entry m d)) (each listing cs) ≡ false
none_listed m d [] h = refl
none_listed m d (c ∷ cs) h =
    let p = and_parts (is_lt (dot_cmp d c.dot)) (below_all dot_cmp d (entries_of cs)) h in
    λ i. apart_from m d c p.0 i || none_listed m d cs p.1 i

-- what is found of a dot is what the entries of cells have of it
pub held_by : (cs : List LiveDot) (m : Member) (d : Dot) → Rise cs → list_any (eq_by_cmp listed_cmp (entry m d)) (each listing cs) ≡ option_map_or (eq_by_cmp member_cmp m) (option_map (λ h. h.0) (find dot_cmp d (entries_of cs))) false
held_by [] m d s = refl
held_by (c ∷ cs) m d s =
    ap (λ b. b || list_any (eq_by_cmp listed_cmp (entry m d)) (each listing cs)) (same_parts m c.member d c.dot) ∙ elim (cases_Bool (eq_by_cmp dot_cmp d c.dot)) [
      | inl t ↦
          let rest = none_listed m d cs (subst (λ x. below_all dot_cmp x (entries_of cs) ≡ true) (sym (one_dot d c.dot t)) (rise_head c cs s)) in
          (λ i. (eq_by_cmp member_cmp m c.member && t i) || rest i) ∙ first_alone (eq_by_cmp member_cmp m c.member)
          ∙ (λ i. option_map_or (eq_by_cmp member_cmp m) (option_map (λ h. h.0) (cond (sym t i) (Some (holding c)) (find dot_cmp d (entries_of cs)))) false)
      | inr f ↦
          (λ i. (eq_by_cmp member_cmp m c.member && f i) || held_by cs m d (rise_tail c cs s) i) ∙ third_alone (eq_by_cmp member_cmp m c.member) _
          ∙ (λ i. option_map_or (eq_by_cmp member_cmp m) (option_map (λ h. h.0) (cond (sym f i) (Some (holding c)) (find dot_cmp d (entries_of cs)))) false)
    ]

-- the entries of cells that rise differ
apart_all : (m : Member) (d : Dot) (cs : List LiveDot) → below_all dot_cmp d (entries_of cs) ≡ true → AllByRecursion (λ y. eq_by_cmp listed_cmp (entry m d) y ≡ false) (each listing cs)
apart_all m d [] h = tt
apart_all m d (c ∷ cs) h =
    let p = and_parts (is_lt (dot_cmp d c.dot)) (below_all dot_cmp d (entries_of cs)) h in
    (apart_from m d c p.0, apart_all m d cs p.1)

pub distinct : (cs : List LiveDot) → Rise cs → IsDistinct (eq_by_cmp listed_cmp) (each listing cs)
unfolding IsDistinct
distinct [] s = tt
distinct (c ∷ cs) s = (apart_all c.member c.dot cs (rise_head c cs s), distinct cs (rise_tail c cs s))

-- without cells the index is empty
pub nothing_listed : (cs : List LiveDot) (index : List Listed) → cs ≡ [] → index ≡ [] → IsIndex index (live_of cs)
nothing_listed cs index none empty = subst (λ xs. IsIndex index (live_of xs)) (sym none) (subst (λ ys. IsIndex ys (live_of [])) (sym empty) (record {
  rises = refl;
  lists = λ m d. sym (ap (λ o. option_map_or (eq_by_cmp member_cmp m) (option_map (λ h. h.0) o) false) (get_live_of [] d refl));
}))

-- entries that rise differ
all_apart : (l : Listed) (ls : List Listed) → IsBelow l ls → AllByRecursion (λ y. eq_by_cmp listed_cmp l y ≡ false) ls
all_apart l [] h = tt
all_apart l (x ∷ ls) h =
    let p = and_parts (is_lt (listed_cmp l x)) (below_all listed_cmp l (listings ls)) h in
    (rising.apart_after listed_cmp listed_total listed_exact l x p.0, all_apart l ls p.1)

rising_distinct : (ls : List Listed) → Rises ls → IsDistinct (eq_by_cmp listed_cmp) ls
unfolding IsDistinct
rising_distinct [] r = tt
rising_distinct (l ∷ ls) r = (all_apart l ls (rises_head l ls r), rising_distinct ls (rises_tail l ls r))

-- the index has as many entries as there are cells
pub as_many : (cs : List LiveDot) (index : List Listed) → Rise cs → IsIndex index (live_of cs) → length index ≡ length cs
as_many cs index s is =
    length-from_same_keys (eq_by_cmp_equiv listed_total) index (each listing cs) (rising_distinct index is.rises) (distinct cs s) (λ q.
    is.lists q.member q.dot ∙ ap (λ o. option_map_or (eq_by_cmp member_cmp q.member) (option_map (λ h. h.0) o) false) (get_live_of cs q.dot s) ∙ sym (held_by cs q.member q.dot s))
    ∙ length-map cs listing
