-- The dots that an index lists under a member are the member's dots, as they are read of the cells.
use Rattle.std.proofs.Common.{◌≡◌, Bool, true, false, cond, ◌&&◌, ◌||◌, List, [], ◌∷◌, map as each, Option, Some, None, filter, is_some, refl, sym, ap, ◌∙◌, inl, inr}
use Rattle.std.specs.List.{list_any}
use Rattle.std.specs.Option.{option_map, option_map_or}
use Rattle.std.specs.FinMap as maps
use Rattle.std.specs.FinMap.Entries.{below_all, is_sorted, is_sorted-where_key, where_key}
use Rattle.std.specs.FinSet as sets
use Rattle.std.specs.Ordering.{eq_by_cmp, is_lt}
use Rattle.std.specs.Cmp.{tied_then}
use Rattle.std.proofs.lemmas.Bool.{and_from, and_parts, cases_Bool}
use Rattle.std.proofs.lemmas.Map.Views.{any-filter_same}
use Rattle.std.proofs.Math.Bool.{and-true}
use Rattle.dots.specs.declared.member.Member.{Member}
use Rattle.dots.specs.Values.{Dot}
use Rattle.dots.specs.Orders.{dot_cmp, member_cmp}
use Rattle.operations.specs.Rows.{dots_of, is_of}
use Rattle.general_lemmas.specs.SetItems.{in_order}
use Rattle.dots.proofs.DotOrder.{dots_total, dots_exact}
use Rattle.general_lemmas.proofs.ItemOrder.{in_order_keys, in_order_list, units}
use Rattle.general_lemmas.proofs.TruthTables.{truth, fact}
use Rattle.live_cells.specs.Index.{Listed}
use Rattle.live_cells.specs.declared.live_dot.LiveDot.{LiveDot}
use Rattle.live_cells.specs.LiveLists.{entries_of, live_of}
use Rattle.live_cells.specs.Index.{IsIndex, Rises, is_held, is_listed, listed_cmp, listings}
use Rattle.live_cells.specs.ShownRows.{cells_view, dots_listed, group, is_own}
use Rattle.live_cells.proofs.CellLists.{Rise, rise_head, rise_tail}
use Rattle.live_cells.proofs.DotTests.{one_dot}
use Rattle.live_cells.proofs.Indexes.{rises_head, rises_tail}
use Rattle.live_cells.proofs.MemberOrder.{by_dots, one_member}
use Rattle.live_cells.proofs.Views.{entries_live_of}
use Rattle.live_cells.specs.Holdings.{Holding}

-- dots rise
abbrev Ascend : List Dot → Type 0
Ascend ds = is_sorted dot_cmp (units ds) ≡ true

-- dots that rise in two lists, and are the same in both, are one list
same_dots : (ds es : List Dot) → Ascend ds → Ascend es → ((q : Dot) → list_any (eq_by_cmp dot_cmp q) ds ≡ list_any (eq_by_cmp dot_cmp q) es) → ds ≡ es
same_dots ds es a b same =
    sym (in_order_list dots_total dots_exact (sets.from_list ds) ds (truth _ a) (λ q. sets.contains-from_list dots_total ds q))
    ∙ in_order_list dots_total dots_exact (sets.from_list ds) es (truth _ b) (λ q. sets.contains-from_list dots_total ds q ∙ same q)

-- the dots of a member's entries rise
below_own : (m : Member) (l : Listed) (ls : List Listed) → is_own m l ≡ true → below_all listed_cmp l (listings ls) ≡ true → below_all dot_cmp l.dot (units (dots_listed (group m ls))) ≡ true
below_own m l [] o h = refl
below_own m l (x ∷ ls) o h =
    let p = and_parts (is_lt (listed_cmp l x)) (below_all listed_cmp l (listings ls)) h in
    elim (cases_Bool (is_own m x)) [
      | inl t ↦ ap (λ b. below_all dot_cmp l.dot (units (dots_listed (cond b (x ∷ group m ls) (group m ls))))) t
          ∙ and_from (is_lt (dot_cmp l.dot x.dot)) (below_all dot_cmp l.dot (units (dots_listed (group m ls)))) (by_dots l x (sym (one_member m l.member o) ∙ one_member m x.member t) p.0) (below_own m l ls o p.1)
      | inr f ↦ ap (λ b. below_all dot_cmp l.dot (units (dots_listed (cond b (x ∷ group m ls) (group m ls))))) f ∙ below_own m l ls o p.1
    ]

own_ascend : (m : Member) (ls : List Listed) → Rises ls → Ascend (dots_listed (group m ls))
own_ascend m [] r = refl
own_ascend m (l ∷ ls) r = elim (cases_Bool (is_own m l)) [
  | inl t ↦ ap (λ b. is_sorted dot_cmp (units (dots_listed (cond b (l ∷ group m ls) (group m ls))))) t
      ∙ and_from (below_all dot_cmp l.dot (units (dots_listed (group m ls)))) (is_sorted dot_cmp (units (dots_listed (group m ls)))) (below_own m l ls t (rises_head l ls r)) (own_ascend m ls (rises_tail l ls r))
  | inr f ↦ ap (λ b. is_sorted dot_cmp (units (dots_listed (cond b (l ∷ group m ls) (group m ls))))) f ∙ own_ascend m ls (rises_tail l ls r)
]

-- the dots of a member's entries are those listed under the member
own_listed : (m : Member) (q : Dot) (ls : List Listed) → list_any (eq_by_cmp dot_cmp q) (dots_listed (group m ls)) ≡ is_listed ls m q
own_listed m q [] = refl
own_listed m q (l ∷ ls) = elim (cases_Bool (is_own m l)) [
  | inl t ↦ ap (λ b. list_any (eq_by_cmp dot_cmp q) (dots_listed (cond b (l ∷ group m ls) (group m ls)))) t
      ∙ (λ i. (ap (λ b. b && eq_by_cmp dot_cmp q l.dot) (sym t) ∙ tied_then (member_cmp m l.member) (dot_cmp q l.dot)) i || own_listed m q ls i)
  | inr f ↦ ap (λ b. list_any (eq_by_cmp dot_cmp q) (dots_listed (cond b (l ∷ group m ls) (group m ls)))) f
      ∙ (λ i. (ap (λ b. b && eq_by_cmp dot_cmp q l.dot) (sym f) ∙ tied_then (member_cmp m l.member) (dot_cmp q l.dot)) i || own_listed m q ls i)
]

-- the dots of cells rise, and so do those that a test keeps
below_cells : (d : Dot) (cs : List LiveDot) → below_all dot_cmp d (units (each (λ c. c.dot) cs)) ≡ below_all dot_cmp d (entries_of cs)
below_cells d [] = refl
below_cells d (c ∷ cs) = ap (λ b. is_lt (dot_cmp d c.dot) && b) (below_cells d cs)

cells_ascend : (cs : List LiveDot) → Rise cs → Ascend (each (λ c. c.dot) cs)
cells_ascend [] s = refl
cells_ascend (c ∷ cs) s =
    and_from (below_all dot_cmp c.dot (units (each (λ x. x.dot) cs))) (is_sorted dot_cmp (units (each (λ x. x.dot) cs))) (below_cells c.dot cs ∙ rise_head c cs s) (cells_ascend cs (rise_tail c cs s))

units_kept : (p : Dot → Bool) (ds : List Dot) → where_key dot_cmp p (units ds) ≡ units (filter p ds)
units_kept p [] = refl
units_kept p (d ∷ ds) = ap (λ es. cond (p d) ((d, tt) ∷ es) es) (units_kept p ds) ∙ pushed (p d) (filter p ds)
  where
    pushed : (b : Bool) (xs : List Dot) → cond b ((d, tt {0}) ∷ units xs) (units xs) ≡ units (cond b (d ∷ xs) xs)
    pushed true xs = refl
    pushed false xs = refl

kept_ascend : (p : Dot → Bool) (ds : List Dot) → Ascend ds → Ascend (filter p ds)
kept_ascend p ds a = ap (is_sorted dot_cmp) (sym (units_kept p ds)) ∙ fact _ (is_sorted-where_key dot_cmp p (units ds) (truth _ a))

-- the live dots in order are those of the cells
keys_entries : (cs : List LiveDot) → each (λ e. e.0) (entries_of cs) ≡ each (λ c. c.dot) cs
keys_entries [] = refl
keys_entries (c ∷ cs) = ap (λ ks. c.dot ∷ ks) (keys_entries cs)

visible : (cs : List LiveDot) → Rise cs → in_order (cells_view cs).visible ≡ each (λ c. c.dot) cs
visible cs s =
    in_order_keys dots_total dots_exact (sets.from_list (maps.keys (live_of cs))) (live_of cs) (λ q. sets.contains-from_list dots_total (maps.keys (live_of cs)) q ∙ sym (maps.contains_key-keys (live_of cs) q))
    ∙ ap (each (λ e. e.0)) (entries_live_of cs s) ∙ keys_entries cs

live_any : (cs : List LiveDot) (q : Dot) → Rise cs → list_any (eq_by_cmp dot_cmp q) (each (λ c. c.dot) cs) ≡ maps.contains_key (live_of cs) q
live_any cs q s =
    sym (maps.contains_key-keys (live_of cs) q ∙ ap (λ es. list_any (eq_by_cmp dot_cmp q) (each (λ e. e.0) es)) (entries_live_of cs s) ∙ ap (list_any (eq_by_cmp dot_cmp q)) (keys_entries cs))

-- a dot that is held is live
held_live : (m : Member) (o : Option Holding) → (option_map_or (eq_by_cmp member_cmp m) (option_map (λ h. h.0) o) false && is_some o) ≡ option_map_or (eq_by_cmp member_cmp m) (option_map (λ h. h.0) o) false
held_live m None = refl
held_live m (Some h) = and-true (eq_by_cmp member_cmp m h.0)

-- the dots of the cells that a member has are those that are held under it
kept_held : (cs : List LiveDot) (m : Member) (q : Dot) → Rise cs → list_any (eq_by_cmp dot_cmp q) (filter (is_held (live_of cs) m) (each (λ c. c.dot) cs)) ≡ is_held (live_of cs) m q
kept_held cs m q s =
    any-filter_same (eq_by_cmp dot_cmp q) (is_held (live_of cs) m) (is_held (live_of cs) m q) (λ k t. ap (is_held (live_of cs) m) (sym (one_dot q k t))) (each (λ c. c.dot) cs)
    ∙ ap (λ b. is_held (live_of cs) m q && b) (live_any cs q s) ∙ held_live m (maps.get (live_of cs) q)

-- the dots of a member are those that the index of the cells lists under it
pub dots_are : (cs : List LiveDot) (index : List Listed) (m : Member) → Rise cs → IsIndex index (live_of cs) → dots_listed (group m index) ≡ dots_of (cells_view cs) m
dots_are cs index m s is =
    same_dots (dots_listed (group m index)) (filter (is_of (cells_view cs) m) (each (λ c. c.dot) cs)) (own_ascend m index is.rises) (kept_ascend (is_of (cells_view cs) m) (each (λ c. c.dot) cs) (cells_ascend cs s))
    (λ q. own_listed m q index ∙ is.lists m q ∙ sym (kept_held cs m q s))
    ∙ ap (filter (is_of (cells_view cs) m)) (sym (visible cs s))
