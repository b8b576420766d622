-- Rows and interfaces, one after the other.
use Rattle.std.proofs.Common.{◌≡◌, ℕ, Bool, ◌||◌, List, ◌∷◌, Option, Some, None, option_map, T, Bor, map as each, sym, ap, ◌∙◌}
use Rattle.std.specs.List.{list_any, filter_map, cons_option}
use Rattle.std.specs.List.Sorted.{IsStrictlySortedBy}
use Rattle.std.specs.BTreeSet.{insert_key}
use Rattle.std.specs.Option.{option_and_then}
use Rattle.std.specs.FinMap as map
use Rattle.std.specs.FinSet as set
use Rattle.std.specs.Ordering.{eq_by_cmp}
use Rattle.std.proofs.lemmas.Cmp.{nat_list_cmp_total}
use Rattle.dots.specs.Values.{Dot}
use Rattle.dots.specs.Orders.{text_cmp}
use Rattle.operations.specs.Knowledge.{Knowledge, member_of}
use Rattle.operations.specs.Rows.{DotView, MemberRow, dot_view, interface_in, interfaces_of, row_of}
use Rattle.general_lemmas.specs.SetItems.{in_order}
use Rattle.general_lemmas.proofs.ItemOrder.{units, in_order_list}
use Rattle.general_lemmas.proofs.TruthTables.{truth}
use Rattle.reference_model.proofs.SetSteps.{any_insert, each_insert, rises}

-- the row of an interface in a queue, with the interface
abbrev pub row_at : Knowledge → ℕ → List ℕ → Option (List ℕ × MemberRow)
row_at k queue interface = option_map (λ row. (interface, row)) (row_of (dot_view k) (record { queue = queue; interface = interface }))

-- the interface of a dot's member, where that is in the queue
abbrev pub interface_at : Knowledge → ℕ → Dot → Option (List ℕ)
interface_at k queue dot = option_and_then (interface_in queue) (member_of k dot)

-- ---- the interfaces
-- keys that rise and are the interfaces of the visible dots in the queue
pub interface_list : (r : DotView) (queue : ℕ) (found : List (Bor (List ℕ)))
    → ((q : List ℕ) → list_any (eq_by_cmp text_cmp q) (each (λ i. i.now) found) ≡ list_any (eq_by_cmp text_cmp q) (filter_map (λ dot. option_and_then (interface_in queue) (r.member dot)) (in_order r.visible)))
    → IsStrictlySortedBy (λ a b. text_cmp a.now b.now) found
    → each (λ i. i.now) found ≡ in_order (interfaces_of r queue)
unfolding interfaces_of
interface_list r queue found has sorted =
    let texts = each (λ (i : Bor (List ℕ)). i.now) found in
    let rising : T (map.is_sorted text_cmp (units texts)) = truth (map.is_sorted text_cmp (units texts)) (rises text_cmp (λ (i : Bor (List ℕ)). i.now) found sorted) in
    sym (in_order_list nat_list_cmp_total (set.slice_cmp-IsAntisymmetric set.nat_cmp-IsAntisymmetric) (interfaces_of r queue) texts rising (λ q.
    set.contains-from_list nat_list_cmp_total (filter_map (λ dot. option_and_then (interface_in queue) (r.member dot)) (in_order r.visible)) q ∙ sym (has q)))

-- a set of interfaces with one more
pub one_interface_more : (q : List ℕ) (key : Bor (List ℕ)) (old new : List (Bor (List ℕ))) → new ≡ insert_key (λ a b. text_cmp a.now b.now) old key
    → list_any (eq_by_cmp text_cmp q) (each (λ i. i.now) new) ≡ (list_any (eq_by_cmp text_cmp q) (each (λ i. i.now) old) || eq_by_cmp text_cmp q key.now)
one_interface_more q key old new is =
    let now : Bor (List ℕ) → List ℕ = λ i. i.now in
    ap (λ ks. list_any (eq_by_cmp text_cmp q) (each now ks)) is
    ∙ ap (list_any (eq_by_cmp text_cmp q)) (each_insert text_cmp now key old)
    ∙ any_insert text_cmp nat_list_cmp_total q key.now (each now old)

module _ (k : Knowledge) (queue : ℕ) (q : List ℕ) (dot : Dot) (left rest : List Dot) (is : left ≡ dot ∷ rest) where
  any_at : Option (List ℕ) → Bool
  any_at o = list_any (eq_by_cmp text_cmp q) (cons_option o (filter_map (interface_at k queue) rest))

  -- a dot of a member in the queue
  pub interface_first : (i : List ℕ) → Some i ≡ interface_at k queue dot
      → list_any (eq_by_cmp text_cmp q) (filter_map (interface_at k queue) left) ≡ (eq_by_cmp text_cmp q i || list_any (eq_by_cmp text_cmp q) (filter_map (interface_at k queue) rest))
  unfolding any_at
  interface_first i gives = ap (λ ds. list_any (eq_by_cmp text_cmp q) (filter_map (interface_at k queue) ds)) is ∙ ap any_at (sym gives)

  -- one of another
  pub interface_absent : None ≡ interface_at k queue dot
      → list_any (eq_by_cmp text_cmp q) (filter_map (interface_at k queue) left) ≡ list_any (eq_by_cmp text_cmp q) (filter_map (interface_at k queue) rest)
  unfolding any_at
  interface_absent gives = ap (λ ds. list_any (eq_by_cmp text_cmp q) (filter_map (interface_at k queue) ds)) is ∙ ap any_at (sym gives)
