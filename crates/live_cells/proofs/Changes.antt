-- What is live after one more dot is dead, or live.
use Rattle.std.proofs.Common.{◌≡◌, ℕ, suc, zero, ◌<◌, Bool, true, false, not, cond, ◌&&◌, List, [], ◌∷◌, length, get_or, set, Option, Some, None, refl, sym, ap, ◌∙◌, subst, inl, inr, arith}
use Rattle.std.specs.Prelude.{T}
use Rattle.std.specs.declared.cmp.Ordering.TheVariants.{Equal}
use Rattle.std.proofs.lemmas.Cmp.{eq_by_cmp_equiv}
use Rattle.std.specs.List.{insert, remove}
use Rattle.std.specs.Option.{option_map}
use Rattle.std.specs.Ordering.{eq_by_cmp, is_lt}
use Rattle.std.specs.FinMap as maps
use Rattle.std.specs.FinMap.Entries.{find, find-where_key, find-put, is_sorted-where_key, is_sorted-put, below_all}
use Rattle.std.proofs.lemmas.Bool.{cases_Bool}
use Rattle.dots.specs.Values.{Dot}
use Rattle.dots.specs.Orders.{dot_cmp}
use Rattle.dots.proofs.DotOrder.{dots_total, dots_exact}
use Rattle.general_lemmas.proofs.TruthTables.{truth, fact}
use Rattle.live_cells.specs.declared.live_dot.LiveDot.{LiveDot}
use Rattle.live_cells.specs.LiveLists.{IsCellAt, IsGap, holding, entries_of, live_of}
use Rattle.live_cells.proofs.DotTests.{one_dot}
use Rattle.live_cells.proofs.CellLists.{Rise, missed_at, removed_at, put_at, set_at}
use Rattle.live_cells.proofs.Views.{get_live_of}
use Rattle.live_cells.specs.Holdings.{Holding}

-- a cell that is taken out
pub taken_sorted : (cs : List LiveDot) (d : Dot) (i : ℕ) (e : LiveDot) → Rise cs → IsCellAt cs d i → Rise (remove cs i)
taken_sorted cs d i e s at = fact _ (subst (λ es. T (maps.is_sorted dot_cmp es)) (sym (removed_at d cs i e s at.within at.before (at.here e))) (is_sorted-where_key dot_cmp (λ x. not (eq_by_cmp dot_cmp d x)) (entries_of cs) (truth _ s)))

eq_back : (d q : Dot) → eq_by_cmp dot_cmp d q ≡ eq_by_cmp dot_cmp q d
eq_back d q = (eq_by_cmp_equiv dots_total).symm d q

alike : (d q x : Dot) → dot_cmp q x ≡ Equal → not (eq_by_cmp dot_cmp d x) ≡ not (eq_by_cmp dot_cmp d q)
alike d q x h = ap (λ y. not (eq_by_cmp dot_cmp d y)) (sym (dots_exact q x h))

turned : {A : Type 0} (b : Bool) (x y : A) → cond (not b) x y ≡ cond b y x
turned true x y = refl
turned false x y = refl

pub taken_live : (cs : List LiveDot) (d : Dot) (i : ℕ) (e : LiveDot) → Rise cs → IsCellAt cs d i → live_of (remove cs i) ≡ maps.remove (live_of cs) d
taken_live cs d i e s at = maps.same_map dots_total dots_exact _ _ (λ q.
    get_live_of (remove cs i) q (taken_sorted cs d i e s at)
    ∙ ap (find dot_cmp q) (removed_at d cs i e s at.within at.before (at.here e))
    ∙ find-where_key dot_cmp (λ x. not (eq_by_cmp dot_cmp d x)) q (alike d q) (entries_of cs)
    ∙ turned (eq_by_cmp dot_cmp d q) _ _
    ∙ ap (λ b. cond b None (find dot_cmp q (entries_of cs))) (eq_back d q)
    ∙ ap (cond (eq_by_cmp dot_cmp q d) None) (sym (get_live_of cs q s))
    ∙ sym (maps.get-remove dots_total (live_of cs) d q))

-- nothing is taken out where there is no cell
pub missed_live : (cs : List LiveDot) (d : Dot) (i : ℕ) → Rise cs → IsGap cs d i → live_of cs ≡ maps.remove (live_of cs) d
missed_live cs d i s gap = maps.same_map dots_total dots_exact _ _ (λ q. elim (cases_Bool (eq_by_cmp dot_cmp q d)) [
  | inl t ↦ get_live_of cs q s ∙ ap (λ x. find dot_cmp x (entries_of cs)) (one_dot q d t) ∙ missed_at d cs i s gap.before gap.within gap.after
      ∙ ap (λ b. cond b None (maps.get (live_of cs) q)) (sym t) ∙ sym (maps.get-remove dots_total (live_of cs) d q)
  | inr f ↦ ap (λ b. cond b None (maps.get (live_of cs) q)) (sym f) ∙ sym (maps.get-remove dots_total (live_of cs) d q)
])

-- a cell whose dot stays leaves the order
below_set : (d : Dot) (cs : List LiveDot) (i : ℕ) (x j : LiveDot) → i < length cs → x ≡ get_or cs i x → j.dot ≡ x.dot → below_all dot_cmp d (entries_of (set cs i j)) ≡ below_all dot_cmp d (entries_of cs)
below_set d [] i x j l at e = refl
below_set d (c ∷ cs) zero x j l at e = ap (λ y. is_lt (dot_cmp d y) && below_all dot_cmp d (entries_of cs)) (e ∙ ap (λ y. y.dot) at)
below_set d (c ∷ cs) (suc i) x j l at e = ap (λ b. is_lt (dot_cmp d c.dot) && b) (below_set d cs i x j (omega arith) at e)

sorted_set : (cs : List LiveDot) (i : ℕ) (x j : LiveDot) → i < length cs → x ≡ get_or cs i x → j.dot ≡ x.dot → maps.is_sorted dot_cmp (entries_of (set cs i j)) ≡ maps.is_sorted dot_cmp (entries_of cs)
sorted_set [] i x j l at e = refl
sorted_set (c ∷ cs) zero x j l at e = ap (λ y. below_all dot_cmp y (entries_of cs) && maps.is_sorted dot_cmp (entries_of cs)) (e ∙ ap (λ y. y.dot) at)
sorted_set (c ∷ cs) (suc i) x j l at e = λ k. below_set c.dot cs i x j (omega arith) at e k && sorted_set cs i x j (omega arith) at e k

-- a cell that takes the place of another of its dot and member leaves all members
members_set : (cs : List LiveDot) (i : ℕ) (x j : LiveDot) (q : Dot) → i < length cs → x ≡ get_or cs i x → j.dot ≡ x.dot → j.member ≡ x.member
    → option_map (λ h. h.0) (find dot_cmp q (entries_of (set cs i j))) ≡ option_map (λ h. h.0) (find dot_cmp q (entries_of cs))
members_set [] i x j q l at e m = refl
members_set (c ∷ cs) zero x j q l at e m =
    ap (λ d. option_map (λ h. h.0) (cond (eq_by_cmp dot_cmp q d) (Some (holding j)) (find dot_cmp q (entries_of cs)))) (e ∙ ap (λ y. y.dot) at) ∙ first (eq_by_cmp dot_cmp q c.dot)
  where
    first : (b : Bool) → option_map (λ h. h.0) (cond b (Some (holding j)) (find dot_cmp q (entries_of cs))) ≡ option_map (λ h. h.0) (cond b (Some (holding c)) (find dot_cmp q (entries_of cs)))
    first true = ap Some (m ∙ ap (λ y. y.member) at)
    first false = refl
members_set (c ∷ cs) (suc i) x j q l at e m = rest (eq_by_cmp dot_cmp q c.dot) (find dot_cmp q (entries_of (set cs i j))) (members_set cs i x j q (omega arith) at e m)
  where
    rest : (b : Bool) (o : Option Holding) → option_map (λ h. h.0) o ≡ option_map (λ h. h.0) (find dot_cmp q (entries_of cs)) → option_map (λ h. h.0) (cond b (Some (holding c)) o) ≡ option_map (λ h. h.0) (cond b (Some (holding c)) (find dot_cmp q (entries_of cs)))
    rest true o h = refl
    rest false o h = h

pub met_members : (cs : List LiveDot) (i : ℕ) (x j : LiveDot) (q : Dot) → Rise cs → i < length cs → x ≡ get_or cs i x → j.dot ≡ x.dot → j.member ≡ x.member
    → option_map (λ h. h.0) (maps.get (live_of (set cs i j)) q) ≡ option_map (λ h. h.0) (maps.get (live_of cs) q)
met_members cs i x j q s l at e m =
    ap (option_map (λ h. h.0)) (get_live_of (set cs i j) q (sorted_set cs i x j l at e ∙ s)) ∙ members_set cs i x j q l at e m ∙ ap (option_map (λ h. h.0)) (sym (get_live_of cs q s))

brought_sorted : (cs : List LiveDot) (i : ℕ) (c : LiveDot) → Rise cs → IsGap cs c.dot i → Rise (insert cs i c)
brought_sorted cs i c s gap = fact _ (subst (λ es. T (maps.is_sorted dot_cmp es)) (sym (put_at cs i c s gap.within gap.before gap.after)) (is_sorted-put dot_cmp dots_total c.dot (holding c) (entries_of cs) (truth _ s)))

pub brought_live : (cs : List LiveDot) (i : ℕ) (c : LiveDot) (q : Dot) → Rise cs → IsGap cs c.dot i → maps.get (live_of (insert cs i c)) q ≡ cond (eq_by_cmp dot_cmp q c.dot) (Some (holding c)) (maps.get (live_of cs) q)
brought_live cs i c q s gap =
    get_live_of (insert cs i c) q (brought_sorted cs i c s gap) ∙ ap (find dot_cmp q) (put_at cs i c s gap.within gap.before gap.after)
    ∙ find-put dot_cmp dots_total q c.dot (holding c) (entries_of cs) ∙ ap (cond (eq_by_cmp dot_cmp q c.dot) (Some (holding c))) (sym (get_live_of cs q s))

-- a cell that takes the place of another of its dot
pub met_live : (cs : List LiveDot) (i : ℕ) (x j : LiveDot) (q : Dot) → Rise cs → IsCellAt cs j.dot i → x ≡ get_or cs i x → maps.get (live_of (set cs i j)) q ≡ cond (eq_by_cmp dot_cmp q j.dot) (Some (holding j)) (maps.get (live_of cs) q)
met_live cs i x j q s at is =
    get_live_of (set cs i j) q (sorted_set cs i x j at.within is (at.here x ∙ ap (λ y. y.dot) (sym is)) ∙ s) ∙ ap (find dot_cmp q) (set_at cs i j x s at.within (at.here x))
    ∙ find-put dot_cmp dots_total q j.dot (holding j) (entries_of cs) ∙ ap (cond (eq_by_cmp dot_cmp q j.dot) (Some (holding j))) (sym (get_live_of cs q s))

-- a dot that has a gap isn't live
pub gap_live : (cs : List LiveDot) (d : Dot) (i : ℕ) → Rise cs → IsGap cs d i → maps.get (live_of cs) d ≡ None
gap_live cs d i s gap = get_live_of cs d s ∙ missed_at d cs i s gap.before gap.within gap.after
