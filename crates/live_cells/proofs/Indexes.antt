-- The index of members, after one entry more or one less, and what it lists of the live dots then.
use Rattle.std.proofs.Common.{◌≡◌, ◌≢◌, ℕ, suc, zero, ◌≤◌, ◌<◌, Bool, true, false, not, cond, ◌&&◌, ◌||◌, List, [], ◌∷◌, length, get_or, Option, Some, None, T, refl, sym, ap, ◌∙◌, subst, inl, inr, arith}
use Rattle.std.specs.Prelude.{is_some}
use Rattle.std.specs.Cmp.{IsTotalOrder, tied_then}
use Rattle.std.specs.FinMap as maps
use Rattle.std.specs.FinMap.Entries.{below_all, find, find-put, find-where_key, is_sorted, is_sorted-put, is_sorted-where_key}
use Rattle.std.specs.List.{AllWithin, insert, list_any, remove}
use Rattle.std.specs.List.Sorted.{IsPartitionedBy}
use Rattle.std.specs.Option.{option_map, option_map_or}
use Rattle.std.specs.Ordering.{eq_by_cmp, is_lt}
use Rattle.std.proofs.lemmas.Bool.{and_parts, cases_Bool, true≢false}
use Rattle.std.proofs.lemmas.Cmp.{eq_by_cmp_equiv, on_total, then_total}
use Rattle.std.proofs.lemmas.List.Folds.{list_any_at}
use Rattle.std.proofs.lemmas.Map.Lookups.{exact_pairs}
use Rattle.dots.specs.Values.{Dot}
use Rattle.dots.specs.Orders.{dot_cmp, member_cmp}
use Rattle.dots.specs.declared.member.Member.{Member}
use Rattle.dots.proofs.DotOrder.{dots_total, dots_exact}
use Rattle.dots.proofs.MemberOrder.{members_total, exact_members}
use Rattle.general_lemmas.proofs.TruthTables.{first_alone, third_alone, truth, fact}
use Rattle.live_cells.specs.Index.{Listed}
use Rattle.live_cells.specs.Index.{IsBelow, IsIndex, IsPlaceFor, Rises, is_held, is_listed, listed_cmp, listings}
use Rattle.live_cells.proofs.DotTests.{one_dot}
use Rattle.live_cells.proofs.Rising as rising
use Rattle.live_cells.specs.Holdings.{Holding}

-- entries are in a total order, in which only equal ones tie
pub listed_total : IsTotalOrder listed_cmp
listed_total = then_total (on_total (λ (l : Listed). l.member) members_total) (on_total (λ (l : Listed). l.dot) dots_total)

pub listed_exact : maps.IsAntisymmetric listed_cmp
listed_exact a b h =
    ap (λ (p : Member × Dot). let l : Listed = record { member = p.0; dot = p.1 } in l)
    (exact_pairs member_cmp dot_cmp exact_members dots_exact (a.member, a.dot) (b.member, b.dot) h)

-- entries that rise
pub rises_tail : (l : Listed) (ls : List Listed) → Rises (l ∷ ls) → Rises ls
rises_tail = rising.rise_tail listed_cmp listed_total listed_exact (λ x. x) (λ x. tt)

pub rises_head : (l : Listed) (ls : List Listed) → Rises (l ∷ ls) → IsBelow l ls
rises_head = rising.rise_head listed_cmp listed_total listed_exact (λ x. x) (λ x. tt)

pub below_from : (l x : Listed) (ls : List Listed) → is_lt (listed_cmp l x) ≡ true → IsBelow x ls → IsBelow l ls
below_from = rising.below_from listed_cmp listed_total listed_exact (λ x. x) (λ x. tt)

-- the entries that pass a test come first, if each entry before a passing one passes
pub partitioned_by : (p : Listed → Bool) → ((a b : Listed) → is_lt (listed_cmp a b) ≡ true → p b ≡ true → p a ≡ true) → (ls : List Listed) → Rises ls → IsPartitionedBy p ls
partitioned_by = rising.partitioned_by listed_cmp listed_total listed_exact (λ x. x) (λ x. tt)

-- an entry of a member and a dot
abbrev pub entry : Member → Dot → Listed
entry member dot = record { member = member; dot = dot }

-- two entries are one where members and dots are
pub same_parts : (m n : Member) (d e : Dot) → eq_by_cmp listed_cmp (entry m d) (entry n e) ≡ (eq_by_cmp member_cmp m n && eq_by_cmp dot_cmp d e)
same_parts m n d e = sym (tied_then (member_cmp m n) (dot_cmp d e))

-- what the index has is what is found in it
any_find : (q : Listed) (index : List Listed) → list_any (eq_by_cmp listed_cmp q) index ≡ is_some (find listed_cmp q (listings index))
any_find q [] = refl
any_find q (l ∷ index) = ap (λ b. eq_by_cmp listed_cmp q l || b) (any_find q index) ∙ one (eq_by_cmp listed_cmp q l) (find listed_cmp q (listings index))
  where
    one : (b : Bool) (o : Option (Unit {0})) → (b || is_some o) ≡ is_some (cond b (Some tt) o)
    one true o = refl
    one false o = refl

-- an entry that isn't listed is another than each
other : (q : Listed) (index : List Listed) (i : ℕ) (e : Listed) → i < length index → list_any (eq_by_cmp listed_cmp q) index ≡ false → q ≢ get_or index i e
other q index i e within none same = absurd (true≢false (sym (list_any_at (eq_by_cmp listed_cmp q) index i e within (rising.same_tied listed_cmp listed_total listed_exact q (get_or index i e) same)) ∙ none))

-- one more entry, at its place
module _ (index : List Listed) (i : ℕ) (l : Listed) (at : IsPlaceFor index l i) (none : is_listed index l.member l.dot ≡ false) where
  put : Rises index → listings (insert index i l) ≡ maps.Entries.put listed_cmp l tt (listings index)
  put s = rising.put_at listed_cmp listed_total listed_exact (λ x. x) (λ x. tt) index i l s at.within at.before
      (λ e k. rising.after listed_cmp listed_total listed_exact (get_or index i e) l (λ same. other l index i e k none (sym same)) (at.past i e (omega arith) k))

  pub more_rises : Rises index → Rises (insert index i l)
  more_rises s = fact _ (subst (λ es. T (is_sorted listed_cmp es)) (sym (put s)) (is_sorted-put listed_cmp listed_total l tt (listings index) (truth _ s)))

  pub more_lists : Rises index → (m : Member) (dot : Dot) → is_listed (insert index i l) m dot ≡ (eq_by_cmp listed_cmp (entry m dot) l || is_listed index m dot)
  more_lists s m dot =
      any_find (entry m dot) (insert index i l) ∙ ap (λ es. is_some (find listed_cmp (entry m dot) es)) (put s)
      ∙ ap is_some (find-put listed_cmp listed_total (entry m dot) l tt (listings index))
      ∙ one (eq_by_cmp listed_cmp (entry m dot) l) (find listed_cmp (entry m dot) (listings index))
      ∙ ap (λ b. eq_by_cmp listed_cmp (entry m dot) l || b) (sym (any_find (entry m dot) index))
    where
      one : (b : Bool) (o : Option (Unit {0})) → is_some (cond b (Some tt) o) ≡ (b || is_some o)
      one true o = refl
      one false o = refl

-- an entry that is listed stands where those that lie before it end
pub later : (l c : Listed) (index : List Listed) → below_all listed_cmp c (listings index) ≡ true → list_any (eq_by_cmp listed_cmp l) index ≡ true → is_lt (listed_cmp c l) ≡ true
later l c [] below any = absurd (cc)
later l c (x ∷ index) below any =
    let p = and_parts (is_lt (listed_cmp c x)) (below_all listed_cmp c (listings index)) below in
    elim (cases_Bool (eq_by_cmp listed_cmp l x)) [
      | inl t ↦ ap (λ y. is_lt (listed_cmp c y)) (rising.one_key listed_cmp listed_total listed_exact l x t) ∙ p.0
      | inr f ↦ later l c index p.1 (ap (λ b. b || list_any (eq_by_cmp listed_cmp l) index) (sym f) ∙ any)
    ]

pub stands : (l : Listed) (index : List Listed) (i : ℕ) → Rises index → i ≤ length index → AllWithin (λ x. is_lt (listed_cmp x l) ≡ true) index 0 i → AllWithin (λ x. is_lt (listed_cmp x l) ≡ false) index i (length index)
    → list_any (eq_by_cmp listed_cmp l) index ≡ true → (i < length index) × ((e : Listed) → l ≡ get_or index i e)
stands l [] i rise within before past any = absurd (cc)
stands l (c ∷ index) zero rise within before past any = elim (cases_Bool (eq_by_cmp listed_cmp l c)) [
  | inl t ↦ (omega arith, λ e. rising.one_key listed_cmp listed_total listed_exact l c t)
  | inr f ↦ absurd (true≢false (
      sym (later l c index (and_parts (below_all listed_cmp c (listings index)) (is_sorted listed_cmp (listings index)) rise).0 (ap (λ b. b || list_any (eq_by_cmp listed_cmp l) index) (sym f) ∙ any))
      ∙ past 0 c (omega arith) (omega arith)))
]
stands l (c ∷ index) (suc i) rise within before past any =
    let rest = stands l index i (and_parts (below_all listed_cmp c (listings index)) (is_sorted listed_cmp (listings index)) rise).1 (omega arith) (λ k e lo hi. before (suc k) e (omega arith) (omega arith)) (λ k e lo hi. past (suc k) e (omega arith) (omega arith))
    (ap (λ b. b || list_any (eq_by_cmp listed_cmp l) index) (sym (rising.apart listed_cmp listed_total listed_exact c l (before 0 c (omega arith) (omega arith)))) ∙ any) in
    let inside = rest.0 in (omega arith, rest.1)

-- one entry less, at its place
module _ (index : List Listed) (i : ℕ) (l : Listed) (rise : Rises index) (at : IsPlaceFor index l i) (there : is_listed index l.member l.dot ≡ true) where
  pub stands_within : i < length index
  stands_within = (stands l index i rise at.within at.before at.past there).0

  taken : listings (remove index i) ≡ maps.Entries.where_key listed_cmp (λ x. not (eq_by_cmp listed_cmp l x)) (listings index)
  taken = rising.removed_at listed_cmp listed_total listed_exact (λ x. x) (λ x. tt) l index i l rise stands_within at.before ((stands l index i rise at.within at.before at.past there).1 l)

  pub less_rises : Rises (remove index i)
  less_rises = fact _ (subst (λ es. T (is_sorted listed_cmp es)) (sym taken) (is_sorted-where_key listed_cmp (λ x. not (eq_by_cmp listed_cmp l x)) (listings index) (truth _ rise)))

  pub less_lists : (m : Member) (dot : Dot) → is_listed (remove index i) m dot ≡ (not (eq_by_cmp listed_cmp (entry m dot) l) && is_listed index m dot)
  less_lists m dot =
      any_find (entry m dot) (remove index i) ∙ ap (λ es. is_some (find listed_cmp (entry m dot) es)) taken
      ∙ ap is_some (find-where_key listed_cmp (λ x. not (eq_by_cmp listed_cmp l x)) (entry m dot) (λ x h. ap (λ y. not (eq_by_cmp listed_cmp l y)) (sym (listed_exact (entry m dot) x h))) (listings index))
      ∙ one (eq_by_cmp listed_cmp l (entry m dot)) (find listed_cmp (entry m dot) (listings index))
      ∙ (λ k. not ((eq_by_cmp_equiv listed_total).symm l (entry m dot) k) && sym (any_find (entry m dot) index) k)
    where
      one : (b : Bool) (o : Option (Unit {0})) → is_some (cond (not b) o None) ≡ (not b && is_some o)
      one true o = refl
      one false o = refl

-- what is live is listed, after one dot more, one less, or one whose fields changed
module _ (index new : List Listed) (live after : maps.FinMap dot_cmp Holding) (member : Member) (dot : Dot) where
  pub listed_more : (h : Holding) → h.0 ≡ member → IsIndex index live → maps.get live dot ≡ None
      → ((q : Dot) → maps.get after q ≡ cond (eq_by_cmp dot_cmp q dot) (Some h) (maps.get live q))
      → Rises new → ((m : Member) (q : Dot) → is_listed new m q ≡ (eq_by_cmp listed_cmp (entry m q) (entry member dot) || is_listed index m q)) → IsIndex new after
  listed_more h one is gone got rises lists = record {
    rises = rises;
    lists = λ m q. lists m q ∙ (λ i. same_parts m member q dot i || is.lists m q i) ∙ elim (cases_Bool (eq_by_cmp dot_cmp q dot)) [
      | inl t ↦
          (λ i. (eq_by_cmp member_cmp m member && t i) || option_map_or (eq_by_cmp member_cmp m) (option_map (λ x. x.0) ((ap (maps.get live) (one_dot q dot t) ∙ gone) i)) false)
          ∙ first_alone (eq_by_cmp member_cmp m member) ∙ ap (eq_by_cmp member_cmp m) (sym one)
          ∙ (λ i. option_map_or (eq_by_cmp member_cmp m) (option_map (λ x. x.0) (cond (sym t i) (Some h) (maps.get live q))) false)
          ∙ (λ i. option_map_or (eq_by_cmp member_cmp m) (option_map (λ x. x.0) (sym (got q) i)) false)
      | inr f ↦
          (λ i. (eq_by_cmp member_cmp m member && f i) || is_held live m q)
          ∙ third_alone (eq_by_cmp member_cmp m member) (is_held live m q)
          ∙ (λ i. option_map_or (eq_by_cmp member_cmp m) (option_map (λ x. x.0) (cond (sym f i) (Some h) (maps.get live q))) false)
          ∙ (λ i. option_map_or (eq_by_cmp member_cmp m) (option_map (λ x. x.0) (sym (got q) i)) false)
    ];
  }

  pub listed_less : (h : Holding) → h.0 ≡ member → IsIndex index live → maps.get live dot ≡ Some h → after ≡ maps.remove live dot
      → Rises new → ((m : Member) (q : Dot) → is_listed new m q ≡ (not (eq_by_cmp listed_cmp (entry m q) (entry member dot)) && is_listed index m q)) → IsIndex new after
  listed_less h one is held gone rises lists =
      let got : (q : Dot) → maps.get after q ≡ cond (eq_by_cmp dot_cmp q dot) None (maps.get live q) = λ q. ap (λ m. maps.get m q) gone ∙ maps.get-remove dots_total live dot q in record {
        rises = rises;
        lists = λ m q. lists m q ∙ (λ i. not (same_parts m member q dot i) && is.lists m q i) ∙ elim (cases_Bool (eq_by_cmp dot_cmp q dot)) [
          | inl t ↦
              (λ i. not (eq_by_cmp member_cmp m member && t i) && option_map_or (eq_by_cmp member_cmp m) (option_map (λ x. x.0) ((ap (maps.get live) (one_dot q dot t) ∙ held) i)) false)
              ∙ (λ i. not (eq_by_cmp member_cmp m member && true) && eq_by_cmp member_cmp m (one i))
              ∙ never (eq_by_cmp member_cmp m member)
              ∙ (λ i. option_map_or (eq_by_cmp member_cmp m) (option_map (λ x. x.0) (cond (sym t i) None (maps.get live q))) false)
              ∙ (λ i. option_map_or (eq_by_cmp member_cmp m) (option_map (λ x. x.0) (sym (got q) i)) false)
          | inr f ↦
              (λ i. not (eq_by_cmp member_cmp m member && f i) && is_held live m q)
              ∙ still (eq_by_cmp member_cmp m member) (is_held live m q)
              ∙ (λ i. option_map_or (eq_by_cmp member_cmp m) (option_map (λ x. x.0) (cond (sym f i) None (maps.get live q))) false)
              ∙ (λ i. option_map_or (eq_by_cmp member_cmp m) (option_map (λ x. x.0) (sym (got q) i)) false)
        ];
      }
    where
      never : (b : Bool) → (not (b && true) && b) ≡ false
      never true = refl
      never false = refl

      still : (b c : Bool) → (not (b && false) && c) ≡ c
      still true c = refl
      still false c = refl

-- the index stays where members do
pub listed_still : (index : List Listed) (live after : maps.FinMap dot_cmp Holding) → ((q : Dot) → option_map (λ h. h.0) (maps.get after q) ≡ option_map (λ h. h.0) (maps.get live q)) → IsIndex index live → IsIndex index after
listed_still index live after same is = record {
  rises = is.rises;
  lists = λ m q. is.lists m q ∙ ap (λ o. option_map_or (eq_by_cmp member_cmp m) o false) (sym (same q));
}
