-- Cells while they are freed, one after the other.
use Rattle.std.proofs.Common.{◌≡◌, ◌≢◌, ℕ, suc, zero, ◌+◌, ◌≤◌, ◌<◌, Bool, true, false, not, cond, ◌&&◌, ◌||◌, inl, inr, Contains, List, [], ◌∷◌, length, get_or, Option, Some, None, is_some, refl, sym, ap, subst, ◌∙◌, arith}
use Rattle.std.specs.Prelude.{filter, if◌then◌else◌}
use Rattle.std.specs.FinMap as maps
use Rattle.std.specs.FinSet as sets
use Rattle.std.specs.List.{All, remove}
use Rattle.std.specs.Ordering.{eq_by_cmp}
use Rattle.std.proofs.Math.Bool.{or-true}
use Rattle.std.proofs.lemmas.Bool.{cases_Bool, cases_eq}
use Rattle.std.proofs.lemmas.List.{get_or_default}
use Rattle.std.proofs.lemmas.List.Sums.{count_by-le-length, length-filter}
use Rattle.dots.specs.Values.{Dot}
use Rattle.general_lemmas.proofs.Filters.{filter_has}
use Rattle.op_arena.proofs.IdOrder.{ids_exact, ids_total}
use Rattle.op_arena.specs.Ids.{id_cmp}
use Rattle.live_cells.specs.declared.live_dot.LiveDot.{LiveDot}
use Rattle.live_cells.specs.declared.placed.Placed.{Placed}
use Rattle.live_cells.specs.CellIds.{IdSet}
use Rattle.live_cells.specs.Freed.{AreFreed, with_cells}
use Rattle.live_cells.specs.PlacedStates.{ArePlaced, CellMap}
use Rattle.live_cells.proofs.GivenItems.{some_of}
use Rattle.live_cells.proofs.MapSteps.{apart_by, gone, gone_other, untied}
use Rattle.live_cells.proofs.PlacedChanges.{less_placed}
use Rattle.live_cells.proofs.CellsOfDots.{ids_apart, some_there}
use Rattle.live_cells.proofs.Rising as rising

-- all are left that pass a test
filter_all : {X : Type 0} (p : X → Bool) (xs : List X) → All (λ x. p x ≡ true) xs → filter p xs ≡ xs
filter_all p [] a = refl
filter_all p (x ∷ xs) a = ap (λ b. cond b (x ∷ filter p xs) (filter p xs)) (a 0 x (omega arith)) ∙ ap (λ ys. x ∷ ys) (filter_all p xs (λ k d l. a (suc k) d (omega arith)))

-- all pass it where as many are left
pub all_kept : {X : Type 0} (p : X → Bool) (xs : List X) → length (filter p xs) ≡ length xs → xs ≡ filter p xs
all_kept p [] e = refl
all_kept p (x ∷ xs) e = by (p x) e (all_kept p xs)
  where
    by : (b : Bool) → length (cond b (x ∷ filter p xs) (filter p xs)) ≡ suc (length xs) → (length (filter p xs) ≡ length xs → xs ≡ filter p xs) → x ∷ xs ≡ cond b (x ∷ filter p xs) (filter p xs)
    by true l others = ap (λ ys. x ∷ ys) (others (omega (arith, l)))
    by false l others = absurd (omega (arith, l, length-filter p xs, count_by-le-length p xs))

-- what passes one test and then another passes both
filter_both : {X : Type 0} (p q both : X → Bool) → ((x : X) → both x ≡ (p x && q x)) → (xs : List X) → filter both xs ≡ filter q (filter p xs)
filter_both p q both is [] = refl
filter_both {X} p q both is (x ∷ xs) = ap (λ b. cond b (x ∷ filter both xs) (filter both xs)) (is x) ∙ by (p x) (q x) refl (filter_both p q both is xs)
  where
    by : (a b : Bool) → q x ≡ b → filter both xs ≡ filter q (filter p xs) → cond (a && b) (x ∷ filter both xs) (filter both xs) ≡ filter q (cond a (x ∷ filter p xs) (filter p xs))
    by true true e r = ap (λ ys. x ∷ ys) r ∙ ap (λ c. cond c (x ∷ filter q (filter p xs)) (filter q (filter p xs))) (sym e)
    by true false e r = r ∙ ap (λ c. cond c (x ∷ filter q (filter p xs)) (filter q (filter p xs))) (sym e)
    by false b e r = r

-- if exactly one element fails a test, the filter removes it
filter_others : {X : Type 0} (q : X → Bool) (xs : List X) (j : ℕ) → j < length xs → ((d : X) → q (get_or xs j d) ≡ false) → ((k : ℕ) (d : X) → k < length xs → k ≢ j → q (get_or xs k d) ≡ true) → filter q xs ≡ remove xs j
filter_others q [] j l f a = absurd (omega (arith, l))
filter_others q (x ∷ xs) zero l f a =
    ap (λ b. cond b (x ∷ filter q xs) (filter q xs)) (f x) ∙ filter_all q xs (λ k d m. a (suc k) d (omega arith) (λ e. absurd (omega (arith, e))))
filter_others q (x ∷ xs) (suc j) l f a =
    ap (λ b. cond b (x ∷ filter q xs) (filter q xs)) (a 0 x (omega arith) (λ e. absurd (omega (arith, e))))
    ∙ ap (λ ys. x ∷ ys) (filter_others q xs j (omega (arith, l)) f (λ k d m n. a (suc k) d (omega arith) (λ e. n (omega (arith, e)))))

-- the cells of the first dots may be freed, and the others are held
pub record Freeing (dots : List Placed) (held : CellMap) (spent : IdSet) (i : ℕ) (after : CellMap) (now : IdSet) : Type 0 where
  pub freed : AreFreed dots held spent after now
  pub left : (k : ℕ) (d : Placed) → i ≤ k → k < length dots → maps.get after (get_or dots k d).id ≡ maps.get held (get_or dots k d).id

-- of the first ids, those that pass a test have no cell
abbrev pub ChosenBefore : (Dot → Bool) → List Placed → CellMap → ℕ → CellMap → Type 0
ChosenBefore test dots held i after = (k : ℕ) (d : Placed) → k < i → maps.get after (get_or dots k d).id ≡ (if test (get_or dots k d).dot then None else maps.get held (get_or dots k d).id)

module _ (dots : List Placed) (held : CellMap) (spent : IdSet) (a : ArePlaced dots held spent) where
  has_cell : (k : ℕ) (d : Placed) → k < length dots → is_some (maps.get held (get_or dots k d).id) ≡ true
  has_cell k d l = some_there (maps.get held (get_or dots k d).id) (get_or dots k d).dot (a.there k d l)

  -- before the first one
  pub freed_none : Freeing dots held spent 0 held spent
  freed_none = record {
    freed = record {
      placed = subst (λ ps. ArePlaced ps held spent) (sym (filter_all (λ p. maps.contains_key held p.id) dots has_cell)) a;
      was = λ id cell e. e;
      spent_before = λ id h. h;
      spent_now = λ id w. absurd (let n = sym w.had ∙ w.gone in cc n);
      spent_alone = λ id h. inl h;
    };
    left = λ k d lo hi. refl;
  }

  module _ (i : ℕ) (after : CellMap) (now : IdSet) (f : Freeing dots held spent i after now) where
    -- the next one is kept
    pub kept_more : Freeing dots held spent (i + 1) after now
    kept_more = record { freed = f.freed; left = λ k d lo hi. f.left k d (omega arith) hi }

    pub kept_chosen : (test : Dot → Bool) (p : Placed) → i < length dots → p ≡ get_or dots i p → test p.dot ≡ false → ChosenBefore test dots held i after → ChosenBefore test dots held (i + 1) after
    kept_chosen test p l is stays c k d h = elim (cases_eq k i) [
      | inl e ↦
          let at : get_or dots k d ≡ p = ap (λ n. get_or dots n d) e ∙ get_or_default dots i d p l ∙ sym is in
          f.left k d (omega arith) (omega arith) ∙ ap (λ b. if b then None else maps.get held (get_or dots k d).id) (sym (ap (λ q. test q.dot) at ∙ stays))
      | inr n ↦ c k d (omega arith)
    ]

    -- the next cell is freed
    module _ (p : Placed) (l : i < length dots) (is : p ≡ get_or dots i p) where
      abbrev less : CellMap
      less = maps.remove after p.id

      pub next_there : is_some (maps.get after p.id) ≡ true
      next_there = ap (λ q. is_some (maps.get after q.id)) is ∙ ap is_some (f.left i p (omega arith) l) ∙ has_cell i p l

      cell : (c : LiveDot) × (maps.get after p.id ≡ Some c)
      cell = some_of (maps.get after p.id) next_there

      abbrev some : List Placed
      some = with_cells after dots

      stands : Contains some p
      stands = filter_has (λ q. maps.contains_key after q.id) dots p (i, l, sym is) next_there

      not_own : Placed → Bool
      not_own q = not (eq_by_cmp id_cmp q.id p.id)

      still_some : (q : Placed) → maps.contains_key less q.id ≡ (maps.contains_key after q.id && not_own q)
      unfolding not_own
      still_some q = ap is_some (maps.get-remove ids_total after p.id q.id) ∙ by (eq_by_cmp id_cmp q.id p.id) (maps.get after q.id)
        where
          by : (b : Bool) (o : Option LiveDot) → is_some (cond b None o) ≡ (is_some o && not b)
          by true None = refl
          by true (Some c) = refl
          by false None = refl
          by false (Some c) = refl

      one_less : with_cells less dots ≡ remove some stands.0
      unfolding not_own
      one_less =
          filter_both (λ q. maps.contains_key after q.id) not_own (λ q. maps.contains_key less q.id) still_some dots
          ∙ filter_others not_own some stands.0 stands.1
          (λ d. ap (λ q. not (eq_by_cmp id_cmp q.id p.id)) (get_or_default some stands.0 d p stands.1 ∙ stands.2) ∙ ap not (rising.same_itself id_cmp ids_total ids_exact p.id))
          (λ k d m n. ap not (untied id_cmp ids_total ids_exact (get_or some k d).id p.id (λ same. ids_apart some after f.freed.placed.there f.freed.placed.sorted k stands.0 d p m stands.1 n (same ∙ sym (ap (λ q. q.id) stands.2)))))

      pub freed_more : Freeing dots held spent (i + 1) less (sets.insert now p.id)
      freed_more = record {
        freed = record {
          placed = subst (λ ps. ArePlaced ps less (sets.insert now p.id)) (sym one_less)
              (subst (λ (q : Placed). ArePlaced (remove some stands.0) (maps.remove after q.id) (sets.insert now q.id)) stands.2 (less_placed some after now f.freed.placed stands.0 p stands.1));
          was = λ id c e. elim (cases_Bool (eq_by_cmp id_cmp id p.id)) [
            | inl t ↦ absurd (let n = sym e ∙ ap (maps.get less) (rising.one_key id_cmp ids_total ids_exact id p.id t) ∙ gone id_cmp ids_total ids_exact after p.id in cc n)
            | inr o ↦ f.freed.was id c (sym (gone_other id_cmp ids_total ids_exact after p.id id (apart_by id_cmp ids_total ids_exact id p.id o)) ∙ e)
          ];
          spent_before = λ id h. sets.contains-insert ids_total now p.id id ∙ ap (λ b. eq_by_cmp id_cmp id p.id || b) (f.freed.spent_before id h) ∙ or-true (eq_by_cmp id_cmp id p.id);
          spent_now = λ id w. sets.contains-insert ids_total now p.id id ∙ elim (cases_Bool (eq_by_cmp id_cmp id p.id)) [
            | inl t ↦ ap (λ b. b || sets.contains now id) t
            | inr o ↦ ap (λ b. eq_by_cmp id_cmp id p.id || b)
                (f.freed.spent_now id (record { cell = w.cell; had = w.had; gone = sym (gone_other id_cmp ids_total ids_exact after p.id id (apart_by id_cmp ids_total ids_exact id p.id o)) ∙ w.gone })) ∙ or-true (eq_by_cmp id_cmp id p.id)
          ];
          spent_alone = λ id h. elim (cases_Bool (eq_by_cmp id_cmp id p.id)) [
            | inl t ↦
                let one = rising.one_key id_cmp ids_total ids_exact id p.id t in
                inr (record { cell = cell.0; had = ap (maps.get held) one ∙ f.freed.was p.id cell.0 cell.1; gone = ap (maps.get less) one ∙ gone id_cmp ids_total ids_exact after p.id })
            | inr o ↦ elim (f.freed.spent_alone id (ap (λ b. b || sets.contains now id) (sym o) ∙ sym (sets.contains-insert ids_total now p.id id) ∙ h)) [
              | inl s ↦ inl s
              | inr w ↦ inr (record { cell = w.cell; had = w.had; gone = gone_other id_cmp ids_total ids_exact after p.id id (apart_by id_cmp ids_total ids_exact id p.id o) ∙ w.gone })
            ]
          ];
        };
        left = λ k d lo hi. gone_other id_cmp ids_total ids_exact after p.id (get_or dots k d).id (other k d (omega arith) hi) ∙ f.left k d (omega arith) hi;
      }
        where
          other : (k : ℕ) (d : Placed) → i < k → k < length dots → (get_or dots k d).id ≢ p.id
          other k d lo hi same = ids_apart dots held a.there a.sorted k i d p hi l (λ e. absurd (omega (arith, e, lo))) (same ∙ ap (λ q. q.id) is)

      pub freed_chosen : (test : Dot → Bool) → test p.dot ≡ true → ChosenBefore test dots held i after → ChosenBefore test dots held (i + 1) less
      freed_chosen test dies c k d h = elim (cases_eq k i) [
        | inl e ↦
            let at : get_or dots k d ≡ p = ap (λ n. get_or dots n d) e ∙ get_or_default dots i d p l ∙ sym is in
            ap (λ q. maps.get less q.id) at ∙ gone id_cmp ids_total ids_exact after p.id ∙ ap (λ b. if b then None else maps.get held (get_or dots k d).id) (sym (ap (λ q. test q.dot) at ∙ dies))
        | inr n ↦
            let other : (get_or dots k d).id ≢ p.id = λ same. ids_apart dots held a.there a.sorted k i d p (omega arith) l n (same ∙ ap (λ q. q.id) is) in
            gone_other id_cmp ids_total ids_exact after p.id (get_or dots k d).id other ∙ c k d (omega arith)
      ]
