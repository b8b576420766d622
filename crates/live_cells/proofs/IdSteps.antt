-- The ids of live dots over changes: where one dot becomes live or is live no more, and where many do.
use Rattle.std.proofs.Common.{◌≡◌, true, false, cond, ◌||◌, ◌⊎◌, inl, inr, Option, Some, None, refl, sym, ap, subst, ◌∙◌, true≢false}
use Rattle.std.specs.Ordering.{eq_by_cmp, is_eq}
use Rattle.std.proofs.lemmas.Cmp.{tied_itself}
use Rattle.std.specs.FinMap as map
use Rattle.std.specs.FinSet as set
use Rattle.std.proofs.lemmas.Bool.{cases_Bool}
use Rattle.std.proofs.lemmas.Option.{same_Some}
use Rattle.std.proofs.Math.Bool.{or-true}
use Rattle.dots.specs.Values.{Dot}
use Rattle.dots.specs.Orders.{dot_cmp}
use Rattle.dots.proofs.DotOrder.{dots_total}
use Rattle.op_arena.specs.Ids.{Id, id_cmp, id_of}
use Rattle.op_arena.proofs.IdOrder.{ids_exact, ids_total}
use Rattle.general_lemmas.proofs.TruthTables.{equal_of}
use Rattle.live_cells.specs.CellIds.{HadId, IdMap, IdSet, IdsFollow, IsNew}
use Rattle.live_cells.specs.LiveStates.{LiveState, spent_with, HaveGrown}
use Rattle.live_cells.proofs.DotTests.{one_dot, same_itself}

some_none : {X : Type 0} (x : X) → Some x ≡ None → ⊥
some_none x e = absurd (cc)

-- what a look-up may find
pub look : {X : Type 0} (o : Option X) → (o ≡ None) ⊎ ((x : X) × (o ≡ Some x))
look None = inl refl
look (Some x) = inr (x, refl)

-- nothing has changed
pub follow_same : (ids after : IdMap) (spent now : IdSet) → after ≡ ids → now ≡ spent → IdsFollow ids spent after now
follow_same ids after spent now e s = record {
  kept = λ d i h. inl (ap (λ m. map.get m d) e ∙ h);
  new = λ d i h k. absurd (some_none i (sym k ∙ ap (λ m. map.get m d) e ∙ h));
  spent_before = λ i h. ap (λ m. set.contains m i) s ∙ h;
  spent_now = λ i h. absurd (some_none i (sym h.had ∙ ap (λ m. map.get m h.dot) (sym e) ∙ h.gone));
  spent_alone = λ i h. inl (ap (λ m. set.contains m i) (sym s) ∙ h);
}

-- one more dot is live
pub follow_insert : (ids : IdMap) (spent : IdSet) (dot : Dot) (id : Id) → IsNew ids spent spent id → map.get ids dot ≡ None → IdsFollow ids spent (map.insert ids dot id) spent
follow_insert ids spent dot id new none = record {
  kept = λ d i h. inl (map.get-insert dots_total ids dot id d ∙ ap (λ b. cond b (Some id) (map.get ids d)) (other d i h) ∙ h);
  new = λ d i h k. at d i k h (cases_Bool (eq_by_cmp dot_cmp d dot));
  spent_before = λ i h. h;
  spent_now = λ i h. absurd (some_none i (sym (map.get-insert dots_total ids dot id h.dot ∙ ap (λ b. cond b (Some id) (map.get ids h.dot)) (other h.dot i h.had) ∙ h.had) ∙ h.gone));
  spent_alone = λ i h. inl h;
}
  where
    other : (d : Dot) (i : Id) → map.get ids d ≡ Some i → eq_by_cmp dot_cmp d dot ≡ false
    other d i h = elim (cases_Bool (eq_by_cmp dot_cmp d dot)) [
      | inl t ↦ absurd (some_none i (sym h ∙ ap (map.get ids) (one_dot d dot t) ∙ none))
      | inr f ↦ f
    ]

    at : (d : Dot) (i : Id) → map.get (map.insert ids dot id) d ≡ Some i → map.get ids d ≡ None → (eq_by_cmp dot_cmp d dot ≡ true) ⊎ (eq_by_cmp dot_cmp d dot ≡ false) → IsNew ids spent spent i
    at d i k h c = elim c [
      | inl t ↦ subst (IsNew ids spent spent) (same_Some id i (ap (λ b. cond b (Some id) (map.get ids d)) (sym t) ∙ sym (map.get-insert dots_total ids dot id d) ∙ k)) new
      | inr f ↦ absurd (some_none i (sym k ∙ map.get-insert dots_total ids dot id d ∙ ap (λ b. cond b (Some id) (map.get ids d)) f ∙ h))
    ]

one_id : (a b : Id) → eq_by_cmp id_cmp a b ≡ true → a ≡ b
one_id a b t = ids_exact a b (equal_of (id_cmp a b) t)

-- one dot is live no more
pub follow_remove : (ids : IdMap) (spent : IdSet) (dot : Dot) → IdsFollow ids spent (map.remove ids dot) (spent_with (map.get ids dot) spent)
follow_remove ids spent dot = record {
  kept = λ d i h. elim (cases_Bool (eq_by_cmp dot_cmp d dot)) [
    | inl t ↦ inr (gone d t)
    | inr f ↦ inl (stays d f ∙ h)
  ];
  new = λ d i h k. elim (cases_Bool (eq_by_cmp dot_cmp d dot)) [
    | inl t ↦ absurd (some_none i (sym k ∙ gone d t))
    | inr f ↦ absurd (some_none i (sym k ∙ stays d f ∙ h))
  ];
  spent_before = λ i h. more (map.get ids dot) i h;
  spent_now = λ i h. elim (cases_Bool (eq_by_cmp dot_cmp h.dot dot)) [
    | inl t ↦ ap (λ o. set.contains (spent_with o spent) i) (ap (map.get ids) (sym (one_dot h.dot dot t)) ∙ h.had) ∙ set.contains-insert ids_total spent i i ∙ ap (λ b. b || set.contains spent i) (itself i)
    | inr f ↦ absurd (some_none i (sym h.had ∙ sym (stays h.dot f) ∙ h.gone))
  ];
  spent_alone = λ i h. alone (map.get ids dot) i refl h;
}
  where
    gone : (d : Dot) → eq_by_cmp dot_cmp d dot ≡ true → map.get (map.remove ids dot) d ≡ None
    gone d t = map.get-remove dots_total ids dot d ∙ ap (λ b. cond b None (map.get ids d)) t

    stays : (d : Dot) → eq_by_cmp dot_cmp d dot ≡ false → map.get (map.remove ids dot) d ≡ map.get ids d
    stays d f = map.get-remove dots_total ids dot d ∙ ap (λ b. cond b None (map.get ids d)) f

    itself : (i : Id) → eq_by_cmp id_cmp i i ≡ true
    itself i = ap is_eq (tied_itself ids_total i)

    more : (o : Option Id) (i : Id) → set.contains spent i ≡ true → set.contains (spent_with o spent) i ≡ true
    more None i h = h
    more (Some x) i h = set.contains-insert ids_total spent x i ∙ ap (λ b. eq_by_cmp id_cmp i x || b) h ∙ or-true (eq_by_cmp id_cmp i x)

    alone : (o : Option Id) (i : Id) → map.get ids dot ≡ o → set.contains (spent_with o spent) i ≡ true → (set.contains spent i ≡ true) ⊎ HadId ids (map.remove ids dot) i
    alone None i e h = inl h
    alone (Some x) i e h = elim (cases_Bool (eq_by_cmp id_cmp i x)) [
      | inl t ↦ inr (record { dot = dot; had = e ∙ ap Some (sym (one_id i x t)); gone = gone dot (same_itself dot) })
      | inr f ↦ inl (ap (λ b. b || set.contains spent i) (sym f) ∙ sym (set.contains-insert ids_total spent x i) ∙ h)
    ]

-- dots have no id more than before, and none has another
abbrev pub Shrinks : IdMap → IdMap → Type 0
Shrinks ids after = (q : Dot) → (map.get after q ≡ None) ⊎ (map.get after q ≡ map.get ids q)

-- where dots were live no more twice
pub follow_shrunk : (ids mid after : IdMap) (spent between now : IdSet) → Shrinks ids mid → Shrinks mid after → IdsFollow ids spent mid between → IdsFollow mid between after now → IdsFollow ids spent after now
follow_shrunk ids mid after spent between now a b f g = record {
  kept = λ d i h. elim (f.kept d i h) [
    | inl k ↦ g.kept d i k
    | inr n ↦ elim (b d) [
      | inl m ↦ inr m
      | inr e ↦ inr (e ∙ n)
    ]
  ];
  new = λ d i h k. absurd (some_none i (sym k ∙ still d h));
  spent_before = λ i h. g.spent_before i (f.spent_before i h);
  spent_now = λ i h. elim (f.kept h.dot i h.had) [
    | inl k ↦ g.spent_now i (record { dot = h.dot; had = k; gone = h.gone })
    | inr n ↦ g.spent_before i (f.spent_now i (record { dot = h.dot; had = h.had; gone = n }))
  ];
  spent_alone = λ i h. elim (g.spent_alone i h) [
    | inl s ↦ elim (f.spent_alone i s) [
      | inl t ↦ inl t
      | inr had ↦ inr (record { dot = had.dot; had = had.had; gone = after_none had.dot had.gone })
    ]
    | inr had ↦ elim (a had.dot) [
      | inl n ↦ absurd (some_none i (sym had.had ∙ n))
      | inr e ↦ inr (record { dot = had.dot; had = sym e ∙ had.had; gone = had.gone })
    ]
  ];
}
  where
    after_none : (d : Dot) → map.get mid d ≡ None → map.get after d ≡ None
    after_none d n = elim (b d) [ inl m ↦ m | inr e ↦ e ∙ n ]

    still : (d : Dot) → map.get ids d ≡ None → map.get after d ≡ None
    still d h = elim (a d) [ inl n ↦ after_none d n | inr e ↦ after_none d (e ∙ h) ]

-- where dots became live twice
pub grown_twice : (x y z : LiveState) → HaveGrown x y → HaveGrown y z → HaveGrown x z
grown_twice x y z f g = record {
  kept = λ q i h. g.kept q i (f.kept q i h);
  new_ids = λ q i h k. elim (look (map.get y.ids q)) [
    | inl n ↦ let new = g.new_ids q i n k in
        record {
          free = λ d e. new.free d (f.kept d i e);
          unspent = ap (λ s. set.contains s i) (sym f.spent) ∙ new.unspent;
          lesser = λ n h. ap (λ s. set.contains s (id_of i.index n)) (sym f.spent) ∙ new.lesser n h;
        }
    | inr m ↦ subst (IsNew x.ids x.spent x.spent) (same_Some m.0 i (sym (g.kept q m.0 m.1) ∙ k)) (f.new_ids q m.0 h m.1)
  ];
  spent = g.spent ∙ f.spent;
}

pub grown_same : (x y : LiveState) → y.ids ≡ x.ids → y.spent ≡ x.spent → HaveGrown x y
grown_same x y e s = record {
  kept = λ q i h. ap (λ m. map.get m q) e ∙ h;
  new_ids = λ q i h k. absurd (some_none i (sym k ∙ ap (λ m. map.get m q) e ∙ h));
  spent = s;
}

-- where dots were live no more, and then others became live
pub follow_grown : (ids : IdMap) (spent : IdSet) (mid after : LiveState) → Shrinks ids mid.ids → IdsFollow ids spent mid.ids mid.spent → HaveGrown mid after
    → ((q : Dot) (i : Id) → map.get ids q ≡ Some i → map.get mid.ids q ≡ None → map.get after.ids q ≡ None) → IdsFollow ids spent after.ids after.spent
follow_grown ids spent mid after a f g gone = record {
  kept = λ d i h. elim (f.kept d i h) [
    | inl k ↦ inl (g.kept d i k)
    | inr n ↦ inr (gone d i h n)
  ];
  new = λ d i h k.
      let none : map.get mid.ids d ≡ None = elim (a d) [ inl n ↦ n | inr e ↦ e ∙ h ] in
      let new = g.new_ids d i none k in
      record {
        free = λ q e. elim (f.kept q i e) [
          | inl m ↦ new.free q m
          | inr n ↦ true≢false (sym (f.spent_now i (record { dot = q; had = e; gone = n })) ∙ new.unspent)
        ];
        unspent = unspent i new.unspent;
        lesser = λ n h. ap (λ s. set.contains s (id_of i.index n)) g.spent ∙ new.lesser n h;
      };
  spent_before = λ i h. ap (λ s. set.contains s i) g.spent ∙ f.spent_before i h;
  spent_now = λ i h. elim (f.kept h.dot i h.had) [
    | inl k ↦ absurd (some_none i (sym (g.kept h.dot i k) ∙ h.gone))
    | inr n ↦ ap (λ s. set.contains s i) g.spent ∙ f.spent_now i (record { dot = h.dot; had = h.had; gone = n })
  ];
  spent_alone = λ i h. elim (f.spent_alone i (ap (λ s. set.contains s i) (sym g.spent) ∙ h)) [
    | inl s ↦ inl s
    | inr had ↦ inr (record { dot = had.dot; had = had.had; gone = gone had.dot i had.had had.gone })
  ];
}
  where
    unspent : (i : Id) → set.contains mid.spent i ≡ false → set.contains spent i ≡ false
    unspent i h = elim (cases_Bool (set.contains spent i)) [
      | inl t ↦ absurd (true≢false (sym (f.spent_before i t) ∙ h))
      | inr f ↦ f
    ]
