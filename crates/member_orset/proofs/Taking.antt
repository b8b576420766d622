-- Cells of the other side that are taken in, one by one or all that are known at once.
use Rattle.std.proofs.Common.{◌≡◌, ◌+◌, ◌≤◌, Bool, true, false, true≢false, cond, List, [], ◌∷◌, ◌++◌, Option, Some, None, is_some, refl, sym, ap, subst, ◌∙◌, ◌⊎◌, inl, inr, arith}
use Rattle.std.specs.Prelude.{IfSome, if◌then◌else◌}
use Rattle.std.specs.Ordering.{eq_by_cmp}
use Rattle.std.specs.FinMap as map
use Rattle.std.specs.FinMap.Entries.{find, is_sorted}
use Rattle.std.specs.List.{All}
use Rattle.std.specs.Option.{option_or}
use Rattle.std.proofs.lemmas.Bool.{cases_Bool}
use Rattle.dots.specs.Values.{Dot}
use Rattle.dots.specs.Orders.{dot_cmp}
use Rattle.operations.specs.Conditions.{DotFields, FieldsAgree, fields_joined}
use Rattle.dots.proofs.DotOrder.{dots_total}
use Rattle.general_lemmas.proofs.Membership.{in_any}
use Rattle.general_lemmas.proofs.SortedEntries.{find_below, rising_head, rising_tail}
use Rattle.op_arena.specs.Ids.{Id}
use Rattle.live_cells.specs.declared.live_dot.LiveDot.{LiveDot}
use Rattle.live_cells.specs.declared.placed.Placed.{Placed}
use Rattle.live_cells.specs.CellIds.{IsNew}
use Rattle.member_orset.specs.Joining.{AreNewLeft, HoldingsAgree, IsJoinedWith, IsTakenIn, holding_with}
use Rattle.live_cells.specs.LiveLists.{holding}
use Rattle.live_cells.specs.LiveStates.{LiveState, HaveGrown, fields_joined_at, joined_at_held}
use Rattle.live_cells.specs.PlacedLists.{is_placed}
use Rattle.member_orset.proofs.Asserting.{len_again, len_one_more}
use Rattle.live_cells.proofs.DotTests.{one_dot}
use Rattle.live_cells.proofs.IdSteps.{grown_same, grown_twice, look}
use Rattle.live_cells.specs.Holdings.{Holding}

-- where its dot is live here too
taken_joined : (known : Dot → Bool) (s t : LiveState) (c : LiveDot) (h : Holding) → map.get s.live c.dot ≡ Some h → t.live ≡ map.insert s.live c.dot (h.0, fields_joined h.1 c.fields) → t.ids ≡ s.ids → t.spent ≡ s.spent → s.room ≤ t.room → IsTakenIn known s c t
taken_joined known s t c h held now ids spent room =
    let x : Holding = (h.0, fields_joined h.1 c.fields) in
    record {
      live = λ q. ap (λ m. map.get m q) now ∙ map.get-insert dots_total s.live c.dot x q ∙ at q (eq_by_cmp dot_cmp q c.dot) (one_dot q c.dot);
      ids = grown_same s t ids spent;
      few = let same = len_again s.live c.dot h x held in let len = ap map.len now in omega arith;
      room = room;
    }
  where
    at : (q : Dot) (b : Bool) → (b ≡ true → q ≡ c.dot)
        → cond b (Some (h.0, fields_joined h.1 c.fields)) (map.get s.live q) ≡ (if b then holding_with (map.get s.live q) (known q) (Some (holding c)) else map.get s.live q)
    at q true same = ap (λ o. holding_with o (known q) (Some (holding c))) (sym (ap (map.get s.live) (same refl) ∙ held))
    at q false same = refl

-- where its dot is known here
pub taken_met : (known : Dot → Bool) (s t : LiveState) (c : LiveDot) → (map.get s.live c.dot ≡ None → known c.dot ≡ true) → t.live ≡ fields_joined_at s.live c.dot c.fields → t.ids ≡ s.ids → t.spent ≡ s.spent → s.room ≤ t.room → IsTakenIn known s c t
taken_met known s t c dead now ids spent room = elim (look (map.get s.live c.dot)) [
  | inl none ↦
      let same : t.live ≡ s.live = now ∙ ap (joined_at_held s.live c.dot c.fields) none in
      record {
        live = λ q. ap (λ m. map.get m q) same ∙ at q none (eq_by_cmp dot_cmp q c.dot) (one_dot q c.dot);
        ids = grown_same s t ids spent;
        few = let len = ap map.len same in omega arith;
        room = room;
      }
  | inr h ↦ taken_joined known s t c h.0 h.1 (now ∙ ap (joined_at_held s.live c.dot c.fields) h.1) ids spent room
]
  where
    at : (q : Dot) → map.get s.live c.dot ≡ None → (b : Bool) → (b ≡ true → q ≡ c.dot) → map.get s.live q ≡ (if b then holding_with (map.get s.live q) (known q) (Some (holding c)) else map.get s.live q)
    at q none true same = ap (map.get s.live) (same refl) ∙ none ∙ (λ i. holding_with (sym (ap (map.get s.live) (same refl) ∙ none) i) (sym (ap known (same refl) ∙ dead none) i) (Some (holding c)))
    at q none false same = refl

-- as many dots are live after the fields of one are joined
pub len_met : (live : map.FinMap dot_cmp Holding) (d : Dot) (f : DotFields) → map.len (fields_joined_at live d f) ≡ map.len live
len_met live d f = at (map.get live d) refl
  where
    at : (o : Option Holding) → map.get live d ≡ o → map.len (joined_at_held live d f o) ≡ map.len live
    at None e = refl
    at (Some h) e = len_again live d h (h.0, fields_joined h.1 f) e

-- what agrees with what is live agrees with its fields
pub met_agrees : (o : Option Holding) (g : Holding) → HoldingsAgree o g → IfSome o (λ h. FieldsAgree h.1 g.1)
met_agrees None g a = tt
met_agrees (Some h) g a = a.1

-- where its dot is unknown here
pub taken_new : (known : Dot → Bool) (s t : LiveState) (c : LiveDot) (id : Id) → map.get s.ids c.dot ≡ None → map.get s.live c.dot ≡ None → known c.dot ≡ false
    → t.live ≡ map.insert s.live c.dot (holding c) → t.ids ≡ map.insert s.ids c.dot id → IsNew s.ids s.spent s.spent id → t.spent ≡ s.spent → s.room ≤ t.room → IsTakenIn known s c t
taken_new known s t c id no_id none new live ids is_new spent room = record {
  live = λ q. ap (λ m. map.get m q) live ∙ map.get-insert dots_total s.live c.dot (holding c) q ∙ at q (eq_by_cmp dot_cmp q c.dot) (one_dot q c.dot);
  ids = record {
    kept = λ q i h. ap (λ m. map.get m q) ids ∙ map.get-insert dots_total s.ids c.dot id q ∙ stays q i h (cases_Bool (eq_by_cmp dot_cmp q c.dot));
    new_ids = λ q i h k. one q i h k (cases_Bool (eq_by_cmp dot_cmp q c.dot));
    spent = spent;
  };
  few = let more = len_one_more s.live c.dot (holding c) none in let now = ap map.len live in omega arith;
  room = room;
}
  where
    at : (q : Dot) (b : Bool) → (b ≡ true → q ≡ c.dot) → cond b (Some (holding c)) (map.get s.live q) ≡ (if b then holding_with (map.get s.live q) (known q) (Some (holding c)) else map.get s.live q)
    at q true same = λ i. holding_with (sym (ap (map.get s.live) (same refl) ∙ none) i) (sym (ap known (same refl) ∙ new) i) (Some (holding c))
    at q false same = refl

    stays : (q : Dot) (i : Id) → map.get s.ids q ≡ Some i → ((eq_by_cmp dot_cmp q c.dot ≡ true) ⊎ (eq_by_cmp dot_cmp q c.dot ≡ false)) → cond (eq_by_cmp dot_cmp q c.dot) (Some id) (map.get s.ids q) ≡ Some i
    stays q i h b = elim b [
      | inl t ↦ absurd (let n = sym h ∙ ap (map.get s.ids) (one_dot q c.dot t) ∙ no_id in cc n)
      | inr f ↦ ap (λ x. cond x (Some id) (map.get s.ids q)) f ∙ h
    ]

    one : (q : Dot) (i : Id) → map.get s.ids q ≡ None → map.get t.ids q ≡ Some i → ((eq_by_cmp dot_cmp q c.dot ≡ true) ⊎ (eq_by_cmp dot_cmp q c.dot ≡ false)) → IsNew s.ids s.spent s.spent i
    one q i h k b = elim b [
      | inl t ↦ subst (IsNew s.ids s.spent s.spent) (same id i (ap (λ x. cond x (Some id) (map.get s.ids q)) (sym t) ∙ sym (map.get-insert dots_total s.ids c.dot id q) ∙ ap (λ m. map.get m q) (sym ids) ∙ k)) is_new
      | inr f ↦ absurd (let n = sym h ∙ ap (λ x. cond x (Some id) (map.get s.ids q)) (sym f) ∙ sym (map.get-insert dots_total s.ids c.dot id q) ∙ ap (λ m. map.get m q) (sym ids) ∙ k in cc n)
    ]
      where
        same : (a b : Id) → Some a ≡ Some b → a ≡ b
        same a b e = cc e

-- nothing before an entry of a list that rises is found behind it
pub none_behind : (xs : List (Dot × Holding)) (e : Dot × Holding) (ys : List (Dot × Holding)) → is_sorted dot_cmp (xs ++ e ∷ ys) ≡ true → find dot_cmp e.0 ys ≡ None
none_behind [] e ys h = find_below dot_cmp dots_total e.0 ys (rising_head dot_cmp dots_total e ys h)
none_behind (x ∷ xs) e ys h = none_behind xs e ys (rising_tail dot_cmp dots_total x (xs ++ e ∷ ys) h)

-- what is live there isn't live here, where none of its dots is known here and all that is live here is
pub unknown_apart : (known : Dot → Bool) (here : map.FinMap dot_cmp Holding) (there : map.FinMap dot_cmp Holding) (ps : List Placed) → ((q : Dot) → is_placed ps q ≡ map.contains_key there q)
    → All (λ p. known p.dot ≡ false) ps → ((q : Dot) → is_some (map.get here q) ≡ true → known q ≡ true) → (q : Dot) → is_some (map.get there q) ≡ true → (map.get here q ≡ None) × (known q ≡ false)
unknown_apart known here there ps placed all heard q live =
    let found = in_any (λ p. eq_by_cmp dot_cmp q p.dot) ps (placed q ∙ live) in
    let unknown : known q ≡ false = ap known (one_dot q found.0.dot found.2 ∙ sym (ap (λ p. p.dot) found.1.2)) ∙ all found.1.0 found.0 found.1.1 in
    (elim (look (map.get here q)) [ inl none ↦ none | inr h ↦ absurd (true≢false (sym (heard q (ap is_some h.1)) ∙ unknown)) ], unknown)

-- what is live there is known, where each of its dots is
pub known_there : (known : Dot → Bool) (there : map.FinMap dot_cmp Holding) (ps : List Placed) → ((q : Dot) → is_placed ps q ≡ map.contains_key there q) → All (λ p. known p.dot ≡ true) ps
    → (q : Dot) → is_some (map.get there q) ≡ true → known q ≡ true
known_there known there ps placed all q live =
    let found = in_any (λ p. eq_by_cmp dot_cmp q p.dot) ps (placed q ∙ live) in
    ap known (one_dot q found.0.dot found.2 ∙ sym (ap (λ p. p.dot) found.1.2)) ∙ all found.1.0 found.0 found.1.1

-- if each dot that is live there is known, no cell is left
pub none_left : (known : Dot → Bool) (there none : map.FinMap dot_cmp Holding) → none ≡ map.empty → ((q : Dot) → is_some (map.get there q) ≡ true → known q ≡ true) → (q : Dot) → map.get none q ≡ (if known q then None else map.get there q)
none_left known there none is all q = ap (λ m. map.get m q) is ∙ map.get-empty dot_cmp q ∙ at (map.get there q) (known q) (all q)
  where
    at : (o : Option Holding) (b : Bool) → (is_some o ≡ true → b ≡ true) → None ≡ (if b then None else o)
    at o true f = refl
    at None false f = refl
    at (Some h) false f = absurd (let n = f refl in cc n)

-- where nothing is known of what is live there, all of it is left
pub all_left : (known : Dot → Bool) (s : LiveState) (there : map.FinMap dot_cmp Holding) → ((q : Dot) → is_some (map.get there q) ≡ true → (map.get s.live q ≡ None) × (known q ≡ false))
    → ((q : Dot) → is_some (map.get s.live q) ≡ true → known q ≡ true) → map.len s.live + map.len there ≤ s.room → AreNewLeft known s there s there
all_left known s there apart heard room = record {
  live = λ q. lives (map.get s.live q) (map.get there q) (known q) (apart q) (heard q);
  left = λ q. stays (map.get there q) (known q) (λ h. (apart q h).1);
  ids = grown_same s s refl refl;
  room = room;
}
  where
    lives : (o p : Option Holding) (b : Bool) → (is_some p ≡ true → (o ≡ None) × (b ≡ false)) → (is_some o ≡ true → b ≡ true) → o ≡ (if b then holding_with o true p else None)
    lives o None true f g = refl
    lives None None false f g = refl
    lives (Some h) None false f g = absurd (let n = g refl in cc n)
    lives o (Some h) true f g = absurd (let n = (f refl).1 in cc n)
    lives None (Some h) false f g = refl
    lives (Some x) (Some h) false f g = absurd (let n = g refl in cc n)

    stays : (p : Option Holding) (b : Bool) → (is_some p ≡ true → b ≡ false) → p ≡ (if b then None else p)
    stays None true f = refl
    stays None false f = refl
    stays (Some h) true f = absurd (let n = f refl in cc n)
    stays (Some h) false f = refl

-- where what is live on both sides is joined, and what is known has gone there
pub new_left : (known : Dot → Bool) (s t : LiveState) (there left : map.FinMap dot_cmp Holding) → IsJoinedWith (λ q. true) s there t → map.len t.live ≤ map.len s.live → s.room ≤ t.room
    → ((q : Dot) → is_some (map.get s.live q) ≡ true → known q ≡ true) → ((q : Dot) → map.get left q ≡ (if known q then None else map.get there q)) → map.len left ≤ map.len there → map.len s.live + map.len there ≤ s.room → AreNewLeft known s there t left
new_left known s t there left join few more heard gone fewer room = record {
  live = λ q. join.live q ∙ lives (map.get s.live q) (map.get there q) (known q) (heard q);
  left = gone;
  ids = join.ids;
  room = omega (arith, few, more, fewer, room);
}
  where
    lives : (o p : Option Holding) (b : Bool) → (is_some o ≡ true → b ≡ true) → holding_with o true p ≡ (if b then holding_with o true p else None)
    lives o p true g = refl
    lives None None false g = refl
    lives None (Some h) false g = refl
    lives (Some x) p false g = absurd (let n = g refl in cc n)

-- what is left isn't live here
pub left_apart : (known : Dot → Bool) (s t : LiveState) (there left : map.FinMap dot_cmp Holding) → AreNewLeft known s there t left → (q : Dot) → is_some (map.get left q) ≡ true → map.get t.live q ≡ None
left_apart known s t there left n q h = at (known q) (n.left q) (n.live q)
  where
    at : (b : Bool) → map.get left q ≡ (if b then None else map.get there q) → map.get t.live q ≡ (if b then holding_with (map.get s.live q) true (map.get there q) else None) → map.get t.live q ≡ None
    at true e f = absurd (let none = sym h ∙ ap is_some e in cc none)
    at false e f = f

-- all cells are joined once what is left is live here too
pub joined_left : (known : Dot → Bool) (s t u : LiveState) (there left : map.FinMap dot_cmp Holding) → ((q : Dot) → is_some (map.get s.live q) ≡ true → known q ≡ true) → AreNewLeft known s there t left
    → ((q : Dot) → map.get u.live q ≡ option_or (map.get t.live q) (map.get left q)) → HaveGrown t u → IsJoinedWith known s there u
joined_left known s t u there left heard n live ids = record {
  live = λ q. live q ∙ (λ i. option_or (n.live q i) (n.left q i)) ∙ at (map.get s.live q) (map.get there q) (known q) (heard q);
  ids = grown_twice s t u n.ids ids;
}
  where
    at : (o p : Option Holding) (b : Bool) → (is_some o ≡ true → b ≡ true) → option_or (if b then holding_with o true p else None) (if b then None else p) ≡ holding_with o b p
    at None None true f = refl
    at (Some h) None true f = refl
    at None (Some g) true f = refl
    at (Some h) (Some g) true f = refl
    at None None false f = refl
    at None (Some g) false f = refl
    at (Some h) p false f = absurd (let n = f refl in cc n)
