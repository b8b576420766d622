-- The cells of the other side while they are taken in.
use Rattle.std.proofs.Common.{◌≡◌, ◌+◌, ◌<◌, ◌≤◌, Bool, true, false, cond, Contains, List, [], ◌∷◌, ◌++◌, length, Option, Some, None, is_some, refl, sym, ap, subst, ◌∙◌, arith}
use Rattle.std.specs.Prelude.{if◌then◌else◌}
use Rattle.std.specs.Ordering.{eq_by_cmp}
use Rattle.std.specs.FinMap as map
use Rattle.std.specs.FinMap.Entries.{find, is_sorted}
use Rattle.std.proofs.lemmas.List.Elements.{Contains-append_right}
use Rattle.dots.specs.Values.{Dot}
use Rattle.dots.specs.Orders.{dot_cmp}
use Rattle.general_lemmas.proofs.Membership.{first_in}
use Rattle.general_lemmas.proofs.TruthTables.{fact}
use Rattle.live_cells.specs.declared.live_dot.LiveDot.{LiveDot}
use Rattle.member_orset.specs.Joining.{EntriesAgree, IsJoinedWith, IsTakenIn, holding_with, HoldingsAgree}
use Rattle.live_cells.specs.LiveLists.{entry_of, holding}
use Rattle.live_cells.specs.LiveStates.{LiveState, HaveGrown}
use Rattle.live_cells.proofs.DotTests.{one_dot, same_tied}
use Rattle.live_cells.proofs.IdSteps.{grown_same, grown_twice}
use Rattle.dots.proofs.DotOrder.{dots_total}
use Rattle.general_lemmas.proofs.MapEntries.{entry_is}
use Rattle.member_orset.proofs.Taking.{none_behind}
use Rattle.live_cells.specs.Holdings.{Holding}

abbrev pub Entries : Type 0
Entries = List (Dot × Holding)

-- what is live of a dot that is left or not, where all that is live there is taken in in the end
abbrev pub met : (Dot → Bool) → LiveState → map.FinMap dot_cmp Holding → Dot → Option Holding → Option Holding
met known old there q left = if is_some left then map.get old.live q else holding_with (map.get old.live q) (known q) (map.get there q)

-- of what is live there some entries are left, and the others were taken in
pub record Taken (known : Dot → Bool) (old now : LiveState) (there : map.FinMap dot_cmp Holding) (left : Entries) : Type 0 where
  pub done : Entries
  pub parts : map.entries there ≡ done ++ left
  pub live : (q : Dot) → map.get now.live q ≡ met known old there q (find dot_cmp q left)
  pub ids : HaveGrown old now
  pub room : map.len now.live + length left ≤ now.room

pub taken_none : (known : Dot → Bool) (s : LiveState) (there : map.FinMap dot_cmp Holding) → map.len s.live + length (map.entries there) ≤ s.room → Taken known s s there (map.entries there)
taken_none known s there room = record { done = []; parts = refl; live = λ q. at q (map.get there q) refl ∙ ap (met known s there q) (map.get-entries there q); ids = grown_same s s refl refl; room = room }
  where
    at : (q : Dot) (o : Option Holding) → map.get there q ≡ o → map.get s.live q ≡ met known s there q (map.get there q)
    at q (Some h) is = sym (ap (met known s there q) is)
    at q None is = sym (ap (met known s there q) is ∙ ap (holding_with (map.get s.live q) (known q)) is)

module _ (known : Dot → Bool) (old now after : LiveState) (there : map.FinMap dot_cmp Holding) (before left : Entries) (c : LiveDot) (t : Taken known old now there before) (split : before ≡ entry_of c ∷ left) where
  together : map.entries there ≡ t.done ++ (entry_of c ∷ left)
  together = t.parts ∙ ap (λ es. t.done ++ es) split

  here : Contains (map.entries there) (entry_of c)
  here = subst (λ (es : Entries). Contains es (entry_of c)) (sym together) (Contains-append_right t.done (entry_of c ∷ left) (entry_of c) (first_in (entry_of c) left))

  held : map.get there c.dot ≡ Some (holding c)
  held = entry_is dot_cmp dots_total there (entry_of c) here

  -- the next cell is none of those behind it
  not_left : find dot_cmp c.dot left ≡ None
  not_left = none_behind t.done (entry_of c) left (ap (is_sorted dot_cmp) (sym together) ∙ fact _ (map.entries_sorted there))

  met_next : (q : Dot) → map.get now.live q ≡ met known old there q (cond (eq_by_cmp dot_cmp q c.dot) (Some (holding c)) (find dot_cmp q left))
  met_next q = t.live q ∙ ap (λ es. met known old there q (find dot_cmp q es)) split

  untouched : map.get now.live c.dot ≡ map.get old.live c.dot
  untouched = met_next c.dot ∙ ap (λ b. met known old there c.dot (cond b (Some (holding c)) (find dot_cmp c.dot left))) (same_tied c.dot c.dot refl)

  -- the next cell agrees with what is live here
  pub next_agrees : EntriesAgree old.live (map.entries there) → HoldingsAgree (map.get now.live c.dot) (holding c)
  next_agrees agree = subst (λ o. HoldingsAgree o (holding c)) (sym untouched) (subst (λ (e : Dot × Holding). HoldingsAgree (map.get old.live e.0) e.1) here.2 (agree here.0 (entry_of c) here.1))

  pub next_room : map.len now.live + 1 ≤ now.room
  next_room = let n = ap length split in let room = t.room in omega arith

  -- once it is taken in
  pub taken_more : IsTakenIn known now c after → Taken known old after there left
  taken_more h = record {
    done = t.done ++ entry_of c ∷ [];
    parts = together ∙ sym (append_assoc t.done);
    live = λ q. h.live q ∙ at q (eq_by_cmp dot_cmp q c.dot) (one_dot q c.dot) (met_next q);
    ids = grown_twice old now after t.ids h.ids;
    room = let n = ap length split in let room = t.room in let few = h.few in let more = h.room in omega arith;
  }
    where
      append_assoc : (es : Entries) → (es ++ entry_of c ∷ []) ++ left ≡ es ++ (entry_of c ∷ left)
      append_assoc [] = refl
      append_assoc (e ∷ es) = ap (λ xs. e ∷ xs) (append_assoc es)

      at : (q : Dot) (b : Bool) → (b ≡ true → q ≡ c.dot) → map.get now.live q ≡ met known old there q (cond b (Some (holding c)) (find dot_cmp q left))
          → (if b then holding_with (map.get now.live q) (known q) (Some (holding c)) else map.get now.live q) ≡ met known old there q (find dot_cmp q left)
      at q true same now_is =
          ap (λ o. holding_with o (known q) (Some (holding c))) now_is ∙ ap (holding_with (map.get old.live q) (known q)) (sym (ap (map.get there) (same refl) ∙ held))
          ∙ sym (ap (met known old there q) (ap (λ d. find dot_cmp d left) (same refl) ∙ not_left))
      at q false same now_is = now_is

-- once all are taken in
pub taken_all : (known : Dot → Bool) (old now : LiveState) (there : map.FinMap dot_cmp Holding) (left : Entries) → left ≡ [] → Taken known old now there left → IsJoinedWith known old there now
taken_all known old now there left none t = record { live = λ q. t.live q ∙ ap (λ es. met known old there q (find dot_cmp q es)) none; ids = t.ids }

-- one cell fewer is left
pub one_fewer : (before left : Entries) (c : LiveDot) → before ≡ entry_of c ∷ left → length left < length before
one_fewer before left c split = let n = ap length split in omega arith
