-- One dot that is asserted or killed: what is said of each dot then, and what is kept.
use Rattle.std.proofs.Common.{◌≡◌, is_some, ℕ, ◌+◌, ◌-◌, ◌≤◌, ◌<◌, Bool, true, false, cond, ◌||◌, Option, Some, None, Result, Ok, Err, refl, sym, ap, ◌∙◌, subst, inl, inr, arith, true≢false}
use Rattle.std.specs.Prelude.{if◌then◌else◌, OnErr, OnOk}
use Rattle.std.specs.Prelude.{IsSome}
use Rattle.std.specs.Ordering.{eq_by_cmp}
use Rattle.std.specs.declared.cmp.Ordering.TheVariants.{Less}
use Rattle.std.proofs.lemmas.Cmp.{tied_itself}
use Rattle.std.specs.FinMap as map
use Rattle.std.specs.FinSet as set
use Rattle.std.proofs.lemmas.Bool.{cases_Bool}
use Rattle.std.proofs.lemmas.Option.{same_Some}
use Rattle.std.proofs.Math.Bool.{or-true}
use Rattle.dots.specs.declared.limits.TheConstants.{MOST_LIVE, MOST_RUNS}
use Rattle.dots.specs.declared.member.Member.{Member}
use Rattle.dots.specs.Values.{Dot}
use Rattle.dots.specs.Orders.{dot_cmp}
use Rattle.dots.specs.DotSets.{run_count}
use Rattle.operations.specs.Conditions.{ConditionsAgree, Dead, DotFields, Live, condition_joined, fields_joined}
use Rattle.dots.proofs.DotOrder.{dots_total}
use Rattle.dots.proofs.OneMoreDot.{insert_known}
use Rattle.live_cells.specs.LiveStates.{fields_joined_at, joined_at_held}
use Rattle.member_orset.specs.declared.join_fault.JoinFault.{JoinFault}
use Rattle.member_orset.specs.declared.join_fault.JoinFault.TheVariants.{Conflict}
use Rattle.member_orset.specs.Refusals.{IsRefusedAssert}
use Rattle.member_orset.specs.Members.{AreKept, ConditionsInConflict, HasField, Members, cells_with, condition_at, condition_of}
use Rattle.member_orset.proofs.Agreeing.{conditions_apart, conflict_at}
use Rattle.live_cells.proofs.DotTests.{one_dot, same_itself}
use Rattle.member_orset.proofs.FieldReadings.{joined_field}
use Rattle.live_cells.specs.Holdings.{Holding}
use Rattle.member_orset.specs.Joining.{HoldingsAgree, HoldingsInConflict}

-- what an answer leaves, and what it says
pub either : {E : Type 0} (r : Result (Unit {0}) E) (A : Type 0) → OnOk r A → OnErr r A → A
either (Ok u) A a b = a
either (Err e) A a b = b

pub on_ok_both : {E : Type 0} (r : Result (Unit {0}) E) (P Q R : Type 0) → (P → Q → R) → OnOk r P → OnOk r Q → OnOk r R
on_ok_both (Ok u) P Q R f p q = f p q
on_ok_both (Err e) P Q R f p q = tt

pub on_err : {E : Type 0} (r : Result (Unit {0}) E) (P Q : Type 0) → (P → Q) → OnErr r P → OnErr r Q
on_err (Ok u) P Q f p = tt
on_err (Err e) P Q f p = f p

pub on_err_both : {E : Type 0} (r : Result (Unit {0}) E) (P Q R : Type 0) → (P → Q → R) → OnErr r P → OnErr r Q → OnErr r R
on_err_both (Ok u) P Q R f p q = tt
on_err_both (Err e) P Q R f p q = f p q

-- a known dot is no news
pub known_already : (known : set.FinSet dot_cmp) (d : Dot) → set.contains known d ≡ true → known ≡ set.insert known d
known_already known d h = sym (insert_known known d h)

pub no_more_runs : (known : set.FinSet dot_cmp) (d : Dot) → set.contains known d ≡ true → run_count known ≤ MOST_RUNS → MOST_RUNS < run_count (set.insert known d) → ⊥
no_more_runs known d h few more = let same = ap run_count (insert_known known d h) in omega arith

-- ---- what is kept

pub held_none : (known : set.FinSet dot_cmp) (live : map.FinMap dot_cmp Holding) → live ≡ map.empty → AreKept known live
held_none known live e = record {
  few = let n = ap map.len e ∙ map.len-empty dot_cmp Holding in omega arith;
  heard = λ d h g. absurd (none d h g);
  set = λ d h g. absurd (none d h g);
}
  where
    none : (d : Dot) (h : Holding) → map.get live d ≡ Some h → ⊥
    none d h g = let n = sym g ∙ ap (λ m. map.get m d) e ∙ map.get-empty dot_cmp d in absurd (cc n)

-- more dots are known
pub held_more : (known more : set.FinSet dot_cmp) (live : map.FinMap dot_cmp Holding) → ((q : Dot) → set.contains known q ≡ true → set.contains more q ≡ true) → AreKept known live → AreKept more live
held_more known more live f a = record { few = a.few; heard = λ d h g. f d (a.heard d h g); set = a.set }

pub insert_more : (known : set.FinSet dot_cmp) (d q : Dot) → set.contains known q ≡ true → set.contains (set.insert known d) q ≡ true
insert_more known d q h = set.contains-insert dots_total known d q ∙ ap (λ b. eq_by_cmp dot_cmp q d || b) h ∙ or-true (eq_by_cmp dot_cmp q d)

pub insert_has : (known : set.FinSet dot_cmp) (d : Dot) → set.contains (set.insert known d) d ≡ true
insert_has known d = set.contains-insert dots_total known d d ∙ ap (λ b. b || set.contains known d) (same_itself d)

pub held_removed : (known : set.FinSet dot_cmp) (live : map.FinMap dot_cmp Holding) (d : Dot) → AreKept known live → AreKept known (map.remove live d)
held_removed known live d a = record {
  few = let most = a.few in let n = map.len-remove dots_total live d in less (map.contains_key live d) n most;
  heard = λ q h g. a.heard q h (back q h g);
  set = λ q h g. a.set q h (back q h g);
}
  where
    less : (b : Bool) → map.len (map.remove live d) ≡ cond b (map.len live - 1) (map.len live) → map.len live ≤ MOST_LIVE → map.len (map.remove live d) ≤ MOST_LIVE
    less true n most = omega arith
    less false n most = omega arith

    back : (q : Dot) (h : Holding) → map.get (map.remove live d) q ≡ Some h → map.get live q ≡ Some h
    back q h g = split (eq_by_cmp dot_cmp q d) (sym (map.get-remove dots_total live d q) ∙ g)
      where
        split : (b : Bool) → cond b None (map.get live q) ≡ Some h → map.get live q ≡ Some h
        split true e = absurd (cc e)
        split false e = e

-- a dot is live with this
pub held_inserted : (known : set.FinSet dot_cmp) (live : map.FinMap dot_cmp Holding) (d : Dot) (x : Holding) → set.contains known d ≡ true → HasField x.1 → map.len (map.insert live d x) ≤ MOST_LIVE → AreKept known live → AreKept known (map.insert live d x)
held_inserted known live d x there field few a = record {
  few = few;
  heard = λ q h g. elim (cases_Bool (eq_by_cmp dot_cmp q d)) [
    | inl t ↦ ap (set.contains known) (one_dot q d t) ∙ there
    | inr f ↦ a.heard q h (ap (λ b. cond b (Some x) (map.get live q)) (sym f) ∙ sym (map.get-insert dots_total live d x q) ∙ g)
  ];
  set = λ q h g. elim (cases_Bool (eq_by_cmp dot_cmp q d)) [
    | inl t ↦ subst (λ (y : Holding). HasField y.1) (same_Some x h (ap (λ b. cond b (Some x) (map.get live q)) (sym t) ∙ sym (map.get-insert dots_total live d x q) ∙ g)) field
    | inr f ↦ a.set q h (ap (λ b. cond b (Some x) (map.get live q)) (sym f) ∙ sym (map.get-insert dots_total live d x q) ∙ g)
  ];
}

-- as many dots are live if one of them gets another member or fields
pub len_again : (live : map.FinMap dot_cmp Holding) (d : Dot) (h x : Holding) → map.get live d ≡ Some h → map.len (map.insert live d x) ≡ map.len live
len_again live d h x e = map.len-insert dots_total live d x ∙ there (map.get live d) e
  where
    there : (o : Option Holding) → o ≡ Some h → cond (is_some o) (map.len live) (map.len live + 1) ≡ map.len live
    there None e = absurd (cc e)
    there (Some y) e = refl

-- one more dot is live if it wasn't live
pub len_one_more : (live : map.FinMap dot_cmp Holding) (d : Dot) (x : Holding) → map.get live d ≡ None → map.len (map.insert live d x) ≡ map.len live + 1
len_one_more live d x e = map.len-insert dots_total live d x ∙ there (map.get live d) e
  where
    there : (o : Option Holding) → o ≡ None → cond (is_some o) (map.len live) (map.len live + 1) ≡ map.len live + 1
    there None e = refl
    there (Some y) e = absurd (cc e)

-- the fields of a dot are joined with others, if it is live
pub held_met : (known : set.FinSet dot_cmp) (live : map.FinMap dot_cmp Holding) (d : Dot) (f : DotFields) → AreKept known live → AreKept known (fields_joined_at live d f)
held_met known live d f a = at (map.get live d) refl
  where
    at : (o : Option Holding) → map.get live d ≡ o → AreKept known (joined_at_held live d f o)
    at None e = a
    at (Some h) e = held_inserted known live d (h.0, fields_joined h.1 f) (a.heard d h e) (joined_field h.1 f (a.set d h e)) (let n = len_again live d h (h.0, fields_joined h.1 f) e in let most = a.few in omega arith) a

-- ---- what is said of each dot

-- of a known dot that is asserted
pub met_conditions : (live : map.FinMap dot_cmp Holding) (known : set.FinSet dot_cmp) (d : Dot) (m : Member) (f : DotFields) (q : Dot) → set.contains known d ≡ true
    → condition_at (map.get (fields_joined_at live d f) q) (set.contains known q) ≡ (if eq_by_cmp dot_cmp q d then condition_joined (condition_at (map.get live q) (set.contains known q)) (Some (Live m f)) else condition_at (map.get live q) (set.contains known q))
met_conditions live known d m f q there = at (map.get live d) refl
  where
    none : (b : Bool) → (b ≡ true → q ≡ d) → map.get live d ≡ None → condition_at (map.get live q) (set.contains known q) ≡ (if b then condition_joined (condition_at (map.get live q) (set.contains known q)) (Some (Live m f)) else condition_at (map.get live q) (set.contains known q))
    none true same e =
        let here : condition_at (map.get live q) (set.contains known q) ≡ Some Dead = λ i. condition_at ((ap (map.get live) (same refl) ∙ e) i) ((ap (set.contains known) (same refl) ∙ there) i) in
        here ∙ ap (λ x. condition_joined x (Some (Live m f))) (sym here)
    none false same e = refl

    some : (h : Holding) (b : Bool) → (b ≡ true → q ≡ d) → map.get live d ≡ Some h
        → condition_at (cond b (Some (h.0, fields_joined h.1 f)) (map.get live q)) (set.contains known q) ≡ (if b then condition_joined (condition_at (map.get live q) (set.contains known q)) (Some (Live m f)) else condition_at (map.get live q) (set.contains known q))
    some h true same e =
        let here : condition_at (map.get live q) (set.contains known q) ≡ Some (Live h.0 h.1) = ap (λ o. condition_at o (set.contains known q)) (ap (map.get live) (same refl) ∙ e) in
        ap (λ x. condition_joined x (Some (Live m f))) (sym here)
    some h false same e = refl

    at : (o : Option Holding) → map.get live d ≡ o → condition_at (map.get (joined_at_held live d f o) q) (set.contains known q) ≡ (if eq_by_cmp dot_cmp q d then condition_joined (condition_at (map.get live q) (set.contains known q)) (Some (Live m f)) else condition_at (map.get live q) (set.contains known q))
    at None e = none (eq_by_cmp dot_cmp q d) (one_dot q d) e
    at (Some h) e = ap (λ o. condition_at o (set.contains known q)) (map.get-insert dots_total live d (h.0, fields_joined h.1 f) q) ∙ some h (eq_by_cmp dot_cmp q d) (one_dot q d) e

-- of an unknown dot that is asserted
pub brought_conditions : (live : map.FinMap dot_cmp Holding) (known : set.FinSet dot_cmp) (d : Dot) (x : Holding) (q : Dot) → map.get live d ≡ None → set.contains known d ≡ false
    → condition_at (map.get (map.insert live d x) q) (set.contains (set.insert known d) q) ≡ (if eq_by_cmp dot_cmp q d then condition_joined (condition_at (map.get live q) (set.contains known q)) (Some (Live x.0 x.1)) else condition_at (map.get live q) (set.contains known q))
brought_conditions live known d x q none new = (λ i. condition_at (map.get-insert dots_total live d x q i) (set.contains-insert dots_total known d q i)) ∙ split (eq_by_cmp dot_cmp q d) (one_dot q d)
  where
    split : (b : Bool) → (b ≡ true → q ≡ d) → condition_at (cond b (Some x) (map.get live q)) (b || set.contains known q) ≡ (if b then condition_joined (condition_at (map.get live q) (set.contains known q)) (Some (Live x.0 x.1)) else condition_at (map.get live q) (set.contains known q))
    split true same =
        let here : condition_at (map.get live q) (set.contains known q) ≡ None = λ i. condition_at ((ap (map.get live) (same refl) ∙ none) i) ((ap (set.contains known) (same refl) ∙ new) i) in
        ap (λ y. condition_joined y (Some (Live x.0 x.1))) (sym here)
    split false same = refl

-- an unknown dot isn't live
pub unknown_not_live : (known : set.FinSet dot_cmp) (live : map.FinMap dot_cmp Holding) (d : Dot) → AreKept known live → set.contains known d ≡ false → map.get live d ≡ None
unknown_not_live known live d a f = at (map.get live d) refl
  where
    at : (o : Option Holding) → map.get live d ≡ o → o ≡ None
    at None e = refl
    at (Some h) e = absurd (true≢false (sym (a.heard d h e) ∙ f))

-- a dot past all live ones isn't live
pub not_live_below : (live : map.FinMap dot_cmp Holding) (d : Dot) → ((q : Dot) → IsSome (map.get live q) → dot_cmp q d ≡ Less) → map.get live d ≡ None
not_live_below live d greater = at (map.get live d) refl
  where
    at : (o : Option Holding) → map.get live d ≡ o → o ≡ None
    at None e = refl
    at (Some h) e = absurd (let less = greater d (ap is_some e) in let tied = tied_itself dots_total d in cc (less, tied))

-- ---- for which causes an assert is refused

abbrev pub Answer : Type 0
Answer = Result (Unit {0}) JoinFault

-- for a conflict
pub refused_conflict : (s : Members) (d : Dot) (m : Member) (f : DotFields) → HoldingsInConflict (map.get s.live d) (m, f) → ((h : Holding) → map.get s.live d ≡ Some h → set.contains s.known d ≡ true) → run_count s.known ≤ MOST_RUNS
    → IsRefusedAssert s d m f (λ fault. ◌≡◌ {A = Answer} (Err Conflict) (Err fault))
refused_conflict s d m f conflict heard runs =
    let clash : ConditionsInConflict (condition_of s d) (Some (Live m f)) = conflict_at (map.get s.live d) (m, f) (set.contains s.known d) false conflict in
    record {
      agree = λ never. absurd (never refl);
      conflict = (λ _. clash, λ _. refl);
      cells_full = (λ e. absurd (cc e), λ h. absurd (conditions_apart (condition_of s d) (Some (Live m f)) h.0 clash));
      runs_full = (λ e. absurd (cc e), λ h. absurd (no_more_runs s.known d (known (map.get s.live d) refl) runs h.1));
    }
  where
    known : (o : Option Holding) → map.get s.live d ≡ o → set.contains s.known d ≡ true
    known None e = absurd (subst (λ o. HoldingsInConflict o (m, f)) e conflict)
    known (Some h) e = heard h e

-- for none, of a known dot
pub refused_none : (s : Members) (d : Dot) (m : Member) (f : DotFields) → HoldingsAgree (map.get s.live d) (m, f) → set.contains s.known d ≡ true → cells_with s d ≤ MOST_LIVE → run_count s.known ≤ MOST_RUNS
    → IsRefusedAssert s d m f (λ fault. ◌≡◌ {A = Answer} (Ok tt) (Err fault))
refused_none s d m f agree there few runs =
    let agreed : ConditionsAgree (condition_of s d) (Some (Live m f)) = agreed_at (map.get s.live d) (set.contains s.known d) agree in
    record {
      agree = λ _. agreed;
      conflict = (λ e. absurd (cc e), λ h. absurd (conditions_apart (condition_of s d) (Some (Live m f)) agreed h));
      cells_full = (λ e. absurd (cc e), λ h. absurd (no_more (cells_with s d) few h.1));
      runs_full = (λ e. absurd (cc e), λ h. absurd (no_more_runs s.known d there runs h.1));
    }
  where
    no_more : (n : ℕ) → n ≤ MOST_LIVE → MOST_LIVE < n → ⊥
    no_more n few many = omega (arith, few, many)

    agreed_at : (o : Option Holding) (b : Bool) → HoldingsAgree o (m, f) → ConditionsAgree (condition_at o b) (Some (Live m f))
    agreed_at None true a = tt
    agreed_at None false a = tt
    agreed_at (Some h) b a = a
