-- Whether all that is live on two sides agrees, by the entries of one side.
use Rattle.std.proofs.Common.{◌≡◌, ◌↔◌, Bool, true, false, Option, Some, None, refl, sym, subst, inl, inr}
use Rattle.std.specs.Prelude.{IsTrue, IsFalse}
use Rattle.std.specs.FinMap as map
use Rattle.std.specs.FinSet as set
use Rattle.dots.specs.Values.{Dot}
use Rattle.operations.specs.Registers.{RegistersAgree, Entry, RegistersInConflict}
use Rattle.operations.specs.Conditions.{Condition, ConditionsAgree, Dead, DotFields, FieldsAgree, FieldsInConflict, Live}
use Rattle.member_orset.specs.Members.{SetsAgree, SetsInConflict, ConditionsInConflict, Members, condition_at, condition_of}
use Rattle.member_orset.specs.Joining.{DecidesAgreement, HoldingsAgree, HoldingsInConflict}
use Rattle.dots.specs.Orders.{dot_cmp}
use Rattle.dots.proofs.DotOrder.{dots_total}
use Rattle.general_lemmas.proofs.MapEntries.{entry_in, entry_is}
use Rattle.live_cells.proofs.DotTests.{one_dot}
use Rattle.live_cells.specs.Holdings.{Holding}

-- registers that agree aren't in conflict
apart : {T : Type 0} (x y : Option (Entry T)) → RegistersAgree x y → RegistersInConflict x y → ⊥
apart x y a c = c.two_values (a c.first c.second c.in_first c.in_second c.one_stamp)

fields_apart : (x y : DotFields) → FieldsAgree x y → FieldsInConflict x y → ⊥
fields_apart x y a c = elim c [
  | inl p ↦ apart x.penalty y.penalty a.penalty p
  | inr r ↦ elim r [
    | inl p ↦ apart x.pause y.pause a.pause p
    | inr q ↦ elim q [
      | inl l ↦ apart x.label y.label a.label l
      | inr l ↦ apart x.ring y.ring a.ring l
    ]
  ]
]

-- conditions that agree aren't in conflict
pub conditions_apart : (x y : Option Condition) → ConditionsAgree x y → ConditionsInConflict x y → ⊥
conditions_apart (Some (Live m f)) (Some (Live n g)) a c = elim c [ inl o ↦ o a.0 | inr r ↦ fields_apart f g a.1 r ]
conditions_apart (Some (Live m f)) (Some Dead) a c = c
conditions_apart (Some (Live m f)) None a c = c
conditions_apart (Some Dead) y a c = c
conditions_apart None y a c = c

-- sets that agree aren't in conflict
pub sets_apart : (s t : Members) → SetsAgree s t → SetsInConflict s t → ⊥
sets_apart s t agree c = conditions_apart (condition_of s c.dot) (condition_of t c.dot) (agree c.dot) c.conflict

pub agree_at : (o p : Option Holding) (a b : Bool) → ((h : Holding) → p ≡ Some h → HoldingsAgree o h) → ConditionsAgree (condition_at o a) (condition_at p b)
agree_at None p true b f = tt
agree_at None p false b f = tt
agree_at (Some h) None a true f = tt
agree_at (Some h) None a false f = tt
agree_at (Some h) (Some g) a b f = f g refl

-- what agrees as conditions does as what is live
pub agree_back : (o : Option Holding) (h : Holding) (a b : Bool) → ConditionsAgree (condition_at o a) (condition_at (Some h) b) → HoldingsAgree o h
agree_back None h a b c = tt
agree_back (Some g) h a b c = c

pub conflict_at : (o : Option Holding) (h : Holding) (a b : Bool) → HoldingsInConflict o h → ConditionsInConflict (condition_at o a) (condition_at (Some h) b)
conflict_at None h a b c = absurd c
conflict_at (Some g) h a b c = c

-- the answer by the entries is the answer by the conditions
pub reported : (s t : Members) (r : Bool) → DecidesAgreement s.live (map.entries t.live) r → (IsTrue r ↔ SetsAgree s t) × (IsFalse r ↔ SetsInConflict s t)
reported s t true is =
    let agree : SetsAgree s t = λ q. agree_at (map.get s.live q) (map.get t.live q) (set.contains s.known q) (set.contains t.known q) (λ h e.
    let i = entry_in dot_cmp dots_total one_dot t.live q h e in subst (λ (x : Dot × Holding). HoldingsAgree (map.get s.live x.0) x.1) i.2 (is i.0 (q, h) i.1)) in
    ((λ x. agree, λ x. refl), (λ x. absurd (cc x), λ x. absurd (conditions_apart (condition_of s x.dot) (condition_of t x.dot) (agree x.dot) x.conflict)))
reported s t false is =
    let q = is.entry.0 in
    let there : map.get t.live q ≡ Some is.entry.1 = entry_is dot_cmp dots_total t.live is.entry is.here in
    let conflict : ConditionsInConflict (condition_of s q) (condition_of t q) =
    subst (λ (p : Option Holding). ConditionsInConflict (condition_of s q) (condition_at p (set.contains t.known q))) (sym there) (conflict_at (map.get s.live q) is.entry.1 (set.contains s.known q) (set.contains t.known q) is.conflict) in
    ((λ x. absurd (cc x), λ x. absurd (conditions_apart (condition_of s q) (condition_of t q) (x q) conflict)), (λ x. record { dot = q; conflict = conflict }, λ x. refl))
