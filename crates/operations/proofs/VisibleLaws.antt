-- Which dots are visible.
use Rattle.std.proofs.Common.{◌≡◌, Bool, true, false, not, ◌&&◌, ◌||◌, ◌++◌, refl, sym, ap, ◌∙◌, true≢false, map, ◌↔◌}
use Rattle.std.specs.List.{list_any}
use Rattle.std.specs.FinSet as set
use Rattle.std.proofs.lemmas.List.Folds.{list_any-append}
use Rattle.std.proofs.lemmas.Bool.{false_from_ne_true}
use Rattle.std.proofs.Math.Bool.{and-false}
use Rattle.dots.specs.Values.{Dot}
use Rattle.operations.specs.Operations.{Operation, asserted_by}
use Rattle.operations.specs.Knowledge.{Knowledge, SameOperations, is_dot, asserts, names, is_asserted, is_named, all_asserted, asserted_dots, visible_dots}
use Rattle.operations.specs.Shown.{IsVisible}
use Rattle.dots.proofs.DotOrder.{dots_total, dots_exact}
use Rattle.general_lemmas.proofs.Membership.{any_in, in_any, any_map, any_flat_map, same_tests}

pub asserted_dot : (k : Knowledge) (dot : Dot) → set.contains (asserted_dots k) dot ≡ is_asserted k dot
unfolding asserted_dots
asserted_dot k dot =
    set.contains-from_list dots_total (map (λ p. p.0) (all_asserted k)) dot ∙ any_map (is_dot dot) (λ p. p.0) (all_asserted k) ∙ any_flat_map (λ p. is_dot dot p.0) asserted_by k

pub visible_dot : (k : Knowledge) (dot : Dot) → set.contains (visible_dots k) dot ≡ (is_asserted k dot && not (is_named k dot))
unfolding visible_dots
visible_dot k dot =
    set.contains-retain (asserted_dots k) (λ d. not (is_named k d)) dot (λ x e. ap (λ d. not (is_named k d)) (sym (dots_exact dot x e)))
    ∙ ap (λ b. b && not (is_named k dot)) (asserted_dot k dot)

both : (a b : Bool) → (a && not b) ≡ true → (a ≡ true) × (b ≡ false)
both true true h = absurd (true≢false (sym h))
both true false h = (refl, refl)
both false b h = absurd (true≢false (sym h))

joins : (a b : Bool) → a ≡ true → b ≡ false → (a && not b) ≡ true
joins a b p q = (λ i. p i && not (q i))

-- a visible dot is asserted, and not named
pub visible_parts : (k : Knowledge) (dot : Dot) → set.contains (visible_dots k) dot ≡ true → (is_asserted k dot ≡ true) × (is_named k dot ≡ false)
visible_parts k dot h = both (is_asserted k dot) (is_named k dot) (sym (visible_dot k dot) ∙ h)

-- a dot that is asserted and not named is visible
pub visible_from : (k : Knowledge) (dot : Dot) → is_asserted k dot ≡ true → is_named k dot ≡ false → set.contains (visible_dots k) dot ≡ true
visible_from k dot asserted unnamed = visible_dot k dot ∙ joins (is_asserted k dot) (is_named k dot) asserted unnamed

-- a dot is visible exactly where some operation asserts it and none names it
pub visible_is : (k : Knowledge) (dot : Dot) → (set.contains (visible_dots k) dot ≡ true) ↔ IsVisible k dot
visible_is k dot = (to, from)
  where
    to : set.contains (visible_dots k) dot ≡ true → IsVisible k dot
    to h =
        let is = visible_parts k dot h in
        record {
          asserted = in_any (asserts dot) k is.0;
          unnamed = λ o here. false_from_ne_true (names dot o) (λ named. true≢false (sym (any_in (names dot) k o here named) ∙ is.1));
        }

    from : IsVisible k dot → set.contains (visible_dots k) dot ≡ true
    from v =
        visible_from k dot (any_in (asserts dot) k v.asserted.0 v.asserted.1 v.asserted.2)
        (false_from_ne_true (is_named k dot) (λ h. let o = in_any (names dot) k h in true≢false (sym o.2 ∙ v.unnamed o.0 o.1)))

-- what some operation names stays named, whatever comes before and after
pub stays_named : (l k m : Knowledge) (dot : Dot) → is_named k dot ≡ true → is_named (l ++ k ++ m) dot ≡ true
stays_named l k m dot h =
    list_any-append (names dot) (l ++ k) m ∙ (λ i. (list_any-append (names dot) l k ∙ (λ j. is_named l dot || h j)) i || is_named m dot) ∙ or_true (is_named l dot) (is_named m dot)
  where
    or_true : (a b : Bool) → ((a || true) || b) ≡ true
    or_true true b = refl
    or_true false b = refl

-- a named dot stays dead
pub dead_for_good : (l k m : Knowledge) (dot : Dot) → is_named k dot ≡ true → set.contains (visible_dots (l ++ k ++ m)) dot ≡ false
dead_for_good l k m dot h =
    visible_dot (l ++ k ++ m) dot ∙ (λ i. is_asserted (l ++ k ++ m) dot && not (stays_named l k m dot h i)) ∙ and-false (is_asserted (l ++ k ++ m) dot)

-- a test that some operation passes, of two knowledges with the same operations
pub same_any : (p : Operation → Bool) (k l : Knowledge) → SameOperations k l → list_any p k ≡ list_any p l
same_any p k l same = same_tests (list_any p k) (list_any p l)
    (λ h. let o = in_any p k h in any_in p l o.0 ((same o.0).0 o.1) o.2)
    (λ h. let o = in_any p l h in any_in p k o.0 ((same o.0).1 o.1) o.2)

pub same_visible : (k l : Knowledge) → SameOperations k l → visible_dots k ≡ visible_dots l
same_visible k l same = set.same_set dots_total dots_exact (visible_dots k) (visible_dots l) (λ dot.
    visible_dot k dot ∙ (λ i. same_any (asserts dot) k l same i && not (same_any (names dot) k l same i)) ∙ sym (visible_dot l dot))
