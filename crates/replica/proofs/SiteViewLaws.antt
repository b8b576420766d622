-- What is read of a knowledge once it has one operation more, and that it depends on what it contains alone.
use Rattle.std.proofs.Common.{◌≡◌, ℕ, ◌≤◌, Bool, true, false, not, ◌&&◌, ◌||◌, [], ◌∷◌, Contains, refl, sym, ap, ◌∙◌, arith, inl, inr}
use Rattle.std.specs.FinSet as set
use Rattle.dots.specs.DotSets.{is_older}
use Rattle.dots.specs.Values.{Dot}
use Rattle.operations.specs.Operations.{Operation}
use Rattle.operations.specs.Knowledge.{Knowledge, SameOperations, IsConsistent, asserts, names, is_asserted, is_named, asserted_dots, visible_dots, known_dots}
use Rattle.dots.proofs.DotOrder.{dots_total, dots_exact}
use Rattle.operations.proofs.KnownLaws.{known_dot, dead_dot}
use Rattle.general_lemmas.proofs.Membership.{first_in, later_in, cases_in}
use Rattle.operations.proofs.VisibleLaws.{asserted_dot, visible_dot, same_any}
use Rattle.operations.proofs.RowLaws.{same_view}
use Rattle.operations.proofs.CountLaws.{same_total}
use Rattle.replica.specs.Changes.{meaning}
use Rattle.replica.specs.Promises.{ForeseesOneMore, OlderAreNamed, MeansTheSame}
use Rattle.replica.specs.SiteViews.{site_view, greatest, count_used, time_used, is_dead, older_dots, visible_with, known_with}

-- a dead dot is one that some operation has named
pub dead_is : (site : ℕ) (k : Knowledge) (dot : Dot) → is_dead (site_view site k) dot ≡ is_named k dot
dead_is site k dot = dead_dot k dot

visible_bools : (a n b m : Bool) → (((a && not n) || (b || false)) && not (n || m)) ≡ ((b || a) && not (m || n))
visible_bools true true true true = refl
visible_bools true true true false = refl
visible_bools true true false true = refl
visible_bools true true false false = refl
visible_bools true false true true = refl
visible_bools true false true false = refl
visible_bools true false false true = refl
visible_bools true false false false = refl
visible_bools false true true true = refl
visible_bools false true true false = refl
visible_bools false true false true = refl
visible_bools false true false false = refl
visible_bools false false true true = refl
visible_bools false false true false = refl
visible_bools false false false true = refl
visible_bools false false false false = refl

known_bools : (a n b m : Bool) → ((a || n) || ((b || false) || (m || false))) ≡ ((b || a) || (m || n))
known_bools true n true m = refl
known_bools true n false true = refl
known_bools true n false false = refl
known_bools false true true m = refl
known_bools false true false true = refl
known_bools false true false false = refl
known_bools false false true m = refl
known_bools false false false true = refl
known_bools false false false false = refl

visible-with : (site : ℕ) (k : Knowledge) (o : Operation) (dot : Dot) → set.contains (visible_with (site_view site k) o) dot ≡ set.contains (visible_dots (o ∷ k)) dot
unfolding visible_with
visible-with site k o dot =
    let r = site_view site k in
    set.contains-retain (set.union (visible_dots k) (asserted_dots (o ∷ []))) (λ d. not (is_dead r d || names d o)) dot
    (λ x e. ap (λ d. not (is_dead r d || names d o)) (sym (dots_exact dot x e)))
    ∙ (λ i. set.contains-union dots_total (visible_dots k) (asserted_dots (o ∷ [])) dot i && not (dead_is site k dot i || names dot o))
    ∙ (λ i. (visible_dot k dot i || asserted_dot (o ∷ []) dot i) && not (is_named k dot || names dot o))
    ∙ visible_bools (is_asserted k dot) (is_named k dot) (asserts dot o) (names dot o) ∙ sym (visible_dot (o ∷ k) dot)

known-with : (site : ℕ) (k : Knowledge) (o : Operation) (dot : Dot) → set.contains (known_with (site_view site k) o) dot ≡ set.contains (known_dots (o ∷ k)) dot
unfolding known_with
known-with site k o dot =
    set.contains-union dots_total (known_dots k) (known_dots (o ∷ [])) dot ∙ (λ i. known_dot k dot i || known_dot (o ∷ []) dot i)
    ∙ known_bools (is_asserted k dot) (is_named k dot) (asserts dot o) (names dot o) ∙ sym (known_dot (o ∷ k) dot)

pub one_more : (site : ℕ) (k : Knowledge) (o : Operation) → ForeseesOneMore site k o
one_more site k o = record {
  visible = set.same_set dots_total dots_exact (visible_with (site_view site k) o) (visible_dots (o ∷ k)) (visible-with site k o);
  known = set.same_set dots_total dots_exact (known_with (site_view site k) o) (known_dots (o ∷ k)) (known-with site k o);
}

older_bools : (a n b : Bool) → ((a || n) && (n && b)) ≡ (n && b)
older_bools true n b = refl
older_bools false true b = refl
older_bools false false b = refl

pub older_named : OlderAreNamed
unfolding older_dots
older_named site k dots dot =
    let r = site_view site k in
    set.contains-retain (known_dots k) (λ d. is_dead r d && is_older dots d) dot (λ x e. ap (λ d. is_dead r d && is_older dots d) (sym (dots_exact dot x e)))
    ∙ (λ i. known_dot k dot i && (dead_is site k dot i && is_older dots dot)) ∙ older_bools (is_asserted k dot) (is_named k dot) (is_older dots dot)

greatest_above : (f : Operation → ℕ) (k : Knowledge) (o : Operation) → Contains k o → f o ≤ greatest f k
greatest_above f [] o h = omega (arith, h.1)
greatest_above f (p ∷ k) o h = elim (cases_in p k o h) [
  | inl e ↦ let same : f p ≡ f o = ap f e in omega arith
  | inr r ↦ omega (arith, greatest_above f k o r)
]

greatest_below : (f : Operation → ℕ) (k : Knowledge) (most : ℕ) → ((o : Operation) → Contains k o → f o ≤ most) → greatest f k ≤ most
greatest_below f [] most h = omega arith
greatest_below f (p ∷ k) most h = omega (arith, h p (first_in p k), greatest_below f k most (λ o here. h o (later_in p k o here)))

same_greatest : (f : Operation → ℕ) (k l : Knowledge) → SameOperations k l → greatest f k ≡ greatest f l
same_greatest f k l same = omega (
  arith,
  greatest_below f k (greatest f l) (λ o here. greatest_above f l o ((same o).0 here)),
  greatest_below f l (greatest f k) (λ o here. greatest_above f k o ((same o).1 here)),
)

same_known : (k l : Knowledge) → SameOperations k l → known_dots k ≡ known_dots l
same_known k l same = set.same_set dots_total dots_exact (known_dots k) (known_dots l) (λ dot.
    known_dot k dot ∙ (λ i. same_any (asserts dot) k l same i || same_any (names dot) k l same i) ∙ sym (known_dot l dot))

-- knowledges of the same operations read alike
pub same_views : (site : ℕ) (k l : Knowledge) → IsConsistent k → SameOperations k l → site_view site k ≡ site_view site l
same_views site k l ok same = λ i. record {
  dots = same_view k l ok same i;
  known = same_known k l same i;
  totals = λ s queue calls. same_total k l same s queue calls i;
  last_count = same_greatest (count_used site) k l same i;
  last_time = same_greatest (time_used site) k l same i;
}

pub means_the_same : MeansTheSame
means_the_same site names change k l buffer other ok same ok_buffer same_buffer =
    λ i. meaning site names (same_views site k l ok same i) (same_views site buffer other ok_buffer same_buffer i) change
