-- The dead dots of a site, gathered in the order of their counts.
use Rattle.std.proofs.Common.{◌≡◌, ℕ, ◌+◌, ◌≤◌, ◌<◌, ◌^◌, [], Bool, true, false, not, ◌&&◌, ◌||◌, nat_eq, sym, ap, ◌∙◌, arith}
use Rattle.std.specs.Prelude.{nat_lt, nat_le, List}
use Rattle.std.specs.List.{All}
use Rattle.std.specs.FinSet as sets
use Rattle.std.proofs.lemmas.Bool.{and_parts}
use Rattle.std.proofs.lemmas.Bool.Decides.{nat_tests}
use Rattle.std.proofs.lemmas.List.Elements.{All-weaker}
use Rattle.std.proofs.lemmas.List.Folds.{list_any_none}
use Rattle.std.proofs.Math.Bool.{and-false, and-true}
use Rattle.dots.specs.Values.{Dot}
use Rattle.dots.specs.Orders.{dot_cmp}
use Rattle.dots.specs.DotSets.{IsRunsOf, Run, in_run}
use Rattle.dots.proofs.DotOrder.{dots_total, dots_exact}
use Rattle.causal_context.specs.Contexts.{IsRunWithinLimits}
use Rattle.member_orset.specs.LiveDots.{dead_dots}
use Rattle.member_orset.specs.Gathering.{AreToName, part_before}
use Rattle.member_orset.proofs.SeenDots.{contains_part, known_zero, under}

abbrev at : ℕ → ℕ → Dot
at site count = record { site = site; count = count }

own_site : (s : ℕ) → nat_eq s s ≡ true
own_site s = grind (arith, nat_tests)

not_earlier : (t c s : ℕ) → nat_eq t s ≡ true → (nat_lt t s || (nat_eq t s && nat_lt c 0)) ≡ false
not_earlier t c s h = grind (arith, nat_tests)

before_next : (t c s : ℕ) → nat_eq t s ≡ true → (nat_lt t (s + 1) || (nat_eq t (s + 1) && nat_lt c 0)) ≡ true
before_next t c s h = grind (arith, nat_tests)

past_end : (s t f l n : ℕ) → l < n → (nat_eq s t && (nat_le f n && nat_le n l)) ≡ false
past_end s t f l n h = grind (arith, nat_tests)

-- no known dot has a count past the greatest
known_past : (runs : List Run) (known : sets.FinSet dot_cmp) (site n : ℕ) → IsRunsOf runs known → All IsRunWithinLimits runs → 2 ^ 40 < n → sets.contains known (at site n) ≡ false
known_past runs known site n is limits h =
    is.same (at site n) ∙ list_any_none (in_run (at site n)) runs (All-weaker IsRunWithinLimits (λ r. in_run (at site n) r ≡ false) (λ r l. past_end r.site site r.first r.last n (let most = l.most in omega arith)) runs limits)

module _ (known : sets.FinSet dot_cmp) (live : Dot → Bool) (site : ℕ) where
  abbrev dead : sets.FinSet dot_cmp
  dead = dead_dots known live site

  abbrev is_dead : Dot → Bool
  is_dead q = nat_eq q.site site && not (live q)

  contains_dead : (q : Dot) → sets.contains dead q ≡ (sets.contains known q && is_dead q)
  unfolding dead_dots
  contains_dead q = sets.contains-retain known is_dead q (λ x h. ap is_dead (sym (dots_exact q x h)))

  dead_at : (n : ℕ) → sets.contains dead (at site n) ≡ (sets.contains known (at site n) && not (live (at site n)))
  dead_at n = contains_dead (at site n) ∙ ap (λ b. sets.contains known (at site n) && (b && not (live (at site n)))) (own_site site)

  dead_site : (q : Dot) → sets.contains dead q ≡ true → nat_eq q.site site ≡ true
  dead_site q h = (and_parts (nat_eq q.site site) (not (live q)) (and_parts (sets.contains known q) (is_dead q) (sym (contains_dead q) ∙ h)).1).0

  dead_unknown : (n : ℕ) → sets.contains known (at site n) ≡ false → sets.contains dead (at site n) ≡ false
  dead_unknown n h = dead_at n ∙ ap (λ b. b && not (live (at site n))) h

  dead_past : (runs : List Run) (n : ℕ) → IsRunsOf runs known → All IsRunWithinLimits runs → 2 ^ 40 < n → sets.contains dead (at site n) ≡ false
  dead_past runs n is limits h = dead_unknown n (known_past runs known site n is limits h)

  -- all of them are of the site
  pub none_earlier : part_before dead site 0 ≡ sets.empty
  none_earlier = sets.same_set dots_total dots_exact _ _ (λ q.
      contains_part dead site 0 q ∙ under (sets.contains dead q) _ false (λ t. not_earlier q.site q.count site (dead_site q t)) ∙ and-false (sets.contains dead q)
      ∙ sym (sets.contains-empty dot_cmp q))

  pub all_before_next : part_before dead (site + 1) 0 ≡ dead
  all_before_next = sets.same_set dots_total dots_exact _ _ (λ q.
      contains_part dead (site + 1) 0 q ∙ under (sets.contains dead q) _ true (λ t. before_next q.site q.count site (dead_site q t)) ∙ and-true (sets.contains dead q))

  -- the dots to name are the dead ones up to the greatest count
  pub dead_to_name : (runs : List Run) (last : ℕ) → IsRunsOf runs known → All IsRunWithinLimits runs → 2 ^ 40 ≤ last → AreToName known live [] site last dead
  dead_to_name runs last is limits most = record {
    not_zero = dead_unknown 0 (known_zero runs known site is limits);
    same = λ n lo hi. dead_at n;
    none_past = λ n h. dead_past runs n is limits (omega arith);
  }
