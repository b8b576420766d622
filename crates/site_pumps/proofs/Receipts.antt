-- One receipt more.
use Rattle.std.proofs.Common.{◌≡◌, ◌⊎◌, inl, inr, ℕ, ◌+◌, ◌≤◌, List, [], ◌∷◌, ◌++◌, length, map, refl, sym, ap, subst, ◌∙◌, length-append, arith}
use Rattle.std.proofs.lemmas.List.{length-map}
use Rattle.site_journal.specs.declared.receipt.Receipt.{Receipt}
use Rattle.site_journal.specs.declared.step.StepDeed.TheVariants.{Took, Cut}
use Rattle.site_journal.specs.Receipts.{IsOfCut, IsOfWhole, IsOfTake}
use Rattle.site_pumps.specs.Deeds.{AreCuts, AreCutsAndWhole, AreCutsFor, AreTakes}

pub map_more : {A B : Type 0} (f : A → B) (xs : List A) (x : A) → map f (xs ++ x ∷ []) ≡ map f xs ++ f x ∷ []
map_more f [] x = refl
map_more f (y ∷ ys) x = ap (λ l. f y ∷ l) (map_more f ys x)

pub cuts_more : (n : ℕ) (rs all : List Receipt) (r : Receipt) → all ≡ rs ++ r ∷ [] → IsOfCut r → AreCuts n rs → AreCuts (n + 1) all
cuts_more n rs all r is cut cuts = (
  cuts.0 ++ cut.0 ∷ [],
  (let e = cuts.1 in omega (arith, length-append cuts.0 (cut.0 ∷ []))),
  ap (map (λ (x : Receipt). x.deed)) is ∙ map_more (λ (x : Receipt). x.deed) rs r ∙ ap (λ l. l ++ r.deed ∷ []) cuts.2 ∙ ap (λ d. map Cut cuts.0 ++ d ∷ []) cut.1 ∙ sym (map_more Cut cuts.0 cut.0),
)

pub cuts_whole : (n : ℕ) (rs all : List Receipt) (r : Receipt) → all ≡ rs ++ r ∷ [] → IsOfWhole r → AreCuts n rs → AreCutsAndWhole n all
cuts_whole n rs all r is whole cuts = (
  cuts.0,
  whole.0,
  cuts.1,
  ap (map (λ (x : Receipt). x.deed)) is ∙ map_more (λ (x : Receipt). x.deed) rs r ∙ ap (λ l. l ++ r.deed ∷ []) cuts.2 ∙ ap (λ d. map Cut cuts.0 ++ d ∷ []) whole.1,
)

-- cuts have a receipt each
pub cuts_long : (n : ℕ) (rs : List Receipt) → AreCuts n rs → length rs ≡ n
cuts_long n rs cuts = sym (length-map rs (λ (x : Receipt). x.deed)) ∙ ap length cuts.2 ∙ length-map cuts.0 Cut ∙ cuts.1

-- a cut more, or none
pub cuts_perhaps : (n rung : ℕ) (rs all : List Receipt) → n ≤ rung → rung ≤ n + 1 → (all ≡ rs) ⊎ ((r : Receipt) × IsOfCut r × (all ≡ rs ++ r ∷ [])) → AreCuts n rs → AreCutsFor rung all
cuts_perhaps n rung rs all low high (inl same) cuts = (n, omega (arith, low), high, inl (subst (AreCuts n) (sym same) cuts))
cuts_perhaps n rung rs all low high (inr more) cuts = (n + 1, omega (arith, low), omega (arith, high), inl (cuts_more n rs all more.0 more.2 more.1 cuts))

-- a frame of all behind the cuts, or none
pub whole_perhaps : (n : ℕ) (rs all : List Receipt) → (all ≡ rs) ⊎ ((r : Receipt) × IsOfWhole r × (all ≡ rs ++ r ∷ [])) → AreCuts (n + 1) rs → AreCutsFor n all
whole_perhaps n rs all (inl same) cuts = (n + 1, omega arith, omega arith, inl (subst (AreCuts (n + 1)) (sym same) cuts))
whole_perhaps n rs all (inr more) cuts = (n + 1, omega arith, omega arith, inr (cuts_whole (n + 1) rs all more.0 more.2 more.1 cuts))

pub takes_more : (items : List (List ℕ)) (bytes : List ℕ) (rs all : List Receipt) (r : Receipt) → all ≡ rs ++ r ∷ [] → IsOfTake bytes r → AreTakes items rs → AreTakes (items ++ bytes ∷ []) all
takes_more items bytes rs all r is took takes =
    ap (map (λ (x : Receipt). x.deed)) is ∙ map_more (λ (x : Receipt). x.deed) rs r ∙ ap (λ l. l ++ r.deed ∷ []) takes ∙ ap (λ d. map Took items ++ d ∷ []) took ∙ sym (map_more Took items bytes)
