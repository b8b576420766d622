use Rattle.std.proofs.Common.{◌≡◌, ◌≢◌, ◌∙◌, ◌<◌, ◌++◌, ◌∷◌, List, [], ap, arith, get_or, inl, inr, length, lit<, sym, ◌⊎◌, ℕ}
use Rattle.std.proofs.lemmas.List.Elements.{All-cons, All-nil}
use Rattle.std.proofs.lemmas.List.Kept.{AllPairs-cons}
use Rattle.std.proofs.Math.ListN.{get_or-append}
use Rattle.link_hello.specs.Codes.{accepts, acknowledgements_label, dials, items_label, verdict_label}
use Rattle.link_hello.proofs.laws.labels_keep_messages_apart.Goals as goal

-- no message under one label is one under the other
abbrev Apart : List ℕ → List ℕ → Type 0
Apart one other = (some more : List ℕ) → one ++ some ≢ other ++ more

-- labels whose 23rd bytes differ
differ : (one other : List ℕ) → 22 < length one → 22 < length other → (get_or one 22 0 ≡ get_or other 22 0 → ⊥) → Apart one other
differ one other long longer apart some more same =
    apart (sym (get_or-append one some 0 22 long) ∙ ap (λ m. get_or m 22 0) same ∙ get_or-append other more 0 22 longer)

not_same : (a b : ℕ) → (a < b) ⊎ (b < a) → a ≡ b → ⊥
not_same a b (inl less) same = omega arith
not_same a b (inr more) same = omega arith

pub returns : goal.returns
returns c =
    AllPairs-cons Apart accepts (dials ∷ verdict_label ∷ items_label ∷ acknowledgements_label ∷ [])
    (All-cons (Apart accepts) dials (verdict_label ∷ items_label ∷ acknowledgements_label ∷ []) (differ accepts dials (lit< tt) (lit< tt) (not_same 99 97 (inr (lit< tt))))
    (All-cons (Apart accepts) verdict_label (items_label ∷ acknowledgements_label ∷ []) (differ accepts verdict_label (lit< tt) (lit< tt) (not_same 99 114 (inl (lit< tt))))
    (All-cons (Apart accepts) items_label (acknowledgements_label ∷ []) (differ accepts items_label (lit< tt) (lit< tt) (not_same 99 101 (inl (lit< tt))))
    (All-cons (Apart accepts) acknowledgements_label [] (differ accepts acknowledgements_label (lit< tt) (lit< tt) (not_same 99 107 (inl (lit< tt)))) (All-nil (Apart accepts))))))
    (AllPairs-cons Apart dials (verdict_label ∷ items_label ∷ acknowledgements_label ∷ [])
    (All-cons (Apart dials) verdict_label (items_label ∷ acknowledgements_label ∷ []) (differ dials verdict_label (lit< tt) (lit< tt) (not_same 97 114 (inl (lit< tt))))
    (All-cons (Apart dials) items_label (acknowledgements_label ∷ []) (differ dials items_label (lit< tt) (lit< tt) (not_same 97 101 (inl (lit< tt))))
    (All-cons (Apart dials) acknowledgements_label [] (differ dials acknowledgements_label (lit< tt) (lit< tt) (not_same 97 107 (inl (lit< tt)))) (All-nil (Apart dials)))))
    (AllPairs-cons Apart verdict_label (items_label ∷ acknowledgements_label ∷ [])
    (All-cons (Apart verdict_label) items_label (acknowledgements_label ∷ []) (differ verdict_label items_label (lit< tt) (lit< tt) (not_same 114 101 (inr (lit< tt))))
    (All-cons (Apart verdict_label) acknowledgements_label [] (differ verdict_label acknowledgements_label (lit< tt) (lit< tt) (not_same 114 107 (inr (lit< tt)))) (All-nil (Apart verdict_label))))
    (AllPairs-cons Apart items_label (acknowledgements_label ∷ [])
    (All-cons (Apart items_label) acknowledgements_label [] (differ items_label acknowledgements_label (lit< tt) (lit< tt) (not_same 101 107 (inl (lit< tt)))) (All-nil (Apart items_label)))
    (AllPairs-cons Apart acknowledgements_label [] (All-nil (Apart acknowledgements_label)) (λ i j d less low. absurd (omega arith))))))
