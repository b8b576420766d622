-- Lines that are appended one after another.
use Rattle.std.proofs.Common.{◌≡◌, ◌∙◌, ◌≤◌, ◌+◌, ◌++◌, ℕ, suc, List, [], ◌∷◌, length, map, take, Some, slice_get, sym, ap, subst, arith, append_assoc, append-nil}
use Rattle.std.specs.List.{All}
use Rattle.std.proofs.lemmas.List.{map-append, take_all}
use Rattle.std.proofs.lemmas.List.Elements.{All-push}
use Rattle.std.proofs.lemmas.Grind.{flat_map-append}
use Rattle.ami_text.specs.Lines.{lines_text}
use Rattle.event_script.specs.Comments.{IsComment}
use Rattle.site_audit.proofs.Lists.{take_next}

-- the texts of the elements up to the next one, and of that one
texts_next : {X : Type 0} (f : X → List ℕ) (xs : List X) (i : ℕ) (x : X) → slice_get xs i ≡ Some x → map f (take (i + 1) xs) ≡ map f (take i xs) ++ f x ∷ []
texts_next f xs i x is =
    let next : i + 1 ≡ suc i = omega arith in
    ap (λ n. map f (take n xs)) next ∙ ap (map f) (take_next xs i x is) ∙ map-append f (take i xs) (x ∷ [])

-- one line more
pub lines_next : {X : Type 0} (f : X → List ℕ) (xs : List X) (i : ℕ) (x : X) (old mid new : List ℕ) → slice_get xs i ≡ Some x
    → mid ≡ old ++ lines_text (map f (take i xs)) → new ≡ mid ++ (f x ++ 10 ∷ []) → new ≡ old ++ lines_text (map f (take (i + 1) xs))
lines_next f xs i x old mid new is before line =
    line ∙ ap (λ t. t ++ (f x ++ 10 ∷ [])) before ∙ append_assoc old (lines_text (map f (take i xs))) (f x ++ 10 ∷ [])
    ∙ ap (λ t. old ++ t) (ap (λ t. lines_text (map f (take i xs)) ++ t) (sym (append-nil (f x ++ 10 ∷ [])))
    ∙ sym (flat_map-append (λ l. l ++ 10 ∷ []) (map f (take i xs)) (f x ∷ [])) ∙ sym (ap lines_text (texts_next f xs i x is)))

-- one comment more
pub comments_next : {X : Type 0} (f : X → List ℕ) (xs : List X) (i : ℕ) (x : X) → slice_get xs i ≡ Some x → All IsComment (map f (take i xs)) → IsComment (f x)
    → All IsComment (map f (take (i + 1) xs))
comments_next f xs i x is before one = subst (All IsComment) (sym (texts_next f xs i x is)) (All-push IsComment (map f (take i xs)) (f x) before one)

-- all lines
pub lines_all : {X : Type 0} (f : X → List ℕ) (xs : List X) (n : ℕ) (old new : List ℕ) → length xs ≤ n → new ≡ old ++ lines_text (map f (take n xs))
    → new ≡ old ++ lines_text (map f xs)
lines_all f xs n old new all is = is ∙ ap (λ ys. old ++ lines_text (map f ys)) (take_all n xs (omega (arith, all)))

pub comments_all : {X : Type 0} (f : X → List ℕ) (xs : List X) (n : ℕ) → length xs ≤ n → All IsComment (map f (take n xs)) → All IsComment (map f xs)
comments_all f xs n all are = subst (λ ys. All IsComment (map f ys)) (take_all n xs (omega (arith, all))) are
