-- Items sent one after another, and outlets, one after another.
use Rattle.std.proofs.Common.{◌≡◌, ℕ, ◌<◌, Bool, true, false, true≢false, List, [], ◌∷◌, ◌++◌, length, slice_index_or, refl, sym, ap, subst, ◌∙◌, append_assoc, append-nil, arith}
use Rattle.std.specs.Prelude.{Result, Ok, Err, OnErr}
use Rattle.site_links.specs.Links.{Sending}
use Rattle.std.proofs.Common.{◌+◌, ◌≤◌, below_more, length-set, slice_set}
use Rattle.std.proofs.Common.{take, drop}
use Rattle.std.proofs.lemmas.List.{take_more, take-append-drop, get_or-set_same, get_or-set_other, get_or_default}
use Rattle.site_pumps.specs.Carried.{BeginsToCarry, Carries, EachLink, SoFar}
use Rattle.site_pumps.specs.Outlets.{OutletBegins, OutletRun, SenderGiven}

nothing : (a : Sending) → Carries [] a a
nothing a = (refl, (λ _. refl), [], [], refl, sym (append-nil a.sent), λ _. refl)

fewer : (items : List (List ℕ)) (a b : Sending) → Carries items a b → BeginsToCarry items a b
fewer items a b c = (c.0, c.1, c.2, c.3, c.4, c.5)

longer : (xs ys : List (List ℕ)) (a b : Sending) → BeginsToCarry xs a b → BeginsToCarry (xs ++ ys) a b
longer xs ys a b s = (s.0, s.1, s.2, s.3 ++ ys, ap (λ l. l ++ ys) s.4 ∙ append_assoc s.2 s.3 ys, s.5)

more_by : (d : Bool) (xs ys : List (List ℕ)) (a b c : Sending) → b.down ≡ d → Carries xs a b → Carries ys b c → Carries (xs ++ ys) a c
more_by true xs ys a b c is s t = let same : c ≡ b = t.1 is in (
  t.0 ∙ s.0,
  (λ p. same ∙ s.1 p),
  s.2,
  s.3 ++ ys,
  ap (λ l. l ++ ys) s.4 ∙ append_assoc s.2 s.3 ys,
  ap (λ (x : Sending). x.sent) same ∙ s.5,
  λ up. absurd (true≢false (sym is ∙ ap (λ (x : Sending). x.down) (sym same) ∙ up)),
)
more_by false xs ys a b c is s t = let all : xs ≡ s.2 = s.4 ∙ ap (λ l. s.2 ++ l) (s.6 is) ∙ append-nil s.2 in (
  t.0 ∙ s.0,
  (λ p. absurd (true≢false (sym p ∙ sym (ap (λ (x : Sending). x.down) (s.1 p)) ∙ is))),
  s.2 ++ t.2,
  t.3,
  ap (λ l. l ++ ys) all ∙ ap (λ l. s.2 ++ l) t.4 ∙ sym (append_assoc s.2 t.2 t.3),
  t.5 ∙ ap (λ l. l ++ t.2) s.5 ∙ append_assoc a.sent s.2 t.2,
  t.6,
)

more : (xs ys : List (List ℕ)) (a b c : Sending) → Carries xs a b → Carries ys b c → Carries (xs ++ ys) a c
more xs ys a b c s t = more_by b.down xs ys a b c refl s t

-- what a link's sender has sent that was given these items
pub sender_given : (items : List (List ℕ)) (a b : Sending) → OutletRun SenderGiven items a b → Carries items a b
sender_given [] a b run = subst (Carries [] a) run (nothing a)
sender_given (item ∷ items) a b run = more (item ∷ []) items a run.0 b run.1 (sender_given items run.0 b run.2)

pub sender_begun : (items : List (List ℕ)) (a b : Sending) → OutletBegins SenderGiven items a b → BeginsToCarry items a b
sender_begun items a b begun = subst (λ l. BeginsToCarry l a b) (sym begun.2) (longer begun.0 begun.1 a b (fewer begun.0 a b (sender_given begun.0 a b begun.3)))

-- one link after another

pub at_first : {O : Type 0} (R : O → O → Type 0) (links : List O) → SoFar R links links 0
at_first R links = record { count = refl; done = λ k none low. absurd (omega arith); left = λ k none high. refl }

pub at_last : {O : Type 0} (R : O → O → Type 0) (olds news : List O) (reached : ℕ) → length olds ≤ reached → SoFar R olds news reached → EachLink R olds news
at_last R olds news reached all s = record { count = s.count; each = λ k none low. s.done k none (omega arith) }

pub one_more : {O : Type 0} (R : O → O → Type 0) (olds news : List O) (reached : ℕ) (new any : O)
    → reached < length news → R (slice_index_or news reached any) new → SoFar R olds news reached → SoFar R olds (slice_set news reached new) (reached + 1)
one_more {O} R olds news reached new any low is s = record {
  count = length-set news reached new ∙ s.count;
  done = λ k none low'. below_more (λ k. (none : O) → R (slice_index_or olds k none) (slice_index_or (slice_set news reached new) k none)) reached
      (λ k below none. subst (λ x. R (slice_index_or olds k none) x) (sym (get_or-set_other news reached k new none (omega arith))) (s.done k none below))
      (λ none. let was : slice_index_or news reached any ≡ slice_index_or olds reached none = get_or_default news reached any none low ∙ s.left reached none (omega arith) in
      subst (λ x. R (slice_index_or olds reached none) x) (sym (get_or-set_same news reached new none low)) (subst (λ x. R x new) was is)) k low' none;
  left = λ k none high. get_or-set_other news reached k new none (omega arith) ∙ s.left k none (omega arith);
}

pub on_err : {T E P : Type 0} (r : Result T E) → P → OnErr r P
on_err (Ok x) p = tt
on_err (Err e) p = p

pub taken : (xs : List (List ℕ)) (i : ℕ) (x : List ℕ) → i < length xs → x ≡ slice_index_or xs i x → take (i + 1) xs ≡ take i xs ++ x ∷ []
taken xs i x low is = take_more xs i x low ∙ ap (λ y. take i xs ++ y ∷ []) (sym is)

pub taken_all : (xs : List (List ℕ)) (i : ℕ) (x : List ℕ) → i < length xs → x ≡ slice_index_or xs i x → (take i xs ++ x ∷ []) ++ drop (i + 1) xs ≡ xs
taken_all xs i x low is = ap (λ l. l ++ drop (i + 1) xs) (sym (taken xs i x low is)) ∙ take-append-drop (i + 1) xs
