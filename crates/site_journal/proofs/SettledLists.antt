-- Which receipts the steps of a pass have, and which pass is the first that has others.
use Rattle.std.proofs.Common.{◌≡◌, ◌≢◌, ℕ, suc, ◌<◌, ◌≤◌, ◌⊎◌, inl, inr, ⊎_elim, ◌==◌, Bool, true, false, true≢false, if◌then◌else◌, Option, Some, None, List, [], ◌∷◌, ◌++◌, length, map, slice_index_or, refl, sym, ap, ◌∙◌, arith, All, length-append}
use Rattle.std.specs.List.{Any}
use Rattle.std.proofs.Math.ListN.{get_or-append}
use Rattle.std.proofs.lemmas.Bool.{cases_lt, eqb-false, ne_eqb}
use Rattle.std.proofs.lemmas.List.{get_or-map, get_or_past}
use Rattle.std.proofs.lemmas.List.Elements.{All-cons, All-head, All-nil, All-push, All-tail, All-weaker}
use Rattle.std.proofs.lemmas.List.Quantifiers.{Any-push}
use Rattle.site_journal.specs.declared.receipt.Receipt.{Receipt}
use Rattle.site_journal.specs.declared.step.Step.{Step}
use Rattle.site_journal.specs.Settling.{AreSettled, IsFirstThatDiffers, IsLeastPass, list_of, receipts_of}

-- ---- receipts of one pass

-- a step isn't of a pass
abbrev IsNotOf : ℕ → Step → Type 0
IsNotOf pass step = step.pass ≢ pass

other_one : (b : Bool) (one other : List Receipt) → b ≡ false → (if b then one else other) ≡ other
other_one true one other e = absurd (true≢false e)
other_one false one other e = refl

-- steps of which none is of a pass give it no receipt
pub none_of : (pass position : ℕ) (steps : List Step) → All (IsNotOf pass) steps → receipts_of pass position steps ≡ []
none_of pass position [] all = refl
none_of pass position (step ∷ steps) all =
    other_one (step.pass == pass) (record { pass = pass; position = position; deed = step.deed } ∷ receipts_of pass (suc position) steps) (receipts_of pass (suc position) steps)
    (ne_eqb step.pass pass (All-head (IsNotOf pass) step steps all))
    ∙ none_of pass (suc position) steps (All-tail (IsNotOf pass) step steps all)

none_by : (b : Bool) (pass : ℕ) (step : Step) (steps : List Step) (r : Receipt) (rest : List Receipt) → (step.pass == pass) ≡ b
    → (if b then r ∷ rest else rest) ≡ [] → (rest ≡ [] → All (IsNotOf pass) steps) → All (IsNotOf pass) (step ∷ steps)
none_by true pass step steps r rest is none more = let e : suc (length rest) ≡ 0 = ap length none in absurd (omega arith)
none_by false pass step steps r rest is none more = All-cons (IsNotOf pass) step steps (eqb-false step.pass pass is) (more none)

-- if steps give a pass no receipt, none of them is of the pass
pub of_none : (pass position : ℕ) (steps : List Step) → receipts_of pass position steps ≡ [] → All (IsNotOf pass) steps
of_none pass position [] none = All-nil (IsNotOf pass)
of_none pass position (step ∷ steps) none =
    none_by (step.pass == pass) pass step steps (record { pass = pass; position = position; deed = step.deed }) (receipts_of pass (suc position) steps) refl none
    (λ rest. of_none pass (suc position) steps rest)

-- one step of a pass gives it a receipt
pub some_of : (pass position : ℕ) (steps : List Step) → Any (λ (step : Step). step.pass ≡ pass) steps → receipts_of pass position steps ≡ [] → ⊥
some_of pass position steps any none = of_none pass position steps none any.0 any.1 any.2 (ap (λ (s : Step). s.pass) any.3 ∙ any.4)

-- ---- the least pass

-- a pass is below a number, or isn't below another
abbrev IsApart : ℕ → ℕ → Step → Type 0
IsApart from least step = (step.pass < from) ⊎ (least ≤ step.pass)

any_longer : (P : Step → Type 0) (steps : List Step) (step : Step) → Any P steps → Any P (steps ++ step ∷ [])
any_longer P steps step any = (
  any.0,
  any.1,
  (let low = any.2 in omega (arith, length-append steps (step ∷ []))),
  get_or-append steps (step ∷ []) any.1 any.0 any.2 ∙ any.3,
  any.4,
)

-- a step of a pass below the number
pub stays : (from pass : ℕ) (found : Option ℕ) (steps : List Step) (step : Step) → step.pass ≡ pass → pass < from
    → IsLeastPass from steps found → IsLeastPass from (steps ++ step ∷ []) found
stays from pass None steps step is low h = All-push (λ (s : Step). s.pass < from) steps step h (omega arith)
stays from pass (Some least) steps step is low h = (
  h.0,
  any_longer (λ (s : Step). s.pass ≡ least) steps step h.1,
  All-push (IsApart from least) steps step h.2 (inl (omega arith)),
)

-- the first that isn't below it
pub begins : (from pass : ℕ) (steps : List Step) (step : Step) → step.pass ≡ pass → from ≤ pass
    → IsLeastPass from steps None → IsLeastPass from (steps ++ step ∷ []) (Some pass)
begins from pass steps step is high h = (
  high,
  Any-push (λ (s : Step). s.pass ≡ pass) steps step is,
  All-push (IsApart from pass) steps step (All-weaker (λ (s : Step). s.pass < from) (IsApart from pass) (λ s low. inl low) steps h) (inr (omega arith)),
)

-- one that isn't less than what was found
pub no_less : (from pass least : ℕ) (steps : List Step) (step : Step) → step.pass ≡ pass → least ≤ pass
    → IsLeastPass from steps (Some least) → IsLeastPass from (steps ++ step ∷ []) (Some least)
no_less from pass least steps step is high h = (
  h.0,
  any_longer (λ (s : Step). s.pass ≡ least) steps step h.1,
  All-push (IsApart from least) steps step h.2 (inr (omega arith)),
)

-- one that is less
pub less : (from pass least : ℕ) (steps : List Step) (step : Step) → step.pass ≡ pass → from ≤ pass → pass < least
    → IsLeastPass from steps (Some least) → IsLeastPass from (steps ++ step ∷ []) (Some pass)
less from pass least steps step is high low h = (
  high,
  Any-push (λ (s : Step). s.pass ≡ pass) steps step is,
  All-push (IsApart from pass) steps step
      (All-weaker (IsApart from least) (IsApart from pass) (λ s apart. ⊎_elim (λ below. inl below) (λ above. inr (omega arith)) apart) steps h.2) (inr (omega arith)),
)

-- ---- lists

-- the first `count` lists are those of their passes
abbrev pub AreRight : List Step → List (List Receipt) → ℕ → Type 0
AreRight steps lists count = (earlier : ℕ) → earlier < count → list_of lists earlier ≡ receipts_of earlier 0 steps

-- where no step is of a later pass, all passes have the receipts of their steps
pub all_settled : (steps : List Step) (lists : List (List Receipt)) (count : ℕ) → length lists ≤ count → AreRight steps lists count
    → IsLeastPass count steps None → AreSettled steps lists
all_settled steps lists count few right later pass = ⊎_elim (λ below. right pass below)
    (λ (high : count ≤ pass). get_or_past lists pass [] (omega arith)
    ∙ sym (none_of pass 0 steps (All-weaker (λ (s : Step). s.pass < count) (IsNotOf pass) (λ s low is. omega arith) steps later))) (cases_lt pass count)

-- the least pass that has a step and no list is the first that differs
pub first_missing : (steps : List Step) (lists : List (List Receipt)) (count pass : ℕ) → length lists ≤ count → AreRight steps lists count
    → IsLeastPass count steps (Some pass) → IsFirstThatDiffers steps lists pass
first_missing steps lists count pass few right least = record {
  before = λ earlier low. ⊎_elim (λ below. right earlier below)
      (λ (high : count ≤ earlier). get_or_past lists earlier [] (omega arith)
      ∙ sym (none_of earlier 0 steps (All-weaker (IsApart count pass) (IsNotOf earlier) (λ s apart is. ⊎_elim (λ below. omega arith) (λ above. omega arith) apart) steps least.2)))
      (cases_lt earlier count);
  differs = λ same. some_of pass 0 steps least.1 (sym same ∙ get_or_past lists pass [] (let few' = least.0 in omega arith));
}

-- the list at a place of vectors
pub at_place : {A : Type 0} (f : A → List Receipt) (lists : List A) (place : ℕ) (list : A) → place < length lists → list ≡ slice_index_or lists place list
    → list_of (map f lists) place ≡ f list
at_place f lists place list low is = get_or-map f lists place list [] low ∙ ap f (sym is)
