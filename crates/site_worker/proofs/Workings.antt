-- What passes have done: one step more, and one pass more.
use Rattle.std.proofs.Common.{◌≡◌, ◌∙◌, ◌+◌, ◌≤◌, ℕ, suc, List, [], ◌∷◌, ◌++◌, Option, Some, None, length, length-append, map, slice_get, refl, sym, ap, subst, arith}
use Rattle.std.specs.List.{All}
use Rattle.std.specs.Option.{option_or}
use Rattle.std.proofs.lemmas.List.Elements.{All-cons, All-nil, All-push}
use Rattle.std.proofs.lemmas.List.Sums.{sum_by-cons}
use Rattle.sites_world.proofs.Lists.{none_some, one_some}
use Rattle.site_desk.specs.Deeds.{IsAnsweredSomewhere, IsPossibleSomewhere}
use Rattle.site_desk.specs.Passes.{HasDone, PassState, shares_of}
use Rattle.site_desk.specs.Ports.{Ascend, HasDoneAll}
use Rattle.site_journal.specs.declared.receipt.Receipt.{Receipt}
use Rattle.site_worker.specs.Working.{AnswerFront, AreInOrder, AreOfPasses, ArePossibleSomewhere, HaveWorked, receipts_in}
use Rattle.status_report.specs.declared.asks.Ask.{Ask}

-- a list that is mapped has as many elements
pub mapped_long : {A B : Type 0} (f : A → B) (xs : List A) → length (map f xs) ≡ length xs
mapped_long f [] = refl
mapped_long f (x ∷ xs) = ap suc (mapped_long f xs)

-- a position more
ascend_push : (receipts : List Receipt) (seen mid new : ℕ) (r : Receipt) → Ascend seen receipts mid → mid ≤ r.position → new ≡ r.position + 1 → Ascend seen (receipts ++ r ∷ []) new
ascend_push [] seen mid new r is low up = (subst (λ n. n ≤ r.position) is low, up)
ascend_push (x ∷ xs) seen mid new r is low up = (is.0, ascend_push xs (x.position + 1) mid new r is.1 low up)

-- a step more
pub done_push : (site : ℕ) (names : List (List ℕ)) (old mid new : PassState) (receipts all : List Receipt) (r : Receipt) → all ≡ receipts ++ r ∷ []
    → HasDoneAll site names old receipts mid → HasDone mid r new → IsPossibleSomewhere site names r.deed → HasDoneAll site names old all new
done_push site names old mid new receipts all r is was done possible =
    let ordinal : new.ordinal ≡ mid.ordinal = ap (λ (p : PassState). p.ordinal) done.counted in
    let share : new.share ≡ mid.share + 1 = ap (λ (p : PassState). p.share) done.counted in
    let seen : new.seen ≡ r.position + 1 = ap (λ (p : PassState). p.seen) done.counted in
    subst (λ list. HasDoneAll site names old list new) (sym is) (record {
      ordinal = ordinal ∙ was.ordinal;
      passes = All-push (λ (x : Receipt). x.pass ≡ old.ordinal) receipts r was.passes (done.pass ∙ was.ordinal);
      possible = All-push (λ (x : Receipt). IsPossibleSomewhere site names x.deed) receipts r was.possible possible;
      share = omega (arith, share, was.share, length-append receipts (r ∷ []));
      seen = ascend_push receipts old.seen mid.seen new.seen r was.seen done.position seen;
    })

answered_next : (site : ℕ) (names : List (List ℕ)) (asks : List Ask) (receipts : List Receipt) (ask : Ask) (r : Receipt) → slice_get asks (length receipts) ≡ Some ask
    → IsAnsweredSomewhere site names ask r.deed → AnswerFront site names asks receipts → AnswerFront site names asks (receipts ++ r ∷ [])
answered_next site names [] [] ask r there of front = absurd (none_some ask there)
answered_next site names (a ∷ asks) [] ask r there of front = (subst (λ x. IsAnsweredSomewhere site names x r.deed) (sym (one_some a ask there)) of, tt)
answered_next site names [] (x ∷ xs) ask r there of front = absurd front
answered_next site names (a ∷ asks) (x ∷ xs) ask r there of front = (front.0, answered_next site names asks xs ask r there of front.1)

-- an answer more
pub answered_push : (site : ℕ) (names : List (List ℕ)) (asks : List Ask) (receipts all : List Receipt) (ask : Ask) (r : Receipt) → all ≡ receipts ++ r ∷ []
    → slice_get asks (length receipts) ≡ Some ask → IsAnsweredSomewhere site names ask r.deed → AnswerFront site names asks receipts → AnswerFront site names asks all
answered_push site names asks receipts all ask r is there of front = subst (AnswerFront site names asks) (sym is) (answered_next site names asks receipts ask r there of front)

-- the passes have counted as many steps as they have receipts
pub worked_shares : (site : ℕ) (names : List (List ℕ)) (n : ℕ) (passes : List PassState) (lists : List (List Receipt)) → HaveWorked site names n passes lists → shares_of passes ≡ receipts_in lists
worked_shares site names n [] [] was = refl
worked_shares site names n (p ∷ ps) (l ∷ ls) was = let rest = worked_shares site names (suc n) ps ls was.1 in
    let here = was.0.share in
    let left : shares_of (p ∷ ps) ≡ p.share + shares_of ps = sum_by-cons (λ (pass : PassState). pass.share) p ps in
    let right : receipts_in (l ∷ ls) ≡ length l + receipts_in ls = sum_by-cons (λ (list : List Receipt). length list) l ls in
    omega (arith, rest, here, left, right)
worked_shares site names n [] (l ∷ ls) was = absurd was
worked_shares site names n (p ∷ ps) [] was = absurd was

-- each list is of its pass
pub worked_own : (site : ℕ) (names : List (List ℕ)) (n : ℕ) (passes : List PassState) (lists : List (List Receipt)) → HaveWorked site names n passes lists → AreOfPasses n lists
worked_own site names n [] [] was = tt
worked_own site names n (p ∷ ps) (l ∷ ls) was = (was.0.passes, worked_own site names (suc n) ps ls was.1)
worked_own site names n [] (l ∷ ls) was = absurd was
worked_own site names n (p ∷ ps) [] was = absurd was

-- there is a list for each pass
pub worked_number : (site : ℕ) (names : List (List ℕ)) (n : ℕ) (passes : List PassState) (lists : List (List Receipt)) → HaveWorked site names n passes lists → length lists ≡ length passes
worked_number site names n [] [] was = refl
worked_number site names n (p ∷ ps) (l ∷ ls) was = ap suc (worked_number site names (suc n) ps ls was.1)
worked_number site names n [] (l ∷ ls) was = absurd was
worked_number site names n (p ∷ ps) [] was = absurd was

-- each receipt is possible at some state
pub worked_possible : (site : ℕ) (names : List (List ℕ)) (n : ℕ) (passes : List PassState) (lists : List (List Receipt)) → HaveWorked site names n passes lists → ArePossibleSomewhere site names lists
worked_possible site names n [] [] was = All-nil (λ (list : List Receipt). All (λ (receipt : Receipt). IsPossibleSomewhere site names receipt.deed) list)
worked_possible site names n (p ∷ ps) (l ∷ ls) was =
    All-cons (λ (list : List Receipt). All (λ (receipt : Receipt). IsPossibleSomewhere site names receipt.deed) list) l ls was.0.possible (worked_possible site names (suc n) ps ls was.1)
worked_possible site names n [] (l ∷ ls) was = absurd was
worked_possible site names n (p ∷ ps) [] was = absurd was

-- each list is in the order of its positions
pub worked_order : (site : ℕ) (names : List (List ℕ)) (n : ℕ) (passes : List PassState) (lists : List (List Receipt)) → HaveWorked site names n passes lists → AreInOrder lists
worked_order site names n [] [] was = All-nil (λ (list : List Receipt). (seen : ℕ) × Ascend 0 list seen)
worked_order site names n (p ∷ ps) (l ∷ ls) was = All-cons (λ (list : List Receipt). (seen : ℕ) × Ascend 0 list seen) l ls (p.seen, was.0.seen) (worked_order site names (suc n) ps ls was.1)
worked_order site names n [] (l ∷ ls) was = absurd was
worked_order site names n (p ∷ ps) [] was = absurd was

-- a fault that none hides
pub none_before : {X : Type 0} (a b : Option X) → option_or a b ≡ None → a ≡ None
none_before None b is = refl
none_before (Some x) b is = is

-- if no fault is the first, the second of two is none
pub none_behind : {X : Type 0} (a b : Option X) → option_or a b ≡ None → b ≡ None
none_behind None b is = is
none_behind (Some x) b is = absurd (cc)
