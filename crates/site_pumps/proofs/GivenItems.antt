-- Items that outlets are given, one after another.
use Rattle.std.proofs.Common.{◌≡◌, ◌∙◌, ◌+◌, ◌<◌, ◌⊎◌, inl, inr, ℕ, List, [], ◌∷◌, ◌++◌, Option, Some, None, length-append, slice_index_or, slice_set, refl, sym, ap, subst, ⊎_elim, append_assoc, append-nil, arith}
use Rattle.std.proofs.lemmas.Bool.{cases_lt}
use Rattle.std.proofs.lemmas.List.{set-get_or}
use Rattle.site_journal.specs.Ports.{PortRun, PortStop, PortWork}
use Rattle.site_journal.specs.declared.desk_fault.DeskFault.{DeskFault}
use Rattle.site_journal.specs.declared.desk_fault.DeskFault.TheVariants.{Memory}
use Rattle.site_journal.specs.declared.receipt.Receipt.{Receipt}
use Rattle.site_pumps.specs.Broadcasts.{HasBroadcast, frame_in, frames_in}
use Rattle.site_pumps.specs.Carried.{EachLink, SoFar}
use Rattle.site_pumps.specs.Outlets.{OutletBegins, OutletRun}

given_more : {O : Type 0} (Given : O → List ℕ → O → Type 0) (xs ys : List (List ℕ)) (p q r : O) → OutletRun Given xs p q → OutletRun Given ys q r → OutletRun Given (xs ++ ys) p r
given_more Given [] ys p q r run more = subst (λ x. OutletRun Given ys x r) (sym run) more
given_more Given (x ∷ xs) ys p q r run more = (run.0, run.1, given_more Given xs ys run.0 q r run.2 more)

given_begun : {O : Type 0} (Given : O → List ℕ → O → Type 0) (xs ys : List (List ℕ)) (p q r : O) → OutletRun Given xs p q → OutletBegins Given ys q r → OutletBegins Given (xs ++ ys) p r
given_begun Given xs ys p q r run begun = (xs ++ begun.0, begun.1, ap (λ l. xs ++ l) begun.2 ∙ sym (append_assoc xs begun.0 begun.1), given_more Given xs begun.0 p q r run begun.3)

all_begun : {O : Type 0} (Given : O → List ℕ → O → Type 0) (xs : List (List ℕ)) (p q : O) → OutletRun Given xs p q → OutletBegins Given xs p q
all_begun Given xs p q run = (xs, [], sym (append-nil xs), run)

none_begun : {O : Type 0} (Given : O → List ℕ → O → Type 0) (xs : List (List ℕ)) (p : O) → OutletBegins Given xs p p
none_begun Given xs p = ([], xs, refl, refl)

begun_longer : {O : Type 0} (Given : O → List ℕ → O → Type 0) (xs ys : List (List ℕ)) (p q : O) → OutletBegins Given xs p q → OutletBegins Given (xs ++ ys) p q
begun_longer Given xs ys p q begun = (begun.0, begun.1 ++ ys, ap (λ l. l ++ ys) begun.2 ∙ append_assoc begun.0 begun.1 ys, begun.3)

-- ---- each outlet

-- nothing was given
pub each_given_none : {O : Type 0} (Given : O → List ℕ → O → Type 0) (all : List O) → EachLink (OutletRun Given []) all all
each_given_none Given all = record { count = refl; each = λ k none low. refl }

-- nothing was given yet
pub each_none_begun : {O : Type 0} (Given : O → List ℕ → O → Type 0) (xs : List (List ℕ)) (all : List O) → EachLink (OutletBegins Given xs) all all
each_none_begun Given xs all = record { count = refl; each = λ k none low. none_begun Given xs (slice_index_or all k none) }

pub each_all_begun : {O : Type 0} (Given : O → List ℕ → O → Type 0) (xs : List (List ℕ)) (a b : List O) → EachLink (OutletRun Given xs) a b → EachLink (OutletBegins Given xs) a b
each_all_begun Given xs a b s = record { count = s.count; each = λ k none low. all_begun Given xs (slice_index_or a k none) (slice_index_or b k none) (s.each k none low) }

-- a front of these items is one of these and more
pub each_begun_longer : {O : Type 0} (Given : O → List ℕ → O → Type 0) (xs ys : List (List ℕ)) (a b : List O) → EachLink (OutletBegins Given xs) a b → EachLink (OutletBegins Given (xs ++ ys)) a b
each_begun_longer Given xs ys a b s = record { count = s.count; each = λ k none low. begun_longer Given xs ys (slice_index_or a k none) (slice_index_or b k none) (s.each k none low) }

pub each_given_more : {O : Type 0} (Given : O → List ℕ → O → Type 0) (xs ys : List (List ℕ)) (a b c : List O) → EachLink (OutletRun Given xs) a b → EachLink (OutletRun Given ys) b c → EachLink (OutletRun Given (xs ++ ys)) a c
each_given_more Given xs ys a b c s t = record {
  count = t.count ∙ s.count;
  each = λ k none low. given_more Given xs ys (slice_index_or a k none) (slice_index_or b k none) (slice_index_or c k none) (s.each k none low) (t.each k none (subst (λ n. k < n) (sym s.count) low));
}

pub each_given_begun : {O : Type 0} (Given : O → List ℕ → O → Type 0) (xs ys : List (List ℕ)) (a b c : List O) → EachLink (OutletRun Given xs) a b → EachLink (OutletBegins Given ys) b c → EachLink (OutletBegins Given (xs ++ ys)) a c
each_given_begun Given xs ys a b c s t = record {
  count = t.count ∙ s.count;
  each = λ k none low. given_begun Given xs ys (slice_index_or a k none) (slice_index_or b k none) (slice_index_or c k none) (s.each k none low) (t.each k none (subst (λ n. k < n) (sym s.count) low));
}

-- the outlets before this one were given the item, and this one was not
pub outlets_begun_at : {O : Type 0} (Given : O → List ℕ → O → Type 0) (items : List (List ℕ)) (olds news : List O) (reached : ℕ) (new any : O)
    → new ≡ slice_index_or news reached any → SoFar (OutletRun Given items) olds news reached → EachLink (OutletBegins Given items) olds (slice_set news reached new)
outlets_begun_at Given items olds news reached new any same s = let all : slice_set news reached new ≡ news = ap (λ x. slice_set news reached x) same ∙ set-get_or news reached any in
    subst (λ l. EachLink (OutletBegins Given items) olds l) (sym all) (record {
      count = s.count;
      each = λ k none _. ⊎_elim (λ below. all_begun Given items (slice_index_or olds k none) (slice_index_or news k none) (s.done k none below))
          (λ high. subst (λ x. OutletBegins Given items (slice_index_or olds k none) x) (sym (s.left k none high)) (none_begun Given items (slice_index_or olds k none))) (cases_lt k reached);
    })

-- ---- a pump's work

frames_append : (xs ys : List Receipt) → frames_in (xs ++ ys) ≡ frames_in xs ++ frames_in ys
frames_append [] ys = refl
frames_append (x ∷ xs) ys = ap (λ l. frame_in x.deed ++ l) (frames_append xs ys) ∙ sym (append_assoc (frame_in x.deed) (frames_in xs) (frames_in ys))

-- a receipt more behind others, or none
pub behind_perhaps : (IsOf : Receipt → Type 0) (rs own : List Receipt) → (own ≡ []) ⊎ ((r : Receipt) × IsOf r × (own ≡ r ∷ [])) → (rs ++ own ≡ rs) ⊎ ((r : Receipt) × IsOf r × (rs ++ own ≡ rs ++ r ∷ []))
behind_perhaps IsOf rs own (inl none) = inl (ap (λ l. rs ++ l) none ∙ append-nil rs)
behind_perhaps IsOf rs own (inr more) = inr (more.0, more.1, ap (λ l. rs ++ l) more.2)

work_more : {P : Type 0} (Makes : P → Receipt → P → Type 0) (Refuses : P → DeskFault → P → Type 0) (p q r : P) (xs ys : List Receipt) (fault : Option DeskFault) → PortRun Makes p xs q → PortWork Makes Refuses q ys fault r → PortWork Makes Refuses p (xs ++ ys) fault r
work_more Makes Refuses p q r [] ys fault run work = subst (λ x. PortWork Makes Refuses x ys fault r) (sym run) work
work_more Makes Refuses p q r (x ∷ xs) ys None run work = (run.0, run.1, work_more Makes Refuses run.0 q r xs ys None run.2 work)
work_more Makes Refuses p q r (x ∷ xs) ys (Some cause) run work = let rest = work_more Makes Refuses run.0 q r xs ys (Some cause) run.2 work in (rest.0, (run.0, run.1, rest.1), rest.2)

module _ {P O K : Type 0} (Makes : P → Receipt → P → Type 0) (Refuses : P → DeskFault → P → Type 0) (share : P → ℕ) (Given : O → List ℕ → O → Type 0) (Holds : K → List Receipt → Type 0) where
  -- nothing yet
  pub broadcast_none : (p : P) (olds : List O) (k : K) → HasBroadcast Makes Refuses share Given Holds p p olds olds k k [] None
  broadcast_none p olds k = record {
    work = refl;
    sent = λ none. each_given_none Given olds;
    begun = each_none_begun Given [] olds;
    counted = omega arith;
    held = λ before holds. subst (Holds k) (sym (append-nil before)) holds;
  }

  -- one part, and then another
  pub broadcast_more : (p q r : P) (olds mids news : List O) (k l m : K) (xs ys : List Receipt) (fault : Option DeskFault)
      → HasBroadcast Makes Refuses share Given Holds p q olds mids k l xs None → HasBroadcast Makes Refuses share Given Holds q r mids news l m ys fault
      → HasBroadcast Makes Refuses share Given Holds p r olds news k m (xs ++ ys) fault
  broadcast_more p q r olds mids news k l m xs ys fault one two = let done = one.sent refl in record {
    work = work_more Makes Refuses p q r xs ys fault one.work two.work;
    sent = λ none. subst (λ f. EachLink (OutletRun Given f) olds news) (sym (frames_append xs ys)) (each_given_more Given (frames_in xs) (frames_in ys) olds mids news done (two.sent none));
    begun = subst (λ f. EachLink (OutletBegins Given f) olds news) (sym (frames_append xs ys)) (each_given_begun Given (frames_in xs) (frames_in ys) olds mids news done two.begun);
    counted = (let a = one.counted in let b = two.counted in omega (arith, a, b, length-append xs ys));
    held = λ before holds. subst (Holds m) (append_assoc before xs ys) (two.held (before ++ xs) (one.held before holds));
  }

  -- no step was made
  pub broadcast_refused : (p q : P) (olds : List O) (k m : K) (cause : DeskFault) → PortStop Refuses p cause q → share q ≡ share p → ((before : List Receipt) → Holds k before → Holds m before)
      → HasBroadcast Makes Refuses share Given Holds p q olds olds k m [] (Some cause)
  broadcast_refused p q olds k m cause stop counted same = record {
    work = (p, refl, stop);
    sent = λ none. each_given_none Given olds;
    begun = each_none_begun Given [] olds;
    counted = omega (arith, counted);
    held = λ before holds. subst (Holds m) (sym (append-nil before)) (same before holds);
  }

  -- a step was made, and its frame sent
  pub broadcast_done : (p q : P) (olds news : List O) (k l m : K) (r : Receipt) → Makes p r q → share q ≡ share p + 1 → ((before : List Receipt) → Holds k before → Holds l before) → ((before : List Receipt) → Holds l before → Holds m (before ++ r ∷ []))
      → EachLink (OutletRun Given (frame_in r.deed)) olds news → HasBroadcast Makes Refuses share Given Holds p q olds news k m (r ∷ []) None
  broadcast_done p q olds news k l m r made counted same put sent =
      let all : EachLink (OutletRun Given (frames_in (r ∷ []))) olds news = subst (λ f. EachLink (OutletRun Given f) olds news) (sym (append-nil (frame_in r.deed))) sent in record {
        work = (q, made, refl);
        sent = λ none. all;
        begun = each_all_begun Given (frames_in (r ∷ [])) olds news all;
        counted = omega (arith, counted);
        held = λ before holds. put before (same before holds);
      }

  -- a step was made, and its frame sent on some outlets alone
  pub broadcast_half : (p q : P) (olds news : List O) (k l m : K) (r : Receipt) → Makes p r q → share q ≡ share p + 1 → ((before : List Receipt) → Holds k before → Holds l before) → ((before : List Receipt) → Holds l before → Holds m (before ++ r ∷ []))
      → EachLink (OutletBegins Given (frame_in r.deed)) olds news → HasBroadcast Makes Refuses share Given Holds p q olds news k m (r ∷ []) (Some Memory)
  broadcast_half p q olds news k l m r made counted same put begun = record {
    work = (q, (q, made, refl), inr (refl, refl));
    sent = λ none. absurd (cc none);
    begun = subst (λ f. EachLink (OutletBegins Given f) olds news) (sym (append-nil (frame_in r.deed))) begun;
    counted = omega (arith, counted);
    held = λ before holds. put before (same before holds);
  }
