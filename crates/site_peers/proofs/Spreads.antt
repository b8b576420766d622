-- Receipts that a port answers and outboxes are handed, one after another.
use Rattle.std.proofs.Common.{◌≡◌, ◌∙◌, ◌+◌, ◌<◌, inl, Bool, List, [], ◌∷◌, ◌++◌, Option, Some, None, slice_index_or, refl, sym, ap, subst, arith}
use Rattle.site_journal.specs.Ports.{PortRun, PortWork}
use Rattle.site_journal.specs.Receipts.{IsOfCut, IsOfWhole}
use Rattle.site_journal.specs.declared.desk_fault.DeskFault.{DeskFault}
use Rattle.site_journal.specs.declared.receipt.Receipt.{Receipt}
use Rattle.site_pumps.specs.Carried.{EachLink}
use Rattle.site_peers.specs.Outboxes.{Handing, HasSpread, cut_count, deed_count}

run_on : {P : Type 0} (Makes : P → Receipt → P → Type 0) (xs ys : List Receipt) (p q r : P) → PortRun Makes p xs q → PortRun Makes q ys r → PortRun Makes p (xs ++ ys) r
run_on Makes [] ys p q r run more = subst (λ x. PortRun Makes x ys r) (sym run) more
run_on Makes (x ∷ xs) ys p q r run more = (run.0, run.1, run_on Makes xs ys run.0 q r run.2 more)

work_on : {P : Type 0} (Makes : P → Receipt → P → Type 0) (Refuses : P → DeskFault → P → Type 0) (xs ys : List Receipt) (fault : Option DeskFault) (p q r : P)
    → PortRun Makes p xs q → PortWork Makes Refuses q ys fault r → PortWork Makes Refuses p (xs ++ ys) fault r
work_on Makes Refuses xs ys None p q r run work = run_on Makes xs ys p q r run work
work_on Makes Refuses xs ys (Some cause) p q r run work = (work.0, run_on Makes xs ys p q work.0 run work.1, work.2)

each_run_on : {O : Type 0} (Handed : O → Receipt → O → Type 0) (xs ys : List Receipt) (a b c : List O) → EachLink (λ old new. PortRun Handed old xs new) a b
    → EachLink (λ old new. PortRun Handed old ys new) b c → EachLink (λ old new. PortRun Handed old (xs ++ ys) new) a c
each_run_on Handed xs ys a b c s t = record {
  count = t.count ∙ s.count;
  each = λ k none low. run_on Handed xs ys (slice_index_or a k none) (slice_index_or b k none) (slice_index_or c k none) (s.each k none low) (t.each k none (subst (λ n. k < n) (sym s.count) low));
}

-- cuts of two lists of receipts
pub cuts_append : (xs ys : List Receipt) → cut_count (xs ++ ys) ≡ cut_count xs + cut_count ys
cuts_append [] ys = omega arith
cuts_append (x ∷ xs) ys = let rest = cuts_append xs ys in omega (arith, rest)

-- a cut counts, and a whole doesn't
pub cut_counts : (r : Receipt) → IsOfCut r → cut_count (r ∷ []) ≡ 1
cut_counts r cut = let is : deed_count r.deed ≡ 1 = ap deed_count cut.1 in omega (arith, is)

-- a cut, and then a whole
pub cut_then_whole : (xs ys : List Receipt) (r : Receipt) → IsOfCut r → xs ≡ r ∷ [] → (w : Receipt) → IsOfWhole w → ys ≡ w ∷ [] → cut_count (xs ++ ys) ≡ 1
cut_then_whole xs ys r cut one w whole other =
    let is : deed_count r.deed ≡ 1 = ap deed_count cut.1 in
    let none : deed_count w.deed ≡ 0 = ap deed_count whole.1 in
    let x : cut_count xs ≡ deed_count r.deed + 0 = ap cut_count one in
    let y : cut_count ys ≡ deed_count w.deed + 0 = ap cut_count other in
    omega (arith, cuts_append xs ys, is, none, x, y)

-- a cut, and then nothing
pub cut_then_none : (xs ys : List Receipt) (r : Receipt) → IsOfCut r → xs ≡ r ∷ [] → ys ≡ [] → cut_count (xs ++ ys) ≡ 1
cut_then_none xs ys r cut one other =
    let is : deed_count r.deed ≡ 1 = ap deed_count cut.1 in
    let x : cut_count xs ≡ deed_count r.deed + 0 = ap cut_count one in
    let y : cut_count ys ≡ 0 = ap cut_count other in
    omega (arith, cuts_append xs ys, is, x, y)

module _ {P O : Type 0} (Makes : P → Receipt → P → Type 0) (Refuses : P → DeskFault → P → Type 0) (Handed : O → Receipt → Bool → O → Type 0) where
  -- nothing yet
  pub spread_none : (p : P) (all : List O) → HasSpread Makes Refuses Handed p p all all [] None
  spread_none p all = record { work = refl; handed = record { count = refl; each = λ k none low. refl } }

  -- a receipt, handed to each
  pub spread_made : (p q : P) (olds news : List O) (r : Receipt) → Makes p r q → EachLink (λ old new. Handing Handed old r new) olds news → HasSpread Makes Refuses Handed p q olds news (r ∷ []) None
  spread_made p q olds news r made handed = record {
    work = (q, made, refl);
    handed = record { count = handed.count; each = λ k none low. (slice_index_or news k none, handed.each k none low, refl) };
  }

  -- a call that was refused
  pub spread_refused : (p q : P) (all : List O) (cause : DeskFault) → Refuses p cause q → HasSpread Makes Refuses Handed p q all all [] (Some cause)
  spread_refused p q all cause refused = record { work = (p, refl, inl refused); handed = record { count = refl; each = λ k none low. refl } }

  -- one part, and then another
  pub spread_more : (p q r : P) (olds mids news : List O) (xs ys : List Receipt) (fault : Option DeskFault) → HasSpread Makes Refuses Handed p q olds mids xs None
      → HasSpread Makes Refuses Handed q r mids news ys fault → HasSpread Makes Refuses Handed p r olds news (xs ++ ys) fault
  spread_more p q r olds mids news xs ys fault one two = record {
    work = work_on Makes Refuses xs ys fault p q r one.work two.work;
    handed = each_run_on (Handing Handed) xs ys olds mids news one.handed two.handed;
  }
