-- What steps that a port does by its pass make together.
use Rattle.std.specs.Borrow.{MutBor}
use Rattle.std.specs.List.{All}
use Rattle.std.proofs.Common.{ℕ, ◌≡◌, ◌∙◌, ◌+◌, List, [], ◌∷◌, Option, Some, None, refl, sym, ap, subst, arith, ⊎_elim}
use Rattle.std.proofs.lemmas.List.Elements.{All-nil, All-cons}
use Rattle.site_journal.specs.Ports.{PortRun, PortStop, PortWork}
use Rattle.site_journal.specs.declared.desk_fault.DeskFault.{DeskFault}
use Rattle.site_journal.specs.declared.receipt.Receipt.{Receipt}
use Rattle.site_desk.specs.Deeds.{IsPossibleSomewhere}
use Rattle.site_desk.specs.Passes.{HasDone, PassState, RewoundIsBelow}
use Rattle.site_desk.specs.Ports.{Ascend, HasDoneAll, MakesByPass, RefusesByPass, WorksByPass}
use Rattle.site_desk.specs.declared.desk_port.DeskPort.{DeskPort}

-- no step
done_none : (site : ℕ) (names : List (List ℕ)) (pass : PassState) → HasDoneAll site names pass [] pass
done_none site names pass = record {
  ordinal = refl;
  passes = All-nil (λ (receipt : Receipt). receipt.pass ≡ pass.ordinal);
  possible = All-nil (λ (receipt : Receipt). IsPossibleSomewhere site names receipt.deed);
  share = omega arith;
  seen = refl;
}

-- a step, and then others
done_more : (site : ℕ) (names : List (List ℕ)) (old next new : PassState) (receipt : Receipt) (receipts : List Receipt) → HasDone old receipt next → IsPossibleSomewhere site names receipt.deed
    → HasDoneAll site names next receipts new → HasDoneAll site names old (receipt ∷ receipts) new
done_more site names old next new receipt receipts done possible all =
    let ordinal : next.ordinal ≡ old.ordinal = ap (λ (p : PassState). p.ordinal) done.counted in
    let share : next.share ≡ old.share + 1 = ap (λ (p : PassState). p.share) done.counted in
    let seen : next.seen ≡ receipt.position + 1 = ap (λ (p : PassState). p.seen) done.counted in
    record {
      ordinal = all.ordinal ∙ ordinal;
      passes = All-cons (λ (r : Receipt). r.pass ≡ old.ordinal) receipt receipts done.pass (subst (λ n. All (λ (r : Receipt). r.pass ≡ n) receipts) ordinal all.passes);
      possible = All-cons (λ (r : Receipt). IsPossibleSomewhere site names r.deed) receipt receipts possible all.possible;
      share = omega (arith, all.share, share);
      seen = (done.position, subst (λ n. Ascend n receipts new.seen) seen all.seen);
    }

-- a port that has made these steps
pub port_run : {L : Type 0} (site : ℕ) (names : List (List ℕ)) (p q : DeskPort L) (receipts : List Receipt)
    → PortRun (λ (old : DeskPort L) receipt (new : DeskPort L). MakesByPass site names old.pass receipt new.pass) p receipts q → WorksByPass site names p.pass receipts q.pass
port_run {L = L} site names p q [] run = subst (λ (x : DeskPort L). WorksByPass site names p.pass [] x.pass) run (record { done = done_none site names p.pass.now; same = refl })
port_run site names p q (receipt ∷ receipts) run = let rest = port_run site names run.0 q receipts run.2 in record {
  done = done_more site names p.pass.now run.0.pass.now q.pass.now receipt receipts run.1.done run.1.possible rest.done;
  same = rest.same ∙ run.1.same;
}

-- a fault changes nothing more
still : {L : Type 0} (site : ℕ) (names : List (List ℕ)) (p q : DeskPort L) (old : MutBor PassState) (receipts : List Receipt) (cause : DeskFault)
    → PortStop (λ (old : DeskPort L) cause (new : DeskPort L). RefusesByPass old.pass cause new.pass) p cause q → WorksByPass site names old receipts p.pass → WorksByPass site names old receipts q.pass
still {L = L} site names p q old receipts cause stop works = ⊎_elim
    (λ refused. record { done = subst (HasDoneAll site names old.now receipts) (sym refused.unchanged) works.done; same = refused.same ∙ works.same })
    (λ same. subst (λ (x : DeskPort L). WorksByPass site names old receipts x.pass) same.1 works) stop

-- a length in a fault is less than the pass that it leaves has seen
truly : {L : Type 0} (p q : DeskPort L) (cause : DeskFault) → PortStop (λ (old : DeskPort L) cause (new : DeskPort L). RefusesByPass old.pass cause new.pass) p cause q → RewoundIsBelow q.pass.now cause
truly p q cause stop = ⊎_elim
    (λ refused. subst (λ state. RewoundIsBelow state cause) (sym refused.unchanged) refused.rewound)
    (λ memory. subst (RewoundIsBelow q.pass.now) (sym memory.0) tt) stop

-- the fault by which a port was stopped
pub port_rewound : {L : Type 0} (site : ℕ) (names : List (List ℕ)) (p q : DeskPort L) (receipts : List Receipt) (fault : Option DeskFault)
    → PortWork (λ (old : DeskPort L) receipt (new : DeskPort L). MakesByPass site names old.pass receipt new.pass) (λ (old : DeskPort L) cause (new : DeskPort L). RefusesByPass old.pass cause new.pass) p receipts fault q
    → (cause : DeskFault) → fault ≡ Some cause → RewoundIsBelow q.pass.now cause
port_rewound site names p q receipts None work cause is = absurd (cc)
port_rewound site names p q receipts (Some reported) work cause is = let same : reported ≡ cause = cc is in subst (RewoundIsBelow q.pass.now) same (truly work.0 q reported work.2)

-- a port that has worked
pub port_work : {L : Type 0} (site : ℕ) (names : List (List ℕ)) (p q : DeskPort L) (receipts : List Receipt) (fault : Option DeskFault)
    → PortWork (λ (old : DeskPort L) receipt (new : DeskPort L). MakesByPass site names old.pass receipt new.pass) (λ (old : DeskPort L) cause (new : DeskPort L). RefusesByPass old.pass cause new.pass) p receipts fault q
    → WorksByPass site names p.pass receipts q.pass
port_work site names p q receipts None work = port_run site names p q receipts work
port_work site names p q receipts (Some cause) work = still site names work.0 q p.pass receipts cause work.2 (port_run site names p work.0 receipts work.1)
