use Rattle.std.proofs.Common.{sym, ◌∙◌}
use Rattle.lww_registers.proofs.fields.Fields.agrees.Goals as goal
use Rattle.lww_registers.proofs.fields.Fields.agrees.Goals.{then-agrees, else-agrees, then-agrees-2, else-agrees-2}

-- the first three agree, so the fourth decides
pub returns-then-agrees-3-clause-agree : goal.returns-then-agrees-3-clause-agree
returns-then-agrees-3-clause-agree c = rw (← c.self.view_is, ← c.other.view_is) elim c.if-agrees-2.branch [
  | then-agrees-2 w2 ↦ elim c.if-agrees.branch [
    | then-agrees w ↦ (
      λ t. record {
        penalty = c.agrees.ensures.agree.0 w.if-agrees.true;
        pause = w.agrees-then-agrees.ensures.agree.0 (sym w.value-is ∙ w2.if-agrees-2.true);
        label = w2.agrees-then-agrees-2.ensures.agree.0 (sym w2.value-is ∙ c.if-agrees-3.true);
        ring = c.agrees-then-agrees-3.ensures.agree.0 t;
      },
      λ f. c.agrees-then-agrees-3.ensures.agree.1 f.ring,
    )
    | else-agrees w ↦ absurd (cc)
  ]
  | else-agrees-2 w2 ↦ absurd (cc)
]
