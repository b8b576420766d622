use Rattle.std.proofs.Common.{◌≡◌, ◌∙◌, Bool, rules, false, subst, sym, true≢false}
use Rattle.site_journal.specs.declared.receipt.Receipt.{Receipt}
use Rattle.site_pumps.proofs.Carrying.{at_first, at_last, one_more}
use Rattle.site_peers.specs.Outboxes.{Handing}
use Rattle.site_peers.proofs.spreading.hand_to_each.Goals as goal
use Rattle.site_peers.proofs.spreading.hand_to_each.Goals.{then-hand, else-hand}

-- an outbox that says no is known to
said_none : {O : Type 0} (Handed : O → Receipt → Bool → O → Type 0) (old : O) (receipt : Receipt) (wants : Bool) (new : O) → wants ≡ false
    → Handed old receipt wants new → Handed old receipt false new
said_none Handed old receipt wants new is handed = subst (λ said. Handed old receipt said new) is handed

pub loop-i-init : goal.loop-i-init
loop-i-init g c = (at_first _ _, λ none. at_first _ _)

pub returns : goal.returns
returns g c = record {
  handed = at_last _ _ _ _ (search rules) c.loop-i.invariant.0;
  none = λ is. at_last _ _ _ _ (search rules) (c.loop-i.invariant.1 is);
}

-- an outbox more
pub loop-i-preserved : goal.loop-i-preserved
loop-i-preserved g c = let handed = rw c.of-made.ensures at c.hand.ensures in (
  one_more (λ old new. Handing g.O.Outbox.handed old c.args.receipt.now new) _ _ _ _ _ (search rules) (c.hand.result, handed) c.loop-i.invariant.0,
  λ none. elim c.if-hand.branch [
    | then-hand w ↦ absurd (true≢false (sym w.is_whole_wanted-is ∙ none))
    | else-hand w ↦ one_more (λ old new. g.O.Outbox.handed old c.args.receipt.now false new) _ _ _ _ _ (search rules)
        (said_none g.O.Outbox.handed _ _ _ _ w.if-hand.false handed) (c.loop-i.invariant.1 (sym w.is_whole_wanted-is ∙ none))
  ],
)
