-- What an outlet has done that waits for a slow receiver only shortly, over several items.
use Rattle.std.proofs.Common.{◌≡◌, ◌∙◌, ◌⊎◌, inl, inr, ℕ, true, true≢false, List, [], ◌∷◌, ◌++◌, ap, append_assoc, append-nil, subst, sym, ⊎_elim}
use Rattle.site_pumps.specs.BriefSenders.{BriefSending, IsSentBriefly}
use Rattle.site_pumps.specs.Outlets.{OutletRun}

-- a receiver that lacks items, or whose link is down, stays so
lost_stays : (items : List (List ℕ)) (old new : BriefSending) → OutletRun IsSentBriefly items old new → (old.lacks ≡ true) ⊎ (old.link.down ≡ true) → (new.lacks ≡ true) ⊎ (new.link.down ≡ true)
lost_stays [] old new run lost = subst (λ (s : BriefSending). (s.lacks ≡ true) ⊎ (s.link.down ≡ true)) run lost
lost_stays (item ∷ items) old new run lost = lost_stays items run.0 new run.2 (⊎_elim
    (λ taken. ⊎_elim (λ lacks. inl (taken.lacks ∙ lacks)) (λ down. absurd (true≢false (sym down ∙ taken.up))) lost)
    (λ dropped. ⊎_elim (λ lacks. inl (dropped.lacks lacks)) (λ down. inr (dropped.down down)) lost) run.1.1)

-- all items were sent, or the receiver lacks items, or the link is down
pub sent_or_lost : (items : List (List ℕ)) (old new : BriefSending) → OutletRun IsSentBriefly items old new
    → (new.link.sent ≡ old.link.sent ++ items) ⊎ ((new.lacks ≡ true) ⊎ (new.link.down ≡ true))
sent_or_lost [] old new run = inl (ap (λ (s : BriefSending). s.link.sent) (sym run) ∙ sym (append-nil old.link.sent))
sent_or_lost (item ∷ items) old new run = ⊎_elim
    (λ taken. ⊎_elim (λ sent. inl (sent ∙ ap (λ l. l ++ items) taken.sent ∙ append_assoc old.link.sent (item ∷ []) items)) (λ lost. inr lost) (sent_or_lost items run.0 new run.2))
    (λ dropped. inr (lost_stays items run.0 new run.2 dropped.why)) run.1.1
