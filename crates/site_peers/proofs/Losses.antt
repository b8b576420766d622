-- What a queue has given and holds after puts and takes.
use Rattle.std.proofs.Common.{◌≡◌, ◌∙◌, ◌⊎◌, inl, inr, ◌++◌, ◌∷◌, List, None, Option, Some, [], ap, append-nil, append_assoc, false, length, refl, sym, true, ⊎_elim, ◌+◌, ℕ}
use Rattle.std.proofs.lemmas.Bool.{cases_lt}
use Rattle.peer_box.specs.Boxes.{bytes_waiting}
use Rattle.site_peers.specs.Queues.{HaveHappened, IsPut, QueueEvent, QueueState, all_put, all_taken, before_frames, waiting, with_frame}
use Rattle.site_peers.specs.Queues.QueueEvent.{Put, Taken}

-- a frame more waits last
frame_last : (whole : Option (List ℕ)) (frames : List (List ℕ)) (frame : List ℕ) → before_frames whole (frames ++ frame ∷ []) ≡ before_frames whole frames ++ frame ∷ []
frame_last None frames frame = refl
frame_last (Some whole) frames frame = refl

-- a frame that is put waits last, or a whole is due
outcome : (old : QueueState) (frame : List ℕ) (new : QueueState) → old.box.is_open ≡ true → old.box.whole_due ≡ false → IsPut old frame new
    → (new ≡ with_frame old frame) ⊎ (new.box.whole_due ≡ true)
outcome old frame new is_open due put = ⊎_elim
    (λ more. inr (ap (λ (q : QueueState). q.box.whole_due) (put.full is_open due more)))
    (λ room. ⊎_elim inl (λ lost. inr (ap (λ (q : QueueState). q.box.whole_due) lost)) (put.kept is_open due room))
    (cases_lt old.box.limit (bytes_waiting old.box.frames + length frame))

-- a whole that is due stays due
stays_due : (events : List QueueEvent) (old new : QueueState) → old.box.whole_due ≡ true → HaveHappened old events new → new.box.whole_due ≡ true
stays_due [] old new due same = ap (λ (q : QueueState). q.box.whole_due) same ∙ due
stays_due (Put frame ∷ events) old new due (between, put, rest) =
    stays_due events between new (ap (λ (q : QueueState). q.box.whole_due) (put.ignored (inr due)) ∙ due) rest
stays_due (Taken item ∷ events) old new due (between, taken, rest) = stays_due events between new (taken.stays_due ∙ due) rest

-- without a whole that is due, what was taken and what waits is what waited and each frame that was put
pub all_is : (events : List QueueEvent) (old new : QueueState) → old.box.is_open ≡ true → old.box.whole_due ≡ false → HaveHappened old events new
    → (new.box.whole_due ≡ true) ⊎ (all_taken events ++ waiting new ≡ waiting old ++ all_put events)
all_is [] old new is_open due same = inr (ap waiting same ∙ sym (append-nil (waiting old)))
all_is (Put frame ∷ events) old new is_open due (between, put, rest) = ⊎_elim
    (λ kept. ⊎_elim inl
    (λ is. inr (is ∙ ap (λ (q : QueueState). waiting q ++ all_put events) kept
    ∙ ap (λ l. l ++ all_put events) (frame_last old.whole old.box.frames frame)
    ∙ append_assoc (waiting old) (frame ∷ []) (all_put events)))
    (all_is events between new (ap (λ (q : QueueState). q.box.is_open) kept ∙ is_open) (ap (λ (q : QueueState). q.box.whole_due) kept ∙ due) rest))
    (λ lost. inl (stays_due events between new lost rest))
    (outcome old frame between is_open due put)
all_is (Taken item ∷ events) old new is_open due (between, taken, rest) = ⊎_elim inl
    (λ is. inr (ap (λ l. item ∷ l) is ∙ ap (λ l. l ++ all_put events) (sym taken.first)))
    (all_is events between new (taken.stays_open ∙ is_open) (taken.stays_due ∙ due) rest)
