-- The frames among items.
use Rattle.std.proofs.Common.{◌≡◌, ◌∙◌, ◌<◌, ℕ, List, [], ◌∷◌, ◌++◌, ap, append-nil, arith, length, refl}
use Rattle.server.specs.PeerLinks.{frames_among}

-- those of two lists of items
frames_append : (items more : List (List ℕ)) → frames_among (items ++ more) ≡ frames_among items ++ frames_among more
frames_append [] more = refl
frames_append ([] ∷ items) more = frames_append items more
frames_append ((byte ∷ bytes) ∷ items) more = ap (λ l. (byte ∷ bytes) ∷ l) (frames_append items more)

-- one frame more
pub frames_next : (items : List (List ℕ)) (item : List ℕ) → 0 < length item → frames_among (items ++ item ∷ []) ≡ frames_among items ++ item ∷ []
frames_next items [] some = absurd (omega (arith, some))
frames_next items (byte ∷ bytes) some = frames_append items ((byte ∷ bytes) ∷ [])

-- one mark more
pub frames_mark : (items : List (List ℕ)) (item : List ℕ) → length item ≡ 0 → frames_among (items ++ item ∷ []) ≡ frames_among items
frames_mark items [] none = frames_append items ([] ∷ []) ∙ append-nil (frames_among items)
frames_mark items (byte ∷ bytes) none = absurd (omega (arith, none))
