-- Items with their tags, one after another.
use Rattle.std.proofs.Common.{◌≡◌, ◌∙◌, ◌+◌, ℕ, List, [], ◌∷◌, ◌++◌, Option, length, refl, sym, ap, subst, append_assoc, append-nil, arith, length-append}
use Rattle.std.specs.Prelude.{◌↔◌, Bool, Err, Ok, OnErr, Result, false, true}
use Rattle.std.specs.Io.KnownBytes.{Appends}
use Rattle.ami_text.specs.Devices.{HasTaken}
use Rattle.ami_text.proofs.Taking.{taken_grows, taken_none}
use Rattle.link_stream.specs.Sending.{HasSent, SenderState}
use Rattle.link_stream.specs.Sequences.{all_tagged}
use Rattle.link_stream.specs.Tagged.{tagged}
use Rattle.site_peers.specs.Sent.{HasBegunAll, HasSentAll}

-- items after others have the counters that follow
pub tagged_append : (key : List ℕ) (xs ys : List (List ℕ)) (n : ℕ) → all_tagged key n (xs ++ ys) ≡ all_tagged key n xs ++ all_tagged key (n + length xs) ys
tagged_append key [] ys n = ap (λ k. all_tagged key k ys) (omega arith)
tagged_append key (x ∷ xs) ys n =
    ap (λ l. tagged key n x ++ l) (tagged_append key xs ys (n + 1)
    ∙ ap (λ k. all_tagged key (n + 1) xs ++ all_tagged key k ys) (omega arith))
    ∙ sym (append_assoc (tagged key n x) (all_tagged key (n + 1) xs) (all_tagged key (n + length (x ∷ xs)) ys))

-- one item
pub tagged_one : (key item : List ℕ) (n : ℕ) → all_tagged key n (item ∷ []) ≡ tagged key n item
tagged_one key item n = append-nil (tagged key n item)

-- an item more
pub tagged_last : (key item : List ℕ) (items : List (List ℕ)) (n : ℕ) → all_tagged key n (items ++ item ∷ []) ≡ all_tagged key n items ++ tagged key (n + length items) item
tagged_last key item items n = tagged_append key items (item ∷ []) n ∙ ap (λ l. all_tagged key n items ++ l) (tagged_one key item (n + length items))

-- nothing was sent
pub sent_none : (known : Option (List ℕ)) (sender : SenderState) → HasSentAll known known sender [] sender
sent_none known sender = record { written = taken_none known; sent = omega arith; key = refl }

-- the tag of the item after these
next_tagged : (old mid : SenderState) (items : List (List ℕ)) (item : List ℕ) → mid.sent ≡ old.sent + length items → mid.key ≡ old.key
    → all_tagged old.key old.sent items ++ tagged mid.key mid.sent item ≡ all_tagged old.key old.sent (items ++ item ∷ [])
next_tagged old mid items item sent key =
    ap (λ k. all_tagged old.key old.sent items ++ tagged k mid.sent item) key
    ∙ ap (λ n. all_tagged old.key old.sent items ++ tagged old.key n item) sent
    ∙ sym (tagged_last old.key item items old.sent)

-- one item more was sent
pub sent_more : (before between after : Option (List ℕ)) (old mid new : SenderState) (items : List (List ℕ)) (item : List ℕ)
    → HasSentAll before between old items mid → HasSent between after mid item new → HasSentAll before after old (items ++ item ∷ []) new
sent_more before between after old mid new items item all one = record {
  written = subst (λ b. Appends before after b) (next_tagged old mid items item all.sent all.key)
      (taken_grows before between after (all_tagged old.key old.sent items) (tagged mid.key mid.sent item) all.written one.written);
  sent = (let a = all.sent in let b = one.sent in omega (arith, a, b, length-append items (item ∷ [])));
  key = one.key ∙ all.key;
}

-- a prefix of what was written after other bytes
prefix_after : (before between after : Option (List ℕ)) (front bytes : List ℕ) → Appends before between front → HasTaken between after bytes → HasTaken before after (front ++ bytes)
prefix_after before between after front bytes written begun = record {
  front = front ++ begun.front;
  rest = begun.rest;
  is = ap (λ l. front ++ l) begun.is ∙ sym (append_assoc front begun.front begun.rest);
  taken = taken_grows before between after front begun.front written begun.taken;
}

-- one item more was begun
pub begun_more : (before between after : Option (List ℕ)) (old mid : SenderState) (items : List (List ℕ)) (item : List ℕ)
    → HasSentAll before between old items mid → HasTaken between after (tagged mid.key mid.sent item) → HasBegunAll before after old (items ++ item ∷ [])
begun_more before between after old mid items item all begun = subst (λ b. HasTaken before after b) (next_tagged old mid items item all.sent all.key)
    (prefix_after before between after (all_tagged old.key old.sent items) (tagged mid.key mid.sent item) all.written begun)

-- nothing was begun
pub none_begun : (known : Option (List ℕ)) (bytes : List ℕ) → HasTaken known known bytes
none_begun known bytes = record { front = []; rest = bytes; is = refl; taken = taken_none known }

-- what a failed send has written, by whether the sink has failed
pub begun_or_none : {T E Same P : Type 0} (failed : Bool) (result : Result T E) (Failed : Type 0) → (Failed ↔ (failed ≡ true)) → (failed ≡ false → OnErr result Same) → (Failed → P) → (Same → P) → OnErr result P
begun_or_none failed (Ok x) Failed fails same begun none = tt
begun_or_none true (Err e) Failed fails same begun none = begun (fails.1 refl)
begun_or_none false (Err e) Failed fails same begun none = none (same refl)
