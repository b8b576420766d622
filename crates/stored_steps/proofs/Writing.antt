-- What is written of a base.
use Rattle.std.proofs.Common.{◌≡◌, ◌<◌, ◌^◌, ◌+◌, ℕ, List, [], ◌∷◌, ◌++◌, length, get_or, take, Result, Ok, Err, OnOk, sym, ap, ◌∙◌, append_assoc, append-nil, arith, if◌then◌else◌}
use Rattle.std.specs.Prelude.{is_ok}
use Rattle.std.specs.Int.{w16, w64, to_be_bytes}
use Rattle.std.specs.List.{flat_map}
use Rattle.std.proofs.lemmas.Grind.{flat_map-append}
use Rattle.std.proofs.lemmas.List.{take_all, take_more}
use Rattle.delta.specs.DeltaStates.{DeltaState}
use Rattle.delta.specs.Frames.{IsInRanges, frame_of}
use Rattle.replica.specs.Keeping.{AreInQueues, IsKept}
use Rattle.replica.specs.Queues.{AreQueues}
use Rattle.replica.proofs.FramedSites.{in_ranges}
use Rattle.stored_steps.specs.declared.base.StoredBase.{StoredBase}
use Rattle.stored_steps.specs.declared.limits.TheConstants.{BASE_VERSION, NAME_BYTES}
use Rattle.stored_steps.specs.Appending.{AppendsDelta}
use Rattle.stored_steps.specs.Bases.{IsBase, SpellsBase, SpellsDelta, head_bytes, last_of, list_bytes, name_bytes, numbers_bytes}

-- one name more is written
pub names_more : (start out new : List ℕ) (names : List (List ℕ)) (i : ℕ) → i < length names → out ≡ start ++ flat_map name_bytes (take i names) → new ≡ out ++ name_bytes (get_or names i [])
    → new ≡ start ++ flat_map name_bytes (take (i + 1) names)
names_more start out new names i lt before wrote =
    let name = get_or names i [] in
    let more : flat_map name_bytes (take (i + 1) names) ≡ flat_map name_bytes (take i names) ++ name_bytes name =
    ap (flat_map name_bytes) (take_more names i [] lt) ∙ flat_map-append name_bytes (take i names) (name ∷ []) ∙ ap (λ (l : List ℕ). flat_map name_bytes (take i names) ++ l) (append-nil (name_bytes name)) in
    wrote ∙ ap (λ (l : List ℕ). l ++ name_bytes name) before ∙ append_assoc start (flat_map name_bytes (take i names)) (name_bytes name) ∙ ap (λ (l : List ℕ). start ++ l) (sym more)

-- all names are written, behind how many there are
pub list_written : (old out : List ℕ) (names : List (List ℕ)) (n : ℕ) → n ≡ length names → out ≡ (old ++ to_be_bytes w16 n) ++ flat_map name_bytes (take n names) → out ≡ old ++ list_bytes names
list_written old out names n size wrote =
    wrote ∙ ap (λ (k : ℕ). (old ++ to_be_bytes w16 k) ++ flat_map name_bytes (take k names)) size
    ∙ ap (λ (l : List (List ℕ)). (old ++ to_be_bytes w16 (length names)) ++ flat_map name_bytes l) (take_all (length names) names (omega arith))
    ∙ append_assoc old (to_be_bytes w16 (length names)) (flat_map name_bytes names)

-- numbers are written one after the other
pub numbers_written : (zero one two three four : List ℕ) (starts a b c : ℕ) → one ≡ zero ++ to_be_bytes w64 starts → two ≡ one ++ to_be_bytes w64 a → three ≡ two ++ to_be_bytes w64 b → four ≡ three ++ to_be_bytes w64 c
    → four ≡ zero ++ numbers_bytes starts (a, b, c)
numbers_written zero one two three four starts a b c p q r s =
    s ∙ ap (λ (l : List ℕ). l ++ to_be_bytes w64 c) (r ∙ ap (λ (l : List ℕ). l ++ to_be_bytes w64 b) (q ∙ ap (λ (l : List ℕ). l ++ to_be_bytes w64 a) p))
    ∙ together zero (to_be_bytes w64 starts) (to_be_bytes w64 a) (to_be_bytes w64 b) (to_be_bytes w64 c)
  where
    together : (z k l m n : List ℕ) → (((z ++ k) ++ l) ++ m) ++ n ≡ z ++ (k ++ (l ++ (m ++ n)))
    together z k l m n = simp append_assoc

-- the same numbers are spelled the same
pub same_numbers_bytes : (starts : ℕ) (a b : ℕ × ℕ × ℕ) → a.0 ≡ b.0 → a.1 ≡ b.1 → a.2 ≡ b.2 → numbers_bytes starts a ≡ numbers_bytes starts b
same_numbers_bytes starts a b p q r = λ i. to_be_bytes w64 starts ++ (to_be_bytes w64 (p i) ++ (to_be_bytes w64 (q i) ++ to_be_bytes w64 (r i)))

-- a head is written part by part
pub head_written : (base : StoredBase) (zero one two three four five : List ℕ) → one ≡ zero ++ BASE_VERSION ∷ [] → two ≡ one ++ base.replica.site ∷ [] → three ≡ two ++ list_bytes base.replica.names
    → four ≡ three ++ base.name → five ≡ four ++ numbers_bytes base.starts (last_of base.replica) → five ≡ zero ++ head_bytes base
head_written base zero one two three four five p q r s t =
    t ∙ ap (λ (l : List ℕ). l ++ numbers_bytes base.starts (last_of base.replica)) (s ∙ ap (λ (l : List ℕ). l ++ base.name) (r ∙ ap (λ (l : List ℕ). l ++ list_bytes base.replica.names) (q ∙ ap (λ (l : List ℕ). l ++ base.replica.site ∷ []) p)))
    ∙ together zero BASE_VERSION base.replica.site (list_bytes base.replica.names) base.name (numbers_bytes base.starts (last_of base.replica))
  where
    together : (z : List ℕ) (v s : ℕ) (l m n : List ℕ) → ((((z ++ v ∷ []) ++ s ∷ []) ++ l) ++ m) ++ n ≡ z ++ (v ∷ s ∷ (l ++ (m ++ n)))
    together z v s l m n = simp append_assoc

-- what was written at the end is the spelling of a delta
pub delta_written : {E : Type 0} (r : Result (Unit {0}) E) (site : ℕ) (delta : DeltaState) (old frame new : List ℕ) → SpellsDelta site delta frame → new ≡ (if is_ok r then old ++ frame else old)
    → OnOk r (AppendsDelta site delta old new)
delta_written (Ok u) site delta old frame new spelled is = record { frame = frame; spelled = spelled; is = is }
delta_written (Err e) site delta old frame new spelled is = tt

-- a delta of queues of a list is within the ranges of a frame
pub delta_in_ranges : (site : ℕ) (names : List (List ℕ)) (delta : DeltaState) → AreQueues names → AreInQueues (length names) delta → IsInRanges (frame_of site 1 delta)
delta_in_ranges site names delta queues within = in_ranges (length names) (frame_of site 1 delta) (omega arith) (omega arith) (omega arith) within

-- a head, a state and a buffer are a base
pub base_written : (base : StoredBase) (head first bytes : List ℕ) → head ≡ head_bytes base → AppendsDelta base.replica.site base.replica.state head first → AppendsDelta base.replica.site base.replica.pending first bytes
    → SpellsBase base bytes
base_written base head first bytes is one two = record {
  state = one.frame;
  pending = two.frame;
  state_is = one.spelled;
  pending_is = two.spelled;
  is = two.is ∙ ap (λ (l : List ℕ). l ++ two.frame) (one.is ∙ ap (λ (l : List ℕ). l ++ one.frame) is) ∙ append_assoc (head_bytes base) one.frame two.frame;
}

-- a replica makes a base
pub base_of_replica : (base : StoredBase) → IsKept base.replica → AreQueues base.replica.names → length base.name ≡ NAME_BYTES → base.starts < 2 ^ 64 → IsBase base
base_of_replica base kept queues name starts = record {
  kept = kept;
  limits = record {
    queues = queues;
    name = name;
    starts = starts;
    count = (let h = kept.counts in omega arith);
    time = (let h = kept.times in omega arith);
    frames = (let h = kept.frames in omega arith);
  };
}
