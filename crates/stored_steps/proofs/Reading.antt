-- What is read of a base.
use Rattle.std.proofs.Common.{Result, Ok, Err, IfOk, ◌≡◌, ◌≢◌, ◌<◌, ◌^◌, ◌≤◌, ℕ, List, [], ◌∷◌, ◌++◌, length, take, drop, sym, ap, subst, ◌∙◌, append-nil, append_assoc, arith}
use Rattle.std.specs.Int.{w64, to_be_bytes}
use Rattle.std.proofs.lemmas.List.{length-take, take-append-drop}
use Rattle.delta.specs.DeltaStates.{DeltaState}
use Rattle.delta.specs.Frames.{frame_of}
use Rattle.delta.specs.declared.frame.Frame.{Frame}
use Rattle.delta_codec.specs.Frames.{Spells}
use Rattle.stored_steps.specs.declared.limits.TheConstants.{NAME_BYTES}
use Rattle.stored_steps.specs.BaseReading.{HasParts, IsDeltaAtFront, IsHead}
use Rattle.replica.specs.Keeping.{IsBelow}
use Rattle.replica.specs.Queues.{AreQueues}
use Rattle.replica.specs.Restoring.{IsRestoreCause, IsRestored, parts_of}
use Rattle.replica.specs.Site.{IsSameSite, SiteState}
use Rattle.replica.specs.declared.restore_fault.RestoreFault.{RestoreFault}
use Rattle.replica.specs.declared.restore_fault.RestoreFault.TheVariants as restore
use Rattle.stored_steps.specs.declared.base.StoredBase.{StoredBase}
use Rattle.stored_steps.specs.declared.base_fault.BaseFault.{BaseFault}
use Rattle.stored_steps.specs.declared.limits.TheConstants.{BASE_VERSION}
use Rattle.stored_steps.specs.Bases.{IsReadBase, IsRowOfBase, IsSameBase, list_bytes, numbers_bytes}
use Rattle.stored_steps.specs.BaseFaults.{HasHead, IsVersioned}
use Rattle.stored_steps.specs.Stored.{Stored}
use Rattle.stored_steps.proofs.BaseLaws.{numbers_parted, read_same}

-- the front of a list that is long enough has its length
pub short : (n : ℕ) (bytes : List ℕ) → n ≤ length bytes → length (take n bytes) ≡ n
short n bytes le = omega (arith, length-take n bytes)

-- the name and the numbers are read
pub head_read : (name bytes behind rest frames : List ℕ) (starts a b c : ℕ) → length name ≡ NAME_BYTES → starts < 2 ^ 64 → a < 2 ^ 64 → b < 2 ^ 64 → c < 2 ^ 64 → bytes ≡ name ++ behind
    → behind ≡ to_be_bytes w64 starts ++ rest → rest ≡ to_be_bytes w64 a ++ (to_be_bytes w64 b ++ (to_be_bytes w64 c ++ frames)) → IsHead name starts (a, b, c) frames bytes
head_read name bytes behind rest frames starts a b c size fits in_a in_b in_c is one three = record {
  name_is = size;
  starts_fit = fits;
  count = in_a;
  time = in_b;
  number = in_c;
  is = is ∙ ap (λ (l : List ℕ). name ++ l) (one ∙ ap (λ (l : List ℕ). to_be_bytes w64 starts ++ l) three ∙ sym (numbers_parted starts a b c frames));
}

-- a delta is read
pub delta_read : (site n : ℕ) (frame : Frame) (delta : DeltaState) (bytes rest : List ℕ) → Spells frame (take n bytes) → frame ≡ frame_of site 1 delta → rest ≡ drop n bytes → IsDeltaAtFront site delta bytes rest
delta_read site n frame delta bytes rest spelled same is = record {
  frame = take n bytes;
  spelled = subst (λ (f : Frame). Spells f (take n bytes)) same spelled;
  is = sym (take-append-drop n bytes) ∙ ap (λ (l : List ℕ). take n bytes ++ l) (sym is);
}

-- two deltas are read, and nothing follows
pub parts_read : (site : ℕ) (state pending : DeltaState) (bytes rest last : List ℕ) → IsDeltaAtFront site state bytes rest → IsDeltaAtFront site pending rest last → last ≡ [] → HasParts site state pending bytes
parts_read site state pending bytes rest last one two none = record {
  first = one.frame;
  second = two.frame;
  state_is = one.spelled;
  pending_is = two.spelled;
  is = one.is ∙ ap (λ (l : List ℕ). one.frame ++ l) (two.is ∙ ap (λ (l : List ℕ). two.frame ++ l) none ∙ append-nil two.frame);
}

-- what is read is a base
pub base_read : (row : Stored) (site : ℕ) (names : List (List ℕ)) (state pending : DeltaState) (name : List ℕ) (starts : ℕ) (last : ℕ × ℕ × ℕ) (behind rest frames : List ℕ) (replica : SiteState) → row.kind ≡ 1
    → row.bytes ≡ BASE_VERSION ∷ site ∷ behind → behind ≡ list_bytes names ++ rest → AreQueues names → IsHead name starts last frames rest → HasParts site state pending frames → IsRestored (parts_of site names state pending last) replica
    → ((fault : RestoreFault) → fault ≢ restore.Memory → IsRestoreCause (parts_of site names state pending last) fault → ⊥) → (IsBelow pending state → IsSameSite (parts_of site names state pending last) replica) → IsReadBase row (record { replica = replica; name = name; starts = starts })
base_read row site names state pending name starts last behind rest frames replica kind front listed queues head parts restored accepted same = record {
  parts = parts_of site names state pending last;
  kind = kind;
  limits = record { queues = queues; name = head.name_is; starts = head.starts_fit; count = head.count; time = head.time; frames = head.number };
  spelled = record {
    state = parts.first;
    pending = parts.second;
    state_is = parts.state_is;
    pending_is = parts.pending_is;
    is = front
        ∙ ap (λ (l : List ℕ). BASE_VERSION ∷ site ∷ l) listed
        ∙ ap (λ (l : List ℕ). BASE_VERSION ∷ site ∷ (list_bytes names ++ l)) (head.is ∙ ap (λ (l : List ℕ). name ++ (numbers_bytes starts last ++ l)) parts.is)
        ∙ ap (λ (l : List ℕ). BASE_VERSION ∷ site ∷ l) (together (list_bytes names) name (numbers_bytes starts last) (parts.first ++ parts.second));
  };
  accepted = accepted;
  restored = restored;
  same = same;
}
  where
    together : (a b c d : List ℕ) → a ++ (b ++ (c ++ d)) ≡ (a ++ (b ++ c)) ++ d
    together a b c d = ap (λ (l : List ℕ). a ++ l) (sym (append_assoc b c d)) ∙ sym (append_assoc a (b ++ c) d)

-- the base that was stored is read
pub base_same : (row : Stored) (r : Result StoredBase BaseFault) → IfOk r (λ read. IsReadBase row read) → (base : StoredBase) → IsRowOfBase base row → IfOk r (λ read. IsSameBase base read)
base_same row (Ok read) is base of = read_same base read row of is
base_same row (Err fault) is base of = tt

-- a replica that is made of parts shows that they are refused for no cause
pub accepted : {R : Type 0} (result : Result R RestoreFault) (made : R) (site : ℕ) (names : List (List ℕ)) (state pending : DeltaState) (last : ℕ × ℕ × ℕ) → result ≡ Ok made
    → ((fault : RestoreFault) → fault ≢ restore.Memory → IsRestoreCause (parts_of site names state pending last) fault → result ≡ Err fault)
    → (fault : RestoreFault) → fault ≢ restore.Memory → IsRestoreCause (parts_of site names state pending last) fault → ⊥
accepted {R} result made site names state pending last e found fault other cause =
    let same : ◌≡◌ {A = Result R RestoreFault} (Ok made) (Err fault) = sym e ∙ found fault other cause in absurd (cc)

-- ---- how far a row is read

-- version and site are there
pub site_there : (row : Stored) (site : ℕ) (rest : List ℕ) → row.kind ≡ 1 → row.bytes ≡ BASE_VERSION ∷ site ∷ rest → IsVersioned row (site ∷ rest)
site_there row site rest kind is = record { kind = kind; is = is }

-- and behind them a list of queues
pub list_there : (row : Stored) (site : ℕ) (names : List (List ℕ)) (behind rest : List ℕ) → row.kind ≡ 1 → row.bytes ≡ BASE_VERSION ∷ site ∷ behind → behind ≡ list_bytes names ++ rest
    → IsVersioned row (site ∷ (list_bytes names ++ rest))
list_there row site names behind rest kind is listed = record { kind = kind; is = is ∙ ap (λ (l : List ℕ). BASE_VERSION ∷ site ∷ l) listed }

-- and behind them a name and numbers
pub head_there : (site : ℕ) (names : List (List ℕ)) (row : Stored) (name : List ℕ) (starts : ℕ) (last : ℕ × ℕ × ℕ) (frames rest : List ℕ) → IsVersioned row (site ∷ (list_bytes names ++ rest)) → IsHead name starts last frames rest
    → HasHead site names row last frames
head_there site names row name starts last frames rest front head = record { rest = rest; front = front; name = name; starts = starts; head = head }
