-- Bytes spell one base alone.
use Rattle.std.proofs.Common.{◌≡◌, ◌≤◌, ◌<◌, ◌^◌, inl, inr, ℕ, List, [], ◌∷◌, ◌++◌, length, take, refl, sym, ap, ap₂, subst, subst₂, ◌∙◌, append_assoc, arith, length-append}
use Rattle.std.specs.Int.{w16, w64, from_be_bytes, to_be_bytes}
use Rattle.std.specs.FinSet as set
use Rattle.std.specs.List.{flat_map}
use Rattle.std.proofs.lemmas.Nat.{from_be_bytes-to_be_bytes_2, from_be_bytes-to_be_bytes_8}
use Rattle.std.proofs.Math.Seq.{take-append_seam}
use Rattle.operations.specs.Totals.{join_of, totals_of}
use Rattle.operations.specs.Conditions.{IsConditionBelow, condition_joined}
use Rattle.site_totals.specs.Raising.{number_of}
use Rattle.delta.specs.DeltaStates.{DeltaState, IsSame}
use Rattle.delta.specs.Frames.{frame_of}
use Rattle.delta.specs.Joining.{IsJoinOf}
use Rattle.delta_codec.specs.Frames.{Spells}
use Rattle.delta_codec.proofs.FrameLaws.{both_found, one_frame}
use Rattle.replica.specs.Keeping.{IsBelow}
use Rattle.replica.specs.Queues.{AreQueues}
use Rattle.replica.proofs.SameSites.{delta_through, delta_turned, site_through}
use Rattle.stored_steps.specs.declared.base.StoredBase.{StoredBase}
use Rattle.stored_steps.specs.declared.limits.TheConstants.{BASE_VERSION}
use Rattle.stored_steps.specs.Bases.{HasLimits, IsOfBase, IsReadBase, IsRowOfBase, IsSameBase, SpellsBase, SpellsDelta, head_bytes, last_of, list_bytes, name_bytes, numbers_bytes, with_parts}
use Rattle.stored_steps.specs.Stored.{Stored}

-- what stands at the front, and what follows it, is the same where the fronts are as long
pub split : (xs ys r s : List ℕ) → length xs ≡ length ys → xs ++ r ≡ ys ++ s → (xs ≡ ys) × (r ≡ s)
split [] [] r s len e = (refl, e)
split [] (y ∷ ys) r s len e = absurd (omega arith)
split (x ∷ xs) (y ∷ ys) r s len e =
    let tail : xs ++ r ≡ ys ++ s = cc in
    let head : x ≡ y = cc in
    let both = split xs ys r s (omega arith) tail in
    (ap₂ (λ (a : ℕ) (l : List ℕ). a ∷ l) head both.0, both.1)
split (x ∷ xs) [] r s len e = absurd (omega arith)

-- ---- numbers

pub one_number : (m n : ℕ) (r s : List ℕ) → m < 2 ^ 64 → n < 2 ^ 64 → to_be_bytes w64 m ++ r ≡ to_be_bytes w64 n ++ s → (m ≡ n) × (r ≡ s)
one_number m n r s in_m in_n e =
    let both = split (to_be_bytes w64 m) (to_be_bytes w64 n) r s refl e in
    (sym (from_be_bytes-to_be_bytes_8 m in_m) ∙ ap (from_be_bytes w64) both.0 ∙ from_be_bytes-to_be_bytes_8 n in_n, both.1)

pub one_size : (m n : ℕ) (r s : List ℕ) → m < 2 ^ 16 → n < 2 ^ 16 → to_be_bytes w16 m ++ r ≡ to_be_bytes w16 n ++ s → (m ≡ n) × (r ≡ s)
one_size m n r s in_m in_n e =
    let both = split (to_be_bytes w16 m) (to_be_bytes w16 n) r s refl e in
    (sym (from_be_bytes-to_be_bytes_2 m in_m) ∙ ap (from_be_bytes w16) both.0 ∙ from_be_bytes-to_be_bytes_2 n in_n, both.1)

-- ---- lists of queues

pub one_names : (a b : List (List ℕ)) (r s : List ℕ) → length a ≡ length b → flat_map name_bytes a ++ r ≡ flat_map name_bytes b ++ s → (a ≡ b) × (r ≡ s)
one_names [] [] r s len e = (refl, e)
one_names [] (y ∷ b) r s len e = absurd (omega arith)
one_names (x ∷ a) [] r s len e = absurd (omega arith)
one_names (x ∷ a) (y ∷ b) r s len e =
    let moved : name_bytes x ++ (flat_map name_bytes a ++ r) ≡ name_bytes y ++ (flat_map name_bytes b ++ s) =
    sym (append_assoc (name_bytes x) (flat_map name_bytes a) r) ∙ e ∙ append_assoc (name_bytes y) (flat_map name_bytes b) s in
    let sizes : length x ≡ length y = cc in
    let tails : x ++ (flat_map name_bytes a ++ r) ≡ y ++ (flat_map name_bytes b ++ s) = cc in
    let first = split x y (flat_map name_bytes a ++ r) (flat_map name_bytes b ++ s) sizes tails in
    let rest = one_names a b r s (omega arith) first.1 in
    (ap₂ (λ (n : List ℕ) (l : List (List ℕ)). n ∷ l) first.0 rest.0, rest.1)

pub one_list : (a b : List (List ℕ)) (r s : List ℕ) → AreQueues a → AreQueues b → list_bytes a ++ r ≡ list_bytes b ++ s → (a ≡ b) × (r ≡ s)
one_list a b r s good fine e =
    let moved : to_be_bytes w16 (length a) ++ (flat_map name_bytes a ++ r) ≡ to_be_bytes w16 (length b) ++ (flat_map name_bytes b ++ s) =
    sym (append_assoc (to_be_bytes w16 (length a)) (flat_map name_bytes a) r) ∙ e ∙ append_assoc (to_be_bytes w16 (length b)) (flat_map name_bytes b) s in
    let sizes = one_size (length a) (length b) (flat_map name_bytes a ++ r) (flat_map name_bytes b ++ s) (omega arith) (omega arith) moved in
    one_names a b r s sizes.0 sizes.1

-- ---- deltas

pub one_delta : (site : ℕ) (d e : DeltaState) (a b r s : List ℕ) → SpellsDelta site d a → SpellsDelta site e b → a ++ r ≡ b ++ s → (a ≡ b) × (r ≡ s) × IsSame d e
one_delta site d e a b r s first second same =
    let all = a ++ r in
    let front : Spells (frame_of site 1 d) (take (length a) all) = subst (λ (l : List ℕ). Spells (frame_of site 1 d) l) (sym (take-append_seam a r)) first in
    let other : Spells (frame_of site 1 e) (take (length b) all) =
    subst (λ (l : List ℕ). Spells (frame_of site 1 e) l) (sym (ap (take (length b)) same ∙ take-append_seam b s)) second in
    let within : length a ≤ length all = omega (arith, length-append a r) in
    let too : length b ≤ length all = omega (arith, ap length same, length-append b s) in
    let sizes = (both_found all (frame_of site 1 d) (frame_of site 1 e) (length a) (length b) within too front other).1 in
    let both = split a b r s sizes same in
    (both.0, both.1, (one_frame (frame_of site 1 d) (frame_of site 1 e) b (subst (λ (l : List ℕ). Spells (frame_of site 1 d) l) both.0 first) second).delta)

-- ---- bases

abbrev pub behind_list : StoredBase → List ℕ → List ℕ
behind_list base frames = base.name ++ (numbers_bytes base.starts (last_of base.replica) ++ frames)

-- the bytes of a base, part by part
pub parted : (base : StoredBase) (frames : List ℕ) → head_bytes base ++ frames ≡ BASE_VERSION ∷ base.replica.site ∷ (list_bytes base.replica.names ++ behind_list base frames)
parted base frames =
    ap (λ (l : List ℕ). BASE_VERSION ∷ base.replica.site ∷ l)
    (append_assoc (list_bytes base.replica.names) (base.name ++ numbers_bytes base.starts (last_of base.replica)) frames
    ∙ ap (λ (l : List ℕ). list_bytes base.replica.names ++ l) (append_assoc base.name (numbers_bytes base.starts (last_of base.replica)) frames))

-- the numbers of a base and what follows them
pub numbers_parted : (starts a b c : ℕ) (frames : List ℕ) → numbers_bytes starts (a, b, c) ++ frames ≡ to_be_bytes w64 starts ++ (to_be_bytes w64 a ++ (to_be_bytes w64 b ++ (to_be_bytes w64 c ++ frames)))
numbers_parted starts a b c frames = simp append_assoc

record AreSameNumbers (base other : StoredBase) (frames more : List ℕ) : Type 0 where
  pub starts : base.starts ≡ other.starts
  pub count : base.replica.last_count ≡ other.replica.last_count
  pub time : base.replica.last_time ≡ other.replica.last_time
  pub number : base.replica.frames ≡ other.replica.frames
  pub rest : frames ≡ more

same_numbers : (base other : StoredBase) (frames more : List ℕ) → HasLimits base → HasLimits other
    → numbers_bytes base.starts (last_of base.replica) ++ frames ≡ numbers_bytes other.starts (last_of other.replica) ++ more → AreSameNumbers base other frames more
same_numbers base other frames more good fine e =
    let moved = sym (numbers_parted base.starts base.replica.last_count base.replica.last_time base.replica.frames frames) ∙ e
    ∙ numbers_parted other.starts other.replica.last_count other.replica.last_time other.replica.frames more in
    let one = one_number base.starts other.starts _ _ good.starts fine.starts moved in
    let two = one_number base.replica.last_count other.replica.last_count _ _ good.count fine.count one.1 in
    let three = one_number base.replica.last_time other.replica.last_time _ _ good.time fine.time two.1 in
    let four = one_number base.replica.frames other.replica.frames _ _ good.frames fine.frames three.1 in
    record { starts = one.0; count = two.0; time = three.0; number = four.0; rest = four.1 }

-- two bases that one list of bytes spells say the same
pub one_base : (base other : StoredBase) (bytes : List ℕ) → HasLimits base → HasLimits other → SpellsBase base bytes → SpellsBase other bytes → IsSameBase base other
one_base base other bytes good fine one two =
    let frames = one.state ++ one.pending in
    let more = two.state ++ two.pending in
    let whole : BASE_VERSION ∷ base.replica.site ∷ (list_bytes base.replica.names ++ behind_list base frames)
    ≡ BASE_VERSION ∷ other.replica.site ∷ (list_bytes other.replica.names ++ behind_list other more) =
    sym (parted base frames) ∙ sym one.is ∙ two.is ∙ parted other more in
    let site : base.replica.site ≡ other.replica.site = cc in
    let lists : list_bytes base.replica.names ++ behind_list base frames ≡ list_bytes other.replica.names ++ behind_list other more = cc in
    let names = one_list base.replica.names other.replica.names (behind_list base frames) (behind_list other more) good.queues fine.queues lists in
    let named = split base.name other.name _ _ (good.name ∙ sym fine.name) names.1 in
    let numbers = same_numbers base other frames more good fine named.1 in
    let state_here : SpellsDelta base.replica.site other.replica.state two.state = subst (λ (n : ℕ). SpellsDelta n other.replica.state two.state) (sym site) two.state_is in
    let pending_here : SpellsDelta base.replica.site other.replica.pending two.pending = subst (λ (n : ℕ). SpellsDelta n other.replica.pending two.pending) (sym site) two.pending_is in
    let states = one_delta base.replica.site base.replica.state other.replica.state one.state two.state one.pending two.pending one.state_is state_here numbers.rest in
    let ends : one.pending ++ [] ≡ two.pending ++ [] = ap (λ (l : List ℕ). l ++ []) states.1 in
    let buffers = one_delta base.replica.site base.replica.pending other.replica.pending one.pending two.pending [] [] one.pending_is pending_here ends in
    record {
      site = record {
        site = sym site;
        names = sym names.0;
        state = states.2;
        pending = buffers.2;
        last_count = sym numbers.count;
        last_time = sym numbers.time;
        frames = sym numbers.number;
      };
      name = sym named.0;
      starts = sym numbers.starts;
    }

-- a delta that says the same is below what says the same
below_same : (d e x y : DeltaState) → IsSame d e → IsSame x y → IsBelow d x → IsBelow e y
below_same d e x y a b below = record {
  conditions = λ dot. subst₂ (λ c k. IsConditionBelow c k) (a.conditions dot) (b.conditions dot) (below.conditions dot);
  totals = λ site queue calls.
      subst₂ (λ (m n : ℕ). m ≤ n) (ap (λ entries. number_of calls (totals_of entries site queue)) a.totals) (ap (λ entries. number_of calls (totals_of entries site queue)) b.totals) (below.totals site queue calls);
}

-- what is read of the row of a base says the same
pub read_same : (base read : StoredBase) (row : Stored) → IsRowOfBase base row → IsReadBase row read → IsSameBase base read
read_same base read row of is =
    let same = one_base base (with_parts is.parts read) row.bytes of.good.limits is.limits of.spelled is.spelled in
    let below = below_same base.replica.pending is.parts.pending base.replica.state is.parts.state same.site.pending same.site.state of.good.kept.below in
    record { site = site_through base.replica is.parts read.replica same.site (is.same below); name = same.name; starts = same.starts }

-- joins of what says the same say the same
joins_same : (d e x y f g : DeltaState) → IsSame d e → IsSame x y → IsJoinOf d x f → IsJoinOf e y g → IsSame f g
joins_same d e x y f g a b j k = record {
  conditions = λ dot. j.members.conditions dot ∙ (λ i. condition_joined (a.conditions dot i) (b.conditions dot i)) ∙ sym (k.members.conditions dot);
  known = j.members.known ∙ (λ i. set.union (a.known i) (b.known i)) ∙ sym k.members.known;
  totals = j.totals ∙ (λ i. join_of (a.totals i) (b.totals i)) ∙ sym k.totals;
}

-- what is read of one row says the same each time
pub read_once : (one other : StoredBase) (row : Stored) → IsReadBase row one → IsReadBase row other → IsSameBase one other
read_once one other row p q =
    let same = one_base (with_parts p.parts one) (with_parts q.parts other) row.bytes p.limits q.limits p.spelled q.spelled in
    let mine = p.restored in
    let yours = q.restored in
    let buffers = delta_through p.parts.pending q.parts.pending other.replica.pending same.site.pending yours.pending in record {
      site = record {
        site = yours.site ∙ (same.site.site ∙ sym mine.site);
        names = yours.names ∙ (same.site.names ∙ sym mine.names);
        state = joins_same p.parts.state q.parts.state p.parts.pending q.parts.pending one.replica.state other.replica.state same.site.state same.site.pending mine.state yours.state;
        pending = delta_through one.replica.pending p.parts.pending other.replica.pending (delta_turned p.parts.pending one.replica.pending mine.pending) buffers;
        last_count = yours.last_count ∙ (same.site.last_count ∙ sym mine.last_count);
        last_time = yours.last_time ∙ (same.site.last_time ∙ sym mine.last_time);
        frames = yours.frames ∙ (same.site.frames ∙ sym mine.frames);
      };
      name = same.name;
      starts = same.starts;
    }

-- what is read of the row of a base, written or read, says the same
pub same_base : (base read : StoredBase) (row : Stored) → IsOfBase base row → IsReadBase row read → IsSameBase base read
same_base base read row (inl written) is = read_same base read row written is
same_base base read row (inr was) is = read_once base read row was is
