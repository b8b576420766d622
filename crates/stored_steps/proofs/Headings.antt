-- Why a row names no site with a list of queues.
use Rattle.std.proofs.Common.{◌≡◌, ◌≢◌, ◌≤◌, ◌<◌, ◌^◌, ◌⊎◌, inl, inr, ℕ, zero, suc, List, [], ◌∷◌, ◌++◌, length, get_or, Result, Ok, Err, IfErr, refl, sym, ap, subst, ◌∙◌, append_assoc, arith, length-append}
use Rattle.std.specs.Int.{w16, from_be_bytes, to_be_bytes}
use Rattle.std.specs.List.{flat_map}
use Rattle.std.proofs.lemmas.Nat.{be_bytes_2}
use Rattle.std.proofs.lemmas.Grind.{flat_map-append}
use Rattle.dots.specs.Values.{IsName, IsSite}
use Rattle.replica.specs.Queues.{AreQueues}
use Rattle.stored_steps.specs.declared.base_fault.BaseFault.{BaseFault}
use Rattle.stored_steps.specs.declared.base_fault.BaseFault.TheVariants.{NoBase, BadVersion, WrongSite, WrongList, Truncated, Decode, WrongFrame, Trailing, Parts, Memory}
use Rattle.stored_steps.specs.declared.limits.TheConstants.{BASE_VERSION}
use Rattle.stored_steps.specs.Bases.{list_bytes, name_bytes}
use Rattle.stored_steps.specs.BaseFaults.{HasFewerNames, HasNoHeading, HasNoName, HasNoNames, IsHeadingCause, IsListCause, IsNoSiteCause, IsSiteCause, IsVersioned, LacksHeading}
use Rattle.stored_steps.specs.Stored.{Stored}
use Rattle.stored_steps.proofs.BaseLaws.{one_names, one_size, split}

-- ---- names

-- no name is at the front of bytes that are too short for it
pub short_name : (len : ℕ) (rest : List ℕ) → length rest < len → HasNoName (len ∷ rest)
short_name len rest short name more good e =
    let first : len ≡ length name = cc in
    let others : rest ≡ name ++ more = cc in
    omega (arith, first, short, ap length others, length-append name more)

-- nor where what is there is no name
pub no_such_name : (len : ℕ) (rest front behind : List ℕ) → rest ≡ front ++ behind → length front ≡ len → (IsName front → ⊥) → HasNoName (len ∷ rest)
no_such_name len rest front behind parts size none name more good e =
    let first : len ≡ length name = cc in
    let others : rest ≡ name ++ more = cc in
    let both = split front name behind more (size ∙ first) (sym parts ∙ others) in
    none (subst IsName (sym both.0) good)

-- one name more is read
pub one_name_more : (bytes left rest : List ℕ) (names : List (List ℕ)) (name : List ℕ) → bytes ≡ flat_map name_bytes names ++ left → left ≡ name_bytes name ++ rest → bytes ≡ flat_map name_bytes (names ++ name ∷ []) ++ rest
one_name_more bytes left rest names name before next =
    let more : flat_map name_bytes (names ++ name ∷ []) ≡ flat_map name_bytes names ++ name_bytes name =
    flat_map-append name_bytes names (name ∷ []) ∙ ap (λ (l : List ℕ). flat_map name_bytes names ++ l) (one (name_bytes name)) in
    before ∙ ap (λ (l : List ℕ). flat_map name_bytes names ++ l) next ∙ sym (append_assoc (flat_map name_bytes names) (name_bytes name) rest) ∙ ap (λ (l : List ℕ). l ++ rest) (sym more)
  where
    one : (l : List ℕ) → l ++ [] ≡ l
    one [] = refl
    one (x ∷ l) = ap (λ (m : List ℕ). x ∷ m) (one l)

-- fewer names are there, if behind those that are read there is none
pub fewer : (read : List (List ℕ)) (count : ℕ) (bytes left : List ℕ) → bytes ≡ flat_map name_bytes read ++ left → length read < count → HasNoName left → HasFewerNames count bytes
fewer [] count bytes left is less none [] more size good e = absurd (omega arith)
fewer [] count bytes left is less none (x ∷ xs) more size good e =
    none x (flat_map name_bytes xs ++ more) (good 0 [] (omega arith)) (sym is ∙ e ∙ append_assoc (name_bytes x) (flat_map name_bytes xs) more)
fewer (r ∷ rs) count bytes left is less none [] more size good e = absurd (omega arith)
fewer (r ∷ rs) count bytes left is less none (x ∷ xs) more size good e =
    let moved : name_bytes r ++ (flat_map name_bytes rs ++ left) ≡ name_bytes x ++ (flat_map name_bytes xs ++ more) =
    sym (append_assoc (name_bytes r) (flat_map name_bytes rs) left) ∙ sym is ∙ e ∙ append_assoc (name_bytes x) (flat_map name_bytes xs) more in
    let sizes : length r ≡ length x = cc in
    let tails : r ++ (flat_map name_bytes rs ++ left) ≡ x ++ (flat_map name_bytes xs ++ more) = cc in
    let both = split r x (flat_map name_bytes rs ++ left) (flat_map name_bytes xs ++ more) sizes tails in
    fewer rs (length xs) (flat_map name_bytes rs ++ left) left refl (omega arith) none xs more refl (λ k d low. good (suc k) d (omega (arith, low))) both.1

-- ---- lists of queues

-- two bytes spell the number that they are read as
pub number_spelled : (high low count : ℕ) → count ≡ from_be_bytes w16 (high ∷ low ∷ []) → high < 256 → low < 256 → to_be_bytes w16 count ≡ high ∷ low ∷ []
number_spelled high low count is a b = be_bytes_2 (high ∷ low ∷ []) count refl each is
  where
    each : (i : ℕ) → get_or (high ∷ low ∷ []) i 0 < 256
    each zero = a
    each (suc zero) = b
    each (suc (suc i)) = omega arith

-- no list is there, where fewer names are
pub no_list : (high low count : ℕ) (rest : List ℕ) → to_be_bytes w16 count ≡ high ∷ low ∷ [] → count < 2 ^ 16 → HasFewerNames count rest → HasNoNames (high ∷ low ∷ rest)
no_list high low count rest number fits few names more queues e =
    let sum : to_be_bytes w16 count ++ rest ≡ to_be_bytes w16 (length names) ++ (flat_map name_bytes names ++ more) =
    ap (λ (l : List ℕ). l ++ rest) number ∙ e ∙ append_assoc (to_be_bytes w16 (length names)) (flat_map name_bytes names) more in
    let sizes = one_size count (length names) rest (flat_map name_bytes names ++ more) fits (omega (arith, queues.few)) sum in
    few names more (sym sizes.0) queues.are_names sizes.1

-- names are there behind how many there are
pub names_there : (high low count : ℕ) (rest more : List ℕ) (names : List (List ℕ)) → to_be_bytes w16 count ≡ high ∷ low ∷ [] → length names ≡ count → rest ≡ flat_map name_bytes names ++ more → high ∷ low ∷ rest ≡ list_bytes names ++ more
names_there high low count rest more names number size is =
    ap (λ (l : List ℕ). l ++ rest) (sym number ∙ ap (to_be_bytes w16) (sym size)) ∙ ap (λ (l : List ℕ). to_be_bytes w16 (length names) ++ l) is
    ∙ sym (append_assoc (to_be_bytes w16 (length names)) (flat_map name_bytes names) more)

-- the bytes of a list of queues are two at least
pub two_at_least : (bytes rest : List ℕ) (names : List (List ℕ)) → bytes ≡ list_bytes names ++ rest → 2 ≤ length bytes
two_at_least bytes rest names is = omega (arith, ap length (is ∙ append_assoc (to_be_bytes w16 (length names)) (flat_map name_bytes names) rest), length-append (flat_map name_bytes names) rest)

-- names that are no list of queues are there, and so no list is
pub other_names : (bytes rest : List ℕ) (names : List (List ℕ)) → bytes ≡ list_bytes names ++ rest → length names < 2 ^ 16 → (AreQueues names → ⊥) → HasNoNames bytes
other_names bytes rest names is few none queues more good e =
    let whole : to_be_bytes w16 (length names) ++ (flat_map name_bytes names ++ rest) ≡ to_be_bytes w16 (length queues) ++ (flat_map name_bytes queues ++ more) =
    sym (append_assoc (to_be_bytes w16 (length names)) (flat_map name_bytes names) rest) ∙ sym is ∙ e ∙ append_assoc (to_be_bytes w16 (length queues)) (flat_map name_bytes queues) more in
    let sizes = one_size (length names) (length queues) (flat_map name_bytes names ++ rest) (flat_map name_bytes queues ++ more) few (omega (arith, good.few)) whole in
    let same = one_names names queues rest more sizes.0 sizes.1 in
    none (subst AreQueues (sym same.0) good)

-- so they are no list of queues for this cause
pub not_queues : (bytes rest : List ℕ) (names : List (List ℕ)) (fault : BaseFault) → bytes ≡ list_bytes names ++ rest → length names < 2 ^ 16 → (fault ≡ Memory) ⊎ ((fault ≡ WrongList) × (AreQueues names → ⊥))
    → (fault ≡ Memory) ⊎ IsListCause bytes fault
not_queues bytes rest names fault there few (inl memory) = inl memory
not_queues bytes rest names fault there few (inr (is, none)) = inr (subst (IsListCause bytes) (sym is) (two_at_least bytes rest names there, other_names bytes rest names there few none))

-- ---- headings

-- the site that is there is found there
pub site_found : (site : ℕ) (bytes rest : List ℕ) (fault : BaseFault) → bytes ≡ BASE_VERSION ∷ site ∷ rest → IsSiteCause site bytes fault → ⊥
site_found site bytes rest BadVersion is cause = cause (site ∷ rest) is
site_found site bytes rest Truncated is cause = let same : BASE_VERSION ∷ [] ≡ BASE_VERSION ∷ site ∷ rest = sym cause ∙ is in absurd (cc)
site_found site bytes rest WrongSite is (number, others, there, other) = other (let same : BASE_VERSION ∷ number ∷ others ≡ BASE_VERSION ∷ site ∷ rest = sym there ∙ is in cc)
site_found site bytes rest NoBase is cause = cause
site_found site bytes rest WrongList is cause = cause
site_found site bytes rest (Decode f) is cause = cause
site_found site bytes rest WrongFrame is cause = cause
site_found site bytes rest Trailing is cause = cause
site_found site bytes rest (Parts f) is cause = cause
site_found site bytes rest Memory is cause = cause

-- a row of another kind names none
pub no_kind_of_base : (row : Stored) → row.kind ≢ 1 → LacksHeading row NoBase
no_kind_of_base row other = record { cause = other; none = λ site names is. other is.front.kind }

-- a row names no site
pub names_no_site : (row : Stored) (fault : BaseFault) → row.kind ≡ 1 → IsNoSiteCause row.bytes fault → LacksHeading row fault
names_no_site row BadVersion kind cause = record {
  cause = record { kind = kind; other = cause };
  none = λ site names is. cause (site ∷ (list_bytes names ++ is.rest)) is.front.is;
}
names_no_site row Truncated kind cause = record {
  cause = inl (record { kind = kind; is = cause });
  none = λ site names is. let same : BASE_VERSION ∷ [] ≡ BASE_VERSION ∷ site ∷ (list_bytes names ++ is.rest) = sym cause ∙ is.front.is in absurd (cc);
}
names_no_site row WrongSite kind (number, rest, there, other) = record {
  cause = record { number = number; rest = rest; front = record { kind = kind; is = there }; none = other };
  none = λ site names is. other (subst IsSite (let same : BASE_VERSION ∷ number ∷ rest ≡ BASE_VERSION ∷ site ∷ (list_bytes names ++ is.rest) = sym there ∙ is.front.is in let at : site ≡ number = cc in at) is.of);
}
names_no_site row NoBase kind cause = absurd cause
names_no_site row WrongList kind cause = absurd cause
names_no_site row (Decode f) kind cause = absurd cause
names_no_site row WrongFrame kind cause = absurd cause
names_no_site row Trailing kind cause = absurd cause
names_no_site row (Parts f) kind cause = absurd cause
names_no_site row Memory kind cause = absurd cause

-- behind the site a row has no list of queues
no_list_in : (row : Stored) (site : ℕ) (rest : List ℕ) (fault : BaseFault) → IsVersioned row (site ∷ rest) → IsSite site → IsListCause rest fault → LacksHeading row fault
no_list_in row site rest Truncated front of cause = record {
  cause = inr (record { site = site; rest = rest; front = front; of = of; short = cause });
  none = λ other names is.
      let same : BASE_VERSION ∷ site ∷ rest ≡ BASE_VERSION ∷ other ∷ (list_bytes names ++ is.rest) = sym front.is ∙ is.front.is in
      let lists : rest ≡ list_bytes names ++ is.rest = cc in
      absurd (omega (arith, cause, two_at_least rest is.rest names lists));
}
no_list_in row site rest WrongList front of cause = record {
  cause = record { site = site; rest = rest; front = front; of = of; numbered = cause.0; none = cause.1 };
  none = λ other names is.
      let same : BASE_VERSION ∷ site ∷ rest ≡ BASE_VERSION ∷ other ∷ (list_bytes names ++ is.rest) = sym front.is ∙ is.front.is in
      let lists : rest ≡ list_bytes names ++ is.rest = cc in
      cause.1 names is.rest is.queues lists;
}
no_list_in row site rest NoBase front of cause = absurd cause
no_list_in row site rest BadVersion front of cause = absurd cause
no_list_in row site rest WrongSite front of cause = absurd cause
no_list_in row site rest (Decode f) front of cause = absurd cause
no_list_in row site rest WrongFrame front of cause = absurd cause
no_list_in row site rest Trailing front of cause = absurd cause
no_list_in row site rest (Parts f) front of cause = absurd cause
no_list_in row site rest Memory front of cause = absurd cause

pub names_no_list : (row : Stored) (site : ℕ) (rest : List ℕ) (fault : BaseFault) → IsVersioned row (site ∷ rest) → IsSite site → (fault ≡ Memory) ⊎ IsListCause rest fault → (fault ≡ Memory) ⊎ LacksHeading row fault
names_no_list row site rest fault front of (inl memory) = inl memory
names_no_list row site rest fault front of (inr cause) = inr (no_list_in row site rest fault front of cause)

-- ---- the result

-- why no heading is read
pub heading_cause : {T : Type 0} (row : Stored) (result : Result T BaseFault) → IfErr result (λ f. (f ≡ Memory) ⊎ LacksHeading row f) → IfErr result (λ f. (f ≡ Memory) ⊎ IsHeadingCause row f)
heading_cause row (Ok it) h = tt
heading_cause row (Err f) (inl memory) = inl memory
heading_cause row (Err f) (inr lacks) = inr lacks.cause

-- and that there is none
pub no_heading : {T : Type 0} (row : Stored) (result : Result T BaseFault) → IfErr result (λ f. (f ≡ Memory) ⊎ LacksHeading row f) → IfErr result (λ f. (f ≡ Memory) ⊎ HasNoHeading row)
no_heading row (Ok it) h = tt
no_heading row (Err f) (inl memory) = inl memory
no_heading row (Err f) (inr lacks) = inr lacks.none
