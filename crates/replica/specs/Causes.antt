-- What a change means, by its cause: the queues of the site, the rows of the members that it knows of, and the limits.
use Rattle.std.specs.Prelude.{ℕ, ◌≡◌, ◌⊎◌, true, false, List, Option, Some, None, IsSome}
use Rattle.std.specs.Option.{option_map}
use Rattle.dots.specs.declared.member.Member.{Member}
use Rattle.operations.specs.Knowledge.{Knowledge}
use Rattle.operations.specs.Operations.{Operation}
use Rattle.replica.specs.declared.refusal.Refusal.TheVariants.{NoSuchQueue, AlreadyThere, NotThere, MembersFull, Exhausted, TotalFull, Memory}
use Rattle.replica.specs.Changes.{Change, AddMember, RemoveMember, SetField, CountCall, Meaning, Refused, Makes, add_at, count_at, is_exhausted, is_full, is_past_total, is_too_long, remove_of, write_at}
use Rattle.replica.specs.Queues.{number_of}
use Rattle.replica.specs.Shows.{IsSetOn, member_at, row_in}
use Rattle.replica.specs.SiteViews.{SiteView, dots_seen, site_view}

-- ---- queues and members

-- the queue that a change names; `None` where it names none
abbrev pub queue_named : Change → Option (List ℕ)
queue_named (AddMember queue interface penalty paused label) = Some queue
queue_named (RemoveMember queue interface) = Some queue
queue_named (SetField queue interface setting) = queue
queue_named (CountCall queue calls) = Some queue

-- a change names a queue that isn't in the list
abbrev pub IsUnlisted : List (List ℕ) → Option (List ℕ) → Type 0
IsUnlisted names None = ⊥
IsUnlisted names (Some queue) = number_of names queue ≡ None

-- a member of this interface has a row, in the queue of this name, or in any where none is named
pub record IsThere (names : List (List ℕ)) (k : Knowledge) (queue : Option (List ℕ)) (interface : List ℕ) : Type 0 where
  pub member : Member
  pub is_of : IsSetOn names queue interface member
  pub row : IsSome (row_in k member)

-- the queue is in the list, where one is named, and no member of this interface has a row there, or in any queue where none is named
pub record IsNotThere (names : List (List ℕ)) (k : Knowledge) (queue : Option (List ℕ)) (interface : List ℕ) : Type 0 where
  pub listed : IsUnlisted names queue → ⊥
  pub none : IsThere names k queue interface → ⊥

-- an add of a member that has a row
abbrev pub IsAddedAgain : List (List ℕ) → Knowledge → Change → Type 0
IsAddedAgain names k (AddMember queue interface penalty paused label) = IsThere names k (Some queue) interface
IsAddedAgain names k (RemoveMember queue interface) = ⊥
IsAddedAgain names k (SetField queue interface setting) = ⊥
IsAddedAgain names k (CountCall queue calls) = ⊥

-- a remove or a setting for which no member has a row
abbrev pub IsForNone : List (List ℕ) → Knowledge → Change → Type 0
IsForNone names k (AddMember queue interface penalty paused label) = ⊥
IsForNone names k (RemoveMember queue interface) = IsNotThere names k (Some queue) interface
IsForNone names k (SetField queue interface setting) = IsNotThere names k queue interface
IsForNone names k (CountCall queue calls) = ⊥

-- ---- the operation that is asked for

-- the operation that a change asks for; `None` where it names a queue that isn't in the list
abbrev pub operation_asked : ℕ → List (List ℕ) → SiteView → Change → Option Operation
operation_asked site names r (AddMember queue interface penalty paused label) = option_map (λ q. add_at site r (member_at q interface) penalty paused label) (number_of names queue)
operation_asked site names r (RemoveMember queue interface) = option_map (λ q. remove_of (dots_seen r.dots (Some q) interface)) (number_of names queue)
operation_asked site names r (SetField None interface setting) = Some (write_at site r setting (dots_seen r.dots None interface))
operation_asked site names r (SetField (Some queue) interface setting) = option_map (λ q. write_at site r setting (dots_seen r.dots (Some q) interface)) (number_of names queue)
operation_asked site names r (CountCall queue calls) = option_map (λ q. count_at site r q calls) (number_of names queue)

-- a change asks for this operation, and is refused neither for its queue nor for its members
pub record IsAskedFor (site : ℕ) (names : List (List ℕ)) (k : Knowledge) (change : Change) (o : Operation) : Type 0 where
  pub asked : operation_asked site names (site_view site k) change ≡ Some o
  pub listed : IsUnlisted names (queue_named change) → ⊥
  pub not_again : IsAddedAgain names k change → ⊥
  pub for_some : IsForNone names k change → ⊥

-- ---- the limits

-- one operation more is too much: with what is known, with what is in the buffer, or by itself
abbrev pub IsTooMuch : SiteView → SiteView → Operation → Type 0
IsTooMuch r buffer o = (is_full r o ≡ true) ⊎ (is_full buffer o ≡ true) ⊎ (is_too_long o ≡ true)

-- a change asks for an operation that is too much
pub record AsksTooMuch (site : ℕ) (names : List (List ℕ)) (k buffer : Knowledge) (change : Change) : Type 0 where
  pub operation : Operation
  pub asked : IsAskedFor site names k change operation
  pub too_much : IsTooMuch (site_view site k) (site_view site buffer) operation

-- a change asks for an operation that isn't too much, and needs a count or a time past the greatest
pub record AsksLateNumber (site : ℕ) (names : List (List ℕ)) (k buffer : Knowledge) (change : Change) : Type 0 where
  pub operation : Operation
  pub asked : IsAskedFor site names k change operation
  pub fits : IsTooMuch (site_view site k) (site_view site buffer) operation → ⊥
  pub exhausted : is_exhausted operation ≡ true

-- a change asks for an operation that isn't too much, needs no count and no time past the greatest, and needs a total past the
-- greatest
pub record AsksGreatTotal (site : ℕ) (names : List (List ℕ)) (k buffer : Knowledge) (change : Change) : Type 0 where
  pub operation : Operation
  pub asked : IsAskedFor site names k change operation
  pub fits : IsTooMuch (site_view site k) (site_view site buffer) operation → ⊥
  pub numbers : is_exhausted operation ≡ false
  pub past_total : is_past_total operation ≡ true

-- a change asks for this operation, which isn't too much, and needs no count, no time and no total past the greatest
pub record IsFreeToMake (site : ℕ) (names : List (List ℕ)) (k buffer : Knowledge) (change : Change) (o : Operation) : Type 0 where
  pub asked : IsAskedFor site names k change o
  pub fits : IsTooMuch (site_view site k) (site_view site buffer) o → ⊥
  pub numbers : is_exhausted o ≡ false
  pub total : is_past_total o ≡ false

-- ---- all causes

-- the cause of each meaning of a change, a refusal or an operation, at a site of this knowledge and this buffer
abbrev pub IsCaused : ℕ → List (List ℕ) → Knowledge → Knowledge → Change → Meaning → Type 0
IsCaused site names k buffer change (Refused NoSuchQueue) = IsUnlisted names (queue_named change)
IsCaused site names k buffer change (Refused AlreadyThere) = IsAddedAgain names k change
IsCaused site names k buffer change (Refused NotThere) = IsForNone names k change
IsCaused site names k buffer change (Refused MembersFull) = AsksTooMuch site names k buffer change
IsCaused site names k buffer change (Refused Exhausted) = AsksLateNumber site names k buffer change
IsCaused site names k buffer change (Refused TotalFull) = AsksGreatTotal site names k buffer change
IsCaused site names k buffer change (Refused Memory) = ⊥
IsCaused site names k buffer change (Makes o) = IsFreeToMake site names k buffer change o
