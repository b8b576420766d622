-- What a change means has its cause, and no other meaning has one.
use Rattle.std.proofs.Common.{◌≡◌, ◌↔◌, inl, inr, ℕ, Bool, true, false, ◌||◌, List, [], ◌∷◌, Option, Some, None, is_some, if◌then◌else◌, refl, sym, ap, subst, ◌∙◌, true≢false}
use Rattle.std.specs.Option.{option_map}
use Rattle.std.proofs.lemmas.Bool.{false_from_ne_true}
use Rattle.dots.specs.declared.calls.Calls.{Calls}
use Rattle.dots.specs.declared.label.Label.{Label}
use Rattle.dots.specs.declared.member.Member.{Member}
use Rattle.dots.specs.Values.{Dot}
use Rattle.operations.specs.Knowledge.{Knowledge}
use Rattle.operations.specs.Operations.{Operation, Setting}
use Rattle.replica.specs.declared.refusal.Refusal.TheVariants.{NoSuchQueue, AlreadyThere, NotThere, MembersFull, Exhausted, TotalFull, Memory}
use Rattle.replica.specs.Causes.{IsAddedAgain, IsAskedFor, IsCaused, IsForNone, IsNotThere, IsThere, IsTooMuch, IsUnlisted, operation_asked, queue_named}
use Rattle.replica.specs.Changes.{Change, AddMember, RemoveMember, SetField, CountCall, Meaning, Refused, Makes, add_at, count_at, in_queue, is_exhausted, is_full, is_past_total, is_too_long, meaning, remove_of, where_absent, where_present, within_limits, write_at}
use Rattle.replica.specs.Queues.{number_of}
use Rattle.replica.specs.Shows.{IsSetOn, member_at}
use Rattle.replica.specs.SiteViews.{SiteView, dots_seen, site_view}
use Rattle.replica.proofs.Doing.{exhausted_means, full_means, makes_it, total_means}
use Rattle.replica.proofs.ShownSettings.{IsAt, from_number, none_seen, seen_there, to_number}

-- ---- causes that exclude each other

module _ (names : List (List ℕ)) (k : Knowledge) where
  -- a member that has a row is of a queue in the list
  there_listed : (queue : Option (List ℕ)) (interface : List ℕ) → IsThere names k queue interface → IsUnlisted names queue → ⊥
  there_listed None interface there unlisted = unlisted
  there_listed (Some queue) interface there unlisted = absurd (cc (there.is_of.0, unlisted))

  -- an add of a member that has a row is of a queue in the list
  again_listed : (change : Change) → IsAddedAgain names k change → IsUnlisted names (queue_named change) → ⊥
  again_listed (AddMember queue interface penalty paused label) again unlisted = there_listed (Some queue) interface again unlisted
  again_listed (RemoveMember queue interface) again unlisted = again
  again_listed (SetField queue interface setting) again unlisted = again
  again_listed (CountCall queue calls) again unlisted = again

  -- a remove or a setting for which no member has a row names no queue that isn't in the list
  none_listed : (change : Change) → IsForNone names k change → IsUnlisted names (queue_named change) → ⊥
  none_listed (AddMember queue interface penalty paused label) none unlisted = none
  none_listed (RemoveMember queue interface) none unlisted = none.listed unlisted
  none_listed (SetField queue interface setting) none unlisted = none.listed unlisted
  none_listed (CountCall queue calls) none unlisted = none

  -- an add is neither a remove nor a setting
  again_none : (change : Change) → IsAddedAgain names k change → IsForNone names k change → ⊥
  again_none (AddMember queue interface penalty paused label) again none = none
  again_none (RemoveMember queue interface) again none = again
  again_none (SetField queue interface setting) again none = again
  again_none (CountCall queue calls) again none = again

-- ---- the meaning of a change

-- a change is refused for its queue, or for its members, or the limits decide on the operation that it asks for
data DecidesAgreement (site : ℕ) (names : List (List ℕ)) (k buffer : Knowledge) (change : Change) (meant : Meaning) : Type 0 where
  Unlisted : meant ≡ Refused NoSuchQueue → IsUnlisted names (queue_named change) → DecidesAgreement site names k buffer change meant
  Again : meant ≡ Refused AlreadyThere → IsAddedAgain names k change → DecidesAgreement site names k buffer change meant
  ForNone : meant ≡ Refused NotThere → IsForNone names k change → DecidesAgreement site names k buffer change meant
  Asked : (o : Operation) → IsAskedFor site names k change o → meant ≡ within_limits (site_view site k) (site_view site buffer) o → DecidesAgreement site names k buffer change meant

module _ (site : ℕ) (names : List (List ℕ)) (k buffer : Knowledge) where
  -- what is read of the knowledge
  abbrev r : SiteView
  r = site_view site k

  -- what is read of the buffer
  abbrev b : SiteView
  b = site_view site buffer

  -- the members of an interface at a place, which is that of the queue
  module _ (queue : Option (List ℕ)) (place : Option ℕ) (interface : List ℕ) (to : (member : Member) → IsSetOn names queue interface member → IsAt place interface member)
      (from : (member : Member) → IsAt place interface member → IsSetOn names queue interface member) where
    -- where no dot is seen no member is there
    none_there : dots_seen r.dots place interface ≡ [] → IsThere names k queue interface → ⊥
    none_there none there = true≢false (sym there.row ∙ ap is_some (none_seen k place interface none there.member (to there.member there.is_of)))

    -- if a dot is seen, a member is there
    one_there : (p : Dot × Member) (ps : List (Dot × Member)) → dots_seen r.dots place interface ≡ p ∷ ps → IsThere names k queue interface
    one_there p ps some = let t = seen_there k place interface p ps some in record { member = t.0; is_of = from t.0 t.1; row = t.2 }

    -- what is seen decides on a remove and on a setting
    reported_present : (change : Change) (o : Operation) → operation_asked site names r change ≡ Some o → (IsUnlisted names (queue_named change) → ⊥) → (IsUnlisted names queue → ⊥)
        → (IsAddedAgain names k change → ⊥) → (IsNotThere names k queue interface → IsForNone names k change) → (IsForNone names k change → IsNotThere names k queue interface)
        → DecidesAgreement site names k buffer change (where_present (dots_seen r.dots place interface) (within_limits r b o))
    reported_present change o asked listed known not_again none some = by (dots_seen r.dots place interface) refl
      where
        by : (ps : List (Dot × Member)) → dots_seen r.dots place interface ≡ ps → DecidesAgreement site names k buffer change (where_present ps (within_limits r b o))
        by [] e = ForNone refl (none (record { listed = known; none = none_there e }))
        by (p ∷ ps) e = Asked o (record { asked = asked; listed = listed; not_again = not_again; for_some = λ h. (some h).none (one_there p ps e) }) refl

  -- a queue of this number is in the list
  listed_at : (queue : List ℕ) (q : ℕ) → number_of names queue ≡ Some q → IsUnlisted names (Some queue) → ⊥
  listed_at queue q e unlisted = absurd (cc (e, unlisted))

  -- an add, in the queue of a number
  module _ (queue interface : List ℕ) (penalty : ℕ) (paused : Bool) (label : Label) where
    abbrev added : ℕ → Operation
    added q = add_at site r (member_at q interface) penalty paused label

    -- what is seen decides on an add
    reported_absent : (q : ℕ) → number_of names queue ≡ Some q → (ps : List (Dot × Member)) → dots_seen r.dots (Some q) interface ≡ ps
        → DecidesAgreement site names k buffer (AddMember queue interface penalty paused label) (where_absent ps (within_limits r b (added q)))
    reported_absent q e [] none = Asked (added q) (record {
      asked = ap (option_map added) e;
      listed = listed_at queue q e;
      not_again = none_there (Some queue) (Some q) interface (to_number names queue q interface e) (from_number names queue q interface e) none;
      for_some = λ h. h;
    }) refl
    reported_absent q e (p ∷ ps) some = Again refl (one_there (Some queue) (Some q) interface (to_number names queue q interface e) (from_number names queue q interface e) p ps some)

    -- the meaning of an add
    reported_add : DecidesAgreement site names k buffer (AddMember queue interface penalty paused label) (meaning site names r b (AddMember queue interface penalty paused label))
    reported_add = by (number_of names queue) refl
      where
        by : (x : Option ℕ) → number_of names queue ≡ x
            → DecidesAgreement site names k buffer (AddMember queue interface penalty paused label) (in_queue x (λ q. where_absent (dots_seen r.dots (Some q) interface) (within_limits r b (added q))))
        by None e = Unlisted refl e
        by (Some q) e = reported_absent q e (dots_seen r.dots (Some q) interface) refl

  -- a remove, in the queue of a number
  module _ (queue interface : List ℕ) where
    abbrev removed : ℕ → Operation
    removed q = remove_of (dots_seen r.dots (Some q) interface)

    -- the meaning of a remove
    reported_remove : DecidesAgreement site names k buffer (RemoveMember queue interface) (meaning site names r b (RemoveMember queue interface))
    reported_remove = by (number_of names queue) refl
      where
        by : (x : Option ℕ) → number_of names queue ≡ x
            → DecidesAgreement site names k buffer (RemoveMember queue interface) (in_queue x (λ q. where_present (dots_seen r.dots (Some q) interface) (within_limits r b (removed q))))
        by None e = Unlisted refl e
        by (Some q) e =
            reported_present (Some queue) (Some q) interface (to_number names queue q interface e) (from_number names queue q interface e) (RemoveMember queue interface) (removed q)
            (ap (option_map removed) e) (listed_at queue q e) (listed_at queue q e) (λ h. h) (λ h. h) (λ h. h)

  -- a setting, in the queue of a number
  module _ (queue interface : List ℕ) (setting : Setting) where
    abbrev written : ℕ → Operation
    written q = write_at site r setting (dots_seen r.dots (Some q) interface)

    -- the meaning of a setting in one queue
    reported_set : DecidesAgreement site names k buffer (SetField (Some queue) interface setting) (meaning site names r b (SetField (Some queue) interface setting))
    reported_set = by (number_of names queue) refl
      where
        by : (x : Option ℕ) → number_of names queue ≡ x
            → DecidesAgreement site names k buffer (SetField (Some queue) interface setting) (in_queue x (λ q. where_present (dots_seen r.dots (Some q) interface) (within_limits r b (written q))))
        by None e = Unlisted refl e
        by (Some q) e =
            reported_present (Some queue) (Some q) interface (to_number names queue q interface e) (from_number names queue q interface e) (SetField (Some queue) interface setting) (written q)
            (ap (option_map written) e) (listed_at queue q e) (listed_at queue q e) (λ h. h) (λ h. h) (λ h. h)

  -- a count of a call, in the queue of a number
  module _ (queue : List ℕ) (calls : Calls) where
    abbrev counted : ℕ → Operation
    counted q = count_at site r q calls

    -- the meaning of a call
    reported_count : DecidesAgreement site names k buffer (CountCall queue calls) (meaning site names r b (CountCall queue calls))
    reported_count = by (number_of names queue) refl
      where
        by : (x : Option ℕ) → number_of names queue ≡ x → DecidesAgreement site names k buffer (CountCall queue calls) (in_queue x (λ q. within_limits r b (counted q)))
        by None e = Unlisted refl e
        by (Some q) e = Asked (counted q) (record { asked = ap (option_map counted) e; listed = listed_at queue q e; not_again = λ h. h; for_some = λ h. h }) refl

  -- the meaning of each change
  reported : (change : Change) → DecidesAgreement site names k buffer change (meaning site names r b change)
  reported (AddMember queue interface penalty paused label) = reported_add queue interface penalty paused label
  reported (RemoveMember queue interface) = reported_remove queue interface
  reported (SetField None interface setting) =
      reported_present None None interface (λ member is. is) (λ member at. at) (SetField None interface setting) (write_at site r setting (dots_seen r.dots None interface)) refl (λ h. h) (λ h. h) (λ h. h)
      (λ h. h) (λ h. h)
  reported (SetField (Some queue) interface setting) = reported_set queue interface setting
  reported (CountCall queue calls) = reported_count queue calls

  -- ---- the limits

  -- what fits passes each test
  fits_known : (o : Operation) → (IsTooMuch r b o → ⊥) → is_full r o ≡ false
  fits_known o fits = false_from_ne_true (is_full r o) (λ h. fits (inl h))

  fits_buffer : (o : Operation) → (IsTooMuch r b o → ⊥) → is_full b o ≡ false
  fits_buffer o fits = false_from_ne_true (is_full b o) (λ h. fits (inr (inl h)))

  fits_alone : (o : Operation) → (IsTooMuch r b o → ⊥) → is_too_long o ≡ false
  fits_alone o fits = false_from_ne_true (is_too_long o) (λ h. fits (inr (inr h)))

  -- an operation that passes each test fits
  fits_all : (o : Operation) → is_full r o ≡ false → is_full b o ≡ false → is_too_long o ≡ false → IsTooMuch r b o → ⊥
  fits_all o p q l (inl h) = true≢false (sym h ∙ p)
  fits_all o p q l (inr (inl h)) = true≢false (sym h ∙ q)
  fits_all o p q l (inr (inr h)) = true≢false (sym h ∙ l)

  module _ (change : Change) where
    -- what the limits decide on has its cause
    limits_caused : (o : Operation) → IsAskedFor site names k change o → IsCaused site names k buffer change (within_limits r b o)
    limits_caused o asked = by (is_full r o) (is_full b o) (is_too_long o) (is_exhausted o) (is_past_total o) refl refl refl refl refl
      where
        by : (f g l e t : Bool) → is_full r o ≡ f → is_full b o ≡ g → is_too_long o ≡ l → is_exhausted o ≡ e → is_past_total o ≡ t
            → IsCaused site names k buffer change (if f || (g || l) then Refused MembersFull else if e then Refused Exhausted else if t then Refused TotalFull else Makes o)
        by true g l e t p q m n u = record { operation = o; asked = asked; too_much = inl p }
        by false true l e t p q m n u = record { operation = o; asked = asked; too_much = inr (inl q) }
        by false false true e t p q m n u = record { operation = o; asked = asked; too_much = inr (inr m) }
        by false false false true t p q m n u = record { operation = o; asked = asked; fits = fits_all o p q m; exhausted = n }
        by false false false false true p q m n u = record { operation = o; asked = asked; fits = fits_all o p q m; numbers = n; past_total = u }
        by false false false false false p q m n u = record { asked = asked; fits = fits_all o p q m; numbers = n; total = u }

    -- the meaning of a change has its cause
    reported_caused : (meant : Meaning) → DecidesAgreement site names k buffer change meant → IsCaused site names k buffer change meant
    reported_caused meant (Unlisted e unlisted) = subst (IsCaused site names k buffer change) (sym e) unlisted
    reported_caused meant (Again e again) = subst (IsCaused site names k buffer change) (sym e) again
    reported_caused meant (ForNone e none) = subst (IsCaused site names k buffer change) (sym e) none
    reported_caused meant (Asked o asked e) = subst (IsCaused site names k buffer change) (sym e) (limits_caused o asked)

    module _ (meant : Meaning) where
      -- where an operation is asked for the limits decide
      asked_reported : (o : Operation) → IsAskedFor site names k change o → DecidesAgreement site names k buffer change meant → meant ≡ within_limits r b o
      asked_reported o asked (Unlisted e unlisted) = absurd (asked.listed unlisted)
      asked_reported o asked (Again e again) = absurd (asked.not_again again)
      asked_reported o asked (ForNone e none) = absurd (asked.for_some none)
      asked_reported o asked (Asked p also e) = e ∙ ap (within_limits r b) (one (sym also.asked ∙ asked.asked))
        where
          one : Some p ≡ Some o → p ≡ o
          one h = cc

      -- what has the cause of a meaning is the meaning of the change
      caused_reported : (other : Meaning) → DecidesAgreement site names k buffer change meant → IsCaused site names k buffer change other → meant ≡ other
      caused_reported (Refused NoSuchQueue) (Unlisted e unlisted) h = e
      caused_reported (Refused NoSuchQueue) (Again e again) h = absurd (again_listed names k change again h)
      caused_reported (Refused NoSuchQueue) (ForNone e none) h = absurd (none_listed names k change none h)
      caused_reported (Refused NoSuchQueue) (Asked o asked e) h = absurd (asked.listed h)
      caused_reported (Refused AlreadyThere) (Unlisted e unlisted) h = absurd (again_listed names k change h unlisted)
      caused_reported (Refused AlreadyThere) (Again e again) h = e
      caused_reported (Refused AlreadyThere) (ForNone e none) h = absurd (again_none names k change h none)
      caused_reported (Refused AlreadyThere) (Asked o asked e) h = absurd (asked.not_again h)
      caused_reported (Refused NotThere) (Unlisted e unlisted) h = absurd (none_listed names k change h unlisted)
      caused_reported (Refused NotThere) (Again e again) h = absurd (again_none names k change again h)
      caused_reported (Refused NotThere) (ForNone e none) h = e
      caused_reported (Refused NotThere) (Asked o asked e) h = absurd (asked.for_some h)
      caused_reported (Refused MembersFull) is h = asked_reported h.operation h.asked is ∙ full_means r b h.operation h.too_much
      caused_reported (Refused Exhausted) is h =
          let o = h.operation in asked_reported o h.asked is ∙ exhausted_means r b o (fits_known o h.fits) (fits_buffer o h.fits) (fits_alone o h.fits) h.exhausted
      caused_reported (Refused TotalFull) is h =
          let o = h.operation in asked_reported o h.asked is ∙ total_means r b o (fits_known o h.fits) (fits_buffer o h.fits) (fits_alone o h.fits) h.numbers h.past_total
      caused_reported (Refused Memory) is h = absurd h
      caused_reported (Makes o) is h = asked_reported o h.asked is ∙ makes_it r b o (fits_known o h.fits) (fits_buffer o h.fits) (fits_alone o h.fits) h.numbers h.total

  -- a change means just what has its cause
  pub means_caused : (change : Change) (meant : Meaning) → (meaning site names r b change ≡ meant) ↔ IsCaused site names k buffer change meant
  means_caused change meant = (
    λ e. subst (IsCaused site names k buffer change) e (reported_caused change (meaning site names r b change) (reported change)),
    λ h. caused_reported change (meaning site names r b change) meant (reported change) h,
  )
