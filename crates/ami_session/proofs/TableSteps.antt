-- What the fields of a message are read as, and which of them the table of actions names first.
use Rattle.std.proofs.Common.{◌≡◌, ℕ, Bool, true, false, cond, not, nat_lt, List, [], ◌∷◌, length, Option, Some, None, codes, is_none, is_some, unwrap_or, refl, sym, ap, true≢false}
use Rattle.std.specs.Char.{is_ascii_digit}
use Rattle.std.specs.List.{list_all, list_any}
use Rattle.std.specs.Option.{option_and_then, option_map}
use Rattle.dots.specs.declared.limits.TheConstants.{MOST_PENALTY, TEXT_BYTES}
use Rattle.dots.specs.Values.{is_bad_byte}
use Rattle.ami_session.specs.Actions.{FieldRow, Name, Text, Number, YesOrNo, is_unread}
use Rattle.ami_text.specs.Numbers.{number_in, number_of}
use Rattle.ami_session.specs.FieldValues.{as_penalty, name_of, penalty_of, text_of}

-- a field that doesn't pass is passed over, and one that does is found
pub skip : (b : Bool) (x y : Option FieldRow) → b ≡ false → cond b x y ≡ y
skip true x y h = absurd (true≢false h)
skip false x y h = refl

pub hit : (b : Bool) (x y : Option FieldRow) → b ≡ true → cond b x y ≡ x
hit true x y h = refl
hit false x y h = absurd (true≢false (sym h))

-- the first of two required fields is there where none is named as absent, and so is the second
pub both_there : (a b : Bool) (x y : FieldRow) → option_map (λ f. f.name) (cond a (Some x) (cond b (Some y) None)) ≡ None → (a ≡ false) × (b ≡ false)
both_there true b x y h = absurd (true≢false (ap is_some h))
both_there false true x y h = absurd (true≢false (ap is_some h))
both_there false false x y h = (refl, refl)

unread_by : {T : Type 0} (o : Option T) → o ≡ None → not (is_some o) ≡ true
unread_by o h = ap (λ x. not (is_some x)) h

read_by : {T : Type 0} (o : Option T) (x : T) → o ≡ Some x → not (is_some o) ≡ false
read_by o x h = ap (λ x. not (is_some x)) h

-- a required name
pub name_unread : (value : Option (List ℕ)) → is_none value ≡ false → name_of (unwrap_or value []) ≡ None → is_unread Name value ≡ true
name_unread None there h = absurd (true≢false there)
name_unread (Some value) there h = unread_by (name_of value) h

pub name_read : (value : Option (List ℕ)) (x : List ℕ) → name_of (unwrap_or value []) ≡ Some x → is_unread Name value ≡ false
name_read None x h = refl
name_read (Some value) x h = read_by (name_of value) x h

-- a text
pub text_unread : (value : Option (List ℕ)) → text_of (unwrap_or value []) ≡ None → is_unread Text value ≡ true
text_unread None h = absurd (true≢false (ap is_some h))
text_unread (Some value) h = unread_by (text_of value) h

pub text_read : (value : Option (List ℕ)) (x : List ℕ) → text_of (unwrap_or value []) ≡ Some x → is_unread Text value ≡ false
text_read None x h = refl
text_read (Some value) x h = read_by (text_of value) x h

-- a penalty
pub penalty_unread : (value : Option (List ℕ)) → penalty_of (unwrap_or value (codes "0")) ≡ None → is_unread Number value ≡ true
penalty_unread None h = absurd (true≢false (ap is_some h))
penalty_unread (Some value) h = unread_by (penalty_of value) h

pub penalty_read : (value : Option (List ℕ)) (n : ℕ) → penalty_of (unwrap_or value (codes "0")) ≡ Some n → is_unread Number value ≡ false
penalty_read None n h = refl
penalty_read (Some value) n h = read_by (penalty_of value) n h

-- yes or no is always read
pub always_read : (value : Option (List ℕ)) → is_unread YesOrNo value ≡ false
always_read None = refl
always_read (Some value) = refl

-- what is read of a value is the value
some_by : (b : Bool) (T : Type 0) (x y : T) → cond b None (Some x) ≡ Some y → y ≡ x
some_by true T x y h = absurd (true≢false (sym (ap is_some h)))
some_by false T x y h = ap (λ o. unwrap_or o y) (sym h)

none_by : (b : Bool) (T : Type 0) (o : Option T) (y : T) → cond b None o ≡ Some y → o ≡ Some y
none_by true T o y h = absurd (true≢false (sym (ap is_some h)))
none_by false T o y h = h

pub text_is : (value x : List ℕ) → text_of value ≡ Some x → x ≡ value
text_is value x h =
    some_by (list_any is_bad_byte value) (List ℕ) value x
    (none_by (nat_lt TEXT_BYTES (length value)) (List ℕ) (cond (list_any is_bad_byte value) None (Some value)) x h)

pub name_is : (value x : List ℕ) → name_of value ≡ Some x → x ≡ value
name_is [] x h = absurd (true≢false (sym (ap is_some h)))
name_is (b ∷ bs) x h = text_is (b ∷ bs) x h

number_is : (most : ℕ) (digits : List ℕ) (n : ℕ) → number_in most digits ≡ Some n → n ≡ number_of digits
number_is most [] n h = absurd (true≢false (sym (ap is_some h)))
number_is most (d ∷ ds) n h =
    let digits = not (list_all is_ascii_digit (d ∷ ds)) in
    some_by digits ℕ (number_of (d ∷ ds)) n (none_by (nat_lt most (length (d ∷ ds))) ℕ (cond digits None (Some (number_of (d ∷ ds)))) n h)

within : (o : Option ℕ) (n : ℕ) → option_and_then as_penalty o ≡ Some n → o ≡ Some n
within None n h = absurd (true≢false (sym (ap is_some h)))
within (Some m) n h = ap Some (sym (some_by (nat_lt MOST_PENALTY m) ℕ m n h))

pub penalty_is : (digits : List ℕ) (n : ℕ) → penalty_of digits ≡ Some n → n ≡ number_of digits
penalty_is digits n h = number_is 10 digits n (within (number_in 10 digits) n h)
