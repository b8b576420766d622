-- How a session goes on, message by message.
use Rattle.std.proofs.Common.{◌≡◌, ◌≢◌, ◌≤◌, ⊎_elim, inl, inr, ℕ, ◌+◌, ◌*◌, Bool, true, false, List, [], ◌∷◌, ◌++◌, refl, sym, ◌∙◌, ap, subst, arith, append_assoc, append-nil, length, length-append, Option, Ok, Err, Some, None}
use Rattle.std.proofs.lemmas.List.{append_cancel_left}
use Rattle.std.proofs.lemmas.List.Elements.{All-nil}
use Rattle.std.specs.Io.KnownBytes.{Appends}
use Rattle.ami_text.proofs.Taking.{given_grows, given_none, taken_grows}
use Rattle.ami_text.specs.Devices.{HasEnded, HasGiven, HasGivenUpTo, HasTaken}
use Rattle.ami_text.specs.Lines.{IsFullLine}
use Rattle.ami_text.specs.Stream.{Ending, Gives, IsRest, Reads, Rest}
use Rattle.status_report.specs.declared.asks.Answer.{Answer}
use Rattle.status_report.specs.declared.asks.Ask.{Ask}
use Rattle.ami_session.specs.Checks.{SessionState, after as session_after, reaction}
use Rattle.ami_session.specs.FieldValues.{Fields}
use Rattle.ami_session.specs.Text.{after_all, greeting, is_end, is_over}
use Rattle.serve.specs.declared.serve_fault.ServeFault.{ServeFault}
use Rattle.serve.specs.declared.serve_fault.ServeFault.TheVariants.{Read, Write, LineTooLong, TooManyFields, DeskDown, Turns, Memory}
use Rattle.serve.specs.Sessions.{AreAnswered, HasCarried, EndsInPiece, HasText, IsSessionBegun, IsLeftBy, IsRefused, IsServed, IsUnfinished}
use Rattle.serve.specs.Steps.{BreaksOff, HasAnswered, HasWrittenFront, HasCome, HasSaid, IsDown, StandsFirst, IsUnsaid, IsWanted, WantsPiece}
use Rattle.serve.proofs.Coming.{LaterFollows, MoreStays}
use Rattle.serve.proofs.TextSteps.{after_one, over_one, text_one}

-- the stream of two pieces has the messages of the one, and then those of what that leaves and the other
abbrev pub PiecesJoin : Type 0
PiecesJoin = (first second held : List ℕ) (messages more : List Fields) (ending : Ending) → Gives first messages held → Reads (held ++ second) more ending → Reads (first ++ second) (messages ++ more) ending

-- a session that has come so far: the messages of the bytes are answered, none of them ends it, and this is held behind them
pub record Going {D : Type 0} (Answers : D → Ask → Answer → D → Type 0) (s : SessionState) (d e : D) (now : SessionState) (held : List ℕ) (reads : ℕ) (bytes text : List ℕ) : Type 0 where
  pub messages : List Fields
  pub gives : Gives bytes messages held
  pub goes_on : is_over s messages ≡ false
  pub is_now : now ≡ after_all s messages
  pub has_text : HasText Answers s d e messages text
  pub many : 1000000 ≤ reads + length bytes
  pub few : length bytes + 1024 * reads ≤ 1024000000
  pub in_piece : EndsInPiece messages bytes

-- no bytes are no message
none_rest : IsRest []
none_rest = record {
  lines = [];
  part = [];
  each_full = All-nil IsFullLine;
  within = omega arith;
  no_lf = All-nil (λ b. b ≢ 10);
  fits = omega arith;
  whole = refl;
}

-- no piece came yet
no_piece : Gives [] [] [] → EndsInPiece [] []
no_piece none = record { before = []; piece = []; is = refl; short = omega arith; earlier = []; later = []; are = refl; rest = []; reads = (none, none_rest) }

-- a piece that came was wanted
piece_wanted : (first piece held : List ℕ) (messages : List Fields) → PiecesJoin → Gives first messages held
    → EndsInPiece messages first → IsWanted held (held ++ piece) → EndsInPiece messages (first ++ piece)
piece_wanted first piece held messages join gives last wanted = ⊎_elim
    (λ (none : held ++ piece ≡ held). subst (λ t. EndsInPiece messages t)
    (sym (ap (λ t. first ++ t) (append_cancel_left held piece [] (none ∙ sym (append-nil held))) ∙ append-nil first)) last)
    (λ (x : WantsPiece held (held ++ piece)). record {
      before = first ++ x.before;
      piece = x.piece;
      is = ap (λ t. first ++ t) (append_cancel_left held piece (x.before ++ x.piece) (x.is ∙ append_assoc held x.before x.piece)) ∙ sym (append_assoc first x.before x.piece);
      short = x.short;
      earlier = messages ++ [];
      later = [];
      are = sym (append-nil messages) ∙ sym (append-nil (messages ++ []));
      rest = x.rest;
      reads = join first x.before held messages [] (Rest x.rest) gives x.reads;
    })
    wanted

-- one message more is answered, and no piece came
piece_stays : (messages : List Fields) (message : Fields) (bytes : List ℕ) → EndsInPiece messages bytes → EndsInPiece (messages ++ message ∷ []) bytes
piece_stays messages message bytes x = record {
  before = x.before;
  piece = x.piece;
  is = x.is;
  short = x.short;
  earlier = x.earlier;
  later = x.later ++ message ∷ [];
  are = ap (λ t. t ++ message ∷ []) x.are ∙ append_assoc x.earlier x.later (message ∷ []);
  rest = x.rest;
  reads = x.reads;
}

-- nothing is answered yet
greeted : {D : Type 0} (Answers : D → Ask → Answer → D → Type 0) (s : SessionState) (d : D) → HasText Answers s d d [] (greeting s)
greeted Answers s d = record { answers = []; run = refl; is = sym (append-nil (greeting s)) }

-- the session's text begins with the greeting
pub going_start : {D : Type 0} (Answers : D → Ask → Answer → D → Type 0) (s : SessionState) (d : D) (given old new : Option (List ℕ)) (held : List ℕ) (reads : ℕ) → ((bytes : List ℕ) → Gives bytes [] bytes)
    → held ≡ [] → reads ≡ 1000000 → Appends old new (greeting s) → HasCarried given given old new (Going Answers s d d s held reads)
going_start Answers s d given old new held reads none is_held is_reads taken = record {
  bytes = [];
  text = greeting s;
  given = given_none given;
  taken = taken;
  holds = record {
    messages = [];
    gives = subst (λ t. Gives [] [] t) (sym is_held) (none []);
    goes_on = refl;
    is_now = refl;
    has_text = greeted Answers s d;
    many = omega (arith, is_reads);
    few = omega (arith, is_reads);
    in_piece = no_piece (none []);
  };
}

-- the greeting may break off
greeting_begun : {D : Type 0} (Answers : D → Ask → Answer → D → Type 0) (s : SessionState) (d : D) (given old new : Option (List ℕ)) → ((bytes : List ℕ) → Gives bytes [] bytes)
    → HasTaken old new (greeting s) → HasCarried given given old new (IsSessionBegun Answers s d d)
greeting_begun Answers s d given old new none taken = record {
  bytes = [];
  text = taken.front;
  given = given_none given;
  taken = taken.taken;
  holds = record {
    messages = [];
    rest = [];
    gives = none [];
    more = taken.rest;
    has_text = subst (λ t. HasText Answers s d d [] t) taken.is (greeted Answers s d);
    ends = inl (refl, refl);
  };
}

pub greeting_breaks : {D : Type 0} (Answers : D → Ask → Answer → D → Type 0) (Refuses : D → Ask → D → Type 0) (fault : ServeFault) (s : SessionState) (d : D) (given old new : Option (List ℕ))
    → ((bytes : List ℕ) → Gives bytes [] bytes) → fault ≡ Write → HasTaken old new (greeting s) → HasCarried given given old new (IsLeftBy Answers Refuses s d d fault)
greeting_breaks Answers Refuses fault s d given old new none is taken =
    subst (λ f. HasCarried given given old new (IsLeftBy Answers Refuses s d d f)) (sym is) (greeting_begun Answers s d given old new none taken)

-- what was read and written, and what holds of it
carries_so : (given given_new old new : Option (List ℕ)) (H K : List ℕ → List ℕ → Type 0) → ((bytes text : List ℕ) → H bytes text → K bytes text)
    → HasCarried given given_new old new H → HasCarried given given_new old new K
carries_so given given_new old new H K so c = record { bytes = c.bytes; text = c.text; given = c.given; taken = c.taken; holds = so c.bytes c.text c.holds }

-- bytes of which one part was served, and this holds of what was held behind it and the other part
record ReadOn (held : List ℕ) (reads left : ℕ) (H : List ℕ → List ℕ → Type 0) (K : List ℕ → Type 0) (bytes text : List ℕ) : Type 0 where
  pub first : List ℕ
  pub piece : List ℕ
  pub is : bytes ≡ first ++ piece
  pub before : H first text
  pub more : K (held ++ piece)
  pub many : reads ≤ left + length piece
  pub few : length piece + 1024 * left ≤ 1024 * reads

reads_on : (given now after old new : Option (List ℕ)) (held : List ℕ) (reads left : ℕ) (H : List ℕ → List ℕ → Type 0) (K : List ℕ → Type 0)
    → HasCarried given now old new H → HasCome now after held reads left K → HasCarried given after old new (ReadOn held reads left H K)
reads_on given now after old new held reads left H K c come = record {
  bytes = c.bytes ++ come.bytes;
  text = c.text;
  given = given_grows given now after c.bytes come.bytes c.given come.given;
  taken = c.taken;
  holds = record { first = c.bytes; piece = come.bytes; is = refl; before = c.holds; more = come.holds; many = come.many; few = come.few };
}

-- a piece was needed after bytes in which there is no message
rest_wanted : (held piece rest : List ℕ) → Reads (held ++ piece) [] (Rest rest) → IsWanted held (held ++ piece)
rest_wanted held piece rest reads = inr (record { before = piece; piece = []; is = sym (append-nil (held ++ piece)); short = omega arith; rest = rest; reads = reads })

-- the stream has no further message, and an ending
ended_by : {D : Type 0} (Answers : D → Ask → Answer → D → Type 0) (s now : SessionState) (d e : D) (held : List ℕ) (reads left : ℕ) (K : List ℕ → Type 0) (bytes text : List ℕ) (ending : Ending)
    → PiecesJoin → ((piece : List ℕ) → K (held ++ piece) → Reads (held ++ piece) [] ending × IsWanted held (held ++ piece))
    → ReadOn held reads left (Going Answers s d e now held reads) K bytes text → AreAnswered Answers s d e ending bytes text
ended_by Answers s now d e held reads left K bytes text ending join so x =
    let going = x.before in
    let came = so x.piece x.more in
    let all = join x.first x.piece held going.messages [] ending going.gives came.0 in
    record {
      messages = going.messages;
      reads = subst (λ ms. Reads bytes ms ending) (append-nil going.messages) (subst (λ t. Reads t (going.messages ++ []) ending) (sym x.is) all);
      goes_on = going.goes_on;
      has_text = going.has_text;
      in_piece = subst (λ t. EndsInPiece going.messages t) (sym x.is) (piece_wanted x.first x.piece held going.messages join going.gives going.in_piece came.1);
    }

-- the stream has no further message, and is whole
ended_whole : {D : Type 0} (Answers : D → Ask → Answer → D → Type 0) (s now : SessionState) (d e : D) (held rest : List ℕ) (reads left : ℕ) (bytes text : List ℕ) → PiecesJoin
    → ReadOn held reads left (Going Answers s d e now held reads) (λ stream. Reads stream [] (Rest rest)) bytes text → AreAnswered Answers s d e (Rest rest) bytes text
ended_whole Answers s now d e held rest reads left bytes text join x =
    ended_by Answers s now d e held reads left (λ stream. Reads stream [] (Rest rest)) bytes text (Rest rest) join (λ piece more. (more, rest_wanted held piece rest more)) x

-- there is no memory for more of it
unfinished : {D : Type 0} (Answers : D → Ask → Answer → D → Type 0) (s now : SessionState) (d e : D) (held : List ℕ) (reads left : ℕ) (bytes text : List ℕ)
    → PiecesJoin → MoreStays → ReadOn held reads left (Going Answers s d e now held reads) (IsWanted held) bytes text → IsUnfinished Answers s d e bytes text
unfinished Answers s now d e held reads left bytes text join stays x =
    let going = x.before in
    record {
      messages = going.messages;
      rest = held ++ x.piece;
      gives = subst (λ t. Gives t going.messages (held ++ x.piece)) (sym x.is) (stays x.first x.piece held going.messages going.gives);
      in_piece = subst (λ t. EndsInPiece going.messages t) (sym x.is) (piece_wanted x.first x.piece held going.messages join going.gives going.in_piece x.more);
      goes_on = going.goes_on;
      left = e;
      has_text = going.has_text;
      desk = inl refl;
    }

-- the reader has ended
pub served_at_end : {D : Type 0} (Answers : D → Ask → Answer → D → Type 0) (s now : SessionState) (d e : D) (given before after old new : Option (List ℕ)) (held rest : List ℕ)
    (reads left : ℕ) (ended : Bool) → PiecesJoin → HasEnded ended after
    → HasCarried given before old new (Going Answers s d e now held reads) → HasCome before after held reads left (StandsFirst (Ok None) held rest)
    → HasCarried given after old new (IsServed Answers s d e ended after)
served_at_end Answers s now d e given before after old new held rest reads left ended join is c come =
    carries_so given after old new _ _
    (λ bytes text x.
    let all = ended_whole Answers s now d e held rest reads left bytes text join x in
    record { messages = all.messages; rest = rest; gives = all.reads.0; has_text = all.has_text; at_end = inr (all.reads.1, is) })
    (reads_on given before after old new held reads left _ _ c come)

-- reading broke off
pub reading_breaks : {D : Type 0} (Answers : D → Ask → Answer → D → Type 0) (Refuses : D → Ask → D → Type 0) (fault : ServeFault) (s now : SessionState) (d e : D)
    (given before after old new : Option (List ℕ)) (held rest : List ℕ) (reads left : ℕ) → PiecesJoin → MoreStays
    → HasCarried given before old new (Going Answers s d e now held reads) → HasCome before after held reads left (StandsFirst (Err fault) held rest)
    → HasCarried given after old new (IsLeftBy Answers Refuses s d e fault)
reading_breaks Answers Refuses Read s now d e given before after old new held rest reads left join stays c come =
    carries_so given after old new _ _ (λ bytes text x. (rest, ended_whole Answers s now d e held rest reads left bytes text join x))
    (reads_on given before after old new held reads left _ _ c come)
reading_breaks Answers Refuses Turns s now d e given before after old new held rest reads left join stays c come =
    carries_so given after old new _ _ (λ bytes text x. (rest, ended_whole Answers s now d e held rest reads left bytes text join x))
    (reads_on given before after old new held reads left _ _ c come)
reading_breaks Answers Refuses LineTooLong s now d e given before after old new held rest reads left join stays c come =
    carries_so given after old new _ _ (λ bytes text x. ended_by Answers s now d e held reads left (StandsFirst (Err LineTooLong) held rest) bytes text _ join (λ piece more. more) x)
    (reads_on given before after old new held reads left _ _ c come)
reading_breaks Answers Refuses TooManyFields s now d e given before after old new held rest reads left join stays c come =
    carries_so given after old new _ _ (λ bytes text x. ended_by Answers s now d e held reads left (StandsFirst (Err TooManyFields) held rest) bytes text _ join (λ piece more. more) x)
    (reads_on given before after old new held reads left _ _ c come)
reading_breaks Answers Refuses Memory s now d e given before after old new held rest reads left join stays c come =
    carries_so given after old new _ _ (λ bytes text x. unfinished Answers s now d e held reads left bytes text join stays x)
    (reads_on given before after old new held reads left _ _ c come)
reading_breaks Answers Refuses Write s now d e given before after old new held rest reads left join stays c come = absurd come.holds
reading_breaks Answers Refuses DeskDown s now d e given before after old new held rest reads left join stays c come = absurd come.holds

-- 1,000,000 reads gave a byte each
pub turns_over : {D : Type 0} (Answers : D → Ask → Answer → D → Type 0) (s now : SessionState) (d e : D) (given before after old new : Option (List ℕ)) (held : List ℕ)
    (reads left : ℕ) (K : List ℕ → Type 0) → left ≡ 0 → HasCarried given before old new (Going Answers s d e now held reads) → HasCome before after held reads left K
    → HasGiven given after 1000000
turns_over Answers s now d e given before after old new held reads left K none c come = record {
  bytes = c.bytes ++ come.bytes;
  given = given_grows given before after c.bytes come.bytes c.given come.given;
  many = omega (arith, c.holds.many, come.many, none, length-append c.bytes come.bytes);
}

-- no more bytes came than the reads may give
pub given_few : {D : Type 0} (Answers : D → Ask → Answer → D → Type 0) (s now : SessionState) (d e : D) (given before after old new : Option (List ℕ)) (held : List ℕ)
    (reads left : ℕ) (K : List ℕ → Type 0) → HasCarried given before old new (Going Answers s d e now held reads) → HasCome before after held reads left K
    → HasGivenUpTo given after 1024000000
given_few Answers s now d e given before after old new held reads left K c come = record {
  bytes = c.bytes ++ come.bytes;
  given = given_grows given before after c.bytes come.bytes c.given come.given;
  few = omega (arith, c.holds.few, come.few, length-append c.bytes come.bytes);
}

-- none came
pub given_nothing : (given : Option (List ℕ)) → HasGivenUpTo given given 1024000000
given_nothing given = record { bytes = []; given = given_none given; few = omega arith }

-- a message came
record MessageCame {D : Type 0} (Answers : D → Ask → Answer → D → Type 0) (s : SessionState) (d e : D) (now : SessionState) (message : Fields) (rest : List ℕ) (left : ℕ) (bytes text : List ℕ) : Type 0 where
  pub messages : List Fields
  pub behind : List ℕ
  pub answered : Gives bytes messages behind
  pub gives : Gives bytes (messages ++ message ∷ []) rest
  pub goes_on : is_over s messages ≡ false
  pub is_now : now ≡ after_all s messages
  pub has_text : HasText Answers s d e messages text
  pub many : 1000000 ≤ left + length bytes
  pub few : length bytes + 1024 * left ≤ 1024000000
  pub in_piece : EndsInPiece messages bytes

-- what was written, and then this
message_came : {D : Type 0} (Answers : D → Ask → Answer → D → Type 0) (s now : SessionState) (d e : D) (given before after old new : Option (List ℕ)) (held rest : List ℕ) (message : Fields)
    (reads left : ℕ) → PiecesJoin → MoreStays → LaterFollows
    → HasCarried given before old new (Going Answers s d e now held reads) → HasCome before after held reads left (StandsFirst (Ok (Some message)) held rest)
    → HasCarried given after old new (MessageCame Answers s d e now message rest left)
message_came Answers s now d e given before after old new held rest message reads left join stays later c come =
    carries_so given after old new _ _
    (λ bytes text x.
    let going = x.before in
    let more = stays x.first x.piece held going.messages going.gives in
    let all = later (x.first ++ x.piece) (held ++ x.piece) rest going.messages (message ∷ []) more x.more.0 in
    record {
      messages = going.messages;
      behind = held ++ x.piece;
      answered = subst (λ t. Gives t going.messages (held ++ x.piece)) (sym x.is) more;
      gives = subst (λ t. Gives t (going.messages ++ message ∷ []) rest) (sym x.is) all;
      goes_on = going.goes_on;
      is_now = going.is_now;
      has_text = going.has_text;
      many = omega (arith, going.many, x.many, length-append x.first x.piece, ap (length {A = ℕ}) x.is);
      few = omega (arith, going.few, x.few, length-append x.first x.piece, ap (length {A = ℕ}) x.is);
      in_piece = subst (λ t. EndsInPiece going.messages t) (sym x.is) (piece_wanted x.first x.piece held going.messages join going.gives going.in_piece x.more.1);
    })
    (reads_on given before after old new held reads left _ _ c come)

-- the text of what was read, and of a message more
record Said {D : Type 0} (Answers : D → Ask → Answer → D → Type 0) (s : SessionState) (d e : D) (now : SessionState) (message : Fields) (rest : List ℕ) (left : ℕ) (bytes text : List ℕ) : Type 0 where
  pub messages : List Fields
  pub gives : Gives bytes (messages ++ message ∷ []) rest
  pub goes_on : is_over s messages ≡ false
  pub is_now : now ≡ after_all s messages
  pub has_text : HasText Answers s d e (messages ++ message ∷ []) text
  pub many : 1000000 ≤ left + length bytes
  pub few : length bytes + 1024 * left ≤ 1024000000
  pub in_piece : EndsInPiece messages bytes

said : {D : Type 0} (Answers : D → Ask → Answer → D → Type 0) (s now : SessionState) (d mid e : D) (given after old before new : Option (List ℕ)) (rest : List ℕ) (message : Fields) (left : ℕ)
    → HasCarried given after old before (MessageCame Answers s d mid now message rest left) → HasSaid Answers (reaction now message) mid e before new
    → HasCarried given after old new (Said Answers s d e now message rest left)
said Answers s now d mid e given after old before new rest message left c has =
    let x = c.holds in
    record {
      bytes = c.bytes;
      text = c.text ++ has.text;
      given = c.given;
      taken = taken_grows old before new c.text has.text c.taken has.taken;
      holds = record {
        messages = x.messages;
        gives = x.gives;
        goes_on = x.goes_on;
        is_now = x.is_now;
        has_text = text_one Answers s now d mid e x.messages message c.text has.text x.goes_on x.is_now x.has_text has.done;
        many = x.many;
        few = x.few;
        in_piece = x.in_piece;
      };
    }

-- a message is answered, and the session goes on
pub going_on : {D : Type 0} (Answers : D → Ask → Answer → D → Type 0) (s now next : SessionState) (d mid e : D) (given before after old written new : Option (List ℕ)) (held rest : List ℕ) (message : Fields)
    (reads left : ℕ) → PiecesJoin → MoreStays → LaterFollows
    → HasCarried given before old written (Going Answers s d mid now held reads) → HasCome before after held reads left (StandsFirst (Ok (Some message)) held rest)
    → HasSaid Answers (reaction now message) mid e written new → next ≡ session_after now message → is_end (reaction now message) ≡ false
    → HasCarried given after old new (Going Answers s d e next rest left)
going_on Answers s now next d mid e given before after old written new held rest message reads left join stays later c come has is on =
    carries_so given after old new _ _
    (λ bytes text x. record {
      messages = x.messages ++ message ∷ [];
      gives = x.gives;
      goes_on = over_one x.messages s message x.goes_on ∙ ap (λ t. is_end (reaction t message)) (sym x.is_now) ∙ on;
      is_now = is ∙ ap (λ t. session_after t message) x.is_now ∙ sym (after_one x.messages s message);
      has_text = x.has_text;
      many = x.many;
      few = x.few;
      in_piece = piece_stays x.messages message bytes x.in_piece;
    })
    (said Answers s now d mid e given after old written new rest message left (message_came Answers s now d mid given before after old written held rest message reads left join stays later c come) has)

-- a message is answered, and the session ends
pub served_by_end : {D : Type 0} (Answers : D → Ask → Answer → D → Type 0) (s now : SessionState) (d mid e : D) (given before after old written new : Option (List ℕ)) (held rest : List ℕ) (message : Fields)
    (reads left : ℕ) (ended : Bool) → PiecesJoin → MoreStays → LaterFollows
    → HasCarried given before old written (Going Answers s d mid now held reads) → HasCome before after held reads left (StandsFirst (Ok (Some message)) held rest)
    → HasSaid Answers (reaction now message) mid e written new → is_end (reaction now message) ≡ true
    → HasCarried given after old new (IsServed Answers s d e ended after)
served_by_end Answers s now d mid e given before after old written new held rest message reads left ended join stays later c come has over =
    carries_so given after old new _ _
    (λ bytes text x. record {
      messages = x.messages ++ message ∷ [];
      rest = rest;
      gives = x.gives;
      has_text = x.has_text;
      at_end = inl (record {
        before = x.messages;
        last = message;
        are = refl;
        goes_on = x.goes_on;
        over = over_one x.messages s message x.goes_on ∙ ap (λ t. is_end (reaction t message)) (sym x.is_now) ∙ over;
        in_piece = x.in_piece;
      });
    })
    (said Answers s now d mid e given after old written new rest message left (message_came Answers s now d mid given before after old written held rest message reads left join stays later c come) has)

-- a prefix of its text was written
begun : {D : Type 0} (Answers : D → Ask → Answer → D → Type 0) (s now : SessionState) (d mid e : D) (given after old before new : Option (List ℕ)) (rest : List ℕ) (message : Fields) (left : ℕ)
    → HasCarried given after old before (MessageCame Answers s d mid now message rest left) → HasWrittenFront Answers (reaction now message) mid e before new
    → HasCarried given after old new (IsSessionBegun Answers s d e)
begun Answers s now d mid e given after old before new rest message left c has =
    let x = c.holds in
    let all = text_one Answers s now d mid e x.messages message c.text has.text x.goes_on x.is_now x.has_text has.done in
    record {
      bytes = c.bytes;
      text = c.text ++ has.taken.front;
      given = c.given;
      taken = taken_grows old before new c.text has.taken.front c.taken has.taken.taken;
      holds = record {
        messages = x.messages ++ message ∷ [];
        rest = rest;
        gives = x.gives;
        more = has.taken.rest;
        has_text = subst (λ t. HasText Answers s d e (x.messages ++ message ∷ []) t)
            (ap (λ t. c.text ++ t) has.taken.is ∙ sym (append_assoc c.text has.taken.front has.taken.rest)) all;
        ends = inr (record {
          before = x.messages;
          last = message;
          are = refl;
          goes_on = x.goes_on;
          in_piece = x.in_piece;
          left = mid;
          written = c.text;
          part = has.taken.front;
          has_text = x.has_text;
          is = refl;
        });
      };
    }

-- nothing of it was
unsaid : {D : Type 0} (Answers : D → Ask → Answer → D → Type 0) (s now : SessionState) (d mid e : D) (given after old before new : Option (List ℕ)) (rest : List ℕ) (message : Fields) (left : ℕ)
    → HasCarried given after old before (MessageCame Answers s d mid now message rest left) → IsUnsaid Answers (reaction now message) mid e before new
    → HasCarried given after old new (IsUnfinished Answers s d e)
unsaid Answers s now d mid e given after old before new rest message left c none =
    let x = c.holds in
    record {
      bytes = c.bytes;
      text = c.text;
      given = c.given;
      taken = subst (λ t. Appends old t c.text) (sym none.taken) c.taken;
      holds = record {
        messages = x.messages;
        rest = x.behind;
        gives = x.answered;
        in_piece = x.in_piece;
        goes_on = x.goes_on;
        left = mid;
        has_text = x.has_text;
        desk = ⊎_elim (λ (same : e ≡ mid). inl same)
            (λ (y : HasAnswered Answers (reaction now message) mid e). inr (record {
              last = message;
              rest = rest;
              gives = x.gives;
              ask = y.ask;
              waiting = y.waiting;
              asked = ap (λ t. reaction t message) (sym x.is_now) ∙ y.asked;
              answer = y.answer;
              answered = y.answered;
            }))
            none.desk;
      };
    }

-- the desk gave no answer
refused : {D : Type 0} (Answers : D → Ask → Answer → D → Type 0) (Refuses : D → Ask → D → Type 0) (s now : SessionState) (d mid e : D) (given after old before new : Option (List ℕ)) (rest : List ℕ) (message : Fields)
    (left : ℕ) → HasCarried given after old before (MessageCame Answers s d mid now message rest left) → IsDown Refuses (reaction now message) mid e before new
    → HasCarried given after old new (IsRefused Answers Refuses s d e)
refused Answers Refuses s now d mid e given after old before new rest message left c down =
    let x = c.holds in
    record {
      bytes = c.bytes;
      text = c.text;
      given = c.given;
      taken = subst (λ t. Appends old t c.text) (sym down.taken) c.taken;
      holds = record {
        messages = x.messages;
        last = message;
        rest = rest;
        gives = x.gives;
        in_piece = x.in_piece;
        left = mid;
        goes_on = x.goes_on;
        has_text = x.has_text;
        ask = down.ask;
        waiting = down.waiting;
        asked = ap (λ t. reaction t message) (sym x.is_now) ∙ down.asked;
        refused = down.refused;
      };
    }

-- answering it broke off
pub answering_breaks : {D : Type 0} (Answers : D → Ask → Answer → D → Type 0) (Refuses : D → Ask → D → Type 0) (fault : ServeFault) (s now : SessionState) (d mid e : D)
    (given before after old written new : Option (List ℕ)) (held rest : List ℕ) (message : Fields) (reads left : ℕ) → PiecesJoin → MoreStays → LaterFollows
    → HasCarried given before old written (Going Answers s d mid now held reads) → HasCome before after held reads left (StandsFirst (Ok (Some message)) held rest)
    → BreaksOff Answers Refuses (reaction now message) mid e written new fault → HasCarried given after old new (IsLeftBy Answers Refuses s d e fault)
answering_breaks Answers Refuses Write s now d mid e given before after old written new held rest message reads left join stays later c come broken =
    begun Answers s now d mid e given after old written new rest message left (message_came Answers s now d mid given before after old written held rest message reads left join stays later c come) broken
answering_breaks Answers Refuses Memory s now d mid e given before after old written new held rest message reads left join stays later c come broken =
    unsaid Answers s now d mid e given after old written new rest message left (message_came Answers s now d mid given before after old written held rest message reads left join stays later c come) broken
answering_breaks Answers Refuses DeskDown s now d mid e given before after old written new held rest message reads left join stays later c come broken =
    refused Answers Refuses s now d mid e given after old written new rest message left (message_came Answers s now d mid given before after old written held rest message reads left join stays later c come) broken
answering_breaks Answers Refuses Read s now d mid e given before after old written new held rest message reads left join stays later c come broken = absurd broken
answering_breaks Answers Refuses LineTooLong s now d mid e given before after old written new held rest message reads left join stays later c come broken = absurd broken
answering_breaks Answers Refuses TooManyFields s now d mid e given before after old written new held rest message reads left join stays later c come broken = absurd broken
answering_breaks Answers Refuses Turns s now d mid e given before after old written new held rest message reads left join stays later c come broken = absurd broken
