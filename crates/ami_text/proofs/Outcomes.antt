-- The messages of a stream in pieces, and that it has no others.
use Rattle.std.proofs.Common.{◌≡◌, ℕ, List, [], ◌∷◌, ◌++◌, refl, sym, ◌∙◌, ap, subst, All, append_assoc}
use Rattle.std.proofs.lemmas.List.Concat.{flat_map-append}
use Rattle.std.proofs.lemmas.List.Elements.{All-append, All-nil}
use Rattle.ami_text.specs.declared.feed_fault.FeedFault.{FeedFault}
use Rattle.ami_text.specs.declared.feed_fault.FeedFault.TheVariants.{LineTooLong, TooManyFields, Memory}
use Rattle.ami_text.specs.MessageFields.{NameAndValue}
use Rattle.ami_text.specs.Lines.{IsEmptyLine, lines_text}
use Rattle.ami_text.specs.Stream.{Begins, FirstMessage, HasFault, Gives, Ending, Rest, Fault, Reads}
use Rattle.ami_text.proofs.Outcome.{Outcome, Whole, Partial, Bad, first_of, outcome_message, outcome_rest, outcome_fault}

begins_more : (bytes more : List ℕ) (lines : List (List ℕ)) (behind : List ℕ) → Begins bytes lines behind → Begins (bytes ++ more) lines (behind ++ more)
begins_more bytes more lines behind b = record {
  empties = b.empties;
  each_empty = b.each_empty;
  each_full = b.each_full;
  within = b.within;
  whole = ap (λ ys. ys ++ more) b.whole ∙ append_assoc (lines_text b.empties) (lines_text lines ++ behind) more
      ∙ ap (λ ys. lines_text b.empties ++ ys) (append_assoc (lines_text lines) behind more);
}

first_message_more : (bytes more : List ℕ) (message : List NameAndValue) (rest : List ℕ) → FirstMessage bytes message rest
    → FirstMessage (bytes ++ more) message (rest ++ more)
first_message_more bytes more message rest m =
    let P : List ℕ → Type 0 = λ ys. Begins (bytes ++ more) m.lines ys in
    record {
      lines = m.lines;
      last = m.last;
      some = m.some;
      is_empty = m.is_empty;
      fields = m.fields;
      begins = subst P (append_assoc m.last (10 ∷ rest) more) (begins_more bytes more m.lines (m.last ++ 10 ∷ rest) m.begins);
    }

-- a fault stays, whatever follows
pub fault_more : (fault : FeedFault) (bytes more : List ℕ) → HasFault fault bytes → HasFault fault (bytes ++ more)
fault_more LineTooLong bytes more l =
    let P : List ℕ → Type 0 = λ ys. Begins (bytes ++ more) l.lines ys in
    record {
      lines = l.lines;
      part = l.part;
      more = l.more ++ more;
      no_lf = l.no_lf;
      too_long = l.too_long;
      begins = subst P (append_assoc l.part l.more more) (begins_more bytes more l.lines (l.part ++ l.more) l.begins);
    }
fault_more TooManyFields bytes more l =
    let P : List ℕ → Type 0 = λ ys. Begins (bytes ++ more) l.lines ys in
    record {
      lines = l.lines;
      line = l.line;
      more = l.more ++ more;
      all = l.all;
      is_full = l.is_full;
      begins = subst P (append_assoc l.line (10 ∷ l.more) more) (begins_more bytes more l.lines (l.line ++ 10 ∷ l.more) l.begins);
    }
fault_more Memory bytes more none = absurd none

-- messages stay, whatever follows
pub gives_more : (messages : List (List NameAndValue)) (bytes more rest : List ℕ) → Gives bytes messages rest → Gives (bytes ++ more) messages (rest ++ more)
gives_more [] bytes more rest g = (g.0, g.1, ap (λ ys. ys ++ more) g.2 ∙ append_assoc (lines_text g.0) rest more)
gives_more (message ∷ messages) bytes more rest g =
    (g.0 ++ more, first_message_more bytes more message g.0 g.1, gives_more messages g.0 more rest g.2)

begins_after : (empties : List (List ℕ)) (bytes : List ℕ) (lines : List (List ℕ)) (more : List ℕ) → All IsEmptyLine empties → Begins bytes lines more
    → Begins (lines_text empties ++ bytes) lines more
begins_after empties bytes lines more each b = record {
  empties = empties ++ b.empties;
  each_empty = All-append IsEmptyLine empties b.empties each b.each_empty;
  each_full = b.each_full;
  within = b.within;
  whole = ap (λ ys. lines_text empties ++ ys) b.whole ∙ sym (append_assoc (lines_text empties) (lines_text b.empties) (lines_text lines ++ more))
      ∙ ap (λ ys. ys ++ (lines_text lines ++ more)) (sym (flat_map-append (λ l. l ++ 10 ∷ []) empties b.empties));
}

-- empty lines before a fault are nothing
pub fault_after : (fault : FeedFault) (empties : List (List ℕ)) (bytes : List ℕ) → All IsEmptyLine empties → HasFault fault bytes
    → HasFault fault (lines_text empties ++ bytes)
fault_after LineTooLong empties bytes each l = record {
  lines = l.lines;
  part = l.part;
  more = l.more;
  no_lf = l.no_lf;
  too_long = l.too_long;
  begins = begins_after empties bytes l.lines (l.part ++ l.more) each l.begins;
}
fault_after TooManyFields empties bytes each l = record {
  lines = l.lines;
  line = l.line;
  more = l.more;
  all = l.all;
  is_full = l.is_full;
  begins = begins_after empties bytes l.lines (l.line ++ 10 ∷ l.more) each l.begins;
}
fault_after Memory empties bytes each none = absurd none

-- empty lines before messages have no effect
pub gives_after : (empties : List (List ℕ)) (messages : List (List NameAndValue)) (bytes rest : List ℕ) → All IsEmptyLine empties → Gives bytes messages rest
    → Gives (lines_text empties ++ bytes) messages rest
gives_after empties [] bytes rest each g = (
  empties ++ g.0,
  All-append IsEmptyLine empties g.0 each g.1,
  ap (λ ys. lines_text empties ++ ys) g.2 ∙ sym (append_assoc (lines_text empties) (lines_text g.0) rest)
      ∙ ap (λ ys. ys ++ rest) (sym (flat_map-append (λ l. l ++ 10 ∷ []) empties g.0)),
)
gives_after empties (message ∷ messages) bytes rest each g = (
  g.0,
  record {
    lines = g.1.lines;
    last = g.1.last;
    some = g.1.some;
    is_empty = g.1.is_empty;
    fields = g.1.fields;
    begins = begins_after empties bytes g.1.lines (g.1.last ++ 10 ∷ g.0) each g.1.begins;
  },
  g.2,
)

-- messages, and then those of the rest
pub gives_then : (messages more : List (List NameAndValue)) (bytes held rest : List ℕ) → Gives bytes messages held → Gives held more rest
    → Gives bytes (messages ++ more) rest
gives_then [] more bytes held rest g h =
    let P : List ℕ → Type 0 = λ ys. Gives ys more rest in
    subst P (sym g.2) (gives_after g.0 more held rest g.1 h)
gives_then (message ∷ messages) more bytes held rest g h = (g.0, g.1, gives_then messages more g.0 held rest g.2 h)

-- two pieces
pub reads_then : (messages more : List (List NameAndValue)) (bytes held : List ℕ) (ending : Ending) → Gives bytes messages held → Reads held more ending
    → Reads bytes (messages ++ more) ending
reads_then messages more bytes held (Rest rest) g r = (gives_then messages more bytes held rest g r.0, r.1)
reads_then messages more bytes held (Fault fault) g r = (r.0, gives_then messages more bytes held r.0 g r.1, r.2)

-- how the outcome ends a stream
abbrev pub ended_by : Ending → Outcome
ended_by (Rest rest) = Partial rest
ended_by (Fault fault) = Bad fault

first_of_none : (bytes : List ℕ) (ending : Ending) → Reads bytes [] ending → first_of bytes ≡ ended_by ending
first_of_none bytes (Rest rest) r = outcome_rest bytes r.0.0 rest r.0.1 r.0.2 r.1
first_of_none bytes (Fault fault) r =
    ap first_of r.1.2 ∙ outcome_fault fault (lines_text r.1.0 ++ r.0) (fault_after fault r.1.0 r.0 r.1.1 r.2)

first_of_some : (bytes : List ℕ) (message : List NameAndValue) (messages : List (List NameAndValue)) (ending : Ending) → Reads bytes (message ∷ messages) ending
    → (after : List ℕ) × (first_of bytes ≡ Whole message after) × Reads after messages ending
first_of_some bytes message messages (Rest rest) r = (r.0.0, outcome_message bytes message r.0.0 r.0.1, (r.0.2, r.1))
first_of_some bytes message messages (Fault fault) r = (r.1.0, outcome_message bytes message r.1.0 r.1.1, (r.0, r.1.2, r.2))

same_ending : (ending other : Ending) → ended_by ending ≡ ended_by other → ending ≡ other
same_ending (Rest a) (Rest b) e = cc
same_ending (Rest a) (Fault b) e = cc
same_ending (Fault a) (Rest b) e = cc
same_ending (Fault a) (Fault b) e = cc

not_ended : (ending : Ending) (message : List NameAndValue) (rest : List ℕ) → ended_by ending ≡ Whole message rest → ⊥
not_ended (Rest a) message rest e = cc
not_ended (Fault a) message rest e = cc

-- there is one outcome
pub one_outcome : (messages others : List (List NameAndValue)) (bytes : List ℕ) (ending other : Ending) → Reads bytes messages ending → Reads bytes others other
    → (messages ≡ others) × (ending ≡ other)
one_outcome [] [] bytes ending other r s =
    (refl, same_ending ending other (sym (first_of_none bytes ending r) ∙ first_of_none bytes other s))
one_outcome [] (n ∷ others) bytes ending other r s =
    let t = first_of_some bytes n others other s in
    absurd (not_ended ending n t.0 (sym (first_of_none bytes ending r) ∙ t.1))
one_outcome (m ∷ messages) [] bytes ending other r s =
    let t = first_of_some bytes m messages ending r in
    absurd (not_ended other m t.0 (sym (first_of_none bytes other s) ∙ t.1))
one_outcome (m ∷ messages) (n ∷ others) bytes ending other r s =
    let t = first_of_some bytes m messages ending r in
    let u = first_of_some bytes n others other s in
    let same : Whole m t.0 ≡ Whole n u.0 = sym t.1 ∙ u.1 in
    let head : m ≡ n = cc in
    let after : u.0 ≡ t.0 = cc in
    let P : List ℕ → Type 0 = λ ys. Reads ys others other in
    let later = one_outcome messages others t.0 ending other t.2 (subst P after u.2) in
    (cc (head, later.0), later.1)

-- nothing has been given of any bytes
pub gives_none : (bytes : List ℕ) → Gives bytes [] bytes
gives_none bytes = ([], All-nil IsEmptyLine, refl)

-- a first message is one message
pub gives_one : (bytes rest : List ℕ) (message : List NameAndValue) → FirstMessage bytes message rest → Gives bytes (message ∷ []) rest
gives_one bytes rest message first = (rest, first, gives_none rest)
