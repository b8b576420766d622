-- One byte more of a stream's first message.
use Rattle.std.proofs.Common.{◌≡◌, ◌≢◌, ◌<◌, ◌≤◌, ◌-◌, ◌==◌, ℕ, Bool, true, false, List, [], ◌∷◌, ◌++◌, length, take, refl, sym, ◌∙◌, ap, subst, arith, append_assoc, length-append, if◌then◌else◌, eqb-true, eq-eqb}
use Rattle.std.proofs.lemmas.List.{append-nil, length-take-le}
use Rattle.std.proofs.lemmas.List.Concat.{flat_map-append}
use Rattle.std.proofs.lemmas.List.Elements.{All-nil, All-push}
use Rattle.ami_text.specs.Lines.{HasNoLf, content, IsEmptyLine, lines_text}
use Rattle.ami_text.specs.declared.first_message_so_far.FirstMessageSoFar.{FirstMessageSoFar}
use Rattle.ami_text.specs.declared.first_message_so_far.FirstMessageSoFar.TheVariants.{Awaited, Begun, Ended}
use Rattle.ami_text.specs.declared.first_message_so_far.LineSoFar.{LineSoFar}
use Rattle.ami_text.specs.declared.first_message_so_far.LineSoFar.TheVariants.{Empty, Cr, Full}
use Rattle.ami_text.specs.FirstMessages.{HasContent, HasMessage, HasSent, IsAwaited, IsBegun, IsLineSoFar, after_content, after_end, line_after, message_after}

-- ---- lines

-- the text of lines and of one more, and then more
lines_push : (lines : List (List ℕ)) (line after : List ℕ) → lines_text (lines ++ line ∷ []) ++ after ≡ lines_text lines ++ (line ++ 10 ∷ after)
lines_push lines line after =
    ap (λ ys. ys ++ after) (flat_map-append (λ l. l ++ 10 ∷ []) lines (line ∷ []))
    ∙ append_assoc (lines_text lines) ((line ++ 10 ∷ []) ++ []) after
    ∙ ap (λ ys. lines_text lines ++ ys) (ap (λ ys. ys ++ after) (append-nil (line ++ 10 ∷ [])) ∙ append_assoc line (10 ∷ []) after)

cut_long : (b : Bool) (line : List ℕ) (n : ℕ) → n ≤ length line → 0 < n → 0 < length (if b then take n line else line)
cut_long true line n within some = let long = length-take-le n line within in omega (arith, long, some)
cut_long false line n within some = omega (arith, within, some)

-- a line of some bytes and one more has content
content_push : (part : List ℕ) (byte : ℕ) → 0 < length part → 0 < length (content (part ++ byte ∷ []))
content_push part byte some = let long = length-append part (byte ∷ []) in
    cut_long _ (part ++ byte ∷ []) (length (part ++ byte ∷ []) - 1) (omega arith) (omega (arith, some, long))

-- one with content has bytes
content_some : (part : List ℕ) → 0 < length (content part) → 0 < length part
content_some [] some = absurd (omega (arith, some))
content_some (x ∷ xs) some = omega arith

content_more : (part : List ℕ) (byte : ℕ) → byte ≢ 10 → HasNoLf part → 0 < length part → HasContent (part ++ byte ∷ [])
content_more part byte other none some = record { no_lf = All-push (λ b. b ≢ 10) part byte none other; some = content_push part byte some }

cr_alone : HasNoLf (13 ∷ [])
cr_alone = All-push (λ b. b ≢ 10) [] 13 (All-nil (λ b. b ≢ 10)) (λ e. absurd (omega (arith, e)))

line_first : (byte : ℕ) (b : Bool) → (byte == 13) ≡ b → byte ≢ 10 → IsLineSoFar (byte ∷ []) (if b then Cr else Full)
line_first byte true is other = ap (λ n. n ∷ []) (eqb-true byte 13 is)
line_first byte false is other = record {
  no_lf = All-push (λ b. b ≢ 10) [] byte (All-nil (λ b. b ≢ 10)) other;
  some = subst (λ (b : Bool). 0 < length (if b then take 0 (byte ∷ []) else byte ∷ [])) (sym is) (omega arith);
}

-- a byte more of a line
line_more : (part : List ℕ) (line : LineSoFar) (byte : ℕ) → byte ≢ 10 → IsLineSoFar part line → IsLineSoFar (part ++ byte ∷ []) (line_after line byte)
line_more part Empty byte other so = subst (λ (p : List ℕ). IsLineSoFar (p ++ byte ∷ []) (line_after Empty byte)) (sym so) (line_first byte (byte == 13) refl other)
line_more part Cr byte other so = subst (λ (p : List ℕ). HasContent (p ++ byte ∷ [])) (sym so) (content_more (13 ∷ []) byte other cr_alone (omega arith))
line_more part Full byte other so = content_more part byte other so.no_lf (content_some part so.some)

none_is_empty : (part : List ℕ) → part ≡ [] → IsEmptyLine part
none_is_empty part is = subst IsEmptyLine (sym is) (record { no_lf = All-nil (λ b. b ≢ 10); empty = refl })

cr_is_empty : (part : List ℕ) → part ≡ 13 ∷ [] → IsEmptyLine part
cr_is_empty part is = subst IsEmptyLine (sym is) (record { no_lf = cr_alone; empty = refl })

-- ---- messages

behind_two : (e l part : List ℕ) (sent piece : List ℕ) → sent ≡ e ++ (l ++ part) → sent ++ piece ≡ e ++ (l ++ (part ++ piece))
behind_two e l part sent piece is = ap (λ ys. ys ++ piece) is ∙ append_assoc e (l ++ part) piece ∙ ap (λ ys. e ++ ys) (append_assoc l part piece)

more_stays : (sent : List ℕ) (byte : ℕ) → HasMessage sent → HasMessage (sent ++ byte ∷ [])
more_stays sent byte h = record {
  empties = h.empties;
  lines = h.lines;
  last = h.last;
  more = h.more ++ byte ∷ [];
  each_empty = h.each_empty;
  each_full = h.each_full;
  some = h.some;
  is_empty = h.is_empty;
  whole = behind_two (lines_text h.empties) (lines_text h.lines) (h.last ++ 10 ∷ h.more) sent (byte ∷ []) h.whole
      ∙ ap (λ ys. lines_text h.empties ++ (lines_text h.lines ++ ys)) (append_assoc h.last (10 ∷ h.more) (byte ∷ []));
}

-- a byte more that isn't LF
sent_content : (sent : List ℕ) (m : FirstMessageSoFar) (byte : ℕ) → byte ≢ 10 → HasSent sent m → HasSent (sent ++ byte ∷ []) (after_content m byte)
sent_content sent (Awaited line) byte other h = record {
  empties = h.empties;
  part = h.part ++ byte ∷ [];
  each_empty = h.each_empty;
  so_far = line_more h.part line byte other h.so_far;
  whole = ap (λ ys. ys ++ byte ∷ []) h.whole ∙ append_assoc (lines_text h.empties) h.part (byte ∷ []);
}
sent_content sent (Begun line) byte other h = record {
  empties = h.empties;
  lines = h.lines;
  part = h.part ++ byte ∷ [];
  each_empty = h.each_empty;
  each_full = h.each_full;
  some = h.some;
  so_far = line_more h.part line byte other h.so_far;
  whole = behind_two (lines_text h.empties) (lines_text h.lines) h.part sent (byte ∷ []) h.whole;
}
sent_content sent Ended byte other h = more_stays sent byte h

-- an empty line has ended before the message
empty_more : (sent : List ℕ) (line : LineSoFar) (h : IsAwaited sent line) → IsEmptyLine h.part → IsAwaited (sent ++ 10 ∷ []) Empty
empty_more sent line h is_empty = record {
  empties = h.empties ++ h.part ∷ [];
  part = [];
  each_empty = All-push IsEmptyLine h.empties h.part h.each_empty is_empty;
  so_far = refl;
  whole = ap (λ ys. ys ++ 10 ∷ []) h.whole ∙ append_assoc (lines_text h.empties) h.part (10 ∷ []) ∙ sym (lines_push h.empties h.part []);
}

-- an empty line has ended behind others
message_ends : (sent : List ℕ) (line : LineSoFar) (h : IsBegun sent line) → IsEmptyLine h.part → HasMessage (sent ++ 10 ∷ [])
message_ends sent line h is_empty = record {
  empties = h.empties;
  lines = h.lines;
  last = h.part;
  more = [];
  each_empty = h.each_empty;
  each_full = h.each_full;
  some = h.some;
  is_empty = is_empty;
  whole = behind_two (lines_text h.empties) (lines_text h.lines) h.part sent (10 ∷ []) h.whole;
}

-- the end of a line more
sent_end : (sent : List ℕ) (m : FirstMessageSoFar) → HasSent sent m → HasSent (sent ++ 10 ∷ []) (after_end m)
sent_end sent (Awaited Empty) h = empty_more sent Empty h (none_is_empty h.part h.so_far)
sent_end sent (Awaited Cr) h = empty_more sent Cr h (cr_is_empty h.part h.so_far)
sent_end sent (Awaited Full) h = record {
  empties = h.empties;
  lines = h.part ∷ [];
  part = [];
  each_empty = h.each_empty;
  each_full = All-push HasContent [] h.part (All-nil HasContent) h.so_far;
  some = omega arith;
  so_far = refl;
  whole = ap (λ ys. ys ++ 10 ∷ []) h.whole ∙ append_assoc (lines_text h.empties) h.part (10 ∷ [])
      ∙ ap (λ ys. lines_text h.empties ++ ys) (sym (lines_push [] h.part []));
}
sent_end sent (Begun Empty) h = message_ends sent Empty h (none_is_empty h.part h.so_far)
sent_end sent (Begun Cr) h = message_ends sent Cr h (cr_is_empty h.part h.so_far)
sent_end sent (Begun Full) h = record {
  empties = h.empties;
  lines = h.lines ++ h.part ∷ [];
  part = [];
  each_empty = h.each_empty;
  each_full = All-push HasContent h.lines h.part h.each_full h.so_far;
  some = omega (arith, length-append h.lines (h.part ∷ []));
  so_far = refl;
  whole = behind_two (lines_text h.empties) (lines_text h.lines) h.part sent (10 ∷ []) h.whole
      ∙ ap (λ ys. lines_text h.empties ++ ys) (sym (lines_push h.lines h.part []));
}
sent_end sent Ended h = more_stays sent 10 h

sent_by : (sent : List ℕ) (m : FirstMessageSoFar) (byte : ℕ) (b : Bool) → (byte == 10) ≡ b → HasSent sent m
    → HasSent (sent ++ byte ∷ []) (if b then after_end m else after_content m byte)
sent_by sent m byte true is h = subst (λ (n : ℕ). HasSent (sent ++ n ∷ []) (after_end m)) (sym (eqb-true byte 10 is)) (sent_end sent m h)
sent_by sent m byte false is h = sent_content sent m byte (λ e. let yes = eq-eqb byte 10 e in cc) h

-- a byte more
pub sent_byte : (sent : List ℕ) (m : FirstMessageSoFar) (byte : ℕ) → HasSent sent m → HasSent (sent ++ byte ∷ []) (message_after m byte)
sent_byte sent m byte h = sent_by sent m byte (byte == 10) refl h
