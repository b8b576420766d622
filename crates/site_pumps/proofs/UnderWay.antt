-- One frame more, and the end.
use Rattle.std.proofs.Common.{◌≡◌, ℕ, ◌+◌, List, [], ◌∷◌, ◌++◌, length, length-append, refl, sym, ap, subst, ◌∙◌, append_assoc, append-nil, arith}
use Rattle.site_pumps.specs.declared.deed.Deed.{Deed}
use Rattle.site_journal.specs.declared.receipt.Receipt.{Receipt}
use Rattle.site_pumps.specs.Carried.{EachLink}
use Rattle.site_pumps.specs.Outlets.{OutletBegins, OutletRun}
use Rattle.site_journal.specs.Receipts.{IsOfCut, IsOfWhole}
use Rattle.site_pumps.specs.Deeds.{cut_frame, whole_frame, cut_frames, whole_frames}
use Rattle.site_pumps.specs.Outgoing.{IsUnderWay, IsFrontOf}
use Rattle.site_pumps.specs.Plans.{deed_at, sent_for, held_after, held_from, planned, sent_from}
use Rattle.site_pumps.proofs.GivenItems.{each_all_begun, each_begun_longer, each_given_begun, each_given_more, each_given_none}

pub cut_frames_append : (xs ys : List Receipt) → cut_frames (xs ++ ys) ≡ cut_frames xs ++ cut_frames ys
cut_frames_append [] ys = refl
cut_frames_append (x ∷ xs) ys = ap (λ l. cut_frame x.deed ++ l) (cut_frames_append xs ys) ∙ sym (append_assoc (cut_frame x.deed) (cut_frames xs) (cut_frames ys))

pub whole_frames_append : (xs ys : List Receipt) → whole_frames (xs ++ ys) ≡ whole_frames xs ++ whole_frames ys
whole_frames_append [] ys = refl
whole_frames_append (x ∷ xs) ys = ap (λ l. whole_frame x.deed ++ l) (whole_frames_append xs ys) ∙ sym (append_assoc (whole_frame x.deed) (whole_frames xs) (whole_frames ys))

-- ---- what a plan makes of one frame more

sent_from_append : (plan : List Deed) (number : ℕ) (held frames : List (List ℕ)) (frame : List ℕ)
    → sent_from plan number held (frames ++ frame ∷ []) ≡ sent_from plan number held frames ++ sent_for (deed_at plan (number + length frames)) (held_from plan number held frames) frame
sent_from_append plan number held [] frame = let same : number ≡ number + 0 = omega arith in append-nil (sent_for (deed_at plan number) held frame) ∙ ap (λ n. sent_for (deed_at plan n) held frame) same
sent_from_append plan number held (x ∷ xs) frame =
    let now = sent_for (deed_at plan number) held x in
    let after = held_after (deed_at plan number) held x in
    let rest = sent_from plan (number + 1) after xs in
    let last = held_from plan (number + 1) after xs in
    let same : (number + 1) + length xs ≡ number + length (x ∷ xs) = omega arith in
    ap (λ l. now ++ l) (sent_from_append plan (number + 1) after xs frame) ∙ sym (append_assoc now rest (sent_for (deed_at plan ((number + 1) + length xs)) last frame))
    ∙ ap (λ n. (now ++ rest) ++ sent_for (deed_at plan n) last frame) same

held_from_append : (plan : List Deed) (number : ℕ) (held frames : List (List ℕ)) (frame : List ℕ)
    → held_from plan number held (frames ++ frame ∷ []) ≡ held_after (deed_at plan (number + length frames)) (held_from plan number held frames) frame
held_from_append plan number held [] frame = let same : number ≡ number + 0 = omega arith in ap (λ n. held_after (deed_at plan n) held frame) same
held_from_append plan number held (x ∷ xs) frame =
    let after = held_after (deed_at plan number) held x in
    let same : (number + 1) + length xs ≡ number + length (x ∷ xs) = omega arith in
    held_from_append plan (number + 1) after xs frame ∙ ap (λ n. held_after (deed_at plan n) (held_from plan (number + 1) after xs) frame) same

-- the frames of receipts and one more
one_more : (receipts : List Receipt) (r : Receipt) (frame : List ℕ) → cut_frame r.deed ≡ frame ∷ [] → cut_frames (receipts ++ r ∷ []) ≡ cut_frames receipts ++ frame ∷ []
one_more receipts r frame is = cut_frames_append receipts (r ∷ []) ∙ ap (λ l. cut_frames receipts ++ (l ++ [])) is

-- the frames of receipts and one that has none
no_more : (receipts : List Receipt) (r : Receipt) → cut_frame r.deed ≡ [] → cut_frames (receipts ++ r ∷ []) ≡ cut_frames receipts
no_more receipts r none = cut_frames_append receipts (r ∷ []) ∙ ap (λ l. cut_frames receipts ++ (l ++ [])) none ∙ append-nil (cut_frames receipts)

no_whole_more : (receipts : List Receipt) (r : Receipt) → whole_frame r.deed ≡ [] → whole_frames receipts ≡ [] → whole_frames (receipts ++ r ∷ []) ≡ []
no_whole_more receipts r bare none = whole_frames_append receipts (r ∷ []) ∙ ap (λ l. l ++ (whole_frame r.deed ++ [])) none ∙ ap (λ l. l ++ []) bare

pub cut_is_no_whole : (r : Receipt) → IsOfCut r → whole_frame r.deed ≡ []
cut_is_no_whole r is = ap whole_frame is.1

pub whole_is_no_cut : (r : Receipt) → IsOfWhole r → cut_frame r.deed ≡ []
whole_is_no_cut r is = ap cut_frame is.1

module _ {O : Type 0} (Given : O → List ℕ → O → Type 0) where
  -- what is sent for these receipts' frames and one more
  sent_more : (plan : List Deed) (receipts : List Receipt) (r : Receipt) (frame : List ℕ) (used : ℕ) (held : List (List ℕ)) (start links : List O)
      → cut_frame r.deed ≡ frame ∷ [] → IsUnderWay Given plan receipts used held start links
      → sent_from plan 0 [] (cut_frames (receipts ++ r ∷ [])) ≡ sent_from plan 0 [] (cut_frames receipts) ++ sent_for (deed_at plan used) held frame
  sent_more plan receipts r frame used held start links is w = let frames = cut_frames receipts in
      let place : 0 + length frames ≡ used = omega (arith, w.used_is) in
      ap (sent_from plan 0 []) (one_more receipts r frame is) ∙ sent_from_append plan 0 [] frames frame
      ∙ ap (λ n. sent_from plan 0 [] frames ++ sent_for (deed_at plan n) (held_from plan 0 [] frames) frame) place
      ∙ ap (λ h. sent_from plan 0 [] frames ++ sent_for (deed_at plan used) h frame) (sym w.held_is)

  -- ---- one receipt more

  pub at_start : (plan : List Deed) (start : List O) → IsUnderWay Given plan [] 0 [] start start
  at_start plan start = record { used_is = refl; held_is = refl; carried = each_given_none Given start; no_whole = refl }

  -- a receipt of a cut with nothing to cut
  pub no_frame : (plan : List Deed) (receipts : List Receipt) (r : Receipt) (used : ℕ) (held : List (List ℕ)) (start links : List O)
      → cut_frame r.deed ≡ [] → whole_frame r.deed ≡ [] → IsUnderWay Given plan receipts used held start links → IsUnderWay Given plan (receipts ++ r ∷ []) used held start links
  no_frame plan receipts r used held start links none bare w = let same = sym (no_more receipts r none) in record {
    used_is = w.used_is ∙ ap length same;
    held_is = w.held_is ∙ ap (held_from plan 0 []) same;
    carried = subst (λ l. EachLink (OutletRun Given (sent_from plan 0 [] l)) start links) same w.carried;
    no_whole = no_whole_more receipts r bare w.no_whole;
  }

  -- a receipt of a cut with a frame, which was sent as the plan says
  pub one_frame : (plan : List Deed) (receipts : List Receipt) (r : Receipt) (frame : List ℕ) (used : ℕ) (held : List (List ℕ)) (start links news : List O)
      → cut_frame r.deed ≡ frame ∷ [] → whole_frame r.deed ≡ [] → IsUnderWay Given plan receipts used held start links
      → EachLink (OutletRun Given (sent_for (deed_at plan used) held frame)) links news
      → IsUnderWay Given plan (receipts ++ r ∷ []) (used + 1) (held_after (deed_at plan used) held frame) start news
  one_frame plan receipts r frame used held start links news is bare w c = let frames = cut_frames receipts in
      let all = one_more receipts r frame is in
      let place : 0 + length frames ≡ used = omega (arith, w.used_is) in
      record {
        used_is = (let long = ap length all in omega (arith, long, w.used_is, length-append frames (frame ∷ [])));
        held_is = sym (ap (held_from plan 0 []) all ∙ held_from_append plan 0 [] frames frame
            ∙ ap (λ n. held_after (deed_at plan n) (held_from plan 0 [] frames) frame) place ∙ ap (λ h. held_after (deed_at plan used) h frame) (sym w.held_is));
        carried = subst (λ l. EachLink (OutletRun Given l) start news) (sym (sent_more plan receipts r frame used held start links is w))
            (each_given_more Given (sent_from plan 0 [] frames) (sent_for (deed_at plan used) held frame) start links news w.carried c);
        no_whole = no_whole_more receipts r bare w.no_whole;
      }

  -- ---- pumps that stop

  -- a front of a plan
  front : (plan : List Deed) (receipts : List Receipt) (start news : List O) → EachLink (OutletBegins Given (sent_from plan 0 [] (cut_frames receipts))) start news → IsFrontOf Given plan receipts start news
  front plan receipts start news s = let sent = sent_from plan 0 [] (cut_frames receipts) in let held = held_from plan 0 [] (cut_frames receipts) in
      each_begun_longer Given (sent ++ held) (whole_frames receipts) start news (each_begun_longer Given sent held start news s)

  -- a pump that stops with these receipts
  pub stopped : (plan : List Deed) (receipts : List Receipt) (used : ℕ) (held : List (List ℕ)) (start links : List O)
      → IsUnderWay Given plan receipts used held start links → IsFrontOf Given plan receipts start links
  stopped plan receipts used held start links w = front plan receipts start links (each_all_begun Given (sent_from plan 0 [] (cut_frames receipts)) start links w.carried)

  -- a pump that stops in the middle of a frame
  pub broken : (plan : List Deed) (receipts : List Receipt) (r : Receipt) (frame : List ℕ) (used : ℕ) (held : List (List ℕ)) (start links news : List O)
      → cut_frame r.deed ≡ frame ∷ [] → whole_frame r.deed ≡ [] → IsUnderWay Given plan receipts used held start links
      → EachLink (OutletBegins Given (sent_for (deed_at plan used) held frame)) links news
      → IsFrontOf Given plan (receipts ++ r ∷ []) start news
  broken plan receipts r frame used held start links news is bare w c = front plan (receipts ++ r ∷ []) start news
      (subst (λ l. EachLink (OutletBegins Given l) start news) (sym (sent_more plan receipts r frame used held start links is w))
      (each_given_begun Given (sent_from plan 0 [] (cut_frames receipts)) (sent_for (deed_at plan used) held frame) start links news w.carried c))

  -- the plan of these receipts' frames, and one of all
  planned_whole : (plan : List Deed) (receipts : List Receipt) (r : Receipt) (used : ℕ) (held : List (List ℕ)) (start links : List O)
      → cut_frame r.deed ≡ [] → IsUnderWay Given plan receipts used held start links
      → planned plan (cut_frames (receipts ++ r ∷ [])) (whole_frames (receipts ++ r ∷ [])) ≡ (sent_from plan 0 [] (cut_frames receipts) ++ held) ++ whole_frame r.deed
  planned_whole plan receipts r used held start links bare w = let wholes : whole_frames (receipts ++ r ∷ []) ≡ whole_frame r.deed =
      whole_frames_append receipts (r ∷ []) ∙ ap (λ l. l ++ (whole_frame r.deed ++ [])) w.no_whole ∙ append-nil (whole_frame r.deed) in
      ap (λ l. planned plan l (whole_frames (receipts ++ r ∷ []))) (no_more receipts r bare)
      ∙ ap (λ h. (sent_from plan 0 [] (cut_frames receipts) ++ h) ++ whole_frames (receipts ++ r ∷ [])) (sym w.held_is)
      ∙ ap (λ l. (sent_from plan 0 [] (cut_frames receipts) ++ held) ++ l) wholes

  -- held frames and a part of a whole, or nothing of it
  pub broken_at_end : (plan : List Deed) (receipts : List Receipt) (r : Receipt) (used : ℕ) (held : List (List ℕ)) (start links mids news : List O)
      → IsOfWhole r → IsUnderWay Given plan receipts used held start links
      → EachLink (OutletRun Given held) links mids → EachLink (OutletBegins Given (whole_frame r.deed)) mids news → IsFrontOf Given plan (receipts ++ r ∷ []) start news
  broken_at_end plan receipts r used held start links mids news is w c d = let sent = sent_from plan 0 [] (cut_frames receipts) in
      subst (λ l. EachLink (OutletBegins Given l) start news) (sym (planned_whole plan receipts r used held start links (whole_is_no_cut r is) w))
      (each_given_begun Given (sent ++ held) (whole_frame r.deed) start mids news (each_given_more Given sent held start links mids w.carried c) d)

  -- held frames alone, or a part of them
  pub broken_at_held : (plan : List Deed) (receipts : List Receipt) (used : ℕ) (held : List (List ℕ)) (start links mids : List O)
      → IsUnderWay Given plan receipts used held start links → EachLink (OutletBegins Given held) links mids → IsFrontOf Given plan receipts start mids
  broken_at_held plan receipts used held start links mids w c = let sent = sent_from plan 0 [] (cut_frames receipts) in
      each_begun_longer Given (sent ++ held_from plan 0 [] (cut_frames receipts)) (whole_frames receipts) start mids
      (subst (λ h. EachLink (OutletBegins Given (sent ++ h)) start mids) w.held_is (each_given_begun Given sent held start links mids w.carried c))

  -- held frames and no whole
  pub refused_at_end : (plan : List Deed) (receipts all : List Receipt) (used : ℕ) (held : List (List ℕ)) (start links mids : List O)
      → all ≡ receipts → IsUnderWay Given plan receipts used held start links → EachLink (OutletRun Given held) links mids → EachLink (OutletRun Given (planned plan (cut_frames all) [])) start mids
  refused_at_end plan receipts all used held start links mids same w c = let sent = sent_from plan 0 [] (cut_frames receipts) in
      subst (λ l. EachLink (OutletRun Given (planned plan (cut_frames l) [])) start mids) (sym same)
      (subst (λ l. EachLink (OutletRun Given l) start mids) (ap (λ h. sent ++ h) w.held_is ∙ sym (append-nil (sent ++ held_from plan 0 [] (cut_frames receipts))))
      (each_given_more Given sent held start links mids w.carried c))

  -- held frames and all of a whole
  pub ended : (plan : List Deed) (receipts : List Receipt) (r : Receipt) (used : ℕ) (held : List (List ℕ)) (start links mids news : List O)
      → IsOfWhole r → IsUnderWay Given plan receipts used held start links
      → EachLink (OutletRun Given held) links mids → EachLink (OutletRun Given (whole_frame r.deed)) mids news → EachLink (OutletRun Given (planned plan (cut_frames (receipts ++ r ∷ [])) (whole_frames (receipts ++ r ∷ [])))) start news
  ended plan receipts r used held start links mids news is w c d = let sent = sent_from plan 0 [] (cut_frames receipts) in
      subst (λ l. EachLink (OutletRun Given l) start news) (sym (planned_whole plan receipts r used held start links (whole_is_no_cut r is) w))
      (each_given_more Given (sent ++ held) (whole_frame r.deed) start mids news (each_given_more Given sent held start links mids w.carried c) d)

  -- ---- the same, with what calls gave

  pub one_burst : (plan : List Deed) (receipts : List Receipt) (r : Receipt) (frame : List ℕ) (used : ℕ) (held held' items : List (List ℕ)) (deed : Deed) (start links news : List O)
      → IsOfCut r → cut_frame r.deed ≡ frame ∷ [] → deed ≡ deed_at plan used → items ≡ sent_for deed held frame → held' ≡ held_after deed held frame
      → IsUnderWay Given plan receipts used held start links → EachLink (OutletRun Given items) links news → IsUnderWay Given plan (receipts ++ r ∷ []) (used + 1) held' start news
  one_burst plan receipts r frame used held held' items deed start links news cut is deed_is items_are held_are w c =
      subst (λ h. IsUnderWay Given plan (receipts ++ r ∷ []) (used + 1) h start news) (sym (held_are ∙ ap (λ d. held_after d held frame) deed_is))
      (one_frame plan receipts r frame used held start links news is (cut_is_no_whole r cut) w
      (subst (λ l. EachLink (OutletRun Given l) links news) (items_are ∙ ap (λ d. sent_for d held frame) deed_is) c))

  pub broken_burst : (plan : List Deed) (receipts : List Receipt) (r : Receipt) (frame : List ℕ) (used : ℕ) (held items : List (List ℕ)) (deed : Deed) (start links news : List O)
      → IsOfCut r → cut_frame r.deed ≡ frame ∷ [] → deed ≡ deed_at plan used → items ≡ sent_for deed held frame
      → IsUnderWay Given plan receipts used held start links → EachLink (OutletBegins Given items) links news → IsFrontOf Given plan (receipts ++ r ∷ []) start news
  broken_burst plan receipts r frame used held items deed start links news cut is deed_is items_are w c =
      broken plan receipts r frame used held start links news is (cut_is_no_whole r cut) w (subst (λ l. EachLink (OutletBegins Given l) links news) (items_are ∙ ap (λ d. sent_for d held frame) deed_is) c)

  pub no_burst : (plan : List Deed) (receipts : List Receipt) (r : Receipt) (frame : List ℕ) (used : ℕ) (held : List (List ℕ)) (start links : List O)
      → IsOfCut r → cut_frame r.deed ≡ frame ∷ [] → IsUnderWay Given plan receipts used held start links → IsFrontOf Given plan (receipts ++ r ∷ []) start links
  no_burst plan receipts r frame used held start links cut is w =
      broken plan receipts r frame used held start links links is (cut_is_no_whole r cut) w
      (each_begun_longer Given [] (sent_for (deed_at plan used) held frame) links links (each_all_begun Given [] links links (each_given_none Given links)))

  pub at_start_of : (plan : List Deed) (receipts : List Receipt) (used : ℕ) (held : List (List ℕ)) (start : List O) → receipts ≡ [] → used ≡ 0 → held ≡ [] → IsUnderWay Given plan receipts used held start start
  at_start_of plan receipts used held start r u h = subst (λ x. IsUnderWay Given plan x used held start start) (sym r) (subst (λ x. IsUnderWay Given plan [] x held start start) (sym u) (subst (λ x. IsUnderWay Given plan [] 0 x start start) (sym h) (at_start plan start)))
